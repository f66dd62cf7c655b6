-- What a record says that the layer below opened, and what it refused while the session went on.
use Rattle.std.specs.Prelude.{ℕ, Bool, true, false, List, [], ◌∷◌}
use Rattle.std.specs.List.{flat_map, count_by}
use Rattle.amqp_below_layer.specs.Told.{refusal_of}
use Rattle.amqp_txn_types.specs.declared.performatives.Attach.{Attach}
use Rattle.amqp_txn_types.specs.declared.performatives.Frame.{Frame}
use Rattle.amqp_txn_types.specs.declared.performatives.Frame.TheVariants as frames
use Rattle.amqp_below_layer.specs.declared.inner_error.SessionInnerError.{SessionInnerError}
use Rattle.amqp_below_layer.specs.declared.refusal.Refusal.{Refusal}
use Rattle.amqp_resource_record.specs.declared.step.Step.{Step}
use Rattle.amqp_resource_record.specs.declared.step.Step.TheVariants as steps
use Rattle.amqp_resource_record.specs.declared.reply.Reply.{Reply}
use Rattle.amqp_resource_record.specs.declared.reply.Reply.TheVariants as replies
use Rattle.amqp_resource_record.specs.declared.entry.Entry.{Entry}

-- an attach with the frames given back for it
abbrev pub opened_with : Step → List Frame → List (Attach × List Frame)
opened_with (steps.Frame (frames.Attach attach)) given = (attach, given) ∷ []
opened_with _ given = []

-- an attached link adds its attach with the frames of the reply
abbrev pub opened_by : Step → Reply → List (Attach × List Frame)
opened_by step (replies.Attached link given) = opened_with step given
opened_by step _ = []

-- a frame with the error that it was refused with
abbrev pub refused_with : Step → SessionInnerError → List Refusal
refused_with (steps.Frame frame) error = refusal_of frame error
refused_with _ error = []

-- a refused attach adds itself with the error
abbrev pub refused_by : Step → Reply → List Refusal
refused_by step (replies.AttachRefused error) = refused_with step error
refused_by step _ = []

-- what the record opened, in order
abbrev pub opens : List Entry → List (Attach × List Frame)
opens entries = flat_map (λ e. opened_by e.step e.reply) entries

-- what was refused in the record, in order
abbrev pub refuses : List Entry → List Refusal
refuses entries = flat_map (λ e. refused_by e.step e.reply) entries

-- the reply is a refused attach
abbrev pub is_attach_refused : Reply → Bool
is_attach_refused (replies.AttachRefused error) = true
is_attach_refused _ = false

-- how many attaches were refused
abbrev pub attach_refused_count : List Entry → ℕ
attach_refused_count entries = count_by (λ (e : Entry). is_attach_refused e.reply) entries
