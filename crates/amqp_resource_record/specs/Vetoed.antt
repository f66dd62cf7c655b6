-- What a record says that the layer below vetoed.
use Rattle.std.specs.Prelude.{ℕ, cond, List, [], ◌∷◌}
use Rattle.std.specs.List.{count_by}
use Rattle.amqp_txn_types.specs.declared.performatives.Frame.{Frame}
use Rattle.amqp_resource_record.specs.declared.step.Step.{Step}
use Rattle.amqp_resource_record.specs.declared.reply.Reply.{Reply}
use Rattle.amqp_resource_record.specs.declared.entry.Entry.{Entry}
use Rattle.amqp_resource_record.specs.Entries.{is_veto}
use Rattle.amqp_resource_record.specs.Hands.{hands}
use Rattle.amqp_resource_record.specs.Work.{joined_after}

-- a vetoed commit adds the frames that it would have handed
abbrev pub vetoed_by : List Entry → Step → Reply → List (List Frame)
vetoed_by entries step reply = cond (is_veto reply) (hands entries step ∷ []) []

-- what was vetoed in the record, in order
unfoldable pub vetoes : List Entry → List (List Frame)
vetoes entries = joined_after (λ before e. vetoed_by before e.step e.reply) [] entries

-- how many commits were vetoed
abbrev pub veto_count : List Entry → ℕ
veto_count entries = count_by (λ (e : Entry). is_veto e.reply) entries
