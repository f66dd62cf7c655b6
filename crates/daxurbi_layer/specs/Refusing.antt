-- What a layer lists as opened and refused: the first of each.
use Rattle.std.specs.Prelude.{cond, Option, Some, None, List, [], ◌∷◌}
use Rattle.amqp_txn_types.specs.declared.performatives.Attach.{Attach}
use Rattle.amqp_txn_types.specs.declared.performatives.Frame.{Frame}
use Rattle.amqp_txn_types.specs.declared.performatives.Frame.TheVariants as frames
use Rattle.amqp_below_layer.specs.Faults.{is_no_memory}
use Rattle.amqp_below_layer.specs.declared.inner_error.SessionInnerError.{SessionInnerError}
use Rattle.amqp_below_layer.specs.declared.inner_error.SessionInnerError.TheVariants as faults
use Rattle.amqp_below_layer.specs.declared.refusal.Refusal.{Refusal}
use Rattle.std.specs.declared.snapshot.Snapshot.{Snapshot}
use Rattle.daxurbi_layer.specs.declared.refused.Refused.{Refused}
use Rattle.daxurbi_layer.specs.declared.refused.Refused.TheVariants as calls

-- the slot after a refusal with this error
abbrev pub slot_after : Option Refused → Refused → SessionInnerError → Option Refused
slot_after (Some first) refused error = Some first
slot_after None refused error = cond (is_no_memory error) None (Some refused)

-- the error that a refusal with this error is answered with
abbrev pub error_listed : Option Refused → SessionInnerError → SessionInnerError
error_listed (Some first) error = faults.NoMemory
error_listed None error = error

-- the frame of a call that was refused
abbrev pub frame_refused : Refused → Frame
frame_refused (calls.Frame frame) = frame.value
frame_refused (calls.Attach attach) = frames.Attach attach.value

-- what was refused, with this error
abbrev pub refused_list : SessionInnerError → Option Refused → List Refusal
refused_list error None = []
refused_list error (Some refused) = record { frame = frame_refused refused; error = error } ∷ []

-- what was opened, with no frames given back
abbrev pub opened_list : Option (Snapshot Attach) → List (Attach × List Frame)
opened_list None = []
opened_list (Some attach) = (attach.value, []) ∷ []
