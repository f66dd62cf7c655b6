-- What one step under the lock answers and leaves.
use Rattle.std.specs.Prelude.{ℕ, ◌≡◌, ◌≤◌, ◌+◌, ◌⊎◌, ⊤, Bool, Option, Some, None, Result, Ok, Err, List, [], ◌∷◌, ◌++◌, length, IfOk, IfErr, MatchBool}
use Rattle.amqp_txn_types.specs.Counts.{Rose}
use Rattle.amqp_txn_types.specs.declared.delivery.SessionStopReason.{SessionStopReason}
use Rattle.amqp_txn_types.specs.declared.small.TransactionError.TheVariants as transaction_errors
use Rattle.amqp_below_layer.specs.Told.{Told}
use Rattle.amqp_below_layer.specs.declared.inner_error.SessionInnerError.TheVariants as faults
use Rattle.amqp_resource_record.specs.declared.entry.Entry.{Entry}
use Rattle.amqp_resource_record.specs.declared.step.Step.{Step}
use Rattle.amqp_resource_record.specs.declared.stop.StepError.{StepError}
use Rattle.amqp_resource_record.specs.declared.stop.StepError.TheVariants as errors
use Rattle.amqp_resource_record.specs.declared.stop.StopCode.{StopCode}
use Rattle.amqp_resource_record.specs.Answers.{Answer}
use Rattle.amqp_resource_record.specs.Hands.{hands}
use Rattle.amqp_resource_record.specs.Stops.{ended_code, fault_code}
use Rattle.amqp_resource_held.specs.Views.{view_of_record}
use Rattle.amqp_resource_session.specs.Steps.{IsControlAttach, MayFault, OpenedBy, RefusedBy, StopsSurely, TookHands, UnderDead, VetoedBy, ended_by, is_unknown}
use Rattle.amqp_resource_shared.specs.declared.receipt.Receipt.{Receipt}
use Rattle.amqp_resource_shared.specs.declared.receipt.StoppedAt.{StoppedAt}
use Rattle.amqp_resource_shared.specs.declared.reply_code.ReplyCode.{ReplyCode}
use Rattle.amqp_resource_shared.specs.declared.reply_code.ReplyCode.TheVariants as codes
use Rattle.amqp_resource_shared.specs.Receipts.{IsOf, code_told, number_of}

-- the step was answered by the record, its entry was appended, and the receipt is of that
pub record IsAppended (old new : List Entry) (asked : Step) (receipt : Receipt) (entry : Entry)
    : Type 0 where
  pub entries : new ≡ old ++ entry ∷ []
  pub step : entry.step ≡ asked
  pub answer : Answer old asked entry.drawn.ids entry.reply
  pub number : number_of receipt ≡ length old
  pub of : IsOf entry receipt

-- there is such an entry
abbrev pub Appended : List Entry → List Entry → Step → Receipt → Type 0
Appended old new step receipt = (entry : Entry) × IsAppended old new step receipt entry

-- what the layer below did at the step of that entry is what its reply says: it took the frames
-- that the step hands, each with what was given back, and opened, refused and vetoed so (4.4)
pub record DidBelow (old new : List Entry) (old_told new_told : Told) (entry : Entry) : Type 0 where
  pub entries : new ≡ old ++ entry ∷ []
  pub taken : TookHands old_told new_told old entry.step entry.reply
  pub opened : OpenedBy old_told new_told entry.step entry.reply
  pub refused : RefusedBy old_told new_told entry.step entry.reply
  pub vetoed : VetoedBy old_told new_told old entry.step entry.reply

-- there is such an entry
abbrev pub DidSo : List Entry → List Entry → Told → Told → Type 0
DidSo old new old_told new_told = (entry : Entry) × DidBelow old new old_told new_told entry

-- an error that stops the session has its step kept, with how many of its frames were handed
abbrev pub stopped_by : Option StoppedAt → Step → StepError → Option StoppedAt
stopped_by old step (errors.Fault error handed) = Some (record { step = step; handed = handed })
stopped_by old step (errors.Ended reason) = Some (record { step = step; handed = 0 })
stopped_by old step (errors.Stopped code) = old
stopped_by old step errors.NoMemory = old

-- the step at which the session stopped, after an answer
abbrev pub stopped_after : {T : Type 0} → Option StoppedAt → Step → Result T StepError
    → Option StoppedAt
stopped_after old step (Ok value) = old
stopped_after old step (Err error) = stopped_by old step error

-- the code of an error that stops the session
abbrev pub stop_by : StepError → Option StopCode
stop_by (errors.Fault error handed) = Some (fault_code error)
stop_by (errors.Ended reason) = Some (ended_code reason)
stop_by (errors.Stopped code) = Some code
stop_by errors.NoMemory = None

-- the session's stop code after an answer
abbrev pub stop_after : {T : Type 0} → Result T StepError → Option StopCode
stop_after (Ok value) = None
stop_after (Err error) = stop_by error

-- the cause of each error on a session that runs, over a layer that is sure or not: an unknown id
-- comes of a frame under an id that isn't live, any other fault of a refusal below of a step that
-- makes a call there, of which the first frames may have been taken, but none of a commit over a
-- sure layer; an end of the step's own value; and where memory ran out the layer below is as it was
abbrev pub CauseOf : Bool → List Entry → Told → Told → Step → StepError → Type 0
CauseOf sure entries old_told new_told step (errors.Fault error handed) =
    MatchBool (is_unknown error)
    (UnderDead (view_of_record entries) step × (handed ≡ 0))
    (MayFault (view_of_record entries) step (hands entries step) error
    × Rose old_told.refusals new_told.refusals × StopsSurely sure step handed
    × (handed ≤ length (hands entries step)))
CauseOf sure entries old_told new_told step (errors.Ended reason) = ended_by step ≡ Some reason
CauseOf sure entries old_told new_told step (errors.Stopped code) = ⊥
CauseOf sure entries old_told new_told step errors.NoMemory = new_told ≡ old_told

-- the answer is this error, or memory ran out
abbrev pub AnswersOr : StepError → Result Receipt StepError → Type 0
AnswersOr error result = (result ≡ Err error) ⊎ (result ≡ Err errors.NoMemory)

-- a refused attach, with a fact
abbrev pub IfRefusedAttach : ReplyCode → Type 0 → Type 0
IfRefusedAttach (codes.AttachRefused code) P = P
IfRefusedAttach _ P = ⊤

-- a veto, with a fact
abbrev pub IfVetoTold : ReplyCode → Type 0 → Type 0
IfVetoTold (codes.Rejected transaction_errors.Rollback) P = P
IfVetoTold _ P = ⊤

-- when each answer comes on a session that runs, by the entries before it and what the layer below
-- tells; and the code of the stop that is kept
pub record Causes (sure : Bool) (entries : List Entry) (old_told new_told : Told)
    (new_stop : Option StopCode) (step : Step) (result : Result Receipt StepError)
    : Type 0 where
  pub error : IfErr result (CauseOf sure entries old_told new_told step)
  -- A frame under an id that isn't live, and an end, are answered so, or memory runs out.
  pub dead : UnderDead (view_of_record entries) step
      → AnswersOr (errors.Fault faults.UnknownTxnId 0) result
  pub ended : (reason : SessionStopReason) → ended_by step ≡ Some reason
      → AnswersOr (errors.Ended reason) result
  -- A refused attach is that of a control link, and the layer below counted a refusal.
  pub attach_refused : IfOk result (λ receipt. IfRefusedAttach (code_told receipt)
      (Rose old_told.refusals new_told.refusals × IsControlAttach step))
  pub later : old_told.refusals ≤ new_told.refusals
  -- A commit that is rolled back instead was vetoed, and the layer below counted that.
  pub vetoed : IfOk result (λ receipt. IfVetoTold (code_told receipt)
      (Rose old_told.reviews.vetoes new_told.reviews.vetoes))
  pub counted : old_told.reviews.vetoes ≤ new_told.reviews.vetoes
  pub stop : new_stop ≡ stop_after result

-- a receipt counts one step more
abbrev pub Counts : ℕ → ℕ → Result Receipt StepError → Type 0
Counts old new (Ok receipt) = new ≡ old + 1
Counts old new (Err error) = new ≡ old
