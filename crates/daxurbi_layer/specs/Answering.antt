-- What a layer below answers, by what it was told beforehand.
use Rattle.std.specs.Prelude.{ℕ, Bool, cond, Option, Some, None, Result, Ok, Err, List, [], ◌∷◌, length, slice_get}
use Rattle.std.specs.List.{sum_by}
use Rattle.amqp_txn_types.specs.declared.items.NoMemory.{NoMemory}
use Rattle.amqp_txn_types.specs.declared.delivery.ConnectionStopReason.TheVariants as stop_reasons
use Rattle.amqp_txn_types.specs.declared.performatives.Frame.{Frame}
use Rattle.amqp_below_layer.specs.declared.inner_error.SessionInnerError.{SessionInnerError}
use Rattle.amqp_below_layer.specs.declared.inner_error.SessionInnerError.TheVariants as faults
use Rattle.amqp_below_layer.specs.declared.verdict.Verdict.{Verdict}
use Rattle.amqp_below_layer.specs.declared.verdict.Verdict.TheVariants as verdicts
use Rattle.daxurbi_layer.specs.declared.below_answer.BelowAnswer.{BelowAnswer}
use Rattle.daxurbi_layer.specs.declared.below_answer.BelowAnswer.TheVariants as answers
use Rattle.daxurbi_layer.specs.declared.below_answer.NamedError.{NamedError}
use Rattle.daxurbi_layer.specs.declared.below_answer.NamedError.TheVariants as names

-- the error of a name
abbrev pub named : NamedError → SessionInnerError
named names.UnattachedHandle = faults.UnattachedHandle
named names.LinkNameNotFound = faults.RemoteAttachingLinkNameNotFound
named names.HandleInUse = faults.HandleInUse
named names.IllegalState = faults.IllegalState
named names.TransferToSender = faults.TransferFrameToSender
named names.ConnectionStopped = faults.ConnectionStopped stop_reasons.RemoteClosed
named names.RemoteEnded = faults.RemoteEnded
named names.NoMemory = faults.NoMemory

-- what a frame, an attach or a check is refused with: nothing where it was told to take
abbrev pub refusal_told : BelowAnswer → Option SessionInnerError
refusal_told answers.Take = None
refusal_told answers.Veto = Some faults.IllegalState
refusal_told (answers.Refuse error) = Some (named error)

-- what a refusal is as the answer to a review: a veto, but for out of memory
abbrev pub verdict_named : NamedError → Result Verdict NoMemory
verdict_named names.NoMemory = Err (record {})
verdict_named _ = Ok verdicts.Veto

-- what a review is answered, if memory allows
abbrev pub verdict_told : BelowAnswer → Result Verdict NoMemory
verdict_told answers.Take = Ok verdicts.Accept
verdict_told answers.Veto = Ok verdicts.Veto
verdict_told (answers.Refuse error) = verdict_named error

-- a count that is 0 where the layer was told to take
abbrev pub unless_take : BelowAnswer → ℕ → ℕ
unless_take answers.Take count = 0
unless_take _ count = count

-- what a layer may be told, in the order of its numbers from 0
abbrev pub answers_told : List BelowAnswer
answers_told =
    answers.Take ∷ answers.Veto ∷ answers.Refuse names.UnattachedHandle
    ∷ answers.Refuse names.LinkNameNotFound ∷ answers.Refuse names.HandleInUse
    ∷ answers.Refuse names.IllegalState ∷ answers.Refuse names.TransferToSender
    ∷ answers.Refuse names.ConnectionStopped ∷ answers.Refuse names.RemoteEnded
    ∷ answers.Refuse names.NoMemory ∷ []

-- what a layer is told by a number
abbrev pub answer_of : ℕ → Option BelowAnswer
answer_of number = slice_get answers_told number

-- the number of what it was told
abbrev pub number_named : NamedError → ℕ
number_named names.UnattachedHandle = 2
number_named names.LinkNameNotFound = 3
number_named names.HandleInUse = 4
number_named names.IllegalState = 5
number_named names.TransferToSender = 6
number_named names.ConnectionStopped = 7
number_named names.RemoteEnded = 8
number_named names.NoMemory = 9

abbrev pub number_told : BelowAnswer → ℕ
number_told answers.Take = 0
number_told answers.Veto = 1
number_told (answers.Refuse error) = number_named error

-- the error that it lists what it refused with: what was told; told to take, an illegal state
abbrev pub error_of : Option SessionInnerError → SessionInnerError
error_of None = faults.IllegalState
error_of (Some error) = error

-- told to take: how many refusals it doesn't list once it took something, and whether it lists one
-- before
abbrev pub unlisted : BelowAnswer → List (Frame × List Frame) → Bool → ℕ → ℕ
unlisted answers.Take [] listed refusals = cond listed 1 0
unlisted answers.Take (first ∷ rest) listed refusals = cond listed 0 refusals
unlisted _ taken listed refusals = 0

-- how many frames were given back for those that were taken
abbrev pub given_count : List (Frame × List Frame) → ℕ
given_count taken = sum_by (λ (pair : Frame × List Frame). length pair.1) taken
