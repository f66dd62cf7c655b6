-- What a coordinator answers to a discharge. Part 4 of the standard (OASIS AMQP 1.0), sections 4.3
-- (discharging a transaction) and 4.5.3 (discharge).
use Rattle.std.specs.Prelude.{◌≡◌, Bool, true, false, Result, Ok, Err, List, []}
use Rattle.amqp_txn_types.specs.declared.id.TransactionId.{TransactionId}
use Rattle.amqp_txn_types.specs.declared.small.Accepted.{Accepted}
use Rattle.amqp_txn_types.specs.declared.small.TransactionError.{TransactionError}
use Rattle.amqp_txn_types.specs.declared.small.TransactionError.TheVariants as conditions
use Rattle.amqp_txn_codec.specs.declared.message.Discharge.{Discharge}
use Rattle.amqp_below_layer.specs.declared.answers.Answers.{Answers}
use Rattle.amqp_below_sessions.specs.declared.transacting.CommitFault.{CommitFault}
use Rattle.amqp_txn_types.specs.Counts.{Rose}
use Rattle.amqp_below_layer.specs.Told.{Checks, Steady, Told}
use Rattle.amqp_below_sessions.specs.Transacting.{CommitRefused}
use Rattle.amqp_txn_codec.specs.Discharges.{is_rollback}
use Rattle.amqp_resource_coordinator.specs.declared.errors.CoordinatorError.{CoordinatorError}
use Rattle.amqp_resource_coordinator.specs.declared.errors.CoordinatorError.TheVariants as errors
use Rattle.amqp_resource_coordinator.specs.declared.errors.DischargeError.{DischargeError}
use Rattle.amqp_resource_coordinator.specs.Errors.{error_of_discharge}

-- the session was asked to commit and answered that, with all that it says of such an answer
pub record Commit {H : Type 0}
    (commit_gives : H → H → TransactionId
    → Result (Result (List Answers) TransactionError) CommitFault → Type 0)
    (told : H → Told) (old new : H) (id : TransactionId)
    (answer : Result (Result (List Answers) TransactionError) CommitFault) : Type 0 where
  pub gives : commit_gives old new id answer
  pub steady : Steady (told old) (told new)
  pub cause : CommitRefused answer (Rose (told old).refusals (told new).refusals)

-- the session was asked to roll back and answered that, with all that it says of such an answer
pub record Rollback {H : Type 0}
    (rollback_gives : H → H → TransactionId → Result Accepted TransactionError → Type 0)
    (told : H → Told) (old new : H) (id : TransactionId)
    (answer : Result Accepted TransactionError) : Type 0 where
  pub gives : rollback_gives old new id answer
  pub checks : Checks (told old) (told new) answer

-- the session's answer to a commit as the coordinator's
abbrev pub committed_by : Result (Result (List Answers) TransactionError) CommitFault
    → Result (List Answers) CoordinatorError
committed_by (Ok (Ok echoes)) = Ok echoes
committed_by (Ok (Err error)) = Err (errors.TransactionError error)
committed_by (Err fault) = Err (errors.Fault fault)

-- the session's answer to a rollback as the coordinator's: it has no echoes
abbrev pub rolled_back_by : Result Accepted TransactionError
    → Result (List Answers) CoordinatorError
rolled_back_by (Ok accepted) = Ok []
rolled_back_by (Err error) = Err (errors.TransactionError error)

-- an answer with the error by the coordinator's name
abbrev pub discharged_by : Result (List Answers) DischargeError
    → Result (List Answers) CoordinatorError
discharged_by (Ok echoes) = Ok echoes
discharged_by (Err error) = Err (error_of_discharge error)

-- by whether it is a rollback: what the session answered to it, or to a commit
abbrev pub AnswersByKind : Bool → (Result (Result (List Answers) TransactionError) CommitFault
    → Type 0) → (Result Accepted TransactionError
    → Type 0) → Result (List Answers) CoordinatorError → Type 0
AnswersByKind true Commits RollsBack result =
    (answer : Result Accepted TransactionError) × RollsBack answer
    × (result ≡ rolled_back_by answer)
AnswersByKind false Commits RollsBack result =
    (answer : Result (Result (List Answers) TransactionError) CommitFault) × Commits answer
    × (result ≡ committed_by answer)

-- the answer to a discharge, by whether its id is held: UnknownId where it isn't, and the session
-- wasn't asked; else what the session answered
abbrev pub AnswersDischarge : Bool → Discharge
    → (Result (Result (List Answers) TransactionError) CommitFault → Type 0)
    → (Result Accepted TransactionError → Type 0) → Type 0 → Result (List Answers) CoordinatorError
    → Type 0
AnswersDischarge false discharge Commits RollsBack Unasked result =
    (result ≡ Err (errors.TransactionError conditions.UnknownId)) × Unasked
AnswersDischarge true discharge Commits RollsBack Unasked result =
    AnswersByKind (is_rollback discharge.fail) Commits RollsBack result
