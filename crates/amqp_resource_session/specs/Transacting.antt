-- What the transactional calls of a session do. An id that such a call allocates is declared on no
-- link: no control message discharges it, and no end of a link aborts it.
use Rattle.std.specs.Prelude.{ℕ, ◌≡◌, true, false, map, Result, Ok, Err, List}
use Rattle.amqp_txn_types.specs.declared.small.Accepted.{Accepted}
use Rattle.amqp_below_sessions.specs.declared.transacting.AllocTxnIdError.{AllocTxnIdError}
use Rattle.amqp_below_layer.specs.declared.answers.Answers.{Answers}
use Rattle.amqp_below_sessions.specs.declared.transacting.CommitFault.{CommitFault}
use Rattle.amqp_below_ids.specs.Drawn.{DrawnIds}
use Rattle.amqp_txn_types.specs.declared.performatives.Frame.{Frame}
use Rattle.amqp_resource_held.specs.declared.held.Held.{Held}
use Rattle.amqp_resource_record.specs.declared.stop.StepError.{StepError}
use Rattle.amqp_below_layer.specs.Told.{Told}
use Rattle.amqp_txn_types.specs.declared.small.TransactionError.{TransactionError}
use Rattle.amqp_txn_types.specs.declared.id.TransactionId.{TransactionId}
use Rattle.amqp_resource_log.specs.Live.{frames_kept, kept}
use Rattle.amqp_txn_types.specs.Frames.{stripped}
use Rattle.amqp_txn_types.specs.declared.small.TransactionError.TheVariants as transaction_errors
use Rattle.amqp_below_sessions.specs.declared.transacting.AllocTxnIdError.TheVariants as allocations
use Rattle.amqp_below_sessions.specs.declared.transacting.CommitFault.TheVariants as commit_faults
use Rattle.amqp_resource_record.specs.declared.stop.StepError.TheVariants as errors
use Rattle.amqp_resource_held.specs.Changes.{Added, Ended}
use Rattle.amqp_resource_session.specs.Committing.{HandsAll}
use Rattle.amqp_resource_held.specs.Draws.{DrewLive, DrewUnused, is_kept}
use Rattle.amqp_resource_held.specs.Held.{SameHeld}

-- an allocation: the ids drawn were live but for the last, which now is; or all 16 of them were
-- live
abbrev pub AllocatedIn : Held → Held → Result DrawnIds AllocTxnIdError → Type 0
AllocatedIn old new (Ok drawn) =
    (id : TransactionId) × DrewUnused (kept old.work) drawn.ids id × Added old new id
AllocatedIn old new (Err (allocations.IdsRepeat drawn)) =
    DrewLive (kept old.work) drawn.ids × SameHeld old new
AllocatedIn old new (Err allocations.NotImplemented) = ⊥
AllocatedIn old new (Err allocations.NoMemory) = SameHeld old new

-- a commit of a live id with these frames, by its answer: the id ended, and its frames were handed,
-- each stripped, all of them or the first, or were vetoed; or memory lacked, and nothing changed
abbrev pub CommittedWith : Held → Held → Told → Told → TransactionId → List Frame → Type 0
    → Result (Result (List Answers) TransactionError) CommitFault → Type 0
CommittedWith old new old_told new_told id kept Untouched (Err commit_faults.NoMemory) =
    SameHeld old new × Untouched
CommittedWith old new old_told new_told id kept Untouched answer =
    Ended old new id × HandsAll old_told new_told (map stripped kept) answer

-- the fault of a commit as that of a step
abbrev pub step_error_of : CommitFault → StepError
step_error_of commit_faults.NoMemory = errors.NoMemory
step_error_of (commit_faults.Refused error handed) = errors.Fault error handed

-- a commit ended so many frames, and none where memory ran out before it asked the layer below
abbrev pub unless_starved : {T : Type 0} → Result T CommitFault → ℕ → ℕ
unless_starved (Err commit_faults.NoMemory) count = 0
unless_starved _ count = count

-- a commit, by its answer: UnknownId where the id isn't live, else that of its frames
abbrev pub CommittedIn : Held → Held → Told → Told → TransactionId → Type 0
    → Result (Result (List Answers) TransactionError) CommitFault → Type 0
CommittedIn old new old_told new_told id Untouched (Ok (Err transaction_errors.UnknownId)) =
    (is_kept old.work id ≡ false) × SameHeld old new × Untouched
CommittedIn old new old_told new_told id Untouched answer =
    (is_kept old.work id ≡ true)
    × CommittedWith old new old_told new_told id (frames_kept (kept old.work id)) Untouched answer

-- a rollback: a live id ended
abbrev pub RolledBackIn : Held → Held → TransactionId → Result Accepted TransactionError → Type 0
RolledBackIn old new id (Ok accepted) = (is_kept old.work id ≡ true) × Ended old new id
RolledBackIn old new id (Err error) =
    (is_kept old.work id ≡ false) × (error ≡ transaction_errors.UnknownId) × SameHeld old new
