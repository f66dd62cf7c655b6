-- What the transactional calls give on a session, by whether it has stopped.
use Rattle.std.specs.Prelude.{ℕ, ◌≡◌, ◌≤◌, Bool, Option, Some, None, Result, Ok, Err, List, map}
use Rattle.amqp_txn_types.specs.declared.small.Accepted.{Accepted}
use Rattle.amqp_below_sessions.specs.declared.transacting.AllocTxnIdError.{AllocTxnIdError}
use Rattle.amqp_below_layer.specs.declared.answers.Answers.{Answers}
use Rattle.amqp_below_sessions.specs.declared.transacting.CommitFault.{CommitFault}
use Rattle.amqp_below_ids.specs.Drawn.{DrawnIds}
use Rattle.amqp_txn_types.specs.declared.performatives.Frame.{Frame}
use Rattle.amqp_txn_types.specs.declared.items.NoMemory.{NoMemory}
use Rattle.amqp_resource_record.specs.declared.stop.StopCode.{StopCode}
use Rattle.amqp_below_layer.specs.Told.{Told}
use Rattle.amqp_txn_types.specs.declared.small.TransactionError.{TransactionError}
use Rattle.amqp_txn_types.specs.declared.id.TransactionId.{TransactionId}
use Rattle.amqp_resource_session.specs.declared.session.TxnSession.{TxnSession}
use Rattle.amqp_below_layer.specs.declared.verdict.Verdict.{Verdict}
use Rattle.amqp_resource_record.specs.Stops.{fault_code}
use Rattle.amqp_txn_types.specs.Counts.{one_more}
use Rattle.amqp_txn_types.specs.Frames.{stripped}
use Rattle.amqp_txn_types.specs.declared.small.TransactionError.TheVariants as transaction_errors
use Rattle.amqp_below_layer.specs.declared.verdict.Verdict.TheVariants as verdicts
use Rattle.amqp_below_sessions.specs.declared.transacting.AllocTxnIdError.TheVariants as allocations
use Rattle.amqp_below_sessions.specs.declared.transacting.CommitFault.TheVariants as commit_faults
use Rattle.amqp_resource_session.specs.Session.{FitsTogether, SameSession, below_of, frame_count_of, held_of, owed_of, refusals_of, stop_of, told_of, view_of}
use Rattle.amqp_resource_session.specs.Committing.{HandsSurely, OnNoEchoes, OnVetoed}
use Rattle.amqp_txn_types.specs.Counts.{counted}
use Rattle.amqp_resource_session.specs.Transacting.{AllocatedIn, CommittedIn, RolledBackIn}
use Rattle.amqp_resource_held.specs.Views.{frames_in}

-- one fact where the session had stopped, another where it runs
abbrev pub by_stop : Option StopCode → Type 0 → Type 0 → Type 0
by_stop (Some code) WhereStopped WhereRunning = WhereStopped
by_stop None WhereStopped WhereRunning = WhereRunning

-- the layer below is as it was, and the session goes on
pub record GoesOn {S : Type 0} (old new : TxnSession S) : Type 0 where
  pub below : below_of new ≡ below_of old
  pub stop : stop_of new ≡ None

-- an allocation; what the session keeps goes on to fit together, and an Err is counted
abbrev pub AllocationGives : {S : Type 0} → TxnSession S → TxnSession S
    → Result DrawnIds AllocTxnIdError → Type 0
AllocationGives old new result =
    (FitsTogether old → FitsTogether new)
    × by_stop (stop_of old)
    ((result ≡ Err allocations.NotImplemented) × SameSession old new)
    (AllocatedIn (held_of old) (held_of new) result × GoesOn old new)
    × (refusals_of new ≡ counted result (refusals_of old))

-- out of memory below stops the session
abbrev pub StopAfterCommit : Result (Result (List Answers) TransactionError) CommitFault
    → Option StopCode → Type 0
StopAfterCommit (Err (commit_faults.Refused error handed)) stop = stop ≡ Some (fault_code error)
StopAfterCommit _ stop = stop ≡ None

-- the count after a commit: every answer but echoes is counted
abbrev pub counted_commit : Result (Result (List Answers) TransactionError) CommitFault → ℕ → ℕ
counted_commit (Ok answer) count = counted answer count
counted_commit (Err fault) count = one_more count

-- what a commit calls below that was vetoed, or has no frames: a veto leaves what the review of its
-- frames left, and a commit without echoes, as one of no frames, calls nothing
pub record CommitCalls {S : Type 0}
    (reviews : S → S → List Frame → Result Verdict NoMemory → Type 0) (old_below new_below : S)
    (frames : List Frame) (result : Result (Result (List Answers) TransactionError) CommitFault)
    : Type 0 where
  pub vetoed : OnVetoed result
      (reviews old_below new_below (map stripped frames) (Ok verdicts.Veto))
  pub idle : OnNoEchoes result (new_below ≡ old_below)

-- a commit; what the session keeps goes on to fit together, no more looks are owed than frames are
-- kept, and every answer but echoes is counted
abbrev pub CommitGives : {S : Type 0} → (S → Told) → Bool
    → (S → S → List Frame → Result Verdict NoMemory → Type 0) → TxnSession S → TxnSession S
    → TransactionId → Result (Result (List Answers) TransactionError) CommitFault → Type 0
CommitGives told sure reviews old new id result =
    (FitsTogether old → FitsTogether new)
    × by_stop (stop_of old)
    ((result ≡ Ok (Err transaction_errors.UnknownId)) × SameSession old new)
    (CommittedIn (held_of old) (held_of new) (told_of told old) (told_of told new) id
    (below_of new ≡ below_of old) result × HandsSurely sure result
    × StopAfterCommit result (stop_of new) × (owed_of new ≤ frame_count_of new)
    × CommitCalls reviews (below_of old) (below_of new) (frames_in (view_of old) id) result)
    × (refusals_of new ≡ counted_commit result (refusals_of old))

-- a rollback; what the session keeps goes on to fit together, no more looks are owed than frames
-- are kept, and an Err is counted
abbrev pub RollbackGives : {S : Type 0} → TxnSession S → TxnSession S → TransactionId
    → Result Accepted TransactionError → Type 0
RollbackGives old new id result =
    (FitsTogether old → FitsTogether new)
    × by_stop (stop_of old)
    ((result ≡ Err transaction_errors.UnknownId) × SameSession old new)
    (RolledBackIn (held_of old) (held_of new) id result × GoesOn old new
    × (owed_of new ≤ frame_count_of new))
    × (refusals_of new ≡ counted result (refusals_of old))
