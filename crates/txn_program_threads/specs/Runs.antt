-- What a run of workers leaves.
use Rattle.std.specs.Prelude.{ℕ, ◌≡◌, ◌<◌, ◌+◌, ◌-◌, ◌*◌, ◌/◌, ◌⊎◌, Bool, true, false, Option, None, List, length}
use Rattle.amqp_txn_types.specs.declared.performatives.Frame.{Frame}
use Rattle.amqp_below_ids.specs.Counted.{ids_from}
use Rattle.amqp_below_ids.specs.Ids.{AreNext}
use Rattle.amqp_below_layer.specs.Told.{Told}
use Rattle.amqp_below_recorder.specs.declared.recorder.Recorder.{Recorder}
use Rattle.amqp_resource_record.specs.Entries.{drawn_of}
use Rattle.amqp_resource_record.specs.Legal.{IsLegal}
use Rattle.amqp_resource_record.specs.Work.{work}
use Rattle.amqp_resource_record.specs.declared.entry.Entry.{Entry}
use Rattle.amqp_resource_session.specs.Session.{below_of, stop_of}
use Rattle.amqp_resource_session.specs.declared.session.TxnSession.{TxnSession}
use Rattle.amqp_resource_shared.specs.Close.{NotMissing}
use Rattle.amqp_resource_shared.specs.Kept.{TakenOf}
use Rattle.amqp_resource_shared.specs.Receipts.{is_recorded}
use Rattle.amqp_resource_shared.specs.declared.close.CloseWhy.{CloseWhy}
use Rattle.amqp_resource_shared.specs.declared.receipt.StoppedAt.{StoppedAt}
use Rattle.txn_program_runs.specs.Made.{ends_count}
use Rattle.txn_program_runs.specs.Running.{taken_of}
use Rattle.txn_program_threads.specs.Histories.{AreOfWorkers, RefusedBy, StopsAt}
use Rattle.txn_program_threads.specs.Statuses.{refused_count, threads_status}
use Rattle.txn_program_threads.specs.declared.threads_ran.ThreadsRan.{ThreadsRan}
use Rattle.txn_program_threads.specs.Tallies.{IsTallyOf, tally_of}

-- memory ran out: nothing is counted or compared
pub record RanOut {S : Type 0} (ran : ThreadsRan S) : Type 0 where
  pub status : ran.status ≡ 6
  pub why : ran.why ≡ None
  pub entries : ran.entries ≡ 0
  pub commits : ran.commits ≡ 0
  pub rollbacks : ran.rollbacks ≡ 0
  pub taken : ran.taken ≡ 0
  pub refused : ran.refused ≡ 0

-- the numbers and the status are those of the history, over a layer that took these frames
pub record Counts {S : Type 0} (frames : List (Frame × List Frame)) (ran : ThreadsRan S)
    : Type 0 where
  pub entries : ran.entries ≡ length ran.history
  pub commits : ran.commits ≡ ends_count false ran.history
  pub rollbacks : ran.rollbacks ≡ ends_count true ran.history
  pub taken : ran.taken ≡ length frames
  pub refused : ran.refused ≡ refused_count ran.history
  pub status : ran.status ≡ threads_status ran.stop ran.why ran.refused ran.history

-- all is made that so many workers make in so many rounds each
pub record IsWhole {S : Type 0} (workers rounds : ℕ) (ran : ThreadsRan S) : Type 0 where
  pub entries : ran.entries ≡ workers * (1 + 4 * rounds)
  pub commits : ran.commits ≡ workers * (rounds - rounds / 3)
  pub rollbacks : ran.rollbacks ≡ workers * (rounds / 3)
  pub history : IsTallyOf workers rounds (tally_of is_recorded ran.history)
  pub taken : ran.taken ≡ length (work ran.history)

-- a run that was counted: with status 0 all is made, and where the receipts of the workers are the
-- history each of its steps is a worker's, and a refusal in it has a cause
pub record IsCounted {S : Type 0} (told : Told) (count rounds : ℕ) (ran : ThreadsRan S)
    : Type 0 where
  pub counts : Counts (taken_of told) ran
  pub whole : ran.status ≡ 0 → IsWhole count rounds ran
  pub workers : ran.why ≡ None → AreOfWorkers count rounds ran.history
  pub refused : ran.why ≡ None → 0 < ran.refused → RefusedBy told.refusals ran.history
  -- the receipts are as many as the entries
  pub counted : NotMissing ran.why

-- a run of so many workers, of so many rounds each, over a layer that then tells that: the history
-- is a legal record with the ids of the numbers from 1, of which the layer below has taken exactly
-- the work and, only after a stop, the first frames of the step that stopped
pub record RunsThreads {S : Type 0} (told : Recorder S → Told) (workers rounds : ℕ)
    (ran : ThreadsRan S) : Type 0 where
  pub legal : IsLegal ran.history
  pub drew : AreNext (ids_from 1) 0 (drawn_of ran.history)
  pub took : TakenOf ran.history ran.stopped (taken_of (told ran.below))
  pub stop : StopsAt (told ran.below).refusals ran.history ran.stop ran.stopped
  pub numbers : RanOut ran ⊎ IsCounted (told ran.below) workers rounds ran

-- ---- steps on the way

-- history, stop and layer below are those of the session that was closed
pub record Leaves {S : Type 0} (session : TxnSession (Recorder S)) (entries : List Entry)
    (at : Option StoppedAt) (ran : ThreadsRan S) : Type 0 where
  pub history : ran.history ≡ entries
  pub stopped : ran.stopped ≡ at
  pub stop : ran.stop ≡ stop_of session
  pub below : ran.below ≡ below_of session

-- the numbers are those of the history, by that answer of `close`; with status 0 all workers are
-- done
pub record EndsCounted {S : Type 0} (told : Told) (cause : Option CloseWhy) (all_done : Bool)
    (ran : ThreadsRan S) : Type 0 where
  pub counts : Counts (taken_of told) ran
  pub why : ran.why ≡ cause
  pub done : ran.status ≡ 0 → all_done ≡ true
