-- What the owner of a transaction sees of it.
use Rattle.std.specs.Prelude.{ℕ, ◌≡◌, ◌≤◌, ◌↔◌, Bool, true, false, if◌then◌else◌, Result, Ok, Err}
use Rattle.amqp_txn_types.specs.declared.id.TransactionId.{TransactionId}
use Rattle.amqp_links.specs.declared.progress.Progress.{Progress}
use Rattle.amqp_links.specs.declared.progress.Progress.TheVariants as waits
use Rattle.amqp_controller_calls.specs.declared.abandon.Abandoned.{Abandoned}
use Rattle.amqp_controller_calls.specs.declared.abandon.Abandoned.TheVariants as ends
use Rattle.amqp_controller_transactions.specs.declared.begun.Begun.{Begun}

-- a transaction that was just declared: it isn't discharged, no rollback was read, and an abandon
-- looks 20 times
abbrev pub begun_as : TransactionId → Begun
begun_as txn_id = record {
  txn_id = txn_id;
  is_discharged = false;
  is_rolled_back = false;
  rollback_on_drop_trials = 20;
}

-- it was discharged
abbrev pub discharged : Begun → Begun
discharged begun = record begun { is_discharged = true }

-- a poll of its discharge found an error, which may say that it was rolled back; once that was
-- read it stays so (part 4, section 4.5.8)
abbrev pub read_by : Bool → Begun → Begun
read_by is_rollback begun = if is_rollback then record begun { is_rolled_back = true } else begun

-- with another number of looks
abbrev pub with_trials : Begun → ℕ → Begun
with_trials begun trials = record begun { rollback_on_drop_trials = trials }

-- the fact holds of a transaction that isn't discharged
abbrev pub IfUndischarged : Begun → Type 0 → Type 0
IfUndischarged begun P = begun.is_discharged ≡ false → P

-- the fact holds of a transaction whose rollback is put where it is given up
abbrev pub IfTried : Begun → Type 0 → Type 0
IfTried begun P = begun.is_discharged ≡ false → begun.is_rolled_back ≡ false
    → 1 ≤ begun.rollback_on_drop_trials → P

-- a discharge is refused only where there is something to send
abbrev pub AsksToDischarge : {W E : Type 0} → Begun → Begun → Result W E → Type 0
AsksToDischarge old new (Ok waiting) = new ≡ old
AsksToDischarge old new (Err error) = (new ≡ old) × (old.is_discharged ≡ false)

-- a poll of a discharge: an Ok marks the value as discharged; a wait that goes on, and an error,
-- come only where it wasn't discharged; a wait leaves it, and an error marks it as rolled back
-- exactly where it says so
abbrev pub PollsDischarge : {W E : Type 0} → (E → Bool) → Begun → Begun → W
    → Progress W (Result Unit E) → Type 0
PollsDischarge is_rollback old new waiting (waits.Pending wait) =
    (new ≡ old) × (old.is_discharged ≡ false) × (wait ≡ waiting)
PollsDischarge is_rollback old new waiting (waits.Ready (Ok done)) = new ≡ discharged old
PollsDischarge is_rollback old new waiting (waits.Ready (Err error)) =
    (new ≡ read_by (is_rollback error) old) × (old.is_discharged ≡ false)

-- what becomes of a transaction that is given up: the answer says exactly whether it was
-- discharged, or else was rolled back, or else has no trials
pub record GivesUp (begun : Begun) (end : Abandoned) : Type 0 where
  pub discharged : (end ≡ ends.Discharged) ↔ (begun.is_discharged ≡ true)
  pub rolled_back : (end ≡ ends.RolledBack)
      ↔ ((begun.is_discharged ≡ false) × (begun.is_rolled_back ≡ true))
  pub skipped : (end ≡ ends.Skipped)
      ↔ ((begun.is_discharged ≡ false) × (begun.is_rolled_back ≡ false)
      × (begun.rollback_on_drop_trials ≡ 0))

-- the fact holds of the error that a poll found
abbrev pub OnPolledErr : {W T E : Type 0} → Progress W (Result T E) → (E → Type 0) → Type 0
OnPolledErr (waits.Pending wait) P = Unit {0}
OnPolledErr (waits.Ready (Ok done)) P = Unit {0}
OnPolledErr (waits.Ready (Err error)) P = P error

-- a wait that goes on is the one that was polled
abbrev pub KeepsWait : {W R : Type 0} → W → Progress W R → Type 0
KeepsWait waiting (waits.Pending wait) = wait ≡ waiting
KeepsWait waiting (waits.Ready answer) = Unit {0}

-- a value after its discharge ended with an error: that of a `spend` comes once it was discharged,
-- and any other marks it as rolled back exactly where it says so
abbrev pub after_error : Bool → Bool → Begun → Begun
after_error of_spend is_rollback begun =
    if of_spend then discharged begun else read_by is_rollback begun

-- a poll of a value with its discharge: a wait that goes on keeps the value, and an error hands it
-- back; where it was discharged before, only an error of a `spend` comes
abbrev pub PollsToEnd : {T W E : Type 0} → (T → Begun) → (W → T) → (E → Bool)
    → (E → Bool) → Begun → Progress W (Result Unit (T × E)) → Type 0
PollsToEnd begun value_of of_spend is_rollback old (waits.Pending wait) =
    (begun (value_of wait) ≡ old) × (old.is_discharged ≡ false)
PollsToEnd begun value_of of_spend is_rollback old (waits.Ready (Ok done)) = Unit {0}
PollsToEnd begun value_of of_spend is_rollback old (waits.Ready (Err refused)) =
    (begun refused.0 ≡ after_error (of_spend refused.1) (is_rollback refused.1) old)
    × (of_spend refused.1 ≡ false → old.is_discharged ≡ false)
