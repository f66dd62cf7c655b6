-- How an acquisition ends.
use Rattle.std.specs.Prelude.{◌≡◌, ◌⊎◌, Bool, false, Result, Ok, Err}
use Rattle.std.specs.Borrow.{MutBor}
use Rattle.amqp_links.specs.declared.progress.Progress.{Progress}
use Rattle.amqp_links.specs.declared.progress.Progress.TheVariants as waits
use Rattle.amqp_links.specs.declared.errors.IllegalLinkStateError.{IllegalLinkStateError}
use Rattle.amqp_controller_transactions.specs.declared.begun.Begun.{Begun}
use Rattle.amqp_controller_transactions.specs.Begun.{IfUndischarged}
use Rattle.amqp_controller_acquisition.specs.declared.acquisition.TxnAcquisition.{TxnAcquisition}
use Rattle.amqp_controller_acquisition.specs.declared.discharge.AcquisitionDischarging.{AcquisitionDischarging}
use Rattle.amqp_controller_acquisition.specs.Acquisitions.{lent_to, recver_of, txn_of}

-- the acquisition whose discharge is awaited
abbrev pub acquisition_of : {Txn R E W : Type 0} → AcquisitionDischarging Txn R E W
    → TxnAcquisition Txn R
acquisition_of discharging = discharging.acquisition

-- the discharge that is awaited
abbrev pub waiting_of : {Txn R E W : Type 0} → AcquisitionDischarging Txn R E W → W
waiting_of discharging = discharging.waiting

-- what one cleanup answers and leaves of a receiver
abbrev pub CleansUpOn : Type 0 → Type 1
CleansUpOn R = R → R → Result Unit IllegalLinkStateError → Type 0

-- the receiver was cleaned up, whatever that answered and left of it
abbrev pub IsCleanedUp : {R : Type 0} → CleansUpOn R → R → Type 0
IsCleanedUp {R} cleans old = (final : R) × (answer : Result Unit IllegalLinkStateError)
    × cleans old final answer

-- the flow of the cleanup was refused, and so is the end
abbrev pub CleanupRefused : {R E : Type 0} → (IllegalLinkStateError → E → Type 0) → CleansUpOn R
    → R → R → E → Type 0
CleanupRefused from cleans old new error =
    (fault : IllegalLinkStateError) × cleans old new (Err fault) × from fault error

-- the discharge isn't put, for a reason of its own and not of a `spend`
pub record DischargeRefused {W E : Type 0} (discharges : Result W E → Type 0)
    (of_spend : E → Bool) (begun : Begun) (error : E) : Type 0 where
  pub undischarged : begun.is_discharged ≡ false
  pub answered : discharges (Err error)
  pub unspent : of_spend error ≡ false

-- the end of an acquisition is refused: by its receiver, or its discharge isn't put
abbrev pub EndRefused : {R W E : Type 0} → (Result W E → Type 0) → (E → Bool)
    → (IllegalLinkStateError → E → Type 0) → CleansUpOn R → R → R → Begun → E → Type 0
EndRefused discharges of_spend from cleans old new begun error =
    CleanupRefused from cleans old new error
    ⊎ (cleans old new (Ok tt) × DischargeRefused discharges of_spend begun error)

-- the acquisition keeps its receiver, and what its owner sees of its transaction
pub record Keeps {Txn R : Type 0} (begun : Txn → Begun)
    (old new : TxnAcquisition Txn R) : Type 0 where
  pub lent : (lent_to new).ghost_name ≡ (lent_to old).ghost_name
  pub seen : begun (txn_of new) ≡ begun (txn_of old)

-- the end of an acquisition is asked for once it is cleaned up; a refusal hands it back
abbrev pub AsksToEnd : {Txn R E W : Type 0} → (Txn → Begun) → (Result W E → Type 0) → (E → Bool)
    → CleansUpOn R → (IllegalLinkStateError → E → Type 0) → TxnAcquisition Txn R
    → Result (AcquisitionDischarging Txn R E W) (TxnAcquisition Txn R × E) → Type 0
AsksToEnd begun discharges of_spend cleans from old (Ok wait) =
    Keeps begun old (acquisition_of wait)
    × cleans (recver_of old) (recver_of (acquisition_of wait)) (Ok tt)
    × IfUndischarged (begun (txn_of old)) (discharges (Ok (waiting_of wait)))
AsksToEnd begun discharges of_spend cleans from old (Err refused) =
    Keeps begun old refused.0
    × EndRefused discharges of_spend from cleans (recver_of old) (recver_of refused.0)
    (begun (txn_of old)) refused.1

-- a poll leaves the receiver, which is dropped with the transaction
abbrev pub KeepsReceiver : {Txn R W E : Type 0} → (W → TxnAcquisition Txn R) → MutBor R
    → Progress W (Result Unit (TxnAcquisition Txn R × E)) → Type 0
KeepsReceiver acquisition_of lent (waits.Pending wait) = lent_to (acquisition_of wait) ≡ lent
KeepsReceiver acquisition_of lent (waits.Ready (Ok done)) = Unit {0}
KeepsReceiver acquisition_of lent (waits.Ready (Err refused)) = lent_to refused.0 ≡ lent
