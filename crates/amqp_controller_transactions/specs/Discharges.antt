-- The transaction whose discharge is awaited.
use Rattle.std.specs.Prelude.{◌≡◌, Bool, true, false, Result, Ok, Err}
use Rattle.amqp_links.specs.declared.progress.Progress.{Progress}
use Rattle.amqp_links.specs.declared.progress.Progress.TheVariants as waits
use Rattle.amqp_controller_transactions.specs.declared.awaited_discharge.Discharging.{Discharging}

-- the transaction
abbrev pub value_of : {T E W : Type 0} → Discharging T E W → T
value_of discharging = discharging.value

-- the discharge that is awaited
abbrev pub waiting_of : {T E W : Type 0} → Discharging T E W → W
waiting_of discharging = discharging.waiting

-- what a discharge answered that a commit or a rollback put
abbrev pub asked_of : {T E W : Type 0} → Result (Discharging T E W) (T × E) → Result W E
asked_of (Ok discharging) = Ok (waiting_of discharging)
asked_of (Err refused) = Err refused.1

-- a wait that goes on is for the discharge that was polled
abbrev pub WaitsOn : {V W R : Type 0} → (V → W) → W → Progress V R → Type 0
WaitsOn waiting_of waiting (waits.Pending wait) = waiting_of wait ≡ waiting
WaitsOn waiting_of waiting (waits.Ready answer) = Unit {0}

-- the error of the poll of a discharge, or else that of the `spend` after it
abbrev pub FindsErr : {E W : Type 0} → (E → Bool) → (Progress W (Result Unit E) → Type 0) → E
    → Type 0
FindsErr of_spend finds error =
    (of_spend error ≡ false → finds (waits.Ready (Err error)))
    × (of_spend error ≡ true → finds (waits.Ready (Ok tt)))

-- a poll of a value with its discharge answers what a poll of the discharge found, up to its end
abbrev pub FindsEnd : {T E W V : Type 0} → (V → W) → (E → Bool)
    → (Progress W (Result Unit E) → Type 0) → Progress V (Result Unit (T × E)) → Type 0
FindsEnd waiting_of of_spend finds (waits.Pending wait) = finds (waits.Pending (waiting_of wait))
FindsEnd waiting_of of_spend finds (waits.Ready (Ok done)) = finds (waits.Ready (Ok tt))
FindsEnd waiting_of of_spend finds (waits.Ready (Err refused)) =
    FindsErr of_spend finds refused.1

-- a value is dropped at the end of its discharge, and nowhere else
abbrev pub SpendsAtEnd : {T E V : Type 0} → (E → Bool) → (Result Unit E → Type 0)
    → Progress V (Result Unit (T × E)) → Type 0
SpendsAtEnd of_spend spends (waits.Pending wait) = Unit {0}
SpendsAtEnd of_spend spends (waits.Ready (Ok done)) = spends (Ok tt)
SpendsAtEnd of_spend spends (waits.Ready (Err refused)) =
    of_spend refused.1 ≡ true → spends (Err refused.1)
