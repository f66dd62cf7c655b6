-- How a run ends during which the layer below counted no refusal.
use Rattle.std.proofs.Common.{◌≡◌, ℕ, zero, suc, ◌+◌, ◌-◌, ◌≤◌, ◌^◌, ◌⊎◌, inl, inr, Bool, true, false, cond, Option, Some, None, List, ◌∷◌, refl, arith}
use Rattle.std.specs.Prelude.{min, IfSome, IsSome}
use Rattle.amqp_txn_types.specs.declared.performatives.Frame.{Frame}
use Rattle.amqp_below_layer.specs.declared.inner_error.SessionInnerError.TheVariants as faults
use Rattle.amqp_below_ids.specs.Ids.{AreNext}
use Rattle.amqp_resource_record.specs.declared.step.Step.{Step}
use Rattle.amqp_resource_record.specs.declared.entry.Entry.{Entry}
use Rattle.amqp_resource_record.specs.declared.stop.Stop.{Stop}
use Rattle.amqp_resource_record.specs.declared.stop.Stop.TheVariants as stops
use Rattle.amqp_resource_record.specs.declared.stop.Driven.{Driven}
use Rattle.amqp_resource_record.specs.Entries.{drawn_of}
use Rattle.amqp_resource_record.specs.Legal.{IsLegal}
use Rattle.amqp_resource_record.specs.Opened.{attach_refused_count}
use Rattle.amqp_below_ids.specs.Counted.{ids_from}
use Rattle.txn_program_runs.specs.Made.{made}
use Rattle.amqp_below_layer.specs.Told.{Told}
use Rattle.amqp_resource_session.specs.Drive.{Left, RunRose, StopCause, is_refusal}
use Rattle.amqp_resource_session.specs.Steps.{ended_by}
use Rattle.txn_program_runs.specs.Running.{IsRun, stop_status}
use Rattle.txn_program_edges.specs.Writing.{EndsWith}
use Rattle.txn_program_runs.specs.Completing.{MadeEnds, NoneRose, RunEnds, StopsRun}
use Rattle.txn_program_runs.proofs.MadeRuns.{made_goes_on}

-- ---- what no count tells

unit : Bool → ℕ
unit b = cond b 1 0

no_more : (before now count : ℕ) (b : Bool) → min (before + count + unit b) (2 ^ 64 - 1) ≤ now → (min (before + 1) (2 ^ 64 - 1) ≤ now → ⊥) → (count ≡ 0) × (b ≡ false)
unfolding unit
no_more before now count true rose quiet = absurd (quiet (omega (arith, rose)))
no_more before now count false rose quiet = (none count rose, refl)
  where
    none : (n : ℕ) → min (before + n + 0) (2 ^ 64 - 1) ≤ now → n ≡ 0
    none zero h = refl
    none (suc n) h = absurd (quiet (omega (arith, h)))

-- no attach was refused, and no refusal stopped the run
pub none_refused : (before now : ℕ) (r : List Entry) (stop : Stop) → RunRose before now r stop → NoneRose before now → (attach_refused_count r ≡ 0) × (is_refusal stop ≡ false)
unfolding unit
none_refused before now r stop rose quiet = no_more before now (attach_refused_count r) (is_refusal stop) rose quiet

-- without a fault of the sink, the status is 6 or that of the table
pub without_fault : (before after wanted status : ℕ)
    → EndsWith before after wanted status → NoneRose before after
    → (status ≡ 6) ⊎ (status ≡ wanted)
without_fault before after wanted status (inl is) quiet = inl is
without_fault before after wanted status (inr (inl fault)) quiet = absurd (quiet fault.1)
without_fault before after wanted status (inr (inr is)) quiet = inr is

-- ---- a run of any steps

is_some : {A : Type 0} (o : Option A) (x : A) → o ≡ Some x → IsSome o
is_some None x e = cc e
is_some (Some y) x e = refl

-- a stop that is no refusal is one of these
pub run-ends : (all : List Step) (driven : Driven) (status : ℕ) (stop : Stop) → driven.stop ≡ stop → is_refusal stop ≡ false
    → StopCause all driven.entries stop → (status ≡ 6) ⊎ (status ≡ stop_status stop) → RunEnds all (Some driven) status
run-ends all driven status stop at calm cause (inl none) = inl none
run-ends all driven status stops.Done at calm cause (inr is) = inr (inl (is, cause))
run-ends all driven status (stops.Fault faults.UnknownTxnId) at calm cause (inr is) = inr (inr (is, (cause.0, cause.1, cause.2, inl cause.3)))
run-ends all driven status (stops.Fault _) at calm cause (inr is) = cc calm
run-ends all driven status (stops.Ended reason) at calm cause (inr is) = inr (inr (is, (cause.0, cause.1, cause.2, inr (is_some (ended_by cause.0) reason cause.3))))
run-ends all driven status stops.NoMemory at calm cause (inr is) = inl is

-- during which nothing was refused
pub quiet_run-ends : (all : List Step) (driven : Driven) (status before now : ℕ) → RunRose before now driven.entries driven.stop → NoneRose before now
    → StopCause all driven.entries driven.stop → (status ≡ 6) ⊎ (status ≡ stop_status driven.stop) → RunEnds all (Some driven) status
quiet_run-ends all driven status before now rose quiet cause says =
    run-ends all driven status driven.stop refl (none_refused before now driven.entries driven.stop rose quiet).1 cause says

-- ---- a made run

not_none : {A : Type 0} (o : Option A) → o ≡ None → IsSome o → ⊥
not_none None is some = cc some
not_none (Some x) is some = cc is

-- none of its steps is an end or a frame under an id that isn't live
never_stops : (count : ℕ) (r : List Entry) → count ≤ 20000 → IsLegal r → AreNext (ids_from 1) 0 (drawn_of r)
    → attach_refused_count r ≡ 0 → (s : Step) (rest : List Step) → Left (made count) r (s ∷ rest) → StopsRun r s → ⊥
never_stops count r few legal drawn none s rest left (inl dead) = (made_goes_on count few r legal drawn none s rest left).0 dead
never_stops count r few legal drawn none s rest left (inr ends) =
    not_none (ended_by s) (made_goes_on count few r legal drawn none s rest left).1 ends

-- so where nothing was refused, it goes to its end
pub made_run-ends : (count : ℕ) (o : Option Driven) (vetoed : Option (List (List Frame))) (told : Told) (before now status : ℕ) → count ≤ 20000
    → IfSome o (λ driven. IsRun (ids_from 1) (made count) vetoed told driven)
    → IfSome o (λ driven. RunRose before now driven.entries driven.stop)
    → NoneRose before now → RunEnds (made count) o status → MadeEnds status
made_run-ends count None vetoed told before now status few run rose quiet ends = inl ends
made_run-ends count (Some driven) vetoed told before now status few run rose quiet (inl is) = inl is
made_run-ends count (Some driven) vetoed told before now status few run rose quiet (inr (inl every)) = inr every.0
made_run-ends count (Some driven) vetoed told before now status few run rose quiet (inr (inr stopped)) =
    let none = none_refused before now driven.entries driven.stop rose quiet in
    absurd (never_stops count driven.entries few run.legal run.drawn none.0 stopped.1.0 stopped.1.1 stopped.1.2 stopped.1.3)
