-- What driving a list of steps leaves.
use Rattle.std.specs.Prelude.{ℕ, ◌≡◌, ◌≤◌, ◌+◌, ◌-◌, ◌^◌, ◌⊎◌, Bool, true, false, not, min, Option, Some, None, List, ◌∷◌, ◌++◌, length, take, MatchBool, if◌then◌else◌}
use Rattle.std.specs.List.{sum_by}
use Rattle.amqp_resource_record.specs.declared.entry.Entry.{Entry}
use Rattle.amqp_txn_types.specs.declared.performatives.Frame.{Frame}
use Rattle.amqp_below_layer.specs.declared.refusal.Refusal.{Refusal}
use Rattle.amqp_below_layer.specs.declared.inner_error.SessionInnerError.{SessionInnerError}
use Rattle.amqp_resource_record.specs.declared.step.Step.{Step}
use Rattle.amqp_resource_record.specs.declared.stop.StepError.{StepError}
use Rattle.amqp_resource_record.specs.declared.stop.Stop.{Stop}
use Rattle.amqp_below_layer.specs.OneFrame.{TookFrames}
use Rattle.amqp_resource_session.specs.declared.session.TxnSession.{TxnSession}
use Rattle.amqp_resource_record.specs.Opened.{attach_refused_count, refuses}
use Rattle.amqp_txn_types.specs.Growing.{grown}
use Rattle.amqp_resource_record.specs.Hands.{hands}
use Rattle.amqp_resource_record.specs.Work.{pairs}
use Rattle.amqp_resource_record.specs.Entries.{steps_of}
use Rattle.amqp_resource_record.specs.Vetoed.{veto_count}
use Rattle.amqp_resource_record.specs.declared.stop.Stop.TheVariants as stops
use Rattle.amqp_resource_record.specs.declared.stop.StepError.TheVariants as errors
use Rattle.amqp_resource_record.specs.Stops.{code_of}
use Rattle.amqp_resource_session.specs.Steps.{is_unknown, ended_by, takes_memory, StopsSurely, UnderDead, MayFault, AddsRefusal}
use Rattle.amqp_resource_held.specs.Views.{view_of_record}
use Rattle.amqp_resource_held.specs.Looks.{frames_added}
use Rattle.amqp_resource_session.specs.Session.{StandsFor, stop_of}

-- the steps are those of the entries, and then these
abbrev pub Left : List Step → List Entry → List Step → Type 0
Left all entries rest = all ≡ steps_of entries ++ rest

-- how many frames of transactional work there are among the entries
abbrev pub work_count : List Entry → ℕ
work_count entries = sum_by (λ (e : Entry). frames_added e.step) entries

-- there is a step after those of the entries, with a fact of it
abbrev pub NextStep : List Step → List Entry → (Step → Type 0) → Type 0
NextStep all entries P =
    (step : Step) × (rest : List Step) × Left all entries (step ∷ rest) × P step

-- the stop is a refusal of the layer below
abbrev pub is_refusal : Stop → Bool
is_refusal (stops.Fault error) = not (is_unknown error)
is_refusal _ = false

-- a stop that is a refusal below, with a fact of its error
abbrev pub IfRefusal : Stop → Type 0 → (SessionInnerError → Type 0) → Type 0
IfRefusal (stops.Fault error) P Q = MatchBool (is_unknown error) P (Q error)
IfRefusal _ P Q = P

-- why the run stopped: every step has its entry, or the next step is what stopped it
abbrev pub StopCause : List Step → List Entry → Stop → Type 0
StopCause all entries stops.Done = steps_of entries ≡ all
StopCause all entries (stops.Fault error) =
    NextStep all entries (λ s. MatchBool (is_unknown error) (UnderDead (view_of_record entries) s)
    (MayFault (view_of_record entries) s (hands entries s) error))
StopCause all entries (stops.Ended reason) = NextStep all entries (λ s. ended_by s ≡ Some reason)
StopCause all entries stops.NoMemory =
    NextStep all entries (λ s. takes_memory (view_of_record entries) s ≡ true)

-- what was taken: the pairs of the record, and after a refusal below the first frames of the next
-- step's
abbrev pub RunTook : Option (List (Frame × List Frame)) → Option (List (Frame × List Frame))
    → List Step → List Entry → Stop → ℕ → Type 0
RunTook old new all entries stop handed =
    IfRefusal stop ((new ≡ grown old (pairs entries)) × (handed ≡ 0))
    (λ error. NextStep all entries (λ s. (handed ≤ length (hands entries s))
    × TookFrames (grown old (pairs entries)) new (take handed (hands entries s))))

-- what was refused: what the record says, and after a refusal below what the next step adds
abbrev pub RunRefused : Option (List Refusal) → Option (List Refusal) → List Step → List Entry
    → Stop → ℕ → Type 0
RunRefused old new all entries stop handed =
    IfRefusal stop (new ≡ grown old (refuses entries))
    (λ error. NextStep all entries (λ s. (more : List Refusal)
    × AddsRefusal s (hands entries s) handed error more
    × (new ≡ grown old (refuses entries ++ more))))

-- a refusal below in a commit, over a sure layer: no frame of it was taken
abbrev pub RunStopsSurely : Bool → List Step → List Entry → Stop → ℕ → Type 0
RunStopsSurely sure all entries stop handed =
    IfRefusal stop (Unit {0}) (λ error. NextStep all entries (λ s. StopsSurely sure s handed))

-- the session after the run: it stands for the record, or keeps the code of its stop
abbrev pub RunLeaves : {S : Type 0} → TxnSession S → List Entry → Stop → Type 0
RunLeaves session entries stops.Done = StandsFor session entries × (stop_of session ≡ None)
RunLeaves session entries stops.NoMemory = StandsFor session entries × (stop_of session ≡ None)
RunLeaves session entries stop = stop_of session ≡ Some (code_of stop)

-- the count of refusals rose by one for each refused attach, and by one for a refusal that stopped
-- the run, or stands at its last value
abbrev pub RunRose : ℕ → ℕ → List Entry → Stop → Type 0
RunRose old new entries stop =
    min (old + attach_refused_count entries + (if is_refusal stop then 1 else 0)) (2 ^ 64 - 1) ≤ new

-- the count of vetoes rose by one for each veto, or stands at its last value
abbrev pub RunVetoed : ℕ → ℕ → List Entry → Type 0
RunVetoed old new entries = min (old + veto_count entries) (2 ^ 64 - 1) ≤ new

-- the stop, or out of memory
abbrev pub StopsWith : Stop → Stop → Type 0
StopsWith stop wanted = (stop ≡ wanted) ⊎ (stop ≡ stops.NoMemory)

-- the stop of a step's error, with the number handed
abbrev pub StopsBy : StepError → Stop → ℕ → Type 0
StopsBy (errors.Fault error count) stop handed = (stop ≡ stops.Fault error) × (handed ≡ count)
StopsBy (errors.Ended reason) stop handed = (stop ≡ stops.Ended reason) × (handed ≡ 0)
StopsBy (errors.Stopped code) stop handed = ⊥
StopsBy errors.NoMemory stop handed = (stop ≡ stops.NoMemory) × (handed ≡ 0)
