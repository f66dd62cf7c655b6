-- What a step makes of the session of a slot.
use Rattle.std.specs.Prelude.{ℕ, ◌≡◌, ◌-◌, ◌^◌, Option, Some, None, Ok, List, ◌∷◌, ◌++◌, [], length, true, IsSome, MatchBool, ⊤}
use Rattle.std.specs.List.{zip}
use Rattle.amqp_txn_types.specs.declared.performatives.Frame.{Frame}
use Rattle.amqp_below_layer.specs.declared.inner_error.SessionInnerError.{SessionInnerError}
use Rattle.amqp_below_layer.specs.declared.inner_error.SessionInnerError.TheVariants as faults
use Rattle.amqp_below_layer.specs.declared.verdict.Verdict.TheVariants as verdicts
use Rattle.amqp_below_ids.specs.Ids.{Drew}
use Rattle.amqp_resource_held.specs.Views.{view_of_record}
use Rattle.amqp_resource_record.specs.Answers.{Answer}
use Rattle.amqp_resource_record.specs.Entries.{is_veto}
use Rattle.amqp_resource_record.specs.Hands.{hands}
use Rattle.amqp_resource_record.specs.Stops.{code_of}
use Rattle.amqp_resource_record.specs.Work.{given_by, handed_by}
use Rattle.amqp_resource_record.specs.declared.entry.Entry.{Entry}
use Rattle.amqp_resource_record.specs.declared.step.Step.{Step}
use Rattle.amqp_resource_record.specs.declared.stop.Stop.{Stop}
use Rattle.amqp_resource_record.specs.declared.stop.Stop.TheVariants as stops
use Rattle.amqp_resource_record.specs.declared.stop.StopCode.{StopCode}
use Rattle.amqp_resource_session.specs.Session.{SameSession, StandsFor, opened_of, stop_of}
use Rattle.amqp_resource_session.specs.Steps.{MayFault, StopsSurely, UnderDead, ended_by, is_unknown}
use Rattle.amqp_resource_session.specs.declared.session.TxnSession.{TxnSession}
use Rattle.daxurbi_layer.specs.Answering.{given_count, refusal_told, unless_take, verdict_told}
use Rattle.daxurbi_layer.specs.declared.below_answer.BelowAnswer.{BelowAnswer}
use Rattle.daxurbi_layer.specs.declared.told_layer.ToldLayer.{ToldLayer}
use Rattle.daxurbi_session.specs.SlotIds.{ids_of}
use Rattle.daxurbi_session.specs.ToldSteps.{AsTold, IfChecked, RefusedAsTold, RepliesAsTold, TookOnly, answered_with, told_for}
use Rattle.daxurbi_session.specs.declared.last_step.Ending.{Ending}
use Rattle.daxurbi_session.specs.declared.last_step.Ending.TheVariants as endings
use Rattle.daxurbi_session.specs.declared.last_step.LastStep.{LastStep}
use Rattle.daxurbi_session.specs.declared.slot_session.SlotSession.{SlotSession}
use Rattle.daxurbi_session.specs.declared.slot_session.Stepped.{Stepped}
use Rattle.daxurbi_session.specs.declared.slot_session.Stepped.TheVariants as stepped
use Rattle.txn_program_lines.specs.Lines.{step_of_line}

-- the session of the slot
abbrev pub session_of : SlotSession → TxnSession ToldLayer
session_of slot = slot.session

-- the code of its stop, once it has stopped
abbrev pub stop_in : SlotSession → Option StopCode
stop_in slot = stop_of slot.session

-- the slot's session stands for a record
abbrev pub SlotStandsFor : SlotSession → List Entry → Type 0
SlotStandsFor slot entries = StandsFor slot.session entries

-- an entry and what was taken of its step, by a record that the session stood for before: the reply
-- is an answer of the record, the session then stands for the record with the entry, what was taken
-- is what the record says the step hands, each frame with what the reply says was given back, and
-- an attach was answered as was told
pub record EntryFits (entries : List Entry) (new : SlotSession) (told : BelowAnswer)
    (entry : Entry) (taken : List (Frame × List Frame)) : Type 0 where
  pub answer : Answer entries entry.step entry.drawn.ids entry.reply
  pub stands : SlotStandsFor new (entries ++ entry ∷ [])
  pub handed : taken
      ≡ zip (handed_by entries entry.step entry.reply) (given_by entry.step entry.reply)
  pub replies : RepliesAsTold told entry.reply

-- a step was answered
pub record StepAnswered (old new : SlotSession) (step : Step) (told : BelowAnswer) (entry : Entry)
    (taken : List (Frame × List Frame)) : Type 0 where
  pub made : entry.step ≡ step
  pub records : (r : List Entry) → SlotStandsFor old r → EntryFits r new told entry taken
  -- A veto was told, nothing is taken but where it was told to take, and no frame is given back.
  pub veto : is_veto entry.reply ≡ true → verdict_told told ≡ Ok verdicts.Veto
  pub untaken : unless_take told (length taken) ≡ 0
  pub ungiven : given_count taken ≡ 0
  -- Where it is answered with a disposition, no refusal was told.
  pub checked : IfChecked (answered_with step) (refusal_told told ≡ None)
  -- The ids drawn are the next ones, and the session goes on.
  pub drew : Drew (ids_of old.ids) (ids_of new.ids) entry.drawn.ids
  pub runs : stop_in new ≡ None

-- a fault is an unknown id exactly where the step is a frame under an id that isn't live; every
-- other one is of a step that makes a call below. An end is the step's own
abbrev pub StopFits : List Entry → Step → Stop → Type 0
StopFits entries step (stops.Fault faults.UnknownTxnId) = UnderDead (view_of_record entries) step
StopFits entries step (stops.Fault error) =
    MayFault (view_of_record entries) step (hands entries step) error
StopFits entries step (stops.Ended reason) = ended_by step ≡ Some reason
StopFits entries step _ = ⊥

-- a stop that is a refusal of the layer below, with a fact of its error
abbrev pub IfFault : Stop → (SessionInnerError → Type 0) → Type 0
IfFault (stops.Fault error) P = MatchBool (is_unknown error) ⊤ (P error)
IfFault _ P = ⊤

-- a stop and what was taken of its step, by a record that the session stood for before: a refusal
-- is what was told, or out of memory
pub record FitsStop (entries : List Entry) (step : Step) (told : BelowAnswer) (stop : Stop)
    (handed : ℕ) (taken : List (Frame × List Frame)) : Type 0 where
  pub cause : StopFits entries step stop
  pub took : TookOnly entries step taken handed
  pub refused : IfFault stop (λ error. AsTold told error)

-- a step stopped the session
pub record StepStopped (old new : SlotSession) (step : Step) (told : BelowAnswer) (stop : Stop)
    (handed : ℕ) (taken : List (Frame × List Frame)) : Type 0 where
  pub records : (r : List Entry) → SlotStandsFor old r → FitsStop r step told stop handed taken
  -- Nothing is taken but where it was told to take, and of a commit nothing.
  pub untaken : unless_take told (length taken) ≡ 0
  pub surely : IfFault stop (λ error. StopsSurely true step handed)
  -- Where its disposition was refused, the error is the one that was told.
  pub checked : IfFault stop
      (λ error. IfChecked (answered_with step) (RefusedAsTold told error))
  pub ids : new.ids ≡ old.ids
  pub stops : stop_in new ≡ Some (code_of stop)

-- nothing changed: what the session keeps is found as before, all else is the same, and the session
-- stands for each record that it stood for
pub record SameSlot (old new : SlotSession) : Type 0 where
  pub session : SameSession old.session new.session
  pub stands : (r : List Entry) → SlotStandsFor old r → SlotStandsFor new r
  pub ids : new.ids ≡ old.ids
  pub last : new.last ≡ old.last

-- the last step was answered, by its entry and what was taken
abbrev pub EndsAnswered : Ending → (Entry → Type 0) → Type 0
EndsAnswered (endings.Answered entry) P = P entry
EndsAnswered (endings.Stopped stop handed) P = ⊥

abbrev pub LastAnswered : Option LastStep → (Entry → List (Frame × List Frame) → Type 0) → Type 0
LastAnswered None P = ⊥
LastAnswered (Some last) P = EndsAnswered last.ending (λ entry. P entry last.taken)

-- the last step stopped the session, by why, how many of its frames were handed, and what was taken
abbrev pub EndsStopped : Ending → (Stop → ℕ → Type 0) → Type 0
EndsStopped (endings.Answered entry) P = ⊥
EndsStopped (endings.Stopped stop handed) P = P stop handed

abbrev pub LastStopped : Option LastStep → (Stop → ℕ → List (Frame × List Frame) → Type 0) → Type 0
LastStopped None P = ⊥
LastStopped (Some last) P = EndsStopped last.ending (λ stop handed. P stop handed last.taken)

-- a step, by what it says of itself
abbrev pub MakesStep : SlotSession → SlotSession → Step → BelowAnswer → Stepped → Type 0
MakesStep old new step answer stepped.Answered =
    (stop_in old ≡ None)
    × LastAnswered new.last (StepAnswered old new step (told_for step answer))
MakesStep old new step answer stepped.Stopped =
    (stop_in old ≡ None)
    × LastStopped new.last (StepStopped old new step (told_for step answer))
MakesStep old new step answer stepped.StoppedBefore = IsSome (stop_in old) × (new ≡ old)
MakesStep old new step answer stepped.NoLinkLeft =
    (stop_in old ≡ None) × (opened_of old.session ≡ 2 ^ 64 - 1) × (new ≡ old)
MakesStep old new step answer stepped.NotAStep = ⊥
MakesStep old new step answer stepped.NoMemory = (stop_in old ≡ None) × SameSlot old new

-- a line that spells a step makes that step
abbrev pub MakesSpelled : SlotSession → SlotSession → Option Step → BelowAnswer → Stepped → Type 0
MakesSpelled old new None answer result = ⊥
MakesSpelled old new (Some step) answer result = MakesStep old new step answer result

-- a line: a step where it spells one, and nothing where it spells none
abbrev pub MakesLine : SlotSession → SlotSession → List ℕ → BelowAnswer → Stepped → Type 0
MakesLine old new line answer stepped.StoppedBefore = IsSome (stop_in old) × (new ≡ old)
MakesLine old new line answer stepped.NotAStep =
    (stop_in old ≡ None) × (step_of_line line ≡ None) × (new ≡ old)
MakesLine old new line answer stepped.NoMemory = (stop_in old ≡ None) × SameSlot old new
MakesLine old new line answer result = MakesSpelled old new (step_of_line line) answer result
