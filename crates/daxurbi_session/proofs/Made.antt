-- What a step makes of a slot's session, from what it makes of the session.
use Rattle.std.proofs.Common.{List, None, Option, Some, refl, subst, sym, true, ℕ, ◌∙◌, ◌≡◌, Ok, Err}
use Rattle.amqp_below_ids.specs.Drawn.{DrawnIds}
use Rattle.amqp_below_layer.specs.declared.inner_error.SessionInnerError.{SessionInnerError}
use Rattle.amqp_below_layer.specs.declared.inner_error.SessionInnerError.TheVariants as faults
use Rattle.amqp_resource_held.specs.Views.{view_of_record}
use Rattle.amqp_resource_record.specs.Entries.{is_veto}
use Rattle.amqp_resource_record.specs.Hands.{hands}
use Rattle.amqp_resource_record.specs.declared.entry.Entry.{Entry}
use Rattle.amqp_resource_record.specs.declared.reply.Reply.{Reply}
use Rattle.amqp_resource_record.specs.declared.reply.Reply.TheVariants as replies
use Rattle.amqp_resource_record.specs.declared.step.Step.{Step}
use Rattle.amqp_resource_record.specs.declared.stop.Stop.TheVariants as stops
use Rattle.amqp_resource_record.specs.declared.stop.StepError.TheVariants as errors
use Rattle.amqp_resource_session.specs.Session.{stop_of}
use Rattle.amqp_resource_session.specs.Steps.{IfRefused, IfUnknown, IfVeto, MayFault, UnderDead}
use Rattle.amqp_txn_types.specs.declared.delivery.SessionStopReason.{SessionStopReason}
use Rattle.amqp_txn_types.specs.declared.performatives.Frame.{Frame}
use Rattle.amqp_txn_types.specs.declared.small.TransactionError.TheVariants as transaction_errors
use Rattle.daxurbi_layer.specs.declared.below_answer.BelowAnswer.{BelowAnswer}
use Rattle.daxurbi_session.specs.Slots.{LastAnswered, LastStopped, SameSlot, StepAnswered, StepStopped, StopFits}
use Rattle.daxurbi_session.specs.ToldSteps.{ToldStep}
use Rattle.daxurbi_session.specs.declared.last_step.Ending.TheVariants as endings
use Rattle.daxurbi_session.specs.declared.last_step.LastStep.{LastStep}
use Rattle.daxurbi_session.specs.declared.slot_session.SlotSession.{SlotSession}

-- a veto was told
veto_told : (reply : Reply) (P : Type 0) → IfVeto reply P → is_veto reply ≡ true → P
veto_told (replies.Rejected transaction_errors.Rollback text) P told is = told
veto_told (replies.Rejected transaction_errors.UnknownId text) P told is = absurd (cc is)
veto_told (replies.Rejected transaction_errors.Timeout text) P told is = absurd (cc is)
veto_told (replies.Frames answers) P told is = absurd (cc is)
veto_told (replies.Attached link frames) P told is = absurd (cc is)
veto_told (replies.AttachRefused error) P told is = absurd (cc is)
veto_told replies.LinkEnded P told is = absurd (cc is)
veto_told replies.NoLink P told is = absurd (cc is)
veto_told (replies.LinkClosed error) P told is = absurd (cc is)
veto_told (replies.Declared id) P told is = absurd (cc is)
veto_told (replies.Accepted echoes) P told is = absurd (cc is)

-- an answered step
pub made_answered : (old new : SlotSession) (step : Step) (told : BelowAnswer) (taken : List (Frame × List Frame)) (drawn : DrawnIds) (reply : Reply)
    → ToldStep old.session new.session old.ids new.ids step told taken (Ok (drawn, reply))
    → new.last ≡ Some (record { ending = endings.Answered (record { step = step; drawn = drawn; reply = reply }); taken = taken })
    → LastAnswered new.last (StepAnswered old new step told)
made_answered old new step told taken drawn reply said last =
    let entry : Entry = record { step = step; drawn = drawn; reply = reply } in
    let makes : StepAnswered old new step told entry taken = record {
      made = refl;
      records = λ r stands. let by = said.by_record r stands in record { answer = by.answer; stands = by.stands; handed = by.handed; replies = by.replies };
      veto = veto_told reply _ said.veto;
      untaken = said.untaken;
      ungiven = said.ungiven;
      checked = said.checked;
      drew = said.drew;
      runs = said.stops;
    } in
    subst (λ (l : Option LastStep). LastAnswered l (StepAnswered old new step told)) (sym last) makes

-- why a fault came
fault_fits : (entries : List Entry) (step : Step) (error : SessionInnerError) (handed : ℕ)
    → IfUnknown (Err (errors.Fault error handed)) (λ n. UnderDead (view_of_record entries) step)
    → IfRefused (Err (errors.Fault error handed)) (λ e n. MayFault (view_of_record entries) step (hands entries step) e)
    → StopFits entries step (stops.Fault error)
fault_fits entries step faults.UnknownTxnId handed dead refused = dead
fault_fits entries step faults.UnattachedHandle handed dead refused = refused
fault_fits entries step faults.RemoteAttachingLinkNameNotFound handed dead refused = refused
fault_fits entries step faults.HandleInUse handed dead refused = refused
fault_fits entries step faults.IllegalState handed dead refused = refused
fault_fits entries step (faults.ConnectionStopped reason) handed dead refused = refused
fault_fits entries step faults.TransferFrameToSender handed dead refused = refused
fault_fits entries step faults.RemoteEnded handed dead refused = refused
fault_fits entries step (faults.RemoteEndedWithError own) handed dead refused = refused
fault_fits entries step faults.NoMemory handed dead refused = refused

-- a step that the layer below, or an id that isn't live, stopped
pub made_fault : (old new : SlotSession) (step : Step) (told : BelowAnswer) (taken : List (Frame × List Frame)) (error : SessionInnerError) (handed : ℕ)
    → ToldStep old.session new.session old.ids new.ids step told taken (Err (errors.Fault error handed))
    → new.last ≡ Some (record { ending = endings.Stopped (stops.Fault error) handed; taken = taken })
    → LastStopped new.last (StepStopped old new step told)
made_fault old new step told taken error handed said last =
    let makes : StepStopped old new step told (stops.Fault error) handed taken = record {
      records = λ r stands. let by = said.by_record r stands in record { cause = fault_fits r step error handed by.unknown_only by.refusal; took = by.first; refused = by.refused };
      untaken = said.untaken;
      surely = said.surely;
      checked = said.check_refused;
      ids = said.source;
      stops = said.stops;
    } in
    subst (λ (l : Option LastStep). LastStopped l (StepStopped old new step told)) (sym last) makes

-- an end
pub made_end : (old new : SlotSession) (step : Step) (told : BelowAnswer) (taken : List (Frame × List Frame)) (reason : SessionStopReason)
    → ToldStep old.session new.session old.ids new.ids step told taken (Err (errors.Ended reason))
    → new.last ≡ Some (record { ending = endings.Stopped (stops.Ended reason) 0; taken = taken })
    → LastStopped new.last (StepStopped old new step told)
made_end old new step told taken reason said last =
    let makes : StepStopped old new step told (stops.Ended reason) 0 taken = record {
      records = λ r stands. let by = said.by_record r stands in record { cause = said.ended_only; took = by.first; refused = tt };
      untaken = said.untaken;
      surely = tt;
      checked = tt;
      ids = said.source;
      stops = said.stops;
    } in
    subst (λ (l : Option LastStep). LastStopped l (StepStopped old new step told)) (sym last) makes

-- out of memory
pub made_nothing : (old new : SlotSession) (step : Step) (told : BelowAnswer) (taken : List (Frame × List Frame)) → stop_of old.session ≡ None
    → ToldStep old.session new.session old.ids new.ids step told taken (Err errors.NoMemory) → new.last ≡ old.last → SameSlot old new
made_nothing old new step told taken runs said last = record {
  session = record { held = said.memory; below = said.below; stop = said.stops ∙ sym runs };
  stands = λ r stood. (said.by_record r stood).memory;
  ids = said.source;
  last = last;
}
