use Rattle.std.proofs.Common.{rules, Err, subst}
use Rattle.daxurbi_layer.specs.declared.below_answer.BelowAnswer.{BelowAnswer}
use Rattle.amqp_resource_record.specs.declared.stop.StepError.{StepError}
use Rattle.daxurbi_session.specs.Slots.{LastAnswered, LastStopped, StepAnswered, StepStopped}
use Rattle.daxurbi_session.specs.ToldSteps.{ToldStep}
use Rattle.daxurbi_session.specs.declared.slot_session.SlotSession.{SlotSession}
use Rattle.daxurbi_session.proofs.Made.{made_answered, made_fault}
use Rattle.daxurbi_session.proofs.slot_session.SlotSession.step.Goals as goal

pub returns-in-Ok : goal.returns-in-Ok
returns-in-Ok c =
    let old = c.args.self.now in let made = c.told_step-result in let last = c.answered.result in
    let new : SlotSession = record { session = made.new.session; ids = made.new.ids; last = last; alloc = old.alloc } in (
      search rules,
      subst (λ (told : BelowAnswer). LastAnswered last (StepAnswered old new c.args.step told)) c.told_for-told.ensures
          (made_answered old new c.args.step c.told_for-told.result made.result.1 c.in-Ok.drawn c.in-Ok.reply
          (subst (λ r. ToldStep old.session made.new.session old.ids made.new.ids c.args.step c.told_for-told.result made.result.1 r) c.in-Ok.is made.ensures)
          c.answered.ensures),
    )

pub returns-in-Err-Fault : goal.returns-in-Err-Fault
returns-in-Err-Fault c =
    let old = c.args.self.now in let made = c.told_step-result in let last = c.stopped.result in
    let new : SlotSession = record { session = made.new.session; ids = made.new.ids; last = last; alloc = old.alloc } in (
      search rules,
      subst (λ (told : BelowAnswer). LastStopped last (StepStopped old new c.args.step told)) c.told_for-told.ensures
          (made_fault old new c.args.step c.told_for-told.result made.result.1 c.in-Err-Fault.error c.in-Err-Fault.handed
          (subst (λ (e : StepError). ToldStep old.session made.new.session old.ids made.new.ids c.args.step c.told_for-told.result made.result.1 (Err e)) c.in-Err-Fault.field-0-is
          (subst (λ r. ToldStep old.session made.new.session old.ids made.new.ids c.args.step c.told_for-told.result made.result.1 r) c.in-Err-Fault.is made.ensures))
          c.stopped.ensures),
    )
