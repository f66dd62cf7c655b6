use Rattle.amqp_resource_record.specs.declared.step.Step.TheVariants as steps
use Rattle.txn_audit_fits.specs.Judging.{Judges, JudgesWork}
use Rattle.txn_audit_fits.proofs.Committed.{ok_map}
use Rattle.txn_audit_fits.proofs.replies.judge_reply.Goals as goal

pub returns-in-Frame-clause-judged : goal.returns-in-Frame-clause-judged
returns-in-Frame-clause-judged g c =
    let ids = g.G.IdSource.next c.args.ids.now in
    rw c.in-Frame.is
    (ok_map (JudgesWork c.args.held.now c.judge_frame.new.held c.args.work.now c.judge_frame.new.work (steps.Frame c.in-Frame.frame) c.args.line.now)
    (Judges c.args.held.now c.judge_frame.new.held c.args.work.now c.judge_frame.new.work ids ids (steps.Frame c.in-Frame.frame) c.args.line.now)
    c.judge_frame.result (λ o j. j ids) c.judge_frame.ensures)

pub returns-in-Control-clause-judged : goal.returns-in-Control-clause-judged
returns-in-Control-clause-judged g c = rw c.in-Control.is c.judge_control.ensures.judged

pub returns-in-LinkEnd-clause-judged : goal.returns-in-LinkEnd-clause-judged
returns-in-LinkEnd-clause-judged g c = rw c.in-LinkEnd.is (c.judge_link_end.ensures c.args.work.now (g.G.IdSource.next c.args.ids.now))

pub returns-in-LocalEnd-clause-judged : goal.returns-in-LocalEnd-clause-judged
returns-in-LocalEnd-clause-judged g c = rw (c.in-LocalEnd.is, c.only_a_stop.ensures) (λ before s d reply t. t.answer)

pub returns-in-RemoteEnd-clause-judged : goal.returns-in-RemoteEnd-clause-judged
returns-in-RemoteEnd-clause-judged g c = rw (c.in-RemoteEnd.is, c.only_a_stop-in-RemoteEnd.ensures) (λ before s d reply t. t.answer)

pub returns-in-ConnectionStop-clause-judged : goal.returns-in-ConnectionStop-clause-judged
returns-in-ConnectionStop-clause-judged g c = rw (c.in-ConnectionStop.is, c.only_a_stop-in-ConnectionStop.ensures) (λ before s d reply t. t.answer)
