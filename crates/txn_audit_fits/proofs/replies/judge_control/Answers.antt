use Rattle.amqp_resource_record.specs.declared.step.Step.TheVariants as steps
use Rattle.txn_audit_fits.specs.Judging.{Judges, JudgesWork}
use Rattle.txn_audit_fits.proofs.Committed.{ok_map}
use Rattle.txn_audit_fits.proofs.replies.judge_control.Goals as goal

pub returns-then-not-has_link-clause-judged : goal.returns-then-not-has_link-clause-judged
returns-then-not-has_link-clause-judged g c = c.judge_no_link.ensures c.args.work.now (g.G.IdSource.next c.args.ids.now)

pub returns-in-Err-clause-judged : goal.returns-in-Err-clause-judged
returns-in-Err-clause-judged g c = c.judge_close.ensures c.args.work.now (g.G.IdSource.next c.args.ids.now)

pub returns-in-Ok-Declare-Some-clause-judged : goal.returns-in-Ok-Declare-Some-clause-judged
returns-in-Ok-Declare-Some-clause-judged g c = c.judge_global.ensures c.args.work.now (g.G.IdSource.next c.args.ids.now)

pub returns-in-Ok-Declare-None-clause-judged : goal.returns-in-Ok-Declare-None-clause-judged
returns-in-Ok-Declare-None-clause-judged g c = c.judge_declare.ensures.judged c.args.work.now

pub returns-in-Ok-Discharge-clause-judged : goal.returns-in-Ok-Discharge-clause-judged
returns-in-Ok-Discharge-clause-judged g c =
    let ids = g.G.IdSource.next c.args.ids.now in
    ok_map (JudgesWork c.args.held.now c.judge_discharge.new.held c.args.work.now c.judge_discharge.new.work (steps.Control c.args.link c.args.payload.now) c.args.line.now)
    (Judges c.args.held.now c.judge_discharge.new.held c.args.work.now c.judge_discharge.new.work ids ids (steps.Control c.args.link c.args.payload.now) c.args.line.now)
    c.judge_discharge.result (λ o j. j ids) c.judge_discharge.ensures
