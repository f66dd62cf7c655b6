use Rattle.amqp_resource_record.specs.declared.step.Step.TheVariants as steps
use Rattle.txn_audit_fits.specs.Judging.{JudgesHere, JudgesWork}
use Rattle.txn_audit_fits.proofs.Committed.{ok_map}
use Rattle.txn_audit_fits.proofs.frames.judge_frame.Goals as goal

pub returns-in-Some : goal.returns-in-Some
returns-in-Some c =
    ok_map (JudgesHere c.args.held.now c.judge_work.new.held (steps.Frame c.args.frame.now) c.args.line.now) (JudgesWork c.args.held.now c.judge_work.new.held c.args.work.now c.args.work.now (steps.Frame c.args.frame.now) c.args.line.now)
    c.judge_work.result (λ o j next. j c.args.work.now next) c.judge_work.ensures

pub returns-then-is_control_attach : goal.returns-then-is_control_attach
returns-then-is_control_attach c =
    ok_map (JudgesHere c.args.held.now c.judge_attach.new.held (steps.Frame c.args.frame.now) c.args.line.now) (JudgesWork c.args.held.now c.judge_attach.new.held c.args.work.now c.args.work.now (steps.Frame c.args.frame.now) c.args.line.now)
    c.judge_attach.result (λ o j next. j c.args.work.now next) c.judge_attach.ensures
