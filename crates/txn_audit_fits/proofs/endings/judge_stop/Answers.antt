use Rattle.std.proofs.Common.{[], Bool, List, sym, ◌+◌, subst, drop, IfOk}
use Rattle.amqp_resource_record.specs.declared.step.Step.{Step}
use Rattle.txn_audit_fits.specs.Ending.{StopJudged}
use Rattle.txn_audit_fits.proofs.Auditing.{drop-nothing, drop-step}
use Rattle.txn_audit_fits.proofs.Ended.{judged-done}
use Rattle.txn_audit_fits.proofs.endings.judge_stop.Goals as goal

pub returns-in-None : goal.returns-in-None
returns-in-None g c before s =
    let P : List Step → Type 0 = λ left. StopJudged before left c.args.line.now c.args.work.now c.shows_done.result in
    let Q : Bool → Type 0 = λ b. StopJudged before [] c.args.line.now c.args.work.now b in
    subst P (sym (drop-nothing c.args.steps.now c.args.answered (sym c.in-None.ensures))) (subst Q (sym c.shows_done.ensures) (judged-done before c.args.line.now c.args.work.now s.1))

pub returns-in-Some : goal.returns-in-Some
returns-in-Some g c before s =
    let P : List Step → Type 0 = λ left. IfOk c.judge_stop_at.result (StopJudged before left c.args.line.now c.judge_stop_at.new.work) in
    subst P (sym (drop-step c.args.steps.now c.args.answered c.in-Some.step.now (sym c.in-Some.ensures))) (c.judge_stop_at.ensures before s (drop (c.args.answered + 1) c.args.steps.now))
