use Rattle.std.proofs.Common.{Bool, List, sym, ◌∙◌, ap, subst, drop, length, IfOk}
use Rattle.amqp_txn_types.specs.declared.performatives.Frame.{Frame}
use Rattle.txn_program_lines.specs.Cutting.{lines_of}
use Rattle.txn_audit_fits.specs.Ending.{StopJudged}
use Rattle.txn_audit_fits.specs.Explaining.{JudgesCounts, JudgesEnd}
use Rattle.txn_audit_fits.proofs.Committed.{ok_map}
use Rattle.txn_audit_fits.proofs.Ended.{ends-empty, ends-false, ends-judged}
use Rattle.txn_audit_fits.proofs.Lines.{no_lines}
use Rattle.txn_audit_fits.proofs.endings.judge_end.Goals as goal

pub returns-then-is_empty : goal.returns-then-is_empty
returns-then-is_empty g c before s = ends-empty before (drop c.args.answered c.args.steps.now) (lines_of c.args.lines.now) (no_lines c.args.lines.now (sym c.is_empty.ensures ∙ c.if-is_empty.true))

pub returns-then-not-branch : goal.returns-then-not-branch
returns-then-not-branch g c before s =
    let left = drop c.args.answered c.args.steps.now in
    let j = subst (λ (b : Bool). StopJudged before left c.first_line.result.0.now c.judge_stop.new.work b) c.if-not-branch.true (c.in_ok-judge_stop.ensures before s) in
    ends-false before left c.judge_stop.new.work c.first_line.result.0.now (lines_of c.first_line.result.1.now) (lines_of c.args.lines.now) c.first_line.ensures.lines j

pub returns : goal.returns
returns g c before s =
    let left = drop c.args.answered c.args.steps.now in
    let now = c.judge_stop.new.work in
    let stop = c.first_line.result.0.now in
    let after = lines_of c.first_line.result.1.now in
    let all = lines_of c.args.lines.now in
    let count = c.len-count.result in
    let j = subst (λ (b : Bool). StopJudged before left stop now b) c.if-not-branch.false (c.in_ok-judge_stop.ensures before s) in
    ok_map (JudgesCounts now count after) (JudgesEnd before left all) c.judge_counts.result (λ o t. ends-judged before left now count stop all after c.first_line.ensures.lines (c.len-count.ensures ∙ ap length s.1) j o t)
    (subst (λ (fs : List Frame). IfOk c.judge_counts.result (JudgesCounts fs count after)) c.as_slice.ensures c.judge_counts.ensures)
