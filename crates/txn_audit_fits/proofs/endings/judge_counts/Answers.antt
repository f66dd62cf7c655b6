use Rattle.std.proofs.Common.{◌≡◌, ◌+◌, ◌∷◌, [], List, sym, ◌∙◌, subst, take, arith, IfOk, refl}
use Rattle.amqp_txn_types.specs.declared.performatives.Frame.{Frame}
use Rattle.txn_program_lines.specs.Cutting.{lines_of}
use Rattle.txn_audit_fits.specs.Fits.{handed_text}
use Rattle.txn_audit_fits.specs.Explaining.{JudgesCounts, JudgesTaken}
use Rattle.txn_audit_fits.proofs.Committed.{ok_map}
use Rattle.txn_audit_fits.proofs.Ended.{counts-here, counts-judged}
use Rattle.txn_audit_fits.proofs.Lines.{no_lines}
use Rattle.txn_audit_fits.proofs.endings.judge_counts.Goals as goal

pub returns-then-is_empty : goal.returns-then-is_empty
returns-then-is_empty c few =
    counts-here c.args.frames.now c.args.count (lines_of c.args.lines.now) (lines_of c.args.lines.now) refl
    (λ more others l f. let e : [] ≡ handed_text more ∷ others = sym (no_lines c.args.lines.now (sym c.is_empty.ensures ∙ c.if-is_empty.true)) ∙ f in cc e) few

pub returns-in_default : goal.returns-in_default
returns-in_default c few =
    let none = rw c.in_default.is at c.in_ok-more.ensures in
    counts-here c.args.frames.now c.args.count (lines_of c.args.lines.now) (lines_of c.args.lines.now) refl
    (λ more others l f.
    let e : c.first_line.result.0.now ∷ lines_of c.first_line.result.1.now ≡ handed_text more ∷ others = sym c.first_line.ensures.lines ∙ f in
    none more (omega (arith, l, c.saturating_sub-most.ensures)) (let g : c.first_line.result.0.now ≡ handed_text more = cc e in g)) few

pub returns : goal.returns
returns c =
    let some = rw c.in-Some.is at c.in_ok-more.ensures in
    let frames = c.args.frames.now in
    let after = lines_of c.first_line.result.1.now in
    let all = lines_of c.args.lines.now in
    ok_map (JudgesTaken (take (c.args.count + c.in-Some.more) frames) after) (JudgesCounts frames c.args.count all) c.judge_taken.result
    (λ o t. counts-judged frames c.args.count c.in-Some.more c.first_line.result.0.now all after (omega (arith, c.saturating_sub-most.type_inv, c.saturating_sub-most.ensures)) some.1 c.first_line.ensures.lines (omega (arith, some.0, c.saturating_sub-most.ensures)) o t)
    (subst (λ (fs : List Frame). IfOk c.judge_taken.result (JudgesTaken fs after)) c.front_of.ensures c.judge_taken.ensures)
