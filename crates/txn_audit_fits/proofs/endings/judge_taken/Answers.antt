use Rattle.std.proofs.Common.{refl, sym, ◌∙◌, ap, arith, map, take_all, append-nil, ◌++◌, ℕ, List}
use Rattle.amqp_txn_types.specs.declared.performatives.Frame.{Frame}
use Rattle.txn_program_lines.specs.Cutting.{lines_of}
use Rattle.txn_audit_fits.specs.Fits.{taken_text}
use Rattle.txn_audit_fits.proofs.Ended.{taken-more, taken-next, taken-other}
use Rattle.txn_audit_fits.proofs.Lines.{no_lines, some_line}
use Rattle.txn_audit_fits.proofs.endings.judge_taken.Goals as goal

pub loop-frame-init : goal.loop-frame-init
loop-frame-init c = refl

pub returns-in_default : goal.returns-in_default
returns-in_default c =
    let other = rw c.in_default.is at c.in_ok-after.ensures in
    taken-other c.args.frames.now c.loop-frame.frame-index c.frame-item.result (lines_of c.args.lines.now) (lines_of c.loop-frame.rest.now) (omega arith) c.frame-item.is c.loop-frame.invariant other

pub loop-frame-preserved : goal.loop-frame-preserved
loop-frame-preserved c =
    let first = rw c.in-Some.is at c.in_ok-after.ensures in
    taken-next c.args.frames.now c.loop-frame.frame-index c.frame-item.result (lines_of c.args.lines.now) (lines_of c.loop-frame.rest.now) (lines_of c.in-Some.after.now) (omega arith) c.frame-item.is c.loop-frame.invariant first

pub returns-then-is_empty : goal.returns-then-is_empty
returns-then-is_empty c =
    let all = c.args.frames.now in
    let whole = take_all c.loop-frame.frame-index all (omega arith) in
    c.loop-frame.invariant ∙ ap (λ (fs : List Frame). map taken_text fs ++ lines_of c.loop-frame.rest.now) whole ∙ ap (λ (ls : List (List ℕ)). map taken_text all ++ ls) (no_lines c.loop-frame.rest.now (sym c.is_empty.ensures ∙ c.if-is_empty.true)) ∙ append-nil (map taken_text all)

pub returns : goal.returns
returns c =
    let all = c.args.frames.now in
    let whole = take_all c.loop-frame.frame-index all (omega arith) in
    let some = some_line c.loop-frame.rest.now (sym c.is_empty.ensures ∙ c.if-is_empty.false) in
    taken-more all (lines_of c.args.lines.now) (lines_of c.loop-frame.rest.now) some.0 some.1 (c.loop-frame.invariant ∙ ap (λ (fs : List Frame). map taken_text fs ++ lines_of c.loop-frame.rest.now) whole) some.2
