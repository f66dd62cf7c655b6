use Rattle.std.proofs.Common.{sym, ◌∙◌, ap, ◌++◌}
use Rattle.std.specs.Prelude.{codes, decimal, is_some}
use Rattle.txn_audit_fits.proofs.Framed.{attach-no, attach-other, attach-yes}
use Rattle.txn_audit_fits.proofs.Judged.{other_text, same_text}
use Rattle.txn_audit_fits.proofs.frames.judge_attach.Goals as goal

pub returns-then-branch : goal.returns-then-branch
returns-then-branch c =
    attach-yes c.args.held.now c.open_next.new.held c.args.frame.now c.args.line.now c.requires.under c.requires.attach
    (same_text c.args.line.now (codes "attached " ++ decimal c.args.held.now.opened) (sym c.in_ok-is_number_line.ensures ∙ c.if-branch.true)) c.in_ok-open_next.ensures

pub returns-then-is_some : goal.returns-then-is_some
returns-then-is_some c =
    attach-other c.args.held.now c.args.frame.now c.args.line.now c.requires.under c.requires.attach
    (other_text c.args.line.now (codes "attached " ++ decimal c.args.held.now.opened) (sym c.in_ok-is_number_line.ensures ∙ c.if-branch.false))
    (sym (c.is_some.ensures ∙ ap is_some c.refusal_of_attach.ensures) ∙ c.if-is_some.true)

pub returns : goal.returns
returns c =
    attach-no c.args.held.now c.args.held.now c.args.frame.now c.args.line.now c.requires.under c.requires.attach
    (other_text c.args.line.now (codes "attached " ++ decimal c.args.held.now.opened) (sym c.in_ok-is_number_line.ensures ∙ c.if-branch.false))
    (sym (c.is_some.ensures ∙ ap is_some c.refusal_of_attach.ensures) ∙ c.if-is_some.false)
