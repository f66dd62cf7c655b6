use Rattle.std.proofs.Common.{sym, ◌∙◌, ap, ◌++◌, ◌∷◌, []}
use Rattle.std.specs.Prelude.{codes}
use Rattle.amqp_txn_types.specs.declared.performatives.Frame.{Frame}
use Rattle.txn_audit_fits.proofs.Framed.{plain-no, plain-yes}
use Rattle.txn_audit_fits.proofs.Judged.{other_text, same_text}
use Rattle.txn_audit_fits.proofs.frames.judge_plain.Goals as goal

pub returns-then-not-is_text : goal.returns-then-not-is_text
returns-then-not-is_text c =
    plain-no c.args.held.now c.args.frame.now c.args.line.now c.args.work.now c.args.work.now c.requires.under c.requires.attach (other_text c.args.line.now (codes "ok") (sym c.is_text.ensures ∙ c.if-not-is_text.true))

pub returns : goal.returns
returns c =
    plain-yes c.args.held.now c.args.frame.now c.args.line.now c.args.work.now c.append.new.self c.requires.under c.requires.attach (same_text c.args.line.now (codes "ok") (sym c.is_text.ensures ∙ c.if-not-is_text.false))
    (c.in_ok-append.ensures.ok ∙ ap (λ (f : Frame). c.args.work.now ++ f ∷ []) c.in_ok-try_clone.ensures.copy)
