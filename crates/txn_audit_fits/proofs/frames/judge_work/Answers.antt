use Rattle.std.proofs.Common.{sym, ◌∙◌, ap, subst, refl, Bool, Ok, cond}
use Rattle.std.specs.Prelude.{codes}
use Rattle.amqp_txn_types.specs.declared.performatives.Frame.{Frame}
use Rattle.amqp_txn_types.specs.Ids.{same_id}
use Rattle.amqp_txn_types.specs.Works.{frame_of_work}
use Rattle.amqp_resource_log.specs.Live.{kept, with_frame, Keeps}
use Rattle.txn_audit_fits.proofs.Framed.{under-dead, under-no, under-yes}
use Rattle.txn_audit_fits.proofs.Judged.{other_text, same_text}
use Rattle.txn_audit_fits.proofs.frames.judge_work.Goals as goal

pub returns-then-not-is_text : goal.returns-then-not-is_text
returns-then-not-is_text c =
    under-no c.args.held.now c.args.held.now c.args.frame.now c.args.id c.args.line.now c.requires (other_text c.args.line.now (codes "ok") (sym c.is_text.ensures ∙ c.if-not-is_text.true))

pub returns-then-branch : goal.returns-then-branch
returns-then-branch c =
    let old = c.args.held.now.work in
    let keeps = subst (λ (b : Bool). Keeps old c.keep.new.self c.args.id (frame_of_work c.in_ok-copy.copy) (Ok b)) c.if-branch.true c.in_ok-keep.ensures.kept in
    under-yes c.args.held.now (record c.args.held.now { work = c.keep.new.self }) c.args.frame.now c.args.id c.args.line.now c.outs_under.result c.requires
    (same_text c.args.line.now (codes "ok") (sym c.is_text.ensures ∙ c.if-not-is_text.false)) keeps.0
    (λ t. keeps.2 t ∙ ap (λ (f : Frame). cond (same_id t c.args.id) (with_frame (kept old t) f) (kept old t)) c.in_ok-copy.ensures) (λ k. refl) refl c.outs_under.ensures

pub returns-else-branch : goal.returns-else-branch
returns-else-branch c =
    let old = c.args.held.now.work in
    let keeps = subst (λ (b : Bool). Keeps old c.keep.new.self c.args.id (frame_of_work c.in_ok-copy.copy) (Ok b)) c.if-branch.false c.in_ok-keep.ensures.kept in
    under-dead c.args.held.now (record c.args.held.now { work = c.keep.new.self }) c.args.frame.now c.args.id c.args.line.now c.requires keeps.0
