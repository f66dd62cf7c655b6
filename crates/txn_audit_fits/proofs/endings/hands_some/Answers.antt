use Rattle.std.proofs.Common.{length, ◌∙◌, ap, arith}
use Rattle.std.proofs.lemmas.List.{length-map}
use Rattle.amqp_txn_types.specs.Frames.{stripped}
use Rattle.amqp_resource_log.specs.Live.{frames_kept, kept}
use Rattle.txn_audit_fits.proofs.Ended.{hands-none, hands-some}
use Rattle.txn_audit_fits.proofs.endings.hands_some.Goals as goal

pub returns-in-None : goal.returns-in-None
returns-in-None c = λ before s. ((λ e. absurd (cc e)), (λ l. let n = ap length (hands-none c.args.held.now c.args.link c.args.payload.now c.in-None.ensures before s) in absurd (omega (arith, l, n))))

pub returns-in-Some : goal.returns-in-Some
returns-in-Some c = λ before s.
    let n = ap length (hands-some c.args.held.now c.args.link c.args.payload.now c.in-Some.id c.in-Some.ensures before s) ∙ length-map (frames_kept (kept c.args.held.now.work c.in-Some.id)) stripped in
    ((λ e. let l = c.has_frames.ensures.0 e in omega (arith, l, n)), (λ l. c.has_frames.ensures.1 (omega (arith, l, n))))
