use Rattle.std.proofs.Common.{sym, ◌∙◌, ap, cond, ◌++◌, [], append-nil}
use Rattle.std.specs.Prelude.{is_some}
use Rattle.amqp_resource_record.specs.Hands.{hands}
use Rattle.txn_audit_fits.proofs.Ended.{judged-at}
use Rattle.txn_audit_fits.proofs.endings.judge_stop_at.Goals as goal

pub returns-then-not-shows_stop : goal.returns-then-not-shows_stop
returns-then-not-shows_stop g c before s left = λ code f x. let y = (c.shows_stop.ensures before s.0).1 (code, f, x) in cc (y, c.if-not-shows_stop.true)

pub returns-then-not-refused : goal.returns-then-not-refused
returns-then-not-refused g c before s left =
    let was = c.args.work.now in
    let n = sym (c.is_some-refused.ensures ∙ ap is_some c.refusal_of_stop.ensures) ∙ c.if-not-refused.true in
    judged-at before c.args.step.now left c.args.line.now was was s.1 ((c.shows_stop.ensures before s.0).0 c.if-not-shows_stop.false)
    (sym (append-nil was) ∙ ap (λ b. was ++ cond b (hands before c.args.step.now) []) (sym n))

pub returns : goal.returns
returns g c before s left =
    let was = c.args.work.now in
    let n = sym (c.is_some-refused.ensures ∙ ap is_some c.refusal_of_stop.ensures) ∙ c.if-not-refused.false in
    judged-at before c.args.step.now left c.args.line.now was c.add_hands.new.work s.1 ((c.shows_stop.ensures before s.0).0 c.if-not-shows_stop.false)
    (c.in_ok-add_hands.ensures before s.0 ∙ ap (λ b. was ++ cond b (hands before c.args.step.now) []) (sym n))
