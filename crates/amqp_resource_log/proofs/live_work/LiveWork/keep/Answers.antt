use Rattle.amqp_resource_log.proofs.Words.{Agrees, Keeps, Live, Log, frame_of_work, subst, sym}
use Rattle.amqp_resource_log.proofs.Counting.{agrees_arrived, keeps}
use Rattle.amqp_resource_log.proofs.live_work.LiveWork.keep.Goals as goal

pub invariant_of-self : goal.invariant_of-self
invariant_of-self c =
    subst (λ (log : Log). Agrees log.homes log) (sym c.keep.ensures.log) (agrees_arrived c.self.inside.log c.args.txn_id.now c.args.work c.keep.result c.self.invariant c.keep.ensures.live)

pub returns-clause-kept : goal.returns-clause-kept
returns-clause-kept c =
    let id = c.args.txn_id.now in
    let frame = frame_of_work c.args.work in
    subst (λ (live : Live). Keeps live c.keep.new.self id frame c.keep.result) c.self.view_is
    (subst (λ (log : Log). Keeps c.self.inside.log log id frame c.keep.result) (sym c.keep.ensures.log)
    (keeps c.self.inside.log id c.args.work c.keep.result c.self.invariant c.keep.ensures.live))
