use Rattle.std.proofs.Common.{ap, arith, drop, sym, ◌+◌, ◌∙◌}
use Rattle.std.specs.BTreeMap.{get}
use Rattle.amqp_txn_types.specs.declared.small.Handle.{Handle}
use Rattle.txn_broker_queues.specs.Keeping.{handle_order, refused_by}
use Rattle.txn_broker_queues.proofs.Refusing.{refused_at, refused_next, refused_other}
use Rattle.txn_broker_queues.proofs.reviewing.any_refused.Goals as goal
use Rattle.txn_broker_queues.proofs.reviewing.any_refused.Goals.{in-Transfer+else-is_refused, in_default}

pub loop-frame-preserved : goal.loop-frame-preserved
loop-frame-preserved c =
    let link = λ (h : Handle). get handle_order c.args.links.now h in
    let rest = drop (c.loop-frame.frame-index + 1) c.args.frames.now in
    let here = refused_at link c.loop-frame.number c.loop-frame.frame-index c.args.frames.now c.frame-item.result c.loop-frame-test.true c.frame-item.is in
    elim c.match-frame.branch [
      | in-Transfer+else-is_refused w ↦ record {
        left =
            c.loop-frame.invariant.left ∙ here
            ∙ refused_next link c.loop-frame.number c.match-frame.number c.frame-item.result w.in-Transfer.transfer w.in-Transfer.payload rest w.is_refused.result
            w.in-Transfer.is w.is_refused.ensures w.if-is_refused.false w.number-is;
        bound = omega (arith, w.number-is, c.loop-frame.invariant.bound);
      }
      | in_default w ↦ record {
        left =
            c.loop-frame.invariant.left ∙ here
            ∙ refused_other link c.loop-frame.number c.frame-item.result rest w.in_default.not-Transfer
            ∙ ap (λ n. refused_by link n rest) (sym w.number-is);
        bound = omega (arith, w.number-is, c.loop-frame.invariant.bound);
      }
    ]
