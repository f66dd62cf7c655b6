use Rattle.std.proofs.Common.{List, ap, sym}
use Rattle.std.proofs.lemmas.List.Elements.{All-map, All-same}
use Rattle.amqp_txn_types.specs.declared.performatives.Frame.{Frame}
use Rattle.txn_audit_law.specs.Reported.{frames_taken}
use Rattle.txn_audit_law.specs.Shown.{IsWithinTypes}
use Rattle.txn_audit_law.proofs.Lists.{more, whole}
use Rattle.txn_audit_law.proofs.within_types.exchanges_are_within_types.Goals as goal

pub loop-exchange-preserved : goal.loop-exchange-preserved
loop-exchange-preserved c =
    more (λ (exchange : Frame × List Frame). IsWithinTypes exchange.0) c.as_slice-list.result.now c.loop-exchange.exchange-index c.exchange-item.result c.loop-exchange-test.true c.exchange-item.is c.loop-exchange.invariant c.frame_is_within_types.ensures

pub returns : goal.returns
returns c =
    let list = c.as_slice-list.result.now in
    All-same IsWithinTypes (frames_taken c.args.exchanges.now) (frames_taken list) (ap frames_taken (sym c.as_slice-list.ensures))
    (All-map IsWithinTypes (λ (exchange : Frame × List Frame). exchange.0) list
    (whole (λ (exchange : Frame × List Frame). IsWithinTypes exchange.0) list c.loop-exchange.exchange-index c.loop-exchange-test.false c.loop-exchange.invariant))
