use Rattle.std.proofs.Common.{List, take}
use Rattle.std.specs.List.{All}
use Rattle.amqp_txn_types.specs.declared.performatives.Frame.{Frame}
use Rattle.txn_audit_law.specs.Shown.{IsWithinTypes}
use Rattle.txn_audit_law.proofs.within_types.exchanges_are_within_types.Given as goal

abbrev pub invariant-loop-exchange : goal.invariant-loop-exchange
invariant-loop-exchange l = All (λ (exchange : Frame × List Frame). IsWithinTypes exchange.0) (take l.exchange-index l.list)
