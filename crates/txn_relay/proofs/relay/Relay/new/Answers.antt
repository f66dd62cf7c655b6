use Rattle.std.proofs.Common.{arith}
use Rattle.txn_relay.proofs.Doing.{relay_of}
use Rattle.txn_relay.proofs.Starting.{ready_within, stands_ready}
use Rattle.txn_relay.proofs.Telling.{holds}
use Rattle.txn_relay.proofs.relay.Relay.new.Goals as goal

pub prove-unreachable-requires : goal.prove-unreachable-requires
prove-unreachable-requires c =
    let within = ready_within c.args.world c.args.work c.below.result.now c.message_count-numbered.result c.requires c.below.ensures c.message_count-numbered.ensures in
    let long = c.len.ensures in
    let more = c.if-prove.true in
    omega (arith, within, long, more)

pub invariant_of-result : goal.invariant_of-result
invariant_of-result c =
    let within = ready_within c.args.world c.args.work c.below.result.now c.message_count-numbered.result c.requires c.below.ensures c.message_count-numbered.ensures in
    let most = c.message_count-numbered.type_inv in
    stands_ready c.args.world c.args.work c.requires (omega (arith, within, most))

pub returns-clause-holds : goal.returns-clause-holds
returns-clause-holds c =
    let within = ready_within c.args.world c.args.work c.below.result.now c.message_count-numbered.result c.requires c.below.ensures c.message_count-numbered.ensures in
    let most = c.message_count-numbered.type_inv in
    holds (relay_of c.args.world c.args.work) 0 0 (stands_ready c.args.world c.args.work c.requires (omega (arith, within, most)))
