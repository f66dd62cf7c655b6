use Rattle.std.proofs.Common.{take}
use Rattle.amqp_below_ids.specs.contracts.list_ids.ListIdsIdSource.TheImpl.{next-value, start-value}
use Rattle.txn_relay.specs.Playing.{HadAll}
use Rattle.txn_relay.proofs.playing.play.Given as goal

abbrev pub invariant-loop-event : goal.invariant-loop-event
invariant-loop-event l = HadAll (record { next = next-value.it; start = start-value.it }) l.initial.relay l.relay (take l.event-index l.events) l.skipped
