use Rattle.std.proofs.Common.{subst}
use Rattle.txn_relay.specs.Relaying.{Holds}
use Rattle.txn_relay.proofs.Doing.{relay_of}
use Rattle.txn_relay.proofs.Telling.{holds}
use Rattle.txn_relay.proofs.relay.Relay.world.Goals as goal

pub returns-clause-holds : goal.returns-clause-holds
returns-clause-holds c = subst Holds c.self.view_is (holds (relay_of c.self.inside.world c.self.inside.work) c.self.inside.made c.self.inside.put c.self.invariant)
