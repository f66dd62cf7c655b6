use Rattle.std.proofs.Common.{arith, sym}
use Rattle.txn_relay.proofs.Doing.{last_counts, none_count, others_count}
use Rattle.txn_relay.proofs.relay.Relay.committed.Goals as goal

pub returns-in-Committed : goal.returns-in-Committed
returns-in-Committed c =
    last_counts c.args.self.now c.self.inside.world c.self.inside.work c.self.inside.made c.self.inside.put c.in-Some.last c.self.view_is c.self.invariant
    (let last = c.in-Some.ensures in omega (arith, last)) (sym c.in-Committed.ensures)

pub returns-in_default : goal.returns-in_default
returns-in_default c =
    none_count c.args.self.now c.self.inside.world c.self.inside.work c.self.inside.made c.self.inside.put c.self.view_is c.self.invariant
    (let none = c.in_default.ensures in omega (arith, none))

pub returns-in_default-heard : goal.returns-in_default-heard
returns-in_default-heard c =
    others_count c.args.self.now c.self.inside.world c.self.inside.work c.self.inside.made c.self.inside.put c.in-Some.last c.heard.result c.self.view_is c.self.invariant
    (let last = c.in-Some.ensures in omega (arith, last)) (sym c.heard.ensures) c.in_default-heard.not-Committed
