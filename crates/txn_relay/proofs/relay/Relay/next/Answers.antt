use Rattle.std.proofs.Common.{arith, sym}
use Rattle.txn_relay.proofs.Doing.{after_begins, first_begins, made_now, none_begins, start_begins}
use Rattle.txn_relay.proofs.relay.Relay.next.Goals as goal

pub returns-in-Committed : goal.returns-in-Committed
returns-in-Committed c =
    first_begins c.args.self.now c.self.inside.world c.self.inside.work c.self.inside.made c.self.inside.put c.in-Some.last c.first-in-Committed.result c.self.view_is c.self.invariant
    (let last = c.in-Some.ensures in omega (arith, last)) (sym c.in-Committed.ensures) c.first-in-Committed.ensures

pub returns-in-Nothing : goal.returns-in-Nothing
returns-in-Nothing c =
    after_begins c.args.self.now c.self.inside.world c.self.inside.work c.self.inside.made c.self.inside.put c.in-Some.last c.after_declare.result c.self.view_is c.self.invariant
    (let last = c.in-Some.ensures in omega (arith, last)) (sym c.in-Nothing.ensures)
    (c.after_declare.ensures c.in-Some.last
    (made_now c.args.self.now c.self.inside.world c.self.inside.work c.self.inside.made c.self.inside.put c.in-Some.last c.self.view_is c.self.invariant
    (let last = c.in-Some.ensures in omega (arith, last))))

pub returns-in_default : goal.returns-in_default
returns-in_default c =
    start_begins c.args.self.now c.self.inside.world c.self.inside.work c.self.inside.made c.self.inside.put c.first.result c.self.view_is c.self.invariant
    (let none = c.in_default.ensures in omega (arith, none)) c.first.ensures

pub returns-in_default-heard : goal.returns-in_default-heard
returns-in_default-heard c =
    none_begins c.args.self.now c.self.inside.world c.self.inside.work c.self.inside.made c.self.inside.put c.in-Some.last c.heard.result c.self.view_is c.self.invariant
    (let last = c.in-Some.ensures in omega (arith, last)) (sym c.heard.ensures) c.in_default-heard.not-Committed c.in_default-heard.not-Nothing
