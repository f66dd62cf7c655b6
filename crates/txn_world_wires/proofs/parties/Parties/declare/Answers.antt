use Rattle.std.proofs.Common.{rules}
use Rattle.txn_world_wires.proofs.Calls.{declare_puts}
use Rattle.txn_world_wires.proofs.parties.Parties.declare.Goals as goal

pub returns-in-Ok : goal.returns-in-Ok
returns-in-Ok c =
    declare_puts c.args.self.now c.args.link c.in_ok-item.item c.put.new.self c.declare-2.new.self (search rules) (search rules)
    c.in_ok-put.ensures.ok c.in-Ok.ensures.ok
