use Rattle.std.proofs.Common.{rules}
use Rattle.txn_world_wires.proofs.Calls.{discharge_puts, discharge_skips}
use Rattle.txn_world_wires.proofs.parties.Parties.discharge.Goals as goal

pub returns-in_default : goal.returns-in_default
returns-in_default c = discharge_skips c.args.self.now c.args.number c.args.rollback (search rules)

pub returns-in-Ok : goal.returns-in-Ok
returns-in-Ok c =
    discharge_puts c.args.self.now c.args.number c.args.rollback c.in-Some.txn c.in-Some.id c.in_ok-item.item c.put.new.self c.discharge-2.new.self
    (search rules) (search rules) c.in_ok-put.ensures.ok c.in-Ok.ensures.ok
