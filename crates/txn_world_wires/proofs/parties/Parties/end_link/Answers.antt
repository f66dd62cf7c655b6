use Rattle.std.proofs.Common.{rules}
use Rattle.txn_world_wires.proofs.Calls.{end_puts}
use Rattle.txn_world_wires.proofs.parties.Parties.end_link.Goals as goal

pub returns : goal.returns
returns c =
    end_puts c.args.self.now c.args.link c.link_end.result c.put.new.self c.end.new.self (search rules) (search rules)
    c.in_ok-put.ensures.ok c.end.ensures
