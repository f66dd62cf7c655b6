use Rattle.txn_world_wires.proofs.Moving.{cut_moves}
use Rattle.txn_world_wires.proofs.parties.Parties.cut_off.Goals as goal

pub returns : goal.returns
returns c = record { moves = λ sure s. cut_moves sure c.args.self.now s c.if-self.false; err = tt }
