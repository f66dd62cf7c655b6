use Rattle.std.proofs.Common.{inr}
use Rattle.txn_world.proofs.Attached.{attach_fails}
use Rattle.txn_world.proofs.beginning.attach_link.Goals as goal

pub returns-in-Err : goal.returns-in-Err
returns-in-Err g c =
    inr (attach_fails _ _ _ _ _ _ _ _ _ _ c.args.entries.now c.in-Ok.step c.args.number c.in-Err.error c.in-Ok.ensures c.requires.runs c.requires.stands c.in-Err.ensures)
