use Rattle.std.proofs.Common.{◌∙◌}
use Rattle.txn_world.proofs.Seen.{entries_are}
use Rattle.txn_world.proofs.world.World.into_parts.Goals as goal

pub returns-clause-entries : goal.returns-clause-entries
returns-clause-entries g c =
    c.into_entries.ensures ∙ entries_are g.S.LayerBelow.sure c.self.inside.session c.self.inside.ids c.self.inside.parties c.args.self c.self.view_is c.self.invariant.0
