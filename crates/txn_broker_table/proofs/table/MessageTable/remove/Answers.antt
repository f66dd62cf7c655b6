use Rattle.txn_broker_table.proofs.Words.{Faded, Linked, arith, length, subst, sym, ◌≡◌}
use Rattle.std.proofs.lemmas.List.{with_items_is}
use Rattle.txn_broker_table.proofs.Fading.{linked_faded}
use Rattle.txn_broker_table.proofs.table.MessageTable.remove.Goals as goal

pub invariant_of-self : goal.invariant_of-self
invariant_of-self c =
    let cells = c.self.inside.cells.items in
    let new = c.remove_range.new.cells in
    let ends = c.self.inside.ends.items in
    let said = c.remove_range.ensures in
    let long : length new ≡ c.self.inside.cells.len = omega (arith, c.remove_range.auto.cells, c.as_mut_slice.ensures.len) in
    let faded : Faded cells new = subst (λ cs. Faded cs new) c.as_mut_slice.ensures.value said.faded in
    subst (λ cs. Linked cs ends) (sym (with_items_is c.self.inside.cells new long))
    (linked_faded cells new ends faded said.fit c.self.invariant)
