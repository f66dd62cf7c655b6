use Rattle.std.proofs.Common.{◌≡◌, Some, true, ap, subst, sym, refl, ◌∙◌}
use Rattle.std.specs.Prelude.{slice_get, slice_set}
use Rattle.txn_parties.specs.declared.item.Asked.{Asked}
use Rattle.txn_parties.specs.BackWire.{asked_by}
use Rattle.txn_world_wires.specs.Asking.{AreLinked, with_asked}
use Rattle.txn_world_wires.specs.Knowing.{discharging}
use Rattle.txn_world_wires.specs.Known.{Asks, Known}
use Rattle.txn_world_wires.proofs.Linking.{linked_set}
use Rattle.txn_world_wires.proofs.controllers.Controllers.discharge.Goals as goal
use Rattle.txn_world_wires.proofs.controllers.Controllers.discharge.Goals.{then-rollback, else-rollback}

pub invariant_of-self-2 : goal.invariant_of-self-2
invariant_of-self-2 c =
    let transactions = c.self.inside.transactions.items in
    let ended = c.self.inside.ended.items in
    let at : slice_get transactions c.args.number ≡ Some c.args.txn = ap (λ (k : Known). slice_get k.transactions c.args.number) c.self.view_is ∙ c.requires in
    let asked : c.if-rollback.asked ≡ asked_by c.args.rollback = elim c.if-rollback.branch [
      | then-rollback w ↦ w.asked-is ∙ ap asked_by (sym w.if-rollback.true)
      | else-rollback w ↦ w.asked-is ∙ ap asked_by (sym w.if-rollback.false)
    ] in
    subst (λ (a : Asks). AreLinked (slice_set transactions c.args.number (record c.args.txn { sent = true; awaits = Some c.if-rollback.asked })) ended a) (sym c.in_ok-discharge.ensures.ok)
    (subst (λ (q : Asked). AreLinked (slice_set transactions c.args.number (record c.args.txn { sent = true; awaits = Some q })) ended (with_asked c.self.inside.links c.args.number (Some (asked_by c.args.rollback)))) (sym asked)
    (linked_set transactions ended c.self.inside.links c.args.number c.args.txn (discharging c.args.txn c.args.rollback) c.self.invariant at refl))
