use Rattle.std.proofs.Common.{◌<◌, ◌≡◌, List, [], ◌∷◌, ◌++◌, ap, length, subst, sym, ◌∙◌}
use Rattle.txn_parties.specs.declared.item.Asked.TheVariants as asked
use Rattle.txn_world_wires.specs.declared.controllers.Transaction.{Transaction}
use Rattle.txn_world_wires.specs.Asking.{AreLinked, asking_too}
use Rattle.txn_world_wires.specs.Knowing.{new_on}
use Rattle.txn_world_wires.specs.Known.{Asks, Known}
use Rattle.txn_world_wires.proofs.Linking.{linked_declared}
use Rattle.txn_world_wires.proofs.controllers.Controllers.declare.Goals as goal

pub invariant_of-self-2 : goal.invariant_of-self-2
invariant_of-self-2 c =
    let transactions = c.self.inside.transactions.items in
    let ended = c.self.inside.ended.items in
    let l : c.args.link < length ended = subst (λ (k : Known). c.args.link < length k.ended) (sym c.self.view_is) c.requires in
    let is : c.push_reserved.new.self.items ≡ transactions ++ new_on c.args.link ∷ [] = c.push_reserved.ensures.items ∙ ap (λ (ts : List Transaction). ts ++ new_on c.args.link ∷ []) c.in_ok-reserve.ensures.items in
    subst (λ (a : Asks). AreLinked c.push_reserved.new.self.items ended a) (sym c.in_ok-declare.ensures.ok)
    (subst (λ (ts : List Transaction). AreLinked ts ended (asking_too c.self.inside.links asked.Declare)) (sym is)
    (linked_declared transactions ended c.self.inside.links c.args.link c.self.invariant l))
