use Rattle.std.proofs.Common.{◌≡◌, Option, Some, None, ap, refl, subst, sym, ◌∙◌}
use Rattle.std.specs.Prelude.{slice_get, slice_set}
use Rattle.txn_world_wires.specs.declared.control_call.Hearing.{Hearing}
use Rattle.txn_world_wires.specs.declared.controllers.Transaction.{Transaction}
use Rattle.txn_world_wires.specs.Asking.{AreLinked, HearsAnswer}
use Rattle.txn_world_wires.specs.Knowing.{hearing, with_transaction}
use Rattle.txn_world_wires.specs.Known.{Asks, Known}
use Rattle.txn_world_wires.proofs.Linking.{asked_there, heard_later, linked_set}
use Rattle.txn_world_wires.proofs.controllers.Controllers.hear.Goals as goal

pub invariant_of-self-in-Some : goal.invariant_of-self-in-Some
invariant_of-self-in-Some c =
    let transactions = c.self.inside.transactions.items in
    let ended = c.self.inside.ended.items in
    let n = c.args.answer.txn in
    let at : slice_get transactions n ≡ Some c.args.txn = ap (λ (k : Known). slice_get k.transactions n) c.self.view_is ∙ c.requires in
    let said : HearsAnswer c.self.inside.links c.hear.new.self n c.args.answer.asked c.args.answer.state (Some c.in-Some.heard) =
    subst (λ (o : Option Hearing). HearsAnswer c.self.inside.links c.hear.new.self n c.args.answer.asked c.args.answer.state o) c.in-Some.is c.in_ok-hear.ensures.ok in
    let later : Transaction = record c.args.txn { id = c.first_of-id.result; verdict = c.first_of-verdict.result; awaits = None } in
    subst (λ (a : Asks). AreLinked (slice_set transactions n later) ended a) (sym said.0)
    (linked_set transactions ended c.self.inside.links n c.args.txn later c.self.invariant at refl)

pub returns-in-Some-clause-ok : goal.returns-in-Some-clause-ok
returns-in-Some-clause-ok c =
    let transactions = c.self.inside.transactions.items in
    let ended = c.self.inside.ended.items in
    let n = c.args.answer.txn in
    let said : HearsAnswer c.self.inside.links c.hear.new.self n c.args.answer.asked c.args.answer.state (Some c.in-Some.heard) =
    subst (λ (o : Option Hearing). HearsAnswer c.self.inside.links c.hear.new.self n c.args.answer.asked c.args.answer.state o) c.in-Some.is c.in_ok-hear.ensures.ok in
    ap (λ (t : Transaction). let k : Known = record { transactions = slice_set transactions n t; ended = ended } in k)
    (heard_later c.args.txn c.args.answer c.in-Some.heard c.first_of-id.result c.first_of-verdict.result c.first_of-id.ensures c.first_of-verdict.ensures said.1)
    ∙ ap (λ (k : Known). with_transaction k n (hearing c.args.txn c.args.answer)) c.self.view_is

pub returns-in-None-clause-ok : goal.returns-in-None-clause-ok
returns-in-None-clause-ok c =
    let transactions = c.self.inside.transactions.items in
    let ended = c.self.inside.ended.items in
    let n = c.args.answer.txn in
    let at : slice_get transactions n ≡ Some c.args.txn = ap (λ (k : Known). slice_get k.transactions n) c.self.view_is ∙ c.requires in
    let said : HearsAnswer c.self.inside.links c.hear.new.self n c.args.answer.asked c.args.answer.state None =
    subst (λ (o : Option Hearing). HearsAnswer c.self.inside.links c.hear.new.self n c.args.answer.asked c.args.answer.state o) c.in-None.is c.in_ok-hear.ensures.ok in
    (c.self.view_is, λ e. said.1 (asked_there transactions ended c.self.inside.links n c.args.txn c.self.invariant at ∙ ap Some e))
