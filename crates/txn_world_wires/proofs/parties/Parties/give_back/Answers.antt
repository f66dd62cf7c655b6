use Rattle.std.proofs.Common.{Bool, rules, subst, sym}
use Rattle.txn_world_wires.specs.Knowing.{Hears}
use Rattle.txn_world_wires.proofs.Calls.{return_heard, return_none, return_unasked}
use Rattle.txn_world_wires.proofs.parties.Parties.give_back.Goals as goal

pub returns-in_default-find : goal.returns-in_default-find
returns-in_default-find c = return_none c.args.self.now c.in-Some.answer.now (sym c.in-Some.ensures) (search rules)

pub returns-then-not-branch : goal.returns-then-not-branch
returns-then-not-branch c =
    let heard = subst (λ (b : Bool). Hears c.args.self.now.controllers c.hear.new.self c.in-Some-find.txn c.in-Some.answer.now b) c.if-not-branch.true c.in_ok-hear.ensures.ok in
    return_unasked c.args.self.now c.in-Some.answer.now c.in-Some-find.txn c.hear.new.self (sym c.in-Some.ensures) (sym c.in-Some-find.ensures) heard.1 heard.0

pub returns : goal.returns
returns c =
    return_heard c.args.self.now c.in-Some.answer.now c.in-Some-find.txn c.hear.new.self c.if-self.false (sym c.in-Some.ensures) (sym c.in-Some-find.ensures)
    (subst (λ (b : Bool). Hears c.args.self.now.controllers c.hear.new.self c.in-Some-find.txn c.in-Some.answer.now b) c.if-not-branch.false c.in_ok-hear.ensures.ok)
