use Rattle.std.proofs.lemmas.Bool.{eqb-true, eq-eqb}
use Rattle.amqp_resource_held.proofs.Standing.{stands-new, new-live, new-links, no_items}
use Rattle.amqp_resource_held.proofs.held.keeps_nothing.Goals as goal

pub returns-then-not-is_empty : goal.returns-then-not-is_empty
returns-then-not-is_empty c = (λ x. cc x, λ s. let e = c.is_empty.ensures.1 (new-live c.args.held.now s) in cc (e, c.if-not-is_empty.true))

pub returns-then-not-is_empty-2 : goal.returns-then-not-is_empty-2
returns-then-not-is_empty-2 c = (λ x. cc x, λ s. let e = c.is_empty-2.ensures.1 (new-links c.args.held.now s) in cc (e, c.if-not-is_empty-2.true))

pub returns : goal.returns
returns c =
    let links = no_items c.args.held.now.links.entries (c.is_empty-2.ensures.0 c.if-not-is_empty-2.false) in
    (λ x. stands-new c.args.held.now (c.is_empty.ensures.0 c.if-not-is_empty.false) links (eqb-true c.args.held.now.opened 0 x), λ s. eq-eqb c.args.held.now.opened 0 s.opened)
