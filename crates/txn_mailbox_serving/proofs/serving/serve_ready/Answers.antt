use Rattle.std.proofs.Common.{◌≡◌, ◌+◌, ◌∙◌, ◌++◌, ◌∷◌, ap, sym, subst, length, arith, List}
use Rattle.crossbeam_queue.specs.Passes.{view}
use Rattle.amqp_resource_record.specs.declared.step.Step.{Step}
use Rattle.txn_mailbox_queue.specs.declared.item.Item.{Item}
use Rattle.txn_mailbox_queue.specs.declared.item.View.{View}
use Rattle.txn_mailbox_queue.specs.Order.{count}
use Rattle.txn_mailbox_serving.specs.Steps.{first_attach, second_attach, senders_of}
use Rattle.txn_mailbox_serving.specs.Serving.{SoFar}
use Rattle.txn_mailbox_serving.proofs.Coming.{came-whole, whole_view}
use Rattle.txn_mailbox_serving.proofs.Running.{serves-all}
use Rattle.txn_mailbox_serving.proofs.serving.serve_ready.Goals as goal

pub returns : goal.returns
returns g c =
    let first : List Step = c.args.ready.copies.first.items in
    let second : List Step = c.args.ready.copies.second.items in
    let b = c.serve_beside-seats.ensures in
    let seats = c.serve_beside-seats.result.0 in
    let server = c.serve_beside-seats.result.1 in
    let all : View = view c.take_in_second.new.pass in
    let taken : List Item = (view seats.server).taken in
    let w = whole_view (view seats.server) (view seats.first) (view seats.second) (view c.take_in_first.new.pass) all g.L.Lengths.first g.L.Lengths.second c.take_in_first.ensures.view c.take_in_second.ensures.view b.first.1 b.second.1 in
    let left = c.count_items.ensures.left in
    let lists = c.requires.lists in
    let of_first : count 0 (taken ++ left.0) ≡ length first = ap (λ (l : List Item). count 0 (l ++ left.0)) (sym w.0) ∙ left.2 ∙ w.1 ∙ lists.0 in
    let of_second : count 1 (taken ++ left.0) ≡ length second = ap (λ (l : List Item). count 1 (l ++ left.0)) (sym w.0) ∙ left.3 ∙ w.2 ∙ lists.1 in
    let total : length taken + length left.0 ≡ length first + length second = omega (arith, ap length w.0, left.4, w.1, w.2, lists.0, lists.1) in
    let many : length taken ≡ length first + length second = omega (arith, b.all, lists.0, lists.1) in
    let steps = b.served.steps in
    let came = came-whole first second taken left.0 steps b.served.came of_first of_second total many in
    let one =
    subst
    (λ (s : Step). SoFar g.S.Tells.told g.S.LayerBelow.sure g.G.IdSource.next g.G.IdSource.start c.args.session c.args.ids (2 ∷ 2 ∷ senders_of taken) (s ∷ c.args.ready.second_attach ∷ steps) server)
    c.requires.attaches.0 b.served.served in
    let both =
    subst
    (λ (s : Step). SoFar g.S.Tells.told g.S.LayerBelow.sure g.G.IdSource.next g.G.IdSource.start c.args.session c.args.ids (2 ∷ 2 ∷ senders_of taken) (first_attach ∷ s ∷ steps) server)
    c.requires.attaches.1 one in
    rw c.into_served.ensures (serves-all c.args.session c.args.ids first second (senders_of taken) steps server came both)
