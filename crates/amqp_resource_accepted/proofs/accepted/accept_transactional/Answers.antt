use Rattle.std.proofs.Common.{◌≡◌, subst, sym}
use Rattle.amqp_resource_accepted.specs.Accepted.{HasBegun, IsListening, IsTransacting}
use Rattle.amqp_resource_accepted.proofs.accepted.accept_transactional.Goals as goal

-- each session is as it was made, over the one below it
pub returns : goal.returns
returns c =
    let begun = c.with_peers_begin-session.ensures in
    let listens = c.new-listener.ensures in
    let over = c.new-session.ensures in
    let begin = c.args.begin in
    let peers = c.args.begun in
    let channel = c.args.channel in
    subst (λ s. IsTransacting (λ kept. kept ≡ c.args.control) s begin peers channel)
    (sym c.new.ensures) (record {
      listening =
          subst (λ l. IsListening (λ kept. kept ≡ c.args.control) l begin peers channel)
          (sym over.below) (record {
            session = subst (λ s. HasBegun s begin peers channel) (sym listens.inner) begun;
            control = listens.control;
            queue = listens.queue;
            held = listens.held;
            own = listens.own;
          });
      stands = over.stands;
      fits = over.fits;
      owed = over.owed;
      runs = over.stop;
      own = over.refusals;
      vetoes = over.vetoes;
    })
