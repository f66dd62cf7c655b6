use Rattle.std.proofs.Common.{rules}
use Rattle.amqp_txn_types.specs.declared.performatives.Frame.TheVariants as frames
use Rattle.amqp_accept_listener.specs.ListenerLaws.{heard-leaves}
use Rattle.amqp_accept_at_once.proofs.Opening.{leaves-accepted}
use Rattle.amqp_accept_at_once.proofs.hearing.hear_attach.Goals as goal

-- a name that waits: the attach is the listener's alone
pub returns-in-Waiting-clause-opens : goal.returns-in-Waiting-clause-opens
returns-in-Waiting-clause-opens g c =
    let heard = c.on_incoming_attach in
    let left = heard-leaves g.S.Tells.told g.S.Session.kept g.S.Session.names g.S.Session.accepts_at_once
    g.S.LayerBelow.incoming_gives g.met.S.Session.incoming_leaves c.args.listener.now heard.new.self
    (frames.Attach c.args.attach) heard.result heard.ensures.gives in
    let leaves = leaves-accepted _ _ _ _ _ c.args.attach heard.result left in
    search (rules, leaves)
