use Rattle.std.proofs.Common.{rules}
use Rattle.txn_parties.specs.declared.event.Event.TheVariants as events
use Rattle.txn_world_wires.specs.Parties.{exchange_of}
use Rattle.txn_world_wires.proofs.Moving.{frame_moves, plain_put}
use Rattle.txn_world_wires.proofs.parties.Parties.put_plain.Goals as goal

pub returns : goal.returns
returns c =
    frame_moves c.args.self.now c.put_frame.new.self (events.Plain c.args.frame.now) c.in_ok-frame.frame c.put_frame.result (λ w h d new t. t)
    (λ sure s. plain_put (exchange_of sure c.args.self.now) c.args.frame.now c.in_ok-frame.frame (search rules) c.in_ok-frame.ensures.copy)
    c.put_frame.ensures.ok c.put_frame.ensures.err
