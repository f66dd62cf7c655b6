use Rattle.std.proofs.Common.{sym}
use Rattle.txn_parties.specs.declared.event.Event.TheVariants as events
use Rattle.txn_world_wires.specs.Putting.{retired}
use Rattle.txn_world_wires.proofs.Calls.{under_put}
use Rattle.txn_world_wires.proofs.Moving.{frame_moves}
use Rattle.txn_world_wires.proofs.parties.Parties.retire.Goals as goal

pub returns-in_ok-frame-in-Some : goal.returns-in_ok-frame-in-Some
returns-in_ok-frame-in-Some c =
    frame_moves c.args.self.now c.put_frame.new.self (events.Retire c.args.txn c.args.disposition.now c.args.outcome.now) c.in_ok-frame-in-Some.frame c.put_frame.result (λ w h d new t. t)
    (λ sure s. under_put sure c.args.self.now c.args.txn (λ t. retired t c.args.disposition.now c.args.outcome.now) c.in-Some.id c.in_ok-frame-in-Some.frame s (sym c.in-Some.ensures) c.in_ok-frame-in-Some.ensures)
    c.put_frame.ensures.ok c.put_frame.ensures.err
