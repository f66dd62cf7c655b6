use Rattle.std.proofs.Common.{[], ◌∷◌, refl}
use Rattle.txn_parties.specs.declared.event.Event.TheVariants as events
use Rattle.txn_parties.specs.declared.event.Happened.TheVariants as happenings
use Rattle.txn_relay.proofs.Doing.{goes_last, work_is, work_message}
use Rattle.txn_relay.proofs.relay.Relay.commit.Goals as goal

pub returns : goal.returns
returns c =
    goes_last c.args.self.now c.put-put.new.self (events.Commit c.last.result) happenings.Put refl
    (work_is c.args.self.now (λ txn message. events.Commit txn ∷ []) c.last.result c.requires.1 c.requires c.last.ensures
    (work_message c.args.self.now (λ txn message. events.Commit txn ∷ []) c.last.result c.requires c.last.ensures))
    c.in_ok-put.ensures.ok
