use Rattle.std.proofs.Common.{[], ◌∷◌, ap, sym, ◌∙◌}
use Rattle.txn_parties.specs.declared.event.Event.TheVariants as events
use Rattle.txn_relay.specs.Moves.{retirement_of}
use Rattle.txn_relay.proofs.Doing.{goes_more, work_is, work_message}
use Rattle.txn_relay.proofs.relay.Relay.retire.Goals as goal

pub returns : goal.returns
returns c =
    let at = work_message c.args.self.now (λ txn message. retirement_of txn message ∷ events.Commit txn ∷ []) c.last-txn.result c.requires c.last-txn.ensures in
    let is = work_is c.args.self.now (λ txn message. retirement_of txn message ∷ events.Commit txn ∷ []) c.last-txn.result c.requires.1 c.requires c.last-txn.ensures at in
    goes_more c.args.self.now c.put-put.new.self c.commit.new.self c.retirement_of-event.result (events.Commit c.last-txn.result) [] c.commit.result
    (is ∙ ap (λ e. e ∷ events.Commit c.last-txn.result ∷ []) (sym (c.retirement_of-event.ensures c.requires.1 at)))
    c.in_ok-put.ensures.ok c.commit.ensures
