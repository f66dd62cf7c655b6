use Rattle.std.proofs.Common.{[], ◌∷◌, ap, sym, ◌∙◌}
use Rattle.txn_parties.specs.declared.event.Event.TheVariants as events
use Rattle.txn_relay.specs.Moves.{retirement_of, work_of}
use Rattle.txn_relay.proofs.Doing.{goes_more, work_is, work_message}
use Rattle.txn_relay.proofs.relay.Relay.post.Goals as goal

pub returns : goal.returns
returns c =
    let at = work_message c.args.self.now work_of c.last-txn.result c.requires c.last-txn.ensures in
    let is = work_is c.args.self.now work_of c.last-txn.result c.requires.1 c.requires c.last-txn.ensures at in
    goes_more c.args.self.now c.put-put.new.self c.retire.new.self c.in_ok-event.event (retirement_of c.last-txn.result c.requires.1) (events.Commit c.last-txn.result ∷ []) c.retire.result
    (is ∙ ap (λ e. e ∷ retirement_of c.last-txn.result c.requires.1 ∷ events.Commit c.last-txn.result ∷ []) (sym (c.in_ok-event.ensures c.requires.1 at)))
    c.in_ok-put.ensures.ok c.retire.ensures
