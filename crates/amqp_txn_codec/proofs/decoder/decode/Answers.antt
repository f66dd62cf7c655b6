use Rattle.std.proofs.Common.{◌≡◌, Ok, ap, subst}
use Rattle.amqp_txn_codec.specs.declared.message.ControlMessageBody.{ControlMessageBody}
use Rattle.amqp_txn_codec.specs.Messages.{SpellsMessage}
use Rattle.amqp_txn_codec.proofs.Wholes.{walk-spells, spelled-walks, one_message}
use Rattle.amqp_txn_codec.proofs.Readings.{spelled-read, none-read}
use Rattle.amqp_txn_codec.proofs.decoder.decode.Goals as goal

pub returns-in-Some-clause-exact : goal.returns-in-Some-clause-exact
returns-in-Some-clause-exact c = λ l.
    let bytes = c.args.bytes.now in
    let m = c.in-Some.message in
    let here : SpellsMessage bytes m = walk-spells bytes m c.in-Some.ensures in
    (λ s. let same : m ≡ l = one_message bytes m l here s in ap (λ (z : ControlMessageBody). Ok z) same, λ e. let same : m ≡ l = cc in subst (SpellsMessage bytes) same here)

pub returns-in-Some-clause-message : goal.returns-in-Some-clause-message
returns-in-Some-clause-message c = spelled-read _ _ (walk-spells _ _ c.in-Some.ensures)

pub returns-in-None-clause-exact : goal.returns-in-None-clause-exact
returns-in-None-clause-exact c = λ l. (λ s. absurd (c.in-None.ensures l (spelled-walks c.args.bytes.now l s)), λ e. cc)

pub returns-in-None-clause-message : goal.returns-in-None-clause-message
returns-in-None-clause-message c = none-read _ (λ m s. c.in-None.ensures m (spelled-walks _ m s))
