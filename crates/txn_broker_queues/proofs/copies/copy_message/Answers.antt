use Rattle.std.proofs.Common.{List, ap, length, rules, sym, ◌<◌, ◌∙◌}
use Rattle.std.proofs.lemmas.Option.{get_or_from_slice_get, slice_get_within}
use Rattle.amqp_txn_types.specs.declared.performatives.Frame.{Frame}
use Rattle.txn_broker_queues.proofs.Copying.{copied, message_is, payload_same}
use Rattle.txn_broker_queues.proofs.copies.copy_message.Goals as goal

pub offset_bounds-taken-mark : goal.offset_bounds-taken-mark
offset_bounds-taken-mark c =
    let k = copied c.args.taken.now c.args.queues.now c.args.number c.in-Some.mark c.requires.stand (sym c.in-Some.ensures) in
    let below : c.in-Some.mark.place < length c.args.taken.now = slice_get_within c.args.taken.now c.in-Some.mark.place k.pair k.at in
    search rules

pub bounds-taken-mark : goal.bounds-taken-mark
bounds-taken-mark c =
    let k = copied c.args.taken.now c.args.queues.now c.args.number c.in-Some.mark c.requires.stand (sym c.in-Some.ensures) in
    slice_get_within c.args.taken.now c.in-Some.mark.place k.pair k.at

pub unreachable-requires-in_default-0₀ : goal.unreachable-requires-in_default-0₀
unreachable-requires-in_default-0₀ c =
    let k = copied c.args.taken.now c.args.queues.now c.args.number c.in-Some.mark c.requires.stand (sym c.in-Some.ensures) in
    c.in_default-0₀.not-Transfer k.transfer k.sent.payload
    (ap (λ (pair : Frame × List Frame). pair.0) (get_or_from_slice_get c.args.taken.now c.in-Some.mark.place k.pair c.index-taken-mark.result k.at)
    ∙ k.is)

pub returns : goal.returns
returns c =
    let k = copied c.args.taken.now c.args.queues.now c.args.number c.in-Some.mark c.requires.stand (sym c.in-Some.ensures) in
    message_is c.args.taken.now c.args.number k.sent c.in_ok-try_clone.field-0 k.message
    (c.in_ok-try_clone.ensures.copy
    ∙ payload_same _ c.in-Transfer.transfer k.transfer c.in-Transfer.payload k.sent.payload c.in-Transfer.is
    (ap (λ (pair : Frame × List Frame). pair.0) (get_or_from_slice_get c.args.taken.now c.in-Some.mark.place k.pair c.index-taken-mark.result k.at)
    ∙ k.is))
