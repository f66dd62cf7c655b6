use Rattle.std.proofs.Common.{ℕ, ◌∙◌, ap}
use Rattle.rand_core.specs.Steps.{steps_u32, stream_of}
use Rattle.rand_chacha.specs.ChaCha.{ChaCha, next_word}
use Rattle.amqp_below_uuid_ids.specs.Uuids.{uuid_at}
use Rattle.amqp_txn_types.specs.declared.id.TransactionId.{TransactionId}
use Rattle.daxurbi_session.proofs.slot_ids.SlotIds.from_seed.Goals as goal

pub returns : goal.returns
returns c n =
    ap (λ (ids : ℕ → TransactionId). ids n)
    (c.new.ensures.next ∙ ap (λ (g : ChaCha). uuid_at (stream_of (steps_u32 (next_word 10)) g)) c.from_seed.ensures)
