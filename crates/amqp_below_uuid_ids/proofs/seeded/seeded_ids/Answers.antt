use Rattle.std.proofs.Common.{◌∙◌, ap}
use Rattle.rand_core.specs.Steps.{steps_u32, stream_of}
use Rattle.rand_chacha.specs.ChaCha.{ChaCha, next_word, of_seed}
use Rattle.amqp_below_uuid_ids.specs.Uuids.{uuid_at}
use Rattle.amqp_below_uuid_ids.proofs.seeded.seeded_ids.Goals as goal

pub returns-clause-next : goal.returns-clause-next
returns-clause-next c =
    c.new.ensures.next
    ∙ ap (λ (g : ChaCha). uuid_at (stream_of (steps_u32 (next_word 4)) g)) (c.from_seed.ensures ∙ ap of_seed c.seed_of_number.ensures)
