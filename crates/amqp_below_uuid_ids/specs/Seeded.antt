-- The uuids of a number: those of a generator that is made from it.
use Rattle.std.specs.Prelude.{ℕ, List, [], ◌∷◌, ◌++◌}
use Rattle.std.specs.Int.{w64, to_be_bytes}
use Rattle.rand_core.specs.Stream.{Stream}
use Rattle.rand_core.specs.Steps.{steps_u32, stream_of}
use Rattle.rand_chacha.specs.ChaCha.{next_word, of_seed}
use Rattle.amqp_txn_types.specs.declared.id.TransactionId.{TransactionId}
use Rattle.amqp_below_uuid_ids.specs.Uuids.{uuid_at}

-- eight octets of 0
abbrev pub eight_zeros : List ℕ
eight_zeros = 0 ∷ 0 ∷ 0 ∷ 0 ∷ 0 ∷ 0 ∷ 0 ∷ 0 ∷ []

-- the seed of a number: 24 octets of 0, and the number's eight octets, the highest first
abbrev pub seed_of_number : ℕ → List ℕ
seed_of_number number = eight_zeros ++ eight_zeros ++ eight_zeros ++ to_be_bytes w64 number

-- what the generator of a number gives: the key stream of ChaCha with 8 rounds, from its start
abbrev pub stream_of_number : ℕ → Stream
stream_of_number number = stream_of (steps_u32 (next_word 4)) (of_seed (seed_of_number number))

-- the ids of a number
abbrev pub seeded : ℕ → ℕ → TransactionId
seeded number n = uuid_at (stream_of_number number) n
