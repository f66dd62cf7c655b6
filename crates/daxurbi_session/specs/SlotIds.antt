-- The ids that a slot's source gives.
use Rattle.std.specs.Prelude.{ℕ, ◌+◌, Option, Some, None}
use Rattle.amqp_below_ids.specs.Listed.{listed}
use Rattle.amqp_below_uuid_ids.specs.Uuids.{uuid_at}
use Rattle.rand_core.specs.Steps.{steps_u32, stream_of}
use Rattle.rand_chacha.specs.ChaCha.{ChaCha, next_word}
use Rattle.amqp_txn_types.specs.declared.id.TransactionId.{TransactionId}
use Rattle.daxurbi_session.specs.declared.slot_ids.SlotIds.{SlotIds}
use Rattle.daxurbi_session.specs.declared.slot_ids.SlotIds.TheVariants as sources

-- the version 4 uuids of what a generator gives, ChaCha with 20 rounds
abbrev pub uuids_of : ChaCha → ℕ → TransactionId
uuids_of rng n = uuid_at (stream_of (steps_u32 (next_word 10)) rng) n

-- the id after n others
abbrev pub ids_of : SlotIds → ℕ → TransactionId
ids_of (sources.Seeded ids) n = uuids_of ids.rng n
ids_of (sources.Listed ids) n = listed ids.ids.items (ids.at + n)

-- the ids from the start on, of a list alone
abbrev pub start_of : SlotIds → Option (ℕ → TransactionId)
start_of (sources.Seeded ids) = None
start_of (sources.Listed ids) = Some (listed ids.ids.items)
