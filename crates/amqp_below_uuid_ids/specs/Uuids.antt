-- Version 4 uuids (RFC 9562, section 5.4).
use Rattle.std.specs.Prelude.{ℕ, zero, suc, ◌+◌, ◌%◌, List, slice_index, slice_set}
use Rattle.rand_core.specs.Stream.{Stream, fill_bytes}
use Rattle.amqp_txn_types.specs.declared.id.TransactionId.{TransactionId}

-- the octets with the variant of RFC 9562: the two high bits of octet 8 are 10
abbrev pub with_variant : List ℕ → List ℕ
with_variant octets = slice_set octets 8 (slice_index octets 8 % 64 + 128)

-- the octets with version 4: the four high bits of octet 6 are 0100
abbrev pub with_version : List ℕ → List ℕ
with_version octets = slice_set octets 6 (slice_index octets 6 % 16 + 64)

-- the version 4 uuid of sixteen octets
abbrev pub uuid_of : List ℕ → List ℕ
uuid_of octets = with_version (with_variant octets)

-- the uuid after n others of a generator's stream, of which each takes sixteen octets
abbrev pub uuid_at : Stream → ℕ → TransactionId
uuid_at stream zero = uuid_of (fill_bytes 16 stream).0
uuid_at stream (suc n) = uuid_at (fill_bytes 16 stream).1 n
