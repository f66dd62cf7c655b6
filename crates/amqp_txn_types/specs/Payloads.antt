-- The octets of a payload, wherever they stand.
use Rattle.std.specs.Prelude.{ℕ, List}
use Rattle.amqp_txn_types.specs.declared.payload.Octets.{Octets}
use Rattle.amqp_txn_types.specs.declared.payload.Octets.TheVariants as places

-- the octets, in place or shared
abbrev pub octets_of : Octets → List ℕ
octets_of (places.InPlace octets) = octets
octets_of (places.Shared octets) = octets.value
