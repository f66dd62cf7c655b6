-- The octets of a string, wherever they stand.
use Rattle.std.specs.Prelude.{ℕ, List}
use Rattle.amqp_txn_types.specs.declared.binary.Octets.{Octets}
use Rattle.amqp_txn_types.specs.declared.binary.Octets.TheVariants as places

-- the octets, in place or in a list
abbrev pub octets_of : Octets → List ℕ
octets_of (places.InPlace octets) = octets
octets_of (places.Listed octets) = octets
