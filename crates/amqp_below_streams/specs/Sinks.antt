-- What a sink in memory holds.
use Rattle.std.specs.Prelude.{ℕ, List}

-- the octets that were written, and for how many more there is room
pub record Written : Type 0 where
  pub octets : List ℕ
  pub spare : ℕ
