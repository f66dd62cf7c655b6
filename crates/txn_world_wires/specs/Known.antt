-- What contracts see of the controllers, and of what transactions asked on their links.
use Rattle.std.specs.Prelude.{ℕ, Bool, Option, List}
use Rattle.txn_parties.specs.declared.item.Asked.{Asked}
use Rattle.txn_world_wires.specs.declared.controllers.Transaction.{Transaction}

-- the controllers: their transactions by number, and of each link whether its end was sent
pub record Known : Type 0 where
  pub transactions : List Transaction
  pub ended : List Bool

-- the ends of so many links, and of each transaction, by number, what it asked on one and awaits
pub record Asks : Type 0 where
  pub links : ℕ
  pub asked : List (Option Asked)
