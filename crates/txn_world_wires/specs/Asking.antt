-- What is asked on the control links, and heard.
use Rattle.std.specs.Prelude.{ℕ, ◌≡◌, ◌<◌, Bool, Option, Some, None, List, [], ◌∷◌, ◌++◌, slice_get, slice_set, length, map}
use Rattle.txn_parties.specs.declared.item.Asked.{Asked}
use Rattle.txn_parties.specs.declared.item.ReplyState.{ReplyState}
use Rattle.txn_world_wires.specs.declared.control_call.Hearing.{Hearing}
use Rattle.txn_world_wires.specs.declared.controllers.Transaction.{Transaction}
use Rattle.txn_world_wires.specs.Answers.{hearing_by}
use Rattle.txn_world_wires.specs.Known.{Asks}

-- with a request of a new transaction
abbrev pub asking_too : Asks → Asked → Asks
asking_too asks request = record asks { asked = asks.asked ++ Some request ∷ [] }

-- with another request of the transaction with this number, or none
abbrev pub with_asked : Asks → ℕ → Option Asked → Asks
with_asked asks number request = record asks { asked = slice_set asks.asked number request }

-- what the transaction heard of the answer to its request, which it no longer awaits; or it made
-- no such request
abbrev pub HearsAnswer : Asks → Asks → ℕ → Asked → ReplyState → Option Hearing → Type 0
HearsAnswer old new number request state None =
    (new ≡ old) × (slice_get old.asked number ≡ Some (Some request) → ⊥)
HearsAnswer old new number request state (Some heard) =
    (new ≡ with_asked old number None) × (heard ≡ hearing_by request state)

-- what the controllers know is what was asked on their links: each transaction awaits the answer to
-- its request there, and its link is one of theirs
pub record AreLinked (transactions : List Transaction) (ended : List Bool) (asks : Asks)
    : Type 0 where
  pub links : asks.links ≡ length ended
  pub asked : asks.asked ≡ map (λ (txn : Transaction). txn.awaits) transactions
  pub within : (number : ℕ) (txn : Transaction) → slice_get transactions number ≡ Some txn
      → txn.link < length ended
