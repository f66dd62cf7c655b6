-- The ids that a source gives, one after another.
use Rattle.std.specs.Prelude.{ℕ, ◌≡◌, ◌+◌, List, [], ◌∷◌, length}
use Rattle.amqp_txn_types.specs.declared.id.TransactionId.{TransactionId}

-- these are the ids of the stream from place n on
abbrev pub AreNext : (ℕ → TransactionId) → ℕ → List TransactionId → Type 0
AreNext ids n [] = Unit {0}
AreNext ids n (d ∷ ds) = (d ≡ ids n) × AreNext ids (n + 1) ds

-- the source gave these ids, and stands after them
pub record Drew (before after : ℕ → TransactionId) (ds : List TransactionId) : Type 0 where
  pub these : AreNext before 0 ds
  pub rest : (n : ℕ) → after n ≡ before (length ds + n)
