use Rattle.std.specs.Prelude.{ℕ}

-- what contracts see of a share: the steps that it counts, and its parts of the ledger
pub record Counted : Type 0 where
  pub count : ℕ
  pub parts : ℕ
