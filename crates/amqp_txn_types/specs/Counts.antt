-- Counts that stop at their last value, 2 ^ 64 - 1.
use Rattle.std.specs.Prelude.{ℕ, ◌+◌, ◌-◌, ◌^◌, ◌≤◌, min, Result, Ok, Err}

-- one more
abbrev pub one_more : ℕ → ℕ
one_more count = min (count + 1) (2 ^ 64 - 1)

-- a count after an answer: one more where that is an Err
abbrev pub counted : {T E : Type 0} → Result T E → ℕ → ℕ
counted (Ok value) count = count
counted (Err error) count = one_more count

-- a count rose, or stands at its last value
abbrev pub Rose : ℕ → ℕ → Type 0
Rose before now = one_more before ≤ now
