-- What the transactional calls leave of what a session tells.
use Rattle.std.proofs.Common.{◌≡◌, ℕ, ◌≤◌, None, Err, refl, arith}
use Rattle.amqp_below_layer.specs.Told.{Fixed, Steady, Told, Checks}
use Rattle.amqp_txn_types.specs.Counts.{one_more}

-- what is told by a session that tells no list
abbrev pub listless : ℕ → ℕ → Fixed → Told
listless count vetoes fixed = record {
  taken = None;
  opened = None;
  refused = None;
  refusals = count;
  reviews = record { vetoes = vetoes; vetoed = None };
  fixed = fixed;
}

-- the count didn't fall, and below nothing changed that no call changes
pub refused-steady : (n m v : ℕ) (f k : Fixed) → n ≤ m → k ≡ f → Steady (listless n v f) (listless m v k)
refused-steady n m v f k later fixed = record { taken = refl; opened = refl; refused = refl; reviews = refl; fixed = fixed; later = later }

-- a refusal was counted
pub refused-checks : {T E : Type 0} (n m v : ℕ) (f k : Fixed) (error : E) → n ≤ m → k ≡ f → m ≡ one_more n → Checks {T = T} (listless n v f) (listless m v k) (Err error)
refused-checks n m v f k error later fixed count = record { steady = refused-steady n m v f k later fixed; cause = omega (arith, count) }
