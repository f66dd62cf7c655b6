-- Events that happened one after another, each with what it did.
use Rattle.std.specs.Prelude.{ℕ, Bool, true, false, List, count_by, map}
use Rattle.txn_parties.specs.declared.event.Happened.{Happened}
use Rattle.txn_parties.specs.declared.event.Happened.TheVariants as happenings

abbrev pub is_skipped : Happened → Bool
is_skipped happenings.Skipped = true
is_skipped _ = false

-- how often nothing happened
abbrev pub skipped_in : {E : Type 0} → List (E × Happened) → ℕ
skipped_in {E} past = count_by (λ (p : E × Happened). is_skipped p.1) past

-- the events of a past
abbrev pub events_of : {E : Type 0} → List (E × Happened) → List E
events_of {E} past = map (λ (p : E × Happened). p.0) past
