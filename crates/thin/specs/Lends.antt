-- What a slot holds once a `&mut` into it is over.
use Rattle.std.specs.Prelude.{Some}
use Rattle.std.specs.Borrow.{Lends, MutBor, Fml}
use denote.RattleType.{RattleType}
use Rattle.thin.specs.declared.slot.Slot.{Slot}
use Rattle.thin.specs.contracts.slot.Slot.{the_row}

abbrev pub with_value : {X : Type 0} → Slot X → X → Slot X
with_value s w = record { at = s.at; value = Some w }

-- the last value behind r
abbrev pub slot_lends : (R : RattleType) → MutBor (Slot R.Denot) → MutBor R.Denot → Fml
slot_lends R s r = Lends (the_row R) R s r (with_value s.now)
