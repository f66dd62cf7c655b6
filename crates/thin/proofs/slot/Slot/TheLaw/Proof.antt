-- The law of `&Slot`: where the value may be lent, so may the slot. Assumes `Logic`.
use mathlib.Core.List.{[], ◌++◌}
use base.Fraction.{full_share}
use base.Fml.{Incl-trans, ftrue, ffalse}
use seplogic.Ra.Ura.{Ura}
use types.Logic.{Logic}
use contract.BorrowLft.{meet_⊑_left}
use mir.Raw.{raw as bare}
use denote.RattleType.{RattleType}
use denote.Memory.{lone}
use denote.RawPtr.{Ptr, block_ptr, null_ptr, lies_at}
use denote.Shares.{Shares-less}
use denote.Sharing.{ShrLaws, said}
use denote.SharingLaws.{said_shr_laws, beside_shr_laws}
use denote.Param.Laws.{Laws}
use denote.Param.Shared.{copy_shared}
use denote.Struct.Field.{RawPtr-field}
use denote.Struct.Laws.{RawPtr-copy}
use denote.Struct.Lending.{Lends, lent_at, lent_at_shr_laws, Lends-lies, Lends-first, Lends-both, Lends-said, Lends-nothing, Lends-false, of_Lends}
use Rattle.std.specs.Prelude.{Option, None, Some}
use Rattle.thin.specs.Slot.{held, shown, testable, boxed, chunk}
use Rattle.thin.specs.contracts.slot.Slot as C
use Rattle.thin.proofs.slot.Slot.TheLaw.Statement.{statement}

module _ (T : RattleType) (L : Laws T) where
  laws : (p : Ptr) (v : Option T.Denot) → ShrLaws (shown T p v)
  laws null_ptr None = said_shr_laws ftrue tt
  laws null_ptr (Some x) = said_shr_laws ffalse tt
  laws (block_ptr b o) None = said_shr_laws ffalse tt
  laws (block_ptr b o) (Some x) = beside_shr_laws (said (testable (block_ptr b o))) (lent_at T (block_ptr b o) x) (said_shr_laws (testable (block_ptr b o)) (λ t. tt)) (lent_at_shr_laws T L.shr_laws (block_ptr b o) x)

  lends : {M : Type 1} {𝓤 : Ura M} (𝓛 : Logic 𝓤) (p : Ptr) (v : Option T.Denot) → Lends 𝓛 (held T p v) (shown T p v) (C.the_row T).lives
  lends 𝓛 null_ptr None = Lends-nothing 𝓛 ftrue (C.the_row T).lives
  lends 𝓛 null_ptr (Some x) = Lends-false 𝓛 (said ffalse) (C.the_row T).lives
  lends 𝓛 (block_ptr b o) None = Lends-false 𝓛 (said ffalse) (C.the_row T).lives
  lends 𝓛 (block_ptr b o) (Some x) =
      let p : Ptr = block_ptr b o in let l = (C.the_row T).lives in
      Lends-both 𝓛 (testable p) (boxed T p x) (said (testable p)) (lent_at T p x) l (Lends-said 𝓛 (testable p) (λ t. tt) l)
      (Lends-first 𝓛 (lies_at T full_share p x) (chunk (bare (lone T.mir)) p) (lent_at T p x) l
      (Lends-lies 𝓛 T l p x (Shares-less 𝓛 T T.lives l (Incl-trans (meet_⊑_left (T.lives ++ []) _) (meet_⊑_left T.lives [])) (L.shares 𝓛) x)))

pub shares : (T : RattleType) (L : Laws T) → statement T L
shares T L = of_Lends (C.struct T) (C.the_codes T.Denot T.coded) (C.the_heap T) (C.the_lent T) (λ d p. laws T L d.at d.value) (copy_shared RawPtr-field RawPtr-copy, tt) (λ M 𝓤 𝓛 d p. lends T L 𝓛 d.at d.value)
