-- Steps that the walks of a `Slot` share. Assumes `Logic`.
--     word, word_good           the machine value of a slot, which has the slot's type
--     slot_out, slot_in         a slot is taken apart into what its pointer owns, and put together
--     tested                    a box's pointer may be compared with null
--     held_some, shown_some     a slot that holds something has the pointer of a box
--     slot_shown, shown_tells   a `&` to a slot reads its pointer, which is null where it's empty
--     ptr_in, ptr_out           a pointer is read through a `&`, and the `&` is given back
use Rattle.std.proofs.Common.{◌≡◌, ℕ, ◌+◌, List, [], ◌∷◌, ◌++◌, refl, sym, ap, ◌∙◌, subst}
use lib.Dec.{T, lit<}
use seplogic.Ra.Ura.{Ura}
use mir.Raw.{raw as bare}
use mir.Syntax.{ty_ptr, Dict, impl, tcons, tnil, dnil}
use mir.Val.{Val, vnull, ptr_same, vstruct, vcons, vnil, of_list, has_ty, WT}
use base.Logic.{ent, guard, via, snd∗, guard_i, never, never_e, id⊢}
use base.Fml.{Lft, Share, Fml, ftrue, fat, flft, fhide}
use types.Logic.{Logic, sem}
use types.Kit.{Item, Goal, Soaks, Seq, Step, step, ‵, ◌⊛◌, given, ◌$◌, move, drop, use1, split, learn, rewrite, fsplit, fjoin, fpick, fpack, feq_i, feq_l}
use contract.Monad.{fact_use}
use denote.RattleType.{RattleType, Valss}
use denote.Builtin.{RawPtr}
use denote.Memory.{lone, cell_at, part_at, hidden_shr}
use denote.Copied.{plain_Copied}
use denote.Opens.{unhide, hide, Shut}
use denote.Exit.{no}
use denote.Param.{layout, arg}
use denote.Param.Laws.{Laws, arg_laws}
use denote.RawPtr.{Ptr, block_ptr, null_ptr, ptr_val, coded_ptr, ptr_own, rawptr_pure, lies_at, Testable}
use denote.Steps.{nothing, looks, shuts}
use denote.Struct.Laws.{RawPtr-laws}
use denote.Struct.Struct.{Struct, within}
use denote.Struct.Lending.{lent_out}
use denote.Struct.Owning.{shape}
use Rattle.core.proofs.atomic.Steps.{Ptr-Good}
use Rattle.std.proofs.GlobalToken.{dealloc_token-Testable}
use Rattle.std_alloc.proofs.BoxSteps.Form.{Bx}
use Rattle.std_heap.specs.declared.Global.{Global}
use Rattle.std_heap.specs.contracts.Global as heap
use Rattle.std_heap.proofs.Global.TheLaws as heap_laws
use Rattle.std_heap.specs.contracts.GlobalAllocator.TheImpl.{ghosts, dict}
use Rattle.std.specs.Prelude.{Option, None, Some, IsSome, is_none}
use Rattle.thin.specs.Slot.{held, shown, boxed, chunk}
use Rattle.thin.specs.contracts.slot.Slot.{the_row, the_type, struct, the_codes, the_heap, the_lent}

abbrev pub word : Ptr → Val
word p = vstruct (vcons (ptr_val p) vnil)

abbrev pub full : (R : RattleType) → Ptr → R.Denot → (the_row R).Denot
full R p x = record { at = p; value = Some x }

module _ (R : RattleType) where
  pub word_good : (p : Ptr) → T (has_ty (layout (the_row R)) (word p)) × WT (word p)
  word_good (block_ptr b o) = (tt, (tt, tt))
  word_good null_ptr = (tt, ((Ptr-Good null_ptr).1, tt))

  module _ {M : Type 1} {𝓤 : Ura M} {𝓛 : Logic 𝓤} {K : Type 0} {Γ : List (Item 𝓤)} {G : Goal 𝓤 𝓛.H} where
    pub slot_out : K → (d : (the_row R).Denot) (vs : List Val) → (vs ≡ word d.at ∷ [] → Seq K 𝓛 (‵ (held R d.at d.value) ∷ Γ) G) → Seq K 𝓛 (‵ ((the_row R).own_val d vs) ∷ Γ) G
    slot_out t d vs k = fsplit t $ fpick t (λ vss. fsplit t $ feq_l t (λ ev. fsplit t $ feq_l t (λ ep. drop t $ k (ev ∙ ap (λ (us : List Val). vstruct (of_list (us ++ [])) ∷ []) ep))))

    pub slot_in : K → (d : (the_row R).Denot) → Step K 𝓛 (‵ ((the_row R).own_val d (word d.at ∷ [])) ∷ Γ) G (‵ (held R d.at d.value) ∷ Γ) G
    slot_in t d = step (λ s. let v : Val = word d.at in
        nothing t $ feq_i t (List Val) (ptr_val d.at ∷ []) (ptr_val d.at ∷ []) refl $ fjoin t $ feq_i t (List Val) (v ∷ []) (v ∷ []) refl $ fjoin t $
        fpack t (Valss (RawPtr ∷ [])) (within (shape (the_type R)) (d.at, tt) (v ∷ [])) (ptr_val d.at ∷ [], tt) $ fjoin t $ s)

  pub tested : {M : Type 1} {𝓤 : Ura M} (𝓛 : Logic 𝓤) (a : Global) (p : Ptr) (x : R.Denot) → ent 𝓤 (sem 𝓛 (boxed R p x)) (guard 𝓤 (Testable p) (sem 𝓛 (boxed R p x)))
  tested {𝓤 = 𝓤} 𝓛 a p x = fact_use 𝓤 (Testable p) (via 𝓤 _ (snd∗ 𝓤 (sem 𝓛 (lies_at R base.Fraction.full_share p x)) (sem 𝓛 (chunk (bare (lone R.mir)) p))) (dealloc_token-Testable 𝓛 a (bare (lone R.mir)) p)) (guard_i 𝓤 (Testable p) (sem 𝓛 (boxed R p x)))

-- a box of `Global`, as the library's own walks take it
abbrev pub heap_row : RattleType
heap_row = arg (bare (layout heap.the_row)) no heap.the_row

abbrev pub heap_row_laws : Laws heap_row
heap_row_laws = arg_laws (bare (layout heap.the_row)) no heap.the_row heap_laws.the_row_laws refl

abbrev pub heap_drop : Dict
heap_drop = impl ("thin::Destruct++none::drop" ∷ []) (tcons (layout heap_row) tnil) dnil

abbrev pub global_box : (T : RattleType) → Laws T → Bx
global_box T L = record { row = T; laws = L; al = record { row = heap_row; laws = heap_row_laws; g = ghosts; d = dict; drops = heap_drop } }

no_some : (X : Type 0) → (let none : Option X = None in IsSome none) → ⊥
no_some X e = subst T (sym e) tt

module _ (R : RattleType) {M : Type 1} {𝓤 : Ura M} {𝓛 : Logic 𝓤} {K : Type 0} {Γ : List (Item 𝓤)} {G : Goal 𝓤 𝓛.H} where
  never_held : K → {v : Fml} → ent 𝓤 (sem 𝓛 v) (never 𝓤) → Seq K 𝓛 (‵ v ∷ Γ) G
  never_held t h = use1 𝓛 (given ⊥ (‵ ftrue)) (via 𝓤 (never 𝓤) h (never_e 𝓤 _)) $ learn t (λ z. absurd z)

  pub held_some : K → (p : Ptr) (v : Option R.Denot) → IsSome v → ((b o : ℕ) (x : R.Denot) → p ≡ block_ptr b o → v ≡ Some x → Testable (block_ptr b o) → Seq K 𝓛 (‵ (boxed R (block_ptr b o) x) ∷ Γ) G) → Seq K 𝓛 (‵ (held R p v) ∷ Γ) G
  held_some t null_ptr None some k = absurd (no_some R.Denot some)
  held_some t null_ptr (Some x) some k = never_held t (id⊢ 𝓤 _)
  held_some t (block_ptr b o) None some k = absurd (no_some R.Denot some)
  held_some t (block_ptr b o) (Some x) some k = fsplit t $ fpick t (λ e. drop t $ k b o x refl refl e)

  pub shown_some : K → (p : Ptr) (v : Option R.Denot) (κ : Lft) → IsSome v → ((b o : ℕ) (x : R.Denot) → p ≡ block_ptr b o → v ≡ Some x → Seq K 𝓛 (‵ (hidden_shr R κ x b o) ∷ Γ) G) → Seq K 𝓛 (‵ (shown R p v κ) ∷ Γ) G
  shown_some t null_ptr None κ some k = absurd (no_some R.Denot some)
  shown_some t null_ptr (Some x) κ some k = never_held t (id⊢ 𝓤 _)
  shown_some t (block_ptr b o) None κ some k = absurd (no_some R.Denot some)
  shown_some t (block_ptr b o) (Some x) κ some k = fsplit t $ drop t $ fsplit t $ drop t $ hide t $ k b o x refl refl

  -- a `&` to a slot shows one to its pointer
  pub slot_shown : K → (d : (the_row R).Denot) (b o : ℕ) {κ : Lft} → Step K 𝓛 (‵ (shown R d.at d.value κ) ∷ ‵ (hidden_shr RawPtr κ d.at b (o + 0)) ∷ Γ) G (‵ (hidden_shr (the_row R) κ d b o) ∷ Γ) G
  slot_shown t d b o {κ} = step (λ s.
      use1 𝓛 (‵ (hidden_shr (Struct (shape (the_type R))) κ (d.at, tt) b o) ⊛ ‵ (fhide (the_lent R d (block_ptr b o) κ))) (lent_out 𝓛 (struct R) (the_codes R.Denot R.coded) (the_heap R) (the_lent R) κ d b o) $ split t $
      unhide t $ fsplit t $ fsplit t $ hide t $ move t (1 ∷ []) $ drop t $ move t (1 ∷ []) $ drop t $ move t (1 ∷ []) $ unhide t $ s)

  pub shown_tells : K → (p : Ptr) (v : Option R.Denot) (κ : Lft) → (Testable p → ptr_same (ptr_val p) vnull ≡ is_none v → Seq K 𝓛 Γ G) → Seq K 𝓛 (‵ (shown R p v κ) ∷ Γ) G
  shown_tells t null_ptr None κ k = drop t $ k (lit< tt) refl
  shown_tells t null_ptr (Some x) κ k = never_held t (id⊢ 𝓤 _)
  shown_tells t (block_ptr b o) None κ k = never_held t (id⊢ 𝓤 _)
  shown_tells t (block_ptr b o) (Some x) κ k = fsplit t $ fpick t (λ e. drop t $ drop t $ k e refl)

module _ {M : Type 1} {𝓤 : Ura M} {𝓛 : Logic 𝓤} {K : Type 0} {Γ : List (Item 𝓤)} {G : Goal 𝓤 𝓛.H} where
  -- a pointer, null or not, is read through a `&`:  [the cell; the way back; the `&`]
  pub ptr_in : K → Soaks G → {κ : Lft} {q : Share} (p : Ptr) (b o : ℕ)
      → ((q' : Share) → Seq K 𝓛 (‵ (fat q' ty_ptr b o (ptr_val p)) ∷ Shut 𝓛 κ q (part_at RawPtr q' p b o) ∷ ‵ (hidden_shr RawPtr κ p b o) ∷ Γ) G) → Seq K 𝓛 (‵ (hidden_shr RawPtr κ p b o) ∷ ‵ (flft κ q) ∷ Γ) G
  ptr_in t z p b o k = looks t z RawPtr (plain_Copied 𝓛 Ptr coded_ptr (ty_ptr ∷ []) ptr_own rawptr_pure ptr_val RawPtr-laws.tells).opens p b o (λ q' vs. move t (1 ∷ []) $ feq_l t (λ e.
      rewrite t 0 (λ (us : List Val). ‵ (cell_at q' RawPtr.mir us b o)) e refl $ k q'))

  pub ptr_out : K → Soaks G → {κ : Lft} {q q' : Share} (p : Ptr) (b o : ℕ) → Step K 𝓛 (‵ (flft κ q) ∷ Γ) G (‵ (fat q' ty_ptr b o (ptr_val p)) ∷ Shut 𝓛 κ q (part_at RawPtr q' p b o) ∷ Γ) G
  ptr_out t z {q' = q'} p b o = step (λ s. feq_i t (List Val) (ptr_val p ∷ []) (ptr_val p ∷ []) refl $ move t (1 ∷ 0 ∷ []) $ shuts t z RawPtr q' p (ptr_val p ∷ []) b o $ s)
