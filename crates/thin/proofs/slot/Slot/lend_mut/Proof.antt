-- `lend_mut` passes the pointer on as a `&mut`, and what is written there is the slot's value.
use Rattle.std.proofs.Common.{◌≡◌, ℕ, List, [], ◌∷◌, ◌++◌, refl, sym, ap, ◌∙◌, subst}
use seplogic.Ra.Ura.{Ura}
use mir.Raw.{raw as bare}
use mir.Syntax.{a_type, named}
use mir.Val.{Val, vptr}
use mir.MapTy.{inst_fn}
use base.Fraction.{full_share}
use base.Logic.{SProp, ent, sep, emp, id⊢}
use base.Fml.{Fml, ftrue, fsep, flft}
use prog.Wp.{WpFn}
use types.Logic.{Logic, sem}
use types.Kit.{‵, raw, ◌⊛◌, some, later, at_ret, ◌$◌, ◌∵◌, !, qed, by, move, keep, drop, split, split3, join, fsplit, fsplit3, fjoin, fpack, pick, suffices, rewrite, use0, use1, await, group, done}
use types.Run.{stop, fld, hop, addr, of_opd, first, blocks, exec, returns, enter}
use types.ByLocal.{alloc_all, pass_all, free_all, look_at, get, through, sets, sets_last, env}
use types.Part.{look_in, sub, whole}
use contract.Monad.{fact, fact_i}
use contract.BorrowLft.{◌⊑◌}
use contract.Running.{tables}
use denote.Follow.{Part, lends_Part}
use denote.Memory.{lone, mem, cell_at, part_at, part_of}
use denote.RattleType.{RattleType, owns}
use denote.Ref.{MutRef}
use denote.Signature.{types_at, plain, mut_ref_to}
use denote.RawPtr.{Ptr, block_ptr, Testable}
use denote.Steps.{nothing, heard, opens}
use denote.Exit.{no}
use denote.Param.{param, layouts}
use denote.Triple.Walked.{Stays, stay_dropped, walk_of, Goes-spent_ref}
use Rattle.core.proofs.alloc.Shapes.{after}
use Rattle.std.proofs.raw_atomic.Walks.{proved_at, leaves}
use Rattle.std.specs.Prelude.{Some, IsSome}
use Rattle.thin.specs.Slot.{held, chunk}
use Rattle.thin.specs.Lends.{with_value, slot_lends}
use Rattle.thin.specs.contracts.slot.Slot.{the_row}
use Rattle.thin.proofs.Slots.{word, slot_out, slot_in, held_some}
use Rattle.thin.specs.contracts.slot.Slot.lend_mut.{ended, clauses}
use Rattle.thin.specs.contracts.slot.Slot.lend_mut.Key.{name as #self}
use Rattle.thin.proofs.slot.Slot.lend_mut.Statement.{statement}
use Rattle.thin.proofs.slot.Slot.lend_mut.Code as code

module _ (R : RattleType) (d : (the_row R).Denot) (b o b' o' : ℕ) where
  -- all of the slot but the value
  abbrev Rest : Fml
  Rest = fsep (chunk (bare (lone R.mir)) (block_ptr b' o')) (cell_at full_share (the_row R).mir (word d.at ∷ []) b o)

  back : {M : Type 1} {𝓤 : Ura M} (𝓛 : Logic 𝓤) → d.at ≡ block_ptr b' o' → Testable (block_ptr b' o') → (w : R.Denot)
      → ent 𝓤 (sep 𝓤 (sem 𝓛 ((mem R).own_at w b' o')) (sem 𝓛 Rest)) (sem 𝓛 ((mem (the_row R)).own_at (with_value d w) b o))
  unfolding part_of
  back 𝓛 at_b t w =
      let p : Ptr = block_ptr b' o' in
      qed 𝓛 (‵ (part_at R full_share w b' o') ∷ ‵ Rest ∷ []) ∵ move ! (1 ∷ []) $ fsplit ! $ move ! (2 ∷ 0 ∷ []) $ fjoin ! $ nothing ! $ fpack ! (Testable p) (λ _. ftrue) t $ fjoin ! $
      rewrite ! 0 (λ (r : Ptr). ‵ (held R r (Some w))) (sym at_b) refl $ slot_in R ! (with_value d w) $ move ! (1 ∷ 0 ∷ []) $ fjoin ! $
      fpack ! (List Val) (λ us. fsep (cell_at full_share (the_row R).mir us b o) ((the_row R).own_val (with_value d w) us)) (word d.at ∷ []) $ done !

pub lend_mut_spec : {M : Type 1} → statement M
lend_mut_spec 𝓤 𝓛 𝓜 𝓡 wired T L =
    let H = 𝓛.H in let 𝓣 = tables 𝓤 H 𝓜 𝓡 𝓡.env in let R : RattleType = param 0 T in let S : RattleType = the_row R in let En = ended T in let c = clauses T 𝓛 𝓜.mem 𝓡.returns in
    let inst = layouts (a_type ∷ []) (T, tt) in let fn = inst_fn inst code.function in
    let hs : Stays En.signature.params En.kept = (stay_dropped (mut_ref_to (0 ∷ []) tt (plain (λ _. S))) no, tt) in
    proved_at 𝓛 En hs c 𝓜 𝓡 (Goes-spent_ref 𝓛 2 (0 ∷ []) tt (plain (λ _. S)), tt) (#self inst) fn (code.unfolded 𝓤 H 𝓜 𝓡 wired (T, tt)) (λ z are.
    let κ = z.0.0.0 in let q = z.0.1.0 in let b : ℕ = z.0.3.0.ref_ptr.0 in let o : ℕ = z.0.3.0.ref_ptr.1 in let γ : ℕ = z.0.3.0.ghost_name in let d = z.0.3.0.now in let F = with_value d in
    let Post : Val → SProp 𝓤 = (walk_of 𝓛 En hs c).post z in let Run : List Val → SProp 𝓤 = λ ws. WpFn 𝓤 H 𝓣.C 𝓣.Λ fn ws Post in
    qed 𝓛 (((‵ (flft κ q) ⊛ (‵ (flft z.0.0.1.0 z.0.1.1.0) ⊛ ‵ ftrue)) ⊛ ‵ (owns (types_at En.signature.params z.0.0) z.0.3 z.0.4)) ∷ (raw (fact 𝓤 (z.0.0.1.0 ⊑ T.lives)) ⊛ raw (fact 𝓤 (IsSome d.value))) ∷ []) ∵
    move ! (1 ∷ []) $ split ! $ move ! (1 ∷ []) $ heard ! (IsSome d.value) (λ there. keep ! (1 ∷ []) $ split ! $ split ! $ move ! (2 ∷ []) $ fsplit ! $ fsplit3 ! $ drop ! $
    suffices ! (Run (vptr b o ∷ [])) (subst (λ (us : List Val). ent 𝓤 (Run (vptr b o ∷ [])) (Run us)) (sym (λ i. are.0.0 i ++ [])) (id⊢ 𝓤 (Run (vptr b o ∷ [])))) $
    enter ! 𝓣.C 𝓣.Λ fn (vptr b o ∷ []) Post $ alloc_all ! (λ l. pass_all ! refl ((tt, tt), tt) $ let Ev = env fn.locals l in
    move ! (0 ∷ 1 ∷ 3 ∷ []) $ opens ! tt S b o (λ us. move ! (1 ∷ []) $ slot_out R ! d us (λ ws. held_some R ! d.at d.value there (λ b' o' x at_b is_x t. let p : Ptr = block_ptr b' o' in
    -- [the box; the slot's cell; the open borrow, in three entries; nothing; the other tokens]
    fsplit ! $ rewrite ! 2 (λ (vs : List Val). ‵ (cell_at full_share S.mir vs b o)) (ws ∙ ap (λ (r : Ptr). word r ∷ []) at_b) refl $ first ! $ blocks ! $
    sets_last ! (addr ! (through ! refl (fld ! refl (hop ! (look_in ! 2 (sub ! 0 refl (whole !))) (stop !))))) refl (tt, tt) $ exec ! 𝓣.C 𝓣.Λ Ev (after 1 fn.body) (at_ret Ev Post) $ sets ! (of_opd ! (get ! refl)) refl (tt, tt) $
    rewrite ! 2 (λ (r : Ptr). ‵ (cell_at full_share S.mir (word r ∷ []) b o)) (sym at_b) refl $ move ! (1 ∷ 2 ∷ []) $ fjoin ! $ move ! (2 ∷ 3 ∷ 4 ∷ 1 ∷ 0 ∷ []) $ group ! 5 $
    use1 𝓛 (later (some (λ (γ' : ℕ). raw (Part 𝓛 S R F (named 0) κ q b o b' o' γ (sem 𝓛 (Rest R d b o b' o')) (back R d b o b' o' 𝓛 at_b t) x γ'))))
    (lends_Part 𝓛 S R F (named 0) κ q b o b' o' γ (sem 𝓛 (Rest R d b o b' o')) (back R d b o b' o' 𝓛 at_b t) (S.coded.code d) (S.coded.code d) x) $ await ! tt $ pick ! (λ γ'. let r : (MutRef (named 0) κ R).Denot = record { ref_ptr = (b', o'); ghost_name = γ'; now = x } in
    use1 𝓛 (‵ ((MutRef (named 0) κ R).own_val r (vptr b' o' ∷ [])) ⊛ ‵ (flft κ q) ⊛ ‵ (slot_lends R z.0.3.0 r)) (id⊢ 𝓤 _) $ split3 ! $ move ! (1 ∷ 4 ∷ []) $ join ! $
    use0 𝓛 (raw (fact 𝓤 (Some x ≡ d.value))) (fact_i 𝓤 (Some x ≡ d.value) (emp 𝓤) (sym is_x)) $ move ! (3 ∷ 0 ∷ []) $ join ! $ nothing ! $ nothing ! $ fjoin ! $
    returns ! (look_at ! 0 refl) $ free_all ! refl $ keep ! (2 ∷ 0 ∷ 3 ∷ 1 ∷ []) $ by ! (leaves 𝓛 En hs c z (vptr b' o') r (tt, tt) (tt, tt)))))))))
