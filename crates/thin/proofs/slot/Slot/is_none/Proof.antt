-- `is_none` reads the pointer through the `&`, and compares it with null.
use Rattle.std.proofs.Common.{◌≡◌, ℕ, Bool, ◌+◌, List, [], ◌∷◌, ◌++◌, refl, sym, subst}
use mir.Syntax.{a_type}
use mir.Val.{Val, vptr, vbool, vnull, ptr_same}
use mir.MapTy.{inst_fn}
use base.Logic.{SProp, ent, emp, id⊢}
use base.Fml.{ftrue, flft}
use prog.Wp.{WpFn}
use types.Kit.{‵, raw, ◌⊛◌, ◌$◌, ◌∵◌, !, qed, by, move, keep, drop, split, join, fsplit, fjoin, suffices, use0, feq_i}
use types.Run.{stop, fld, lit, load, look, of_opd, bin, returns, enter}
use types.ByLocal.{alloc_all, pass_all, free_all, look_at, get, through, sets}
use contract.Monad.{fact, fact_i}
use contract.Running.{tables}
use denote.Exit.{yes}
use denote.RattleType.{RattleType, owns}
use denote.Signature.{types_at, plain}
use denote.Builtin.{RefOf}
use denote.RawPtr.{ptr_val, tests_null}
use denote.Steps.{nothing}
use denote.Param.{param, layouts}
use denote.Triple.Walked.{Stays, stay_dropped, walk_of, Goes-dropped}
use Rattle.core.proofs.atomic.Steps.{Ptr-Good}
use Rattle.std.proofs.raw_atomic.Walks.{proved_at, leaves}
use Rattle.std.specs.Prelude.{is_none}
use Rattle.thin.specs.contracts.slot.Slot.{the_row}
use Rattle.thin.proofs.Slots.{slot_shown, shown_tells, ptr_in, ptr_out}
use Rattle.thin.specs.contracts.slot.Slot.is_none.{ended, clauses}
use Rattle.thin.specs.contracts.slot.Slot.is_none.Key.{name as #self}
use Rattle.thin.proofs.slot.Slot.is_none.Statement.{statement}
use Rattle.thin.proofs.slot.Slot.is_none.Code as code

pub is_none_spec : {M : Type 1} → statement M
is_none_spec 𝓤 𝓛 𝓜 𝓡 wired T L =
    let H = 𝓛.H in let 𝓣 = tables 𝓤 H 𝓜 𝓡 𝓡.env in let R : RattleType = param 0 T in let En = ended T in let c = clauses T 𝓛 𝓜.mem 𝓡.returns in
    let inst = layouts (a_type ∷ []) (T, tt) in let fn = inst_fn inst code.function in
    let hs : Stays En.signature.params En.kept = (stay_dropped (RefOf (0 ∷ []) tt (plain (λ _. the_row R)) (λ _. tt)) yes, tt) in
    proved_at 𝓛 En hs c 𝓜 𝓡 (Goes-dropped 𝓛 2 (RefOf (0 ∷ []) tt (plain (λ _. the_row R)) (λ _. tt)) yes (λ κs x f. refl), tt) (#self inst) fn (code.unfolded 𝓤 H 𝓜 𝓡 wired (T, tt)) (λ z are.
    let κ = z.0.0.0 in let q = z.0.1.0 in let b : ℕ = z.0.3.0.ref_ptr.0 in let o : ℕ = z.0.3.0.ref_ptr.1 in let d = z.0.3.0.now in let p = d.at in
    let Post : Val → SProp 𝓤 = (walk_of 𝓛 En hs c).post z in let Run : List Val → SProp 𝓤 = λ ws. WpFn 𝓤 H 𝓣.C 𝓣.Λ fn ws Post in
    qed 𝓛 (((‵ (flft κ q) ⊛ (‵ (flft z.0.0.1.0 z.0.1.1.0) ⊛ ‵ ftrue)) ⊛ ‵ (owns (types_at En.signature.params z.0.0) z.0.3 z.0.4)) ∷ raw ((c z.0.0 z.0.3).requires z.1) ∷ []) ∵
    keep ! (0 ∷ []) $ split ! $ split ! $ move ! (2 ∷ []) $ fsplit ! $ fsplit ! $ drop ! $ slot_shown R ! d b o $ shown_tells R ! p d.value κ (λ t same.
    -- [the `&` to the pointer; nothing; κ's token; the other tokens]
    suffices ! (Run (vptr b o ∷ [])) (subst (λ (us : List Val). ent 𝓤 (Run (vptr b o ∷ [])) (Run us)) (sym (λ i. are.0.0 i ++ [])) (id⊢ 𝓤 (Run (vptr b o ∷ [])))) $
    enter ! 𝓣.C 𝓣.Λ fn (vptr b o ∷ []) Post $ alloc_all ! (λ l. pass_all ! refl ((tt, tt), tt) $ move ! (0 ∷ 2 ∷ []) $ ptr_in ! tt p b (o + 0) (λ q'.
    sets ! (of_opd ! (load ! (through ! refl (fld ! refl (stop !))) (look ! 0 refl))) refl (Ptr-Good p) $ sets ! (bin ! (get ! refl) (lit ! tt) (tests_null p t)) refl (tt, tt) $ ptr_out ! tt p b (o + 0) $
    let r : Bool = ptr_same (ptr_val p) vnull in
    move ! (0 ∷ 3 ∷ []) $ join ! $ use0 𝓛 (raw (fact 𝓤 (r ≡ is_none d.value))) (fact_i 𝓤 (r ≡ is_none d.value) (emp 𝓤) same) $ feq_i ! (List Val) (vbool r ∷ []) (vbool r ∷ []) refl $ nothing ! $ nothing ! $ fjoin ! $
    returns ! (look_at ! 0 refl) $ free_all ! refl $ keep ! (3 ∷ 0 ∷ 1 ∷ 2 ∷ []) $ by ! (leaves 𝓛 En hs c z (vbool r) r (tt, tt) (tt, tt))))))
