-- `lend` passes the pointer on as a `&` to the value that lies there.
use Rattle.std.proofs.Common.{◌≡◌, ℕ, ◌+◌, List, [], ◌∷◌, ◌++◌, refl, sym, subst}
use mir.Syntax.{a_type}
use mir.Val.{Val, vptr}
use mir.MapTy.{inst_fn}
use base.Logic.{SProp, ent, emp, id⊢}
use base.Fml.{ftrue, flft}
use prog.Wp.{WpFn}
use types.Kit.{‵, raw, ◌⊛◌, at_ret, ◌$◌, ◌∵◌, !, qed, by, move, keep, drop, split, join, fsplit, fjoin, suffices, rewrite, use0, feq_i}
use types.Run.{stop, fld, hop, look, addr, of_opd, first, blocks, exec, returns, enter}
use types.ByLocal.{alloc_all, pass_all, free_all, look_at, get, through, sets, sets_last, env}
use contract.Monad.{fact, fact_i}
use contract.BorrowLft.{◌⊑◌}
use contract.Running.{tables}
use denote.Exit.{yes}
use denote.Memory.{hidden_shr}
use denote.RattleType.{RattleType, owns}
use denote.Signature.{types_at, plain}
use denote.Builtin.{RefOf, RawPtr}
use denote.RawPtr.{Ptr, block_ptr}
use denote.Steps.{nothing, heard}
use denote.Param.{param, layouts}
use denote.Triple.Walked.{Stays, stay_dropped, walk_of, Goes-dropped}
use Rattle.core.proofs.alloc.Shapes.{after}
use Rattle.std.proofs.raw_atomic.Walks.{proved_at, leaves}
use Rattle.std.specs.Prelude.{Some, IsSome}
use Rattle.thin.specs.contracts.slot.Slot.{the_row}
use Rattle.thin.proofs.Slots.{slot_shown, shown_some, ptr_in, ptr_out}
use Rattle.thin.specs.contracts.slot.Slot.lend.{ended, clauses}
use Rattle.thin.specs.contracts.slot.Slot.lend.Key.{name as #self}
use Rattle.thin.proofs.slot.Slot.lend.Statement.{statement}
use Rattle.thin.proofs.slot.Slot.lend.Code as code

pub lend_spec : {M : Type 1} → statement M
lend_spec 𝓤 𝓛 𝓜 𝓡 wired T L =
    let H = 𝓛.H in let 𝓣 = tables 𝓤 H 𝓜 𝓡 𝓡.env in let R : RattleType = param 0 T in let En = ended T in let c = clauses T 𝓛 𝓜.mem 𝓡.returns in
    let inst = layouts (a_type ∷ []) (T, tt) in let fn = inst_fn inst code.function in
    let hs : Stays En.signature.params En.kept = (stay_dropped (RefOf (0 ∷ []) tt (plain (λ _. the_row R)) (λ _. tt)) yes, tt) in
    proved_at 𝓛 En hs c 𝓜 𝓡 (Goes-dropped 𝓛 2 (RefOf (0 ∷ []) tt (plain (λ _. the_row R)) (λ _. tt)) yes (λ κs x f. refl), tt) (#self inst) fn (code.unfolded 𝓤 H 𝓜 𝓡 wired (T, tt)) (λ z are.
    let κ = z.0.0.0 in let q = z.0.1.0 in let b : ℕ = z.0.3.0.ref_ptr.0 in let o : ℕ = z.0.3.0.ref_ptr.1 in let d = z.0.3.0.now in
    let Post : Val → SProp 𝓤 = (walk_of 𝓛 En hs c).post z in let Run : List Val → SProp 𝓤 = λ ws. WpFn 𝓤 H 𝓣.C 𝓣.Λ fn ws Post in
    qed 𝓛 (((‵ (flft κ q) ⊛ (‵ (flft z.0.0.1.0 z.0.1.1.0) ⊛ ‵ ftrue)) ⊛ ‵ (owns (types_at En.signature.params z.0.0) z.0.3 z.0.4)) ∷ (raw (fact 𝓤 (z.0.0.1.0 ⊑ T.lives)) ⊛ raw (fact 𝓤 (IsSome d.value))) ∷ []) ∵
    move ! (1 ∷ []) $ split ! $ move ! (1 ∷ []) $ heard ! (IsSome d.value) (λ there. keep ! (1 ∷ []) $ split ! $ split ! $ move ! (2 ∷ []) $ fsplit ! $ fsplit ! $ drop ! $ slot_shown R ! d b o $
    shown_some R ! d.at d.value κ there (λ b' o' x at_b is_x. let p : Ptr = block_ptr b' o' in
    -- [the `&` to the value; the `&` to the pointer; nothing; κ's token; the other tokens]
    rewrite ! 1 (λ (r : Ptr). ‵ (hidden_shr RawPtr κ r b (o + 0))) at_b refl $
    suffices ! (Run (vptr b o ∷ [])) (subst (λ (us : List Val). ent 𝓤 (Run (vptr b o ∷ [])) (Run us)) (sym (λ i. are.0.0 i ++ [])) (id⊢ 𝓤 (Run (vptr b o ∷ [])))) $
    enter ! 𝓣.C 𝓣.Λ fn (vptr b o ∷ []) Post $ alloc_all ! (λ l. pass_all ! refl ((tt, tt), tt) $ let Ev = env fn.locals l in move ! (1 ∷ 3 ∷ []) $ ptr_in ! tt p b (o + 0) (λ q'. first ! $ blocks ! $
    sets_last ! (addr ! (through ! refl (fld ! refl (hop ! (look ! 0 refl) (stop !))))) refl (tt, tt) $ exec ! 𝓣.C 𝓣.Λ Ev (after 1 fn.body) (at_ret Ev Post) $ ptr_out ! tt p b (o + 0) $
    sets ! (of_opd ! (get ! refl)) refl (tt, tt) $ move ! (0 ∷ 4 ∷ []) $ join ! $ move ! (2 ∷ []) $ feq_i ! (List Val) (vptr b' o' ∷ []) (vptr b' o' ∷ []) refl $ fjoin ! $
    use0 𝓛 (raw (fact 𝓤 (Some x ≡ d.value))) (fact_i 𝓤 (Some x ≡ d.value) (emp 𝓤) (sym is_x)) $ nothing ! $ nothing ! $ fjoin ! $
    returns ! (look_at ! 0 refl) $ free_all ! refl $ keep ! (3 ∷ 0 ∷ 2 ∷ 1 ∷ []) $ by ! (leaves 𝓛 En hs c z (vptr b' o') (record { ref_ptr = (b', o'); now = x }) (tt, tt) (tt, tt)))))))
