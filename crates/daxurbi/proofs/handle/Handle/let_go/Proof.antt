-- `let_go` forgets a handle that owns nothing.
use Rattle.std.proofs.Common.{◌≡◌, List, [], ◌∷◌, ◌++◌, refl, sym, subst}
use mir.Syntax.{ty_ptr}
use mir.Val.{Val, vunit, vstruct, of_list, has_ty}
use base.Logic.{SProp, ent}
use base.Fml.{ftrue, fsep}
use prog.Wp.{WpFn}
use types.Kit.{Item, ‵, raw, ◌⊛◌, ◌$◌, ◌∵◌, !, qed, by, keep, drop, join, split, fsplit, fjoin, fpick, feq_l, feq_i, suffices, done}
use types.Run.{unit_lit, of_opd, returns, enter}
use types.ByLocal.{alloc_all, pass_all, free_all, look_at, sets}
use contract.Running.{tables}
use denote.Exit.{yes}
use denote.RawPtr.{ptr_val}
use denote.Steps.{nothing}
use denote.Triple.Walked.{Stays, stay_dropped, walk_of, ends_at, Goes-dropped}
use Rattle.core.proofs.alloc.Calls.{α, handle_tells}
use Rattle.core.proofs.atomic.Steps.{Ptr-Good}
use Rattle.std.proofs.raw_atomic.Walks.{proved_at}
use Rattle.daxurbi.proofs.AsBox.{E, FromHandle, both_tt}
use Rattle.daxurbi.specs.contracts.handle.Handle as handle
use Rattle.daxurbi.specs.contracts.handle.Handle.let_go as F
use Rattle.daxurbi.specs.contracts.handle.Handle.let_go.Key.{name as #self}
use Rattle.daxurbi.proofs.handle.Handle.let_go.Statement.{statement}
use Rattle.daxurbi.proofs.handle.Handle.let_go.Code as code

pub let_go_spec : {M : Type 1} → statement M
let_go_spec 𝓤 𝓛 𝓜 𝓡 wired =
    let H = 𝓛.H in let 𝓣 = tables 𝓤 H 𝓜 𝓡 𝓡.env in let c = F.clauses 𝓛 𝓜.mem 𝓡.returns in
    let hs : Stays F.ended.signature.params F.ended.kept = (stay_dropped FromHandle yes, tt) in
    proved_at 𝓛 F.ended hs c 𝓜 𝓡 (Goes-dropped 𝓛 0 FromHandle yes (λ κs x f. refl), tt) #self code.function (code.unfolded 𝓤 H 𝓜 𝓡 wired) (λ z are.
    let Post : Val → SProp 𝓤 = (walk_of 𝓛 F.ended hs c).post z in let d = z.0.3.0 in let vs = z.0.4.0 in
    qed 𝓛 ((‵ ftrue ⊛ ‵ (fsep (handle.the_row.own_val d vs) ftrue)) ∷ raw ((c z.0.0 z.0.3).requires z.1) ∷ []) ∵ keep ! (0 ∷ []) $ split ! $ drop ! $ fsplit ! $ keep ! (0 ∷ []) $
    fsplit ! $ keep ! (0 ∷ []) $ fpick ! (λ vss. fsplit ! $ feq_l ! (λ ev. fsplit ! $ feq_l ! (λ ep. fsplit ! $ keep ! (0 ∷ []) $ handle_tells E.al ! d.alloc vss.1.0 (λ h eh fits. drop ! $
    let w : Val = vstruct (of_list (ptr_val d.at ∷ h ∷ [])) in
    let ws : vs ≡ w ∷ [] = subst (λ (us : List Val). vs ≡ vstruct (of_list (ptr_val d.at ∷ (us ++ []))) ∷ []) eh (subst (λ (ps : List Val). vs ≡ vstruct (of_list (ps ++ (vss.1.0 ++ []))) ∷ []) ep ev) in
    let Γ : List (Item 𝓤) = [] in
    by ! (subst (λ (us : List Val). ent 𝓤 (types.Kit.⋆ 𝓛 Γ) (WpFn 𝓤 H 𝓣.C 𝓣.Λ code.function (us ++ []) Post)) (sym ws)
    (qed 𝓛 Γ ∵ enter ! 𝓣.C 𝓣.Λ code.function (w ∷ []) _ $ alloc_all ! (λ ls. pass_all ! refl ((both_tt (has_ty ty_ptr (ptr_val d.at)) (has_ty (α E.al) h) (Ptr-Good d.at).0 fits.0, ((Ptr-Good d.at).1, (fits.1, tt))), tt) $
    sets ! (of_opd ! (unit_lit !)) refl (tt, tt) $ returns ! (look_at ! 0 refl) $ free_all ! refl $
    suffices ! _ (ends_at 𝓛 F.ended hs c z vunit tt (tt, tt) (tt, tt)) $
    nothing ! $ feq_i ! (List Val) (vunit ∷ []) (vunit ∷ []) refl $ nothing ! $ nothing ! $ fjoin ! $ join ! $ nothing ! $ join ! $ join ! $ done !))))))))
