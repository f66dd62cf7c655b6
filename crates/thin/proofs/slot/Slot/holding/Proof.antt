-- `holding` keeps the pointer of the box, which may be compared with null.
use Rattle.std.proofs.Common.{◌≡◌, List, [], ◌∷◌, ◌++◌, refl, sym, ap, ◌∙◌, subst}
use mir.Syntax.{a_type, dcons, dnil}
use mir.Val.{Val}
use mir.MapTy.{inst_fn}
use base.Logic.{SProp, ent, emp, never, id⊢, fst∗}
use base.Fml.{ftrue, flft}
use prog.Wp.{WpFn}
use types.Logic.{sem}
use types.Kit.{‵, raw, ◌⊛◌, some, later, given, ◌$◌, ◌∵◌, !, qed, by, move, keep, drop, split, join, fsplit, fjoin, fpack, pick, learn, suffices, use0, use1, await, feq_l}
use types.Run.{of_opd, no_more, and_then, returns, enter}
use types.ByLocal.{alloc_all, pass_all, free_all, look_at, get, sets, lands_as}
use types.Part.{agg}
use contract.Monad.{fact, fact_i}
use contract.BorrowLft.{◌⊑◌, ⊑_static}
use contract.Running.{tables}
use denote.Exit.{no}
use denote.RattleType.{RattleType, owns}
use denote.Signature.{types_at, plain}
use denote.Builtin.{RawPtr}
use denote.RawPtr.{Ptr, block_ptr, null_ptr, ptr_val, in_a_block, Testable}
use denote.Steps.{nothing, only}
use denote.Param.{param, layout, bounded}
use denote.Triple.Clauses.{Lasts, lasts}
use denote.Triple.Spec.{triple_of}
use denote.Triple.Call.{calls_at}
use denote.Triple.Walked.{Stays, stay_dropped, walk_of}
use mir.Raw.{raw as bare}
use Rattle.core.proofs.alloc.Calls.{Goes-blank}
use Rattle.core.proofs.atomic.Steps.{fm}
use Rattle.std.proofs.raw_atomic.Walks.{proved_at, leaves}
use Rattle.std.specs.Prelude.{Some}
use Rattle.std_alloc.proofs.BoxSteps.Form as box
use Rattle.std_alloc.proofs.BoxSteps.Steps.{box_out, box_in}
use Rattle.std_alloc.specs.contracts.boxed.Box.{the_row as box-row}
use Rattle.std_alloc.specs.contracts.boxed.Box.into_raw as callee
use Rattle.std_alloc.proofs.boxed.Box.into_raw.Met.{met}
use Rattle.std_heap.specs.contracts.Global as heap
use Rattle.std_heap.specs.contracts.GlobalAllocator.TheImpl.{ghosts, dict}
use Rattle.std_heap.proofs.GlobalAllocator.TheImpl.Met as allocator
use Rattle.thin.proofs.Destruct++none.drop.Code.{glues}
use Rattle.thin.specs.Slot.{boxed, chunk}
use Rattle.thin.proofs.Slots.{word, word_good, full, slot_in, tested, global_box, heap_drop, heap_row, heap_row_laws}
use Rattle.thin.specs.contracts.slot.Slot.holding.{ended, clauses}
use Rattle.thin.specs.contracts.slot.Slot.holding.Key.{name as #self}
use Rattle.thin.proofs.slot.Slot.holding.Statement.{statement}
use Rattle.thin.proofs.slot.Slot.holding.Code as code

pub holding_spec : {M : Type 1} → statement M
holding_spec {M} 𝓤 𝓛 𝓜 𝓡 wired T L dx glue =
    let H = 𝓛.H in let 𝓣 = tables 𝓤 H 𝓜 𝓡 𝓡.env in let R : RattleType = param 0 T in let Z : RattleType = heap_row in let LZ = heap_row_laws in let En = ended T dx in let c = clauses T dx 𝓛 𝓜.mem 𝓡.returns in
    let E : box.Bx = global_box T L in let dd = heap_drop in let Box : RattleType = box-row R heap.the_row ghosts in let inst = bounded (a_type ∷ []) (T, tt) (dcons dx dnil) in let fn = inst_fn inst code.function in
    let hs : Stays En.signature.params En.kept = (stay_dropped (plain (λ _. Box)) no, tt) in
    proved_at 𝓛 En hs c 𝓜 𝓡 (Goes-blank 𝓛 1 (plain (λ _. Box)) no (λ κs x f. tt), tt) (#self inst) fn (code.unfolded 𝓤 H 𝓜 𝓡 wired (T, tt) dx) (λ z are.
    let κ = z.0.0.0 in let q = z.0.1.0 in let v = z.0.3.0 in let Post : Val → SProp 𝓤 = (walk_of 𝓛 En hs c).post z in let Run : List Val → SProp 𝓤 = λ ws. WpFn 𝓤 H 𝓣.C 𝓣.Λ fn ws Post in
    qed 𝓛 (((‵ (flft κ q) ⊛ ‵ ftrue) ⊛ ‵ (owns (types_at En.signature.params z.0.0) z.0.3 z.0.4)) ∷ (raw (fact 𝓤 (κ ⊑ T.lives)) ⊛ ‵ ftrue) ∷ []) ∵ split ! $ split ! $ move ! (2 ∷ []) $ fsplit ! $
    box_out E ! v z.0.4.0 (λ b o h e ws fits. let w : Val = box.word E h b o in let typed = box.box_typed E h b o fits in
    let k = triple_of 𝓛 (callee.signature T Z ghosts dict dd dx) (callee.spec T Z ghosts dict dd dx 𝓛 𝓜.mem 𝓡.returns) in
    let y : k.Ghost = (((κ, ([], tt)), (q, (q, tt)), tt, (v, tt), (w ∷ [], tt)), tt) in let x = v.value in let Ended' = callee.ended T Z ghosts dict dd dx in let toks = ‵ (flft κ q) ⊛ ‵ (flft [] q) ⊛ ‵ ftrue in
    box_in E ! v b o x e refl $ fjoin ! $ use0 𝓛 (‵ (flft [] q)) (𝓛.lfts.lft-nil q) $ move ! (0 ∷ 3 ∷ []) $ join ! $ move ! (2 ∷ 0 ∷ []) $ join ! $ join ! $
    move ! (1 ∷ []) $ split ! $ move ! (1 ∷ []) $ use0 𝓛 (raw (fact 𝓤 ([] ⊑ Z.lives))) (fact_i 𝓤 ([] ⊑ Z.lives) (emp 𝓤) (⊑_static [])) $ join ! $ move ! (1 ∷ 0 ∷ []) $ join ! $ move ! (1 ∷ 0 ∷ []) $ join ! $ use1 𝓛 (raw (k.pre y)) (id⊢ 𝓤 _) $
    suffices ! (Run (w ∷ [])) (subst (λ (us : List Val). ent 𝓤 (Run (w ∷ [])) (Run us)) (sym (λ i. ws i ++ [])) (id⊢ 𝓤 (Run (w ∷ [])))) $
    enter ! 𝓣.C 𝓣.Λ fn (w ∷ []) Post $ alloc_all ! (λ l. pass_all ! refl (typed, tt) $ sets ! (of_opd ! (get ! refl)) refl typed $
    calls_at ! (fm 𝓛 𝓜 𝓡) k (met 𝓤 𝓛 𝓜 𝓡 (code.calls-std_alloc::boxed::Box::into_raw 𝓡.env wired) T Z L LZ ghosts dict dd dx
    (allocator.passed 𝓡.env (code.calls-std_heap::GlobalAllocator::allocate 𝓡.env wired) (code.calls-std_heap::GlobalAllocator::deallocate 𝓡.env wired) (code.calls-std_heap::GlobalAllocator::grow 𝓡.env wired) (code.calls-std_heap::GlobalAllocator::shrink 𝓡.env wired) M 𝓤 𝓛 𝓜 𝓡)
    (glues 𝓡.env (code.calls-thin::Destruct++none::drop 𝓡.env wired) Z LZ M 𝓤 𝓛 𝓜 𝓡) glue) y (and_then ! (get ! refl) (no_more !)) (λ u.
    use1 𝓛 (later (some (λ (r : Ptr). (toks ⊛ ‵ (RawPtr.own_val r (u ∷ []))) ⊛ some (λ (ls : Lasts Ended' y.0.0 y.0.3). ‵ (lasts Ended' y.0.0 y.0.3 ls) ⊛ ‵ (boxed R r x))))) (id⊢ 𝓤 (k.post y u)) $
    await ! tt $ pick ! (λ r. split ! $ move ! (1 ∷ []) $ pick ! (λ _. split ! $ drop ! $
    in_a_block ! r (λ p. boxed R p x) (fst∗ 𝓤 (never 𝓤) (sem 𝓛 (chunk (bare (layout R)) null_ptr))) (λ b' o' e'. let p : Ptr = block_ptr b' o' in
    use1 𝓛 (given (Testable p) (‵ (boxed R p x))) (tested R 𝓛 v.alloc p x) $ learn ! (λ t. move ! (1 ∷ []) $ split ! $ move ! (1 ∷ []) $ feq_l ! (λ eu.
    lands_as ! (ap only eu ∙ ap ptr_val e') refl (tt, tt) $ sets ! (agg ! (and_then ! (get ! refl) (no_more !))) refl (word_good R p) $ split ! $ nothing ! $ move ! (1 ∷ 0 ∷ []) $ join ! $ move ! (2 ∷ []) $
    nothing ! $ fpack ! (Testable p) (λ _. ftrue) t $ fjoin ! $ slot_in R ! (full R p x) $ use0 𝓛 (raw (fact 𝓤 (Some x ≡ Some x))) (fact_i 𝓤 (Some x ≡ Some x) (emp 𝓤) refl) $ nothing ! $ nothing ! $ fjoin ! $
    returns ! (look_at ! 0 refl) $ free_all ! refl $ keep ! (3 ∷ 0 ∷ 2 ∷ 1 ∷ []) $ by ! (leaves 𝓛 En hs c z (word p) (full R p x) (_, tt) (tt, tt)))))))))))
