-- What is kept for the live ids, after one change.
use Rattle.amqp_resource_log.proofs.Words.{Agrees, Bool, Cell, EndsId, Frame, Homes, Kept, List, Log, None, Option, Some, TransactionId, TxnWorkFrame, [], ap, append-nil, cond, cons_option, false, filter_map-append, frame_of_work, frame_under, frames_in, frames_kept, frames_of, home_of, is_some, keys_of, length, lookup, nat_list_eq_equiv, option_map, refl, same_id, same_text, subst, sym, true, with_arrival, with_frame, ℕ, ◌++◌, ◌∙◌, ◌∷◌, ◌≡◌}
use Rattle.std.specs.List.{IsDistinct}
use Rattle.amqp_resource_log.specs.declared.cell.Cell.TheVariants as cells
use Rattle.amqp_resource_log.proofs.Emptied.{frames_emptied}

-- what is kept for an id with these frames, where it has a link
abbrev pub paired : Option (Option ℕ) → List Frame → Option Kept
paired o fs = option_map (λ home. (home, fs)) o

-- ---- one id looked up

pub is_kept : (fs : List Frame) (o : Option (Option ℕ)) → is_some o ≡ is_some (paired o fs)
is_kept fs None = refl
is_kept fs (Some home) = refl

pub home_kept : (fs : List Frame) (o : Option (Option ℕ)) → o ≡ option_map home_of (paired o fs)
home_kept fs None = refl
home_kept fs (Some home) = refl

frames_paired : (fs : List Frame) (o : Option (Option ℕ)) → (o ≡ None → fs ≡ []) → fs ≡ frames_kept (paired o fs)
frames_paired fs None e = e refl
frames_paired fs (Some home) e = refl

pub frames_are : (homes : Homes) (log : Log) → Agrees homes log → (t : TransactionId) → frames_of log t ≡ frames_kept (paired (lookup (same_id t) homes) (frames_of log t))
frames_are homes log agrees t = frames_paired (frames_of log t) (lookup (same_id t) homes) (agrees.none t)

-- ---- no id is live

no_pair : (one : Kept) → Some one ≡ None → ⊥
no_pair one e = cc

pub none_kept : (homes : Homes) (log : Log) → length homes ≡ 0 → (t : TransactionId) → paired (lookup (same_id t) homes) (frames_of log t) ≡ None
none_kept [] log e t = refl
none_kept (home ∷ homes) log e t = cc

pub no_homes : (homes : Homes) (log : Log) → ((t : TransactionId) → paired (lookup (same_id t) homes) (frames_of log t) ≡ None) → length homes ≡ 0
no_homes [] log none = refl
no_homes (home ∷ homes) log none = absurd (no_pair (home.1, frames_of log home.0) (sym here ∙ none home.0))
  where
    here : paired (lookup (same_id home.0) (home ∷ homes)) (frames_of log home.0) ≡ Some (home.1, frames_of log home.0)
    here = ap (λ b. paired (cond b (Some home.1) (lookup (same_id home.0) homes)) (frames_of log home.0)) (nat_list_eq_equiv.refl home.0)

pub agrees_new : (log : Log) → log.homes ≡ [] → log.cells ≡ [] → Agrees log.homes log
unfolding IsDistinct
agrees_new log empty cells = record {
  none = λ t gone. ap (λ cs. frames_in cs t) cells;
  distinct = subst (λ (homes : Homes). IsDistinct same_id (keys_of homes)) (sym empty) tt;
}

-- ---- an id added

picked : (b : Bool) (home : Option ℕ) (o : Option (Option ℕ)) (fs : List Frame) → (b ≡ true → fs ≡ []) → paired (cond b (Some home) o) fs ≡ cond b (Some (home, [])) (paired o fs)
picked true home o fs e = ap (λ (gs : List Frame). Some (home, gs)) (e refl)
picked false home o fs e = refl

pub kept_added : (old new : Homes) (before after : Log) (id : TransactionId) (home : Option ℕ) → ((t : TransactionId) → lookup (same_id t) new ≡ cond (same_id id t) (Some home) (lookup (same_id t) old)) → after.cells ≡ before.cells → frames_of after id ≡ [] → (t : TransactionId) → paired (lookup (same_id t) new) (frames_of after t) ≡ cond (same_id t id) (Some (home, [])) (paired (lookup (same_id t) old) (frames_of before t))
kept_added old new before after id home u cells fresh t =
    ap (λ o. paired o (frames_of after t)) (u t ∙ ap (λ b. cond b (Some home) (lookup (same_id t) old)) (nat_list_eq_equiv.symm id t))
    ∙ picked (same_id t id) home (lookup (same_id t) old) (frames_of after t) (λ s. ap (frames_of after) (same_text t id (sym s)) ∙ fresh)
    ∙ ap (λ cs. cond (same_id t id) (Some (home, [])) (paired (lookup (same_id t) old) (frames_in cs t))) cells

not_added : (b : Bool) (home : Option ℕ) (o : Option (Option ℕ)) → cond b (Some home) o ≡ None → o ≡ None
not_added true home o e = cc
not_added false home o e = e

pub agrees_added : (old new : Homes) (before after : Log) (id : TransactionId) (home : Option ℕ) → Agrees old before → ((t : TransactionId) → lookup (same_id t) new ≡ cond (same_id id t) (Some home) (lookup (same_id t) old)) → after.cells ≡ before.cells → IsDistinct same_id (keys_of new) → Agrees new after
agrees_added old new before after id home agrees u cells distinct = record {
  none = λ t gone. ap (λ cs. frames_in cs t) cells ∙ agrees.none t (not_added (same_id id t) home (lookup (same_id t) old) (sym (u t) ∙ gone));
  distinct = distinct;
}

-- ---- work added

arrived : (b : Bool) (f : Frame) (fs : List Frame) → fs ++ cons_option (cond b (Some f) None) [] ≡ cond b (fs ++ f ∷ []) fs
arrived true f fs = refl
arrived false f fs = append-nil fs

frames_arrived : (t u : TransactionId) (w : TxnWorkFrame) (cs : List Cell) → frames_in (cs ++ cells.Live u w ∷ []) t ≡ cond (same_id t u) (frames_in cs t ++ frame_of_work w ∷ []) (frames_in cs t)
frames_arrived t u w cs = filter_map-append (frame_under t) cs (cells.Live u w ∷ []) ∙ arrived (same_id t u) (frame_of_work w) (frames_in cs t)

with_last : (b : Bool) (o : Option (Option ℕ)) (f : Frame) (fs : List Frame) → paired o (cond b (fs ++ f ∷ []) fs) ≡ cond b (with_frame (paired o fs) f) (paired o fs)
with_last true None f fs = refl
with_last true (Some home) f fs = refl
with_last false o f fs = refl

pub kept_more : (homes : Homes) (log : Log) (id : TransactionId) (w : TxnWorkFrame) (t : TransactionId) → paired (lookup (same_id t) homes) (frames_of (with_arrival log id w) t) ≡ cond (same_id t id) (with_frame (paired (lookup (same_id t) homes) (frames_of log t)) (frame_of_work w)) (paired (lookup (same_id t) homes) (frames_of log t))
kept_more homes log id w t =
    ap (paired (lookup (same_id t) homes)) (frames_arrived t id w log.cells)
    ∙ with_last (same_id t id) (lookup (same_id t) homes) (frame_of_work w) (frames_of log t)

-- an id that isn't live is another than one that is
apart : (homes : Homes) (t id : TransactionId) → is_some (lookup (same_id id) homes) ≡ true → lookup (same_id t) homes ≡ None → same_id t id ≡ false
apart homes t id live gone = by_case (same_id t id) refl
  where
    by_case : (b : Bool) → same_id t id ≡ b → b ≡ false
    by_case false s = refl
    by_case true s =
        let gone_too : is_some (lookup (same_id id) homes) ≡ false = ap (λ v. is_some (lookup (same_id v) homes)) (sym (same_text t id (sym s))) ∙ ap is_some gone in
        sym live ∙ gone_too

pub agrees_more : (homes : Homes) (log : Log) (id : TransactionId) (w : TxnWorkFrame) → is_some (lookup (same_id id) homes) ≡ true → Agrees homes log → Agrees homes (with_arrival log id w)
agrees_more homes log id w live agrees = record {
  none = λ t gone.
      frames_arrived t id w log.cells
      ∙ ap (λ b. cond b (frames_of log t ++ frame_of_work w ∷ []) (frames_of log t)) (apart homes t id live gone)
      ∙ agrees.none t gone;
  distinct = agrees.distinct;
}

-- ---- an id ended

gone : (b : Bool) (o : Option (Option ℕ)) (fs gs : List Frame) → (b ≡ false → gs ≡ fs) → paired (cond b None o) gs ≡ cond b None (paired o fs)
gone true o fs gs e = refl
gone false o fs gs e = ap (paired o) (e refl)

rest : (b : Bool) (o : Option (Option ℕ)) (fs : List Frame) → cond b None o ≡ None → (o ≡ None → fs ≡ []) → cond b [] fs ≡ []
rest true o fs e none = refl
rest false o fs e none = none e

kept_others : (b : Bool) (fs gs : List Frame) → gs ≡ cond b [] fs → b ≡ false → gs ≡ fs
kept_others true fs gs h e = cc
kept_others false fs gs h e = h

pub agrees_ended : (id : TransactionId) (old new : Log) → Agrees old.homes old → EndsId id old new → Agrees new.homes new
agrees_ended id old new agrees ends = record {
  none = λ t none.
      ap (λ cs. frames_in cs t) ends.cells ∙ frames_emptied id t old.cells
      ∙ ap (λ b. cond b [] (frames_of old t)) (nat_list_eq_equiv.symm t id)
      ∙ rest (same_id id t) (lookup (same_id t) old.homes) (frames_of old t) (sym (ends.homes t) ∙ none) (agrees.none t);
  distinct = ends.distinct;
}

pub kept_ended : (id : TransactionId) (old new : Log) → EndsId id old new → (t : TransactionId) → paired (lookup (same_id t) new.homes) (frames_of new t) ≡ cond (same_id t id) None (paired (lookup (same_id t) old.homes) (frames_of old t))
kept_ended id old new ends t =
    ap (λ o. paired o (frames_of new t)) (ends.homes t ∙ ap (λ b. cond b None (lookup (same_id t) old.homes)) (nat_list_eq_equiv.symm id t))
    ∙ gone (same_id t id) (lookup (same_id t) old.homes) (frames_of old t) (frames_of new t)
    (kept_others (same_id t id) (frames_of old t) (frames_of new t) (ap (λ cs. frames_in cs t) ends.cells ∙ frames_emptied id t old.cells))

-- ---- the log closed up

pub agrees_compacted : (homes : Homes) (old new : Log) → ((t : TransactionId) → frames_of new t ≡ frames_of old t) → Agrees homes old → Agrees homes new
agrees_compacted homes old new frames agrees = record {
  none = λ t gone. frames t ∙ agrees.none t gone;
  distinct = agrees.distinct;
}
