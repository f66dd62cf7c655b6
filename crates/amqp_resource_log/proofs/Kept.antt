-- The places that are kept for an id, after those of one id were changed.
use Rattle.amqp_resource_log.proofs.Words.{Bool, Err, Index, List, None, Ok, OnOk, LiveId, Option, Result, Some, TransactionId, Without, Written, [], ap, cond, false, homes_in, if◌then◌else◌, is_some, is_some-lookup, keys_of, length, list_any, lookup, nat_list_eq_equiv, option_map, places_in, places_kept, refl, same_id, same_text, set_value, subst, suc, sym, true, ℕ, ◌++◌, ◌+◌, ◌∙◌, ◌∷◌, ◌≡◌}
use Rattle.std.specs.List.{IsDistinct}

picked : (b : Bool) (w : LiveId) (o : Option (LiveId)) → places_in (cond b (Some w) o) ≡ cond b w.places.items (places_in o)
picked true w o = refl
picked false w o = refl

pub same_or : (b : Bool) (xs ys zs : List ℕ) → (b ≡ true → xs ≡ ys) → cond b xs zs ≡ cond b ys zs
same_or true xs ys zs e = e refl
same_or false xs ys zs e = refl

-- the places of one id, at two names of it
pub kept_same : (index : Index) (t u : TransactionId) → same_id t u ≡ true → places_kept index t ≡ places_kept index u
kept_same index t u s = ap (places_kept index) (same_text t u (sym s))

-- the places of one id were written over by what f makes of them
pub kept_written : (f : List ℕ → List ℕ) (old new : Index) (id : TransactionId) (found w : LiveId) → Some found ≡ lookup (same_id id) old → ((t : TransactionId) → lookup (same_id t) new ≡ cond (same_id id t) (Some w) (lookup (same_id t) old)) → w.places.items ≡ f found.places.items → (t : TransactionId) → places_kept new t ≡ cond (same_id t id) (f (places_kept old t)) (places_kept old t)
kept_written f old new id found w at u made t =
    ap places_in (u t ∙ ap (λ b. cond b (Some w) (lookup (same_id t) old)) (nat_list_eq_equiv.symm id t))
    ∙ picked (same_id t id) w (lookup (same_id t) old)
    ∙ same_or (same_id t id) w.places.items (f (places_kept old t)) (places_kept old t) (λ s. made ∙ ap f (ap places_in at ∙ sym (kept_same old t id s)))

as_it_was : (b : Bool) (xs ys : List ℕ) → (b ≡ true → xs ≡ ys) → cond b xs ys ≡ ys
as_it_was true xs ys e = e refl
as_it_was false xs ys e = refl

-- nothing is kept for an id that wasn't found
pub kept_none : (f : List ℕ → List ℕ) (old : Index) (id : TransactionId) → lookup (same_id id) old ≡ None → f [] ≡ [] → (t : TransactionId) → places_kept old t ≡ cond (same_id t id) (f (places_kept old t)) (places_kept old t)
kept_none f old id none empty t =
    sym (as_it_was (same_id t id) (f (places_kept old t)) (places_kept old t) (λ s.
    ap f (kept_same old t id s ∙ ap places_in none) ∙ empty ∙ sym (kept_same old t id s ∙ ap places_in none)))

-- ---- ids opened and ended

pub none_in : {X : Type 0} (o : Option X) → is_some o ≡ false → o ≡ None
none_in None e = refl
none_in (Some x) e = cc

-- an id is among the keys where a look-up finds it
pub among : {V : Type 0} (index : List (TransactionId × V)) (t : TransactionId) → is_some (lookup (same_id t) index) ≡ list_any (same_id t) (keys_of index)
among index t = is_some-lookup (same_id t) index

pub not_found : (index : Index) (t : TransactionId) → list_any (same_id t) (keys_of index) ≡ false → lookup (same_id t) index ≡ None
not_found index t e = none_in (lookup (same_id t) index) (among index t ∙ e)

-- an id is live with no places
pub kept_opened : (old new : Index) (id : TransactionId) (w : LiveId) → lookup (same_id id) old ≡ None → ((t : TransactionId) → lookup (same_id t) new ≡ cond (same_id id t) (Some w) (lookup (same_id t) old)) → w.places.items ≡ [] → (t : TransactionId) → places_kept new t ≡ places_kept old t
kept_opened old new id w none u empty t =
    ap places_in (u t ∙ ap (λ b. cond b (Some w) (lookup (same_id t) old)) (nat_list_eq_equiv.symm id t))
    ∙ picked (same_id t id) w (lookup (same_id t) old)
    ∙ as_it_was (same_id t id) w.places.items (places_kept old t) (λ s. empty ∙ sym (kept_same old t id s ∙ ap places_in none))

dropped : (b : Bool) (o : Option (LiveId)) → places_in (cond b None o) ≡ cond b [] (places_in o)
dropped true o = refl
dropped false o = refl

-- what is kept for the other ids is as it was, and nothing for this one
pub kept_gone : (old new : Index) (id : TransactionId) → ((t : TransactionId) → lookup (same_id t) new ≡ cond (same_id id t) None (lookup (same_id t) old)) → (t : TransactionId) → places_kept new t ≡ cond (same_id t id) [] (places_kept old t)
kept_gone old new id u t =
    ap places_in (u t ∙ ap (λ b. cond b None (lookup (same_id t) old)) (nat_list_eq_equiv.symm id t))
    ∙ dropped (same_id t id) (lookup (same_id t) old)

-- an id without places is ended
pub kept_ended : (old new : Index) (id : TransactionId) → places_kept old id ≡ [] → Without id old new → (t : TransactionId) → places_kept new t ≡ places_kept old t
kept_ended old new id none without t =
    without.places t ∙ as_it_was (same_id t id) [] (places_kept old t) (λ s. sym (kept_same old t id s ∙ none))

pub found_unless : {X : Type 0} (b : Bool) (o : Option X) → is_some (cond b None o) ≡ cond b false (is_some o)
found_unless true o = refl
found_unless false o = refl

pub opened_ended : {V : Type 0} (old new : List (TransactionId × V)) (id : TransactionId) → ((t : TransactionId) → lookup (same_id t) new ≡ cond (same_id id t) None (lookup (same_id t) old)) → (t : TransactionId) → list_any (same_id t) (keys_of new) ≡ cond (same_id id t) false (list_any (same_id t) (keys_of old))
opened_ended old new id u t =
    sym (among new t) ∙ ap is_some (u t) ∙ found_unless (same_id id t) (lookup (same_id t) old) ∙ ap (cond (same_id id t) false) (among old t)

-- ---- the links of the live ids

pub keys-homes : (index : Index) → keys_of (homes_in index) ≡ keys_of index
keys-homes [] = refl
keys-homes (e ∷ es) = ap (λ ks. e.0 ∷ ks) (keys-homes es)

pub length-homes : (index : Index) → length (homes_in index) ≡ length index
length-homes [] = refl
length-homes (e ∷ es) = ap suc (length-homes es)

pub lookup-homes : (test : TransactionId → Bool) (index : Index) → lookup test (homes_in index) ≡ option_map (λ (one : LiveId). one.home) (lookup test index)
lookup-homes test [] = refl
lookup-homes test (e ∷ es) = either (test e.0) e.1 (lookup test es) (lookup test (homes_in es)) (lookup-homes test es)
  where
    either : (b : Bool) (x : LiveId) (o : Option LiveId) (h : Option (Option ℕ)) → h ≡ option_map (λ (one : LiveId). one.home) o → cond b (Some x.home) h ≡ option_map (λ (one : LiveId). one.home) (cond b (Some x) o)
    either true x o h e = refl
    either false x o h e = e

pub homes-append : (index : Index) (id : TransactionId) (one : LiveId) → homes_in (index ++ (id, one) ∷ []) ≡ homes_in index ++ (id, one.home) ∷ []
homes-append [] id one = refl
homes-append (e ∷ es) id one = ap (λ hs. (e.0, e.1.home) ∷ hs) (homes-append es id one)

pub keys-append : (homes : List (TransactionId × Option ℕ)) (id : TransactionId) (home : Option ℕ) → keys_of (homes ++ (id, home) ∷ []) ≡ keys_of homes ++ id ∷ []
keys-append [] id home = refl
keys-append (h ∷ hs) id home = ap (λ ks. h.0 ∷ ks) (keys-append hs id home)

pub opened_more : {T E : Type 0} (result : Result T E) (old new : List (TransactionId × Option ℕ)) (id : TransactionId) (home : Option ℕ) → OnOk result (new ≡ old ++ (id, home) ∷ []) → OnOk result (keys_of new ≡ keys_of old ++ id ∷ [])
opened_more (Ok x) old new id home e = ap keys_of e ∙ keys-append old id home
opened_more (Err x) old new id home e = tt

-- an entry was written over by one with the same link
pub homes-written : (test : TransactionId → Bool) (index : Index) (found w : LiveId) → Some found ≡ lookup test index → w.home ≡ found.home → homes_in (set_value test index w) ≡ homes_in index
homes-written test [] found w at same = refl
homes-written test (e ∷ es) found w at same = by_case (test e.0) at (homes-written test es found w)
  where
    by_case : (b : Bool) → Some found ≡ cond b (Some e.1) (lookup test es) → (Some found ≡ lookup test es → w.home ≡ found.home → homes_in (set_value test es w) ≡ homes_in es) → homes_in (cond b ((e.0, w) ∷ es) (e ∷ set_value test es w)) ≡ (e.0, e.1.home) ∷ homes_in es
    by_case true f more = let is : found ≡ e.1 = cc in ap (λ h. (e.0, h) ∷ homes_in es) (same ∙ ap (λ (one : LiveId). one.home) is)
    by_case false f more = ap (λ hs. (e.0, e.1.home) ∷ hs) (more f same)

ended_home : (b : Bool) (o : Option LiveId) → option_map (λ (one : LiveId). one.home) (cond b None o) ≡ cond b None (option_map (λ (one : LiveId). one.home) o)
ended_home true o = refl
ended_home false o = refl

pub homes_ended : (old new : Index) (id : TransactionId) → ((t : TransactionId) → lookup (same_id t) new ≡ cond (same_id id t) None (lookup (same_id t) old)) → (t : TransactionId) → lookup (same_id t) (homes_in new) ≡ cond (same_id id t) None (lookup (same_id t) (homes_in old))
homes_ended old new id u t =
    lookup-homes (same_id t) new ∙ ap (option_map (λ (one : LiveId). one.home)) (u t)
    ∙ ended_home (same_id id t) (lookup (same_id t) old) ∙ ap (cond (same_id id t) None) (sym (lookup-homes (same_id t) old))

opened_home : (b : Bool) (w : LiveId) (o : Option LiveId) → option_map (λ (one : LiveId). one.home) (cond b (Some w) o) ≡ cond b (Some w.home) (option_map (λ (one : LiveId). one.home) o)
opened_home true w o = refl
opened_home false w o = refl

pub homes_opened : (old new : Index) (id : TransactionId) (w : LiveId) → ((t : TransactionId) → lookup (same_id t) new ≡ cond (same_id id t) (Some w) (lookup (same_id t) old)) → (t : TransactionId) → lookup (same_id t) (homes_in new) ≡ cond (same_id id t) (Some w.home) (lookup (same_id t) (homes_in old))
homes_opened old new id w u t =
    lookup-homes (same_id t) new ∙ ap (option_map (λ (one : LiveId). one.home)) (u t)
    ∙ opened_home (same_id id t) w (lookup (same_id t) old) ∙ ap (cond (same_id id t) (Some w.home)) (sym (lookup-homes (same_id t) old))

pub length-keys : (homes : List (TransactionId × Option ℕ)) → length (keys_of homes) ≡ length homes
length-keys [] = refl
length-keys (h ∷ hs) = ap suc (length-keys hs)

pub not_opened : (index : Index) (t : TransactionId) → list_any (same_id t) (keys_of (homes_in index)) ≡ false → lookup (same_id t) index ≡ None
not_opened index t e = not_found index t (ap (list_any (same_id t)) (sym (keys-homes index)) ∙ e)

pub opened_here : (index : Index) (t : TransactionId) → is_some (lookup (same_id t) index) ≡ list_any (same_id t) (keys_of (homes_in index))
opened_here index t = among index t ∙ ap (list_any (same_id t)) (sym (keys-homes index))

-- ---- the index written

pub written : (f : List ℕ → List ℕ) (old new : Index) (id : TransactionId) (found w : LiveId) → Some found ≡ lookup (same_id id) old → new ≡ set_value (same_id id) old w → ((t : TransactionId) → lookup (same_id t) new ≡ cond (same_id id t) (Some w) (lookup (same_id t) old)) → w.home ≡ found.home → w.places.items ≡ f found.places.items → Written f id old new
written f old new id found w at is u same made = record {
  places = kept_written f old new id found w at u made;
  homes = ap homes_in is ∙ homes-written (same_id id) old found w at same;
}

some_home : (o : Option LiveId) → is_some o ≡ is_some (option_map (λ (one : LiveId). one.home) o)
some_home None = refl
some_home (Some one) = refl

pub taken_out : (id : TransactionId) (old new : Index) (value : Option LiveId) → ((t : TransactionId) → lookup (same_id t) new ≡ cond (same_id id t) None (lookup (same_id t) old)) → IsDistinct same_id (keys_of new) → value ≡ lookup (same_id id) old → length new + (if is_some value then 1 else 0) ≡ length old → Without id old new
taken_out id old new value u unique at len = record {
  places = kept_gone old new id u;
  homes = homes_ended old new id u;
  distinct = subst (IsDistinct same_id) (sym (keys-homes new)) unique;
  len =
      ap (λ n. n + (if is_some (lookup (same_id id) (homes_in old)) then 1 else 0)) (length-homes new)
      ∙ ap (λ b. length new + (if b then 1 else 0)) (sym (ap is_some at ∙ some_home (lookup (same_id id) old) ∙ sym (ap is_some (lookup-homes (same_id id) old))))
      ∙ len ∙ sym (length-homes old);
}
