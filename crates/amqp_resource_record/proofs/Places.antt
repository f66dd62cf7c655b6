-- Places of a record with one entry more.
use Rattle.std.proofs.Common.{◌≡◌, ℕ, suc, ◌+◌, ◌<◌, ◌≤◌, Bool, true, false, cond, Option, Some, None, List, [], ◌∷◌, ◌++◌, length, refl, ◌∙◌, ap, arith, zero, add-zero}
use Rattle.std.specs.Prelude.{slice_get}
use Rattle.std.specs.List.{AllByRecursion}
use Rattle.amqp_resource_record.specs.declared.entry.Entry.{Entry}
use Rattle.amqp_resource_record.specs.Live.{next_place, last_place, places_from}

next_of_cond : (a b : Bool) (o : Option ℕ) (n : ℕ) → next_place a (cond b (Some n) o) ≡ cond b (Some (suc n)) (next_place a o)
next_of_cond a true o n = refl
next_of_cond a false o n = refl

-- the last place, with one entry more
pub last_place-snoc : (p : Entry → Bool) (r : List Entry) (e : Entry) → last_place p (r ++ e ∷ []) ≡ cond (p e) (Some (length r)) (last_place p r)
last_place-snoc p [] e = refl
last_place-snoc p (x ∷ r) e = ap (next_place (p x)) (last_place-snoc p r e) ∙ next_of_cond (p x) (p e) (last_place p r) (length r)

next_below : (b : Bool) (o : Option ℕ) (n m : ℕ) → ((k : ℕ) → o ≡ Some k → k < m) → next_place b o ≡ Some n → n < suc m
next_below b (Some k) n m h e = let hk : k < m = h k refl in let ek : suc k ≡ n = cc e in omega arith
next_below true None n m h e = let ek : 0 ≡ n = cc e in omega arith
next_below false None n m h e = cc e

-- it stands within the record
pub last_place-below : (p : Entry → Bool) (r : List Entry) (n : ℕ) → last_place p r ≡ Some n → n < length r
last_place-below p [] n h = cc h
last_place-below p (x ∷ r) n h = next_below (p x) (last_place p r) n (length r) (λ k e. last_place-below p r k e) h

pushed : (b : Bool) (n : ℕ) (xs ys : List ℕ) → cond b (n ∷ (xs ++ ys)) (xs ++ ys) ≡ cond b (n ∷ xs) xs ++ ys
pushed true n xs ys = refl
pushed false n xs ys = refl

-- the places, with one entry more
pub places_from-snoc : (n : ℕ) (p : Entry → Bool) (r : List Entry) (e : Entry) → places_from n p (r ++ e ∷ []) ≡ places_from n p r ++ cond (p e) ((n + length r) ∷ []) []
places_from-snoc n p [] e = rw add-zero refl
places_from-snoc n p (x ∷ r) e =
    let ih : places_from (n + 1) p (r ++ e ∷ []) ≡ places_from (n + 1) p r ++ cond (p e) ((n + length (x ∷ r)) ∷ []) [] =
    places_from-snoc (n + 1) p r e ∙ ap (λ k. places_from (n + 1) p r ++ cond (p e) (k ∷ []) []) (omega arith) in
    ap (λ l. cond (p x) (n ∷ l) l) ih ∙ pushed (p x) n (places_from (n + 1) p r) (cond (p e) ((n + length (x ∷ r)) ∷ []) [])

both_ways_all : (b : Bool) (m n : ℕ) (xs : List ℕ) → n < m → AllByRecursion (λ i. i < m) xs → AllByRecursion (λ i. i < m) (cond b (n ∷ xs) xs)
both_ways_all true m n xs h all = (h, all)
both_ways_all false m n xs h all = all

-- they stand within the record
pub places_from-below : (m n : ℕ) (p : Entry → Bool) (r : List Entry) → n + length r ≤ m → AllByRecursion (λ i. i < m) (places_from n p r)
places_from-below m n p [] h = tt
places_from-below m n p (x ∷ r) h =
    let rest : AllByRecursion (λ i. i < m) (places_from (n + 1) p r) = places_from-below m (n + 1) p r (omega arith) in
    both_ways_all (p x) m n (places_from (n + 1) p r) (omega arith) rest

-- an element of a list with one more
pub slice_get-append : {X : Type 0} (xs ys : List X) (i : ℕ) → i < length xs → slice_get (xs ++ ys) i ≡ slice_get xs i
slice_get-append [] ys i h = absurd (omega arith)
slice_get-append (x ∷ xs) ys zero h = refl
slice_get-append (x ∷ xs) ys (suc i) h = slice_get-append xs ys i (omega arith)

pub slice_get-at : {X : Type 0} (xs ys : List X) (y : X) → slice_get (xs ++ y ∷ ys) (length xs) ≡ Some y
slice_get-at [] ys y = refl
slice_get-at (x ∷ xs) ys y = slice_get-at xs ys y
