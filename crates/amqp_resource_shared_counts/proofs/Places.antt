-- Places of numbers, one number after another.
use Rattle.std.proofs.Common.{◌≡◌, ℕ, zero, suc, ◌+◌, ◌<◌, add-one, eqb, Bool, true, false, cond, ◌||◌, Option, Some, None, List, [], ◌∷◌, ◌++◌, length, take, slice_get, slice_index, refl, sym, ◌∙◌, ap, subst, arith}
use Rattle.std.specs.List.{IsDistinct, list_any}
use Rattle.std.proofs.lemmas.Bool.Decides.{nat_tests}
use Rattle.std.proofs.lemmas.Map.Keys.{IsDistinct-push}
use Rattle.std.proofs.lemmas.Cmp.{nat_eq_equiv}
use Rattle.std.specs.Ordering.{nat_cmp}
use Rattle.std.specs.BTreeMap.{is_at}
use Rattle.amqp_resource_shared_counts.specs.Repeats.{FindsPlace, StandsTwice}

pub distinct-nil : IsDistinct eqb []
unfolding IsDistinct
distinct-nil = tt

take-suc : (ns : List ℕ) (i n : ℕ) → slice_get ns i ≡ Some n → take (suc i) ns ≡ take i ns ++ n ∷ []
take-suc [] zero n at = absurd (cc at)
take-suc [] (suc i) n at = absurd (cc at)
take-suc (m ∷ ns) zero n at = let e : m ≡ n = cc at in ap (λ y. y ∷ []) e
take-suc (m ∷ ns) (suc i) n at = ap (λ l. m ∷ l) (take-suc ns i n at)

pub take-next : (ns : List ℕ) (i n : ℕ) → slice_get ns i ≡ Some n → take (i + 1) ns ≡ take i ns ++ n ∷ []
take-next ns i n at = rw add-one (take-suc ns i n at)

pub at-end : (ns : List ℕ) (n : ℕ) → slice_get (ns ++ n ∷ []) (length ns) ≡ Some n
at-end [] n = refl
at-end (m ∷ ns) n = at-end ns n

pub at-front : (ns : List ℕ) (n i m : ℕ) → slice_get ns i ≡ Some m → slice_get (ns ++ n ∷ []) i ≡ Some m
at-front [] n i m at = absurd (cc at)
at-front (k ∷ ns) n zero m at = at
at-front (k ∷ ns) n (suc i) m at = at-front ns n i m at

more : (here rest all : Bool) → here || rest ≡ false → (rest ≡ false → all ≡ false) → here || all ≡ false
more true rest all none next = none
more false rest all none next = next none

pub nowhere : (ns : List ℕ) (n q : ℕ) → list_any (eqb q) ns ≡ false → eqb q n ≡ false → list_any (eqb q) (ns ++ n ∷ []) ≡ false
nowhere [] n q none apart = rw apart refl
nowhere (m ∷ ns) n q none apart = more (eqb q m) (list_any (eqb q) ns) (list_any (eqb q) (ns ++ n ∷ [])) none (λ rest. nowhere ns n q rest apart)

same-key : (n q : ℕ) → is_at (nat_cmp n) q ≡ true → n ≡ q
same-key n q e = grind (arith, nat_tests, e)

other-key : (n q : ℕ) → is_at (nat_cmp n) q ≡ false → eqb q n ≡ false
other-key n q e = grind (arith, nat_tests, e)

goes-on : (ns : List ℕ) (n q : ℕ) (o : Option ℕ) → FindsPlace ns q o → eqb q n ≡ false → FindsPlace (ns ++ n ∷ []) q o
goes-on ns n q None found apart = nowhere ns n q found apart
goes-on ns n q (Some place) found apart = at-front ns n place q found

by-key : (ns : List ℕ) (n q : ℕ) (o : Option ℕ) (b : Bool) → is_at (nat_cmp n) q ≡ b → FindsPlace ns q o → FindsPlace (ns ++ n ∷ []) q (cond b (Some (length ns)) o)
by-key ns n q o true e found = at-end ns n ∙ ap (λ x. Some x) (same-key n q e)
by-key ns n q o false e found = goes-on ns n q o found (other-key n q e)

-- a number more, and its place in the map
places-push : (ns : List ℕ) (n : ℕ) (old new : ℕ → Option ℕ) → ((q : ℕ) → FindsPlace ns q (old q)) → ((q : ℕ) → new q ≡ cond (is_at (nat_cmp n) q) (Some (length ns)) (old q)) → (q : ℕ) → FindsPlace (ns ++ n ∷ []) q (new q)
places-push ns n old new finds is q = subst (λ (o : Option ℕ). FindsPlace (ns ++ n ∷ []) q o) (sym (is q)) (by-key ns n q (old q) (is_at (nat_cmp n) q) refl (finds q))

length-so_far : (ns : List ℕ) (i n : ℕ) → slice_get ns i ≡ Some n → length (take i ns) ≡ i
length-so_far [] i n at = absurd (cc at)
length-so_far (m ∷ ns) zero n at = refl
length-so_far (m ∷ ns) (suc i) n at = ap suc (length-so_far ns i n at)

-- the number at a place, and that place in the map
pub places-more : (ns : List ℕ) (i n : ℕ) (old new : ℕ → Option ℕ) → slice_get ns i ≡ Some n → ((q : ℕ) → FindsPlace (take i ns) q (old q)) → ((q : ℕ) → new q ≡ cond (is_at (nat_cmp n) q) (Some i) (old q)) → (q : ℕ) → FindsPlace (take (i + 1) ns) q (new q)
places-more ns i n old new at finds is q =
    let there : (p : ℕ) → new p ≡ cond (is_at (nat_cmp n) p) (Some (length (take i ns))) (old p) = λ p. rw (length-so_far ns i n at) (is p) in
    rw (take-next ns i n at) (places-push (take i ns) n old new finds there q)

distinct-push : (ns : List ℕ) (n : ℕ) (o : Option ℕ) → IsDistinct eqb ns → FindsPlace ns n o → o ≡ None → IsDistinct eqb (ns ++ n ∷ [])
distinct-push ns n None distinct found e = IsDistinct-push nat_eq_equiv ns n distinct found
distinct-push ns n (Some place) distinct found e = absurd (cc e)

-- a number that no place was found for differs from all before it
pub distinct-next : (ns : List ℕ) (i n : ℕ) (o : Option ℕ) → slice_get ns i ≡ Some n → IsDistinct eqb (take i ns) → FindsPlace (take i ns) n o → o ≡ None → IsDistinct eqb (take (i + 1) ns)
distinct-next ns i n o at distinct found e = rw (take-next ns i n at) (distinct-push (take i ns) n o distinct found e)

in-front : (ns : List ℕ) (i j : ℕ) (n : ℕ) → slice_get (take i ns) j ≡ Some n → (j < i) × (slice_get ns j ≡ Some n)
in-front [] zero j n at = absurd (cc at)
in-front [] (suc i) j n at = absurd (cc at)
in-front (m ∷ ns) zero j n at = absurd (cc at)
in-front (m ∷ ns) (suc i) zero n at = (omega arith, at)
in-front (m ∷ ns) (suc i) (suc j) n at = let a = in-front ns i j n at in (omega (arith, a.0), a.1)

-- a place that was found is that of the same number, further in front
pub twice : (ns : List ℕ) (i j n : ℕ) (o : Option ℕ) → i < length ns → slice_get ns i ≡ Some n → FindsPlace (take i ns) n o → o ≡ Some j → StandsTwice ns j i
twice ns i j n None low at found e = absurd (cc e)
twice ns i j n (Some place) low at found e =
    let same : place ≡ j = cc e in
    let a = in-front ns i j n (subst (λ (x : ℕ). slice_get (take i ns) x ≡ Some n) same found) in
    (a.0, low, a.1 ∙ sym at)

-- what is read at a place stands there
pub read-at : (ns : List ℕ) (i : ℕ) → i < length ns → slice_get ns i ≡ Some (slice_index ns i)
read-at [] i low = absurd (omega (arith, low))
read-at (n ∷ ns) zero low = refl
read-at (n ∷ ns) (suc i) low = read-at ns i (omega (arith, low))

-- an empty map finds nothing in an empty list
pub nowhere-nil : (q : ℕ) (o : Option ℕ) → o ≡ None → FindsPlace [] q o
nowhere-nil q None e = refl
nowhere-nil q (Some place) e = absurd (cc e)
