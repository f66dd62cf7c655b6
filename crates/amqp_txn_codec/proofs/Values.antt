use Rattle.std.proofs.Common.{◌≡◌, ℕ, zero, suc, ◌+◌, ◌/◌, ◌<◌, ◌≤◌, List, [], ◌∷◌, ◌++◌, length, take, drop, Some, None, refl, sym, ap, subst, ◌∙◌, append_assoc, arith, add-one, length-append, length-drop, ◌-◌}
use Rattle.std.specs.Int.{from_be_bytes, w32}
use Rattle.std.proofs.lemmas.List.{take-append-drop, length-take-le}
use Rattle.std.proofs.Math.Seq.{drop-append_seam, take-length}
use Rattle.amqp_txn_codec.specs.Values.{Width, Fixed, OneOctet, FourOctets, NoValue, width_of, octets_by, octets_after, IsValue, plain, described}
use Rattle.amqp_txn_codec.specs.Walks.{LeavesAfter, IsSameRest}

-- the octets that say the number may be followed by others
pub octets_by-more : (w : Width) (xs ys : List ℕ) (n : ℕ) → octets_by w xs ≡ Some n → octets_by w (xs ++ ys) ≡ Some n
octets_by-more (Fixed k) xs ys n h = h
octets_by-more OneOctet [] ys n h = cc
octets_by-more OneOctet (x ∷ xs) ys n h = h
octets_by-more FourOctets (a ∷ b ∷ c ∷ d ∷ xs) ys n h = h
octets_by-more FourOctets (a ∷ b ∷ c ∷ []) ys n h = cc
octets_by-more FourOctets (a ∷ b ∷ []) ys n h = cc
octets_by-more FourOctets (a ∷ []) ys n h = cc
octets_by-more FourOctets [] ys n h = cc
octets_by-more NoValue xs ys n h = cc

-- and the others are not read
pub octets_by-front : (w : Width) (xs : List ℕ) (n : ℕ) → octets_by w xs ≡ Some n → octets_by w (take n xs) ≡ Some n
octets_by-front (Fixed k) xs n h = h
octets_by-front OneOctet [] n h = cc
octets_by-front OneOctet (x ∷ xs) n h =
    let e : x + 1 ≡ n = cc in
    let s : n ≡ suc x = omega arith in
    ap (λ (m : ℕ). octets_by OneOctet (take m (x ∷ xs))) s ∙ h
octets_by-front FourOctets (a ∷ b ∷ c ∷ d ∷ xs) n h =
    let k = from_be_bytes w32 (a ∷ b ∷ c ∷ d ∷ []) in
    let e : k + 4 ≡ n = cc in
    let s : n ≡ suc (suc (suc (suc k))) = omega arith in
    ap (λ (m : ℕ). octets_by FourOctets (take m (a ∷ b ∷ c ∷ d ∷ xs))) s ∙ h
octets_by-front FourOctets (a ∷ b ∷ c ∷ []) n h = cc
octets_by-front FourOctets (a ∷ b ∷ []) n h = cc
octets_by-front FourOctets (a ∷ []) n h = cc
octets_by-front FourOctets [] n h = cc
octets_by-front NoValue xs n h = cc

-- no value begins with 0 and is plain
pub zero_is_not_plain : (octets : List ℕ) (n : ℕ) → octets_after 0 octets ≡ Some n → ⊥
unfolding width_of
zero_is_not_plain octets n h = cc

described-by : (count : ℕ) (octets rest value others : List ℕ) → IsValue value → 0 ∷ octets ≡ value ++ others → LeavesAfter count others rest → LeavesAfter (suc (suc count)) octets rest
described-by count octets rest value others (plain c body width) e more =
    let is_zero : c ≡ 0 = cc in
    absurd (zero_is_not_plain body (length body) (subst (λ (k : ℕ). octets_after k body ≡ Some (length body)) is_zero width))
described-by count octets rest value others (described d v hd hv) e more =
    let tail : octets ≡ (d ++ v) ++ others = cc in
    (d, v ++ others, tail ∙ append_assoc d v others, hd, (v, others, refl, hv, more))

-- a constructor 0 leads two values
pub described-in : (count : ℕ) (octets rest : List ℕ) → LeavesAfter (suc count) (0 ∷ octets) rest → LeavesAfter (suc (suc count)) octets rest
described-in count octets rest h = described-by count octets rest h.0 h.1 h.3 h.2 h.4

pub described-out : (count : ℕ) (octets rest : List ℕ) → LeavesAfter (suc (suc count)) octets rest → LeavesAfter (suc count) (0 ∷ octets) rest
described-out count octets rest h =
    let d = h.0 in
    let v = h.4.0 in
    let others = h.4.1 in
    let split : octets ≡ (d ++ v) ++ others = h.2 ∙ ap (λ (l : List ℕ). d ++ l) h.4.2 ∙ sym (append_assoc d v others) in
    (0 ∷ (d ++ v), others, ap (λ (l : List ℕ). 0 ∷ l) split, described d v h.3 h.4.3, h.4.4)

-- any other constructor says how many octets follow
pub record PlainAfter (count constructor : ℕ) (octets rest : List ℕ) : Type 0 where
  pub size : ℕ
  pub says : octets_after constructor octets ≡ Some size
  pub fits : size ≤ length octets
  pub more : LeavesAfter count (drop size octets) rest

plain-by : (count c : ℕ) (octets rest value others : List ℕ) → IsValue value → (c ≡ 0 → ⊥) → c ∷ octets ≡ value ++ others → LeavesAfter count others rest → PlainAfter count c octets rest
plain-by count c octets rest value others (plain c2 body width) nonzero e more =
    let same : c2 ≡ c = cc in
    let tail : octets ≡ body ++ others = cc in
    let says : octets_after c body ≡ Some (length body) = subst (λ (k : ℕ). octets_after k body ≡ Some (length body)) same width in
    record {
      size = length body;
      says = rw tail (octets_by-more (width_of (c / 16)) body others (length body) says);
      fits = omega (arith, ap length tail, length-append body others);
      more = rw (tail, drop-append_seam) more;
    }
plain-by count c octets rest value others (described d v hd hv) nonzero e more =
    let is_zero : c ≡ 0 = cc in
    absurd (nonzero is_zero)

pub plain-in : (count c : ℕ) (octets rest : List ℕ) → (c ≡ 0 → ⊥) → LeavesAfter (suc count) (c ∷ octets) rest → PlainAfter count c octets rest
plain-in count c octets rest nonzero h = plain-by count c octets rest h.0 h.1 h.3 nonzero h.2 h.4

pub plain-out : (count c : ℕ) (octets rest : List ℕ) → PlainAfter count c octets rest → LeavesAfter (suc count) (c ∷ octets) rest
plain-out count c octets rest h =
    let n = h.size in
    let front : octets_after c (take n octets) ≡ Some n = octets_by-front (width_of (c / 16)) octets n h.says in
    (c ∷ take n octets, drop n octets, ap (λ (l : List ℕ). c ∷ l) (sym (take-append-drop n octets)), plain c (take n octets) (front ∙ ap Some (sym (length-take-le n octets h.fits))), h.more)

nothing-by : (value others : List ℕ) → IsValue value → [] ≡ value ++ others → ⊥
nothing-by value others (plain c body width) e = cc
nothing-by value others (described d v hd hv) e = cc

-- no octets hold no value
pub nothing-in : (count : ℕ) (rest : List ℕ) → LeavesAfter (suc count) [] rest → ⊥
nothing-in count rest h = nothing-by h.0 h.1 h.3 h.2

-- the turns of a walk with p values to go, of which later is what is left
module _ (octets : List ℕ) where
  pub same-described : (p : ℕ) (later others : List ℕ) (c : ℕ) → 0 < p → later ≡ c ∷ others → c ≡ 0 → IsSameRest p later octets → IsSameRest (p + 1) others octets
  same-described zero later others c pos e z same = absurd (omega arith)
  same-described (suc k) later others c pos e z same =
      let at : later ≡ 0 ∷ others = e ∙ ap (λ (h : ℕ). h ∷ others) z in
      rw add-one (record {
        out = λ (rest : List ℕ) h. same.out rest (subst (λ (l : List ℕ). LeavesAfter (suc k) l rest) (sym at) (described-out k others rest h));
        back = λ (rest : List ℕ) h. described-in k others rest (subst (λ (l : List ℕ). LeavesAfter (suc k) l rest) at (same.back rest h));
      })

  pub same-plain : (p q : ℕ) (later others : List ℕ) (c n : ℕ) → p ≡ suc q → later ≡ c ∷ others → (c ≡ 0 → ⊥) → octets_after c others ≡ Some n → n ≤ length others → IsSameRest p later octets → IsSameRest q (drop n others) octets
  same-plain p q later others c n is e nonzero says fits same =
      let here : IsSameRest (suc q) (c ∷ others) octets = rw (← is, ← e) same in
      record {
        out = λ (rest : List ℕ) h. here.out rest (plain-out q c others rest (record { size = n; says = says; fits = fits; more = h }));
        back = λ (rest : List ℕ) h.
            let g = plain-in q c others rest nonzero (here.back rest h) in
            let k : g.size ≡ n = cc in
            subst (λ (m : ℕ). LeavesAfter q (drop m others) rest) k g.more;
      }

  pub none-empty : (p : ℕ) (later : List ℕ) → 0 < p → length later ≡ 0 → IsSameRest p later octets → (rest : List ℕ) → LeavesAfter 1 octets rest → ⊥
  none-empty zero later pos e same rest h = absurd (omega arith)
  none-empty (suc k) [] pos e same rest h = nothing-in k rest (same.back rest h)
  none-empty (suc k) (x ∷ xs) pos e same rest h = absurd (omega arith)

  pub none-unsized : (p : ℕ) (later others : List ℕ) (c : ℕ) → 0 < p → later ≡ c ∷ others → (c ≡ 0 → ⊥) → octets_after c others ≡ None → IsSameRest p later octets → (rest : List ℕ) → LeavesAfter 1 octets rest → ⊥
  none-unsized zero later others c pos e nonzero says same rest h = absurd (omega arith)
  none-unsized (suc k) later others c pos e nonzero says same rest h =
      let g = plain-in k c others rest nonzero (subst (λ (l : List ℕ). LeavesAfter (suc k) l rest) e (same.back rest h)) in
      let both : Some g.size ≡ None = sym g.says ∙ says in
      cc

  pub none-long : (p : ℕ) (later others : List ℕ) (c n : ℕ) → 0 < p → later ≡ c ∷ others → (c ≡ 0 → ⊥) → octets_after c others ≡ Some n → length others < n → IsSameRest p later octets → (rest : List ℕ) → LeavesAfter 1 octets rest → ⊥
  none-long zero later others c n pos e nonzero says long same rest h = absurd (omega arith)
  none-long (suc k) later others c n pos e nonzero says long same rest h =
      let g = plain-in k c others rest nonzero (subst (λ (l : List ℕ). LeavesAfter (suc k) l rest) e (same.back rest h)) in
      let size : g.size ≡ n = cc in
      let fits : g.size ≤ length others = g.fits in
      omega arith

-- lists of one length at the front of the same list
pub same_front : (xs ys s t : List ℕ) → length xs ≡ length ys → xs ++ s ≡ ys ++ t → (xs ≡ ys) × (s ≡ t)
same_front [] [] s t n e = (refl, e)
same_front [] (y ∷ ys) s t n e = absurd (omega arith)
same_front (x ∷ xs) [] s t n e = absurd (omega arith)
same_front (x ∷ xs) (y ∷ ys) s t n e =
    let head : x ≡ y = cc in
    let tail : xs ++ s ≡ ys ++ t = cc in
    let m : length xs ≡ length ys = omega arith in
    let more = same_front xs ys s t m tail in
    (rw (head, more.0) refl, more.1)

-- no value begins another
pub one_front : (x y s t : List ℕ) → IsValue x → IsValue y → x ++ s ≡ y ++ t → (x ≡ y) × (s ≡ t)
one_front x y s t (plain c xs w) (plain d ys v) e =
    let head : c ≡ d = cc in
    let tail : xs ++ s ≡ ys ++ t = cc in
    let first : octets_after c (xs ++ s) ≡ Some (length xs) = octets_by-more (width_of (c / 16)) xs s (length xs) w in
    let second : octets_after d (ys ++ t) ≡ Some (length ys) = octets_by-more (width_of (d / 16)) ys t (length ys) v in
    let third : octets_after c (xs ++ s) ≡ Some (length ys) = rw (head, tail) second in
    let n : length xs ≡ length ys = cc in
    let more = same_front xs ys s t n tail in
    (rw (head, more.0) refl, more.1)
one_front x y s t (plain c xs w) (described d v hd hv) e =
    let z : c ≡ 0 = cc in
    absurd (zero_is_not_plain xs (length xs) (subst (λ (k : ℕ). octets_after k xs ≡ Some (length xs)) z w))
one_front x y s t (described d v hd hv) (plain c ys w) e =
    let z : c ≡ 0 = cc in
    absurd (zero_is_not_plain ys (length ys) (subst (λ (k : ℕ). octets_after k ys ≡ Some (length ys)) z w))
one_front x y s t (described d v hd hv) (described d2 v2 hd2 hv2) e =
    let tail : (d ++ v) ++ s ≡ (d2 ++ v2) ++ t = cc in
    let flat : d ++ (v ++ s) ≡ d2 ++ (v2 ++ t) = sym (append_assoc d v s) ∙ tail ∙ append_assoc d2 v2 t in
    let first = one_front d d2 (v ++ s) (v2 ++ t) hd hd2 flat in
    let second = one_front v v2 s t hv hv2 first.1 in
    (rw (first.0, second.0) refl, second.1)

-- a value at the front leaves what is behind it
pub leaves : (bytes : List ℕ) (n : ℕ) → IsValue (take n bytes) → LeavesAfter 1 bytes (drop n bytes)
leaves bytes n v = (take n bytes, drop n bytes, sym (take-append-drop n bytes), v, refl)

-- the rest of a slice from n on
pub rest_of : (n : ℕ) (xs : List ℕ) → take (length xs - n) (drop n xs) ≡ drop n xs
rest_of n xs = rw (← length-drop n xs) (take-length (drop n xs))
