-- A map that is kept by an order changes at the keys that a test finds the same.
use Rattle.std.proofs.Common.{◌≡◌, ◌∙◌, Bool, true, cond, nat_eq, Option, Ordering, inl, inr, sym, ap}
use Rattle.std.specs.Cmp.Lexicographic.{pointwise, same_text, slice_cmp, texts_ties}
use Rattle.std.specs.Ordering.{eq_by_cmp, nat_cmp}
use Rattle.std.specs.BTreeMap.{is_at}
use Rattle.std.proofs.lemmas.Bool.{cases_Bool}

-- keys that an order doesn't tell apart are the same, and keys that are the same are one
pub record Exact {K : Type 0} (order : K → K → Ordering) (same : K → K → Bool) : Type 0 where
  pub ties : (x y : K) → same x y ≡ eq_by_cmp order x y
  pub one : (x y : K) → same x y ≡ true → x ≡ y

-- names are kept by the order of their octets
pub names_exact : Exact (slice_cmp nat_cmp) (pointwise nat_eq)
names_exact = record { ties = texts_ties; one = λ a b h. same_text a b (sym h) }

module _ {K X : Type 0} {order : K → K → Ordering} {same : K → K → Bool} (exact : Exact order same) where
  -- it changes at the keys that are the same
  pub changed-at : (find found : K → Option X) (key : K) (slot : Option X)
      → ((q : K) → found q ≡ cond (is_at (order key) q) slot (find q))
      → (q : K) → found q ≡ cond (same key q) slot (find q)
  changed-at find found key slot changes q = changes q ∙ ap (λ b. cond b slot (find q)) (sym (exact.ties key q))

  -- of two changes at one key the later stays
  pub changed-twice : (find between found : K → Option X) (key : K) (first last : Option X)
      → ((q : K) → between q ≡ cond (is_at (order key) q) first (find q))
      → ((q : K) → found q ≡ cond (is_at (order key) q) last (between q))
      → (q : K) → found q ≡ cond (same key q) last (find q)
  changed-twice find between found key first last changes again q =
      let one : between q ≡ cond (same key q) first (find q) = changed-at find between key first changes q in
      let two : found q ≡ cond (same key q) last (between q) = changed-at between found key last again q in
      elim (cases_Bool (same key q)) [
        | inl hit ↦ let now : found q ≡ last = rw hit at two in rw hit now
        | inr miss ↦
            let now : found q ≡ between q = rw miss at two in
            let was : between q ≡ find q = rw miss at one in
            rw miss (now ∙ was)
      ]

  -- what a key had is put back
  pub put-back : (find between found : K → Option X) (key : K) (first had : Option X)
      → had ≡ find key
      → ((q : K) → between q ≡ cond (is_at (order key) q) first (find q))
      → ((q : K) → found q ≡ cond (is_at (order key) q) had (between q))
      → (q : K) → found q ≡ find q
  put-back find between found key first had was changes again q =
      let now : found q ≡ cond (same key q) had (find q) = changed-twice find between found key first had changes again q in
      elim (cases_Bool (same key q)) [
        | inl hit ↦
            let here : found q ≡ had = rw hit at now in
            here ∙ was ∙ ap find (exact.one key q hit)
        | inr miss ↦ let kept : found q ≡ find q = rw miss at now in kept
      ]
