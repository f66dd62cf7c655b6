-- An index stays in agreement with its keys as one of them is added or dropped, and finds the first place of a key.
use Rattle.std.proofs.Common.{ℕ, ◌≡◌, ◌≢◌, Bool, true, false, cond, Option, Some, None, List, inl, inr, sym, ◌∙◌, ap, refl}
use Rattle.std.specs.Prelude.{position, slice_index_or}
use Rattle.std.proofs.lemmas.Bool.{cases_Bool, cases_eq}
use Rattle.amqp_txn_types.specs.declared.small.OutputHandle.{OutputHandle}
use Rattle.amqp_below_sessions.specs.Links.{as_output}
use Rattle.amqp_below_sessions.specs.Agreement.{Indexes}
use Rattle.amqp_below_sessions.proofs.Positions.{position-only, position-none}

-- a key that no place has is added at a place that has none
pub indexes-add : {K : Type 0} (same : K → K → Bool) → ((x y : K) → same x y ≡ true → x ≡ y) → ((x : K) → same x x ≡ true) → (before after : ℕ → Option K) (find found : K → Option OutputHandle) (key : K) (output : OutputHandle) → Indexes before find → find key ≡ None → before output.0 ≡ None → after output.0 ≡ Some key → ((i : ℕ) → i ≢ output.0 → after i ≡ before i) → ((q : K) → found q ≡ cond (same key q) (Some output) (find q)) → Indexes after found
indexes-add {K} same exact self before after find found key output old fresh vacant here others updates = record {
  found = λ q u there. elim (cases_Bool (same key q)) [
    | inl hit ↦
        let now : found q ≡ Some output = rw hit at (updates q) in
        let one : key ≡ q = exact key q hit in
        let both : output ≡ u = cc (now, there) in
        let goal : after u.0 ≡ Some q = rw (← both, ← one) here in goal
    | inr miss ↦
        let now : found q ≡ find q = rw miss at (updates q) in
        let was : before u.0 ≡ Some q = old.found q u (sym now ∙ there) in
        elim (cases_eq u.0 output.0) [
          | inl e ↦ let none : before u.0 ≡ None = ap before e ∙ vacant in absurd (cc (none, was))
          | inr ne ↦ others u.0 ne ∙ was
        ]
  ];
  finds = λ q i there. elim (cases_eq i output.0) [
    | inl e ↦
        let at : after i ≡ Some key = ap after e ∙ here in
        let one : key ≡ q = cc (at, there) in
        let now : found q ≡ Some output = rw (← one) (rw (self key) at (updates key)) in
        now ∙ ap (λ n. Some (record { 0 = n })) (sym e)
    | inr ne ↦
        let was : find q ≡ Some (record { 0 = i }) = old.finds q i (sym (others i ne) ∙ there) in
        elim (cases_Bool (same key q)) [
          | inl hit ↦ let none : find q ≡ None = ap find (sym (exact key q hit)) ∙ fresh in absurd (cc (none, was))
          | inr miss ↦ (rw miss at (updates q)) ∙ was
        ]
  ];
}

-- the key of a place is dropped
pub indexes-drop : {K : Type 0} (same : K → K → Bool) → ((x y : K) → same x y ≡ true → x ≡ y) → ((x : K) → same x x ≡ true) → (before after : ℕ → Option K) (find found : K → Option OutputHandle) (key : K) (output : ℕ) → Indexes before find → before output ≡ Some key → after output ≡ None → ((i : ℕ) → i ≢ output → after i ≡ before i) → ((q : K) → found q ≡ cond (same key q) None (find q)) → Indexes after found
indexes-drop {K} same exact self before after find found key output old here gone others updates = record {
  found = λ q u there. elim (cases_Bool (same key q)) [
    | inl hit ↦ let now : found q ≡ None = rw hit at (updates q) in absurd (cc (now, there))
    | inr miss ↦
        let now : found q ≡ find q = rw miss at (updates q) in
        let was : before u.0 ≡ Some q = old.found q u (sym now ∙ there) in
        elim (cases_eq u.0 output) [
          | inl e ↦
              let at : before u.0 ≡ Some key = ap before e ∙ here in
              let one : q ≡ key = cc (at, was) in
              let hit : same key q ≡ true = rw one (self key) in
              absurd (cc (miss, hit))
          | inr ne ↦ others u.0 ne ∙ was
        ]
  ];
  finds = λ q i there. elim (cases_eq i output) [
    | inl e ↦ let none : after i ≡ None = ap after e ∙ gone in absurd (cc (none, there))
    | inr ne ↦
        let was : find q ≡ Some (record { 0 = i }) = old.finds q i (sym (others i ne) ∙ there) in
        elim (cases_Bool (same key q)) [
          | inl hit ↦
              let first : find key ≡ Some (record { 0 = output }) = old.finds key output here in
              let both : find key ≡ Some (record { 0 = i }) = ap find (exact key q hit) ∙ was in
              let handles : ◌≡◌ {A = OutputHandle} (record { 0 = i }) (record { 0 = output }) = cc (first, both) in
              absurd (ne (ap (λ h. h.0) handles))
          | inr miss ↦ (rw miss at (updates q)) ∙ was
        ]
  ];
}

-- no key changed
pub indexes-same : {K : Type 0} (before after : ℕ → Option K) (find found : K → Option OutputHandle) → Indexes before find → ((i : ℕ) → after i ≡ before i) → ((q : K) → found q ≡ find q) → Indexes after found
indexes-same before after find found old keys finds = record {
  found = λ q u there. keys u.0 ∙ old.found q u (sym (finds q) ∙ there);
  finds = λ q i there. finds q ∙ old.finds q i (sym (keys i) ∙ there);
}

-- what an index finds is the first place whose slot passes the test of the key
pub finds-position : {S K : Type 0} (slots : List (Option S)) (key_in : Option S → Option K) (find : K → Option OutputHandle) (test : Option S → Bool) (key : K) → test None ≡ false → ((slot : Option S) → test slot ≡ true → key_in slot ≡ Some key) → ((slot : Option S) → key_in slot ≡ Some key → test slot ≡ true) → Indexes (λ i. key_in (slice_index_or slots i None)) find → find key ≡ as_output (position test slots)
finds-position {S} {K} slots key_in find test key none passes passed old = by_case (find key) refl
  where
    by_case : (o : Option OutputHandle) → find key ≡ o → o ≡ as_output (position test slots)
    by_case None e =
        let fails : (k : ℕ) → test (slice_index_or slots k None) ≡ false = λ k. elim (cases_Bool (test (slice_index_or slots k None))) [
          | inl hit ↦ let there = old.finds key k (passes _ hit) in absurd (cc (there, e))
          | inr miss ↦ miss
        ] in
        rw (position-none test slots None fails) refl
    by_case (Some u) e =
        let only : (k : ℕ) → test (slice_index_or slots k None) ≡ true → k ≡ u.0 = λ k hit.
        let there : find key ≡ Some (record { 0 = k }) = old.finds key k (passes _ hit) in
        let handles : ◌≡◌ {A = OutputHandle} (record { 0 = k }) u = cc (there, e) in
        ap (λ h. h.0) handles in
        rw (position-only test slots u.0 None none (passed _ (old.found key u e)) only) refl
