-- The numbers that are kept for the names of the queues.
use Rattle.txn_broker_queues.proofs.Words.{Bool, List, None, Option, Some, [], ap, arith, cond, false, length, refl, same_text, sym, true, ℕ, ◌++◌, ◌+◌, ◌∙◌, ◌∷◌, ◌≡◌}
use Rattle.std.specs.Prelude.{position}
use Rattle.std.specs.BTreeMap.{is_at}
use Rattle.std.specs.Cmp.Lexicographic.{slice_cmp}
use Rattle.std.specs.List.{position_from}
use Rattle.std.specs.Option.{option_or}
use Rattle.std.specs.Ordering.{nat_cmp}
use Rattle.std.proofs.lemmas.Cmp.{nat_list_eq_equiv}
use Rattle.std.proofs.lemmas.Iterator.Adapters.{position_from-zero}
use Rattle.amqp_below_layer.proofs.Ordered.{changed-at, names_exact, put-back}
use Rattle.txn_broker_queues.specs.Keeping.{AreNumbered}
use Rattle.txn_broker_queues.proofs.Naming.{same_name}

-- ---- the place of a name among some names and one more

place_from : (test : List ℕ → Bool) (names : List (List ℕ)) (name : List ℕ) (i : ℕ)
    → position_from test i (names ++ name ∷ []) ≡ option_or (position_from test i names) (cond (test name) (Some (i + length names)) None)
place_from test [] name i = let e : i ≡ i + 0 = omega arith in ap (λ n. cond (test name) (Some n) None) e
place_from test (x ∷ names) name i = by_case (test x) (place_from test names name (i + 1))
  where
    by_case : (b : Bool) → position_from test (i + 1) (names ++ name ∷ []) ≡ option_or (position_from test (i + 1) names) (cond (test name) (Some (i + 1 + length names)) None)
        → cond b (Some i) (position_from test (i + 1) (names ++ name ∷ [])) ≡ option_or (cond b (Some i) (position_from test (i + 1) names)) (cond (test name) (Some (i + length (x ∷ names))) None)
    by_case true rest = refl
    by_case false rest =
        let e : i + 1 + length names ≡ i + length (x ∷ names) = omega arith in
        rest ∙ ap (λ n. option_or (position_from test (i + 1) names) (cond (test name) (Some n) None)) e

or_none : (o : Option ℕ) → option_or o None ≡ o
or_none None = refl
or_none (Some n) = refl

-- where the one more wasn't there
place_more : (names : List (List ℕ)) (name q : List ℕ) → position (same_name name) names ≡ None
    → position (same_name q) (names ++ name ∷ []) ≡ cond (same_name name q) (Some (length names)) (position (same_name q) names)
place_more names name q none =
    position_from-zero (same_name q) (names ++ name ∷ []) ∙ place_from (same_name q) names name 0 ∙ by_case (same_name name q) refl
  where
    by_case : (b : Bool) → same_name name q ≡ b
        → option_or (position_from (same_name q) 0 names) (cond (same_name q name) (Some (0 + length names)) None) ≡ cond b (Some (length names)) (position (same_name q) names)
    by_case true so =
        let e : 0 + length names ≡ length names = omega arith in
        ap (λ o. option_or o (cond (same_name q name) (Some (0 + length names)) None))
        (sym (position_from-zero (same_name q) names) ∙ ap (λ n. position (same_name n) names) (sym (same_text name q (sym so))) ∙ none)
        ∙ ap (λ b. cond b (Some (0 + length names)) None) (nat_list_eq_equiv.symm q name ∙ so)
        ∙ ap Some e
    by_case false un =
        ap (λ b. option_or (position_from (same_name q) 0 names) (cond b (Some (0 + length names)) None)) (nat_list_eq_equiv.symm q name ∙ un)
        ∙ or_none (position_from (same_name q) 0 names)
        ∙ sym (position_from-zero (same_name q) names)

-- ---- what is kept

module _ (names : List (List ℕ)) (number : List ℕ → Option ℕ) (numbered : AreNumbered names number) where
  -- the numbers stay
  pub numbers_stay : (new : List (List ℕ)) (found : List ℕ → Option ℕ) → new ≡ names → ((q : List ℕ) → found q ≡ number q) → AreNumbered new found
  numbers_stay new found same stays = λ q. stays q ∙ numbered q ∙ ap (position (same_name q)) (sym same)

  -- a name has no number, and is given one
  module _ (name key : List ℕ) (queue : ℕ) (between : List ℕ → Option ℕ) (none : number name ≡ None) (same : key ≡ name) (given : (q : List ℕ) → between q ≡ cond (is_at (slice_cmp nat_cmp key) q) (Some queue) (number q)) where
    given_name : (q : List ℕ) → between q ≡ cond (is_at (slice_cmp nat_cmp name) q) (Some queue) (number q)
    given_name q = given q ∙ ap (λ k. cond (is_at (slice_cmp nat_cmp k) q) (Some queue) (number q)) same

    -- it is taken back
    pub number_taken_back : (new : List (List ℕ)) (found : List ℕ → Option ℕ) → new ≡ names → ((q : List ℕ) → found q ≡ cond (is_at (slice_cmp nat_cmp name) q) None (between q)) → AreNumbered new found
    number_taken_back new found stay taken =
        numbers_stay new found stay (put-back names_exact number between found name (Some queue) None (sym none) given_name taken)

    -- the name goes last
    pub number_added : (new : List (List ℕ)) → queue ≡ length names → new ≡ names ++ name ∷ [] → AreNumbered new between
    number_added new at grown = λ q.
        changed-at names_exact number between name (Some queue) given_name q
        ∙ ap (λ n. cond (same_name name q) (Some n) (number q)) at
        ∙ ap (λ o. cond (same_name name q) (Some (length names)) o) (numbered q)
        ∙ sym (place_more names name q (sym (numbered name) ∙ none))
        ∙ ap (position (same_name q)) (sym grown)
