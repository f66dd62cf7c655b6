-- One event more, and how many were skipped.
use Rattle.std.proofs.Common.{◌≡◌, ℕ, ◌+◌, ◌≤◌, cond, Result, Ok, Err, List, [], ◌∷◌, ◌++◌, length, take, refl, sym, ◌∙◌, ap, arith}
use Rattle.std.specs.Prelude.{OnErr}
use Rattle.std.proofs.lemmas.List.{length-map, length-take-le, map_push}
use Rattle.std.proofs.lemmas.List.Sums.{count_by-le-length, sum_by_push}
use Rattle.amqp_txn_types.specs.declared.items.NoMemory.{NoMemory}
use Rattle.txn_parties.specs.declared.event.Happened.{Happened}
use Rattle.txn_parties.specs.declared.event.Happened.TheVariants as happenings
use Rattle.txn_program_parties.specs.Skipping.{events_of, is_skipped, skipped_in}

abbrev pub one_skip : Happened → ℕ
one_skip h = cond (is_skipped h) 1 0

pub skips : (now before : ℕ) (h : Happened) → now ≡ before + 1 → h ≡ happenings.Skipped → now ≡ before + one_skip h
skips now before h e s = e ∙ ap (λ x. before + one_skip x) (sym s)

pub passes : (now before : ℕ) (h : Happened) → now ≡ before → (h ≡ happenings.Skipped → ⊥) → now ≡ before + one_skip h
passes now before happenings.Skipped e not = absurd (not refl)
passes now before _ e not = omega (arith, e)

-- where there is an error, this is so
pub on_err : (r : Result ℕ NoMemory) (P : Type 0) → P → OnErr r P
on_err (Ok n) P p = tt
on_err (Err e) P p = p

pub events_more : {E : Type 0} (past : List (E × Happened)) (event : E) (h : Happened) → events_of (past ++ (event, h) ∷ []) ≡ events_of past ++ event ∷ []
events_more {E} past event h = map_push (λ (p : E × Happened). p.0) past (event, h)

pub skipped_more : {E : Type 0} (past : List (E × Happened)) (event : E) (h : Happened) → skipped_in (past ++ (event, h) ∷ []) ≡ skipped_in past + one_skip h
skipped_more {E} past event h = sum_by_push (λ (p : E × Happened). cond (is_skipped p.1) 1 0) past (event, h)

-- so many events happened
pub past_count : {E : Type 0} (past : List (E × Happened)) (events : List E) (i : ℕ) → i ≤ length events → events_of past ≡ take i events → length past ≡ i
past_count {E} past events i within these = sym (length-map past (λ (p : E × Happened). p.0)) ∙ ap length these ∙ length-take-le i events within

-- and no more were skipped
pub skipped_few : {E : Type 0} (past : List (E × Happened)) (events : List E) (i : ℕ) → i ≤ length events → events_of past ≡ take i events → skipped_in past ≤ i
skipped_few {E} past events i within these =
    let few = count_by-le-length (λ (x : E × Happened). is_skipped x.1) past in
    let is = past_count past events i within these in
    omega (arith, few, is)
