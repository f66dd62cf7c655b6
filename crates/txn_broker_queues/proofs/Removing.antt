-- What a disposition takes from what is kept.
use Rattle.txn_broker_queues.proofs.Words.{Bool, Disposition, List, Mark, None, Option, Removes, Some, ap, arith, cond, covers, false, inl, inr, is_final, is_receiver, leb_tells, none-some, option_map, refl, removed_numbers, removes, same_Some, slice_get, sym, true, unwrap_or, ℕ, ◌+◌, ◌&&◌, ◌∙◌, ◌≡◌, nat_le}
use Rattle.amqp_txn_types.specs.declared.performatives.Frame.TheVariants as frames
use Rattle.txn_broker_queues.specs.Keeping.{Fades, faded}

map_same : (o : Option Mark) → o ≡ option_map (faded false) o
map_same None = refl
map_same (Some m) = refl

-- a disposition that removes no numbers
pub fades_none : (d : Disposition) (marks : List Mark) → removed_numbers d ≡ None → Fades (frames.Disposition d) marks marks
fades_none d marks none = record {
  len = refl;
  each = λ number.
      map_same (slice_get marks number)
      ∙ ap (λ b. option_map (faded (b && covers d number)) (slice_get marks number)) (sym (un (is_receiver d.role && is_final d.state) none));
}
  where
    un : (b : Bool) → cond {A = Option (ℕ × ℕ)} b (Some (d.first, unwrap_or d.last d.first + 1)) None ≡ None → b ≡ false
    un true e = absurd (none-some _ (sym e))
    un false e = refl

-- one that removes these
pub fades_some : (d : Disposition) (from to : ℕ) (old new : List Mark) → removed_numbers d ≡ Some (from, to) → Removes from to old new → Fades (frames.Disposition d) old new
fades_some d from to old new some removes_all = record { len = removes_all.len; each = each }
  where
    both : (b : Bool) → cond {A = Option (ℕ × ℕ)} b (Some (d.first, unwrap_or d.last d.first + 1)) None ≡ Some (from, to) → (b ≡ true) × (d.first ≡ from) × (unwrap_or d.last d.first + 1 ≡ to)
    both true e =
        let same = same_Some (d.first, unwrap_or d.last d.first + 1) (from, to) e in
        (refl, ap (λ (p : ℕ × ℕ). p.0) same, ap (λ (p : ℕ × ℕ). p.1) same)
    both false e = absurd (none-some (from, to) e)

    is : (is_receiver d.role && is_final d.state ≡ true) × (d.first ≡ from) × (unwrap_or d.last d.first + 1 ≡ to)
    is = both (is_receiver d.role && is_final d.state) some

    one : (number : ℕ) (b : Bool) → covers d number ≡ b → slice_get new number ≡ option_map (faded b) (slice_get old number)
        → slice_get new number ≡ option_map (faded (removes number (frames.Disposition d))) (slice_get old number)
    one number b c e =
        e ∙ ap (λ x. option_map (faded x) (slice_get old number)) (sym (ap (λ x. x && covers d number) is.0 ∙ c))

    each : (number : ℕ) → slice_get new number ≡ option_map (faded (removes number (frames.Disposition d))) (slice_get old number)
    each number =
        elim (leb_tells d.first number) [
          | inr p ↦
              one number false (ap (λ x. x && nat_le number (unwrap_or d.last d.first)) p.0)
              (removes_all.others number (inl (omega (arith, p.1, is.1))) ∙ map_same (slice_get old number))
          | inl p ↦ elim (leb_tells number (unwrap_or d.last d.first)) [
            | inl q ↦
                one number true (ap (λ x. x && nat_le number (unwrap_or d.last d.first)) p.0 ∙ q.0)
                (removes_all.removed number (omega (arith, p.1, is.1)) (omega (arith, q.1, is.2)))
            | inr q ↦
                one number false (ap (λ x. x && nat_le number (unwrap_or d.last d.first)) p.0 ∙ q.0)
                (removes_all.others number (inr (omega (arith, q.1, is.2))) ∙ map_same (slice_get old number))
          ]
        ]
