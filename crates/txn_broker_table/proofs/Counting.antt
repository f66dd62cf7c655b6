-- The numbers of the messages that wait in a queue.
use Rattle.txn_broker_table.proofs.Words.{Finds, List, Mark, None, NonePasses, Option, Some, [], add-zero, ap, arith, cond, drop, drop_all, drop_more, false, get_or_from_slice_get, inl, inr, is_waiting_in, length, numbers_from, slice_get, slice_get_cases, slice_get_within, suc, sym, true, zero, ℕ, ◌+◌, ◌-◌, ◌∙◌, ◌∷◌, ◌≡◌, ◌≤◌}

-- the numbers from one message on
pub numbers_at : (queue n : ℕ) (marks : List Mark) (m : Mark) → slice_get marks n ≡ Some m
    → numbers_from queue n (drop n marks) ≡ cond (is_waiting_in queue m) (n ∷ numbers_from queue (n + 1) (drop (n + 1) marks)) (numbers_from queue (n + 1) (drop (n + 1) marks))
numbers_at queue n marks m e =
    ap (numbers_from queue n) (drop_more marks n m (slice_get_within marks n m e))
    ∙ ap (λ x. numbers_from queue n (x ∷ drop (n + 1) marks)) (get_or_from_slice_get marks n m m e)

-- the message waits
pub numbers_here : (queue n : ℕ) (marks : List Mark) (m : Mark) → slice_get marks n ≡ Some m → is_waiting_in queue m ≡ true
    → numbers_from queue n (drop n marks) ≡ n ∷ numbers_from queue (n + 1) (drop (n + 1) marks)
numbers_here queue n marks m e so =
    numbers_at queue n marks m e
    ∙ ap (λ b. cond b (n ∷ numbers_from queue (n + 1) (drop (n + 1) marks)) (numbers_from queue (n + 1) (drop (n + 1) marks))) so

-- it doesn't
pub numbers_past : (queue n : ℕ) (marks : List Mark) (m : Mark) → slice_get marks n ≡ Some m → is_waiting_in queue m ≡ false
    → numbers_from queue n (drop n marks) ≡ numbers_from queue (n + 1) (drop (n + 1) marks)
numbers_past queue n marks m e un =
    numbers_at queue n marks m e
    ∙ ap (λ b. cond b (n ∷ numbers_from queue (n + 1) (drop (n + 1) marks)) (numbers_from queue (n + 1) (drop (n + 1) marks))) un

-- none of some messages waits
pub numbers_over : (queue : ℕ) (marks : List Mark) (d n to : ℕ) → n + d ≡ to → to ≤ length marks → NonePasses (is_waiting_in queue) marks n to
    → numbers_from queue n (drop n marks) ≡ numbers_from queue to (drop to marks)
numbers_over queue marks zero n to sum within none =
    ap (λ k. numbers_from queue k (drop k marks)) (sym (add-zero n) ∙ sum)
numbers_over queue marks (suc d) n to sum within none =
    elim ((slice_get_cases marks n).1) [
      | inl here ↦
          numbers_past queue n marks here.0 here.2
          (none n here.0 (omega arith) (omega (arith, sum)) here.2)
          ∙ numbers_over queue marks d (n + 1) to (omega (arith, sum)) within
          (λ k m above below e. none k m (omega (arith, above)) below e)
      | inr past ↦ absurd (omega (arith, sum, within, past.0))
    ]

-- the numbers from the one that was found on
abbrev pub rest_from : ℕ → List Mark → Option ℕ → List ℕ
rest_from queue marks None = []
rest_from queue marks (Some n) = numbers_from queue n (drop n marks)

pub numbers_found : (queue : ℕ) (marks : List Mark) (n d : ℕ) (o : Option ℕ) → n + d ≡ length marks → Finds (is_waiting_in queue) marks n o
    → numbers_from queue n (drop n marks) ≡ rest_from queue marks o
numbers_found queue marks n d None sum none =
    numbers_over queue marks d n (length marks) sum (omega arith) none
    ∙ ap (numbers_from queue (length marks)) (drop_all (length marks) marks (omega arith))
numbers_found queue marks n d (Some to) sum found =
    let within = slice_get_within marks to found.1.0 found.1.1 in
    numbers_over queue marks (to - n) n to (omega (arith, found.0)) (omega (arith, within)) found.2

-- the message that was found waits in the queue
abbrev pub Waits : ℕ → List Mark → Option ℕ → Type 0
Waits queue marks None = Unit {0}
Waits queue marks (Some n) = (m : Mark) × (slice_get marks n ≡ Some m) × (is_waiting_in queue m ≡ true)

pub found_waits : (queue n : ℕ) (marks : List Mark) (o : Option ℕ) → Finds (is_waiting_in queue) marks n o → Waits queue marks o
found_waits queue n marks None none = tt
found_waits queue n marks (Some m) found = found.1
