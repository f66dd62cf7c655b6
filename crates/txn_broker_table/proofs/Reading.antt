-- Reads of cells and of their messages.
use Rattle.txn_broker_table.proofs.Words.{Cell, List, Mark, None, Option, Some, [], ap, arith, get_or, get_or_from_slice_get, inl, inr, length, map-set_same, marks_of, no_cell, none-some, option_map, queue_at, refl, same_Some, slice_get, slice_get-get_or, slice_get-map, slice_get_within, slice_set, suc, sym, zero, ℕ, ◌++◌, ◌<◌, ◌∙◌, ◌∷◌, ◌≡◌, ◌⊎◌}

-- what was set is there
pub set_here : {X : Type 0} (xs : List X) (i : ℕ) (x y : X) → slice_get xs i ≡ Some x → slice_get (slice_set xs i y) i ≡ Some y
set_here [] i x y e = absurd (none-some x e)
set_here (z ∷ zs) zero x y e = refl
set_here (z ∷ zs) (suc i) x y e = set_here zs i x y e

-- all else is as it was
pub set_apart : {X : Type 0} (xs : List X) (i n : ℕ) (y : X) → (n ≡ i → ⊥) → slice_get (slice_set xs i y) n ≡ slice_get xs n
set_apart [] i n y apart = refl
set_apart (z ∷ zs) zero zero y apart = absurd (apart refl)
set_apart (z ∷ zs) zero (suc n) y apart = refl
set_apart (z ∷ zs) (suc i) zero y apart = refl
set_apart (z ∷ zs) (suc i) (suc n) y apart = set_apart zs i n y (λ same. apart (ap suc same))

-- an item once one was set: that one, or one that was there
pub set_cases : {X : Type 0} (xs : List X) (i n : ℕ) (y x : X) → slice_get (slice_set xs i y) n ≡ Some x
    → ((n ≡ i) × (x ≡ y)) ⊎ ((n ≡ i → ⊥) × (slice_get xs n ≡ Some x))
set_cases [] i n y x e = absurd (none-some x e)
set_cases (z ∷ zs) zero zero y x e = inl (refl, sym (same_Some y x e))
set_cases (z ∷ zs) zero (suc n) y x e = inr ((λ (same : suc n ≡ zero). omega (arith, same)), e)
set_cases (z ∷ zs) (suc i) zero y x e = inr ((λ (same : zero ≡ suc i). omega (arith, same)), e)
set_cases (z ∷ zs) (suc i) (suc n) y x e =
    elim (set_cases zs i n y x e) [
      | inl p ↦ inl (ap suc p.0, p.1)
      | inr p ↦ inr ((λ (same : suc n ≡ suc i). p.0 (omega (arith, same))), p.1)
    ]

-- an item once one was added: that one, or one that was there
pub append_cases : {X : Type 0} (xs : List X) (n : ℕ) (y x : X) → slice_get (xs ++ y ∷ []) n ≡ Some x
    → ((n ≡ length xs) × (x ≡ y)) ⊎ ((n < length xs) × (slice_get xs n ≡ Some x))
append_cases [] zero y x e = inl (refl, sym (same_Some y x e))
append_cases [] (suc n) y x e = absurd (none-some x e)
append_cases (z ∷ zs) zero y x e = inr (omega arith, e)
append_cases (z ∷ zs) (suc n) y x e =
    elim (append_cases zs n y x e) [
      | inl p ↦ inl (ap suc p.0, p.1)
      | inr p ↦ inr (omega (arith, p.0), p.1)
    ]

-- what was there stays
pub append_left : {X : Type 0} (xs ys : List X) (n : ℕ) (x : X) → slice_get xs n ≡ Some x → slice_get (xs ++ ys) n ≡ Some x
append_left [] ys n x e = absurd (none-some x e)
append_left (z ∷ zs) ys zero x e = e
append_left (z ∷ zs) ys (suc n) x e = append_left zs ys n x e

-- what was added is there
pub append_here : {X : Type 0} (xs : List X) (y : X) → slice_get (xs ++ y ∷ []) (length xs) ≡ Some y
append_here [] y = refl
append_here (z ∷ zs) y = append_here zs y

-- the message of a cell
pub mark_at : (cells : List Cell) (n : ℕ) (c : Cell) → slice_get cells n ≡ Some c → slice_get (marks_of cells) n ≡ Some c.mark
mark_at cells n c e =
    slice_get-map (λ (x : Cell). x.mark) cells n ∙ ap (option_map (λ (x : Cell). x.mark)) e

cell_in : (o : Option Cell) (m : Mark) → option_map (λ (x : Cell). x.mark) o ≡ Some m → (c : Cell) × (o ≡ Some c) × (c.mark ≡ m)
cell_in None m e = absurd (none-some m e)
cell_in (Some c) m e = (c, refl, same_Some c.mark m e)

-- the cell of a message
pub cell_at : (cells : List Cell) (n : ℕ) (m : Mark) → slice_get (marks_of cells) n ≡ Some m → (c : Cell) × (slice_get cells n ≡ Some c) × (c.mark ≡ m)
cell_at cells n m e =
    cell_in (slice_get cells n) m (sym (slice_get-map (λ (x : Cell). x.mark) cells n) ∙ e)

-- the queue of a message
pub queue_of : (marks : List Mark) (n : ℕ) (m : Mark) (queue : ℕ) → slice_get marks n ≡ Some m → m.queue ≡ queue → queue_at marks n ≡ Some queue
queue_of marks n m queue e same =
    ap (option_map (λ (x : Mark). x.queue)) e ∙ ap Some same

mark_in : (o : Option Mark) (queue : ℕ) → option_map (λ (x : Mark). x.queue) o ≡ Some queue → (m : Mark) × (o ≡ Some m) × (m.queue ≡ queue)
mark_in None queue e = absurd (none-some queue e)
mark_in (Some m) queue e = (m, refl, same_Some m.queue queue e)

-- a message of a queue
pub mark_of : (marks : List Mark) (n queue : ℕ) → queue_at marks n ≡ Some queue → (m : Mark) × (slice_get marks n ≡ Some m) × (m.queue ≡ queue)
mark_of marks n queue e = mark_in (slice_get marks n) queue e

-- it is one of the messages
pub queue_within : (marks : List Mark) (n queue : ℕ) → queue_at marks n ≡ Some queue → n < length marks
queue_within marks n queue e = let m = mark_of marks n queue e in slice_get_within marks n m.0 m.1

-- a cell that keeps its message keeps all messages
pub marks_kept : (cells : List Cell) (i : ℕ) (c d : Cell) → slice_get cells i ≡ Some c → d.mark ≡ c.mark → marks_of (slice_set cells i d) ≡ marks_of cells
marks_kept cells i c d e same =
    map-set_same (λ (x : Cell). x.mark) cells i d c
    (same ∙ sym (ap (λ (x : Cell). x.mark) (get_or_from_slice_get cells i c c e)))

-- what is read is there
pub cell_here : (cells : List Cell) (n : ℕ) → n < length cells → slice_get cells n ≡ Some (get_or cells n no_cell)
cell_here cells n below = slice_get-get_or cells n no_cell below
