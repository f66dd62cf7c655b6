-- Lists of items: the places of one sender.
use Rattle.std.proofs.Common.{◌≡◌, ◌≢◌, ◌<◌, ◌≤◌, ◌+◌, ◌⊎◌, ⊎_elim, inl, inr, eqb, ℕ, zero, suc, true, false, List, [], ◌∷◌, ◌++◌, length, refl, ap, ◌∙◌, subst, arith, length-append}
use Rattle.std.proofs.lemmas.List.{append-nil}
use Rattle.std.proofs.lemmas.Bool.Decides.{eqb_tells}
use Rattle.std.proofs.lemmas.List.Elements.{All-head, All-tail}
use Rattle.std.proofs.lemmas.Grind.{common_steps}
use Rattle.std.specs.List.{All, range_with_len}
use Rattle.txn_mailbox_queue.specs.declared.item.Item.{Item}
use Rattle.txn_mailbox_queue.specs.Order.{places, count, InTurn}

pub places-append : (k : ℕ) (a b : List Item) → places k (a ++ b) ≡ places k a ++ places k b
places-append k [] b = refl
places-append k (x ∷ a) b = let h = places-append k a b in grind (arith, common_steps)

pub range-append : (a n m : ℕ) → range_with_len a (n + m) ≡ range_with_len a n ++ range_with_len (a + n) m
range-append a zero m = let e : a + 0 ≡ a = omega arith in let z : 0 + m ≡ m = omega arith in rw (e, z)
range-append a (suc n) m = let h = range-append (a + 1) n m in let e : a + suc n ≡ (a + 1) + n = omega arith in let z : suc n + m ≡ suc (n + m) = omega arith in rw (e, z) (ap (λ l. a ∷ l) h)

-- a list of numbers from n on, cut in two
pub cut : (n : ℕ) (a b : List ℕ) → a ++ b ≡ range_with_len n (length (a ++ b)) → (a ≡ range_with_len n (length a)) × (b ≡ range_with_len (n + length a) (length b))
cut n [] b e = grind (arith, common_steps)
cut n (x ∷ a) b e = let h = cut (n + 1) a b in grind (arith, common_steps)

-- one more number at the end
snoc : (l : List ℕ) (p : ℕ) → l ≡ range_with_len 0 (length l) → p ≡ length l → l ++ p ∷ [] ≡ range_with_len 0 (length (l ++ p ∷ []))
snoc l p e at = let f = range-append 0 (length l) 1 in grind (arith, common_steps, length-append)

pub one_yes : (k : ℕ) (x : Item) → x.sender ≡ k → places k (x ∷ []) ≡ x.place ∷ []
one_yes k x e = grind (arith, common_steps)

pub one_no : (k : ℕ) (x : Item) → x.sender ≢ k → places k (x ∷ []) ≡ []
one_no k x n = grind (arith, common_steps)

pub more_yes : (k : ℕ) (l : List Item) (x : Item) → x.sender ≡ k → places k (l ++ x ∷ []) ≡ places k l ++ x.place ∷ []
more_yes k l x e = places-append k l (x ∷ []) ∙ ap (λ r. places k l ++ r) (one_yes k x e)

pub more_no : (k : ℕ) (l : List Item) (x : Item) → x.sender ≢ k → places k (l ++ x ∷ []) ≡ places k l
more_no k l x n = places-append k l (x ∷ []) ∙ ap (λ r. places k l ++ r) (one_no k x n) ∙ append-nil (places k l)

pub count_yes : (k : ℕ) (l : List Item) (x : Item) → x.sender ≡ k → count k (l ++ x ∷ []) ≡ suc (count k l)
count_yes k l x e = ap length (more_yes k l x e) ∙ length-append (places k l) (x.place ∷ []) ∙ omega arith

pub count_no : (k : ℕ) (l : List Item) (x : Item) → x.sender ≢ k → count k (l ++ x ∷ []) ≡ count k l
count_no k l x n = ap length (more_no k l x n)

-- an item at its sender's next place keeps the turn
pub turn_more : (l : List Item) (x : Item) → InTurn l → x.place ≡ count x.sender l → InTurn (l ++ x ∷ [])
turn_more l x h p k = ⊎_elim
    (λ (t : (eqb x.sender k ≡ true) × (x.sender ≡ k)). let m = more_yes k l x t.1 in let s = snoc (places k l) x.place (h k) (p ∙ ap (λ j. count j l) t.1) in rw m s)
    (λ (t : (eqb x.sender k ≡ false) × (x.sender ≢ k)). let m = more_no k l x t.1 in rw m (h k))
    (eqb_tells x.sender k)

-- what stands before others in turn is in turn
pub turn_front : (a b : List Item) → InTurn (a ++ b) → InTurn a
turn_front a b h k = let e = places-append k a b in (cut 0 (places k a) (places k b) (rw (← e) (h k))).0

-- an item comes at its sender's next place
pub turn_next : (a b : List Item) (x : Item) → InTurn (a ++ x ∷ b) → x.place ≡ count x.sender a
turn_next a b x h = let k = x.sender in let e = places-append k a (x ∷ b) in let c = (cut 0 (places k a) (places k (x ∷ b)) (rw (← e) (h k))).1 in
    let y : places k (x ∷ b) ≡ x.place ∷ places k b = grind (arith, common_steps) in grind (arith, common_steps)

zero_or_one : (n : ℕ) → n < 2 → (n ≡ 0) ⊎ (n ≡ 1)
zero_or_one zero h = inl refl
zero_or_one (suc zero) h = inr refl
zero_or_one (suc (suc n)) h = absurd (omega arith)

-- of items of two senders each is of the one or of the other
pub two : (l : List Item) → All (λ x. x.sender < 2) l → length l ≡ count 0 l + count 1 l
two [] h = refl
two (x ∷ l) h = let t = two l (All-tail (λ x. x.sender < 2) x l h) in let b : x.sender < 2 = All-head (λ x. x.sender < 2) x l h in
    ⊎_elim (λ (z : x.sender ≡ 0). grind (arith, common_steps)) (λ (z : x.sender ≡ 1). grind (arith, common_steps)) (zero_or_one x.sender b)

-- where as many were taken as were put, nothing is left, and each sender's items were taken in its order
pub settled : (taken items : List Item) (first second : ℕ) → InTurn (taken ++ items) → count 0 (taken ++ items) ≡ first → count 1 (taken ++ items) ≡ second → length taken + length items ≡ first + second
    → length taken ≡ first + second → (places 0 taken ≡ range_with_len 0 first) × (places 1 taken ≡ range_with_len 0 second)
settled taken [] first second h a b total all = let e = append-nil taken in let h' : InTurn taken = rw e at h in let a' : count 0 taken ≡ first = rw e at a in let b' : count 1 taken ≡ second = rw e at b in
    (h' 0 ∙ ap (range_with_len 0) a', h' 1 ∙ ap (range_with_len 0) b')
settled taken (x ∷ items) first second h a b total all = absurd (omega arith)

pub within_more : (len : ℕ → ℕ) (l : List Item) (x : Item) (k : ℕ) → ((j : ℕ) → count j l ≤ len j) → count x.sender l < len x.sender → count k (l ++ x ∷ []) ≤ len k
within_more len l x k h room = ⊎_elim
    (λ (t : (eqb x.sender k ≡ true) × (x.sender ≡ k)). let c = count_yes k l x t.1 in let r : count k l < len k = subst (λ j. count j l < len j) t.1 room in omega arith)
    (λ (t : (eqb x.sender k ≡ false) × (x.sender ≢ k)). let c = count_no k l x t.1 in let w = h k in omega arith)
    (eqb_tells x.sender k)

pub count_here : (a b : List Item) (x : Item) → count x.sender a < count x.sender (a ++ x ∷ b)
count_here a b x = let k = x.sender in let e = ap length (places-append k a (x ∷ b)) in let y : places k (x ∷ b) ≡ x.place ∷ places k b = grind (arith, common_steps) in
    let z = ap length y in omega (arith, length-append (places k a) (places k (x ∷ b)))
