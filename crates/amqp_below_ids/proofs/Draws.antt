-- Ids drawn one after another.
use Rattle.std.proofs.Common.{◌≡◌, ℕ, ◌+◌, List, [], ◌∷◌, ◌++◌, length, sym, ◌∙◌, ap, arith, subst, add-zero, zero-add}
use Rattle.std.proofs.lemmas.List.{length-append}
use Rattle.amqp_txn_types.specs.declared.id.TransactionId.{TransactionId}
use Rattle.amqp_below_ids.specs.Ids.{AreNext, Drew}

pub AreNext-append : (f : ℕ → TransactionId) (n : ℕ) (xs ys : List TransactionId) → AreNext f n xs → AreNext f (n + length xs) ys → AreNext f n (xs ++ ys)
AreNext-append f n [] ys a b = let P : ℕ → Type 0 = λ k. AreNext f k ys in subst P (add-zero n) b
AreNext-append f n (x ∷ xs) ys a b =
    let P : ℕ → Type 0 = λ k. AreNext f k ys in
    let e : n + length (x ∷ xs) ≡ n + 1 + length xs = omega arith in
    (a.0, AreNext-append f (n + 1) xs ys a.1 (subst P e b))

-- the ids of a stream that goes on where another stands
pub AreNext-shift : (f g : ℕ → TransactionId) (k n : ℕ) (xs : List TransactionId) → ((m : ℕ) → g m ≡ f (k + m)) → AreNext g n xs → AreNext f (k + n) xs
AreNext-shift f g k n [] h a = tt
AreNext-shift f g k n (x ∷ xs) h a =
    let P : ℕ → Type 0 = λ m. AreNext f m xs in
    let e : k + (n + 1) ≡ k + n + 1 = omega arith in
    (a.0 ∙ h n, subst P e (AreNext-shift f g k (n + 1) xs h a.1))

pub Drew-append : (f g h : ℕ → TransactionId) (xs ys : List TransactionId) → Drew f g xs → Drew g h ys → Drew f h (xs ++ ys)
Drew-append f g h xs ys a b = record {
  these =
      let P : ℕ → Type 0 = λ m. AreNext f m ys in
      let e : length xs + 0 ≡ 0 + length xs = omega arith in
      AreNext-append f 0 xs ys a.these (subst P e (AreNext-shift f g (length xs) 0 ys a.rest b.these));
  rest = λ n. b.rest n ∙ a.rest (length ys + n) ∙ ap f (let l : length (xs ++ ys) ≡ length xs + length ys = length-append xs ys in omega arith);
}

pub Drew-none : (f g : ℕ → TransactionId) → ((n : ℕ) → g n ≡ f n) → Drew f g []
Drew-none f g h = record { these = tt; rest = λ n. h n ∙ ap f (sym (zero-add n)) }

pub Drew-one : (f g : ℕ → TransactionId) (d : TransactionId) → d ≡ f 0 → ((n : ℕ) → g n ≡ f (1 + n)) → Drew f g (d ∷ [])
Drew-one f g d e h = record { these = (e, tt); rest = h }
