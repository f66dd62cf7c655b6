-- Lists that are read item by item.
use Rattle.std.proofs.Common.{◌≡◌, ℕ, ◌+◌, ◌<◌, ◌≤◌, List, [], ◌∷◌, length, take, get_or, sym, subst}
use Rattle.std.specs.List.{All, flat_map}
use Rattle.std.proofs.lemmas.List.{take_all}
use Rattle.std.proofs.lemmas.List.Elements.{All-append, All-head, All-more, All-nil, All-same, All-tail}

-- one item more
pub more : {X : Type 0} (P : X → Type 0) (xs : List X) (i : ℕ) (x : X) → i < length xs → x ≡ get_or xs i x → All P (take i xs) → P x → All P (take (i + 1) xs)
more P xs i x l e a p = All-more P xs i x l a (subst P e p)

-- all items
pub whole : {X : Type 0} (P : X → Type 0) (xs : List X) (i : ℕ) → length xs ≤ i → All P (take i xs) → All P xs
whole P xs i l a = All-same P xs (take i xs) (sym (take_all i xs l)) a

-- all items of all lists
pub flat : {X Y : Type 0} (P : Y → Type 0) (f : X → List Y) (xs : List X) → All (λ x. All P (f x)) xs → All P (flat_map f xs)
flat P f [] a = All-nil P
flat P f (x ∷ xs) a =
    All-append P (f x) (flat_map f xs) (All-head (λ y. All P (f y)) x xs a) (flat P f xs (All-tail (λ y. All P (f y)) x xs a))
