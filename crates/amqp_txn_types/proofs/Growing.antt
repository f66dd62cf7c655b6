-- A list that is told grows twice, or by nothing.
use Rattle.std.proofs.Common.{◌≡◌, Option, Some, None, List, [], ◌++◌, refl, ap, append-nil, append_assoc}
use Rattle.amqp_txn_types.specs.Growing.{grown}

pub grown-grown : {A : Type 0} (o : Option (List A)) (xs ys : List A) → grown (grown o xs) ys ≡ grown o (xs ++ ys)
grown-grown None xs ys = refl
grown-grown (Some zs) xs ys = ap Some (append_assoc zs xs ys)

pub grown-nil : {A : Type 0} (o : Option (List A)) → grown o [] ≡ o
grown-nil None = refl
grown-nil (Some zs) = ap Some (append-nil zs)
