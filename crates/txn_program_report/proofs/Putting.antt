-- Texts put one after the other.
use Rattle.std.proofs.Common.{◌≡◌, ℕ, Result, Ok, Err, List, ◌++◌, OnOk, ap, ◌∙◌, append_assoc}
use Rattle.amqp_txn_types.specs.declared.items.NoMemory.{NoMemory}

-- a text that was put, and another after it
pub put_after : (r : Result (Unit {0}) NoMemory) (old mid new a b whole : List ℕ) → mid ≡ old ++ a → OnOk r (new ≡ mid ++ b) → whole ≡ a ++ b → OnOk r (new ≡ old ++ whole)
put_after (Ok x) old mid new a b whole first second together = rw together (second ∙ ap (λ xs. xs ++ b) first ∙ append_assoc old a b)
put_after (Err e) old mid new a b whole first second together = tt
