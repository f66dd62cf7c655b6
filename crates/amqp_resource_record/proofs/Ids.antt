-- Two ids are one exactly where they have the same octets.
use Rattle.std.proofs.Common.{◌≡◌, true, sym}
use Rattle.std.specs.Cmp.Lexicographic.{same_text, nat_list_eq_equiv}
use Rattle.amqp_txn_types.specs.declared.id.TransactionId.{TransactionId}
use Rattle.amqp_txn_types.specs.Ids.{same_id}

pub same_id-eq : (t u : TransactionId) → same_id t u ≡ true → t ≡ u
same_id-eq t u h = same_text t u (sym h)

pub same_id-refl : (t : TransactionId) → same_id t t ≡ true
same_id-refl t = nat_list_eq_equiv.refl t

pub same_id-sym : (t u : TransactionId) → same_id t u ≡ same_id u t
same_id-sym t u = nat_list_eq_equiv.symm t u
