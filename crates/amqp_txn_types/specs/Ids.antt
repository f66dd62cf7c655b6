-- When two transaction ids are one.
use Rattle.std.specs.Prelude.{Bool, false, Option, Some, None, nat_eq}
use Rattle.std.specs.Cmp.Lexicographic.{pointwise}
use Rattle.amqp_txn_types.specs.declared.id.TransactionId.{TransactionId}

-- two ids are one: they have the same octets (4.5.4, Transaction ID)
abbrev pub same_id : TransactionId → TransactionId → Bool
same_id t u = pointwise nat_eq t u

-- there is an id, and it is this one
abbrev pub is_some_id : TransactionId → Option TransactionId → Bool
is_some_id t None = false
is_some_id t (Some u) = same_id t u
