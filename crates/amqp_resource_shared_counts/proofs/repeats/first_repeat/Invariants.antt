use Rattle.std.proofs.Common.{ℕ, take, eqb}
use Rattle.std.specs.List.{IsDistinct}
use Rattle.std.specs.Ordering.{nat_cmp}
use Rattle.std.specs.BTreeMap as tree
use Rattle.amqp_resource_shared_counts.specs.Repeats.{FindsPlace}
use Rattle.amqp_resource_shared_counts.proofs.repeats.first_repeat.Given as goal

abbrev pub invariant-loop-again : goal.invariant-loop-again
invariant-loop-again l =
    IsDistinct eqb (take l.again l.numbers)
    × ((q : ℕ) → FindsPlace (take l.again l.numbers) q (tree.get nat_cmp l.places q))
