use Rattle.std.proofs.Common.{rules, ℕ, ◌<◌, length, slice_index, arith}
use Rattle.std.specs.Ordering.{nat_cmp}
use Rattle.std.specs.BTreeMap as tree
use Rattle.amqp_resource_shared_counts.proofs.Places.{distinct-next, distinct-nil, nowhere-nil, places-more, read-at, twice}
use Rattle.amqp_resource_shared_counts.proofs.repeats.first_repeat.Goals as goal

pub loop-again-init : goal.loop-again-init
loop-again-init c = (distinct-nil, λ (q : ℕ). nowhere-nil q (tree.get nat_cmp c.new-places.result q) (search rules))

pub returns-in-Some : goal.returns-in-Some
returns-in-Some c =
    let ns = c.args.numbers.now in
    let i = c.loop-again.again in
    let low : i < length ns = omega arith in
    let at = read-at ns i low in
    twice ns i c.in-Some.first (slice_index ns i) c.in_ok-first.field-0 low at (rw c.in_ok-first.ensures.old (c.loop-again.invariant.1 (slice_index ns i))) c.in-Some.is

pub loop-again-preserved : goal.loop-again-preserved
loop-again-preserved c =
    let ns = c.args.numbers.now in
    let i = c.loop-again.again in
    let low : i < length ns = omega arith in
    let at = read-at ns i low in
    let n = slice_index ns i in
    let inv = c.loop-again.invariant in
    let more = places-more ns i n (tree.get nat_cmp c.loop-again.places) (tree.get nat_cmp c.insert.new.self) at inv.1 c.in_ok-first.ensures.updates.0 in
    (distinct-next ns i n c.in_ok-first.field-0 at inv.0 (rw c.in_ok-first.ensures.old (inv.1 n)) c.in_default.is, more)
