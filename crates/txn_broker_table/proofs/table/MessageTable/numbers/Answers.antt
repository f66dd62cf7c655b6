use Rattle.txn_broker_table.proofs.Words.{Finds, Some, ap, arith, is_waiting_in, length, length-map, marks_of, queue_at, slice_get_within, subst, sym, ℕ, ◌+◌, ◌++◌, ◌-◌, ◌<◌, ◌∙◌, ◌∷◌, ◌≡◌, []}
use Rattle.std.proofs.Common.{append_assoc}
use Rattle.txn_broker_table.proofs.Counting.{Waits, found_waits, numbers_found, numbers_here, rest_from}
use Rattle.txn_broker_table.proofs.Ending.{found_falls, next_here}
use Rattle.txn_broker_table.proofs.table.MessageTable.numbers.Goals as goal

pub loop-at-init : goal.loop-at-init
loop-at-init c =
    let q = c.args.queue in
    let marks = c.args.self.now.marks in
    let at = c.first_of-at.result in
    record {
      so_far =
          ap (λ xs. xs ++ rest_from q marks at) c.new-numbers.ensures.items
          ∙ sym (numbers_found q marks 0 (length marks) at (omega arith) c.first_of-at.ensures);
      few = omega (arith, c.new-numbers.ensures.len);
      at = found_waits q 0 marks at c.first_of-at.ensures;
    }

pub next_in_queue-at-requires-clause-within : goal.next_in_queue-at-requires-clause-within
next_in_queue-at-requires-clause-within c =
    let q = c.args.queue in
    let cells = c.self.inside.cells.items in
    let marks = c.args.self.now.marks in
    let n = c.in-Some.number in
    let waits : Waits q marks (Some n) = subst (λ o. Waits q marks o) c.in-Some.is c.loop-at.invariant.at in
    let below = slice_get_within marks n waits.0 waits.1 in
    subst (λ cs. n < length cs) (sym c.as_slice.ensures.value)
    (omega (arith, below, ap (λ v. length v.marks) c.self.view_is, length-map cells (λ x. x.mark)))

pub loop-at-smaller : goal.loop-at-smaller
loop-at-smaller c =
    let q = c.args.queue in
    let cells = c.self.inside.cells.items in
    let marks = c.args.self.now.marks in
    let n = c.in-Some.number in
    let next = c.next_in_queue-at.result in
    let waits : Waits q marks (Some n) = subst (λ o. Waits q marks o) c.in-Some.is c.loop-at.invariant.at in
    let found =
    next_here cells marks q n next (ap (λ v. v.marks) c.self.view_is) waits
    (subst (λ cs. (k : ℕ) → queue_at (marks_of cs) n ≡ Some k → Finds (is_waiting_in k) (marks_of cs) (n + 1) next) c.as_slice.ensures.value c.next_in_queue-at.ensures) in
    found_falls q (length marks) n marks c.loop-at.at next c.in-Some.is (slice_get_within marks n waits.0 waits.1) found

pub loop-at-preserved : goal.loop-at-preserved
loop-at-preserved c =
    let q = c.args.queue in
    let cells = c.self.inside.cells.items in
    let marks = c.args.self.now.marks in
    let n = c.in-Some.number in
    let next = c.next_in_queue-at.result in
    let items = c.loop-at.numbers.items in
    let waits : Waits q marks (Some n) = subst (λ o. Waits q marks o) c.in-Some.is c.loop-at.invariant.at in
    let below = slice_get_within marks n waits.0 waits.1 in
    let found =
    next_here cells marks q n next (ap (λ v. v.marks) c.self.view_is) waits
    (subst (λ cs. (k : ℕ) → queue_at (marks_of cs) n ≡ Some k → Finds (is_waiting_in k) (marks_of cs) (n + 1) next) c.as_slice.ensures.value c.next_in_queue-at.ensures) in
    record {
      so_far =
          ap (λ xs. xs ++ rest_from q marks next) c.in_ok-push.ensures.items
          ∙ append_assoc items (n ∷ []) (rest_from q marks next)
          ∙ ap (λ xs. items ++ n ∷ xs) (sym (numbers_found q marks (n + 1) (length marks - (n + 1)) next (omega (arith, below)) found))
          ∙ ap (λ xs. items ++ xs) (sym (numbers_here q n marks waits.0 waits.1 waits.2))
          ∙ ap (λ o. items ++ rest_from q marks o) (sym c.in-Some.is)
          ∙ c.loop-at.invariant.so_far;
      few = omega (arith, c.in_ok-push.ensures.len, c.if-len-count.false, c.len.ensures);
      at = found_waits q (n + 1) marks next found;
    }
