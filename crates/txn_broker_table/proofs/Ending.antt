-- The ends of a queue.
use Rattle.txn_broker_table.proofs.Words.{Cell, EndFits, Ends, Finds, IfSome, LeadsOn, Linked, List, Mark, None, NonePasses, Option, Some, Spans, ap, arith, eqb_tells, get_or, inl, inr, is_waiting_in, length, length-map, length-set, marks_of, queue_at, refl, same_Some, slice_get, slice_set, subst, sym, true, false, ℕ, ◌&&◌, ◌+◌, ◌<◌, ◌∙◌, ◌≡◌, ◌≤◌, Bool}
use Rattle.std.proofs.lemmas.Option.{slice_get_read}
use Rattle.txn_broker_table.proofs.Reading.{mark_at, queue_of, queue_within, set_cases}
use Rattle.txn_broker_table.proofs.Skipping.{none_join, none_one}
use Rattle.txn_broker_table.proofs.Linkage.{gone_in, left_from, waits_in}
use Rattle.txn_broker_table.proofs.Counting.{Waits}

-- the ends that are read
pub end_here : (cells : List Cell) (ends : List (Option Ends)) (len queue : ℕ) (o p : Option Ends) → Linked cells ends → len ≡ length ends → queue < len
    → o ≡ get_or ends queue o → o ≡ p → EndFits (marks_of cells) queue p
end_here cells ends len queue o p linked long within read is =
    subst (λ x. EndFits (marks_of cells) queue x) is
    (linked.spans queue o (slice_get_read ends len queue o long within read))

-- a queue begins and ends within the cells
pub first_within : (cells : List Cell) (queue : ℕ) (e : Ends) → Spans (marks_of cells) queue e → e.first < length cells
first_within cells queue e spans =
    omega (arith, queue_within (marks_of cells) e.first queue spans.first_in, length-map cells (λ (c : Cell). c.mark))

pub last_within : (cells : List Cell) (queue : ℕ) (o : Option Ends) → EndFits (marks_of cells) queue o → IfSome o (λ e. e.last < length cells)
last_within cells queue None none = tt
last_within cells queue (Some e) spans =
    omega (arith, queue_within (marks_of cells) e.last queue spans.last_in, length-map cells (λ (c : Cell). c.mark))

-- no message waits in a queue to which none came
pub end_none : (marks : List Mark) (queue : ℕ) → EndFits marks queue None → NonePasses (is_waiting_in queue) marks 0 (length marks)
end_none marks queue none k m above below e =
    elim (eqb_tells m.queue queue) [
      | inl p ↦ absurd (none k (queue_of marks k m queue e p.1))
      | inr p ↦ ap (λ b. b && m.waits) p.0
    ]

first_queue : (cells : List Cell) (queue : ℕ) (e : Ends) (b : Cell) → Spans (marks_of cells) queue e → slice_get cells e.first ≡ Some b → b.mark.queue ≡ queue
first_queue cells queue e b spans at =
    same_Some b.mark.queue queue
    (sym (queue_of (marks_of cells) e.first b.mark b.mark.queue (mark_at cells e.first b at) refl) ∙ spans.first_in)

-- the queue's first message waits
pub end_found : (cells : List Cell) (queue : ℕ) (e : Ends) (b : Cell) → Spans (marks_of cells) queue e → slice_get cells e.first ≡ Some b → b.mark.waits ≡ true
    → Finds (is_waiting_in queue) (marks_of cells) 0 (Some e.first)
end_found cells queue e b spans at waits = (
  omega arith,
  (b.mark, mark_at cells e.first b at, waits_in queue b.mark (first_queue cells queue e b spans at) waits),
  spans.before,
)

-- what is found later, where none is found before
finds_join : (test : Mark → Bool) (marks : List Mark) (a b : ℕ) (o : Option ℕ) → a ≤ b → NonePasses test marks a b → Finds test marks b o → Finds test marks a o
finds_join test marks a b None le none found = none_join test marks a b (length marks) none found
finds_join test marks a b (Some n) le none found =
    (omega (arith, le, found.0), found.1, none_join test marks a b n none found.2)

first_gone : (cells : List Cell) (queue : ℕ) (e : Ends) (b : Cell) → Spans (marks_of cells) queue e → slice_get cells e.first ≡ Some b → b.mark.waits ≡ false
    → NonePasses (is_waiting_in queue) (marks_of cells) 0 (e.first + 1)
first_gone cells queue e b spans at gone =
    none_join (is_waiting_in queue) (marks_of cells) 0 e.first (e.first + 1) spans.before
    (none_one (is_waiting_in queue) (marks_of cells) e.first b.mark (mark_at cells e.first b at) (gone_in queue b.mark gone))

-- it is gone
pub end_past : (cells : List Cell) (queue : ℕ) (e : Ends) (b : Cell) (o : Option ℕ) → Spans (marks_of cells) queue e → slice_get cells e.first ≡ Some b → b.mark.waits ≡ false
    → Finds (is_waiting_in queue) (marks_of cells) (e.first + 1) o → Finds (is_waiting_in queue) (marks_of cells) 0 o
end_past cells queue e b o spans at gone found =
    finds_join (is_waiting_in queue) (marks_of cells) 0 (e.first + 1) o (omega arith) (first_gone cells queue e b spans at gone) found

-- the queue begins at a later message
pub linked_later : (cells : List Cell) (ends : List (Option Ends)) (queue n : ℕ) (e : Ends) (b : Cell) → Linked cells ends → slice_get ends queue ≡ Some (Some e)
    → slice_get cells e.first ≡ Some b → b.mark.waits ≡ false → LeadsOn (marks_of cells) queue e.first n
    → Linked cells (slice_set ends queue (Some (record { first = n; last = e.last })))
linked_later cells ends queue n e b linked is at gone leads =
    let spans = linked.spans queue (Some e) is in
    record {
      skips = linked.skips;
      links = linked.links;
      spans = λ k o g. elim (set_cases ends queue k (Some (record { first = n; last = e.last })) o g) [
        | inl p ↦
            subst (λ a. EndFits (marks_of cells) a o) (sym p.0)
            (subst (λ a. EndFits (marks_of cells) queue a) (sym p.1) (record {
              first_in = leads.same;
              before =
                  none_join (is_waiting_in queue) (marks_of cells) 0 (e.first + 1) n (first_gone cells queue e b spans at gone) leads.none;
              last_in = spans.last_in;
              last = spans.last;
            }))
        | inr p ↦ linked.spans k o p.1
      ];
      queues = λ k q at. omega (arith, linked.queues k q at, length-set ends queue (Some (record { first = n; last = e.last })));
    }

-- a message that waits in a queue is of the queue
in_queue : (queue : ℕ) (m : Mark) → is_waiting_in queue m ≡ true → m.queue ≡ queue
in_queue queue m so =
    elim (eqb_tells m.queue queue) [
      | inl p ↦ p.1
      | inr p ↦ let un : false ≡ true = sym (ap (λ b. b && m.waits) p.0) ∙ so in absurd (cc un)
    ]

-- the message that follows one in its queue
pub next_here : (cells : List Cell) (marks : List Mark) (queue n : ℕ) (next : Option ℕ) → marks_of cells ≡ marks → Waits queue marks (Some n)
    → ((q : ℕ) → queue_at (marks_of cells) n ≡ Some q → Finds (is_waiting_in q) (marks_of cells) (n + 1) next)
    → Finds (is_waiting_in queue) marks (n + 1) next
next_here cells marks queue n next same waits found =
    let at = queue_of marks n waits.0 queue waits.1 (in_queue queue waits.0 waits.2) in
    subst (λ ms. Finds (is_waiting_in queue) ms (n + 1) next) same
    (found queue (subst (λ ms. queue_at ms n ≡ Some queue) (sym same) at))

-- each step comes nearer to the end
pub found_falls : (queue len n : ℕ) (marks : List Mark) (o next : Option ℕ) → o ≡ Some n → n < len → Finds (is_waiting_in queue) marks (n + 1) next
    → left_from len next < left_from len o
found_falls queue len n marks o None is below found = omega (arith, ap (left_from len) is, below)
found_falls queue len n marks o (Some m) is below found = omega (arith, ap (left_from len) is, below, found.0)
