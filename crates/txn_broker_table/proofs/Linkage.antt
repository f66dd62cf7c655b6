-- Steps over messages that are gone, within a queue.
use Rattle.txn_broker_table.proofs.Words.{Bool, Cell, EndFits, Ends, Finds, Leads, LeadsOn, Linked, LinksFit, List, Mark, None, NonePasses, Option, Relinked, Skips, Some, ap, arith, eqb_tells, false, get_or, inl, inr, is_waiting_in, length, length-map, marks_of, no_cell, queue_at, refl, same_Some, slice_get, slice_set, subst, sym, true, zero, ℕ, ◌&&◌, ◌+◌, ◌-◌, ◌<◌, ◌==◌, ◌∙◌, ◌≡◌}
use Rattle.txn_broker_table.proofs.Reading.{cell_here, mark_at, marks_kept, queue_of, queue_within, set_cases}
use Rattle.txn_broker_table.proofs.Skipping.{none_join, none_one}

-- how far it is from a number to the end of the messages
abbrev pub left_from : ℕ → Option ℕ → ℕ
left_from len None = zero
left_from len (Some n) = len - n

and_false : (b : Bool) → (b && false) ≡ false
and_false true = refl
and_false false = refl

-- a message that is gone waits in no queue
pub gone_in : (queue : ℕ) (m : Mark) → m.waits ≡ false → is_waiting_in queue m ≡ false
gone_in queue m un = ap (λ w. (m.queue == queue) && w) un ∙ and_false (m.queue == queue)

-- a message that waits does so in its queue
pub waits_in : (queue : ℕ) (m : Mark) → m.queue ≡ queue → m.waits ≡ true → is_waiting_in queue m ≡ true
waits_in queue m same so =
    elim (eqb_tells m.queue queue) [
      | inl p ↦ ap (λ b. b && m.waits) p.0 ∙ so
      | inr p ↦ absurd (p.1 same)
    ]

-- after the last message of a queue none waits in it
pub none_later : (marks : List Mark) (queue n : ℕ) → ((m : ℕ) → n < m → queue_at marks m ≡ Some queue → ⊥) → NonePasses (is_waiting_in queue) marks (n + 1) (length marks)
none_later marks queue n none k m above below e =
    elim (eqb_tells m.queue queue) [
      | inl p ↦ absurd (none k (omega (arith, above)) (queue_of marks k m queue e p.1))
      | inr p ↦ ap (λ b. b && m.waits) p.0
    ]

-- on to a message that is gone, and then on from it
pub leads_join : (marks : List Mark) (queue n m k : ℕ) (x : Mark) → LeadsOn marks queue n m → slice_get marks m ≡ Some x → x.waits ≡ false → LeadsOn marks queue m k → LeadsOn marks queue n k
leads_join marks queue n m k x first at un second = record {
  after = omega (arith, first.after, second.after);
  same = second.same;
  none =
      none_join (is_waiting_in queue) marks (n + 1) m k first.none
      (none_join (is_waiting_in queue) marks m (m + 1) k
      (none_one (is_waiting_in queue) marks m x at (gone_in queue x un)) second.none);
}

-- the same, where it leads nowhere
pub leads_end : (marks : List Mark) (queue n m : ℕ) (x : Mark) → LeadsOn marks queue n m → slice_get marks m ≡ Some x → x.waits ≡ false → ((k : ℕ) → m < k → queue_at marks k ≡ Some queue → ⊥) → NonePasses (is_waiting_in queue) marks (n + 1) (length marks)
leads_end marks queue n m x first at un last =
    none_join (is_waiting_in queue) marks (n + 1) m (length marks) first.none
    (none_join (is_waiting_in queue) marks m (m + 1) (length marks)
    (none_one (is_waiting_in queue) marks m x at (gone_in queue x un)) (none_later marks queue m last))

-- what is reached from a message along its queue: no later message of the queue before it waits
abbrev pub Reaches : List Mark → ℕ → ℕ → Option ℕ → Type 0
Reaches marks queue n None = NonePasses (is_waiting_in queue) marks (n + 1) (length marks)
Reaches marks queue n (Some m) = LeadsOn marks queue n m

pub reaches_first : (marks : List Mark) (queue n : ℕ) (next : Option ℕ) → Leads marks queue n next → Reaches marks queue n next
reaches_first marks queue n None none = none_later marks queue n none
reaches_first marks queue n (Some m) leads = leads

pub reaches_on : (marks : List Mark) (queue n m : ℕ) (x : Mark) (next : Option ℕ) → LeadsOn marks queue n m → slice_get marks m ≡ Some x → x.waits ≡ false → Leads marks queue m next → Reaches marks queue n next
reaches_on marks queue n m x None first at un none = leads_end marks queue n m x first at un none
reaches_on marks queue n m x (Some k) first at un leads = leads_join marks queue n m k x first at un leads

-- a message that is reached is one of the messages
pub reached_within : (cells : List Cell) (queue n m : ℕ) → LeadsOn (marks_of cells) queue n m → m < length cells
reached_within cells queue n m leads =
    omega (arith, queue_within (marks_of cells) m queue leads.same, length-map cells (λ (c : Cell). c.mark))

reached_queue : (cells : List Cell) (queue n m : ℕ) (b : Cell) → LeadsOn (marks_of cells) queue n m → slice_get cells m ≡ Some b → b.mark.queue ≡ queue
reached_queue cells queue n m b leads at =
    same_Some b.mark.queue queue
    (sym (queue_of (marks_of cells) m b.mark b.mark.queue (mark_at cells m b at) refl) ∙ leads.same)

-- a message that is reached and waits is the first one
pub reached_found : (cells : List Cell) (queue n m : ℕ) (b : Cell) → LeadsOn (marks_of cells) queue n m → slice_get cells m ≡ Some b → b.mark.waits ≡ true → Finds (is_waiting_in queue) (marks_of cells) (n + 1) (Some m)
reached_found cells queue n m b leads at waits = (
  omega (arith, leads.after),
  (b.mark, mark_at cells m b at, waits_in queue b.mark (reached_queue cells queue n m b leads at) waits),
  leads.none,
)

-- one that doesn't leads on
pub reached_on : (cells : List Cell) (queue n m : ℕ) (b : Cell) → LinksFit cells → LeadsOn (marks_of cells) queue n m → slice_get cells m ≡ Some b → b.mark.waits ≡ false → Reaches (marks_of cells) queue n b.next
reached_on cells queue n m b fit leads at gone =
    reaches_on (marks_of cells) queue n m b.mark b.next leads (mark_at cells m b at) gone
    (subst (λ q. Leads (marks_of cells) q m b.next) (reached_queue cells queue n m b leads at) (fit m b at))

-- each step leads nearer to the end
pub left_falls : (marks : List Mark) (queue len n : ℕ) (o next : Option ℕ) → o ≡ Some n → n < len → Leads marks queue n next → left_from len next < left_from len o
left_falls marks queue len n o None is below leads = omega (arith, ap (left_from len) is, below)
left_falls marks queue len n o (Some m) is below leads = omega (arith, ap (left_from len) is, below, leads.after)

-- ---- links that were set

pub relinked_same : (cells : List Cell) → Relinked cells cells
relinked_same cells = record { marks = refl; skips = λ n c e. (c, e, refl) }

pub relinked_then : (old mid new : List Cell) → Relinked old mid → Relinked mid new → Relinked old new
relinked_then old mid new f g = record {
  marks = g.marks ∙ f.marks;
  skips = λ n c e. let m = g.skips n c e in let o = f.skips n m.0 m.1 in (o.0, o.1, m.2 ∙ o.2);
}

pub relinked_set : (cells : List Cell) (i : ℕ) (c d : Cell) → slice_get cells i ≡ Some c → d.mark ≡ c.mark → d.skip ≡ c.skip → Relinked cells (slice_set cells i d)
relinked_set cells i c d at mark skip = record {
  marks = marks_kept cells i c d at mark;
  skips = λ n x e. elim (set_cases cells i n d x e) [
    | inl p ↦ (c, ap (slice_get cells) p.0 ∙ at, ap (λ (y : Cell). y.skip) p.1 ∙ skip)
    | inr p ↦ (x, p.1, refl)
  ];
}

pub links_set : (cells : List Cell) (i m : ℕ) (c d : Cell) → slice_get cells i ≡ Some c → d.mark ≡ c.mark → d.next ≡ Some m → LinksFit cells → LeadsOn (marks_of cells) c.mark.queue i m → LinksFit (slice_set cells i d)
links_set cells i m c d at mark next fit leads n x e =
    subst (λ marks. Leads marks x.mark.queue n x.next) (sym (marks_kept cells i c d at mark))
    (elim (set_cases cells i n d x e) [
      | inl p ↦
          subst (λ k. Leads (marks_of cells) x.mark.queue k x.next) (sym p.0)
          (subst (λ q. Leads (marks_of cells) q i x.next) (sym (ap (λ (y : Cell). y.mark.queue) p.1 ∙ ap (λ (y : Mark). y.queue) mark))
          (subst (λ o. Leads (marks_of cells) c.mark.queue i o) (sym (ap (λ (y : Cell). y.next) p.1 ∙ next)) leads))
      | inr p ↦ fit n x p.1
    ])

-- the cells lead over all that waits still
pub linked_relinked : (old new : List Cell) (ends : List (Option Ends)) → Relinked old new → LinksFit new → Linked old ends → Linked new ends
linked_relinked old new ends relinked links linked = record {
  skips = λ n c e.
      let o = relinked.skips n c e in
      subst (λ marks. Skips marks n c.skip) (sym relinked.marks)
      (subst (λ s. Skips (marks_of old) n s) (sym o.2) (linked.skips n o.0 o.1));
  links = links;
  spans = λ queue o e. subst (λ marks. EndFits marks queue o) (sym relinked.marks) (linked.spans queue o e);
  queues = λ n queue at. linked.queues n queue (subst (λ marks. queue_at marks n ≡ Some queue) relinked.marks at);
}

-- the queue of a message that is read
pub queue_here : (cells : List Cell) (n : ℕ) → n < length cells → queue_at (marks_of cells) n ≡ Some (get_or cells n no_cell).mark.queue
queue_here cells n below =
    let x = get_or cells n no_cell in
    queue_of (marks_of cells) n x.mark x.mark.queue (mark_at cells n x (cell_here cells n below)) refl

-- a cell leads on in the queue of its message
pub leads_here : (cells : List Cell) (queue n : ℕ) → LinksFit cells → n < length cells → queue_at (marks_of cells) n ≡ Some queue → Leads (marks_of cells) queue n (get_or cells n no_cell).next
leads_here cells queue n fit below at =
    let x = get_or cells n no_cell in
    subst (λ q. Leads (marks_of cells) q n x.next)
    (same_Some x.mark.queue queue (sym (queue_here cells n below) ∙ at)) (fit n x (cell_here cells n below))

-- what is linked past a message that is gone
pub unlinked : (old cells : List Cell) (queue n m further : ℕ) → marks_of cells ≡ marks_of old → LinksFit cells → LeadsOn (marks_of old) queue n m → m < length cells
    → (get_or cells m no_cell).mark.waits ≡ false → (get_or cells m no_cell).next ≡ Some further → LeadsOn (marks_of old) queue n further
unlinked old cells queue n m further same fit leads below gone next =
    subst (λ ms. LeadsOn ms queue n further) same
    (subst (λ o. Reaches (marks_of cells) queue n o) next
    (reached_on cells queue n m (get_or cells m no_cell) fit (subst (λ ms. LeadsOn ms queue n m) (sym same) leads) (cell_here cells m below) gone))
