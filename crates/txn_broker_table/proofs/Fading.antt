-- What stays where messages go and links stay.
use Rattle.txn_broker_table.proofs.Words.{Bool, Cell, EndFits, Ends, Faded, Leads, Linked, LinksFit, List, Mark, None, NonePasses, Option, SkipsFit, Some, ap, arith, false, inl, inr, is_waiting, is_waiting_in, length, length-map, length-set, marks_of, queue_at, refl, same_Some, slice_get, slice_get_cases, slice_set, subst, sym, true, ℕ, ◌&&◌, ◌+◌, ◌<◌, ◌==◌, ◌∙◌, ◌≡◌}
use Rattle.txn_broker_table.proofs.Reading.{cell_at, mark_at, mark_of, queue_of, queue_within, set_cases}

-- nothing went
pub faded_same : (cells : List Cell) → Faded cells cells
faded_same cells = record {
  len = refl;
  cell = λ n c e. (c, e, refl, refl, λ gone. gone);
}

-- one after the other
pub faded_then : (old mid new : List Cell) → Faded old mid → Faded mid new → Faded old new
faded_then old mid new f g = record {
  len = g.len ∙ f.len;
  cell = λ n c e.
      let m = g.cell n c e in
      let o = f.cell n m.0 m.1 in
      (o.0, o.1, m.2 ∙ o.2, m.3 ∙ o.3, λ gone. m.4 (o.4 gone));
}

-- one cell was set, which leads where it led
pub faded_set : (cells : List Cell) (i : ℕ) (c d : Cell) → slice_get cells i ≡ Some c → d.next ≡ c.next
    → d.mark.queue ≡ c.mark.queue → (c.mark.waits ≡ false → d.mark.waits ≡ false) → Faded cells (slice_set cells i d)
faded_set cells i c d at next queue waits = record {
  len = length-set cells i d;
  cell = λ n x e. elim (set_cases cells i n d x e) [
    | inl p ↦ (
      c,
      ap (slice_get cells) p.0 ∙ at,
      ap (λ (y : Cell). y.next) p.1 ∙ next,
      ap (λ (y : Cell). y.mark.queue) p.1 ∙ queue,
      λ gone. ap (λ (y : Cell). y.mark.waits) p.1 ∙ waits gone,
    )
    | inr p ↦ (x, p.1, refl, refl, λ gone. gone)
  ];
}

-- a message, and what it was
pub mark_faded : (old new : List Cell) → Faded old new → (n : ℕ) (m : Mark) → slice_get (marks_of new) n ≡ Some m
    → (o : Mark) × (slice_get (marks_of old) n ≡ Some o) × (m.queue ≡ o.queue) × (o.waits ≡ false → m.waits ≡ false)
mark_faded old new f n m e =
    let c = cell_at new n m e in
    let o = f.cell n c.0 c.1 in (
      o.0.mark,
      mark_at old n o.0 o.1,
      sym (ap (λ (x : Mark). x.queue) c.2) ∙ o.3,
      λ gone. sym (ap (λ (x : Mark). x.waits) c.2) ∙ o.4 gone,
    )

-- the queue of a message stays
pub queue_was : (old new : List Cell) → Faded old new → (n queue : ℕ) → queue_at (marks_of new) n ≡ Some queue → queue_at (marks_of old) n ≡ Some queue
queue_was old new f n queue e =
    let m = mark_of (marks_of new) n queue e in
    let o = mark_faded old new f n m.0 m.1 in
    queue_of (marks_of old) n o.0 queue o.1 (sym o.2 ∙ m.2)

pub queue_stays : (old new : List Cell) → Faded old new → (n queue : ℕ) → queue_at (marks_of old) n ≡ Some queue → queue_at (marks_of new) n ≡ Some queue
queue_stays old new f n queue e =
    let m = mark_of (marks_of old) n queue e in
    let within : n < length new = omega (arith, queue_within (marks_of old) n queue e, length-map old (λ (x : Cell). x.mark), f.len) in
    elim ((slice_get_cases new n).1) [
      | inl here ↦
          let o = f.cell n here.0 here.2 in
          let same = same_Some o.0.mark m.0 (sym (mark_at old n o.0 o.1) ∙ m.1) in
          queue_of (marks_of new) n here.0.mark queue (mark_at new n here.0 here.2)
          (o.3 ∙ ap (λ (x : Mark). x.queue) same ∙ m.2)
      | inr past ↦ absurd (omega (arith, within, past.0))
    ]

-- what doesn't wait goes on not to wait
pub none_faded : (old new : List Cell) → Faded old new → (from to : ℕ) → NonePasses is_waiting (marks_of old) from to → NonePasses is_waiting (marks_of new) from to
none_faded old new f from to none n m above below e =
    let o = mark_faded old new f n m e in o.3 (none n o.0 above below o.1)

and_faded : (b v w : Bool) → (v ≡ false → w ≡ false) → (b && v) ≡ false → (b && w) ≡ false
and_faded true v w f e = f e
and_faded false v w f e = refl

pub none_in_faded : (old new : List Cell) → Faded old new → (queue from to : ℕ) → NonePasses (is_waiting_in queue) (marks_of old) from to → NonePasses (is_waiting_in queue) (marks_of new) from to
none_in_faded old new f queue from to none n m above below e =
    let o = mark_faded old new f n m e in
    ap (λ q. (q == queue) && m.waits) o.2
    ∙ and_faded (o.0.queue == queue) o.0.waits m.waits o.3 (none n o.0 above below o.1)

leads_faded : (old new : List Cell) → Faded old new → (queue n : ℕ) (next : Option ℕ) → Leads (marks_of old) queue n next → Leads (marks_of new) queue n next
leads_faded old new f queue n None none = λ m after at. none m after (queue_was old new f m queue at)
leads_faded old new f queue n (Some m) leads = record {
  after = leads.after;
  same = queue_stays old new f m queue leads.same;
  none = none_in_faded old new f queue (n + 1) m leads.none;
}

-- the links fit still
pub links_faded : (old new : List Cell) → Faded old new → LinksFit old → LinksFit new
links_faded old new f fit n c e =
    let o = f.cell n c e in
    subst (λ q. Leads (marks_of new) q n c.next) (sym o.3)
    (subst (λ next. Leads (marks_of new) o.0.mark.queue n next) (sym o.2)
    (leads_faded old new f o.0.mark.queue n o.0.next (fit n o.0 o.1)))

end_faded : (old new : List Cell) → Faded old new → (queue : ℕ) (o : Option Ends) → EndFits (marks_of old) queue o → EndFits (marks_of new) queue o
end_faded old new f queue None none = λ n at. none n (queue_was old new f n queue at)
end_faded old new f queue (Some e) spans = record {
  first_in = queue_stays old new f e.first queue spans.first_in;
  before = none_in_faded old new f queue 0 e.first spans.before;
  last_in = queue_stays old new f e.last queue spans.last_in;
  last = λ n at. spans.last n (queue_was old new f n queue at);
}

-- the cells lead over all that waits still
pub linked_faded : (old new : List Cell) (ends : List (Option Ends)) → Faded old new → SkipsFit new → Linked old ends → Linked new ends
linked_faded old new ends f skips linked = record {
  skips = skips;
  links = links_faded old new f linked.links;
  spans = λ queue o e. end_faded old new f queue o (linked.spans queue o e);
  queues = λ n queue at. linked.queues n queue (queue_was old new f n queue at);
}
