-- One more message.
use Rattle.txn_broker_table.proofs.Words.{Bool, Cell, EndFits, Ends, Leads, Linked, LinksFit, List, Mark, None, NonePasses, Option, Prepared, Skips, Some, Spans, [], ap, arith, came, eqb_tells, first_with, inl, inr, is_waiting_in, leb_tells, length, length-map, length-set, marks_of, queue_at, refl, same_Some, slice_get, slice_get_within, slice_set, subst, sym, ℕ, ◌&&◌, ◌+◌, ◌++◌, ◌<◌, ◌∙◌, ◌∷◌, ◌≡◌, ◌≤◌, ◌⊎◌}
use Rattle.std.proofs.lemmas.List.{length_push, map_push}
use Rattle.txn_broker_table.proofs.Reading.{append_cases, append_here, append_left, mark_at, mark_of, queue_of, queue_within, set_cases}
use Rattle.txn_broker_table.proofs.Skipping.{none_empty}
use Rattle.txn_broker_table.proofs.Linkage.{relinked_set}

module _ (marks : List Mark) (y : Mark) where
  none_push : (test : Mark → Bool) (a b : ℕ) → b ≤ length marks → NonePasses test marks a b → NonePasses test (marks ++ y ∷ []) a b
  none_push test a b within none n m above below e =
      elim (append_cases marks n y m e) [
        | inl p ↦ absurd (omega (arith, p.0, within, below))
        | inr p ↦ none n m above below p.1
      ]

  skips_push : (n to : ℕ) → Skips marks n to → Skips (marks ++ y ∷ []) n to
  skips_push n to skips = record {
    after = skips.after;
    within = omega (arith, skips.within, length_push marks y);
    none = none_push (λ (m : Mark). m.waits) (n + 1) to skips.within skips.none;
  }

  queue_push : (n queue : ℕ) → queue_at marks n ≡ Some queue → queue_at (marks ++ y ∷ []) n ≡ Some queue
  queue_push n queue e =
      let m = mark_of marks n queue e in
      queue_of (marks ++ y ∷ []) n m.0 queue (append_left marks (y ∷ []) n m.0 m.1) m.2

  queue_here : queue_at (marks ++ y ∷ []) (length marks) ≡ Some y.queue
  queue_here = queue_of (marks ++ y ∷ []) (length marks) y y.queue (append_here marks y) refl

  queue_cases : (n queue : ℕ) → queue_at (marks ++ y ∷ []) n ≡ Some queue → ((n ≡ length marks) × (y.queue ≡ queue)) ⊎ (queue_at marks n ≡ Some queue)
  queue_cases n queue e =
      let m = mark_of (marks ++ y ∷ []) n queue e in
      elim (append_cases marks n y m.0 m.1) [
        | inl p ↦ inl (p.0, sym (ap (λ (x : Mark). x.queue) p.1) ∙ m.2)
        | inr p ↦ inr (queue_of marks n m.0 queue p.1 m.2)
      ]

  -- a cell of another queue, or one that leads on, leads where it led
  leads_push : (queue n : ℕ) (next : Option ℕ) → (next ≡ None → y.queue ≡ queue → ⊥) → Leads marks queue n next → Leads (marks ++ y ∷ []) queue n next
  leads_push queue n None other none = λ m after at. elim (queue_cases m queue at) [
    | inl p ↦ other refl p.1
    | inr p ↦ none m after p
  ]
  leads_push queue n (Some m) other leads = record {
    after = leads.after;
    same = queue_push m queue leads.same;
    none =
        none_push (is_waiting_in queue) (n + 1) m
        (omega (arith, queue_within marks m queue leads.same)) leads.none;
  }

  -- the last cell of the queue leads to the new one
  leads_new : (n : ℕ) → n < length marks → ((m : ℕ) → n < m → queue_at marks m ≡ Some y.queue → ⊥) → Leads (marks ++ y ∷ []) y.queue n (Some (length marks))
  leads_new n within none = record {
    after = within;
    same = queue_here;
    none = none_push (is_waiting_in y.queue) (n + 1) (length marks) (omega arith) (λ k m above below e.
        elim (eqb_tells m.queue y.queue) [
          | inl p ↦ absurd (none k (omega (arith, above)) (queue_of marks k m y.queue e p.1))
          | inr p ↦ ap (λ b. b && m.waits) p.0
        ]);
  }

  -- the new cell leads nowhere
  leads_nowhere : (queue : ℕ) → Leads (marks ++ y ∷ []) queue (length marks) None
  leads_nowhere queue = λ m after at.
      omega (arith, after, queue_within (marks ++ y ∷ []) m queue at, length_push marks y)

  -- the ends of another queue
  end_push : (queue : ℕ) (o : Option Ends) → (y.queue ≡ queue → ⊥) → EndFits marks queue o → EndFits (marks ++ y ∷ []) queue o
  end_push queue None other none = λ n at. elim (queue_cases n queue at) [
    | inl p ↦ other p.1
    | inr p ↦ none n p
  ]
  end_push queue (Some e) other spans = record {
    first_in = queue_push e.first queue spans.first_in;
    before =
        none_push (is_waiting_in queue) 0 e.first
        (omega (arith, queue_within marks e.first queue spans.first_in)) spans.before;
    last_in = queue_push e.last queue spans.last_in;
    last = λ n at. elim (queue_cases n queue at) [
      | inl p ↦ absurd (other p.1)
      | inr p ↦ spans.last n p
    ];
  }

  -- the ends of its own queue
  end_new : (o : Option Ends) → EndFits marks y.queue o → Spans (marks ++ y ∷ []) y.queue (record { first = first_with marks o; last = length marks })
  end_new None none = record {
    first_in = queue_here;
    before = none_push (is_waiting_in y.queue) 0 (length marks) (omega arith) (λ k m above below e.
        elim (eqb_tells m.queue y.queue) [
          | inl p ↦ absurd (none k (queue_of marks k m y.queue e p.1))
          | inr p ↦ ap (λ b. b && m.waits) p.0
        ]);
    last_in = queue_here;
    last = λ n at. omega (arith, queue_within (marks ++ y ∷ []) n y.queue at, length_push marks y);
  }
  end_new (Some e) spans = record {
    first_in = queue_push e.first y.queue spans.first_in;
    before =
        none_push (is_waiting_in y.queue) 0 e.first
        (omega (arith, queue_within marks e.first y.queue spans.first_in)) spans.before;
    last_in = queue_here;
    last = λ n at. omega (arith, queue_within (marks ++ y ∷ []) n y.queue at, length_push marks y);
  }

-- no message came to the queue before
pub prepared_none : (cells : List Cell) (queue : ℕ) → LinksFit cells → EndFits (marks_of cells) queue None → Prepared cells queue cells
prepared_none cells queue links none = record {
  relinked = record { marks = refl; skips = λ n c e. (c, e, refl) };
  links = λ n c e. inl (
    links n c e,
    λ nowhere same. none n (queue_of (marks_of cells) n c.mark queue (mark_at cells n c e) (sym same)),
  );
}

-- the last one before leads to the new one
pub prepared_some : (cells : List Cell) (queue : ℕ) (e : Ends) (l d : Cell) → LinksFit cells → Spans (marks_of cells) queue e
    → slice_get cells e.last ≡ Some l → d.mark ≡ l.mark → d.skip ≡ l.skip → d.next ≡ Some (length cells) → Prepared cells queue (slice_set cells e.last d)
prepared_some cells queue e l d links spans at mark skip next =
    let here = mark_of (marks_of cells) e.last queue spans.last_in in
    let own : l.mark.queue ≡ queue = ap (λ (x : Mark). x.queue) (same_Some l.mark here.0 (sym (mark_at cells e.last l at) ∙ here.1)) ∙ here.2 in
    record {
      relinked = relinked_set cells e.last l d at mark skip;
      links = λ n c g. elim (set_cases cells e.last n d c g) [
        | inl p ↦ inr (
          ap (λ (x : Cell). x.mark.queue) p.1 ∙ ap (λ (x : Mark). x.queue) mark ∙ own,
          ap (λ (x : Cell). x.next) p.1 ∙ next,
          λ m after there. omega (arith, spans.last m there, after, p.0),
        )
        | inr p ↦ inl (
          links n c p.1,
          λ nowhere same.
              let mine : queue_at (marks_of cells) n ≡ Some queue =
              queue_of (marks_of cells) n c.mark queue (mark_at cells n c p.1) (sym same) in
              let none = subst (λ o. Leads (marks_of cells) c.mark.queue n o) nowhere (links n c p.1) in
              elim (leb_tells e.last n) [
                | inl q ↦ p.0 (omega (arith, q.1, spans.last n mine))
                | inr q ↦ none e.last q.1 (spans.last_in ∙ ap Some same)
              ],
        )
      ];
    }

-- the cells and the ends with one more message
pub linked_push : (cells new : List Cell) (ends : List (Option Ends)) (place queue : ℕ) (o : Option Ends) (c : Cell) (first : ℕ)
    → Linked cells ends → slice_get ends queue ≡ Some o → Prepared cells queue new
    → c.mark ≡ came place queue → c.skip ≡ length cells + 1 → c.next ≡ None → first ≡ first_with (marks_of cells) o
    → Linked (new ++ c ∷ []) (slice_set ends queue (Some (record { first = first; last = length cells })))
linked_push cells new ends place queue o c first linked is prepared mark skip next first_is =
    let y = came place queue in
    let old = marks_of cells in
    let long : length old ≡ length cells = length-map cells (λ (x : Cell). x.mark) in
    let marks : marks_of (new ++ c ∷ []) ≡ old ++ y ∷ [] =
    map_push (λ (x : Cell). x.mark) new c ∙ ap (λ ms. ms ++ c.mark ∷ []) prepared.relinked.marks ∙ ap (λ m. old ++ m ∷ []) mark in
    let len : length new ≡ length cells =
    sym (length-map new (λ (x : Cell). x.mark)) ∙ ap (λ (ms : List Mark). length ms) prepared.relinked.marks ∙ long in
    record {
      skips = λ n x e. subst (λ ms. Skips ms n x.skip) (sym marks) (elim (append_cases new n c x e) [
        | inl p ↦
            let at : n ≡ length cells = p.0 ∙ len in
            let to : x.skip ≡ length cells + 1 = ap (λ (z : Cell). z.skip) p.1 ∙ skip in
            record {
              after = omega (arith, at, to);
              within = omega (arith, to, length_push old y, long);
              none = none_empty (λ (m : Mark). m.waits) (old ++ y ∷ []) (n + 1) x.skip (omega (arith, at, to));
            }
        | inr p ↦
            let was = prepared.relinked.skips n x p.1 in
            skips_push old y n x.skip (subst (λ s. Skips old n s) (sym was.2) (linked.skips n was.0 was.1))
      ]);
      links = λ n x e. subst (λ ms. Leads ms x.mark.queue n x.next) (sym marks) (elim (append_cases new n c x e) [
        | inl p ↦
            subst (λ k. Leads (old ++ y ∷ []) x.mark.queue k x.next) (sym (p.0 ∙ len ∙ sym long))
            (subst (λ b. Leads (old ++ y ∷ []) x.mark.queue (length old) b) (sym (ap (λ (z : Cell). z.next) p.1 ∙ next))
            (leads_nowhere old y x.mark.queue))
        | inr p ↦ elim (prepared.links n x p.1) [
          | inl q ↦ leads_push old y x.mark.queue n x.next q.1 q.0
          | inr q ↦
              subst (λ k. Leads (old ++ y ∷ []) k n x.next) (sym q.0)
              (subst (λ b. Leads (old ++ y ∷ []) queue n b) (sym (q.1 ∙ ap Some (sym long)))
              (leads_new old y n (omega (arith, p.0, len, long)) q.2))
        ]
      ]);
      spans = λ k b e. subst (λ ms. EndFits ms k b) (sym marks) (elim (set_cases ends queue k _ b e) [
        | inl p ↦
            subst (λ a. EndFits (old ++ y ∷ []) a b) (sym p.0)
            (subst (λ a. EndFits (old ++ y ∷ []) queue a) (sym (p.1 ∙ ap (λ f. Some (record { first = f; last = length cells })) first_is ∙ ap (λ l. Some (record { first = first_with old o; last = l })) (sym long)))
            (end_new old y o (linked.spans queue o is)))
        | inr p ↦ end_push old y k b (λ (same : queue ≡ k). p.0 (sym same)) (linked.spans k b p.1)
      ]);
      queues = λ n k at. elim (queue_cases old y n k (subst (λ ms. queue_at ms n ≡ Some k) marks at)) [
        | inl p ↦ omega (arith, p.1, slice_get_within ends queue o is, length-set ends queue (Some (record { first = first; last = length cells })))
        | inr p ↦ omega (arith, linked.queues n k p, length-set ends queue (Some (record { first = first; last = length cells })))
      ];
    }
