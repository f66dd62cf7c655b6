-- Steps over messages that are gone, by number.
use Rattle.txn_broker_table.proofs.Words.{Bool, Cell, List, Mark, None, NonePasses, Option, Removes, Skips, SkipsFit, Some, ap, arith, false, get_or, gone, inl, inr, is_waiting, leb_tells, length, length-map, length-set, map-set, marks_of, min, no_cell, option_map, refl, same_Some, slice_get, slice_get_past, slice_set, subst, sym, ℕ, ◌+◌, ◌<◌, ◌∙◌, ◌≡◌, ◌≤◌, ◌⊎◌}
use Rattle.txn_broker_table.proofs.Fading.{faded_set, none_faded}
use Rattle.txn_broker_table.proofs.Reading.{cell_here, mark_at, marks_kept, set_apart, set_cases, set_here}

-- one range after the other
pub none_join : (test : Mark → Bool) (marks : List Mark) (a b c : ℕ) → NonePasses test marks a b → NonePasses test marks b c → NonePasses test marks a c
none_join test marks a b c low high n m above below e =
    elim (leb_tells b n) [
      | inl p ↦ high n m p.1 below e
      | inr p ↦ low n m above p.1 e
    ]

-- one message alone
pub none_one : (test : Mark → Bool) (marks : List Mark) (n : ℕ) (m : Mark) → slice_get marks n ≡ Some m → test m ≡ false → NonePasses test marks n (n + 1)
none_one test marks n m at un k x above below e =
    let same : k ≡ n = omega arith in
    ap test (same_Some x m (sym e ∙ ap (slice_get marks) same ∙ at)) ∙ un

-- none in an empty range
pub none_empty : (test : Mark → Bool) (marks : List Mark) (a b : ℕ) → b ≤ a → NonePasses test marks a b
none_empty test marks a b le k x above below e = absurd (omega (arith, le, above, below))

-- the skip of one message, and then that of the one it leads to, which is gone
pub skips_join : (marks : List Mark) (n to further : ℕ) (m : Mark) → Skips marks n to → slice_get marks to ≡ Some m → m.waits ≡ false → Skips marks to further → Skips marks n further
skips_join marks n to further m first at un second = record {
  after = omega (arith, first.after, second.after);
  within = second.within;
  none =
      none_join is_waiting marks (n + 1) to further first.none
      (none_join is_waiting marks to (to + 1) further (none_one is_waiting marks to m at un) second.none);
}

-- a skip was set
pub skips_set : (cells : List Cell) (i to : ℕ) (c d : Cell) → slice_get cells i ≡ Some c → d.mark ≡ c.mark → d.skip ≡ to → SkipsFit cells → Skips (marks_of cells) i to → SkipsFit (slice_set cells i d)
skips_set cells i to c d at mark skip fit skips n x e =
    subst (λ marks. Skips marks n x.skip) (sym (marks_kept cells i c d at mark))
    (elim (set_cases cells i n d x e) [
      | inl p ↦
          subst (λ k. Skips (marks_of cells) k x.skip) (sym p.0)
          (subst (λ s. Skips (marks_of cells) i s) (sym (ap (λ (y : Cell). y.skip) p.1 ∙ skip)) skips)
      | inr p ↦ fit n x p.1
    ])

-- ---- what was removed so far

gone_is : (m : Mark) → m.waits ≡ false → m ≡ gone m
gone_is m e = ap (λ w. record m { waits = w }) e

gone_already : (o : Option Mark) → ((m : Mark) → o ≡ Some m → m.waits ≡ false) → o ≡ option_map gone o
gone_already None un = refl
gone_already (Some m) un = ap Some (gone_is m (un m refl))

-- nothing yet
pub removes_none : (from to : ℕ) (marks : List Mark) → to ≤ from → Removes from to marks marks
removes_none from to marks le = record {
  len = refl;
  removed = λ n above below. absurd (omega (arith, le, above, below));
  others = λ n apart. refl;
}

-- messages that don't wait are as if removed
pub removes_over : (from to at next : ℕ) (old new : List Mark) → from ≤ at → at ≤ next
    → Removes from (min to at) old new → NonePasses is_waiting new at next → Removes from (min to next) old new
removes_over from to at next old new above later removes none = record {
  len = removes.len;
  removed = λ n high low. elim (leb_tells (min to at) n) [
    | inl p ↦
        gone_already (slice_get new n)
        (λ (m : Mark) (e : slice_get new n ≡ Some m). none n m (omega (arith, p.1, low)) (omega (arith, low)) e)
        ∙ ap (option_map gone) (removes.others n (inr p.1))
    | inr p ↦ removes.removed n high p.1
  ];
  others = λ n apart. removes.others n (elim apart [
    | inl p ↦ inl p
    | inr p ↦ inr (omega (arith, p, later))
  ]);
}

-- one more was removed
pub removes_one : (from to at : ℕ) (m : Mark) (old new : List Mark) → from ≤ at → at < to → slice_get new at ≡ Some m
    → Removes from (min to at) old new → Removes from (min to (at + 1)) old (slice_set new at (gone m))
removes_one from to at m old new above below is removes = record {
  len = length-set new at (gone m) ∙ removes.len;
  removed = λ n high low. elim (leb_tells at n) [
    | inl p ↦
        let same : n ≡ at = omega (arith, p.1, low) in
        ap (slice_get (slice_set new at (gone m))) same
        ∙ set_here new at m (gone m) is
        ∙ ap (option_map gone) (sym is ∙ sym (ap (slice_get new) same) ∙ removes.others n (inr (omega (arith, p.1))))
    | inr p ↦
        set_apart new at n (gone m) (λ (same : n ≡ at). omega (arith, same, p.1))
        ∙ removes.removed n high (omega (arith, p.1, below))
  ];
  others = λ n apart.
      set_apart new at n (gone m)
      (λ (same : n ≡ at). elim apart [
        | inl p ↦ omega (arith, p, same, above)
        | inr p ↦ omega (arith, p, same, below)
      ])
      ∙ removes.others n (elim apart [
        | inl p ↦ inl p
        | inr p ↦ inr (omega (arith, p, below))
      ]);
}

-- no more are left
pub removes_all : (from to at : ℕ) (old new : List Mark) → (to ≤ at) ⊎ (length new ≤ at)
    → Removes from (min to at) old new → Removes from to old new
removes_all from to at old new done removes = record {
  len = removes.len;
  removed = λ n high low. elim (leb_tells (min to at) n) [
    | inl p ↦ elim done [
      | inl q ↦ absurd (omega (arith, p.1, low, q))
      | inr q ↦
          let past : length new ≤ n = omega (arith, p.1, low, q) in
          slice_get_past new n past
          ∙ sym (ap (option_map gone) (slice_get_past old n (omega (arith, past, removes.len))))
    ]
    | inr p ↦ removes.removed n high p.1
  ];
  others = λ n apart. removes.others n (elim apart [
    | inl p ↦ inl p
    | inr p ↦ inr (omega (arith, p))
  ]);
}

-- the messages once one cell's message went
pub marks_gone : (cells : List Cell) (i : ℕ) (c : Cell) → marks_of (slice_set cells i (record c { mark = gone c.mark })) ≡ slice_set (marks_of cells) i (gone c.mark)
marks_gone cells i c = map-set (λ (x : Cell). x.mark) cells i (record c { mark = gone c.mark })

-- what a message that is read skips
pub skips_here : (cells : List Cell) (n : ℕ) → SkipsFit cells → n < length cells → Skips (marks_of cells) n (get_or cells n no_cell).skip
skips_here cells n fit below = fit n (get_or cells n no_cell) (cell_here cells n below)

-- it may skip what that one skips, where that one is gone
pub skips_further : (cells : List Cell) (n to : ℕ) → SkipsFit cells → Skips (marks_of cells) n to → to < length cells → (get_or cells to no_cell).mark.waits ≡ false → Skips (marks_of cells) n (get_or cells to no_cell).skip
skips_further cells n to fit first there gone =
    let b = get_or cells to no_cell in
    skips_join (marks_of cells) n to b.skip b.mark first (mark_at cells to b (cell_here cells to there)) gone (skips_here cells to fit there)

-- it ends within the cells
pub skips_within : (cells : List Cell) (n to : ℕ) → Skips (marks_of cells) n to → to ≤ length cells
skips_within cells n to skips = omega (arith, skips.within, length-map cells (λ (c : Cell). c.mark))

-- the skips once a message went
pub skips_after : (cells : List Cell) (i : ℕ) (c d : Cell) → slice_get cells i ≡ Some c → d.skip ≡ c.skip → d.mark ≡ gone c.mark → d.next ≡ c.next → SkipsFit cells → SkipsFit (slice_set cells i d)
skips_after cells i c d at skip mark next fit n x e =
    let faded = faded_set cells i c d at next (ap (λ (m : Mark). m.queue) mark) (λ was. ap (λ (m : Mark). m.waits) mark) in
    let len : length (marks_of (slice_set cells i d)) ≡ length (marks_of cells) =
    length-map (slice_set cells i d) (λ (y : Cell). y.mark) ∙ length-set cells i d ∙ sym (length-map cells (λ (y : Cell). y.mark)) in
    elim (set_cases cells i n d x e) [
      | inl p ↦
          let was = fit i c at in
          subst (λ k. Skips (marks_of (slice_set cells i d)) k x.skip) (sym p.0)
          (subst (λ s. Skips (marks_of (slice_set cells i d)) i s) (sym (ap (λ (y : Cell). y.skip) p.1 ∙ skip)) (record {
            after = was.after;
            within = omega (arith, was.within, len);
            none = none_faded cells (slice_set cells i d) faded (i + 1) c.skip was.none;
          }))
      | inr p ↦
          let was = fit n x p.1 in
          record {
            after = was.after;
            within = omega (arith, was.within, len);
            none = none_faded cells (slice_set cells i d) faded (n + 1) x.skip was.none;
          }
    ]
