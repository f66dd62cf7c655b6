-- Each step of a pass keeps the rule.
use Rattle.std.proofs.Common.{◌≡◌, ◌≢◌, ◌<◌, ◌+◌, ◌⊎◌, ⊎_elim, inl, inr, eqb, eq-eqb, ne_eqb, ℕ, zero, suc, true, false, true≢false, cond, List, [], ◌∷◌, ◌++◌, length, set, sym, refl, ap, ◌∙◌, subst, arith, append_assoc, length-append}
use Rattle.std.proofs.lemmas.Bool.Decides.{eqb_tells}
use Rattle.std.proofs.lemmas.List.Elements.{All-nil, All-head, All-tail, All-push}
use Rattle.std.specs.List.{All}
use mathlib.Core.Option.{some, some-injective, some-ne-none}
use lib.ListN.{get_elem?}
use Rattle.crossbeam_queue.specs.Fifo.{Pushes, Pops, Forks, Merges, Learns}
use Rattle.crossbeam_queue.proofs.Lists.{at_set}
use Rattle.txn_mailbox_queue.specs.declared.item.Item.{Item}
use Rattle.txn_mailbox_queue.specs.declared.item.View.{View}
use Rattle.txn_mailbox_queue.specs.Order.{count, InTurn, may, put, view_of, put_one, took, Fits, Ordered, only_first, but_first, with_first, only_second, but_second, with_second, spent}
use Rattle.txn_mailbox_queue.proofs.Items.{count_yes, count_no, turn_more, turn_next, two, within_more, count_here}

at_end : (l : List View) (a b : View) (j : ℕ) → get_elem? l j ≢ some b → get_elem? (l ++ a ∷ []) j ≡ some b → j ≡ length l
at_end [] a b zero n e = refl
at_end [] a b (suc j) n e = absurd (some-ne-none b (sym e))
at_end (x ∷ xs) a b zero n e = absurd (n e)
at_end (x ∷ xs) a b (suc j) n e = ap suc (at_end xs a b j n e)

abbrev Each : (ℕ → View → Type 0) → List View → Type 0
Each F views = (pass : ℕ) (v : View) → get_elem? views pass ≡ some v → F pass v

each_set : (F : ℕ → View → Type 0) (views : List View) (pass : ℕ) (w : View) → F pass w → ((j : ℕ) (u : View) → j ≢ pass → get_elem? views j ≡ some u → F j u) → Each F (set views pass w)
each_set F views pass w mine others j u e = ⊎_elim (λ (x : (j ≡ pass) × (w ≡ u)). subst (λ (y : ℕ × View). F y.0 y.1) (λ i. (sym x.0 i, x.1 i)) mine)
    (λ (x : (j ≢ pass) × (get_elem? views j ≡ some u)). others j u x.0 x.1) (at_set views pass j w u e)

-- a sender that a pass may put for is one of the two
may_two : (v : View) (k : ℕ) → may v k ≡ true → k < 2
may_two v zero m = omega arith
may_two v (suc zero) m = omega arith
may_two v (suc (suc k)) m = absurd (true≢false (sym m))

put_start : (k : ℕ) → put (view_of true true true 0 0 []) k ≡ 0
put_start zero = refl
put_start (suc k) = refl

pub begins : (len : ℕ → ℕ) → Ordered len [] (view_of true true true 0 0 [] ∷ [])
begins len = let start : View = view_of true true true 0 0 [] in (
  (λ k. 0),
  0,
  [],
  record {
    in_turn = λ k. refl;
    within = λ k. omega arith;
    known = All-nil (λ (x : Item). x.sender < 2);
    fit = each_set (Fits (λ k. 0) 0 [] []) (start ∷ []) 0 start (record { puts = λ k m. (refl, put_start k); takes = λ m. (refl, refl) })
        (λ j u other e. absurd (other (at_end [] _ u j (λ x. some-ne-none u (sym x)) e)));
  },
)

may_put_one : (v : View) (s k : ℕ) → may (put_one v s) k ≡ may v k
may_put_one v zero zero = refl
may_put_one v zero (suc zero) = refl
may_put_one v zero (suc (suc k)) = refl
may_put_one v (suc s) zero = refl
may_put_one v (suc s) (suc zero) = refl
may_put_one v (suc s) (suc (suc k)) = refl

put_yes : (v : View) (k : ℕ) → put (put_one v k) k ≡ suc (put v k)
put_yes v zero = refl
put_yes v (suc k) = refl

put_no : (v : View) (s k : ℕ) → s < 2 → k < 2 → s ≢ k → put (put_one v s) k ≡ put v k
put_no v zero zero a b n = absurd (n refl)
put_no v zero (suc k) a b n = refl
put_no v (suc s) zero a b n = refl
put_no v (suc s) (suc k) a b n = absurd (n (omega arith))

taken_put_one : (v : View) (s : ℕ) → ((put_one v s).taken ≡ v.taken) × ((put_one v s).takes ≡ v.takes)
taken_put_one v zero = (refl, refl)
taken_put_one v (suc s) = (refl, refl)

-- a push of a sender's next item
pub puts : (len : ℕ → ℕ) (n pass : ℕ) (v : View) (x : Item) → may v x.sender ≡ true → x.place ≡ put v x.sender → x.place < len x.sender → Pushes (Ordered len) n pass v x (λ w. w ≡ put_one v x.sender)
puts len n pass v x can place room items views _ h at = let k = h.3 in let mine : Fits h.0 h.1 h.2 items pass v = k.fit pass v at in let w : View = put_one v x.sender in
    let all : List Item = h.2 ++ items in
    let e : h.2 ++ (items ++ x ∷ []) ≡ all ++ x ∷ [] = sym (append_assoc h.2 items (x ∷ [])) in
    let next : x.place ≡ count x.sender all = place ∙ (mine.puts x.sender can).1 in
    let low : x.sender < 2 = may_two v x.sender can in
    let t = taken_put_one v x.sender in
    let still : (j : ℕ) → x.sender ≢ j → count j (h.2 ++ (items ++ x ∷ [])) ≡ count j all = λ j other. ap (count j) e ∙ count_no j all x other in (
      w,
      (
        h.0,
        h.1,
        h.2,
        record {
          in_turn = rw e (turn_more all x k.in_turn next);
          within = λ j. rw e (within_more len all x j k.within (rw next at room));
          known = rw e (All-push (λ (y : Item). y.sender < 2) all x k.known low);
          fit = each_set (Fits h.0 h.1 h.2 (items ++ x ∷ [])) views pass w
              (record {
                puts = λ j m. let m' : may v j ≡ true = sym (may_put_one v x.sender j) ∙ m in ⊎_elim
                    (λ (t : (eqb x.sender j ≡ true) × (x.sender ≡ j)). ((mine.puts j m').0, ap (λ s. put (put_one v s) j) t.1 ∙ put_yes v j ∙ ap suc (mine.puts j m').1 ∙ sym (ap (count j) e ∙ count_yes j all x t.1)))
                    (λ (t : (eqb x.sender j ≡ false) × (x.sender ≢ j)). ((mine.puts j m').0, put_no v x.sender j low (may_two v j m') t.1 ∙ (mine.puts j m').1 ∙ sym (still j t.1)))
                    (eqb_tells x.sender j);
                takes = λ m. let a = mine.takes (sym t.1 ∙ m) in (a.0, t.0 ∙ a.1);
              })
              (λ j u other at'. record {
                puts = λ s m. ⊎_elim
                    (λ (t : (eqb x.sender s ≡ true) × (x.sender ≡ s)). absurd (other (((k.fit j u at').puts s m).0 ∙ sym (mine.puts s (ap (may v) (sym t.1) ∙ can)).0)))
                    (λ (t : (eqb x.sender s ≡ false) × (x.sender ≢ s)). (((k.fit j u at').puts s m).0, ((k.fit j u at').puts s m).1 ∙ sym (still s t.1)))
                    (eqb_tells x.sender s);
                takes = (k.fit j u at').takes;
              });
        },
      ),
      refl,
    )

may_same : (v w : View) → v.first ≡ w.first → v.second ≡ w.second → (k : ℕ) → may v k ≡ may w k
may_same v w a b zero = a
may_same v w a b (suc zero) = b
may_same v w a b (suc (suc k)) = refl

put_same : (v w : View) → v.first_put ≡ w.first_put → v.second_put ≡ w.second_put → (k : ℕ) → put v k ≡ put w k
put_same v w a b zero = a
put_same v w a b (suc k) = b

low_after : (xs ys : List Item) → All (λ x. x.sender < 2) (xs ++ ys) → All (λ x. x.sender < 2) ys
low_after [] ys h = h
low_after (x ∷ xs) ys h = low_after xs ys (All-tail (λ (y : Item). y.sender < 2) x (xs ++ ys) h)

-- a pop by the pass that takes
pub takes : (len : ℕ → ℕ) (pass : ℕ) (v : View) → v.takes ≡ true → Pops (Ordered len) pass v (λ x w. (w ≡ took v x) × (x.sender < 2) × (x.place ≡ count x.sender v.taken) × (x.place < len x.sender))
takes len pass v can x items views h at = let k = h.3 in let mine : Fits h.0 h.1 h.2 (x ∷ items) pass v = k.fit pass v at in let w : View = took v x in
    let got : List Item = h.2 ++ x ∷ [] in let e : got ++ items ≡ h.2 ++ x ∷ items = append_assoc h.2 (x ∷ []) items in
    let own = (mine.takes can).1 in
    let low : x.sender < 2 = All-head (λ (y : Item). y.sender < 2) x items (low_after h.2 (x ∷ items) k.known) in
    let next : x.place ≡ count x.sender v.taken = turn_next h.2 items x k.in_turn ∙ ap (count x.sender) (sym own) in
    let below : x.place < len x.sender = omega (arith, count_here h.2 items x, k.within x.sender, turn_next h.2 items x k.in_turn) in (
      w,
      (
        h.0,
        h.1,
        got,
        record {
          in_turn = rw e k.in_turn;
          within = λ j. rw e (k.within j);
          known = rw e k.known;
          fit = each_set (Fits h.0 h.1 got items) views pass w
              (record {
                puts = λ j m. let a = mine.puts j (may_same v w refl refl j ∙ m) in (a.0, put_same w v refl refl j ∙ a.1 ∙ ap (count j) (sym e));
                takes = λ m. ((mine.takes can).0, ap (λ l. l ++ x ∷ []) own);
              })
              (λ j u other at'. record {
                puts = λ s m. let a = (k.fit j u at').puts s m in (a.0, a.1 ∙ ap (count s) (sym e));
                takes = λ m. absurd (other (((k.fit j u at').takes m).0 ∙ sym (mine.takes can).0));
              });
        },
      ),
      (refl, low, next, below),
    )

abbrev reseat : (ℕ → ℕ) → ℕ → ℕ → ℕ → ℕ
reseat seat k n s = cond (eqb s k) n (seat s)

seat_here : (seat : ℕ → ℕ) (k n s : ℕ) → s ≡ k → reseat seat k n s ≡ n
seat_here seat k n s e = rw (eq-eqb s k e)

seat_else : (seat : ℕ → ℕ) (k n s : ℕ) → s ≢ k → reseat seat k n s ≡ seat s
seat_else seat k n s e = rw (ne_eqb s k e)

at_last : (l : List View) (a b : View) (j : ℕ) → get_elem? (l ++ a ∷ []) j ≡ some b → (get_elem? l j ≡ some b) ⊎ ((j ≡ length l) × (a ≡ b))
at_last [] a b zero e = inr (refl, some-injective a b e)
at_last [] a b (suc j) e = absurd (some-ne-none b (sym e))
at_last (x ∷ xs) a b zero e = inl e
at_last (x ∷ xs) a b (suc j) e = ⊎_elim inl (λ (t : (j ≡ length xs) × (a ≡ b)). inr (ap suc t.0, t.1)) (at_last xs a b j e)

-- the part of sender k is made a pass of its own
pub record Gives (k : ℕ) (v left right : View) : Type 0 where
  pub can : may v k ≡ true
  pub keeps : (j : ℕ) → may left j ≡ true → (j ≢ k) × (may v j ≡ true) × (put left j ≡ put v j)
  pub takes : left.takes ≡ true → (v.takes ≡ true) × (left.taken ≡ v.taken)
  pub gives : (j : ℕ) → may right j ≡ true → (j ≡ k) × (put right j ≡ put v k)
  pub no_takes : right.takes ≢ true

pub forks : (len : ℕ → ℕ) (k pass : ℕ) (v left right : View) → Gives k v left right → Forks (Ordered len) pass v left right
forks len k pass v left right g items views h at = let kept = h.3 in let mine : Fits h.0 h.1 h.2 items pass v = kept.fit pass v at in let vs : List View = set views pass left in
    let n : ℕ = length vs in let seat : ℕ → ℕ = reseat h.0 k n in
    let old : Each (Fits seat h.1 h.2 items) vs = each_set (Fits seat h.1 h.2 items) views pass left
    (record {
      puts = λ j m. let a = g.keeps j m in let b = mine.puts j a.1 in (b.0 ∙ sym (seat_else h.0 k n j a.0), a.2 ∙ b.1);
      takes = λ m. let a = g.takes m in let b = mine.takes a.0 in (b.0, a.1 ∙ b.1);
    })
    (λ j u other at'. record {
      puts = λ s m. let a = (kept.fit j u at').puts s m in
          let apart : s ≢ k = λ same. other (a.0 ∙ ap h.0 same ∙ sym (mine.puts k g.can).0) in (a.0 ∙ sym (seat_else h.0 k n s apart), a.1);
      takes = (kept.fit j u at').takes;
    }) in (
      seat,
      h.1,
      h.2,
      record {
        in_turn = kept.in_turn;
        within = kept.within;
        known = kept.known;
        fit = λ j u e. ⊎_elim (λ x. old j u x)
            (λ (t : (j ≡ n) × (right ≡ u)). subst (λ (y : View). Fits seat h.1 h.2 items j y) t.1 (record {
              puts = λ s m. let a = g.gives s m in (t.0 ∙ sym (seat_here h.0 k n s a.0), a.1 ∙ (mine.puts k g.can).1 ∙ ap (λ i. count i (h.2 ++ items)) (sym a.0));
              takes = λ m. absurd (g.no_takes m);
            }))
            (at_last vs right u j e);
      },
    )

-- the part of sender k is taken in
pub record Gains (k : ℕ) (v other both : View) : Type 0 where
  pub can : may other k ≡ true
  pub puts : (j : ℕ) → may both j ≡ true → ((j ≡ k) × (put both j ≡ put other k)) ⊎ ((j ≢ k) × (may v j ≡ true) × (put both j ≡ put v j))
  pub takes : both.takes ≡ true → (v.takes ≡ true) × (both.taken ≡ v.taken)

may_spent : (k : ℕ) → may spent k ≢ true
may_spent zero m = true≢false (sym m)
may_spent (suc zero) m = true≢false (sym m)
may_spent (suc (suc k)) m = true≢false (sym m)

pub merges : (len : ℕ → ℕ) (k pass : ℕ) (v : View) (other : ℕ) (u both : View) → Gains k v u both → Merges (Ordered len) pass v other u both spent
merges len k pass v other u both g items views h at apart at' = let kept = h.3 in let mine : Fits h.0 h.1 h.2 items pass v = kept.fit pass v at in let vs : List View = set views pass both in
    let was : get_elem? views other ≡ some u = ⊎_elim (λ x. absurd (apart x.0)) (λ x. x.1) (at_set views pass other both u at') in
    let theirs : (other ≡ h.0 k) × (put u k ≡ count k (h.2 ++ items)) = (kept.fit other u was).puts k g.can in
    let seat : ℕ → ℕ = reseat h.0 k pass in
    let now : Each (λ j y. j ≢ other → Fits seat h.1 h.2 items j y) vs = each_set (λ j y. j ≢ other → Fits seat h.1 h.2 items j y) views pass both
    (λ _. record {
      puts = λ j m. ⊎_elim
          (λ (t : (j ≡ k) × (put both j ≡ put u k)). (sym (seat_here h.0 k pass j t.0), t.1 ∙ theirs.1 ∙ ap (λ i. count i (h.2 ++ items)) (sym t.0)))
          (λ (t : (j ≢ k) × (may v j ≡ true) × (put both j ≡ put v j)). ((mine.puts j t.1).0 ∙ sym (seat_else h.0 k pass j t.0), t.2 ∙ (mine.puts j t.1).1))
          (g.puts j m);
      takes = λ m. let a = g.takes m in let b = mine.takes a.0 in (b.0, a.1 ∙ b.1);
    })
    (λ j y _ e far. record {
      puts = λ s m. let a = (kept.fit j y e).puts s m in let off : s ≢ k = λ same. far (a.0 ∙ ap h.0 same ∙ sym theirs.0) in (a.0 ∙ sym (seat_else h.0 k pass s off), a.1);
      takes = (kept.fit j y e).takes;
    }) in (
      seat,
      h.1,
      h.2,
      record {
        in_turn = kept.in_turn;
        within = kept.within;
        known = kept.known;
        fit = each_set (Fits seat h.1 h.2 items) vs other spent (record { puts = λ j m. absurd (may_spent j m); takes = λ m. absurd (true≢false (sym m)) }) (λ j y far e. now j y e far);
      },
    )

-- the whole pass knows how many of each were put, and how many are left
pub totals : (len : ℕ → ℕ) (pass : ℕ) (v : View) → v.first ≡ true → v.second ≡ true → v.takes ≡ true
    → Learns (Ordered len) pass v (λ items. InTurn (v.taken ++ items) × (count 0 (v.taken ++ items) ≡ v.first_put) × (count 1 (v.taken ++ items) ≡ v.second_put) × (length v.taken + length items ≡ v.first_put + v.second_put))
totals len pass v a b t items views h at = let kept = h.3 in let mine : Fits h.0 h.1 h.2 items pass v = kept.fit pass v at in let own = (mine.takes t).1 in
    let all : v.taken ++ items ≡ h.2 ++ items = ap (λ l. l ++ items) own in
    let one : count 0 (v.taken ++ items) ≡ v.first_put = ap (count 0) all ∙ sym (mine.puts 0 a).1 in
    let other : count 1 (v.taken ++ items) ≡ v.second_put = ap (count 1) all ∙ sym (mine.puts 1 b).1 in
    let known : All (λ (x : Item). x.sender < 2) (v.taken ++ items) = rw all kept.known in
    (rw all kept.in_turn, one, other, omega (arith, two (v.taken ++ items) known, length-append v.taken items))

keeps_first : (v : View) (j : ℕ) → may (but_first v) j ≡ true → (j ≢ 0) × (may v j ≡ true) × (put (but_first v) j ≡ put v j)
keeps_first v zero m = absurd (true≢false (sym m))
keeps_first v (suc zero) m = ((λ e. omega arith), m, refl)
keeps_first v (suc (suc j)) m = absurd (true≢false (sym m))

right_first : (v : View) (j : ℕ) → may (only_first v) j ≡ true → (j ≡ 0) × (put (only_first v) j ≡ put v 0)
right_first v zero m = (refl, refl)
right_first v (suc zero) m = absurd (true≢false (sym m))
right_first v (suc (suc j)) m = absurd (true≢false (sym m))

keeps_second : (v : View) (j : ℕ) → may (but_second v) j ≡ true → (j ≢ 1) × (may v j ≡ true) × (put (but_second v) j ≡ put v j)
keeps_second v zero m = ((λ e. omega arith), m, refl)
keeps_second v (suc zero) m = absurd (true≢false (sym m))
keeps_second v (suc (suc j)) m = absurd (true≢false (sym m))

right_second : (v : View) (j : ℕ) → may (only_second v) j ≡ true → (j ≡ 1) × (put (only_second v) j ≡ put v 1)
right_second v zero m = absurd (true≢false (sym m))
right_second v (suc zero) m = (refl, refl)
right_second v (suc (suc j)) m = absurd (true≢false (sym m))

both_first : (v u : View) (j : ℕ) → may (with_first v u) j ≡ true → ((j ≡ 0) × (put (with_first v u) j ≡ put u 0)) ⊎ ((j ≢ 0) × (may v j ≡ true) × (put (with_first v u) j ≡ put v j))
both_first v u zero m = inl (refl, refl)
both_first v u (suc zero) m = inr ((λ e. omega arith), m, refl)
both_first v u (suc (suc j)) m = absurd (true≢false (sym m))

both_second : (v u : View) (j : ℕ) → may (with_second v u) j ≡ true → ((j ≡ 1) × (put (with_second v u) j ≡ put u 1)) ⊎ ((j ≢ 1) × (may v j ≡ true) × (put (with_second v u) j ≡ put v j))
both_second v u zero m = inr ((λ e. omega arith), m, refl)
both_second v u (suc zero) m = inl (refl, refl)
both_second v u (suc (suc j)) m = absurd (true≢false (sym m))

pub gives_first : (v : View) → v.first ≡ true → Gives 0 v (but_first v) (only_first v)
gives_first v can = record { can = can; keeps = keeps_first v; takes = λ m. (m, refl); gives = right_first v; no_takes = λ m. true≢false (sym m) }

pub gives_second : (v : View) → v.second ≡ true → Gives 1 v (but_second v) (only_second v)
gives_second v can = record { can = can; keeps = keeps_second v; takes = λ m. (m, refl); gives = right_second v; no_takes = λ m. true≢false (sym m) }

pub gains_first : (v u : View) → u.first ≡ true → Gains 0 v u (with_first v u)
gains_first v u can = record { can = can; puts = both_first v u; takes = λ m. (m, refl) }

pub gains_second : (v u : View) → u.second ≡ true → Gains 1 v u (with_second v u)
gains_second v u can = record { can = can; puts = both_second v u; takes = λ m. (m, refl) }
