-- One step more of a report that is explained.
use Rattle.std.proofs.Common.{◌≡◌, ℕ, Bool, true, false, not, Some, None, List, [], ◌∷◌, ◌++◌, map, refl, sym, ◌∙◌, ap, subst, inl, inr}
use Rattle.std.specs.Borrow.{Bor}
use Rattle.std.specs.List.{list_all}
use Rattle.std.proofs.lemmas.Bool.{and_parts}
use Rattle.amqp_txn_types.specs.declared.id.TransactionId.{TransactionId}
use Rattle.amqp_txn_types.specs.declared.performatives.Frame.{Frame}
use Rattle.amqp_below_ids.specs.Drawn.{DrawnIds}
use Rattle.amqp_below_ids.specs.Ids.{Drew}
use Rattle.amqp_resource_record.specs.declared.step.Step.{Step}
use Rattle.amqp_resource_record.specs.declared.reply.Reply.{Reply}
use Rattle.amqp_resource_record.specs.declared.entry.Entry.{Entry}
use Rattle.amqp_resource_record.specs.Work.{handed_by}
use Rattle.amqp_resource_record.proofs.Whole.{work-snoc}
use Rattle.amqp_resource_held.specs.declared.held.Held.{Held}
use Rattle.txn_program_lines.specs.Cutting.{lines_of}
use Rattle.txn_program_report.specs.Report.{reply_frames, reply_text}
use Rattle.txn_audit_report.specs.OutLines.{is_out_line}
use Rattle.txn_audit_report.proofs.Other.{reply-no_out, reply-no_stop, stop-is_stop, stop-no_out}
use Rattle.txn_audit_fits.specs.Fits.{OutsFit, gives_back, out_text}
use Rattle.txn_audit_fits.specs.Explaining.{EndsHere}
use Rattle.txn_audit_fits.specs.declared.judged_lines.Judged.{Judged}
use Rattle.txn_audit_fits.specs.declared.judged_lines.Judged.TheVariants as judged
use Rattle.txn_audit_fits.specs.declared.outs.Outs.{Outs}
use Rattle.txn_audit_fits.specs.declared.outs.Outs.TheVariants as outs
use Rattle.txn_audit_fits.specs.Judging.{Accepts, Judges, OutsAre, Tells, entry_of}
use Rattle.txn_audit_fits.specs.Passing.{Lacks, Passes, StandsAfter, shows_first}
use Rattle.txn_audit_fits.specs.Walking.{After, JudgesStep, MayStandFor, StandsWith, goes_on, ids_after}
use Rattle.txn_audit_fits.proofs.Departing.{departs-here}
use Rattle.txn_audit_fits.proofs.Lines.{first-one}
use Rattle.txn_audit_fits.proofs.Walking.{ends_after}

-- ---- the lines after that of a reply

fit_of : (o : Outs) (step : Step) (reply : Reply) (passed others : List (List ℕ)) → OutsAre o step reply → StandsAfter o passed others → OutsFit (gives_back step reply) (reply_frames reply) passed
fit_of outs.Any step reply passed others a x = let P : Bool → Type 0 = λ b. OutsFit b (reply_frames reply) passed in subst P (sym a) x.0
fit_of outs.Nothing step reply passed others a x = let P : Bool → Type 0 = λ b. OutsFit b (reply_frames reply) passed in subst P (sym a.0) (x ∙ sym (ap (map out_text) a.1))
fit_of (outs.One frame) step reply passed others a x = let P : Bool → Type 0 = λ b. OutsFit b (reply_frames reply) passed in subst P (sym a.0) (x ∙ sym (ap (map out_text) a.1))

after_of : (o : Outs) (step : Step) (reply : Reply) (passed others : List (List ℕ)) → OutsAre o step reply → OutsFit (gives_back step reply) (reply_frames reply) passed → shows_first others ≡ false → StandsAfter o passed others
after_of outs.Any step reply passed others a f n = let P : Bool → Type 0 = λ b. OutsFit b (reply_frames reply) passed in (subst P a f, n)
after_of outs.Nothing step reply passed others a f n = let P : Bool → Type 0 = λ b. OutsFit b (reply_frames reply) passed in subst P a.0 f ∙ ap (map out_text) a.1
after_of (outs.One frame) step reply passed others a f n = let P : Bool → Type 0 = λ b. OutsFit b (reply_frames reply) passed in subst P a.0 f ∙ ap (map out_text) a.1

any_one : (p q r s : List (List ℕ)) → list_all is_out_line p ≡ true → list_all is_out_line q ≡ true → shows_first r ≡ false → shows_first s ≡ false → p ++ r ≡ q ++ s → r ≡ s
any_one [] [] r s a b m n e = e
any_one [] (y ∷ q) r s a b m n e = let t = (and_parts (is_out_line y) (list_all is_out_line q) b).0 in let z = ap shows_first e in absurd (cc (t, z, m))
any_one (x ∷ p) [] r s a b m n e = let t = (and_parts (is_out_line x) (list_all is_out_line p) a).0 in let z = ap shows_first e in absurd (cc (t, z, n))
any_one (x ∷ p) (y ∷ q) r s a b m n e = let f : p ++ r ≡ q ++ s = cc e in any_one p q r s (and_parts (is_out_line x) (list_all is_out_line p) a).1 (and_parts (is_out_line y) (list_all is_out_line q) b).1 m n f

same_front : (a b c d : List (List ℕ)) (x : List ℕ) → a ≡ x ∷ [] → b ≡ x ∷ [] → a ++ c ≡ b ++ d → c ≡ d
same_front a b c d x e f g = let h : x ∷ c ≡ x ∷ d = sym (ap (λ t. t ++ c) e) ∙ g ∙ ap (λ t. t ++ d) f in cc h

no_front : (a b c d : List (List ℕ)) → a ≡ [] → b ≡ [] → a ++ c ≡ b ++ d → c ≡ d
no_front a b c d e f g = sym (ap (λ t. t ++ c) e) ∙ g ∙ ap (λ t. t ++ d) f

one_rest : (o : Outs) (p q r s : List (List ℕ)) → StandsAfter o p r → StandsAfter o q s → p ++ r ≡ q ++ s → r ≡ s
one_rest outs.Any p q r s a b e = any_one p q r s a.0 b.0 a.1 b.1 e
one_rest outs.Nothing p q r s a b e = no_front p q r s a b e
one_rest (outs.One frame) p q r s a b e = same_front p q r s (out_text frame) a b e

-- ---- the lines that follow

ends-no_out : (all : Bool) (before : List Entry) (left : List Step) (lines : List (List ℕ)) → EndsHere all before left lines → shows_first lines ≡ false
ends-no_out true before left lines x = ap shows_first x.lines ∙ stop-no_out x.code
ends-no_out false before left lines (inl x) = ap shows_first x
ends-no_out false before left lines (inr x) = ap shows_first x.lines ∙ stop-no_out x.code

after-no_out : (all : Bool) (before : List Entry) (left : List Step) (next : ℕ → TransactionId) (lines : List (List ℕ)) → After all before left next lines → shows_first lines ≡ false
after-no_out all before [] next lines x = ends-no_out all before [] lines x
after-no_out all before (step ∷ left) next lines (inl x) = ends-no_out all before (step ∷ left) lines x
after-no_out all before (step ∷ left) next lines (inr x) = ap shows_first x.6 ∙ reply-no_out x.1

-- a report that ends here, or so far, has a stop as its next line or none
pub ends-stop : (all : Bool) (before : List Entry) (left : List Step) (lines : List (List ℕ)) → EndsHere all before left lines → goes_on lines ≡ false
ends-stop true before left lines x = ap goes_on x.lines ∙ ap not (stop-is_stop x.code)
ends-stop false before left lines (inl x) = ap goes_on x
ends-stop false before left lines (inr x) = ap goes_on x.lines ∙ ap not (stop-is_stop x.code)

-- one that goes on has another
pub goes-reply : (lines others : List (List ℕ)) (reply : Reply) → lines ≡ reply_text reply ∷ others → goes_on lines ≡ true
goes-reply lines others reply e = ap goes_on e ∙ ap not (reply-no_stop reply)

-- ---- a step

module _ (old new : Held) (was now : List Frame) (next later : ℕ → TransactionId) (step : Step) (lines after : List (List ℕ)) (line : List ℕ) (first : lines ≡ line ∷ after) (on : goes_on lines ≡ true) where
  later_ids : (ids : List TransactionId) → Drew next later ids → later ≡ ids_after next ids
  later_ids ids d = λ i. λ n. d.rest n i

  -- lines with the first of these go on
  goes : (others : List (List ℕ)) → goes_on (line ∷ others) ≡ true
  goes others = sym (ap goes_on first) ∙ on

  -- what explains lines with this first one does so with a reply of this line
  line_of : (all : Bool) (before : List Entry) (left : List Step) (others : List (List ℕ)) → After all before (step ∷ left) next (line ∷ others) → (drawn : DrawnIds) × (reply : Reply) × (outs : List (List ℕ)) × (ends : List (List ℕ)) × Tells before step next line drawn reply × (others ≡ outs ++ ends) × OutsFit (gives_back step reply) (reply_frames reply) outs × After all (before ++ entry_of step drawn reply ∷ []) left (ids_after next drawn.ids) ends
  line_of all before left others (inl x) = let z = ends-stop all before (step ∷ left) (line ∷ others) x in absurd (cc (z, goes others))
  line_of all before left others (inr x) =
      let e : reply_text x.1 ∷ (x.2 ++ x.3) ≡ line ∷ others = sym x.6 in
      (x.0, x.1, x.2, x.3, record { answer = x.4; next = x.5; line = cc e }, (let t : others ≡ x.2 ++ x.3 = cc e in t), x.7, x.8)

  -- a line of no reply
  pub step-none : (rest : Bor (List ℕ)) → lines ≡ lines_of rest.now → Judges old new was now next later step line None → JudgesStep old new was now next later step lines (judged.Departs rest)
  step-none rest e j before s left =
      departs-here (λ all said. After all before (step ∷ left) next said) lines (lines_of rest.now) [] e
      (inl (inl refl))
      (λ x others more f a. none false more (subst (λ (l : List ℕ). After false before (step ∷ left) next (l ∷ more)) (same x others f) a))
      (λ a. none true after (subst (λ (ls : List (List ℕ)). After true before (step ∷ left) next ls) first a))
    where
      none : (all : Bool) (more : List (List ℕ)) → After all before (step ∷ left) next (line ∷ more) → ⊥
      none all more a = let x = line_of all before left more a in j before s.0 x.0 x.1 x.4

      same : (x : List ℕ) (others : List (List ℕ)) → lines_of rest.now ≡ x ∷ others → x ≡ line
      same x others f = let g : x ∷ others ≡ line ∷ after = sym f ∙ sym e ∙ first in cc g

  -- the line of a reply, and not that of its frame
  pub step-lacks : (o : Outs) (rest : Bor (List ℕ)) → Judges old new was now next later step line (Some o) → after ≡ lines_of rest.now → Lacks o after → JudgesStep old new was now next later step lines (judged.Departs rest)
  step-lacks outs.Any rest j e x before s left = absurd x
  step-lacks outs.Nothing rest j e x before s left = absurd x
  step-lacks (outs.One frame) rest j e x before s left = record {
    passed = line ∷ [];
    parts = first ∙ ap (λ ls. line ∷ ls) e;
    begins = (
      out_text frame ∷ [],
      inr (
        y.drawn,
        y.reply,
        out_text frame ∷ [],
        [],
        y.tells.answer,
        y.tells.next,
        ap (λ l. l ∷ out_text frame ∷ []) (sym y.tells.line),
        fit_of (outs.One frame) step y.reply (out_text frame ∷ []) [] (y.each y.drawn y.reply y.tells).outs refl,
        ends_after false (before ++ entry_of step y.drawn y.reply ∷ []) left (ids_after next y.drawn.ids) [] (inl refl),
      ),
    );
    first = λ l others more f a. x others (e ∙ f ∙ ap (λ (t : List ℕ). t ∷ others) (wants false (l ∷ more) a l more refl));
    none = λ a. missing (subst (λ (ls : List (List ℕ)). After true before (step ∷ left) next ls) first a);
  }
    where
      y : Accepts before new was now next later step line (outs.One frame)
      y = j before s.0

      -- the next line is that of the frame
      wants : (all : Bool) (ls : List (List ℕ)) → After all before (step ∷ left) next (line ∷ ls) → (l : List ℕ) (more : List (List ℕ)) → ls ≡ l ∷ more → l ≡ out_text frame
      wants all ls a l more f =
          let v = line_of all before left ls a in
          let o = after_of (outs.One frame) step v.1 v.2 v.3 (y.each v.0 v.1 v.4).outs v.6 (after-no_out all _ left _ v.3 v.7) in
          first-one l (out_text frame) ls more v.2 v.3 f v.5 o

      missing : After true before (step ∷ left) next (line ∷ after) → ⊥
      missing a =
          let v = line_of true before left after a in
          let o = after_of (outs.One frame) step v.1 v.2 v.3 (y.each v.0 v.1 v.4).outs v.6 (after-no_out true _ left _ v.3 v.7) in
          x v.3 (v.5 ∙ ap (λ ls. ls ++ v.3) o)

  -- the line of a reply, and those that may stand after it
  pub step-some : (o : Outs) (rest : Bor (List ℕ)) → Judges old new was now next later step line (Some o) → Passes o after (judged.Explained rest) → JudgesStep old new was now next later step lines (judged.Explained rest)
  step-some o rest j p = record {
    line = line;
    outs = p.0;
    parts = first ∙ ap (λ ls. line ∷ ls) p.1;
    explains = λ before s. record { some = some before s; each = each before s };
  }
    where
      others_fit : (o : Outs) (q r s : List (List ℕ)) → StandsAfter o q r → MayStandFor r s → StandsAfter o q s
      others_fit outs.Any q r s a m = (a.0, m a.1)
      others_fit outs.Nothing q r s a m = a
      others_fit (outs.One frame) q r s a m = a

      some : (before : List Entry) → StandsWith old was before → (entry : Entry) × StandsWith new now (before ++ entry ∷ []) × ((all : Bool) (left : List Step) (others : List (List ℕ)) → After all (before ++ entry ∷ []) left later others → After all before (step ∷ left) next ((line ∷ p.0) ++ others))
      some before s =
          let x = j before s.0 in
          let f = x.each x.drawn x.reply x.tells in (
            entry_of step x.drawn x.reply,
            (f.stands, f.work ∙ ap (λ fs. fs ++ handed_by before step x.reply) s.1 ∙ sym (work-snoc before (entry_of step x.drawn x.reply))),
            λ all left others a.
                let P : (ℕ → TransactionId) → Type 0 = λ ids. After all (before ++ entry_of step x.drawn x.reply ∷ []) left ids others in
                inr (
                  x.drawn,
                  x.reply,
                  p.0,
                  others,
                  x.tells.answer,
                  x.tells.next,
                  ap (λ l. l ∷ (p.0 ++ others)) (sym x.tells.line),
                  fit_of o step x.reply p.0 (lines_of rest.now) f.outs p.2,
                  subst P (later_ids x.drawn.ids f.drew) a,
                ),
          )

      each : (before : List Entry) → StandsWith old was before → (all : Bool) (left : List Step) (others : List (List ℕ)) → MayStandFor (lines_of rest.now) others → After all before (step ∷ left) next ((line ∷ p.0) ++ others) → (entry : Entry) × StandsWith new now (before ++ entry ∷ []) × After all (before ++ entry ∷ []) left later others
      each before s all left others m a =
          let v = line_of all before left (p.0 ++ others) a in
          let f = (j before s.0).each v.0 v.1 v.4 in
          let r : v.3 ≡ others = one_rest o v.2 p.0 v.3 others (after_of o step v.1 v.2 v.3 f.outs v.6 (after-no_out all _ left _ v.3 v.7)) (others_fit o p.0 (lines_of rest.now) others p.2 m) (sym v.5) in
          let P : (ℕ → TransactionId) → Type 0 = λ ids. After all (before ++ entry_of step v.0 v.1 ∷ []) left ids v.3 in
          let Q : List (List ℕ) → Type 0 = λ ls. After all (before ++ entry_of step v.0 v.1 ∷ []) left later ls in (
            entry_of step v.0 v.1,
            (f.stands, f.work ∙ ap (λ fs. fs ++ handed_by before step v.1) s.1 ∙ sym (work-snoc before (entry_of step v.0 v.1))),
            subst Q r (subst P (sym (later_ids v.0.ids f.drew)) v.7),
          )

  pub step-judged : (out : Outs) → Judges old new was now next later step line (Some out) → (o : Judged) → Passes out after o → JudgesStep old new was now next later step lines o
  step-judged out j (judged.Explained rest) p = step-some out rest j p
  step-judged out j (judged.Departs rest) p = step-lacks out rest j p.0 p.1
