-- Lines of replies to a declare: which ids it drew is told by the stream and by what is live.
use Rattle.std.proofs.Common.{◌≡◌, ℕ, ◌+◌, ◌≤◌, Bool, true, false, cond, Option, Some, None, List, [], ◌∷◌, ◌++◌, length, refl, sym, ◌∙◌, ap, subst, arith}
use Rattle.std.specs.Prelude.{codes, is_some}
use Rattle.std.specs.Str.{bytes_eq}
use Rattle.std.specs.List.{list_all}
use Rattle.std.proofs.lemmas.Bool.{and_parts}
use Rattle.hex.specs.Hex.{encode_lower}
use Rattle.amqp_txn_types.specs.declared.id.TransactionId.{TransactionId}
use Rattle.amqp_txn_types.specs.declared.performatives.Frame.{Frame}
use Rattle.amqp_txn_types.specs.declared.small.TransactionError.TheVariants as transaction_errors
use Rattle.amqp_txn_types.specs.Ids.{same_id}
use Rattle.amqp_txn_codec.specs.declared.message.ControlMessageBody.{ControlMessageBody}
use Rattle.amqp_txn_codec.specs.declared.message.ControlMessageBody.TheVariants as messages
use Rattle.amqp_txn_codec.specs.Reading.{message_of}
use Rattle.amqp_below_ids.specs.Drawn.{DrawnIds}
use Rattle.amqp_below_ids.specs.Ids.{AreNext, Drew}
use Rattle.amqp_resource_record.specs.declared.step.Step.TheVariants as steps
use Rattle.amqp_resource_record.specs.declared.reply.Reply.{Reply}
use Rattle.amqp_resource_record.specs.declared.reply.Reply.TheVariants as replies
use Rattle.amqp_resource_record.specs.declared.reply.RejectText.TheVariants as texts
use Rattle.amqp_resource_record.specs.declared.entry.Entry.{Entry}
use Rattle.amqp_resource_record.specs.Answers.{AnswerControl, Draws}
use Rattle.amqp_resource_record.specs.Live.{is_live}
use Rattle.amqp_resource_record.proofs.Whole.{IsLegal-snoc, commits-at}
use Rattle.amqp_resource_log.specs.Live.{kept, Kept}
use Rattle.amqp_resource_held.specs.declared.held.Held.{Held}
use Rattle.amqp_resource_held.specs.Draws.{DrewLive, DrewUnused, all_live}
use Rattle.amqp_resource_held.specs.Held.{Stands, Tied, is_in, kept_by}
use Rattle.amqp_resource_held.specs.Views.{view_of_held}
use Rattle.amqp_resource_held.proofs.Standing.{view-declared}
use Rattle.amqp_resource_held.proofs.Views.{all-record, live-record, stands-view}
use Rattle.txn_program_report.specs.Report.{reply_text}
use Rattle.txn_audit_fits.specs.declared.outs.Outs.TheVariants as outs
use Rattle.txn_audit_fits.specs.Judging.{Accepts, Follows, Judges, Tells, entry_of, nothing_after}
use Rattle.txn_audit_fits.proofs.Judged.{control_from, control_to, none_handed, open_by, other_text, same_text, stays, text_declared, text_repeat, uncommitted}

-- ---- draws

-- one stream, in front of which one id isn't live after some that are: it is the same id each time
same_draws : (live : TransactionId → Bool) (f : ℕ → TransactionId) (n : ℕ) (before others : List TransactionId) (id other : TransactionId) → AreNext f n (before ++ id ∷ []) → AreNext f n (others ++ other ∷ []) → list_all live before ≡ true → list_all live others ≡ true → live id ≡ false → live other ≡ false → before ++ id ∷ [] ≡ others ++ other ∷ []
same_draws live f n [] [] id other a b l m u v = ap (λ t. t ∷ []) (a.0 ∙ sym b.0)
same_draws live f n [] (x ∷ others) id other a b l m u v = let y = (and_parts (live x) (list_all live others) m).0 in let e : id ≡ x = a.0 ∙ sym b.0 in let z = ap live e in absurd (cc (y, z, u))
same_draws live f n (x ∷ before) [] id other a b l m u v = let y = (and_parts (live x) (list_all live before) l).0 in let e : other ≡ x = b.0 ∙ sym a.0 in let z = ap live e in absurd (cc (y, z, v))
same_draws live f n (x ∷ before) (y ∷ others) id other a b l m u v =
    let rest = same_draws live f (n + 1) before others id other a.1 b.1 (and_parts (live x) (list_all live before) l).1 (and_parts (live y) (list_all live others) m).1 u v in
    let e : x ≡ y = a.0 ∙ sym b.0 in
    ap (λ t. t ∷ (before ++ id ∷ [])) e ∙ ap (λ ts. y ∷ ts) rest

-- the last of a list
pub last_one : (before others : List TransactionId) (id other : TransactionId) → before ++ id ∷ [] ≡ others ++ other ∷ [] → id ≡ other
last_one [] [] id other e = cc e
last_one [] (x ∷ []) id other e = cc e
last_one [] (x ∷ y ∷ others) id other e = cc e
last_one (x ∷ []) [] id other e = cc e
last_one (x ∷ y ∷ before) [] id other e = cc e
last_one (x ∷ before) (y ∷ others) id other e = let f : before ++ id ∷ [] ≡ others ++ other ∷ [] = cc e in last_one before others id other f

-- so many ids in front that are all live, and one that isn't after fewer
no_unused : (live : TransactionId → Bool) (f : ℕ → TransactionId) (n : ℕ) (all before : List TransactionId) (id : TransactionId) → AreNext f n all → AreNext f n (before ++ id ∷ []) → list_all live all ≡ true → live id ≡ false → length (before ++ id ∷ []) ≤ length all → ⊥
no_unused live f n [] [] id a b l u m = absurd (omega arith)
no_unused live f n [] (x ∷ before) id a b l u m = absurd (omega arith)
no_unused live f n (y ∷ all) [] id a b l u m = let z = (and_parts (live y) (list_all live all) l).0 in let e : id ≡ y = b.0 ∙ sym a.0 in let w = ap live e in cc (z, w, u)
no_unused live f n (y ∷ all) (x ∷ before) id a b l u m = no_unused live f (n + 1) all before id a.1 b.1 (and_parts (live y) (list_all live all) l).1 u (omega arith)

-- all of as many ids
same_all : (f : ℕ → TransactionId) (n : ℕ) (xs ys : List TransactionId) → AreNext f n xs → AreNext f n ys → length xs ≡ length ys → xs ≡ ys
same_all f n [] [] a b e = refl
same_all f n [] (y ∷ ys) a b e = absurd (omega arith)
same_all f n (x ∷ xs) [] a b e = absurd (omega arith)
same_all f n (x ∷ xs) (y ∷ ys) a b e =
    let one : x ≡ y = a.0 ∙ sym b.0 in
    let rest = same_all f (n + 1) xs ys a.1 b.1 (omega arith) in
    ap (λ t. t ∷ xs) one ∙ ap (λ ts. y ∷ ts) rest

-- ---- by the record

abbrev pub declare : Option ControlMessageBody
declare = Some (messages.Declare (record { global_id = None }))

-- what was drawn for a declare that gives this id
pub kept_back : (h : Held) (before : List Entry) → Stands h before → kept_by before ≡ kept h.work
kept_back h before s = λ i. λ t. sym (s.live t) i

pub unused_by : (h : Held) (before : List Entry) (ids : List TransactionId) (id : TransactionId) → Stands h before → DrewUnused (kept h.work) ids id → Draws before ids id
unused_by h before ids id s u = (
  u.parts.0,
  u.parts.1,
  u.count,
  sym (all-record before u.parts.0) ∙ ap (λ (live : TransactionId → Option Kept). all_live live u.parts.0) (kept_back h before s) ∙ u.parts.2,
  sym (live-record before id) ∙ ap is_some (sym (s.live id)) ∙ ap is_some u.unused,
)

pub live_by : (h : Held) (before : List Entry) (ids : List TransactionId) → Stands h before → DrewLive (kept h.work) ids → list_all (is_live before) ids ≡ true
live_by h before ids s u = sym (all-record before ids) ∙ ap (λ (live : TransactionId → Option Kept). all_live live ids) (kept_back h before s) ∙ u.all

-- the id was declared on the link
pub record DeclaredOn (h g : Held) (link : ℕ) (id : TransactionId) : Type 0 where
  pub live : (t : TransactionId) → kept g.work t ≡ cond (same_id t id) (Some (Some link, [])) (kept h.work t)
  pub links : (k : ℕ) → is_in g.links.entries k ≡ is_in h.links.entries k
  pub tied : Tied h → Tied g
  pub opened : g.opened ≡ h.opened

declares : (h g : Held) (link : ℕ) (id : TransactionId) (payload : List ℕ) (before : List Entry) (d : DrawnIds) → Stands h before → is_in h.links.entries link ≡ true → message_of payload ≡ declare → DrewUnused (kept h.work) d.ids id → DeclaredOn h g link id → Stands g (before ++ entry_of (steps.Control link payload) d (replies.Declared id) ∷ [])
declares h g link id payload before d s i m u x =
    let o = open_by h before link true s i in
    let e = entry_of (steps.Control link payload) d (replies.Declared id) in
    let P : (TransactionId → Option Kept) → Type 0 = λ live. DrewUnused live d.ids id in
    stands-view g (before ++ e ∷ []) (IsLegal-snoc before e s.legal (control_from before link payload d.ids (replies.Declared id) true declare o m (unused_by h before d.ids id s u))) (x.tied s.tied)
    (view-declared before e (view_of_held g) link id (record { attaches = λ k. refl; closes = λ k. refl; attached = refl }) refl o (λ t. refl) (λ t. refl) (λ t. refl)
    (record {
      unused = subst P (sym (kept_back h before s)) u;
      live = λ t. x.live t ∙ ap (λ v. cond (same_id t id) (Some (Some link, [])) v) (s.live t);
      links = record { links = λ j. x.links j ∙ s.links j; opened = x.opened ∙ s.opened };
    }))

-- a draw that gave an id
module _ (h g : Held) (link : ℕ) (payload : List ℕ) (next later : ℕ → TransactionId) (ids : List TransactionId) (id : TransactionId) (i : is_in h.links.entries link ≡ true) (m : message_of payload ≡ declare) (u : DrewUnused (kept h.work) ids id) (w : Drew next later ids) (x : DeclaredOn h g link id) (line : List ℕ) (before : List Entry) (s : Stands h before) where
  -- any draw of a declare after the record is this one
  same : (others : List TransactionId) (other : TransactionId) → AreNext next 0 others → Draws before others other → (others ≡ ids) × (id ≡ other)
  same others other n a =
      let own = unused_by h before ids id s u in
      let P : List TransactionId → Type 0 = λ ts. AreNext next 0 ts in
      let e = same_draws (is_live before) next 0 own.0 a.0 id other (subst P own.1 w.these) (subst P a.1 n) own.3 a.3 own.4 a.4 in
      (a.1 ∙ sym e ∙ sym own.1, last_one own.0 a.0 id other e)

  follows : (work : List Frame) (d : DrawnIds) (reply : Reply) → AreNext next 0 d.ids → AnswerControl before link true declare d.ids reply → Follows before g work work next later (steps.Control link payload) outs.Nothing d reply
  follows work d (replies.Declared other) n a =
      let e = same d.ids other n a in
      let o = open_by h before link true s i in
      let R : TransactionId → Type 0 = λ t. Follows before g work work next later (steps.Control link payload) outs.Nothing d (replies.Declared t) in
      let P : List TransactionId → Type 0 = λ ts. DrewUnused (kept h.work) ts id in
      let D : List TransactionId → Type 0 = λ ts. Drew next later ts in
      subst R e.1
      (record {
        stands = declares h g link id payload before d s i m (subst P (sym e.0) u) x;
        drew = subst D (sym e.0) w;
        outs = (refl, refl);
        work = none_handed work _ (uncommitted before link payload (replies.Declared id) (commits-at before link payload true declare o m));
      })
  follows work d (replies.Rejected transaction_errors.UnknownId texts.IdsRepeat) n a =
      let own = unused_by h before ids id s u in
      let P : List TransactionId → Type 0 = λ ts. AreNext next 0 ts in
      let l : length (own.0 ++ id ∷ []) ≤ length d.ids = omega (arith, ap length own.1, own.2, a.0) in
      absurd (no_unused (is_live before) next 0 d.ids own.0 id n (subst P own.1 w.these) a.1 own.4 l)
  follows work d _ n a = absurd a

  pub declared-yes : (work : List Frame) → line ≡ codes "declared " ++ encode_lower id → Accepts before g work work next later (steps.Control link payload) line outs.Nothing
  declared-yes work e =
      let o = open_by h before link true s i in
      record {
        drawn = record { ids = ids; spare = 0 };
        reply = replies.Declared id;
        tells = record { answer = control_from before link payload ids (replies.Declared id) true declare o m (unused_by h before ids id s u); next = w.these; line = text_declared id ∙ sym e };
        each = λ d reply t. follows work d reply t.next (control_to before link payload d.ids reply true declare o m t.answer);
      }

  text_of_any : (d : DrawnIds) (reply : Reply) → AreNext next 0 d.ids → AnswerControl before link true declare d.ids reply → reply_text reply ≡ codes "declared " ++ encode_lower id
  text_of_any d (replies.Declared other) n a = text_declared other ∙ ap (λ t. codes "declared " ++ encode_lower t) (sym (same d.ids other n a).1)
  text_of_any d (replies.Rejected transaction_errors.UnknownId texts.IdsRepeat) n a =
      let own = unused_by h before ids id s u in
      let P : List TransactionId → Type 0 = λ ts. AreNext next 0 ts in
      let l : length (own.0 ++ id ∷ []) ≤ length d.ids = omega (arith, ap length own.1, own.2, a.0) in
      absurd (no_unused (is_live before) next 0 d.ids own.0 id n (subst P own.1 w.these) a.1 own.4 l)
  text_of_any d _ n a = absurd a

  pub declared-no : (d : DrawnIds) (reply : Reply) → (line ≡ codes "declared " ++ encode_lower id → ⊥) → Tells before (steps.Control link payload) next line d reply → ⊥
  declared-no d reply other t =
      let o = open_by h before link true s i in
      other (sym t.line ∙ text_of_any d reply t.next (control_to before link payload d.ids reply true declare o m t.answer))

-- a draw of 16 live ids
module _ (h : Held) (link : ℕ) (payload : List ℕ) (next later : ℕ → TransactionId) (ids : List TransactionId) (i : is_in h.links.entries link ≡ true) (m : message_of payload ≡ declare) (u : DrewLive (kept h.work) ids) (w : Drew next later ids) (before : List Entry) (s : Stands h before) where
  repeat_only : (d : DrawnIds) (reply : Reply) → AreNext next 0 d.ids → AnswerControl before link true declare d.ids reply → (reply ≡ replies.Rejected transaction_errors.UnknownId texts.IdsRepeat) × (d.ids ≡ ids)
  repeat_only d (replies.Declared other) n a =
      let P : List TransactionId → Type 0 = λ ts. AreNext next 0 ts in
      let l : length (a.0 ++ other ∷ []) ≤ length ids = omega (arith, ap length a.1, a.2, u.count) in
      absurd (no_unused (is_live before) next 0 ids a.0 other w.these (subst P a.1 n) (live_by h before ids s u) a.4 l)
  repeat_only d (replies.Rejected transaction_errors.UnknownId texts.IdsRepeat) n a = (refl, same_all next 0 d.ids ids n w.these (a.0 ∙ sym u.count))
  repeat_only d _ n a = absurd a

  pub repeat-yes : (line : List ℕ) (work : List Frame) → line ≡ codes "rejected unknown-id ids-repeat" → Accepts before h work work next later (steps.Control link payload) line outs.Nothing
  repeat-yes line work e =
      let o = open_by h before link true s i in
      let told = replies.Rejected transaction_errors.UnknownId texts.IdsRepeat in
      record {
        drawn = record { ids = ids; spare = 0 };
        reply = told;
        tells = record { answer = control_from before link payload ids told true declare o m (u.count, live_by h before ids s u); next = w.these; line = text_repeat ∙ sym e };
        each = λ d reply t.
            let f = repeat_only d reply t.next (control_to before link payload d.ids reply true declare o m t.answer) in
            let D : List TransactionId → Type 0 = λ ts. Drew next later ts in
            let R : Reply → Type 0 = λ r. Follows before h work work next later (steps.Control link payload) outs.Nothing d r in
            let A : List TransactionId → Type 0 = λ ts. (length ts ≡ 16) × (list_all (is_live before) ts ≡ true) in
            subst R (sym f.0)
            (record {
              stands = stays h before (steps.Control link payload) d told s (control_from before link payload d.ids told true declare o m (subst A (sym f.1) (u.count, live_by h before ids s u))) (record { attaches = λ k. refl; closes = λ k. refl; attached = refl }) (λ t. refl) (λ t. refl) (λ t. refl);
              drew = subst D (sym f.1) w;
              outs = (refl, refl);
              work = none_handed work [] refl;
            });
      }

  pub repeat-no : (line : List ℕ) (d : DrawnIds) (reply : Reply) → (line ≡ codes "rejected unknown-id ids-repeat" → ⊥) → Tells before (steps.Control link payload) next line d reply → ⊥
  repeat-no line d reply other t =
      let o = open_by h before link true s i in
      let f = repeat_only d reply t.next (control_to before link payload d.ids reply true declare o m t.answer) in
      other (sym t.line ∙ ap reply_text f.0 ∙ text_repeat)

pub repeat-judged : (h : Held) (link : ℕ) (payload line : List ℕ) (next later : ℕ → TransactionId) (ids : List TransactionId) → is_in h.links.entries link ≡ true → message_of payload ≡ declare → DrewLive (kept h.work) ids → Drew next later ids → (work : List Frame) → Judges h h work work next later (steps.Control link payload) line (nothing_after line (codes "rejected unknown-id ids-repeat"))
repeat-judged h link payload line next later ids i m u w work = by_case (bytes_eq line (codes "rejected unknown-id ids-repeat")) refl
  where
    by_case : (b : Bool) → bytes_eq line (codes "rejected unknown-id ids-repeat") ≡ b → Judges h h work work next later (steps.Control link payload) line (cond b (Some outs.Nothing) None)
    by_case true e = λ before s. repeat-yes h link payload next later ids i m u w before s line work (same_text line (codes "rejected unknown-id ids-repeat") e)
    by_case false e = λ before s d reply t. repeat-no h link payload next later ids i m u w before s line d reply (other_text line (codes "rejected unknown-id ids-repeat") e) t
