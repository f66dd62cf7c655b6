-- Lines of replies to a commit, and moves of what is kept.
use Rattle.std.proofs.Common.{◌≡◌, ℕ, ◌≤◌, Bool, true, false, cond, Option, Some, None, Result, Ok, Err, IfOk, OnOk, List, [], ◌∷◌, ◌++◌, length, map, refl, sym, ◌∙◌, ap, subst, arith}
use Rattle.std.specs.Prelude.{◌==◌, codes}
use Rattle.std.specs.Str.{bytes_eq}
use Rattle.std.specs.Option.{option_map}
use Rattle.amqp_txn_types.specs.declared.items.NoMemory.{NoMemory}
use Rattle.std.proofs.lemmas.Bool.{and_parts, eqb-true, ne_eqb}
use Rattle.amqp_txn_types.specs.declared.id.TransactionId.{TransactionId}
use Rattle.amqp_txn_types.specs.declared.performatives.Frame.{Frame}
use Rattle.amqp_txn_types.specs.Frames.{stripped}
use Rattle.amqp_txn_types.specs.declared.small.TransactionError.TheVariants as transaction_errors
use Rattle.amqp_txn_codec.specs.declared.message.ControlMessageBody.TheVariants as messages
use Rattle.amqp_txn_codec.specs.declared.message.Discharge.{Discharge}
use Rattle.amqp_txn_codec.specs.Discharges.{is_rollback}
use Rattle.amqp_txn_codec.specs.Reading.{message_of}
use Rattle.amqp_below_layer.specs.declared.answers.Answers.{Answers}
use Rattle.amqp_below_layer.specs.Windows.{AllWindowsFit}
use Rattle.amqp_below_ids.specs.Drawn.{DrawnIds}
use Rattle.amqp_resource_record.specs.declared.step.Step.{Step}
use Rattle.amqp_resource_record.specs.declared.step.Step.TheVariants as steps
use Rattle.amqp_resource_record.specs.declared.reply.Reply.{Reply}
use Rattle.amqp_resource_record.specs.declared.reply.Reply.TheVariants as replies
use Rattle.amqp_resource_record.specs.declared.reply.RejectText.TheVariants as texts
use Rattle.amqp_resource_record.specs.declared.entry.Entry.{Entry}
use Rattle.amqp_resource_record.specs.Answers.{Answer, AnswerDischarge, Echoed}
use Rattle.amqp_resource_record.specs.Entries.{message_discharges}
use Rattle.amqp_resource_record.specs.Hands.{frames_of}
use Rattle.amqp_resource_record.specs.Live.{home, is_link, is_live}
use Rattle.amqp_resource_record.proofs.Whole.{commits-discharge, hands-commit}
use Rattle.amqp_resource_log.specs.Live.{frames_kept, home_of, kept, Kept}
use Rattle.amqp_resource_held.specs.declared.held.Held.{Held}
use Rattle.amqp_resource_held.specs.Changes.{Ended}
use Rattle.amqp_resource_held.specs.Held.{SameHeld, Stands, is_in, is_kept_on}
use Rattle.amqp_resource_held.proofs.Standing.{stands-moved}
use Rattle.amqp_resource_held.proofs.Views.{frames-record}
use Rattle.txn_program_report.specs.Report.{reply_text}
use Rattle.txn_audit_fits.specs.declared.outs.Outs.{Outs}
use Rattle.txn_audit_fits.specs.declared.outs.Outs.TheVariants as outs
use Rattle.txn_audit_fits.specs.Judging.{Follows, Judges, JudgesWork, OutsAre, entry_of, nothing_after, outs_of_count}
use Rattle.txn_audit_fits.proofs.Judged.{control_from, control_to, ended, held_by, none_drew, none_handed, nothing_drawn, open_by, other_text, same_text, text_accepted, text_veto}

-- the frames that are kept for an id that a link holds are those of the record
pub frames_by : (h : Held) (before : List Entry) (link : ℕ) (id : TransactionId) → Stands h before → is_kept_on link (kept h.work id) ≡ true → frames_kept (kept h.work id) ≡ frames_of before id
frames_by h before link id s y =
    ap frames_kept (s.live id) ∙ frames-record before id (and_parts (is_live before id) (is_link link (home before id)) (held_by h before link id true s y)).0

-- the answers of a layer that gives nothing back
bare : List Frame → List Answers
bare [] = []
bare (frame ∷ frames) = record { given = []; window = None } ∷ bare frames

bare-fits : (frames : List Frame) → AllWindowsFit frames (bare frames)
unfolding bare
bare-fits [] = tt
bare-fits (frame ∷ frames) = ((λ _. refl), bare-fits frames)

-- the lines after an accepted commit, by its frames
outs_by : (payload : List ℕ) (link : ℕ) (frames : List Frame) (echoes : List Answers) (count : ℕ) → AllWindowsFit frames echoes → count ≡ length frames → OutsAre (outs_of_count count) (steps.Control link payload) (replies.Accepted echoes)
outs_by payload link [] [] count f e = let P : ℕ → Type 0 = λ n. OutsAre (outs_of_count n) (steps.Control link payload) (replies.Accepted []) in subst P (sym e) (refl, refl)
outs_by payload link [] (a ∷ echoes) count f e = absurd f
outs_by payload link (x ∷ frames) [] count f e = absurd f
outs_by payload link (x ∷ frames) (a ∷ echoes) count f e =
    let n : (count == 0) ≡ false = ne_eqb count 0 (λ z. omega (arith, e, z)) in
    let P : Bool → Type 0 = λ b. OutsAre (cond b outs.Nothing outs.Any) (steps.Control link payload) (replies.Accepted (a ∷ echoes)) in
    subst P (sym n) refl

module _ (h g : Held) (link : ℕ) (payload line : List ℕ) (discharge : Discharge) (i : is_in h.links.entries link ≡ true) (m : message_of payload ≡ Some (messages.Discharge discharge)) (y : is_kept_on link (kept h.work discharge.txn_id) ≡ true) (c : is_rollback discharge.fail ≡ false) where
  -- an answer to the commit
  commit_to : (before : List Entry) (ids : List TransactionId) (reply : Reply) → Stands h before → Answer before (steps.Control link payload) ids reply → AnswerDischarge before link discharge.txn_id discharge.fail ids reply
  commit_to before ids reply s a = control_to before link payload ids reply true (Some (messages.Discharge discharge)) (open_by h before link true s i) m a

  commit_from : (before : List Entry) (ids : List TransactionId) (reply : Reply) → Stands h before → AnswerDischarge before link discharge.txn_id discharge.fail ids reply → Answer before (steps.Control link payload) ids reply
  commit_from before ids reply s a = control_from before link payload ids reply true (Some (messages.Discharge discharge)) (open_by h before link true s i) m a

  echoed_to : (before : List Entry) (echoes : List Answers) → Echoed before discharge.txn_id (is_rollback discharge.fail) echoes → AllWindowsFit (frames_of before discharge.txn_id) echoes
  echoed_to before echoes x = let P : Bool → Type 0 = λ b. Echoed before discharge.txn_id b echoes in subst P c x

  pub commit-yes : (was now : List Frame) (count : ℕ) → Ended h g discharge.txn_id → now ≡ was ++ map stripped (frames_kept (kept h.work discharge.txn_id)) → count ≡ length (frames_kept (kept h.work discharge.txn_id)) → line ≡ codes "accepted" → JudgesWork h g was now (steps.Control link payload) line (Some (outs_of_count count))
  commit-yes was now count e grew counted same next before s =
      let id = discharge.txn_id in
      let held = held_by h before link id true s y in
      let echoes = bare (frames_of before id) in
      let P : Bool → Type 0 = λ b. Echoed before id b echoes in
      record {
        drawn = nothing_drawn;
        reply = replies.Accepted echoes;
        tells = record { answer = commit_from before [] (replies.Accepted echoes) s (held, refl, subst P (sym c) (bare-fits (frames_of before id))); next = tt; line = text_accepted echoes ∙ sym same };
        each = λ d reply t. follows d reply t.line t.answer (commit_to before d.ids reply s t.answer);
      }
    where
      follows : (d : DrawnIds) (reply : Reply) → reply_text reply ≡ line → Answer before (steps.Control link payload) d.ids reply → AnswerDischarge before link discharge.txn_id discharge.fail d.ids reply → Follows before g was now next next (steps.Control link payload) (outs_of_count count) d reply
      follows d (replies.Accepted echoes) l a f =
          let id = discharge.txn_id in
          let o = open_by h before link true s i in
          let held = held_by h before link id true s y in
          let frames = frames_by h before link id s y in
          record {
            stands = ended h g link id before (steps.Control link payload) d (replies.Accepted echoes) s e y a (record { attaches = λ k. refl; closes = λ k. refl; attached = refl }) (λ t. refl) (λ t. ap (message_discharges t) m) (λ t. refl);
            drew = none_drew next d.ids f.1;
            outs = outs_by payload link (frames_of before id) echoes count (echoed_to before echoes f.2) (counted ∙ ap length frames);
            work = grew ∙ ap (λ fs. was ++ map stripped fs) frames ∙ ap (λ fs. was ++ fs) (sym (hands-commit before link payload id (commits-discharge before link payload discharge o m c held)));
          }
      follows d (replies.Rejected transaction_errors.UnknownId texts.Absent) l a f = let n = f.0 in let held = held_by h before link discharge.txn_id true s y in absurd (cc (n, held))
      follows d (replies.Rejected transaction_errors.Rollback texts.Absent) l a f = absurd (other_text (codes "rejected rollback") (codes "accepted") refl (sym text_veto ∙ l ∙ same))
      follows d _ l a f = absurd f

  pub commit-veto : Ended h g discharge.txn_id → 1 ≤ length (frames_kept (kept h.work discharge.txn_id)) → line ≡ codes "rejected rollback" → (work : List Frame) → JudgesWork h g work work (steps.Control link payload) line (Some outs.Nothing)
  commit-veto e some same work next before s =
      let id = discharge.txn_id in
      let held = held_by h before link id true s y in
      let frames = frames_by h before link id s y in
      let told = replies.Rejected transaction_errors.Rollback texts.Absent in
      let P : List Frame → Type 0 = λ fs. 1 ≤ length fs in
      record {
        drawn = nothing_drawn;
        reply = told;
        tells = record { answer = commit_from before [] told s (held, refl, (c, subst P frames some)); next = tt; line = text_veto ∙ sym same };
        each = λ d reply t. follows d reply t.line t.answer (commit_to before d.ids reply s t.answer);
      }
    where
      follows : (d : DrawnIds) (reply : Reply) → reply_text reply ≡ line → Answer before (steps.Control link payload) d.ids reply → AnswerDischarge before link discharge.txn_id discharge.fail d.ids reply → Follows before g work work next next (steps.Control link payload) outs.Nothing d reply
      follows d (replies.Rejected transaction_errors.Rollback texts.Absent) l a f = record {
        stands = ended h g link discharge.txn_id before (steps.Control link payload) d (replies.Rejected transaction_errors.Rollback texts.Absent) s e y a (record { attaches = λ k. refl; closes = λ k. refl; attached = refl }) (λ t. refl) (λ t. ap (message_discharges t) m) (λ t. refl);
        drew = none_drew next d.ids f.1;
        outs = (refl, refl);
        work = none_handed work [] refl;
      }
      follows d (replies.Rejected transaction_errors.UnknownId texts.Absent) l a f = let n = f.0 in let held = held_by h before link discharge.txn_id true s y in absurd (cc (n, held))
      follows d (replies.Accepted echoes) l a f = absurd (other_text (codes "accepted") (codes "rejected rollback") refl (sym (text_accepted echoes) ∙ l ∙ same))
      follows d _ l a f = absurd f

  -- a line that is neither that of an accepted commit nor that of a veto, where there may be one
  pub commit-no : (was now : List Frame) → (line ≡ codes "accepted" → ⊥) → (1 ≤ length (frames_kept (kept h.work discharge.txn_id)) → line ≡ codes "rejected rollback" → ⊥) → JudgesWork h g was now (steps.Control link payload) line None
  commit-no was now other veto next before s d reply t = by_reply reply t.line (commit_to before d.ids reply s t.answer)
    where
      by_reply : (r : Reply) → reply_text r ≡ line → AnswerDischarge before link discharge.txn_id discharge.fail d.ids r → ⊥
      by_reply (replies.Accepted echoes) l f = other (sym l ∙ text_accepted echoes)
      by_reply (replies.Rejected transaction_errors.Rollback texts.Absent) l f =
          let P : List Frame → Type 0 = λ fs. 1 ≤ length fs in
          veto (subst P (sym (frames_by h before link discharge.txn_id s y)) f.2.1) (sym l ∙ text_veto)
      by_reply (replies.Rejected transaction_errors.UnknownId texts.Absent) l f = let n = f.0 in let held = held_by h before link discharge.txn_id true s y in cc (n, held)
      by_reply _ l f = absurd f

pub commit-vetoed : (h g : Held) (link : ℕ) (payload line : List ℕ) (discharge : Discharge) → is_in h.links.entries link ≡ true → message_of payload ≡ Some (messages.Discharge discharge) → is_kept_on link (kept h.work discharge.txn_id) ≡ true → is_rollback discharge.fail ≡ false → Ended h g discharge.txn_id → 1 ≤ length (frames_kept (kept h.work discharge.txn_id)) → (line ≡ codes "accepted" → ⊥) → (work : List Frame) → JudgesWork h g work work (steps.Control link payload) line (nothing_after line (codes "rejected rollback"))
commit-vetoed h g link payload line discharge i m y c e some other work = by_case (bytes_eq line (codes "rejected rollback")) refl
  where
    by_case : (b : Bool) → bytes_eq line (codes "rejected rollback") ≡ b → JudgesWork h g work work (steps.Control link payload) line (cond b (Some outs.Nothing) None)
    by_case true x = commit-veto h g link payload line discharge i m y c e some (same_text line (codes "rejected rollback") x) work
    by_case false x = commit-no h g link payload line discharge i m y c work work other (λ _. other_text line (codes "rejected rollback") x)

-- the home of an id that a link holds
pub held_home : (link : ℕ) (o : Option Kept) → is_kept_on link o ≡ true → option_map home_of o ≡ Some (Some link)
held_home link None e = absurd (cc e)
held_home link (Some one) e = by_home one.0 refl
  where
    by_home : (home : Option ℕ) → one.0 ≡ home → Some one.0 ≡ Some (Some link)
    by_home None h = absurd (cc (ap (is_link link) h, e))
    by_home (Some j) h = ap Some (h ∙ ap Some (eqb-true j link (sym (ap (is_link link) h) ∙ e)))

-- ---- results

pub ok_map : {A : Type 0} (P Q : A → Type 0) (r : Result A NoMemory) → ((a : A) → P a → Q a) → IfOk r P → IfOk r Q
ok_map P Q (Ok a) f p = f a p
ok_map P Q (Err e) f p = tt

pub on_ok : {A : Type 0} (P Q : Type 0) (r : Result A NoMemory) → (P → Q) → OnOk r P → OnOk r Q
on_ok P Q (Ok a) f p = f p
on_ok P Q (Err e) f p = tt

-- ---- the same in other memory

-- what was judged after what is kept had moved
pub judges-from : (h k g : Held) (was now : List Frame) (next later : ℕ → TransactionId) (step : Step) (line : List ℕ) (o : Option Outs) → SameHeld h k → Judges k g was now next later step line o → Judges h g was now next later step line o
judges-from h k g was now next later step line None same j = λ before s. j before (stands-moved h k before s same)
judges-from h k g was now next later step line (Some out) same j = λ before s. j before (stands-moved h k before s same)

-- what is kept moves after it was judged
pub judges-to : (h g k : Held) (was now : List Frame) (next later : ℕ → TransactionId) (step : Step) (line : List ℕ) (o : Option Outs) → SameHeld g k → Judges h g was now next later step line o → Judges h k was now next later step line o
judges-to h g k was now next later step line None same j = λ before s. j before s
judges-to h g k was now next later step line (Some out) same j = λ before s.
    let x = j before s in
    record {
      drawn = x.drawn;
      reply = x.reply;
      tells = x.tells;
      each = λ d reply t.
          let f = x.each d reply t in
          record { stands = stands-moved g k (before ++ entry_of step d reply ∷ []) f.stands same; drew = f.drew; outs = f.outs; work = f.work };
    }
