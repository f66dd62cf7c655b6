-- Lines of replies that are judged by what is kept, and what is kept after them.
use Rattle.std.proofs.Common.{◌≡◌, ℕ, Bool, true, false, cond, Option, Some, None, List, [], ◌∷◌, ◌++◌, refl, sym, ◌∙◌, ap, subst, append-nil}
use Rattle.std.specs.Prelude.{◌==◌, codes, decimal}
use Rattle.hex.specs.Hex.{encode_lower}
use Rattle.amqp_below_layer.specs.declared.answers.Answers.{Answers}
use Rattle.amqp_below_layer.specs.declared.inner_error.SessionInnerError.{SessionInnerError}
use Rattle.amqp_resource_record.specs.Stops.{fault_code}
use Rattle.std.specs.Str.{bytes_eq}
use Rattle.std.proofs.lemmas.Slice.Eq.{bytes_eq-Decides}
use Rattle.amqp_txn_types.specs.declared.id.TransactionId.{TransactionId}
use Rattle.amqp_txn_types.specs.declared.performatives.Frame.{Frame}
use Rattle.amqp_txn_types.specs.declared.small.AmqpError.TheVariants as amqp_errors
use Rattle.amqp_txn_types.specs.declared.small.TransactionError.TheVariants as transaction_errors
use Rattle.amqp_txn_types.specs.Ids.{same_id}
use Rattle.amqp_txn_codec.specs.declared.message.ControlMessageBody.{ControlMessageBody}
use Rattle.amqp_txn_codec.specs.declared.message.ControlMessageBody.TheVariants as messages
use Rattle.amqp_txn_codec.specs.declared.message.Discharge.{Discharge}
use Rattle.amqp_txn_codec.specs.Discharges.{is_rollback}
use Rattle.amqp_txn_codec.specs.Reading.{message_of}
use Rattle.amqp_below_ids.specs.Drawn.{DrawnIds}
use Rattle.amqp_below_ids.specs.Ids.{AreNext, Drew}
use Rattle.amqp_below_ids.proofs.Draws.{Drew-none}
use Rattle.amqp_resource_record.specs.declared.step.Step.{Step}
use Rattle.amqp_resource_record.specs.declared.step.Step.TheVariants as steps
use Rattle.amqp_resource_record.specs.declared.reply.Reply.{Reply}
use Rattle.amqp_resource_record.specs.declared.reply.Reply.TheVariants as replies
use Rattle.amqp_resource_record.specs.declared.reply.RejectText.TheVariants as texts
use Rattle.amqp_resource_record.specs.declared.entry.Entry.{Entry}
use Rattle.amqp_resource_record.specs.Answers.{Answer, AnswerControl, AnswerDischarge, AnswerLinkEnd, Echoed}
use Rattle.amqp_resource_record.specs.Entries.{attaches, closes, declares, discharges, is_attached, is_under, message_discharges}
use Rattle.amqp_resource_record.specs.Hands.{commits, hands}
use Rattle.amqp_resource_record.specs.Links.{is_open}
use Rattle.amqp_resource_record.specs.Live.{is_held_on}
use Rattle.amqp_resource_record.specs.Work.{handed_by, is_rejected}
use Rattle.amqp_resource_record.proofs.Whole.{IsLegal-snoc, commits-at, commits-rollback, hands-no_commit}
use Rattle.amqp_resource_log.specs.Live.{kept}
use Rattle.amqp_resource_held.specs.declared.held.Held.{Held}
use Rattle.amqp_resource_held.specs.Changes.{Ended}
use Rattle.amqp_resource_held.specs.Held.{Stands, Tied, is_in, is_kept_on, unless_on}
use Rattle.amqp_resource_held.specs.Views.{view_of_held}
use Rattle.amqp_resource_held.proofs.Standing.{LeavesLinks, view-closed, view-ended, view-quiet}
use Rattle.amqp_resource_held.proofs.Views.{held-record, stands-view}
use Rattle.txn_program_report.specs.Report.{reply_text, stop_word}
use Rattle.txn_audit_fits.specs.declared.outs.Outs.TheVariants as outs
use Rattle.txn_audit_fits.specs.Judging.{Judges, JudgesHere, OutsAre, entry_of, nothing_after}

-- ---- texts

pub same_text : (a b : List ℕ) → bytes_eq a b ≡ true → a ≡ b
same_text a b e = (bytes_eq-Decides a b).0 e

pub other_text : (a b : List ℕ) → bytes_eq a b ≡ false → a ≡ b → ⊥
other_text a b n e = let y : bytes_eq a b ≡ true = (bytes_eq-Decides a b).1 e in cc (y, n)

pub text_frames : (answers : Answers) → reply_text (replies.Frames answers) ≡ codes "ok"
unfolding reply_text
text_frames answers = refl

pub text_attached : (link : ℕ) (given : List Frame) → reply_text (replies.Attached link given) ≡ codes "attached " ++ decimal link
unfolding reply_text
text_attached link given = refl

pub text_refused : (error : SessionInnerError) → reply_text (replies.AttachRefused error) ≡ codes "attach-refused " ++ stop_word (fault_code error)
unfolding reply_text
text_refused error = refl

pub text_declared : (id : TransactionId) → reply_text (replies.Declared id) ≡ codes "declared " ++ encode_lower id
unfolding reply_text
text_declared id = refl

pub text_repeat : reply_text (replies.Rejected transaction_errors.UnknownId texts.IdsRepeat) ≡ codes "rejected unknown-id ids-repeat"
unfolding reply_text
text_repeat = refl

pub text_accepted : (echoes : List Answers) → reply_text (replies.Accepted echoes) ≡ codes "accepted"
unfolding reply_text
text_accepted echoes = refl

pub text_veto : reply_text (replies.Rejected transaction_errors.Rollback texts.Absent) ≡ codes "rejected rollback"
unfolding reply_text
text_veto = refl

-- ---- draws and work of a reply that has none

abbrev pub nothing_drawn : DrawnIds
nothing_drawn = record { ids = []; spare = 0 }

pub none_drew : (next : ℕ → TransactionId) (ids : List TransactionId) → ids ≡ [] → Drew next next ids
none_drew next ids e = let P : List TransactionId → Type 0 = λ ds. Drew next next ds in subst P (sym e) (Drew-none next next (λ n. refl))

pub none_next : (next : ℕ → TransactionId) (ids : List TransactionId) → ids ≡ [] → AreNext next 0 ids
none_next next ids e = let P : List TransactionId → Type 0 = λ ds. AreNext next 0 ds in subst P (sym e) tt

pub none_handed : (work handed : List Frame) → handed ≡ [] → work ≡ work ++ handed
none_handed work handed e = sym (append-nil work) ∙ ap (λ fs. work ++ fs) (sym e)

-- ---- what is kept after an entry

-- an entry that changes nothing
pub stays : (h : Held) (before : List Entry) (step : Step) (d : DrawnIds) (reply : Reply) → Stands h before → Answer before step d.ids reply → LeavesLinks (entry_of step d reply) → ((t : TransactionId) → declares t (entry_of step d reply) ≡ false) → ((t : TransactionId) → discharges t (entry_of step d reply) ≡ false) → ((t : TransactionId) → is_under t (entry_of step d reply) ≡ false) → Stands h (before ++ entry_of step d reply ∷ [])
stays h before step d reply s a q de di un =
    stands-view h (before ++ entry_of step d reply ∷ []) (IsLegal-snoc before (entry_of step d reply) s.legal a) s.tied
    (view-quiet before (entry_of step d reply) (view_of_held h) q de di un (record { live = s.live; links = record { links = s.links; opened = s.opened } }))

-- a link that ended or was closed
pub record EndsLink (h g : Held) (link : ℕ) : Type 0 where
  pub live : Tied h → (t : TransactionId) → kept g.work t ≡ unless_on link (kept h.work t)
  pub links : (k : ℕ) → is_in g.links.entries k ≡ cond (link == k) false (is_in h.links.entries k)
  pub tied : Tied h → Tied g
  pub opened : g.opened ≡ h.opened

pub closed : (h g : Held) (link : ℕ) (before : List Entry) (step : Step) (d : DrawnIds) (reply : Reply) → Stands h before → EndsLink h g link → Answer before step d.ids reply → ((t : TransactionId) → declares t (entry_of step d reply) ≡ false) → ((t : TransactionId) → discharges t (entry_of step d reply) ≡ false) → ((t : TransactionId) → is_under t (entry_of step d reply) ≡ false) → ((j : ℕ) → attaches j (entry_of step d reply) ≡ false) → ((j : ℕ) → closes j (entry_of step d reply) ≡ (link == j)) → is_attached reply ≡ false → Stands g (before ++ entry_of step d reply ∷ [])
closed h g link before step d reply s x a de di un at cl ia =
    stands-view g (before ++ entry_of step d reply ∷ []) (IsLegal-snoc before (entry_of step d reply) s.legal a) (x.tied s.tied)
    (view-closed before (entry_of step d reply) (view_of_held g) link de di un at cl ia
    (record {
      live = λ t. x.live s.tied t ∙ ap (unless_on link) (s.live t);
      links = λ j. x.links j ∙ ap (λ b. cond (link == j) false b) (s.links j);
      opened = x.opened ∙ s.opened;
    }))

-- an id that ended
pub ended : (h g : Held) (link : ℕ) (id : TransactionId) (before : List Entry) (step : Step) (d : DrawnIds) (reply : Reply) → Stands h before → Ended h g id → is_kept_on link (kept h.work id) ≡ true → Answer before step d.ids reply → LeavesLinks (entry_of step d reply) → ((t : TransactionId) → declares t (entry_of step d reply) ≡ false) → ((t : TransactionId) → discharges t (entry_of step d reply) ≡ same_id t id) → ((t : TransactionId) → is_under t (entry_of step d reply) ≡ false) → Stands g (before ++ entry_of step d reply ∷ [])
ended h g link id before step d reply s x held a q de di un =
    stands-view g (before ++ entry_of step d reply ∷ []) (IsLegal-snoc before (entry_of step d reply) s.legal a) (x.tied s.tied)
    (view-ended before (entry_of step d reply) (view_of_held g) link id q de di un
    (record {
      held = sym (ap (is_kept_on link) (s.live id)) ∙ held;
      live = λ t. x.live t ∙ ap (λ o. cond (same_id t id) None o) (s.live t);
      links = record { links = λ j. x.links j ∙ s.links j; opened = x.opened ∙ s.opened };
    }))

-- ---- one reply alone

-- what is to be shown of a reply that has the wanted text, draws nothing and hands nothing
abbrev pub Wanted : Held → Step → List ℕ → List Entry → DrawnIds → Reply → Type 0
Wanted g step wanted before d reply =
    (reply_text reply ≡ wanted) × (d.ids ≡ []) × Stands g (before ++ entry_of step d reply ∷ [])
    × OutsAre outs.Nothing step reply × (handed_by before step reply ≡ [])

by_text : (h g : Held) (step : Step) (line wanted : List ℕ) → (line ≡ wanted → (work : List Frame) (next : ℕ → TransactionId) → Judges h g work work next next step line (Some outs.Nothing)) → ((line ≡ wanted → ⊥) → (work : List Frame) (next : ℕ → TransactionId) → Judges h g work work next next step line None) → JudgesHere h g step line (nothing_after line wanted)
by_text h g step line wanted here there = by_case (bytes_eq line wanted) refl
  where
    by_case : (b : Bool) → bytes_eq line wanted ≡ b → JudgesHere h g step line (cond b (Some outs.Nothing) None)
    by_case true e = here (same_text line wanted e)
    by_case false e = there (other_text line wanted e)

-- a step that may be given a reply with the wanted text, and no other
pub one_reply : (h g : Held) (step : Step) (line wanted : List ℕ) → ((before : List Entry) → Stands h before → (d : DrawnIds) × (reply : Reply) × Answer before step d.ids reply) → ((before : List Entry) (d : DrawnIds) (reply : Reply) → Stands h before → Answer before step d.ids reply → Wanted g step wanted before d reply) → JudgesHere h g step line (nothing_after line wanted)
one_reply h g step line wanted some only =
    by_text h g step line wanted
    (λ same work next before s.
    let one = some before s in
    let told = only before one.0 one.1 s one.2 in
    record {
      drawn = one.0;
      reply = one.1;
      tells = record { answer = one.2; next = none_next next one.0.ids told.1; line = told.0 ∙ sym same };
      each = λ d reply t.
          let w = only before d reply s t.answer in
          record { stands = w.2; drew = none_drew next d.ids w.1; outs = w.3; work = none_handed work (handed_by before step reply) w.4 };
    })
    (λ other work next before s d reply t. other (sym t.line ∙ (only before d reply s t.answer).0))

-- ---- the end of a link

pub open_by : (h : Held) (before : List Entry) (link : ℕ) (b : Bool) → Stands h before → is_in h.links.entries link ≡ b → is_open before link ≡ b
open_by h before link b s e = sym (s.links link) ∙ e

ends_open : (reply : Reply) → AnswerLinkEnd true reply → reply ≡ replies.LinkEnded
ends_open replies.LinkEnded a = refl
ends_open _ a = absurd a

ends_other : (reply : Reply) → AnswerLinkEnd false reply → reply ≡ replies.NoLink
ends_other replies.NoLink a = refl
ends_other _ a = absurd a

pub link_end-open : (h g : Held) (link : ℕ) (line : List ℕ) → is_in h.links.entries link ≡ true → EndsLink h g link → JudgesHere h g (steps.LinkEnd link) line (nothing_after line (codes "link-ended"))
unfolding reply_text
link_end-open h g link line i x =
    one_reply h g (steps.LinkEnd link) line (codes "link-ended")
    (λ before s. (nothing_drawn, replies.LinkEnded, (refl, answers before s)))
    (λ before d reply s a.
    let R : Reply → Type 0 = λ r. Wanted g (steps.LinkEnd link) (codes "link-ended") before d r in
    let P : Bool → Type 0 = λ b. AnswerLinkEnd b reply in
    subst R (sym (ends_open reply (subst P (open_by h before link true s i) a.1)))
    (refl, a.0, closed h g link before (steps.LinkEnd link) d replies.LinkEnded s x (a.0, answers before s) (λ t. refl) (λ t. refl) (λ t. refl) (λ j. refl) (λ j. refl) refl, (refl, refl), refl))
  where
    answers : (before : List Entry) → Stands h before → AnswerLinkEnd (is_open before link) replies.LinkEnded
    answers before s = let P : Bool → Type 0 = λ b. AnswerLinkEnd b replies.LinkEnded in subst P (sym (open_by h before link true s i)) tt

pub link_end-other : (h : Held) (link : ℕ) (line : List ℕ) → is_in h.links.entries link ≡ false → JudgesHere h h (steps.LinkEnd link) line (nothing_after line (codes "no-link"))
unfolding reply_text
link_end-other h link line i =
    one_reply h h (steps.LinkEnd link) line (codes "no-link")
    (λ before s. (nothing_drawn, replies.NoLink, (refl, answers before s)))
    (λ before d reply s a.
    let R : Reply → Type 0 = λ r. Wanted h (steps.LinkEnd link) (codes "no-link") before d r in
    let P : Bool → Type 0 = λ b. AnswerLinkEnd b reply in
    subst R (sym (ends_other reply (subst P (open_by h before link false s i) a.1)))
    (refl, a.0, stays h before (steps.LinkEnd link) d replies.NoLink s (a.0, answers before s) (record { attaches = λ k. refl; closes = λ k. refl; attached = refl }) (λ t. refl) (λ t. refl) (λ t. refl), (refl, refl), refl))
  where
    answers : (before : List Entry) → Stands h before → AnswerLinkEnd (is_open before link) replies.NoLink
    answers before s = let P : Bool → Type 0 = λ b. AnswerLinkEnd b replies.NoLink in subst P (sym (open_by h before link false s i)) tt

-- ---- control messages

-- an answer to a control message, by its link and by what its payload spells
pub control_to : (before : List Entry) (link : ℕ) (payload : List ℕ) (ids : List TransactionId) (reply : Reply) (b : Bool) (m : Option ControlMessageBody) → is_open before link ≡ b → message_of payload ≡ m → Answer before (steps.Control link payload) ids reply → AnswerControl before link b m ids reply
control_to before link payload ids reply b m o e a =
    let P : Bool → Type 0 = λ c. AnswerControl before link c (message_of payload) ids reply in
    let Q : Option ControlMessageBody → Type 0 = λ n. AnswerControl before link b n ids reply in
    subst Q e (subst P o a)

pub control_from : (before : List Entry) (link : ℕ) (payload : List ℕ) (ids : List TransactionId) (reply : Reply) (b : Bool) (m : Option ControlMessageBody) → is_open before link ≡ b → message_of payload ≡ m → AnswerControl before link b m ids reply → Answer before (steps.Control link payload) ids reply
control_from before link payload ids reply b m o e a =
    let P : Bool → Type 0 = λ c. AnswerControl before link c (message_of payload) ids reply in
    let Q : Option ControlMessageBody → Type 0 = λ n. AnswerControl before link b n ids reply in
    subst P (sym o) (subst Q (sym e) a)

-- nothing is handed of a message that doesn't commit
pub uncommitted : (before : List Entry) (link : ℕ) (payload : List ℕ) (reply : Reply) → commits before (steps.Control link payload) ≡ None → handed_by before (steps.Control link payload) reply ≡ []
uncommitted before link payload reply n = by_case (is_rejected reply)
  where
    by_case : (b : Bool) → cond b [] (hands before (steps.Control link payload)) ≡ []
    by_case true = refl
    by_case false = hands-no_commit before link payload n

no_link : (before : List Entry) (link : ℕ) (m : Option ControlMessageBody) (ids : List TransactionId) (reply : Reply) → AnswerControl before link false m ids reply → (reply ≡ replies.NoLink) × (ids ≡ [])
no_link before link m ids replies.NoLink a = (refl, a)
no_link before link m ids _ a = absurd a

pub control-no_link : (h : Held) (link : ℕ) (payload line : List ℕ) → is_in h.links.entries link ≡ false → JudgesHere h h (steps.Control link payload) line (nothing_after line (codes "no-link"))
unfolding reply_text
control-no_link h link payload line i =
    one_reply h h (steps.Control link payload) line (codes "no-link")
    (λ before s. (nothing_drawn, replies.NoLink, control_from before link payload [] replies.NoLink false (message_of payload) (open_by h before link false s i) refl refl))
    (λ before d reply s a.
    let o = open_by h before link false s i in
    let f = no_link before link (message_of payload) d.ids reply (control_to before link payload d.ids reply false (message_of payload) o refl a) in
    let R : Reply → Type 0 = λ r. Wanted h (steps.Control link payload) (codes "no-link") before d r in
    subst R (sym f.0) (
      refl,
      f.1,
      stays h before (steps.Control link payload) d replies.NoLink s (control_from before link payload d.ids replies.NoLink false (message_of payload) o refl f.1) (record { attaches = λ k. refl; closes = λ k. refl; attached = refl }) (λ t. refl) (λ t. refl) (λ t. refl),
      (refl, refl),
      uncommitted before link payload replies.NoLink (commits-at before link payload false (message_of payload) o refl),
    ))

-- a payload that spells no message
no_message : (before : List Entry) (link : ℕ) (ids : List TransactionId) (reply : Reply) → AnswerControl before link true None ids reply → (reply ≡ replies.LinkClosed amqp_errors.NotAllowed) × (ids ≡ [])
no_message before link ids (replies.LinkClosed amqp_errors.NotAllowed) a = (refl, a)
no_message before link ids _ a = absurd a

pub control-closed : (h g : Held) (link : ℕ) (payload line : List ℕ) → is_in h.links.entries link ≡ true → message_of payload ≡ None → EndsLink h g link → JudgesHere h g (steps.Control link payload) line (nothing_after line (codes "link-closed not-allowed"))
unfolding reply_text
control-closed h g link payload line i m x =
    one_reply h g (steps.Control link payload) line (codes "link-closed not-allowed")
    (λ before s. (nothing_drawn, replies.LinkClosed amqp_errors.NotAllowed, control_from before link payload [] (replies.LinkClosed amqp_errors.NotAllowed) true None (open_by h before link true s i) m refl))
    (λ before d reply s a.
    let o = open_by h before link true s i in
    let f = no_message before link d.ids reply (control_to before link payload d.ids reply true None o m a) in
    let R : Reply → Type 0 = λ r. Wanted g (steps.Control link payload) (codes "link-closed not-allowed") before d r in
    subst R (sym f.0) (
      refl,
      f.1,
      closed h g link before (steps.Control link payload) d (replies.LinkClosed amqp_errors.NotAllowed) s x (control_from before link payload d.ids (replies.LinkClosed amqp_errors.NotAllowed) true None o m f.1) (λ t. refl) (λ t. refl) (λ t. refl) (λ j. refl) (λ j. refl) refl,
      (refl, refl),
      uncommitted before link payload (replies.LinkClosed amqp_errors.NotAllowed) (commits-at before link payload true None o m),
    ))

-- a declare with a global id
global_only : (before : List Entry) (link : ℕ) (global : TransactionId) (ids : List TransactionId) (reply : Reply) → AnswerControl before link true (Some (messages.Declare (record { global_id = Some global }))) ids reply → (reply ≡ replies.Rejected transaction_errors.UnknownId texts.GlobalId) × (ids ≡ [])
global_only before link global ids (replies.Rejected transaction_errors.UnknownId texts.GlobalId) a = (refl, a)
global_only before link global ids _ a = absurd a

pub control-global : (h : Held) (link : ℕ) (payload line : List ℕ) (global : TransactionId) → is_in h.links.entries link ≡ true → message_of payload ≡ Some (messages.Declare (record { global_id = Some global })) → JudgesHere h h (steps.Control link payload) line (nothing_after line (codes "rejected unknown-id global-id"))
unfolding reply_text
control-global h link payload line global i m =
    let told = replies.Rejected transaction_errors.UnknownId texts.GlobalId in
    let message : Option ControlMessageBody = Some (messages.Declare (record { global_id = Some global })) in
    one_reply h h (steps.Control link payload) line (codes "rejected unknown-id global-id")
    (λ before s. (nothing_drawn, told, control_from before link payload [] told true message (open_by h before link true s i) m refl))
    (λ before d reply s a.
    let o = open_by h before link true s i in
    let f = global_only before link global d.ids reply (control_to before link payload d.ids reply true message o m a) in
    let R : Reply → Type 0 = λ r. Wanted h (steps.Control link payload) (codes "rejected unknown-id global-id") before d r in
    subst R (sym f.0)
    (refl, f.1, stays h before (steps.Control link payload) d told s (control_from before link payload d.ids told true message o m f.1) (record { attaches = λ k. refl; closes = λ k. refl; attached = refl }) (λ t. refl) (λ t. refl) (λ t. refl), (refl, refl), refl))

-- ---- discharges

-- an id that is kept on a link is held there by the record
pub held_by : (h : Held) (before : List Entry) (link : ℕ) (id : TransactionId) (b : Bool) → Stands h before → is_kept_on link (kept h.work id) ≡ b → is_held_on before link id ≡ b
held_by h before link id b s e = sym (held-record before link id) ∙ ap (is_kept_on link) (sym (s.live id)) ∙ e

unknown_only : (before : List Entry) (link : ℕ) (id : TransactionId) (fail : Option Bool) (ids : List TransactionId) (reply : Reply) → is_held_on before link id ≡ false → AnswerDischarge before link id fail ids reply → (reply ≡ replies.Rejected transaction_errors.UnknownId texts.Absent) × (ids ≡ [])
unknown_only before link id fail ids (replies.Rejected transaction_errors.UnknownId texts.Absent) n a = (refl, a.1)
unknown_only before link id fail ids (replies.Rejected transaction_errors.Rollback texts.Absent) n a = let y = a.0 in absurd (cc (y, n))
unknown_only before link id fail ids (replies.Accepted echoes) n a = let y = a.0 in absurd (cc (y, n))
unknown_only before link id fail ids _ n a = absurd a

pub discharge-unknown : (h : Held) (link : ℕ) (payload line : List ℕ) (discharge : Discharge) → is_in h.links.entries link ≡ true → message_of payload ≡ Some (messages.Discharge discharge) → is_kept_on link (kept h.work discharge.txn_id) ≡ false → JudgesHere h h (steps.Control link payload) line (nothing_after line (codes "rejected unknown-id"))
unfolding reply_text
discharge-unknown h link payload line discharge i m n =
    let told = replies.Rejected transaction_errors.UnknownId texts.Absent in
    let message : Option ControlMessageBody = Some (messages.Discharge discharge) in
    one_reply h h (steps.Control link payload) line (codes "rejected unknown-id")
    (λ before s. (nothing_drawn, told, control_from before link payload [] told true message (open_by h before link true s i) m (held_by h before link discharge.txn_id false s n, refl)))
    (λ before d reply s a.
    let o = open_by h before link true s i in
    let x = held_by h before link discharge.txn_id false s n in
    let f = unknown_only before link discharge.txn_id discharge.fail d.ids reply x (control_to before link payload d.ids reply true message o m a) in
    let R : Reply → Type 0 = λ r. Wanted h (steps.Control link payload) (codes "rejected unknown-id") before d r in
    subst R (sym f.0)
    (refl, f.1, stays h before (steps.Control link payload) d told s (control_from before link payload d.ids told true message o m (x, f.1)) (record { attaches = λ k. refl; closes = λ k. refl; attached = refl }) (λ t. refl) (λ t. refl) (λ t. refl), (refl, refl), refl))

rollback_only : (before : List Entry) (link : ℕ) (id : TransactionId) (fail : Option Bool) (ids : List TransactionId) (reply : Reply) → is_held_on before link id ≡ true → is_rollback fail ≡ true → AnswerDischarge before link id fail ids reply → (reply ≡ replies.Accepted []) × (ids ≡ [])
rollback_only before link id fail ids (replies.Rejected transaction_errors.UnknownId texts.Absent) y r a = let n = a.0 in absurd (cc (y, n))
rollback_only before link id fail ids (replies.Rejected transaction_errors.Rollback texts.Absent) y r a = let n = a.2.0 in absurd (cc (r, n))
rollback_only before link id fail ids (replies.Accepted echoes) y r a =
    let P : Bool → Type 0 = λ b. Echoed before id b echoes in
    let none : echoes ≡ [] = subst P r a.2 in
    (ap replies.Accepted none, a.1)
rollback_only before link id fail ids _ y r a = absurd a

pub discharge-rollback : (h g : Held) (link : ℕ) (payload line : List ℕ) (discharge : Discharge) → is_in h.links.entries link ≡ true → message_of payload ≡ Some (messages.Discharge discharge) → is_kept_on link (kept h.work discharge.txn_id) ≡ true → is_rollback discharge.fail ≡ true → Ended h g discharge.txn_id → JudgesHere h g (steps.Control link payload) line (nothing_after line (codes "accepted"))
unfolding reply_text
discharge-rollback h g link payload line discharge i m y r e =
    let message : Option ControlMessageBody = Some (messages.Discharge discharge) in
    one_reply h g (steps.Control link payload) line (codes "accepted")
    (λ before s. (nothing_drawn, replies.Accepted [], control_from before link payload [] (replies.Accepted []) true message (open_by h before link true s i) m (held_by h before link discharge.txn_id true s y, refl, none before)))
    (λ before d reply s a.
    let o = open_by h before link true s i in
    let x = held_by h before link discharge.txn_id true s y in
    let f = rollback_only before link discharge.txn_id discharge.fail d.ids reply x r (control_to before link payload d.ids reply true message o m a) in
    let R : Reply → Type 0 = λ t. Wanted g (steps.Control link payload) (codes "accepted") before d t in
    subst R (sym f.0) (
      refl,
      f.1,
      ended h g link discharge.txn_id before (steps.Control link payload) d (replies.Accepted []) s e y (control_from before link payload d.ids (replies.Accepted []) true message o m (x, f.1, none before)) (record { attaches = λ k. refl; closes = λ k. refl; attached = refl }) (λ t. refl) (λ t. ap (message_discharges t) m) (λ t. refl),
      (refl, refl),
      uncommitted before link payload (replies.Accepted []) (commits-rollback before link payload discharge o m r),
    ))
  where
    none : (before : List Entry) → Echoed before discharge.txn_id (is_rollback discharge.fail) []
    none before = let P : Bool → Type 0 = λ b. Echoed before discharge.txn_id b [] in subst P (sym r) refl
