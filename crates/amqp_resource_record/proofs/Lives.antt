-- What the lives of one transaction say of one another, and of others.
use Rattle.std.proofs.Common.{◌≡◌, ℕ, suc, ◌+◌, ◌<◌, Bool, true, false, cond, not, ◌&&◌, Option, Some, None, List, [], ◌∷◌, ◌++◌, length, map, take, drop, refl, sym, ◌∙◌, ap, arith, append-nil, append_assoc, subst, take-append-drop}
use Rattle.std.specs.Prelude.{slice_get, ◌↔◌}
use Rattle.std.specs.List.{flat_map, list_any}
use Rattle.std.proofs.lemmas.Bool.{and_parts, ne_eqb, eqb-true, eq-eqb}
use Rattle.std.proofs.lemmas.List.{length-append, length-map, length-take-le, map-append}
use Rattle.amqp_txn_types.specs.declared.id.TransactionId.{TransactionId}
use Rattle.amqp_txn_types.specs.declared.performatives.Frame.{Frame}
use Rattle.amqp_txn_types.specs.Frames.{txn, stripped}
use Rattle.amqp_txn_types.specs.declared.small.TransactionError.TheVariants as transaction_errors
use Rattle.amqp_txn_codec.specs.declared.message.ControlMessageBody.{ControlMessageBody}
use Rattle.amqp_txn_codec.specs.declared.message.ControlMessageBody.TheVariants as messages
use Rattle.amqp_txn_codec.specs.declared.message.Discharge.{Discharge}
use Rattle.amqp_txn_codec.specs.Reading.{message_of}
use Rattle.amqp_resource_record.specs.declared.entry.Entry.{Entry}
use Rattle.amqp_resource_record.specs.declared.step.Step.{Step}
use Rattle.amqp_resource_record.specs.declared.step.Step.TheVariants as steps
use Rattle.amqp_resource_record.specs.declared.reply.Reply.{Reply}
use Rattle.amqp_resource_record.specs.declared.reply.Reply.TheVariants as replies
use Rattle.amqp_resource_record.specs.declared.reply.RejectText.TheVariants as texts
use Rattle.amqp_resource_record.specs.Entries.{step_closes, declares, discharges, step_discharges, message_discharges, reply_declares, reply_attaches, is_under, step_is_under, steps_of}
use Rattle.amqp_txn_types.specs.Ids.{same_id, is_some_id}
use Rattle.amqp_resource_record.specs.Links.{is_open, attached_count}
use Rattle.amqp_resource_record.specs.Live.{since, home, undischarged, is_link, is_live, is_held_on, frame_places, frame_places_from, places_from, entries_from, entries_since}
use Rattle.amqp_resource_record.specs.Hands.{frame_of_step, frames_at, frames_of, frames_under, commits, hands}
use Rattle.amqp_resource_record.specs.Answers.{Answer, AnswerFrame, AnswerDischarge, AnswerMessage, AnswerControl}
use Rattle.amqp_resource_record.specs.Legal.{LegalAfter, IsLegal}
use Rattle.amqp_resource_record.specs.Others.{discharges_another, is_of_others}
use Rattle.amqp_resource_record.proofs.Ids.{same_id-eq}
use Rattle.amqp_resource_record.proofs.Places.{slice_get-at}
use Rattle.amqp_resource_record.proofs.Looking.{since-below, is_open_at-other}
use Rattle.amqp_resource_record.proofs.Living.{live-same, ended_dead, places-same, undischarged-ended, undischarged-later}
use Rattle.amqp_resource_record.proofs.Whole.{hands-commit, homes_attached}

-- ---- a live id has one home

is_link_some : (k : ℕ) (o : Option ℕ) → is_link k o ≡ true → o ≡ Some k
is_link_some k None h = cc h
is_link_some k (Some j) h = ap (λ i. Some i) (eqb-true j k h)

pub held_home : (r : List Entry) (t : TransactionId) (k : ℕ) → is_live r t ≡ true → (is_held_on r k t ≡ true) ↔ (home r t ≡ Some k)
held_home r t k l = (
  λ h. is_link_some k (home r t) (and_parts (is_live r t) (is_link k (home r t)) h).1,
  λ h. ap (λ b. b && is_link k (home r t)) l ∙ ap (is_link k) h ∙ eq-eqb k k refl,
)

-- ---- what a commit hands

steps-append : (r s : List Entry) → steps_of (r ++ s) ≡ steps_of r ++ steps_of s
steps-append r s = map-append (λ (x : Entry). x.step) r s

step_at : (before later : List Entry) (e : Entry) → slice_get (steps_of (before ++ e ∷ later)) (length before) ≡ Some e.step
step_at before later e =
    ap (λ l. slice_get l (length before)) (steps-append before (e ∷ later))
    ∙ ap (slice_get (steps_of before ++ e.step ∷ steps_of later)) (sym (length-map before (λ (x : Entry). x.step)))
    ∙ slice_get-at (steps_of before) (steps_of later) e.step

pushed_frames : (b : Bool) (f : ℕ → List Frame) (n : ℕ) (places : List ℕ) → flat_map f (cond b (n ∷ places) places) ≡ cond b (f n) [] ++ flat_map f places
pushed_frames true f n places = refl
pushed_frames false f n places = refl

-- the frames at the places that pass are the frames that pass
frames_at-places : (t : TransactionId) (before later : List Entry) → frames_at (steps_of (before ++ later)) (places_from (length before) (is_under t) later) ≡ frames_under t later
frames_at-places t before [] = refl
frames_at-places t before (e ∷ later) =
    let all : List Step = steps_of (before ++ e ∷ later) in
    let rest : List ℕ = places_from (length before + 1) (is_under t) later in
    let ih : frames_at (steps_of ((before ++ e ∷ []) ++ later)) (places_from (length (before ++ e ∷ [])) (is_under t) later) ≡ frames_under t later = frames_at-places t (before ++ e ∷ []) later in
    pushed_frames (is_under t e) (λ i. frame_of_step (slice_get all i)) (length before) rest
    ∙ ap (λ o. cond (is_under t e) (frame_of_step o) [] ++ frames_at all rest) (step_at before later e)
    ∙ ap (λ l. cond (is_under t e) (frame_of_step (Some e.step)) [] ++ l)
    (ap (λ l. frames_at (steps_of l) rest) (sym (append_assoc before (e ∷ []) later))
    ∙ ap (λ n. frames_at (steps_of ((before ++ e ∷ []) ++ later)) (places_from n (is_under t) later)) (sym (length-append before (e ∷ [])))
    ∙ ih)

frames_of-from : (r : List Entry) (t : TransactionId) (o : Option ℕ) → ((n : ℕ) → o ≡ Some n → n < length r) → frames_at (steps_of r) (frame_places_from r t o) ≡ frames_under t (entries_from r o)
frames_of-from r t None h = refl
frames_of-from r t (Some n) h =
    let below : n < length r = h n refl in
    let front : List Entry = take (suc n) r in
    let count : length front ≡ suc n = length-take-le (suc n) r (omega arith) in
    ap (λ l. frames_at (steps_of l) (places_from (suc n) (is_under t) (drop (suc n) r))) (sym (take-append-drop (suc n) r))
    ∙ ap (λ k. frames_at (steps_of (front ++ drop (suc n) r)) (places_from k (is_under t) (drop (suc n) r))) (sym count)
    ∙ frames_at-places t front (drop (suc n) r)

-- the frames of a transaction are those under its id since its last declare
pub frames_of-since : (r : List Entry) (t : TransactionId) → frames_of r t ≡ frames_under t (entries_since r t)
unfolding frame_places entries_since
frames_of-since r t = frames_of-from r t (since r t) (λ n h. since-below r t n h)

-- only a control message commits
commits_control : (r : List Entry) (s : Step) (t : TransactionId) → commits r s ≡ Some t → hands r s ≡ map stripped (frames_of r t)
commits_control r (steps.Control k payload) t h = hands-commit r k payload t h
commits_control r _ t h = cc h

pub hands-own : (r : List Entry) (s : Step) (t : TransactionId) → commits r s ≡ Some t → hands r s ≡ map stripped (frames_under t (entries_since r t))
hands-own r s t h = commits_control r s t h ∙ ap (map stripped) (frames_of-since r t)

own_one : (t : TransactionId) (s : Step) → step_is_under t s ≡ true → length (frame_of_step (Some s)) ≡ 1
own_one t (steps.Frame frame) h = refl
own_one t _ h = cc h

count_own : (b : Bool) (own rest : List Frame) (n : ℕ) (places : List ℕ) → (b ≡ true → length own ≡ 1) → length rest ≡ length places → length (cond b own [] ++ rest) ≡ length (cond b (n ∷ places) places)
count_own true own rest n places one ih = let l : length (own ++ rest) ≡ length own + length rest = length-append own rest in omega (arith, one refl)
count_own false own rest n places one ih = ih

count_under : (t : TransactionId) (n : ℕ) (r : List Entry) → length (frames_under t r) ≡ length (places_from n (is_under t) r)
count_under t n [] = refl
count_under t n (e ∷ r) = count_own (is_under t e) (frame_of_step (Some e.step)) (frames_under t r) n (places_from (n + 1) (is_under t) r) (own_one t e.step) (count_under t (n + 1) r)

count_from : (r : List Entry) (t : TransactionId) (o : Option ℕ) → length (frames_under t (entries_from r o)) ≡ length (frame_places_from r t o)
count_from r t None = refl
count_from r t (Some n) = count_under t (suc n) (drop (suc n) r)

-- an id has as many frames as places
pub length-places : (r : List Entry) (t : TransactionId) → length (frames_under t (entries_since r t)) ≡ length (frame_places r t)
unfolding frame_places entries_since
length-places r t = count_from r t (since r t)

-- ---- what others do

LegalAfter-last : (before r : List Entry) (e : Entry) → LegalAfter before (r ++ e ∷ []) → LegalAfter before r × Answer (before ++ r) e.step e.drawn.ids e.reply
LegalAfter-last before [] e l = let P : List Entry → Type 0 = λ b. Answer b e.step e.drawn.ids e.reply in (tt, subst P (sym (append-nil before)) l.0)
LegalAfter-last before (x ∷ r) e l =
    let P : List Entry → Type 0 = λ b. Answer b e.step e.drawn.ids e.reply in
    let rest = LegalAfter-last (before ++ x ∷ []) r e l.1 in ((l.0, rest.0), subst P (append_assoc before (x ∷ []) r) rest.1)

-- the last entry of a legal record is an answer after the others
pub IsLegal-last : (r : List Entry) (e : Entry) → IsLegal (r ++ e ∷ []) → IsLegal r × Answer r e.step e.drawn.ids e.reply
unfolding IsLegal
IsLegal-last r e l = LegalAfter-last [] r e l

-- what a step of others leaves of an id
record LeavesAlone (r : List Entry) (t : TransactionId) (s : Step) (reply : Reply) : Type 0 where
  under : step_is_under t s ≡ false
  declares : reply_declares t reply ≡ false
  discharges : step_discharges t s reply ≡ false
  attaches : (k : ℕ) → undischarged r t ≡ true → home r t ≡ Some k → reply_attaches k reply ≡ false
  closes : (k : ℕ) → step_closes k s reply ≡ false

alone_frame : (r : List Entry) (t : TransactionId) (frame : Frame) (o : Option TransactionId) (reply : Reply) → IsLegal r → is_some_id t (txn frame) ≡ false → AnswerFrame r frame o reply → LeavesAlone r t (steps.Frame frame) reply
alone_frame r t frame o (replies.Frames answers) l u a = record { under = u; declares = refl; discharges = refl; attaches = λ _ _ _. refl; closes = λ _. refl }
alone_frame r t frame None (replies.Attached link given) l u a = record {
  under = u;
  declares = refl;
  discharges = refl;
  attaches = λ k h q. ne_eqb link k (λ e. let below : k < attached_count r = homes_attached r t k l h q in omega (arith, a.1));
  closes = λ _. refl;
}
alone_frame r t frame None (replies.AttachRefused error) l u a = record { under = u; declares = refl; discharges = refl; attaches = λ _ _ _. refl; closes = λ _. refl }
alone_frame r t frame None _ l u a = absurd a
alone_frame r t frame (Some id) _ l u a = absurd a

alone_discharge : (r : List Entry) (t : TransactionId) (k : ℕ) (payload : List ℕ) (b : Bool) (discharge : Discharge) (d : List TransactionId) (reply : Reply) → message_of payload ≡ Some (messages.Discharge discharge) → same_id t discharge.txn_id ≡ false → AnswerControl r k b (Some (messages.Discharge discharge)) d reply → LeavesAlone r t (steps.Control k payload) reply
alone_discharge r t k payload false discharge d replies.NoLink m n a = record { under = refl; declares = refl; discharges = refl; attaches = λ _ _ _. refl; closes = λ _. refl }
alone_discharge r t k payload false discharge d _ m n a = absurd a
alone_discharge r t k payload true discharge d (replies.Rejected transaction_errors.UnknownId text) m n a = record { under = refl; declares = refl; discharges = refl; attaches = λ _ _ _. refl; closes = λ _. refl }
alone_discharge r t k payload true discharge d (replies.Rejected transaction_errors.Rollback text) m n a = record {
  under = refl;
  declares = refl;
  discharges = ap (message_discharges t) m ∙ n;
  attaches = λ _ _ _. refl;
  closes = λ _. refl;
}
alone_discharge r t k payload true discharge d (replies.Accepted echoes) m n a = record {
  under = refl;
  declares = refl;
  discharges = ap (message_discharges t) m ∙ n;
  attaches = λ _ _ _. refl;
  closes = λ _. refl;
}
alone_discharge r t k payload true discharge d _ m n a = absurd a

not_true : (b : Bool) → not b ≡ true → b ≡ false
not_true true h = cc h
not_true false h = refl

alone_control : (r : List Entry) (t : TransactionId) (k : ℕ) (payload : List ℕ) (m : Option ControlMessageBody) (d : List TransactionId) (reply : Reply) → message_of payload ≡ m → discharges_another t m ≡ true → AnswerControl r k (is_open r k) m d reply → LeavesAlone r t (steps.Control k payload) reply
alone_control r t k payload (Some (messages.Discharge discharge)) d reply e n a = alone_discharge r t k payload (is_open r k) discharge d reply e (not_true (same_id t discharge.txn_id) n) a
alone_control r t k payload (Some (messages.Declare declare)) d reply e n a = cc n
alone_control r t k payload None d reply e n a = cc n

alone : (r : List Entry) (t : TransactionId) (s : Step) (d : List TransactionId) (reply : Reply) → IsLegal r → is_of_others t s ≡ true → Answer r s d reply → LeavesAlone r t s reply
alone r t (steps.Frame frame) d reply l o a = alone_frame r t frame (txn frame) reply l (not_true (is_some_id t (txn frame)) o) a.1
alone r t (steps.Control k payload) d reply l o a = alone_control r t k payload (message_of payload) d reply refl o a
alone r t _ d reply l o a = cc o

-- a step of others leaves the places of an id
pub others-places : (r : List Entry) (e : Entry) (t : TransactionId) → IsLegal (r ++ e ∷ []) → is_of_others t e.step ≡ true → frame_places (r ++ e ∷ []) t ≡ frame_places r t
others-places r e t l o =
    let parts = IsLegal-last r e l in
    let left = alone r t e.step e.drawn.ids e.reply parts.0 o parts.1 in places-same r e t left.declares left.under

-- and whether it is live
pub others_live : (r : List Entry) (e : Entry) (t : TransactionId) → IsLegal (r ++ e ∷ []) → is_of_others t e.step ≡ true → is_live (r ++ e ∷ []) t ≡ is_live r t
others_live r e t l o =
    let parts = IsLegal-last r e l in
    let left = alone r t e.step e.drawn.ids e.reply parts.0 o parts.1 in
    live-same r e t left.declares left.discharges (λ h. is_open_at-other r e (home r t) (λ k q. left.attaches k h q) (λ k q. left.closes k))

-- ---- after a discharge

-- an id that was discharged, and not declared since, isn't live
pub discharged_dead : (before later : List Entry) (e : Entry) (t : TransactionId) → discharges t e ≡ true → list_any (declares t) later ≡ false → is_live (before ++ e ∷ later) t ≡ false
discharged_dead before later e t h n =
    ended_dead (before ++ e ∷ later) t
    (ap (λ l. undischarged l t) (sym (append_assoc before (e ∷ []) later)) ∙ undischarged-later (before ++ e ∷ []) later t (undischarged-ended before e t h) n)

dead_held : (r : List Entry) (k : ℕ) (t : TransactionId) → is_live r t ≡ false → is_held_on r k t ≡ false
dead_held r k t h = ap (λ b. b && is_link k (home r t)) h

rejected_discharge : (r : List Entry) (k : ℕ) (t : TransactionId) (fail : Option Bool) (d : List TransactionId) (reply : Reply) → is_live r t ≡ false → AnswerDischarge r k t fail d reply → reply ≡ replies.Rejected transaction_errors.UnknownId texts.Absent
rejected_discharge r k t fail d (replies.Rejected transaction_errors.UnknownId texts.Absent) l a = refl
rejected_discharge r k t fail d (replies.Rejected transaction_errors.Rollback texts.Absent) l a = let held : is_held_on r k t ≡ false = dead_held r k t l in cc (held, a.0)
rejected_discharge r k t fail d (replies.Accepted echoes) l a = let held : is_held_on r k t ≡ false = dead_held r k t l in cc (held, a.0)
rejected_discharge r k t fail d _ l a = absurd a

rejected_message : (r : List Entry) (k : ℕ) (t : TransactionId) (m : Option ControlMessageBody) (d : List TransactionId) (reply : Reply) → is_live r t ≡ false → message_discharges t m ≡ true → AnswerMessage r k m d reply → reply ≡ replies.Rejected transaction_errors.UnknownId texts.Absent
rejected_message r k t (Some (messages.Discharge discharge)) d reply l h a =
    rejected_discharge r k discharge.txn_id discharge.fail d reply (ap (is_live r) (sym (same_id-eq t discharge.txn_id h)) ∙ l) a
rejected_message r k t (Some (messages.Declare declare)) d reply l h a = cc h
rejected_message r k t None d reply l h a = cc h

-- on an open link, a discharge of an id that isn't live is rejected
pub dead_rejected : (r : List Entry) (k : ℕ) (payload : List ℕ) (t : TransactionId) (d : List TransactionId) (reply : Reply) → is_live r t ≡ false → is_open r k ≡ true → message_discharges t (message_of payload) ≡ true → Answer r (steps.Control k payload) d reply → reply ≡ replies.Rejected transaction_errors.UnknownId texts.Absent
dead_rejected r k payload t d reply l o h a =
    let P : Bool → Type 0 = λ b. AnswerControl r k b (message_of payload) d reply in rejected_message r k t (message_of payload) d reply l h (subst P o a)
