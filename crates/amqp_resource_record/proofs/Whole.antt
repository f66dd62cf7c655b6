-- Whole records with one entry more.
use Rattle.std.proofs.Common.{◌≡◌, ℕ, suc, ◌+◌, ◌<◌, ◌≤◌, Bool, true, false, cond, not, ◌&&◌, ◌||◌, Option, Some, None, List, [], ◌∷◌, ◌++◌, length, map, refl, sym, ◌∙◌, ap, arith, append-nil, append_assoc, subst, zero-add, ◌⊎◌, inl, inr}
use Rattle.std.specs.Prelude.{slice_get, ◌==◌, if◌then◌else◌}
use Rattle.std.specs.List.{list_any, zip}
use Rattle.std.proofs.lemmas.List.{length-append, length-map}
use Rattle.std.proofs.lemmas.List.Folds.{list_any-append}
use Rattle.std.proofs.lemmas.List.Concat.{flat_map-append}
use Rattle.std.proofs.lemmas.List.Sums.{sum_by-append}
use Rattle.std.proofs.lemmas.Bool.{cases_lt, false_from_ne_true, eqb-true, and_parts, and_right, eq-eqb}
use Rattle.amqp_txn_types.specs.declared.id.TransactionId.{TransactionId}
use Rattle.amqp_txn_types.specs.declared.delivery.DeliveryState.{DeliveryState}
use Rattle.amqp_txn_types.specs.declared.delivery.DeliveryState.TheVariants as states
use Rattle.amqp_txn_types.specs.declared.performatives.Frame.{Frame}
use Rattle.amqp_txn_types.specs.declared.performatives.Frame.TheVariants as frames
use Rattle.amqp_txn_types.specs.Frames.{txn, txn_of_state, is_coordinator_attach, is_plain_frame, is_plain_by, stripped, stripped_state, is_under_txn}
use Rattle.amqp_txn_types.specs.declared.small.AmqpError.{AmqpError}
use Rattle.amqp_txn_codec.specs.declared.message.ControlMessageBody.{ControlMessageBody}
use Rattle.amqp_txn_codec.specs.declared.message.ControlMessageBody.TheVariants as messages
use Rattle.amqp_txn_codec.specs.declared.message.Declare.{Declare}
use Rattle.amqp_txn_codec.specs.declared.message.Discharge.{Discharge}
use Rattle.amqp_txn_codec.specs.Reading.{message_of}
use Rattle.amqp_below_layer.specs.declared.answers.Answers.{Answers}
use Rattle.amqp_resource_record.specs.declared.entry.Entry.{Entry}
use Rattle.amqp_resource_record.specs.declared.step.Step.{Step}
use Rattle.amqp_resource_record.specs.declared.step.Step.TheVariants as steps
use Rattle.amqp_resource_record.specs.declared.reply.Reply.{Reply}
use Rattle.amqp_resource_record.specs.declared.reply.Reply.TheVariants as replies
use Rattle.amqp_resource_record.specs.Entries.{attaches, closes, step_closes, declares, is_attached, reply_attaches, discharges, step_link, reply_declares, steps_of}
use Rattle.amqp_resource_record.specs.Links.{is_open, attached_count}
use Rattle.amqp_resource_record.specs.Live.{home, is_open_at, undischarged, is_held_on, since, frame_places}
use Rattle.amqp_resource_record.specs.Hands.{frames_at, frame_of_step, frames_of, commits_message, if_open, commits, sources_of, hands}
use Rattle.amqp_txn_codec.specs.Discharges.{is_rollback}
use Rattle.amqp_resource_record.specs.Work.{joined_after, work, given_back, given_by, handed_by, is_rejected, pairs}
use Rattle.amqp_resource_record.specs.Answers.{AnswerFrame, AnswerLinkEnd, AnswerDeclare, AnswerDischarge, AnswerMessage, AnswerControl, Answer, Echoed}
use Rattle.amqp_below_layer.specs.Windows.{AllWindowsFit}
use Rattle.amqp_resource_record.specs.Legal.{LegalAfter, IsLegal}
use Rattle.amqp_resource_record.proofs.Looking.{frames_at-front, places-below_steps, home-declared, home-other, undischarged-other}
use Rattle.amqp_resource_record.proofs.Places.{slice_get-at}

-- ---- joined lists

pub joined_after-snoc : {A : Type 0} (f : List Entry → Entry → List A) (before r : List Entry) (e : Entry) → joined_after f before (r ++ e ∷ []) ≡ joined_after f before r ++ f (before ++ r) e
joined_after-snoc f before [] e = append-nil (f before e) ∙ ap (λ b. f b e) (sym (append-nil before))
joined_after-snoc f before (x ∷ r) e =
    ap (λ l. f before x ++ l) (joined_after-snoc f (before ++ x ∷ []) r e)
    ∙ sym (append_assoc (f before x) (joined_after f (before ++ x ∷ []) r) (f ((before ++ x ∷ []) ++ r) e))
    ∙ ap (λ b. f before x ++ joined_after f (before ++ x ∷ []) r ++ f b e) (append_assoc before (x ∷ []) r)

pub work-snoc : (r : List Entry) (e : Entry) → work (r ++ e ∷ []) ≡ work r ++ handed_by r e.step e.reply
unfolding work
work-snoc r e = joined_after-snoc (λ before x. handed_by before x.step x.reply) [] r e

pub given-snoc : (r : List Entry) (e : Entry) → given_back (r ++ e ∷ []) ≡ given_back r ++ given_by e.step e.reply
unfolding given_back
given-snoc r e = flat_map-append (λ (x : Entry). given_by x.step x.reply) r (e ∷ []) ∙ ap (λ l. given_back r ++ l) (append-nil (given_by e.step e.reply))

pub zip-append : {X Y : Type 0} (xs zs : List X) (ys ws : List Y) → length xs ≡ length ys → zip (xs ++ zs) (ys ++ ws) ≡ zip xs ys ++ zip zs ws
zip-append [] zs [] ws h = refl
zip-append [] zs (y ∷ ys) ws h = absurd (omega arith)
zip-append (x ∷ xs) zs [] ws h = absurd (omega arith)
zip-append (x ∷ xs) zs (y ∷ ys) ws h = ap (λ l. (x, y) ∷ l) (zip-append xs zs ys ws (omega arith))

-- ---- legal records

pub LegalAfter-snoc : (before r : List Entry) (e : Entry) → LegalAfter before r → Answer (before ++ r) e.step e.drawn.ids e.reply → LegalAfter before (r ++ e ∷ [])
LegalAfter-snoc before [] e l a = let P : List Entry → Type 0 = λ b. Answer b e.step e.drawn.ids e.reply in (subst P (append-nil before) a, tt)
LegalAfter-snoc before (x ∷ r) e l a =
    let P : List Entry → Type 0 = λ b. Answer b e.step e.drawn.ids e.reply in
    (l.0, LegalAfter-snoc (before ++ x ∷ []) r e l.1 (subst P (sym (append_assoc before (x ∷ []) r)) a))

-- a legal record goes on by an allowed entry
pub IsLegal-snoc : (r : List Entry) (e : Entry) → IsLegal r → Answer r e.step e.drawn.ids e.reply → IsLegal (r ++ e ∷ [])
unfolding IsLegal
IsLegal-snoc r e l a = LegalAfter-snoc [] r e l a

pub IsLegal-nil : IsLegal []
unfolding IsLegal
IsLegal-nil = tt

legal_induction_after : (P : List Entry → Type 0) → ((r : List Entry) (e : Entry) → P r → Answer r e.step e.drawn.ids e.reply → P (r ++ e ∷ [])) → (before r : List Entry) → LegalAfter before r → P before → P (before ++ r)
legal_induction_after P more before [] l p = subst P (sym (append-nil before)) p
legal_induction_after P more before (x ∷ r) l p =
    subst P (append_assoc before (x ∷ []) r) (legal_induction_after P more (before ++ x ∷ []) r l.1 (more before x p l.0))

-- what the empty record has, and each allowed entry keeps, each legal record has
pub legal_induction : (P : List Entry → Type 0) → P [] → ((r : List Entry) (e : Entry) → P r → Answer r e.step e.drawn.ids e.reply → P (r ++ e ∷ [])) → (r : List Entry) → IsLegal r → P r
unfolding IsLegal
legal_induction P none more r l = legal_induction_after P more [] r l none

-- ---- as many given lists as handed frames

state_stays : (s : Option DeliveryState) → txn_of_state s ≡ None → stripped_state s ≡ s
state_stays None h = refl
state_stays (Some (states.TransactionalState inner)) h = cc h
state_stays (Some _) h = refl

settled_stays : (s : Option DeliveryState) (b : Bool) → txn_of_state s ≡ None → if is_under_txn s then true else b ≡ b
settled_stays None b h = refl
settled_stays (Some (states.TransactionalState inner)) b h = cc h
settled_stays (Some _) b h = refl

pub stripped-plain : (frame : Frame) → txn frame ≡ None → stripped frame ≡ frame
unfolding txn stripped
stripped-plain (frames.Transfer transfer payload) h = ap (λ s. frames.Transfer (record transfer { state = s }) payload) (state_stays transfer.state h)
stripped-plain (frames.Disposition disposition) h =
    ap (λ s. frames.Disposition (record disposition { state = s; settled = if is_under_txn disposition.state then true else disposition.settled })) (state_stays disposition.state h)
    ∙ ap (λ b. frames.Disposition (record disposition { settled = b })) (settled_stays disposition.state disposition.settled h)
stripped-plain _ h = refl

is_plain_none : (o : Option TransactionId) (c : Bool) → is_plain_by o c ≡ true → o ≡ None
is_plain_none None c h = refl
is_plain_none (Some t) c h = cc h

pub plain_none : (frame : Frame) → is_plain_frame frame ≡ true → txn frame ≡ None
plain_none frame h = is_plain_none (txn frame) (is_coordinator_attach frame) h

own_frame : (r : List Entry) (s : Step) → frames_at (steps_of r ++ s ∷ []) (length r ∷ []) ≡ frame_of_step (Some s)
own_frame r s = ap (λ o. frame_of_step o ++ []) (ap (slice_get (steps_of r ++ s ∷ [])) (sym (length-map r (λ (x : Entry). x.step))) ∙ slice_get-at (steps_of r) [] s) ∙ append-nil (frame_of_step (Some s))

-- a plain frame is handed itself
pub hands-plain : (r : List Entry) (frame : Frame) → is_plain_frame frame ≡ true → hands r (steps.Frame frame) ≡ frame ∷ []
hands-plain r frame h =
    ap (λ b. map stripped (frames_at (steps_of r ++ steps.Frame frame ∷ []) (cond b (length r ∷ []) []))) h
    ∙ ap (map stripped) (own_frame r (steps.Frame frame))
    ∙ ap (λ f. f ∷ []) (stripped-plain frame (plain_none frame h))

pub hands-other_frame : (r : List Entry) (frame : Frame) → is_plain_frame frame ≡ false → hands r (steps.Frame frame) ≡ []
hands-other_frame r frame h = ap (λ b. map stripped (frames_at (steps_of r ++ steps.Frame frame ∷ []) (cond b (length r ∷ []) []))) h

-- a commit hands the transaction's frames, stripped
pub hands-commit : (r : List Entry) (k : ℕ) (payload : List ℕ) (t : TransactionId) → commits r (steps.Control k payload) ≡ Some t → hands r (steps.Control k payload) ≡ map stripped (frames_of r t)
hands-commit r k payload t h =
    ap (λ o. map stripped (frames_at (steps_of r ++ steps.Control k payload ∷ []) (sources_of r o))) h
    ∙ ap (map stripped) (frames_at-front (steps_of r) (steps.Control k payload ∷ []) (frame_places r t) (places-below_steps r t))

pub hands-no_commit : (r : List Entry) (k : ℕ) (payload : List ℕ) → commits r (steps.Control k payload) ≡ None → hands r (steps.Control k payload) ≡ []
hands-no_commit r k payload h = ap (λ o. map stripped (frames_at (steps_of r ++ steps.Control k payload ∷ []) (sources_of r o))) h

-- ---- an allowed reply gives one list for each frame handed

pub length-AllWindowsFit : (handed : List Frame) (answers : List Answers) → AllWindowsFit handed answers → length answers ≡ length handed
length-AllWindowsFit [] [] w = refl
length-AllWindowsFit [] (a ∷ answers) w = absurd w
length-AllWindowsFit (f ∷ handed) [] w = absurd w
length-AllWindowsFit (f ∷ handed) (a ∷ answers) w = ap suc (length-AllWindowsFit handed answers w.1)

-- a plain frame is answered by frames
pub plain_answered : (r : List Entry) (frame : Frame) (o : Option TransactionId) (reply : Reply) → is_plain_by o (is_coordinator_attach frame) ≡ true → AnswerFrame r frame o reply → (a : Answers) × (reply ≡ replies.Frames a)
plain_answered r frame o (replies.Frames a) h x = (a, refl)
plain_answered r frame None (replies.Attached link given) h x = let e : not (is_coordinator_attach frame) ≡ false = ap not x.0 in cc
plain_answered r frame None (replies.AttachRefused error) h x = let e : not (is_coordinator_attach frame) ≡ false = ap not x in cc
plain_answered r frame (Some t) _ h x = cc h
plain_answered r frame None _ h x = absurd x

given_other : (frame : Frame) (reply : Reply) → is_plain_frame frame ≡ false → given_by (steps.Frame frame) reply ≡ []
given_other frame (replies.Frames a) h = ap (λ b. cond b (a.given ∷ []) []) h
given_other frame _ h = refl

given_lengths_frame : (r : List Entry) (frame : Frame) (d : List TransactionId) (reply : Reply) (b : Bool) → is_plain_frame frame ≡ b → Answer r (steps.Frame frame) d reply → length (hands r (steps.Frame frame)) ≡ length (given_by (steps.Frame frame) reply)
given_lengths_frame r frame d reply false h a = ap length (hands-other_frame r frame h) ∙ sym (ap length (given_other frame reply h))
given_lengths_frame r frame d reply true h a =
    let (answers, e) = plain_answered r frame (txn frame) reply h a.1 in
    ap length (hands-plain r frame h)
    ∙ sym (ap (λ x. length (given_by (steps.Frame frame) x)) e ∙ ap (λ b. length (cond b (answers.given ∷ []) [])) h)

no_commit_lengths : (r : List Entry) (k : ℕ) (payload : List ℕ) (reply : Reply) → commits r (steps.Control k payload) ≡ None → given_by (steps.Control k payload) reply ≡ [] → length (hands r (steps.Control k payload)) ≡ length (given_by (steps.Control k payload) reply)
no_commit_lengths r k payload reply h g = ap length (hands-no_commit r k payload h) ∙ sym (ap length g)

pub commits-at : (r : List Entry) (k : ℕ) (payload : List ℕ) (b : Bool) (m : Option ControlMessageBody) → is_open r k ≡ b → message_of payload ≡ m → commits r (steps.Control k payload) ≡ if_open b (commits_message r k m)
commits-at r k payload b m o e = ap (λ x. if_open x (commits_message r k (message_of payload))) o ∙ ap (λ x. if_open b (commits_message r k x)) e

-- an accepted discharge that isn't a rollback commits
pub commits-discharge : (r : List Entry) (k : ℕ) (payload : List ℕ) (discharge : Discharge) → is_open r k ≡ true → message_of payload ≡ Some (messages.Discharge discharge) → is_rollback discharge.fail ≡ false → is_held_on r k discharge.txn_id ≡ true → commits r (steps.Control k payload) ≡ Some discharge.txn_id
commits-discharge r k payload discharge o e f h =
    commits-at r k payload true (Some (messages.Discharge discharge)) o e
    ∙ ap (λ x. cond (not x && is_held_on r k discharge.txn_id) (Some discharge.txn_id) None) f ∙ ap (λ x. cond x (Some discharge.txn_id) None) h

pub commits-rollback : (r : List Entry) (k : ℕ) (payload : List ℕ) (discharge : Discharge) → is_open r k ≡ true → message_of payload ≡ Some (messages.Discharge discharge) → is_rollback discharge.fail ≡ true → commits r (steps.Control k payload) ≡ None
commits-rollback r k payload discharge o e f =
    commits-at r k payload true (Some (messages.Discharge discharge)) o e
    ∙ ap (λ x. cond (not x && is_held_on r k discharge.txn_id) (Some discharge.txn_id) None) f

pub not_held_no_commit : (r : List Entry) (k : ℕ) (payload : List ℕ) (discharge : Discharge) → is_open r k ≡ true → message_of payload ≡ Some (messages.Discharge discharge) → is_held_on r k discharge.txn_id ≡ false → commits r (steps.Control k payload) ≡ None
not_held_no_commit r k payload discharge o e h =
    commits-at r k payload true (Some (messages.Discharge discharge)) o e
    ∙ ap (λ x. cond (not (is_rollback discharge.fail) && x) (Some discharge.txn_id) None) h ∙ ap (λ x. cond x (Some discharge.txn_id) None) (and_right (not (is_rollback discharge.fail)) false refl)

accepted_lengths : (r : List Entry) (k : ℕ) (payload : List ℕ) (discharge : Discharge) (echoes : List Answers) (rb : Bool) → is_open r k ≡ true → message_of payload ≡ Some (messages.Discharge discharge) → is_rollback discharge.fail ≡ rb → is_held_on r k discharge.txn_id ≡ true → Echoed r discharge.txn_id rb echoes → length (hands r (steps.Control k payload)) ≡ length (map (λ (x : Answers). x.given) echoes)
accepted_lengths r k payload discharge echoes true o e f h a =
    ap length (hands-no_commit r k payload (commits-rollback r k payload discharge o e f)) ∙ sym (ap (λ x. length (map (λ (y : Answers). y.given) x)) a)
accepted_lengths r k payload discharge echoes false o e f h a =
    let t = discharge.txn_id in
    ap length (hands-commit r k payload t (commits-discharge r k payload discharge o e f h))
    ∙ length-map (frames_of r t) stripped ∙ sym (length-AllWindowsFit (frames_of r t) echoes a) ∙ sym (length-map echoes (λ (y : Answers). y.given))

-- a reply that gives nothing back, to a message that commits nothing
declare_lengths : (r : List Entry) (k : ℕ) (payload : List ℕ) (declare : Declare) (g : Option TransactionId) (d : List TransactionId) (reply : Reply) → is_rejected reply ≡ false → is_open r k ≡ true → message_of payload ≡ Some (messages.Declare declare) → AnswerDeclare r g d reply → length (hands r (steps.Control k payload)) ≡ length (given_by (steps.Control k payload) reply)
declare_lengths r k payload declare g d (replies.Rejected error text) n o e a = cc n
declare_lengths r k payload declare g d (replies.Declared t) n o e a = no_commit_lengths r k payload (replies.Declared t) (commits-at r k payload true (Some (messages.Declare declare)) o e) refl
declare_lengths r k payload declare None d _ n o e a = absurd a
declare_lengths r k payload declare (Some global) d _ n o e a = absurd a

discharge_lengths : (r : List Entry) (k : ℕ) (payload : List ℕ) (discharge : Discharge) (d : List TransactionId) (reply : Reply) → is_rejected reply ≡ false → is_open r k ≡ true → message_of payload ≡ Some (messages.Discharge discharge) → AnswerDischarge r k discharge.txn_id discharge.fail d reply → length (hands r (steps.Control k payload)) ≡ length (given_by (steps.Control k payload) reply)
discharge_lengths r k payload discharge d (replies.Accepted echoes) n o e a = accepted_lengths r k payload discharge echoes (is_rollback discharge.fail) o e refl a.0 a.2
discharge_lengths r k payload discharge d (replies.Rejected error text) n o e a = cc n
discharge_lengths r k payload discharge d _ n o e a = absurd a

message_lengths : (r : List Entry) (k : ℕ) (payload : List ℕ) (d : List TransactionId) (reply : Reply) (m : Option ControlMessageBody) → is_rejected reply ≡ false → is_open r k ≡ true → message_of payload ≡ m → AnswerMessage r k m d reply → length (hands r (steps.Control k payload)) ≡ length (given_by (steps.Control k payload) reply)
message_lengths r k payload d (replies.LinkClosed error) None n o e a = no_commit_lengths r k payload (replies.LinkClosed error) (commits-at r k payload true None o e) refl
message_lengths r k payload d _ None n o e a = absurd a
message_lengths r k payload d reply (Some (messages.Declare declare)) n o e a = declare_lengths r k payload declare declare.global_id d reply n o e a
message_lengths r k payload d reply (Some (messages.Discharge discharge)) n o e a = discharge_lengths r k payload discharge d reply n o e a

given_lengths_open : (r : List Entry) (k : ℕ) (payload : List ℕ) (d : List TransactionId) (reply : Reply) (b : Bool) → is_rejected reply ≡ false → is_open r k ≡ b → AnswerControl r k b (message_of payload) d reply → length (hands r (steps.Control k payload)) ≡ length (given_by (steps.Control k payload) reply)
given_lengths_open r k payload d reply true n o a = message_lengths r k payload d reply (message_of payload) n o refl a
given_lengths_open r k payload d replies.NoLink false n o a = no_commit_lengths r k payload replies.NoLink (commits-at r k payload false (message_of payload) o refl) refl
given_lengths_open r k payload d _ false n o a = absurd a

not_rejected_lengths : (r : List Entry) (s : Step) (d : List TransactionId) (reply : Reply) → is_rejected reply ≡ false → Answer r s d reply → length (hands r s) ≡ length (given_by s reply)
not_rejected_lengths r (steps.Frame frame) d reply n a = given_lengths_frame r frame d reply (is_plain_frame frame) refl a
not_rejected_lengths r (steps.Control k payload) d reply n a = given_lengths_open r k payload d reply (is_open r k) n refl a
not_rejected_lengths r (steps.LinkEnd k) d reply n a = refl
not_rejected_lengths r _ d reply n a = refl

-- what is rejected gives nothing back
pub given-rejected : (s : Step) (reply : Reply) → is_rejected reply ≡ true → given_by s reply ≡ []
given-rejected (steps.Frame frame) (replies.Frames answers) h = cc h
given-rejected (steps.Control k payload) (replies.Accepted echoes) h = cc h
given-rejected _ _ h = refl

pub handed-rejected : (r : List Entry) (s : Step) (reply : Reply) → is_rejected reply ≡ true → handed_by r s reply ≡ []
handed-rejected r s reply h = ap (λ b. cond b [] (hands r s)) h

pub handed-answered : (r : List Entry) (s : Step) (reply : Reply) → is_rejected reply ≡ false → handed_by r s reply ≡ hands r s
handed-answered r s reply h = ap (λ b. cond b [] (hands r s)) h

pub given_lengths : (r : List Entry) (s : Step) (d : List TransactionId) (reply : Reply) → Answer r s d reply → length (handed_by r s reply) ≡ length (given_by s reply)
given_lengths r s d reply a = by_case (is_rejected reply) refl
  where
    by_case : (b : Bool) → is_rejected reply ≡ b → length (handed_by r s reply) ≡ length (given_by s reply)
    by_case true h = ap length (handed-rejected r s reply h) ∙ sym (ap length (given-rejected s reply h))
    by_case false h = ap length (handed-answered r s reply h) ∙ not_rejected_lengths r s d reply h a

none_handed : length (work []) ≡ length (given_back [])
unfolding work given_back
none_handed = refl

more_handed : (r : List Entry) (e : Entry) → length (work r) ≡ length (given_back r) → Answer r e.step e.drawn.ids e.reply → length (work (r ++ e ∷ [])) ≡ length (given_back (r ++ e ∷ []))
more_handed r e h a =
    ap length (work-snoc r e) ∙ length-append (work r) (handed_by r e.step e.reply)
    ∙ ap (λ n. n + length (handed_by r e.step e.reply)) h ∙ ap (λ n. length (given_back r) + n) (given_lengths r e.step e.drawn.ids e.reply a)
    ∙ sym (length-append (given_back r) (given_by e.step e.reply)) ∙ sym (ap length (given-snoc r e))

pub work_given : (r : List Entry) → IsLegal r → length (work r) ≡ length (given_back r)
work_given r l = legal_induction (λ x. length (work x) ≡ length (given_back x)) none_handed more_handed r l

-- the pairs, with one entry more
pub pairs-snoc : (r : List Entry) (e : Entry) → IsLegal r → pairs (r ++ e ∷ []) ≡ pairs r ++ zip (handed_by r e.step e.reply) (given_by e.step e.reply)
unfolding pairs
pairs-snoc r e l =
    ap (λ ws. zip ws (given_back (r ++ e ∷ []))) (work-snoc r e)
    ∙ ap (zip (work r ++ handed_by r e.step e.reply)) (given-snoc r e)
    ∙ zip-append (work r) (handed_by r e.step e.reply) (given_back r) (given_by e.step e.reply) (work_given r l)

-- ---- links of a legal record

-- no link from the number of attached ones on was attached or closed
abbrev pub Fresh : List Entry → Type 0
Fresh r = (k : ℕ) → attached_count r ≤ k → (list_any (attaches k) r ≡ false) × (list_any (closes k) r ≡ false)

pub count-snoc : (r : List Entry) (e : Entry) → attached_count (r ++ e ∷ []) ≡ attached_count r + cond (is_attached e.reply) 1 0
count-snoc r e = sum_by-append (λ (x : Entry). cond (is_attached x.reply) 1 0) r (e ∷ []) ∙ ap (λ n. attached_count r + n) (zero-add (cond (is_attached e.reply) 1 0))

linkend_open : (b : Bool) → AnswerLinkEnd b replies.LinkEnded → b ≡ true
linkend_open true a = refl
linkend_open false a = absurd a

control_open : (r : List Entry) (k : ℕ) (b : Bool) (m : Option ControlMessageBody) (d : List TransactionId) (error : AmqpError) → AnswerControl r k b m d (replies.LinkClosed error) → b ≡ true
control_open r k true m d error a = refl
control_open r k false m d error a = absurd a

open_at : (r : List Entry) (j k : ℕ) → is_open r j ≡ true → (j == k) ≡ true → is_open r k ≡ true
open_at r j k o h = ap (is_open r) (sym (eqb-true j k h)) ∙ o

-- what closes a link found it open
pub closes_open : (r : List Entry) (k : ℕ) (s : Step) (d : List TransactionId) (reply : Reply) → Answer r s d reply → step_closes k s reply ≡ true → is_open r k ≡ true
closes_open r k (steps.LinkEnd j) d replies.LinkEnded a h = open_at r j k (linkend_open (is_open r j) a.1) h
closes_open r k (steps.Control j payload) d (replies.LinkClosed error) a h = open_at r j k (control_open r j (is_open r j) (message_of payload) d error a) h
closes_open r k _ d _ a h = cc h

open_attached : (r : List Entry) (k : ℕ) → is_open r k ≡ true → list_any (attaches k) r ≡ true
unfolding is_open
open_attached r k h = (and_parts (list_any (attaches k) r) (not (list_any (closes k) r)) h).0

attached_frame : (r : List Entry) (frame : Frame) (o : Option TransactionId) (link : ℕ) (given : List Frame) → AnswerFrame r frame o (replies.Attached link given) → link ≡ attached_count r
attached_frame r frame None link given a = a.1
attached_frame r frame (Some t) link given a = absurd a

attached_declare : (r : List Entry) (g : Option TransactionId) (d : List TransactionId) (link : ℕ) (given : List Frame) → AnswerDeclare r g d (replies.Attached link given) → ⊥
attached_declare r None d link given a = a
attached_declare r (Some global) d link given a = a

attached_control : (r : List Entry) (k : ℕ) (b : Bool) (m : Option ControlMessageBody) (d : List TransactionId) (link : ℕ) (given : List Frame) → AnswerControl r k b m d (replies.Attached link given) → ⊥
attached_control r k false m d link given a = a
attached_control r k true None d link given a = a
attached_control r k true (Some (messages.Declare declare)) d link given a = attached_declare r declare.global_id d link given a
attached_control r k true (Some (messages.Discharge discharge)) d link given a = a

attached_linkend : (b : Bool) (link : ℕ) (given : List Frame) → AnswerLinkEnd b (replies.Attached link given) → ⊥
attached_linkend true link given a = a
attached_linkend false link given a = a

-- an attached link has the next number
pub attached_number : (r : List Entry) (s : Step) (d : List TransactionId) (link : ℕ) (given : List Frame) → Answer r s d (replies.Attached link given) → link ≡ attached_count r
attached_number r (steps.Frame frame) d link given a = attached_frame r frame (txn frame) link given a.1
attached_number r (steps.Control k payload) d link given a = absurd (attached_control r k (is_open r k) (message_of payload) d link given a)
attached_number r (steps.LinkEnd k) d link given a = absurd (attached_linkend (is_open r k) link given a.1)
attached_number r _ d link given a = absurd a

attaches_below : (r : List Entry) (k : ℕ) (s : Step) (d : List TransactionId) (reply : Reply) → Answer r s d reply → attached_count r + cond (is_attached reply) 1 0 ≤ k → reply_attaches k reply ≡ true → ⊥
attaches_below r k s d (replies.Attached link given) a h t = omega (arith, attached_number r s d link given a, eqb-true link k t)
attaches_below r k s d _ a h t = cc t

both_false : (a b : Bool) → a ≡ false → b ≡ false → (a || (b || false)) ≡ false
both_false false false h g = refl
both_false true b h g = cc h
both_false false true h g = cc g

closes_attached : (k : ℕ) (s : Step) (link : ℕ) (given : List Frame) → step_closes k s (replies.Attached link given) ≡ false
closes_attached k (steps.Control j p) link given = refl
closes_attached k (steps.LinkEnd j) link given = refl
closes_attached k _ link given = refl

none_fresh : Fresh []
none_fresh k h = (refl, refl)

more_fresh : (r : List Entry) (e : Entry) → Fresh r → Answer r e.step e.drawn.ids e.reply → Fresh (r ++ e ∷ [])
more_fresh r e f a k h =
    let more : attached_count r + cond (is_attached e.reply) 1 0 ≤ k = let P : ℕ → Type 0 = λ n. n ≤ k in subst P (count-snoc r e) h in
    let below : attached_count r ≤ k = omega arith in
    let old = f k below in
    let no_attach : attaches k e ≡ false = false_from_ne_true (attaches k e) (attaches_below r k e.step e.drawn.ids e.reply a more) in
    let no_close : closes k e ≡ false = false_from_ne_true (closes k e) (λ t.
    let at : list_any (attaches k) r ≡ true = open_attached r k (closes_open r k e.step e.drawn.ids e.reply a t) in cc (at, old.0)) in (
      list_any-append (attaches k) r (e ∷ []) ∙ both_false (list_any (attaches k) r) (attaches k e) old.0 no_attach,
      list_any-append (closes k) r (e ∷ []) ∙ both_false (list_any (closes k) r) (closes k e) old.1 no_close,
    )

pub fresh_links : (r : List Entry) → IsLegal r → Fresh r
fresh_links r l = legal_induction Fresh none_fresh more_fresh r l

-- an attached link is open
pub is_open-attached : (r : List Entry) (e : Entry) (link : ℕ) (given : List Frame) → IsLegal r → e.reply ≡ replies.Attached link given → link ≡ attached_count r → is_open (r ++ e ∷ []) link ≡ true
unfolding is_open
is_open-attached r e link given l h n =
    let old = fresh_links r l link (omega arith) in
    ap (λ b. b && not (list_any (closes link) (r ++ e ∷ []))) (list_any-append (attaches link) r (e ∷ []) ∙ ap (λ b. b || (attaches link e || false)) old.0 ∙ ap (λ x. reply_attaches link x || false) h ∙ ap (λ b. b || false) (eq-eqb link link refl))
    ∙ ap not (list_any-append (closes link) r (e ∷ []) ∙ ap (λ b. b || (closes link e || false)) old.1 ∙ ap (λ x. step_closes link e.step x || false) h ∙ ap (λ b. b || false) (closes_attached link e.step link given))

-- an open link has a number below that of the attached ones
pub open_below : (r : List Entry) (k : ℕ) → IsLegal r → is_open r k ≡ true → k < attached_count r
open_below r k l o = by_case (cases_lt k (attached_count r))
  where
    by_case : (k < attached_count r) ⊎ (attached_count r ≤ k) → k < attached_count r
    by_case (inl h) = h
    by_case (inr h) = let a : list_any (attaches k) r ≡ true = open_attached r k o in let f : list_any (attaches k) r ≡ false = (fresh_links r l k h).0 in cc (a, f)

control_declared : (r : List Entry) (k : ℕ) (b : Bool) (m : Option ControlMessageBody) (d : List TransactionId) (t : TransactionId) → AnswerControl r k b m d (replies.Declared t) → b ≡ true
control_declared r k true m d t a = refl
control_declared r k false m d t a = absurd a

frame_declared : (r : List Entry) (frame : Frame) (o : Option TransactionId) (t : TransactionId) → AnswerFrame r frame o (replies.Declared t) → ⊥
frame_declared r frame None t a = a
frame_declared r frame (Some u) t a = a

linkend_declared : (b : Bool) (t : TransactionId) → AnswerLinkEnd b (replies.Declared t) → ⊥
linkend_declared true t a = a
linkend_declared false t a = a

-- only a control message declares
pub declared_control : (r : List Entry) (s : Step) (d : List TransactionId) (t : TransactionId) → Answer r s d (replies.Declared t) → (k : ℕ) × (payload : List ℕ) × (s ≡ steps.Control k payload)
declared_control r (steps.Frame frame) d t a = absurd (frame_declared r frame (txn frame) t a.1)
declared_control r (steps.Control k payload) d t a = (k, payload, refl)
declared_control r (steps.LinkEnd k) d t a = absurd (linkend_declared (is_open r k) t a.1)
declared_control r _ d t a = absurd a

-- a declare is answered on an open link
pub declared_open : (r : List Entry) (s : Step) (d : List TransactionId) (t : TransactionId) → Answer r s d (replies.Declared t) → is_open_at r (step_link s) ≡ true
declared_open r (steps.Frame frame) d t a = absurd (frame_declared r frame (txn frame) t a.1)
declared_open r (steps.Control k payload) d t a = control_declared r k (is_open r k) (message_of payload) d t a
declared_open r (steps.LinkEnd k) d t a = absurd (linkend_declared (is_open r k) t a.1)
declared_open r _ d t a = absurd a

pub declares_open : (r : List Entry) (s : Step) (d : List TransactionId) (reply : Reply) (t : TransactionId) → Answer r s d reply → reply_declares t reply ≡ true → is_open_at r (step_link s) ≡ true
declares_open r s d (replies.Declared u) t a h = declared_open r s d u a
declares_open r s d _ t a h = cc h

-- what is declared and not discharged was declared on a link that was attached
abbrev pub HomesAttached : List Entry → Type 0
HomesAttached r = IsLegal r × ((t : TransactionId) (k : ℕ) → undischarged r t ≡ true → home r t ≡ Some k → k < attached_count r)

none_homes : HomesAttached []
unfolding undischarged since
none_homes = (IsLegal-nil, λ t k h q. cc h)

more_homes : (r : List Entry) (e : Entry) → HomesAttached r → Answer r e.step e.drawn.ids e.reply → HomesAttached (r ++ e ∷ [])
more_homes r e p a = (IsLegal-snoc r e p.0 a, λ t k h q. by_case t k (declares t e) refl h q)
  where
    by_case : (t : TransactionId) (k : ℕ) (b : Bool) → declares t e ≡ b → undischarged (r ++ e ∷ []) t ≡ true → home (r ++ e ∷ []) t ≡ Some k → k < attached_count (r ++ e ∷ [])
    by_case t k true d h q =
        let named : step_link e.step ≡ Some k = sym (home-declared r e t d) ∙ q in
        let o : is_open r k ≡ true = ap (is_open_at r) (sym named) ∙ declares_open r e.step e.drawn.ids e.reply t a d in
        omega (arith, count-snoc r e, open_below r k p.0 o)
    by_case t k false d h q =
        let u : undischarged r t ≡ true = (and_parts (undischarged r t) (not (discharges t e)) (sym (undischarged-other r e t d) ∙ h)).0 in
        omega (arith, count-snoc r e, p.1 t k u (sym (home-other r e t d) ∙ q))

pub homes_attached : (r : List Entry) (t : TransactionId) (k : ℕ) → IsLegal r → undischarged r t ≡ true → home r t ≡ Some k → k < attached_count r
homes_attached r t k l u q = (legal_induction HomesAttached none_homes more_homes r l).1 t k u q
