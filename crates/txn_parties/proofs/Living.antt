-- One entry more, for each transaction.
use Rattle.std.proofs.Common.{◌≡◌, ℕ, ◌<◌, ◌≤◌, Bool, true, false, cond, not, ◌&&◌, ◌||◌, Option, Some, None, List, [], ◌∷◌, ◌++◌, length, refl, sym, ◌∙◌, ap, arith, subst, append-nil, append_assoc, ◌⊎◌, inl, inr}
use Rattle.std.specs.Prelude.{◌==◌}
use Rattle.std.specs.List.{list_any}
use Rattle.std.proofs.lemmas.List.{length-append}
use Rattle.std.proofs.lemmas.List.Folds.{list_any-append}
use Rattle.std.proofs.lemmas.Bool.{cases_lt, eqb-true, eq-eqb, false_from_ne_true}
use Rattle.amqp_txn_types.specs.declared.id.TransactionId.{TransactionId}
use Rattle.amqp_txn_types.specs.declared.performatives.Frame.{Frame}
use Rattle.amqp_txn_types.specs.Frames.{txn}
use Rattle.amqp_txn_types.specs.Ids.{same_id}
use Rattle.amqp_txn_types.specs.declared.small.AmqpError.{AmqpError}
use Rattle.amqp_txn_types.specs.declared.small.TransactionError.{TransactionError}
use Rattle.amqp_txn_types.specs.declared.small.TransactionError.TheVariants as transaction_errors
use Rattle.amqp_txn_codec.specs.declared.message.ControlMessageBody.{ControlMessageBody}
use Rattle.amqp_txn_codec.specs.declared.message.ControlMessageBody.TheVariants as messages
use Rattle.amqp_txn_codec.specs.Canon.{canon}
use Rattle.amqp_txn_codec.specs.Discharges.{is_rollback}
use Rattle.amqp_txn_codec.specs.Reading.{message_of}
use Rattle.amqp_txn_codec.proofs.Readings.{declare-reads, discharge-reads}
use Rattle.amqp_below_layer.specs.declared.answers.Answers.{Answers}
use Rattle.amqp_below_ids.specs.Drawn.{DrawnIds}
use Rattle.amqp_resource_record.specs.declared.entry.Entry.{Entry}
use Rattle.amqp_resource_record.specs.declared.step.Step.{Step}
use Rattle.amqp_resource_record.specs.declared.step.Step.TheVariants as steps
use Rattle.amqp_resource_record.specs.declared.reply.Reply.{Reply}
use Rattle.amqp_resource_record.specs.declared.reply.Reply.TheVariants as replies
use Rattle.amqp_resource_record.specs.declared.reply.RejectText.{RejectText}
use Rattle.amqp_resource_record.specs.declared.reply.RejectText.TheVariants as texts
use Rattle.amqp_resource_record.specs.Entries.{attaches, reply_attaches, closes, step_closes, declares, reply_declares, discharges, step_discharges, message_discharges, is_under, step_link}
use Rattle.amqp_resource_record.specs.Links.{is_open, attached_count}
use Rattle.amqp_resource_record.specs.Live.{since, home, is_link, is_live, is_held_on, is_open_at, undischarged, frame_places}
use Rattle.amqp_resource_record.specs.Hands.{sources_of}
use Rattle.amqp_resource_record.specs.Work.{origins, sources_by}
use Rattle.amqp_resource_record.specs.Answers.{Answer, AnswerFrame, AnswerLinkEnd, AnswerDeclare, AnswerDischarge, AnswerControl, AnswerMessage}
use Rattle.amqp_resource_record.specs.Legal.{IsLegal}
use Rattle.amqp_resource_record.proofs.Ids.{same_id-eq, same_id-refl}
use Rattle.amqp_resource_record.proofs.Looking.{places-below, places-declared, places-other, undischarged-other, undischarged-declared, home-declared, home-other, since-snoc, is_open-closed}
use Rattle.amqp_resource_record.proofs.Living.{live-at, live_open, live_undischarged, ended_dead, undischarged-ended}
use Rattle.amqp_resource_record.proofs.Whole.{attached_number, homes_attached, declared_open, commits-discharge, commits-rollback}
use Rattle.amqp_resource_record.proofs.Origins.{origins-snoc}
use Rattle.txn_parties.specs.declared.item.Item.{Item}
use Rattle.txn_parties.specs.declared.item.Item.TheVariants as items
use Rattle.txn_parties.specs.Times.{times}
use Rattle.txn_parties.specs.Items.{declare_message, discharge_message, step_of}
use Rattle.txn_parties.specs.Turns.{entry_by, IsShort}
use Rattle.txn_parties.specs.Lives.{Life, Unborn, Runs, Took, Spent, born, ended, runs_next, unborn_next, next_life, Dead, Running, Holds, Apart, Fits}
use Rattle.txn_parties.proofs.Once.{once, own_or, times-below, origins_times, places_times, added, added_least, After, New, Old, after, Hands, Nothing, Itself, Commits, hands_what}

-- ---- live ids

live_from : (r : List Entry) (t : TransactionId) (k : ℕ) → undischarged r t ≡ true → home r t ≡ Some k → is_open r k ≡ true → is_live r t ≡ true
live_from r t k u h o = live-at r t ∙ ap (λ b. b && is_open_at r (home r t)) u ∙ ap (is_open_at r) h ∙ o

and_false : (a b : Bool) → b ≡ false → (a && b) ≡ false
and_false true b h = h
and_false false b h = refl

not_open : (r : List Entry) (t : TransactionId) (k : ℕ) → home r t ≡ Some k → is_open r k ≡ false → is_live r t ≡ false
not_open r t k h o = live-at r t ∙ and_false (undischarged r t) (is_open_at r (home r t)) (ap (is_open_at r) h ∙ o)

-- the home of a live id is open
home_open : (r : List Entry) (t : TransactionId) (k : ℕ) → is_live r t ≡ true → home r t ≡ Some k → is_open r k ≡ true
home_open r t k l h = ap (is_open_at r) (sym h) ∙ live_open r t l

-- ---- links

stays : (a b c d : Bool) → (a && not c) ≡ true → d ≡ false → ((a || (b || false)) && not (c || (d || false))) ≡ true
stays true b false false h g = refl
stays true b true d h g = cc h
stays false b c d h g = cc h
stays true b false true h g = cc g

-- an open link that the entry doesn't close stays open
open_stays : (r : List Entry) (e : Entry) (k : ℕ) → is_open r k ≡ true → closes k e ≡ false → is_open (r ++ e ∷ []) k ≡ true
unfolding is_open
open_stays r e k o c = simp (list_any-append (attaches k) r (e ∷ []), list_any-append (closes k) r (e ∷ [])) (stays (list_any (attaches k) r) (attaches k e) (list_any (closes k) r) (closes k e) o c)

was : (a b c d : Bool) → ((a || (b || false)) && not (c || (d || false))) ≡ true → b ≡ false → (a && not c) ≡ true
was a true c d h g = cc g
was true false false d h g = refl
was true false true d h g = cc h
was false false c d h g = cc h

open_was : (r : List Entry) (e : Entry) (k : ℕ) → attaches k e ≡ false → is_open (r ++ e ∷ []) k ≡ true → is_open r k ≡ true
unfolding is_open
open_was r e k a h = was (list_any (attaches k) r) (attaches k e) (list_any (closes k) r) (closes k e) (simp (← list_any-append (attaches k) r (e ∷ []), ← list_any-append (closes k) r (e ∷ [])) h) a

no_attach : (r : List Entry) (k : ℕ) (s : Step) (d : List TransactionId) (reply : Reply) → Answer r s d reply → k < attached_count r → reply_attaches k reply ≡ false
no_attach r k s d (replies.Attached link given) a h = false_from_ne_true (link == k) (λ t. omega (arith, attached_number r s d link given a, eqb-true link k t))
no_attach r k s d _ a h = refl

-- a link with a number below was open before
open_before : (r : List Entry) (e : Entry) (k : ℕ) → Answer r e.step e.drawn.ids e.reply → k < attached_count r → is_open (r ++ e ∷ []) k ≡ true → is_open r k ≡ true
open_before r e k a h o = open_was r e k (no_attach r k e.step e.drawn.ids e.reply a h) o

open_at_before : (r : List Entry) (e : Entry) (o : Option ℕ) → Answer r e.step e.drawn.ids e.reply → ((k : ℕ) → o ≡ Some k → k < attached_count r) → is_open_at (r ++ e ∷ []) o ≡ true → is_open_at r o ≡ true
open_at_before r e None a h o = o
open_at_before r e (Some k) a h o = open_before r e k a (h k refl) o

-- an id that is live after the entry, and undischarged before it, was live before
live_before : (r : List Entry) (e : Entry) (t : TransactionId) → IsLegal r → Answer r e.step e.drawn.ids e.reply → declares t e ≡ false → undischarged r t ≡ true → is_live (r ++ e ∷ []) t ≡ true → is_live r t ≡ true
live_before r e t l a d u h =
    let o : is_open_at (r ++ e ∷ []) (home r t) ≡ true = ap (is_open_at (r ++ e ∷ [])) (sym (home-other r e t d)) ∙ live_open (r ++ e ∷ []) t h in
    live-at r t ∙ ap (λ b. b && is_open_at r (home r t)) u ∙ open_at_before r e (home r t) a (λ k q. homes_attached r t k l u q) o

-- ---- dead places

place_more : (r : List Entry) (e : Entry) (i : ℕ) → i < length r → i < length (r ++ e ∷ [])
place_more r e i h = omega (arith, length-append r (e ∷ []), h, one)
  where
    one : length (e ∷ []) ≡ 1
    one = refl

pub not_own : (m i : ℕ) → i < m → times i (m ∷ []) ≡ 0
not_own m i h = by_own (own_or m i)
  where
    by_own : (times i (m ∷ []) ≡ 0) ⊎ ((times i (m ∷ []) ≡ 1) × (m ≡ i)) → times i (m ∷ []) ≡ 0
    by_own (inl z) = z
    by_own (inr o) = absurd (omega (arith, o.1))

-- a dead place stays dead
pub dead_stays : (r : List Entry) (e : Entry) (i : ℕ) → IsLegal r → Answer r e.step e.drawn.ids e.reply → Dead r i → Dead (r ++ e ∷ []) i
dead_stays r e i l a dead = record {
  below = place_more r e i dead.below;
  handed = omega (arith, origins_times i r e, dead.handed, no_source (hands_what r e.step e.drawn.ids e.reply a));
  kept = λ u h. kept_after u h (after r e u (live_undischarged (r ++ e ∷ []) u h));
}
  where
    no_source : Hands r e.step e.reply → times i (sources_by r e.step e.reply) ≡ 0
    no_source (Nothing s) = ap (times i) s
    no_source (Itself s n) = ap (times i) s ∙ not_own (length r) i dead.below
    no_source (Commits v s c) = ap (times i) s ∙ dead.kept v c.live

    kept_after : (u : TransactionId) → is_live (r ++ e ∷ []) u ≡ true → After r e u → times i (frame_places (r ++ e ∷ []) u) ≡ 0
    kept_after u h (New m) = ap (times i) m
    kept_after u h (Old d un x) = omega (arith, places_times i r e u d un, added_least i r e u, not_own (length r) i dead.below, dead.kept u (live_before r e u l a d un h))

-- the places of an id that ends without a commit are dead
pub dead_now : (r : List Entry) (e : Entry) (t : TransactionId) (i : ℕ) → IsLegal r → Answer r e.step e.drawn.ids e.reply → is_live r t ≡ true → is_live (r ++ e ∷ []) t ≡ false → ((u : TransactionId) → declares u e ≡ false) → ((u : TransactionId) → is_under u e ≡ false) → sources_by r e.step e.reply ≡ [] → 1 ≤ times i (frame_places r t) → Dead (r ++ e ∷ []) i
dead_now r e t i l a live gone dec un src here = record {
  below = place_more r e i (within (cases_lt i (length r)));
  handed = omega (arith, origins_times i r e, ap (times i) src, (once r l).kept i t (live_undischarged r t live), here);
  kept = λ u h. kept_after u h (after r e u (live_undischarged (r ++ e ∷ []) u h)) (same_id u t) refl;
}
  where
    within : (i < length r) ⊎ (length r ≤ i) → i < length r
    within (inl h) = h
    within (inr h) = absurd (omega (arith, times-below (length r) i (frame_places r t) (places-below r t) h, here))

    none_here : (u : TransactionId) → times i (added r e u) ≡ 0
    none_here u = ap (λ b. times i (cond b (length r ∷ []) [])) (un u)

    kept_after : (u : TransactionId) → is_live (r ++ e ∷ []) u ≡ true → After r e u → (b : Bool) → same_id u t ≡ b → times i (frame_places (r ++ e ∷ []) u) ≡ 0
    kept_after u h (New m) b n = ap (times i) m
    kept_after u h (Old d und x) true n =
        let w : is_live (r ++ e ∷ []) u ≡ false = ap (is_live (r ++ e ∷ [])) (same_id-eq u t n) ∙ gone in
        let f : true ≡ false = sym h ∙ w in cc f
    kept_after u h (Old d und x) false n = omega (arith, places_times i r e u d und, none_here u, (once r l).apart i u t und (live_undischarged r t live) n, here)

-- ---- what an arriving item's entry does

-- the message of a declare
pub declare_read : message_of (canon declare_message) ≡ Some declare_message
declare_read = declare-reads declare_message (record { global_id = None }) None refl refl tt

-- the message of a discharge
pub discharge_read : (t : TransactionId) (b : Bool) → length t ≤ 32 → message_of (canon (discharge_message t b)) ≡ Some (discharge_message t b)
discharge_read t b short = discharge-reads (discharge_message t b) (record { txn_id = t; fail = Some b }) refl short

pub rollback_of : (b : Bool) → is_rollback (Some b) ≡ b
rollback_of true = refl
rollback_of false = refl

frame_declares : (r : List Entry) (frame : Frame) (o : Option TransactionId) (u : TransactionId) → AnswerFrame r frame o (replies.Declared u) → ⊥
frame_declares r frame None u a = a
frame_declares r frame (Some v) u a = a

declare_declares : (r : List Entry) (g : Option TransactionId) (d : List TransactionId) (u : TransactionId) → AnswerDeclare r g d (replies.Declared u) → is_live r u ≡ false
declare_declares r None d u a = a.4
declare_declares r (Some global) d u a = absurd a

message_declares : (r : List Entry) (k : ℕ) (m : Option ControlMessageBody) (d : List TransactionId) (u : TransactionId) → AnswerMessage r k m d (replies.Declared u) → is_live r u ≡ false
message_declares r k None d u a = absurd a
message_declares r k (Some (messages.Declare declare)) d u a = declare_declares r declare.global_id d u a
message_declares r k (Some (messages.Discharge discharge)) d u a = absurd a

control_declares : (r : List Entry) (k : ℕ) (b : Bool) (m : Option ControlMessageBody) (d : List TransactionId) (u : TransactionId) → AnswerControl r k b m d (replies.Declared u) → is_live r u ≡ false
control_declares r k true m d u a = message_declares r k m d u a
control_declares r k false m d u a = absurd a

linkend_declares : (b : Bool) (u : TransactionId) → AnswerLinkEnd b (replies.Declared u) → ⊥
linkend_declares true u a = a
linkend_declares false u a = a

-- what is declared wasn't live
pub declared_dead : (r : List Entry) (s : Step) (d : List TransactionId) (u : TransactionId) → Answer r s d (replies.Declared u) → is_live r u ≡ false
declared_dead r (steps.Frame frame) d u a = absurd (frame_declares r frame (txn frame) u a.1)
declared_dead r (steps.Control k payload) d u a = control_declares r k (is_open r k) (message_of payload) d u a
declared_dead r (steps.LinkEnd k) d u a = absurd (linkend_declares (is_open r k) u a.1)
declared_dead r _ d u a = absurd a

-- a live id isn't declared
pub live_not_declared : (r : List Entry) (s : Step) (d : List TransactionId) (reply : Reply) (t : TransactionId) → Answer r s d reply → is_live r t ≡ true → reply_declares t reply ≡ false
live_not_declared r s d (replies.Declared u) t a h = false_from_ne_true (same_id t u) (λ n.
    let g : is_live r t ≡ false = ap (is_live r) (same_id-eq t u n) ∙ declared_dead r s d u a in
    let f : true ≡ false = sym h ∙ g in cc f)
live_not_declared r s d _ t a h = refl

closed_declare : (r : List Entry) (g : Option TransactionId) (d : List TransactionId) (error : AmqpError) → AnswerDeclare r g d (replies.LinkClosed error) → ⊥
closed_declare r None d error a = a
closed_declare r (Some global) d error a = a

closed_message : (r : List Entry) (k : ℕ) (b : Bool) (m : ControlMessageBody) (d : List TransactionId) (error : AmqpError) → AnswerControl r k b (Some m) d (replies.LinkClosed error) → ⊥
closed_message r k false m d error a = a
closed_message r k true (messages.Declare declare) d error a = closed_declare r declare.global_id d error a
closed_message r k true (messages.Discharge discharge) d error a = a

-- a message closes no link
pub not_closed : (r : List Entry) (j k : ℕ) (payload : List ℕ) (m : ControlMessageBody) (d : List TransactionId) (reply : Reply) → message_of payload ≡ Some m → Answer r (steps.Control j payload) d reply → step_closes k (steps.Control j payload) reply ≡ false
not_closed r j k payload m d (replies.LinkClosed error) e a =
    absurd (closed_message r j (is_open r j) m d error (subst (λ (o : Option ControlMessageBody). AnswerControl r j (is_open r j) o d (replies.LinkClosed error)) e a))
not_closed r j k payload m d _ e a = refl

-- a message that discharges no such id
pub not_discharged : (t : TransactionId) (j : ℕ) (payload : List ℕ) (reply : Reply) → message_discharges t (message_of payload) ≡ false → step_discharges t (steps.Control j payload) reply ≡ false
not_discharged t j payload (replies.Accepted echoes) h = h
not_discharged t j payload (replies.Rejected transaction_errors.Rollback text) h = h
not_discharged t j payload _ h = refl

-- a running one goes on
pub runs_on : (r : List Entry) (e : Entry) (p : ℕ) (t : TransactionId) (k : ℕ) (s : List ℕ) → Running r p t k s → declares t e ≡ false → discharges t e ≡ false → closes k e ≡ false → Running (r ++ e ∷ []) p t k (s ++ added r e t)
runs_on r e p t k s w d x c =
    let u : undischarged r t ≡ true = live_undischarged r t w.live in
    let h : home (r ++ e ∷ []) t ≡ Some k = home-other r e t d ∙ w.home in
    let o : is_open r k ≡ true = home_open r t k w.live w.home in record {
      since = since-snoc r e t ∙ ap (λ b. cond b (Some (length r)) (since r t)) d ∙ w.since;
      live = live_from (r ++ e ∷ []) t k (undischarged-other r e t d ∙ ap (λ b. b && not (discharges t e)) u ∙ ap not x) h (open_stays r e k o c);
      home = h;
      span = places-other r e t d u ∙ ap (λ l. l ++ added r e t) w.span;
      short = w.short;
    }

-- where the entry is no frame under its id
pub runs_quiet : (r : List Entry) (e : Entry) (p : ℕ) (t : TransactionId) (k : ℕ) (s : List ℕ) → Running r p t k s → declares t e ≡ false → discharges t e ≡ false → closes k e ≡ false → is_under t e ≡ false → Running (r ++ e ∷ []) p t k s
runs_quiet r e p t k s w d x c un =
    subst (λ (l : List ℕ). Running (r ++ e ∷ []) p t k l) (ap (λ b. s ++ cond b (length r ∷ []) []) un ∙ append-nil s) (runs_on r e p t k s w d x c)

-- a declare that was answered so runs
pub runs_born : (r : List Entry) (e : Entry) (t : TransactionId) (k : ℕ) → declares t e ≡ true → step_link e.step ≡ Some k → is_open r k ≡ true → closes k e ≡ false → length t ≤ 32 → Running (r ++ e ∷ []) (length r) t k []
runs_born r e t k d j o c short =
    let h : home (r ++ e ∷ []) t ≡ Some k = home-declared r e t d ∙ j in record {
      since = since-snoc r e t ∙ ap (λ b. cond b (Some (length r)) (since r t)) d;
      live = live_from (r ++ e ∷ []) t k (undischarged-declared r e t d) h (open_stays r e k o c);
      home = h;
      span = places-declared r e t d;
      short = short;
    }

-- ---- the reply to a running one's own discharge

pub held_on : (r : List Entry) (j : ℕ) (t : TransactionId) → is_live r t ≡ true → home r t ≡ Some j → is_held_on r j t ≡ true
held_on r j t l h = ap (λ b. b && is_link j (home r t)) l ∙ ap (is_link j) h ∙ eq-eqb j j refl

-- it is accepted, or vetoed
pub data Ends (reply : Reply) : Type 0 where
  Accepts : (echoes : List Answers) → reply ≡ replies.Accepted echoes → Ends reply
  Vetoes : (text : RejectText) → reply ≡ replies.Rejected transaction_errors.Rollback text → Ends reply

discharge_ends : (r : List Entry) (j : ℕ) (t : TransactionId) (fail : Option Bool) (d : List TransactionId) (reply : Reply) → is_held_on r j t ≡ true → AnswerDischarge r j t fail d reply → Ends reply
discharge_ends r j t fail d (replies.Accepted echoes) h a = Accepts echoes refl
discharge_ends r j t fail d (replies.Rejected transaction_errors.UnknownId texts.Absent) h a = let no : is_held_on r j t ≡ false = a.0 in let f : true ≡ false = sym h ∙ no in absurd (cc f)
discharge_ends r j t fail d (replies.Rejected transaction_errors.Rollback texts.Absent) h a = Vetoes texts.Absent refl
discharge_ends r j t fail d _ h a = absurd a

pub own_ends : (r : List Entry) (p : ℕ) (t : TransactionId) (j : ℕ) (s : List ℕ) (b : Bool) (d : List TransactionId) (reply : Reply) → Running r p t j s → Answer r (steps.Control j (canon (discharge_message t b))) d reply → Ends reply
own_ends r p t j s b d reply w a =
    let o : is_open r j ≡ true = home_open r t j w.live w.home in
    discharge_ends r j t (Some b) d reply (held_on r j t w.live w.home)
    (subst (λ (x : Option ControlMessageBody). AnswerControl r j true x d reply) (discharge_read t b w.short)
    (subst (λ (x : Bool). AnswerControl r j x (message_of (canon (discharge_message t b))) d reply) o a))

own_discharges : (t : TransactionId) (b : Bool) → length t ≤ 32 → message_discharges t (message_of (canon (discharge_message t b))) ≡ true
own_discharges t b short = ap (message_discharges t) (discharge_read t b short) ∙ same_id-refl t

own_gone : (r : List Entry) (t : TransactionId) (e : Entry) → discharges t e ≡ true → is_live (r ++ e ∷ []) t ≡ false
own_gone r t e h = ended_dead (r ++ e ∷ []) t (undischarged-ended r e t h)

own_dead : (r : List Entry) (p : ℕ) (t : TransactionId) (j : ℕ) (s : List ℕ) (e : Entry) (i : ℕ) → IsLegal r → Running r p t j s → Answer r e.step e.drawn.ids e.reply → discharges t e ≡ true → ((u : TransactionId) → declares u e ≡ false) → ((u : TransactionId) → is_under u e ≡ false) → sources_by r e.step e.reply ≡ [] → 1 ≤ times i s → Dead (r ++ e ∷ []) i
own_dead r p t j s e i l w a x dec un src here =
    dead_now r e t i l a w.live (own_gone r t e x) dec un src (subst (λ (xs : List ℕ). 1 ≤ times i xs) (sym w.span) here)

own_accepted : (r : List Entry) (p : ℕ) (t : TransactionId) (j : ℕ) (s : List ℕ) (b : Bool) (drawn : DrawnIds) (echoes : List Answers) → IsLegal r → Running r p t j s → Answer r (steps.Control j (canon (discharge_message t b))) drawn.ids (replies.Accepted echoes) → Holds (r ++ entry_by (steps.Control j (canon (discharge_message t b))) drawn (replies.Accepted echoes) ∷ []) (ended b (replies.Accepted echoes) t s)
own_accepted r p t j s false drawn echoes l w a =
    let step : Step = steps.Control j (canon (discharge_message t false)) in
    let e : Entry = entry_by step drawn (replies.Accepted echoes) in
    let o : is_open r j ≡ true = home_open r t j w.live w.home in
    let src : sources_by r step (replies.Accepted echoes) ≡ frame_places r t = ap (sources_of r) (commits-discharge r j (canon (discharge_message t false)) (record { txn_id = t; fail = Some false }) o (discharge_read t false w.short) refl (held_on r j t w.live w.home)) in
    (origins r, [], origins-snoc r e ∙ ap (λ l. origins r ++ l) (src ∙ w.span) ∙ sym (append-nil (origins r ++ s)))
own_accepted r p t j s true drawn echoes l w a = λ i here.
    let step : Step = steps.Control j (canon (discharge_message t true)) in
    let e : Entry = entry_by step drawn (replies.Accepted echoes) in
    let o : is_open r j ≡ true = home_open r t j w.live w.home in
    let src : sources_by r step (replies.Accepted echoes) ≡ [] = ap (sources_of r) (commits-rollback r j (canon (discharge_message t true)) (record { txn_id = t; fail = Some true }) o (discharge_read t true w.short) refl) in
    own_dead r p t j s e i l w a (own_discharges t true w.short) (λ u. refl) (λ u. refl) src here

own_vetoed : (r : List Entry) (p : ℕ) (t : TransactionId) (j : ℕ) (s : List ℕ) (b : Bool) (drawn : DrawnIds) (text : RejectText) → IsLegal r → Running r p t j s → Answer r (steps.Control j (canon (discharge_message t b))) drawn.ids (replies.Rejected transaction_errors.Rollback text) → (i : ℕ) → 1 ≤ times i s → Dead (r ++ entry_by (steps.Control j (canon (discharge_message t b))) drawn (replies.Rejected transaction_errors.Rollback text) ∷ []) i
own_vetoed r p t j s b drawn text l w a i here =
    own_dead r p t j s (entry_by (steps.Control j (canon (discharge_message t b))) drawn (replies.Rejected transaction_errors.Rollback text)) i l w a (own_discharges t b w.short) (λ u. refl) (λ u. refl) refl here

ended_rejected : (b : Bool) (error : TransactionError) (text : RejectText) (t : TransactionId) (s : List ℕ) → ended b (replies.Rejected error text) t s ≡ Spent t s
ended_rejected true error text t s = refl
ended_rejected false error text t s = refl

-- what its own discharge leaves of it
own_end : (r : List Entry) (p : ℕ) (t : TransactionId) (j : ℕ) (s : List ℕ) (b : Bool) (drawn : DrawnIds) (reply : Reply) → IsLegal r → Running r p t j s → Answer r (steps.Control j (canon (discharge_message t b))) drawn.ids reply → Holds (r ++ entry_by (steps.Control j (canon (discharge_message t b))) drawn reply ∷ []) (ended b reply t s)
own_end r p t j s b drawn reply l w a = by_end (own_ends r p t j s b drawn.ids reply w a)
  where
    by_end : Ends reply → Holds (r ++ entry_by (steps.Control j (canon (discharge_message t b))) drawn reply ∷ []) (ended b reply t s)
    by_end (Accepts echoes e) =
        let P : Reply → Type 0 = λ x. Answer r (steps.Control j (canon (discharge_message t b))) drawn.ids x → Holds (r ++ entry_by (steps.Control j (canon (discharge_message t b))) drawn x ∷ []) (ended b x t s) in
        subst P (sym e) (λ a2. own_accepted r p t j s b drawn echoes l w a2) a
    by_end (Vetoes text e) =
        let P : Reply → Type 0 = λ x. Answer r (steps.Control j (canon (discharge_message t b))) drawn.ids x → Holds (r ++ entry_by (steps.Control j (canon (discharge_message t b))) drawn x ∷ []) (ended b x t s) in
        subst P (sym e) (λ a2.
        subst (λ (life : Life). Holds (r ++ entry_by (steps.Control j (canon (discharge_message t b))) drawn (replies.Rejected transaction_errors.Rollback text) ∷ []) life) (sym (ended_rejected b transaction_errors.Rollback text t s))
        (λ i here. own_vetoed r p t j s b drawn text l w a2 i here)) a

-- ---- the end of its link

linkend_ended : (b : Bool) (reply : Reply) → b ≡ true → AnswerLinkEnd b reply → reply ≡ replies.LinkEnded
linkend_ended true replies.LinkEnded h a = refl
linkend_ended true _ h a = absurd a
linkend_ended false reply h a = cc h

link_ended : (r : List Entry) (p : ℕ) (t : TransactionId) (k : ℕ) (s : List ℕ) (drawn : DrawnIds) (reply : Reply) → IsLegal r → Running r p t k s → Answer r (steps.LinkEnd k) drawn.ids reply → (i : ℕ) → 1 ≤ times i s → Dead (r ++ entry_by (steps.LinkEnd k) drawn reply ∷ []) i
link_ended r p t k s drawn reply l w a i here =
    let e : Entry = entry_by (steps.LinkEnd k) drawn reply in
    let o : is_open r k ≡ true = home_open r t k w.live w.home in
    let re : reply ≡ replies.LinkEnded = linkend_ended (is_open r k) reply o a.1 in
    let c : closes k e ≡ true = ap (step_closes k (steps.LinkEnd k)) re ∙ eq-eqb k k refl in
    let dec : (u : TransactionId) → declares u e ≡ false = λ u. ap (reply_declares u) re in
    let h : home (r ++ e ∷ []) t ≡ Some k = home-other r e t (dec t) ∙ w.home in
    let src : sources_by r (steps.LinkEnd k) reply ≡ [] = ap (sources_by r (steps.LinkEnd k)) re in
    dead_now r e t i l a w.live (not_open (r ++ e ∷ []) t k h (is_open-closed r e k c)) dec (λ u. refl) src (subst (λ (xs : List ℕ). 1 ≤ times i xs) (sym w.span) here)

other_end : (j k : ℕ) (reply : Reply) → (j == k) ≡ false → step_closes k (steps.LinkEnd j) reply ≡ false
other_end j k replies.LinkEnded h = h
other_end j k _ h = refl

-- ---- one entry more

declare_next : (r : List Entry) (x y j : ℕ) (drawn : DrawnIds) (reply : Reply) (b : Bool) → Answer r (steps.Control j (canon declare_message)) drawn.ids reply → IsShort reply → Holds (r ++ entry_by (steps.Control j (canon declare_message)) drawn reply ∷ []) (cond b (born (length r) j reply) Unborn)
declare_next r x y j drawn reply false a short = tt
declare_next r x y j drawn (replies.Declared t) true a short =
    runs_born r (entry_by (steps.Control j (canon declare_message)) drawn (replies.Declared t)) t j (same_id-refl t) refl (declared_open r (steps.Control j (canon declare_message)) drawn.ids t a) refl short
declare_next r x y j drawn _ true a short = tt

unborn_holds : (r : List Entry) (x : ℕ) (i : Item) (drawn : DrawnIds) (reply : Reply) → Answer r (step_of i) drawn.ids reply → IsShort reply → Holds (r ++ entry_by (step_of i) drawn reply ∷ []) (unborn_next x (length r) i reply)
unborn_holds r x (items.Declare y j) drawn reply a short = declare_next r x y j drawn reply (x == y) a short
unborn_holds r x _ drawn reply a short = tt

pub runs_parts : (p q : ℕ) (t u : TransactionId) (j k : ℕ) (s w : List ℕ) → Runs p t j s ≡ Runs q u k w → (p ≡ q) × (t ≡ u) × (j ≡ k) × (s ≡ w)
runs_parts p q t u j k s w h = (cc h, cc h, cc h, cc h)

-- of an item that fits, its transaction runs with the item's id, which is short
pub fits_short : (r : List Entry) (f : ℕ → Life) (y j : ℕ) (u : TransactionId) (b : Bool) → ((z : ℕ) → Holds r (f z)) → Fits f (items.Discharge y j u b) → length u ≤ 32
fits_short r f y j u b h fit = let w : Running r fit.0 u j fit.1 = subst (λ (life : Life). Holds r life) fit.2 (h y) in w.short

runs_holds : (r : List Entry) (f : ℕ → Life) (x : ℕ) (i : Item) (drawn : DrawnIds) (reply : Reply) (p : ℕ) (t : TransactionId) (k : ℕ) (s : List ℕ) → IsLegal r → Answer r (step_of i) drawn.ids reply → Fits f i → Apart f → ((z : ℕ) → Holds r (f z)) → f x ≡ Runs p t k s → Running r p t k s → Holds (r ++ entry_by (step_of i) drawn reply ∷ []) (runs_next x (length r) i reply p t k s)
runs_holds r f x (items.Declare y j) drawn reply p t k s l a fit ap_f all fx w =
    runs_quiet r (entry_by (steps.Control j (canon declare_message)) drawn reply) p t k s w (live_not_declared r (steps.Control j (canon declare_message)) drawn.ids reply t a w.live) (not_discharged t j (canon declare_message) reply (ap (message_discharges t) declare_read)) (not_closed r j k (canon declare_message) declare_message drawn.ids reply declare_read a) refl
runs_holds r f x (items.Frame frame) drawn reply p t k s l a fit ap_f all fx w =
    runs_on r (entry_by (steps.Frame frame) drawn reply) p t k s w (live_not_declared r (steps.Frame frame) drawn.ids reply t a w.live) refl refl
runs_holds r f x (items.LinkEnd j) drawn reply p t k s l a fit ap_f all fx w = by_case (j == k) refl
  where
    by_case : (b : Bool) → (j == k) ≡ b → Holds (r ++ entry_by (steps.LinkEnd j) drawn reply ∷ []) (cond (j == k) (Spent t s) (Runs p t k s))
    by_case true e =
        let jk : j ≡ k = eqb-true j k e in
        let P : Bool → Type 0 = λ b. Holds (r ++ entry_by (steps.LinkEnd j) drawn reply ∷ []) (cond b (Spent t s) (Runs p t k s)) in
        let Q : ℕ → Type 0 = λ n. Running r p t n s in
        subst P (sym e) (λ i here. link_ended r p t j s drawn reply l (subst Q (sym jk) w) a i here)
    by_case false e =
        let P : Bool → Type 0 = λ b. Holds (r ++ entry_by (steps.LinkEnd j) drawn reply ∷ []) (cond b (Spent t s) (Runs p t k s)) in
        subst P (sym e) (runs_quiet r (entry_by (steps.LinkEnd j) drawn reply) p t k s w (live_not_declared r (steps.LinkEnd j) drawn.ids reply t a w.live) refl (other_end j k reply e) refl)
runs_holds r f x (items.Discharge y j u b) drawn reply p t k s l a fit ap_f all fx w = by_case (x == y) refl
  where
    by_case : (c : Bool) → (x == y) ≡ c → Holds (r ++ entry_by (steps.Control j (canon (discharge_message u b))) drawn reply ∷ []) (cond (x == y) (ended b reply t s) (Runs p t k s))
    by_case true e =
        let P : Bool → Type 0 = λ c. Holds (r ++ entry_by (steps.Control j (canon (discharge_message u b))) drawn reply ∷ []) (cond c (ended b reply t s) (Runs p t k s)) in
        let parts = runs_parts p fit.0 t u k j s fit.1 (sym fx ∙ ap f (eqb-true x y e) ∙ fit.2) in
        let Q : TransactionId → Type 0 = λ v. Running r p v j s in
        let R : ℕ → Type 0 = λ n. Running r p t n s in
        let T : TransactionId → Type 0 = λ v. Holds (r ++ entry_by (steps.Control j (canon (discharge_message u b))) drawn reply ∷ []) (ended b reply v s) in
        subst P (sym e) (subst T (sym parts.1) (own_end r p u j s b drawn reply l (subst Q parts.1 (subst R parts.2 w)) a))
    by_case false e =
        let P : Bool → Type 0 = λ c. Holds (r ++ entry_by (steps.Control j (canon (discharge_message u b))) drawn reply ∷ []) (cond c (ended b reply t s) (Runs p t k s)) in
        let m : message_of (canon (discharge_message u b)) ≡ Some (discharge_message u b) = discharge_read u b (fits_short r f y j u b all fit) in
        let differ : same_id t u ≡ false = false_from_ne_true (same_id t u) (λ n.
        let tu : t ≡ u = same_id-eq t u n in
        let Q : TransactionId → Type 0 = λ v. f x ≡ Runs p v k s in
        let xy : x ≡ y = ap_f x y p fit.0 u k j s fit.1 (subst Q tu fx) fit.2 in
        let g : true ≡ false = sym (eq-eqb x y xy) ∙ e in cc g) in
        subst P (sym e) (runs_quiet r (entry_by (steps.Control j (canon (discharge_message u b))) drawn reply) p t k s w (live_not_declared r (steps.Control j (canon (discharge_message u b))) drawn.ids reply t a w.live) (not_discharged t j (canon (discharge_message u b)) reply (ap (message_discharges t) m ∙ differ)) (not_closed r j k (canon (discharge_message u b)) (discharge_message u b) drawn.ids reply m a) refl)

-- what the record has of each transaction, after one entry more
pub life_holds : (r : List Entry) (f : ℕ → Life) (x : ℕ) (i : Item) (drawn : DrawnIds) (reply : Reply) (life : Life) → IsLegal r → Answer r (step_of i) drawn.ids reply → IsShort reply → Fits f i → Apart f → ((z : ℕ) → Holds r (f z)) → f x ≡ life → Holds r life → Holds (r ++ entry_by (step_of i) drawn reply ∷ []) (next_life x (length r) life i reply)
life_holds r f x i drawn reply Unborn l a short fit ap_f all fx h = unborn_holds r x i drawn reply a short
life_holds r f x i drawn reply (Runs p t k s) l a short fit ap_f all fx h = runs_holds r f x i drawn reply p t k s l a fit ap_f all fx h
life_holds r f x i drawn reply (Took t s) l a short fit ap_f all fx h =
    let e : Entry = entry_by (step_of i) drawn reply in
    (h.0, h.1 ++ sources_by r (step_of i) reply, origins-snoc r e ∙ ap (λ o. o ++ sources_by r (step_of i) reply) h.2 ∙ append_assoc (h.0 ++ s) h.1 (sources_by r (step_of i) reply))
life_holds r f x i drawn reply (Spent t s) l a short fit ap_f all fx h = λ n here. dead_stays r (entry_by (step_of i) drawn reply) n l a (h n here)
