-- A record in the midst of made transactions: which ids are live, with one entry more.
use Rattle.std.proofs.Common.{◌≡◌, ℕ, ◌+◌, ◌<◌, ◌≤◌, ◌^◌, Bool, true, false, ◌&&◌, Option, Some, None, List, [], ◌∷◌, ◌++◌, length, drop, refl, sym, ◌∙◌, ap, subst, arith}
use Rattle.std.specs.Prelude.{◌==◌}
use Rattle.std.specs.List.{list_all}
use Rattle.std.specs.Int.{w64, from_be_bytes}
use Rattle.std.proofs.lemmas.Bool.{and_parts, eq-eqb, eqb-true}
use Rattle.std.proofs.lemmas.Nat.{from_be_bytes-to_be_bytes_8}
use Rattle.amqp_txn_types.specs.declared.id.TransactionId.{TransactionId}
use Rattle.amqp_txn_types.specs.declared.small.TransactionError.TheVariants as transaction_errors
use Rattle.amqp_txn_types.specs.declared.performatives.Frame.{Frame}
use Rattle.amqp_txn_types.specs.Ids.{same_id}
use Rattle.amqp_txn_codec.specs.declared.message.ControlMessageBody.{ControlMessageBody}
use Rattle.amqp_txn_codec.specs.declared.message.ControlMessageBody.TheVariants as messages
use Rattle.amqp_txn_codec.specs.Canon.{canon, HoldsShortIds}
use Rattle.amqp_txn_codec.specs.Reading.{message_of}
use Rattle.amqp_txn_codec.proofs.Messages.{canon-spells}
use Rattle.amqp_txn_codec.proofs.Readings.{spelled-read}
use Rattle.amqp_below_layer.specs.declared.answers.Answers.{Answers}
use Rattle.amqp_below_ids.specs.Ids.{AreNext}
use Rattle.amqp_resource_record.specs.declared.step.Step.TheVariants as steps
use Rattle.amqp_resource_record.specs.declared.reply.Reply.{Reply}
use Rattle.amqp_resource_record.specs.declared.reply.Reply.TheVariants as replies
use Rattle.amqp_resource_record.specs.declared.reply.RejectText.TheVariants as texts
use Rattle.amqp_resource_record.specs.declared.entry.Entry.{Entry}
use Rattle.amqp_resource_record.specs.Entries.{attaches, closes, declares, discharges, message_discharges, reply_attaches, reply_declares, step_closes, step_discharges, step_link}
use Rattle.amqp_resource_record.specs.Links.{is_open}
use Rattle.amqp_resource_record.specs.Live.{home, is_held_on, is_link, is_live, is_open_at}
use Rattle.amqp_resource_record.specs.Answers.{Answer, AnswerControl, AnswerDeclare, AnswerDischarge, AnswerFrame, AnswerMessage}
use Rattle.amqp_resource_record.proofs.Ids.{same_id-eq, same_id-refl}
use Rattle.amqp_resource_record.proofs.Looking.{home-declared, home-other, is_open-other, undischarged-declared}
use Rattle.amqp_resource_record.proofs.Living.{live-at, live-same}
use Rattle.amqp_below_ids.specs.Counted.{id_of_number}

-- the one control link is open, the ids of the numbers from `low` on and below `high` are live and
-- were declared there, and none from `high` on is live
pub record Midway (r : List Entry) (low high : ℕ) : Type 0 where
  pub link : is_open r 0 ≡ true
  pub held : (m : ℕ) → low ≤ m → m < high → m < 2 ^ 64 → is_held_on r 0 (id_of_number m) ≡ true
  pub later : (m : ℕ) → high ≤ m → m < 2 ^ 64 → is_live r (id_of_number m) ≡ false

-- ---- ids of numbers

-- other numbers have other ids
number-same : (m n : ℕ) → m < 2 ^ 64 → n < 2 ^ 64 → id_of_number m ≡ id_of_number n → m ≡ n
unfolding id_of_number
number-same m n few few' e =
    sym (from_be_bytes-to_be_bytes_8 m few)
    ∙ ap (λ (octets : List ℕ). from_be_bytes w64 (drop 8 octets)) e
    ∙ from_be_bytes-to_be_bytes_8 n few'

other_id : (m n : ℕ) → m < 2 ^ 64 → n < 2 ^ 64 → (m ≡ n → ⊥) → same_id (id_of_number m) (id_of_number n) ≡ false
other_id m n few few' apart = by_case (same_id (id_of_number m) (id_of_number n)) refl
  where
    by_case : (b : Bool) → same_id (id_of_number m) (id_of_number n) ≡ b → same_id (id_of_number m) (id_of_number n) ≡ false
    by_case true h = absurd (apart (number-same m n few few' (same_id-eq (id_of_number m) (id_of_number n) h)))
    by_case false h = h

pub short_number : (n : ℕ) → length (id_of_number n) ≤ 32
unfolding id_of_number
short_number n = omega arith

-- ---- messages

pub canon-read : (m : ControlMessageBody) → HoldsShortIds m → message_of (canon m) ≡ Some m
canon-read m short = spelled-read (canon m) m (canon-spells m short)

-- a reply to a message on the open link
pub on_link : (r : List Entry) (payload : List ℕ) (m : ControlMessageBody) (d : List TransactionId) (reply : Reply)
    → is_open r 0 ≡ true → message_of payload ≡ Some m → Answer r (steps.Control 0 payload) d reply → AnswerMessage r 0 (Some m) d reply
on_link r payload m d reply link read answer =
    let P : Bool → Type 0 = λ b. AnswerControl r 0 b (message_of payload) d reply in
    let Q : Option ControlMessageBody → Type 0 = λ o. AnswerMessage r 0 o d reply in
    subst Q read (subst P link answer)

-- ---- an entry that is of another id

-- an entry that attaches and closes no link
record KeepsLinks (e : Entry) : Type 0 where
  attached : (k : ℕ) → attaches k e ≡ false
  closed : (k : ℕ) → closes k e ≡ false

open_at-kept : (r : List Entry) (e : Entry) → KeepsLinks e → (o : Option ℕ) → is_open_at (r ++ e ∷ []) o ≡ is_open_at r o
open_at-kept r e keeps None = refl
open_at-kept r e keeps (Some k) = is_open-other r e k (keeps.attached k) (keeps.closed k)

live-kept : (r : List Entry) (e : Entry) (t : TransactionId) → KeepsLinks e → declares t e ≡ false → discharges t e ≡ false → is_live (r ++ e ∷ []) t ≡ is_live r t
live-kept r e t keeps d x = live-same r e t d x (λ u. open_at-kept r e keeps (home r t))

held-kept : (r : List Entry) (e : Entry) (t : TransactionId) → KeepsLinks e → declares t e ≡ false → discharges t e ≡ false → is_held_on (r ++ e ∷ []) 0 t ≡ is_held_on r 0 t
held-kept r e t keeps d x =
    ap (λ b. b && is_link 0 (home (r ++ e ∷ []) t)) (live-kept r e t keeps d x)
    ∙ ap (λ h. is_live r t && is_link 0 h) (home-other r e t d)

-- ---- a post

-- the reply to a frame under an id
post-reply : (r : List Entry) (frame : Frame) (t : TransactionId) (reply : Reply) → AnswerFrame r frame (Some t) reply → (a : Answers) × (reply ≡ replies.Frames a)
post-reply r frame t (replies.Frames a) x = (a, refl)
post-reply r frame t _ x = absurd x

post-keeps : (e : Entry) (frame : Frame) (a : Answers) → e.step ≡ steps.Frame frame → e.reply ≡ replies.Frames a → KeepsLinks e
post-keeps e frame a es er = record {
  attached = λ k. ap (reply_attaches k) er;
  closed = λ k. ap (λ s. step_closes k s e.reply) es;
}

-- a frame under an id leaves what is live
pub midway-post : (r : List Entry) (e : Entry) (low high : ℕ) (frame : Frame) (t : TransactionId)
    → e.step ≡ steps.Frame frame → AnswerFrame r frame (Some t) e.reply → Midway r low high → Midway (r ++ e ∷ []) low high
midway-post r e low high frame t es answer mid =
    let given = post-reply r frame t e.reply answer in
    let keeps = post-keeps e frame given.0 es given.1 in
    let undeclared : (u : TransactionId) → declares u e ≡ false = λ u. ap (reply_declares u) given.1 in
    let undischarged' : (u : TransactionId) → discharges u e ≡ false = λ u. ap (λ s. step_discharges u s e.reply) es in
    record {
      link = is_open-other r e 0 (keeps.attached 0) (keeps.closed 0) ∙ mid.link;
      held = λ m from below few. held-kept r e (id_of_number m) keeps (undeclared (id_of_number m)) (undischarged' (id_of_number m)) ∙ mid.held m from below few;
      later = λ m from few. live-kept r e (id_of_number m) keeps (undeclared (id_of_number m)) (undischarged' (id_of_number m)) ∙ mid.later m from few;
    }

-- ---- a declare

-- the draws of a declare begin with an id that isn't live, and so end with it
first_drawn : (r : List Entry) (f : ℕ → TransactionId) (n : ℕ) (d before : List TransactionId) (t : TransactionId)
    → is_live r (f n) ≡ false → AreNext f n d → d ≡ before ++ t ∷ [] → list_all (is_live r) before ≡ true → (t ≡ f n) × (d ≡ f n ∷ [])
first_drawn r f n d [] t dead next is live =
    let drawn : AreNext f n (t ∷ []) = subst (AreNext f n) is next in (drawn.0, is ∙ ap (λ x. x ∷ []) drawn.0)
first_drawn r f n d (x ∷ before) t dead next is live =
    let drawn : AreNext f n (x ∷ (before ++ t ∷ [])) = subst (AreNext f n) is next in
    let first : is_live r x ≡ true = (and_parts (is_live r x) (list_all (is_live r) before) live).0 in
    let alive : is_live r (f n) ≡ true = ap (is_live r) (sym drawn.0) ∙ first in cc (alive, dead)

not_all_live : (r : List Entry) (f : ℕ → TransactionId) (n : ℕ) (d : List TransactionId)
    → is_live r (f n) ≡ false → AreNext f n d → length d ≡ 16 → list_all (is_live r) d ≡ true → ⊥
not_all_live r f n [] dead next count live = omega arith
not_all_live r f n (x ∷ d) dead next count live =
    let first : is_live r x ≡ true = (and_parts (is_live r x) (list_all (is_live r) d) live).0 in
    let alive : is_live r (f n) ≡ true = ap (is_live r) (sym next.0) ∙ first in cc (alive, dead)

-- where the next id isn't live, a declare is answered with it
pub declare-reply : (r : List Entry) (f : ℕ → TransactionId) (n : ℕ) (d : List TransactionId) (reply : Reply)
    → is_live r (f n) ≡ false → AreNext f n d → AnswerDeclare r None d reply → (reply ≡ replies.Declared (f n)) × (d ≡ f n ∷ [])
declare-reply r f n d (replies.Declared t) dead next w =
    let drawn = first_drawn r f n d w.0 t dead next w.1 w.3 in (ap (λ u. replies.Declared u) drawn.0, drawn.1)
declare-reply r f n d (replies.Rejected transaction_errors.UnknownId texts.IdsRepeat) dead next w = absurd (not_all_live r f n d dead next w.0 w.1)
declare-reply r f n d _ dead next w = absurd w

declare-keeps : (e : Entry) (payload : List ℕ) (u : TransactionId) → e.step ≡ steps.Control 0 payload → e.reply ≡ replies.Declared u → KeepsLinks e
declare-keeps e payload u es er = record {
  attached = λ k. ap (reply_attaches k) er;
  closed = λ k. ap (λ s. step_closes k s e.reply) es ∙ ap (step_closes k (steps.Control 0 payload)) er;
}

-- a declared id is live, and at home on the link that it was declared on
held-declared : (r : List Entry) (e : Entry) (t : TransactionId) → KeepsLinks e → is_open r 0 ≡ true → declares t e ≡ true → step_link e.step ≡ Some 0 → is_held_on (r ++ e ∷ []) 0 t ≡ true
held-declared r e t keeps link d here =
    let at : home (r ++ e ∷ []) t ≡ Some 0 = home-declared r e t d ∙ here in
    let live : is_live (r ++ e ∷ []) t ≡ true =
    live-at (r ++ e ∷ []) t
    ∙ ap (λ b. b && is_open_at (r ++ e ∷ []) (home (r ++ e ∷ []) t)) (undischarged-declared r e t d)
    ∙ ap (is_open_at (r ++ e ∷ [])) at
    ∙ is_open-other r e 0 (keeps.attached 0) (keeps.closed 0) ∙ link in
    ap (λ b. b && is_link 0 (home (r ++ e ∷ []) t)) live ∙ ap (is_link 0) at

-- a declare makes the next number's id live
pub midway-declare : (r : List Entry) (e : Entry) (low high next : ℕ) (payload : List ℕ)
    → e.step ≡ steps.Control 0 payload → e.reply ≡ replies.Declared (id_of_number high) → next ≡ high + 1 → high < 2 ^ 64
    → Midway r low high → Midway (r ++ e ∷ []) low next
midway-declare r e low high next payload es er more few mid =
    let keeps = declare-keeps e payload (id_of_number high) es er in
    let says : (u : TransactionId) → declares u e ≡ same_id u (id_of_number high) = λ u. ap (reply_declares u) er in
    let ends : (u : TransactionId) → discharges u e ≡ false =
    λ u. ap (λ s. step_discharges u s e.reply) es ∙ ap (step_discharges u (steps.Control 0 payload)) er in
    let other : (m : ℕ) → m < 2 ^ 64 → (m ≡ high → ⊥) → declares (id_of_number m) e ≡ false =
    λ m small apart. says (id_of_number m) ∙ other_id m high small few apart in
    record {
      link = is_open-other r e 0 (keeps.attached 0) (keeps.closed 0) ∙ mid.link;
      held = λ m from below small. by_place m (m == high) refl from below small;
      later = λ m from small.
          live-kept r e (id_of_number m) keeps (other m small (λ is. omega (arith, is, from, more))) (ends (id_of_number m))
          ∙ mid.later m (omega (arith, from, more)) small;
    }
  where
    by_place : (m : ℕ) (b : Bool) → (m == high) ≡ b → low ≤ m → m < next → m < 2 ^ 64 → is_held_on (r ++ e ∷ []) 0 (id_of_number m) ≡ true
    by_place m true is from below small =
        let same : m ≡ high = eqb-true m high is in
        held-declared r e (id_of_number m) (declare-keeps e payload (id_of_number high) es er) mid.link
        (ap (reply_declares (id_of_number m)) er ∙ ap (λ k. same_id (id_of_number m) (id_of_number k)) (sym same) ∙ same_id-refl (id_of_number m))
        (ap step_link es)
    by_place m false is from below small =
        let apart : m ≡ high → ⊥ = λ same. let yes : (m == high) ≡ true = eq-eqb m high same in cc (yes, is) in
        held-kept r e (id_of_number m) (declare-keeps e payload (id_of_number high) es er)
        (ap (reply_declares (id_of_number m)) er ∙ other_id m high small few apart)
        (ap (λ s. step_discharges (id_of_number m) s e.reply) es ∙ ap (step_discharges (id_of_number m) (steps.Control 0 payload)) er)
        ∙ mid.held m from (omega (arith, below, more, apart)) small

-- ---- a discharge

-- the reply ends the id that is discharged: the discharge is accepted, or the commit vetoed
abbrev pub EndsId : Reply → Type 0
EndsId (replies.Accepted echoes) = Unit {0}
EndsId (replies.Rejected transaction_errors.Rollback text) = Unit {0}
EndsId _ = ⊥

-- a discharge of an id that is live, on its home, ends it
pub discharge-reply : (r : List Entry) (t : TransactionId) (fail : Option Bool) (d : List TransactionId) (reply : Reply)
    → is_held_on r 0 t ≡ true → AnswerDischarge r 0 t fail d reply → EndsId reply × (d ≡ [])
discharge-reply r t fail d (replies.Accepted echoes) held x = (tt, x.1)
discharge-reply r t fail d (replies.Rejected transaction_errors.Rollback texts.Absent) held x = (tt, x.1)
discharge-reply r t fail d (replies.Rejected transaction_errors.UnknownId texts.Absent) held x = let dead = x.0 in cc (held, dead)
discharge-reply r t fail d _ held x = absurd x

-- such a reply attaches no link, closes none, declares no id, and ends the one that is discharged
ends-attaches : (k : ℕ) (reply : Reply) → EndsId reply → reply_attaches k reply ≡ false
ends-attaches k (replies.Accepted echoes) ends = refl
ends-attaches k (replies.Rejected transaction_errors.Rollback text) ends = refl
ends-attaches k _ ends = absurd ends

ends-closes : (k : ℕ) (payload : List ℕ) (reply : Reply) → EndsId reply → step_closes k (steps.Control 0 payload) reply ≡ false
ends-closes k payload (replies.Accepted echoes) ends = refl
ends-closes k payload (replies.Rejected transaction_errors.Rollback text) ends = refl
ends-closes k payload _ ends = absurd ends

ends-declares : (u : TransactionId) (reply : Reply) → EndsId reply → reply_declares u reply ≡ false
ends-declares u (replies.Accepted echoes) ends = refl
ends-declares u (replies.Rejected transaction_errors.Rollback text) ends = refl
ends-declares u _ ends = absurd ends

ends-discharges : (u : TransactionId) (payload : List ℕ) (reply : Reply) → EndsId reply
    → step_discharges u (steps.Control 0 payload) reply ≡ message_discharges u (message_of payload)
ends-discharges u payload (replies.Accepted echoes) ends = refl
ends-discharges u payload (replies.Rejected transaction_errors.Rollback text) ends = refl
ends-discharges u payload _ ends = absurd ends

ends-keeps : (e : Entry) (payload : List ℕ) → e.step ≡ steps.Control 0 payload → EndsId e.reply → KeepsLinks e
ends-keeps e payload es ends = record {
  attached = λ k. ends-attaches k e.reply ends;
  closed = λ k. ap (λ s. step_closes k s e.reply) es ∙ ends-closes k payload e.reply ends;
}

-- a discharge of the lowest number's id leaves the others
pub midway-discharge : (r : List Entry) (e : Entry) (low high next : ℕ) (payload : List ℕ) (fail : Option Bool)
    → e.step ≡ steps.Control 0 payload → EndsId e.reply
    → message_of payload ≡ Some (messages.Discharge (record { txn_id = id_of_number low; fail = fail }))
    → next ≡ low + 1 → low < high → low < 2 ^ 64
    → Midway r low high → Midway (r ++ e ∷ []) next high
midway-discharge r e low high next payload fail es ends read more below few mid =
    let keeps = ends-keeps e payload es ends in
    let undeclared : (u : TransactionId) → declares u e ≡ false = λ u. ends-declares u e.reply ends in
    let says : (u : TransactionId) → discharges u e ≡ same_id u (id_of_number low) =
    λ u. ap (λ s. step_discharges u s e.reply) es ∙ ends-discharges u payload e.reply ends ∙ ap (message_discharges u) read in
    let other : (m : ℕ) → m < 2 ^ 64 → (m ≡ low → ⊥) → discharges (id_of_number m) e ≡ false =
    λ m small apart. says (id_of_number m) ∙ other_id m low small few apart in
    record {
      link = is_open-other r e 0 (keeps.attached 0) (keeps.closed 0) ∙ mid.link;
      held = λ m from under small.
          held-kept r e (id_of_number m) keeps (undeclared (id_of_number m)) (other m small (λ is. omega (arith, is, from, more)))
          ∙ mid.held m (omega (arith, from, more)) under small;
      later = λ m from small.
          live-kept r e (id_of_number m) keeps (undeclared (id_of_number m)) (other m small (λ is. omega (arith, is, from, below)))
          ∙ mid.later m from small;
    }

pub held_live : (r : List Entry) (t : TransactionId) → is_held_on r 0 t ≡ true → is_live r t ≡ true
held_live r t held = (and_parts (is_live r t) (is_link 0 (home r t)) held).0
