-- What is read of a message by its number.
use Rattle.txn_broker_queues.proofs.Words.{Frame, IsDistinct, Lines, List, Mail, MailsStand, Mark, Message, None, Option, Sent, Some, [], ap, arith, cons_option, enumerate_from, filter_map, length, length-map, link_at, mail_at, mail_of, map, messages, none-some, numbers_in, option_map, queue, range_with_len, refl, same_Some, sent_at, sent_by, sent_on, slice_get, suc, subst, sym, take, zero, ℕ, ◌+◌, ◌<◌, ◌∙◌, ◌∷◌, ◌≡◌, ◌≤◌, is_sender, is_waiting_in, Linked, cond, Bool, true, false, numbers_from, take_all}
use Rattle.std.proofs.Common.{get_or}
use Rattle.std.specs.List.{take-map}
use Rattle.std.proofs.lemmas.Option.{slice_get-get_or, slice_get-map}
use Rattle.amqp_txn_types.specs.declared.performatives.Frame.TheVariants as frames
use Rattle.amqp_txn_types.specs.declared.performatives.Transfer.{Transfer}
use Rattle.txn_broker_queues.specs.Keeping.{message_at, payload_of, queue_names}
use Rattle.txn_broker_queues.specs.Taking.{frames_of}
use Rattle.txn_broker_queues.proofs.Listing.{listed}
use Rattle.txn_broker_queues.proofs.Naming.{name_decides, names_distinct, same_name}
use Rattle.txn_broker_queues.proofs.Snoc.{sent_place}

get_enumerated : {A : Type 0} (n : ℕ) (xs : List A) (i : ℕ) → slice_get (enumerate_from n xs) i ≡ option_map (λ x. (n + i, x)) (slice_get xs i)
get_enumerated n [] i = refl
get_enumerated n (x ∷ xs) zero = let e : n ≡ n + 0 = omega arith in ap (λ k. Some (k, x)) e
get_enumerated n (x ∷ xs) (suc i) =
    let e : n + 1 + i ≡ n + suc i = omega arith in
    get_enumerated (n + 1) xs i ∙ ap (λ k. option_map (λ y. (k, y)) (slice_get xs i)) e

-- the message that a mark is kept of
pub record Marked (taken : List Frame) (number : ℕ) (mark : Mark) : Type 0 where
  pub sent : Sent
  pub is : slice_get (messages taken) number ≡ Some sent
  pub place : sent.place ≡ mark.place

pub marked : (taken : List Frame) (lines : Lines) (number : ℕ) (mark : Mark) → MailsStand taken lines → slice_get lines.marks number ≡ Some mark → Marked taken number mark
marked taken lines number mark stand at =
    by_case (slice_get (messages taken) number) refl
    (sym (ap (option_map (mail_at lines.names)) at)
    ∙ sym (slice_get-map (mail_at lines.names) lines.marks number)
    ∙ ap (λ ms. slice_get ms number) stand
    ∙ slice_get-map (mail_of taken) (enumerate_from 0 (messages taken)) number
    ∙ ap (option_map (mail_of taken)) (get_enumerated 0 (messages taken) number))
  where
    by_case : (o : Option Sent) → slice_get (messages taken) number ≡ o
        → Some (mail_at lines.names mark) ≡ option_map (mail_of taken) (option_map (λ x. (0 + number, x)) o) → Marked taken number mark
    by_case None is e = absurd (none-some (mail_at lines.names mark) (sym e))
    by_case (Some sent) is e = record {
      sent = sent;
      is = is;
      place = sym (ap (λ (m : Mail). m.place) (same_Some (mail_at lines.names mark) (mail_of taken (0 + number, sent)) e));
    }

-- the transfer that a message came in
pub record Carried (taken : List Frame) (sent : Sent) : Type 0 where
  pub transfer : Transfer
  pub is : slice_get taken sent.place ≡ Some (frames.Transfer transfer sent.payload)

on_payload : (place : ℕ) (payload : List ℕ) (link : Option Linked) (s : Sent) → sent_on place payload link ≡ Some s → payload ≡ s.payload
on_payload place payload None s e = absurd (none-some s e)
on_payload place payload (Some link) s e = by_case (is_sender link.peer) e
  where
    by_case : (b : Bool) → cond b (Some (record { place = place; address = link.address; payload = payload })) None ≡ Some s → payload ≡ s.payload
    by_case true e = ap (λ (x : Sent). x.payload) (same_Some (record { place = place; address = link.address; payload = payload }) s e)
    by_case false e = absurd (none-some s e)

by_carried : (w : List Frame) (i : ℕ) (o : Option Frame) (s : Sent) → sent_by w i o ≡ Some s → (t : Transfer) × (o ≡ Some (frames.Transfer t s.payload))
by_carried w i None s e = absurd (none-some s e)
by_carried w i (Some (frames.Attach attach)) s e = absurd (none-some s e)
by_carried w i (Some (frames.Flow flow)) s e = absurd (none-some s e)
by_carried w i (Some (frames.Transfer t payload)) s e = (t, ap (λ p. Some (frames.Transfer t p)) (on_payload i payload (link_at w i t.handle.0) s e))
by_carried w i (Some (frames.Disposition d)) s e = absurd (none-some s e)
by_carried w i (Some (frames.Detach detach)) s e = absurd (none-some s e)

at_carried : (w : List Frame) (i : ℕ) (s : Sent) → sent_at w i ≡ Some s → Carried w s
at_carried w i s e =
    let t = by_carried w i (slice_get w i) s e in
    record { transfer = t.0; is = ap (slice_get w) (sent_place w i s e) ∙ t.1 }

cons_carried : (w : List Frame) (o : Option Sent) (rest : List Sent) (n : ℕ) (s : Sent) → ((x : Sent) → o ≡ Some x → Carried w x)
    → ((m : ℕ) → slice_get rest m ≡ Some s → Carried w s) → slice_get (cons_option o rest) n ≡ Some s → Carried w s
cons_carried w None rest n s here later e = later n e
cons_carried w (Some x) rest zero s here later e = here s e
cons_carried w (Some x) rest (suc n) s here later e = later n e

carried_from : (w : List Frame) (a d n : ℕ) (s : Sent) → slice_get (filter_map (sent_at w) (range_with_len a d)) n ≡ Some s → Carried w s
carried_from w a zero n s e = absurd (none-some s e)
carried_from w a (suc d) n s e =
    cons_carried w (sent_at w a) (filter_map (sent_at w) (range_with_len (a + 1) d)) n s (λ x at. at_carried w a x at)
    (λ m at. carried_from w (a + 1) d m s at) e

pub carried : (w : List Frame) (n : ℕ) (s : Sent) → slice_get (messages w) n ≡ Some s → Carried w s
carried w n s e = carried_from w 0 (length w) n s e

pair_in : (o : Option (Frame × List Frame)) (frame : Frame) → option_map (λ (pair : Frame × List Frame). pair.0) o ≡ Some frame
    → (pair : Frame × List Frame) × (o ≡ Some pair) × (pair.0 ≡ frame)
pair_in None frame e = absurd (none-some frame e)
pair_in (Some pair) frame e = (pair, refl, same_Some pair.0 frame e)

-- the pair of a frame
pub pair_at : (journal : List (Frame × List Frame)) (i : ℕ) (frame : Frame) → slice_get (frames_of journal) i ≡ Some frame
    → (pair : Frame × List Frame) × (slice_get journal i ≡ Some pair) × (pair.0 ≡ frame)
pair_at journal i frame e =
    pair_in (slice_get journal i) frame (sym (slice_get-map (λ (pair : Frame × List Frame). pair.0) journal i) ∙ e)

-- the messages of the numbers that wait in a queue are those of its name
pub numbers_queue : (taken : List Frame) (lines : Lines) (q : ℕ) (name : List ℕ) → lines.names ≡ queue_names taken → MailsStand taken lines → slice_get lines.names q ≡ Some name
    → map (message_at taken) (numbers_in q lines.marks) ≡ queue taken name
numbers_queue taken lines q name names stand at =
    listed taken lines q name (message_at taken) 0 lines.marks (messages taken)
    (λ k address there. name_decides lines.names k q address name (subst (λ ns. IsDistinct same_name ns) (sym names) (names_distinct taken)) there at)
    (λ i s e.
    let k : 0 + i ≡ i = omega arith in
    ap (λ o. record { number = 0 + i; payload = payload_of o }) (ap (slice_get (messages taken)) k ∙ e))
    stand

-- as many messages wait at most as came
pub numbers_few : (q n : ℕ) (marks : List Mark) → length (numbers_from q n marks) ≤ length marks
numbers_few q n [] = omega arith
numbers_few q n (m ∷ marks) = by_case (is_waiting_in q m) (numbers_few q (n + 1) marks)
  where
    by_case : (b : Bool) → length (numbers_from q (n + 1) marks) ≤ length marks → length (cond b (n ∷ numbers_from q (n + 1) marks) (numbers_from q (n + 1) marks)) ≤ length (m ∷ marks)
    by_case true few = omega (arith, few)
    by_case false few = omega (arith, few)

-- a queue is all of it where so many are taken as came
pub queue_whole : (taken : List Frame) (lines : Lines) (q : ℕ) (name : List ℕ) → lines.names ≡ queue_names taken → MailsStand taken lines → slice_get lines.names q ≡ Some name
    → take (length lines.marks) (queue taken name) ≡ queue taken name
queue_whole taken lines q name names stand at =
    take_all (length lines.marks) (queue taken name)
    (omega (
      arith,
      numbers_few q 0 lines.marks,
      ap (λ (ms : List Message). length ms) (numbers_queue taken lines q name names stand at),
      length-map (numbers_in q lines.marks) (message_at taken),
    ))

-- where the message of a number is in the journal
pub record Copied (journal : List (Frame × List Frame)) (number : ℕ) (mark : Mark) : Type 0 where
  pub pair : Frame × List Frame
  pub at : slice_get journal mark.place ≡ Some pair
  pub sent : Sent
  pub message : slice_get (messages (frames_of journal)) number ≡ Some sent
  pub transfer : Transfer
  pub is : pair.0 ≡ frames.Transfer transfer sent.payload

pub copied : (journal : List (Frame × List Frame)) (lines : Lines) (number : ℕ) (mark : Mark) → MailsStand (frames_of journal) lines → slice_get lines.marks number ≡ Some mark → Copied journal number mark
copied journal lines number mark stand at =
    let m = marked (frames_of journal) lines number mark stand at in
    let k = carried (frames_of journal) number m.sent m.is in
    let p = pair_at journal m.sent.place (frames.Transfer k.transfer m.sent.payload) k.is in
    record {
      pair = p.0;
      at = ap (slice_get journal) (sym m.place) ∙ p.1;
      sent = m.sent;
      message = m.is;
      transfer = k.transfer;
      is = p.2;
    }

-- the message that is copied, by its number
pub message_is : (journal : List (Frame × List Frame)) (number : ℕ) (sent : Sent) (payload : List ℕ) → slice_get (messages (frames_of journal)) number ≡ Some sent → payload ≡ sent.payload
    → record { number = number; payload = payload } ≡ message_at (frames_of journal) number
message_is journal number sent payload at same =
    ap (λ p. record { number = number; payload = p }) same
    ∙ ap (λ o. record { number = number; payload = payload_of o }) (sym at)

cons_below : (n len : ℕ) (rest : List ℕ) (i x : ℕ) → ((j : ℕ) → slice_get rest j ≡ Some x → x < n + 1 + len) → slice_get (n ∷ rest) i ≡ Some x → x < n + suc len
cons_below n len rest zero x later e = omega (arith, same_Some n x e)
cons_below n len rest (suc i) x later e = omega (arith, later i e)

-- a number that waits is that of a message
numbers_below : (q n : ℕ) (marks : List Mark) (i x : ℕ) → slice_get (numbers_from q n marks) i ≡ Some x → x < n + length marks
numbers_below q n [] i x e = absurd (none-some x e)
numbers_below q n (m ∷ marks) i x e = by_case (is_waiting_in q m) (λ j at. numbers_below q (n + 1) marks j x at) e
  where
    by_case : (b : Bool) → ((j : ℕ) → slice_get (numbers_from q (n + 1) marks) j ≡ Some x → x < n + 1 + length marks)
        → slice_get (cond b (n ∷ numbers_from q (n + 1) marks) (numbers_from q (n + 1) marks)) i ≡ Some x → x < n + length (m ∷ marks)
    by_case true later e = cons_below n (length marks) (numbers_from q (n + 1) marks) i x later e
    by_case false later e = omega (arith, later i e)

take_get : (n : ℕ) (xs : List ℕ) (i x : ℕ) → slice_get (take n xs) i ≡ Some x → slice_get xs i ≡ Some x
take_get zero xs i x e = absurd (none-some x e)
take_get (suc n) [] i x e = absurd (none-some x e)
take_get (suc n) (y ∷ xs) zero x e = e
take_get (suc n) (y ∷ xs) (suc i) x e = take_get n xs i x e

-- so is one of the first that wait
pub number_within : (count q : ℕ) (marks : List Mark) (numbers : List ℕ) (i : ℕ) → numbers ≡ take count (numbers_in q marks) → i < length numbers → get_or numbers i 0 < length marks
number_within count q marks numbers i is below =
    omega (
      arith,
      numbers_below q 0 marks i (get_or numbers i 0)
          (take_get count (numbers_in q marks) i (get_or numbers i 0)
          (sym (ap (λ ns. slice_get ns i) is) ∙ slice_get-get_or numbers i 0 below)),
    )

-- the messages of the first that wait are the first of the queue
pub copies_are : (taken : List Frame) (lines : Lines) (q count : ℕ) (name numbers : List ℕ) (copies : List Message) → lines.names ≡ queue_names taken → MailsStand taken lines → slice_get lines.names q ≡ Some name
    → numbers ≡ take count (numbers_in q lines.marks) → copies ≡ map (message_at taken) numbers → copies ≡ take count (queue taken name)
copies_are taken lines q count name numbers copies names stand at first all =
    all ∙ ap (map (message_at taken)) first
    ∙ sym (take-map (message_at taken) count (numbers_in q lines.marks))
    ∙ ap (take count) (numbers_queue taken lines q name names stand at)

-- a frame is one transfer, with one payload
pub payload_same : (frame : Frame) (t u : Transfer) (p q : List ℕ) → frame ≡ frames.Transfer t p → frame ≡ frames.Transfer u q → p ≡ q
payload_same frame t u p q left right = cc
