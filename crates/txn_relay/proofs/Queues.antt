-- One message moved: the queues once its post and its retirement were taken.
use Rattle.txn_broker_queues.proofs.Words.{Bool, Frame, List, None, Option, Sent, Some, [], ap, append-nil, arith, cond, cons_option, drop, enumerate_from, false, filter_map, filter_map-append, inl, inr, is_gone, leb_tells, length, link_after, list_any, list_any-append, map-append, messages, nat_eq, nat_le, none-some, not, option_to_list, pointwise, queue, refl, removes, same_Some, same_text, sent_on, slice_get, suc, sym, take, true, waiting, zero, ℕ, ◌++◌, ◌+◌, ◌&&◌, ◌<◌, ◌||◌, ◌∙◌, ◌∷◌, ◌≡◌, ◌≤◌}
use Rattle.txn_broker_queues.proofs.Snoc.{gone_more, gone_new, link_work, messages_more, or_false, sent_new}
use Rattle.txn_broker_queues.proofs.Mails.{Placed, enumerate-append, placed}
use Rattle.txn_broker_queues.specs.Queues.{attaches}
use Rattle.txn_broker_queues.specs.declared.message.Message.{Message}
use Rattle.amqp_txn_types.specs.Plain.{plain_disposition}
use Rattle.amqp_txn_types.specs.declared.delivery.DeliveryState.TheVariants as states
use Rattle.amqp_txn_types.specs.declared.performatives.Frame.TheVariants as frames
use Rattle.amqp_txn_types.specs.declared.small.Role.TheVariants as roles
use Rattle.txn_relay.specs.Moves.{from_name, to_handle, to_name, transfer_on}
use Rattle.txn_relay.specs.Once.{payloads}
use Rattle.txn_relay.specs.Stages.{Queues}

-- the post and the retirement of a message, as the broker takes them
abbrev pub posted : Message → Frame
posted m = frames.Transfer (transfer_on to_handle m.number) m.payload

abbrev pub retired : Message → Frame
retired m = frames.Disposition (record (plain_disposition roles.Receiver m.number) {
  state = Some states.Accepted;
  settled = true;
})

-- the queue of a name among these messages, of which the first has this number
abbrev pub waiting_in : List Frame → List ℕ → ℕ → List Sent → List Message
waiting_in taken name n sents = filter_map (waiting taken name) (enumerate_from n sents)

and_no : (w : Bool) → (w && false) ≡ false
and_no true = refl
and_no false = refl

or_yes : (w : Bool) → (w || true) ≡ true
or_yes true = refl
or_yes false = refl

-- ---- one message, once a frame more was taken

same_one : (taken : List Frame) (frame : Frame) (name : List ℕ) (n : ℕ) (s : Sent) → s.place < length taken → removes n frame ≡ false
    → waiting (taken ++ frame ∷ []) name (n, s) ≡ waiting taken name (n, s)
same_one taken frame name n s below isnt =
    ap (λ b. cond (pointwise nat_eq s.address name && not b) (Some (record { number = n; payload = s.payload })) None)
    (gone_more taken frame n s.place below ∙ ap (λ b. is_gone taken n s.place || b) isnt ∙ or_false (is_gone taken n s.place))

gone_one : (taken : List Frame) (frame : Frame) (name : List ℕ) (n : ℕ) (s : Sent) → s.place < length taken → removes n frame ≡ true
    → waiting (taken ++ frame ∷ []) name (n, s) ≡ None
gone_one taken frame name n s below does =
    ap (λ b. cond (pointwise nat_eq s.address name && not b) (Some (record { number = n; payload = s.payload })) None)
    (gone_more taken frame n s.place below ∙ ap (λ b. is_gone taken n s.place || b) does ∙ or_yes (is_gone taken n s.place))
    ∙ ap (λ b. cond b (Some (record { number = n; payload = s.payload })) None) (and_no (pointwise nat_eq s.address name))

-- of another queue
other_one : (taken : List Frame) (name : List ℕ) (n : ℕ) (s : Sent) → pointwise nat_eq s.address name ≡ false → waiting taken name (n, s) ≡ None
other_one taken name n s isnt =
    ap (λ b. cond (b && not (is_gone taken n s.place)) (Some (record { number = n; payload = s.payload })) None) isnt

is_one : (b c : Bool) (n : ℕ) (p : List ℕ) (x : Message) → cond (b && c) (Some (record { number = n; payload = p })) None ≡ Some x
    → (b ≡ true) × (x ≡ record { number = n; payload = p })
is_one true true n p x e = (refl, sym (same_Some (record { number = n; payload = p }) x e))
is_one true false n p x e = absurd (none-some x e)
is_one false c n p x e = absurd (none-some x e)

-- ---- all messages

-- a frame that removes none of them leaves them
same_all : (taken : List Frame) (frame : Frame) (name : List ℕ) (n : ℕ) (sents : List Sent) → Placed (length taken) sents → ((k : ℕ) → n ≤ k → removes k frame ≡ false)
    → waiting_in (taken ++ frame ∷ []) name n sents ≡ waiting_in taken name n sents
same_all taken frame name n [] spots none = refl
same_all taken frame name n (s ∷ sents) spots none =
    ap (λ o. cons_option o (waiting_in (taken ++ frame ∷ []) name (n + 1) sents)) (same_one taken frame name n s (spots.below 0 s refl) (none n (omega arith)))
    ∙ ap (cons_option (waiting taken name (n, s)))
    (same_all taken frame name (n + 1) sents (record { below = λ i y e. spots.below (suc i) y e }) (λ k le. none k (omega (arith, le))))

-- a frame that removes the first message of `from` alone
abbrev pub RemovesOne : Frame → ℕ → Type 0
RemovesOne frame m = (removes m frame ≡ true) × ((k : ℕ) → (k ≡ m → ⊥) → removes k frame ≡ false)

address_other : (address : List ℕ) → pointwise nat_eq address from_name ≡ true → pointwise nat_eq address to_name ≡ false
address_other address does =
    ap (λ a. pointwise nat_eq a to_name) (same_text address from_name (sym does))

pub record Out (taken : List Frame) (frame : Frame) (n m : ℕ) (sents : List Sent) (rest : List Message) : Type 0 where
  pub from_is : waiting_in (taken ++ frame ∷ []) from_name n sents ≡ rest
  pub to_is : waiting_in (taken ++ frame ∷ []) to_name n sents ≡ waiting_in taken to_name n sents
  pub least : n ≤ m

take_out : (taken : List Frame) (frame : Frame) (msg : Message) (rest : List Message) (n : ℕ) (sents : List Sent) → Placed (length taken) sents → RemovesOne frame msg.number
    → waiting_in taken from_name n sents ≡ msg ∷ rest → Out taken frame n msg.number sents rest
take_out taken frame msg rest n [] spots one e = absurd (cc e)
take_out taken frame msg rest n (s ∷ sents) spots one e = by_case (waiting taken from_name (n, s)) refl (λ f. take_out taken frame msg rest (n + 1) sents (record { below = λ i y e. spots.below (suc i) y e }) one f) e
  where
    here : s.place < length taken
    here = spots.below 0 s refl

    later : Placed (length taken) sents
    later = record { below = λ i y e. spots.below (suc i) y e }

    by_case : (o : Option Message) → waiting taken from_name (n, s) ≡ o → (waiting_in taken from_name (n + 1) sents ≡ msg ∷ rest → Out taken frame (n + 1) msg.number sents rest) → cons_option o (waiting_in taken from_name (n + 1) sents) ≡ msg ∷ rest → Out taken frame n msg.number (s ∷ sents) rest
    by_case None is more e =
        let out = more e in
        let not_it : n ≡ msg.number → ⊥ = λ same. omega (arith, same, out.least) in
        let isnt : removes n frame ≡ false = one.1 n not_it in record {
          from_is = ap (λ o. cons_option o (waiting_in (taken ++ frame ∷ []) from_name (n + 1) sents)) (same_one taken frame from_name n s here isnt ∙ is) ∙ out.from_is;
          to_is = ap (λ o. cons_option o (waiting_in (taken ++ frame ∷ []) to_name (n + 1) sents)) (same_one taken frame to_name n s here isnt) ∙ ap (cons_option (waiting taken to_name (n, s))) out.to_is;
          least = omega (arith, out.least);
        }
    by_case (Some x) is more e =
        let of = is_one (pointwise nat_eq s.address from_name) (not (is_gone taken n s.place)) n s.payload x is in
        let same : x ≡ msg = cc e in
        let tail : waiting_in taken from_name (n + 1) sents ≡ rest = cc e in
        let number : msg.number ≡ n = ap (λ (y : Message). y.number) (sym same ∙ of.1) in
        let does : removes n frame ≡ true = ap (λ k. removes k frame) (sym number) ∙ one.0 in
        let none : (k : ℕ) → n + 1 ≤ k → removes k frame ≡ false = λ k le. one.1 k (λ same. omega (arith, same, number, le)) in
        let away : pointwise nat_eq s.address to_name ≡ false = address_other s.address of.0 in record {
          from_is = ap (λ o. cons_option o (waiting_in (taken ++ frame ∷ []) from_name (n + 1) sents)) (gone_one taken frame from_name n s here does) ∙ same_all taken frame from_name (n + 1) sents later none ∙ tail;
          to_is = ap (λ o. cons_option o (waiting_in (taken ++ frame ∷ []) to_name (n + 1) sents)) (gone_one taken frame to_name n s here does ∙ sym (other_one taken to_name n s away)) ∙ ap (cons_option (waiting taken to_name (n, s))) (same_all taken frame to_name (n + 1) sents later none);
          least = omega (arith, number);
        }

-- ---- a transfer on a link of the peer that sends

-- the message that it is
abbrev pub sent_to : List Frame → List ℕ → List ℕ → Sent
sent_to taken address payload = record { place = length taken; address = address; payload = payload }

-- each queue, with a message more in one
pub transfer_more : (taken : List Frame) (frame : Frame) (address payload name : List ℕ) → sent_new taken frame ≡ Some (sent_to taken address payload) → ((k : ℕ) → removes k frame ≡ false)
    → queue (taken ++ frame ∷ []) name
    ≡ queue taken name ++ cons_option (cond (pointwise nat_eq address name) (Some (record { number = length (messages taken); payload = payload })) None) []
transfer_more taken frame address payload name is none =
    let w : List Frame = taken ++ frame ∷ [] in
    let s : Sent = sent_to taken address payload in
    let n : ℕ = length (messages taken) in
    let zero_n : 0 + length (messages taken) ≡ n = omega arith in
    ap (λ l. waiting_in w name 0 l) (messages_more taken frame ∙ ap (λ o. messages taken ++ option_to_list o) is)
    ∙ ap (filter_map (waiting w name)) (enumerate-append 0 (messages taken) (s ∷ []))
    ∙ filter_map-append (waiting w name) (enumerate_from 0 (messages taken)) ((0 + n, s) ∷ [])
    ∙ ap (λ l. l ++ cons_option (waiting w name (0 + n, s)) []) (same_all taken frame name 0 (messages taken) (placed taken) (λ k le. none k))
    ∙ ap (λ k. queue taken name ++ cons_option (waiting w name (k, s)) []) zero_n
    ∙ ap (λ b. queue taken name ++ cons_option (cond (pointwise nat_eq address name && not b) (Some (record { number = n; payload = payload })) None) []) (gone_new taken frame n)
    ∙ ap (λ b. queue taken name ++ cons_option (cond b (Some (record { number = n; payload = payload })) None) []) (and_yes (pointwise nat_eq address name))
  where
    and_yes : (w : Bool) → (w && true) ≡ w
    and_yes true = refl
    and_yes false = refl

-- ---- a message moved

le_yes : (n : ℕ) → (nat_le n n && nat_le n n) ≡ true
le_yes n = elim (leb_tells n n) [
  | inl p ↦ ap (λ b. b && b) p.0
  | inr p ↦ absurd (omega (arith, p.1))
]

le_no : (m k : ℕ) → (k ≡ m → ⊥) → (nat_le m k && nat_le k m) ≡ false
le_no m k differ = elim (leb_tells m k) [
  | inr p ↦ ap (λ b. b && nat_le k m) p.0
  | inl p ↦ elim (leb_tells k m) [
    | inr q ↦ ap (λ b. b && nat_le k m) p.0 ∙ q.0
    | inl q ↦ absurd (differ (omega (arith, p.1, q.1)))
  ]
]

retired_one : (m : Message) → RemovesOne (retired m) m.number
retired_one m = (le_yes m.number, λ k differ. le_no m.number k differ)

posted_new : (taken : List Frame) (m : Message) → link_after taken to_handle ≡ Some (record { address = to_name; peer = roles.Sender })
    → sent_new taken (posted m) ≡ Some (sent_to taken to_name m.payload)
posted_new taken m link = ap (sent_on (length taken) m.payload) link

pub drop_get : {X : Type 0} (k : ℕ) (work : List X) (m : X) → slice_get work k ≡ Some m → drop k work ≡ m ∷ drop (suc k) work
drop_get k [] m e = absurd (none-some m e)
drop_get zero (x ∷ work) m e = ap (λ y. y ∷ work) (same_Some x m e)
drop_get (suc k) (x ∷ work) m e = drop_get k work m e

pub take_get : {X : Type 0} (k : ℕ) (work : List X) (m : X) → slice_get work k ≡ Some m → take (suc k) work ≡ take k work ++ m ∷ []
take_get k [] m e = absurd (none-some m e)
take_get zero (x ∷ work) m e = ap (λ y. y ∷ []) (same_Some x m e)
take_get (suc k) (x ∷ work) m e = ap (λ l. x ∷ l) (take_get k work m e)

pub get_within : {X : Type 0} (k : ℕ) (work : List X) (m : X) → slice_get work k ≡ Some m → suc k ≤ length work
get_within k [] m e = absurd (none-some m e)
get_within zero (x ∷ work) m e = omega arith
get_within (suc k) (x ∷ work) m e = let r = get_within k work m e in omega (arith, r)

pub there_more : (name : List ℕ) (taken more : List Frame) → list_any (attaches name) taken ≡ true → list_any (attaches name) (taken ++ more) ≡ true
there_more name taken more does = list_any-append (attaches name) taken more ∙ ap (λ b. b || list_any (attaches name) more) does

-- the queues, with one message more moved
pub moved : (taken : List Frame) (work : List Message) (k : ℕ) (m : Message) → Queues taken work k → slice_get work k ≡ Some m → Queues ((taken ++ posted m ∷ []) ++ retired m ∷ []) work (suc k)
moved taken work k m q at =
    let w : List Frame = taken ++ posted m ∷ [] in
    let v : List Frame = w ++ retired m ∷ [] in
    let new : sent_new taken (posted m) ≡ Some (sent_to taken to_name m.payload) = posted_new taken m q.to_link in
    let w_from : queue w from_name ≡ m ∷ drop (suc k) work =
    transfer_more taken (posted m) to_name m.payload from_name new (λ n. refl) ∙ append-nil (queue taken from_name) ∙ q.from_is ∙ drop_get k work m at in
    let w_to = transfer_more taken (posted m) to_name m.payload to_name new (λ n. refl) in
    let same : messages v ≡ messages w = messages_more w (retired m) ∙ append-nil (messages w) in
    let out = take_out w (retired m) m (drop (suc k) work) 0 (messages w) (placed w) (retired_one m) w_from in record {
      from_there = there_more from_name w (retired m ∷ []) (there_more from_name taken (posted m ∷ []) q.from_there);
      to_there = there_more to_name w (retired m ∷ []) (there_more to_name taken (posted m ∷ []) q.to_there);
      to_link = link_work w (retired m) to_handle refl ∙ link_work taken (posted m) to_handle refl ∙ q.to_link;
      within = get_within k work m at;
      from_is = ap (λ l. waiting_in v from_name 0 l) same ∙ out.from_is;
      to_is =
          ap payloads (ap (λ l. waiting_in v to_name 0 l) same ∙ out.to_is ∙ w_to)
          ∙ map-append (λ (x : Message). x.payload) (queue taken to_name) (record { number = length (messages taken); payload = m.payload } ∷ [])
          ∙ ap (λ l. l ++ m.payload ∷ []) q.to_is
          ∙ sym (map-append (λ (x : Message). x.payload) (take k work) (m ∷ []))
          ∙ ap payloads (sym (take_get k work m at));
    }

-- a queue that was found
pub found_parts : (b : Bool) (q work : List Message) → cond b (Some q) None ≡ Some work → (b ≡ true) × (q ≡ work)
found_parts true q work e = (refl, same_Some q work e)
found_parts false q work e = absurd (none-some work e)
