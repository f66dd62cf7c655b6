-- The requests of transactions, and the ends on which their answers are awaited.
use Rattle.std.proofs.Common.{◌≡◌, ℕ, ◌<◌, true, Option, Some, None, List, [], ◌∷◌, ◌++◌, length, get_or, refl, sym, ◌∙◌, ap, arith, subst, ◌⊎◌, inl, inr}
use Rattle.std.specs.Prelude.{option_map, slice_get, slice_set}
use Rattle.std.proofs.lemmas.List.{length-map, length-set, map-set}
use Rattle.std.proofs.lemmas.Option.{slice_get_read, slice_get_within}
use Rattle.amqp_txn_types.specs.declared.small.Token.{Token}
use Rattle.amqp_txn_codec.specs.declared.message.ControlMessageBody.{ControlMessageBody}
use Rattle.amqp_links.specs.declared.answer_slot.AnswerSlot.{AnswerSlot}
use Rattle.amqp_links.specs.declared.answer_slot.AnswerSlot.TheVariants as slots
use Rattle.amqp_links.specs.declared.sendable.Sent.{Sent}
use Rattle.amqp_links.specs.declared.sendable.Sent.TheVariants as sendings
use Rattle.amqp_links.specs.Sending.{Answer, unsettled_count}
use Rattle.amqp_links.specs.SenderWire.{SenderWire}
use Rattle.txn_parties.specs.declared.item.Asked.{Asked}
use Rattle.txn_parties.specs.declared.item.Asked.TheVariants as asked
use Rattle.txn_parties.specs.declared.item.ReplyState.{ReplyState}
use Rattle.txn_parties.specs.declared.item.ReplyState.TheVariants as states
use Rattle.txn_world_wires.specs.declared.control_call.ControlCall.{ControlCall}
use Rattle.txn_world_wires.specs.declared.control_call.ControlCall.TheVariants as calls
use Rattle.txn_world_wires.specs.declared.control_links.Request.{Request}
use Rattle.txn_world_wires.specs.Answers.{answer_of, asked_in, heard_in, hearing_by, sent_of}
use Rattle.txn_world_wires.specs.Asking.{with_asked}
use Rattle.txn_world_wires.specs.Known.{Asks}
use Rattle.txn_world_wires.specs.Table.{is_asked, same_asked}
use Rattle.txn_world_wires.specs.Links.{AreOpen, HasHeard, HasNotSent, HasSent, IsAwaited, IsOpen, IsQuiet, asked_by_all, requested}
use Rattle.txn_world_wires.proofs.Lists.{get-push_other, get-push_same, get-set_other, get-set_same, test_eq}

-- ---- one end of all

-- with another end, the others are as they were
other_end : (ends : List SenderWire) (link : ℕ) (end : SenderWire) (k : ℕ) (w : SenderWire) → link < length ends → slice_get (slice_set ends link end) k ≡ Some w → ((k ≡ link) × (w ≡ end)) ⊎ ((k ≡ link → ⊥) × (slice_get ends k ≡ Some w))
other_end ends link end k w l g =
    elim (test_eq k link) [
      | inl h ↦ let same : slice_get (slice_set ends link end) k ≡ Some end = ap (slice_get (slice_set ends link end)) h.1 ∙ get-set_same ends link end l in
          let is : w ≡ end = let e = sym g ∙ same in cc e in
          inl (h.1, is)
      | inr h ↦ inr (h.1, sym (get-set_other ends link k end h.1) ∙ g)
    ]

quiet_with : (ends : List SenderWire) (link : ℕ) (end : SenderWire) → link < length ends → ((k : ℕ) (w : SenderWire) → slice_get ends k ≡ Some w → IsQuiet w) → IsQuiet end → (k : ℕ) (w : SenderWire) → slice_get (slice_set ends link end) k ≡ Some w → IsQuiet w
quiet_with ends link end l all q k w g =
    elim (other_end ends link end k w l g) [
      | inl h ↦ subst (λ (x : SenderWire). IsQuiet x) (sym h.1) q
      | inr h ↦ all k w h.1
    ]

-- a request stays open where another end takes the place of its own that awaits its answer, too
open_with : (ends : List SenderWire) (link : ℕ) (old end : SenderWire) (r : Request) → slice_get ends link ≡ Some old → IsOpen ends r → (r.link ≡ link → IsAwaited old (sent_of r.call) → IsAwaited end (sent_of r.call)) → IsOpen (slice_set ends link end) r
open_with ends link old end r g o f =
    let l : link < length ends = slice_get_within ends link old g in
    elim (test_eq r.link link) [
      | inl h ↦
          let same : o.end ≡ old = let e = sym o.at ∙ (ap (slice_get ends) h.1 ∙ g) in cc e in
          let own : IsAwaited old (sent_of r.call) = subst (λ (w : SenderWire). IsAwaited w (sent_of r.call)) same o.awaited in
          record {
            end = end;
            at = ap (slice_get (slice_set ends link end)) h.1 ∙ get-set_same ends link end l;
            awaited = f h.1 own;
          }
      | inr h ↦ record {
        end = o.end;
        at = get-set_other ends link r.link end h.1 ∙ o.at;
        awaited = o.awaited;
      }
    ]

-- ---- nothing was sent

pub open_unsent : (ends : List SenderWire) (requests : List (Option Request)) (link : ℕ) (old end : SenderWire) → AreOpen ends requests → slice_get ends link ≡ Some old → HasNotSent old end → AreOpen (slice_set ends link end) requests
open_unsent ends requests link old end a g n = record {
  quiet = quiet_with ends link end (slice_get_within ends link old g) a.quiet n.quiet;
  each = λ m r h. open_with ends link old end r g (a.each m r h) (λ e (w : IsAwaited old (sent_of r.call)). record {
    token = w.token;
    sent_is = w.sent_is;
    slot = ap (λ (l : List AnswerSlot). slice_get l w.token.0) n.answers ∙ w.slot;
  });
  apart = a.apart;
}

-- ---- a call was sent

-- an awaited answer is still awaited once another is, too
awaited_still : (old end : SenderWire) (m : ControlMessageBody) (sent one : Sent) → HasSent old end m sent → IsAwaited old one → IsAwaited end one
awaited_still old end m sent one s w = record {
  token = w.token;
  sent_is = w.sent_is;
  slot =
      let l = slice_get_within old.answers w.token.0 slots.Awaited w.slot in
      ap (λ (x : List AnswerSlot). slice_get x w.token.0) s.answers
      ∙ get-push_other old.answers w.token.0 slots.Awaited (λ e. omega (arith, l, e)) ∙ w.slot;
}

awaited_new : (old end : SenderWire) (m : ControlMessageBody) (sent : Sent) → HasSent old end m sent → IsAwaited end sent
awaited_new old end m sent s = record {
  token = record { 0 = length old.answers };
  sent_is = s.sent_is;
  slot = ap (λ (x : List AnswerSlot). slice_get x (length old.answers)) s.answers ∙ get-push_same old.answers slots.Awaited;
}

-- no request has the token of a call that was sent after it
new_token : (old end : SenderWire) (m : ControlMessageBody) (sent one : Sent) → HasSent old end m sent → IsAwaited old one → one ≡ sent → ⊥
new_token old end m sent one s w e =
    let l = slice_get_within old.answers w.token.0 slots.Awaited w.slot in
    let same : sendings.Unsettled w.token ≡ sendings.Unsettled (record { 0 = length old.answers }) = sym w.sent_is ∙ (e ∙ s.sent_is) in
    let tokens : w.token ≡ record { 0 = length old.answers } = cc same in
    let numbers : w.token.0 ≡ length old.answers = ap (λ (t : Token). t.0) tokens in
    omega (arith, l, numbers)

-- the requests are the old ones, but for that of one transaction, which has this one
abbrev pub OnlyNew : List (Option Request) → List (Option Request) → ℕ → Request → Type 0
OnlyNew old new number r =
    (m : ℕ) (one : Request) → slice_get new m ≡ Some (Some one) → ((m ≡ number) × (one ≡ r)) ⊎ (slice_get old m ≡ Some (Some one))

pub open_sent : (ends : List SenderWire) (requests more : List (Option Request)) (old end : SenderWire) (number : ℕ) (r : Request) (m : ControlMessageBody) → AreOpen ends requests → slice_get ends r.link ≡ Some old → HasSent old end m (sent_of r.call) → OnlyNew requests more number r → AreOpen (slice_set ends r.link end) more
open_sent ends requests more old end number r m a g s only = record {
  quiet = quiet_with ends r.link end (slice_get_within ends r.link old g) a.quiet s.quiet;
  each = λ n one h. elim (only n one h) [
    | inl p ↦ subst (λ (x : Request). IsOpen (slice_set ends r.link end) x) (sym p.1) new
    | inr q ↦ open_with ends r.link old end one g (a.each n one q) (λ e w. awaited_still old end m (sent_of r.call) (sent_of one.call) s w)
  ];
  apart = λ i j one other hi hj same_link same_sent. elim (only i one hi) [
    | inl p ↦ elim (only j other hj) [
      | inl q ↦ p.0 ∙ sym q.0
      | inr q ↦ absurd (own other (a.each j other q) (sym same_link ∙ ap (λ (x : Request). x.link) p.1) (sym same_sent ∙ ap (λ (x : Request). sent_of x.call) p.1))
    ]
    | inr p ↦ elim (only j other hj) [
      | inl q ↦ absurd (own one (a.each i one p) (same_link ∙ ap (λ (x : Request). x.link) q.1) (same_sent ∙ ap (λ (x : Request). sent_of x.call) q.1))
      | inr q ↦ a.apart i j one other p q same_link same_sent
    ]
  ];
}
  where
    new : IsOpen (slice_set ends r.link end) r
    new = record {
      end = end;
      at = get-set_same ends r.link end (slice_get_within ends r.link old g);
      awaited = awaited_new old end m (sent_of r.call) s;
    }

    own : (one : Request) → IsOpen ends one → one.link ≡ r.link → sent_of one.call ≡ sent_of r.call → ⊥
    own one o l e =
        let same : o.end ≡ old = let f = sym o.at ∙ (ap (slice_get ends) l ∙ g) in cc f in
        new_token old end m (sent_of r.call) (sent_of one.call) s (subst (λ (w : SenderWire). IsAwaited w (sent_of one.call)) same o.awaited) e

pub only_pushed : (requests : List (Option Request)) (r : Request) → OnlyNew requests (requests ++ Some r ∷ []) (length requests) r
only_pushed requests r m one h =
    elim (test_eq m (length requests)) [
      | inl e ↦
          let at : slice_get (requests ++ Some r ∷ []) m ≡ Some (Some r) = ap (slice_get (requests ++ Some r ∷ [])) e.1 ∙ get-push_same requests (Some r) in
          let is : one ≡ r = let f = sym h ∙ at in cc f in
          inl (e.1, is)
      | inr e ↦ inr (sym (get-push_other requests m (Some r) e.1) ∙ h)
    ]

pub only_set : (requests : List (Option Request)) (number : ℕ) (r : Request) → number < length requests → OnlyNew requests (slice_set requests number (Some r)) number r
only_set requests number r l m one h =
    elim (test_eq m number) [
      | inl e ↦
          let at : slice_get (slice_set requests number (Some r)) m ≡ Some (Some r) = ap (slice_get (slice_set requests number (Some r))) e.1 ∙ get-set_same requests number (Some r) l in
          let is : one ≡ r = let f = sym h ∙ at in cc f in
          inl (e.1, is)
      | inr e ↦ inr (sym (get-set_other requests number m (Some r) e.1) ∙ h)
    ]

-- ---- an answer was heard

-- another's answer is still awaited
awaited_other : (old end : SenderWire) (sent one : Sent) → IsAwaited old sent → HasHeard old end sent → IsAwaited old one → (one ≡ sent → ⊥) → IsAwaited end one
awaited_other old end sent one a s w ne = record {
  token = w.token;
  sent_is = w.sent_is;
  slot = s.others a.token w.token.0 a.sent_is (λ e.
      let tokens : w.token ≡ a.token = ap (λ (k : ℕ). let t : Token = record { 0 = k } in t) e in
      ne (w.sent_is ∙ ap (λ (t : Token). sendings.Unsettled t) tokens ∙ sym a.sent_is)) ∙ w.slot;
}

pub open_heard : (ends : List SenderWire) (requests : List (Option Request)) (old end : SenderWire) (number : ℕ) (r : Request) → AreOpen ends requests → slice_get requests number ≡ Some (Some r) → slice_get ends r.link ≡ Some old → IsAwaited old (sent_of r.call) → HasHeard old end (sent_of r.call) → AreOpen (slice_set ends r.link end) (slice_set requests number None)
open_heard ends requests old end number r a h g w s = record {
  quiet = quiet_with ends r.link end (slice_get_within ends r.link old g) a.quiet s.quiet;
  each = λ n one k.
      let p = still n one k in
      open_with ends r.link old end one g (a.each n one p.1) (λ e (v : IsAwaited old (sent_of one.call)).
      awaited_other old end (sent_of r.call) (sent_of one.call) w s v (λ f. p.0 (a.apart n number one r p.1 h e f)));
  apart = λ i j one other hi hj. a.apart i j one other (still i one hi).1 (still j other hj).1;
}
  where
    -- one that is left was there, and is another's
    still : (n : ℕ) (one : Request) → slice_get (slice_set requests number None) n ≡ Some (Some one) → (n ≡ number → ⊥) × (slice_get requests n ≡ Some (Some one))
    still n one k =
        elim (test_eq n number) [
          | inl e ↦
              let at : slice_get (slice_set requests number None) n ≡ Some None = ap (slice_get (slice_set requests number None)) e.1 ∙ get-set_same requests number None (slice_get_within requests number (Some r) h) in
              let f = sym k ∙ at in cc f
          | inr e ↦ (e.1, sym (get-set_other requests number n None e.1) ∙ k)
        ]

-- ---- as they begin

pub new_quiet : (w : SenderWire) → w.calls.failing ≡ [] → w.answers ≡ [] → w.put ≡ [] → IsQuiet w
new_quiet w f a p = record {
  failing = f;
  count = ap (λ (l : List AnswerSlot). length l) a ∙ sym (ap unsettled_count p);
}

pub pushed_quiet : (ends : List SenderWire) (w : SenderWire) → ((k : ℕ) (end : SenderWire) → slice_get ends k ≡ Some end → IsQuiet end) → IsQuiet w → (k : ℕ) (end : SenderWire) → slice_get (ends ++ w ∷ []) k ≡ Some end → IsQuiet end
pushed_quiet ends w all q k end g =
    elim (test_eq k (length ends)) [
      | inl e ↦
          let at : slice_get (ends ++ w ∷ []) k ≡ Some w = ap (slice_get (ends ++ w ∷ [])) e.1 ∙ get-push_same ends w in
          let is : end ≡ w = let f = sym g ∙ at in cc f in
          subst (λ (x : SenderWire). IsQuiet x) (sym is) q
      | inr e ↦ all k end (sym (get-push_other ends k w e.1) ∙ g)
    ]

pub none_open : (ends : List SenderWire) (requests : List (Option Request)) → ((k : ℕ) (end : SenderWire) → slice_get ends k ≡ Some end → IsQuiet end) → requests ≡ [] → AreOpen ends requests
none_open ends requests q e = subst (λ (rs : List (Option Request)). AreOpen ends rs) (sym e) none
  where
    none : AreOpen ends []
    none = record { quiet = q; each = λ n r h. cc h; apart = λ m n r t h. cc h }

-- ---- what stands at a place

-- the end of an open request is that at the place of its link
pub own_end : (ends : List SenderWire) (r : Request) (w : SenderWire) → IsOpen ends r → slice_get ends r.link ≡ Some w → IsAwaited w (sent_of r.call)
own_end ends r w o g =
    let same : o.end ≡ w = let f = sym o.at ∙ g in cc f in
    subst (λ (x : SenderWire). IsAwaited x (sent_of r.call)) same o.awaited

pub open_link : (ends : List SenderWire) (r : Request) → IsOpen ends r → r.link < length ends
open_link ends r o = slice_get_within ends r.link o.end o.at

-- what was read at a place is there
pub read_at : {A : Type 0} (xs : List A) (n : ℕ) (x : A) → n < length xs → x ≡ get_or xs n x → slice_get xs n ≡ Some x
read_at xs n x l e = slice_get_read xs (length xs) n x refl l e

-- ---- what contracts see

pub asked_length : (requests : List (Option Request)) → length (asked_by_all requests) ≡ length requests
asked_length requests = length-map requests (option_map requested)

abbrev pub seen : List SenderWire → List (Option Request) → Asks
seen ends requests = record { links = length ends; asked = asked_by_all requests }

pub seen_with : (ends : List SenderWire) (requests : List (Option Request)) (value : Asks) (link : ℕ) (end : SenderWire) (number : ℕ) (o : Option Request) (p : Option Asked) → seen ends requests ≡ value → option_map requested o ≡ p → seen (slice_set ends link end) (slice_set requests number o) ≡ with_asked value number p
seen_with ends requests value link end number o p v e =
    ap (λ (n : ℕ). let a : Asks = record { links = n; asked = asked_by_all (slice_set requests number o) } in a) (length-set ends link end)
    ∙ ap (λ (l : List (Option Asked)). let a : Asks = record { links = length ends; asked = l } in a) (map-set (option_map requested) requests number o)
    ∙ ap (λ (q : Option Asked). with_asked (seen ends requests) number q) e
    ∙ ap (λ (a : Asks). with_asked a number p) v

-- ---- what an answer says

-- the answer that is filled in for a request, heard by its call, says what the wire's definitions say
pub heard_says : (call : ControlCall) (request : Asked) (state : ReplyState) → same_asked request (asked_in call) ≡ true → heard_in call (answer_of state) ≡ hearing_by request state
heard_says (calls.Declare s) asked.Declare (states.Declared id) h = refl
heard_says (calls.Declare s) asked.Declare states.Accepted h = refl
heard_says (calls.Declare s) asked.Declare (states.Rejected error text) h = refl
heard_says (calls.Declare s) asked.Declare states.Closed h = refl
heard_says (calls.Declare s) asked.Commit state h = cc h
heard_says (calls.Declare s) asked.Rollback state h = cc h
heard_says (calls.Commit s) asked.Commit (states.Declared id) h = refl
heard_says (calls.Commit s) asked.Commit states.Accepted h = refl
heard_says (calls.Commit s) asked.Commit (states.Rejected error text) h = refl
heard_says (calls.Commit s) asked.Commit states.Closed h = refl
heard_says (calls.Commit s) asked.Declare state h = cc h
heard_says (calls.Commit s) asked.Rollback state h = cc h
heard_says (calls.Rollback s) asked.Rollback (states.Declared id) h = refl
heard_says (calls.Rollback s) asked.Rollback states.Accepted h = refl
heard_says (calls.Rollback s) asked.Rollback (states.Rejected error text) h = refl
heard_says (calls.Rollback s) asked.Rollback states.Closed h = refl
heard_says (calls.Rollback s) asked.Declare state h = cc h
heard_says (calls.Rollback s) asked.Commit state h = cc h

-- so it does of a request that was asked for and found
pub asked_says : (requests : List (Option Request)) (number : ℕ) (found : Option Request) (r : Request) (request : Asked) (state : ReplyState) (answer : Answer) → slice_get requests number ≡ Some (Some r) → slice_get requests number ≡ Some found → is_asked (option_map requested found) request ≡ true → answer ≡ answer_of state → heard_in r.call answer ≡ hearing_by request state
asked_says requests number found r request state answer g h t a =
    let same : found ≡ Some r = let f = sym h ∙ g in cc f in
    let is : same_asked request (asked_in r.call) ≡ true = sym (ap (λ (o : Option Request). is_asked (option_map requested o) request) same) ∙ t in
    ap (heard_in r.call) a ∙ heard_says r.call request state is
