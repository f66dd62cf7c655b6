-- What the kept links say of the frames that were taken.
use Rattle.txn_broker_queues.proofs.Words.{Bool, Frame, Handle, Keeps, Lines, Link, Linked, List, Mail, None, Option, Some, [], ap, arith, cond, enumerate_from, false, inl, inr, is_sender, is_some, length, length-map, link_after, list_all, mail_at, mail_of, messages, named_link, option_map, refl, sent_on, slice_get, slice_get_cases, subst, sym, transfer_refusal, true, ℕ, ◌<◌, ◌&&◌, ◌||◌, ◌∙◌, ◌∷◌, ◌≡◌}
use Rattle.amqp_below_layer.specs.Reviewing.{is_bare}
use Rattle.amqp_below_layer.specs.declared.inner_error.SessionInnerError.TheVariants as faults
use Rattle.amqp_txn_types.specs.declared.performatives.Frame.TheVariants as frames
use Rattle.amqp_txn_types.specs.declared.performatives.Transfer.{Transfer}
use Rattle.std.proofs.lemmas.Bool.Decides.{leb_tells}
use Rattle.std.proofs.lemmas.List.FromFn.{length-enumerate_from}
use Rattle.txn_broker_queues.specs.Given.{are_taken, max_messages}
use Rattle.txn_broker_queues.specs.Taking.{is_work}
use Rattle.txn_broker_queues.proofs.Refusing.{same_peer}

-- no link is kept
pub link_none : (taken : List Frame) (link : Handle → Option Link) (lines : Lines) (handle : Handle) → Keeps taken link lines → link handle ≡ None → link_after taken handle.0 ≡ None
link_none taken link lines handle keeps none = sym (keeps.links handle) ∙ ap (named_link lines.names) none

-- a link of the frames, as it is kept
pub record Found (taken : List Frame) (names : List (List ℕ)) (handle : Handle) (l : Link) : Type 0 where
  pub link : Linked
  pub is : link_after taken handle.0 ≡ Some link
  pub peer : link.peer ≡ l.peer
  pub named : slice_get names l.queue ≡ Some link.address

-- a link is kept
pub link_some : (taken : List Frame) (link : Handle → Option Link) (lines : Lines) (handle : Handle) (l : Link) → Keeps taken link lines → link handle ≡ Some l → Found taken lines.names handle l
link_some taken link lines handle l keeps some =
    elim ((slice_get_cases lines.names l.queue).1) [
      | inl here ↦ record {
        link = record { address = here.0; peer = l.peer };
        is =
            sym (keeps.links handle) ∙ ap (named_link lines.names) some
            ∙ ap (option_map (λ name. record { address = name; peer = l.peer })) here.2;
        peer = refl;
        named = here.2;
      }
      | inr past ↦ absurd (omega (arith, past.0, keeps.within handle l some))
    ]

peer_read : (l : Link) (o : Option (List ℕ)) → is_some o ≡ true → same_peer (Some l) (option_map (λ name. record { address = name; peer = l.peer }) o)
peer_read l None none = absurd (cc none)
peer_read l (Some name) so = refl

get_some : {A : Type 0} (xs : List A) (i : ℕ) → i < length xs → is_some (slice_get xs i) ≡ true
get_some xs i below =
    elim ((slice_get_cases xs i).1) [
      | inl here ↦ ap (λ o. is_some o) here.2
      | inr past ↦ absurd (omega (arith, past.0, below))
    ]

peer_named : (names : List (List ℕ)) (o : Option Link) → ((l : Link) → o ≡ Some l → l.queue < length names) → same_peer o (named_link names o)
peer_named names None below = tt
peer_named names (Some l) below = peer_read l (slice_get names l.queue) (get_some names l.queue (below l refl))

-- each kept link has the peer's end of that of the frames
pub peers_same : (taken : List Frame) (link : Handle → Option Link) (lines : Lines) → Keeps taken link lines → (handle : Handle) → same_peer (link handle) (link_after taken handle.0)
peers_same taken link lines keeps handle =
    subst (λ o. same_peer (link handle) o) (keeps.links handle) (peer_named lines.names (link handle) (keeps.within handle))

-- as many messages are kept as were sent
pub count_kept : (taken : List Frame) (link : Handle → Option Link) (lines : Lines) → Keeps taken link lines → length lines.marks ≡ length (messages taken)
count_kept taken link lines keeps =
    sym (length-map lines.marks (mail_at lines.names))
    ∙ ap (λ (ms : List Mail). length ms) keeps.mails
    ∙ length-map (enumerate_from 0 (messages taken)) (mail_of taken)
    ∙ length-enumerate_from 0 (messages taken)

-- a transfer that isn't refused comes while numbers are left, on a link of a sender
pub record Unrefused (count : ℕ) (o : Option Linked) : Type 0 where
  pub link : Linked
  pub is : o ≡ Some link
  pub sender : is_sender link.peer ≡ true
  pub below : count < max_messages

pub unrefused : (transfer : Transfer) (count : ℕ) (o : Option Linked) → transfer_refusal transfer count o ≡ None → Unrefused count o
unrefused transfer count None e = absurd (cc e)
unrefused transfer count (Some link) e = by_sender (is_sender link.peer) refl e
  where
    numbers : (b : Bool) → cond b (Some faults.IllegalState) None ≡ None → b ≡ false
    numbers true e = absurd (cc e)
    numbers false e = refl

    last : (a b c : Bool) → (a || b || c) ≡ false → c ≡ false
    last true b c e = absurd (cc e)
    last false true c e = absurd (cc e)
    last false false c e = e

    by_sender : (b : Bool) → is_sender link.peer ≡ b
        → cond b (cond (transfer.more || transfer.aborted || are_taken count) (Some faults.IllegalState) None) (Some faults.TransferFrameToSender) ≡ None
        → Unrefused count (Some link)
    by_sender true so e =
        let left = last transfer.more transfer.aborted (are_taken count) (numbers (transfer.more || transfer.aborted || are_taken count) e) in
        elim (leb_tells max_messages count) [
          | inl p ↦ let un : true ≡ false = sym p.0 ∙ left in absurd (cc un)
          | inr p ↦ record { link = link; is = refl; sender = so; below = p.1 }
        ]
    by_sender false un e = absurd (cc e)

-- the message of such a transfer
pub sent_is : (place : ℕ) (payload : List ℕ) (link : Linked) → is_sender link.peer ≡ true
    → sent_on place payload (Some link) ≡ Some (record { place = place; address = link.address; payload = payload })
sent_is place payload link so = ap (λ b. cond b (Some (record { place = place; address = link.address; payload = payload })) None) so

and_right : (a b : Bool) → (a && b) ≡ true → b ≡ true
and_right true b e = e
and_right false b e = absurd (cc e)

-- frames without a transactional state are work
pub bare_work : (list : List Frame) → list_all is_bare list ≡ true → list_all is_work list ≡ true
bare_work [] all = refl
bare_work (frames.Attach attach ∷ list) all = absurd (cc all)
bare_work (frames.Flow flow ∷ list) all = absurd (cc all)
bare_work (frames.Transfer transfer payload ∷ list) all = bare_work list (and_right (is_bare (frames.Transfer transfer payload)) (list_all is_bare list) all)
bare_work (frames.Disposition d ∷ list) all = bare_work list (and_right (is_bare (frames.Disposition d)) (list_all is_bare list) all)
bare_work (frames.Detach detach ∷ list) all = absurd (cc all)
