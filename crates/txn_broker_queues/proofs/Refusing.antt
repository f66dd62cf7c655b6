-- Refusals by the links that are kept are those of the frames that were taken.
use Rattle.txn_broker_queues.proofs.Words.{Bool, Frame, Handle, Link, Linked, List, None, Option, Sent, SessionInnerError, Some, [], any_refused, ap, append-nil, arith, cond, false, is_some, is_sender, is_work, length, length-append, link_after, list_all, messages, option_to_list, peer_link, refl, refusal, refused_by, sent_on, subst, sym, transfer_refusal, true, ℕ, ◌++◌, ◌+◌, ◌||◌, ◌∙◌, ◌∷◌, ◌≡◌}
use Rattle.txn_broker_queues.proofs.Snoc.{link_work, messages_more}
use Rattle.amqp_txn_types.specs.declared.performatives.Frame.TheVariants as frames
use Rattle.amqp_txn_types.specs.declared.performatives.Transfer.{Transfer}
use Rattle.amqp_below_layer.specs.declared.inner_error.SessionInnerError.TheVariants as faults
use Rattle.std.proofs.Common.{Err, Ok, Result, drop, get_or, ◌<◌}
use Rattle.std.specs.Result.{is_err}
use Rattle.std.proofs.lemmas.List.{drop_more}
use Rattle.txn_broker_queues.specs.Given.{are_taken}
use Rattle.txn_broker_queues.specs.Keeping.{AdmitsTransfer}

-- a refusal sees the peer's end of a link alone
abbrev pub same_peer : Option Link → Option Linked → Type 0
same_peer None None = Unit {0}
same_peer (Some l) (Some linked) = l.peer ≡ linked.peer
same_peer None (Some linked) = ⊥
same_peer (Some l) None = ⊥

pub refusal_same : (transfer : Transfer) (count : ℕ) (link : Option Link) (linked : Option Linked) → same_peer link linked → transfer_refusal transfer count (peer_link link) ≡ transfer_refusal transfer count linked
refusal_same transfer count None None same = refl
refusal_same transfer count (Some l) (Some linked) same = ap (λ p. transfer_refusal transfer count (Some (record { address = linked.address; peer = p }))) same
refusal_same transfer count None (Some linked) same = absurd same
refusal_same transfer count (Some l) None same = absurd same

-- a transfer that isn't refused is a message
sent_unrefused : (place : ℕ) (payload : List ℕ) (transfer : Transfer) (count : ℕ) (link : Option Linked) → is_some (transfer_refusal transfer count link) ≡ false
    → (s : Sent) × (sent_on place payload link ≡ Some s)
sent_unrefused place payload transfer count None e = absurd (cc e)
sent_unrefused place payload transfer count (Some link) e = by_case (is_sender link.peer) e
  where
    by_case : (b : Bool) → is_some (cond b (cond (transfer.more || transfer.aborted || are_taken count) (Some faults.IllegalState) None) (Some faults.TransferFrameToSender)) ≡ false
        → (s : Sent) × (cond b (Some (record { place = place; address = link.address; payload = payload })) None ≡ Some s)
    by_case true e = (record { place = place; address = link.address; payload = payload }, refl)
    by_case false e = absurd (cc e)

-- a transfer that is looked at, and then the others
refused_step : (link : Handle → Option Link) (taken : List Frame) (count : ℕ) (transfer : Transfer) (payload : List ℕ) (rest : List Frame) (b : Bool)
    → is_some (refusal taken (frames.Transfer transfer payload)) ≡ b → count ≡ length (messages taken)
    → (count + 1 ≡ length (messages (taken ++ frames.Transfer transfer payload ∷ []))
    → refused_by link (count + 1) rest ≡ any_refused (taken ++ frames.Transfer transfer payload ∷ []) rest)
    → (b || refused_by link (count + 1) rest) ≡ (b || any_refused (taken ++ frames.Transfer transfer payload ∷ []) rest)
refused_step link taken count transfer payload rest true e many later = refl
refused_step link taken count transfer payload rest false e many later =
    let s = sent_unrefused (length taken) payload transfer (length (messages taken)) (link_after taken transfer.handle.0) e in
    later
    (omega (
      arith,
      many,
      ap (λ (l : List Sent). length l) (messages_more taken (frames.Transfer transfer payload) ∙ ap (λ o. messages taken ++ option_to_list o) s.1),
      length-append (messages taken) (s.0 ∷ []),
    ))

-- one of some transfers and dispositions is refused, by the links and the number of messages alone
pub refused_is : (link : Handle → Option Link) (taken : List Frame) (count : ℕ) (list : List Frame) → ((handle : Handle) → same_peer (link handle) (link_after taken handle.0)) → count ≡ length (messages taken)
    → list_all is_work list ≡ true → refused_by link count list ≡ any_refused taken list
refused_is link taken count [] same many work = refl
refused_is link taken count (frames.Transfer transfer payload ∷ rest) same many work =
    let first : transfer_refusal transfer count (peer_link (link transfer.handle)) ≡ refusal taken (frames.Transfer transfer payload) =
    refusal_same transfer count (link transfer.handle) (link_after taken transfer.handle.0) (same transfer.handle)
    ∙ ap (λ n. transfer_refusal transfer n (link_after taken transfer.handle.0)) many in
    ap (λ o. is_some o || refused_by link (count + 1) rest) first
    ∙ refused_step link taken count transfer payload rest (is_some (refusal taken (frames.Transfer transfer payload))) refl many
    (λ more. refused_is link (taken ++ frames.Transfer transfer payload ∷ []) (count + 1) rest
    (λ handle. subst (λ l. same_peer (link handle) l) (sym (link_work taken (frames.Transfer transfer payload) handle.0 refl)) (same handle)) more work)
refused_is link taken count (frames.Disposition d ∷ rest) same many work =
    refused_is link (taken ++ frames.Disposition d ∷ []) count rest
    (λ handle. subst (λ l. same_peer (link handle) l) (sym (link_work taken (frames.Disposition d) handle.0 refl)) (same handle))
    (many ∙ sym (ap (λ (l : List Sent). length l) (messages_more taken (frames.Disposition d) ∙ append-nil (messages taken)))) work
refused_is link taken count (frames.Attach attach ∷ rest) same many work = absurd (cc work)
refused_is link taken count (frames.Flow flow ∷ rest) same many work = absurd (cc work)
refused_is link taken count (frames.Detach detach ∷ rest) same many work = absurd (cc work)

-- a transfer that isn't admitted is refused, and no other
pub admits-is : (link : Option Link) (transfer : Transfer) (count : ℕ) (result : Result ℕ SessionInnerError) → AdmitsTransfer link transfer count result
    → is_err result ≡ is_some (transfer_refusal transfer count (peer_link link))
admits-is link transfer count (Ok queue) admits = sym (ap (λ o. is_some o) admits.3)
admits-is link transfer count (Err error) admits = sym (ap (λ o. is_some o) admits)

-- the frame at a place, and those after it
pub refused_at : (link : Handle → Option Link) (count i : ℕ) (list : List Frame) (frame : Frame) → i < length list → frame ≡ get_or list i frame
    → refused_by link count (drop i list) ≡ refused_by link count (frame ∷ drop (i + 1) list)
refused_at link count i list frame below is =
    ap (refused_by link count) (drop_more list i frame below)
    ∙ ap (λ f. refused_by link count (f ∷ drop (i + 1) list)) (sym is)

-- a frame that is no transfer
pub refused_other : (link : Handle → Option Link) (count : ℕ) (frame : Frame) (rest : List Frame) → ((transfer : Transfer) (payload : List ℕ) → frame ≡ frames.Transfer transfer payload → ⊥)
    → refused_by link count (frame ∷ rest) ≡ refused_by link count rest
refused_other link count (frames.Attach attach) rest other = refl
refused_other link count (frames.Flow flow) rest other = refl
refused_other link count (frames.Transfer transfer payload) rest other = absurd (other transfer payload refl)
refused_other link count (frames.Disposition d) rest other = refl
refused_other link count (frames.Detach detach) rest other = refl

-- a transfer that isn't refused
pub refused_next : (link : Handle → Option Link) (number new : ℕ) (frame : Frame) (transfer : Transfer) (payload : List ℕ) (rest : List Frame) (b : Bool)
    → frame ≡ frames.Transfer transfer payload → b ≡ is_some (transfer_refusal transfer number (peer_link (link transfer.handle))) → b ≡ false → new ≡ number + 1
    → refused_by link number (frame ∷ rest) ≡ refused_by link new rest
refused_next link number new frame transfer payload rest b is said un more =
    ap (λ f. refused_by link number (f ∷ rest)) is
    ∙ ap (λ x. x || refused_by link (number + 1) rest) (sym said ∙ un)
    ∙ ap (λ n. refused_by link n rest) (sym more)
