-- A transfer that is admitted, by the links that are kept.
use Rattle.txn_broker_queues.proofs.Words.{Bool, Frame, Handle, Keeps, Lines, Link, Linked, List, None, Ok, Option, Err, SessionInnerError, [], ap, arith, came, inl, inr, length, length-map, link_after, messages, option_map, peer_link, any_refused, list_all, refl, refused_by, sent_on, slice_get, subst, sym, transfer_refusal, true, Bool, ℕ, ◌++◌, ◌∙◌, ◌∷◌, ◌≡◌, ◌≤◌, ◌⊎◌}
use Rattle.amqp_below_layer.specs.Reviewing.{is_bare}
use Rattle.amqp_below_layer.specs.declared.inner_error.SessionInnerError.TheVariants as faults
use Rattle.amqp_txn_types.specs.declared.performatives.Frame.TheVariants as frames
use Rattle.amqp_txn_types.specs.declared.performatives.Transfer.{Transfer}
use Rattle.txn_broker_queues.specs.Keeping.{AdmitsTransfer, queue_names}
use Rattle.txn_broker_queues.specs.Taking.{Admitted, Board, NotTook, frames_of, taken_of}
use Rattle.txn_broker_queues.proofs.Kept.{keeps_transfer}
use Rattle.txn_broker_queues.proofs.Linking.{bare_work, count_kept, link_some, peers_same, sent_is, unrefused}
use Rattle.txn_broker_queues.proofs.Refusing.{refusal_same, refused_is}

module _ (old : Board) (journal : List (Frame × List Frame)) (link : Handle → Option Link) (lines : Lines) (same : journal ≡ old.journal) (keeps : Keeps (frames_of journal) link lines) where
  -- a refusal by the kept links is one by the frames
  refusal_is : (transfer : Transfer) (count : ℕ) → count ≡ length lines.marks
      → transfer_refusal transfer count (peer_link (link transfer.handle)) ≡ transfer_refusal transfer (length (messages (taken_of old))) (link_after (taken_of old) transfer.handle.0)
  refusal_is transfer count many =
      refusal_same transfer count (link transfer.handle) (link_after (frames_of journal) transfer.handle.0) (peers_same (frames_of journal) link lines keeps transfer.handle)
      ∙ ap (λ n. transfer_refusal transfer n (link_after (frames_of journal) transfer.handle.0)) (many ∙ count_kept (frames_of journal) link lines keeps)
      ∙ ap (λ j. transfer_refusal transfer (length (messages (frames_of j))) (link_after (frames_of j) transfer.handle.0)) same

  -- it is refused
  pub not_admitted : (new : Board) (transfer : Transfer) (payload : List ℕ) (count : ℕ) (error : SessionInnerError) → count ≡ length lines.marks → AdmitsTransfer (link transfer.handle) transfer count (Err error)
      → new.journal ≡ old.journal → NotTook old new (frames.Transfer transfer payload) error
  not_admitted new transfer payload count error many refused unchanged = record {
    journal = unchanged;
    why = inl (sym (refusal_is transfer count many) ∙ refused);
  }

  -- room lacks for it
  pub lacking : (new : Board) (transfer : Transfer) (payload : List ℕ) (count queue : ℕ) (error : SessionInnerError) → count ≡ length lines.marks → AdmitsTransfer (link transfer.handle) transfer count (Ok queue)
      → new.journal ≡ old.journal → error ≡ faults.NoMemory → (old.room ≡ 0) ⊎ (old.message_room ≡ 0) → NotTook old new (frames.Transfer transfer payload) error
  lacking new transfer payload count queue error many admits unchanged is lacks = record {
    journal = unchanged;
    why = inr (sym (refusal_is transfer count many) ∙ admits.3, is, lacks);
  }

  -- it is admitted
  pub admitted : (new : Board) (transfer : Transfer) (count queue : ℕ) → count ≡ length lines.marks → AdmitsTransfer (link transfer.handle) transfer count (Ok queue)
      → new.journal ≡ old.journal → 1 ≤ new.room → old.room ≤ new.room → 1 ≤ new.message_room → old.message_room ≤ new.message_room → Admitted old new transfer queue
  admitted new transfer count queue many admits unchanged room stays messages_room messages_stay =
      let found = link_some (frames_of journal) link lines transfer.handle admits.0 keeps admits.1 in
      record {
        unrefused = sym (refusal_is transfer count many) ∙ admits.3;
        named =
            ap (λ j. option_map (λ (x : Linked). x.address) (link_after (frames_of j) transfer.handle.0)) (sym same)
            ∙ ap (option_map (λ (x : Linked). x.address)) found.is
            ∙ sym found.named
            ∙ ap (slice_get lines.names) (sym admits.2)
            ∙ ap (λ ns. slice_get ns queue) (keeps.names ∙ ap (λ j. queue_names (frames_of j)) same);
        journal = unchanged;
        room = room;
        stays = stays;
        message_room = messages_room;
        messages_stay = messages_stay;
      }

  -- it is taken
  pub keeps_admitted : (mid : Board) (transfer : Transfer) (payload : List ℕ) (place queue : ℕ) (new : Lines) → Admitted old mid transfer queue → place ≡ length journal
      → new.names ≡ lines.names → new.marks ≡ lines.marks ++ came place queue ∷ []
      → Keeps (frames_of journal ++ frames.Transfer transfer payload ∷ []) link new
  keeps_admitted mid transfer payload place queue new admits at names marks =
      let taken : List Frame = frames_of journal in
      let h : ℕ = transfer.handle.0 in
      let un = subst (λ j. transfer_refusal transfer (length (messages (frames_of j))) (link_after (frames_of j) h) ≡ None) (sym same) admits.unrefused in
      let named = subst (λ j. option_map (λ (x : Linked). x.address) (link_after (frames_of j) h) ≡ slice_get (queue_names (frames_of j)) queue) (sym same) admits.named in
      let u = unrefused transfer (length (messages taken)) (link_after taken h) un in
      let long : length taken ≡ length journal = length-map journal (λ (pair : Frame × List Frame). pair.0) in
      keeps_transfer taken transfer payload (record { place = length taken; address = u.link.address; payload = payload }) queue link lines new
      (ap (sent_on (length taken) payload) u.is ∙ sent_is (length taken) payload u.link u.sender) refl
      (ap (λ ns. slice_get ns queue) keeps.names ∙ sym named ∙ ap (option_map (λ (x : Linked). x.address)) u.is)
      names
      (marks ∙ ap (λ n. lines.marks ++ came n queue ∷ []) (at ∙ sym long))
      (omega (arith, count_kept taken link lines keeps, u.below)) keeps

  -- a review finds a refusal where there is one
  pub review_is : (count : ℕ) (list : List Frame) (r : Bool) → count ≡ length lines.marks → list_all is_bare list ≡ true → r ≡ refused_by link count list → any_refused (taken_of old) list ≡ r
  review_is count list r many bare is =
      sym
      (is
      ∙ refused_is link (frames_of journal) count list (peers_same (frames_of journal) link lines keeps) (many ∙ count_kept (frames_of journal) link lines keeps) (bare_work list bare)
      ∙ ap (λ j. any_refused (frames_of j) list) same)
