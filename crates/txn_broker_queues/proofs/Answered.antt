-- A journal has for each frame what is given back for it.
use Rattle.txn_broker_queues.proofs.Words.{Frame, List, [], ap, append-nil, append_assoc, sym, ◌++◌, ◌∙◌, ◌∷◌, ◌≡◌}
use Rattle.txn_broker_queues.specs.Given.{answered, answered_after, given_back}
use Rattle.txn_broker_queues.specs.Taking.{frames_of}
use Rattle.txn_broker_queues.proofs.Telling.{frames_more}

answered-snoc : (taken list : List Frame) (frame : Frame) → answered_after taken (list ++ frame ∷ []) ≡ answered_after taken list ++ (frame, given_back (taken ++ list) frame) ∷ []
answered-snoc taken [] frame = ap (λ t. (frame, given_back t frame) ∷ []) (sym (append-nil taken))
answered-snoc taken (x ∷ list) frame =
    ap (λ l. (x, given_back taken x) ∷ l)
    (answered-snoc (taken ++ x ∷ []) list frame
    ∙ ap (λ t. answered_after (taken ++ x ∷ []) list ++ (frame, given_back t frame) ∷ []) (append_assoc taken (x ∷ []) list))

-- one more frame, with what is given back for it
pub answered_more : (journal new : List (Frame × List Frame)) (frame : Frame) (given : List Frame) → journal ≡ answered (frames_of journal) → given ≡ given_back (frames_of journal) frame
    → new ≡ journal ++ (frame, given) ∷ [] → new ≡ answered (frames_of new)
answered_more journal new frame given stands is grown =
    grown ∙ ap (λ g. journal ++ (frame, g) ∷ []) is
    ∙ ap (λ j. j ++ (frame, given_back (frames_of journal) frame) ∷ []) stands
    ∙ sym (answered-snoc [] (frames_of journal) frame)
    ∙ ap answered (sym (frames_more journal new frame given grown))
