-- A broker that is filled with messages, one after another.
use Rattle.std.proofs.Common.{◌≡◌, ℕ, suc, ◌+◌, ◌<◌, cond, Some, None, List, [], ◌∷◌, ◌++◌, length, take, get_or, refl, sym, ◌∙◌, ap, arith}
use Rattle.std.specs.List.{list_any}
use Rattle.std.specs.Prelude.{option_to_list}
use Rattle.std.proofs.lemmas.List.{length-append, length-take-le, take_more}
use Rattle.amqp_txn_types.specs.declared.performatives.Frame.{Frame}
use Rattle.amqp_txn_types.specs.declared.performatives.Frame.TheVariants as frames
use Rattle.txn_broker_queues.proofs.Snoc.{link_work, messages_more, sent_new}
use Rattle.txn_broker_queues.specs.declared.message.Message.{Message}
use Rattle.txn_broker_queues.specs.Queues.{attaches, link_after, messages, queue, queue_found, sent_on}
use Rattle.txn_broker_queues.specs.Taking.{Board, taken_of}
use Rattle.txn_relay.specs.Moves.{from_handle, from_name, to_handle, to_name, transfer_on}
use Rattle.txn_relay.proofs.Queues.{found_parts, sent_to, there_more, transfer_more}
use Rattle.txn_relay.specs.Filling.{Filled, attach_to, numbered}

pub numbered_more : (n : ℕ) (payloads : List (List ℕ)) (payload : List ℕ) → numbered n (payloads ++ payload ∷ []) ≡ numbered n payloads ++ record { number = n + length payloads; payload = payload } ∷ []
numbered_more n [] payload = let e : n ≡ n + 0 = omega arith in ap (λ k. record { number = k; payload = payload } ∷ []) e
numbered_more n (p ∷ payloads) payload =
    let e : n + 1 + length payloads ≡ n + suc (length payloads) = omega arith in
    ap (λ l. record { number = n; payload = p } ∷ l) (numbered_more (n + 1) payloads payload ∙ ap (λ k. numbered (n + 1) payloads ++ record { number = k; payload = payload } ∷ []) e)

-- the transfer of a message to `from`
abbrev pub sent_from : ℕ → List ℕ → Frame
sent_from number payload = frames.Transfer (transfer_on from_handle number) payload

found_more : (taken : List Frame) (frame : Frame) (name : List ℕ) (old now : List Message) → queue_found taken name ≡ Some old → queue (taken ++ frame ∷ []) name ≡ queue taken name ++ now → queue_found (taken ++ frame ∷ []) name ≡ Some (old ++ now)
found_more taken frame name old now found more =
    let parts = found_parts (list_any (attaches name) taken) (queue taken name) old found in
    ap (λ b. cond b (Some (queue (taken ++ frame ∷ []) name)) None) (there_more name taken (frame ∷ []) parts.0)
    ∙ ap Some (more ∙ ap (λ l. l ++ now) parts.1)

-- one message more
pub filled_more : (old new : Board) (list : List Message) (n : ℕ) (payload : List ℕ) → Filled old list n → taken_of new ≡ taken_of old ++ sent_from n payload ∷ [] → Filled new (list ++ record { number = n; payload = payload } ∷ []) (n + 1)
filled_more old new list n payload f took =
    let taken : List Frame = taken_of old in
    let frame : Frame = sent_from n payload in
    let is : sent_new taken frame ≡ Some (sent_to taken from_name payload) = ap (sent_on (length taken) payload) f.filled.from_link in
    let from_more = transfer_more taken frame from_name payload from_name is (λ k. refl) in
    let to_more = transfer_more taken frame from_name payload to_name is (λ k. refl) in
    let all : messages (taken ++ frame ∷ []) ≡ messages taken ++ sent_to taken from_name payload ∷ [] = messages_more taken frame ∙ ap (λ o. messages taken ++ option_to_list o) is in
    let long = length-append (messages taken) (sent_to taken from_name payload ∷ []) in
    let was = f.count_is in
    record {
      filled = record {
        from_is =
            ap (λ t. queue_found t from_name) took
            ∙ found_more taken frame from_name list (record { number = length (messages taken); payload = payload } ∷ []) f.filled.from_is from_more
            ∙ ap (λ k. Some (list ++ record { number = k; payload = payload } ∷ [])) f.count_is;
        to_is =
            ap (λ t. queue_found t to_name) took
            ∙ found_more taken frame to_name [] [] f.filled.to_is to_more;
        from_link = ap (λ t. link_after t from_handle) took ∙ link_work taken frame from_handle refl ∙ f.filled.from_link;
        to_link = ap (λ t. link_after t to_handle) took ∙ link_work taken frame to_handle refl ∙ f.filled.to_link;
      };
      count_is = ap (λ t. length (messages t)) took ∙ ap length all ∙ omega (arith, long, was);
    }

-- with the two attaches alone
pub filled_none : (broker : Board) → taken_of broker ≡ frames.Attach (attach_to from_name (record { 0 = from_handle })) ∷ frames.Attach (attach_to to_name (record { 0 = to_handle })) ∷ [] → Filled broker [] 0
filled_none broker took = record {
  filled = record {
    from_is = ap (λ t. queue_found t from_name) took;
    to_is = ap (λ t. queue_found t to_name) took;
    from_link = ap (λ t. link_after t from_handle) took;
    to_link = ap (λ t. link_after t to_handle) took;
  };
  count_is = ap (λ t. length (messages t)) took;
}

-- the messages so far, with one more
pub numbered_take : (payloads : List (List ℕ)) (i : ℕ) (p : List ℕ) → i < length payloads → p ≡ get_or payloads i p → numbered 0 (take i payloads) ++ record { number = i; payload = p } ∷ [] ≡ numbered 0 (take (i + 1) payloads)
numbered_take payloads i p within is =
    let long = length-take-le i payloads (omega (arith, within)) in
    let count : 0 + length (take i payloads) ≡ i = omega (arith, long) in
    sym
    (ap (numbered 0) (take_more payloads i p within ∙ ap (λ (x : List ℕ). take i payloads ++ x ∷ []) (sym is))
    ∙ numbered_more 0 (take i payloads) p
    ∙ ap (λ k. numbered 0 (take i payloads) ++ record { number = k; payload = p } ∷ []) count)
