-- One more frame.
use Rattle.txn_broker_queues.proofs.Words.{Bool, Frame, Linked, List, None, Option, Sent, Some, [], ap, arith, cond, cons_option, drop, drop-append-le, drop_all, false, filter_map, filter_map-append, is_gone, is_sender, is_work, length, length_push, link_after, link_at, link_back, list_any, list_any-append, messages, none-some, option_to_list, range_with_len, refl, removes, reverse, reverse-append, same_Some, sent_at, sent_by, sent_on, slice_get, suc, sym, take, take-append-le, take_all, true, zero, ℕ, ◌++◌, ◌+◌, ◌<◌, ◌||◌, ◌∙◌, ◌∷◌, ◌≡◌, ◌≤◌}
use Rattle.amqp_txn_types.specs.declared.performatives.Frame.TheVariants as frames

-- ---- links

-- the last frame decides first
pub link_more : (taken : List Frame) (frame : Frame) (handle : ℕ) → link_after (taken ++ frame ∷ []) handle ≡ link_back handle (frame ∷ reverse taken)
link_more taken frame handle = ap (link_back handle) (reverse-append taken (frame ∷ []))

link_back_work : (handle : ℕ) (frame : Frame) (earlier : List Frame) → is_work frame ≡ true → link_back handle (frame ∷ earlier) ≡ link_back handle earlier
link_back_work handle (frames.Attach attach) earlier so = absurd (cc so)
link_back_work handle (frames.Flow flow) earlier so = refl
link_back_work handle (frames.Transfer transfer payload) earlier so = refl
link_back_work handle (frames.Disposition d) earlier so = refl
link_back_work handle (frames.Detach detach) earlier so = absurd (cc so)

-- a transfer or a disposition leaves the links
pub link_work : (taken : List Frame) (frame : Frame) (handle : ℕ) → is_work frame ≡ true → link_after (taken ++ frame ∷ []) handle ≡ link_after taken handle
link_work taken frame handle so =
    link_more taken frame handle ∙ link_back_work handle frame (reverse taken) so

-- ---- messages

get_left : (taken : List Frame) (frame : Frame) (i : ℕ) → i < length taken → slice_get (taken ++ frame ∷ []) i ≡ slice_get taken i
get_left [] frame i below = absurd (omega (arith, below))
get_left (x ∷ taken) frame zero below = refl
get_left (x ∷ taken) frame (suc i) below = get_left taken frame i (omega (arith, below))

get_here : (taken : List Frame) (frame : Frame) → slice_get (taken ++ frame ∷ []) (length taken) ≡ Some frame
get_here [] frame = refl
get_here (x ∷ taken) frame = get_here taken frame

sent_by_same : (w v : List Frame) (i : ℕ) (o : Option Frame) → ((handle : ℕ) → link_at w i handle ≡ link_at v i handle) → sent_by w i o ≡ sent_by v i o
sent_by_same w v i None same = refl
sent_by_same w v i (Some (frames.Attach attach)) same = refl
sent_by_same w v i (Some (frames.Flow flow)) same = refl
sent_by_same w v i (Some (frames.Transfer transfer payload)) same = ap (sent_on i payload) (same transfer.handle.0)
sent_by_same w v i (Some (frames.Disposition d)) same = refl
sent_by_same w v i (Some (frames.Detach detach)) same = refl

-- the messages before are as they were
sent_left : (taken : List Frame) (frame : Frame) (i : ℕ) → i < length taken → sent_at (taken ++ frame ∷ []) i ≡ sent_at taken i
sent_left taken frame i below =
    let w : List Frame = taken ++ frame ∷ [] in
    ap (sent_by w i) (get_left taken frame i below)
    ∙ sent_by_same w taken i (slice_get taken i)
    (λ handle. ap (λ v. link_after v handle) (take-append-le i taken (frame ∷ []) (omega (arith, below))))

-- the message that the last frame is
abbrev pub sent_new : List Frame → Frame → Option Sent
sent_new taken (frames.Transfer transfer payload) = sent_on (length taken) payload (link_after taken transfer.handle.0)
sent_new taken _ = None

take_whole : (taken : List Frame) (frame : Frame) → take (length taken) (taken ++ frame ∷ []) ≡ taken
take_whole taken frame =
    take-append-le (length taken) taken (frame ∷ []) (omega arith) ∙ take_all (length taken) taken (omega arith)

sent_by_new : (taken : List Frame) (frame : Frame) → sent_by (taken ++ frame ∷ []) (length taken) (Some frame) ≡ sent_new taken frame
sent_by_new taken (frames.Attach attach) = refl
sent_by_new taken (frames.Flow flow) = refl
sent_by_new taken (frames.Transfer transfer payload) =
    ap (λ w. sent_on (length taken) payload (link_after w transfer.handle.0))
    (take_whole taken (frames.Transfer transfer payload))
sent_by_new taken (frames.Disposition d) = refl
sent_by_new taken (frames.Detach detach) = refl

sent_here : (taken : List Frame) (frame : Frame) → sent_at (taken ++ frame ∷ []) (length taken) ≡ sent_new taken frame
sent_here taken frame =
    ap (sent_by (taken ++ frame ∷ []) (length taken)) (get_here taken frame) ∙ sent_by_new taken frame

range_push : (a n : ℕ) → range_with_len a (suc n) ≡ range_with_len a n ++ (a + n) ∷ []
range_push a zero = let e : a ≡ a + 0 = omega arith in ap (λ k. k ∷ []) e
range_push a (suc n) =
    let e : a + 1 + n ≡ a + suc n = omega arith in
    ap (λ l. a ∷ l) (range_push (a + 1) n ∙ ap (λ k. range_with_len (a + 1) n ++ k ∷ []) e)

filter_map_same : (h g : ℕ → Option Sent) (a n : ℕ) → ((i : ℕ) → a ≤ i → i < a + n → h i ≡ g i) → filter_map h (range_with_len a n) ≡ filter_map g (range_with_len a n)
filter_map_same h g a zero same = refl
filter_map_same h g a (suc n) same =
    ap (λ o. cons_option o (filter_map h (range_with_len (a + 1) n))) (same a (omega arith) (omega arith))
    ∙ ap (cons_option (g a)) (filter_map_same h g (a + 1) n
    (λ i low high. same i (omega (arith, low)) (omega (arith, high))))

one_option : {A : Type 0} (o : Option A) → cons_option o [] ≡ option_to_list o
one_option None = refl
one_option (Some x) = refl

-- the messages, and the one that the last frame is
pub messages_more : (taken : List Frame) (frame : Frame) → messages (taken ++ frame ∷ []) ≡ messages taken ++ option_to_list (sent_new taken frame)
messages_more taken frame =
    let w : List Frame = taken ++ frame ∷ [] in
    let n : ℕ = length taken in
    let long : length w ≡ suc n = length_push taken frame ∙ omega arith in
    let last : 0 + n ≡ n = omega arith in
    ap (λ k. filter_map (sent_at w) (range_with_len 0 k)) long
    ∙ ap (filter_map (sent_at w)) (range_push 0 n)
    ∙ filter_map-append (sent_at w) (range_with_len 0 n) ((0 + n) ∷ [])
    ∙ ap (λ l. l ++ cons_option (sent_at w (0 + n)) [])
    (filter_map_same (sent_at w) (sent_at taken) 0 n (λ i low high. sent_left taken frame i (omega (arith, high))))
    ∙ ap (λ l. messages taken ++ l)
    (one_option (sent_at w (0 + n)) ∙ ap (λ k. option_to_list (sent_at w k)) last ∙ ap option_to_list (sent_here taken frame))

-- ---- where the messages stand

sent_on_place : (place : ℕ) (payload : List ℕ) (link : Option Linked) (s : Sent) → sent_on place payload link ≡ Some s → s.place ≡ place
sent_on_place place payload None s e = absurd (none-some s e)
sent_on_place place payload (Some link) s e = by_case (is_sender link.peer) e
  where
    by_case : (b : Bool) → cond b (Some (record { place = place; address = link.address; payload = payload })) None ≡ Some s → s.place ≡ place
    by_case true e = sym (ap (λ (x : Sent). x.place) (same_Some (record { place = place; address = link.address; payload = payload }) s e))
    by_case false e = absurd (none-some s e)

sent_by_place : (w : List Frame) (i : ℕ) (o : Option Frame) (s : Sent) → sent_by w i o ≡ Some s → s.place ≡ i
sent_by_place w i None s e = absurd (none-some s e)
sent_by_place w i (Some (frames.Attach attach)) s e = absurd (none-some s e)
sent_by_place w i (Some (frames.Flow flow)) s e = absurd (none-some s e)
sent_by_place w i (Some (frames.Transfer transfer payload)) s e = sent_on_place i payload (link_at w i transfer.handle.0) s e
sent_by_place w i (Some (frames.Disposition d)) s e = absurd (none-some s e)
sent_by_place w i (Some (frames.Detach detach)) s e = absurd (none-some s e)

-- a message is at its place
pub sent_place : (w : List Frame) (i : ℕ) (s : Sent) → sent_at w i ≡ Some s → s.place ≡ i
sent_place w i s e = sent_by_place w i (slice_get w i) s e

-- ---- what is gone

pub or_false : (b : Bool) → (b || false) ≡ b
or_false true = refl
or_false false = refl

-- a message that was there before is gone if it was, or if the last frame removes it
pub gone_more : (taken : List Frame) (frame : Frame) (number place : ℕ) → place < length taken → is_gone (taken ++ frame ∷ []) number place ≡ (is_gone taken number place || removes number frame)
gone_more taken frame number place below =
    ap (list_any (removes number)) (drop-append-le (place + 1) taken (frame ∷ []) (omega (arith, below)))
    ∙ list_any-append (removes number) (drop (place + 1) taken) (frame ∷ [])
    ∙ ap (λ b. is_gone taken number place || b) (or_false (removes number frame))

-- the last frame's own message isn't gone
pub gone_new : (taken : List Frame) (frame : Frame) (number : ℕ) → is_gone (taken ++ frame ∷ []) number (length taken) ≡ false
gone_new taken frame number =
    ap (list_any (removes number))
    (drop_all (length taken + 1) (taken ++ frame ∷ []) (omega (arith, length_push taken frame)))
