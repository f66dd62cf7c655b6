-- What the layer below took, by the places that were drawn on.
use Rattle.std.proofs.Common.{◌≡◌, ℕ, zero, suc, ◌+◌, ◌<◌, ◌≤◌, Bool, true, false, cond, Option, Some, None, List, [], ◌∷◌, ◌++◌, length, map, take, drop, refl, sym, ◌∙◌, ap, arith, subst, append-nil, append_assoc}
use Rattle.std.specs.Prelude.{slice_get}
use Rattle.std.specs.List.{AllByRecursion, zip}
use Rattle.std.proofs.lemmas.List.{length-append, map-append, length-map, take-append-drop, length-take-le, take-map}
use Rattle.amqp_txn_types.specs.Growing.{grown}
use Rattle.amqp_txn_types.specs.declared.id.TransactionId.{TransactionId}
use Rattle.amqp_txn_types.specs.declared.performatives.Frame.{Frame}
use Rattle.amqp_txn_types.specs.Frames.{is_plain_frame, stripped}
use Rattle.amqp_below_layer.specs.OneFrame.{TookFrames}
use Rattle.amqp_below_ids.specs.Drawn.{DrawnIds}
use Rattle.amqp_resource_record.specs.declared.entry.Entry.{Entry}
use Rattle.amqp_resource_record.specs.declared.step.Step.{Step}
use Rattle.amqp_resource_record.specs.declared.step.Step.TheVariants as steps
use Rattle.amqp_resource_record.specs.declared.reply.Reply.{Reply}
use Rattle.amqp_resource_record.specs.Entries.{is_under, step_is_under, steps_of}
use Rattle.amqp_resource_record.specs.Live.{frame_places, frame_places_from, places_from, since}
use Rattle.amqp_resource_record.specs.Hands.{commits, frame_of_step, frames_at, hands, sources, sources_of}
use Rattle.amqp_resource_record.specs.Work.{given_by, handed_by, is_rejected, origins, sources_by}
use Rattle.amqp_resource_record.specs.Answers.{Answer}
use Rattle.amqp_resource_record.proofs.Places.{slice_get-at}
use Rattle.amqp_resource_record.proofs.Looking.{since-below}
use Rattle.amqp_resource_record.proofs.Whole.{given_lengths}
use Rattle.amqp_resource_record.proofs.Origins.{origins-snoc}
use Rattle.txn_parties.specs.declared.item.Item.{Item}
use Rattle.txn_parties.specs.declared.item.Halt.{Halt}
use Rattle.txn_parties.specs.Items.{step_of}
use Rattle.txn_parties.specs.Exchange.{Exchange, items_of, record_of}
use Rattle.txn_parties.specs.Spans.{stop_places}
use Rattle.txn_parties.specs.Turns.{entry_by, with_answer, with_stop}
use Rattle.txn_parties.specs.Invariant.{Keeps}
use Rattle.txn_parties.specs.Taken.{Grew, all_steps}
use Rattle.txn_parties.proofs.Wires.{items-snoc}
use Rattle.txn_parties.proofs.Turning.{record_more}

-- each of these places is a frame's
abbrev pub FramesAt : List Step → List ℕ → Type 0
FramesAt ss xs = AllByRecursion (λ i. (f : Frame) × (slice_get ss i ≡ Some (steps.Frame f))) xs

-- the first frames are those at the first places
frames_at-take : (ss : List Step) (h : ℕ) (xs : List ℕ) → FramesAt ss xs → frames_at ss (take h xs) ≡ take h (frames_at ss xs)
frames_at-take ss zero xs a = refl
frames_at-take ss (suc h) [] a = refl
frames_at-take ss (suc h) (i ∷ xs) a =
    ap (λ o. frame_of_step o ++ frames_at ss (take h xs)) a.0.1
    ∙ ap (λ l. a.0.0 ∷ l) (frames_at-take ss h xs a.1)
    ∙ sym (ap (λ o. take (suc h) (frame_of_step o ++ frames_at ss xs)) a.0.1)

under_frame : (t : TransactionId) (s : Step) → step_is_under t s ≡ true → (f : Frame) × (s ≡ steps.Frame f)
under_frame t (steps.Frame f) h = (f, refl)
under_frame t _ h = cc h

cond_all : (P : ℕ → Type 0) (b : Bool) (n : ℕ) (xs : List ℕ) → (b ≡ true → P n) → AllByRecursion P xs → AllByRecursion P (cond b (n ∷ xs) xs)
cond_all P true n xs h a = (h refl, a)
cond_all P false n xs h a = a

own_step : (before r : List Entry) (e : Entry) → slice_get (steps_of (before ++ e ∷ r)) (length before) ≡ Some e.step
own_step before r e =
    ap (λ ss. slice_get ss (length before)) (map-append (λ (x : Entry). x.step) before (e ∷ r))
    ∙ ap (slice_get (steps_of before ++ e.step ∷ steps_of r)) (sym (length-map before (λ (x : Entry). x.step)))
    ∙ slice_get-at (steps_of before) (steps_of r) e.step

-- the places of an id's frames
places_frames : (t : TransactionId) (before r : List Entry) → FramesAt (steps_of (before ++ r)) (places_from (length before) (is_under t) r)
places_frames t before [] = tt
places_frames t before (e ∷ r) =
    let at : FramesAt (steps_of ((before ++ e ∷ []) ++ r)) (places_from (length (before ++ e ∷ [])) (is_under t) r) = places_frames t (before ++ e ∷ []) r in
    let at2 : FramesAt (steps_of (before ++ e ∷ r)) (places_from (length before + 1) (is_under t) r) =
    subst (λ (n : ℕ). FramesAt (steps_of (before ++ e ∷ r)) (places_from n (is_under t) r)) (length-append before (e ∷ []))
    (subst (λ (l : List Entry). FramesAt (steps_of l) (places_from (length (before ++ e ∷ [])) (is_under t) r)) (append_assoc before (e ∷ []) r) at) in
    cond_all (λ i. (f : Frame) × (slice_get (steps_of (before ++ e ∷ r)) i ≡ Some (steps.Frame f))) (is_under t e) (length before) (places_from (length before + 1) (is_under t) r) (λ u. let f = under_frame t e.step u in (f.0, own_step before r e ∙ ap (λ s. Some s) f.1)) at2

places_from_frames : (r : List Entry) (t : TransactionId) (o : Option ℕ) → ((n : ℕ) → o ≡ Some n → n < length r) → FramesAt (steps_of r) (frame_places_from r t o)
places_from_frames r t None h = tt
places_from_frames r t (Some n) h =
    let le : suc n ≤ length r = omega (arith, h n refl) in
    subst (λ (l : List Entry). FramesAt (steps_of l) (places_from (suc n) (is_under t) (drop (suc n) r))) (take-append-drop (suc n) r)
    (subst (λ (m : ℕ). FramesAt (steps_of (take (suc n) r ++ drop (suc n) r)) (places_from m (is_under t) (drop (suc n) r))) (length-take-le (suc n) r le)
    (places_frames t (take (suc n) r) (drop (suc n) r)))

own_frames : (r : List Entry) (t : TransactionId) → FramesAt (steps_of r) (frame_places r t)
unfolding frame_places
own_frames r t = places_from_frames r t (since r t) (λ n h. since-below r t n h)

get_front : (ss ts : List Step) (i : ℕ) (f : Frame) → slice_get ss i ≡ Some (steps.Frame f) → slice_get (ss ++ ts) i ≡ Some (steps.Frame f)
get_front [] ts i f h = cc h
get_front (s ∷ ss) ts zero f h = h
get_front (s ∷ ss) ts (suc i) f h = get_front ss ts i f h

frames_front : (ss ts : List Step) (xs : List ℕ) → FramesAt ss xs → FramesAt (ss ++ ts) xs
frames_front ss ts [] a = tt
frames_front ss ts (i ∷ xs) a = ((a.0.0, get_front ss ts i a.0.0 a.0.1), frames_front ss ts xs a.1)

-- places of frames of the front have those frames
frames_same : (ss ts : List Step) (xs : List ℕ) → FramesAt ss xs → frames_at (ss ++ ts) xs ≡ frames_at ss xs
frames_same ss ts [] a = refl
frames_same ss ts (i ∷ xs) a =
    ap (λ o. frame_of_step o ++ frames_at (ss ++ ts) xs) (get_front ss ts i a.0.0 a.0.1 ∙ sym a.0.1)
    ∙ ap (λ l. frame_of_step (slice_get ss i) ++ l) (frames_same ss ts xs a.1)

-- what a step hands are frames at places of the record and it
sources_frames : (r : List Entry) (s : Step) → FramesAt (steps_of r ++ s ∷ []) (sources r s)
sources_frames r (steps.Frame frame) = cond_all (λ i. (f : Frame) × (slice_get (steps_of r ++ steps.Frame frame ∷ []) i ≡ Some (steps.Frame f))) (is_plain_frame frame) (length r) [] (λ u. (frame, ap (slice_get (steps_of r ++ steps.Frame frame ∷ [])) (sym (length-map r (λ (x : Entry). x.step))) ∙ slice_get-at (steps_of r) [] (steps.Frame frame))) tt
sources_frames r (steps.Control k payload) = by_case (commits r (steps.Control k payload))
  where
    by_case : (o : Option TransactionId) → FramesAt (steps_of r ++ steps.Control k payload ∷ []) (sources_of r o)
    by_case None = tt
    by_case (Some t) = frames_front (steps_of r) (steps.Control k payload ∷ []) (frame_places r t) (own_frames r t)
sources_frames r _ = tt

taken_frames : (h : ℕ) (ss : List Step) (xs : List ℕ) → FramesAt ss xs → FramesAt ss (take h xs)
taken_frames zero ss xs a = tt
taken_frames (suc h) ss [] a = tt
taken_frames (suc h) ss (i ∷ xs) a = (a.0, taken_frames h ss xs a.1)

-- the first frames that a step hands are those at its first places
hands-take : (r : List Entry) (s : Step) (rest : List Step) (h : ℕ) → take h (hands r s) ≡ map stripped (frames_at ((steps_of r ++ s ∷ []) ++ rest) (take h (sources r s)))
hands-take r s rest h =
    take-map stripped h (frames_at (steps_of r ++ s ∷ []) (sources r s))
    ∙ ap (map stripped) (sym (frames_at-take (steps_of r ++ s ∷ []) h (sources r s) (sources_frames r s)))
    ∙ ap (map stripped) (sym (frames_same (steps_of r ++ s ∷ []) rest (take h (sources r s)) (taken_frames h (steps_of r ++ s ∷ []) (sources r s) (sources_frames r s))))

-- what a step with its reply hands are the frames at its sources
handed-whole : (r : List Entry) (s : Step) (reply : Reply) (rest : List Step) → handed_by r s reply ≡ map stripped (frames_at ((steps_of r ++ s ∷ []) ++ rest) (sources_by r s reply))
handed-whole r s reply rest = by_case (is_rejected reply)
  where
    by_case : (b : Bool) → cond b [] (hands r s) ≡ map stripped (frames_at ((steps_of r ++ s ∷ []) ++ rest) (cond b [] (sources r s)))
    by_case true = refl
    by_case false = ap (map stripped) (sym (frames_same (steps_of r ++ s ∷ []) rest (sources r s) (sources_frames r s)))

-- ---- an arriving item

steps_around : (w : Exchange) (i : Item) (rest : List Item) → Keeps w → w.waiting ≡ i ∷ rest → all_steps w ≡ (steps_of (record_of w) ++ step_of i ∷ []) ++ map step_of rest
steps_around w i rest k e =
    ap (λ l. steps_of w.first ++ map step_of (items_of w.came ++ l)) e
    ∙ ap (λ l. steps_of w.first ++ l) (map-append step_of (items_of w.came) (i ∷ rest))
    ∙ sym (append_assoc (steps_of w.first) (map step_of (items_of w.came)) (step_of i ∷ map step_of rest))
    ∙ ap (λ l. l ++ step_of i ∷ map step_of rest) (sym k.past.steps)
    ∙ sym (append_assoc (steps_of (record_of w)) (step_of i ∷ []) (map step_of rest))

-- a stop: what was taken are the first frames that the item hands
pub grew_stopped : (w : Exchange) (i : Item) (rest : List Item) (halt : Halt) (old new : Option (List (Frame × List Frame))) → Keeps w → w.waiting ≡ i ∷ rest → w.stop ≡ None → TookFrames old new (take halt.handed (hands (record_of w) (step_of i))) → Grew w (with_stop w halt) old new
grew_stopped w i rest halt old new k e n t =
    let r : List Entry = record_of w in (
      take halt.handed (sources r (step_of i)),
      ap (λ z. origins r ++ stop_places r (Some halt) z) e
          ∙ ap (λ z. z ++ take halt.handed (sources r (step_of i))) (sym (append-nil (origins r)))
          ∙ ap (λ z. (origins r ++ stop_places r z w.waiting) ++ take halt.handed (sources r (step_of i))) (sym n),
      subst (λ (fs : List Frame). TookFrames old new fs)
          (hands-take r (step_of i) (map step_of rest) halt.handed ∙ ap (λ ss. map stripped (frames_at ss (take halt.handed (sources r (step_of i))))) (sym (steps_around w i rest k e))) t,
    )

pub answer_steps : (w : Exchange) (i : Item) (rest : List Item) (drawn : DrawnIds) (reply : Reply) → w.waiting ≡ i ∷ rest → all_steps (with_answer w i rest drawn reply) ≡ all_steps w
answer_steps w i rest drawn reply e =
    ap (λ l. steps_of w.first ++ map step_of l) (ap (λ l. l ++ rest) (items-snoc w.came i (entry_by (step_of i) drawn reply)) ∙ append_assoc (items_of w.came) (i ∷ []) rest ∙ ap (λ l. items_of w.came ++ l) (sym e))

-- what was taken by an answer has as many given lists
took_handed : (r : List Entry) (s : Step) (d : List TransactionId) (reply : Reply) (old new : Option (List (Frame × List Frame))) → Answer r s d reply → new ≡ grown old (zip (handed_by r s reply) (given_by s reply)) → TookFrames old new (handed_by r s reply)
took_handed r s d reply old new a h = (given_by s reply, sym (given_lengths r s d reply a), h)

-- an answer: what was taken are the frames that the item hands
pub grew_answered : (w : Exchange) (i : Item) (rest : List Item) (drawn : DrawnIds) (reply : Reply) (old new : Option (List (Frame × List Frame))) → Keeps w → w.waiting ≡ i ∷ rest → w.stop ≡ None → Answer (record_of w) (step_of i) drawn.ids reply → new ≡ grown old (zip (handed_by (record_of w) (step_of i) reply) (given_by (step_of i) reply)) → Grew w (with_answer w i rest drawn reply) old new
grew_answered w i rest drawn reply old new k e n a t =
    let r : List Entry = record_of w in
    let en : Entry = entry_by (step_of i) drawn reply in
    let w2 : Exchange = with_answer w i rest drawn reply in
    let more : List ℕ = sources_by r (step_of i) reply in
    let r2 : record_of w2 ≡ r ++ en ∷ [] = record_more w.first w.came i en in (
      more,
      ap (λ z. origins (record_of w2) ++ stop_places (record_of w2) z rest) n
          ∙ append-nil (origins (record_of w2))
          ∙ ap origins r2 ∙ origins-snoc r en
          ∙ ap (λ z. z ++ more) (sym (append-nil (origins r)))
          ∙ ap (λ z. (origins r ++ stop_places r z w.waiting) ++ more) (sym n),
      subst (λ (fs : List Frame). TookFrames old new fs)
          (handed-whole r (step_of i) reply (map step_of rest) ∙ ap (λ ss. map stripped (frames_at ss more)) (sym (answer_steps w i rest drawn reply e ∙ steps_around w i rest k e)))
          (took_handed r (step_of i) drawn.ids reply old new a t),
    )
