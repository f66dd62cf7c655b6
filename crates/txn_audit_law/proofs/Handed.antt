-- The frames that were handed are frames of the steps: where these are spelled, so are those.
use Rattle.std.proofs.Common.{◌≡◌, ℕ, Bool, true, false, cond, Option, Some, None, List, [], ◌∷◌, ◌++◌, map, take, refl, sym, subst}
use Rattle.std.specs.Prelude.{IfSome, slice_get}
use Rattle.std.specs.List.{All}
use Rattle.std.proofs.lemmas.List.{map-append}
use Rattle.std.proofs.lemmas.List.Elements.{All-append, All-cons, All-get_or, All-head, All-nil, All-same, All-tail, All-take}
use Rattle.std.proofs.lemmas.Option.{get_or_from_slice_get, slice_get_within}
use Rattle.amqp_txn_types.specs.declared.id.TransactionId.{TransactionId}
use Rattle.amqp_txn_types.specs.declared.performatives.Frame.{Frame}
use Rattle.amqp_txn_types.specs.declared.performatives.Frame.TheVariants as frames
use Rattle.amqp_txn_types.specs.Frames.{stripped}
use Rattle.amqp_resource_record.specs.declared.entry.Entry.{Entry}
use Rattle.amqp_resource_record.specs.declared.reply.Reply.{Reply}
use Rattle.amqp_resource_record.specs.declared.step.Step.{Step}
use Rattle.amqp_resource_record.specs.declared.step.Step.TheVariants as steps
use Rattle.amqp_resource_record.specs.declared.stop.Driven.{Driven}
use Rattle.amqp_resource_record.specs.declared.stop.StopCode.{StopCode}
use Rattle.amqp_resource_record.specs.Entries.{steps_of}
use Rattle.amqp_resource_record.specs.Hands.{frame_of_step, frames_at, hands, sources}
use Rattle.amqp_resource_record.specs.Stops.{code_of}
use Rattle.amqp_resource_record.specs.Work.{handed_by, is_rejected, joined_after, work}
use Rattle.txn_audit_report.specs.Stopping.{is_refusal}
use Rattle.txn_audit_fits.specs.Fits.{stopping_hands}
use Rattle.txn_audit_law.specs.Reported.{AllShown, IsReported, frames_given, frames_taken}
use Rattle.txn_audit_law.specs.Shown.{CanBeShown, IsSpellable, IsWithinTypes}
use Rattle.txn_audit_law.proofs.Spelled.{IsSpelled}

stripped-spelled : (frame : Frame) → IsSpellable frame → IsSpellable (stripped frame)
unfolding stripped
stripped-spelled (frames.Attach attach) s = s
stripped-spelled (frames.Flow flow) s = tt
stripped-spelled (frames.Transfer transfer payload) s = tt
stripped-spelled (frames.Disposition disposition) s = tt
stripped-spelled (frames.Detach detach) s = tt

step-at : (all : List Step) (i : ℕ) (step : Step) → All IsSpelled all → slice_get all i ≡ Some step → IsSpelled step
step-at all i step a e = subst IsSpelled (get_or_from_slice_get all i step step e) (All-get_or IsSpelled all i step (slice_get_within all i step e) a)

of-step : (step : Option Step) → IfSome step IsSpelled → All IsSpellable (map stripped (frame_of_step step))
of-step None s = All-nil IsSpellable
of-step (Some (steps.Frame frame)) s = All-cons IsSpellable (stripped frame) [] (stripped-spelled frame s) (All-nil IsSpellable)
of-step (Some (steps.Control link payload)) s = All-nil IsSpellable
of-step (Some (steps.LinkEnd link)) s = All-nil IsSpellable
of-step (Some (steps.LocalEnd error)) s = All-nil IsSpellable
of-step (Some (steps.RemoteEnd error)) s = All-nil IsSpellable
of-step (Some (steps.ConnectionStop reason)) s = All-nil IsSpellable

if-got : (all : List Step) (i : ℕ) (got : Option Step) → All IsSpelled all → slice_get all i ≡ got → IfSome got IsSpelled
if-got all i None a e = tt
if-got all i (Some step) a e = step-at all i step a e

frames_at-spelled : (all : List Step) (places : List ℕ) → All IsSpelled all → All IsSpellable (map stripped (frames_at all places))
frames_at-spelled all [] a = All-nil IsSpellable
frames_at-spelled all (i ∷ places) a =
    All-same IsSpellable _ (map stripped (frame_of_step (slice_get all i)) ++ map stripped (frames_at all places))
    (map-append stripped (frame_of_step (slice_get all i)) (frames_at all places))
    (All-append IsSpellable (map stripped (frame_of_step (slice_get all i))) (map stripped (frames_at all places))
    (of-step (slice_get all i) (if-got all i (slice_get all i) a refl)) (frames_at-spelled all places a))

hands-spelled : (entries : List Entry) (step : Step) → All IsSpelled (steps_of entries) → IsSpelled step → All IsSpellable (hands entries step)
hands-spelled entries step a s =
    frames_at-spelled (steps_of entries ++ step ∷ []) (sources entries step)
    (All-append IsSpelled (steps_of entries) (step ∷ []) a (All-cons IsSpelled step [] s (All-nil IsSpelled)))

handed-spelled : (entries : List Entry) (step : Step) (reply : Reply) → All IsSpelled (steps_of entries) → IsSpelled step → All IsSpellable (handed_by entries step reply)
handed-spelled entries step reply a s = by_reply (is_rejected reply)
  where
    by_reply : (b : Bool) → All IsSpellable (cond b [] (hands entries step))
    by_reply true = All-nil IsSpellable
    by_reply false = hands-spelled entries step a s

joined-spelled : (before entries : List Entry) → All IsSpelled (steps_of before) → All IsSpelled (steps_of entries) → All IsSpellable (joined_after (λ (first : List Entry) (e : Entry). handed_by first e.step e.reply) before entries)
joined-spelled before [] b a = All-nil IsSpellable
joined-spelled before (entry ∷ entries) b a =
    let step = All-head IsSpelled entry.step (steps_of entries) a in
    let rest = All-tail IsSpelled entry.step (steps_of entries) a in
    let next = All-same IsSpelled (steps_of (before ++ entry ∷ [])) (steps_of before ++ entry.step ∷ [])
    (map-append (λ (e : Entry). e.step) before (entry ∷ []))
    (All-append IsSpelled (steps_of before) (entry.step ∷ []) b (All-cons IsSpelled entry.step [] step (All-nil IsSpelled))) in
    All-append IsSpellable (handed_by before entry.step entry.reply) _ (handed-spelled before entry.step entry.reply b step) (joined-spelled (before ++ entry ∷ []) entries next rest)

work-spelled : (entries : List Entry) → All IsSpelled (steps_of entries) → All IsSpellable (work entries)
unfolding work
work-spelled entries a = joined-spelled [] entries (All-nil IsSpelled) a

stopping-spelled : (entries : List Entry) (left : List Step) (code : StopCode) → All IsSpelled (steps_of entries) → All IsSpelled left → All IsSpellable (stopping_hands entries left code)
stopping-spelled entries [] code a l = All-nil IsSpellable
stopping-spelled entries (step ∷ left) code a l = by_refusal (is_refusal code)
  where
    by_refusal : (b : Bool) → All IsSpellable (cond b (hands entries step) [])
    by_refusal true = hands-spelled entries step a (All-head IsSpelled step left l)
    by_refusal false = All-nil IsSpellable

-- the first and the others of a list of which all are spelled
firsts : (front back : List Step) → All IsSpelled (front ++ back) → All IsSpelled front × All IsSpelled back
firsts [] back a = (All-nil IsSpelled, a)
firsts (step ∷ front) back a =
    let both = firsts front back (All-tail IsSpelled step (front ++ back) a) in
    (All-cons IsSpelled step front (All-head IsSpelled step (front ++ back) a) both.0, both.1)

-- both facts of each frame
both-shown : (list : List Frame) → All IsWithinTypes list → All IsSpellable list → All CanBeShown list
both-shown list w s = λ k d l. (w k d l, s k d l)

-- the frames that a report of a run of spelled steps shows can be shown
pub run-shown : (all : List Step) (next : ℕ → TransactionId) (driven : Driven) (exchanges : List (Frame × List Frame)) → IsReported all next driven exchanges → All IsSpelled all
    → All IsWithinTypes (frames_given driven.entries) → All IsSpellable (frames_given driven.entries) → All IsWithinTypes (frames_taken exchanges) → AllShown driven exchanges
run-shown all next driven exchanges r a w s t =
    let code = code_of driven.stop in
    let steps = firsts (steps_of driven.entries) r.left (All-same IsSpelled (steps_of driven.entries ++ r.left) all (sym r.steps) a) in
    let handed = All-append IsSpellable (work driven.entries) (take driven.handed (stopping_hands driven.entries r.left code)) (work-spelled driven.entries steps.0)
    (All-take IsSpellable driven.handed (stopping_hands driven.entries r.left code) (stopping-spelled driven.entries r.left code steps.0 steps.1)) in
    record {
      given = both-shown (frames_given driven.entries) w s;
      taken = both-shown (frames_taken exchanges) t (All-same IsSpellable (frames_taken exchanges) _ r.taken handed);
    }
