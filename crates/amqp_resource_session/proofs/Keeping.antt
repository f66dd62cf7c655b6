-- What a step leaves, from what the calls that it makes leave.
use Rattle.std.proofs.Common.{◌≡◌, ℕ, zero, suc, ◌+◌, ◌≤◌, Bool, true, false, cond, not, ◌&&◌, Option, Some, None, Result, Ok, Err, List, [], ◌∷◌, length, map, take, refl, sym, ◌∙◌, ap, arith, subst, inl, inr}
use Rattle.std.specs.Prelude.{◌==◌, is_some, MatchBool}
use Rattle.std.proofs.lemmas.Bool.{eqb-true}
use Rattle.amqp_below_layer.specs.declared.answers.Answers.{Answers}
use Rattle.amqp_txn_types.specs.declared.performatives.Attach.{Attach}
use Rattle.amqp_below_sessions.specs.declared.transacting.CommitFault.{CommitFault}
use Rattle.amqp_txn_codec.specs.declared.message.ControlMessageBody.{ControlMessageBody}
use Rattle.amqp_txn_codec.specs.declared.message.Discharge.{Discharge}
use Rattle.amqp_below_ids.specs.Drawn.{DrawnIds}
use Rattle.amqp_txn_types.specs.declared.performatives.Frame.{Frame}
use Rattle.amqp_resource_held.specs.declared.held.Held.{Held}
use Rattle.amqp_txn_types.specs.declared.items.NoMemory.{NoMemory}
use Rattle.amqp_below_layer.specs.Told.{Opens, Steady, Told, refusal_of}
use Rattle.amqp_resource_record.specs.declared.reply.Reply.{Reply}
use Rattle.amqp_below_layer.specs.declared.inner_error.SessionInnerError.{SessionInnerError}
use Rattle.amqp_txn_types.specs.declared.delivery.SessionStopReason.{SessionStopReason}
use Rattle.amqp_resource_record.specs.declared.step.Step.{Step}
use Rattle.amqp_resource_record.specs.declared.stop.StepError.{StepError}
use Rattle.amqp_below_layer.specs.OneFrame.{TakesFrame, TookFrames, taken_frames}
use Rattle.amqp_txn_types.specs.declared.id.TransactionId.{TransactionId}
use Rattle.amqp_below_layer.specs.declared.verdict.Verdict.{Verdict}
use Rattle.amqp_txn_types.specs.Presumptive.{answered_under}
use Rattle.amqp_txn_types.specs.Frames.{attaches_coordinator, is_coordinator_attach, is_plain_by, is_plain_frame, stripped, txn}
use Rattle.amqp_resource_log.specs.Live.{frames_kept, kept, with_frame, Kept}
use Rattle.amqp_resource_record.specs.Live.{is_link}
use Rattle.amqp_txn_codec.specs.Discharges.{is_rollback}
use Rattle.amqp_txn_codec.specs.Reading.{message_of}
use Rattle.amqp_txn_types.specs.Ids.{same_id}
use Rattle.amqp_txn_types.specs.declared.small.TransactionError.TheVariants as transaction_errors
use Rattle.amqp_txn_types.specs.declared.small.AmqpError.TheVariants as amqp_errors
use Rattle.amqp_txn_types.specs.declared.performatives.Disposition.{Disposition}
use Rattle.amqp_txn_types.specs.declared.performatives.Frame.TheVariants as frames
use Rattle.amqp_txn_codec.specs.declared.message.ControlMessageBody.TheVariants as messages
use Rattle.amqp_below_layer.specs.declared.inner_error.SessionInnerError.TheVariants as faults
use Rattle.amqp_below_sessions.specs.declared.transacting.CommitFault.TheVariants as commit_faults
use Rattle.amqp_resource_record.specs.declared.step.Step.TheVariants as steps
use Rattle.amqp_resource_record.specs.declared.reply.Reply.TheVariants as replies
use Rattle.amqp_resource_record.specs.declared.reply.RejectText.TheVariants as texts
use Rattle.amqp_resource_record.specs.declared.stop.StepError.TheVariants as errors
use Rattle.amqp_resource_record.proofs.Whole.{plain_none}
use Rattle.amqp_below_layer.specs.declared.take.TakeError.{TakeError}
use Rattle.amqp_resource_held.specs.Held.{SameHeld, Tied, ids_on, is_in, is_kept_on, unless_on}
use Rattle.amqp_resource_held.specs.Draws.{DrewLive, DrewUnused, is_kept}
use Rattle.amqp_resource_session.specs.Committing.{HandsAll, HandsSurely}
use Rattle.amqp_resource_session.specs.Transacting.{CommittedWith, step_error_of}
use Rattle.amqp_resource_held.specs.Changes.{Arrives, Ended, Ends, Fits}
use Rattle.amqp_resource_session.specs.Steps.{RepliesToNoFrame, StepCause, AddsRefusal, AnswersEnd, EndGave, FrameMayFault, IsDead, IsPost, IsUnder, Refused, UnderDead, ended_by, fault_of, has_error, is_live_under, is_unknown, message_hands, message_takes_memory, nothing_drawn, step_hands, takes_memory}
use Rattle.amqp_resource_held.specs.Views.{View, view_of_held}
use Rattle.amqp_resource_session.specs.Leaving.{LeavesHere, StepLeaves}
use Rattle.amqp_resource_session.specs.Keeping.{CommitEnds, ControlKeeps, DischargeHands, EndKeeps, ErrorKeeps, FrameKeeps, Keeps, NothingChanges, PlainKeeps, RefusedFrameKeeps, StepKeeps}
use Rattle.amqp_resource_held.proofs.Kept.{in_updated}
use Rattle.amqp_resource_session.proofs.Handing.{refused_after-err}
use Rattle.amqp_txn_types.proofs.Growing.{grown-nil}
use Rattle.amqp_resource_session.proofs.Handed.{commit_hands}
use Rattle.amqp_resource_held.proofs.Views.{same-view, view-moved}
use Rattle.amqp_resource_held.proofs.Fitting.{fits-attached, fits-closed, fits-declared, fits-ended, fits-posted, fits-same}
use Rattle.amqp_resource_session.proofs.Leaving.{surely_commit}

-- ---- what stays

pub same_held : (h : Held) → SameHeld h h
same_held h = record { live = λ t. refl; links = λ k. refl; opened = refl }

unchanged : (h : Held) (told : Told) → NothingChanges (view_of_held h) (view_of_held h) told told
unchanged h told = record { same = same-view (view_of_held h); below = refl }

-- no ids were drawn
none_drawn : (d : DrawnIds) → d ≡ nothing_drawn → d.ids ≡ []
none_drawn d n = ap (λ (x : DrawnIds). x.ids) n

-- a refusal below is given as no unknown id
pub when_known : (b : Bool) (P Q : Type 0) → b ≡ false → Q → MatchBool b P Q
when_known true P Q e q = cc e
when_known false P Q e q = q

-- a refusal below, as the fault that it is given as
fault_answers : (v : View) (told now : Told) (s : Step) (hands : List Frame) (error own : SessionInnerError) (handed : ℕ) → is_unknown error ≡ false → error ≡ fault_of own → Refused v told now s hands (fault_of own) handed → MatchBool (is_unknown error) (UnderDead v s × (handed ≡ 0)) (Refused v told now s hands error handed)
fault_answers v told now s hands error own handed known e x =
    when_known (is_unknown error) _ _ known (subst (λ (y : SessionInnerError). Refused v told now s hands y handed) (sym e) x)

-- ---- no call below

-- a reply
answered-here : (h g : Held) (s : Step) (d : DrawnIds) (reply : Reply) → ((told : Told) → StepCause told told s (Ok (d, reply))) → AnswersEnd (ended_by s) (Ok (d, reply)) → RepliesToNoFrame (Ok (d, reply)) s → (Fits h → Fits g) → ((told : Told) → Fits h → StepKeeps (view_of_held h) (view_of_held g) told told s d.ids reply) → LeavesHere h g s (Ok (d, reply))
answered-here h g s d reply cause ended unanswered fits answer = record { keeps = λ told f. record { fits = fits f; answer = answer told f }; left = tt; unanswered = unanswered; cause = cause; ended = ended; same = tt }

-- out of memory
wanting-here : (h g : Held) (s : Step) → SameHeld h g → takes_memory (view_of_held h) s ≡ true → AnswersEnd (ended_by s) (Err errors.NoMemory) → LeavesHere h g s (Err errors.NoMemory)
wanting-here h g s same takes ended = record { keeps = λ told f. record { fits = fits-same h g same f; answer = takes }; left = view-moved h g same; unanswered = tt; cause = λ told. tt; ended = ended; same = same }

-- a reply to a control message
control_answers : (v w : View) (told now : Told) (k : ℕ) (payload : List ℕ) (b : Bool) (m : Option ControlMessageBody) (drawn : List TransactionId) (reply : Reply) → message_of payload ≡ m → v.links k ≡ b → ControlKeeps k v w told now b m drawn reply → StepKeeps v w told now (steps.Control k payload) drawn reply
control_answers v w told now k payload b m drawn reply e o x =
    subst (λ (y : Option ControlMessageBody). ControlKeeps k v w told now (v.links k) y drawn reply) (sym e)
    (subst (λ (c : Bool). ControlKeeps k v w told now c m drawn reply) (sym o) x)

control-here : (h g : Held) (k : ℕ) (payload : List ℕ) (d : DrawnIds) (b : Bool) (m : Option ControlMessageBody) (reply : Reply) → message_of payload ≡ m → is_in h.links.entries k ≡ b → ((told : Told) → StepCause told told (steps.Control k payload) (Ok (d, reply))) → (Fits h → Fits g) → ((told : Told) → Fits h → ControlKeeps k (view_of_held h) (view_of_held g) told told b m d.ids reply) → LeavesHere h g (steps.Control k payload) (Ok (d, reply))
control-here h g k payload d b m reply e o cause fits answer = answered-here h g (steps.Control k payload) d reply cause tt tt fits (λ told f. control_answers (view_of_held h) (view_of_held g) told told k payload b m d.ids reply e o (answer told f))

-- ---- plain frames

plain_no_coordinator : (frame : Frame) (o : Option TransactionId) → is_plain_by o (is_coordinator_attach frame) ≡ true → is_coordinator_attach frame ≡ false
plain_no_coordinator frame None h = flip (is_coordinator_attach frame) h
  where
    flip : (b : Bool) → not b ≡ true → b ≡ false
    flip false x = refl
    flip true x = cc x
plain_no_coordinator frame (Some t) h = cc h

-- a frame that is plain is under no id and attaches to no coordinator
plain_answers : (v w : View) (told now : Told) (frame : Frame) (reply : Reply) → is_plain_frame frame ≡ true → PlainKeeps v w told now frame false reply → FrameKeeps v w told now frame (txn frame) reply
plain_answers v w told now frame reply p x =
    subst (λ (o : Option TransactionId). FrameKeeps v w told now frame o reply) (sym (plain_none frame p))
    (subst (λ (b : Bool). PlainKeeps v w told now frame b reply) (sym (plain_no_coordinator frame (txn frame) p)) x)

pub keeps-plain : (h : Held) (told now : Told) (frame : Frame) (d : DrawnIds) (a : Answers) → d ≡ nothing_drawn → is_plain_frame frame ≡ true → TakesFrame told now frame (Ok a) → Fits h → Keeps h h told now (steps.Frame frame) (Ok (d, replies.Frames a))
keeps-plain h told now frame d a n p t f = record {
  fits = f;
  answer = (none_drawn d n, plain_answers (view_of_held h) (view_of_held h) told now frame (replies.Frames a) p (same-view (view_of_held h), t));
}

part_of : (before now : Option (List (Frame × List Frame))) (frame : Frame) (b : Bool) → TookFrames before now (taken_frames b frame) → (cond b 1 0 ≤ length (frame ∷ [])) × TookFrames before now (take (cond b 1 0) (frame ∷ []))
part_of before now frame true x = (omega arith, x)
part_of before now frame false x = (omega arith, x)

one_adds : (frame : Frame) (own : SessionInnerError) (b : Bool) → AddsRefusal (steps.Frame frame) (frame ∷ []) (cond b 1 0) (fault_of own) (cond b [] (refusal_of frame own))
one_adds frame own true = (own, refl, inr (refl, inr (omega arith)))
one_adds frame own false = (own, refl, inl (frame, refl, refl))

plain_stopped : (v : View) (told now : Told) (frame : Frame) (e : TakeError) → is_plain_frame frame ≡ true → TakesFrame told now frame (Err e) → Refused v told now (steps.Frame frame) (step_hands v (steps.Frame frame)) (fault_of e.error) (cond e.taken 1 0)
plain_stopped v told now frame e p t =
    let gives : frame ∷ [] ≡ step_hands v (steps.Frame frame) = sym (ap (λ b. cond b (frame ∷ []) []) p) in
    subst (λ (fs : List Frame). Refused v told now (steps.Frame frame) fs (fault_of e.error) (cond e.taken 1 0)) gives (record {
      fits = subst (FrameMayFault v frame) (sym (plain_none frame p)) (plain_no_coordinator frame (txn frame) p);
      took = part_of told.taken now.taken frame e.taken t.taken;
      opened = t.opened;
      refused = (cond e.taken [] (refusal_of frame e.error), one_adds frame e.error e.taken, t.refused);
      vetoed = ap (λ x. x.vetoed) t.reviews;
    })

pub keeps-plain_refused : (h : Held) (told now : Told) (frame : Frame) (e : TakeError) (error : SessionInnerError) (handed : ℕ) → is_plain_frame frame ≡ true → is_unknown error ≡ false → error ≡ fault_of e.error → handed ≡ cond e.taken 1 0 → TakesFrame told now frame (Err e) → Fits h → Keeps h h told now (steps.Frame frame) (Err (errors.Fault error handed))
keeps-plain_refused h told now frame e error handed p known same n t f = record {
  fits = f;
  answer = fault_answers (view_of_held h) told now (steps.Frame frame) _ error e.error handed known same (subst (λ (k : ℕ). Refused (view_of_held h) told now (steps.Frame frame) (step_hands (view_of_held h) (steps.Frame frame)) (fault_of e.error) k) (sym n) (plain_stopped (view_of_held h) told now frame e p t));
}

pub here-plain_wanting : (h : Held) (frame : Frame) → is_plain_frame frame ≡ true → LeavesHere h h (steps.Frame frame) (Err errors.NoMemory)
here-plain_wanting h frame p = wanting-here h h (steps.Frame frame) (same_held h) (ap (is_live_under (view_of_held h)) (plain_none frame p)) tt

-- a plain frame that was refused changes nothing
pub left-plain : (h : Held) (frame : Frame) (error : SessionInnerError) (handed : ℕ) → is_plain_frame frame ≡ true → is_unknown error ≡ false → ErrorKeeps (view_of_held h) (view_of_held h) (steps.Frame frame) (Err (errors.Fault error handed))
left-plain h frame error handed p known =
    when_known (is_unknown error) _ _ known (subst (RefusedFrameKeeps (view_of_held h) (view_of_held h) frame) (sym (plain_none frame p)) (same-view (view_of_held h)))

-- ---- frames under an id

abbrev pub post_reply : TransactionId → Frame → Reply
post_reply u frame = replies.Frames (record { given = answered_under u frame; window = None })

pub keeps-post : (h g : Held) (told now : Told) (frame : Frame) (u : TransactionId) (d : DrawnIds) → d ≡ nothing_drawn → txn frame ≡ Some u → is_kept h.work u ≡ true → ((t : TransactionId) → kept g.work t ≡ cond (same_id t u) (with_frame (kept h.work t) frame) (kept h.work t)) → ((k : ℕ) → ids_on g.links.entries k ≡ ids_on h.links.entries k) → g.opened ≡ h.opened → Steady told now → Fits h → Keeps h g told now (steps.Frame frame) (Ok (d, post_reply u frame))
keeps-post h g told now frame u d n e at lg kg og same f = record {
  fits = fits-posted h g u frame lg kg og f;
  answer = (
    none_drawn d n,
    subst (λ (o : Option TransactionId). FrameKeeps (view_of_held h) (view_of_held g) told now frame o (post_reply u frame)) (sym e) (record {
      arrives = record { was_live = at; live = lg; links = record { links = λ j. ap is_some (kg j); opened = og } };
      below = same;
      answered = refl;
    }),
  );
}

pub keeps-post_refused : (h g : Held) (told now : Told) (frame : Frame) (u : TransactionId) (error own : SessionInnerError) → txn frame ≡ Some u → is_kept h.work u ≡ true → 1 ≤ length (answered_under u frame) → is_unknown error ≡ false → error ≡ fault_of own → Steady told now → Fits g → Keeps h g told now (steps.Frame frame) (Err (errors.Fault error 0))
keeps-post_refused h g told now frame u error own e at some known same steady f =
    let is_under : IsPost (steps.Frame frame) = subst IsUnder (sym e) tt in
    record {
      fits = f;
      answer = fault_answers (view_of_held h) told now (steps.Frame frame) _ error own 0 known same (record {
        fits = subst (FrameMayFault (view_of_held h) frame) (sym e) (at, some);
        took = (omega arith, ([], refl, steady.taken ∙ sym (grown-nil told.taken)));
        opened = steady.opened;
        refused = ([], (own, refl, inr (refl, inl is_under)), steady.refused ∙ sym (grown-nil told.refused));
        vetoed = ap (λ x. x.vetoed) steady.reviews;
      });
    }

-- work whose answer was refused is kept
pub left-post : (h g : Held) (frame : Frame) (u : TransactionId) (error : SessionInnerError) (handed : ℕ) → txn frame ≡ Some u → is_unknown error ≡ false → Arrives (view_of_held h) (view_of_held g) frame u → ErrorKeeps (view_of_held h) (view_of_held g) (steps.Frame frame) (Err (errors.Fault error handed))
left-post h g frame u error handed e known x = when_known (is_unknown error) _ _ known (subst (RefusedFrameKeeps (view_of_held h) (view_of_held g) frame) (sym e) x)

pub here-dead : (h g : Held) (frame : Frame) (u : TransactionId) → txn frame ≡ Some u → is_kept h.work u ≡ false → SameHeld h g → LeavesHere h g (steps.Frame frame) (Err (errors.Fault faults.UnknownTxnId 0))
here-dead h g frame u e n same = record {
  keeps = λ told f. record { fits = fits-same h g same f; answer = (subst (IsDead (view_of_held h)) (sym e) n, refl) };
  left = view-moved h g same;
  unanswered = tt;
  cause = λ told. (subst IsUnder (sym e) tt, refl);
  ended = tt;
  same = tt;
}

pub here-post_wanting : (h g : Held) (frame : Frame) (u : TransactionId) → txn frame ≡ Some u → is_kept h.work u ≡ true → SameHeld h g → LeavesHere h g (steps.Frame frame) (Err errors.NoMemory)
here-post_wanting h g frame u e at same = wanting-here h g (steps.Frame frame) same (ap (is_live_under (view_of_held h)) e ∙ at) tt

-- ---- attaches to a coordinator

pub txn-attach : (attach : Attach) → txn (frames.Attach attach) ≡ None
unfolding txn
txn-attach attach = refl

pub coord-attach : (attach : Attach) → is_coordinator_attach (frames.Attach attach) ≡ attaches_coordinator attach
unfolding is_coordinator_attach
coord-attach attach = refl

-- such an attach is under no id
attach_answers : (v w : View) (told now : Told) (attach : Attach) (reply : Reply) → attaches_coordinator attach ≡ true → PlainKeeps v w told now (frames.Attach attach) true reply → FrameKeeps v w told now (frames.Attach attach) (txn (frames.Attach attach)) reply
attach_answers v w told now attach reply c x =
    subst (λ (o : Option TransactionId). FrameKeeps v w told now (frames.Attach attach) o reply) (sym (txn-attach attach))
    (subst (λ (b : Bool). PlainKeeps v w told now (frames.Attach attach) b reply) (sym (coord-attach attach ∙ c)) x)

pub keeps-attached : (h g : Held) (told now : Told) (attach : Attach) (d : DrawnIds) (given : List Frame) → d ≡ nothing_drawn → attaches_coordinator attach ≡ true → ((t : TransactionId) → kept g.work t ≡ kept h.work t) → ((k : ℕ) → ids_on g.links.entries k ≡ cond (h.opened == k) (Some []) (ids_on h.links.entries k)) → g.opened ≡ h.opened + 1 → Opens told now attach (Ok given) → Fits h → Keeps h g told now (steps.Frame (frames.Attach attach)) (Ok (d, replies.Attached h.opened given))
keeps-attached h g told now attach d given n c lg kg og t f = record {
  fits = fits-attached h g lg kg og f;
  answer = (
    none_drawn d n,
    attach_answers (view_of_held h) (view_of_held g) told now attach (replies.Attached h.opened given) c (
      record { number = refl; live = lg; links = λ j. ap is_some (kg j) ∙ in_updated (h.opened == j) (Some []) (ids_on h.links.entries j); opened = og },
      record { taken = t.taken; opened = t.opened; refused = t.refused ∙ sym (grown-nil told.refused); reviews = t.reviews },
    ),
  );
}

pub keeps-attach_refused : (h g : Held) (told now : Told) (attach : Attach) (d : DrawnIds) (error : SessionInnerError) → d ≡ nothing_drawn → attaches_coordinator attach ≡ true → SameHeld h g → Opens told now attach (Err error) → Fits h → Keeps h g told now (steps.Frame (frames.Attach attach)) (Ok (d, replies.AttachRefused error))
keeps-attach_refused h g told now attach d error n c held t f = record {
  fits = fits-same h g held f;
  answer = (
    none_drawn d n,
    attach_answers (view_of_held h) (view_of_held g) told now attach (replies.AttachRefused error) c (
      view-moved h g held,
      record { taken = t.taken; opened = t.opened ∙ sym (grown-nil told.opened); refused = t.refused ∙ refused_after-err told.refused (frames.Attach attach) error; reviews = t.reviews },
    ),
  );
}

pub here-attach_wanting : (h g : Held) (attach : Attach) → SameHeld h g → LeavesHere h g (steps.Frame (frames.Attach attach)) (Err errors.NoMemory)
here-attach_wanting h g attach same = wanting-here h g (steps.Frame (frames.Attach attach)) same (ap (is_live_under (view_of_held h)) (txn-attach attach)) tt

-- ---- the ends of links

pub here-link_end : (h g : Held) (k : ℕ) (d : DrawnIds) → d ≡ nothing_drawn → is_in h.links.entries k ≡ true → (Tied h → (t : TransactionId) → kept g.work t ≡ unless_on k (kept h.work t)) → ((j : ℕ) → is_in g.links.entries j ≡ cond (k == j) false (is_in h.links.entries j)) → (Tied h → Tied g) → g.opened ≡ h.opened → LeavesHere h g (steps.LinkEnd k) (Ok (d, replies.LinkEnded))
here-link_end h g k d n o lg kg tied og =
    answered-here h g (steps.LinkEnd k) d replies.LinkEnded (λ told. (tt, tt)) tt tt (fits-closed h g k tied kg og)
    (λ told f. (none_drawn d n, subst (λ (b : Bool). EndKeeps k (view_of_held h) (view_of_held g) told told b replies.LinkEnded) (sym o) (record { live = lg f.tied; links = kg; opened = og }, refl)))

pub here-no_end : (h : Held) (k : ℕ) (d : DrawnIds) → d ≡ nothing_drawn → is_in h.links.entries k ≡ false → LeavesHere h h (steps.LinkEnd k) (Ok (d, replies.NoLink))
here-no_end h k d n o =
    answered-here h h (steps.LinkEnd k) d replies.NoLink (λ told. (tt, tt)) tt tt (λ f. f)
    (λ told f. (none_drawn d n, subst (λ (b : Bool). EndKeeps k (view_of_held h) (view_of_held h) told told b replies.NoLink) (sym o) (unchanged h told)))

-- ---- control messages

pub here-no_link : (h : Held) (k : ℕ) (payload : List ℕ) (d : DrawnIds) → d ≡ nothing_drawn → is_in h.links.entries k ≡ false → LeavesHere h h (steps.Control k payload) (Ok (d, replies.NoLink))
here-no_link h k payload d n o =
    control-here h h k payload d false (message_of payload) (replies.NoLink) refl o (λ told. (tt, tt)) (λ f. f)
    (λ told f. (none_drawn d n, unchanged h told))

pub here-closed : (h g : Held) (k : ℕ) (payload : List ℕ) (d : DrawnIds) → d ≡ nothing_drawn → message_of payload ≡ None → is_in h.links.entries k ≡ true → (Tied h → (t : TransactionId) → kept g.work t ≡ unless_on k (kept h.work t)) → ((j : ℕ) → is_in g.links.entries j ≡ cond (k == j) false (is_in h.links.entries j)) → (Tied h → Tied g) → g.opened ≡ h.opened → LeavesHere h g (steps.Control k payload) (Ok (d, replies.LinkClosed amqp_errors.NotAllowed))
here-closed h g k payload d n e o lg kg tied og =
    control-here h g k payload d true None (replies.LinkClosed amqp_errors.NotAllowed) e o (λ told. (tt, tt)) (fits-closed h g k tied kg og)
    (λ told f. (none_drawn d n, record { live = lg f.tied; links = kg; opened = og }, refl))

-- ---- declares

abbrev declare_of : Option TransactionId → Option ControlMessageBody
declare_of global = Some (messages.Declare (record { global_id = global }))

-- what was drawn, with what is kept in other memory
live-moved : (h g : Held) → SameHeld h g → kept g.work ≡ kept h.work
live-moved h g same = λ i. λ t. same.live t i

pub drew-live : (h g : Held) (ts : List TransactionId) → SameHeld h g → DrewLive (kept g.work) ts → DrewLive (kept h.work) ts
drew-live h g ts same x = subst (λ (live : TransactionId → Option Kept). DrewLive live ts) (live-moved h g same) x

pub drew-unused : (h g : Held) (ts : List TransactionId) (t : TransactionId) → SameHeld h g → DrewUnused (kept g.work) ts t → DrewUnused (kept h.work) ts t
drew-unused h g ts t same x = subst (λ (live : TransactionId → Option Kept). DrewUnused live ts t) (live-moved h g same) x

-- a message on an open link that takes memory
wants : (v : View) (k : ℕ) (payload : List ℕ) (m : Option ControlMessageBody) → message_of payload ≡ m → v.links k ≡ true → message_takes_memory v k m ≡ true → takes_memory v (steps.Control k payload) ≡ true
wants v k payload m e o x = ap (λ b. b && message_takes_memory v k (message_of payload)) o ∙ ap (message_takes_memory v k) e ∙ x

pub here-global : (h : Held) (k : ℕ) (payload : List ℕ) (global : TransactionId) (d : DrawnIds) → d ≡ nothing_drawn → message_of payload ≡ declare_of (Some global) → is_in h.links.entries k ≡ true → LeavesHere h h (steps.Control k payload) (Ok (d, replies.Rejected transaction_errors.UnknownId texts.GlobalId))
here-global h k payload global d n e o =
    control-here h h k payload d true (declare_of (Some global)) (replies.Rejected transaction_errors.UnknownId texts.GlobalId) e o (λ told. (tt, tt)) (λ f. f)
    (λ told f. (none_drawn d n, unchanged h told))

pub here-repeat : (h g : Held) (k : ℕ) (payload : List ℕ) (d : DrawnIds) → message_of payload ≡ declare_of None → is_in h.links.entries k ≡ true → SameHeld h g → DrewLive (kept g.work) d.ids → LeavesHere h g (steps.Control k payload) (Ok (d, replies.Rejected transaction_errors.UnknownId texts.IdsRepeat))
here-repeat h g k payload d e o same drew =
    control-here h g k payload d true (declare_of None) (replies.Rejected transaction_errors.UnknownId texts.IdsRepeat) e o (λ told. (tt, tt)) (fits-same h g same)
    (λ told f. (drew-live h g d.ids same drew, record { same = view-moved h g same; below = refl }))

pub here-declared : (h roomy g : Held) (k : ℕ) (payload : List ℕ) (d : DrawnIds) (id : TransactionId) → message_of payload ≡ declare_of None → is_in h.links.entries k ≡ true → SameHeld h roomy → DrewUnused (kept roomy.work) d.ids id → ((t : TransactionId) → kept g.work t ≡ cond (same_id t id) (Some (Some k, [])) (kept roomy.work t)) → ((j : ℕ) → is_in g.links.entries j ≡ is_in roomy.links.entries j) → (Tied roomy → Tied g) → g.opened ≡ roomy.opened → LeavesHere h g (steps.Control k payload) (Ok (d, replies.Declared id))
here-declared h roomy g k payload d id e o same drew lg kg tied og =
    control-here h g k payload d true (declare_of None) (replies.Declared id) e o (λ told. (tt, tt)) (λ f. fits-declared roomy g tied kg og (fits-same h roomy same f))
    (λ told f. (
      record {
        unused = drew-unused h roomy d.ids id same drew;
        live = λ t. lg t ∙ ap (cond (same_id t id) (Some (Some k, []))) (same.live t);
        links = record { links = λ j. kg j ∙ ap is_some (same.links j); opened = og ∙ same.opened };
      },
      refl,
    ))

pub here-declare_wanting : (h g : Held) (k : ℕ) (payload : List ℕ) → message_of payload ≡ declare_of None → is_in h.links.entries k ≡ true → SameHeld h g → LeavesHere h g (steps.Control k payload) (Err errors.NoMemory)
here-declare_wanting h g k payload e o same = wanting-here h g (steps.Control k payload) same (wants (view_of_held h) k payload (declare_of None) e o refl) tt

-- ---- discharges

-- a link that is on what is kept is the one that is kept
on_some : (o : Option ℕ) (k : ℕ) → is_link k o ≡ true → o ≡ Some k
on_some None k e = cc e
on_some (Some j) k e = ap (λ n. Some n) (eqb-true j k e)

-- what is kept for the link, by its test
kept_here : (k : ℕ) (o : Option Kept) → is_kept_on k o ≡ true → o ≡ Some (Some k, frames_kept o)
kept_here k None e = cc e
kept_here k (Some one) e = ap (λ x. Some (x, one.1)) (on_some one.0 k e)

pub held_here : (h : Held) (u : TransactionId) (k : ℕ) → is_kept_on k (kept h.work u) ≡ true → kept h.work u ≡ Some (Some k, frames_kept (kept h.work u))
held_here h u k e = kept_here k (kept h.work u) e

abbrev discharge_of : Discharge → Option ControlMessageBody
discharge_of discharge = Some (messages.Discharge discharge)

-- an id that the link declared ended
ends : (h g : Held) (k : ℕ) (id : TransactionId) → is_kept_on k (kept h.work id) ≡ true → Ended h g id → Ends k (view_of_held h) (view_of_held g) id
ends h g k id on x = record { held = on; live = x.live; links = record { links = x.links; opened = x.opened } }

pub here-absent : (h : Held) (k : ℕ) (payload : List ℕ) (discharge : Discharge) (d : DrawnIds) → d ≡ nothing_drawn → message_of payload ≡ discharge_of discharge → is_in h.links.entries k ≡ true → is_kept_on k (kept h.work discharge.txn_id) ≡ false → LeavesHere h h (steps.Control k payload) (Ok (d, replies.Rejected transaction_errors.UnknownId texts.Absent))
here-absent h k payload discharge d n e o not_on =
    control-here h h k payload d true (discharge_of discharge) (replies.Rejected transaction_errors.UnknownId texts.Absent) e o (λ told. (tt, tt)) (λ f. f)
    (λ told f. (not_on, none_drawn d n, unchanged h told))

pub here-rolled_back : (h g : Held) (k : ℕ) (payload : List ℕ) (discharge : Discharge) (d : DrawnIds) → d ≡ nothing_drawn → message_of payload ≡ discharge_of discharge → is_rollback discharge.fail ≡ true → is_in h.links.entries k ≡ true → is_kept_on k (kept h.work discharge.txn_id) ≡ true → Ended h g discharge.txn_id → LeavesHere h g (steps.Control k payload) (Ok (d, replies.Accepted []))
here-rolled_back h g k payload discharge d n e rb o on x =
    control-here h g k payload d true (discharge_of discharge) (replies.Accepted []) e o (λ told. (tt, tt)) (fits-ended h g discharge.txn_id x)
    (λ told f. (
      ends h g k discharge.txn_id on x,
      none_drawn d n,
      subst (λ (b : Bool). DischargeHands told told b (frames_kept (kept h.work discharge.txn_id)) []) (sym rb) (refl, refl),
    ))

pub keeps-committed : (h g : Held) (told now : Told) (k : ℕ) (payload : List ℕ) (discharge : Discharge) (d : DrawnIds) (echoes : List Answers) → d ≡ nothing_drawn → message_of payload ≡ discharge_of discharge → is_rollback discharge.fail ≡ false → is_in h.links.entries k ≡ true → is_kept_on k (kept h.work discharge.txn_id) ≡ true → Ended h g discharge.txn_id → HandsAll told now (map stripped (frames_kept (kept h.work discharge.txn_id))) (Ok (Ok echoes)) → Fits h → Keeps h g told now (steps.Control k payload) (Ok (d, replies.Accepted echoes))
keeps-committed h g told now k payload discharge d echoes n e rb o on x hands f = record {
  fits = fits-ended h g discharge.txn_id x f;
  answer = control_answers (view_of_held h) (view_of_held g) told now k payload true (discharge_of discharge) d.ids (replies.Accepted echoes) e o (
    ends h g k discharge.txn_id on x,
    none_drawn d n,
    subst (λ (c : Bool). DischargeHands told now c (frames_kept (kept h.work discharge.txn_id)) echoes) (sym rb) hands,
  );
}

-- a commit that was vetoed
pub keeps-vetoed : (h g : Held) (told now : Told) (k : ℕ) (payload : List ℕ) (discharge : Discharge) (d : DrawnIds) → d ≡ nothing_drawn → message_of payload ≡ discharge_of discharge → is_rollback discharge.fail ≡ false → is_in h.links.entries k ≡ true → is_kept_on k (kept h.work discharge.txn_id) ≡ true → Ended h g discharge.txn_id → HandsAll told now (map stripped (frames_kept (kept h.work discharge.txn_id))) (Ok (Err transaction_errors.Rollback)) → Fits h → Keeps h g told now (steps.Control k payload) (Ok (d, replies.Rejected transaction_errors.Rollback texts.Absent))
keeps-vetoed h g told now k payload discharge d n e rb o on x hands f = record {
  fits = fits-ended h g discharge.txn_id x f;
  answer = control_answers (view_of_held h) (view_of_held g) told now k payload true (discharge_of discharge) d.ids (replies.Rejected transaction_errors.Rollback texts.Absent) e o (
    ends h g k discharge.txn_id on x,
    none_drawn d n,
    record { commits = rb; vetoed = hands },
  );
}

-- out of memory in a commit refuses no frame
wanting_adds : (s : Step) (handed : List Frame) (at : ℕ) → 1 ≤ length handed → AddsRefusal s handed at faults.NoMemory []
wanting_adds s [] at some = absurd (omega (arith, some))
wanting_adds s (f ∷ handed) zero some = (faults.NoMemory, refl, inl (f, refl, refl))
wanting_adds s (f ∷ handed) (suc at) some = (faults.NoMemory, refl, inr (refl, inr (omega arith)))

-- memory lacked below for the frames of a commit
commit_stopped : (v : View) (told now : Told) (k : ℕ) (payload : List ℕ) (hands : List Frame) (error : SessionInnerError) (handed : ℕ) → HandsAll told now hands (Err (commit_faults.Refused error handed)) → MatchBool (is_unknown error) (UnderDead v (steps.Control k payload) × (handed ≡ 0)) (Refused v told now (steps.Control k payload) hands error handed)
commit_stopped v told now k payload hands error handed x =
    let is : error ≡ faults.NoMemory = x.handed.0 in
    let part = x.handed.1 in
    fault_answers v told now (steps.Control k payload) hands error faults.NoMemory handed (ap is_unknown is) is (record {
      fits = (part.some, refl);
      took = (part.within, part.took);
      opened = x.opened;
      refused = ([], wanting_adds (steps.Control k payload) hands handed part.some, x.refused ∙ sym (grown-nil told.refused));
      vetoed = x.vetoed ∙ grown-nil told.reviews.vetoed;
    })

-- what a commit of an id that the link declared hands
pub commit-hands : (h : Held) (k : ℕ) (payload : List ℕ) (discharge : Discharge) → message_of payload ≡ discharge_of discharge → is_rollback discharge.fail ≡ false → is_in h.links.entries k ≡ true → is_kept_on k (kept h.work discharge.txn_id) ≡ true → map stripped (frames_kept (kept h.work discharge.txn_id)) ≡ step_hands (view_of_held h) (steps.Control k payload)
commit-hands h k payload discharge e rb o on =
    let v = view_of_held h in
    sym (ap (λ b. cond b (message_hands v k (message_of payload)) []) o ∙ ap (message_hands v k) e ∙ commit_hands v k discharge rb on)

-- a fault of a commit
pub keeps-fault : (h g : Held) (told now : Told) (k : ℕ) (payload : List ℕ) (discharge : Discharge) (U : Type 0) (fault : CommitFault) → message_of payload ≡ discharge_of discharge → is_rollback discharge.fail ≡ false → is_in h.links.entries k ≡ true → is_kept_on k (kept h.work discharge.txn_id) ≡ true → CommittedWith h g told now discharge.txn_id (frames_kept (kept h.work discharge.txn_id)) U (Err fault) → Fits h → Keeps h g told now (steps.Control k payload) (Err (step_error_of fault))
keeps-fault h g told now k payload discharge U commit_faults.NoMemory e rb o on x f = record {
  fits = fits-same h g x.0 f;
  answer = wants (view_of_held h) k payload (discharge_of discharge) e o (ap (λ b. not b && is_kept_on k (kept h.work discharge.txn_id)) rb ∙ on);
}
keeps-fault h g told now k payload discharge U (commit_faults.Refused error handed) e rb o on x f =
    let v = view_of_held h in
    record {
      fits = fits-ended h g discharge.txn_id x.0 f;
      answer = subst (λ (fs : List Frame). MatchBool (is_unknown error) (UnderDead v (steps.Control k payload) × (handed ≡ 0)) (Refused v told now (steps.Control k payload) fs error handed)) (commit-hands h k payload discharge e rb o on) (commit_stopped v told now k payload _ error handed x.1);
    }

pub leaves-fault : {S : Type 0} (tells : S → Told) (sure : Bool) (reviews : S → S → List Frame → Result Verdict NoMemory → Type 0) (checks : S → S → Disposition → Result Unit SessionInnerError → Type 0) (h g : Held) (below now : S) (k : ℕ) (payload : List ℕ) (discharge : Discharge) (fault : CommitFault) → message_of payload ≡ discharge_of discharge → is_rollback discharge.fail ≡ false → is_in h.links.entries k ≡ true → is_kept_on k (kept h.work discharge.txn_id) ≡ true → CommittedWith h g (tells below) (tells now) discharge.txn_id (frames_kept (kept h.work discharge.txn_id)) (now ≡ below) (Err fault) → HandsSurely sure (Err fault) → (tells now).fixed ≡ (tells below).fixed → (tells below).refusals ≤ (tells now).refusals → (tells below).reviews.vetoes ≤ (tells now).reviews.vetoes → StepLeaves tells sure reviews checks h g below now (steps.Control k payload) (Err (step_error_of fault))
leaves-fault tells sure reviews checks h g below now k payload discharge commit_faults.NoMemory e rb o on x surely fixed later counted = record {
  keeps = keeps-fault h g (tells below) (tells now) k payload discharge (now ≡ below) commit_faults.NoMemory e rb o on x;
  left = view-moved h g x.0;
  checked = tt;
  cause = tt;
  surely = tt;
  ended = tt;
  same = x.0;
  untouched = x.1;
  reviewed = tt;
  fixed = fixed;
  later = later;
  counted = counted;
}
leaves-fault tells sure reviews checks h g below now k payload discharge (commit_faults.Refused error handed) e rb o on x surely fixed later counted =
    let is : error ≡ faults.NoMemory = x.1.handed.0 in
    record {
      keeps = keeps-fault h g (tells below) (tells now) k payload discharge (now ≡ below) (commit_faults.Refused error handed) e rb o on x;
      left = when_known (is_unknown error) _ _ (ap is_unknown is) (subst (CommitEnds k (view_of_held h) (view_of_held g)) (sym e) (ends h g k discharge.txn_id on x.0));
      checked = tt;
      cause = when_known (is_unknown error) _ _ (ap is_unknown is) x.1.cause;
      surely = surely_commit sure k payload (commit_faults.Refused error handed) surely;
      ended = tt;
      same = tt;
      untouched = when_known (is_unknown error) _ _ (ap is_unknown is) tt;
      reviewed = tt;
      fixed = fixed;
      later = later;
      counted = counted;
    }

-- ---- the ends of a session

pub here-end : (h : Held) (s : Step) (own : SessionStopReason) (takes : Bool) (error : StepError) → EndGave own takes error → ended_by s ≡ Some own → takes ≡ has_error own → takes_memory (view_of_held h) s ≡ takes → LeavesHere h h s (Err error)
here-end h s own takes (errors.Fault error handed) x e has w = absurd x
here-end h s own takes (errors.Ended got) x e has w = record {
  keeps = λ told f. record { fits = f; answer = e ∙ ap Some (sym x) };
  left = same-view (view_of_held h);
  unanswered = tt;
  cause = λ told. e ∙ ap Some (sym x);
  ended = subst (λ (o : Option SessionStopReason). AnswersEnd o (Err (errors.Ended got))) (sym e) x;
  same = tt;
}
here-end h s own takes (errors.Stopped code) x e has w = absurd x
here-end h s own takes errors.NoMemory x e has w = wanting-here h h s (same_held h) (w ∙ x) (subst (λ (o : Option SessionStopReason). AnswersEnd o (Err errors.NoMemory)) (sym e) (sym has ∙ x))
