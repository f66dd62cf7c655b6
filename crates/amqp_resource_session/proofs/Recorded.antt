-- What a step answers by the record, from what it answers by the record's view.
use Rattle.std.proofs.Common.{◌≡◌, ℕ, Bool, true, false, cond, not, Option, Some, None, Result, Ok, Err, List, [], ◌∷◌, ◌++◌, length, map, refl, sym, ◌∙◌, ap, arith, subst}
use Rattle.std.specs.Prelude.{is_some, MatchBool}
use Rattle.std.specs.List.{zip}
use Rattle.std.proofs.lemmas.List.{length-map}
use Rattle.std.proofs.lemmas.Bool.{and_parts}
use Rattle.amqp_below_layer.specs.Windows.{AllWindowsFit}
use Rattle.amqp_resource_record.specs.Answers.{Answer, AnswerControl, AnswerDeclare, AnswerDischarge, AnswerFrame, AnswerLinkEnd, Echoed}
use Rattle.amqp_below_layer.specs.declared.answers.Answers.{Answers}
use Rattle.amqp_txn_codec.specs.declared.message.ControlMessageBody.{ControlMessageBody}
use Rattle.amqp_txn_codec.specs.declared.message.Discharge.{Discharge}
use Rattle.amqp_below_ids.specs.Drawn.{DrawnIds}
use Rattle.amqp_resource_record.specs.declared.entry.Entry.{Entry}
use Rattle.amqp_txn_types.specs.declared.performatives.Frame.{Frame}
use Rattle.amqp_resource_held.specs.declared.held.Held.{Held}
use Rattle.amqp_resource_record.specs.Legal.{IsLegal}
use Rattle.amqp_resource_record.specs.declared.reply.Reply.{Reply}
use Rattle.amqp_resource_record.specs.declared.step.Step.{Step}
use Rattle.amqp_resource_record.specs.declared.stop.StepError.{StepError}
use Rattle.amqp_below_layer.specs.Told.{Told}
use Rattle.amqp_txn_types.specs.declared.id.TransactionId.{TransactionId}
use Rattle.amqp_resource_record.specs.Entries.{declares, discharges, is_under, is_veto, message_discharges}
use Rattle.amqp_resource_record.specs.Work.{given_by, is_rejected}
use Rattle.amqp_txn_types.specs.Growing.{grown}
use Rattle.amqp_resource_record.specs.Hands.{hands, frames_of}
use Rattle.amqp_resource_record.specs.Live.{home, is_link, is_live}
use Rattle.amqp_txn_types.specs.Frames.{is_coordinator_attach, is_plain_by, is_plain_frame, stripped, txn}
use Rattle.amqp_resource_record.specs.Links.{is_open}
use Rattle.amqp_txn_codec.specs.Discharges.{is_rollback}
use Rattle.amqp_txn_codec.specs.Reading.{message_of}
use Rattle.amqp_resource_record.specs.Opened.{opened_by, refused_by}
use Rattle.amqp_txn_types.specs.declared.small.AmqpError.TheVariants as amqp_errors
use Rattle.amqp_txn_types.specs.declared.small.TransactionError.TheVariants as transaction_errors
use Rattle.amqp_txn_types.specs.Ids.{is_some_id}
use Rattle.amqp_txn_types.proofs.Growing.{grown-nil}
use Rattle.amqp_txn_codec.specs.declared.message.ControlMessageBody.TheVariants as messages
use Rattle.amqp_resource_record.specs.declared.step.Step.TheVariants as steps
use Rattle.amqp_resource_record.specs.declared.reply.Reply.TheVariants as replies
use Rattle.amqp_resource_record.specs.declared.reply.RejectText.TheVariants as texts
use Rattle.amqp_resource_record.specs.declared.stop.StepError.TheVariants as errors
use Rattle.amqp_resource_record.proofs.Whole.{IsLegal-snoc}
use Rattle.amqp_resource_held.specs.Held.{SameHeld, Stands}
use Rattle.amqp_resource_held.specs.Views.{SameView, View, frames_in, is_held_in, view_of_held, view_of_record}
use Rattle.amqp_resource_session.specs.Keeping.{AnswerKeeps, ControlKeeps, DeclareKeeps, DischargeHands, DischargeKeeps, EndKeeps, FrameKeeps, Keeps, NothingChanges, PlainKeeps, StepKeeps}
use Rattle.amqp_resource_held.specs.Changes.{Ends, Fits}
use Rattle.amqp_resource_session.specs.Steps.{OnNoMemory, OpenedBy, Refused, RefusedBy, TookHands, UnderDead, VetoedBy, ended_by, entry_of, is_unknown, message_hands, step_hands, takes_memory}
use Rattle.amqp_resource_session.proofs.Handing.{windows-stripped}
use Rattle.amqp_resource_held.proofs.Standing.{LeavesLinks, stands-moved, view-attached, view-closed, view-declared, view-ended, view-post, view-quiet}
use Rattle.amqp_resource_held.proofs.Views.{all-record, frames-record, held-record, live-record, stands-view, view-stands}
use Rattle.amqp_resource_session.proofs.Handed.{commit_hands, hands-record}

-- ---- what was done below

-- by the reply of a step that hands these frames
record Called (told now : Told) (s : Step) (hands : List Frame) (reply : Reply) : Type 0 where
  taken : now.taken ≡ grown told.taken (zip (cond (is_rejected reply) [] hands) (given_by s reply))
  opened : OpenedBy told now s reply
  refused : RefusedBy told now s reply
  vetoed : now.reviews.vetoed ≡ grown told.reviews.vetoed (cond (is_veto reply) (hands ∷ []) [])

adds_nothing : {A : Type 0} (old new : Option (List A)) (more : List A) → more ≡ [] → new ≡ old → new ≡ grown old more
adds_nothing old new more m t = t ∙ sym (ap (grown old) m ∙ grown-nil old)

zip-none : (frames : List Frame) (given : List (List Frame)) → given ≡ [] → zip frames given ≡ []
zip-none [] given e = refl
zip-none (f ∷ frames) given e = ap (zip (f ∷ frames)) e

-- a reply that gives nothing back and is no veto
called-none : (told now : Told) (s : Step) (hands : List Frame) (reply : Reply) → given_by s reply ≡ [] → is_veto reply ≡ false → now.taken ≡ told.taken → OpenedBy told now s reply → RefusedBy told now s reply → now.reviews.vetoed ≡ told.reviews.vetoed → Called told now s hands reply
called-none told now s hands reply g v t o f r = record {
  taken = adds_nothing told.taken now.taken _ (zip-none (cond (is_rejected reply) [] hands) (given_by s reply) g) t;
  opened = o;
  refused = f;
  vetoed = adds_nothing told.reviews.vetoed now.reviews.vetoed _ (ap (λ b. cond b (hands ∷ []) []) v) r;
}

-- no call at all
called-same : (told now : Told) (s : Step) (hands : List Frame) (reply : Reply) → given_by s reply ≡ [] → opened_by s reply ≡ [] → refused_by s reply ≡ [] → is_veto reply ≡ false → now ≡ told → Called told now s hands reply
called-same told now s hands reply g o f v e =
    called-none told now s hands reply g v (ap (λ x. x.taken) e) (adds_nothing told.opened now.opened _ o (ap (λ x. x.opened) e))
    (adds_nothing told.refused now.refused _ f (ap (λ x. x.refused) e)) (ap (λ x. x.reviews.vetoed) e)

-- ---- a commit by the record

-- an id that is held on a link is live, with the record's frames
held_frames : (r : List Entry) (k : ℕ) (t : TransactionId) → is_held_in (view_of_record r) k t ≡ true → frames_in (view_of_record r) t ≡ frames_of r t
held_frames r k t held = frames-record r t (and_parts (is_live r t) (is_link k (home r t)) (sym (held-record r k t) ∙ held)).0

echoed : (r : List Entry) (told now : Told) (t : TransactionId) (b : Bool) (echoes : List Answers) → frames_in (view_of_record r) t ≡ frames_of r t → DischargeHands told now b (frames_in (view_of_record r) t) echoes → Echoed r t b echoes
echoed r told now t true echoes e x = x.0
echoed r told now t false echoes e x = subst (λ (fs : List Frame). AllWindowsFit fs echoes) e (windows-stripped (frames_in (view_of_record r) t) echoes (let all = x.handed in all.fits))

-- ---- the answer by the record's view, case by case

module _ (r : List Entry) (legal : IsLegal r) (w : View) (told now : Told) where
  -- the view is that of the record with the entry, and this was done below
  abbrev Follows : Step → DrawnIds → Reply → List Frame → Type 0
  Follows s d reply hands = SameView (view_of_record (r ++ entry_of s d reply ∷ [])) w × Called told now s hands reply

  nothing : (s : Step) (d : DrawnIds) (reply : Reply) (hands : List Frame) → LeavesLinks (entry_of s d reply) → ((t : TransactionId) → declares t (entry_of s d reply) ≡ false) → ((t : TransactionId) → discharges t (entry_of s d reply) ≡ false) → ((t : TransactionId) → is_under t (entry_of s d reply) ≡ false) → given_by s reply ≡ [] → opened_by s reply ≡ [] → refused_by s reply ≡ [] → is_veto reply ≡ false → NothingChanges (view_of_record r) w told now → Follows s d reply hands
  nothing s d reply hands q de di un g o f v x = (view-quiet r (entry_of s d reply) w q de di un x.same, called-same told now s hands reply g o f v x.below)

  plain : (frame : Frame) (d : DrawnIds) (c : Bool) (reply : Reply) → txn frame ≡ None → is_coordinator_attach frame ≡ c → PlainKeeps (view_of_record r) w told now frame c reply → AnswerFrame r frame None reply × Follows (steps.Frame frame) d reply (step_hands (view_of_record r) (steps.Frame frame))
  plain frame d false (replies.Frames a) e c x =
      let t = x.1 in
      let is_plain : is_plain_frame frame ≡ true = ap (λ o. is_plain_by o (is_coordinator_attach frame)) e ∙ ap not c in (
        (c, t.taken.1),
        (
          view-quiet r (entry_of (steps.Frame frame) d (replies.Frames a)) w (record { attaches = λ k. refl; closes = λ k. refl; attached = refl }) (λ u. refl) (λ u. refl) (λ u. ap (is_some_id u) e) x.0,
          record {
            taken = t.taken.0 ∙ ap (λ b. grown told.taken (zip (cond b (frame ∷ []) []) (cond b (a.given ∷ []) []))) (sym is_plain);
            opened = adds_nothing told.opened now.opened [] refl t.opened;
            refused = t.refused;
            vetoed = adds_nothing told.reviews.vetoed now.reviews.vetoed [] refl (ap (λ y. y.vetoed) t.reviews);
          },
        ),
      )
  plain frame d true (replies.Attached link given) e c x =
      let t = x.1 in (
        (c, x.0.number),
        (
          view-attached r (entry_of (steps.Frame frame) d (replies.Attached link given)) w link given legal refl (λ u. refl) (λ u. refl) (λ u. ap (is_some_id u) e) (λ k. refl) x.0,
          called-none told now (steps.Frame frame) _ (replies.Attached link given) refl refl t.taken t.opened t.refused (ap (λ y. y.vetoed) t.reviews),
        ),
      )
  plain frame d true (replies.AttachRefused error) e c x =
      let t = x.1 in (
        c,
        (
          view-quiet r (entry_of (steps.Frame frame) d (replies.AttachRefused error)) w (record { attaches = λ k. refl; closes = λ k. refl; attached = refl }) (λ u. refl) (λ u. refl) (λ u. ap (is_some_id u) e) x.0,
          called-none told now (steps.Frame frame) _ (replies.AttachRefused error) refl refl t.taken t.opened t.refused (ap (λ y. y.vetoed) t.reviews),
        ),
      )
  plain frame d _ _ e c x = absurd x

  framed : (frame : Frame) (d : DrawnIds) (o : Option TransactionId) (reply : Reply) → txn frame ≡ o → FrameKeeps (view_of_record r) w told now frame o reply → AnswerFrame r frame o reply × Follows (steps.Frame frame) d reply (step_hands (view_of_record r) (steps.Frame frame))
  framed frame d None reply e x = plain frame d (is_coordinator_attach frame) reply e refl x
  framed frame d (Some u) (replies.Frames a) e x =
      let t = x.below in
      let other : is_plain_frame frame ≡ false = ap (λ o. is_plain_by o (is_coordinator_attach frame)) e in (
        (sym (live-record r u) ∙ x.arrives.was_live, x.answered),
        (
          view-post r (entry_of (steps.Frame frame) d (replies.Frames a)) w frame u (record { attaches = λ k. refl; closes = λ k. refl; attached = refl }) (λ y. refl) (λ y. refl) refl (λ y. ap (is_some_id y) e) x.arrives,
          called-none told now (steps.Frame frame) _ (replies.Frames a) (ap (λ b. cond b (a.given ∷ []) []) other) refl t.taken
              (adds_nothing told.opened now.opened [] refl t.opened) (adds_nothing told.refused now.refused [] refl t.refused) (ap (λ y. y.vetoed) t.reviews),
        ),
      )
  framed frame d (Some u) _ e x = absurd x

  declared : (k : ℕ) (payload : List ℕ) (d : DrawnIds) (global : Option TransactionId) (reply : Reply) → is_open r k ≡ true → DeclareKeeps k (view_of_record r) w told now global d.ids reply → AnswerDeclare r global d.ids reply × Follows (steps.Control k payload) d reply []
  declared k payload d (Some global) (replies.Rejected transaction_errors.UnknownId texts.GlobalId) o x = (x.0, nothing (steps.Control k payload) d (replies.Rejected transaction_errors.UnknownId texts.GlobalId) [] (record { attaches = λ j. refl; closes = λ j. refl; attached = refl }) (λ t. refl) (λ t. refl) (λ t. refl) refl refl refl refl x.1)
  declared k payload d None (replies.Declared id) o x =
      let u = x.0.unused in (
        (u.parts.0, u.parts.1, u.count, sym (all-record r u.parts.0) ∙ u.parts.2, sym (live-record r id) ∙ ap is_some u.unused),
        (
          view-declared r (entry_of (steps.Control k payload) d (replies.Declared id)) w k id (record { attaches = λ j. refl; closes = λ j. refl; attached = refl }) refl o (λ t. refl) (λ t. refl) (λ t. refl) x.0,
          called-same told now (steps.Control k payload) [] (replies.Declared id) refl refl refl refl x.1,
        ),
      )
  declared k payload d None (replies.Rejected transaction_errors.UnknownId texts.IdsRepeat) o x =
      let drew = x.0 in
      ((drew.count, sym (all-record r d.ids) ∙ drew.all), nothing (steps.Control k payload) d (replies.Rejected transaction_errors.UnknownId texts.IdsRepeat) [] (record { attaches = λ j. refl; closes = λ j. refl; attached = refl }) (λ t. refl) (λ t. refl) (λ t. refl) refl refl refl refl x.1)
  declared k payload d _ _ o x = absurd x

  committed : (k : ℕ) (payload : List ℕ) (discharge : Discharge) (b : Bool) (echoes : List Answers) → is_rollback discharge.fail ≡ b → is_held_in (view_of_record r) k discharge.txn_id ≡ true → DischargeHands told now b (frames_in (view_of_record r) discharge.txn_id) echoes → Called told now (steps.Control k payload) (message_hands (view_of_record r) k (Some (messages.Discharge discharge))) (replies.Accepted echoes)
  committed k payload discharge true echoes rb held x = called-same told now (steps.Control k payload) _ (replies.Accepted echoes) (ap (map (λ (a : Answers). a.given)) x.0) refl refl refl x.1
  committed k payload discharge false echoes rb held x =
      let all = x.handed in
      record {
        taken = all.taken ∙ ap (λ fs. grown told.taken (zip fs (map (λ (a : Answers). a.given) echoes))) (sym (commit_hands (view_of_record r) k discharge rb held));
        opened = adds_nothing told.opened now.opened [] refl x.opened;
        refused = adds_nothing told.refused now.refused [] refl x.refused;
        vetoed = x.vetoed;
      }

  ended : (k : ℕ) (payload : List ℕ) (d : DrawnIds) (discharge : Discharge) (reply : Reply) → message_of payload ≡ Some (messages.Discharge discharge) → ((t : TransactionId) → discharges t (entry_of (steps.Control k payload) d reply) ≡ message_discharges t (message_of payload)) → LeavesLinks (entry_of (steps.Control k payload) d reply) → ((t : TransactionId) → declares t (entry_of (steps.Control k payload) d reply) ≡ false) → Ends k (view_of_record r) w discharge.txn_id → SameView (view_of_record (r ++ entry_of (steps.Control k payload) d reply ∷ [])) w
  ended k payload d discharge reply m di q de x = view-ended r (entry_of (steps.Control k payload) d reply) w k discharge.txn_id q de (λ t. di t ∙ ap (message_discharges t) m) (λ t. refl) x

  discharged : (k : ℕ) (payload : List ℕ) (d : DrawnIds) (discharge : Discharge) (reply : Reply) → message_of payload ≡ Some (messages.Discharge discharge) → DischargeKeeps k (view_of_record r) w told now discharge.txn_id (is_rollback discharge.fail) d.ids reply → AnswerDischarge r k discharge.txn_id discharge.fail d.ids reply × Follows (steps.Control k payload) d reply (message_hands (view_of_record r) k (Some (messages.Discharge discharge)))
  discharged k payload d discharge (replies.Rejected transaction_errors.UnknownId texts.Absent) m x = ((sym (held-record r k discharge.txn_id) ∙ x.0, x.1), nothing (steps.Control k payload) d (replies.Rejected transaction_errors.UnknownId texts.Absent) _ (record { attaches = λ j. refl; closes = λ j. refl; attached = refl }) (λ t. refl) (λ t. refl) (λ t. refl) refl refl refl refl x.2)
  discharged k payload d discharge (replies.Rejected transaction_errors.Rollback texts.Absent) m x =
      let id = discharge.txn_id in
      let ends = x.0 in
      let vetoes = x.2 in
      let t = vetoes.vetoed in
      let none = t.handed.1 in
      let count : length (map stripped (frames_in (view_of_record r) id)) ≡ length (frames_of r id) = length-map (frames_in (view_of_record r) id) stripped ∙ ap length (held_frames r k id ends.held) in (
        (sym (held-record r k id) ∙ ends.held, x.1, (vetoes.commits, omega (arith, none.some, count))),
        (
          ended k payload d discharge (replies.Rejected transaction_errors.Rollback texts.Absent) m (λ u. refl) (record { attaches = λ j. refl; closes = λ j. refl; attached = refl }) (λ u. refl) ends,
          record {
            taken = adds_nothing told.taken now.taken [] refl none.taken;
            opened = adds_nothing told.opened now.opened [] refl t.opened;
            refused = adds_nothing told.refused now.refused [] refl t.refused;
            vetoed = t.vetoed ∙ ap (λ (fs : List Frame). grown told.reviews.vetoed (fs ∷ [])) (sym (commit_hands (view_of_record r) k discharge vetoes.commits ends.held));
          },
        ),
      )
  discharged k payload d discharge (replies.Accepted echoes) m x =
      let id = discharge.txn_id in
      let ends = x.0 in (
        (sym (held-record r k id) ∙ ends.held, x.1, echoed r told now id (is_rollback discharge.fail) echoes (held_frames r k id ends.held) x.2),
        (
          ended k payload d discharge (replies.Accepted echoes) m (λ u. refl) (record { attaches = λ j. refl; closes = λ j. refl; attached = refl }) (λ u. refl) ends,
          committed k payload discharge (is_rollback discharge.fail) echoes refl ends.held x.2,
        ),
      )
  discharged k payload d discharge _ m x = absurd x

  controlled : (k : ℕ) (payload : List ℕ) (d : DrawnIds) (b : Bool) (m : Option ControlMessageBody) (reply : Reply) → is_open r k ≡ b → message_of payload ≡ m → ControlKeeps k (view_of_record r) w told now b m d.ids reply → AnswerControl r k b m d.ids reply × Follows (steps.Control k payload) d reply (cond b (message_hands (view_of_record r) k m) [])
  controlled k payload d false m replies.NoLink o e x = (x.0, nothing (steps.Control k payload) d replies.NoLink [] (record { attaches = λ j. refl; closes = λ j. refl; attached = refl }) (λ t. refl) (λ t. refl) (λ t. refl) refl refl refl refl x.1)
  controlled k payload d false m _ o e x = absurd x
  controlled k payload d true None (replies.LinkClosed amqp_errors.NotAllowed) o e x =
      let closes = x.1 in (
        x.0,
        (
          view-closed r (entry_of (steps.Control k payload) d (replies.LinkClosed amqp_errors.NotAllowed)) w k (λ t. refl) (λ t. refl) (λ t. refl) (λ j. refl) (λ j. refl) refl closes,
          called-same told now (steps.Control k payload) [] (replies.LinkClosed amqp_errors.NotAllowed) refl refl refl refl x.2,
        ),
      )
  controlled k payload d true None _ o e x = absurd x
  controlled k payload d true (Some (messages.Declare declare)) reply o e x = declared k payload d declare.global_id reply o x
  controlled k payload d true (Some (messages.Discharge discharge)) reply o e x = discharged k payload d discharge reply e x

  link_ended : (k : ℕ) (d : DrawnIds) (b : Bool) (reply : Reply) → EndKeeps k (view_of_record r) w told now b reply → AnswerLinkEnd b reply × Follows (steps.LinkEnd k) d reply []
  link_ended k d true replies.LinkEnded x = (
    tt,
    (
      view-closed r (entry_of (steps.LinkEnd k) d replies.LinkEnded) w k (λ t. refl) (λ t. refl) (λ t. refl) (λ j. refl) (λ j. refl) refl x.0,
      called-same told now (steps.LinkEnd k) [] replies.LinkEnded refl refl refl refl x.1,
    ),
  )
  link_ended k d false replies.NoLink x = (tt, nothing (steps.LinkEnd k) d replies.NoLink [] (record { attaches = λ j. refl; closes = λ j. refl; attached = refl }) (λ t. refl) (λ t. refl) (λ t. refl) refl refl refl refl x)
  link_ended k d _ _ x = absurd x

  stepped : (s : Step) (d : DrawnIds) (reply : Reply) → StepKeeps (view_of_record r) w told now s d.ids reply → Answer r s d.ids reply × Follows s d reply (step_hands (view_of_record r) s)
  stepped (steps.Frame frame) d reply x = let y = framed frame d (txn frame) reply refl x.1 in ((x.0, y.0), y.1)
  stepped (steps.Control k payload) d reply x = controlled k payload d (is_open r k) (message_of payload) reply refl refl x
  stepped (steps.LinkEnd k) d reply x = let y = link_ended k d (is_open r k) reply x.1 in ((x.0, y.0), y.1)
  stepped _ d reply x = absurd x

-- ---- the answer by the record

-- the reply is allowed, the session stands for the record with its entry, and this was done below
pub record StepAnswered (g : Held) (told now : Told) (r : List Entry) (s : Step) (d : DrawnIds) (reply : Reply) : Type 0 where
  pub answer : Answer r s d.ids reply
  pub stands : Stands g (r ++ entry_of s d reply ∷ [])
  pub taken : TookHands told now r s reply
  pub opened : OpenedBy told now s reply
  pub refused : RefusedBy told now s reply
  pub vetoed : VetoedBy told now r s reply

-- by the answer
abbrev pub StepGave : Held → Told → Told → List Entry → Step → Result (DrawnIds × Reply) StepError → Type 0
StepGave g told now r s (Ok out) = StepAnswered g told now r s out.0 out.1
StepGave g told now r s (Err (errors.Fault error handed)) = MatchBool (is_unknown error) (UnderDead (view_of_record r) s × (handed ≡ 0)) (Refused (view_of_record r) told now s (hands r s) error handed)
StepGave g told now r s (Err (errors.Ended reason)) = ended_by s ≡ Some reason
StepGave g told now r s (Err (errors.Stopped code)) = ⊥
StepGave g told now r s (Err errors.NoMemory) = Stands g r × (takes_memory (view_of_record r) s ≡ true)

answered : (g : Held) (told now : Told) (r : List Entry) (s : Step) (d : DrawnIds) (reply : Reply) → IsLegal r → Fits g → StepKeeps (view_of_record r) (view_of_held g) told now s d.ids reply → StepAnswered g told now r s d reply
answered g told now r s d reply legal fits x =
    let y = stepped r legal (view_of_held g) told now s d reply x in
    let hands : Called told now s (hands r s) reply = subst (λ (fs : List Frame). Called told now s fs reply) (hands-record r s) y.1.1 in
    record {
      answer = y.0;
      stands = stands-view g (r ++ entry_of s d reply ∷ []) (IsLegal-snoc r (entry_of s d reply) legal y.0) fits.tied y.1.0;
      taken = hands.taken;
      opened = hands.opened;
      refused = hands.refused;
      vetoed = hands.vetoed;
    }

by_record : (h g : Held) (told now : Told) (r : List Entry) (s : Step) (result : Result (DrawnIds × Reply) StepError) → Stands h r → Fits g → OnNoMemory result (SameHeld h g) → AnswerKeeps (view_of_record r) (view_of_held g) told now s result → StepGave g told now r s result
by_record h g told now r s (Ok out) st f same x = answered g told now r s out.0 out.1 st.legal f x
by_record h g told now r s (Err (errors.Fault error handed)) st f same x = subst (λ (fs : List Frame). MatchBool (is_unknown error) (UnderDead (view_of_record r) s × (handed ≡ 0)) (Refused (view_of_record r) told now s fs error handed)) (hands-record r s) x
by_record h g told now r s (Err (errors.Ended reason)) st f same x = x
by_record h g told now r s (Err (errors.Stopped code)) st f same x = x
by_record h g told now r s (Err errors.NoMemory) st f same x = (stands-moved h g r st same, x)

-- from what a session keeps that stands for the record
pub keeps-record : (h g : Held) (told now : Told) (r : List Entry) (s : Step) (result : Result (DrawnIds × Reply) StepError) → Stands h r → Keeps h g told now s result → AnswerKeeps (view_of_record r) (view_of_held g) told now s result
keeps-record h g told now r s result st x = subst (λ (v : View). AnswerKeeps v (view_of_held g) told now s result) (view-stands h r st) x.answer

pub gave : (h g : Held) (told now : Told) (r : List Entry) (s : Step) (result : Result (DrawnIds × Reply) StepError) → Stands h r → OnNoMemory result (SameHeld h g) → Keeps h g told now s result → StepGave g told now r s result
gave h g told now r s result st same x = by_record h g told now r s result st x.fits same (keeps-record h g told now r s result st x)
