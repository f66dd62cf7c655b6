-- What a review answers and leaves in a plain session, and the laws of what it takes after an
-- Accept.
use Rattle.std.specs.Prelude.{◌≡◌, ◌&&◌, Bool, true, false, Option, Some, None, Result, Ok, Err, List, [], ◌∷◌}
use Rattle.std.specs.List.{list_all}
use Rattle.std.proofs.Common.{refl, ap, ◌∙◌}
use Rattle.std.proofs.lemmas.Bool.{and_parts}
use Rattle.amqp_txn_types.specs.declared.items.NoMemory.{NoMemory}
use Rattle.amqp_txn_types.specs.declared.performatives.Flow.{Flow}
use Rattle.amqp_txn_types.specs.declared.performatives.Frame.{Frame}
use Rattle.amqp_txn_types.specs.declared.performatives.Frame.TheVariants as frames
use Rattle.amqp_txn_types.specs.declared.small.Role.{Role}
use Rattle.amqp_txn_types.specs.declared.small.Role.TheVariants as roles
use Rattle.amqp_txn_types.specs.declared.small.SessionState.TheVariants as states
use Rattle.amqp_below_layer.specs.declared.inner_error.SessionInnerError.{SessionInnerError}
use Rattle.amqp_below_layer.specs.declared.verdict.Verdict.{Verdict}
use Rattle.amqp_below_layer.specs.declared.verdict.Verdict.TheVariants as verdicts
use Rattle.amqp_below_layer.specs.Reviewing.{GoesOn, StaysOn}
use Rattle.amqp_below_sessions.specs.declared.links.Link.{Link}
use Rattle.amqp_below_sessions.specs.declared.plain_session.PlainSession.{PlainSession}
use Rattle.amqp_below_sessions.specs.Links.{link_mapped}
use Rattle.amqp_below_sessions.specs.Plain.{RefusedOnlyBy, input_of, mapped_fault, transfer_fault, transfer_fault_by}
use Rattle.amqp_below_sessions.specs.PlainFrames.{PlainChecks, PlainTakes, PlainWindow}
use Rattle.amqp_below_sessions.specs.PlainSessions.{ToldWindow, kept_of, names_of, slots_of, state_of, vetoed_once}
use Rattle.amqp_below_sessions.specs.Sessions.{Leaves}
use Rattle.amqp_below_sessions.specs.TakenWork.{TakesAlike, is_receiver, is_receiver_role, takes_all, takes_work}

-- the session is mapped, and takes each of these frames
pub record TakesEach (session : PlainSession) (list : List Frame) : Type 0 where
  pub mapped : state_of session ≡ states.Mapped
  pub each : list_all (takes_work (slots_of session)) list ≡ true

-- an Accept leaves all, a Veto is counted
abbrev pub Judges : Bool → PlainSession → PlainSession → Result Verdict NoMemory → Type 0
Judges true old new result = (result ≡ Ok verdicts.Accept) × (new ≡ old)
Judges false old new result = (result ≡ Ok verdicts.Veto) × (new ≡ vetoed_once old)

-- a review: a Veto exactly where the session isn't mapped or doesn't take each of the frames
pub record PlainReviews (old new : PlainSession) (list : List Frame)
    (result : Result Verdict NoMemory) : Type 0 where
  pub judges : Judges (takes_all (state_of old) (slots_of old) list) old new result
  pub leaves : Leaves (kept_of old) (kept_of new) (names_of old) (names_of new)

-- a call that has no fault isn't refused
not-refused : {Q : Type 0} (T : Type 0) (fault : Option SessionInnerError)
    (error : SessionInnerError)
    → fault ≡ None → RefusedOnlyBy {T = T} fault (Err error) → Q
not-refused T None error none refused = absurd refused
not-refused T (Some fault) error none refused = absurd (cc none)

-- a receiver has no fault
receiver-role : (role : Role) → is_receiver_role role ≡ true → transfer_fault_by role ≡ None
receiver-role roles.Receiver is = refl
receiver-role roles.Sender is = absurd (cc is)

-- a transfer to a receiver has no fault
receiver-fault : (link : Option Link) → is_receiver link ≡ true → transfer_fault link ≡ None
receiver-fault None is = absurd (cc is)
receiver-fault (Some link) is = receiver-role link.relay.role is

-- links that take transfers alike take this frame alike
work-alike : (old new : List (Option Link)) (frame : Frame) → TakesAlike old new
    → takes_work new frame ≡ takes_work old frame
work-alike old new (frames.Attach attach) alike = refl
work-alike old new (frames.Flow flow) alike = refl
work-alike old new (frames.Transfer transfer payload) alike = alike (input_of transfer.handle)
work-alike old new (frames.Disposition disposition) alike = refl
work-alike old new (frames.Detach detach) alike = refl

-- and these frames
all-alike : (old new : List (Option Link)) (list : List Frame) → TakesAlike old new
    → list_all (takes_work new) list ≡ list_all (takes_work old) list
all-alike old new [] alike = refl
all-alike old new (frame ∷ list) alike =
    ap (λ b. b && list_all (takes_work new) list) (work-alike old new frame alike)
    ∙ ap (λ b. takes_work old frame && b) (all-alike old new list alike)

-- a session that is the same takes the same
takes-same : (old new : PlainSession) (list : List Frame) → new ≡ old → TakesEach old list
    → TakesEach new list
takes-same old new list same takes = record {
  mapped = ap state_of same ∙ takes.mapped;
  each = ap (λ s. list_all (takes_work (slots_of s)) list) same ∙ takes.each;
}

-- the rest of what is taken
rest-of : (session : PlainSession) (frame : Frame) (rest : List Frame)
    → TakesEach session (frame ∷ rest) → TakesEach session rest
rest-of session frame rest takes =
    record { mapped = takes.mapped; each = (and_parts _ _ takes.each).1 }

-- the incoming call of the first of some frames that are taken goes on to the rest
pub plain-goes-on : (old new : PlainSession) (frame : Frame)
    (answer : Result (List Frame) SessionInnerError) → PlainTakes old new frame answer
    → GoesOn TakesEach false old new frame answer
plain-goes-on old new (frames.Attach attach) answer gives rest takes = absurd (cc takes.each)
plain-goes-on old new (frames.Flow flow) answer gives rest takes = absurd (cc takes.each)
plain-goes-on old new (frames.Detach detach) answer gives rest takes = absurd (cc takes.each)
plain-goes-on old new (frames.Transfer transfer payload) (Ok given) gives rest takes = record {
  mapped = ap state_of gives.takes.rest ∙ takes.mapped;
  each =
      all-alike (slots_of old) (slots_of new) rest gives.takes.ends
      ∙ (and_parts _ _ takes.each).1;
}
plain-goes-on old new (frames.Transfer transfer payload) (Err error) gives rest takes =
    let link = link_mapped (slots_of old) (input_of transfer.handle) in
    not-refused (List Frame) _ error
    (ap (λ s. mapped_fault s (transfer_fault link)) takes.mapped
    ∙ receiver-fault link (and_parts _ _ takes.each).0) gives.takes.fault
plain-goes-on old new (frames.Disposition disposition) (Ok given) gives rest takes =
    takes-same old new rest gives.takes.rest
    (rest-of old (frames.Disposition disposition) rest takes)
plain-goes-on old new (frames.Disposition disposition) (Err error) gives rest takes =
    not-refused (List Frame) _ error (ap (λ s. mapped_fault s None) takes.mapped) gives.takes.fault

-- the check of a disposition leaves what is taken
pub plain-stays-on : (old new : PlainSession) (answer : Result Unit SessionInnerError)
    → PlainChecks old new answer → StaysOn TakesEach false old new answer
plain-stays-on old new (Ok done) checks list takes = takes-same old new list checks.rest takes
plain-stays-on old new (Err error) checks list takes =
    not-refused Unit _ error (ap (λ s. mapped_fault s None) takes.mapped) checks.fault

-- a window that is told changes a count alone
told-takes : (old new : PlainSession) (flow : Option Flow) (list : List Frame)
    → ToldWindow old new flow → TakesEach old list → TakesEach new list
told-takes old new None list same takes = takes-same old new list same takes
told-takes old new (Some flow) list told takes = record {
  mapped = ap state_of told ∙ takes.mapped;
  each = ap (λ s. list_all (takes_work (slots_of s)) list) told ∙ takes.each;
}

-- asking for the window leaves what is taken
pub plain-window-stays-on : (old new : PlainSession) (flow : Option Flow) → PlainWindow old new flow
    → (list : List Frame) → TakesEach old list → TakesEach new list
plain-window-stays-on old new flow window list takes =
    told-takes old new flow list window.rest takes
