-- What a listener takes after an Accept of the session in it, and the laws of that.
use Rattle.std.specs.Prelude.{◌≡◌, Bool, true, false, Result, Ok, Err, List}
use Rattle.std.specs.List.{list_all}
use Rattle.std.proofs.Common.{refl, sym, subst}
use Rattle.std.proofs.lemmas.Bool.{and_parts}
use Rattle.amqp_txn_types.specs.declared.performatives.Frame.{Frame}
use Rattle.amqp_txn_types.specs.declared.performatives.Frame.TheVariants as frames
use Rattle.amqp_below_layer.specs.declared.inner_error.SessionInnerError.{SessionInnerError}
use Rattle.amqp_below_layer.specs.declared.inner_error.SessionInnerError.TheVariants as faults
use Rattle.amqp_below_layer.specs.Reviewing.{GoesOn, Lasts, OnlyNoMemory, Stays, StaysOn, is_bare}
use Rattle.amqp_below_layer.specs.Told.{Told}
use Rattle.amqp_below_sessions.specs.Names.{Names}
use Rattle.amqp_accept_listener.specs.declared.listener.ListenerSession.{ListenerSession}
use Rattle.amqp_accept_listener.specs.Hearing.{HearsFrame, let_pass}
use Rattle.amqp_accept_listener.specs.Listening.{inner_of}

-- the session in a listener takes these frames, which are work: an attach may wait in the queue
pub record TakesBare {S : Type 0} (takes : S → List Frame → Type 0) (l : ListenerSession S)
    (list : List Frame) : Type 0 where
  pub bare : list_all is_bare list ≡ true
  pub inner : takes (inner_of l) list

-- what lasts of a call, by more that it leaves
lasts-weakened : {T : Type 0} (sure : Bool) (left more : Type 0)
    (result : Result T SessionInnerError) → (left → more) → Lasts sure left result
    → Lasts false more result
lasts-weakened sure left more (Ok value) then lasts = then lasts
lasts-weakened sure left more (Err error) then lasts = (lasts.0, refl)

-- out of memory isn't let pass
want-let_pass : (sure : Bool) (left : Type 0) (error : SessionInnerError) → OnlyNoMemory sure error
    → Lasts false left (let_pass (Err error))
want-let_pass sure left faults.NoMemory only = (refl, refl)
want-let_pass sure left faults.UnattachedHandle only = absurd (cc only.0)
want-let_pass sure left faults.RemoteAttachingLinkNameNotFound only = absurd (cc only.0)
want-let_pass sure left faults.HandleInUse only = absurd (cc only.0)
want-let_pass sure left faults.IllegalState only = absurd (cc only.0)
want-let_pass sure left (faults.ConnectionStopped reason) only = absurd (cc only.0)
want-let_pass sure left faults.TransferFrameToSender only = absurd (cc only.0)
want-let_pass sure left faults.RemoteEnded only = absurd (cc only.0)
want-let_pass sure left (faults.RemoteEndedWithError cause) only = absurd (cc only.0)
want-let_pass sure left faults.UnknownTxnId only = absurd (cc only.0)

-- what lasts of a call whose answer may be let pass
lasts-let_pass : (sure : Bool) (left more : Type 0) (answer : Result (List Frame) SessionInnerError)
    → (left → more) → Lasts sure left answer → Lasts false more (let_pass answer)
lasts-let_pass sure left more (Ok given) then lasts = then lasts
lasts-let_pass sure left more (Err error) then lasts = want-let_pass sure more error lasts

-- what stays of a check of the session in it
stays-weakened : (sure : Bool) (left more : Type 0) (result : Result Unit SessionInnerError)
    → (left → more) → Stays sure left result → Stays false more result
stays-weakened sure left more (Ok done) then stays = then stays
stays-weakened sure left more (Err error) then stays =
    record { stays = then stays.stays; wants = (stays.wants.0, refl) }

-- the check of a disposition leaves what is taken
pub passed-stays-on : {S : Type 0} (takes : S → List Frame → Type 0) (sure : Bool)
    (old new : ListenerSession S) (answer : Result Unit SessionInnerError)
    → StaysOn takes sure (inner_of old) (inner_of new) answer
    → StaysOn (TakesBare takes) false old new answer
passed-stays-on takes sure old new answer law list each =
    stays-weakened sure (takes (inner_of new) list) (TakesBare takes new list) answer
    (λ inner. record { bare = each.bare; inner = inner }) (law list each.inner)

-- the incoming call of the first of some frames that are taken goes on to the rest
pub heard-goes-on : {S : Type 0} (told : S → Told) (takes : S → List Frame → Type 0) (sure : Bool)
    (gives : S → S → Frame → Result (List Frame) SessionInnerError → Type 0) (names : S → Names)
    → ((old new : S) (frame : Frame) (answer : Result (List Frame) SessionInnerError)
    → gives old new frame answer → GoesOn takes sure old new frame answer)
    → (old new : ListenerSession S) (frame : Frame)
    (answer : Result (List Frame) SessionInnerError)
    → HearsFrame told gives names old new frame answer
    → GoesOn (TakesBare takes) false old new frame answer
heard-goes-on told takes sure gives names law old new (frames.Attach attach) answer heard rest
    each =
    absurd (cc each.bare)
heard-goes-on told takes sure gives names law old new (frames.Flow flow) answer heard rest each =
    absurd (cc each.bare)
heard-goes-on told takes sure gives names law old new (frames.Detach detach) answer heard rest
    each =
    absurd (cc each.bare)
heard-goes-on told takes sure gives names law old new (frames.Transfer transfer payload) answer
    heard rest each =
    let Left : Result (List Frame) SessionInnerError → Type 0 =
    Lasts false (TakesBare takes new rest) in
    let h = heard.hears.0 in
    subst Left (sym h.2)
    (lasts-let_pass sure (takes (inner_of new) rest) (TakesBare takes new rest) h.0
    (λ inner. record { bare = (and_parts _ _ each.bare).1; inner = inner })
    (law (inner_of old) (inner_of new) (frames.Transfer transfer payload) h.0 h.1.gave rest
    each.inner))
heard-goes-on told takes sure gives names law old new (frames.Disposition disposition) answer heard
    rest each =
    lasts-weakened sure (takes (inner_of new) rest) (TakesBare takes new rest) answer
    (λ inner. record { bare = (and_parts _ _ each.bare).1; inner = inner })
    (law (inner_of old) (inner_of new) (frames.Disposition disposition) answer heard.hears.0.gave
    rest each.inner)
