-- What an accepting listener takes after an Accept: what its listener does.
use Rattle.std.specs.Prelude.{◌≡◌, Bool, true, Result, Ok, Err, List}
use Rattle.std.specs.List.{list_all}
use Rattle.std.proofs.lemmas.Bool.{and_parts}
use Rattle.amqp_txn_types.specs.declared.performatives.Attach.{Attach}
use Rattle.amqp_txn_types.specs.declared.performatives.Frame.{Frame}
use Rattle.amqp_txn_types.specs.declared.performatives.Frame.TheVariants as frames
use Rattle.amqp_below_layer.specs.declared.inner_error.SessionInnerError.{SessionInnerError}
use Rattle.amqp_below_layer.specs.Reviewing.{GoesOn, Lasts, Stays, is_bare}
use Rattle.amqp_below_layer.specs.Told.{Told}
use Rattle.amqp_below_sessions.specs.Names.{Names}
use Rattle.amqp_below_sessions.specs.Sessions.{Kept}
use Rattle.amqp_accept_listener.specs.declared.listener.ListenerSession.{ListenerSession}
use Rattle.amqp_accept_at_once.specs.declared.accepting.AcceptingListener.{AcceptingListener}
use Rattle.amqp_accept_at_once.specs.AtOnce.{Accepted, Acceptor, HearsFrame, listener_of}

-- the listener takes these frames, which are bare work
abbrev pub TakesBare : {L : Type 0} → (L → List Frame → Type 0) → L → List Frame → Type 0
TakesBare takes l list = (list_all is_bare list ≡ true) × takes l list

-- a call after which the listener takes some frames, which are bare work
pub lasts-bare : {L T : Type 0} (sure : Bool) (list : List Frame) (l : L)
    (takes : L → List Frame → Type 0) (result : Result T SessionInnerError)
    → list_all is_bare list ≡ true → Lasts sure (takes l list) result
    → Lasts sure (TakesBare takes l list) result
lasts-bare sure list l takes (Ok value) bare lasts = (bare, lasts)
lasts-bare sure list l takes (Err error) bare lasts = lasts

-- a check after which the listener takes some frames, which are bare work
pub stays-bare : {L : Type 0} (sure : Bool) (list : List Frame) (l : L)
    (takes : L → List Frame → Type 0) (result : Result Unit SessionInnerError)
    → list_all is_bare list ≡ true → Stays sure (takes l list) result
    → Stays sure (TakesBare takes l list) result
stays-bare sure list l takes (Ok done) bare stays = (bare, stays)
stays-bare sure list l takes (Err error) bare stays =
    record { stays = (bare, stays.stays); wants = stays.wants }

module _ {S : Type 0} (told : ListenerSession S → Told) (kept : ListenerSession S → Kept)
    (names : ListenerSession S → Names)
    (gives : ListenerSession S → ListenerSession S → Frame → Result (List Frame) SessionInnerError
    → Type 0) (takes : ListenerSession S → List Frame → Type 0) (sure : Bool)
    (law : (old new : ListenerSession S) (frame : Frame)
    (answer : Result (List Frame) SessionInnerError) → gives old new frame answer
    → GoesOn takes sure old new frame answer)
    (Accepts : Acceptor → Attach → ListenerSession S → ListenerSession S → Accepted → Type 0) where
  -- what an accepting listener takes
  abbrev Taken : AcceptingListener S → List Frame → Type 0
  Taken a list = TakesBare takes (listener_of a) list

  -- the incoming call of the first of some frames goes on, as the listener's
  passed-on : (old new : AcceptingListener S) (frame : Frame)
      (answer : Result (List Frame) SessionInnerError)
      → gives (listener_of old) (listener_of new) frame answer
      → GoesOn Taken sure old new frame answer
  passed-on old new frame answer gave rest taken =
      lasts-bare sure rest (listener_of new) takes answer (and_parts _ _ taken.0).1
      (law (listener_of old) (listener_of new) frame answer gave rest taken.1)

  -- the incoming call of the first of some frames that it takes goes on to the rest of them: an
  -- attach is none of them
  pub heard-goes-on : (old new : AcceptingListener S) (frame : Frame)
      (answer : Result (List Frame) SessionInnerError)
      → HearsFrame told kept names gives Accepts old new frame answer
      → GoesOn Taken sure old new frame answer
  heard-goes-on old new (frames.Attach attach) answer heard rest taken = absurd (cc taken.0)
  heard-goes-on old new (frames.Flow flow) answer heard rest taken =
      passed-on old new (frames.Flow flow) answer heard.gave rest taken
  heard-goes-on old new (frames.Transfer transfer payload) answer heard rest taken =
      passed-on old new (frames.Transfer transfer payload) answer heard.gave rest taken
  heard-goes-on old new (frames.Disposition disposition) answer heard rest taken =
      passed-on old new (frames.Disposition disposition) answer heard.gave rest taken
  heard-goes-on old new (frames.Detach detach) answer heard rest taken =
      passed-on old new (frames.Detach detach) answer heard.gave rest taken
