-- What the calls of an accepting listener leave of the listener in it: the laws of `Session` for an
-- accepting listener.
use Rattle.std.specs.Prelude.{Bool, true, Result, List}
use Rattle.amqp_txn_types.specs.declared.performatives.Attach.{Attach}
use Rattle.amqp_txn_types.specs.declared.performatives.Frame.{Frame}
use Rattle.amqp_txn_types.specs.declared.performatives.Frame.TheVariants as frames
use Rattle.amqp_below_layer.specs.declared.inner_error.SessionInnerError.{SessionInnerError}
use Rattle.amqp_below_layer.specs.Told.{Told}
use Rattle.amqp_below_sessions.specs.Names.{Names}
use Rattle.amqp_below_sessions.specs.Sessions.{Kept, LeavesFrame}
use Rattle.amqp_accept_listener.specs.declared.listener.ListenerSession.{ListenerSession}
use Rattle.amqp_accept_at_once.specs.declared.accepting.AcceptingListener.{AcceptingListener}
use Rattle.amqp_accept_at_once.specs.AtOnce.{Accepted, Acceptor, HearsFrame, listener_of}

module _ {S : Type 0} (told : ListenerSession S → Told) (kept : ListenerSession S → Kept)
    (names : ListenerSession S → Names) (at_once : Bool)
    (gives : ListenerSession S → ListenerSession S → Frame → Result (List Frame) SessionInnerError
    → Type 0)
    (law : (old new : ListenerSession S) (frame : Frame)
    (answer : Result (List Frame) SessionInnerError) → gives old new frame answer
    → LeavesFrame at_once (kept old) (kept new) (names old) (names new) frame answer)
    (Accepts : Acceptor → Attach → ListenerSession S → ListenerSession S → Accepted → Type 0) where
  -- an incoming frame call
  pub heard-leaves : (old new : AcceptingListener S) (frame : Frame)
      (answer : Result (List Frame) SessionInnerError)
      → HearsFrame told kept names gives Accepts old new frame answer
      → LeavesFrame true (kept (listener_of old)) (kept (listener_of new))
      (names (listener_of old)) (names (listener_of new)) frame answer
  heard-leaves old new (frames.Attach attach) answer heard = heard.gave.leaves
  heard-leaves old new (frames.Flow flow) answer heard =
      let left = law (listener_of old) (listener_of new) (frames.Flow flow) answer heard.gave in
      record { kept = left.kept; names = left.names }
  heard-leaves old new (frames.Transfer transfer payload) answer heard =
      let left = law (listener_of old) (listener_of new) (frames.Transfer transfer payload) answer
      heard.gave in
      record { kept = left.kept; names = left.names }
  heard-leaves old new (frames.Disposition disposition) answer heard =
      let left = law (listener_of old) (listener_of new) (frames.Disposition disposition) answer
      heard.gave in
      record { kept = left.kept; names = left.names }
  heard-leaves old new (frames.Detach detach) answer heard =
      let left = law (listener_of old) (listener_of new) (frames.Detach detach) answer heard.gave in
      record { kept = left.kept; names = left.names }
