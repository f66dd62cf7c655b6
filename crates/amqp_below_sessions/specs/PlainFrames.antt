-- What the calls of a layer answer and leave in a plain session.
use Rattle.std.specs.Prelude.{◌≡◌, cond, false, Option, Some, None, Result, List, OnOk, IfOk}
use Rattle.amqp_txn_types.specs.declared.performatives.Attach.{Attach}
use Rattle.amqp_txn_types.specs.declared.performatives.Detach.{Detach}
use Rattle.amqp_txn_types.specs.declared.performatives.Flow.{Flow}
use Rattle.amqp_txn_types.specs.declared.performatives.Frame.{Frame}
use Rattle.amqp_txn_types.specs.declared.performatives.Frame.TheVariants as frames
use Rattle.amqp_txn_types.specs.declared.performatives.Transfer.{Transfer}
use Rattle.amqp_below_layer.specs.declared.inner_error.SessionInnerError.{SessionInnerError}
use Rattle.amqp_below_sessions.specs.declared.plain_session.PlainSession.{PlainSession}
use Rattle.amqp_below_sessions.specs.LinkMoves.{AttachesLink, Changes, DetachesLink, FlowsTo, PlacedNext, control_link}
use Rattle.amqp_below_sessions.specs.Links.{link_mapped, output_mapped, with_transfer}
use Rattle.amqp_below_sessions.specs.Numbers.{window_flow}
use Rattle.amqp_below_sessions.specs.Plain.{RefusedBy, RefusedOnlyBy, attach_fault, control_fault, flow_fault, handle_fault, input_of, is_due, mapped_fault, place_mapped_fault, transfer_fault}
use Rattle.amqp_below_sessions.specs.PlainSessions.{ChangesLinks, ChangesNothing, Flowed, GivesNone, ToldWindow, Transferred, begin_of, kept_of, links_of, names_of, numbers_of, slots_of, state_of, stop_of, untold_of}
use Rattle.amqp_below_sessions.specs.Sessions.{Leaves, LeavesFrame, LeavesOpening}
use Rattle.amqp_below_sessions.specs.TakenWork.{TakesAlike}

-- an attach
pub record TakesAttach (old new : PlainSession) (attach : Attach)
    (result : Result (List Frame) SessionInnerError) : Type 0 where
  pub fault : RefusedBy (mapped_fault (state_of old) (attach_fault (slots_of old) attach)) result
  pub attached : OnOk result (AttachesLink (links_of old) (links_of new) attach)
  pub rest : ChangesLinks old new result
  pub given : GivesNone result

-- a flow
pub record TakesFlow (old new : PlainSession) (flow : Flow)
    (result : Result (List Frame) SessionInnerError) : Type 0 where
  pub fault : RefusedBy (mapped_fault (state_of old) (flow_fault (slots_of old) flow.handle)) result
  pub added : OnOk result (FlowsTo flow.handle (links_of old) (links_of new) flow)
  pub rest : Flowed old new flow result
  pub given : GivesNone result

-- a transfer
pub record TakesTransfer (old new : PlainSession) (transfer : Transfer)
    (result : Result (List Frame) SessionInnerError) : Type 0 where
  pub fault :
      RefusedOnlyBy
      (mapped_fault (state_of old)
      (transfer_fault (link_mapped (slots_of old) (input_of transfer.handle)))) result
  pub counted :
      OnOk result
      (Changes (output_mapped (slots_of old) (input_of transfer.handle)) (links_of old)
      (links_of new) with_transfer)
  pub ends : OnOk result (TakesAlike (slots_of old) (slots_of new))
  pub rest : Transferred old new result
  pub given : GivesNone result

-- a disposition
pub record TakesDisposition (old new : PlainSession)
    (result : Result (List Frame) SessionInnerError) : Type 0 where
  pub fault : RefusedOnlyBy (mapped_fault (state_of old) None) result
  pub rest : ChangesNothing old new result
  pub given : GivesNone result

-- a detach
pub record TakesDetach (old new : PlainSession) (detach : Detach)
    (result : Result (List Frame) SessionInnerError) : Type 0 where
  pub fault :
      RefusedBy
      (mapped_fault (state_of old)
      (handle_fault (link_mapped (slots_of old) (input_of detach.handle)))) result
  pub detached :
      IfOk result (λ given.
      DetachesLink (output_mapped (slots_of old) (input_of detach.handle)) (links_of old)
      (links_of new) detach given)
  pub rest : ChangesLinks old new result

-- an incoming frame, by its kind
abbrev pub TakesByKind :
    PlainSession → PlainSession → Frame → Result (List Frame) SessionInnerError → Type 0
TakesByKind old new (frames.Attach attach) result = TakesAttach old new attach result
TakesByKind old new (frames.Flow flow) result = TakesFlow old new flow result
TakesByKind old new (frames.Transfer transfer payload) result =
    TakesTransfer old new transfer result
TakesByKind old new (frames.Disposition disposition) result = TakesDisposition old new result
TakesByKind old new (frames.Detach detach) result = TakesDetach old new detach result

-- an incoming frame, and what it leaves
pub record PlainTakes (old new : PlainSession) (frame : Frame)
    (result : Result (List Frame) SessionInnerError) : Type 0 where
  pub takes : TakesByKind old new frame result
  pub leaves :
      LeavesFrame false (kept_of old) (kept_of new) (names_of old) (names_of new) frame result

-- the attach of a control link
pub record PlainOpens (old new : PlainSession) (attach : Attach)
    (result : Result (List Frame) SessionInnerError) : Type 0 where
  pub fault :
      RefusedBy
      (control_fault (stop_of old)
      (place_mapped_fault (links_of old) (begin_of old).handle_max attach.name
      (input_of attach.handle))) result
  pub placed : OnOk result (PlacedNext (links_of old) (links_of new) (control_link attach))
  pub rest : ChangesLinks old new result
  pub given : GivesNone result
  pub leaves : LeavesOpening (kept_of old) (kept_of new) (names_of old) (names_of new) attach result

-- a check that only a mapped session passes
pub record PlainChecks (old new : PlainSession) (result : Result Unit SessionInnerError)
    : Type 0 where
  pub fault : RefusedOnlyBy (mapped_fault (state_of old) None) result
  pub rest : ChangesNothing old new result
  pub leaves : Leaves (kept_of old) (kept_of new) (names_of old) (names_of new)

-- the flow that tells the session's window, where it is due
abbrev pub window_due : PlainSession → Option Flow
window_due session =
    cond (is_due (state_of session) (untold_of session) (begin_of session).incoming_window)
    (Some (window_flow (numbers_of session) (begin_of session))) None

-- the session's window is told where it is due
pub record PlainWindow (old new : PlainSession) (flow : Option Flow) : Type 0 where
  pub due : flow ≡ window_due old
  pub rest : ToldWindow old new flow
  pub leaves : Leaves (kept_of old) (kept_of new) (names_of old) (names_of new)
