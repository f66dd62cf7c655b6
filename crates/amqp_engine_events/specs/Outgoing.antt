-- What an engine does with a frame that a link sends.
use Rattle.std.specs.Prelude.{◌≡◌, Bool, Result, Ok, Err}
use Rattle.amqp_txn_types.specs.declared.performatives.Attach.{Attach}
use Rattle.amqp_txn_types.specs.declared.performatives.Detach.{Detach}
use Rattle.amqp_txn_types.specs.declared.performatives.Disposition.{Disposition}
use Rattle.amqp_txn_types.specs.declared.performatives.Flow.{Flow}
use Rattle.amqp_txn_types.specs.declared.performatives.Frame.{Frame}
use Rattle.amqp_txn_types.specs.declared.performatives.Frame.TheVariants as frames
use Rattle.amqp_txn_types.specs.declared.performatives.LinkFlow.{LinkFlow}
use Rattle.amqp_txn_types.specs.declared.performatives.LinkFrame.{LinkFrame}
use Rattle.amqp_txn_types.specs.declared.performatives.LinkFrame.TheVariants as links
use Rattle.amqp_txn_types.specs.declared.performatives.Transfer.{Transfer}
use Rattle.amqp_txn_types.specs.declared.small.InputHandle.{InputHandle}
use Rattle.amqp_below_layer.specs.declared.inner_error.SessionInnerError.{SessionInnerError}
use Rattle.amqp_below_layer.specs.Told.{Told}
use Rattle.amqp_below_sessions.specs.Names.{Names}
use Rattle.amqp_below_sessions.specs.Sessions.{Kept}
use Rattle.amqp_engine_events.specs.declared.turn.Turn.{Turn}
use Rattle.amqp_engine_events.specs.Calls.{Checked}
use Rattle.amqp_engine_events.specs.Turns.{sending_one}

-- a frame that the session passed is sent
abbrev pub Passes : {S : Type 0} → (S → Told) → (S → Kept) → (S → Names)
    → (Result Unit SessionInnerError → Type 0)
    → S → S → Frame → Result Turn SessionInnerError → Type 0
Passes told kept names Gives old new frame (Ok turn) =
    (turn ≡ sending_one frame) × Checked told kept names Gives old new (Ok tt)
Passes told kept names Gives old new frame (Err fault) =
    Checked {T = Unit} told kept names Gives old new (Err fault)

-- a link's flow is sent as the flow that the session makes of it
abbrev pub SendsFlow : {S : Type 0} → (S → Told) → (S → Kept) → (S → Names)
    → (Result Flow SessionInnerError → Type 0) → S → S → Result Turn SessionInnerError → Type 0
SendsFlow told kept names Gives old new (Ok turn) =
    (flow : Flow) × (turn ≡ sending_one (frames.Flow flow))
    × Checked told kept names Gives old new (Ok flow)
SendsFlow told kept names Gives old new (Err fault) =
    Checked {T = Flow} told kept names Gives old new (Err fault)

-- a frame of a link, by the session's outgoing call of that frame
abbrev pub SendsLink : {S : Type 0} → (S → Told) → (S → Kept) → (S → Names)
    → (S → S → Attach → Result Unit SessionInnerError → Type 0)
    → (S → S → LinkFlow → Result Flow SessionInnerError → Type 0)
    → (S → S → InputHandle → Transfer → Transfer → Bool → Result Unit SessionInnerError → Type 0)
    → (S → S → Disposition → Result Unit SessionInnerError → Type 0)
    → (S → S → Detach → Result Unit SessionInnerError → Type 0)
    → S → S → LinkFrame → Result Turn SessionInnerError → Type 0
SendsLink told kept names Attaches Flows Transfers Settles Detaches old new
    (links.Attach attach) result =
    Passes told kept names (Attaches old new attach) old new (frames.Attach attach) result
SendsLink told kept names Attaches Flows Transfers Settles Detaches old new
    (links.Flow flow) result =
    SendsFlow told kept names (Flows old new flow) old new result
SendsLink told kept names Attaches Flows Transfers Settles Detaches old new
    (links.Transfer input transfer payload is_first) result =
    (numbered : Transfer)
    × Passes told kept names (Transfers old new input transfer numbered is_first) old new
    (frames.Transfer numbered payload) result
SendsLink told kept names Attaches Flows Transfers Settles Detaches old new
    (links.Disposition settled) result =
    Passes told kept names (Settles old new settled) old new (frames.Disposition settled) result
SendsLink told kept names Attaches Flows Transfers Settles Detaches old new
    (links.Detach detach) result =
    Passes told kept names (Detaches old new detach) old new (frames.Detach detach) result
