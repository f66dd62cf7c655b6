-- What a plain session shows, and how its calls change it.
use Rattle.std.specs.Prelude.{ℕ, ◌≡◌, cond, Bool, Some, None, Option, Result, Ok, Err, List, []}
use Rattle.amqp_txn_types.specs.Counts.{one_more}
use Rattle.amqp_txn_types.specs.declared.delivery.ConnectionStopReason.{ConnectionStopReason}
use Rattle.amqp_txn_types.specs.declared.delivery.SessionStopReason.{SessionStopReason}
use Rattle.amqp_txn_types.specs.declared.performatives.Begin.{Begin}
use Rattle.amqp_txn_types.specs.declared.performatives.Flow.{Flow}
use Rattle.amqp_txn_types.specs.declared.performatives.Frame.{Frame}
use Rattle.amqp_txn_types.specs.declared.small.IncomingChannel.{IncomingChannel}
use Rattle.amqp_txn_types.specs.declared.small.OutgoingChannel.{OutgoingChannel}
use Rattle.amqp_txn_types.specs.declared.small.SessionState.{SessionState}
use Rattle.amqp_below_layer.specs.Faults.{is_unattached}
use Rattle.amqp_below_layer.specs.Told.{Told}
use Rattle.amqp_below_layer.specs.declared.inner_error.SessionInnerError.{SessionInnerError}
use Rattle.amqp_below_sessions.specs.declared.links.Link.{Link}
use Rattle.amqp_below_sessions.specs.declared.numbers.SessionNumbers.{SessionNumbers}
use Rattle.amqp_below_sessions.specs.declared.plain_session.PlainSession.{PlainSession}
use Rattle.amqp_below_sessions.specs.LinkMoves.{names_in}
use Rattle.amqp_below_sessions.specs.Links.{LinkTable}
use Rattle.amqp_below_sessions.specs.Names.{Names}
use Rattle.amqp_below_sessions.specs.Numbers.{after_begin, after_flow, counted_in, numbered}
use Rattle.amqp_below_sessions.specs.Queues.{no_queue}
use Rattle.amqp_below_sessions.specs.Sessions.{Kept}

-- its state
abbrev pub state_of : PlainSession → SessionState
state_of session = session.state

-- the channel of the frames that it sends
abbrev pub channel_of : PlainSession → OutgoingChannel
channel_of session = session.channel

-- the channel of the peer's begin, once it came
abbrev pub incoming_of : PlainSession → Option IncomingChannel
incoming_of session = session.incoming

-- its begin, whose windows and greatest handle are its own
abbrev pub begin_of : PlainSession → Begin
begin_of session = session.begin

-- its numbers
abbrev pub numbers_of : PlainSession → SessionNumbers
numbers_of session = session.numbers

-- its links
abbrev pub links_of : PlainSession → LinkTable
links_of session = session.links

-- its links, each under its output handle
abbrev pub slots_of : PlainSession → List (Option Link)
slots_of session = session.links.slots

-- how many transfers came since it last told its window
abbrev pub untold_of : PlainSession → ℕ
untold_of session = session.transfers_since_window

-- why it stopped
abbrev pub stop_of : PlainSession → Option SessionStopReason
stop_of session = session.stop

-- why its connection stopped
abbrev pub connection_stop_of : PlainSession → Option ConnectionStopReason
connection_stop_of session = session.connection_stop

-- how often it refused
abbrev pub refusals_of : PlainSession → ℕ
refusals_of session = session.refusals

-- how often it vetoed
abbrev pub vetoes_of : PlainSession → ℕ
vetoes_of session = session.vetoes

-- what it keeps beside its links: no attaches wait at it
abbrev pub kept_of : PlainSession → Kept
kept_of session = record {
  channel = session.channel;
  stop = session.stop;
  connection = session.connection_stop;
  queue = no_queue;
}

-- how it knows names
abbrev pub names_of : PlainSession → Names
names_of session = names_in session.links.slots

-- what it tells as a layer: its counts of refusals and of vetoes and its state, and none of the
-- lists
abbrev pub told_of : PlainSession → Told
told_of session = record {
  taken = None;
  opened = None;
  refused = None;
  refusals = session.refusals;
  reviews = record { vetoes = session.vetoes; vetoed = None };
  fixed = record { state = session.state; plan = []; starved = [] };
}

-- a session that refused once more
abbrev pub refused_once : PlainSession → PlainSession
refused_once session = record session { refusals = one_more session.refusals }

-- a session that vetoed once more
abbrev pub vetoed_once : PlainSession → PlainSession
vetoed_once session = record session { vetoes = one_more session.vetoes }

-- an Ok changed nothing, an Err counted a refusal
abbrev pub ChangesNothing : {T E : Type 0} → PlainSession → PlainSession → Result T E → Type 0
ChangesNothing old new (Ok value) = new ≡ old
ChangesNothing old new (Err error) = new ≡ refused_once old

-- an Ok changed the links alone, an Err counted a refusal
abbrev pub ChangesLinks : {T E : Type 0} → PlainSession → PlainSession → Result T E → Type 0
ChangesLinks old new (Ok value) = new ≡ record old { links = new.links }
ChangesLinks old new (Err error) = new ≡ refused_once old

-- an Ok gives no frames
abbrev pub GivesNone : {E : Type 0} → Result (List Frame) E → Type 0
GivesNone (Ok given) = given ≡ []
GivesNone (Err error) = Unit {0}

-- a session that took the windows of a flow
abbrev pub with_windows : PlainSession → Flow → PlainSession
with_windows session flow = record session { numbers = after_flow session.numbers flow }

-- a flow: the windows are taken, also where its handle isn't attached; an Err counted a refusal
abbrev pub Flowed :
    PlainSession → PlainSession → Flow → Result (List Frame) SessionInnerError → Type 0
Flowed old new flow (Ok given) = new ≡ record (with_windows old flow) { links = new.links }
Flowed old new flow (Err error) =
    new ≡ refused_once (cond (is_unattached error) (with_windows old flow) old)

-- a session that a transfer came to
abbrev pub with_transfer_in : PlainSession → PlainSession
with_transfer_in session = record session {
  numbers = counted_in session.numbers;
  transfers_since_window = one_more session.transfers_since_window;
}

-- a transfer is counted, an Err counted a refusal
abbrev pub Transferred :
    PlainSession → PlainSession → Result (List Frame) SessionInnerError → Type 0
Transferred old new (Ok given) = new ≡ record (with_transfer_in old) { links = new.links }
Transferred old new (Err error) = new ≡ refused_once old

-- a call that moved the state alone, an Err counted a refusal
abbrev pub Moved : {T E : Type 0} → PlainSession → PlainSession → Result T E → Type 0
Moved old new (Ok value) = new ≡ record old { state = new.state }
Moved old new (Err error) = new ≡ refused_once old

-- a session that a begin came to, but for its state
abbrev pub with_begin : PlainSession → IncomingChannel → Begin → PlainSession
with_begin session channel begin = record session {
  incoming = Some channel;
  numbers = after_begin session.numbers begin;
}

-- a begin came: its channel and its numbers are kept, an Err counted a refusal
abbrev pub BeganBy :
    {T E : Type 0} → PlainSession → PlainSession → IncomingChannel → Begin → Result T E → Type 0
BeganBy old new channel begin (Ok value) =
    new ≡ record (with_begin old channel begin) { state = new.state }
BeganBy old new channel begin (Err error) = new ≡ refused_once old

-- a transfer that is sent took its numbers, an Err counted a refusal
abbrev pub Numbered : {T E : Type 0} → PlainSession → PlainSession → Bool → Result T E → Type 0
Numbered old new is_first (Ok value) = new ≡ record old { numbers = numbered is_first old.numbers }
Numbered old new is_first (Err error) = new ≡ refused_once old

-- the session's window was told, or nothing changed
abbrev pub ToldWindow : PlainSession → PlainSession → Option Flow → Type 0
ToldWindow old new None = new ≡ old
ToldWindow old new (Some flow) = new ≡ record old { transfers_since_window = 0 }
