-- What accepting from a queue answers. Part 2 of the standard, section 2.6.3 (establishing a link).
use Rattle.std.specs.Prelude.{◌≡◌, Bool, true, false, Option, Some, None, Result, Err, List, [], ◌∷◌}
use Rattle.amqp_txn_types.specs.declared.delivery.SessionStopReason.{SessionStopReason}
use Rattle.amqp_txn_types.specs.declared.delivery.SessionStopReason.TheVariants as reasons
use Rattle.amqp_txn_types.specs.declared.performatives.Attach.{Attach}
use Rattle.amqp_txn_types.specs.declared.performatives.Frame.{Frame}
use Rattle.amqp_txn_types.specs.declared.small.Role.TheVariants as roles
use Rattle.amqp_txn_types.specs.Counts.{Rose}
use Rattle.amqp_below_layer.specs.Told.{Steady, Told}
use Rattle.amqp_below_sessions.specs.Names.{Names, SameNames}
use Rattle.amqp_links.specs.declared.poll.Poll.{Poll}
use Rattle.amqp_links.specs.declared.poll.Poll.TheVariants as polls
use Rattle.amqp_below_sessions.specs.Queues.{Queue, first_waiting}
use Rattle.amqp_accept_links.specs.declared.endpoint.AcceptorAttachError.{AcceptorAttachError}
use Rattle.amqp_accept_links.specs.declared.endpoint.AcceptorAttachError.TheVariants as errors
use Rattle.amqp_accept_links.specs.declared.endpoint.LinkEndpoint.{LinkEndpoint}
use Rattle.amqp_accept_links.specs.Acceptance.{AcceptLeaves, AcceptStoppedBy}
use Rattle.amqp_accept_links.specs.LinkAcceptors.{LinkToldStop, OnLinkRefusal, TellsStop, link_output}

-- what an empty queue gives, by whether it is closed
abbrev pub none_waiting : Bool → Poll (Option Attach)
none_waiting true = polls.Ready None
none_waiting false = polls.Pending

-- what a queue gives, by whether it is closed: the attach that came first
abbrev pub next_of : List Attach → Bool → Poll (Option Attach)
next_of [] closed = none_waiting closed
next_of (attach ∷ rest) closed = polls.Ready (Some attach)

-- what a queue gives
abbrev pub next_incoming : Queue → Poll (Option Attach)
next_incoming queue = next_of queue.waiting queue.closed

-- the session stopped: for the reason that is kept, whose copy may run out of memory as a local
-- receiver does; or because it ended, where none is kept
abbrev pub TellsStopOrEnd : Option SessionStopReason → AcceptorAttachError → Type 0
TellsStopOrEnd (Some reason) error = TellsStop reason roles.Sender error
TellsStopOrEnd None error = error ≡ errors.SessionStopped reasons.Ended

-- what is answered to what the queue gave: to an attach what the acceptor answers; to a closed and
-- empty queue that the session stopped
abbrev pub AnswersNext : {S : Type 0} → Poll (Option Attach) → Option SessionStopReason
    → (Attach → S → S → Result (LinkEndpoint × List Frame) AcceptorAttachError → Type 0)
    → S → S → Poll (Result (LinkEndpoint × List Frame) AcceptorAttachError) → Type 0
AnswersNext polls.Pending stop Accepts taken new result =
    (result ≡ polls.Pending) × (new ≡ taken)
AnswersNext (polls.Ready None) stop Accepts taken new result =
    (error : AcceptorAttachError) × TellsStopOrEnd stop error
    × (result ≡ polls.Ready (Err error)) × (new ≡ taken)
AnswersNext (polls.Ready (Some attach)) stop Accepts taken new result =
    (answer : Result (LinkEndpoint × List Frame) AcceptorAttachError)
    × Accepts attach taken new answer × (result ≡ polls.Ready answer)

-- the attach that came first is taken out of the queue, and then answered
abbrev pub AcceptsNext : {S : Type 0} → (S → S → Option Attach → Type 0) → Queue
    → Option SessionStopReason
    → (Attach → S → S → Result (LinkEndpoint × List Frame) AcceptorAttachError → Type 0)
    → S → S → Poll (Result (LinkEndpoint × List Frame) AcceptorAttachError) → Type 0
AcceptsNext {S} takes queue stop Accepts old new result =
    (taken : S) × takes old taken (first_waiting queue)
    × AnswersNext (next_incoming queue) stop Accepts taken new result

-- the names once the next attach was answered, by what the queue gave: it is placed where it was
-- accepted, and all else leaves them
abbrev pub NextLeaves : Poll (Option Attach) → Names → Names
    → Poll (Result (LinkEndpoint × List Frame) AcceptorAttachError) → Type 0
NextLeaves (polls.Ready (Some attach)) old new (polls.Ready answer) =
    AcceptLeaves link_output old new attach.name answer
NextLeaves next old new result = SameNames old new

-- the next attach is accepted only where no reason is kept why the session stopped, and a reason
-- that is told is the one that is kept
abbrev pub NextStoppedBy : {A : Type 0} → Poll (Option Attach) → Option SessionStopReason
    → Poll (Result A AcceptorAttachError) → Type 0
NextStoppedBy (polls.Ready (Some attach)) stop (polls.Ready answer) =
    AcceptStoppedBy LinkToldStop stop answer
NextStoppedBy next stop result = Unit {0}

-- the fact holds where a local end was refused but where memory runs out or its kind of target
abbrev pub OnNextRefusal : {A : Type 0} → Poll (Result A AcceptorAttachError) → Type 0 → Type 0
OnNextRefusal polls.Pending P = Unit {0}
OnNextRefusal (polls.Ready answer) P = OnLinkRefusal answer P

-- accepting from a queue adds to no list, and each refusal of the session is counted
pub record NextTold {A : Type 0} (old new : Told) (result : Poll (Result A AcceptorAttachError))
    : Type 0 where
  pub steady : Steady old new
  pub cause : OnNextRefusal result (Rose old.refusals new.refusals)
