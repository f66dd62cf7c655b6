-- Which work a plain session takes.
use Rattle.std.specs.Prelude.{◌≡◌, Bool, true, false, Option, Some, None, List}
use Rattle.std.specs.List.{list_all}
use Rattle.amqp_txn_types.specs.declared.performatives.Frame.{Frame}
use Rattle.amqp_txn_types.specs.declared.performatives.Frame.TheVariants as frames
use Rattle.amqp_txn_types.specs.declared.small.InputHandle.{InputHandle}
use Rattle.amqp_txn_types.specs.declared.small.Role.{Role}
use Rattle.amqp_txn_types.specs.declared.small.Role.TheVariants as roles
use Rattle.amqp_txn_types.specs.declared.small.SessionState.{SessionState}
use Rattle.amqp_txn_types.specs.declared.small.SessionState.TheVariants as states
use Rattle.amqp_below_sessions.specs.declared.links.Link.{Link}
use Rattle.amqp_below_sessions.specs.Links.{link_mapped}
use Rattle.amqp_below_sessions.specs.Plain.{input_of}

-- this side is the receiver of a link
abbrev pub is_receiver_role : Role → Bool
is_receiver_role roles.Receiver = true
is_receiver_role roles.Sender = false

-- there is a link, and this side is its receiver
abbrev pub is_receiver : Option Link → Bool
is_receiver None = false
is_receiver (Some link) = is_receiver_role link.relay.role

-- a transfer on an input handle is taken: it is mapped to a link whose receiver is this side
abbrev pub takes_on : List (Option Link) → InputHandle → Bool
takes_on slots input = is_receiver (link_mapped slots input)

-- transfers are taken on the input handles on which they were
abbrev pub TakesAlike : List (Option Link) → List (Option Link) → Type 0
TakesAlike old new = (input : InputHandle) → takes_on new input ≡ takes_on old input

-- a mapped session takes this work: a disposition, or a transfer by its handle
abbrev pub takes_work : List (Option Link) → Frame → Bool
takes_work slots (frames.Transfer transfer payload) = takes_on slots (input_of transfer.handle)
takes_work slots (frames.Disposition disposition) = true
takes_work slots _ = false

-- a session in this state takes each of these
abbrev pub takes_all : SessionState → List (Option Link) → List Frame → Bool
takes_all states.Mapped slots list = list_all (takes_work slots) list
takes_all _ slots list = false
