-- The links of a session, each under its output handle.
use Rattle.std.specs.Prelude.{ℕ, ◌≡◌, ◌≢◌, ◌++◌, [], ◌∷◌, nat_eq, Bool, false, Option, Some, None, List, position, slice_index_or}
use Rattle.std.specs.Ordering.{nat_cmp}
use Rattle.std.specs.Cmp.Lexicographic.{pointwise}
use Rattle.std.specs.declared.cmp.Ordering.{Ordering}
use Rattle.amqp_txn_types.specs.declared.text.Text.{Text}
use Rattle.amqp_txn_types.specs.declared.small.InputHandle.{InputHandle}
use Rattle.amqp_txn_types.specs.declared.small.OutputHandle.{OutputHandle}
use Rattle.amqp_txn_types.specs.declared.small.ReceiverSettleMode.{ReceiverSettleMode}
use Rattle.amqp_txn_types.specs.declared.small.Role.{Role}
use Rattle.amqp_txn_types.specs.declared.small.Role.TheVariants as roles
use Rattle.amqp_txn_types.specs.declared.performatives.LinkFlow.{LinkFlow}
use Rattle.amqp_txn_types.specs.Counts.{one_more}
use Rattle.amqp_below_sessions.specs.declared.links.Link.{Link}
use Rattle.amqp_below_sessions.specs.declared.relay.Relay.{Relay}
use Rattle.amqp_below_sessions.specs.declared.relay.NameState.{NameState}
use Rattle.amqp_below_sessions.specs.declared.relay.NameState.TheVariants.{Unknown, Waiting, Taken}

-- the link or nothing under each output handle from 0 on, and the handle that the next link gets
pub record LinkTable : Type 0 where
  pub slots : List (Option Link)
  pub next : ℕ

-- the link under an output handle
abbrev pub link_at : List (Option Link) → ℕ → Option Link
link_at slots output = slice_index_or slots output None

-- two input handles are the same
abbrev pub same_input : InputHandle → InputHandle → Bool
same_input a b = nat_eq a.0 b.0

-- input handles in the order of their numbers
abbrev pub input_order : InputHandle → InputHandle → Ordering
input_order a b = nat_cmp a.0 b.0

-- the link is of this name
abbrev pub has_name : Text → Option Link → Bool
has_name name None = false
has_name name (Some link) = pointwise nat_eq name link.name

-- the input handle is this one
abbrev pub is_input : InputHandle → Option InputHandle → Bool
is_input input None = false
is_input input (Some other) = same_input input other

-- the link has this input handle
abbrev pub has_input : InputHandle → Option Link → Bool
has_input input None = false
has_input input (Some link) = is_input input link.input

-- the output handle of the link of a name
unfoldable pub output_named : List (Option Link) → Text → Option ℕ
output_named slots name = position (has_name name) slots

-- the output handle of the link that an input handle is mapped to
unfoldable pub output_mapped : List (Option Link) → InputHandle → Option ℕ
output_mapped slots input = position (has_input input) slots

-- the link at an output handle that may be none
abbrev pub link_of : List (Option Link) → Option ℕ → Option Link
link_of slots None = None
link_of slots (Some output) = link_at slots output

-- the link of a name
abbrev pub link_named : List (Option Link) → Text → Option Link
link_named slots name = link_of slots (output_named slots name)

-- the link that an input handle is mapped to
abbrev pub link_mapped : List (Option Link) → InputHandle → Option Link
link_mapped slots input = link_of slots (output_mapped slots input)

-- a link was found, under this output handle
pub record Finds (slots : List (Option Link)) (found : Option ℕ) (output : OutputHandle)
    (link : Link) : Type 0 where
  pub found_at : found ≡ Some output.0
  pub link_is : link_at slots output.0 ≡ Some link

-- how the name of a link is known, by its input handle
abbrev pub state_by_input : Option InputHandle → NameState
state_by_input None = Waiting
state_by_input (Some input) = Taken

-- how a name is known, by the link of that name
abbrev pub state_by_link : Option Link → NameState
state_by_link None = Unknown
state_by_link (Some link) = state_by_input link.input

-- how a name is known
abbrev pub name_state_of : List (Option Link) → Text → NameState
name_state_of slots name = state_by_link (link_named slots name)

-- one output handle has this now, and every other keeps what it had
pub record Sets (old new : List (Option Link)) (output : ℕ) (slot : Option Link) : Type 0 where
  pub changed : link_at new output ≡ slot
  pub others : (other : ℕ) → other ≢ output → link_at new other ≡ link_at old other

-- a link that the peer hasn't attached yet
abbrev pub IsWaiting : Option Link → Type 0
IsWaiting None = ⊥
IsWaiting (Some link) = link.input ≡ None

-- when a link's receiver settles: the peer of a sender says so in its attach
abbrev pub settled_as : Role → ReceiverSettleMode → ReceiverSettleMode → ReceiverSettleMode
settled_as roles.Sender kept attached = attached
settled_as roles.Receiver kept attached = kept

-- a relay whose link the peer attached
abbrev pub attached_relay : ReceiverSettleMode → Relay → Relay
attached_relay mode relay =
    record relay { rcv_settle_mode = settled_as relay.role relay.rcv_settle_mode mode }

-- a link that the peer attached
abbrev pub attached : InputHandle → ReceiverSettleMode → Option Link → Option Link
attached input mode None = None
attached input mode (Some link) =
    Some (record link { input = Some input; relay = attached_relay mode link.relay })

-- what is passed on to a link
abbrev pub relay_in : Option Link → Option Relay
relay_in None = None
relay_in (Some link) = Some link.relay

-- a relay with one flow more
abbrev pub relay_with_flow : LinkFlow → Relay → Relay
relay_with_flow flow relay = record relay { flows = relay.flows ++ flow ∷ [] }

-- a link with one flow more
abbrev pub with_flow : LinkFlow → Option Link → Option Link
with_flow flow None = None
with_flow flow (Some link) = Some (record link { relay = relay_with_flow flow link.relay })

-- a relay with one transfer more
abbrev pub relay_with_transfer : Relay → Relay
relay_with_transfer relay = record relay { transfers = one_more relay.transfers }

-- a link with one transfer more
abbrev pub with_transfer : Option Link → Option Link
with_transfer None = None
with_transfer (Some link) = Some (record link { relay = relay_with_transfer link.relay })

-- a link that waits for the peer's attach
abbrev pub waiting_link : Text → Relay → Link
waiting_link name relay = record { name = name; input = None; relay = relay }

-- a link that is attached
abbrev pub mapped_link : Text → Relay → InputHandle → Link
mapped_link name relay input = record { name = name; input = Some input; relay = relay }

-- an output handle, which may be none, as a number
abbrev pub as_output : Option ℕ → Option OutputHandle
as_output None = None
as_output (Some number) = Some (record { 0 = number })
