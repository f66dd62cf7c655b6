-- Flows of links that wait for the link's handle to be allocated.
use Rattle.std.specs.Prelude.{◌≡◌, ◌<◌, ◌++◌, ◌∷◌, [], if◌then◌else◌, Option, Some, None, List, vec_len, vec_capacity}
use Rattle.std.specs.Option.{option_map}
use Rattle.std.specs.declared.vec.Vec.{Vec}
use Rattle.std.specs.declared.alloc.Global.{Global}
use Rattle.std.specs.BTreeMap.{BTreeMap, get as entry_of}
use Rattle.amqp_txn_types.specs.declared.small.InputHandle.{InputHandle}
use Rattle.amqp_txn_types.specs.declared.performatives.Flow.{Flow}
use Rattle.amqp_txn_types.specs.declared.performatives.LinkFlow.{LinkFlow}
use Rattle.amqp_below_sessions.specs.Links.{input_order, same_input}
use Rattle.amqp_below_sessions.specs.LinkMoves.{link_flow}
use Rattle.amqp_below_sessions.specs.Plain.{input_of}
use Rattle.amqp_below_sessions.specs.declared.relay.Relay.{Relay}
use Rattle.amqp_accept_listener.specs.declared.held_flows.HeldFlows.{HeldFlows}

-- the flows of a list that may be none
abbrev pub list_in : Option (Vec LinkFlow Global) → List LinkFlow
list_in None = []
list_in (Some flows) = flows.items

-- the flows that are held for a handle, in the order in which they came
abbrev pub flows_for : HeldFlows → InputHandle → List LinkFlow
flows_for held input = list_in (entry_of input_order held.flows input)

-- a list of flows for each handle that had one
abbrev pub FlowsByHandle : Type 0
FlowsByHandle = BTreeMap InputHandle (Vec LinkFlow Global)

-- for every handle the same flows
abbrev pub SameLists : FlowsByHandle → FlowsByHandle → Type 0
SameLists old new =
    (input : InputHandle)
    → list_in (entry_of input_order new input) ≡ list_in (entry_of input_order old input)

-- there is room for one more flow
abbrev pub ListHasRoom : Option (Vec LinkFlow Global) → Type 0
ListHasRoom None = ⊥
ListHasRoom (Some flows) = vec_len flows < vec_capacity flows

-- there is room for one more flow of a handle
abbrev pub HasRoom : HeldFlows → InputHandle → Type 0
HasRoom held input = ListHasRoom (entry_of input_order held.flows input)

-- there is room for this flow, if it is one of a link
abbrev pub HasRoomFor : HeldFlows → Option LinkFlow → Type 0
HasRoomFor held None = Unit {0}
HasRoomFor held (Some flow) = HasRoom held (input_of flow.handle)

-- the part of a flow that is about one link, where it names one
abbrev pub link_flow_in : Flow → Option LinkFlow
link_flow_in flow = option_map (λ handle. link_flow handle flow) flow.handle

-- these flows are held for one handle, and for every other what was held
abbrev pub with_flows : InputHandle → List LinkFlow → (InputHandle → List LinkFlow)
    → InputHandle → List LinkFlow
with_flows input flows held other = if same_input input other then flows else held other

-- what is held once one more flow, which may name no link, is held for its handle
abbrev pub with_held : Option LinkFlow → (InputHandle → List LinkFlow)
    → InputHandle → List LinkFlow
with_held None held = held
with_held (Some flow) held =
    with_flows (input_of flow.handle) (held (input_of flow.handle) ++ flow ∷ []) held

-- for every handle the same flows are held
abbrev pub SameHeld : (InputHandle → List LinkFlow) → (InputHandle → List LinkFlow) → Type 0
SameHeld old new = (input : InputHandle) → new input ≡ old input

-- a relay with these flows after its own
abbrev pub replaying : List LinkFlow → Relay → Relay
replaying flows relay = record relay { flows = relay.flows ++ flows }
