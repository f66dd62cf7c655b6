-- What calls make of the links of a plain session.
use Rattle.std.specs.Prelude.{ℕ, ◌≡◌, Bool, is_some, Option, Some, None, List, [], ◌∷◌, IfSome}
use Rattle.std.specs.Bool.{OnTrue}
use Rattle.amqp_txn_types.specs.declared.text.Text.{Text}
use Rattle.amqp_txn_types.specs.declared.small.Handle.{Handle}
use Rattle.amqp_txn_types.specs.declared.small.InputHandle.{InputHandle}
use Rattle.amqp_txn_types.specs.declared.small.OutputHandle.{OutputHandle}
use Rattle.amqp_txn_types.specs.declared.small.Role.TheVariants as roles
use Rattle.amqp_txn_types.specs.declared.performatives.Attach.{Attach}
use Rattle.amqp_txn_types.specs.declared.performatives.Detach.{Detach}
use Rattle.amqp_txn_types.specs.declared.performatives.Flow.{Flow}
use Rattle.amqp_txn_types.specs.declared.performatives.Frame.{Frame}
use Rattle.amqp_txn_types.specs.declared.performatives.Frame.TheVariants as frames
use Rattle.amqp_txn_types.specs.declared.performatives.LinkFlow.{LinkFlow}
use Rattle.amqp_below_sessions.specs.declared.links.Link.{Link}
use Rattle.amqp_below_sessions.specs.declared.relay.NameState.TheVariants.{Taken}
use Rattle.amqp_below_sessions.specs.Agreement.{input_in, name_in}
use Rattle.amqp_below_sessions.specs.Links.{LinkTable, Sets, attached, link_at, mapped_link, name_state_of, output_mapped, output_named, state_by_input, with_flow}
use Rattle.amqp_below_sessions.specs.Names.{Names}
use Rattle.amqp_below_sessions.specs.Plain.{input_of}

-- the names of links
abbrev pub names_in : List (Option Link) → Names
names_in slots = record {
  known = λ name. name_state_of slots name;
  at = λ output. name_in (link_at slots output.0);
}

-- the links after a change of the link under an output handle; without one there is no such change
abbrev pub Changes : Option ℕ → LinkTable → LinkTable → (Option Link → Option Link) → Type 0
Changes None old new change = ⊥
Changes (Some output) old new change =
    Sets old.slots new.slots output (change (link_at old.slots output)) × (new.next ≡ old.next)

-- a link that waited was attached: its name is taken, and the peer's handle is mapped to it
pub record AttachesLink (old new : LinkTable) (attach : Attach) : Type 0 where
  pub changed :
      Changes (output_named old.slots attach.name) old new
      (attached (input_of attach.handle) attach.rcv_settle_mode)
  pub taken : name_state_of new.slots attach.name ≡ Taken
  pub mapped :
      output_mapped new.slots (input_of attach.handle) ≡ output_named old.slots attach.name

-- the part of a flow that is about one link
abbrev pub link_flow : Handle → Flow → LinkFlow
link_flow handle flow = record {
  handle = handle;
  delivery_count = flow.delivery_count;
  link_credit = flow.link_credit;
  available = flow.available;
  drain = flow.drain;
  echo = flow.echo;
  properties = flow.properties;
}

-- the links after a flow, which is added to the relay of the link that it names
abbrev pub FlowsTo : Option Handle → LinkTable → LinkTable → Flow → Type 0
FlowsTo None old new flow = new ≡ old
FlowsTo (Some handle) old new flow =
    Changes (output_mapped old.slots (input_of handle)) old new (with_flow (link_flow handle flow))

-- a link of a name that was unknown was placed under the next output handle, which no link had; its
-- input handle, where it has one, is mapped to it
pub record PlacedNext (old new : LinkTable) (link : Link) : Type 0 where
  pub unknown : output_named old.slots link.name ≡ None
  pub free : link_at old.slots old.next ≡ None
  pub placed : Sets old.slots new.slots old.next (Some link)
  pub known : name_state_of new.slots link.name ≡ state_by_input link.input
  pub mapped : IfSome link.input (λ input. output_mapped new.slots input ≡ Some old.next)

-- a link was placed, and this is its output handle
pub record Places (old new : LinkTable) (output : OutputHandle) (link : Link) : Type 0 where
  pub output_is : output.0 ≡ old.next
  pub placed : PlacedNext old new link

-- the link under an output handle is gone, with its name and its input handle, and the output
-- handle comes next; where it had no link nothing changed
pub record FreesOutput (old new : LinkTable) (output : ℕ) (found : Bool) : Type 0 where
  pub found_is : found ≡ is_some (link_at old.slots output)
  pub freed : Sets old.slots new.slots output None
  pub unnamed :
      (name : Text) → name_in (link_at old.slots output) ≡ Some name
      → output_named new.slots name ≡ None
  pub unmapped :
      (input : InputHandle) → input_in (link_at old.slots output) ≡ Some input
      → output_mapped new.slots input ≡ None
  pub next : OnTrue found (new.next ≡ output)
  pub absent : link_at old.slots output ≡ None → new ≡ old

-- the detach that answers one
abbrev pub detach_back : ℕ → Detach → Frame
detach_back output detach =
    frames.Detach (record { handle = record { 0 = output }; closed = detach.closed; error = None })

-- the link under an output handle was detached: it is gone with its name and its input handle, its
-- output handle comes next, and a detach with that handle is given back
pub record DetachedAt (old new : LinkTable) (detach : Detach) (given : List Frame) (output : ℕ)
    : Type 0 where
  pub freed : Sets old.slots new.slots output None
  pub unnamed : IfSome (link_at old.slots output) (λ link. output_named new.slots link.name ≡ None)
  pub unmapped : output_mapped new.slots (input_of detach.handle) ≡ None
  pub next : new.next ≡ output
  pub given_is : given ≡ detach_back output detach ∷ []

-- the link that an input handle is mapped to was detached; without one there is no such detach
abbrev pub DetachesLink : Option ℕ → LinkTable → LinkTable → Detach → List Frame → Type 0
DetachesLink None old new detach given = ⊥
DetachesLink (Some output) old new detach given = DetachedAt old new detach given output

-- the link that the attach of a control link places
abbrev pub control_link : Attach → Link
control_link attach =
    mapped_link attach.name
    (record {
      name = attach.name;
      role = roles.Receiver;
      rcv_settle_mode = attach.rcv_settle_mode;
      flows = [];
      transfers = 0;
    })
    (input_of attach.handle)
