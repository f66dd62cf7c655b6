-- What the calls of a layer leave of what a plain session keeps and of its names.
use Rattle.std.proofs.Common.{◌≡◌, ap, refl, Option, Some, None, ℕ, Ok, List}
use Rattle.amqp_txn_types.specs.declared.performatives.Attach.{Attach}
use Rattle.amqp_txn_types.specs.declared.performatives.Detach.{Detach}
use Rattle.amqp_txn_types.specs.declared.performatives.Flow.{Flow}
use Rattle.amqp_txn_types.specs.declared.performatives.Frame.{Frame}
use Rattle.amqp_txn_types.specs.declared.performatives.Frame.TheVariants as frames
use Rattle.amqp_txn_types.specs.declared.performatives.Transfer.{Transfer}
use Rattle.amqp_txn_types.specs.declared.small.Handle.{Handle}
use Rattle.amqp_txn_types.specs.declared.small.SessionState.{SessionState}
use Rattle.amqp_txn_types.specs.declared.small.SessionState.TheVariants as states
use Rattle.amqp_txn_types.specs.Frames.{is_coordinator_attach}
use Rattle.amqp_below_layer.specs.declared.inner_error.SessionInnerError.{SessionInnerError}
use Rattle.amqp_below_sessions.specs.declared.plain_session.PlainSession.{PlainSession}
use Rattle.amqp_below_sessions.specs.declared.relay.NameState.{NameState}
use Rattle.amqp_below_sessions.specs.declared.relay.NameState.TheVariants.{Unknown, Waiting, Taken}
use Rattle.amqp_below_sessions.specs.LinkMoves.{FlowsTo, PlacedNext, control_link, link_flow, names_in}
use Rattle.amqp_below_sessions.specs.Links.{LinkTable, name_state_of, output_mapped, with_flow, with_transfer}
use Rattle.amqp_below_sessions.specs.Names.{SameNames, attaches-leaves}
use Rattle.amqp_below_sessions.specs.Plain.{RefusedBy, attach_fault_by, input_of, mapped_fault}
use Rattle.amqp_below_sessions.specs.PlainFrames.{PlainTakes, TakesAttach, TakesDetach, TakesFlow, TakesTransfer}
use Rattle.amqp_below_sessions.specs.PlainSessions.{kept_of, names_of, links_of, slots_of}
use Rattle.amqp_below_sessions.specs.Sessions.{LeavesOpening, kept-same}
use Rattle.amqp_below_sessions.proofs.NamesKept.{attaches-names, changes-same, detaches-names, placed-names, with_flow-input, with_flow-name, with_transfer-input, with_transfer-name}

-- a call that only a mapped session takes was taken
mapped-only : {T : Type 0} (state : SessionState) (fault : Option SessionInnerError) (value : T) → RefusedBy (mapped_fault state fault) (Ok value) → RefusedBy fault (Ok value)
mapped-only states.Mapped fault value taken = taken
mapped-only states.Unmapped fault value taken = absurd taken
mapped-only states.BeginSent fault value taken = absurd taken
mapped-only states.BeginReceived fault value taken = absurd taken
mapped-only states.EndSent fault value taken = absurd taken
mapped-only states.EndReceived fault value taken = absurd taken
mapped-only states.Discarding fault value taken = absurd taken

-- an attach was taken, so its name waited
name-waited : {T : Type 0} (known : NameState) (mapped : Option ℕ) (value : T) → RefusedBy (attach_fault_by known mapped) (Ok value) → known ≡ Waiting
name-waited Waiting mapped value taken = refl
name-waited Unknown mapped value taken = absurd taken
name-waited Taken mapped value taken = absurd taken

-- an attach that is taken
pub takes-attach : (old new : PlainSession) (attach : Attach) (given : List Frame) → TakesAttach old new attach (Ok given) → PlainTakes old new (frames.Attach attach) (Ok given)
takes-attach old new attach given takes = record {
  takes = takes;
  leaves = record {
    kept = kept-same (kept_of old) (kept_of new) (frames.Attach attach) (Ok given) (ap kept_of takes.rest);
    names =
        let waited = name-waited (name_state_of (slots_of old) attach.name) _ given (mapped-only _ _ given takes.fault) in
        attaches-leaves (is_coordinator_attach (frames.Attach attach)) (names_of old) (names_of new) attach.name (attaches-names (links_of old) (links_of new) attach takes.attached waited);
  };
}

flow-names : (handle : Option Handle) (old new : LinkTable) (flow : Flow) → FlowsTo handle old new flow → SameNames (names_in old.slots) (names_in new.slots)
flow-names None old new flow same = record {
  known = λ name. ap (λ t. (names_in t.slots).known name) same;
  at = λ output. ap (λ t. (names_in t.slots).at output) same;
}
flow-names (Some handle) old new flow flows =
    changes-same (output_mapped old.slots (input_of handle)) old new (with_flow (link_flow handle flow)) (with_flow-name (link_flow handle flow)) (with_flow-input (link_flow handle flow)) flows

-- a flow that is taken
pub takes-flow : (old new : PlainSession) (flow : Flow) (given : List Frame) → TakesFlow old new flow (Ok given) → PlainTakes old new (frames.Flow flow) (Ok given)
takes-flow old new flow given takes = record {
  takes = takes;
  leaves = record {
    kept = kept-same (kept_of old) (kept_of new) (frames.Flow flow) (Ok given) (ap kept_of takes.rest);
    names = flow-names flow.handle (links_of old) (links_of new) flow takes.added;
  };
}

-- a transfer that is taken
pub takes-transfer : (old new : PlainSession) (transfer : Transfer) (payload : List ℕ) (given : List Frame) → TakesTransfer old new transfer (Ok given) → PlainTakes old new (frames.Transfer transfer payload) (Ok given)
takes-transfer old new transfer payload given takes = record {
  takes = takes;
  leaves = record {
    kept = kept-same (kept_of old) (kept_of new) (frames.Transfer transfer payload) (Ok given) (ap kept_of takes.rest);
    names = changes-same (output_mapped (slots_of old) (input_of transfer.handle)) (links_of old) (links_of new) with_transfer with_transfer-name with_transfer-input takes.counted;
  };
}

-- a detach that is taken
pub takes-detach : (old new : PlainSession) (detach : Detach) (given : List Frame) → TakesDetach old new detach (Ok given) → PlainTakes old new (frames.Detach detach) (Ok given)
takes-detach old new detach given takes = record {
  takes = takes;
  leaves = record {
    kept = kept-same (kept_of old) (kept_of new) (frames.Detach detach) (Ok given) (ap kept_of takes.rest);
    names = detaches-names (output_mapped (slots_of old) (input_of detach.handle)) (links_of old) (links_of new) detach given takes.detached;
  };
}

-- a control link that is opened
pub opens-leaves : (old new : PlainSession) (attach : Attach) (given : List Frame) → kept_of new ≡ kept_of old → PlacedNext (links_of old) (links_of new) (control_link attach) → LeavesOpening (kept_of old) (kept_of new) (names_of old) (names_of new) attach (Ok given)
opens-leaves old new attach given kept placed = record {
  kept = kept;
  names = (record { 0 = (links_of old).next }, placed-names (links_of old) (links_of new) (control_link attach) (record { 0 = (links_of old).next }) refl placed);
}
