-- Frame kinds and strip: which frames are under a transaction, and what is left of the
-- transaction when such a frame is handed on. Part 4 of the standard (OASIS AMQP 1.0).
use Rattle.std.specs.Prelude.{ℕ, Bool, true, false, not, List, Option, Some, None, if◌then◌else◌}
use Rattle.amqp_txn_types.specs.declared.delivery.DeliveryState.{DeliveryState}
use Rattle.amqp_txn_types.specs.declared.delivery.DeliveryState.TheVariants as states
use Rattle.amqp_txn_types.specs.declared.delivery.Outcome.{Outcome}
use Rattle.amqp_txn_types.specs.declared.delivery.Outcome.TheVariants as outcomes
use Rattle.amqp_txn_types.specs.declared.performatives.Frame.{Frame}
use Rattle.amqp_txn_types.specs.declared.performatives.Frame.TheVariants as frames
use Rattle.amqp_txn_types.specs.declared.performatives.Attach.{Attach}
use Rattle.amqp_txn_types.specs.declared.performatives.TargetArchetype.{TargetArchetype}
use Rattle.amqp_txn_types.specs.declared.performatives.TargetArchetype.TheVariants as targets

-- the id in a transactional state (4.5.6, Transactional State)
abbrev pub txn_of_state : Option DeliveryState → Option (List ℕ)
txn_of_state (Some (states.TransactionalState t)) = Some t.txn_id
txn_of_state _ = None

-- the transaction of a frame: the id in the transactional state of a transfer (4.4.1, posting)
-- or of a disposition (4.4.2, retirement); no other frame has one
unfoldable pub txn : Frame → Option (List ℕ)
txn (frames.Transfer transfer payload) = txn_of_state transfer.state
txn (frames.Disposition d) = txn_of_state d.state
txn _ = None

-- the target is a coordinator (4.5.1, Coordinator)
abbrev pub targets_coordinator : Option TargetArchetype → Bool
targets_coordinator (Some (targets.Coordinator c)) = true
targets_coordinator _ = false

-- the attach is that of a control link, whatever role it has
abbrev pub attaches_coordinator : Attach → Bool
attaches_coordinator a = targets_coordinator a.target

-- a coordinator attach: the frame that opens a control link (4.2, Declaring a Transaction)
unfoldable pub is_coordinator_attach : Frame → Bool
is_coordinator_attach (frames.Attach a) = attaches_coordinator a
is_coordinator_attach _ = false

-- plain, by the id and whether it attaches to a coordinator
abbrev pub is_plain_by : Option (List ℕ) → Bool → Bool
is_plain_by None coordinator = not coordinator
is_plain_by (Some t) coordinator = false

-- a plain frame: neither under a transaction nor a coordinator attach
abbrev pub is_plain_frame : Frame → Bool
is_plain_frame f = is_plain_by (txn f) (is_coordinator_attach f)

-- a transfer (part 2, 2.7.5, Transfer)
abbrev pub is_transfer : Frame → Bool
is_transfer (frames.Transfer transfer payload) = true
is_transfer _ = false

-- an outcome, as a delivery state of its own (part 3, 3.4, Delivery State)
abbrev pub state_of_outcome : Outcome → DeliveryState
state_of_outcome outcomes.Accepted = states.Accepted
state_of_outcome (outcomes.Rejected r) = states.Rejected r
state_of_outcome outcomes.Released = states.Released
state_of_outcome (outcomes.Modified m) = states.Modified m
state_of_outcome (outcomes.Declared d) = states.Declared d

-- the outcome of a transactional state as a state, where it has an outcome
abbrev pub state_of_outcomes : Option Outcome → Option DeliveryState
state_of_outcomes None = None
state_of_outcomes (Some o) = Some (state_of_outcome o)

-- a transactional state is replaced by its outcome, or by no state; any other state stays
abbrev pub stripped_state : Option DeliveryState → Option DeliveryState
stripped_state (Some (states.TransactionalState t)) = state_of_outcomes t.outcome
stripped_state s = s

-- the state is a transactional one
abbrev pub is_under_txn : Option DeliveryState → Bool
is_under_txn (Some (states.TransactionalState t)) = true
is_under_txn _ = false

-- strip: a frame without its transaction, as it is handed on; a disposition under a transaction
-- is settled then (4.4.2, retirement), and a frame under none stays as it is
unfoldable pub stripped : Frame → Frame
stripped (frames.Transfer transfer payload) =
    frames.Transfer (record transfer { state = stripped_state transfer.state }) payload
stripped (frames.Disposition d) = frames.Disposition (record d {
  state = stripped_state d.state;
  settled = if is_under_txn d.state then true else d.settled;
})
stripped f = f
