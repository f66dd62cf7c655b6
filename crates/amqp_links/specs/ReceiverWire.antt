-- The plain receiving end of a link.
use Rattle.std.specs.Prelude.{ℕ, ◌≡◌, if◌then◌else◌, Option, Some, None, Result, Ok, Err, List, [], ◌∷◌, ◌++◌, drop}
use Rattle.amqp_txn_types.specs.declared.performatives.LinkEnd.{LinkEnd}
use Rattle.amqp_txn_types.specs.declared.calls.Calls.{Calls}
use Rattle.amqp_links.specs.declared.delivery.Delivery.{Delivery}
use Rattle.amqp_links.specs.declared.errors.IllegalLinkStateError.{IllegalLinkStateError}
use Rattle.amqp_links.specs.declared.errors.IllegalLinkStateError.TheVariants as faults
use Rattle.amqp_links.specs.declared.errors.LinkStateError.TheVariants as link_errors
use Rattle.amqp_links.specs.declared.errors.RecvError.{RecvError}
use Rattle.amqp_links.specs.declared.errors.RecvError.TheVariants as recv_errors
use Rattle.amqp_links.specs.declared.messages.ReceiverMessage.{ReceiverMessage}
use Rattle.amqp_links.specs.declared.messages.ReceiverMessage.TheVariants as messages
use Rattle.amqp_links.specs.declared.poll.Poll.{Poll}
use Rattle.amqp_txn_types.specs.Calls.{is_failing, faulted, after_call}
use Rattle.amqp_links.specs.Calls.{FailsAsListed, FailsOnlyAsListed, after_look}
use Rattle.amqp_links.specs.OneCall.{DisposesOn, SetsCreditOn, SendsFlowOn}
use Rattle.amqp_links.specs.Receiving.{Properties, ReceiverTold, included, put_by}

-- a receiving wire: the deliveries that wait, in order
pub record ReceiverWire : Type 0 where
  pub end : LinkEnd
  pub put : List ReceiverMessage
  pub deliveries : List Delivery
  pub credit : ℕ
  pub properties : Properties
  pub calls : Calls

-- the first delivery that waits
abbrev pub first_of : List Delivery → Option (Result Delivery RecvError)
first_of [] = None
first_of (delivery ∷ rest) = Some (Ok delivery)

-- what a look finds: IllegalState where the call is to fail, else the first delivery that waits
abbrev pub ready_on : ReceiverWire → Option (Result Delivery RecvError)
ready_on wire =
    if is_failing wire.calls
    then Some (Err (recv_errors.LinkStateError link_errors.IllegalState))
    else first_of wire.deliveries

-- what a wire tells
abbrev pub receiver_tells : ReceiverWire → ReceiverTold
receiver_tells wire = record {
  put = wire.put;
  ready = ready_on wire;
  properties = wire.properties;
  faults = wire.calls.faults;
}

-- a wire with other numbers of calls that are to fail
abbrev pub with_failing : ReceiverWire → List ℕ → ReceiverWire
with_failing wire failing = record wire { calls = record wire.calls { failing = failing } }

-- a wire with other properties
abbrev pub with_properties : ReceiverWire → Properties → ReceiverWire
with_properties wire properties = record wire { properties = properties }

-- a wire on which one more delivery waits
abbrev pub delivered : ReceiverWire → Delivery → ReceiverWire
delivered wire delivery = record wire { deliveries = wire.deliveries ++ delivery ∷ [] }

-- a wire after a message was put, or failed to be
abbrev pub with_put : ReceiverWire → ReceiverMessage → Result Unit IllegalLinkStateError
    → ReceiverWire
with_put wire message (Ok done) = record wire { put = wire.put ++ message ∷ [] }
with_put wire message (Err error) = record wire { calls = faulted wire.calls }

-- a wire after a call that puts a message where it is Ok
abbrev pub after_put : ReceiverWire → ReceiverMessage → Result Unit IllegalLinkStateError
    → ReceiverWire
after_put wire message result = record wire {
  put = put_by wire.put message result;
  calls = after_call wire.calls result;
}

-- a wire after a look: a delivery is given once, and a call that is to fail gives none
abbrev pub received : ReceiverWire → Poll (Result Delivery RecvError) → ReceiverWire
received wire result = record wire {
  deliveries = if is_failing wire.calls then wire.deliveries else drop 1 wire.deliveries;
  calls = after_look wire.calls result;
}

-- an Ok sets the credit
abbrev pub credit_by : ℕ → ℕ → Result Unit IllegalLinkStateError → ℕ
credit_by before credit (Ok done) = credit
credit_by before credit (Err error) = before

-- a wire after its credit was set
abbrev pub after_credit : ReceiverWire → ℕ → Result Unit IllegalLinkStateError → ReceiverWire
after_credit wire credit result = record wire {
  credit = credit_by wire.credit credit result;
  calls = after_call wire.calls result;
}

-- a disposition on a wire: it fails where it is to, and is put where it is Ok
abbrev pub DisposesOnWire : DisposesOn ReceiverWire
DisposesOnWire old new delivery settled state result =
    FailsAsListed (is_failing old.calls) faults.IllegalState faults.NoMemory result
    × (new ≡ after_put old (messages.Disposition delivery settled state) result)

-- a flow on a wire: it fails where it is to, and is put where it is Ok
abbrev pub SendsFlowOnWire : SendsFlowOn ReceiverWire
SendsFlowOnWire old new credit drain echo include result =
    FailsAsListed (is_failing old.calls) faults.IllegalState faults.NoMemory result
    × (new ≡ after_put old (messages.Flow credit drain echo (included include old.properties))
    result)

-- a credit on a wire: it is set but where the call is to fail
abbrev pub SetsCreditOnWire : SetsCreditOn ReceiverWire
SetsCreditOnWire old new credit result =
    FailsOnlyAsListed (is_failing old.calls) faults.IllegalState result
    × (new ≡ after_credit old credit result)
