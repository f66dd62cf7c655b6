-- What the calls of an acquisition and of a cleanup come to.
use Rattle.std.proofs.Common.{◌≡◌, ℕ, true, false, Some, None, Result, Ok, Err, ◌∙◌, inl, inr, refl, arith}
use Rattle.amqp_txn_types.specs.declared.fields.Value.TheVariants as values
use Rattle.amqp_txn_types.specs.declared.id.TransactionId.{TransactionId}
use Rattle.amqp_txn_types.specs.declared.items.NoMemory.{NoMemory}
use Rattle.amqp_txn_types.specs.Counts.{Rose}
use Rattle.amqp_links.specs.declared.errors.IllegalLinkStateError.{IllegalLinkStateError}
use Rattle.amqp_links.specs.declared.errors.IllegalLinkStateError.TheVariants as faults
use Rattle.amqp_links.specs.OneCall.{InsertsOn, RemovesOn, SendsFlowOn, OneFlow, OneInsertion, OneRemoval}
use Rattle.amqp_links.specs.Receiving.{ReceiverTold}
use Rattle.amqp_controller_acquisition.specs.Receivers.{OneAcquisition, OneCleanup, PutsKey, names_transaction, txn_id_key}
use Rattle.amqp_controller_acquisition.proofs.Keys.{counted-flow_fault, gives-one-named, pairs-removed}

module _ {R : Type 0} (told : R → ReceiverTold) (inserts : InsertsOn R) (removes : RemovesOn R)
    (flows : SendsFlowOn R) where
  -- the properties named a transaction
  pub one-illegal : {T : Type 0} (old : R) (txn_id : TransactionId) (credit : ℕ)
      → names_transaction (told old) ≡ true
      → OneAcquisition {T = T} told inserts removes flows old old txn_id credit
      (Err faults.IllegalState)
  one-illegal old txn_id credit named = record {
    tells = rw named (refl, refl);
    calls = rw named (refl, refl);
  }

  -- the receiver wasn't asked, where memory runs out
  pub one-unasked : {T : Type 0} (old : R) (txn_id : TransactionId) (credit : ℕ)
      → names_transaction (told old) ≡ false
      → OneAcquisition {T = T} told inserts removes flows old old txn_id credit
      (Err faults.NoMemory)
  one-unasked old txn_id credit none = record {
    tells = rw none (record { properties = refl; put = refl; later = omega arith; cause = tt });
    calls = rw none (inl (refl, inl refl));
  }

  -- the receiver had no memory for the property
  one-unnamed : {T : Type 0} (old new : R) (txn_id : TransactionId) (credit : ℕ)
      → names_transaction (told old) ≡ false
      → OneInsertion inserts told old new txn_id_key (values.Binary txn_id) (Err (record {}))
      → OneAcquisition {T = T} told inserts removes flows old new txn_id credit
      (Err faults.NoMemory)
  one-unnamed old new txn_id credit none put = record {
    tells = rw none (record {
      properties = rw put.0.properties;
      put = put.0.put;
      later = put.0.later;
      cause = tt;
    });
    calls = rw none (inl (refl, inr put));
  }

  -- there was no memory for the property
  pub one-wanting : {T : Type 0} (old new : R) (txn_id : TransactionId) (credit : ℕ)
      (error : NoMemory) → names_transaction (told old) ≡ false
      → PutsKey (OneInsertion inserts told) old new txn_id (Err error)
      → OneAcquisition {T = T} told inserts removes flows old new txn_id credit
      (Err faults.NoMemory)
  one-wanting {T} old new txn_id credit error none (inl same) =
      rw same (one-unasked {T = T} old txn_id credit none)
  one-wanting {T} old new txn_id credit error none (inr put) =
      one-unnamed {T = T} old new txn_id credit none put

  -- the flow was refused, and the property that was put was taken out again
  pub one-refused : {T : Type 0} (old named refused new : R) (txn_id : TransactionId) (credit : ℕ)
      (fault : IllegalLinkStateError) → names_transaction (told old) ≡ false
      → PutsKey (OneInsertion inserts told) old named txn_id (Ok tt)
      → OneFlow flows told named refused (Some credit) None false true (Err fault)
      → OneRemoval removes told refused new txn_id_key
      → OneAcquisition {T = T} told inserts removes flows old new txn_id credit (Err fault)
  one-refused old named refused new txn_id credit fault none put flow taken = record {
    tells = rw none (record {
      properties = pairs-removed (told old).properties (told refused).properties
          (told new).properties txn_id none (flow.0.properties ∙ put.0.properties)
          taken.0.properties;
      put = taken.0.put ∙ flow.0.put ∙ put.0.put;
      later = omega (arith, put.0.later, flow.0.later, taken.0.later);
      cause = counted-flow_fault fault (Rose (told old).faults (told new).faults)
          (omega (arith, put.0.later, flow.0.cause, taken.0.later));
    });
    calls = rw none (inr (named, refused, put, flow, taken));
  }

  -- the flow tells the peer of the property that was put
  pub one-acquired : {T : Type 0} (old named new : R) (txn_id : TransactionId) (credit : ℕ)
      (answer : T) → names_transaction (told old) ≡ false
      → PutsKey (OneInsertion inserts told) old named txn_id (Ok tt)
      → OneFlow flows told named new (Some credit) None false true (Ok tt)
      → OneAcquisition told inserts removes flows old new txn_id credit (Ok answer)
  one-acquired old named new txn_id credit answer none put flow =
      let is_named = flow.0.properties ∙ put.0.properties in
      record {
        tells = record {
          unnamed = none;
          properties = is_named;
          alone = gives-one-named (told old).properties (told new).properties txn_id none is_named;
          put = rw (flow.0.put, put.0.put, flow.0.properties);
          later = omega (arith, put.0.later, flow.0.later);
        };
        calls = (named, put, flow);
      }

  -- the property was taken out, and the flow tells the peer so
  pub one-cleaned : (old unnamed new : R) (result : Result Unit IllegalLinkStateError)
      → OneRemoval removes told old unnamed txn_id_key
      → OneFlow flows told unnamed new (Some 0) (Some true) true true result
      → OneCleanup told removes flows old new result
  one-cleaned old unnamed new (Ok done) taken flow = record {
    tells = record {
      properties = flow.0.properties ∙ taken.0.properties;
      alone = rw flow.0.properties taken.0.alone;
      put = rw (flow.0.put, taken.0.put, flow.0.properties);
      later = omega (arith, taken.0.later, flow.0.later);
      cause = tt;
    };
    calls = (unnamed, taken, flow);
  }
  one-cleaned old unnamed new (Err fault) taken flow = record {
    tells = record {
      properties = flow.0.properties ∙ taken.0.properties;
      alone = rw flow.0.properties taken.0.alone;
      put = flow.0.put ∙ taken.0.put;
      later = omega (arith, taken.0.later, flow.0.later);
      cause = omega (arith, taken.0.later, flow.0.cause);
    };
    calls = (unnamed, taken, flow);
  }
