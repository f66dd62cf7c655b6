-- Acquiring deliveries under a transaction. Part 4 of the standard (OASIS AMQP 1.0), section 4.4.3
-- (Transactional Acquisition).
use Rattle.std.specs.Prelude.{ℕ, ◌≡◌, ◌≤◌, ◌⊎◌, Bool, true, false, Some, None, Result, Ok, Err, List, [], ◌∷◌, ◌++◌, codes, nat_eq, OnErr}
use Rattle.std.specs.Cmp.Lexicographic.{pointwise}
use Rattle.std.specs.List.{list_any}
use Rattle.indexmap.specs.IndexMap.{insert_entry}
use Rattle.amqp_txn_types.specs.declared.fields.Value.{Value}
use Rattle.amqp_txn_types.specs.declared.fields.Value.TheVariants as values
use Rattle.amqp_txn_types.specs.declared.id.TransactionId.{TransactionId}
use Rattle.amqp_txn_types.specs.declared.items.NoMemory.{NoMemory}
use Rattle.amqp_txn_types.specs.declared.text.Symbol.{Symbol}
use Rattle.amqp_txn_types.specs.Counts.{Rose}
use Rattle.amqp_links.specs.declared.errors.IllegalLinkStateError.{IllegalLinkStateError}
use Rattle.amqp_links.specs.declared.errors.IllegalLinkStateError.TheVariants as faults
use Rattle.amqp_links.specs.declared.messages.ReceiverMessage.TheVariants as messages
use Rattle.amqp_links.specs.OneCall.{InsertsOn, RemovesOn, SendsFlowOn, OneFlow, OneInsertion, OneRemoval}
use Rattle.amqp_links.specs.Receiving.{GivesOne, Properties, ReceiverTold, pairs_of, put_by, removed}

-- the key of the property that names the transaction
abbrev pub txn_id_key : Symbol
txn_id_key = codes "txn-id"

-- the key is one of the pairs'
abbrev pub has_key : Symbol → List (Symbol × Value) → Bool
has_key key pairs = list_any (λ pair. pointwise nat_eq key pair.0) pairs

-- the properties already name a transaction
abbrev pub names_transaction : ReceiverTold → Bool
names_transaction told = has_key txn_id_key (pairs_of told.properties)

-- the properties once they name this transaction
abbrev pub naming : Properties → TransactionId → Properties
naming properties txn_id =
    Some (insert_entry (pointwise nat_eq) (pairs_of properties) txn_id_key (values.Binary txn_id))

-- a refused flow is a fault that is counted, but where memory runs out
abbrev pub OnFlowFault : IllegalLinkStateError → Type 0 → Type 0
OnFlowFault faults.NoMemory P = Unit {0}
OnFlowFault error P = P

-- the properties name the transaction, which they didn't before, and a flow with the credit tells
-- the peer
pub record Acquired (old new : ReceiverTold) (txn_id : TransactionId) (credit : ℕ) : Type 0 where
  pub unnamed : names_transaction old ≡ false
  pub properties : new.properties ≡ naming old.properties txn_id
  pub alone : GivesOne txn_id_key old.properties new.properties (Some (values.Binary txn_id))
  pub put : new.put ≡ old.put ++ messages.Flow (Some credit) None false new.properties ∷ []
  pub later : old.faults ≤ new.faults

-- nothing was put, and the properties are as they were, where no map is as an empty one
pub record NotAcquired (old new : ReceiverTold) (error : IllegalLinkStateError) : Type 0 where
  pub properties : pairs_of new.properties ≡ pairs_of old.properties
  pub put : new.put ≡ old.put
  pub later : old.faults ≤ new.faults
  pub cause : OnFlowFault error (Rose old.faults new.faults)

-- an acquisition that is refused, by whether the properties named a transaction: that is illegal
abbrev pub NotAcquiredBy : Bool → ReceiverTold → ReceiverTold → IllegalLinkStateError → Type 0
NotAcquiredBy true old new error = (error ≡ faults.IllegalState) × (new ≡ old)
NotAcquiredBy false old new error = NotAcquired old new error

-- an acquisition, by what the receiver tells
abbrev pub Acquires : {T : Type 0} → ReceiverTold → ReceiverTold → TransactionId → ℕ
    → Result T IllegalLinkStateError → Type 0
Acquires old new txn_id credit (Ok done) = Acquired old new txn_id credit
Acquires old new txn_id credit (Err error) = NotAcquiredBy (names_transaction old) old new error

-- the property is put; or there was no memory: the receiver wasn't asked, or that is its answer
abbrev pub PutsKey : {R : Type 0} → InsertsOn R → R → R → TransactionId → Result Unit NoMemory
    → Type 0
PutsKey inserts old new txn_id (Ok done) =
    inserts old new txn_id_key (values.Binary txn_id) (Ok tt)
PutsKey inserts old new txn_id (Err error) =
    (new ≡ old) ⊎ inserts old new txn_id_key (values.Binary txn_id) (Err error)

-- there was no memory for the property
abbrev pub OutOfMemory : {R : Type 0} → InsertsOn R → R → R → TransactionId
    → IllegalLinkStateError → Type 0
OutOfMemory inserts old new txn_id error =
    (error ≡ faults.NoMemory) × PutsKey inserts old new txn_id (Err (record {}))

-- the receiver answered so to the flow, and the property that was put was taken out again
abbrev pub RefusesFlow : {R : Type 0} → InsertsOn R → RemovesOn R → SendsFlowOn R → R → R
    → TransactionId → ℕ → IllegalLinkStateError → Type 0
RefusesFlow {R} inserts removes flows old new txn_id credit error =
    (named refused : R)
    × PutsKey inserts old named txn_id (Ok tt)
    × flows named refused (Some credit) None false true (Err error)
    × removes refused new txn_id_key

-- the calls of an acquisition that is refused: none where the properties named a transaction
abbrev pub CallsInVain : {R : Type 0} → Bool → InsertsOn R → RemovesOn R → SendsFlowOn R → R → R
    → TransactionId → ℕ → IllegalLinkStateError → Type 0
CallsInVain true inserts removes flows old new txn_id credit error =
    (error ≡ faults.IllegalState) × (new ≡ old)
CallsInVain false inserts removes flows old new txn_id credit error =
    OutOfMemory inserts old new txn_id error
    ⊎ RefusesFlow inserts removes flows old new txn_id credit error

-- the calls of an acquisition: the property is put, and then one flow
abbrev pub CallsToAcquire : {R T : Type 0} → Bool → InsertsOn R → RemovesOn R → SendsFlowOn R → R
    → R → TransactionId → ℕ → Result T IllegalLinkStateError → Type 0
CallsToAcquire {R} is_named inserts removes flows old new txn_id credit (Ok done) =
    (named : R)
    × PutsKey inserts old named txn_id (Ok tt)
    × flows named new (Some credit) None false true (Ok tt)
CallsToAcquire is_named inserts removes flows old new txn_id credit (Err error) =
    CallsInVain is_named inserts removes flows old new txn_id credit error

-- one acquisition: what the receiver tells of it, and its calls
pub record OneAcquisition {R T : Type 0} (told : R → ReceiverTold) (inserts : InsertsOn R)
    (removes : RemovesOn R) (flows : SendsFlowOn R) (old new : R) (txn_id : TransactionId)
    (credit : ℕ) (result : Result T IllegalLinkStateError) : Type 0 where
  pub tells : Acquires (told old) (told new) txn_id credit result
  pub calls : CallsToAcquire (names_transaction (told old)) (OneInsertion inserts told)
      (OneRemoval removes told) (OneFlow flows told) old new txn_id credit result

-- one acquisition that was refused so, whatever it left of the receiver
abbrev pub RefusesToAcquire : {R : Type 0} → (R → ReceiverTold) → InsertsOn R → RemovesOn R
    → SendsFlowOn R → R → TransactionId → ℕ → IllegalLinkStateError → Type 0
RefusesToAcquire {R} told inserts removes flows old txn_id credit error =
    (final : R)
    × OneAcquisition {T = Unit} told inserts removes flows old final txn_id credit (Err error)

-- the key is gone, whatever the flow is answered: that takes the credit back, lets the sender use
-- up what it has, and asks for an answer
pub record CleansUp (old new : ReceiverTold) (result : Result Unit IllegalLinkStateError)
    : Type 0 where
  pub properties : new.properties ≡ removed old.properties txn_id_key
  pub alone : GivesOne txn_id_key old.properties new.properties None
  pub put : new.put
      ≡ put_by old.put (messages.Flow (Some 0) (Some true) true new.properties) result
  pub later : old.faults ≤ new.faults
  pub cause : OnErr result (Rose old.faults new.faults)

-- the calls of a cleanup: the property is taken out, and then one flow
abbrev pub CallsToCleanUp : {R : Type 0} → RemovesOn R → SendsFlowOn R → R → R
    → Result Unit IllegalLinkStateError → Type 0
CallsToCleanUp {R} removes flows old new result =
    (unnamed : R)
    × removes old unnamed txn_id_key
    × flows unnamed new (Some 0) (Some true) true true result

-- one cleanup: what the receiver tells of it, and its calls
pub record OneCleanup {R : Type 0} (told : R → ReceiverTold) (removes : RemovesOn R)
    (flows : SendsFlowOn R) (old new : R) (result : Result Unit IllegalLinkStateError)
    : Type 0 where
  pub tells : CleansUp (told old) (told new) result
  pub calls : CallsToCleanUp (OneRemoval removes told) (OneFlow flows told) old new result
