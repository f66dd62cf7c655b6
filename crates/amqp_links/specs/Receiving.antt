-- What the receiving end of a link tells, and what each of its calls does to it.
use Rattle.std.specs.Prelude.{ℕ, ◌≡◌, ◌≤◌, Bool, if◌then◌else◌, Option, Some, None, Result, Ok, Err, List, [], ◌∷◌, ◌++◌, OnErr, option_map, nat_eq}
use Rattle.std.specs.Cmp.Lexicographic.{pointwise}
use Rattle.std.specs.List.{IsDistinct}
use Rattle.std.specs.Map.{keys_of, lookup}
use Rattle.indexmap.specs.IndexMap.{insert_entry, shift_remove_entry}
use Rattle.amqp_txn_types.specs.declared.delivery.DeliveryState.{DeliveryState}
use Rattle.amqp_txn_types.specs.declared.fields.Value.{Value}
use Rattle.amqp_txn_types.specs.declared.items.NoMemory.{NoMemory}
use Rattle.amqp_txn_types.specs.declared.text.Symbol.{Symbol}
use Rattle.amqp_links.specs.declared.delivery.Delivery.{Delivery}
use Rattle.amqp_links.specs.declared.delivery.DeliveryInfo.{DeliveryInfo}
use Rattle.amqp_links.specs.declared.errors.IllegalLinkStateError.{IllegalLinkStateError}
use Rattle.amqp_links.specs.declared.errors.RecvError.{RecvError}
use Rattle.amqp_links.specs.declared.messages.ReceiverMessage.{ReceiverMessage}
use Rattle.amqp_links.specs.declared.messages.ReceiverMessage.TheVariants as messages
use Rattle.amqp_links.specs.declared.poll.Poll.{Poll}
use Rattle.amqp_txn_types.specs.Counts.{Rose}
use Rattle.amqp_links.specs.Polls.{polled, OnReadyErr}

-- a map of properties, as the list of its pairs; no map is none
abbrev pub Properties : Type 0
Properties = Option (List (Symbol × Value))

-- what a receiving end tells: what was put, what a look for a delivery finds, its properties, and
-- how often it failed
pub record ReceiverTold : Type 0 where
  pub put : List ReceiverMessage
  pub ready : Option (Result Delivery RecvError)
  pub properties : Properties
  pub faults : ℕ

-- an Ok adds its message, an Err nothing
abbrev pub put_by : {T E : Type 0} → List ReceiverMessage → ReceiverMessage → Result T E
    → List ReceiverMessage
put_by put message (Ok done) = put ++ message ∷ []
put_by put message (Err error) = put

-- a call that puts a message where it is Ok
pub record Puts (old new : ReceiverTold) (message : ReceiverMessage)
    (result : Result Unit IllegalLinkStateError) : Type 0 where
  pub put : new.put ≡ put_by old.put message result
  pub properties : new.properties ≡ old.properties
  pub later : old.faults ≤ new.faults
  pub cause : OnErr result (Rose old.faults new.faults)

-- a disposition of one delivery
abbrev pub Disposes : ReceiverTold → ReceiverTold → DeliveryInfo → Option Bool → DeliveryState
    → Result Unit IllegalLinkStateError → Type 0
Disposes old new delivery settled state result =
    Puts old new (messages.Disposition delivery settled state) result

-- the properties that a flow says
abbrev pub included : Bool → Properties → Properties
included include properties = if include then properties else None

-- a flow
abbrev pub SendsFlow : ReceiverTold → ReceiverTold → Option ℕ → Option Bool → Bool → Bool
    → Result Unit IllegalLinkStateError → Type 0
SendsFlow old new credit drain echo include result =
    Puts old new (messages.Flow credit drain echo (included include old.properties)) result

-- a look for the next delivery
pub record Receives (old new : ReceiverTold)
    (result : Poll (Result Delivery RecvError)) : Type 0 where
  pub given : result ≡ polled old.ready
  pub put : new.put ≡ old.put
  pub properties : new.properties ≡ old.properties
  pub later : old.faults ≤ new.faults
  pub cause : OnReadyErr result (Rose old.faults new.faults)

-- the credit was set
pub record SetsCredit (old new : ReceiverTold)
    (result : Result Unit IllegalLinkStateError) : Type 0 where
  pub put : new.put ≡ old.put
  pub properties : new.properties ≡ old.properties
  pub later : old.faults ≤ new.faults
  pub cause : OnErr result (Rose old.faults new.faults)

-- the pairs of a map, where no map has none
abbrev pub pairs_of : Properties → List (Symbol × Value)
pairs_of None = []
pairs_of (Some pairs) = pairs

-- the value of a key
abbrev pub value_of : Symbol → List (Symbol × Value) → Option Value
value_of key pairs = lookup (pointwise nat_eq key) pairs

-- one key has this value, and every other has the value that it had
abbrev pub GivesOne : Symbol → Properties → Properties → Option Value → Type 0
GivesOne named old new value = (key : Symbol) → value_of key (pairs_of new)
    ≡ (if pointwise nat_eq named key then value else value_of key (pairs_of old))

-- no two pairs have the same key
abbrev pub HasDistinctKeys : Properties → Type 0
HasDistinctKeys properties = IsDistinct (pointwise nat_eq) (keys_of (pairs_of properties))

-- an Ok gives the key its value, an Err changes nothing
abbrev pub inserted : Properties → Symbol → Value → Result Unit NoMemory → Properties
inserted properties key value (Ok done) =
    Some (insert_entry (pointwise nat_eq) (pairs_of properties) key value)
inserted properties key value (Err error) = properties

-- a property was inserted
pub record Inserts (old new : ReceiverTold) (key : Symbol) (value : Value)
    (result : Result Unit NoMemory) : Type 0 where
  pub put : new.put ≡ old.put
  pub properties : new.properties ≡ inserted old.properties key value result
  pub later : old.faults ≤ new.faults

-- the key and its value are taken out
abbrev pub removed : Properties → Symbol → Properties
removed properties key = option_map (shift_remove_entry (pointwise nat_eq key)) properties

-- a property was taken out: no pair has the key any more
pub record Removes (old new : ReceiverTold) (key : Symbol) : Type 0 where
  pub put : new.put ≡ old.put
  pub properties : new.properties ≡ removed old.properties key
  pub alone : GivesOne key old.properties new.properties None
  pub later : old.faults ≤ new.faults
