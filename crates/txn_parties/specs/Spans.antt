-- The frames of a transaction, and those that were handed, by their places in the record.
use Rattle.std.specs.Prelude.{ℕ, ◌+◌, cond, Option, Some, None, List, [], ◌∷◌, ◌++◌, length, take}
use Rattle.amqp_txn_types.specs.declared.id.TransactionId.{TransactionId}
use Rattle.amqp_resource_record.specs.declared.entry.Entry.{Entry}
use Rattle.amqp_resource_record.specs.Hands.{sources}
use Rattle.amqp_resource_record.specs.Work.{origins}
use Rattle.txn_parties.specs.declared.item.Item.{Item}
use Rattle.txn_parties.specs.declared.item.Halt.{Halt}
use Rattle.txn_parties.specs.Items.{declares_on, item_ends, item_under, step_of}
use Rattle.txn_parties.specs.Exchange.{Exchange, forward, record_of}

-- the places of the frames under the id, the first item being at this place, up to the discharge
-- of the transaction or the end of its link
abbrev pub within : ℕ → ℕ → TransactionId → ℕ → List Item → List ℕ
within place number id link [] = []
within place number id link (item ∷ list) =
    cond (item_ends number link item) []
    (cond (item_under id item) (place ∷ []) [] ++ within (place + 1) number id link list)

-- what is given for the link, where there is one
abbrev pub from_link : Option ℕ → (ℕ → List ℕ) → List ℕ → List ℕ
from_link None places_on others = others
from_link (Some link) places_on others = places_on link

-- the same places, from the declare of the transaction on
abbrev pub span_from : ℕ → ℕ → TransactionId → List Item → List ℕ
span_from place number id [] = []
span_from place number id (item ∷ list) =
    from_link (declares_on number item) (λ k. within (place + 1) number id k list)
    (span_from (place + 1) number id list)

-- span: the places of the frames of the transaction with this id (4.4, Transactional Work). Item
-- number i has the place that follows the attaches and i other items. A frame that was put under
-- the id after the end of its link isn't among them; a later transaction of this id may have it.
abbrev pub span : Exchange → ℕ → TransactionId → List ℕ
span exchange number id = span_from (length exchange.first) number id (forward exchange)

-- the places of the frames that were taken of the item at which the session stopped
abbrev pub stop_places : List Entry → Option Halt → List Item → List ℕ
stop_places entries None waiting = []
stop_places entries (Some halt) [] = []
stop_places entries (Some halt) (item ∷ rest) = take halt.handed (sources entries (step_of item))

-- drawn on: the places whose frames the layer below took, in order: the origins of the record, and
-- then those of the stop
abbrev pub drawn_on : Exchange → List ℕ
drawn_on exchange =
    origins (record_of exchange) ++ stop_places (record_of exchange) exchange.stop exchange.waiting
