-- Events of two parties, one after another.
use Rattle.std.specs.Prelude.{ℕ, ◌≡◌, ◌≤◌, ◌+◌, ◌-◌, ◌^◌, Bool, Some, None, List, ◌∷◌, ◌++◌, length, min, take}
use Rattle.amqp_txn_types.specs.Counts.{Rose}
use Rattle.amqp_txn_types.specs.Growing.{grown}
use Rattle.amqp_txn_types.specs.declared.id.TransactionId.{TransactionId}
use Rattle.amqp_below_layer.specs.Told.{Told}
use Rattle.amqp_below_layer.specs.declared.inner_error.SessionInnerError.{SessionInnerError}
use Rattle.amqp_below_layer.specs.declared.refusal.Refusal.{Refusal}
use Rattle.amqp_below_ids.specs.Ids.{Drew}
use Rattle.amqp_resource_record.specs.Hands.{hands}
use Rattle.amqp_resource_record.specs.Opened.{opens, refuses}
use Rattle.amqp_resource_record.specs.Stops.{fault_code}
use Rattle.amqp_resource_record.specs.Vetoed.{veto_count, vetoes}
use Rattle.amqp_resource_record.specs.declared.entry.Entry.{Entry}
use Rattle.amqp_resource_record.specs.declared.stop.StopCode.TheVariants as codes
use Rattle.amqp_resource_session.specs.Steps.{AddsRefusal}
use Rattle.txn_parties.specs.declared.event.Event.{Event}
use Rattle.txn_parties.specs.declared.event.Happened.{Happened}
use Rattle.txn_parties.specs.declared.item.Halt.{Halt}
use Rattle.txn_parties.specs.declared.item.Item.{Item}
use Rattle.txn_parties.specs.Items.{step_of}
use Rattle.txn_parties.specs.Exchange.{Begins, Exchange, begun, entries_of, made, record_of}
use Rattle.txn_parties.specs.Invariant.{Keeps}
use Rattle.txn_parties.specs.Taken.{TookSince}
use Rattle.txn_parties.specs.Turns.{Follows}
use Rattle.txn_program_parties.specs.Skipping.{events_of, skipped_in}
use Rattle.txn_world.specs.Happening.{TwoParties}

-- why the session stopped at an item: the id of its frame isn't live; or the layer below refused,
-- which its count shows, and told the refusal by this error
pub data StopTold (old new : Told) (exchange : Exchange) (item : Item) (halt : Halt) : Type 0 where
  Unknown : halt.code ≡ codes.UnknownTxnId → StopTold old new exchange item halt
  Refused : (error : SessionInnerError) → halt.code ≡ fault_code error
      → Rose old.refusals new.refusals → (more : List Refusal)
      → AddsRefusal (step_of item) (hands (record_of exchange) (step_of item)) halt.handed error
      more
      → new.refused ≡ grown old.refused (refuses (record_of exchange) ++ more)
      → StopTold old new exchange item halt

-- what these events, with these ids drawn, made of two parties that began with these attaches, over
-- a layer below that told `old` before and tells `new` after
pub record Played (old new : Told) (sure : Bool) (first : List Entry) (exchange : Exchange)
    (past : List (Event × Happened)) (drawn : List TransactionId) : Type 0 where
  -- each event is a turn of the two parties
  pub follows : Follows (begun sure first) past drawn exchange
  -- the layer below took the frames at the places that were drawn on
  pub took : TookSince old.taken exchange new.taken
  -- it refused and vetoed what the record says; the session stops for its cause alone, and a commit
  -- is vetoed only where the vetoes rose
  pub refused : exchange.stop ≡ None
      → new.refused ≡ grown old.refused (refuses (record_of exchange))
  pub stopped : (halt : Halt) (item : Item) (rest : List Item) → exchange.stop ≡ Some halt
      → exchange.waiting ≡ item ∷ rest → StopTold old new exchange item halt
  pub vetoed : new.reviews.vetoed ≡ grown old.reviews.vetoed (vetoes (record_of exchange))
  pub vetoes_rose : min (old.reviews.vetoes + veto_count (record_of exchange)) (2 ^ 64 - 1)
      ≤ new.reviews.vetoes

-- the same of a layer below and a source of ids, and what is so of two parties after every event
pub record PlayedOn {S G : Type 0} (told : S → Told) (next : G → ℕ → TransactionId) (sure : Bool)
    (old new : TwoParties S G) (past : List (Event × Happened)) : Type 0 where
  pub drawn : List TransactionId
  pub played : Played (told old.below) (told new.below) sure old.sides.first new.sides past drawn
  pub opened : (told new.below).opened
      ≡ grown (told old.below).opened (opens (entries_of new.sides.came))
  pub first : new.sides.first ≡ old.sides.first
  pub drew : Drew (next old.ids) (next new.ids) drawn
  pub later : (told old.below).refusals ≤ (told new.below).refusals
  pub fixed : (told new.below).fixed ≡ (told old.below).fixed
  pub keeps : Keeps new.sides
  -- There are no more transactions than events.
  pub few : made new.sides ≤ length past

-- two parties as they begin
pub record IsBegun (sure : Bool) (exchange : Exchange) : Type 0 where
  pub sides : exchange ≡ begun sure exchange.first
  pub begins : Begins exchange.first

-- these events were played, and that many of them were skipped
pub record PlayedAll {S G : Type 0} (told : S → Told) (next : G → ℕ → TransactionId) (sure : Bool)
    (old new : TwoParties S G) (events : List Event) (skipped : ℕ) : Type 0 where
  pub past : List (Event × Happened)
  pub on : PlayedOn told next sure old new past
  pub these : events_of past ≡ events
  pub skips : skipped ≡ skipped_in past

-- a front of these events was played
pub record PlayedSome {S G : Type 0} (told : S → Told) (next : G → ℕ → TransactionId)
    (sure : Bool) (old new : TwoParties S G) (events : List Event) : Type 0 where
  pub past : List (Event × Happened)
  pub on : PlayedOn told next sure old new past
  pub front : events_of past ≡ take (length past) events
