-- Turn: what one event does, by cases of the event, and what a list of events does.
use Rattle.std.specs.Prelude.{ℕ, ◌≡◌, ◌≤◌, nat_lt, Bool, true, false, cond, not, ◌&&◌, Option, Some, None, List, [], ◌∷◌, ◌++◌, length}
use Rattle.std.specs.List.{list_any}
use Rattle.amqp_txn_types.specs.declared.id.TransactionId.{TransactionId}
use Rattle.amqp_txn_types.specs.declared.delivery.DeliveryState.{DeliveryState}
use Rattle.amqp_txn_types.specs.declared.delivery.DeliveryState.TheVariants as delivery_states
use Rattle.amqp_txn_types.specs.declared.delivery.Outcome.{Outcome}
use Rattle.amqp_txn_types.specs.declared.performatives.Frame.{Frame}
use Rattle.amqp_txn_types.specs.declared.performatives.Frame.TheVariants as frames
use Rattle.amqp_txn_types.specs.Frames.{is_plain_frame, txn}
use Rattle.amqp_txn_types.specs.Presumptive.{answered_under}
use Rattle.amqp_below_layer.specs.declared.inner_error.SessionInnerError.{SessionInnerError}
use Rattle.amqp_below_ids.specs.Drawn.{DrawnIds}
use Rattle.amqp_resource_record.specs.declared.step.Step.{Step}
use Rattle.amqp_resource_record.specs.declared.step.Step.TheVariants as steps
use Rattle.amqp_resource_record.specs.declared.reply.Reply.{Reply}
use Rattle.amqp_resource_record.specs.declared.reply.Reply.TheVariants as replies
use Rattle.amqp_resource_record.specs.declared.stop.StopCode.{StopCode}
use Rattle.amqp_resource_record.specs.declared.stop.StopCode.TheVariants as codes
use Rattle.amqp_resource_record.specs.declared.entry.Entry.{Entry}
use Rattle.amqp_resource_record.specs.Live.{is_live}
use Rattle.amqp_resource_record.specs.Hands.{hands}
use Rattle.amqp_resource_record.specs.Answers.{Answer}
use Rattle.amqp_resource_record.specs.Stops.{fault_code}
use Rattle.txn_parties.specs.declared.event.Event.{Event}
use Rattle.txn_parties.specs.declared.event.Event.TheVariants as events
use Rattle.txn_parties.specs.declared.event.Happened.{Happened}
use Rattle.txn_parties.specs.declared.event.Happened.TheVariants as happenings
use Rattle.txn_parties.specs.declared.item.Item.{Item}
use Rattle.txn_parties.specs.declared.item.Item.TheVariants as items
use Rattle.txn_parties.specs.declared.item.Answered.{Answered}
use Rattle.txn_parties.specs.declared.item.Halt.{Halt}
use Rattle.txn_parties.specs.Items.{controller_in, ends_link, is_discharge, item_ends, step_of}
use Rattle.txn_parties.specs.BackWire.{answers}
use Rattle.txn_parties.specs.Exchange.{Exchange, forward, id_heard, made, record_of}

-- ---- what a controller puts

-- the state of a frame under a transaction (4.5.6, Transactional State)
abbrev pub state_under : TransactionId → Option Outcome → Option DeliveryState
state_under id outcome =
    Some (delivery_states.TransactionalState (record { txn_id = id; outcome = outcome }))

-- there is a controller with this number, and it has sent no link end
abbrev pub has_link : Exchange → ℕ → Bool
has_link exchange controller =
    nat_lt controller (length exchange.first)
    && not (list_any (ends_link controller) (forward exchange))

-- the item, where there is an id
abbrev pub if_id : Option TransactionId → (TransactionId → Option Item) → Option Item
if_id None item_of = None
if_id (Some id) item_of = item_of id

-- the item, where there is a link
abbrev pub if_link : Option ℕ → (ℕ → Option Item) → Option Item
if_link None item_of = None
if_link (Some link) item_of = item_of link

-- a frame under the id of a transaction that has heard Declared and sent no discharge
abbrev pub frame_under : Exchange → ℕ → (TransactionId → Frame) → Option Item
frame_under exchange number frame_of =
    if_id (id_heard exchange number) (λ t.
    cond (list_any (is_discharge number) (forward exchange)) None (Some (items.Frame (frame_of t))))

-- its discharge on the link on which it was declared, where that has sent no link end either
abbrev pub discharge_of : Exchange → ℕ → Bool → Option Item
discharge_of exchange number rollback =
    if_id (id_heard exchange number) (λ t.
    if_link (controller_in number (forward exchange)) (λ k.
    cond (list_any (item_ends number k) (forward exchange)) None
    (Some (items.Discharge number k t rollback))))

-- what an event puts, where its condition is met:
--   Declare             a new transaction's declare       a controller that has sent no link end
--   Post, Retire        the frame under the id            declared, no discharge sent
--   Commit, Rollback    the discharge                     the same, and no link end sent
--   LinkEnd             the link end                      a controller that has sent none
--   Plain               the frame                         it is plain
abbrev pub put_of : Exchange → Event → Option Item
put_of exchange (events.Declare controller) =
    cond (has_link exchange controller) (Some (items.Declare (made exchange) controller)) None
put_of exchange (events.Post number transfer outcome payload) =
    frame_under exchange number (λ t.
    frames.Transfer (record transfer { state = state_under t outcome }) payload)
put_of exchange (events.Retire number disposition outcome) =
    frame_under exchange number (λ t.
    frames.Disposition (record disposition { state = state_under t outcome }))
put_of exchange (events.Commit number) = discharge_of exchange number false
put_of exchange (events.Rollback number) = discharge_of exchange number true
put_of exchange (events.LinkEnd controller) =
    cond (has_link exchange controller) (Some (items.LinkEnd controller)) None
put_of exchange (events.Plain frame) = cond (is_plain_frame frame) (Some (items.Frame frame)) None
put_of exchange _ = None

-- with an item more on the forward wire
abbrev pub with_put : Exchange → Item → Exchange
with_put exchange item = record exchange { waiting = exchange.waiting ++ item ∷ [] }

-- the item is put, or nothing is
abbrev pub TurnPut : Exchange → Option Item → Happened → List TransactionId → Exchange → Type 0
TurnPut exchange None happened drawn new =
    (happened ≡ happenings.Skipped) × (drawn ≡ []) × (new ≡ exchange)
TurnPut exchange (Some item) happened drawn new =
    (happened ≡ happenings.Put) × (drawn ≡ []) × (new ≡ with_put exchange item)

-- ---- what arrives

-- a step with its draws and reply
abbrev pub entry_by : Step → DrawnIds → Reply → Entry
entry_by step drawn reply = record { step = step; drawn = drawn; reply = reply }

-- with the first item arrived, and what it was answered put back
abbrev pub with_answer : Exchange → Item → List Item → DrawnIds → Reply → Exchange
with_answer exchange item rest drawn reply =
    record exchange {
      came = exchange.came ++ (item, entry_by (step_of item) drawn reply) ∷ [];
      waiting = rest;
      coming = exchange.coming ++ answers item reply;
    }

-- with the session stopped
abbrev pub with_stop : Exchange → Halt → Exchange
with_stop exchange halt = record exchange { stop = Some halt }

-- an id that is declared has at most 32 octets (4.5.4, Transaction ID)
abbrev pub IsShort : Reply → Type 0
IsShort (replies.Declared id) = length id ≤ 32
IsShort _ = Unit {0}

-- the code of a refusal of the layer below
abbrev pub IsRefusal : StopCode → Type 0
IsRefusal code =
    (error : SessionInnerError) × (code ≡ fault_code error) × (code ≡ codes.UnknownTxnId → ⊥)

-- a frame under this id, which is live or not: the layer below refused its presumptive disposition,
-- or the id is unknown
abbrev pub StopsUnder : Bool → TransactionId → Frame → StopCode → Type 0
StopsUnder true id frame code = (1 ≤ length (answered_under id frame)) × IsRefusal code
StopsUnder false id frame code = code ≡ codes.UnknownTxnId

-- a frame, by the id that it is under, if any: where it is under none, it is plain
abbrev pub StopsFrame : List Entry → Frame → Option TransactionId → StopCode → Type 0
StopsFrame entries frame None code = (is_plain_frame frame ≡ true) × IsRefusal code
StopsFrame entries frame (Some id) code = StopsUnder (is_live entries id) id frame code

-- the stops that a step may come to after the record, over a layer that is sure or not: of a frame
-- as above; of a commit with at least one frame, for which the layer below ran out of memory, with
-- nothing taken where it is sure; of no other step of a controller
abbrev pub MayStop : Bool → List Entry → Step → Halt → Type 0
MayStop sure entries (steps.Frame frame) halt = StopsFrame entries frame (txn frame) halt.code
MayStop sure entries (steps.Control link payload) halt =
    (1 ≤ length (hands entries (steps.Control link payload))) × (halt.code ≡ codes.BelowNoMemory)
    × (sure ≡ true → halt.handed ≡ 0)
MayStop sure entries _ halt = ⊥

-- the first item is answered by the record, with these ids drawn
pub record AnswersFirst (exchange : Exchange) (item : Item) (rest : List Item)
    (drawn_ids : List TransactionId) (new : Exchange) : Type 0 where
  pub drawn : DrawnIds
  pub reply : Reply
  pub ids : drawn_ids ≡ drawn.ids
  pub allowed : Answer (record_of exchange) (step_of item) drawn.ids reply
  pub short : IsShort reply
  pub after : new ≡ with_answer exchange item rest drawn reply

-- the first item stops the session: some of its frames were taken, and nothing is put back
pub record StopsFirst (exchange : Exchange) (item : Item) (drawn : List TransactionId)
    (new : Exchange) : Type 0 where
  pub halt : Halt
  pub none : drawn ≡ []
  pub cause : MayStop exchange.sure (record_of exchange) (step_of item) halt
  pub within : halt.handed ≤ length (hands (record_of exchange) (step_of item))
  pub after : new ≡ with_stop exchange halt

-- one or the other
pub data Arrives (exchange : Exchange) (item : Item) (rest : List Item) (drawn : List TransactionId)
    (new : Exchange) : Type 0 where
  IsAnswered : AnswersFirst exchange item rest drawn new → Arrives exchange item rest drawn new
  IsStopped : StopsFirst exchange item drawn new → Arrives exchange item rest drawn new

-- Arrive, by the cut, the stop and what waits: the first item is a step of the session
abbrev pub TurnArrive : Exchange → Bool → Option Halt → List Item → Happened → List TransactionId
    → Exchange → Type 0
TurnArrive exchange false None (item ∷ rest) happened drawn new =
    (happened ≡ happenings.Arrived) × Arrives exchange item rest drawn new
TurnArrive exchange _ _ _ happened drawn new =
    (happened ≡ happenings.Skipped) × (drawn ≡ []) × (new ≡ exchange)

-- ---- what returns, and the cut

-- with the first answer heard
abbrev pub with_heard : Exchange → Answered → List Answered → Exchange
with_heard exchange answered rest =
    record exchange { told = exchange.told ++ answered ∷ []; coming = rest }

-- Return, by the cut and what is on its way back: the transaction hears the first answer
abbrev pub TurnReturn : Exchange → Bool → List Answered → Happened → List TransactionId → Exchange
    → Type 0
TurnReturn exchange false (answered ∷ rest) happened drawn new =
    (happened ≡ happenings.Heard) × (drawn ≡ []) × (new ≡ with_heard exchange answered rest)
TurnReturn exchange _ _ happened drawn new =
    (happened ≡ happenings.Skipped) × (drawn ≡ []) × (new ≡ exchange)

-- Cut, by whether there was one
abbrev pub TurnCut : Exchange → Bool → Happened → List TransactionId → Exchange → Type 0
TurnCut exchange false happened drawn new =
    (happened ≡ happenings.Cut) × (drawn ≡ []) × (new ≡ record exchange { cut = true })
TurnCut exchange true happened drawn new =
    (happened ≡ happenings.Skipped) × (drawn ≡ []) × (new ≡ exchange)

-- ---- turns

-- turn: one event, what happened, the ids that were drawn, and the two parties after it
abbrev pub Turn : Exchange → Event → Happened → List TransactionId → Exchange → Type 0
Turn exchange events.Arrive happened drawn new =
    TurnArrive exchange exchange.cut exchange.stop exchange.waiting happened drawn new
Turn exchange events.Return happened drawn new =
    TurnReturn exchange exchange.cut exchange.coming happened drawn new
Turn exchange events.Cut happened drawn new = TurnCut exchange exchange.cut happened drawn new
Turn exchange event happened drawn new = TurnPut exchange (put_of exchange event) happened drawn new

-- a list of events, each with what happened, and the ids that were drawn, joined
abbrev pub Follows : Exchange → List (Event × Happened) → List TransactionId → Exchange → Type 0
Follows exchange [] drawn new = (drawn ≡ []) × (new ≡ exchange)
Follows exchange (first ∷ past) drawn new =
    (now : List TransactionId) × (later : List TransactionId) × (mid : Exchange)
    × (drawn ≡ now ++ later) × Turn exchange first.0 first.1 now mid × Follows mid past later new
