-- What each call for an event answers and leaves.
use Rattle.std.proofs.Common.{◌≡◌, ℕ, ◌+◌, Bool, true, false, Option, Some, None, Ok, Err, List, [], ◌∷◌, ◌++◌, length, sym, ◌∙◌, ap, subst}
use Rattle.std.specs.Prelude.{slice_get}
use Rattle.amqp_txn_types.specs.declared.delivery.Outcome.{Outcome}
use Rattle.amqp_txn_types.specs.declared.id.TransactionId.{TransactionId}
use Rattle.amqp_txn_types.specs.declared.items.NoMemory.{NoMemory}
use Rattle.amqp_txn_types.specs.declared.performatives.Disposition.{Disposition}
use Rattle.amqp_txn_types.specs.declared.performatives.Frame.{Frame}
use Rattle.amqp_txn_types.specs.declared.performatives.Transfer.{Transfer}
use Rattle.txn_parties.specs.declared.event.Event.{Event}
use Rattle.txn_parties.specs.declared.event.Event.TheVariants as events
use Rattle.txn_parties.specs.declared.event.Happened.TheVariants as happenings
use Rattle.txn_parties.specs.declared.item.Answered.{Answered}
use Rattle.txn_parties.specs.declared.item.Item.{Item}
use Rattle.txn_parties.specs.declared.item.Item.TheVariants as items
use Rattle.txn_parties.specs.Turns.{frame_under, put_of}
use Rattle.txn_world_wires.specs.declared.controllers.Controllers.{Controllers}
use Rattle.txn_world_wires.specs.declared.controllers.Transaction.{Transaction}
use Rattle.txn_world_wires.specs.declared.parties.Parties.{Parties}
use Rattle.txn_world_wires.specs.Knowing.{declaring, discharging, ending, hearing, is_open_at, with_transaction}
use Rattle.txn_world_wires.specs.Moves.{Moves, MovesParties}
use Rattle.txn_world_wires.specs.Parties.{Sound, exchange_of}
use Rattle.txn_world_wires.specs.Putting.{discharge_event, posted, retired, to_discharge, working_id}
use Rattle.txn_world_wires.proofs.Moving.{IsPut, answer_awaited, answer_known, declare_none, declare_put, discharge_is_put, discharge_of-event, discharge_put, end_none, end_put, frame_put, item_to_discharge, item_under, nothing_awaited, open_within, put_moves, return_moves, skip_moves}
use Rattle.txn_world_wires.proofs.Tables.{Puts, puts_declare, puts_discharge, puts_end}

-- with another forward wire and another table
abbrev pub with_wire : Parties → List Item → Controllers → Parties
with_wire p wire known = record p { waiting = wire; controllers = known }

wire_is : (p : Parties) (wire wire2 : List Item) (known known2 : Controllers) → wire ≡ wire2 → known ≡ known2 → with_wire p wire known ≡ with_wire p wire2 known2
wire_is p wire wire2 known known2 a b = ap (λ (x : List Item). with_wire p x known) a ∙ ap (λ (x : Controllers). with_wire p wire2 x) b

-- memory ran out, and nothing changed
pub back_again : (p : Parties) (e : Event) (error : NoMemory) (wire : List Item) (known : Controllers) → wire ≡ p.waiting → known ≡ p.controllers → MovesParties p e (Err error) (with_wire p wire known)
back_again p e error wire known a b = record { moves = tt; err = wire_is p wire p.waiting known p.controllers a b }

skips : (p : Parties) (e : Event) → IsPut e → ((sure : Bool) → Sound sure p → put_of (exchange_of sure p) e ≡ None) → MovesParties p e (Ok happenings.Skipped) p
skips p e put none = record { moves = λ sure s. skip_moves sure p e put s (none sure s); err = tt }

putting : (p : Parties) (e : Event) (i : Item) (k : Controllers) (wire : List Item) (known : Controllers) → IsPut e → ((sure : Bool) → Sound sure p → put_of (exchange_of sure p) e ≡ Some i) → ((sure : Bool) → Sound sure p → Puts p.controllers k i) → wire ≡ p.waiting ++ i ∷ [] → known ≡ k → MovesParties p e (Ok happenings.Put) (with_wire p wire known)
putting p e i k wire known put some puts a b = record {
  moves = λ sure s. subst (λ (x : Parties). Moves sure p e happenings.Put x) (sym (wire_is p wire (p.waiting ++ i ∷ []) known k a b)) (put_moves sure p i k e put s (some sure s) (puts sure s));
  err = tt;
}

-- ---- a declare

pub declare_skips : (p : Parties) (c : ℕ) → is_open_at p.controllers c ≡ false → MovesParties p (events.Declare c) (Ok happenings.Skipped) p
declare_skips p c o = skips p (events.Declare c) (λ w h d new t. t) (λ sure s. declare_none p.controllers (exchange_of sure p) c s.table o)

pub declare_puts : (p : Parties) (c : ℕ) (i : Item) (wire : List Item) (known : Controllers) → is_open_at p.controllers c ≡ true → i ≡ items.Declare (length p.controllers.transactions) c → wire ≡ p.waiting ++ i ∷ [] → known ≡ declaring p.controllers c → MovesParties p (events.Declare c) (Ok happenings.Put) (with_wire p wire known)
declare_puts p c i wire known o is a b =
    putting p (events.Declare c) (items.Declare (length p.controllers.transactions) c) (declaring p.controllers c) wire known (λ w h d new t. t)
    (λ sure s. declare_put p.controllers (exchange_of sure p) c s.table o) (λ sure s. puts_declare p.controllers c)
    (a ∙ ap (λ (x : Item). p.waiting ++ x ∷ []) is) b

-- ---- the end of a link

pub end_skips : (p : Parties) (c : ℕ) → is_open_at p.controllers c ≡ false → MovesParties p (events.LinkEnd c) (Ok happenings.Skipped) p
end_skips p c o = skips p (events.LinkEnd c) (λ w h d new t. t) (λ sure s. end_none p.controllers (exchange_of sure p) c s.table o)

pub end_puts : (p : Parties) (c : ℕ) (i : Item) (wire : List Item) (known : Controllers) → is_open_at p.controllers c ≡ true → i ≡ items.LinkEnd c → wire ≡ p.waiting ++ i ∷ [] → known ≡ ending p.controllers c → MovesParties p (events.LinkEnd c) (Ok happenings.Put) (with_wire p wire known)
end_puts p c i wire known o is a b =
    putting p (events.LinkEnd c) (items.LinkEnd c) (ending p.controllers c) wire known (λ w h d new t. t)
    (λ sure s. end_put p.controllers (exchange_of sure p) c s.table o) (λ sure s. puts_end p.controllers c (open_within p.controllers c o))
    (a ∙ ap (λ (x : Item). p.waiting ++ x ∷ []) is) b

-- ---- a discharge

pub discharge_skips : (p : Parties) (x : ℕ) (rb : Bool) → to_discharge p.controllers x ≡ None → MovesParties p (discharge_event x rb) (Ok happenings.Skipped) p
discharge_skips p x rb o = skips p (discharge_event x rb) (discharge_is_put x rb) (λ sure s.
    discharge_of-event (exchange_of sure p) x rb ∙ discharge_put p.controllers (exchange_of sure p) x rb s.table ∙ ap (item_to_discharge x rb) o)

pub discharge_puts : (p : Parties) (x : ℕ) (rb : Bool) (u : Transaction) (id : TransactionId) (i : Item) (wire : List Item) (known : Controllers) → to_discharge p.controllers x ≡ Some (u, id) → i ≡ items.Discharge x u.link id rb → wire ≡ p.waiting ++ i ∷ [] → known ≡ with_transaction p.controllers x (discharging u rb) → MovesParties p (discharge_event x rb) (Ok happenings.Put) (with_wire p wire known)
discharge_puts p x rb u id i wire known o is a b =
    putting p (discharge_event x rb) (items.Discharge x u.link id rb) (with_transaction p.controllers x (discharging u rb)) wire known (discharge_is_put x rb)
    (λ sure s. discharge_of-event (exchange_of sure p) x rb ∙ discharge_put p.controllers (exchange_of sure p) x rb s.table ∙ ap (item_to_discharge x rb) o)
    (λ sure s.
    let free = nothing_awaited p.controllers (exchange_of sure p) x u id s.table o in
    puts_discharge p.controllers x u.link u id rb free.0 free.1)
    (a ∙ ap (λ (y : Item). p.waiting ++ y ∷ []) is) b

-- ---- a post and a retirement

pub under_put : (sure : Bool) (p : Parties) (x : ℕ) (f : TransactionId → Frame) (id : TransactionId) (frame : Frame) → Sound sure p → working_id (slice_get p.controllers.transactions x) ≡ Some id → frame ≡ f id → frame_under (exchange_of sure p) x f ≡ Some (items.Frame frame)
under_put sure p x f id frame s o is =
    frame_put p.controllers (exchange_of sure p) x f s.table ∙ ap (λ (y : Option TransactionId). item_under y f) o
    ∙ ap (λ (y : Frame). Some (items.Frame y)) (sym is)

pub post_skips : (p : Parties) (x : ℕ) (transfer : Transfer) (outcome : Option Outcome) (payload : List ℕ) → working_id (slice_get p.controllers.transactions x) ≡ None → MovesParties p (events.Post x transfer outcome payload) (Ok happenings.Skipped) p
post_skips p x transfer outcome payload o = skips p (events.Post x transfer outcome payload) (λ w h d new t. t) (λ sure s.
    frame_put p.controllers (exchange_of sure p) x (λ t. posted t transfer outcome payload) s.table ∙ ap (λ (y : Option TransactionId). item_under y (λ t. posted t transfer outcome payload)) o)

pub retire_skips : (p : Parties) (x : ℕ) (disposition : Disposition) (outcome : Option Outcome) → working_id (slice_get p.controllers.transactions x) ≡ None → MovesParties p (events.Retire x disposition outcome) (Ok happenings.Skipped) p
retire_skips p x disposition outcome o = skips p (events.Retire x disposition outcome) (λ w h d new t. t) (λ sure s.
    frame_put p.controllers (exchange_of sure p) x (λ t. retired t disposition outcome) s.table ∙ ap (λ (y : Option TransactionId). item_under y (λ t. retired t disposition outcome)) o)

-- ---- a return

pub return_none : (p : Parties) (a : Answered) → slice_get p.answers p.returned ≡ Some a → slice_get p.controllers.transactions a.txn ≡ None → MovesParties p events.Return (Ok happenings.Skipped) p
return_none p a e n = record { moves = λ sure s. absurd (answer_known sure p a s e n); err = tt }

-- its transaction awaits it
pub return_unasked : (p : Parties) (a : Answered) (u : Transaction) (known : Controllers) → slice_get p.answers p.returned ≡ Some a → slice_get p.controllers.transactions a.txn ≡ Some u → (u.awaits ≡ Some a.asked → ⊥) → known ≡ p.controllers → MovesParties p events.Return (Ok happenings.Skipped) (record p { controllers = known })
return_unasked p a u known e f n k = record {
  moves = λ sure s. absurd (n (answer_awaited sure p a u s e f));
  err = tt;
}

pub return_heard : (p : Parties) (a : Answered) (u : Transaction) (known : Controllers) → p.cut ≡ false → slice_get p.answers p.returned ≡ Some a → slice_get p.controllers.transactions a.txn ≡ Some u → known ≡ with_transaction p.controllers a.txn (hearing u a) → MovesParties p events.Return (Ok happenings.Heard) (record p { returned = p.returned + 1; controllers = known })
return_heard p a u known c e f k = record {
  moves = λ sure s. subst (λ (x : Controllers). Moves sure p events.Return happenings.Heard (record p { returned = p.returned + 1; controllers = x })) (sym k) (return_moves sure p a u s c e f);
  err = tt;
}
