-- What the calls of a relay answer, from what is so of it and what the two parties say.
use Rattle.std.proofs.Common.{◌≡◌, ℕ, suc, ◌+◌, ◌<◌, ◌≤◌, Option, Some, List, [], ◌∷◌, length, take, drop, refl, sym, ◌∙◌, ap, arith, subst, Result, Ok, Err}
use Rattle.std.specs.Prelude.{IfOk, OnErr, slice_get}
use Rattle.std.proofs.lemmas.Option.{same_Some, slice_get_within}
use Rattle.amqp_txn_types.specs.declared.id.TransactionId.{TransactionId}
use Rattle.amqp_txn_types.specs.declared.items.NoMemory.{NoMemory}
use Rattle.amqp_below_ids.specs.declared.list_ids.ListIds.{ListIds}
use Rattle.txn_broker_queues.specs.declared.message.Message.{Message}
use Rattle.txn_broker_queues.specs.Taking.{Board, taken_of, told_by}
use Rattle.txn_parties.specs.declared.event.Event.{Event}
use Rattle.txn_parties.specs.declared.event.Event.TheVariants as events
use Rattle.txn_parties.specs.declared.event.Happened.{Happened}
use Rattle.txn_parties.specs.declared.event.Happened.TheVariants as happenings
use Rattle.txn_parties.specs.declared.event.Heard.{Heard}
use Rattle.txn_parties.specs.declared.event.Heard.TheVariants as hearings
use Rattle.txn_parties.specs.Exchange.{heard, made as made_of}
use Rattle.txn_world.specs.Happening.{EventSays, TwoParties}
use Rattle.txn_relay.specs.Going.{BeginsWith, Goes, IsFirst, IsWork, PutFirst, next_after, next_for}
use Rattle.txn_relay.specs.declared.event.RelayEvent.{RelayEvent}
use Rattle.txn_relay.specs.declared.event.RelayEvent.TheVariants as relay_events
use Rattle.txn_relay.specs.declared.relay.Next.{Next}
use Rattle.txn_relay.specs.Moves.{moves, put_since}
use Rattle.txn_relay.specs.Once.{heard_committed}
use Rattle.txn_relay.specs.Relaying.{Draws, Half, Happens, Holds, LeavesSome, Moved, Put, RelaySays, Relaying, Turned}
use Rattle.txn_relay.specs.Stages.{Stands}
use Rattle.txn_relay.proofs.Moving.{declare_next, declare_within, put_next}
use Rattle.txn_relay.proofs.Returning.{arrives, cuts, returns}
use Rattle.txn_relay.proofs.Telling.{begins_after, begins_first, begins_start, counted_last, counted_none, counted_others, holds, no_moves}

abbrev pub relay_of : TwoParties Board ListIds → List Message → Relaying
relay_of world work = record { world = world; work = work }

-- ---- an event of the two parties

pub record Did (draws : Draws) (old new : TwoParties Board ListIds) (work : List Message) (made put : ℕ) (event : Event) (result : Result Happened NoMemory) : Type 0 where
  pub happens : IfOk result (Turned draws (relay_of old work) (relay_of new work) event)
  pub err : OnErr result (relay_of new work ≡ relay_of old work)
  pub stands : Stands new.sides (taken_of new.below) work made put

did : (next : ListIds → ℕ → TransactionId) (starts : ListIds → Option (ℕ → TransactionId)) (old new : TwoParties Board ListIds) (work : List Message) (made put : ℕ) (event : Event) (result : Result Happened NoMemory)
    → Stands old.sides (taken_of old.below) work made put → EventSays told_by next starts old new event result
    → ((h : Happened) → EventSays told_by next starts old new event (Ok h) → Stands new.sides (taken_of new.below) work made put)
    → Did (record { next = next; start = starts }) old new work made put event result
did next starts old new work made put event (Ok h) s says keeps = record {
  happens = record { says = says; work = refl };
  err = tt;
  stands = keeps h says;
}
did next starts old new work made put event (Err error) s says keeps = record {
  happens = tt;
  err = ap (λ (w : TwoParties Board ListIds). relay_of w work) says.err;
  stands = subst (λ (w : TwoParties Board ListIds). Stands w.sides (taken_of w.below) work made put) (sym says.err) s;
}

pub did_arrive : (next : ListIds → ℕ → TransactionId) (starts : ListIds → Option (ℕ → TransactionId)) (old new : TwoParties Board ListIds) (work : List Message) (made put : ℕ) (result : Result Happened NoMemory) → Stands old.sides (taken_of old.below) work made put → EventSays told_by next starts old new events.Arrive result → Did (record { next = next; start = starts }) old new work made put events.Arrive result
did_arrive next starts old new work made put result s says = did next starts old new work made put events.Arrive result s says (λ h ok. arrives next starts old new work made put h s ok)

pub did_return : (next : ListIds → ℕ → TransactionId) (starts : ListIds → Option (ℕ → TransactionId)) (old new : TwoParties Board ListIds) (work : List Message) (made put : ℕ) (result : Result Happened NoMemory) → Stands old.sides (taken_of old.below) work made put → EventSays told_by next starts old new events.Return result → Did (record { next = next; start = starts }) old new work made put events.Return result
did_return next starts old new work made put result s says = did next starts old new work made put events.Return result s says (λ h ok. returns next starts old new work made put h s ok)

pub did_cut : (next : ListIds → ℕ → TransactionId) (starts : ListIds → Option (ℕ → TransactionId)) (old new : TwoParties Board ListIds) (work : List Message) (made put : ℕ) (result : Result Happened NoMemory) → Stands old.sides (taken_of old.below) work made put → EventSays told_by next starts old new events.Cut result → Did (record { next = next; start = starts }) old new work made put events.Cut result
did_cut next starts old new work made put result s says = did next starts old new work made put events.Cut result s says (λ h ok. cuts next starts old new work made put h s ok)

-- ---- parts of a move

-- no item of it was put
pub half_none : (old new : Relaying) (list : List Event) → new ≡ old → moves old.world.sides old.work ≡ list → 1 ≤ length list → Half old new list
half_none old new list same is some = record {
  count = 0;
  some = some;
  put = record {
    follows = (refl, ap (λ (r : Relaying). r.world.sides) same);
    below = ap (λ (r : Relaying). r.world.below) same;
    ids = ap (λ (r : Relaying). r.world.ids) same;
    work = ap (λ (r : Relaying). r.work) same;
  };
  rest = ap (λ (r : Relaying). moves r.world.sides r.work) same ∙ is;
}

put_one : (old mid : Relaying) (event : Event) → PutFirst old mid event → Put old mid (event ∷ [])
put_one old mid event first = record {
  follows = ([], [], mid.world.sides, refl, first.turn, (refl, refl));
  below = first.below;
  ids = first.ids;
  work = first.work;
}

put_more : (old mid new : Relaying) (event : Event) (list : List Event) → PutFirst old mid event → Put mid new list → Put old new (event ∷ list)
put_more old mid new event list first put = record {
  follows = ([], [], mid.world.sides, refl, first.turn, put.follows);
  below = put.below ∙ first.below;
  ids = put.ids ∙ first.ids;
  work = put.work ∙ first.work;
}

-- the last item of a move
pub goes_last : (old new : Relaying) (event : Event) (h : Happened) → h ≡ happenings.Put → moves old.world.sides old.work ≡ event ∷ [] → PutFirst old new event → Goes old new (Ok h)
goes_last old new event h put is first = subst (λ (l : List Event). Moved old new l h) (sym is) (put, put_one old new event first)

-- an item of it, and the rest
pub goes_more : (old mid new : Relaying) (event next : Event) (rest : List Event) (result : Result Happened NoMemory) → moves old.world.sides old.work ≡ event ∷ next ∷ rest → PutFirst old mid event → Goes mid new result → Goes old new result
goes_more old mid new event next rest (Ok h) is first goes =
    let mid_is : moves mid.world.sides mid.work ≡ next ∷ rest = first.rest ∙ ap (drop 1) is in
    let moved : Moved mid new (next ∷ rest) h = subst (λ (l : List Event). Moved mid new l h) mid_is goes in
    subst (λ (l : List Event). Moved old new l h) (sym is) (moved.0, put_more old mid new event (next ∷ rest) first moved.1)
goes_more old mid new event next rest (Err error) is first goes =
    let mid_is : moves mid.world.sides mid.work ≡ next ∷ rest = first.rest ∙ ap (drop 1) is in
    let half : Half mid new (next ∷ rest) = subst (λ (l : List Event). Half mid new l) mid_is goes in
    let some = half.some in
    subst (λ (l : List Event). Half old new l) (sym is) (record {
      count = suc half.count;
      some = omega (arith, some);
      put = put_more old mid new event (take half.count (next ∷ rest)) first half.put;
      rest = half.rest;
    })

-- ---- where a move begins

pub work_is : (relay : Relaying) (move : ℕ → Message → List Event) (txn : ℕ) (message : Message) → IsWork relay move → made_of relay.world.sides ≡ suc txn → slice_get relay.work txn ≡ Some message → moves relay.world.sides relay.work ≡ move txn message
work_is relay move txn message work made at =
    let same : work.0 ≡ txn = let a = work.2 in omega (arith, a, made) in
    let message_is : work.1 ≡ message = same_Some work.1 message (sym work.3 ∙ ap (slice_get relay.work) same ∙ at) in
    work.4 ∙ ap (λ x. move x work.1) same ∙ ap (move txn) message_is

pub work_next : (old mid : Relaying) (event : Event) (move : ℕ → Message → List Event) (txn : ℕ) (message : Message) (rest : List Event) → PutFirst old mid event → made_of old.world.sides ≡ suc txn → slice_get old.work txn ≡ Some message → moves old.world.sides old.work ≡ event ∷ rest → rest ≡ move txn message → IsWork mid move
work_next old mid event move txn message rest first made at is same =
    (txn, message, first.made_is ∙ made, ap (λ w. slice_get w txn) first.work ∙ at, first.rest ∙ ap (drop 1) is ∙ same)

-- ---- an item that is put

-- the stage and what is answered
pub record PutDone (old new : TwoParties Board ListIds) (work : List Message) (made put : ℕ) (event : Event) : Type 0 where
  pub first : PutFirst (relay_of old work) (relay_of new work) event
  pub stands : Stands new.sides (taken_of new.below) work made (put + 1)

pub put_done : (next : ListIds → ℕ → TransactionId) (starts : ListIds → Option (ℕ → TransactionId)) (old new : TwoParties Board ListIds) (work : List Message) (made put : ℕ) (event : Event) (h : Happened)
    → Stands old.sides (taken_of old.below) work made put → IsFirst (relay_of old work) event → EventSays told_by next starts old new event (Ok h) → PutDone old new work made put event
put_done next starts old new work made put event h s first says =
    let puts = put_next next starts old new work made put event first.1 h s first.2 first.0 says in record {
      first = record {
        turn = puts.one.turn;
        below = puts.one.below;
        ids = puts.one.ids;
        work = refl;
        made_is = puts.made_is;
        rest = puts.rest;
      };
      stands = (let more : suc put ≡ put + 1 = omega arith in subst (λ (n : ℕ). Stands new.sides (taken_of new.below) work made n) more puts.stands);
    }

-- where memory runs out all is as it was
pub same_stands : (next : ListIds → ℕ → TransactionId) (starts : ListIds → Option (ℕ → TransactionId)) (old new : TwoParties Board ListIds) (work : List Message) (made put : ℕ) (event : Event) (error : NoMemory)
    → Stands old.sides (taken_of old.below) work made put → EventSays told_by next starts old new event (Err error) → Stands new.sides (taken_of new.below) work made put
same_stands next starts old new work made put event error s says = subst (λ (w : TwoParties Board ListIds). Stands w.sides (taken_of w.below) work made put) (sym says.err) s

-- the declare
pub declare_goes : (next : ListIds → ℕ → TransactionId) (starts : ListIds → Option (ℕ → TransactionId)) (old new : TwoParties Board ListIds) (work : List Message) (made put : ℕ) (h : Happened)
    → Stands old.sides (taken_of old.below) work made put → moves old.sides work ≡ events.Declare 0 ∷ [] → EventSays told_by next starts old new (events.Declare 0) (Ok h)
    → Goes (relay_of old work) (relay_of new work) (Ok h) × Stands new.sides (taken_of new.below) work (made + 1) 0
declare_goes next starts old new work made put h s is says =
    let d = declare_next next starts old new work made put h s is says in
    let more : suc made ≡ made + 1 = omega arith in (
      subst (λ (l : List Event). Moved (relay_of old work) (relay_of new work) l h) (sym is) (
        d.one.happened,
        record {
          follows = ([], [], new.sides, refl, d.one.turn, (refl, refl));
          below = d.one.below;
          ids = d.one.ids;
          work = refl;
        },
      ),
      subst (λ (n : ℕ). Stands new.sides (taken_of new.below) work n 0) more d.stands,
    )

-- ---- what the calls require

pub declare_room : (world : TwoParties Board ListIds) (work : List Message) (made put : ℕ) → Stands world.sides (taken_of world.below) work made put → moves world.sides work ≡ events.Declare 0 ∷ [] → made + 1 ≤ 4294967295
declare_room world work made put s is =
    let within = declare_within world.sides (taken_of world.below) work made put s is in
    let few = s.few in
    omega (arith, within, few)

pub declare_made : (world : TwoParties Board ListIds) (work : List Message) (made put : ℕ) → Stands world.sides (taken_of world.below) work made put → moves world.sides work ≡ events.Declare 0 ∷ [] → made_of world.sides < 4294967295
declare_made world work made put s is =
    let room = declare_room world work made put s is in
    let is_made = s.made_is in
    omega (arith, room, is_made)

pub work_made : (relay : Relaying) (move : ℕ → Message → List Event) → IsWork relay move → 1 ≤ made_of relay.world.sides
work_made relay move work = let a = work.2 in omega (arith, a)

pub work_within : (relay : Relaying) (move : ℕ → Message → List Event) (txn : ℕ) → IsWork relay move → made_of relay.world.sides ≡ suc txn → txn < length relay.work
work_within relay move txn work made =
    let a = work.2 in
    let b = slice_get_within relay.work work.0 work.1 work.3 in
    omega (arith, a, b, made)

-- the message of the last transaction
pub work_message : (relay : Relaying) (move : ℕ → Message → List Event) (txn : ℕ) → (work : IsWork relay move) → made_of relay.world.sides ≡ suc txn → slice_get relay.work txn ≡ Some work.1
work_message relay move txn work made =
    let same : work.0 ≡ txn = let a = work.2 in omega (arith, a, made) in
    ap (slice_get relay.work) (sym same) ∙ work.3

-- ---- what an event answers

-- an event of the two parties is what it did, and the relay stands
pub says : (draws : Draws) (now : Relaying) (world new : TwoParties Board ListIds) (work : List Message) (made put : ℕ) (event this : RelayEvent) (result : Result Happened NoMemory)
    → relay_of world work ≡ now → event ≡ this → IfOk result (Happens draws (relay_of world work) (relay_of new work) this) → OnErr result (LeavesSome (relay_of world work) (relay_of new work) this)
    → Stands new.sides (taken_of new.below) work made put → RelaySays draws now (relay_of new work) event result
says draws now world new work made put event this result view is happens err stands =
    subst (λ (r : Relaying). RelaySays draws r (relay_of new work) event result) view
    (subst (λ (e : RelayEvent). RelaySays draws (relay_of world work) (relay_of new work) e result) (sym is) (record {
      happens = happens;
      err = err;
      holds = holds (relay_of new work) made put stands;
    }))

-- what Go answers
pub go_says : (draws : Draws) (old new : Relaying) (event : RelayEvent) (result : Result Happened NoMemory) → event ≡ relay_events.Go → Goes old new result → Holds new → RelaySays draws old new event result
go_says draws old new event (Ok h) is goes hold = subst (λ (e : RelayEvent). RelaySays draws old new e (Ok h)) (sym is) (record { happens = goes; err = tt; holds = hold })
go_says draws old new event (Err error) is goes hold = subst (λ (e : RelayEvent). RelaySays draws old new e (Err error)) (sym is) (record { happens = tt; err = goes; holds = hold })

-- ---- what the code finds, by the view of the relay

pub first_begins : (now : Relaying) (world : TwoParties Board ListIds) (work : List Message) (made put x : ℕ) (n : Next) → relay_of world work ≡ now → Stands world.sides (taken_of world.below) work made put → made ≡ suc x → heard now.world.sides x ≡ hearings.Committed → n ≡ next_for (slice_get now.work (made_of now.world.sides)) → BeginsWith now n
first_begins now world work made put x n view s mk h is =
    subst (λ (r : Relaying). heard r.world.sides x ≡ hearings.Committed → n ≡ next_for (slice_get r.work (made_of r.world.sides)) → BeginsWith r n) view
    (λ h is. begins_first (relay_of world work) made put x n s mk h is) h is

pub after_begins : (now : Relaying) (world : TwoParties Board ListIds) (work : List Message) (made put x : ℕ) (n : Next) → relay_of world work ≡ now → Stands world.sides (taken_of world.below) work made put → made ≡ suc x → heard now.world.sides x ≡ hearings.Nothing → n ≡ next_after (put_since now.world.sides x) → BeginsWith now n
after_begins now world work made put x n view s mk h is =
    subst (λ (r : Relaying). heard r.world.sides x ≡ hearings.Nothing → n ≡ next_after (put_since r.world.sides x) → BeginsWith r n) view
    (λ h is. begins_after (relay_of world work) made put x n s mk h is) h is

pub none_begins : (now : Relaying) (world : TwoParties Board ListIds) (work : List Message) (made put x : ℕ) (h : Heard) → relay_of world work ≡ now → Stands world.sides (taken_of world.below) work made put → made ≡ suc x → heard now.world.sides x ≡ h → (h ≡ hearings.Committed → ⊥) → (h ≡ hearings.Nothing → ⊥) → moves now.world.sides now.work ≡ []
none_begins now world work made put x h view s mk e a b =
    subst (λ (r : Relaying). heard r.world.sides x ≡ h → moves r.world.sides r.work ≡ []) view
    (λ e. no_moves (relay_of world work) made put x h s mk e a b) e

pub last_counts : (now : Relaying) (world : TwoParties Board ListIds) (work : List Message) (made put x : ℕ) → relay_of world work ≡ now → Stands world.sides (taken_of world.below) work made put → made ≡ suc x → heard now.world.sides x ≡ hearings.Committed → made ≡ heard_committed now.world.sides
last_counts now world work made put x view s mk e =
    subst (λ (r : Relaying). heard r.world.sides x ≡ hearings.Committed → made ≡ heard_committed r.world.sides) view
    (λ e. counted_last (relay_of world work) made put x s mk e) e

pub others_count : (now : Relaying) (world : TwoParties Board ListIds) (work : List Message) (made put x : ℕ) (h : Heard) → relay_of world work ≡ now → Stands world.sides (taken_of world.below) work made put → made ≡ suc x → heard now.world.sides x ≡ h → (h ≡ hearings.Committed → ⊥) → x ≡ heard_committed now.world.sides
others_count now world work made put x h view s mk e other =
    subst (λ (r : Relaying). heard r.world.sides x ≡ h → x ≡ heard_committed r.world.sides) view
    (λ e. counted_others (relay_of world work) made put x h s mk e other) e

pub start_begins : (now : Relaying) (world : TwoParties Board ListIds) (work : List Message) (made put : ℕ) (n : Next) → relay_of world work ≡ now → Stands world.sides (taken_of world.below) work made put → made ≡ 0 → n ≡ next_for (slice_get now.work (made_of now.world.sides)) → BeginsWith now n
start_begins now world work made put n view s none is =
    subst (λ (r : Relaying). n ≡ next_for (slice_get r.work (made_of r.world.sides)) → BeginsWith r n) view
    (λ is. begins_start (relay_of world work) made put n s none is) is

pub none_count : (now : Relaying) (world : TwoParties Board ListIds) (work : List Message) (made put : ℕ) → relay_of world work ≡ now → Stands world.sides (taken_of world.below) work made put → made ≡ 0 → 0 ≡ heard_committed now.world.sides
none_count now world work made put view s none =
    subst (λ (r : Relaying). 0 ≡ heard_committed r.world.sides) view (sym (counted_none (relay_of world work) made put s none))

pub made_now : (now : Relaying) (world : TwoParties Board ListIds) (work : List Message) (made put x : ℕ) → relay_of world work ≡ now → Stands world.sides (taken_of world.below) work made put → made ≡ suc x → made_of now.world.sides ≡ suc x
made_now now world work made put x view s mk = subst (λ (r : Relaying). made_of r.world.sides ≡ suc x) view (s.made_is ∙ mk)
