-- Each event that is no arrival is a turn, and keeps what is so.
use Rattle.std.proofs.Common.{◌≡◌, ℕ, ◌+◌, ◌<◌, ◌≤◌, Bool, true, false, cond, not, ◌||◌, ◌&&◌, Option, Some, None, Result, Ok, Err, List, [], ◌∷◌, ◌++◌, length, get_or, take, drop, refl, sym, ◌∙◌, ap, arith, subst, ◌⊎◌, inl, inr}
use Rattle.std.specs.Prelude.{IfOk, OnErr, nat_lt, slice_get, option_map}
use Rattle.std.specs.List.{list_any}
use Rattle.std.proofs.lemmas.Bool.{lt-ltb, ltb-true, false_from_ne_true}
use Rattle.std.proofs.lemmas.Option.{slice_get_cases, slice_get_within}
use Rattle.std.proofs.lemmas.List.{drop_all}
use Rattle.amqp_txn_types.specs.declared.id.TransactionId.{TransactionId}
use Rattle.amqp_txn_types.specs.declared.items.NoMemory.{NoMemory}
use Rattle.amqp_txn_types.specs.declared.performatives.Frame.{Frame}
use Rattle.amqp_txn_types.specs.Frames.{is_plain_frame}
use Rattle.txn_parties.specs.declared.event.Event.{Event}
use Rattle.txn_parties.specs.declared.event.Event.TheVariants as events
use Rattle.txn_parties.specs.declared.event.Happened.{Happened}
use Rattle.txn_parties.specs.declared.event.Happened.TheVariants as happenings
use Rattle.txn_parties.specs.declared.item.Item.{Item}
use Rattle.txn_parties.specs.declared.item.Item.TheVariants as items
use Rattle.txn_parties.specs.declared.item.Answered.{Answered}
use Rattle.txn_parties.specs.declared.item.Asked.{Asked}
use Rattle.txn_parties.specs.declared.item.Asked.TheVariants as asked
use Rattle.txn_parties.specs.Items.{controller_in, ends_link, is_discharge, item_ends}
use Rattle.txn_parties.specs.Exchange.{Exchange, forward, made}
use Rattle.txn_parties.specs.Turns.{Turn, TurnCut, TurnPut, TurnReturn, discharge_of, frame_under, has_link, if_id, if_link, put_of, with_heard, with_put}
use Rattle.txn_parties.proofs.Turning.{keeps_turn}
use Rattle.txn_world_wires.specs.declared.controllers.Controllers.{Controllers}
use Rattle.txn_world_wires.specs.declared.controllers.Transaction.{Transaction}
use Rattle.txn_world_wires.specs.declared.parties.Parties.{Parties}
use Rattle.txn_world_wires.specs.Knowing.{has_ended, hearing, id_of, is_open_at, is_sent, is_unended, link_of, with_transaction}
use Rattle.txn_world_wires.specs.Table.{AwaitsFit, Tabled}
use Rattle.txn_world_wires.specs.Parties.{Sound, exchange_of}
use Rattle.txn_world_wires.specs.Putting.{beside, discharge_event, discharges_by, to_discharge, with_item, working_id}
use Rattle.txn_world_wires.specs.Moves.{Moves, MovesParties}
use Rattle.txn_world_wires.proofs.Lists.{drop-get, take-get}
use Rattle.txn_world_wires.proofs.Tables.{Puts, awaited_first, item_ends-split, puts_frame, tabled_heard, tabled_put, tabled_same}

-- an event that may put an item
abbrev pub IsPut : Event → Type 0
IsPut e = (w : Exchange) (h : Happened) (d : List TransactionId) (new : Exchange) → TurnPut w (put_of w e) h d new → Turn w e h d new

pub put_moves : (sure : Bool) (p : Parties) (i : Item) (k : Controllers) (e : Event) → IsPut e → Sound sure p → put_of (exchange_of sure p) e ≡ Some i → Puts p.controllers k i → Moves sure p e happenings.Put (record p { waiting = p.waiting ++ i ∷ []; controllers = k })
put_moves sure p i k e put s o puts =
    let w = exchange_of sure p in
    let new = with_put w i in
    let turned : TurnPut w (put_of w e) happenings.Put [] new = subst (λ (x : Option Item). TurnPut w x happenings.Put [] new) (sym o) (refl, refl, refl) in
    let turn = put w happenings.Put [] new turned in
    record {
      turn = turn;
      sound = record {
        keeps = keeps_turn w new e happenings.Put [] s.keeps turn;
        counted = s.counted;
        returned = s.returned;
        table = tabled_put p.controllers k w i s.table puts;
      };
      entries = refl;
      attached = refl;
      tags = refl;
      stop = refl;
    }

pub skip_moves : (sure : Bool) (p : Parties) (e : Event) → IsPut e → Sound sure p → put_of (exchange_of sure p) e ≡ None → Moves sure p e happenings.Skipped p
skip_moves sure p e put s o =
    let w = exchange_of sure p in
    let turned : TurnPut w (put_of w e) happenings.Skipped [] w = subst (λ (x : Option Item). TurnPut w x happenings.Skipped [] w) (sym o) (refl, refl, refl) in
    record {
      turn = put w happenings.Skipped [] w turned;
      sound = s;
      entries = refl;
      attached = refl;
      tags = refl;
      stop = refl;
    }

-- a frame was put, or memory ran out
pub frame_moves : (p q : Parties) (e : Event) (frame : Frame) (result : Result Happened NoMemory) → IsPut e → ((sure : Bool) → Sound sure p → put_of (exchange_of sure p) e ≡ Some (items.Frame frame)) → IfOk result (λ h. (h ≡ happenings.Put) × (q ≡ with_item p (items.Frame frame))) → OnErr result (q ≡ p) → MovesParties p e result q
frame_moves p q e frame (Ok h) put puts ok err = record {
  moves = λ sure s. subst (λ (x : Happened). Moves sure p e x q) (sym ok.0) (subst (λ (x : Parties). Moves sure p e happenings.Put x) (sym ok.1) (put_moves sure p (items.Frame frame) p.controllers e put s (puts sure s) (puts_frame p.controllers frame)));
  err = tt;
}
frame_moves p q e frame (Err error) put puts ok err = record { moves = tt; err = err }

pub plain_put : (w : Exchange) (f g : Frame) → is_plain_frame f ≡ true → g ≡ f → put_of w (events.Plain f) ≡ Some (items.Frame g)
plain_put w f g h e = ap (λ (b : Bool). cond b (Some (items.Frame f)) None) h ∙ ap (λ (x : Frame). Some (items.Frame x)) (sym e)

-- ---- what an event puts, by what the controllers know

pub open_is : (known : Controllers) (w : Exchange) (c : ℕ) → Tabled known w → is_open_at known c ≡ has_link w c
open_is known w c t = by_case (slice_get_cases known.ended c).1
  where
    by_case : ((b : Bool) × (c < length known.ended) × (slice_get known.ended c ≡ Some b) × (get_or known.ended c b ≡ b)) ⊎ ((length known.ended ≤ c) × (slice_get known.ended c ≡ None)) → is_open_at known c ≡ has_link w c
    by_case (inl h) =
        let within : c < length w.first = let l = t.links in let m = h.1 in omega (arith, l, m) in
        let unended : is_unended (slice_get known.ended c) ≡ not h.0 = ap is_unended h.2 in
        let ended : h.0 ≡ list_any (ends_link c) (forward w) = sym (ap has_ended h.2) ∙ t.ended c in
        unended ∙ ap not ended ∙ sym (ap (λ b. b && not (list_any (ends_link c) (forward w))) (lt-ltb c (length w.first) within))
    by_case (inr h) =
        let past : nat_lt c (length w.first) ≡ false = false_from_ne_true (nat_lt c (length w.first)) (λ e. let l = ltb-true c (length w.first) e in let m = t.links in let o = h.0 in omega (arith, l, m, o)) in
        ap is_unended h.1 ∙ sym (ap (λ b. b && not (list_any (ends_link c) (forward w))) past)

pub declare_put : (known : Controllers) (w : Exchange) (c : ℕ) → Tabled known w → is_open_at known c ≡ true → put_of w (events.Declare c) ≡ Some (items.Declare (length known.transactions) c)
declare_put known w c t o = ap (λ b. cond b (Some (items.Declare (made w) c)) None) (sym (open_is known w c t) ∙ o) ∙ ap (λ n. Some (items.Declare n c)) (sym t.made)

pub declare_none : (known : Controllers) (w : Exchange) (c : ℕ) → Tabled known w → is_open_at known c ≡ false → put_of w (events.Declare c) ≡ None
declare_none known w c t o = ap (λ b. cond b (Some (items.Declare (made w) c)) None) (sym (open_is known w c t) ∙ o)

pub end_put : (known : Controllers) (w : Exchange) (c : ℕ) → Tabled known w → is_open_at known c ≡ true → put_of w (events.LinkEnd c) ≡ Some (items.LinkEnd c)
end_put known w c t o = ap (λ b. cond b (Some (items.LinkEnd c)) None) (sym (open_is known w c t) ∙ o)

pub end_none : (known : Controllers) (w : Exchange) (c : ℕ) → Tabled known w → is_open_at known c ≡ false → put_of w (events.LinkEnd c) ≡ None
end_none known w c t o = ap (λ b. cond b (Some (items.LinkEnd c)) None) (sym (open_is known w c t) ∙ o)

-- an open link is one of the table
pub open_within : (known : Controllers) (c : ℕ) → is_open_at known c ≡ true → c < length known.ended
open_within known c o = by_case (slice_get known.ended c) refl o
  where
    by_case : (e : Option Bool) → slice_get known.ended c ≡ e → is_unended e ≡ true → c < length known.ended
    by_case None h u = cc u
    by_case (Some b) h u = slice_get_within known.ended c b h

abbrev pub item_under : Option TransactionId → (TransactionId → Frame) → Option Item
item_under o f = option_map (λ id. items.Frame (f id)) o

frame_by : (o : Option Transaction) (f : TransactionId → Frame) → if_id (id_of o) (λ id. cond (is_sent o) None (Some (items.Frame (f id)))) ≡ item_under (working_id o) f
frame_by None f = refl
frame_by (Some txn) f = each txn.sent txn.id
  where
    each : (b : Bool) (id : Option TransactionId) → if_id id (λ t. cond b None (Some (items.Frame (f t)))) ≡ item_under (cond b None id) f
    each true None = refl
    each true (Some t) = refl
    each false None = refl
    each false (Some t) = refl

pub frame_put : (known : Controllers) (w : Exchange) (x : ℕ) (f : TransactionId → Frame) → Tabled known w → frame_under w x f ≡ item_under (working_id (slice_get known.transactions x)) f
frame_put known w x f t =
    ap (λ o. if_id o (λ id. cond (list_any (is_discharge x) (forward w)) None (Some (items.Frame (f id))))) (sym (t.id x))
    ∙ ap (λ b. if_id (id_of (slice_get known.transactions x)) (λ id. cond b None (Some (items.Frame (f id))))) (sym (t.sent x))
    ∙ frame_by (slice_get known.transactions x) f

abbrev pub item_to_discharge : ℕ → Bool → Option (Transaction × TransactionId) → Option Item
item_to_discharge x rb None = None
item_to_discharge x rb (Some p) = Some (items.Discharge x p.0.link p.1 rb)

discharge_by : (known : Controllers) (x : ℕ) (rb : Bool) (o : Option Transaction) → if_id (id_of o) (λ id. if_link (link_of o) (λ k. cond (is_sent o || has_ended (slice_get known.ended k)) None (Some (items.Discharge x k id rb)))) ≡ item_to_discharge x rb (discharges_by known o)
discharge_by known x rb None = refl
discharge_by known x rb (Some txn) = each (txn.sent || has_ended (slice_get known.ended txn.link)) txn.id
  where
    each : (b : Bool) (id : Option TransactionId) → if_id id (λ t. cond b None (Some (items.Discharge x txn.link t rb))) ≡ item_to_discharge x rb (cond b None (beside txn id))
    each true None = refl
    each true (Some t) = refl
    each false None = refl
    each false (Some t) = refl

discharge_ends : (x : ℕ) (rb : Bool) (id : Option TransactionId) (l : Option ℕ) (f g : ℕ → Bool) → ((k : ℕ) → f k ≡ g k) → if_id id (λ u. if_link l (λ k. cond (f k) None (Some (items.Discharge x k u rb)))) ≡ if_id id (λ u. if_link l (λ k. cond (g k) None (Some (items.Discharge x k u rb))))
discharge_ends x rb None l f g e = refl
discharge_ends x rb (Some u) None f g e = refl
discharge_ends x rb (Some u) (Some k) f g e = ap (λ (b : Bool). cond b None (Some (items.Discharge x k u rb))) (e k)

ended_by : (known : Controllers) (w : Exchange) (x k : ℕ) → Tabled known w → list_any (item_ends x k) (forward w) ≡ (is_sent (slice_get known.transactions x) || has_ended (slice_get known.ended k))
ended_by known w x k t = item_ends-split x k (forward w) ∙ ap (λ b. b || list_any (ends_link k) (forward w)) (sym (t.sent x)) ∙ ap (λ b. is_sent (slice_get known.transactions x) || b) (sym (t.ended k))

pub discharge_put : (known : Controllers) (w : Exchange) (x : ℕ) (rb : Bool) → Tabled known w → discharge_of w x rb ≡ item_to_discharge x rb (to_discharge known x)
discharge_put known w x rb t =
    let o = slice_get known.transactions x in
    ap (λ (id : Option TransactionId). if_id id (λ u. if_link (controller_in x (forward w)) (λ k. cond (list_any (item_ends x k) (forward w)) None (Some (items.Discharge x k u rb))))) (sym (t.id x))
    ∙ ap (λ (l : Option ℕ). if_id (id_of o) (λ u. if_link l (λ k. cond (list_any (item_ends x k) (forward w)) None (Some (items.Discharge x k u rb))))) (sym (t.link x))
    ∙ discharge_ends x rb (id_of o) (link_of o) (λ k. list_any (item_ends x k) (forward w)) (λ k. is_sent o || has_ended (slice_get known.ended k)) (λ k. ended_by known w x k t)
    ∙ discharge_by known x rb o

free_of : (u : Transaction) (o : Option Asked) → u.awaits ≡ o → AwaitsFit u o → u.sent ≡ false → (v : TransactionId) → u.id ≡ Some v → u.awaits ≡ None
free_of u None h f s v i = h
free_of u (Some asked.Declare) h f s v i = cc (f, i)
free_of u (Some asked.Commit) h f s v i = cc (f, s)
free_of u (Some asked.Rollback) h f s v i = cc (f, s)

not_sent : (a b : Bool) → (a || b) ≡ false → a ≡ false
not_sent true b h = cc h
not_sent false b h = refl

some_pair : (p q : Transaction × TransactionId) → Some p ≡ Some q → p ≡ q
some_pair p q e = cc e

by_flag : (known : Controllers) (x : ℕ) (txn : Transaction) (id : TransactionId) (u : Transaction) (b : Bool) → AwaitsFit u u.awaits → (u.sent || has_ended (slice_get known.ended u.link)) ≡ b → (o : Option TransactionId) → u.id ≡ o → slice_get known.transactions x ≡ Some u → cond b None (beside u o) ≡ Some (txn, id) → (slice_get known.transactions x ≡ Some txn) × (txn.awaits ≡ None)
by_flag known x txn id u true f h o i g e = cc e
by_flag known x txn id u false f h None i g e = cc e
by_flag known x txn id u false f h (Some v) i g e =
    let same : u ≡ txn = ap (λ (q : Transaction × TransactionId). q.0) (some_pair (u, v) (txn, id) e) in
    let unsent : u.sent ≡ false = not_sent u.sent (has_ended (slice_get known.ended u.link)) h in
    (g ∙ ap Some same, subst (λ (y : Transaction). y.awaits ≡ None) same (free_of u u.awaits refl f unsent v i))

-- one that may be discharged awaits no answer
pub nothing_awaited : (known : Controllers) (w : Exchange) (x : ℕ) (txn : Transaction) (id : TransactionId) → Tabled known w → to_discharge known x ≡ Some (txn, id) → (slice_get known.transactions x ≡ Some txn) × (txn.awaits ≡ None)
nothing_awaited known w x txn id t e = found (slice_get known.transactions x) refl e
  where
    found : (o : Option Transaction) → slice_get known.transactions x ≡ o → discharges_by known o ≡ Some (txn, id) → (slice_get known.transactions x ≡ Some txn) × (txn.awaits ≡ None)
    found None g d = cc d
    found (Some u) g d = by_flag known x txn id u (u.sent || has_ended (slice_get known.ended u.link)) (t.fits x u g) refl u.id refl g d

pub discharge_is_put : (x : ℕ) (rb : Bool) → IsPut (discharge_event x rb)
discharge_is_put x true = λ w h d new t. t
discharge_is_put x false = λ w h d new t. t

pub discharge_of-event : (w : Exchange) (x : ℕ) (rb : Bool) → put_of w (discharge_event x rb) ≡ discharge_of w x rb
discharge_of-event w x true = refl
discharge_of-event w x false = refl

-- ---- a return, and the cut

turn_return : (w new : Exchange) (a : Answered) (rest : List Answered) → w.cut ≡ false → w.coming ≡ a ∷ rest → new ≡ with_heard w a rest → TurnReturn w w.cut w.coming happenings.Heard [] new
turn_return w new a rest c e n =
    subst (λ (b : Bool). TurnReturn w b w.coming happenings.Heard [] new) (sym c)
    (subst (λ (l : List Answered). TurnReturn w false l happenings.Heard [] new) (sym e) (refl, refl, n))

with_parts : (w : Exchange) (told coming : List Answered) (a : Answered) (rest : List Answered) → told ≡ w.told ++ a ∷ [] → coming ≡ rest → ◌≡◌ {A = Exchange} (record w { told = told; coming = coming }) (with_heard w a rest)
with_parts w told coming a rest e f = ap (λ (l : List Answered). record w { told = l; coming = coming }) e ∙ ap (λ (l : List Answered). record w { told = w.told ++ a ∷ []; coming = l }) f

pub return_moves : (sure : Bool) (p : Parties) (a : Answered) (u : Transaction) → Sound sure p → p.cut ≡ false → slice_get p.answers p.returned ≡ Some a → slice_get p.controllers.transactions a.txn ≡ Some u → Moves sure p events.Return happenings.Heard (record p { returned = p.returned + 1; controllers = with_transaction p.controllers a.txn (hearing u a) })
return_moves sure p a u s c e f =
    let w = exchange_of sure p in
    let rest = drop (p.returned + 1) p.answers in
    let new = record w { told = take (p.returned + 1) p.answers; coming = rest } in
    let coming : w.coming ≡ a ∷ rest = drop-get p.answers p.returned a e in
    let is : new ≡ with_heard w a rest = with_parts w (take (p.returned + 1) p.answers) rest a rest (take-get p.answers p.returned a e) refl in
    let turn = turn_return w new a rest c coming is in
    let awaited = awaited_first p.controllers w a rest s.table coming in
    let own : u ≡ awaited.0 = let g = sym f ∙ awaited.1 in cc g in
    let awaits : u.awaits ≡ Some a.asked = subst (λ (y : Transaction). y.awaits ≡ Some a.asked) (sym own) awaited.2 in
    record {
      turn = turn;
      sound = record {
        keeps = keeps_turn w new events.Return happenings.Heard [] s.keeps turn;
        counted = s.counted;
        returned = let l = slice_get_within p.answers p.returned a e in omega (arith, l);
        table = subst (λ (x : Exchange). Tabled (with_transaction p.controllers a.txn (hearing u a)) x) (sym is) (tabled_heard p.controllers w a rest u s.table coming f awaits);
      };
      entries = refl;
      attached = refl;
      tags = refl;
      stop = refl;
    }

-- an answer is to a transaction of the table
pub answer_known : (sure : Bool) (p : Parties) (a : Answered) → Sound sure p → slice_get p.answers p.returned ≡ Some a → slice_get p.controllers.transactions a.txn ≡ None → ⊥
answer_known sure p a s e n =
    let awaited = awaited_first p.controllers (exchange_of sure p) a (drop (p.returned + 1) p.answers) s.table (drop-get p.answers p.returned a e) in
    let g = sym n ∙ awaited.1 in cc g

-- and the transaction awaits it
pub answer_awaited : (sure : Bool) (p : Parties) (a : Answered) (u : Transaction) → Sound sure p → slice_get p.answers p.returned ≡ Some a → slice_get p.controllers.transactions a.txn ≡ Some u → u.awaits ≡ Some a.asked
answer_awaited sure p a u s e f =
    let awaited = awaited_first p.controllers (exchange_of sure p) a (drop (p.returned + 1) p.answers) s.table (drop-get p.answers p.returned a e) in
    let own : u ≡ awaited.0 = let g = sym f ∙ awaited.1 in cc g in
    subst (λ (y : Transaction). y.awaits ≡ Some a.asked) (sym own) awaited.2

pub return_skips : (sure : Bool) (p : Parties) → Sound sure p → (p.cut ≡ true) ⊎ (length p.answers ≤ p.returned) → Moves sure p events.Return happenings.Skipped p
return_skips sure p s c = record {
  turn = turn c;
  sound = s;
  entries = refl;
  attached = refl;
  tags = refl;
  stop = refl;
}
  where
    turn : (p.cut ≡ true) ⊎ (length p.answers ≤ p.returned) → TurnReturn (exchange_of sure p) p.cut (drop p.returned p.answers) happenings.Skipped [] (exchange_of sure p)
    turn (inl h) = subst (λ (b : Bool). TurnReturn (exchange_of sure p) b (drop p.returned p.answers) happenings.Skipped [] (exchange_of sure p)) (sym h) (refl, refl, refl)
    turn (inr h) = subst (λ (l : List Answered). TurnReturn (exchange_of sure p) p.cut l happenings.Skipped [] (exchange_of sure p)) (sym (drop_all p.returned p.answers h)) (none p.cut)
      where
        none : (b : Bool) → TurnReturn (exchange_of sure p) b [] happenings.Skipped [] (exchange_of sure p)
        none true = (refl, refl, refl)
        none false = (refl, refl, refl)

pub cut_moves : (sure : Bool) (p : Parties) → Sound sure p → p.cut ≡ false → Moves sure p events.Cut happenings.Cut (record p { cut = true })
cut_moves sure p s c =
    let w = exchange_of sure p in
    let new : Exchange = record w { cut = true } in
    let turn : TurnCut w w.cut happenings.Cut [] new = subst (λ (b : Bool). TurnCut w b happenings.Cut [] new) (sym c) (refl, refl, refl) in
    record {
      turn = turn;
      sound = record {
        keeps = keeps_turn w new events.Cut happenings.Cut [] s.keeps turn;
        counted = s.counted;
        returned = s.returned;
        table = tabled_same p.controllers w new s.table refl refl refl refl refl;
      };
      entries = refl;
      attached = refl;
      tags = refl;
      stop = refl;
    }

pub cut_skips : (sure : Bool) (p : Parties) → Sound sure p → p.cut ≡ true → Moves sure p events.Cut happenings.Skipped p
cut_skips sure p s c = record {
  turn = subst (λ (b : Bool). TurnCut (exchange_of sure p) b happenings.Skipped [] (exchange_of sure p)) (sym c) (refl, refl, refl);
  sound = s;
  entries = refl;
  attached = refl;
  tags = refl;
  stop = refl;
}
