-- The moves of Go: what each event of one puts, and the stage after it.
use Rattle.std.proofs.Common.{◌≡◌, ℕ, zero, suc, ◌+◌, ◌≤◌, Bool, true, false, cond, not, ◌&&◌, ◌||◌, Option, Some, None, List, [], ◌∷◌, ◌++◌, length, take, drop, refl, sym, ◌∙◌, ap, arith, subst, append-nil, append_assoc, Result, Ok}
use Rattle.std.specs.Prelude.{◌==◌, nat_lt, slice_get}
use Rattle.std.specs.List.{list_any}
use Rattle.std.proofs.Math.Seq.{take-append-add}
use Rattle.std.proofs.lemmas.List.{length-append, length-map}
use Rattle.std.proofs.lemmas.List.Folds.{list_any-append}
use Rattle.std.proofs.lemmas.List.Sums.{sum_by_push}
use Rattle.std.proofs.lemmas.Bool.{eq-eqb}
use Rattle.amqp_txn_types.specs.declared.id.TransactionId.{TransactionId}
use Rattle.amqp_txn_types.specs.declared.items.NoMemory.{NoMemory}
use Rattle.amqp_txn_types.specs.declared.performatives.Frame.{Frame}
use Rattle.amqp_below_ids.specs.declared.list_ids.ListIds.{ListIds}
use Rattle.amqp_resource_record.specs.declared.entry.Entry.{Entry}
use Rattle.txn_broker_queues.specs.declared.message.Message.{Message}
use Rattle.txn_broker_queues.specs.Taking.{Board, taken_of, told_by}
use Rattle.txn_parties.specs.declared.event.Event.{Event}
use Rattle.txn_parties.specs.declared.event.Event.TheVariants as events
use Rattle.txn_parties.specs.declared.event.Happened.{Happened}
use Rattle.txn_parties.specs.declared.event.Happened.TheVariants as happenings
use Rattle.txn_parties.specs.declared.event.Heard.TheVariants as hearings
use Rattle.txn_parties.specs.declared.item.Answered.{Answered}
use Rattle.txn_parties.specs.declared.item.Item.{Item}
use Rattle.txn_parties.specs.declared.item.Item.TheVariants as items
use Rattle.txn_parties.specs.Exchange.{Exchange, back_of, forward, heard, id_heard, items_of, made as made_of, record_of}
use Rattle.txn_parties.specs.Invariant.{Keeps}
use Rattle.txn_parties.specs.Items.{controller_in, ends_link, is_any_declare, is_declare, is_discharge, item_ends, made_in, or_else}
use Rattle.txn_parties.specs.Turns.{Turn, TurnPut, if_id, if_link, put_of, with_put}
use Rattle.txn_parties.proofs.Turning.{forward_put}
use Rattle.txn_parties.proofs.Wires.{controller_in-append}
use Rattle.txn_world.specs.Happening.{EventSays, TwoParties}
use Rattle.txn_world_wires.specs.Putting.{IsDeclare}
use Rattle.txn_relay.specs.Moves.{after_declare, declare_for, moves, post_of, put_since, retirement_of, work_of}
use Rattle.txn_relay.specs.Once.{accepted_commits}
use Rattle.txn_relay.specs.Stages.{Declaring, Last, Open, Stage, Stands, declared, post_item, retirement_item, three}
use Rattle.txn_relay.proofs.Behind.{items-append, no_controller, no_declare, no_discharge, no_end, no_link_end}
use Rattle.txn_relay.proofs.Hearing.{declared_heard, last_id}
use Rattle.txn_relay.proofs.Lasting.{get_past}
use Rattle.txn_relay.proofs.Queues.{get_within, take_get}
use Rattle.txn_relay.proofs.Telling.{All, Ended, IsIdle, IsOpen, LastHeard, Unborn, Waits, Works, any_right, heard_idle, idle_moves, last_is, moves_at, work_moves}

own : (x : ℕ) → (x == x) ≡ true
own x = eq-eqb x x refl

-- ---- what is put

-- one item more on the forward wire, and nothing else
pub record PutOne (old new : TwoParties Board ListIds) (event : Event) (h : Happened) (i : Item) : Type 0 where
  pub happened : h ≡ happenings.Put
  pub turn : Turn old.sides event happenings.Put [] new.sides
  pub sides : new.sides ≡ with_put old.sides i
  pub below : new.below ≡ old.below
  pub ids : new.ids ≡ old.ids

not_arrived : (h : Happened) (r : Result Happened NoMemory) → h ≡ happenings.Put → r ≡ Ok h → r ≡ Ok happenings.Arrived → ⊥
not_arrived h r e a b = let f : happenings.Put ≡ happenings.Arrived = cc in cc f

puts_one : (next : ListIds → ℕ → TransactionId) (starts : ListIds → Option (ℕ → TransactionId)) (old new : TwoParties Board ListIds) (event : Event) (h : Happened) (i : Item)
    → ((g : Happened) (d : List TransactionId) → Turn old.sides event g d new.sides → TurnPut old.sides (put_of old.sides event) g d new.sides)
    → put_of old.sides event ≡ Some i → EventSays told_by next starts old new event (Ok h) → PutOne old new event h i
puts_one next starts old new event h i is_put is says =
    let t : TurnPut old.sides (Some i) h says.turn.0 new.sides = subst (λ (o : Option Item). TurnPut old.sides o h says.turn.0 new.sides) is (is_put h says.turn.0 says.turn.1) in
    let quiet = says.quiet (λ f. not_arrived h (Ok h) t.0 refl f) in record {
      happened = t.0;
      turn = subst (λ (g : Happened). Turn old.sides event g [] new.sides) t.0 (subst (λ (d : List TransactionId). Turn old.sides event h d new.sides) t.1 says.turn.1);
      sides = t.2;
      below = quiet.0;
      ids = quiet.1;
    }

-- ---- the forward wire of the last transaction

after_skip : (x : ℕ) (l r : List Item) → list_any (is_declare x) l ≡ false → after_declare x (l ++ r) ≡ after_declare x r
after_skip x [] r e = refl
after_skip x (i ∷ l) r e = by_first (is_declare x i) (λ f. after_skip x l r f) e
  where
    by_first : (b : Bool) → (list_any (is_declare x) l ≡ false → after_declare x (l ++ r) ≡ after_declare x r) → (b || list_any (is_declare x) l) ≡ false → cond b (l ++ r) (after_declare x (l ++ r)) ≡ after_declare x r
    by_first true more e = absurd (cc e)
    by_first false more e = more e

after_more : (x : ℕ) (l : List Item) (i : Item) → list_any (is_declare x) l ≡ true → length (after_declare x (l ++ i ∷ [])) ≡ length (after_declare x l) + 1
after_more x [] i e = absurd (cc e)
after_more x (j ∷ l) i e = by_first (is_declare x j) (λ f. after_more x l i f) e
  where
    by_first : (b : Bool) → (list_any (is_declare x) l ≡ true → length (after_declare x (l ++ i ∷ [])) ≡ length (after_declare x l) + 1) → (b || list_any (is_declare x) l) ≡ true → length (cond b (l ++ i ∷ []) (after_declare x (l ++ i ∷ []))) ≡ length (cond b l (after_declare x l)) + 1
    by_first true more e = length-append l (i ∷ [])
    by_first false more e = more e

-- its items so far are the first of its three
pub forward_open : (w : Exchange) (work : List Message) (x : ℕ) (m : Message) (entry : Entry) (id : TransactionId) (arrived : List (Item × Entry)) (left : List Item) (ahead put : ℕ) (told coming : List Answered)
    → items_of arrived ++ left ≡ three x id m → put ≡ length arrived + ahead → (l : Last w work x m ((items.Declare x 0, entry) ∷ arrived) (take ahead left) told coming)
    → forward w ≡ items_of l.past ++ items.Declare x 0 ∷ take put (three x id m)
forward_open w work x m entry id arrived left ahead put told coming are pk l =
    let long : length (items_of arrived) ≡ length arrived = length-map arrived (λ (p : Item × Entry). p.0) in
    let n : length (items_of arrived) + ahead ≡ put = omega (arith, long, pk) in
    ap (λ a. items_of w.came ++ a) l.waiting_is
    ∙ ap (λ c. items_of c ++ take ahead left) l.came_is
    ∙ ap (λ a. a ++ take ahead left) (items-append l.past ((items.Declare x 0, entry) ∷ arrived))
    ∙ append_assoc (items_of l.past) (items.Declare x 0 ∷ items_of arrived) (take ahead left)
    ∙ ap (λ a. items_of l.past ++ items.Declare x 0 ∷ a) (sym (take-append-add (items_of arrived) left ahead) ∙ ap (λ k. take k (items_of arrived ++ left)) n ∙ ap (take put) are)

-- ---- the stage, with one of its items more

get_left : (arrived : List (Item × Entry)) (left : List Item) (ahead put : ℕ) (all : List Item) (i : Item) → items_of arrived ++ left ≡ all → put ≡ length arrived + ahead → slice_get all put ≡ Some i → slice_get left ahead ≡ Some i
get_left arrived left ahead put all i are pk at =
    let long : length (items_of arrived) ≡ length arrived = length-map arrived (λ (p : Item × Entry). p.0) in
    let n : length (items_of arrived) + ahead ≡ put = omega (arith, long, pk) in
    sym (get_past (items_of arrived) left ahead) ∙ ap (slice_get (items_of arrived ++ left)) n ∙ ap (λ a. slice_get a put) are ∙ at

-- what is so after an item that isn't a declare was put
pub record Puts (old new : TwoParties Board ListIds) (work : List Message) (made put : ℕ) (event : Event) (h : Happened) : Type 0 where
  pub i : Item
  pub one : PutOne old new event h i
  pub stands : Stands new.sides (taken_of new.below) work made (suc put)
  pub made_is : made_of new.sides ≡ made_of old.sides
  pub rest : moves new.sides work ≡ drop 1 (moves old.sides work)

stage_put : (w : Exchange) (work : List Message) (made put count x : ℕ) (m : Message) (i : Item) → (o : IsOpen w work made put count x m) → slice_get (three x o.id m) put ≡ Some i → Stage (with_put w i) work made (suc put) count
stage_put w work made put count x m i o at =
    let l = o.last in
    let here : slice_get o.left o.ahead ≡ Some i = get_left o.arrived o.left o.ahead put (three x o.id m) i o.are o.put_is at in
    Open x m o.entry o.id o.arrived o.left (suc o.ahead) o.made_is (let p = o.put_is in omega (arith, p)) o.count_is (get_within o.ahead o.left i here) o.some o.are o.born
    (record {
      past = l.past;
      behind = l.behind;
      is = l.is;
      came_is = l.came_is;
      waiting_is = ap (λ a. a ++ i ∷ []) l.waiting_is ∙ sym (take_get o.ahead o.left i here);
      told_is = l.told_is;
      coming_is = l.coming_is;
    })

declared_in : (w : Exchange) (work : List Message) (made put count x : ℕ) (m : Message) → IsOpen w work made put count x m → list_any (is_declare x) (forward w) ≡ true
declared_in w work made put count x m o =
    ap (list_any (is_declare x)) (forward_open w work x m o.entry o.id o.arrived o.left o.ahead put (declared x o.id ∷ []) [] o.are o.put_is o.last)
    ∙ any_right (is_declare x) (items_of o.last.past) (items.Declare x 0 ∷ take put (three x o.id m)) (ap (λ b. b || list_any (is_declare x) (take put (three x o.id m))) (own x))

stands_put : (w : Exchange) (taken : List Frame) (work : List Message) (made put x : ℕ) (m : Message) (i : Item) → Stands w taken work made put → (o : IsOpen w work made put (accepted_commits (record_of w)) x m) → Keeps (with_put w i) → is_any_declare i ≡ false → slice_get (three x o.id m) put ≡ Some i
    → Stands (with_put w i) taken work made (suc put)
stands_put w taken work made put x m i s o keeps isnt at = record {
  sure = s.sure;
  link = s.link;
  keeps = keeps;
  stops = s.stops;
  few = s.few;
  made_is = same_made ∙ s.made_is;
  put_few = get_within put (three x o.id m) i at;
  put_is = λ y is.
      let same : y ≡ x = let a = o.made_is in omega (arith, a, is) in
      ap (put_since (with_put w i)) same
      ∙ ap (λ l. length (after_declare x l)) (forward_put w i) ∙ after_more x (forward w) i (declared_in w work made put (accepted_commits (record_of w)) x m o)
      ∙ (let n = s.put_is x o.made_is in omega (arith, n));
  stage = stage_put w work made put (accepted_commits (record_of w)) x m i o at;
  queues = s.queues;
}
  where
    same_made : made_of (with_put w i) ≡ made_of w
    same_made =
        let more = sum_by_push (λ (y : Item). cond (is_any_declare y) 1 0) (forward w) i in
        let none : cond {A = ℕ} (is_any_declare i) 1 0 ≡ 0 = ap (λ b. cond b 1 0) isnt in
        ap made_in (forward_put w i) ∙ omega (arith, more, none)

-- ---- what its events put

id_is : (w : Exchange) (work : List Message) (made put count x : ℕ) (m : Message) → (o : IsOpen w work made put count x m) → id_heard w x ≡ Some o.id
id_is w work made put count x m o = last_id w work x m _ _ _ _ o.last ∙ declared_heard x o.id []

none_in : (w : Exchange) (work : List Message) (made put count x : ℕ) (m : Message) (P : Item → Bool) → (o : IsOpen w work made put count x m) → list_any P (items_of o.last.past) ≡ false → list_any P (items.Declare x 0 ∷ take put (three x o.id m)) ≡ false → list_any P (forward w) ≡ false
none_in w work made put count x m P o a b =
    ap (list_any P) (forward_open w work x m o.entry o.id o.arrived o.left o.ahead put (declared x o.id ∷ []) [] o.are o.put_is o.last)
    ∙ list_any-append P (items_of o.last.past) (items.Declare x 0 ∷ take put (three x o.id m))
    ∙ ap (λ c. c || list_any P (items.Declare x 0 ∷ take put (three x o.id m))) a ∙ b

put_post : (w : Exchange) (work : List Message) (made count x : ℕ) (m : Message) → (o : IsOpen w work made 0 count x m) → put_of w (post_of x m) ≡ Some (post_item o.id m)
put_post w work made count x m o =
    ap (λ t. if_id t (λ t. cond (list_any (is_discharge x) (forward w)) None (Some (post_item t m)))) (id_is w work made 0 count x m o)
    ∙ ap (λ b. cond b None (Some (post_item o.id m))) (none_in w work made 0 count x m (is_discharge x) o (no_discharge x x (omega arith) o.last.past o.last.behind.below) refl)

put_retirement : (w : Exchange) (work : List Message) (made count x : ℕ) (m : Message) → (o : IsOpen w work made 1 count x m) → put_of w (retirement_of x m) ≡ Some (retirement_item o.id m)
put_retirement w work made count x m o =
    ap (λ t. if_id t (λ t. cond (list_any (is_discharge x) (forward w)) None (Some (retirement_item t m)))) (id_is w work made 1 count x m o)
    ∙ ap (λ b. cond b None (Some (retirement_item o.id m))) (none_in w work made 1 count x m (is_discharge x) o (no_discharge x x (omega arith) o.last.past o.last.behind.below) refl)

put_commit : (w : Exchange) (work : List Message) (made count x : ℕ) (m : Message) → (o : IsOpen w work made 2 count x m) → put_of w (events.Commit x) ≡ Some (items.Discharge x 0 o.id false)
put_commit w work made count x m o =
    ap (λ t. if_id t (λ t. if_link (controller_in x (forward w)) (λ k. cond (list_any (item_ends x k) (forward w)) None (Some (items.Discharge x k t false))))) (id_is w work made 2 count x m o)
    ∙ ap (λ c. if_link c (λ k. cond (list_any (item_ends x k) (forward w)) None (Some (items.Discharge x k o.id false)))) link_is
    ∙ ap (λ b. cond b None (Some (items.Discharge x 0 o.id false))) (none_in w work made 2 count x m (item_ends x 0) o (no_end x x 0 (omega arith) o.last.past o.last.behind.below) refl)
  where
    link_is : controller_in x (forward w) ≡ Some 0
    link_is =
        ap (controller_in x) (forward_open w work x m o.entry o.id o.arrived o.left o.ahead 2 (declared x o.id ∷ []) [] o.are o.put_is o.last)
        ∙ controller_in-append x (items_of o.last.past) (items.Declare x 0 ∷ take 2 (three x o.id m))
        ∙ ap (λ c. or_else c (controller_in x (items.Declare x 0 ∷ take 2 (three x o.id m)))) (no_controller x x (omega arith) o.last.past o.last.behind.below)
        ∙ ap (λ b. or_else (cond b (Some 0) None) (controller_in x (take 2 (three x o.id m)))) (own x)

-- the event is the first of the next move: its item is put, and the next move is the rest
pub put_next : (next : ListIds → ℕ → TransactionId) (starts : ListIds → Option (ℕ → TransactionId)) (old new : TwoParties Board ListIds) (work : List Message) (made put : ℕ) (event : Event) (rest : List Event) (h : Happened)
    → Stands old.sides (taken_of old.below) work made put → moves old.sides work ≡ event ∷ rest → (IsDeclare event → ⊥) → EventSays told_by next starts old new event (Ok h) → Puts old new work made put event h
put_next next starts old new work made put event rest h s is not_declare says = by_last (last_is old.sides work made put (accepted_commits (record_of old.sides)) s.stage)
  where
    no_move : moves old.sides work ≡ [] → Puts old new work made put event h
    no_move e = let f : event ∷ rest ≡ [] = sym is ∙ e in absurd (cc f)

    by_left : (o : Option Message) → moves old.sides work ≡ declare_for o → Puts old new work made put event h
    by_left None e = no_move e
    by_left (Some m) e =
        let f : event ∷ rest ≡ events.Declare 0 ∷ [] = sym is ∙ e in
        let g : event ≡ events.Declare 0 = cc f in
        absurd (not_declare (subst IsDeclare (sym g) tt))

    made_same : (i : Item) → is_any_declare i ≡ false → made_of (with_put old.sides i) ≡ made_of old.sides
    made_same i isnt =
        let more = sum_by_push (λ (y : Item). cond (is_any_declare y) 1 0) (forward old.sides) i in
        let none : cond {A = ℕ} (is_any_declare i) 1 0 ≡ 0 = ap (λ b. cond b 1 0) isnt in
        ap made_in (forward_put old.sides i) ∙ omega (arith, more, none)

    made_by : (p : ℕ) (x : ℕ) (m : Message) (i : Item) → put ≡ p → made ≡ suc x → heard old.sides x ≡ hearings.Nothing → slice_get work x ≡ Some m
        → (o : IsOpen old.sides work made p (accepted_commits (record_of old.sides)) x m) → slice_get (three x o.id m) p ≡ Some i → is_any_declare i ≡ false
        → ((g : Happened) (d : List TransactionId) → Turn old.sides event g d new.sides → TurnPut old.sides (put_of old.sides event) g d new.sides)
        → put_of old.sides event ≡ Some i → moves old.sides work ≡ drop p (work_of x m) → drop 1 (drop p (work_of x m)) ≡ drop (suc p) (work_of x m) → Puts old new work made put event h
    made_by p x m i pp mk e at o here isnt is_put put_is before after =
        let one = puts_one next starts old new event h i is_put put_is says in
        let keeps : Keeps (with_put old.sides i) = subst Keeps one.sides says.keeps in
        let st = stands_put old.sides (taken_of old.below) work made p x m i (subst (λ (n : ℕ). Stands old.sides (taken_of old.below) work made n) pp s) o keeps isnt here in
        let st2 : Stands new.sides (taken_of new.below) work made (suc p) =
        subst (λ (v : Exchange). Stands v (taken_of new.below) work made (suc p)) (sym one.sides)
        (subst (λ (b : Board). Stands (with_put old.sides i) (taken_of b) work made (suc p)) (sym one.below) st) in
        let heard_same : heard new.sides x ≡ hearings.Nothing = ap (λ (v : Exchange). heard v x) one.sides ∙ e in record {
          i = i;
          one = one;
          stands = subst (λ (n : ℕ). Stands new.sides (taken_of new.below) work made (suc n)) (sym pp) st2;
          made_is = ap made_of one.sides ∙ made_same i isnt;
          rest = work_moves new.sides (taken_of new.below) work made (suc p) x m st2 mk heard_same at ∙ sym after ∙ sym (ap (drop 1) before);
        }

    by_put : (p : ℕ) (x : ℕ) (m : Message) → put ≡ p → made ≡ suc x → heard old.sides x ≡ hearings.Nothing → slice_get work x ≡ Some m → IsOpen old.sides work made p (accepted_commits (record_of old.sides)) x m → moves old.sides work ≡ drop p (work_of x m) → Puts old new work made put event h
    by_put zero x m pp mk e at o before =
        let f : event ∷ rest ≡ work_of x m = sym is ∙ before in
        let g : event ≡ post_of x m = cc f in
        made_by 0 x m (post_item o.id m) pp mk e at o refl refl
        (subst (λ (k : Event). (h : Happened) (d : List TransactionId) → Turn old.sides k h d new.sides → TurnPut old.sides (put_of old.sides k) h d new.sides) (sym g) (λ h d t. t))
        (ap (put_of old.sides) g ∙ put_post old.sides work made (accepted_commits (record_of old.sides)) x m o) before refl
    by_put (suc zero) x m pp mk e at o before =
        let f : event ∷ rest ≡ drop 1 (work_of x m) = sym is ∙ before in
        let g : event ≡ retirement_of x m = cc f in
        made_by 1 x m (retirement_item o.id m) pp mk e at o refl refl
        (subst (λ (k : Event). (h : Happened) (d : List TransactionId) → Turn old.sides k h d new.sides → TurnPut old.sides (put_of old.sides k) h d new.sides) (sym g) (λ h d t. t))
        (ap (put_of old.sides) g ∙ put_retirement old.sides work made (accepted_commits (record_of old.sides)) x m o) before refl
    by_put (suc (suc zero)) x m pp mk e at o before =
        let f : event ∷ rest ≡ drop 2 (work_of x m) = sym is ∙ before in
        let g : event ≡ events.Commit x = cc f in
        made_by 2 x m (items.Discharge x 0 o.id false) pp mk e at o refl refl
        (subst (λ (k : Event). (h : Happened) (d : List TransactionId) → Turn old.sides k h d new.sides → TurnPut old.sides (put_of old.sides k) h d new.sides) (sym g) (λ h d t. t))
        (ap (put_of old.sides) g ∙ put_commit old.sides work made (accepted_commits (record_of old.sides)) x m o) before refl
    by_put (suc (suc (suc zero))) x m pp mk e at o before = no_move before
    by_put (suc (suc (suc (suc p)))) x m pp mk e at o before = no_move before

    by_last : LastHeard old.sides work made put (accepted_commits (record_of old.sides)) → Puts old new work made put event h
    by_last (All idle) = by_left (slice_get work made) (idle_moves old.sides (taken_of old.below) work made put s (heard_idle old.sides work made (accepted_commits (record_of old.sides)) idle))
    by_last (Unborn x mk each e is) = no_move (moves_at old.sides (taken_of old.below) work made put x hearings.Undeclared s mk e)
    by_last (Works x m each e o) = by_put put x m refl o.made_is e o.last.is o (work_moves old.sides (taken_of old.below) work made put x m s o.made_is e o.last.is)
    by_last (Waits x m mk each e at pk put_it is) = no_move (work_moves old.sides (taken_of old.below) work made put x m s mk e at ∙ ap (λ n. drop n (work_of x m)) pk)
    by_last (Ended x mk each e is) = no_move (moves_at old.sides (taken_of old.below) work made put x hearings.Rejected s mk e)

-- ---- the declare of the next transaction

-- what is so after it was put
pub record Declares (old new : TwoParties Board ListIds) (work : List Message) (made : ℕ) (h : Happened) : Type 0 where
  pub one : PutOne old new (events.Declare 0) h (items.Declare made 0)
  pub stands : Stands new.sides (taken_of new.below) work (suc made) 0

forward_idle : (w : Exchange) (work : List Message) (made count : ℕ) → IsIdle w work made count → forward w ≡ items_of w.came
forward_idle w work made count idle = ap (λ l. items_of w.came ++ l) idle.waiting_is ∙ append-nil (items_of w.came)

declare_put : (w : Exchange) (taken : List Frame) (work : List Message) (made put : ℕ) → Stands w taken work made put → IsIdle w work made (accepted_commits (record_of w)) → put_of w (events.Declare 0) ≡ Some (items.Declare made 0)
declare_put w taken work made put s idle =
    let links : nat_lt 0 (length w.first) ≡ true = ap (nat_lt 0) s.link in
    let ends : list_any (ends_link 0) (forward w) ≡ false = ap (list_any (ends_link 0)) (forward_idle w work made (accepted_commits (record_of w)) idle) ∙ no_link_end made 0 w.came idle.behind.below in
    ap (λ b. cond (b && not (list_any (ends_link 0) (forward w))) (Some (items.Declare (made_of w) 0)) None) links
    ∙ ap (λ b. cond (true && not b) (Some (items.Declare (made_of w) 0)) None) ends
    ∙ ap (λ n. Some (items.Declare n 0)) s.made_is

-- it is put where all were committed and a message is left
pub record LeftFor (w : Exchange) (work : List Message) (made count : ℕ) : Type 0 where
  pub idle : IsIdle w work made count
  pub message : Message
  pub is : slice_get work made ≡ Some message

pub left_for : (w : Exchange) (taken : List Frame) (work : List Message) (made put : ℕ) → Stands w taken work made put → moves w work ≡ events.Declare 0 ∷ [] → LeftFor w work made (accepted_commits (record_of w))
left_for w taken work made put s is = by_last (last_is w work made put (accepted_commits (record_of w)) s.stage)
  where
    absent : moves w work ≡ [] → LeftFor w work made (accepted_commits (record_of w))
    absent e = let f : events.Declare 0 ∷ [] ≡ [] = sym is ∙ e in absurd (cc f)

    by_message : (o : Option Message) → slice_get work made ≡ o → IsIdle w work made (accepted_commits (record_of w)) → moves w work ≡ declare_for o → LeftFor w work made (accepted_commits (record_of w))
    by_message None at idle e = absent e
    by_message (Some m) at idle e = record { idle = idle; message = m; is = at }

    by_put : (p x : ℕ) (m : Message) → moves w work ≡ drop p (work_of x m) → LeftFor w work made (accepted_commits (record_of w))
    by_put zero x m e = let f : events.Declare 0 ∷ [] ≡ work_of x m = sym is ∙ e in absurd (cc f)
    by_put (suc zero) x m e = let f : events.Declare 0 ∷ [] ≡ drop 1 (work_of x m) = sym is ∙ e in absurd (cc f)
    by_put (suc (suc zero)) x m e = let f : events.Declare 0 ∷ [] ≡ drop 2 (work_of x m) = sym is ∙ e in absurd (cc f)
    by_put (suc (suc (suc zero))) x m e = absent e
    by_put (suc (suc (suc (suc p)))) x m e = absent e

    by_last : LastHeard w work made put (accepted_commits (record_of w)) → LeftFor w work made (accepted_commits (record_of w))
    by_last (All idle) = by_message (slice_get work made) refl idle (idle_moves w taken work made put s (heard_idle w work made (accepted_commits (record_of w)) idle))
    by_last (Unborn x mk each e is) = absent (moves_at w taken work made put x hearings.Undeclared s mk e)
    by_last (Works x m each e o) = by_put put x m (work_moves w taken work made put x m s o.made_is e o.last.is)
    by_last (Waits x m mk each e at pk put_it is) = by_put put x m (work_moves w taken work made put x m s mk e at)
    by_last (Ended x mk each e is) = absent (moves_at w taken work made put x hearings.Rejected s mk e)

-- so fewer transactions were made than there are messages
pub declare_within : (w : Exchange) (taken : List Frame) (work : List Message) (made put : ℕ) → Stands w taken work made put → moves w work ≡ events.Declare 0 ∷ [] → suc made ≤ length work
declare_within w taken work made put s is = let left = left_for w taken work made put s is in get_within made work left.message left.is

pub declare_next : (next : ListIds → ℕ → TransactionId) (starts : ListIds → Option (ℕ → TransactionId)) (old new : TwoParties Board ListIds) (work : List Message) (made put : ℕ) (h : Happened)
    → Stands old.sides (taken_of old.below) work made put → moves old.sides work ≡ events.Declare 0 ∷ [] → EventSays told_by next starts old new (events.Declare 0) (Ok h) → Declares old new work made h
declare_next next starts old new work made put h s is says =
    let left = left_for old.sides (taken_of old.below) work made put s is in
    let idle = left.idle in
    let came : List (Item × Entry) = old.sides.came in
    let v : Exchange = with_put old.sides (items.Declare made 0) in
    let one = puts_one next starts old new (events.Declare 0) h (items.Declare made 0) (λ g d t. t) (declare_put old.sides (taken_of old.below) work made put s idle) says in
    let wire : forward v ≡ items_of came ++ items.Declare made 0 ∷ [] =
    forward_put old.sides (items.Declare made 0) ∙ ap (λ l. l ++ items.Declare made 0 ∷ []) (forward_idle old.sides work made (accepted_commits (record_of old.sides)) idle) in
    let last : Last v work made left.message [] (items.Declare made 0 ∷ []) [] [] = record {
      past = came;
      behind = idle.behind;
      is = left.is;
      came_is = sym (append-nil came);
      waiting_is = ap (λ l. l ++ items.Declare made 0 ∷ []) idle.waiting_is;
      told_is = idle.told_is ∙ sym (append-nil (back_of came));
      coming_is = idle.coming_is;
    } in
    let st : Stands v (taken_of old.below) work (suc made) 0 = record {
      sure = s.sure;
      link = s.link;
      keeps = subst Keeps one.sides says.keeps;
      stops = s.stops;
      few = s.few;
      made_is =
          let more = sum_by_push (λ (y : Item). cond (is_any_declare y) 1 0) (forward old.sides) (items.Declare made 0) in
          let was = s.made_is in
          ap made_in (forward_put old.sides (items.Declare made 0)) ∙ omega (arith, more, was);
      put_few = omega arith;
      put_is = λ x same.
          let x_is : x ≡ made = omega (arith, same) in
          ap (put_since v) x_is
          ∙ ap (λ l. length (after_declare made l)) wire
          ∙ ap length (after_skip made (items_of came) (items.Declare made 0 ∷ []) (no_declare made made (omega arith) came idle.behind.below))
          ∙ ap (λ b. length (cond b [] (after_declare made []))) (own made);
      stage = Declaring made left.message refl refl idle.count_is last;
      queues = s.queues;
    } in record {
      one = one;
      stands = subst (λ (x : Exchange). Stands x (taken_of new.below) work (suc made) 0) (sym one.sides)
          (subst (λ (b : Board). Stands v (taken_of b) work (suc made) 0) (sym one.below) st);
    }
