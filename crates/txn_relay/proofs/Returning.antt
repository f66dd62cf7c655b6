-- An answer that returns, the cut, and what an event of the two parties leaves of a relay.
use Rattle.std.proofs.Common.{◌≡◌, ℕ, suc, ◌+◌, ◌<◌, Bool, true, false, cond, Option, Some, None, List, [], ◌∷◌, ◌++◌, length, refl, sym, ◌∙◌, ap, arith, subst, append_assoc, inl, inr, Result, Ok}
use Rattle.std.proofs.lemmas.List.Sums.{sum_by-append}
use Rattle.std.proofs.lemmas.Bool.Decides.{eqb_tells}
use Rattle.std.proofs.lemmas.Option.{same_Some}
use Rattle.amqp_txn_types.specs.declared.items.NoMemory.{NoMemory}
use Rattle.txn_parties.specs.Taken.{Grew}
use Rattle.amqp_txn_types.specs.declared.id.TransactionId.{TransactionId}
use Rattle.amqp_txn_types.specs.declared.performatives.Frame.{Frame}
use Rattle.amqp_below_ids.specs.declared.list_ids.ListIds.{ListIds}
use Rattle.amqp_resource_record.specs.declared.entry.Entry.{Entry}
use Rattle.amqp_resource_record.specs.declared.reply.Reply.{Reply}
use Rattle.amqp_resource_record.specs.declared.reply.Reply.TheVariants as replies
use Rattle.amqp_resource_record.specs.declared.stop.StopCode.TheVariants as codes
use Rattle.txn_broker_queues.specs.declared.message.Message.{Message}
use Rattle.txn_broker_queues.specs.Taking.{Board, taken_of, told_by}
use Rattle.txn_parties.specs.declared.event.Event.TheVariants as events
use Rattle.txn_parties.specs.declared.event.Happened.{Happened}
use Rattle.txn_parties.specs.declared.event.Happened.TheVariants as happenings
use Rattle.txn_parties.specs.declared.event.Heard.TheVariants as hearings
use Rattle.txn_parties.specs.declared.item.Answered.{Answered}
use Rattle.txn_parties.specs.declared.item.Asked.TheVariants as asked
use Rattle.txn_parties.specs.declared.item.Halt.{Halt}
use Rattle.txn_parties.specs.declared.item.Item.{Item}
use Rattle.txn_parties.specs.declared.item.Item.TheVariants as items
use Rattle.txn_parties.specs.BackWire.{answers, declared_id, heard_by, id_in, state_of, verdict_in}
use Rattle.txn_parties.specs.Exchange.{Exchange, back_of, entries_of, forward, items_of, record_of}
use Rattle.txn_parties.specs.Invariant.{Keeps}
use Rattle.txn_parties.specs.Items.{is_any_declare, made_in, step_of}
use Rattle.txn_parties.specs.Turns.{AnswersFirst, IsAnswered, IsStopped, StopsFirst, TurnArrive, TurnCut, TurnReturn, entry_by, with_answer, with_heard, with_stop}
use Rattle.txn_parties.proofs.Wires.{items-snoc}
use Rattle.txn_world.specs.Happening.{EventSays, TwoParties}
use Rattle.txn_relay.specs.Moves.{after_declare}
use Rattle.txn_relay.specs.Once.{accepted_commits}
use Rattle.txn_relay.specs.Stages.{Answering, Behind, Counted, Declaring, Discharged, Idle, IsBelow, Last, Open, Rejected, SaysCommitted, Stage, Stands, Undeclared, declared, post_item, retirement_item, three}
use Rattle.txn_relay.proofs.Arriving.{At, answered_at, none_taken, stopped_at}
use Rattle.txn_relay.proofs.Behind.{all-append, all_more, back-append, items-append}
use Rattle.txn_relay.proofs.Hearing.{heard_ended, own_heard, still_committed}
use Rattle.txn_relay.proofs.Serving.{took_answered}

-- ---- a cut and a stop leave the stage

abbrev pub marked : Exchange → Bool → Option Halt → Exchange
marked w cut stop = record w { cut = cut; stop = stop }

last_marked : (w : Exchange) (cut : Bool) (stop : Option Halt) (work : List Message) (x : ℕ) (m : Message) (came : List (Item × Entry)) (waiting : List Item) (told coming : List Answered) → Last w work x m came waiting told coming → Last (marked w cut stop) work x m came waiting told coming
last_marked w cut stop work x m came waiting told coming l = record {
  past = l.past;
  behind = l.behind;
  is = l.is;
  came_is = l.came_is;
  waiting_is = l.waiting_is;
  told_is = l.told_is;
  coming_is = l.coming_is;
}

stage_marked : (w : Exchange) (cut : Bool) (stop : Option Halt) (work : List Message) (made put n : ℕ) → Stage w work made put n → Stage (marked w cut stop) work made put n
stage_marked w cut stop work made put n (Idle behind none coming told is) = Idle behind none coming told is
stage_marked w cut stop work made put n (Declaring x m mk pk ck l) = Declaring x m mk pk ck (last_marked w cut stop work x m _ _ _ _ l)
stage_marked w cut stop work made put n (Answering x m entry mk pk ck l) = Answering x m entry mk pk ck (last_marked w cut stop work x m _ _ _ _ l)
stage_marked w cut stop work made put n (Undeclared x m entry mk pk ck isnt l) = Undeclared x m entry mk pk ck isnt (last_marked w cut stop work x m _ _ _ _ l)
stage_marked w cut stop work made put n (Open x m entry id arrived left ahead mk pk ck within some are born l) = Open x m entry id arrived left ahead mk pk ck within some are born (last_marked w cut stop work x m _ _ _ _ l)
stage_marked w cut stop work made put n (Discharged x m entry post retirement commit id mk pk born ck l) = Discharged x m entry post retirement commit id mk pk born ck (last_marked w cut stop work x m _ _ _ _ l)
stage_marked w cut stop work made put n (Rejected x m entry post retirement commit id mk pk born ck isnt l) = Rejected x m entry post retirement commit id mk pk born ck isnt (last_marked w cut stop work x m _ _ _ _ l)

-- ---- an answer that is heard

no_answer : (w : Exchange) (a : Answered) (rest : List Answered) → w.coming ≡ a ∷ rest → w.coming ≡ [] → ⊥
no_answer w a rest e h = let f : a ∷ rest ≡ [] = sym e ∙ h in cc f

last_hears : (w : Exchange) (work : List Message) (x : ℕ) (m : Message) (came : List (Item × Entry)) (waiting : List Item) (told : List Answered) (a : Answered) (rest coming : List Answered)
    → Last w work x m came waiting told coming → Last (with_heard w a rest) work x m came waiting (told ++ a ∷ []) rest
last_hears w work x m came waiting told a rest coming l = record {
  past = l.past;
  behind = l.behind;
  is = l.is;
  came_is = l.came_is;
  waiting_is = l.waiting_is;
  told_is = ap (λ t. t ++ a ∷ []) l.told_is ∙ append_assoc (back_of l.past) told (a ∷ []);
  coming_is = refl;
}

-- the items of a transaction that came to its end
abbrev four : ℕ → Message → TransactionId → Entry → Entry → Entry → Entry → List (Item × Entry)
four x m id entry post retirement commit =
    (items.Declare x 0, entry) ∷ (post_item id m, post) ∷ (retirement_item id m, retirement) ∷ (items.Discharge x 0 id false, commit) ∷ []

four_back : (x : ℕ) (m : Message) (id : TransactionId) (entry post retirement commit : Entry) → entry.reply ≡ replies.Declared id → back_of (four x m id entry post retirement commit) ≡ declared x id ∷ answers (items.Discharge x 0 id false) commit.reply
four_back x m id entry post retirement commit born =
    ap (λ r. answers (items.Declare x 0) r ++ answers (items.Discharge x 0 id false) commit.reply) born

-- it stands behind with those before it, where it was committed and heard so
behind_more : (first : List Entry) (past : List (Item × Entry)) (x : ℕ) (m : Message) (id : TransactionId) (entry post retirement commit : Entry) → Behind first past x → entry.reply ≡ replies.Declared id → SaysCommitted commit
    → accepted_commits (first ++ entries_of (past ++ four x m id entry post retirement commit)) ≡ suc x → Behind first (past ++ four x m id entry post retirement commit) (suc x)
behind_more first past x m id entry post retirement commit b born says counted = record {
  below = all-append (λ (p : Item × Entry). IsBelow (suc x) p.0) past (four x m id entry post retirement commit) (all_more x past b.below) (omega arith, (tt, (tt, (omega arith, tt))));
  made = ap made_in (items-append past (four x m id entry post retirement commit)) ∙ sum_by-append (λ (y : Item). cond (is_any_declare y) 1 0) (items_of past) (items_of (four x m id entry post retirement commit)) ∙ one_more;
  accepted = counted;
  heard = λ y less. ap (λ a. heard_by (id_in y a) (verdict_in y a)) (back-append past (four x m id entry post retirement commit)) ∙ each y less;
}
  where
    one_more : made_in (items_of past) + made_in (items_of (four x m id entry post retirement commit)) ≡ suc x
    one_more = let n = b.made in let one : made_in (items_of (four x m id entry post retirement commit)) ≡ 1 = refl in omega (arith, n, one)

    last : heard_by (id_in x (back_of past ++ back_of (four x m id entry post retirement commit))) (verdict_in x (back_of past ++ back_of (four x m id entry post retirement commit))) ≡ hearings.Committed
    last =
        ap (λ a. heard_by (id_in x (back_of past ++ a)) (verdict_in x (back_of past ++ a))) (four_back x m id entry post retirement commit born)
        ∙ own_heard first past x (declared x id ∷ answers (items.Discharge x 0 id false) commit.reply) b
        ∙ heard_ended x id commit.reply
        ∙ ap (λ v. heard_by (Some id) v) says

    each : (y : ℕ) → y < suc x → heard_by (id_in y (back_of past ++ back_of (four x m id entry post retirement commit))) (verdict_in y (back_of past ++ back_of (four x m id entry post retirement commit))) ≡ hearings.Committed
    each y less = elim (eqb_tells y x) [
      | inl p ↦ ap (λ z. heard_by (id_in z (back_of past ++ back_of (four x m id entry post retirement commit))) (verdict_in z (back_of past ++ back_of (four x m id entry post retirement commit)))) p.1 ∙ last
      | inr p ↦ still_committed y (back_of past) (back_of (four x m id entry post retirement commit)) (b.heard y (omega (arith, less, p.1)))
    ]

-- the stage once the first answer was heard
hears : (w : Exchange) (work : List Message) (made put n : ℕ) (a : Answered) (rest : List Answered) → w.coming ≡ a ∷ rest → n ≡ accepted_commits (record_of w) → Stage w work made put n → Stage (with_heard w a rest) work made put n
hears w work made put n a rest e counts (Idle behind none coming told is) = absurd (no_answer w a rest e coming)
hears w work made put n a rest e counts (Declaring x m mk pk ck l) = absurd (no_answer w a rest e l.coming_is)
hears w work made put n a rest e counts (Undeclared x m entry mk pk ck isnt l) = absurd (no_answer w a rest e l.coming_is)
hears w work made put n a rest e counts (Open x m entry id arrived left ahead mk pk ck within some are born l) = absurd (no_answer w a rest e l.coming_is)
hears w work made put n a rest e counts (Rejected x m entry post retirement commit id mk pk born ck isnt l) = absurd (no_answer w a rest e l.coming_is)
hears w work made put n a rest e counts (Answering x m entry mk pk ck l) = by_reply entry.reply refl
  where
    came : answers (items.Declare x 0) entry.reply ≡ a ∷ rest
    came = sym l.coming_is ∙ e

    none : rest ≡ []
    none = cc came

    came_one : answers (items.Declare x 0) entry.reply ≡ a ∷ []
    came_one = came ∙ ap (λ r. a ∷ r) none

    next : Last (with_heard w a rest) work x m ((items.Declare x 0, entry) ∷ []) [] (answers (items.Declare x 0) entry.reply) []
    next =
        subst (λ (t : List Answered). Last (with_heard w a rest) work x m ((items.Declare x 0, entry) ∷ []) [] t []) (sym came_one)
        (subst (λ (r : List Answered). Last (with_heard w a rest) work x m ((items.Declare x 0, entry) ∷ []) [] (a ∷ []) r) none (last_hears w work x m ((items.Declare x 0, entry) ∷ []) [] [] a rest (answers (items.Declare x 0) entry.reply) l))

    undeclared : declared_id asked.Declare (state_of entry.reply) ≡ None → Stage (with_heard w a rest) work made put n
    undeclared isnt = Undeclared x m entry mk pk ck isnt next

    by_reply : (r : Reply) → entry.reply ≡ r → Stage (with_heard w a rest) work made put n
    by_reply (replies.Declared id) born =
        Open x m entry id [] (three x id m) 0 mk pk ck (omega arith) (omega arith) refl born
        (subst (λ (t : List Answered). Last (with_heard w a rest) work x m ((items.Declare x 0, entry) ∷ []) [] t []) (ap (answers (items.Declare x 0)) born) next)
    by_reply (replies.Accepted echoes) born = undeclared (ap (λ r. declared_id asked.Declare (state_of r)) born)
    by_reply (replies.Rejected error text) born = undeclared (ap (λ r. declared_id asked.Declare (state_of r)) born)
    by_reply _ born = undeclared (ap (λ r. declared_id asked.Declare (state_of r)) born)
hears w work made put n a rest e counts (Discharged x m entry post retirement commit id mk pk born ck l) = by_count ck
  where
    came : answers (items.Discharge x 0 id false) commit.reply ≡ a ∷ rest
    came = sym l.coming_is ∙ e

    none : rest ≡ []
    none = cc came

    next : Last (with_heard w a rest) work x m (four x m id entry post retirement commit) [] (declared x id ∷ answers (items.Discharge x 0 id false) commit.reply) []
    next =
        subst (λ (t : List Answered). Last (with_heard w a rest) work x m (four x m id entry post retirement commit) [] (declared x id ∷ t) []) (ap (λ r. a ∷ r) (sym none) ∙ sym came)
        (subst (λ (r : List Answered). Last (with_heard w a rest) work x m (four x m id entry post retirement commit) [] (declared x id ∷ a ∷ []) r) none (last_hears w work x m (four x m id entry post retirement commit) [] (declared x id ∷ []) a rest (answers (items.Discharge x 0 id false) commit.reply) l))

    by_count : Counted commit x n → Stage (with_heard w a rest) work made put n
    by_count (inr isnt) = Rejected x m entry post retirement commit id mk pk born isnt.1 isnt.0 next
    by_count (inl does) =
        let counted : accepted_commits (w.first ++ entries_of (l.past ++ four x m id entry post retirement commit)) ≡ suc x =
        ap (λ c. accepted_commits (w.first ++ entries_of c)) (sym l.came_is) ∙ sym counts ∙ does.1 in
        let behind = behind_more w.first l.past x m id entry post retirement commit l.behind born does.0 counted in
        let told : w.told ++ a ∷ [] ≡ back_of w.came =
        ap (λ t. t ++ a ∷ []) l.told_is ∙ append_assoc (back_of l.past) (declared x id ∷ []) (a ∷ [])
        ∙ ap (λ t. back_of l.past ++ declared x id ∷ t) (ap (λ r. a ∷ r) (sym none) ∙ sym came)
        ∙ sym (ap back_of l.came_is ∙ back-append l.past (four x m id entry post retirement commit) ∙ ap (λ t. back_of l.past ++ t) (four_back x m id entry post retirement commit born)) in
        Idle (subst (λ (k : ℕ). Behind w.first w.came k) (sym mk) (subst (λ (c : List (Item × Entry)). Behind w.first c (suc x)) (sym l.came_is) behind))
        l.waiting_is none told (does.1 ∙ sym mk)

-- ---- what an event leaves

-- the counts of what was put are as they were where the forward wire is
record Same (w v : Exchange) : Type 0 where
  sure : v.sure ≡ w.sure
  first : v.first ≡ w.first
  forward_is : forward v ≡ forward w

stands_at : (w v : Exchange) (taken now : List Frame) (work : List Message) (made put : ℕ) → Stands w taken work made put → Same w v → Keeps v → ((halt : Halt) → v.stop ≡ Some halt → halt.code ≡ codes.BelowNoMemory) → At v now work made put → Stands v now work made put
stands_at w v taken now work made put s same keeps stops at = record {
  sure = same.sure ∙ s.sure;
  link = ap length same.first ∙ s.link;
  keeps = keeps;
  stops = stops;
  few = s.few;
  made_is = ap made_in same.forward_is ∙ s.made_is;
  put_few = s.put_few;
  put_is = λ x is. ap (λ l. length (after_declare x l)) same.forward_is ∙ s.put_is x is;
  stage = at.stage;
  queues = at.queues;
}

forward_answered : (w : Exchange) (i : Item) (rest : List Item) (e : Entry) → w.waiting ≡ i ∷ rest → items_of (w.came ++ (i, e) ∷ []) ++ rest ≡ forward w
forward_answered w i rest e is = ap (λ l. l ++ rest) (items-snoc w.came i e) ∙ append_assoc (items_of w.came) (i ∷ []) rest ∙ ap (λ l. items_of w.came ++ l) (sym is)

not_arrived : (h : Happened) (r : Result Happened NoMemory) → h ≡ happenings.Skipped → r ≡ Ok h → r ≡ Ok happenings.Arrived → ⊥
not_arrived h r e a b = let f : happenings.Skipped ≡ happenings.Arrived = cc in cc f

not_heard : (h : Happened) (r : Result Happened NoMemory) → h ≡ happenings.Heard → r ≡ Ok h → r ≡ Ok happenings.Arrived → ⊥
not_heard h r e a b = let f : happenings.Heard ≡ happenings.Arrived = cc in cc f

not_cut : (h : Happened) (r : Result Happened NoMemory) → h ≡ happenings.Cut → r ≡ Ok h → r ≡ Ok happenings.Arrived → ⊥
not_cut h r e a b = let f : happenings.Cut ≡ happenings.Arrived = cc in cc f

-- where nothing happened all is as it was
same_all : (old new : TwoParties Board ListIds) (work : List Message) (made put : ℕ) → Stands old.sides (taken_of old.below) work made put → new.sides ≡ old.sides → new.below ≡ old.below → Stands new.sides (taken_of new.below) work made put
same_all old new work made put s sides below =
    subst (λ (v : Exchange). Stands v (taken_of new.below) work made put) (sym sides)
    (subst (λ (b : Board). Stands old.sides (taken_of b) work made put) (sym below) s)

-- an item that arrives
pub arrives : (next : ListIds → ℕ → TransactionId) (starts : ListIds → Option (ℕ → TransactionId)) (old new : TwoParties Board ListIds) (work : List Message) (made put : ℕ) (h : Happened)
    → Stands old.sides (taken_of old.below) work made put → EventSays told_by next starts old new events.Arrive (Ok h) → Stands new.sides (taken_of new.below) work made put
arrives next starts old new work made put h s says = by_turn old.sides.cut old.sides.stop old.sides.waiting refl refl says.turn.1
  where
    skipped : (h ≡ happenings.Skipped) × (says.turn.0 ≡ []) × (new.sides ≡ old.sides) → Stands new.sides (taken_of new.below) work made put
    skipped t = same_all old new work made put s t.2 (says.quiet (λ f. not_arrived h (Ok h) t.0 refl f)).0

    answered : (i : Item) (rest : List Item) → old.sides.stop ≡ None → old.sides.waiting ≡ i ∷ rest → AnswersFirst old.sides i rest says.turn.0 new.sides → Stands new.sides (taken_of new.below) work made put
    answered i rest n e a =
        let entry : Entry = entry_by (step_of i) a.drawn a.reply in
        let v : Exchange = with_answer old.sides i rest a.drawn a.reply in
        let did = says.answered i entry (ap (λ (x : Exchange). x.came) a.after) in
        let took = took_answered old.below new.below (record_of old.sides) (step_of i) a.drawn.ids a.reply a.allowed did.took in
        let at = answered_at old.sides (taken_of old.below) (taken_of new.below) work made put i rest a.drawn a.reply s e a.allowed took in
        let keeps : Keeps v = subst Keeps a.after says.keeps in
        let same : Same old.sides v = record { sure = refl; first = refl; forward_is = forward_answered old.sides i rest entry e } in
        subst (λ (x : Exchange). Stands x (taken_of new.below) work made put) (sym a.after)
        (stands_at old.sides v (taken_of old.below) (taken_of new.below) work made put s same keeps s.stops at)

    stopped : (i : Item) (rest : List Item) → old.sides.stop ≡ None → old.sides.waiting ≡ i ∷ rest → StopsFirst old.sides i says.turn.0 new.sides → Stands new.sides (taken_of new.below) work made put
    stopped i rest n e a =
        let v : Exchange = with_stop old.sides a.halt in
        let stops = stopped_at old.sides (taken_of old.below) work made put i rest a.halt s e a.cause in
        let taken = none_taken old.sides i rest a.halt old.below new.below e n stops.handed (subst (λ (x : Exchange). Grew old.sides x (told_by old.below).taken (told_by new.below).taken) a.after says.grew) in
        let keeps : Keeps v = subst Keeps a.after says.keeps in
        let same : Same old.sides v = record { sure = refl; first = refl; forward_is = refl } in
        let at : At v (taken_of old.below) work made put = record { stage = stage_marked old.sides old.sides.cut (Some a.halt) work made put (accepted_commits (record_of old.sides)) s.stage; queues = s.queues } in
        subst (λ (x : Exchange). Stands x (taken_of new.below) work made put) (sym a.after)
        (subst (λ (t : List Frame). Stands v t work made put) (sym taken)
        (stands_at old.sides v (taken_of old.below) (taken_of old.below) work made put s same keeps
        (λ halt is. ap (λ (x : Halt). x.code) (sym (same_Some a.halt halt is)) ∙ stops.code) at))

    by_turn : (c : Bool) (st : Option Halt) (l : List Item) → old.sides.stop ≡ st → old.sides.waiting ≡ l → TurnArrive old.sides c st l h says.turn.0 new.sides → Stands new.sides (taken_of new.below) work made put
    by_turn false None (i ∷ rest) n e (arrived, IsAnswered a) = answered i rest n e a
    by_turn false None (i ∷ rest) n e (arrived, IsStopped a) = stopped i rest n e a
    by_turn _ _ _ n e t = skipped t

-- an answer that returns
pub returns : (next : ListIds → ℕ → TransactionId) (starts : ListIds → Option (ℕ → TransactionId)) (old new : TwoParties Board ListIds) (work : List Message) (made put : ℕ) (h : Happened)
    → Stands old.sides (taken_of old.below) work made put → EventSays told_by next starts old new events.Return (Ok h) → Stands new.sides (taken_of new.below) work made put
returns next starts old new work made put h s says = by_turn old.sides.cut old.sides.coming refl says.turn.1
  where
    heard : (a : Answered) (rest : List Answered) → old.sides.coming ≡ a ∷ rest → (h ≡ happenings.Heard) × (says.turn.0 ≡ []) × (new.sides ≡ with_heard old.sides a rest) → Stands new.sides (taken_of new.below) work made put
    heard a rest e t =
        let v : Exchange = with_heard old.sides a rest in
        let keeps : Keeps v = subst Keeps t.2 says.keeps in
        let same : Same old.sides v = record { sure = refl; first = refl; forward_is = refl } in
        let at : At v (taken_of old.below) work made put = record { stage = hears old.sides work made put (accepted_commits (record_of old.sides)) a rest e refl s.stage; queues = s.queues } in
        let below = (says.quiet (λ f. not_heard h (Ok h) t.0 refl f)).0 in
        subst (λ (x : Exchange). Stands x (taken_of new.below) work made put) (sym t.2)
        (subst (λ (b : Board). Stands v (taken_of b) work made put) (sym below)
        (stands_at old.sides v (taken_of old.below) (taken_of old.below) work made put s same keeps s.stops at))

    by_turn : (c : Bool) (l : List Answered) → old.sides.coming ≡ l → TurnReturn old.sides c l h says.turn.0 new.sides → Stands new.sides (taken_of new.below) work made put
    by_turn false (a ∷ rest) e t = heard a rest e t
    by_turn _ _ e t = same_all old new work made put s t.2 (says.quiet (λ f. not_arrived h (Ok h) t.0 refl f)).0

-- the cut
pub cuts : (next : ListIds → ℕ → TransactionId) (starts : ListIds → Option (ℕ → TransactionId)) (old new : TwoParties Board ListIds) (work : List Message) (made put : ℕ) (h : Happened)
    → Stands old.sides (taken_of old.below) work made put → EventSays told_by next starts old new events.Cut (Ok h) → Stands new.sides (taken_of new.below) work made put
cuts next starts old new work made put h s says = by_turn old.sides.cut says.turn.1
  where
    by_turn : (c : Bool) → TurnCut old.sides c h says.turn.0 new.sides → Stands new.sides (taken_of new.below) work made put
    by_turn false t =
        let v : Exchange = record old.sides { cut = true } in
        let keeps : Keeps v = subst Keeps t.2 says.keeps in
        let same : Same old.sides v = record { sure = refl; first = refl; forward_is = refl } in
        let at : At v (taken_of old.below) work made put = record { stage = stage_marked old.sides true old.sides.stop work made put (accepted_commits (record_of old.sides)) s.stage; queues = s.queues } in
        let below = (says.quiet (λ f. not_cut h (Ok h) t.0 refl f)).0 in
        subst (λ (x : Exchange). Stands x (taken_of new.below) work made put) (sym t.2)
        (subst (λ (b : Board). Stands v (taken_of b) work made put) (sym below)
        (stands_at old.sides v (taken_of old.below) (taken_of old.below) work made put s same keeps s.stops at))
    by_turn true t = same_all old new work made put s t.2 (says.quiet (λ f. not_arrived h (Ok h) t.0 refl f)).0
