-- Where the messages are, what was heard, and what the next move is, by the stage.
use Rattle.std.proofs.Common.{◌≡◌, ℕ, zero, suc, ◌+◌, ◌<◌, ◌≤◌, Bool, true, false, cond, ◌||◌, Option, Some, None, List, [], ◌∷◌, ◌++◌, length, drop, take, refl, sym, ◌∙◌, ap, arith, subst, append-nil, ◌⊎◌, inl, inr}
use Rattle.std.specs.Prelude.{◌==◌, slice_get}
use Rattle.std.specs.List.{list_any}
use Rattle.std.proofs.lemmas.List.Folds.{list_any-append}
use Rattle.std.proofs.lemmas.Bool.{eq-eqb}
use Rattle.std.proofs.lemmas.Bool.Decides.{eqb_tells}
use Rattle.amqp_txn_types.specs.declared.id.TransactionId.{TransactionId}
use Rattle.amqp_txn_types.specs.declared.performatives.Frame.{Frame}
use Rattle.amqp_resource_record.specs.declared.entry.Entry.{Entry}
use Rattle.amqp_resource_record.specs.declared.reply.Reply.TheVariants as replies
use Rattle.txn_broker_queues.specs.declared.message.Message.{Message}
use Rattle.txn_broker_queues.specs.Taking.{taken_of}
use Rattle.txn_parties.specs.declared.event.Heard.{Heard}
use Rattle.txn_parties.specs.declared.event.Heard.TheVariants as hearings
use Rattle.txn_parties.specs.declared.item.Answered.{Answered}
use Rattle.txn_parties.specs.declared.item.Asked.TheVariants as asked
use Rattle.txn_parties.specs.declared.item.Item.{Item}
use Rattle.txn_parties.specs.declared.item.Item.TheVariants as items
use Rattle.txn_parties.specs.BackWire.{heard_by, id_in, state_of, verdict, verdict_in}
use Rattle.txn_parties.specs.Exchange.{Exchange, back_of, forward, heard, items_of, made as made_of, record_of}
use Rattle.txn_parties.specs.Items.{is_discharge}
use Rattle.txn_relay.specs.Going.{BeginsWith, next_after, next_by, next_for, next_heard, next_of}
use Rattle.txn_relay.specs.declared.relay.Next.{Next}
use Rattle.txn_relay.specs.declared.relay.Next.TheVariants as nexts
use Rattle.txn_relay.specs.Moves.{declare_for, moves, moves_after, moves_by, put_since, rest_of, work_of}
use Rattle.txn_relay.specs.Once.{LastUnheard, Once, accepted_commits, committed_among, heard_committed, is_committed}
use Rattle.txn_relay.specs.Relaying.{Holds, Relaying}
use Rattle.txn_relay.specs.Stages.{Answering, Behind, Counted, Declaring, Discharged, Idle, Last, Open, Rejected, Stage, Stands, Undeclared, declared, post_item, retirement_item, three}
use Rattle.txn_relay.proofs.Behind.{items-append}
use Rattle.txn_relay.proofs.Hearing.{IsNothing, IsRejected, NotCommitted, all_committed, earlier, heard_declared, heard_ended, heard_none, heard_refused, last_heard, not_committed}

-- ---- what the last transaction heard

-- all transactions were committed and heard so
pub record IsIdle (w : Exchange) (work : List Message) (made count : ℕ) : Type 0 where
  pub behind : Behind w.first w.came made
  pub waiting_is : w.waiting ≡ []
  pub coming_is : w.coming ≡ []
  pub told_is : w.told ≡ back_of w.came
  pub count_is : count ≡ made

pub heard_idle : (w : Exchange) (work : List Message) (made count : ℕ) → IsIdle w work made count → (y : ℕ) → y < made → heard w y ≡ hearings.Committed
heard_idle w work made count idle y less = ap (λ a. heard_by (id_in y a) (verdict_in y a)) idle.told_is ∙ idle.behind.heard y less

-- the last transaction's work, as far as it is open
pub record IsOpen (w : Exchange) (work : List Message) (made put count : ℕ) (x : ℕ) (m : Message) : Type 0 where
  pub entry : Entry
  pub id : TransactionId
  pub arrived : List (Item × Entry)
  pub left : List Item
  pub ahead : ℕ
  pub made_is : made ≡ suc x
  pub put_is : put ≡ length arrived + ahead
  pub count_is : count ≡ x
  pub within : ahead ≤ length left
  pub some : 1 ≤ length left
  pub are : items_of arrived ++ left ≡ three x id m
  pub born : entry.reply ≡ replies.Declared id
  pub last : Last w work x m ((items.Declare x 0, entry) ∷ arrived) (take ahead left) (declared x id ∷ []) []

pub data LastHeard (w : Exchange) (work : List Message) (made put count : ℕ) : Type 0 where
  -- there is none that isn't committed
  All : IsIdle w work made count → LastHeard w work made put count
  -- it heard no id
  Unborn : (x : ℕ) → made ≡ suc x → ((y : ℕ) → y < x → heard w y ≡ hearings.Committed) → heard w x ≡ hearings.Undeclared → count ≡ x → LastHeard w work made put count
  -- it heard its id, and has put so many of its items
  Works : (x : ℕ) → (m : Message) → ((y : ℕ) → y < x → heard w y ≡ hearings.Committed) → heard w x ≡ hearings.Nothing → IsOpen w work made put count x m → LastHeard w work made put count
  -- it has put its commit, and heard no answer that says more
  Waits : (x : ℕ) → (m : Message) → made ≡ suc x → ((y : ℕ) → y < x → heard w y ≡ hearings.Committed) → heard w x ≡ hearings.Nothing → slice_get work x ≡ Some m → put ≡ 3
      → list_any (is_discharge x) (forward w) ≡ true → (count ≡ x) ⊎ (count ≡ suc x) → LastHeard w work made put count
  -- it was rejected
  Ended : (x : ℕ) → made ≡ suc x → ((y : ℕ) → y < x → heard w y ≡ hearings.Committed) → heard w x ≡ hearings.Rejected → count ≡ x → LastHeard w work made put count

or_right : (a b : Bool) → b ≡ true → (a || b) ≡ true
or_right true b e = refl
or_right false b e = e

pub any_right : (P : Item → Bool) (xs ys : List Item) → list_any P ys ≡ true → list_any P (xs ++ ys) ≡ true
any_right P xs ys e = list_any-append P xs ys ∙ or_right (list_any P xs) (list_any P ys) e

own : (x : ℕ) → (x == x) ≡ true
own x = eq-eqb x x refl

-- its commit was put
put_commit : (w : Exchange) (work : List Message) (x : ℕ) (m : Message) (entry : Entry) (id : TransactionId) (p q c : Entry) (told coming : List Answered)
    → Last w work x m ((items.Declare x 0, entry) ∷ (post_item id m, p) ∷ (retirement_item id m, q) ∷ (items.Discharge x 0 id false, c) ∷ []) [] told coming → list_any (is_discharge x) (forward w) ≡ true
put_commit w work x m entry id p q c told coming l =
    let t : List (Item × Entry) = (items.Declare x 0, entry) ∷ (post_item id m, p) ∷ (retirement_item id m, q) ∷ (items.Discharge x 0 id false, c) ∷ [] in
    ap (λ a. list_any (is_discharge x) (items_of w.came ++ a)) l.waiting_is
    ∙ ap (list_any (is_discharge x)) (append-nil (items_of w.came) ∙ ap items_of l.came_is ∙ items-append l.past t)
    ∙ any_right (is_discharge x) (items_of l.past) (items_of t) (ap (λ b. b || false) (own x))

pub last_is : (w : Exchange) (work : List Message) (made put count : ℕ) → Stage w work made put count → LastHeard w work made put count
last_is w work made put count (Idle behind none coming told is) = All (record { behind = behind; waiting_is = none; coming_is = coming; told_is = told; count_is = is })
last_is w work made put count (Declaring x m mk pk ck l) = Unborn x mk (earlier w work x m [] (items.Declare x 0 ∷ []) [] [] l) (last_heard w work x m [] (items.Declare x 0 ∷ []) [] [] l ∙ heard_none x) ck
last_is w work made put count (Answering x m entry mk pk ck l) = Unborn x mk (earlier w work x m _ _ _ _ l) (last_heard w work x m _ _ _ _ l ∙ heard_none x) ck
last_is w work made put count (Undeclared x m entry mk pk ck isnt l) = Unborn x mk (earlier w work x m _ _ _ _ l) (last_heard w work x m _ _ _ _ l ∙ heard_refused x entry.reply isnt) ck
last_is w work made put count (Open x m entry id arrived left ahead mk pk ck within some are born l) = Works x m (earlier w work x m _ _ _ _ l) (last_heard w work x m _ _ _ _ l ∙ heard_declared x id) (record { entry = entry; id = id; arrived = arrived; left = left; ahead = ahead; made_is = mk; put_is = pk; count_is = ck; within = within; some = some; are = are; born = born; last = l })
last_is w work made put count (Discharged x m entry post retirement commit id mk pk born ck l) =
    Waits x m mk (earlier w work x m _ _ _ _ l) (last_heard w work x m _ _ _ _ l ∙ heard_declared x id) l.is pk (put_commit w work x m entry id post retirement commit _ _ l) (by_count ck)
  where
    by_count : Counted commit x count → (count ≡ x) ⊎ (count ≡ suc x)
    by_count (inl does) = inr does.1
    by_count (inr isnt) = inl isnt.1
last_is w work made put count (Rejected x m entry post retirement commit id mk pk born ck isnt l) = by_heard (not_committed id commit isnt)
  where
    heard_is : heard w x ≡ heard_by (Some id) (verdict asked.Commit (state_of commit.reply))
    heard_is = last_heard w work x m _ _ _ _ l ∙ heard_ended x id commit.reply

    by_heard : NotCommitted (heard_by (Some id) (verdict asked.Commit (state_of commit.reply))) → LastHeard w work made put count
    by_heard (IsNothing e) = Waits x m mk (earlier w work x m _ _ _ _ l) (heard_is ∙ e) l.is pk (put_commit w work x m entry id post retirement commit _ _ l) (inl ck)
    by_heard (IsRejected e) = Ended x mk (earlier w work x m _ _ _ _ l) (heard_is ∙ e) ck

-- ---- each message is in exactly one of the two queues

heard_count : (w : Exchange) (x : ℕ) (h : Heard) → made_of w ≡ suc x → ((y : ℕ) → y < x → heard w y ≡ hearings.Committed) → heard w x ≡ h → heard_committed w ≡ x + cond (is_committed h) 1 0
heard_count w x h mk each e =
    ap (committed_among w) mk
    ∙ ap (λ n. n + cond (is_committed (heard w x)) 1 0) (all_committed w x each)
    ∙ ap (λ k. x + cond (is_committed k) 1 0) e

pub once : (w : Exchange) (taken : List Frame) (work : List Message) (made put : ℕ) → Stands w taken work made put → Once work w taken
once w taken work made put s = record {
  within = s.queues.within;
  to_is = s.queues.to_is;
  from_is = s.queues.from_is;
  heard = by_last (last_is w work made put (accepted_commits (record_of w)) s.stage);
}
  where
    as_many : (x : ℕ) (h : Heard) → made ≡ suc x → ((y : ℕ) → y < x → heard w y ≡ hearings.Committed) → heard w x ≡ h → cond {A = ℕ} (is_committed h) 1 0 ≡ 0 → heard_committed w ≡ x
    as_many x h mk each e none = let n = heard_count w x h (s.made_is ∙ mk) each e in omega (arith, n, none)

    by_last : LastHeard w work made put (accepted_commits (record_of w)) → (heard_committed w ≡ accepted_commits (record_of w)) ⊎ ((heard_committed w + 1 ≡ accepted_commits (record_of w)) × LastUnheard w)
    by_last (All idle) = inl (ap (committed_among w) s.made_is ∙ all_committed w made (heard_idle w work made (accepted_commits (record_of w)) idle) ∙ sym idle.count_is)
    by_last (Unborn x mk each e is) = inl (as_many x hearings.Undeclared mk each e refl ∙ sym is)
    by_last (Works x m each e o) = inl (as_many x hearings.Nothing o.made_is each e refl ∙ sym o.count_is)
    by_last (Waits x m mk each e at pk put_it (inl is)) = inl (as_many x hearings.Nothing mk each e refl ∙ sym is)
    by_last (Waits x m mk each e at pk put_it (inr is)) =
        let n = as_many x hearings.Nothing mk each e refl in
        inr (omega (arith, n, is), (x, s.made_is ∙ mk, put_it, e))
    by_last (Ended x mk each e is) = inl (as_many x hearings.Rejected mk each e refl ∙ sym is)

-- ---- the next move

pub moves_at : (w : Exchange) (taken : List Frame) (work : List Message) (made put x : ℕ) (h : Heard) → Stands w taken work made put → made ≡ suc x → heard w x ≡ h → moves w work ≡ moves_after work x put h
moves_at w taken work made put x h s mk e =
    ap (moves_by w work) (s.made_is ∙ mk)
    ∙ ap (λ n. moves_after work x n (heard w x)) (s.put_is x mk)
    ∙ ap (moves_after work x put) e

next_at : (w : Exchange) (taken : List Frame) (work : List Message) (made put x : ℕ) (h : Heard) → Stands w taken work made put → made ≡ suc x → heard w x ≡ h → next_by w work (made_of w) ≡ next_heard work x put h
next_at w taken work made put x h s mk e =
    ap (next_by w work) (s.made_is ∙ mk)
    ∙ ap (λ n. next_heard work x n (heard w x)) (s.put_is x mk)
    ∙ ap (next_heard work x put) e

pub idle_moves : (w : Exchange) (taken : List Frame) (work : List Message) (made put : ℕ) → Stands w taken work made put → ((y : ℕ) → y < made → heard w y ≡ hearings.Committed) → moves w work ≡ declare_for (slice_get work made)
idle_moves w taken work zero put s each = ap (moves_by w work) s.made_is
idle_moves w taken work (suc x) put s each = moves_at w taken work (suc x) put x hearings.Committed s refl (each x (omega arith))

idle_next : (w : Exchange) (taken : List Frame) (work : List Message) (made put : ℕ) → Stands w taken work made put → ((y : ℕ) → y < made → heard w y ≡ hearings.Committed) → next_by w work (made_of w) ≡ next_for (slice_get work made)
idle_next w taken work zero put s each = ap (next_by w work) s.made_is
idle_next w taken work (suc x) put s each = next_at w taken work (suc x) put x hearings.Committed s refl (each x (omega arith))

pub work_moves : (w : Exchange) (taken : List Frame) (work : List Message) (made put x : ℕ) (m : Message) → Stands w taken work made put → made ≡ suc x → heard w x ≡ hearings.Nothing → slice_get work x ≡ Some m → moves w work ≡ drop put (work_of x m)
work_moves w taken work made put x m s mk e at = moves_at w taken work made put x hearings.Nothing s mk e ∙ ap (λ o. rest_of x o put) at

drop_none : (n x : ℕ) (m : Message) → drop (suc (suc (suc n))) (work_of x m) ≡ []
drop_none zero x m = refl
drop_none (suc n) x m = refl

-- where it begins
pub begins : (relay : Relaying) (made put : ℕ) → Stands relay.world.sides (taken_of relay.world.below) relay.work made put → BeginsWith relay (next_of relay)
begins relay made put s = by_last (last_is relay.world.sides relay.work made put (accepted_commits (record_of relay.world.sides)) s.stage)
  where
    whole : (n : Next) → next_by relay.world.sides relay.work (made_of relay.world.sides) ≡ n → BeginsWith relay n → BeginsWith relay (next_of relay)
    whole n e b = subst (λ (k : Next). BeginsWith relay k) (sym e) b

    by_left : (o : Option Message) → moves relay.world.sides relay.work ≡ declare_for o → BeginsWith relay (next_for o)
    by_left None e = e
    by_left (Some m) e = e

    by_put : (x : ℕ) (m : Message) (p : ℕ) → made ≡ suc x → slice_get relay.work x ≡ Some m → moves relay.world.sides relay.work ≡ drop p (work_of x m) → BeginsWith relay (next_after p)
    by_put x m zero mk at e = (x, m, s.made_is ∙ mk, at, e)
    by_put x m (suc zero) mk at e = (x, m, s.made_is ∙ mk, at, e)
    by_put x m (suc (suc zero)) mk at e = (x, m, s.made_is ∙ mk, at, e)
    by_put x m (suc (suc (suc p))) mk at e = e ∙ drop_none p x m

    by_last : LastHeard relay.world.sides relay.work made put (accepted_commits (record_of relay.world.sides)) → BeginsWith relay (next_of relay)
    by_last (All idle) =
        let each = heard_idle relay.world.sides relay.work made (accepted_commits (record_of relay.world.sides)) idle in
        whole (next_for (slice_get relay.work made)) (idle_next relay.world.sides (taken_of relay.world.below) relay.work made put s each)
        (by_left (slice_get relay.work made) (idle_moves relay.world.sides (taken_of relay.world.below) relay.work made put s each))
    by_last (Unborn x mk each e is) =
        whole nexts.Nothing (next_at relay.world.sides (taken_of relay.world.below) relay.work made put x hearings.Undeclared s mk e)
        (moves_at relay.world.sides (taken_of relay.world.below) relay.work made put x hearings.Undeclared s mk e)
    by_last (Works x m each e o) =
        whole (next_after put) (next_at relay.world.sides (taken_of relay.world.below) relay.work made put x hearings.Nothing s o.made_is e)
        (by_put x m put o.made_is o.last.is (work_moves relay.world.sides (taken_of relay.world.below) relay.work made put x m s o.made_is e o.last.is))
    by_last (Waits x m mk each e at pk put_it is) =
        whole (next_after put) (next_at relay.world.sides (taken_of relay.world.below) relay.work made put x hearings.Nothing s mk e)
        (by_put x m put mk at (work_moves relay.world.sides (taken_of relay.world.below) relay.work made put x m s mk e at))
    by_last (Ended x mk each e is) =
        whole nexts.Nothing (next_at relay.world.sides (taken_of relay.world.below) relay.work made put x hearings.Rejected s mk e)
        (moves_at relay.world.sides (taken_of relay.world.below) relay.work made put x hearings.Rejected s mk e)

-- ---- what is told

-- one that heard Rejected is the last one, and no move is left
ends : (w : Exchange) (taken : List Frame) (work : List Message) (made put txn : ℕ) → Stands w taken work made put → txn < made_of w → heard w txn ≡ hearings.Rejected → moves w work ≡ []
ends w taken work made put txn s below rejected = by_last (last_is w work made put (accepted_commits (record_of w)) s.stage)
  where
    less : txn < made
    less = let n = s.made_is in omega (arith, below, n)

    committed : heard w txn ≡ hearings.Committed → moves w work ≡ []
    committed e = let f : hearings.Rejected ≡ hearings.Committed = sym rejected ∙ e in absurd (cc f)

    last : (x : ℕ) (h : Heard) → made ≡ suc x → ((y : ℕ) → y < x → heard w y ≡ hearings.Committed) → heard w x ≡ h → (h ≡ hearings.Rejected → moves w work ≡ []) → moves w work ≡ []
    last x h mk each e then = elim (eqb_tells txn x) [
      | inl p ↦ then (sym e ∙ ap (heard w) (sym p.1) ∙ rejected)
      | inr p ↦ committed (each txn (omega (arith, less, mk, p.1)))
    ]

    by_last : LastHeard w work made put (accepted_commits (record_of w)) → moves w work ≡ []
    by_last (All idle) = committed (heard_idle w work made (accepted_commits (record_of w)) idle txn less)
    by_last (Unborn x mk each e is) = last x hearings.Undeclared mk each e (λ h. absurd (cc h))
    by_last (Works x m each e o) = last x hearings.Nothing o.made_is each e (λ h. absurd (cc h))
    by_last (Waits x m mk each e at pk put_it is) = last x hearings.Nothing mk each e (λ h. absurd (cc h))
    by_last (Ended x mk each e is) = moves_at w taken work made put x hearings.Rejected s mk e

pub holds : (relay : Relaying) (made put : ℕ) → Stands relay.world.sides (taken_of relay.world.below) relay.work made put → Holds relay
holds relay made put s = record {
  once = once relay.world.sides (taken_of relay.world.below) relay.work made put s;
  stops = s.stops;
  ends = λ txn below rejected. ends relay.world.sides (taken_of relay.world.below) relay.work made put txn s below rejected;
}

-- the count that the relay tells
pub counted_none : (relay : Relaying) (made put : ℕ) → Stands relay.world.sides (taken_of relay.world.below) relay.work made put → made ≡ 0 → heard_committed relay.world.sides ≡ 0
counted_none relay made put s e = ap (committed_among relay.world.sides) (s.made_is ∙ e)

pub counted : (relay : Relaying) (made put x : ℕ) (h : Heard) → Stands relay.world.sides (taken_of relay.world.below) relay.work made put → made ≡ suc x → heard relay.world.sides x ≡ h → heard_committed relay.world.sides ≡ x + cond (is_committed h) 1 0
counted relay made put x h s mk e = heard_count relay.world.sides x h (s.made_is ∙ mk) (by_last (last_is relay.world.sides relay.work made put (accepted_commits (record_of relay.world.sides)) s.stage)) e
  where
    of : (y : ℕ) → made ≡ suc y → ((z : ℕ) → z < y → heard relay.world.sides z ≡ hearings.Committed) → (z : ℕ) → z < x → heard relay.world.sides z ≡ hearings.Committed
    of y e each z less = each z (omega (arith, less, mk, e))

    by_last : LastHeard relay.world.sides relay.work made put (accepted_commits (record_of relay.world.sides)) → (z : ℕ) → z < x → heard relay.world.sides z ≡ hearings.Committed
    by_last (All idle) z less = heard_idle relay.world.sides relay.work made (accepted_commits (record_of relay.world.sides)) idle z (omega (arith, less, mk))
    by_last (Unborn y e each h is) z less = of y e each z less
    by_last (Works y m each h o) z less = of y o.made_is each z less
    by_last (Waits y m e each h at pk put_it is) z less = of y e each z less
    by_last (Ended y e each h is) z less = of y e each z less

-- ---- what the code finds

-- after a commit that was heard
pub begins_first : (relay : Relaying) (made put x : ℕ) (n : Next) → Stands relay.world.sides (taken_of relay.world.below) relay.work made put → made ≡ suc x → heard relay.world.sides x ≡ hearings.Committed → n ≡ next_for (slice_get relay.work (made_of relay.world.sides)) → BeginsWith relay n
begins_first relay made put x n s mk e is =
    subst (λ (k : Next). BeginsWith relay k)
    (next_at relay.world.sides (taken_of relay.world.below) relay.work made put x hearings.Committed s mk e ∙ ap (λ k. next_for (slice_get relay.work k)) (sym (s.made_is ∙ mk)) ∙ sym is)
    (begins relay made put s)

-- after its declare
pub begins_after : (relay : Relaying) (made put x : ℕ) (n : Next) → Stands relay.world.sides (taken_of relay.world.below) relay.work made put → made ≡ suc x → heard relay.world.sides x ≡ hearings.Nothing → n ≡ next_after (put_since relay.world.sides x) → BeginsWith relay n
begins_after relay made put x n s mk e is =
    subst (λ (k : Next). BeginsWith relay k)
    (next_at relay.world.sides (taken_of relay.world.below) relay.work made put x hearings.Nothing s mk e ∙ ap next_after (sym (s.put_is x mk)) ∙ sym is)
    (begins relay made put s)

no_moves_after : (work : List Message) (x put : ℕ) (h : Heard) → (h ≡ hearings.Committed → ⊥) → (h ≡ hearings.Nothing → ⊥) → moves_after work x put h ≡ []
no_moves_after work x put hearings.Committed a b = absurd (a refl)
no_moves_after work x put hearings.Nothing a b = absurd (b refl)
no_moves_after work x put _ a b = refl

-- after any other
pub no_moves : (relay : Relaying) (made put x : ℕ) (h : Heard) → Stands relay.world.sides (taken_of relay.world.below) relay.work made put → made ≡ suc x → heard relay.world.sides x ≡ h → (h ≡ hearings.Committed → ⊥) → (h ≡ hearings.Nothing → ⊥) → moves relay.world.sides relay.work ≡ []
no_moves relay made put x h s mk e a b =
    moves_at relay.world.sides (taken_of relay.world.below) relay.work made put x h s mk e ∙ no_moves_after relay.work x put h a b

not_counted : (h : Heard) → (h ≡ hearings.Committed → ⊥) → cond {A = ℕ} (is_committed h) 1 0 ≡ 0
not_counted hearings.Committed a = absurd (a refl)
not_counted _ a = refl

pub counted_last : (relay : Relaying) (made put x : ℕ) → Stands relay.world.sides (taken_of relay.world.below) relay.work made put → made ≡ suc x → heard relay.world.sides x ≡ hearings.Committed → made ≡ heard_committed relay.world.sides
counted_last relay made put x s mk e = let n = counted relay made put x hearings.Committed s mk e in omega (arith, n, mk)

pub counted_others : (relay : Relaying) (made put x : ℕ) (h : Heard) → Stands relay.world.sides (taken_of relay.world.below) relay.work made put → made ≡ suc x → heard relay.world.sides x ≡ h → (h ≡ hearings.Committed → ⊥) → x ≡ heard_committed relay.world.sides
counted_others relay made put x h s mk e other =
    let n = counted relay made put x h s mk e in
    let none = not_counted h other in
    omega (arith, n, none)

-- before the first declare
pub begins_start : (relay : Relaying) (made put : ℕ) (n : Next) → Stands relay.world.sides (taken_of relay.world.below) relay.work made put → made ≡ 0 → n ≡ next_for (slice_get relay.work (made_of relay.world.sides)) → BeginsWith relay n
begins_start relay made put n s none is =
    subst (λ (k : Next). BeginsWith relay k)
    (ap (next_by relay.world.sides relay.work) (s.made_is ∙ none) ∙ ap (λ k. next_for (slice_get relay.work k)) (sym (s.made_is ∙ none)) ∙ sym is)
    (begins relay made put s)
