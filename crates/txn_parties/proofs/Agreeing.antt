-- The agreement of the two sides.
use Rattle.std.proofs.Common.{◌≡◌, ℕ, zero, suc, ◌+◌, ◌<◌, ◌≤◌, Bool, true, false, cond, ◌||◌, Option, Some, None, List, [], ◌∷◌, ◌++◌, length, take, refl, sym, ◌∙◌, ap, arith, subst, append-nil, append_assoc, ◌⊎◌, inl, inr}
use Rattle.std.specs.Prelude.{◌==◌}
use Rattle.std.proofs.lemmas.Bool.{cases_lt, eqb-true, eq-eqb, false_from_ne_true}
use Rattle.amqp_txn_types.specs.declared.id.TransactionId.{TransactionId}
use Rattle.amqp_txn_types.specs.declared.performatives.Frame.{Frame}
use Rattle.amqp_txn_types.specs.Frames.{txn, is_coordinator_attach, is_plain_frame}
use Rattle.amqp_txn_types.specs.Ids.{same_id}
use Rattle.amqp_txn_codec.specs.declared.message.ControlMessageBody.{ControlMessageBody}
use Rattle.amqp_txn_codec.specs.declared.message.ControlMessageBody.TheVariants as messages
use Rattle.amqp_txn_codec.specs.Discharges.{is_rollback}
use Rattle.amqp_txn_codec.specs.Reading.{message_of}
use Rattle.amqp_resource_record.specs.declared.entry.Entry.{Entry}
use Rattle.amqp_resource_record.specs.declared.step.Step.{Step}
use Rattle.amqp_resource_record.specs.declared.step.Step.TheVariants as steps
use Rattle.amqp_resource_record.specs.declared.stop.StopCode.{StopCode}
use Rattle.amqp_resource_record.specs.Links.{is_open}
use Rattle.amqp_resource_record.specs.Live.{is_live, frame_places}
use Rattle.amqp_resource_record.specs.Hands.{sources, sources_of, commits, commits_message, if_open}
use Rattle.amqp_resource_record.specs.Work.{origins}
use Rattle.amqp_resource_record.specs.Legal.{IsLegal}
use Rattle.amqp_resource_record.proofs.Ids.{same_id-eq}
use Rattle.amqp_resource_record.proofs.Looking.{places-below}
use Rattle.amqp_resource_record.proofs.Living.{live_undischarged}
use Rattle.txn_parties.specs.declared.item.Item.{Item}
use Rattle.txn_parties.specs.declared.item.Item.TheVariants as items
use Rattle.txn_parties.specs.declared.item.Answered.{Answered}
use Rattle.txn_parties.specs.declared.item.Halt.{Halt}
use Rattle.txn_parties.specs.declared.item.Asked.{Asked}
use Rattle.txn_parties.specs.declared.item.Asked.TheVariants as asked
use Rattle.txn_parties.specs.declared.item.ReplyState.{ReplyState}
use Rattle.txn_parties.specs.declared.item.ReplyState.TheVariants as states
use Rattle.txn_parties.specs.declared.event.Heard.{Heard}
use Rattle.txn_parties.specs.declared.event.Heard.TheVariants as hearings
use Rattle.txn_parties.specs.Times.{times, RisingFrom}
use Rattle.txn_parties.specs.Items.{declare_message, declares_on, discharge_message, item_ends, item_under, or_else, step_of}
use Rattle.txn_parties.specs.BackWire.{heard_by, id_in, verdict, verdict_in}
use Rattle.txn_parties.specs.Exchange.{Exchange, back_of, forward, heard, items_of, record_of}
use Rattle.txn_parties.specs.Spans.{drawn_on, from_link, span, span_from, stop_places, within}
use Rattle.txn_parties.specs.Turns.{MayStop}
use Rattle.txn_parties.specs.Lives.{Life, Unborn, Runs, Took, Spent, Holds, Fits, Running, Dead, life_in}
use Rattle.txn_parties.specs.Invariant.{One, Ready, Halted, Keeps}
use Rattle.txn_parties.specs.Agreement.{AllOf, NoneOf, Open, NoneHanded, AllHanded, PartHanded, Means, StopsSure}
use Rattle.txn_parties.proofs.Once.{once, times-append, times-cons, times-below, own_or, held_live, origins-below, plain_under}
use Rattle.txn_parties.proofs.Living.{declare_read, discharge_read, fits_short, not_own}
use Rattle.txn_parties.proofs.Wires.{found_first, verdict_in-append}
use Rattle.txn_parties.proofs.Turning.{fits_now, heard_back}

-- ---- rising places

rising_down : (m n : ℕ) (xs : List ℕ) → m ≤ n → RisingFrom n xs → RisingFrom m xs
rising_down m n [] h r = tt
rising_down m n (x ∷ xs) h r = (omega (arith, r.0), r.1)

rising_times : (n i : ℕ) (xs : List ℕ) → RisingFrom n xs → i < n → times i xs ≡ 0
rising_times n i [] r h = refl
rising_times n i (x ∷ xs) r h = by_own (own_or x i) (rising_times (x + 1) i xs r.1 (omega (arith, r.0)))
  where
    by_own : (times i (x ∷ []) ≡ 0) ⊎ ((times i (x ∷ []) ≡ 1) × (x ≡ i)) → times i xs ≡ 0 → times i (x ∷ xs) ≡ 0
    by_own (inl z) n = omega (arith, times-cons i x xs, z, n)
    by_own (inr o) n = absurd (omega (arith, o.1, r.0))

rising_cond : (n : ℕ) (b : Bool) (xs : List ℕ) → RisingFrom (n + 1) xs → RisingFrom n (cond b (n ∷ []) [] ++ xs)
rising_cond n true xs r = (omega arith, r)
rising_cond n false xs r = rising_down n (n + 1) xs (omega arith) r

within_cons : (n x : ℕ) (t : TransactionId) (k : ℕ) (i : Item) (xs : List ℕ) (b : Bool) → RisingFrom (n + 1) xs → RisingFrom n (cond b [] (cond (item_under t i) (n ∷ []) [] ++ xs))
within_cons n x t k i xs true r = tt
within_cons n x t k i xs false r = rising_cond n (item_under t i) xs r

within_rising : (n x : ℕ) (t : TransactionId) (k : ℕ) (list : List Item) → RisingFrom n (within n x t k list)
within_rising n x t k [] = tt
within_rising n x t k (i ∷ list) = within_cons n x t k i (within (n + 1) x t k list) (item_ends x k i) (within_rising (n + 1) x t k list)

span_cons : (n : ℕ) (o : Option ℕ) (f : ℕ → List ℕ) (xs : List ℕ) → ((k : ℕ) → RisingFrom (n + 1) (f k)) → RisingFrom (n + 1) xs → RisingFrom n (from_link o f xs)
span_cons n None f xs g r = rising_down n (n + 1) xs (omega arith) r
span_cons n (Some k) f xs g r = rising_down n (n + 1) (f k) (omega arith) (g k)

span_from-rising : (n x : ℕ) (t : TransactionId) (list : List Item) → RisingFrom n (span_from n x t list)
span_from-rising n x t [] = tt
span_from-rising n x t (i ∷ list) = span_cons n (declares_on x i) (λ k. within (n + 1) x t k list) (span_from (n + 1) x t list) (λ k. within_rising (n + 1) x t k list) (span_from-rising (n + 1) x t list)

pub span_rising : (w : Exchange) (x : ℕ) (t : TransactionId) → RisingFrom 0 (span w x t)
span_rising w x t = rising_down 0 (length w.first) (span w x t) (omega arith) (span_from-rising (length w.first) x t (forward w))

-- ---- what the stopping item handed

times_take : (i h : ℕ) (xs : List ℕ) → times i (take h xs) ≤ times i xs
times_take i zero xs = omega arith
times_take i (suc h) [] = omega arith
times_take i (suc h) (x ∷ xs) = omega (arith, times-cons i x xs, times-cons i x (take h xs), times_take i h xs)

pub data Sources (r : List Entry) (s : Step) : Type 0 where
  NoPlace : sources r s ≡ [] → Sources r s
  OwnPlace : (frame : Frame) → s ≡ steps.Frame frame → is_plain_frame frame ≡ true → sources r s ≡ length r ∷ [] → Sources r s
  Places : (t : TransactionId) → is_live r t ≡ true → commits r s ≡ Some t → sources r s ≡ frame_places r t → Sources r s

message_live : (r : List Entry) (k : ℕ) (m : Option ControlMessageBody) (t : TransactionId) → commits_message r k m ≡ Some t → is_live r t ≡ true
message_live r k None t h = cc h
message_live r k (Some (messages.Declare declare)) t h = cc h
message_live r k (Some (messages.Discharge discharge)) t h = let p = held_live r k discharge.txn_id t (is_rollback discharge.fail) h in ap (is_live r) (sym p.2) ∙ p.0

commits_live : (r : List Entry) (k : ℕ) (b : Bool) (m : Option ControlMessageBody) (t : TransactionId) → if_open b (commits_message r k m) ≡ Some t → is_live r t ≡ true
commits_live r k true m t h = message_live r k m t h
commits_live r k false m t h = cc h

pub sources_what : (r : List Entry) (s : Step) → Sources r s
sources_what r (steps.Frame frame) = by_case (is_plain_frame frame) refl
  where
    by_case : (b : Bool) → is_plain_frame frame ≡ b → Sources r (steps.Frame frame)
    by_case true e = OwnPlace frame refl e (ap (λ b. cond b (length r ∷ []) []) e)
    by_case false e = NoPlace (ap (λ b. cond b (length r ∷ []) []) e)
sources_what r (steps.Control k payload) = by_case (commits r (steps.Control k payload)) refl
  where
    by_case : (o : Option TransactionId) → commits r (steps.Control k payload) ≡ o → Sources r (steps.Control k payload)
    by_case None e = NoPlace (ap (sources_of r) e)
    by_case (Some t) e = Places t (commits_live r k (is_open r k) (message_of payload) t e) e (ap (sources_of r) e)
sources_what r _ = NoPlace refl

-- what a stop hands isn't more than what its item hands
stop_least : (i : ℕ) (r : List Entry) (halt : Halt) (item : Item) (rest : List Item) → times i (stop_places r (Some halt) (item ∷ rest)) ≤ times i (sources r (step_of item))
stop_least i r halt item rest = times_take i halt.handed (sources r (step_of item))

drawn_times : (i : ℕ) (w : Exchange) → times i (drawn_on w) ≡ times i (origins (record_of w)) + times i (stop_places (record_of w) w.stop w.waiting)
drawn_times i w = times-append i (origins (record_of w)) (stop_places (record_of w) w.stop w.waiting)

-- ---- no place twice

stop_once : (i : ℕ) (r : List Entry) (s : Option Halt) (ws : List Item) → IsLegal r → times i (origins r) + times i (stop_places r s ws) ≤ 1
stop_once i r None ws l = omega (arith, (once r l).handed i, z)
  where
    z : times i [] ≡ 0
    z = refl
stop_once i r (Some halt) [] l = omega (arith, (once r l).handed i, z)
  where
    z : times i [] ≡ 0
    z = refl
stop_once i r (Some halt) (item ∷ rest) l = by_case (sources_what r (step_of item))
  where
    by_case : Sources r (step_of item) → times i (origins r) + times i (stop_places r (Some halt) (item ∷ rest)) ≤ 1
    by_case (NoPlace e) = let z : times i (sources r (step_of item)) ≡ 0 = ap (times i) e in omega (arith, (once r l).handed i, z, stop_least i r halt item rest)
    by_case (OwnPlace frame q pl e) = by_own (own_or (length r) i)
      where
        m : times i (sources r (step_of item)) ≡ times i (length r ∷ [])
        m = ap (times i) e

        by_own : (times i (length r ∷ []) ≡ 0) ⊎ ((times i (length r ∷ []) ≡ 1) × (length r ≡ i)) → times i (origins r) + times i (stop_places r (Some halt) (item ∷ rest)) ≤ 1
        by_own (inl z) = omega (arith, (once r l).handed i, z, m, stop_least i r halt item rest)
        by_own (inr o) = omega (arith, o.0, m, stop_least i r halt item rest, times-below (length r) i (origins r) (origins-below r l) (omega (arith, o.1)))
    by_case (Places t live c e) =
        let m : times i (sources r (step_of item)) ≡ times i (frame_places r t) = ap (times i) e in
        omega (arith, m, stop_least i r halt item rest, (once r l).kept i t (live_undischarged r t live))

pub drawn_once : (w : Exchange) → Keeps w → (i : ℕ) → times i (drawn_on w) ≤ 1
drawn_once w k i = omega (arith, drawn_times i w, stop_once i (record_of w) w.stop w.waiting k.past.legal)

-- ---- places that are dead

dead_stop : (i : ℕ) (r : List Entry) (s : Option Halt) (ws : List Item) → Dead r i → times i (stop_places r s ws) ≡ 0
dead_stop i r None ws d = refl
dead_stop i r (Some halt) [] d = refl
dead_stop i r (Some halt) (item ∷ rest) d = by_case (sources_what r (step_of item))
  where
    by_case : Sources r (step_of item) → times i (stop_places r (Some halt) (item ∷ rest)) ≡ 0
    by_case (NoPlace e) = let z : times i (sources r (step_of item)) ≡ 0 = ap (times i) e in omega (arith, z, stop_least i r halt item rest)
    by_case (OwnPlace frame q pl e) = let z : times i (sources r (step_of item)) ≡ 0 = ap (times i) e ∙ not_own (length r) i d.below in omega (arith, z, stop_least i r halt item rest)
    by_case (Places t live c e) = let z : times i (sources r (step_of item)) ≡ 0 = ap (times i) e ∙ d.kept t live in omega (arith, z, stop_least i r halt item rest)

none_dead : (w : Exchange) (s : List ℕ) → ((i : ℕ) → 1 ≤ times i s → Dead (record_of w) i) → NoneOf w s
none_dead w s d = λ i here. omega (arith, drawn_times i w, (d i here).handed, dead_stop i (record_of w) w.stop w.waiting (d i here))

-- ---- each verdict

take_whole : (w : Exchange) (x : ℕ) (t : TransactionId) (s : List ℕ) → Holds (record_of w) (Took t s) → AllOf w s
take_whole w x t s h = (h.0, h.1 ++ stop_places (record_of w) w.stop w.waiting, ap (λ l. l ++ stop_places (record_of w) w.stop w.waiting) h.2 ∙ append_assoc (h.0 ++ s) h.1 (stop_places (record_of w) w.stop w.waiting))

pub heard_verdict : (w : Exchange) (x : ℕ) (v : Heard) → Keeps w → verdict_in x w.told ≡ Some v → verdict_in x (back_of w.came) ≡ Some v
heard_verdict w x v k h = found_first (verdict_in x w.told) (verdict_in x w.coming) (verdict_in x (back_of w.came)) v (ap (verdict_in x) (sym k.back) ∙ verdict_in-append x w.told w.coming) h

same_some : (t u : TransactionId) → Some t ≡ Some u → t ≡ u
same_some t u h = cc h

committed : (w : Exchange) (x : ℕ) (t : TransactionId) (life : Life) → One w.first w.came x life → id_in x (back_of w.came) ≡ Some t → verdict_in x (back_of w.came) ≡ Some hearings.Committed → AllOf w (span w x t)
committed w x t Unborn o h v = let e : None ≡ Some t = sym o.agrees.0 ∙ h in cc e
committed w x t (Runs p u k s) o h v = let e : None ≡ Some hearings.Committed = sym o.agrees.1 ∙ v in cc e
committed w x t (Took u s) o h v =
    let ut = same_some u t (sym o.agrees.0 ∙ h) in
    let e : span w x t ≡ s = ap (span w x) (sym ut) ∙ o.spans w.waiting in
    subst (λ (l : List ℕ). AllOf w l) (sym e) (take_whole w x u s o.holds)
committed w x t (Spent u s) o h v = absurd (o.agrees.1 v)

not_committed : (w : Exchange) (x : ℕ) (t : TransactionId) (v : Heard) (life : Life) → One w.first w.came x life → id_in x (back_of w.came) ≡ Some t → verdict_in x (back_of w.came) ≡ Some v → (v ≡ hearings.Committed → ⊥) → NoneOf w (span w x t)
not_committed w x t v Unborn o h g n = let e : None ≡ Some t = sym o.agrees.0 ∙ h in cc e
not_committed w x t v (Runs p u k s) o h g n = let e : None ≡ Some v = sym o.agrees.1 ∙ g in cc e
not_committed w x t v (Took u s) o h g n = let e : Some v ≡ Some hearings.Committed = sym g ∙ o.agrees.1 in absurd (n (cc e))
not_committed w x t v (Spent u s) o h g n =
    let ut = same_some u t (sym o.agrees.0 ∙ h) in
    let e : span w x t ≡ s = ap (span w x) (sym ut) ∙ o.spans w.waiting in
    subst (λ (l : List ℕ). NoneOf w l) (sym e) (none_dead w s o.holds)

-- ---- no verdict heard

-- a place of a running one's span wasn't handed by what the record has
kept_origins : (r : List Entry) (p : ℕ) (t : TransactionId) (k : ℕ) (s xs : List ℕ) (i : ℕ) → IsLegal r → Running r p t k s → RisingFrom (length r) xs → 1 ≤ times i (s ++ xs) → times i (origins r) ≡ 0
kept_origins r p t k s xs i l w up here = by_case (cases_lt i (length r))
  where
    span : times i s ≡ times i (frame_places r t)
    span = ap (times i) (sym w.span)

    by_case : (i < length r) ⊎ (length r ≤ i) → times i (origins r) ≡ 0
    by_case (inl h) = omega (arith, times-append i s xs, rising_times (length r) i xs up h, here, span, (once r l).kept i t (live_undischarged r t w.live))
    by_case (inr h) = times-below (length r) i (origins r) (origins-below r l) h

-- nor kept under another id
kept_apart : (r : List Entry) (p : ℕ) (t u : TransactionId) (k : ℕ) (s xs : List ℕ) (i : ℕ) → IsLegal r → Running r p t k s → RisingFrom (length r) xs → is_live r u ≡ true → same_id t u ≡ false → 1 ≤ times i (s ++ xs) → times i (frame_places r u) ≡ 0
kept_apart r p t u k s xs i l w up live n here = by_case (cases_lt i (length r))
  where
    span : times i s ≡ times i (frame_places r t)
    span = ap (times i) (sym w.span)

    by_case : (i < length r) ⊎ (length r ≤ i) → times i (frame_places r u) ≡ 0
    by_case (inl h) = omega (arith, times-append i s xs, rising_times (length r) i xs up h, here, span, (once r l).apart i t u (live_undischarged r t w.live) (live_undischarged r u live) n)
    by_case (inr h) = times-below (length r) i (frame_places r u) (places-below r u) h

-- the item that commits the id is a discharge of it
data CommitItem (i : Item) (u : TransactionId) : Type 0 where
  IsCommit : (y k : ℕ) → i ≡ items.Discharge y k u false → CommitItem i u

discharge_id : (t u : TransactionId) (r : List Entry) (k : ℕ) (b o : Bool) → if_open o (commits_message r k (Some (discharge_message t b))) ≡ Some u → (t ≡ u) × (b ≡ false)
discharge_id t u r k b false h = cc h
discharge_id t u r k true true h = cc h
discharge_id t u r k false true h = ((held_live r k t u false h).2, refl)

declare_commits : (u : TransactionId) (r : List Entry) (k : ℕ) (o : Bool) → if_open o (commits_message r k (Some declare_message)) ≡ Some u → ⊥
declare_commits u r k true h = cc h
declare_commits u r k false h = cc h

-- an item whose id, if it is a discharge, is short
abbrev pub ShortItem : Item → Type 0
ShortItem (items.Discharge y k t b) = length t ≤ 32
ShortItem _ = Unit {0}

commit_item : (r : List Entry) (i : Item) (u : TransactionId) → ShortItem i → commits r (step_of i) ≡ Some u → CommitItem i u
commit_item r (items.Declare y k) u short h = absurd (declare_commits u r k (is_open r k) (ap (λ m. if_open (is_open r k) (commits_message r k m)) (sym declare_read) ∙ h))
commit_item r (items.Discharge y k t b) u short h =
    let p = discharge_id t u r k b (is_open r k) (ap (λ m. if_open (is_open r k) (commits_message r k m)) (sym (discharge_read t b short)) ∙ h) in
    IsCommit y k (ap (λ v. items.Discharge y k v b) p.0 ∙ ap (λ c. items.Discharge y k u c) p.1)
commit_item r (items.LinkEnd k) u short h = cc h
commit_item r (items.Frame frame) u short h = cc h

frame_step_item : (i : Item) (frame : Frame) → step_of i ≡ steps.Frame frame → i ≡ items.Frame frame
frame_step_item (items.Declare y k) frame h = cc h
frame_step_item (items.Discharge y k t b) frame h = cc h
frame_step_item (items.LinkEnd k) frame h = cc h
frame_step_item (items.Frame g) frame h = let e : g ≡ frame = cc h in ap (λ f. items.Frame f) e

-- the own place of a plain frame isn't in the span
plain_outside : (n x : ℕ) (t : TransactionId) (k : ℕ) (frame : Frame) (rest : List Item) → is_plain_frame frame ≡ true → times n (within n x t k (items.Frame frame ∷ rest)) ≡ 0
plain_outside n x t k frame rest pl =
    ap (λ b. times n (cond b (n ∷ []) [] ++ within (n + 1) x t k rest)) (plain_under t (txn frame) (is_coordinator_attach frame) pl)
    ∙ rising_times (n + 1) n (within (n + 1) x t k rest) (within_rising (n + 1) x t k rest) (omega arith)

-- an own discharge ends the span
own_ends : (n x : ℕ) (t u : TransactionId) (k j : ℕ) (b : Bool) (rest : List Item) → within n x t k (items.Discharge x j u b ∷ rest) ≡ []
own_ends n x t u k j b rest = ap (λ c. cond (c || false) [] (within (n + 1) x t k rest)) (eq-eqb x x refl)

runs_same : (p q : ℕ) (t u : TransactionId) (j k : ℕ) (s w : List ℕ) → Runs p t j s ≡ Runs q u k w → t ≡ u
runs_same p q t u j k s w h = cc h

-- what is known of a running one, where the session stopped at the item
record RunsAt (w : Exchange) (x : ℕ) (t : TransactionId) (p k : ℕ) (s : List ℕ) (halt : Halt) (i : Item) (rest : List Item) : Type 0 where
  life : life_in w.first w.came x ≡ Runs p t k s
  running : Running (record_of w) p t k s
  spans : span w x t ≡ s ++ within (length (record_of w)) x t k w.waiting
  stop : w.stop ≡ Some halt
  waits : w.waiting ≡ i ∷ rest
  cause : MayStop w.sure (record_of w) (step_of i) halt

stop_at : (w : Exchange) (halt : Halt) (i : Item) (rest : List Item) → w.stop ≡ Some halt → w.waiting ≡ i ∷ rest → stop_places (record_of w) w.stop w.waiting ≡ take halt.handed (sources (record_of w) (step_of i))
stop_at w halt i rest st wt = ap (λ z. stop_places (record_of w) z w.waiting) st ∙ ap (λ z. stop_places (record_of w) (Some halt) z) wt

-- none of its places were handed, where the item hands none of them
none_of : (w : Exchange) (x : ℕ) (t : TransactionId) (p k : ℕ) (s : List ℕ) (halt : Halt) (i : Item) (rest : List Item) → Keeps w → RunsAt w x t p k s halt i rest → ((j : ℕ) → 1 ≤ times j (s ++ within (length (record_of w)) x t k w.waiting) → times j (sources (record_of w) (step_of i)) ≡ 0) → NoneOf w (span w x t)
none_of w x t p k s halt i rest kp at none = λ j here.
    let r : List Entry = record_of w in
    let here2 : 1 ≤ times j (s ++ within (length r) x t k w.waiting) = subst (λ (l : List ℕ). 1 ≤ times j l) at.spans here in
    let places : times j (stop_places r w.stop w.waiting) ≡ times j (take halt.handed (sources r (step_of i))) = ap (times j) (stop_at w halt i rest at.stop at.waits) in
    omega (arith, drawn_times j w, places, times_take j halt.handed (sources r (step_of i)), none j here2, kept_origins r p t k s (within (length r) x t k w.waiting) j kp.past.legal at.running (within_rising (length r) x t k w.waiting) here2)

own_place : (w : Exchange) (x : ℕ) (t : TransactionId) (p k : ℕ) (s : List ℕ) (halt : Halt) (i : Item) (rest : List Item) (frame : Frame) → RunsAt w x t p k s halt i rest → step_of i ≡ steps.Frame frame → is_plain_frame frame ≡ true → (j : ℕ) → 1 ≤ times j (s ++ within (length (record_of w)) x t k w.waiting) → times j (length (record_of w) ∷ []) ≡ 0
own_place w x t p k s halt i rest frame at q pl j here = by_own (own_or (length (record_of w)) j)
  where
    by_own : (times j (length (record_of w) ∷ []) ≡ 0) ⊎ ((times j (length (record_of w) ∷ []) ≡ 1) × (length (record_of w) ≡ j)) → times j (length (record_of w) ∷ []) ≡ 0
    by_own (inl z) = z
    by_own (inr o) =
        let r : List Entry = record_of w in
        let n : ℕ = length r in
        let wi : within n x t k w.waiting ≡ within n x t k (items.Frame frame ∷ rest) = ap (within n x t k) at.waits ∙ ap (λ z. within n x t k (z ∷ rest)) (frame_step_item i frame q) in
        let out : times n (within n x t k w.waiting) ≡ 0 = ap (times n) wi ∙ plain_outside n x t k frame rest pl in
        let out2 : times j (within n x t k w.waiting) ≡ 0 = ap (λ z. times z (within n x t k w.waiting)) (sym o.1) ∙ out in
        let ms : times j s ≡ 0 = ap (times j) (sym at.running.span) ∙ times-below n j (frame_places r t) (places-below r t) (omega (arith, o.1)) in
        absurd (omega (arith, times-append j s (within n x t k w.waiting), out2, ms, here))

-- the first so many of a list: none, some, or all
data Front (h : ℕ) (xs : List ℕ) : Type 0 where
  Empty : take h xs ≡ [] → Front h xs
  Proper : 1 ≤ h → h < length xs → Front h xs
  Whole : take h xs ≡ xs → Front h xs

take_all : (h : ℕ) (xs : List ℕ) → length xs ≤ h → take h xs ≡ xs
take_all zero [] l = refl
take_all (suc h) [] l = refl
take_all zero (x ∷ xs) l = absurd (omega arith)
take_all (suc h) (x ∷ xs) l = ap (λ ys. x ∷ ys) (take_all h xs (omega arith))

front_of : (h : ℕ) (xs : List ℕ) → Front h xs
front_of zero xs = Empty refl
front_of (suc h) xs = by_case (cases_lt (suc h) (length xs))
  where
    by_case : (suc h < length xs) ⊎ (length xs ≤ suc h) → Front (suc h) xs
    by_case (inl l) = Proper (omega arith) l
    by_case (inr l) = Whole (take_all (suc h) xs l)

not_sure : (b : Bool) (h : ℕ) → (b ≡ true → h ≡ 0) → 1 ≤ h → b ≡ false
not_sure true h f l = absurd (omega (arith, f refl))
not_sure false h f l = refl

-- the session stopped at its own commit
stopped_own : (w : Exchange) (x : ℕ) (t : TransactionId) (p k l : ℕ) (s : List ℕ) (halt : Halt) (i : Item) (rest : List Item) → Keeps w → RunsAt w x t p k s halt i rest → i ≡ items.Discharge x l t false → sources (record_of w) (step_of i) ≡ frame_places (record_of w) t → Open w x (span w x t)
stopped_own w x t p k l s halt i rest kp at ei e = by_front (front_of halt.handed (span w x t))
  where
    wo : w.waiting ≡ items.Discharge x l t false ∷ rest
    wo = at.waits ∙ ap (λ z. z ∷ rest) ei

    whole : span w x t ≡ s
    whole = at.spans ∙ ap (λ z. s ++ within (length (record_of w)) x t k z) wo ∙ ap (λ z. s ++ z) (own_ends (length (record_of w)) x t t k l false rest) ∙ append-nil s

    src : sources (record_of w) (step_of i) ≡ span w x t
    src = e ∙ at.running.span ∙ sym whole

    drawn : drawn_on w ≡ origins (record_of w) ++ take halt.handed (span w x t)
    drawn = ap (λ z. origins (record_of w) ++ z) (stop_at w halt i rest at.stop at.waits) ∙ ap (λ z. origins (record_of w) ++ take halt.handed z) src

    others : (j : ℕ) → 1 ≤ times j (span w x t) → times j (origins (record_of w)) ≡ 0
    others j here = kept_origins (record_of w) p t k s (within (length (record_of w)) x t k w.waiting) j kp.past.legal at.running (within_rising (length (record_of w)) x t k w.waiting) (subst (λ (z : List ℕ). 1 ≤ times j z) at.spans here)

    cause : MayStop w.sure (record_of w) (step_of (items.Discharge x l t false)) halt
    cause = subst (λ (z : Item). MayStop w.sure (record_of w) (step_of z) halt) ei at.cause

    coded : StopCode → Option Halt
    coded c = Some (record { code = c; handed = halt.handed })

    by_front : Front halt.handed (span w x t) → Open w x (span w x t)
    by_front (Empty f) = NoneHanded (λ j here.
        let d : drawn_on w ≡ origins (record_of w) = drawn ∙ ap (λ z. origins (record_of w) ++ z) f ∙ append-nil (origins (record_of w)) in
        ap (times j) d ∙ others j here)
    by_front (Proper some proper) = PartHanded (record {
      handed = halt.handed;
      some = some;
      proper = proper;
      drawn = drawn;
      others = others;
      stop = at.stop ∙ ap coded cause.1;
      own = (l, t, rest, wo);
      unsure = not_sure w.sure halt.handed cause.2 some;
    })
    by_front (Whole f) = AllHanded (origins (record_of w), [], drawn ∙ ap (λ z. origins (record_of w) ++ z) f ∙ sym (append-nil (origins (record_of w) ++ span w x t)))

item_short : (w : Exchange) (i : Item) → Keeps w → Fits (life_in w.first w.came) i → ShortItem i
item_short w (items.Declare y j) kp fit = tt
item_short w (items.Discharge y j t b) kp fit = fits_short (record_of w) (life_in w.first w.came) y j t b (λ z. (kp.past.one z).holds) fit
item_short w (items.LinkEnd j) kp fit = tt
item_short w (items.Frame frame) kp fit = tt

fit_first : (w : Exchange) (i : Item) (rest : List Item) → Keeps w → w.waiting ≡ i ∷ rest → Fits (life_in w.first w.came) i
fit_first w i rest kp wt =
    let ready : Ready (λ z. id_in z w.told) (items_of w.came) (i ∷ rest) = subst (λ (l : List Item). Ready (λ z. id_in z w.told) (items_of w.came) l) wt kp.ready in
    (fits_now w i kp ready.0).0

-- the session stopped at a commit
stopped_commit : (w : Exchange) (x : ℕ) (t u : TransactionId) (p k : ℕ) (s : List ℕ) (halt : Halt) (i : Item) (rest : List Item) → Keeps w → RunsAt w x t p k s halt i rest → is_live (record_of w) u ≡ true → sources (record_of w) (step_of i) ≡ frame_places (record_of w) u → CommitItem i u → Open w x (span w x t)
stopped_commit w x t u p k s halt i rest kp at live e (IsCommit y l ei) = by_name (x == y) refl
  where
    fit : Fits (life_in w.first w.came) (items.Discharge y l u false)
    fit = subst (λ (z : Item). Fits (life_in w.first w.came) z) ei (fit_first w i rest kp at.waits)

    by_name : (b : Bool) → (x == y) ≡ b → Open w x (span w x t)
    by_name true n =
        let xy : x ≡ y = eqb-true x y n in
        let tu : t ≡ u = runs_same p fit.0 t u k l s fit.1 (sym at.life ∙ ap (life_in w.first w.came) xy ∙ fit.2) in
        let eo : i ≡ items.Discharge x l t false = ei ∙ ap (λ z. items.Discharge z l u false) (sym xy) ∙ ap (λ z. items.Discharge x l z false) (sym tu) in
        stopped_own w x t p k l s halt i rest kp at eo (e ∙ ap (frame_places (record_of w)) (sym tu))
    by_name false n =
        let differ : same_id t u ≡ false = false_from_ne_true (same_id t u) (λ same.
        let tu : t ≡ u = same_id-eq t u same in
        let xy : x ≡ y = kp.past.apart x y p fit.0 u k l s fit.1 (at.life ∙ ap (λ z. Runs p z k s) tu) fit.2 in
        let g : true ≡ false = sym (eq-eqb x y xy) ∙ n in cc g) in
        NoneHanded (none_of w x t p k s halt i rest kp at (λ j here. ap (times j) e ∙ kept_apart (record_of w) p t u k s (within (length (record_of w)) x t k w.waiting) j kp.past.legal at.running (within_rising (length (record_of w)) x t k w.waiting) live differ here))

-- a running one, where the session stopped at this item
stopped_at : (w : Exchange) (x : ℕ) (t : TransactionId) (p k : ℕ) (s : List ℕ) (halt : Halt) (i : Item) (rest : List Item) → Keeps w → RunsAt w x t p k s halt i rest → Sources (record_of w) (step_of i) → Open w x (span w x t)
stopped_at w x t p k s halt i rest kp at (NoPlace e) = NoneHanded (none_of w x t p k s halt i rest kp at (λ j here. ap (times j) e))
stopped_at w x t p k s halt i rest kp at (OwnPlace frame q pl e) = NoneHanded (none_of w x t p k s halt i rest kp at (λ j here. ap (times j) e ∙ own_place w x t p k s halt i rest frame at q pl j here))
stopped_at w x t p k s halt i rest kp at (Places u live c e) = stopped_commit w x t u p k s halt i rest kp at live e (commit_item (record_of w) i u (item_short w i kp (fit_first w i rest kp at.waits)) c)

quiet_stop : (w : Exchange) (x : ℕ) (t : TransactionId) (p k : ℕ) (s : List ℕ) → Keeps w → Running (record_of w) p t k s → span w x t ≡ s ++ within (length (record_of w)) x t k w.waiting → stop_places (record_of w) w.stop w.waiting ≡ [] → Open w x (span w x t)
quiet_stop w x t p k s kp run sp none = NoneHanded (λ j here.
    let r : List Entry = record_of w in
    let z : times j (stop_places r w.stop w.waiting) ≡ 0 = ap (times j) none in
    omega (arith, drawn_times j w, z, kept_origins r p t k s (within (length r) x t k w.waiting) j kp.past.legal run (within_rising (length r) x t k w.waiting) (subst (λ (y : List ℕ). 1 ≤ times j y) sp here)))

running_open : (w : Exchange) (x : ℕ) (t : TransactionId) (p k : ℕ) (s : List ℕ) (st : Option Halt) → Keeps w → life_in w.first w.came x ≡ Runs p t k s → Running (record_of w) p t k s → span w x t ≡ s ++ within (length (record_of w)) x t k w.waiting → w.stop ≡ st → Open w x (span w x t)
running_open w x t p k s None kp fx run sp es = quiet_stop w x t p k s kp run sp (ap (λ z. stop_places (record_of w) z w.waiting) es)
running_open w x t p k s (Some halt) kp fx run sp es =
    let h : Halted w halt = kp.halted halt es in
    stopped_at w x t p k s halt h.item h.rest kp (record { life = fx; running = run; spans = sp; stop = es; waits = h.waits; cause = h.cause }) (sources_what (record_of w) (step_of h.item))

no_verdict : (w : Exchange) (x : ℕ) (t : TransactionId) (life : Life) → Keeps w → life_in w.first w.came x ≡ life → One w.first w.came x life → id_in x (back_of w.came) ≡ Some t → Open w x (span w x t)
no_verdict w x t Unborn kp fx o h = let e : None ≡ Some t = sym o.agrees.0 ∙ h in cc e
no_verdict w x t (Took u s) kp fx o h =
    let ut = same_some u t (sym o.agrees.0 ∙ h) in
    let e : span w x t ≡ s = ap (span w x) (sym ut) ∙ o.spans w.waiting in
    AllHanded (subst (λ (l : List ℕ). AllOf w l) (sym e) (take_whole w x u s o.holds))
no_verdict w x t (Spent u s) kp fx o h =
    let ut = same_some u t (sym o.agrees.0 ∙ h) in
    let e : span w x t ≡ s = ap (span w x) (sym ut) ∙ o.spans w.waiting in
    NoneHanded (subst (λ (l : List ℕ). NoneOf w l) (sym e) (none_dead w s o.holds))
no_verdict w x t (Runs p u k s) kp fx o h =
    let ut = same_some u t (sym o.agrees.0 ∙ h) in
    let run : Running (record_of w) p u k s = o.holds in
    subst (λ (v : TransactionId). Open w x (span w x v)) ut (running_open w x u p k s w.stop kp fx run (o.spans w.waiting) refl)

-- ---- what was heard

-- an answer to a discharge says one of three things
abbrev pub IsVerdict : Heard → Type 0
IsVerdict v = (v ≡ hearings.Undeclared → ⊥) × (v ≡ hearings.Nothing → ⊥)

verdict_word : (a : Asked) (st : ReplyState) (v : Heard) → verdict a st ≡ Some v → IsVerdict v
verdict_word asked.Commit states.Accepted v e = (λ q. cc (e, q), λ q. cc (e, q))
verdict_word asked.Rollback states.Accepted v e = (λ q. cc (e, q), λ q. cc (e, q))
verdict_word asked.Commit (states.Rejected error text) v e = (λ q. cc (e, q), λ q. cc (e, q))
verdict_word asked.Rollback (states.Rejected error text) v e = (λ q. cc (e, q), λ q. cc (e, q))
verdict_word _ _ v e = cc e

or_word : (a b : Option Heard) (v : Heard) → ((z : Heard) → a ≡ Some z → IsVerdict z) → ((z : Heard) → b ≡ Some z → IsVerdict z) → or_else a b ≡ Some v → IsVerdict v
or_word None b v f g e = g v e
or_word (Some z) b v f g e = f v e

cond_word : (c : Bool) (o : Option Heard) (v : Heard) → ((z : Heard) → o ≡ Some z → IsVerdict z) → cond c o None ≡ Some v → IsVerdict v
cond_word true o v f e = f v e
cond_word false o v f e = cc e

verdicts : (x : ℕ) (told : List Answered) (v : Heard) → verdict_in x told ≡ Some v → IsVerdict v
verdicts x [] v e = cc e
verdicts x (a ∷ told) v e =
    or_word (cond (x == a.txn) (verdict a.asked a.state) None) (verdict_in x told) v (λ z g. cond_word (x == a.txn) (verdict a.asked a.state) z (λ y h. verdict_word a.asked a.state y h) g) (λ z g. verdicts x told z g) e

means_by : (w : Exchange) (x : ℕ) (t : TransactionId) (o : Option TransactionId) (v : Option Heard) → Keeps w → id_in x w.told ≡ Some t → o ≡ Some t → verdict_in x w.told ≡ v → ((h : Heard) → v ≡ Some h → IsVerdict h) → Means w x (span w x t) (heard_by o v)
means_by w x t None v kp h e g n = cc e
means_by w x t (Some u) None kp h e g n = no_verdict w x t (life_in w.first w.came x) kp refl (kp.past.one x) (heard_back w x t kp h)
means_by w x t (Some u) (Some hearings.Committed) kp h e g n = committed w x t (life_in w.first w.came x) (kp.past.one x) (heard_back w x t kp h) (heard_verdict w x hearings.Committed kp g)
means_by w x t (Some u) (Some hearings.RolledBack) kp h e g n = not_committed w x t hearings.RolledBack (life_in w.first w.came x) (kp.past.one x) (heard_back w x t kp h) (heard_verdict w x hearings.RolledBack kp g) (λ q. cc q)
means_by w x t (Some u) (Some hearings.Rejected) kp h e g n = not_committed w x t hearings.Rejected (life_in w.first w.came x) (kp.past.one x) (heard_back w x t kp h) (heard_verdict w x hearings.Rejected kp g) (λ q. cc q)
means_by w x t (Some u) (Some hearings.Undeclared) kp h e g n = absurd ((n hearings.Undeclared refl).0 refl)
means_by w x t (Some u) (Some hearings.Nothing) kp h e g n = absurd ((n hearings.Nothing refl).1 refl)

pub means : (w : Exchange) (x : ℕ) (t : TransactionId) → Keeps w → id_in x w.told ≡ Some t → Means w x (span w x t) (heard w x)
means w x t k h = means_by w x t (id_in x w.told) (verdict_in x w.told) k h h refl (λ v e. verdicts x w.told v e)

-- over a sure layer nothing was handed of a discharge at which the session stopped
pub head_item : (i j : Item) (xs ys : List Item) → i ∷ xs ≡ j ∷ ys → i ≡ j
head_item i j xs ys h = cc h

pub stops_sure : (w : Exchange) → Keeps w → StopsSure w
stops_sure w kp halt x k t rollback rest sure st wt =
    let h : Halted w halt = kp.halted halt st in
    let same : h.item ≡ items.Discharge x k t rollback = head_item h.item (items.Discharge x k t rollback) h.rest rest (sym h.waits ∙ wt) in
    let c : MayStop w.sure (record_of w) (step_of (items.Discharge x k t rollback)) halt = subst (λ (z : Item). MayStop w.sure (record_of w) (step_of z) halt) same h.cause in
    c.2 sure
