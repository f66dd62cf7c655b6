-- What was taken since two parties began, event by event.
use Rattle.std.proofs.Common.{◌≡◌, ℕ, zero, suc, ◌+◌, ◌<◌, ◌≤◌, Bool, true, false, cond, not, Option, Some, None, List, [], ◌∷◌, ◌++◌, length, map, take, refl, sym, ◌∙◌, ap, arith, subst, append-nil, append_assoc}
use Rattle.std.specs.Prelude.{slice_get}
use Rattle.std.specs.List.{AllByRecursion, zip}
use Rattle.std.proofs.lemmas.List.{length-append, map-append, length-map}
use Rattle.std.proofs.lemmas.List.Concat.{flat_map-append}
use Rattle.amqp_txn_types.specs.Growing.{grown}
use Rattle.amqp_txn_types.specs.declared.id.TransactionId.{TransactionId}
use Rattle.amqp_txn_types.specs.declared.performatives.Frame.{Frame}
use Rattle.amqp_txn_types.specs.Frames.{is_coordinator_attach, is_plain_by, stripped, txn}
use Rattle.amqp_txn_types.proofs.Growing.{grown-grown, grown-nil}
use Rattle.amqp_below_layer.specs.OneFrame.{TookFrames}
use Rattle.amqp_resource_record.specs.declared.entry.Entry.{Entry}
use Rattle.amqp_resource_record.specs.declared.step.Step.{Step}
use Rattle.amqp_resource_record.specs.declared.step.Step.TheVariants as steps
use Rattle.amqp_resource_record.specs.declared.reply.Reply.{Reply}
use Rattle.amqp_resource_record.specs.declared.reply.Reply.TheVariants as replies
use Rattle.amqp_resource_record.specs.Entries.{drawn_of, is_attached, steps_of}
use Rattle.amqp_resource_record.specs.Links.{is_open}
use Rattle.amqp_resource_record.specs.Live.{frame_places}
use Rattle.amqp_resource_record.specs.Hands.{commits, frame_of_step, frames_at, sources, sources_of}
use Rattle.amqp_resource_record.specs.Work.{origins, sources_by}
use Rattle.amqp_resource_record.specs.Answers.{Answer, AnswerFrame}
use Rattle.amqp_resource_record.specs.Legal.{IsLegal}
use Rattle.amqp_resource_record.proofs.Looking.{frames_at-front, places-below}
use Rattle.amqp_resource_record.proofs.Whole.{legal_induction, zip-append}
use Rattle.amqp_resource_record.proofs.Origins.{origins-snoc}
use Rattle.txn_parties.specs.declared.event.Event.{Event}
use Rattle.txn_parties.specs.declared.event.Event.TheVariants as events
use Rattle.txn_parties.specs.declared.event.Happened.{Happened}
use Rattle.txn_parties.specs.declared.event.Happened.TheVariants as happenings
use Rattle.txn_parties.specs.declared.item.Item.{Item}
use Rattle.txn_parties.specs.declared.item.Answered.{Answered}
use Rattle.txn_parties.specs.declared.item.Halt.{Halt}
use Rattle.txn_parties.specs.Items.{step_of}
use Rattle.txn_parties.specs.Exchange.{Begins, Exchange, begun, entries_of, forward, items_of, record_of}
use Rattle.txn_parties.specs.Spans.{drawn_on, stop_places}
use Rattle.txn_parties.specs.Turns.{Arrives, Follows, IsAnswered, IsStopped, Turn, TurnArrive, TurnCut, TurnPut, TurnReturn, entry_by, put_of, with_heard, with_put, with_stop}
use Rattle.txn_parties.specs.Invariant.{Keeps}
use Rattle.txn_parties.specs.Taken.{Grew, TookSince, all_steps, frames_drawn}
use Rattle.txn_parties.proofs.Once.{commit_control, origins-below}
use Rattle.txn_parties.proofs.Turning.{forward_put, record_more}
use Rattle.txn_parties.proofs.Agreeing.{NoPlace, OwnPlace, Places, Sources, sources_what}
use Rattle.txn_parties.proofs.Taking.{answer_steps}

-- ---- frames one after another

pub took-append : (a b c : Option (List (Frame × List Frame))) (xs ys : List Frame) → TookFrames a b xs → TookFrames b c ys → TookFrames a c (xs ++ ys)
took-append a b c xs ys p q = (
  p.0 ++ q.0,
  length-append p.0 q.0 ∙ ap (λ n. n + length q.0) p.1 ∙ ap (λ n. length xs + n) q.1 ∙ sym (length-append xs ys),
  q.2 ∙ ap (λ o. grown o (zip ys q.0)) p.2 ∙ grown-grown a (zip xs p.0) (zip ys q.0) ∙ ap (grown a) (sym (zip-append xs ys p.0 q.0 (sym p.1))),
)

pub took_none : (a : Option (List (Frame × List Frame))) → TookFrames a a []
took_none a = ([], refl, sym (grown-nil a))

-- ---- the attaches hand nothing

attach_plain : (r : List Entry) (frame : Frame) (o : Option TransactionId) (link : ℕ) (given : List Frame) → AnswerFrame r frame o (replies.Attached link given) → is_plain_by o (is_coordinator_attach frame) ≡ false
attach_plain r frame None link given a = ap not a.0
attach_plain r frame (Some t) link given a = refl

attached_none : (r : List Entry) (s : Step) (d : List TransactionId) (reply : Reply) → is_attached reply ≡ true → Answer r s d reply → sources_by r s reply ≡ []
attached_none r (steps.Frame frame) d (replies.Attached link given) h a = ap (λ b. cond b (length r ∷ []) []) (attach_plain r frame (txn frame) link given a.1)
attached_none r (steps.Control k payload) d (replies.Attached link given) h a = by_case (commits r (steps.Control k payload)) refl
  where
    by_case : (o : Option TransactionId) → commits r (steps.Control k payload) ≡ o → sources_of r (commits r (steps.Control k payload)) ≡ []
    by_case None e = ap (sources_of r) e
    by_case (Some t) e = let c = commit_control r k payload (is_open r k) d (replies.Attached link given) t e refl a in let f : false ≡ true = c.discharges in cc f
attached_none r (steps.LinkEnd k) d (replies.Attached link given) h a = refl
attached_none r _ d (replies.Attached link given) h a = absurd a
attached_none r s d _ h a = cc h

all_front : {A : Type 0} (P : A → Type 0) (xs ys : List A) → AllByRecursion P (xs ++ ys) → AllByRecursion P xs × AllByRecursion P ys
all_front P [] ys a = (tt, a)
all_front P (x ∷ xs) ys a = let p = all_front P xs ys a.1 in ((a.0, p.0), p.1)

-- a record of attaches has no origins
abbrev pub AttachesHand : List Entry → Type 0
AttachesHand r = AllByRecursion (λ (e : Entry). is_attached e.reply ≡ true) r → origins r ≡ []

none_hand : AttachesHand []
unfolding origins
none_hand a = refl

more_hand : (r : List Entry) (e : Entry) → AttachesHand r → Answer r e.step e.drawn.ids e.reply → AttachesHand (r ++ e ∷ [])
more_hand r e p a all =
    let parts = all_front (λ (x : Entry). is_attached x.reply ≡ true) r (e ∷ []) all in
    origins-snoc r e ∙ ap (λ l. l ++ sources_by r e.step e.reply) (p parts.0) ∙ attached_none r e.step e.drawn.ids e.reply parts.1.0 a

attaches_hand : (r : List Entry) → IsLegal r → AttachesHand r
attaches_hand r l = legal_induction AttachesHand none_hand more_hand r l

begun_drawn : (sure : Bool) (first : List Entry) → Begins first → drawn_on (begun sure first) ≡ []
begun_drawn sure first b = append-nil (origins (first ++ [])) ∙ ap origins (append-nil first) ∙ attaches_hand first b.legal b.attached

-- as two parties begin, nothing was taken
pub begun_took : (sure : Bool) (first : List Entry) (taken : Option (List (Frame × List Frame))) → Begins first → TookSince taken (begun sure first) taken
begun_took sure first taken b = subst (λ (xs : List ℕ). TookFrames taken taken (frames_drawn (begun sure first) xs)) (sym (begun_drawn sure first b)) (took_none taken)

-- ---- the other events

stop_put : (r : List Entry) (s : Option Halt) (ws : List Item) (i : Item) → ((halt : Halt) → s ≡ Some halt → 1 ≤ length ws) → stop_places r s (ws ++ i ∷ []) ≡ stop_places r s ws
stop_put r None ws i h = refl
stop_put r (Some halt) [] i h = absurd (no_room (h halt refl))
  where
    no_room : 1 ≤ 0 → ⊥
    no_room l = omega (arith, l)
stop_put r (Some halt) (j ∷ ws) i h = refl

waits_one : (w : Exchange) (halt : Halt) → Keeps w → w.stop ≡ Some halt → 1 ≤ length w.waiting
waits_one w halt k h = let old = k.halted halt h in omega (arith, ap length old.waits)

-- what is put isn't drawn on
pub drawn_put : (w : Exchange) (i : Item) → Keeps w → drawn_on (with_put w i) ≡ drawn_on w
drawn_put w i k = ap (λ l. origins (record_of w) ++ l) (stop_put (record_of w) w.stop w.waiting i (λ halt h. waits_one w halt k h))

-- where nothing arrived, nothing is drawn on anew
pub grew_quiet : (w w2 : Exchange) (taken : Option (List (Frame × List Frame))) → drawn_on w2 ≡ drawn_on w → Grew w w2 taken taken
grew_quiet w w2 taken h = ([], h ∙ sym (append-nil (drawn_on w)), took_none taken)

same_drawn : (w w2 v : Exchange) → w2 ≡ v → drawn_on v ≡ drawn_on w → drawn_on w2 ≡ drawn_on w
same_drawn w w2 v e h = ap drawn_on e ∙ h

turn_drawn : (w w2 : Exchange) (e : Event) (h : Happened) (d : List TransactionId) → Keeps w → Turn w e h d w2 → (h ≡ happenings.Arrived → ⊥) → drawn_on w2 ≡ drawn_on w
turn_drawn w w2 events.Arrive h d k t n = by_case w.cut w.stop w.waiting t
  where
    by_case : (c : Bool) (s : Option Halt) (ws : List Item) → TurnArrive w c s ws h d w2 → drawn_on w2 ≡ drawn_on w
    by_case false None (i ∷ rest) t = absurd (n t.0)
    by_case false None [] t = ap drawn_on t.2
    by_case false (Some halt) ws t = ap drawn_on t.2
    by_case true s ws t = ap drawn_on t.2
turn_drawn w w2 events.Return h d k t n = by_case w.cut w.coming t
  where
    by_case : (c : Bool) (xs : List Answered) → TurnReturn w c xs h d w2 → drawn_on w2 ≡ drawn_on w
    by_case false (a ∷ rest) t = ap drawn_on t.2
    by_case false [] t = ap drawn_on t.2
    by_case true xs t = ap drawn_on t.2
turn_drawn w w2 events.Cut h d k t n = by_case w.cut t
  where
    by_case : (c : Bool) → TurnCut w c h d w2 → drawn_on w2 ≡ drawn_on w
    by_case false t = ap drawn_on t.2
    by_case true t = ap drawn_on t.2
turn_drawn w w2 e h d k t n = by_case (put_of w e) t
  where
    by_case : (o : Option Item) → TurnPut w o h d w2 → drawn_on w2 ≡ drawn_on w
    by_case None t = ap drawn_on t.2
    by_case (Some i) t = same_drawn w w2 (with_put w i) t.2 (drawn_put w i k)

pub grew_other : (w w2 : Exchange) (e : Event) (h : Happened) (d : List TransactionId) (taken : Option (List (Frame × List Frame))) → Keeps w → Turn w e h d w2 → (h ≡ happenings.Arrived → ⊥) → Grew w w2 taken taken
grew_other w w2 e h d taken k t n = grew_quiet w w2 taken (turn_drawn w w2 e h d k t n)

-- ---- the steps that were put stay

-- the steps of the later moment go on from those of the earlier one
abbrev pub GoesOn : Exchange → Exchange → Type 0
GoesOn w w2 = (more : List Step) × (all_steps w2 ≡ all_steps w ++ more)

same_steps : (w w2 : Exchange) → all_steps w2 ≡ all_steps w → GoesOn w w2
same_steps w w2 h = ([], h ∙ sym (append-nil (all_steps w)))

put_steps : (w : Exchange) (i : Item) → all_steps (with_put w i) ≡ all_steps w ++ step_of i ∷ []
put_steps w i =
    ap (λ l. steps_of w.first ++ map step_of l) (forward_put w i)
    ∙ ap (λ l. steps_of w.first ++ l) (map-append step_of (forward w) (i ∷ []))
    ∙ sym (append_assoc (steps_of w.first) (map step_of (forward w)) (step_of i ∷ []))

goes_arrive : (w w2 : Exchange) (i : Item) (rest : List Item) (d : List TransactionId) → w.waiting ≡ i ∷ rest → Arrives w i rest d w2 → GoesOn w w2
goes_arrive w w2 i rest d e (IsAnswered a) = same_steps w w2 (ap all_steps a.after ∙ answer_steps w i rest a.drawn a.reply e)
goes_arrive w w2 i rest d e (IsStopped a) = same_steps w w2 (ap all_steps a.after)

goes_on : (w w2 : Exchange) (e : Event) (h : Happened) (d : List TransactionId) → Turn w e h d w2 → GoesOn w w2
goes_on w w2 events.Arrive h d t = by_case w.cut w.stop w.waiting refl t
  where
    by_case : (c : Bool) (s : Option Halt) (ws : List Item) → w.waiting ≡ ws → TurnArrive w c s ws h d w2 → GoesOn w w2
    by_case false None (i ∷ rest) e t = goes_arrive w w2 i rest d e t.1
    by_case false None [] e t = same_steps w w2 (ap all_steps t.2)
    by_case false (Some halt) ws e t = same_steps w w2 (ap all_steps t.2)
    by_case true s ws e t = same_steps w w2 (ap all_steps t.2)
goes_on w w2 events.Return h d t = by_case w.cut w.coming t
  where
    by_case : (c : Bool) (xs : List Answered) → TurnReturn w c xs h d w2 → GoesOn w w2
    by_case false (a ∷ rest) t = same_steps w w2 (ap all_steps t.2)
    by_case false [] t = same_steps w w2 (ap all_steps t.2)
    by_case true xs t = same_steps w w2 (ap all_steps t.2)
goes_on w w2 events.Cut h d t = by_case w.cut t
  where
    by_case : (c : Bool) → TurnCut w c h d w2 → GoesOn w w2
    by_case false t = same_steps w w2 (ap all_steps t.2)
    by_case true t = same_steps w w2 (ap all_steps t.2)
goes_on w w2 e h d t = by_case (put_of w e) t
  where
    by_case : (o : Option Item) → TurnPut w o h d w2 → GoesOn w w2
    by_case None t = same_steps w w2 (ap all_steps t.2)
    by_case (Some i) t = (step_of i ∷ [], ap all_steps t.2 ∙ put_steps w i)

-- ---- the places that were drawn on are places of steps

below_more : (m n : ℕ) (xs : List ℕ) → m ≤ n → AllByRecursion (λ i. i < m) xs → AllByRecursion (λ i. i < n) xs
below_more m n [] h a = tt
below_more m n (x ∷ xs) h a = (omega (arith, a.0), below_more m n xs h a.1)

below_append : (n : ℕ) (xs ys : List ℕ) → AllByRecursion (λ i. i < n) xs → AllByRecursion (λ i. i < n) ys → AllByRecursion (λ i. i < n) (xs ++ ys)
below_append n [] ys a b = b
below_append n (x ∷ xs) ys a b = (a.0, below_append n xs ys a.1 b)

below_take : (n h : ℕ) (xs : List ℕ) → AllByRecursion (λ i. i < n) xs → AllByRecursion (λ i. i < n) (take h xs)
below_take n zero xs a = tt
below_take n (suc h) [] a = tt
below_take n (suc h) (x ∷ xs) a = (a.0, below_take n h xs a.1)

sources_below : (r : List Entry) (s : Step) → Sources r s → AllByRecursion (λ i. i < length r + 1) (sources r s)
sources_below r s (NoPlace e) = subst (λ (xs : List ℕ). AllByRecursion (λ i. i < length r + 1) xs) (sym e) tt
sources_below r s (OwnPlace frame q pl e) = subst (λ (xs : List ℕ). AllByRecursion (λ i. i < length r + 1) xs) (sym e) (omega arith, tt)
sources_below r s (Places t live c e) = subst (λ (xs : List ℕ). AllByRecursion (λ i. i < length r + 1) xs) (sym e) (below_more (length r) (length r + 1) (frame_places r t) (omega arith) (places-below r t))

stop_below : (r : List Entry) (s : Option Halt) (ws : List Item) → AllByRecursion (λ i. i < length r + length ws) (stop_places r s ws)
stop_below r None ws = tt
stop_below r (Some halt) [] = tt
stop_below r (Some halt) (i ∷ rest) = below_more (length r + 1) (length r + length (i ∷ rest)) (take halt.handed (sources r (step_of i))) (omega arith) (below_take (length r + 1) halt.handed (sources r (step_of i)) (sources_below r (step_of i) (sources_what r (step_of i))))

steps_count : (w : Exchange) → length (all_steps w) ≡ length (record_of w) + length w.waiting
steps_count w = omega (
  arith,
  length-append (steps_of w.first) (map step_of (forward w)),
  length-map w.first (λ (x : Entry). x.step),
  length-map (forward w) step_of,
  length-append (items_of w.came) w.waiting,
  length-map w.came (λ (p : Item × Entry). p.0),
  length-append w.first (entries_of w.came),
  length-map w.came (λ (p : Item × Entry). p.1),
)

drawn-below : (w : Exchange) → Keeps w → AllByRecursion (λ i. i < length (all_steps w)) (drawn_on w)
drawn-below w k =
    subst (λ (n : ℕ). AllByRecursion (λ i. i < n) (drawn_on w)) (sym (steps_count w))
    (below_append (length (record_of w) + length w.waiting) (origins (record_of w)) (stop_places (record_of w) w.stop w.waiting)
    (below_more (length (record_of w)) (length (record_of w) + length w.waiting) (origins (record_of w)) (omega arith) (origins-below (record_of w) k.past.legal))
    (stop_below (record_of w) w.stop w.waiting))

-- ---- joined

frames_stay : (w w2 : Exchange) → Keeps w → GoesOn w w2 → frames_drawn w2 (drawn_on w) ≡ frames_drawn w (drawn_on w)
frames_stay w w2 k g = ap (λ ss. map stripped (frames_at ss (drawn_on w))) g.1 ∙ ap (map stripped) (frames_at-front (all_steps w) g.0 (drawn_on w) (drawn-below w k))

drawn_parts : (w : Exchange) (xs ys : List ℕ) → frames_drawn w (xs ++ ys) ≡ frames_drawn w xs ++ frames_drawn w ys
drawn_parts w xs ys = ap (map stripped) (flat_map-append (λ i. frame_of_step (slice_get (all_steps w) i)) xs ys) ∙ map-append stripped (frames_at (all_steps w) xs) (frames_at (all_steps w) ys)

-- what was taken since they began, after one event more
pub took_more : (w w2 : Exchange) (e : Event) (h : Happened) (d : List TransactionId) (before mid now : Option (List (Frame × List Frame))) → Keeps w → Turn w e h d w2 → TookSince before w mid → Grew w w2 mid now → TookSince before w2 now
took_more w w2 e h d before mid now k t p g =
    let same : frames_drawn w2 (drawn_on w) ≡ frames_drawn w (drawn_on w) = frames_stay w w2 k (goes_on w w2 e h d t) in
    let all : frames_drawn w2 (drawn_on w2) ≡ frames_drawn w (drawn_on w) ++ frames_drawn w2 g.0 = ap (frames_drawn w2) g.1 ∙ drawn_parts w2 (drawn_on w) g.0 ∙ ap (λ l. l ++ frames_drawn w2 g.0) same in
    subst (λ (fs : List Frame). TookFrames before now fs) (sym all) (took-append before mid now (frames_drawn w (drawn_on w)) (frames_drawn w2 g.0) p g.2)

-- ---- one event after others

pub follows_more : (w mid w2 : Exchange) (past : List (Event × Happened)) (e : Event) (h : Happened) (d now : List TransactionId) → Follows w past d mid → Turn mid e h now w2 → Follows w (past ++ (e, h) ∷ []) (d ++ now) w2
follows_more w mid w2 [] e h d now f t =
    let turn : Turn w e h now w2 = subst (λ (v : Exchange). Turn v e h now w2) f.1 t in
    (now, [], w2, ap (λ l. l ++ now) f.0 ∙ sym (append-nil now), turn, (refl, refl))
follows_more w mid w2 (p ∷ past) e h d now f t =
    (f.0, f.1 ++ now, f.2, ap (λ l. l ++ now) f.3 ∙ append_assoc f.0 f.1 now, f.4, follows_more f.2 mid w2 past e h f.1 now f.5 t)

-- ---- the ids that were drawn

drawn-snoc : (r : List Entry) (e : Entry) → drawn_of (r ++ e ∷ []) ≡ drawn_of r ++ e.drawn.ids
drawn-snoc r e = flat_map-append (λ (x : Entry). x.drawn.ids) r (e ∷ []) ∙ ap (λ l. drawn_of r ++ l) (append-nil e.drawn.ids)

drawn_same : (w w2 : Exchange) (d : List TransactionId) → d ≡ [] → w2 ≡ w → drawn_of (record_of w2) ≡ drawn_of (record_of w) ++ d
drawn_same w w2 d n e = ap (λ v. drawn_of (record_of v)) e ∙ sym (append-nil (drawn_of (record_of w))) ∙ ap (λ l. drawn_of (record_of w) ++ l) (sym n)

drawn_kept : (w w2 v : Exchange) (d : List TransactionId) → d ≡ [] → w2 ≡ v → record_of v ≡ record_of w → drawn_of (record_of w2) ≡ drawn_of (record_of w) ++ d
drawn_kept w w2 v d n e h = ap (λ z. drawn_of (record_of z)) e ∙ ap drawn_of h ∙ sym (append-nil (drawn_of (record_of w))) ∙ ap (λ l. drawn_of (record_of w) ++ l) (sym n)

drawn_arrive : (w w2 : Exchange) (i : Item) (rest : List Item) (d : List TransactionId) → Arrives w i rest d w2 → drawn_of (record_of w2) ≡ drawn_of (record_of w) ++ d
drawn_arrive w w2 i rest d (IsAnswered a) =
    let e : Entry = entry_by (step_of i) a.drawn a.reply in
    ap (λ v. drawn_of (record_of v)) a.after ∙ ap drawn_of (record_more w.first w.came i e) ∙ drawn-snoc (record_of w) e ∙ ap (λ l. drawn_of (record_of w) ++ l) (sym a.ids)
drawn_arrive w w2 i rest d (IsStopped a) = drawn_kept w w2 (with_stop w a.halt) d a.none a.after refl

-- the ids drawn in one event are those that its entry adds to the record
pub turn_drew : (w w2 : Exchange) (e : Event) (h : Happened) (d : List TransactionId) → Turn w e h d w2 → drawn_of (record_of w2) ≡ drawn_of (record_of w) ++ d
turn_drew w w2 events.Arrive h d t = by_case w.cut w.stop w.waiting t
  where
    by_case : (c : Bool) (s : Option Halt) (ws : List Item) → TurnArrive w c s ws h d w2 → drawn_of (record_of w2) ≡ drawn_of (record_of w) ++ d
    by_case false None (i ∷ rest) t = drawn_arrive w w2 i rest d t.1
    by_case false None [] t = drawn_same w w2 d t.1 t.2
    by_case false (Some halt) ws t = drawn_same w w2 d t.1 t.2
    by_case true s ws t = drawn_same w w2 d t.1 t.2
turn_drew w w2 events.Return h d t = by_case w.cut w.coming t
  where
    by_case : (c : Bool) (xs : List Answered) → TurnReturn w c xs h d w2 → drawn_of (record_of w2) ≡ drawn_of (record_of w) ++ d
    by_case false (a ∷ rest) t = drawn_kept w w2 (with_heard w a rest) d t.1 t.2 refl
    by_case false [] t = drawn_same w w2 d t.1 t.2
    by_case true xs t = drawn_same w w2 d t.1 t.2
turn_drew w w2 events.Cut h d t = by_case w.cut t
  where
    by_case : (c : Bool) → TurnCut w c h d w2 → drawn_of (record_of w2) ≡ drawn_of (record_of w) ++ d
    by_case false t = drawn_kept w w2 (record w { cut = true }) d t.1 t.2 refl
    by_case true t = drawn_same w w2 d t.1 t.2
turn_drew w w2 e h d t = by_case (put_of w e) t
  where
    by_case : (o : Option Item) → TurnPut w o h d w2 → drawn_of (record_of w2) ≡ drawn_of (record_of w) ++ d
    by_case None t = drawn_same w w2 d t.1 t.2
    by_case (Some i) t = drawn_kept w w2 (with_put w i) d t.1 t.2 refl
