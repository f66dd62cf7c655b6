-- The last transaction in the record: where its frames are, and what its commit hands.
use Rattle.std.proofs.Common.{◌≡◌, ℕ, suc, ◌+◌, Bool, true, false, cond, ◌&&◌, Some, None, List, [], ◌∷◌, ◌++◌, length, map, refl, sym, ◌∙◌, ap, arith, subst, append_assoc}
use Rattle.std.specs.Prelude.{◌==◌, slice_get}
use Rattle.std.proofs.lemmas.List.{length-append, length-map, map-append}
use Rattle.std.proofs.lemmas.Bool.{eq-eqb}
use Rattle.amqp_txn_types.specs.declared.id.TransactionId.{TransactionId}
use Rattle.amqp_txn_types.specs.declared.performatives.Frame.{Frame}
use Rattle.amqp_txn_types.specs.Frames.{is_coordinator_attach, is_plain_by, stripped, txn}
use Rattle.amqp_txn_types.specs.Ids.{is_some_id}
use Rattle.amqp_txn_codec.specs.Canon.{canon}
use Rattle.amqp_resource_record.specs.declared.entry.Entry.{Entry}
use Rattle.amqp_resource_record.specs.declared.reply.Reply.{Reply}
use Rattle.amqp_resource_record.specs.declared.reply.Reply.TheVariants as replies
use Rattle.amqp_resource_record.specs.declared.step.Step.{Step}
use Rattle.amqp_resource_record.specs.declared.step.Step.TheVariants as steps
use Rattle.amqp_resource_record.specs.Entries.{steps_of}
use Rattle.amqp_resource_record.specs.Hands.{commits, commits_message, frame_of_step, frames_at, hands, if_open, sources, sources_of}
use Rattle.amqp_resource_record.specs.Links.{is_open}
use Rattle.amqp_resource_record.specs.Live.{home, is_live, is_open_at, undischarged}
use Rattle.amqp_resource_record.specs.Work.{handed_by, is_rejected}
use Rattle.amqp_resource_record.proofs.Ids.{same_id-refl}
use Rattle.amqp_resource_record.proofs.Whole.{commits-discharge}
use Rattle.txn_broker_queues.specs.declared.message.Message.{Message}
use Rattle.txn_parties.specs.declared.item.Item.{Item}
use Rattle.txn_parties.specs.declared.item.Item.TheVariants as items
use Rattle.txn_parties.specs.Exchange.{Exchange, items_of, record_of}
use Rattle.txn_parties.specs.Invariant.{Keeps}
use Rattle.txn_parties.specs.Items.{declare_message, discharge_message, step_of}
use Rattle.txn_parties.specs.Lives.{Holds, Life, Running, Runs, Unborn, born, fate_from, life_in, next_life}
use Rattle.txn_parties.proofs.Living.{declare_read, discharge_read, held_on}
use Rattle.txn_relay.specs.Stages.{post_frame, post_item, retirement_frame, retirement_item}
use Rattle.txn_relay.proofs.Behind.{AllBelow, fate-append, items-append, unborn}
use Rattle.txn_relay.proofs.Queues.{posted, retired}

-- ---- its life

-- a frame under an id
pub record Under (id : TransactionId) (item : Item) : Type 0 where
  pub frame : Frame
  pub is : item ≡ items.Frame frame
  pub under : txn frame ≡ Some id

pub post_under : (id : TransactionId) (m : Message) → Under id (post_item id m)
unfolding txn
post_under id m = record { frame = post_frame id m; is = refl; under = refl }

pub retirement_under : (id : TransactionId) (m : Message) → Under id (retirement_item id m)
unfolding txn
retirement_under id m = record { frame = retirement_frame id m; is = refl; under = refl }

own : (x : ℕ) → (x == x) ≡ true
own x = eq-eqb x x refl

-- what became of it, from its declare on
pub life_is : (first : List Entry) (past t : List (Item × Entry)) (x : ℕ) (entry : Entry) (id : TransactionId) → AllBelow x past → entry.reply ≡ replies.Declared id
    → life_in first (past ++ (items.Declare x 0, entry) ∷ t) x ≡ fate_from x (length first + length past + 1) (Runs (length first + length past) id 0 []) t
life_is first past t x entry id all reply =
    let p : ℕ = length first + length past in
    fate-append x (length first) Unborn past ((items.Declare x 0, entry) ∷ t)
    ∙ ap (λ l. fate_from x p l ((items.Declare x 0, entry) ∷ t)) (unborn x x (length first) (omega arith) past all)
    ∙ ap (λ b. fate_from x (p + 1) (cond b (born p 0 entry.reply) Unborn) t) (own x)
    ∙ ap (λ r. fate_from x (p + 1) (born p 0 r) t) reply

frame_on : (x n p : ℕ) (id : TransactionId) (s : List ℕ) (i : Item) (reply : Reply) → Under id i → next_life x n (Runs p id 0 s) i reply ≡ Runs p id 0 (s ++ n ∷ [])
frame_on x n p id s i reply u =
    ap (λ j. next_life x n (Runs p id 0 s) j reply) u.is
    ∙ ap (λ o. Runs p id 0 (s ++ cond (is_some_id id o) (n ∷ []) [])) u.under
    ∙ ap (λ b. Runs p id 0 (s ++ cond b (n ∷ []) [])) (same_id-refl id)

pub life_one : (x n p : ℕ) (id : TransactionId) (a : Item × Entry) → Under id a.0 → fate_from x n (Runs p id 0 []) (a ∷ []) ≡ Runs p id 0 (n ∷ [])
life_one x n p id a u = frame_on x n p id [] a.0 a.1.reply u

pub life_two : (x n p : ℕ) (id : TransactionId) (a b : Item × Entry) → Under id a.0 → Under id b.0 → fate_from x n (Runs p id 0 []) (a ∷ b ∷ []) ≡ Runs p id 0 (n ∷ (n + 1) ∷ [])
life_two x n p id a b u v =
    ap (λ l. fate_from x (n + 1) l (b ∷ [])) (frame_on x n p id [] a.0 a.1.reply u)
    ∙ frame_on x (n + 1) p id (n ∷ []) b.0 b.1.reply v

-- the record has it running
pub running : (w : Exchange) (x p : ℕ) (id : TransactionId) (s : List ℕ) → Keeps w → life_in w.first w.came x ≡ Runs p id 0 s → Running (record_of w) p id 0 s
running w x p id s k e = subst (λ (l : Life). Holds (record_of w) l) e (k.past.one x).holds

-- ---- what its items hand

none_by : (b : Bool) → cond {A = List Frame} b [] [] ≡ []
none_by true = refl
none_by false = refl

pub handed_none : (r : List Entry) (s : Step) (reply : Reply) → hands r s ≡ [] → handed_by r s reply ≡ []
handed_none r s reply e = ap (λ l. cond (is_rejected reply) [] l) e ∙ none_by (is_rejected reply)

pub hands_frame : (r : List Entry) (id : TransactionId) (i : Item) → Under id i → hands r (step_of i) ≡ []
hands_frame r id i u =
    ap (λ j. hands r (step_of j)) u.is
    ∙ ap (λ o. map stripped (frames_at (steps_of r ++ steps.Frame u.frame ∷ []) (cond (is_plain_by o (is_coordinator_attach u.frame)) (length r ∷ []) []))) u.under

if_none : (b : Bool) → if_open b None ≡ None
if_none true = refl
if_none false = refl

pub hands_declare : (r : List Entry) → hands r (steps.Control 0 (canon declare_message)) ≡ []
hands_declare r =
    let step : Step = steps.Control 0 (canon declare_message) in
    ap (λ o. map stripped (frames_at (steps_of r ++ step ∷ []) (sources_of r o)))
    (ap (λ m. if_open (is_open r 0) (commits_message r 0 m)) declare_read ∙ if_none (is_open r 0))

and_right : (a b : Bool) → (a && b) ≡ true → b ≡ true
and_right true b e = e
and_right false b e = absurd (cc e)

pub open_of : (r : List Entry) (id : TransactionId) (k : ℕ) → is_live r id ≡ true → home r id ≡ Some k → is_open r k ≡ true
unfolding is_live
open_of r id k live at = ap (is_open_at r) (sym at) ∙ and_right (undischarged r id) (is_open_at r (home r id)) live

pub get_past : {X : Type 0} (xs ys : List X) (k : ℕ) → slice_get (xs ++ ys) (length xs + k) ≡ slice_get ys k
get_past [] ys k = let e : 0 + k ≡ k = omega arith in ap (slice_get ys) e
get_past (x ∷ xs) ys k =
    let e : suc (length xs) + k ≡ suc (length xs + k) = omega arith in
    ap (slice_get (x ∷ (xs ++ ys))) e ∙ get_past xs ys k

-- its commit hands its two frames, each stripped
pub hands_commit : (r : List Entry) (id : TransactionId) (f g : Frame) (d : Step) (before : List Step)
    → Running r (length before) id 0 ((length before + 1) ∷ (length before + 1 + 1) ∷ []) → steps_of r ≡ before ++ d ∷ steps.Frame f ∷ steps.Frame g ∷ []
    → hands r (steps.Control 0 (canon (discharge_message id false))) ≡ stripped f ∷ stripped g ∷ []
hands_commit r id f g d before run all =
    let step : Step = steps.Control 0 (canon (discharge_message id false)) in
    let steps_are : steps_of r ++ step ∷ [] ≡ before ++ d ∷ steps.Frame f ∷ steps.Frame g ∷ step ∷ [] =
    ap (λ l. l ++ step ∷ []) all ∙ append_assoc before (d ∷ steps.Frame f ∷ steps.Frame g ∷ []) (step ∷ []) in
    let committed : commits r step ≡ Some id =
    commits-discharge r 0 (canon (discharge_message id false)) (record { txn_id = id; fail = Some false }) (open_of r id 0 run.live run.home) (discharge_read id false run.short) refl (held_on r 0 id run.live run.home) in
    let places : sources r step ≡ (length before + 1) ∷ (length before + 1 + 1) ∷ [] = ap (sources_of r) committed ∙ run.span in
    let two : length before + 1 + 1 ≡ length before + 2 = omega arith in
    ap (λ l. map stripped (frames_at (steps_of r ++ step ∷ []) l)) places
    ∙ ap (λ ss. map stripped (frames_at ss ((length before + 1) ∷ (length before + 1 + 1) ∷ []))) steps_are
    ∙ ap (λ o. map stripped (frame_of_step o ++ (frame_of_step (slice_get (before ++ d ∷ steps.Frame f ∷ steps.Frame g ∷ step ∷ []) (length before + 1 + 1)) ++ []))) (get_past before (d ∷ steps.Frame f ∷ steps.Frame g ∷ step ∷ []) 1)
    ∙ ap (λ o. map stripped (f ∷ (frame_of_step o ++ []))) (ap (slice_get (before ++ d ∷ steps.Frame f ∷ steps.Frame g ∷ step ∷ [])) two ∙ get_past before (d ∷ steps.Frame f ∷ steps.Frame g ∷ step ∷ []) 2)

-- the steps of the record, once its frames arrived
pub steps_are : (w : Exchange) (past t : List (Item × Entry)) → Keeps w → w.came ≡ past ++ t → steps_of (record_of w) ≡ (steps_of w.first ++ map step_of (items_of past)) ++ map step_of (items_of t)
steps_are w past t k e =
    k.past.steps
    ∙ ap (λ c. steps_of w.first ++ map step_of (items_of c)) e
    ∙ ap (λ l. steps_of w.first ++ map step_of l) (items-append past t)
    ∙ ap (λ l. steps_of w.first ++ l) (map-append step_of (items_of past) (items_of t))
    ∙ sym (append_assoc (steps_of w.first) (map step_of (items_of past)) (map step_of (items_of t)))

pub before_length : (w : Exchange) (past : List (Item × Entry)) → length (steps_of w.first ++ map step_of (items_of past)) ≡ length w.first + length past
before_length w past =
    length-append (steps_of w.first) (map step_of (items_of past))
    ∙ ap (λ n. n + length (map step_of (items_of past))) (length-map w.first (λ (e : Entry). e.step))
    ∙ ap (λ n. length w.first + n) (length-map (items_of past) step_of ∙ length-map past (λ (p : Item × Entry). p.0))

-- what the broker takes of them
pub post_stripped : (id : TransactionId) (m : Message) → stripped (post_frame id m) ≡ posted m
unfolding stripped
post_stripped id m = refl

pub retirement_stripped : (id : TransactionId) (m : Message) → stripped (retirement_frame id m) ≡ retired m
unfolding stripped
retirement_stripped id m = refl

pub post_txn : (id : TransactionId) (m : Message) → txn (post_frame id m) ≡ Some id
unfolding txn
post_txn id m = refl

pub retirement_txn : (id : TransactionId) (m : Message) → txn (retirement_frame id m) ≡ Some id
unfolding txn
retirement_txn id m = refl
