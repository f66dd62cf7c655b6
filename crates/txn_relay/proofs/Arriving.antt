-- An item that arrives: the stage and the queues after it.
use Rattle.std.proofs.Common.{◌≡◌, ℕ, zero, suc, ◌+◌, ◌≤◌, Bool, true, false, cond, Option, Some, None, List, [], ◌∷◌, ◌++◌, length, map, take, refl, sym, ◌∙◌, ap, arith, subst, append-nil, append_assoc, inl, inr}
use Rattle.std.proofs.lemmas.List.{length-append}
use Rattle.std.proofs.lemmas.Option.{same_Some}
use Rattle.amqp_txn_types.specs.Frames.{stripped, txn}
use Rattle.amqp_txn_types.specs.Presumptive.{answered_under}
use Rattle.amqp_txn_types.specs.declared.id.TransactionId.{TransactionId}
use Rattle.amqp_txn_types.specs.declared.performatives.Frame.{Frame}
use Rattle.amqp_txn_types.specs.declared.small.TransactionError.TheVariants as transaction_errors
use Rattle.amqp_below_ids.specs.Drawn.{DrawnIds}
use Rattle.amqp_resource_record.specs.declared.entry.Entry.{Entry}
use Rattle.amqp_resource_record.specs.declared.reply.Reply.{Reply}
use Rattle.amqp_resource_record.specs.declared.reply.Reply.TheVariants as replies
use Rattle.amqp_resource_record.specs.declared.reply.RejectText.{RejectText}
use Rattle.amqp_resource_record.specs.Entries.{steps_of}
use Rattle.amqp_resource_record.specs.declared.step.Step.{Step}
use Rattle.amqp_resource_record.specs.declared.step.Step.TheVariants as steps
use Rattle.amqp_resource_record.specs.declared.stop.StopCode.TheVariants as codes
use Rattle.amqp_resource_record.specs.Answers.{Answer}
use Rattle.amqp_resource_record.specs.Hands.{hands, sources}
use Rattle.amqp_resource_record.specs.Live.{is_live}
use Rattle.amqp_resource_record.specs.Work.{handed_by, origins}
use Rattle.txn_broker_queues.specs.declared.message.Message.{Message}
use Rattle.txn_broker_queues.specs.Taking.{Board, taken_of, told_by}
use Rattle.txn_parties.specs.declared.event.Heard.TheVariants as hearings
use Rattle.txn_parties.specs.declared.item.Answered.{Answered}
use Rattle.txn_parties.specs.declared.item.Asked.TheVariants as asked
use Rattle.txn_parties.specs.declared.item.Halt.{Halt}
use Rattle.txn_parties.specs.declared.item.Item.{Item}
use Rattle.txn_parties.specs.declared.item.Item.TheVariants as items
use Rattle.txn_parties.specs.BackWire.{answers, state_of, verdict}
use Rattle.txn_parties.specs.Exchange.{Exchange, items_of, record_of}
use Rattle.txn_parties.specs.Invariant.{Keeps}
use Rattle.txn_parties.specs.Items.{step_of}
use Rattle.txn_parties.specs.Lives.{Running, life_in}
use Rattle.txn_parties.specs.Spans.{drawn_on, stop_places}
use Rattle.txn_parties.specs.Taken.{Grew, frames_drawn}
use Rattle.txn_parties.specs.Turns.{MayStop, StopsFrame, StopsUnder, entry_by, with_answer, with_stop}
use Rattle.txn_parties.proofs.Living.{Accepts, Ends, Vetoes, own_ends}
use Rattle.txn_parties.proofs.Turning.{record_more}
use Rattle.txn_relay.specs.Once.{accepted_commits, accepts_commit}
use Rattle.txn_relay.specs.Stages.{Answering, Counted, Declaring, Discharged, Idle, Last, Open, Queues, Rejected, Stage, Stands, Undeclared, declared, post_frame, post_item, retirement_frame, retirement_item, three}
use Rattle.txn_relay.proofs.Behind.{items-append}
use Rattle.txn_relay.proofs.Lasting.{Under, before_length, handed_none, hands_commit, hands_declare, hands_frame, life_is, life_one, life_two, post_stripped, post_txn, post_under, retirement_stripped, retirement_txn, retirement_under, running, steps_are}
use Rattle.txn_relay.proofs.Queues.{moved, posted, retired}
use Rattle.txn_relay.proofs.Serving.{commit_counted, count_more, count_same, declare_not_counted, took_frames}

-- the stage and the queues of a moment, with these frames taken
pub record At (sides : Exchange) (taken : List Frame) (work : List Message) (made put : ℕ) : Type 0 where
  pub stage : Stage sides work made put (accepted_commits (record_of sides))
  pub queues : Queues taken work (accepted_commits (record_of sides))

-- ---- the last transaction, with an item more

last_comes : (w : Exchange) (work : List Message) (x : ℕ) (m : Message) (came : List (Item × Entry)) (i : Item) (rest : List Item) (told coming : List Answered) (drawn : DrawnIds) (reply : Reply)
    → Last w work x m came (i ∷ rest) told coming
    → Last (with_answer w i rest drawn reply) work x m (came ++ (i, entry_by (step_of i) drawn reply) ∷ []) rest told (coming ++ answers i reply)
last_comes w work x m came i rest told coming drawn reply l =
    let e : Entry = entry_by (step_of i) drawn reply in record {
      past = l.past;
      behind = l.behind;
      is = l.is;
      came_is = ap (λ c. c ++ (i, e) ∷ []) l.came_is ∙ append_assoc l.past came ((i, e) ∷ []);
      waiting_is = refl;
      told_is = l.told_is;
      coming_is = ap (λ c. c ++ answers i reply) l.coming_is;
    }

-- with nothing handed and nothing counted the queues stay
queues_stay : (taken now : List Frame) (work : List Message) (r : List Entry) (e : Entry) (hs : List Frame) → Queues taken work (accepted_commits r) → now ≡ taken ++ hs → hs ≡ [] → accepts_commit e.step e.reply ≡ false → Queues now work (accepted_commits (r ++ e ∷ []))
queues_stay taken now work r e hs q took none isnt =
    subst (λ n. Queues now work n) (sym (count_same r e isnt))
    (subst (λ t. Queues t work (accepted_commits r)) (sym (took ∙ ap (λ h. taken ++ h) none ∙ append-nil taken)) q)

recorded : (w : Exchange) (i : Item) (rest : List Item) (drawn : DrawnIds) (reply : Reply) → record_of (with_answer w i rest drawn reply) ≡ record_of w ++ entry_by (step_of i) drawn reply ∷ []
recorded w i rest drawn reply = record_more w.first w.came i (entry_by (step_of i) drawn reply)

-- ---- a declare that arrives

declare_comes : (w : Exchange) (taken now : List Frame) (work : List Message) (x : ℕ) (m : Message) (rest : List Item) (drawn : DrawnIds) (reply : Reply)
    → Queues taken work (accepted_commits (record_of w)) → accepted_commits (record_of w) ≡ x
    → Last w work x m [] (items.Declare x 0 ∷ rest) [] [] → rest ≡ [] → now ≡ taken ++ handed_by (record_of w) (step_of (items.Declare x 0)) reply
    → At (with_answer w (items.Declare x 0) rest drawn reply) now work (suc x) 0
declare_comes w taken now work x m rest drawn reply q count l end took =
    let e : Entry = entry_by (step_of (items.Declare x 0)) drawn reply in
    let r : List Entry = record_of w in
    let r2 = recorded w (items.Declare x 0) rest drawn reply in
    let isnt : accepts_commit e.step e.reply ≡ false = declare_not_counted reply in
    let same : accepted_commits (record_of (with_answer w (items.Declare x 0) rest drawn reply)) ≡ x = ap accepted_commits r2 ∙ count_same r e isnt ∙ count in
    let next : Last (with_answer w (items.Declare x 0) rest drawn reply) work x m ((items.Declare x 0, e) ∷ []) rest [] (answers (items.Declare x 0) reply) = last_comes w work x m [] (items.Declare x 0) rest [] [] drawn reply l in record {
      stage = Answering x m e refl refl same
          (subst (λ (a : List Item). Last (with_answer w (items.Declare x 0) rest drawn reply) work x m ((items.Declare x 0, e) ∷ []) a [] (answers (items.Declare x 0) reply)) end next);
      queues = subst (λ (l : List Entry). Queues now work (accepted_commits l)) (sym r2)
          (queues_stay taken now work r e (handed_by r e.step reply) q took (handed_none r e.step reply (hands_declare r)) isnt);
    }

-- ---- a frame of the last transaction that arrives

frame_not_counted : (id : TransactionId) (i : Item) (reply : Reply) → Under id i → accepts_commit (step_of i) reply ≡ false
frame_not_counted id i reply u = ap (λ j. accepts_commit (step_of j) reply) u.is

frame_silent : (id : TransactionId) (i : Item) (reply : Reply) → Under id i → answers i reply ≡ []
frame_silent id i reply u = ap (λ j. answers j reply) u.is

frame_comes : (w : Exchange) (taken now : List Frame) (work : List Message) (x : ℕ) (m : Message) (entry : Entry) (id : TransactionId) (arrived : List (Item × Entry)) (i : Item) (left rest : List Item) (ahead : ℕ) (drawn : DrawnIds) (reply : Reply)
    → Queues taken work (accepted_commits (record_of w)) → accepted_commits (record_of w) ≡ x → ahead ≤ length left → 1 ≤ length left → items_of arrived ++ i ∷ left ≡ three x id m → entry.reply ≡ replies.Declared id → Under id i
    → Last w work x m ((items.Declare x 0, entry) ∷ arrived) (i ∷ rest) (declared x id ∷ []) [] → rest ≡ take ahead left → now ≡ taken ++ handed_by (record_of w) (step_of i) reply
    → At (with_answer w i rest drawn reply) now work (suc x) (length arrived + suc ahead)
frame_comes w taken now work x m entry id arrived i left rest ahead drawn reply q count within some are born u l end took =
    let e : Entry = entry_by (step_of i) drawn reply in
    let r : List Entry = record_of w in
    let v : Exchange = with_answer w i rest drawn reply in
    let r2 = recorded w i rest drawn reply in
    let isnt : accepts_commit e.step e.reply ≡ false = frame_not_counted id i reply u in
    let same : accepted_commits (record_of v) ≡ x = ap accepted_commits r2 ∙ count_same r e isnt ∙ count in
    let next : Last v work x m ((items.Declare x 0, entry) ∷ (arrived ++ (i, e) ∷ [])) rest (declared x id ∷ []) ([] ++ answers i reply) = last_comes w work x m ((items.Declare x 0, entry) ∷ arrived) i rest (declared x id ∷ []) [] drawn reply l in
    let next2 : Last v work x m ((items.Declare x 0, entry) ∷ (arrived ++ (i, e) ∷ [])) (take ahead left) (declared x id ∷ []) [] =
    subst (λ (c : List Answered). Last v work x m ((items.Declare x 0, entry) ∷ (arrived ++ (i, e) ∷ [])) (take ahead left) (declared x id ∷ []) c) (frame_silent id i reply u)
    (subst (λ (a : List Item). Last v work x m ((items.Declare x 0, entry) ∷ (arrived ++ (i, e) ∷ [])) a (declared x id ∷ []) (answers i reply)) end next) in
    let long : length (arrived ++ (i, e) ∷ []) ≡ length arrived + 1 = length-append arrived ((i, e) ∷ []) in record {
      stage = Open x m entry id (arrived ++ (i, e) ∷ []) left ahead refl (omega (arith, long)) same within some
          (ap (λ l. l ++ left) (items-append arrived ((i, e) ∷ [])) ∙ append_assoc (items_of arrived) (i ∷ []) left ∙ are) born next2;
      queues = subst (λ (l : List Entry). Queues now work (accepted_commits l)) (sym r2)
          (queues_stay taken now work r e (handed_by r e.step reply) q took (handed_none r e.step reply (hands_frame r id i u)) isnt);
    }

-- ---- its commit

-- the record has it running, with its two frames
commit_runs : (w : Exchange) (work : List Message) (x : ℕ) (m : Message) (entry : Entry) (id : TransactionId) (a b : Item × Entry) (waiting : List Item) (told coming : List Answered)
    → Keeps w → (l : Last w work x m ((items.Declare x 0, entry) ∷ a ∷ b ∷ []) waiting told coming) → Under id a.0 → Under id b.0 → entry.reply ≡ replies.Declared id
    → Running (record_of w) (length w.first + length l.past) id 0 ((length w.first + length l.past + 1) ∷ (length w.first + length l.past + 1 + 1) ∷ [])
commit_runs w work x m entry id a b waiting told coming k l u v born =
    let p : ℕ = length w.first + length l.past in
    running w x p id ((p + 1) ∷ (p + 1 + 1) ∷ []) k
    (ap (λ c. life_in w.first c x) l.came_is ∙ life_is w.first l.past (a ∷ b ∷ []) x entry id l.behind.below born ∙ life_two x (p + 1) p id a b u v)

-- what it hands
commit_hands : (w : Exchange) (work : List Message) (x : ℕ) (m : Message) (entry : Entry) (id : TransactionId) (a b : Item × Entry) (waiting : List Item) (told coming : List Answered)
    → Keeps w → Last w work x m ((items.Declare x 0, entry) ∷ a ∷ b ∷ []) waiting told coming → a.0 ≡ post_item id m → b.0 ≡ retirement_item id m → entry.reply ≡ replies.Declared id
    → hands (record_of w) (step_of (items.Discharge x 0 id false)) ≡ posted m ∷ retired m ∷ []
commit_hands w work x m entry id a b waiting told coming k l ai bi born =
    let u : Under id a.0 = subst (λ (i : Item). Under id i) (sym ai) (post_under id m) in
    let v : Under id b.0 = subst (λ (i : Item). Under id i) (sym bi) (retirement_under id m) in
    let before : List Step = steps_of w.first ++ map step_of (items_of l.past) in
    let run = commit_runs w work x m entry id a b waiting told coming k l u v born in
    let run2 : Running (record_of w) (length before) id 0 ((length before + 1) ∷ (length before + 1 + 1) ∷ []) =
    subst (λ (n : ℕ). Running (record_of w) n id 0 ((n + 1) ∷ (n + 1 + 1) ∷ [])) (sym (before_length w l.past)) run in
    let all : steps_of (record_of w) ≡ before ++ step_of (items.Declare x 0) ∷ step_of a.0 ∷ step_of b.0 ∷ [] = steps_are w l.past ((items.Declare x 0, entry) ∷ a ∷ b ∷ []) k l.came_is in
    hands_commit (record_of w) id (post_frame id m) (retirement_frame id m) (step_of (items.Declare x 0)) before run2
    (all ∙ ap (λ i. before ++ step_of (items.Declare x 0) ∷ step_of i ∷ step_of b.0 ∷ []) ai ∙ ap (λ i. before ++ step_of (items.Declare x 0) ∷ steps.Frame (post_frame id m) ∷ step_of i ∷ []) bi)
    ∙ ap (λ f. f ∷ stripped (retirement_frame id m) ∷ []) (post_stripped id m)
    ∙ ap (λ f. posted m ∷ f ∷ []) (retirement_stripped id m)

rejected_says : (text : RejectText) → verdict asked.Commit (state_of (replies.Rejected transaction_errors.Rollback text)) ≡ Some hearings.Committed → ⊥
rejected_says text h = let f : hearings.Rejected ≡ hearings.Committed = same_Some hearings.Rejected hearings.Committed h in cc f

commit_at : (w : Exchange) (now : List Frame) (work : List Message) (x n : ℕ) (m : Message) (entry : Entry) (id : TransactionId) (a b : Item × Entry) (rest : List Item) (drawn : DrawnIds) (reply : Reply)
    → a.0 ≡ post_item id m → b.0 ≡ retirement_item id m → entry.reply ≡ replies.Declared id
    → Last w work x m ((items.Declare x 0, entry) ∷ a ∷ b ∷ []) (items.Discharge x 0 id false ∷ rest) (declared x id ∷ []) [] → rest ≡ []
    → accepted_commits (record_of (with_answer w (items.Discharge x 0 id false) rest drawn reply)) ≡ n → Counted (entry_by (step_of (items.Discharge x 0 id false)) drawn reply) x n → Queues now work n
    → At (with_answer w (items.Discharge x 0 id false) rest drawn reply) now work (suc x) 3
commit_at w now work x n m entry id a b rest drawn reply ai bi born l end is counted queues =
    let e : Entry = entry_by (step_of (items.Discharge x 0 id false)) drawn reply in
    let v : Exchange = with_answer w (items.Discharge x 0 id false) rest drawn reply in
    let grown = last_comes w work x m ((items.Declare x 0, entry) ∷ a ∷ b ∷ []) (items.Discharge x 0 id false) rest (declared x id ∷ []) [] drawn reply l in
    let next : Last v work x m ((items.Declare x 0, entry) ∷ (post_item id m, a.1) ∷ (retirement_item id m, b.1) ∷ (items.Discharge x 0 id false, e) ∷ []) [] (declared x id ∷ []) (answers (items.Discharge x 0 id false) reply) =
    subst (λ (j : Item). Last v work x m ((items.Declare x 0, entry) ∷ (post_item id m, a.1) ∷ (j, b.1) ∷ (items.Discharge x 0 id false, e) ∷ []) [] (declared x id ∷ []) (answers (items.Discharge x 0 id false) reply)) bi
    (subst (λ (j : Item). Last v work x m ((items.Declare x 0, entry) ∷ (j, a.1) ∷ b ∷ (items.Discharge x 0 id false, e) ∷ []) [] (declared x id ∷ []) (answers (items.Discharge x 0 id false) reply)) ai
    (subst (λ (c : List Item). Last v work x m ((items.Declare x 0, entry) ∷ a ∷ b ∷ (items.Discharge x 0 id false, e) ∷ []) c (declared x id ∷ []) (answers (items.Discharge x 0 id false) reply)) end grown)) in record {
      stage = Discharged x m entry a.1 b.1 e id refl refl born (subst (λ (c : ℕ). Counted e x c) (sym is) counted) next;
      queues = subst (λ (c : ℕ). Queues now work c) (sym is) queues;
    }

commit_comes : (w : Exchange) (taken now : List Frame) (work : List Message) (x : ℕ) (m : Message) (entry : Entry) (id : TransactionId) (a b : Item × Entry) (rest : List Item) (drawn : DrawnIds) (reply : Reply)
    → Keeps w → Queues taken work (accepted_commits (record_of w)) → accepted_commits (record_of w) ≡ x → a.0 ≡ post_item id m → b.0 ≡ retirement_item id m → entry.reply ≡ replies.Declared id
    → Last w work x m ((items.Declare x 0, entry) ∷ a ∷ b ∷ []) (items.Discharge x 0 id false ∷ rest) (declared x id ∷ []) [] → rest ≡ []
    → Answer (record_of w) (step_of (items.Discharge x 0 id false)) drawn.ids reply → now ≡ taken ++ handed_by (record_of w) (step_of (items.Discharge x 0 id false)) reply
    → At (with_answer w (items.Discharge x 0 id false) rest drawn reply) now work (suc x) 3
commit_comes w taken now work x m entry id a b rest drawn reply k q count ai bi born l end allowed took =
    let p : ℕ = length w.first + length l.past in
    let run = commit_runs w work x m entry id a b (items.Discharge x 0 id false ∷ rest) (declared x id ∷ []) [] k l
    (subst (λ (i : Item). Under id i) (sym ai) (post_under id m)) (subst (λ (i : Item). Under id i) (sym bi) (retirement_under id m)) born in
    by_end run.short (own_ends (record_of w) p id 0 ((p + 1) ∷ (p + 1 + 1) ∷ []) false drawn.ids reply run allowed)
  where
    by_end : length id ≤ 32 → Ends reply → At (with_answer w (items.Discharge x 0 id false) rest drawn reply) now work (suc x) 3
    by_end short (Accepts echoes is) =
        let step : Step = step_of (items.Discharge x 0 id false) in
        let e : Entry = entry_by (step_of (items.Discharge x 0 id false)) drawn reply in
        let one : cond {A = ℕ} (accepts_commit step reply) 1 0 ≡ 1 = ap (λ y. cond (accepts_commit step y) 1 0) is ∙ ap (λ c. cond c 1 0) (commit_counted id short) in
        let more = count_more (record_of w) e in
        let all : accepted_commits (record_of (with_answer w (items.Discharge x 0 id false) rest drawn reply)) ≡ suc x =
        ap accepted_commits (recorded w (items.Discharge x 0 id false) rest drawn reply) ∙ omega (arith, more, one, count) in
        let handed : handed_by (record_of w) step reply ≡ posted m ∷ retired m ∷ [] =
        ap (λ y. handed_by (record_of w) step y) is ∙ commit_hands w work x m entry id a b (items.Discharge x 0 id false ∷ rest) (declared x id ∷ []) [] k l ai bi born in
        let now_is : (taken ++ posted m ∷ []) ++ retired m ∷ [] ≡ now = append_assoc taken (posted m ∷ []) (retired m ∷ []) ∙ ap (λ h. taken ++ h) (sym handed) ∙ sym took in
        commit_at w now work x (suc x) m entry id a b rest drawn reply ai bi born l end all (inl (ap (λ y. verdict asked.Commit (state_of y)) is, refl))
        (subst (λ (t : List Frame). Queues t work (suc x)) now_is (moved taken work x m (subst (λ (c : ℕ). Queues taken work c) count q) l.is))
    by_end short (Vetoes text is) =
        let step : Step = step_of (items.Discharge x 0 id false) in
        let e : Entry = entry_by (step_of (items.Discharge x 0 id false)) drawn reply in
        let none : handed_by (record_of w) step reply ≡ [] = ap (λ y. handed_by (record_of w) step y) is in
        let isnt : accepts_commit step reply ≡ false = ap (λ y. accepts_commit step y) is in
        let same : accepted_commits (record_of (with_answer w (items.Discharge x 0 id false) rest drawn reply)) ≡ x =
        ap accepted_commits (recorded w (items.Discharge x 0 id false) rest drawn reply) ∙ count_same (record_of w) e isnt ∙ count in
        commit_at w now work x x m entry id a b rest drawn reply ai bi born l end same
        (inr (λ says. rejected_says text (ap (λ y. verdict asked.Commit (state_of y)) (sym is) ∙ says), refl))
        (subst (λ (c : ℕ). Queues now work c) (count_same (record_of w) e isnt ∙ count) (queues_stay taken now work (record_of w) e (handed_by (record_of w) step reply) q took none isnt))

-- ---- an item that is answered, by the stage

at_as : (v : Exchange) (now : List Frame) (work : List Message) (m n p q : ℕ) → m ≡ n → p ≡ q → At v now work n q → At v now work m p
at_as v now work m n p q a b at = subst (λ (k : ℕ). At v now work k p) (sym a) (subst (λ (k : ℕ). At v now work n k) (sym b) at)

not_empty : (xs ys : List Item) (j : Item) → xs ++ j ∷ ys ≡ [] → ⊥
not_empty [] ys j h = cc h
not_empty (x ∷ xs) ys j h = cc h

empty_waits : (w : Exchange) (i : Item) (rest : List Item) → w.waiting ≡ i ∷ rest → w.waiting ≡ [] → ⊥
empty_waits w i rest e h = let f : i ∷ rest ≡ [] = sym e ∙ h in cc f

pub answered_at : (w : Exchange) (taken now : List Frame) (work : List Message) (made put : ℕ) (i : Item) (rest : List Item) (drawn : DrawnIds) (reply : Reply)
    → Stands w taken work made put → w.waiting ≡ i ∷ rest → Answer (record_of w) (step_of i) drawn.ids reply → now ≡ taken ++ handed_by (record_of w) (step_of i) reply
    → At (with_answer w i rest drawn reply) now work made put
answered_at w taken now work made put i rest drawn reply s e allowed took = by_stage s.stage
  where
    by_arrived : (x : ℕ) (m : Message) (entry : Entry) (id : TransactionId) (arrived : List (Item × Entry)) (left : List Item) (ahead : ℕ) → made ≡ suc x → put ≡ length arrived + ahead → accepted_commits (record_of w) ≡ x → ahead ≤ length left → 1 ≤ length left
        → items_of arrived ++ left ≡ three x id m → entry.reply ≡ replies.Declared id → Last w work x m ((items.Declare x 0, entry) ∷ arrived) (take ahead left) (declared x id ∷ []) [] → At (with_answer w i rest drawn reply) now work made put
    by_arrived x m entry id arrived left zero mk pk ck within some are born l = absurd (empty_waits w i rest e l.waiting_is)
    by_arrived x m entry id arrived [] (suc a) mk pk ck within some are born l = absurd (omega (arith, some))
    by_arrived x m entry id [] (j ∷ left) (suc a) mk pk ck within some are born l =
        let waits : j ∷ take a left ≡ i ∷ rest = sym l.waiting_is ∙ e in
        let same : j ≡ i = cc waits in
        let end : take a left ≡ rest = cc waits in
        let is : j ≡ post_item id m = cc are in
        let more : left ≡ retirement_item id m ∷ items.Discharge x 0 id false ∷ [] = cc are in
        let long : length left ≡ 2 = ap length more in
        at_as (with_answer w i rest drawn reply) now work made (suc x) put (0 + suc a) mk pk
        (frame_comes w taken now work x m entry id [] i left rest a drawn reply s.queues ck (omega (arith, within)) (omega (arith, long))
        (ap (λ k. k ∷ left) (sym same) ∙ are) born (subst (λ (k : Item). Under id k) (sym (sym same ∙ is)) (post_under id m))
        (subst (λ (b : List Item). Last w work x m ((items.Declare x 0, entry) ∷ []) b (declared x id ∷ []) []) waits l) (sym end) took)
    by_arrived x m entry id (b ∷ []) (j ∷ left) (suc a) mk pk ck within some are born l =
        let waits : j ∷ take a left ≡ i ∷ rest = sym l.waiting_is ∙ e in
        let same : j ≡ i = cc waits in
        let end : take a left ≡ rest = cc waits in
        let is : j ≡ retirement_item id m = cc are in
        let more : left ≡ items.Discharge x 0 id false ∷ [] = cc are in
        let long : length left ≡ 1 = ap length more in
        at_as (with_answer w i rest drawn reply) now work made (suc x) put (1 + suc a) mk pk
        (frame_comes w taken now work x m entry id (b ∷ []) i left rest a drawn reply s.queues ck (omega (arith, within)) (omega (arith, long))
        (ap (λ k. b.0 ∷ k ∷ left) (sym same) ∙ are) born (subst (λ (k : Item). Under id k) (sym (sym same ∙ is)) (retirement_under id m))
        (subst (λ (c : List Item). Last w work x m ((items.Declare x 0, entry) ∷ b ∷ []) c (declared x id ∷ []) []) waits l) (sym end) took)
    by_arrived x m entry id (b ∷ c ∷ []) (j ∷ left) (suc a) mk pk ck within some are born l =
        let waits : j ∷ take a left ≡ i ∷ rest = sym l.waiting_is ∙ e in
        let same : j ≡ i = cc waits in
        let end : take a left ≡ rest = cc waits in
        let bi : b.0 ≡ post_item id m = cc are in
        let ci : c.0 ≡ retirement_item id m = cc are in
        let is : j ≡ items.Discharge x 0 id false = cc are in
        let more : left ≡ [] = cc are in
        let long : length left ≡ 0 = ap length more in
        let none : a ≡ 0 = omega (arith, within, long) in
        let done : rest ≡ [] = sym end ∙ ap (λ n. take n left) none in
        at_as (with_answer w i rest drawn reply) now work made (suc x) put 3 mk (omega (arith, pk, none))
        (subst (λ (k : Item). Answer (record_of w) (step_of k) drawn.ids reply → now ≡ taken ++ handed_by (record_of w) (step_of k) reply → Last w work x m ((items.Declare x 0, entry) ∷ b ∷ c ∷ []) (k ∷ rest) (declared x id ∷ []) [] → At (with_answer w k rest drawn reply) now work (suc x) 3)
        (sym is ∙ same)
        (λ allow take_all last. commit_comes w taken now work x m entry id b c rest drawn reply s.keeps s.queues ck bi ci born last done allow take_all)
        allowed took
        (subst (λ (d : List Item). Last w work x m ((items.Declare x 0, entry) ∷ b ∷ c ∷ []) d (declared x id ∷ []) []) waits l))
    by_arrived x m entry id (b ∷ c ∷ d ∷ arrived) (j ∷ left) (suc a) mk pk ck within some are born l =
        let none : items_of arrived ++ j ∷ left ≡ [] = cc are in
        absurd (not_empty (items_of arrived) left j none)

    by_stage : Stage w work made put (accepted_commits (record_of w)) → At (with_answer w i rest drawn reply) now work made put
    by_stage (Idle behind none coming told is) = absurd (empty_waits w i rest e none)
    by_stage (Declaring x m mk pk ck l) =
        let waits : items.Declare x 0 ∷ [] ≡ i ∷ rest = sym l.waiting_is ∙ e in
        let same : items.Declare x 0 ≡ i = cc waits in
        let end : [] ≡ rest = cc waits in
        at_as (with_answer w i rest drawn reply) now work made (suc x) put 0 mk pk
        (subst (λ (k : Item). now ≡ taken ++ handed_by (record_of w) (step_of k) reply → Last w work x m [] (k ∷ rest) [] [] → At (with_answer w k rest drawn reply) now work (suc x) 0)
        same
        (λ take_all last. declare_comes w taken now work x m rest drawn reply s.queues ck last (sym end) take_all)
        took
        (subst (λ (b : List Item). Last w work x m [] b [] []) waits l))
    by_stage (Answering x m entry mk pk ck l) = absurd (empty_waits w i rest e l.waiting_is)
    by_stage (Undeclared x m entry mk pk ck isnt l) = absurd (empty_waits w i rest e l.waiting_is)
    by_stage (Open x m entry id arrived left ahead mk pk ck within some are born l) = by_arrived x m entry id arrived left ahead mk pk ck within some are born l
    by_stage (Discharged x m entry post retirement commit id mk pk born ck l) = absurd (empty_waits w i rest e l.waiting_is)
    by_stage (Rejected x m entry post retirement commit id mk pk born ck isnt l) = absurd (empty_waits w i rest e l.waiting_is)

-- ---- an item that stops the session

-- it is a commit, of which nothing was taken
pub record Stops (halt : Halt) : Type 0 where
  pub code : halt.code ≡ codes.BelowNoMemory
  pub handed : halt.handed ≡ 0

no_stop : (r : List Entry) (sure : Bool) (id : TransactionId) (i : Item) (f : Frame) (halt : Halt) → is_live r id ≡ true → i ≡ items.Frame f → txn f ≡ Some id → answered_under id f ≡ [] → MayStop sure r (step_of i) halt → ⊥
no_stop r sure id i f halt live is under none may =
    let a : MayStop sure r (steps.Frame f) halt = subst (λ (j : Item). MayStop sure r (step_of j) halt) is may in
    let b : StopsFrame r f (Some id) halt.code = subst (λ (o : Option TransactionId). StopsFrame r f o halt.code) under a in
    let c : StopsUnder true id f halt.code = subst (λ (l : Bool). StopsUnder l id f halt.code) live b in
    let d : length (answered_under id f) ≡ 0 = ap length none in
    let g : 1 ≤ length (answered_under id f) = c.0 in
    omega (arith, d, g)

pub stopped_at : (w : Exchange) (taken : List Frame) (work : List Message) (made put : ℕ) (i : Item) (rest : List Item) (halt : Halt)
    → Stands w taken work made put → w.waiting ≡ i ∷ rest → MayStop w.sure (record_of w) (step_of i) halt → Stops halt
stopped_at w taken work made put i rest halt s e may = by_stage s.stage
  where
    by_declare : MayStop w.sure (record_of w) (step_of (items.Declare 0 0)) halt → Stops halt
    by_declare h =
        let none : length (hands (record_of w) (step_of (items.Declare 0 0))) ≡ 0 = ap length (hands_declare (record_of w)) in
        let some : 1 ≤ length (hands (record_of w) (step_of (items.Declare 0 0))) = h.0 in
        absurd (omega (arith, none, some))

    by_arrived : (x : ℕ) (m : Message) (entry : Entry) (id : TransactionId) (arrived : List (Item × Entry)) (left : List Item) (ahead : ℕ) → 1 ≤ length left
        → items_of arrived ++ left ≡ three x id m → entry.reply ≡ replies.Declared id → Last w work x m ((items.Declare x 0, entry) ∷ arrived) (take ahead left) (declared x id ∷ []) [] → Stops halt
    by_arrived x m entry id arrived left zero some are born l = absurd (empty_waits w i rest e l.waiting_is)
    by_arrived x m entry id arrived [] (suc a) some are born l = absurd (omega (arith, some))
    by_arrived x m entry id [] (j ∷ left) (suc a) some are born l =
        let waits : j ∷ take a left ≡ i ∷ rest = sym l.waiting_is ∙ e in
        let same : j ≡ i = cc waits in
        let is : j ≡ post_item id m = cc are in
        let p : ℕ = length w.first + length l.past in
        let run = running w x p id [] s.keeps (ap (λ c. life_in w.first c x) l.came_is ∙ life_is w.first l.past [] x entry id l.behind.below born) in
        absurd (no_stop (record_of w) w.sure id i (post_frame id m) halt run.live (sym same ∙ is) (post_txn id m) refl may)
    by_arrived x m entry id (b ∷ []) (j ∷ left) (suc a) some are born l =
        let waits : j ∷ take a left ≡ i ∷ rest = sym l.waiting_is ∙ e in
        let same : j ≡ i = cc waits in
        let bi : b.0 ≡ post_item id m = cc are in
        let is : j ≡ retirement_item id m = cc are in
        let p : ℕ = length w.first + length l.past in
        let u : Under id b.0 = subst (λ (k : Item). Under id k) (sym bi) (post_under id m) in
        let run = running w x p id ((p + 1) ∷ []) s.keeps (ap (λ c. life_in w.first c x) l.came_is ∙ life_is w.first l.past (b ∷ []) x entry id l.behind.below born ∙ life_one x (p + 1) p id b u) in
        absurd (no_stop (record_of w) w.sure id i (retirement_frame id m) halt run.live (sym same ∙ is) (retirement_txn id m) refl may)
    by_arrived x m entry id (b ∷ c ∷ []) (j ∷ left) (suc a) some are born l =
        let waits : j ∷ take a left ≡ i ∷ rest = sym l.waiting_is ∙ e in
        let same : j ≡ i = cc waits in
        let is : j ≡ items.Discharge x 0 id false = cc are in
        let h : MayStop w.sure (record_of w) (step_of (items.Discharge x 0 id false)) halt = subst (λ (k : Item). MayStop w.sure (record_of w) (step_of k) halt) (sym same ∙ is) may in
        record { code = h.1; handed = h.2 s.sure }
    by_arrived x m entry id (b ∷ c ∷ d ∷ arrived) (j ∷ left) (suc a) some are born l =
        let none : items_of arrived ++ j ∷ left ≡ [] = cc are in
        absurd (not_empty (items_of arrived) left j none)

    by_stage : Stage w work made put (accepted_commits (record_of w)) → Stops halt
    by_stage (Idle behind none coming told is) = absurd (empty_waits w i rest e none)
    by_stage (Declaring x m mk pk ck l) =
        let waits : items.Declare x 0 ∷ [] ≡ i ∷ rest = sym l.waiting_is ∙ e in
        let same : items.Declare x 0 ≡ i = cc waits in
        by_declare (subst (λ (k : Item). MayStop w.sure (record_of w) (step_of k) halt) (sym same) may)
    by_stage (Answering x m entry mk pk ck l) = absurd (empty_waits w i rest e l.waiting_is)
    by_stage (Undeclared x m entry mk pk ck isnt l) = absurd (empty_waits w i rest e l.waiting_is)
    by_stage (Open x m entry id arrived left ahead mk pk ck within some are born l) = by_arrived x m entry id arrived left ahead some are born l
    by_stage (Discharged x m entry post retirement commit id mk pk born ck l) = absurd (empty_waits w i rest e l.waiting_is)
    by_stage (Rejected x m entry post retirement commit id mk pk born ck isnt l) = absurd (empty_waits w i rest e l.waiting_is)

-- with nothing drawn on anew nothing was taken
no_more : (xs more : List ℕ) → xs ++ [] ≡ (xs ++ []) ++ more → more ≡ []
no_more xs [] e = refl
no_more xs (y ∷ more) e =
    let a = ap length e in
    let b = length-append (xs ++ []) (y ∷ more) in
    absurd (omega (arith, a, b))

pub none_taken : (w : Exchange) (i : Item) (rest : List Item) (halt : Halt) (old new : Board) → w.waiting ≡ i ∷ rest → w.stop ≡ None → halt.handed ≡ 0 → Grew w (with_stop w halt) (told_by old).taken (told_by new).taken → taken_of new ≡ taken_of old
none_taken w i rest halt old new e n z g =
    let r : List Entry = record_of w in
    let before : drawn_on w ≡ origins r ++ [] = ap (λ o. origins r ++ stop_places r o w.waiting) n in
    let after : drawn_on (with_stop w halt) ≡ origins r ++ [] =
    ap (λ l. origins r ++ stop_places r (Some halt) l) e ∙ ap (λ k. origins r ++ take k (sources r (step_of i))) z in
    let none : g.0 ≡ [] = no_more (origins r) g.0 (sym after ∙ g.1 ∙ ap (λ l. l ++ g.0) before) in
    let took = took_frames old.journal new.journal (frames_drawn (with_stop w halt) g.0) g.2 in
    took ∙ ap (λ l. taken_of old ++ frames_drawn (with_stop w halt) l) none ∙ append-nil (taken_of old)
