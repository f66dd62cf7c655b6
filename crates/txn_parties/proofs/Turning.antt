-- What is so of all that arrived, with one item more; and of two parties, after one event.
use Rattle.std.proofs.Common.{◌≡◌, ℕ, ◌+◌, ◌≤◌, Bool, true, false, cond, ◌||◌, Option, Some, None, List, [], ◌∷◌, ◌++◌, length, map, refl, sym, ◌∙◌, ap, arith, subst, append-nil, append_assoc}
use Rattle.std.specs.Prelude.{◌==◌}
use Rattle.std.specs.List.{list_any, count_by}
use Rattle.std.proofs.lemmas.List.{length-append, map-append, length-map}
use Rattle.std.proofs.lemmas.List.Folds.{list_any-append}
use Rattle.std.proofs.lemmas.List.Sums.{sum_by-append}
use Rattle.std.proofs.lemmas.Bool.{eqb-true, false_from_ne_true}
use Rattle.amqp_txn_types.specs.declared.id.TransactionId.{TransactionId}
use Rattle.amqp_txn_types.specs.declared.performatives.Frame.{Frame}
use Rattle.amqp_txn_types.specs.declared.performatives.Frame.TheVariants as frames
use Rattle.amqp_txn_types.specs.Frames.{txn, is_plain_frame}
use Rattle.amqp_txn_types.specs.Ids.{is_some_id}
use Rattle.amqp_below_ids.specs.Drawn.{DrawnIds}
use Rattle.amqp_resource_record.specs.declared.entry.Entry.{Entry}
use Rattle.amqp_resource_record.specs.declared.reply.Reply.{Reply}
use Rattle.amqp_resource_record.specs.declared.reply.Reply.TheVariants as replies
use Rattle.amqp_resource_record.specs.Entries.{steps_of}
use Rattle.amqp_resource_record.specs.Live.{is_live}
use Rattle.amqp_resource_record.specs.Hands.{hands}
use Rattle.amqp_resource_record.specs.Answers.{Answer}
use Rattle.amqp_resource_record.specs.Legal.{IsLegal}
use Rattle.amqp_resource_record.proofs.Whole.{IsLegal-snoc}
use Rattle.txn_parties.specs.declared.event.Event.{Event}
use Rattle.txn_parties.specs.declared.event.Event.TheVariants as events
use Rattle.txn_parties.specs.declared.event.Happened.{Happened}
use Rattle.txn_parties.specs.declared.item.Item.{Item}
use Rattle.txn_parties.specs.declared.item.Item.TheVariants as items
use Rattle.txn_parties.specs.declared.item.Answered.{Answered}
use Rattle.txn_parties.specs.declared.item.Halt.{Halt}
use Rattle.txn_parties.specs.Items.{controller_in, is_any_declare, is_declare, is_discharge, item_ends, made_in, step_of}
use Rattle.txn_parties.specs.BackWire.{answers, id_in, verdict_in}
use Rattle.txn_parties.specs.Exchange.{Begins, Exchange, back_of, begun, entries_of, forward, items_of, made, record_of}
use Rattle.txn_parties.specs.Turns.{Arrives, Follows, IsAnswered, IsShort, IsStopped, MayStop, Turn, TurnArrive, TurnCut, TurnPut, TurnReturn, discharge_of, entry_by, has_link, if_id, if_link, put_of, state_under, with_answer, with_heard, with_put, with_stop}
use Rattle.txn_parties.specs.Lives.{Life, Unborn, Runs, Took, Spent, next_life, born, ended, life_in, Holds, Apart, Fits, Running}
use Rattle.txn_parties.specs.Invariant.{Spans, HasEnded, Marks, Agrees, One, Past, PutFits, Ready, Halted, Keeps}
use Rattle.txn_parties.proofs.Living.{life_holds, declared_dead}
use Rattle.txn_parties.proofs.Wires.{fate_from-snoc, items-snoc, entries-snoc, back-snoc, spans_next, marks_next, agrees_next, FreshDeclare, found_first, id_in-append}

-- ---- two that run don't have one id

-- where it runs after the item: it ran before, or this declared it
data WasRunning (f : ℕ → Life) (x : ℕ) (i : Item) (reply : Reply) (t : TransactionId) : Type 0 where
  Ran : (p k : ℕ) (s : List ℕ) → f x ≡ Runs p t k s → WasRunning f x i reply t
  Begun : (y j : ℕ) → i ≡ items.Declare y j → x ≡ y → reply ≡ replies.Declared t → WasRunning f x i reply t

runs_id : (p q : ℕ) (t u : TransactionId) (j k : ℕ) (s w : List ℕ) → Runs p t j s ≡ Runs q u k w → t ≡ u
runs_id p q t u j k s w h = cc h

ran_as : (f : ℕ → Life) (x : ℕ) (i : Item) (reply : Reply) (t u : TransactionId) (p k : ℕ) (s : List ℕ) → f x ≡ Runs p u k s → u ≡ t → WasRunning f x i reply t
ran_as f x i reply t u p k s h e = Ran p k s (h ∙ ap (λ v. Runs p v k s) e)

ended_runs : (rb : Bool) (reply : Reply) (t u : TransactionId) (s w : List ℕ) (p k : ℕ) → ended rb reply t s ≡ Runs p u k w → ⊥
ended_runs true reply t u s w p k h = cc h
ended_runs false (replies.Accepted echoes) t u s w p k h = cc h
ended_runs false _ t u s w p k h = cc h

was_running : (f : ℕ → Life) (x n : ℕ) (i : Item) (reply : Reply) (life : Life) (p : ℕ) (t : TransactionId) (k : ℕ) (s : List ℕ) → f x ≡ life → next_life x n life i reply ≡ Runs p t k s → WasRunning f x i reply t
was_running f x n (items.Declare y j) reply Unborn p t k s e h = by_case reply (x == y) refl h
  where
    by_case : (reply : Reply) (b : Bool) → (x == y) ≡ b → cond b (born n j reply) Unborn ≡ Runs p t k s → WasRunning f x (items.Declare y j) reply t
    by_case reply false e h = cc h
    by_case (replies.Declared u) true e h = Begun y j refl (eqb-true x y e) (ap (λ v. replies.Declared v) (runs_id n p u t j k [] s h))
    by_case _ true e h = cc h
was_running f x n _ reply Unborn p t k s e h = cc h
was_running f x n (items.Declare y j) reply (Runs q u l w) p t k s e h = ran_as f x (items.Declare y j) reply t u q l w e (runs_id q p u t l k w s h)
was_running f x n (items.Frame frame) reply (Runs q u l w) p t k s e h = ran_as f x (items.Frame frame) reply t u q l w e (runs_id q p u t l k (w ++ cond (is_some_id u (txn frame)) (n ∷ []) []) s h)
was_running f x n (items.LinkEnd j) reply (Runs q u l w) p t k s e h = by_case (j == l) h
  where
    by_case : (b : Bool) → cond b (Spent u w) (Runs q u l w) ≡ Runs p t k s → WasRunning f x (items.LinkEnd j) reply t
    by_case true h = cc h
    by_case false h = ran_as f x (items.LinkEnd j) reply t u q l w e (runs_id q p u t l k w s h)
was_running f x n (items.Discharge y j v rb) reply (Runs q u l w) p t k s e h = by_case (x == y) h
  where
    by_case : (b : Bool) → cond b (ended rb reply u w) (Runs q u l w) ≡ Runs p t k s → WasRunning f x (items.Discharge y j v rb) reply t
    by_case true h = absurd (ended_runs rb reply u t w s p k h)
    by_case false h = ran_as f x (items.Discharge y j v rb) reply t u q l w e (runs_id q p u t l k w s h)
was_running f x n i reply (Took u w) p t k s e h = cc h
was_running f x n i reply (Spent u w) p t k s e h = cc h

runs_live : (r : List Entry) (life : Life) (p : ℕ) (t : TransactionId) (k : ℕ) (s : List ℕ) → Holds r life → life ≡ Runs p t k s → is_live r t ≡ true
runs_live r life p t k s h e = let w : Running r p t k s = subst (λ (l : Life). Holds r l) e h in w.live

declare_name : (y z j l : ℕ) (i : Item) → i ≡ items.Declare y j → i ≡ items.Declare z l → y ≡ z
declare_name y z j l i a b = let h : items.Declare y j ≡ items.Declare z l = sym a ∙ b in cc h

one_name : (r : List Entry) (f : ℕ → Life) (i : Item) (d : List TransactionId) (reply : Reply) (x y : ℕ) (t : TransactionId) → Answer r (step_of i) d reply → Apart f → ((z : ℕ) → Holds r (f z)) → WasRunning f x i reply t → WasRunning f y i reply t → x ≡ y
one_name r f i d reply x y t a ap_f h (Ran p k s e) (Ran q l w g) = ap_f x y p q t k l s w e g
one_name r f i d reply x y t a ap_f h (Begun u j n m o) (Begun v l n2 m2 o2) = m ∙ declare_name u v j l i n n2 ∙ sym m2
one_name r f i d reply x y t a ap_f h (Ran p k s e) (Begun v l n m o) =
    let yes : is_live r t ≡ true = runs_live r (f x) p t k s (h x) e in
    let no : is_live r t ≡ false = declared_dead r (step_of i) d t (subst (λ (z : Reply). Answer r (step_of i) d z) o a) in
    absurd (let c : true ≡ false = sym yes ∙ no in cc c)
one_name r f i d reply x y t a ap_f h (Begun v l n m o) (Ran p k s e) =
    let yes : is_live r t ≡ true = runs_live r (f y) p t k s (h y) e in
    let no : is_live r t ≡ false = declared_dead r (step_of i) d t (subst (λ (z : Reply). Answer r (step_of i) d z) o a) in
    absurd (let c : true ≡ false = sym yes ∙ no in cc c)

pub apart_next : (r : List Entry) (f g : ℕ → Life) (n : ℕ) (i : Item) (d : List TransactionId) (reply : Reply) → Answer r (step_of i) d reply → Apart f → ((z : ℕ) → Holds r (f z)) → ((z : ℕ) → g z ≡ next_life z n (f z) i reply) → Apart g
apart_next r f g n i d reply a ap_f h e = λ x y p q t j k s w gx gy.
    one_name r f i d reply x y t a ap_f h
    (was_running f x n i reply (f x) p t j s refl (sym (e x) ∙ gx))
    (was_running f y n i reply (f y) q t k w refl (sym (e y) ∙ gy))

-- ---- all that arrived, with one item more

entries_place : (first : List Entry) (came : List (Item × Entry)) → length (first ++ entries_of came) ≡ length first + length (items_of came)
entries_place first came = omega (arith, length-append first (entries_of came), length-map came (λ (p : Item × Entry). p.1), length-map came (λ (p : Item × Entry). p.0))

came_place : (first : List Entry) (came : List (Item × Entry)) → length first + length came ≡ length (first ++ entries_of came)
came_place first came = omega (arith, length-append first (entries_of came), length-map came (λ (p : Item × Entry). p.1))

pub record_more : (first : List Entry) (came : List (Item × Entry)) (i : Item) (e : Entry) → first ++ entries_of (came ++ (i, e) ∷ []) ≡ (first ++ entries_of came) ++ e ∷ []
record_more first came i e = ap (λ l. first ++ l) (entries-snoc came i e) ∙ sym (append_assoc first (entries_of came) (e ∷ []))

life_more : (first : List Entry) (came : List (Item × Entry)) (i : Item) (e : Entry) (x : ℕ) → life_in first (came ++ (i, e) ∷ []) x ≡ next_life x (length (first ++ entries_of came)) (life_in first came x) i e.reply
life_more first came i e x = fate_from-snoc x (length first) Unborn came i e ∙ ap (λ n. next_life x n (life_in first came x) i e.reply) (came_place first came)

own_runs : (f : ℕ → Life) (x : ℕ) (i : Item) → Fits f i → is_discharge x i ≡ true → (p : ℕ) × (t : TransactionId) × (k : ℕ) × (s : List ℕ) × (f x ≡ Runs p t k s)
own_runs f x (items.Discharge y k t rb) h e = (h.0, t, k, h.1, ap f (eqb-true x y e) ∙ h.2)
own_runs f x _ h e = cc e

spans_place : (c x n m : ℕ) (list : List Item) (i : Item) (reply : Reply) (life : Life) → n ≡ c + length list → m ≡ n + 1 → FreshDeclare list i → Spans c x n list life → Spans c x m (list ++ i ∷ []) (next_life x n life i reply)
spans_place c x n m list i reply life h g f s =
    subst (λ (y : ℕ). Spans c x y (list ++ i ∷ []) (next_life x n life i reply)) (sym (g ∙ ap (λ z. z + 1) h))
    (subst (λ (y : ℕ). Spans c x (c + length list + 1) (list ++ i ∷ []) (next_life x y life i reply)) (sym h)
    (spans_next c x list i reply life f (subst (λ (y : ℕ). Spans c x y list life) h s)))

place_next : (first : List Entry) (came : List (Item × Entry)) (i : Item) (e : Entry) → length (first ++ entries_of (came ++ (i, e) ∷ [])) ≡ length (first ++ entries_of came) + 1
place_next first came i e = ap length (record_more first came i e) ∙ length-append (first ++ entries_of came) (e ∷ [])

pub past_next : (first : List Entry) (came : List (Item × Entry)) (i : Item) (drawn : DrawnIds) (reply : Reply) → Past first came → Answer (first ++ entries_of came) (step_of i) drawn.ids reply → IsShort reply → Fits (life_in first came) i → FreshDeclare (items_of came) i → Past first (came ++ (i, entry_by (step_of i) drawn reply) ∷ [])
past_next first came i drawn reply p a short fit fresh =
    let e : Entry = entry_by (step_of i) drawn reply in
    let r : List Entry = first ++ entries_of came in
    let n : ℕ = length r in record {
      legal = subst (λ (x : List Entry). IsLegal x) (sym (record_more first came i e)) (IsLegal-snoc r e p.legal a);
      steps = ap steps_of (record_more first came i e) ∙ map-append (λ (x : Entry). x.step) r (e ∷ []) ∙ ap (λ l. l ++ step_of i ∷ []) p.steps ∙ append_assoc (steps_of first) (map step_of (items_of came)) (step_of i ∷ []) ∙ ap (λ l. steps_of first ++ l) (sym (map-append step_of (items_of came) (i ∷ []))) ∙ ap (λ l. steps_of first ++ map step_of l) (sym (items-snoc came i e));
      apart = apart_next r (life_in first came) (life_in first (came ++ (i, e) ∷ [])) n i drawn.ids reply a p.apart (λ z. (p.one z).holds) (λ z. life_more first came i e z);
      one = λ x.
          let life : Life = life_in first came x in
          let more : One first (came ++ (i, e) ∷ []) x (next_life x n life i reply) = record {
            holds = subst (λ (y : List Entry). Holds y (next_life x n life i reply)) (sym (record_more first came i e)) (life_holds r (life_in first came) x i drawn reply life p.legal a short fit p.apart (λ z. (p.one z).holds) refl (p.one x).holds);
            spans = subst (λ (y : List Item). Spans (length first) x (length (first ++ entries_of (came ++ (i, e) ∷ []))) y (next_life x n life i reply)) (sym (items-snoc came i e)) (spans_place (length first) x n (length (first ++ entries_of (came ++ (i, e) ∷ []))) (items_of came) i reply life (entries_place first came) (place_next first came i e) fresh (p.one x).spans);
            marks = subst (λ (y : List Item). Marks x y (next_life x n life i reply)) (sym (items-snoc came i e)) (marks_next n x (items_of came) i reply life fresh (p.one x).marks);
            agrees = subst (λ (y : List Answered). Agrees (next_life x n life i reply) (id_in x y) (verdict_in x y)) (sym (back-snoc came i e)) (agrees_next n x (back_of came) i reply life (λ g. own_runs (life_in first came) x i fit g) (p.one x).agrees);
          } in subst (λ (l : Life). One first (came ++ (i, e) ∷ []) x l) (sym (life_more first came i e x)) more;
    }

-- ---- two parties as they begin

past_start : (first : List Entry) → IsLegal first → Past first []
past_start first l = record {
  legal = subst (λ (x : List Entry). IsLegal x) (sym (append-nil first)) l;
  steps = map-append (λ (x : Entry). x.step) first [];
  apart = λ x y p q t j k s w a b. cc a;
  one = λ x. record { holds = tt; spans = tt; marks = tt; agrees = (refl, refl) };
}

pub keeps_start : (sure : Bool) (first : List Entry) → Begins first → Keeps (begun sure first)
keeps_start sure first b = record { begins = b; past = past_start first b.legal; back = refl; ready = tt; halted = λ halt h. cc h; numbered = λ x h. refl }

-- an answer that was heard is on the back wire
pub heard_back : (w : Exchange) (x : ℕ) (t : TransactionId) → Keeps w → id_in x w.told ≡ Some t → id_in x (back_of w.came) ≡ Some t
heard_back w x t k h = found_first (id_in x w.told) (id_in x w.coming) (id_in x (back_of w.came)) t (ap (id_in x) (sym k.back) ∙ id_in-append x w.told w.coming) h

ended_not : (x k : ℕ) (list : List Item) → HasEnded x list → controller_in x list ≡ Some k → list_any (item_ends x k) list ≡ false → ⊥
ended_not x k list m c n =
    let jk : Some m.0 ≡ Some k = sym m.1 ∙ c in
    let jk2 : m.0 ≡ k = cc jk in
    let f : true ≡ false = sym m.2 ∙ ap (λ l. list_any (item_ends x l) list) jk2 ∙ n in cc f

runs_fit : (life : Life) (x k : ℕ) (t : TransactionId) (list : List Item) (back : List Answered) → Marks x list life → Agrees life (id_in x back) (verdict_in x back) → id_in x back ≡ Some t → controller_in x list ≡ Some k → list_any (item_ends x k) list ≡ false → (p : ℕ) × (s : List ℕ) × (life ≡ Runs p t k s)
runs_fit Unborn x k t list back m a h c n = let e : None ≡ Some t = sym a.0 ∙ h in cc e
runs_fit (Runs p u j s) x k t list back m a h c n =
    let ut : Some u ≡ Some t = sym a.0 ∙ h in
    let jk : Some j ≡ Some k = sym m ∙ c in
    let ut2 : u ≡ t = cc ut in
    let jk2 : j ≡ k = cc jk in (p, s, ap (λ v. Runs p v j s) ut2 ∙ ap (λ l. Runs p t l s) jk2)
runs_fit (Took u s) x k t list back m a h c n = absurd (ended_not x k list m c n)
runs_fit (Spent u s) x k t list back m a h c n = absurd (ended_not x k list m c n)

pub fits_now : (w : Exchange) (i : Item) → Keeps w → PutFits (λ x. id_in x w.told) (items_of w.came) i → Fits (life_in w.first w.came) i × FreshDeclare (items_of w.came) i
fits_now w (items.Declare y j) k f = (tt, f)
fits_now w (items.Discharge y j t rb) k f =
    let one = k.past.one y in
    (runs_fit (life_in w.first w.came y) y j t (items_of w.came) (back_of w.came) one.marks one.agrees (heard_back w y t k f.0) f.1 f.2, tt)
fits_now w (items.LinkEnd j) k f = (tt, tt)
fits_now w (items.Frame frame) k f = (tt, tt)

-- ---- what waits

ready_more : (told : ℕ → Option TransactionId) (before xs : List Item) (i : Item) → Ready told before xs → PutFits told (before ++ xs) i → Ready told before (xs ++ i ∷ [])
ready_more told before [] i r f = (subst (λ (l : List Item). PutFits told l i) (append-nil before) f, tt)
ready_more told before (j ∷ xs) i r f = (r.0, ready_more told (before ++ j ∷ []) xs i r.1 (subst (λ (l : List Item). PutFits told l i) (sym (append_assoc before (j ∷ []) xs)) f))

fits_told : (told told2 : ℕ → Option TransactionId) (before : List Item) (i : Item) → ((x : ℕ) (t : TransactionId) → told x ≡ Some t → told2 x ≡ Some t) → PutFits told before i → PutFits told2 before i
fits_told told told2 before (items.Declare y j) h f = f
fits_told told told2 before (items.Discharge y j t rb) h f = (h y t f.0, f.1, f.2)
fits_told told told2 before (items.LinkEnd j) h f = tt
fits_told told told2 before (items.Frame frame) h f = tt

ready_told : (told told2 : ℕ → Option TransactionId) (before xs : List Item) → ((x : ℕ) (t : TransactionId) → told x ≡ Some t → told2 x ≡ Some t) → Ready told before xs → Ready told2 before xs
ready_told told told2 before [] h r = tt
ready_told told told2 before (i ∷ xs) h r = (fits_told told told2 before i h r.0, ready_told told told2 (before ++ i ∷ []) xs h r.1)

-- ---- one event

-- what a put item has to meet
abbrev pub PutOk : Exchange → Item → Type 0
PutOk w i = PutFits (λ x. id_in x w.told) (forward w) i × ((x : ℕ) → made_in (forward w) + cond (is_any_declare i) 1 0 ≤ x → is_declare x i ≡ false)

pub forward_put : (w : Exchange) (i : Item) → forward (with_put w i) ≡ forward w ++ i ∷ []
forward_put w i = sym (append_assoc (items_of w.came) w.waiting (i ∷ []))

none_more : (a b : Bool) → a ≡ false → b ≡ false → (a || (b || false)) ≡ false
none_more false false h g = refl
none_more true b h g = cc h
none_more false true h g = cc g

keeps_put : (w : Exchange) (i : Item) → Keeps w → PutOk w i → Keeps (with_put w i)
keeps_put w i k f = record {
  begins = k.begins;
  past = k.past;
  back = k.back;
  ready = ready_more (λ x. id_in x w.told) (items_of w.came) w.waiting i k.ready f.0;
  halted = λ halt h. let old = k.halted halt h in record { item = old.item; rest = old.rest ++ i ∷ []; waits = ap (λ l. l ++ i ∷ []) old.waits; cause = old.cause; within = old.within };
  numbered = λ x h.
      let made : made_in (forward (with_put w i)) ≡ made_in (forward w) + (cond (is_any_declare i) 1 0 + 0) = ap made_in (forward_put w i) ∙ sum_by-append (λ (y : Item). cond (is_any_declare y) 1 0) (forward w) (i ∷ []) ∙ ap (λ n. made_in (forward w) + n) one in
      ap (list_any (is_declare x)) (forward_put w i) ∙ list_any-append (is_declare x) (forward w) (i ∷ [])
      ∙ none_more (list_any (is_declare x) (forward w)) (is_declare x i) (k.numbered x (omega (arith, made, h))) (f.1 x (omega (arith, made, h)));
}
  where
    one : count_by is_any_declare (i ∷ []) ≡ cond (is_any_declare i) 1 0 + 0
    one = omega arith

keeps_answered : (w : Exchange) (i : Item) (rest : List Item) (drawn : DrawnIds) (reply : Reply) → w.stop ≡ None → Keeps w → w.waiting ≡ i ∷ rest → Answer (record_of w) (step_of i) drawn.ids reply → IsShort reply → Keeps (with_answer w i rest drawn reply)
keeps_answered w i rest drawn reply n k e a short =
    let r : Ready (λ x. id_in x w.told) (items_of w.came) (i ∷ rest) = subst (λ (l : List Item). Ready (λ x. id_in x w.told) (items_of w.came) l) e k.ready in
    let f = fits_now w i k r.0 in
    let en : Entry = entry_by (step_of i) drawn reply in
    let same : items_of (w.came ++ (i, en) ∷ []) ++ rest ≡ forward w = ap (λ l. l ++ rest) (items-snoc w.came i en) ∙ append_assoc (items_of w.came) (i ∷ []) rest ∙ ap (λ l. items_of w.came ++ l) (sym e) in record {
      begins = k.begins;
      past = past_next w.first w.came i drawn reply k.past a short f.0 f.1;
      back = sym (append_assoc w.told w.coming (answers i reply)) ∙ ap (λ l. l ++ answers i reply) k.back ∙ sym (back-snoc w.came i en);
      halted = λ halt h. cc (n, h);
      ready = subst (λ (l : List Item). Ready (λ x. id_in x w.told) l rest) (sym (items-snoc w.came i en)) r.1;
      numbered = λ x h. ap (list_any (is_declare x)) same ∙ k.numbered x (omega (arith, ap made_in same, h));
    }

keeps_heard : (w : Exchange) (a : Answered) (rest : List Answered) → Keeps w → w.coming ≡ a ∷ rest → Keeps (with_heard w a rest)
keeps_heard w a rest k e = record {
  begins = k.begins;
  past = k.past;
  back = append_assoc w.told (a ∷ []) rest ∙ ap (λ l. w.told ++ l) (sym e) ∙ k.back;
  ready = ready_told (λ x. id_in x w.told) (λ x. id_in x (w.told ++ a ∷ [])) (items_of w.came) w.waiting (λ x t h. found_first (id_in x w.told) (id_in x (a ∷ [])) (id_in x (w.told ++ a ∷ [])) t (id_in-append x w.told (a ∷ [])) h) k.ready;
  halted = λ halt h. let old = k.halted halt h in record { item = old.item; rest = old.rest; waits = old.waits; cause = old.cause; within = old.within };
  numbered = k.numbered;
}

-- the cut and the stop change nothing of it
keeps_cut : (w : Exchange) → Keeps w → Keeps (record w { cut = true })
keeps_cut w k = record { begins = k.begins; past = k.past; back = k.back; ready = k.ready; halted = λ halt h. let old = k.halted halt h in record { item = old.item; rest = old.rest; waits = old.waits; cause = old.cause; within = old.within }; numbered = k.numbered }

same_halt : (a b : Halt) → Some a ≡ Some b → a ≡ b
same_halt a b h = cc h

keeps_stop : (w : Exchange) (halt : Halt) (i : Item) (rest : List Item) → w.waiting ≡ i ∷ rest → MayStop w.sure (record_of w) (step_of i) halt → halt.handed ≤ length (hands (record_of w) (step_of i)) → Keeps w → Keeps (with_stop w halt)
keeps_stop w halt i rest e c n k = record {
  begins = k.begins;
  past = k.past;
  back = k.back;
  ready = k.ready;
  halted = λ other h. subst (λ (x : Halt). Halted (with_stop w halt) x) (same_halt halt other h) (record { item = i; rest = rest; waits = e; cause = c; within = n });
  numbered = k.numbered;
}

to_keep : (w w2 w3 : Exchange) → w2 ≡ w3 → Keeps w3 → Keeps w2
to_keep w w2 w3 e k = subst (λ (x : Exchange). Keeps x) (sym e) k

turn_arrive : (w w2 : Exchange) (h : Happened) (d : List TransactionId) (c : Bool) (s : Option Halt) (ws : List Item) → w.stop ≡ s → w.waiting ≡ ws → Keeps w → TurnArrive w c s ws h d w2 → Keeps w2
turn_arrive w w2 h d false None (i ∷ rest) n e k t = arrives t.1
  where
    arrives : Arrives w i rest d w2 → Keeps w2
    arrives (IsAnswered a) = to_keep w w2 (with_answer w i rest a.drawn a.reply) a.after (keeps_answered w i rest a.drawn a.reply n k e a.allowed a.short)
    arrives (IsStopped a) = to_keep w w2 (with_stop w a.halt) a.after (keeps_stop w a.halt i rest e a.cause a.within k)
turn_arrive w w2 h d false None [] n e k t = to_keep w w2 w t.2 k
turn_arrive w w2 h d false (Some halt) ws n e k t = to_keep w w2 w t.2 k
turn_arrive w w2 h d true s ws n e k t = to_keep w w2 w t.2 k

turn_return : (w w2 : Exchange) (h : Happened) (d : List TransactionId) (c : Bool) (xs : List Answered) → w.coming ≡ xs → Keeps w → TurnReturn w c xs h d w2 → Keeps w2
turn_return w w2 h d false (a ∷ rest) e k t = to_keep w w2 (with_heard w a rest) t.2 (keeps_heard w a rest k e)
turn_return w w2 h d false [] e k t = to_keep w w2 w t.2 k
turn_return w w2 h d true xs e k t = to_keep w w2 w t.2 k

turn_cut : (w w2 : Exchange) (h : Happened) (d : List TransactionId) (c : Bool) → Keeps w → TurnCut w c h d w2 → Keeps w2
turn_cut w w2 h d false k t = to_keep w w2 (record w { cut = true }) t.2 (keeps_cut w k)
turn_cut w w2 h d true k t = to_keep w w2 w t.2 k

turn_put : (w w2 : Exchange) (h : Happened) (d : List TransactionId) (o : Option Item) → ((i : Item) → o ≡ Some i → PutOk w i) → Keeps w → TurnPut w o h d w2 → Keeps w2
turn_put w w2 h d None f k t = to_keep w w2 w t.2 k
turn_put w w2 h d (Some i) f k t = to_keep w w2 (with_put w i) t.2 (keeps_put w i k (f i refl))

some_item : (b : Bool) (i j : Item) → cond b None (Some i) ≡ Some j → (b ≡ false) × (i ≡ j)
some_item true i j h = cc h
some_item false i j h = (refl, cc h)

met_item : (b : Bool) (i j : Item) → cond b (Some i) None ≡ Some j → i ≡ j
met_item true i j h = cc h
met_item false i j h = cc h

-- a discharge's item has the id that was heard and the link of its declare, and is the first to end it
discharge_ok : (w : Exchange) (x : ℕ) (rb : Bool) (i : Item) → discharge_of w x rb ≡ Some i → PutOk w i
discharge_ok w x rb i h = by_id (id_in x w.told) (controller_in x (forward w)) refl refl h
  where
    by_id : (o : Option TransactionId) (c : Option ℕ) → id_in x w.told ≡ o → controller_in x (forward w) ≡ c → if_id o (λ t. if_link c (λ k. cond (list_any (item_ends x k) (forward w)) None (Some (items.Discharge x k t rb)))) ≡ Some i → PutOk w i
    by_id None c e g h = cc h
    by_id (Some t) None e g h = cc h
    by_id (Some t) (Some k) e g h =
        let s = some_item (list_any (item_ends x k) (forward w)) (items.Discharge x k t rb) i h in
        subst (λ (j : Item). PutOk w j) s.1 ((e, g, s.0), λ y z. refl)

is_not : (x n : ℕ) → n + 1 ≤ x → (x == n) ≡ false
is_not x n h = false_from_ne_true (x == n) (λ e. omega (arith, eqb-true x n e))

frame_ok : (w : Exchange) (x : ℕ) (frame : TransactionId → Frame) (i : Item) (o : Option TransactionId) → if_id o (λ t. cond (list_any (is_discharge x) (forward w)) None (Some (items.Frame (frame t)))) ≡ Some i → PutOk w i
frame_ok w x frame i None h = cc h
frame_ok w x frame i (Some t) h =
    let s = some_item (list_any (is_discharge x) (forward w)) (items.Frame (frame t)) i h in
    subst (λ (j : Item). PutOk w j) s.1 (tt, λ y z. refl)

put_ok : (w : Exchange) (e : Event) (i : Item) → Keeps w → put_of w e ≡ Some i → PutOk w i
put_ok w (events.Declare c) i k h =
    subst (λ (j : Item). PutOk w j) (met_item (has_link w c) (items.Declare (made w) c) i h) (k.numbered (made w) (omega arith), λ y z. is_not y (made w) z)
put_ok w (events.Post x transfer outcome payload) i k h = frame_ok w x (λ t. frames.Transfer (record transfer { state = state_under t outcome }) payload) i (id_in x w.told) h
put_ok w (events.Retire x disposition outcome) i k h = frame_ok w x (λ t. frames.Disposition (record disposition { state = state_under t outcome })) i (id_in x w.told) h
put_ok w (events.Commit x) i k h = discharge_ok w x false i h
put_ok w (events.Rollback x) i k h = discharge_ok w x true i h
put_ok w (events.LinkEnd c) i k h = subst (λ (j : Item). PutOk w j) (met_item (has_link w c) (items.LinkEnd c) i h) (tt, λ y z. refl)
put_ok w (events.Plain frame) i k h = subst (λ (j : Item). PutOk w j) (met_item (is_plain_frame frame) (items.Frame frame) i h) (tt, λ y z. refl)
put_ok w events.Arrive i k h = cc h
put_ok w events.Return i k h = cc h
put_ok w events.Cut i k h = cc h

-- one event keeps it
pub keeps_turn : (w w2 : Exchange) (e : Event) (h : Happened) (d : List TransactionId) → Keeps w → Turn w e h d w2 → Keeps w2
keeps_turn w w2 events.Arrive h d k t = turn_arrive w w2 h d w.cut w.stop w.waiting refl refl k t
keeps_turn w w2 events.Return h d k t = turn_return w w2 h d w.cut w.coming refl k t
keeps_turn w w2 events.Cut h d k t = turn_cut w w2 h d w.cut k t
keeps_turn w w2 e h d k t = turn_put w w2 h d (put_of w e) (λ i g. put_ok w e i k g) k t

-- a list of events keeps it
pub keeps_follows : (w w2 : Exchange) (past : List (Event × Happened)) (d : List TransactionId) → Keeps w → Follows w past d w2 → Keeps w2
keeps_follows w w2 [] d k f = to_keep w w2 w f.1 k
keeps_follows w w2 (p ∷ past) d k f = keeps_follows f.2 w2 past f.1 (keeps_turn w f.2 p.0 p.1 f.0 k f.4) f.5
