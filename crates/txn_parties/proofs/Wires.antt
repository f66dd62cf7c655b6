-- The wires: one item more.
use Rattle.std.proofs.Common.{◌≡◌, ℕ, ◌+◌, Bool, true, false, cond, ◌||◌, Option, Some, None, List, [], ◌∷◌, ◌++◌, length, refl, sym, ◌∙◌, ap, arith, subst, append-nil, append_assoc, add-zero}
use Rattle.std.specs.Prelude.{◌==◌}
use Rattle.std.specs.List.{list_any}
use Rattle.std.proofs.lemmas.List.{map-append}
use Rattle.std.proofs.lemmas.List.Folds.{list_any-append}
use Rattle.std.proofs.lemmas.List.Concat.{flat_map-append}
use Rattle.std.proofs.lemmas.Bool.{eqb-true, false_from_ne_true}
use Rattle.amqp_txn_types.specs.declared.id.TransactionId.{TransactionId}
use Rattle.amqp_txn_types.specs.declared.performatives.Frame.{Frame}
use Rattle.amqp_txn_types.specs.Frames.{txn}
use Rattle.amqp_txn_types.specs.Ids.{is_some_id}
use Rattle.amqp_resource_record.specs.declared.entry.Entry.{Entry}
use Rattle.amqp_resource_record.specs.declared.reply.Reply.{Reply}
use Rattle.amqp_resource_record.specs.declared.reply.Reply.TheVariants as replies
use Rattle.txn_parties.specs.declared.item.Item.{Item}
use Rattle.txn_parties.specs.declared.item.Item.TheVariants as items
use Rattle.txn_parties.specs.declared.item.Asked.TheVariants as asked
use Rattle.txn_parties.specs.declared.item.Answered.{Answered}
use Rattle.txn_parties.specs.declared.event.Heard.{Heard}
use Rattle.txn_parties.specs.declared.event.Heard.TheVariants as hearings
use Rattle.txn_parties.specs.Items.{or_else, is_declare, is_discharge, item_ends, declares_on, controller_in}
use Rattle.txn_parties.specs.BackWire.{answers, id_in, verdict_in, verdict, declared_id, state_of, asked_by}
use Rattle.txn_parties.specs.Exchange.{items_of, entries_of, back_of}
use Rattle.txn_parties.specs.Spans.{within, span_from, from_link}
use Rattle.txn_parties.specs.Lives.{Life, Unborn, Runs, Took, Spent, fate_from, next_life, runs_next, unborn_next, born, ended}
use Rattle.txn_parties.specs.Invariant.{Spans, HasEnded, Marks, Agrees}

or_else-assoc : {A : Type 0} (a b c : Option A) → or_else (or_else a b) c ≡ or_else a (or_else b c)
or_else-assoc (Some v) b c = refl
or_else-assoc None b c = refl

or_else-none : {A : Type 0} (a : Option A) → or_else a None ≡ a
or_else-none (Some v) = refl
or_else-none None = refl

pub id_in-append : (x : ℕ) (xs ys : List Answered) → id_in x (xs ++ ys) ≡ or_else (id_in x xs) (id_in x ys)
id_in-append x [] ys = refl
id_in-append x (a ∷ xs) ys =
    ap (or_else (cond (x == a.txn) (declared_id a.asked a.state) None)) (id_in-append x xs ys)
    ∙ sym (or_else-assoc (cond (x == a.txn) (declared_id a.asked a.state) None) (id_in x xs) (id_in x ys))

pub verdict_in-append : (x : ℕ) (xs ys : List Answered) → verdict_in x (xs ++ ys) ≡ or_else (verdict_in x xs) (verdict_in x ys)
verdict_in-append x [] ys = refl
verdict_in-append x (a ∷ xs) ys =
    ap (or_else (cond (x == a.txn) (verdict a.asked a.state) None)) (verdict_in-append x xs ys)
    ∙ sym (or_else-assoc (cond (x == a.txn) (verdict a.asked a.state) None) (verdict_in x xs) (verdict_in x ys))

pub controller_in-append : (x : ℕ) (xs ys : List Item) → controller_in x (xs ++ ys) ≡ or_else (controller_in x xs) (controller_in x ys)
controller_in-append x [] ys = refl
controller_in-append x (i ∷ xs) ys =
    ap (or_else (declares_on x i)) (controller_in-append x xs ys)
    ∙ sym (or_else-assoc (declares_on x i) (controller_in x xs) (controller_in x ys))

-- what was found in a part is found in the whole
pub found_first : {A : Type 0} (a b c : Option A) (v : A) → c ≡ or_else a b → a ≡ Some v → c ≡ Some v
found_first a b c v h e = h ∙ ap (λ o. or_else o b) e

pub items-snoc : (came : List (Item × Entry)) (i : Item) (e : Entry) → items_of (came ++ (i, e) ∷ []) ≡ items_of came ++ i ∷ []
items-snoc came i e = map-append (λ (p : Item × Entry). p.0) came ((i, e) ∷ [])

pub entries-snoc : (came : List (Item × Entry)) (i : Item) (e : Entry) → entries_of (came ++ (i, e) ∷ []) ≡ entries_of came ++ e ∷ []
entries-snoc came i e = map-append (λ (p : Item × Entry). p.1) came ((i, e) ∷ [])

pub back-snoc : (came : List (Item × Entry)) (i : Item) (e : Entry) → back_of (came ++ (i, e) ∷ []) ≡ back_of came ++ answers i e.reply
back-snoc came i e = flat_map-append (λ (p : Item × Entry). answers p.0 p.1.reply) came ((i, e) ∷ []) ∙ ap (λ l. back_of came ++ l) (append-nil (answers i e.reply))

pub fate_from-snoc : (x n : ℕ) (life : Life) (came : List (Item × Entry)) (i : Item) (e : Entry) → fate_from x n life (came ++ (i, e) ∷ []) ≡ next_life x (n + length came) (fate_from x n life came) i e.reply
fate_from-snoc x n life [] i e = ap (λ m. next_life x m life i e.reply) (sym (add-zero n))
fate_from-snoc x n life (p ∷ came) i e =
    fate_from-snoc x (n + 1) (next_life x n life p.0 p.1.reply) came i e
    ∙ ap (λ m. next_life x m (fate_from x (n + 1) (next_life x n life p.0 p.1.reply) came) i e.reply) (omega arith)

-- ---- the span

not_declared_on : (x : ℕ) (i : Item) → is_declare x i ≡ false → declares_on x i ≡ None
not_declared_on x (items.Declare y k) h = ap (λ b. cond b (Some k) None) h
not_declared_on x _ h = refl

or_parts : (a b : Bool) → (a || b) ≡ false → (a ≡ false) × (b ≡ false)
or_parts false b h = (refl, h)
or_parts true b h = cc h

-- items without its declare are passed over
pub span_from-skip : (n x : ℕ) (t : TransactionId) (xs rest : List Item) → list_any (is_declare x) xs ≡ false → span_from n x t (xs ++ rest) ≡ span_from (n + length xs) x t rest
span_from-skip n x t [] rest h = ap (λ m. span_from m x t rest) (sym (add-zero n))
span_from-skip n x t (i ∷ xs) rest h =
    let p = or_parts (is_declare x i) (list_any (is_declare x) xs) h in
    ap (λ o. from_link o (λ k. within (n + 1) x t k (xs ++ rest)) (span_from (n + 1) x t (xs ++ rest))) (not_declared_on x i p.0)
    ∙ span_from-skip (n + 1) x t xs rest p.1
    ∙ ap (λ m. span_from m x t rest) (omega arith)

one_more : (c x : ℕ) (t : TransactionId) (list rest : List Item) (i : Item) → span_from c x t ((list ++ i ∷ []) ++ rest) ≡ span_from c x t (list ++ i ∷ rest)
one_more c x t list rest i = ap (span_from c x t) (append_assoc list (i ∷ []) rest)

spans_ended : (c x n : ℕ) (list : List Item) (b : Bool) (reply : Reply) (t : TransactionId) (s : List ℕ) → ((rest : List Item) → span_from c x t (list ++ rest) ≡ s) → Spans c x n list (ended b reply t s)
spans_ended c x n list true reply t s h = h
spans_ended c x n list false (replies.Accepted echoes) t s h = h
spans_ended c x n list false _ t s h = h

spans_declared : (c x y j : ℕ) (list : List Item) (reply : Reply) (b : Bool) → (x == y) ≡ b → list_any (is_declare y) list ≡ false → Spans c x (c + length list + 1) (list ++ items.Declare y j ∷ []) (cond b (born (c + length list) j reply) Unborn)
spans_declared c x y j list reply false e h = tt
spans_declared c x y j list (replies.Declared t) true e h = λ rest.
    let P : ℕ → Type 0 = λ z. list_any (is_declare z) list ≡ false in
    one_more c x t list rest (items.Declare y j)
    ∙ span_from-skip c x t list (items.Declare y j ∷ rest) (subst P (sym (eqb-true x y e)) h)
    ∙ ap (λ b. from_link (cond b (Some j) None) (λ k. within (c + length list + 1) x t k rest) (span_from (c + length list + 1) x t rest)) e
spans_declared c x y j list _ true e h = tt

-- what an arriving declare meets
abbrev pub FreshDeclare : List Item → Item → Type 0
FreshDeclare list (items.Declare y k) = list_any (is_declare y) list ≡ false
FreshDeclare list _ = Unit {0}

spans_runs : (c x : ℕ) (list : List Item) (i : Item) (reply : Reply) (p : ℕ) (t : TransactionId) (k : ℕ) (s : List ℕ) → Spans c x (c + length list) list (Runs p t k s) → Spans c x (c + length list + 1) (list ++ i ∷ []) (runs_next x (c + length list) i reply p t k s)
spans_runs c x list (items.Declare y j) reply p t k s h = λ rest. one_more c x t list rest (items.Declare y j) ∙ h (items.Declare y j ∷ rest)
spans_runs c x list (items.Frame frame) reply p t k s h = λ rest.
    one_more c x t list rest (items.Frame frame) ∙ h (items.Frame frame ∷ rest)
    ∙ sym (append_assoc s (cond (is_some_id t (txn frame)) ((c + length list) ∷ []) []) (within (c + length list + 1) x t k rest))
spans_runs c x list (items.LinkEnd j) reply p t k s h = by_case (j == k) refl
  where
    by_case : (b : Bool) → (j == k) ≡ b → Spans c x (c + length list + 1) (list ++ items.LinkEnd j ∷ []) (cond (j == k) (Spent t s) (Runs p t k s))
    by_case b e = subst (λ (d : Bool). Spans c x (c + length list + 1) (list ++ items.LinkEnd j ∷ []) (cond d (Spent t s) (Runs p t k s))) (sym e) (each b e)
      where
        each : (b : Bool) → (j == k) ≡ b → Spans c x (c + length list + 1) (list ++ items.LinkEnd j ∷ []) (cond b (Spent t s) (Runs p t k s))
        each true e = λ rest. one_more c x t list rest (items.LinkEnd j) ∙ h (items.LinkEnd j ∷ rest) ∙ ap (λ d. s ++ cond d [] (within (c + length list + 1) x t k rest)) e ∙ append-nil s
        each false e = λ rest. one_more c x t list rest (items.LinkEnd j) ∙ h (items.LinkEnd j ∷ rest) ∙ ap (λ d. s ++ cond d [] (within (c + length list + 1) x t k rest)) e
spans_runs c x list (items.Discharge y j u rb) reply p t k s h = by_case (x == y) refl
  where
    each : (b : Bool) → (x == y) ≡ b → Spans c x (c + length list + 1) (list ++ items.Discharge y j u rb ∷ []) (cond b (ended rb reply t s) (Runs p t k s))
    each true e = spans_ended c x (c + length list + 1) (list ++ items.Discharge y j u rb ∷ []) rb reply t s (λ rest. one_more c x t list rest (items.Discharge y j u rb) ∙ h (items.Discharge y j u rb ∷ rest) ∙ ap (λ d. s ++ cond (d || false) [] (within (c + length list + 1) x t k rest)) e ∙ append-nil s)
    each false e = λ rest. one_more c x t list rest (items.Discharge y j u rb) ∙ h (items.Discharge y j u rb ∷ rest) ∙ ap (λ d. s ++ cond (d || false) [] (within (c + length list + 1) x t k rest)) e

    by_case : (b : Bool) → (x == y) ≡ b → Spans c x (c + length list + 1) (list ++ items.Discharge y j u rb ∷ []) (cond (x == y) (ended rb reply t s) (Runs p t k s))
    by_case b e = subst (λ (d : Bool). Spans c x (c + length list + 1) (list ++ items.Discharge y j u rb ∷ []) (cond d (ended rb reply t s) (Runs p t k s))) (sym e) (each b e)

spans_unborn : (c x : ℕ) (list : List Item) (i : Item) (reply : Reply) → FreshDeclare list i → Spans c x (c + length list + 1) (list ++ i ∷ []) (unborn_next x (c + length list) i reply)
spans_unborn c x list (items.Declare y j) reply f = subst (λ (d : Bool). Spans c x (c + length list + 1) (list ++ items.Declare y j ∷ []) (cond d (born (c + length list) j reply) Unborn)) refl (spans_declared c x y j list reply (x == y) refl f)
spans_unborn c x list _ reply f = tt

-- the span, with one item more
pub spans_next : (c x : ℕ) (list : List Item) (i : Item) (reply : Reply) (life : Life) → FreshDeclare list i → Spans c x (c + length list) list life → Spans c x (c + length list + 1) (list ++ i ∷ []) (next_life x (c + length list) life i reply)
spans_next c x list i reply Unborn f h = spans_unborn c x list i reply f
spans_next c x list i reply (Runs p t k s) f h = spans_runs c x list i reply p t k s h
spans_next c x list i reply (Took t s) f h = λ rest. one_more c x t list rest i ∙ h (i ∷ rest)
spans_next c x list i reply (Spent t s) f h = λ rest. one_more c x t list rest i ∙ h (i ∷ rest)

-- ---- marks

no_controller : (x : ℕ) (list : List Item) → list_any (is_declare x) list ≡ false → controller_in x list ≡ None
no_controller x [] h = refl
no_controller x (i ∷ list) h =
    let p = or_parts (is_declare x i) (list_any (is_declare x) list) h in
    ap (λ o. or_else o (controller_in x list)) (not_declared_on x i p.0) ∙ no_controller x list p.1

any_before : (p : Item → Bool) (list : List Item) (i : Item) → list_any p list ≡ true → list_any p (list ++ i ∷ []) ≡ true
any_before p list i h = list_any-append p list (i ∷ []) ∙ ap (λ b. b || (p i || false)) h

or_right : (a b : Bool) → b ≡ true → (a || (b || false)) ≡ true
or_right true b h = refl
or_right false true h = refl
or_right false false h = cc h

any_now : (p : Item → Bool) (list : List Item) (i : Item) → p i ≡ true → list_any p (list ++ i ∷ []) ≡ true
any_now p list i h = list_any-append p list (i ∷ []) ∙ or_right (list_any p list) (p i) h

controller_stays : (x : ℕ) (list : List Item) (i : Item) (k : ℕ) → controller_in x list ≡ Some k → controller_in x (list ++ i ∷ []) ≡ Some k
controller_stays x list i k h = found_first (controller_in x list) (controller_in x (i ∷ [])) (controller_in x (list ++ i ∷ [])) k (controller_in-append x list (i ∷ [])) h

marks_ended : (x : ℕ) (list : List Item) (b : Bool) (reply : Reply) (t : TransactionId) (s : List ℕ) → HasEnded x list → Marks x list (ended b reply t s)
marks_ended x list true reply t s h = h
marks_ended x list false (replies.Accepted echoes) t s h = h
marks_ended x list false _ t s h = h

marks_declared : (c x y j : ℕ) (list : List Item) (reply : Reply) (b : Bool) → (x == y) ≡ b → list_any (is_declare y) list ≡ false → Marks x (list ++ items.Declare y j ∷ []) (cond b (born c j reply) Unborn)
marks_declared c x y j list reply false e h = tt
marks_declared c x y j list (replies.Declared t) true e h =
    let P : ℕ → Type 0 = λ z. list_any (is_declare z) list ≡ false in
    controller_in-append x list (items.Declare y j ∷ [])
    ∙ ap (λ o. or_else o (controller_in x (items.Declare y j ∷ []))) (no_controller x list (subst P (sym (eqb-true x y e)) h))
    ∙ ap (λ b. or_else (cond b (Some j) None) None) e
marks_declared c x y j list _ true e h = tt

marks_unborn : (c x : ℕ) (list : List Item) (i : Item) (reply : Reply) → FreshDeclare list i → Marks x (list ++ i ∷ []) (unborn_next x c i reply)
marks_unborn c x list (items.Declare y j) reply f = marks_declared c x y j list reply (x == y) refl f
marks_unborn c x list _ reply f = tt

marks_runs : (c x : ℕ) (list : List Item) (i : Item) (reply : Reply) (p : ℕ) (t : TransactionId) (k : ℕ) (s : List ℕ) → controller_in x list ≡ Some k → Marks x (list ++ i ∷ []) (runs_next x c i reply p t k s)
marks_runs c x list (items.Declare y j) reply p t k s h = controller_stays x list (items.Declare y j) k h
marks_runs c x list (items.Frame frame) reply p t k s h = controller_stays x list (items.Frame frame) k h
marks_runs c x list (items.LinkEnd j) reply p t k s h = subst (λ (d : Bool). Marks x (list ++ items.LinkEnd j ∷ []) (cond d (Spent t s) (Runs p t k s))) refl (each (j == k) refl)
  where
    each : (b : Bool) → (j == k) ≡ b → Marks x (list ++ items.LinkEnd j ∷ []) (cond b (Spent t s) (Runs p t k s))
    each true e = (k, controller_stays x list (items.LinkEnd j) k h, any_now (item_ends x k) list (items.LinkEnd j) e)
    each false e = controller_stays x list (items.LinkEnd j) k h
marks_runs c x list (items.Discharge y j u rb) reply p t k s h = each (x == y) refl
  where
    each : (b : Bool) → (x == y) ≡ b → Marks x (list ++ items.Discharge y j u rb ∷ []) (cond b (ended rb reply t s) (Runs p t k s))
    each true e = marks_ended x (list ++ items.Discharge y j u rb ∷ []) rb reply t s (k, controller_stays x list (items.Discharge y j u rb) k h, any_now (item_ends x k) list (items.Discharge y j u rb) (ap (λ d. d || false) e))
    each false e = controller_stays x list (items.Discharge y j u rb) k h

still_ended : (x : ℕ) (list : List Item) (i : Item) → HasEnded x list → HasEnded x (list ++ i ∷ [])
still_ended x list i h = (h.0, controller_stays x list i h.0 h.1, any_before (item_ends x h.0) list i h.2)

pub marks_next : (c x : ℕ) (list : List Item) (i : Item) (reply : Reply) (life : Life) → FreshDeclare list i → Marks x list life → Marks x (list ++ i ∷ []) (next_life x c life i reply)
marks_next c x list i reply Unborn f h = marks_unborn c x list i reply f
marks_next c x list i reply (Runs p t k s) f h = marks_runs c x list i reply p t k s h
marks_next c x list i reply (Took t s) f h = still_ended x list i h
marks_next c x list i reply (Spent t s) f h = still_ended x list i h

-- ---- what was answered

same_or : (b : Bool) (o : Option Heard) → o ≡ None → or_else (cond b o None) None ≡ None
same_or true o h = ap (λ v. or_else v None) h
same_or false o h = refl

-- no other item answers its discharge
verdict_other : (x : ℕ) (i : Item) (reply : Reply) → is_discharge x i ≡ false → verdict_in x (answers i reply) ≡ None
verdict_other x (items.Declare y j) reply h = same_or (x == y) None refl
verdict_other x (items.Discharge y j u rb) reply h = ap (λ b. or_else (cond b (verdict (asked_by rb) (state_of reply)) None) None) h
verdict_other x (items.LinkEnd j) reply h = refl
verdict_other x (items.Frame frame) reply h = refl

verdict_own : (x y j : ℕ) (u : TransactionId) (rb : Bool) (reply : Reply) → (x == y) ≡ true → verdict_in x (answers (items.Discharge y j u rb) reply) ≡ verdict (asked_by rb) (state_of reply)
verdict_own x y j u rb reply e = ap (λ b. or_else (cond b (verdict (asked_by rb) (state_of reply)) None) None) e ∙ or_else-none (verdict (asked_by rb) (state_of reply))

agrees_ended : (rb : Bool) (reply : Reply) (t : TransactionId) (s : List ℕ) (o : Option TransactionId) (v : Option Heard) → o ≡ Some t → v ≡ verdict (asked_by rb) (state_of reply) → Agrees (ended rb reply t s) o v
agrees_ended false (replies.Accepted echoes) t s o v h g = (h, g)
agrees_ended false (replies.Rejected error text) t s o v h g = (h, λ c. cc (g, c))
agrees_ended false _ t s o v h g = (h, λ c. cc (g, c))
agrees_ended true (replies.Accepted echoes) t s o v h g = (h, λ c. cc (g, c))
agrees_ended true (replies.Rejected error text) t s o v h g = (h, λ c. cc (g, c))
agrees_ended true _ t s o v h g = (h, λ c. cc (g, c))

agrees_runs : (c x : ℕ) (back : List Answered) (i : Item) (reply : Reply) (p : ℕ) (t : TransactionId) (k : ℕ) (s : List ℕ) → id_in x back ≡ Some t → verdict_in x back ≡ None → Agrees (runs_next x c i reply p t k s) (id_in x (back ++ answers i reply)) (verdict_in x (back ++ answers i reply))
agrees_runs c x back i reply p t k s h g = each i
  where
    id : (i : Item) → id_in x (back ++ answers i reply) ≡ Some t
    id i = found_first (id_in x back) (id_in x (answers i reply)) (id_in x (back ++ answers i reply)) t (id_in-append x back (answers i reply)) h

    ver : (i : Item) → verdict_in x (back ++ answers i reply) ≡ verdict_in x (answers i reply)
    ver i = verdict_in-append x back (answers i reply) ∙ ap (λ o. or_else o (verdict_in x (answers i reply))) g

    ends : (j : ℕ) (b : Bool) → Agrees (cond b (Spent t s) (Runs p t k s)) (id_in x (back ++ answers (items.LinkEnd j) reply)) (verdict_in x (back ++ answers (items.LinkEnd j) reply))
    ends j true = (id (items.LinkEnd j), λ c. let n : verdict_in x (back ++ answers (items.LinkEnd j) reply) ≡ None = ver (items.LinkEnd j) in cc (n, c))
    ends j false = (id (items.LinkEnd j), ver (items.LinkEnd j))

    own : (y j : ℕ) (u : TransactionId) (rb : Bool) (b : Bool) → (x == y) ≡ b → Agrees (cond b (ended rb reply t s) (Runs p t k s)) (id_in x (back ++ answers (items.Discharge y j u rb) reply)) (verdict_in x (back ++ answers (items.Discharge y j u rb) reply))
    own y j u rb true e = agrees_ended rb reply t s (id_in x (back ++ answers (items.Discharge y j u rb) reply)) (verdict_in x (back ++ answers (items.Discharge y j u rb) reply)) (id (items.Discharge y j u rb)) (ver (items.Discharge y j u rb) ∙ verdict_own x y j u rb reply e)
    own y j u rb false e = (id (items.Discharge y j u rb), ver (items.Discharge y j u rb) ∙ verdict_other x (items.Discharge y j u rb) reply e)

    each : (i : Item) → Agrees (runs_next x c i reply p t k s) (id_in x (back ++ answers i reply)) (verdict_in x (back ++ answers i reply))
    each (items.Declare y j) = (id (items.Declare y j), ver (items.Declare y j) ∙ verdict_other x (items.Declare y j) reply refl)
    each (items.Frame frame) = (id (items.Frame frame), ver (items.Frame frame))
    each (items.LinkEnd j) = ends j (j == k)
    each (items.Discharge y j u rb) = own y j u rb (x == y) refl

agrees_declared : (c j : ℕ) (reply : Reply) (b : Bool) → Agrees (cond b (born c j reply) Unborn) (or_else (cond b (declared_id asked.Declare (state_of reply)) None) None) None
agrees_declared c j reply false = (refl, refl)
agrees_declared c j (replies.Declared t) true = (refl, refl)
agrees_declared c j _ true = (refl, refl)

agrees_unborn : (c x : ℕ) (back : List Answered) (i : Item) (reply : Reply) → id_in x back ≡ None → verdict_in x back ≡ None → is_discharge x i ≡ false → Agrees (unborn_next x c i reply) (id_in x (back ++ answers i reply)) (verdict_in x (back ++ answers i reply))
agrees_unborn c x back i reply h g n =
    subst (λ (o : Option TransactionId). Agrees (unborn_next x c i reply) o (verdict_in x (back ++ answers i reply))) (sym id)
    (subst (λ (v : Option Heard). Agrees (unborn_next x c i reply) (id_in x (answers i reply)) v) (sym ver) (each i n))
  where
    id : id_in x (back ++ answers i reply) ≡ id_in x (answers i reply)
    id = id_in-append x back (answers i reply) ∙ ap (λ o. or_else o (id_in x (answers i reply))) h

    ver : verdict_in x (back ++ answers i reply) ≡ None
    ver = verdict_in-append x back (answers i reply) ∙ ap (λ o. or_else o (verdict_in x (answers i reply))) g ∙ verdict_other x i reply n

    each : (i : Item) → is_discharge x i ≡ false → Agrees (unborn_next x c i reply) (id_in x (answers i reply)) None
    each (items.Declare y j) n = agrees_declared c j reply (x == y)
    each (items.Discharge y j u rb) n = (ap (λ b. or_else (cond b (declared_id (asked_by rb) (state_of reply)) None) None) n, refl)
    each (items.LinkEnd j) n = (refl, refl)
    each (items.Frame frame) n = (refl, refl)

pub agrees_next : (c x : ℕ) (back : List Answered) (i : Item) (reply : Reply) (life : Life) → (is_discharge x i ≡ true → (p : ℕ) × (t : TransactionId) × (k : ℕ) × (s : List ℕ) × (life ≡ Runs p t k s)) → Agrees life (id_in x back) (verdict_in x back) → Agrees (next_life x c life i reply) (id_in x (back ++ answers i reply)) (verdict_in x (back ++ answers i reply))
agrees_next c x back i reply Unborn f a = agrees_unborn c x back i reply a.0 a.1 (false_from_ne_true (is_discharge x i) (λ h. let e = f h in let q : Unborn ≡ Runs e.0 e.1 e.2 e.3 = e.4 in cc q))
agrees_next c x back i reply (Runs p t k s) f a = agrees_runs c x back i reply p t k s a.0 a.1
agrees_next c x back i reply (Took t s) f a = (
  found_first (id_in x back) (id_in x (answers i reply)) (id_in x (back ++ answers i reply)) t (id_in-append x back (answers i reply)) a.0,
  found_first (verdict_in x back) (verdict_in x (answers i reply)) (verdict_in x (back ++ answers i reply)) hearings.Committed (verdict_in-append x back (answers i reply)) a.1,
)
agrees_next c x back i reply (Spent t s) f a = (
  found_first (id_in x back) (id_in x (answers i reply)) (id_in x (back ++ answers i reply)) t (id_in-append x back (answers i reply)) a.0,
  λ h. a.1 (sym (or_else-none (verdict_in x back)) ∙ ap (or_else (verdict_in x back)) (sym (verdict_other x i reply (false_from_ne_true (is_discharge x i) (λ g. let e = f g in let q : Spent t s ≡ Runs e.0 e.1 e.2 e.3 = e.4 in cc q)))) ∙ sym (verdict_in-append x back (answers i reply)) ∙ h),
)
