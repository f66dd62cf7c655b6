-- What one event does to the record, the stop and the number of transactions.
use Rattle.std.proofs.Common.{◌≡◌, ◌+◌, ◌≤◌, Bool, true, false, cond, Option, Some, None, List, [], ◌∷◌, ◌++◌, refl, sym, ◌∙◌, ap, arith, zero-add}
use Rattle.std.proofs.lemmas.List.Sums.{sum_by-append}
use Rattle.amqp_txn_types.specs.declared.id.TransactionId.{TransactionId}
use Rattle.amqp_resource_record.specs.declared.entry.Entry.{Entry}
use Rattle.txn_parties.specs.declared.event.Event.{Event}
use Rattle.txn_parties.specs.declared.event.Event.TheVariants as events
use Rattle.txn_parties.specs.declared.event.Happened.{Happened}
use Rattle.txn_parties.specs.declared.event.Happened.TheVariants as happenings
use Rattle.txn_parties.specs.declared.item.Answered.{Answered}
use Rattle.txn_parties.specs.declared.item.Halt.{Halt}
use Rattle.txn_parties.specs.declared.item.Item.{Item}
use Rattle.txn_parties.specs.Items.{is_any_declare, made_in, step_of}
use Rattle.txn_parties.specs.Exchange.{Exchange, forward, items_of, made, record_of}
use Rattle.txn_parties.specs.Turns.{Arrives, IsAnswered, IsStopped, Turn, TurnArrive, TurnCut, TurnPut, TurnReturn, entry_by, put_of, with_answer, with_heard, with_put}
use Rattle.txn_parties.proofs.Turning.{forward_put, record_more}
use Rattle.txn_parties.proofs.Wires.{items-snoc}

-- the first item that waits goes on waiting
abbrev pub SameFirst : Exchange → Exchange → Type 0
SameFirst w new = (item : Item) (rest : List Item) → w.waiting ≡ item ∷ rest → (more : List Item) × (new.waiting ≡ item ∷ more)

-- what one event does: nothing arrived; the session stopped at the first item; or that was answered
pub data OneTurn (w new : Exchange) (h : Happened) : Type 0 where
  Rests : (h ≡ happenings.Arrived → ⊥) → new.stop ≡ w.stop → new.first ≡ w.first → new.came ≡ w.came → SameFirst w new → made new ≤ made w + 1 → OneTurn w new h
  Stops : (halt : Halt) → (item : Item) → (rest : List Item) → w.stop ≡ None → w.waiting ≡ item ∷ rest → new.stop ≡ Some halt → new.first ≡ w.first → new.came ≡ w.came → new.waiting ≡ w.waiting → made new ≡ made w → OneTurn w new h
  Comes : (item : Item) → (entry : Entry) → w.stop ≡ None → new.stop ≡ None → new.first ≡ w.first → new.came ≡ w.came ++ (item, entry) ∷ [] → record_of new ≡ record_of w ++ entry ∷ [] → made new ≡ made w → OneTurn w new h

rests : (w new v : Exchange) (h : Happened) → (h ≡ happenings.Arrived → ⊥) → new ≡ v → v.stop ≡ w.stop → v.first ≡ w.first → v.came ≡ w.came → SameFirst w v → made v ≤ made w + 1 → OneTurn w new h
rests w new v h none e stop first came same few =
    let is : made new ≡ made v = ap made e in
    Rests none (ap (λ (x : Exchange). x.stop) e ∙ stop) (ap (λ (x : Exchange). x.first) e ∙ first) (ap (λ (x : Exchange). x.came) e ∙ came)
    (λ item rest waits. let m = same item rest waits in (m.0, ap (λ (x : Exchange). x.waiting) e ∙ m.1))
    (omega (arith, is, few))

same_waiting : (w v : Exchange) → v.waiting ≡ w.waiting → SameFirst w v
same_waiting w v e = λ item rest waits. (rest, e ∙ waits)

skipped : (w new : Exchange) (h : Happened) → h ≡ happenings.Skipped → new ≡ w → OneTurn w new h
skipped w new h s e = rests w new w h (λ a. cc (s, a)) e refl refl refl (same_waiting w w refl) (omega arith)

at_most_one : (b : Bool) → cond b 1 0 ≤ 1
at_most_one true = omega arith
at_most_one false = omega arith

made-snoc : (xs : List Item) (i : Item) → made_in (xs ++ i ∷ []) ≡ made_in xs + cond (is_any_declare i) 1 0
made-snoc xs i = sum_by-append (λ y. cond (is_any_declare y) 1 0) xs (i ∷ []) ∙ ap (λ n. made_in xs + n) (zero-add (cond (is_any_declare i) 1 0))

put_turn : (w new : Exchange) (h : Happened) (i : Item) → h ≡ happenings.Put → new ≡ with_put w i → OneTurn w new h
put_turn w new h i p e =
    let more : made (with_put w i) ≡ made w + cond (is_any_declare i) 1 0 = ap made_in (forward_put w i) ∙ made-snoc (forward w) i in
    let one = at_most_one (is_any_declare i) in
    rests w new (with_put w i) h (λ a. cc (p, a)) e refl refl refl
    (λ item rest waits. (rest ++ i ∷ [], ap (λ (l : List Item). l ++ i ∷ []) waits))
    (omega (arith, more, one))

answer_turn : (w new : Exchange) (h : Happened) (i : Item) (rest : List Item) (d : List TransactionId) → w.waiting ≡ i ∷ rest → w.stop ≡ None → Arrives w i rest d new → OneTurn w new h
answer_turn w new h i rest d e n (IsAnswered a) =
    let entry : Entry = entry_by (step_of i) a.drawn a.reply in
    let forward_stays : forward (with_answer w i rest a.drawn a.reply) ≡ forward w = ap (λ l. l ++ rest) (items-snoc w.came i entry) ∙ regroup (items_of w.came) i rest ∙ ap (λ l. items_of w.came ++ l) (sym e) in
    Comes i entry n (ap (λ (x : Exchange). x.stop) a.after ∙ n) (ap (λ (x : Exchange). x.first) a.after) (ap (λ (x : Exchange). x.came) a.after)
    (ap record_of a.after ∙ record_more w.first w.came i entry) (ap made a.after ∙ ap made_in forward_stays)
  where
    regroup : (xs : List Item) (y : Item) (ys : List Item) → (xs ++ y ∷ []) ++ ys ≡ xs ++ y ∷ ys
    regroup [] y ys = refl
    regroup (x ∷ xs) y ys = ap (λ (l : List Item). x ∷ l) (regroup xs y ys)
answer_turn w new h i rest d e n (IsStopped a) =
    Stops a.halt i rest n e (ap (λ (x : Exchange). x.stop) a.after) (ap (λ (x : Exchange). x.first) a.after) (ap (λ (x : Exchange). x.came) a.after)
    (ap (λ (x : Exchange). x.waiting) a.after) (ap made a.after)

turn_arrive : (w new : Exchange) (h : Happened) (d : List TransactionId) (c : Bool) (s : Option Halt) (ws : List Item) → w.stop ≡ s → w.waiting ≡ ws → TurnArrive w c s ws h d new → OneTurn w new h
turn_arrive w new h d false None (i ∷ rest) n e t = answer_turn w new h i rest d e n t.1
turn_arrive w new h d false None [] n e t = skipped w new h t.0 t.2
turn_arrive w new h d false (Some halt) ws n e t = skipped w new h t.0 t.2
turn_arrive w new h d true s ws n e t = skipped w new h t.0 t.2

turn_return : (w new : Exchange) (h : Happened) (d : List TransactionId) (c : Bool) (xs : List Answered) → TurnReturn w c xs h d new → OneTurn w new h
turn_return w new h d false (a ∷ rest) t = rests w new (with_heard w a rest) h (λ x. let s = t.0 in cc (s, x)) t.2 refl refl refl (same_waiting w (with_heard w a rest) refl) (omega arith)
turn_return w new h d false [] t = skipped w new h t.0 t.2
turn_return w new h d true xs t = skipped w new h t.0 t.2

turn_cut : (w new : Exchange) (h : Happened) (d : List TransactionId) (c : Bool) → TurnCut w c h d new → OneTurn w new h
turn_cut w new h d false t = let v : Exchange = record w { cut = true } in rests w new v h (λ x. let s = t.0 in cc (s, x)) t.2 refl refl refl (same_waiting w v refl) (omega arith)
turn_cut w new h d true t = skipped w new h t.0 t.2

turn_put : (w new : Exchange) (h : Happened) (d : List TransactionId) (o : Option Item) → TurnPut w o h d new → OneTurn w new h
turn_put w new h d None t = skipped w new h t.0 t.2
turn_put w new h d (Some i) t = put_turn w new h i t.0 t.2

pub one_turn : (w new : Exchange) (e : Event) (h : Happened) (d : List TransactionId) → Turn w e h d new → OneTurn w new h
one_turn w new events.Arrive h d t = turn_arrive w new h d w.cut w.stop w.waiting refl refl t
one_turn w new events.Return h d t = turn_return w new h d w.cut w.coming t
one_turn w new events.Cut h d t = turn_cut w new h d w.cut t
one_turn w new e h d t = turn_put w new h d (put_of w e) t
