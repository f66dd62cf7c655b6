-- An item that arrives, on what is kept of the two parties.
use Rattle.std.proofs.Common.{◌≡◌, ◌+◌, ◌≤◌, Bool, true, false, Option, Some, None, List, [], ◌∷◌, ◌++◌, length, take, drop, refl, sym, ◌∙◌, ap, arith, subst}
use Rattle.std.proofs.lemmas.List.{drop-append-le, length-append, length-drop, take-append-drop, take-append-le}
use Rattle.amqp_txn_types.specs.declared.id.TransactionId.{TransactionId}
use Rattle.amqp_below_ids.specs.Drawn.{DrawnIds}
use Rattle.amqp_resource_record.specs.declared.entry.Entry.{Entry}
use Rattle.amqp_resource_record.specs.declared.reply.Reply.{Reply}
use Rattle.amqp_resource_record.specs.declared.step.Step.{Step}
use Rattle.amqp_resource_record.specs.declared.step.Step.TheVariants as steps
use Rattle.amqp_resource_record.specs.Answers.{Answer}
use Rattle.amqp_resource_record.specs.Hands.{hands}
use Rattle.txn_parties.specs.declared.event.Event.TheVariants as events
use Rattle.txn_parties.specs.declared.event.Happened.TheVariants as happenings
use Rattle.txn_parties.specs.declared.item.Item.{Item}
use Rattle.txn_parties.specs.declared.item.Answered.{Answered}
use Rattle.txn_parties.specs.declared.item.Halt.{Halt}
use Rattle.txn_parties.specs.Items.{step_of}
use Rattle.txn_parties.specs.BackWire.{answers}
use Rattle.txn_parties.specs.Exchange.{Exchange, entries_of, record_of}
use Rattle.txn_parties.specs.Turns.{Arrives, IsAnswered, IsShort, IsStopped, MayStop, TurnArrive, entry_by, with_answer}
use Rattle.txn_parties.proofs.Turning.{keeps_turn}
use Rattle.txn_world_wires.specs.declared.parties.Parties.{Parties}
use Rattle.txn_world_wires.specs.declared.tag.Tag.{Tag}
use Rattle.txn_world_wires.specs.declared.tag.Tag.TheVariants as tags
use Rattle.txn_world_wires.specs.Tags.{answers_by, came_of, item_of}
use Rattle.txn_world_wires.specs.Moves.{Moves}
use Rattle.txn_world_wires.specs.Parties.{Sound, exchange_of}
use Rattle.txn_world_wires.specs.Table.{Tabled}
use Rattle.txn_world_wires.proofs.Tables.{tabled_answered, tabled_same}

pub came_of-push : (ts : List Tag) (list : List Entry) (tag : Tag) (e : Entry) → length ts ≡ length list → came_of (ts ++ tag ∷ []) (list ++ e ∷ []) ≡ came_of ts list ++ (item_of tag e.step, e) ∷ []
came_of-push [] [] tag e l = refl
came_of-push [] (x ∷ list) tag e l = absurd (omega arith)
came_of-push (t ∷ more) [] tag e l = absurd (omega arith)
came_of-push (t ∷ more) (x ∷ list) tag e l = ap (λ (c : List (Item × Entry)). (item_of t x.step, x) ∷ c) (came_of-push more list tag e (omega arith))

pub entries_came : (ts : List Tag) (list : List Entry) → length ts ≡ length list → entries_of (came_of ts list) ≡ list
entries_came [] [] l = refl
entries_came [] (x ∷ list) l = absurd (omega arith)
entries_came (t ∷ more) [] l = absurd (omega arith)
entries_came (t ∷ more) (x ∷ list) l = ap (λ (c : List Entry). x ∷ c) (entries_came more list (omega arith))

tag_count : (p : Parties) → length p.entries ≡ p.attached + length p.tags → length p.tags ≡ length (drop p.attached p.entries)
tag_count p l = let d = length-drop p.attached p.entries in omega (arith, d, l)

-- the record is what is kept of it
pub record_is : (sure : Bool) (p : Parties) → length p.entries ≡ p.attached + length p.tags → record_of (exchange_of sure p) ≡ p.entries
record_is sure p l = ap (λ (r : List Entry). take p.attached p.entries ++ r) (entries_came p.tags (drop p.attached p.entries) (tag_count p l)) ∙ take-append-drop p.attached p.entries

pub answers_tag : (tag : Tag) (s : Step) (reply : Reply) → answers (item_of tag s) reply ≡ answers_by tag reply
answers_tag (tags.Declare x k) s reply = refl
answers_tag (tags.Discharge x k t rb) s reply = refl
answers_tag (tags.LinkEnd k) s reply = refl
answers_tag tags.Frame (steps.Frame frame) reply = refl
answers_tag tags.Frame (steps.Control k payload) reply = refl
answers_tag tags.Frame (steps.LinkEnd k) reply = refl
answers_tag tags.Frame (steps.LocalEnd e) reply = refl
answers_tag tags.Frame (steps.RemoteEnd e) reply = refl
answers_tag tags.Frame (steps.ConnectionStop e) reply = refl

same_parts : (w : Exchange) (first : List Entry) (came : List (Item × Entry)) (rest : List Item) (told coming : List Answered) (came2 : List (Item × Entry)) (coming2 : List Answered) → first ≡ w.first → came ≡ came2 → told ≡ w.told → coming ≡ coming2 → ◌≡◌ {A = Exchange} (record w { first = first; came = came; waiting = rest; told = told; coming = coming }) (record w { came = came2; waiting = rest; coming = coming2 })
same_parts w first came rest told coming came2 coming2 a b c d =
    ap (λ (x : List Entry). record w { first = x; came = came; waiting = rest; told = told; coming = coming }) a
    ∙ ap (λ (x : List (Item × Entry)). record w { came = x; waiting = rest; told = told; coming = coming }) b
    ∙ ap (λ (x : List Answered). record w { came = came2; waiting = rest; told = x; coming = coming }) c
    ∙ ap (λ (x : List Answered). record w { came = came2; waiting = rest; coming = x }) d

-- the parties after an item was answered
abbrev pub recorded : Parties → Item → List Item → Tag → DrawnIds → Reply → Parties
recorded p item rest tag drawn reply = record p {
  entries = p.entries ++ entry_by (step_of item) drawn reply ∷ [];
  tags = p.tags ++ tag ∷ [];
  waiting = rest;
  answers = p.answers ++ answers item reply;
}

pub is_answered : (sure : Bool) (p : Parties) (item : Item) (rest : List Item) (tag : Tag) (drawn : DrawnIds) (reply : Reply) → Sound sure p → item_of tag (step_of item) ≡ item → exchange_of sure (recorded p item rest tag drawn reply) ≡ with_answer (exchange_of sure p) item rest drawn reply
is_answered sure p item rest tag drawn reply s is =
    let e = entry_by (step_of item) drawn reply in
    let counted = s.counted in
    let returned = s.returned in
    let within : p.attached ≤ length p.entries = omega (arith, counted) in
    let dropped : drop p.attached (p.entries ++ e ∷ []) ≡ drop p.attached p.entries ++ e ∷ [] = drop-append-le p.attached p.entries (e ∷ []) within in
    let came : came_of (p.tags ++ tag ∷ []) (drop p.attached (p.entries ++ e ∷ [])) ≡ came_of p.tags (drop p.attached p.entries) ++ (item, e) ∷ [] =
    ap (came_of (p.tags ++ tag ∷ [])) dropped ∙ came_of-push p.tags (drop p.attached p.entries) tag e (tag_count p counted)
    ∙ ap (λ (i : Item). came_of p.tags (drop p.attached p.entries) ++ (i, e) ∷ []) is in
    same_parts (exchange_of sure p) (take p.attached (p.entries ++ e ∷ [])) (came_of (p.tags ++ tag ∷ []) (drop p.attached (p.entries ++ e ∷ []))) rest (take p.returned (p.answers ++ answers item reply)) (drop p.returned (p.answers ++ answers item reply)) (came_of p.tags (drop p.attached p.entries) ++ (item, e) ∷ []) (drop p.returned p.answers ++ answers item reply)
    (take-append-le p.attached p.entries (e ∷ []) within) came (take-append-le p.returned p.answers (answers item reply) returned) (drop-append-le p.returned p.answers (answers item reply) returned)

pub turn_arrive : (w new : Exchange) (item : Item) (rest : List Item) (d : List TransactionId) → w.cut ≡ false → w.stop ≡ None → w.waiting ≡ item ∷ rest → Arrives w item rest d new → TurnArrive w w.cut w.stop w.waiting happenings.Arrived d new
turn_arrive w new item rest d c n e a =
    subst (λ (b : Bool). TurnArrive w b w.stop w.waiting happenings.Arrived d new) (sym c)
    (subst (λ (o : Option Halt). TurnArrive w false o w.waiting happenings.Arrived d new) (sym n)
    (subst (λ (l : List Item). TurnArrive w false None l happenings.Arrived d new) (sym e) (refl, a)))

-- an item that is answered: it is a turn, and keeps what is so
pub record Answering (sure : Bool) (p new : Parties) (item : Item) (rest : List Item) (drawn : DrawnIds) (reply : Reply) : Type 0 where
  pub is : exchange_of sure new ≡ with_answer (exchange_of sure p) item rest drawn reply
  pub turn : TurnArrive (exchange_of sure p) p.cut p.stop p.waiting happenings.Arrived drawn.ids (exchange_of sure new)
  pub sound : Sound sure new

pub answering : (sure : Bool) (p : Parties) (item : Item) (rest : List Item) (tag : Tag) (drawn : DrawnIds) (reply : Reply) → Sound sure p → p.cut ≡ false → p.stop ≡ None → p.waiting ≡ item ∷ rest → item_of tag (step_of item) ≡ item → IsShort reply → Answer p.entries (step_of item) drawn.ids reply → Answering sure p (recorded p item rest tag drawn reply) item rest drawn reply
answering sure p item rest tag drawn reply s c n e is short a =
    let w = exchange_of sure p in
    let new = exchange_of sure (recorded p item rest tag drawn reply) in
    let after : new ≡ with_answer w item rest drawn reply = is_answered sure p item rest tag drawn reply s is in
    let allowed : Answer (record_of w) (step_of item) drawn.ids reply = subst (λ (r : List Entry). Answer r (step_of item) drawn.ids reply) (sym (record_is sure p s.counted)) a in
    let turn = turn_arrive w new item rest drawn.ids c n e (IsAnswered (record { drawn = drawn; reply = reply; ids = refl; allowed = allowed; short = short; after = after })) in
    record {
      is = after;
      turn = turn;
      sound = record {
        keeps = keeps_turn w new events.Arrive happenings.Arrived drawn.ids s.keeps turn;
        counted = let l = s.counted in let f = length-append p.entries (entry_by (step_of item) drawn reply ∷ []) in let g = length-append p.tags (tag ∷ []) in omega (arith, l, f, g);
        returned = let l = s.returned in let f = length-append p.answers (answers item reply) in omega (arith, l, f);
        table = subst (Tabled p.controllers) (sym after) (tabled_answered p.controllers w item rest drawn reply s.table e);
      };
    }

-- ---- an item that stops the session

-- the parties after it
abbrev pub halted : Parties → Halt → Parties
halted p halt = record p { stop = Some halt }

pub record Halting (sure : Bool) (p : Parties) (halt : Halt) : Type 0 where
  pub turn : TurnArrive (exchange_of sure p) p.cut p.stop p.waiting happenings.Arrived [] (exchange_of sure (halted p halt))
  pub sound : Sound sure (halted p halt)

pub halting : (sure : Bool) (p : Parties) (item : Item) (rest : List Item) (halt : Halt) → Sound sure p → p.cut ≡ false → p.stop ≡ None → p.waiting ≡ item ∷ rest → MayStop sure p.entries (step_of item) halt → halt.handed ≤ length (hands p.entries (step_of item)) → Halting sure p halt
halting sure p item rest halt s c n e cause within =
    let w = exchange_of sure p in
    let new = exchange_of sure (halted p halt) in
    let r = sym (record_is sure p s.counted) in
    let turn = turn_arrive w new item rest [] c n e (IsStopped (record {
      halt = halt;
      none = refl;
      cause = subst (λ (x : List Entry). MayStop sure x (step_of item) halt) r cause;
      within = subst (λ (x : List Entry). halt.handed ≤ length (hands x (step_of item))) r within;
      after = refl;
    })) in
    record {
      turn = turn;
      sound = record {
        keeps = keeps_turn w new events.Arrive happenings.Arrived [] s.keeps turn;
        counted = s.counted;
        returned = s.returned;
        table = tabled_same p.controllers w new s.table refl refl refl refl refl;
      };
    }

-- ---- nothing arrives

skipped_cut : (w : Exchange) (s : Option Halt) (l : List Item) → TurnArrive w true s l happenings.Skipped [] w
skipped_cut w s l = (refl, refl, refl)

skipped_stop : (w : Exchange) (b : Bool) (halt : Halt) (l : List Item) → TurnArrive w b (Some halt) l happenings.Skipped [] w
skipped_stop w true halt l = (refl, refl, refl)
skipped_stop w false halt l = (refl, refl, refl)

skipped_none : (w : Exchange) (b : Bool) (s : Option Halt) → TurnArrive w b s [] happenings.Skipped [] w
skipped_none w true s = (refl, refl, refl)
skipped_none w false (Some halt) = (refl, refl, refl)
skipped_none w false None = (refl, refl, refl)

arrive_skipped : (sure : Bool) (p : Parties) → Sound sure p → TurnArrive (exchange_of sure p) p.cut p.stop p.waiting happenings.Skipped [] (exchange_of sure p) → Moves sure p events.Arrive happenings.Skipped p
arrive_skipped sure p s t = record {
  turn = t;
  sound = s;
  entries = refl;
  attached = refl;
  tags = refl;
  stop = refl;
}

pub arrive_skips_cut : (sure : Bool) (p : Parties) → Sound sure p → p.cut ≡ true → Moves sure p events.Arrive happenings.Skipped p
arrive_skips_cut sure p s e = arrive_skipped sure p s (subst (λ (b : Bool). TurnArrive (exchange_of sure p) b p.stop p.waiting happenings.Skipped [] (exchange_of sure p)) (sym e) (skipped_cut (exchange_of sure p) p.stop p.waiting))

pub arrive_skips_stop : (sure : Bool) (p : Parties) (halt : Halt) → Sound sure p → p.stop ≡ Some halt → Moves sure p events.Arrive happenings.Skipped p
arrive_skips_stop sure p halt s e = arrive_skipped sure p s (subst (λ (o : Option Halt). TurnArrive (exchange_of sure p) p.cut o p.waiting happenings.Skipped [] (exchange_of sure p)) (sym e) (skipped_stop (exchange_of sure p) p.cut halt p.waiting))

pub arrive_skips_none : (sure : Bool) (p : Parties) → Sound sure p → p.waiting ≡ [] → Moves sure p events.Arrive happenings.Skipped p
arrive_skips_none sure p s e = arrive_skipped sure p s (subst (λ (l : List Item). TurnArrive (exchange_of sure p) p.cut p.stop l happenings.Skipped [] (exchange_of sure p)) (sym e) (skipped_none (exchange_of sure p) p.cut p.stop))
