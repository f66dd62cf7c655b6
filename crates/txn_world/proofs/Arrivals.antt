-- An arrival, by what the step of the first item answered.
use Rattle.std.proofs.Common.{◌≡◌, ℕ, Bool, true, false, not, ◌&&◌, Option, Some, None, Result, Ok, Err, List, [], ◌∷◌, ◌++◌, length, drop, refl, sym, ◌∙◌, ap, arith, subst, inl, inr}
use Rattle.std.specs.Prelude.{option_to_list}
use Rattle.amqp_txn_types.specs.declared.id.TransactionId.{TransactionId}
use Rattle.amqp_txn_types.specs.declared.items.NoMemory.{NoMemory}
use Rattle.amqp_txn_types.specs.declared.performatives.Disposition.{Disposition}
use Rattle.amqp_txn_types.specs.declared.performatives.Frame.{Frame}
use Rattle.amqp_below_layer.specs.Told.{Told}
use Rattle.amqp_below_layer.specs.declared.inner_error.SessionInnerError.{SessionInnerError}
use Rattle.amqp_below_layer.specs.declared.verdict.Verdict.{Verdict}
use Rattle.amqp_resource_record.specs.Stops.{fault_code}
use Rattle.amqp_below_ids.specs.Drawn.{DrawnIds}
use Rattle.amqp_resource_record.specs.declared.entry.Entry.{Entry}
use Rattle.amqp_resource_record.specs.declared.reply.Reply.{Reply}
use Rattle.amqp_resource_record.specs.declared.step.Step.{Step}
use Rattle.amqp_resource_record.specs.declared.stop.StepError.{StepError}
use Rattle.amqp_resource_record.specs.declared.stop.StepError.TheVariants as errors
use Rattle.amqp_resource_session.specs.declared.session.TxnSession.{TxnSession}
use Rattle.amqp_resource_session.specs.Session.{StandsFor, below_of, stop_of}
use Rattle.amqp_resource_session.specs.Steps.{ended_by}
use Rattle.amqp_resource_session.specs.StepClauses.{StepSays}
use Rattle.txn_parties.specs.declared.event.Event.{Event}
use Rattle.txn_parties.specs.declared.event.Event.TheVariants as events
use Rattle.txn_parties.specs.declared.event.Happened.{Happened}
use Rattle.txn_parties.specs.declared.event.Happened.TheVariants as happenings
use Rattle.txn_parties.specs.declared.item.Halt.{Halt}
use Rattle.txn_parties.specs.declared.item.Item.{Item}
use Rattle.txn_parties.specs.declared.item.Item.TheVariants as items
use Rattle.txn_parties.specs.declared.item.Answered.{Answered}
use Rattle.txn_parties.specs.Items.{step_of}
use Rattle.txn_parties.specs.BackWire.{answers}
use Rattle.txn_parties.specs.Exchange.{Exchange}
use Rattle.txn_parties.specs.Turns.{IsShort, Turn, TurnCut, TurnPut, TurnReturn, entry_by, put_of}
use Rattle.txn_world_wires.specs.declared.parties.Parties.{Parties}
use Rattle.txn_world_wires.specs.Parties.{Sound, exchange_of}
use Rattle.txn_world_wires.proofs.Recording.{arrive_skips_cut, arrive_skips_none, answers_tag, arrive_skips_stop, halted, recorded}
use Rattle.txn_world_wires.specs.declared.tag.Tag.{Tag}
use Rattle.txn_world_wires.specs.Moves.{Moves, MovesParties}
use Rattle.txn_world_wires.specs.Tags.{answers_by, item_of}
use Rattle.txn_world.specs.Happening.{EventSays, TwoParties}
use Rattle.txn_world.specs.Arriving.{StepsFirst, StopsAt, halt_of, has_items, may_arrive, runs_on}
use Rattle.txn_world.specs.Serving.{Serves}
use Rattle.txn_world.proofs.Saying.{Serving, answered_says, quiet_says, stopped_says, unchanged_says}

-- what was said of the step of the first item
abbrev pub Stepping : {S G : Type 0} → (S → Told) → Bool → (S → S → List Frame → Result Verdict NoMemory → Type 0) → (S → S → Disposition → Result Unit SessionInnerError → Type 0) → (G → ℕ → TransactionId) → (G → Option (ℕ → TransactionId)) → TxnSession S → TxnSession S → G → G → Parties → Parties → Result Unit StepError → Type 0
Stepping told sure reviews checks next starts session new ids later p q result =
    StepsFirst (λ step answer. StepSays told sure reviews checks next starts session new ids later step answer) ((new ≡ session) × (later ≡ ids)) p q result

-- no item is an end
never_ends : (item : Item) → ended_by (step_of item) ≡ None
never_ends (items.Declare x k) = refl
never_ends (items.Discharge x k id rollback) = refl
never_ends (items.LinkEnd k) = refl
never_ends (items.Frame frame) = refl

none_some : {A : Type 0} (o : Option A) (a : A) → o ≡ None → o ≡ Some a → ⊥
none_some o a e f = cc (e, f)

pub arrive_answered : {S G : Type 0} (told : S → Told) (sure : Bool) (reviews : S → S → List Frame → Result Verdict NoMemory → Type 0) (checks : S → S → Disposition → Result Unit SessionInnerError → Type 0) (next : G → ℕ → TransactionId) (starts : G → Option (ℕ → TransactionId)) (session new : TxnSession S) (ids later : G) (p q : Parties) (done : Unit {0}) → Sound sure p → Serves session p → p.cut ≡ false → p.stop ≡ None → Stepping told sure reviews checks next starts session new ids later p q (Ok done) → Serving told next starts sure session new ids later p q events.Arrive (Ok happenings.Arrived)
arrive_answered told sure reviews checks next starts session new ids later p q done s v c n x =
    let r = x.3 in
    subst (λ (y : Parties). Serving told next starts sure session new ids later p y events.Arrive (Ok happenings.Arrived)) (sym r.after)
    (answered_says told sure reviews checks next starts session new ids later p x.0 r.rest r.tag x.1 x.2 s v c n r.waits r.is r.short x.4)

-- memory ran out at the step
failed : {S G : Type 0} (told : S → Told) (sure : Bool) (reviews : S → S → List Frame → Result Verdict NoMemory → Type 0) (checks : S → S → Disposition → Result Unit SessionInnerError → Type 0) (next : G → ℕ → TransactionId) (starts : G → Option (ℕ → TransactionId)) (session new : TxnSession S) (ids later : G) (p : Parties) (item : Item) → Sound sure p → Serves session p → StepSays told sure reviews checks next starts session new ids later (step_of item) (Err errors.NoMemory) → Serving told next starts sure session new ids later p p events.Arrive (Err (record {}))
failed {S} {G} told sure reviews checks next starts session new ids later p item s v said =
    let same = said.same in
    subst (λ (i : G). Serving told next starts sure session new ids i p p events.Arrive (Err (record {}))) (sym said.source)
    (unchanged_says told next starts sure session new ids p events.Arrive s v same.below same.stop (λ n. (said.by_record (v.runs n) p.entries (v.stands n)).memory.0))

-- there was no room
roomless : {S G : Type 0} (told : S → Told) (sure : Bool) (next : G → ℕ → TransactionId) (starts : G → Option (ℕ → TransactionId)) (session new : TxnSession S) (ids later : G) (p : Parties) → Sound sure p → Serves session p → new ≡ session → later ≡ ids → Serving told next starts sure session new ids later p p events.Arrive (Err (record {}))
roomless {S} {G} told sure next starts session new ids later p s v a b =
    subst (λ (i : G). Serving told next starts sure session new ids i p p events.Arrive (Err (record {}))) (sym b)
    (unchanged_says told next starts sure session new ids p events.Arrive s v (ap below_of a) (ap stop_of a) (λ n. subst (λ (x : TxnSession S). StandsFor x p.entries) (sym a) (v.stands n)))

pub arrive_failed : {S G : Type 0} (told : S → Told) (sure : Bool) (reviews : S → S → List Frame → Result Verdict NoMemory → Type 0) (checks : S → S → Disposition → Result Unit SessionInnerError → Type 0) (next : G → ℕ → TransactionId) (starts : G → Option (ℕ → TransactionId)) (session new : TxnSession S) (ids later : G) (p q : Parties) (error : StepError) → Sound sure p → Serves session p → p.stop ≡ None → Stepping told sure reviews checks next starts session new ids later p q (Err error) → halt_of error ≡ None → Serving told next starts sure session new ids later p q events.Arrive (Err (record {}))
arrive_failed told sure reviews checks next starts session new ids later p q (errors.Fault e handed) s v n x h = cc h
arrive_failed told sure reviews checks next starts session new ids later p q (errors.Ended reason) s v n (inl x) h = absurd (none_some (ended_by (step_of x.0)) reason (never_ends x.0) x.4.ended_only)
arrive_failed told sure reviews checks next starts session new ids later p q (errors.Ended reason) s v n (inr y) h = let z = y.0 in cc z
arrive_failed told sure reviews checks next starts session new ids later p q (errors.Stopped code) s v n (inl x) h = absurd (x.4.runs (v.runs n))
arrive_failed told sure reviews checks next starts session new ids later p q (errors.Stopped code) s v n (inr y) h = let z = y.0 in cc z
arrive_failed told sure reviews checks next starts session new ids later p q errors.NoMemory s v n (inl x) h =
    subst (λ (y : Parties). Serving told next starts sure session new ids later p y events.Arrive (Err (record {}))) (sym x.3)
    (failed told sure reviews checks next starts session new ids later p x.0 s v x.4)
arrive_failed told sure reviews checks next starts session new ids later p q errors.NoMemory s v n (inr y) h =
    subst (λ (z : Parties). Serving told next starts sure session new ids later p z events.Arrive (Err (record {}))) (sym y.1)
    (roomless told sure next starts session new ids later p s v y.2.0 y.2.1)

pub arrive_stopped : {S G : Type 0} (told : S → Told) (sure : Bool) (reviews : S → S → List Frame → Result Verdict NoMemory → Type 0) (checks : S → S → Disposition → Result Unit SessionInnerError → Type 0) (next : G → ℕ → TransactionId) (starts : G → Option (ℕ → TransactionId)) (session new : TxnSession S) (ids later : G) (p q : Parties) (error : StepError) (halt : Halt) → Sound sure p → Serves session p → p.cut ≡ false → p.stop ≡ None → Stepping told sure reviews checks next starts session new ids later p q (Err error) → halt_of error ≡ Some halt → Serving told next starts sure session new ids later p (halted q halt) events.Arrive (Ok happenings.Arrived)
arrive_stopped told sure reviews checks next starts session new ids later p q (errors.Fault e handed) halt s v c n (inl x) h =
    let is : ◌≡◌ {A = Halt} (record { code = fault_code e; handed = handed }) halt = cc h in
    subst (λ (y : Parties). Serving told next starts sure session new ids later p (halted y halt) events.Arrive (Ok happenings.Arrived)) (sym x.3)
    (subst (λ (y : Halt). Serving told next starts sure session new ids later p (halted p y) events.Arrive (Ok happenings.Arrived)) is
    (stopped_says told sure reviews checks next starts session new ids later p x.0 x.1 e handed s v c n x.2 x.4))
arrive_stopped told sure reviews checks next starts session new ids later p q (errors.Fault e handed) halt s v c n (inr y) h = let z = y.0 in cc z
arrive_stopped told sure reviews checks next starts session new ids later p q (errors.Ended reason) halt s v c n x h = cc h
arrive_stopped told sure reviews checks next starts session new ids later p q (errors.Stopped code) halt s v c n x h = cc h
arrive_stopped told sure reviews checks next starts session new ids later p q errors.NoMemory halt s v c n x h = cc h

-- ---- an arrival whole

pub arrive_skips : {S G : Type 0} (told : S → Told) (sure : Bool) (next : G → ℕ → TransactionId) (starts : G → Option (ℕ → TransactionId)) (session : TxnSession S) (ids : G) (p : Parties) → Sound sure p → Serves session p → may_arrive p ≡ false → Serving told next starts sure session session ids ids p p events.Arrive (Ok happenings.Skipped)
arrive_skips told sure next starts session ids p s v e =
    quiet_says told next starts sure session ids p p events.Arrive happenings.Skipped s v (λ f. cc f) (by_wire p.waiting refl e)
  where
    by_stop : (o : Option Halt) → p.stop ≡ o → runs_on o ≡ false → Moves sure p events.Arrive happenings.Skipped p
    by_stop None f g = cc g
    by_stop (Some halt) f g = arrive_skips_stop sure p halt s f

    by_cut : (b : Bool) → p.cut ≡ b → (not b && runs_on p.stop) ≡ false → Moves sure p events.Arrive happenings.Skipped p
    by_cut true f g = arrive_skips_cut sure p s f
    by_cut false f g = by_stop p.stop refl g

    by_wire : (l : List Item) → p.waiting ≡ l → (has_items l && (not p.cut && runs_on p.stop)) ≡ false → Moves sure p events.Arrive happenings.Skipped p
    by_wire [] f g = arrive_skips_none sure p s f
    by_wire (item ∷ rest) f g = by_cut p.cut refl g

-- what is so where an item may arrive
pub record Arrivable (p : Parties) : Type 0 where
  pub cut : p.cut ≡ false
  pub stop : p.stop ≡ None
  pub waits : p.waiting ≡ [] → ⊥

pub arrivable : (p : Parties) → may_arrive p ≡ true → Arrivable p
arrivable p e = by_wire p.waiting refl e
  where
    by_stop : (o : Option Halt) → p.stop ≡ o → p.cut ≡ false → (p.waiting ≡ [] → ⊥) → runs_on o ≡ true → Arrivable p
    by_stop None f c w g = record { cut = c; stop = f; waits = w }
    by_stop (Some halt) f c w g = cc g

    by_cut : (b : Bool) → p.cut ≡ b → (p.waiting ≡ [] → ⊥) → (not b && runs_on p.stop) ≡ true → Arrivable p
    by_cut true f w g = cc g
    by_cut false f w g = by_stop p.stop refl f w g

    by_wire : (l : List Item) → p.waiting ≡ l → (has_items l && (not p.cut && runs_on p.stop)) ≡ true → Arrivable p
    by_wire [] f g = cc g
    by_wire (item ∷ rest) f g = by_cut p.cut refl (λ n. cc (f, n)) g

pub arrive_ended : {S G : Type 0} (told : S → Told) (sure : Bool) (reviews : S → S → List Frame → Result Verdict NoMemory → Type 0) (checks : S → S → Disposition → Result Unit SessionInnerError → Type 0) (next : G → ℕ → TransactionId) (starts : G → Option (ℕ → TransactionId)) (session new : TxnSession S) (ids later : G) (p q r : Parties) (error : StepError) (result : Result Happened NoMemory) → Sound sure p → Serves session p → p.cut ≡ false → p.stop ≡ None → Stepping told sure reviews checks next starts session new ids later p q (Err error) → StopsAt q r (halt_of error) result → Serving told next starts sure session new ids later p r events.Arrive result
arrive_ended told sure reviews checks next starts session new ids later p q r error result s v c n x e = by_halt (halt_of error) refl e
  where
    by_halt : (o : Option Halt) → halt_of error ≡ o → StopsAt q r o result → Serving told next starts sure session new ids later p r events.Arrive result
    by_halt (Some halt) h f =
        subst (λ (y : Result Happened NoMemory). Serving told next starts sure session new ids later p r events.Arrive y) (sym f.0)
        (subst (λ (y : Parties). Serving told next starts sure session new ids later p y events.Arrive (Ok happenings.Arrived)) (sym f.1)
        (arrive_stopped told sure reviews checks next starts session new ids later p q error halt s v c n x h))
    by_halt None h f =
        subst (λ (y : Result Happened NoMemory). Serving told next starts sure session new ids later p r events.Arrive y) (sym f.0)
        (subst (λ (y : Parties). Serving told next starts sure session new ids later p y events.Arrive (Err (record {}))) (sym f.1)
        (arrive_failed told sure reviews checks next starts session new ids later p q error s v n x h))

-- ---- the step of the first item

-- nothing but room was taken
pub same_again : (v p : Parties) (entries : List Entry) (tags : List Tag) (answers : List Answered) → v ≡ p → entries ≡ v.entries → tags ≡ v.tags → answers ≡ v.answers → ◌≡◌ {A = Parties} (record v { entries = entries; tags = tags; answers = answers }) p
same_again v p entries tags answers e a b c =
    ap (λ (x : List Entry). record v { entries = x; tags = tags; answers = answers }) a
    ∙ ap (λ (x : List Tag). record v { tags = x; answers = answers }) b
    ∙ ap (λ (x : List Answered). record v { answers = x }) c ∙ e

pub first_unanswered : {S G : Type 0} (told : S → Told) (sure : Bool) (reviews : S → S → List Frame → Result Verdict NoMemory → Type 0) (checks : S → S → Disposition → Result Unit SessionInnerError → Type 0) (next : G → ℕ → TransactionId) (starts : G → Option (ℕ → TransactionId)) (session new : TxnSession S) (ids later : G) (v p q : Parties) (item : Item) (rest : List Item) (step : Step) (error : StepError) (result : Result Unit StepError) → result ≡ Err error → v ≡ p → v.waiting ≡ item ∷ rest → q ≡ p → step ≡ step_of item → StepSays told sure reviews checks next starts session new ids later step (Err error) → Stepping told sure reviews checks next starts session new ids later p q result
first_unanswered told sure reviews checks next starts session new ids later v p q item rest step error result is e w s at said =
    subst (λ (y : Result Unit StepError). Stepping told sure reviews checks next starts session new ids later p q y) (sym is)
    (inl (item, rest, ap (λ (x : Parties). x.waiting) (sym e) ∙ w, s, subst (λ (x : Step). StepSays told sure reviews checks next starts session new ids later x (Err error)) at said))

-- the first item is there
pub never_empty : (old new : List Item) (o : Option Item) (item : Item) (rest : List Item) → o ≡ None → old ≡ option_to_list o ++ new → new ≡ drop 1 old → old ≡ item ∷ rest → ⊥
never_empty old new o item rest n a b e =
    let all : old ≡ new = a ∙ ap (λ (x : Option Item). option_to_list x ++ new) n in
    let less : new ≡ rest = b ∙ ap (λ (x : List Item). drop 1 x) e in
    let long = ap (λ (x : List Item). length x) e in
    let short = ap (λ (x : List Item). length x) (all ∙ less) in
    omega (arith, long, short)

pub first_answered : {S G : Type 0} (told : S → Told) (sure : Bool) (reviews : S → S → List Frame → Result Verdict NoMemory → Type 0) (checks : S → S → Disposition → Result Unit SessionInnerError → Type 0) (next : G → ℕ → TransactionId) (starts : G → Option (ℕ → TransactionId)) (session new : TxnSession S) (ids later : G) (v p : Parties) (first item : Item) (rest waiting : List Item) (tag : Tag) (step asked : Step) (drawn : DrawnIds) (reply : Reply) (entries old_entries : List Entry) (tags old_tags : List Tag) (back old_back : List Answered) (done : Unit {0}) → v ≡ p → v.waiting ≡ first ∷ rest → v.waiting ≡ item ∷ waiting → item_of tag step ≡ item → step ≡ step_of item → IsShort reply → entries ≡ old_entries ++ entry_by step drawn reply ∷ [] → old_entries ≡ v.entries → tags ≡ old_tags ++ tag ∷ [] → old_tags ≡ v.tags → back ≡ old_back ++ answers_by tag reply → old_back ≡ v.answers → asked ≡ step_of first → StepSays told sure reviews checks next starts session new ids later asked (Ok (drawn, reply)) → Stepping told sure reviews checks next starts session new ids later p (record v { entries = entries; tags = tags; waiting = waiting; answers = back }) (Ok done)
first_answered told sure reviews checks next starts session new ids later v p first item rest waiting tag step asked drawn reply entries old_entries tags old_tags back old_back done e w1 w2 is st short n1 o1 n2 o2 n3 o3 at said =
    let same : first ≡ item = let both = sym w1 ∙ w2 in cc both in
    let entries_are : entries ≡ v.entries ++ entry_by (step_of item) drawn reply ∷ [] = n1 ∙ ap (λ (l : List Entry). l ++ entry_by step drawn reply ∷ []) o1 ∙ ap (λ (s : Step). v.entries ++ entry_by s drawn reply ∷ []) st in
    let tags_are : tags ≡ v.tags ++ tag ∷ [] = n2 ∙ ap (λ (l : List Tag). l ++ tag ∷ []) o2 in
    let back_is : back ≡ v.answers ++ answers item reply = n3 ∙ ap (λ (l : List Answered). l ++ answers_by tag reply) o3 ∙ ap (λ (l : List Answered). v.answers ++ l) (sym (answers_tag tag step reply) ∙ ap (λ (i : Item). answers i reply) is) in (
      item,
      drawn,
      reply,
      record {
        rest = waiting;
        tag = tag;
        waits = ap (λ (x : Parties). x.waiting) (sym e) ∙ w2;
        is = ap (λ (s : Step). item_of tag s) (sym st) ∙ is;
        short = short;
        after =
            ap (λ (x : List Entry). record v { entries = x; tags = tags; waiting = waiting; answers = back }) entries_are
            ∙ ap (λ (x : List Tag). record v { entries = v.entries ++ entry_by (step_of item) drawn reply ∷ []; tags = x; waiting = waiting; answers = back }) tags_are
            ∙ ap (λ (x : List Answered). record v { entries = v.entries ++ entry_by (step_of item) drawn reply ∷ []; tags = v.tags ++ tag ∷ []; waiting = waiting; answers = x }) back_is
            ∙ ap (λ (x : Parties). recorded x item waiting tag drawn reply) e;
      },
      subst (λ (s : Step). StepSays told sure reviews checks next starts session new ids later s (Ok (drawn, reply))) (at ∙ ap step_of same) said,
    )

-- ---- every other event

by_put : (w new : Exchange) (h : Happened) (d : List TransactionId) (o : Option Item) → TurnPut w o h d new → h ≡ happenings.Arrived → ⊥
by_put w new h d None t a = let z = t.0 in cc (z, a)
by_put w new h d (Some i) t a = let z = t.0 in cc (z, a)

by_return : (w new : Exchange) (h : Happened) (d : List TransactionId) (b : Bool) (l : List Answered) → TurnReturn w b l h d new → h ≡ happenings.Arrived → ⊥
by_return w new h d false (x ∷ rest) t a = let z = t.0 in cc (z, a)
by_return w new h d false [] t a = let z = t.0 in cc (z, a)
by_return w new h d true l t a = let z = t.0 in cc (z, a)

by_cut : (w new : Exchange) (h : Happened) (d : List TransactionId) (b : Bool) → TurnCut w b h d new → h ≡ happenings.Arrived → ⊥
by_cut w new h d false t a = let z = t.0 in cc (z, a)
by_cut w new h d true t a = let z = t.0 in cc (z, a)

-- nothing arrives by another event
not_arrived : (w new : Exchange) (e : Event) (h : Happened) (d : List TransactionId) → (e ≡ events.Arrive → ⊥) → Turn w e h d new → h ≡ happenings.Arrived → ⊥
not_arrived w new events.Arrive h d n t a = absurd (n refl)
not_arrived w new events.Return h d n t a = by_return w new h d w.cut w.coming t a
not_arrived w new events.Cut h d n t a = by_cut w new h d w.cut t a
not_arrived w new e h d n t a = by_put w new h d (put_of w e) t a

pub event_says : {S G : Type 0} (told : S → Told) (sure : Bool) (next : G → ℕ → TransactionId) (starts : G → Option (ℕ → TransactionId)) (session : TxnSession S) (ids : G) (p q : Parties) (event : Event) (result : Result Happened NoMemory) → Sound sure p → Serves session p → (event ≡ events.Arrive → ⊥) → MovesParties p event result q → Serving told next starts sure session session ids ids p q event result
event_says told sure next starts session ids p q event (Ok h) s v n m =
    let moves = m.moves sure s in
    quiet_says told next starts sure session ids p q event h s v (not_arrived (exchange_of sure p) (exchange_of sure q) event h [] n moves.turn) moves
event_says told sure next starts session ids p q event (Err error) s v n m =
    subst (λ (y : Parties). Serving told next starts sure session session ids ids p y event (Err error)) (sym m.err)
    (unchanged_says told next starts sure session session ids p event s v refl refl v.stands)

-- the same, seen from the value
pub seen_from : {S G : Type 0} (told : S → Told) (next : G → ℕ → TransactionId) (starts : G → Option (ℕ → TransactionId)) (old value new : TwoParties S G) (event : Event) (result : Result Happened NoMemory) → old ≡ value → EventSays told next starts old new event result → EventSays told next starts value new event result
seen_from {S} {G} told next starts old value new event result e x = subst (λ (y : TwoParties S G). EventSays told next starts y new event result) e x
