-- Events of two parties, one more at a time.
use Rattle.std.proofs.Common.{◌≡◌, ℕ, ◌+◌, ◌-◌, ◌^◌, ◌≤◌, Bool, true, false, cond, Option, Some, None, Ok, List, [], ◌∷◌, ◌++◌, refl, sym, ◌∙◌, ap, arith, subst, zero-add, append-nil}
use Rattle.std.specs.Prelude.{min}
use Rattle.std.specs.List.{AllByRecursion, flat_map}
use Rattle.std.proofs.lemmas.List.{length-append}
use Rattle.std.proofs.lemmas.List.Concat.{flat_map-append}
use Rattle.std.proofs.lemmas.List.Sums.{sum_by-append}
use Rattle.amqp_txn_types.specs.Counts.{Rose}
use Rattle.amqp_txn_types.specs.Growing.{grown}
use Rattle.amqp_txn_types.specs.declared.id.TransactionId.{TransactionId}
use Rattle.amqp_txn_types.specs.declared.performatives.Attach.{Attach}
use Rattle.amqp_txn_types.specs.declared.performatives.Frame.{Frame}
use Rattle.amqp_txn_types.proofs.Growing.{grown-grown, grown-nil}
use Rattle.amqp_below_layer.specs.Told.{Told}
use Rattle.amqp_below_layer.specs.declared.inner_error.SessionInnerError.{SessionInnerError}
use Rattle.amqp_below_layer.specs.declared.refusal.Refusal.{Refusal}
use Rattle.amqp_below_ids.proofs.Draws.{Drew-append, Drew-none}
use Rattle.amqp_resource_record.specs.Entries.{is_attached, is_veto}
use Rattle.amqp_resource_record.specs.Hands.{hands}
use Rattle.amqp_resource_record.specs.Opened.{opened_by, opens, refused_by, refuses}
use Rattle.amqp_resource_record.specs.Vetoed.{veto_count, vetoed_by, vetoes}
use Rattle.amqp_resource_record.specs.Work.{joined_after}
use Rattle.amqp_resource_record.specs.declared.entry.Entry.{Entry}
use Rattle.amqp_resource_record.specs.declared.reply.Reply.{Reply}
use Rattle.amqp_resource_record.specs.declared.reply.Reply.TheVariants as replies
use Rattle.amqp_resource_record.proofs.Whole.{joined_after-snoc}
use Rattle.amqp_resource_session.specs.Steps.{AddsRefusal}
use Rattle.txn_parties.specs.declared.event.Event.{Event}
use Rattle.txn_parties.specs.declared.event.Happened.{Happened}
use Rattle.txn_parties.specs.declared.event.Happened.TheVariants as happenings
use Rattle.txn_parties.specs.declared.item.Halt.{Halt}
use Rattle.txn_parties.specs.declared.item.Item.{Item}
use Rattle.txn_parties.specs.Items.{step_of}
use Rattle.txn_parties.specs.Exchange.{Exchange, begun, entries_of, made, record_of}
use Rattle.txn_parties.specs.Invariant.{Keeps}
use Rattle.txn_parties.specs.Taken.{TookSince}
use Rattle.txn_parties.proofs.Agreeing.{head_item}
use Rattle.txn_parties.proofs.Joining.{begun_took, follows_more, took_more}
use Rattle.txn_parties.proofs.Turning.{keeps_start}
use Rattle.txn_parties.proofs.Wires.{entries-snoc}
use Rattle.txn_world.specs.Happening.{EventSays, StopCause, TwoParties}
use Rattle.txn_world.specs.Happening.{Refused as WorldRefused, Unknown as WorldUnknown}
use Rattle.txn_program_agree.specs.Playing.{IsBegun, Played, PlayedOn, Refused, StopTold, Unknown}
use Rattle.txn_program_agree.proofs.Turning.{Comes, OneTurn, Rests, SameFirst, Stops, one_turn}

-- ---- none

-- an attach vetoes and refuses nothing
attached_no_veto : (reply : Reply) → is_attached reply ≡ true → is_veto reply ≡ false
attached_no_veto (replies.Attached link given) h = refl
attached_no_veto _ h = cc h

attached_no_refusal : (e : Entry) → is_attached e.reply ≡ true → refused_by e.step e.reply ≡ []
attached_no_refusal e h = by_reply e.reply h
  where
    by_reply : (reply : Reply) → is_attached reply ≡ true → refused_by e.step reply ≡ []
    by_reply (replies.Attached link given) h = refl
    by_reply _ h = cc h

AllAttached : List Entry → Type 0
AllAttached r = AllByRecursion (λ (e : Entry). is_attached e.reply ≡ true) r

abbrev one_if : Bool → ℕ
one_if b = cond b 1 0

none_counted : (r : List Entry) → AllAttached r → veto_count r ≡ 0
unfolding AllAttached
none_counted [] a = refl
none_counted (e ∷ r) a =
    let rest : veto_count r ≡ 0 = none_counted r a.1 in
    let now : one_if (is_veto e.reply) ≡ 0 = ap one_if (attached_no_veto e.reply a.0) in
    let parts : veto_count (e ∷ r) ≡ 0 + one_if (is_veto e.reply) + veto_count r = sum_by-append (λ (x : Entry). cond (is_veto x.reply) 1 0) (e ∷ []) r in
    omega (arith, parts, rest, now)

none_refused : (r : List Entry) → AllAttached r → refuses r ≡ []
unfolding AllAttached
none_refused [] a = refl
none_refused (e ∷ r) a = ap (λ l. l ++ refuses r) (attached_no_refusal e a.0) ∙ none_refused r a.1

none_vetoed_after : (before r : List Entry) → AllAttached r → joined_after (λ b e. vetoed_by b e.step e.reply) before r ≡ []
unfolding AllAttached
none_vetoed_after before [] a = refl
none_vetoed_after before (e ∷ r) a =
    let now : vetoed_by before e.step e.reply ≡ [] = ap (λ b. cond b (hands before e.step ∷ []) []) (attached_no_veto e.reply a.0) in
    ap (λ l. l ++ joined_after (λ b x. vetoed_by b x.step x.reply) (before ++ e ∷ []) r) now ∙ none_vetoed_after (before ++ e ∷ []) r a.1

none_vetoed : (r : List Entry) → AllAttached r → vetoes r ≡ []
unfolding vetoes
none_vetoed r a = none_vetoed_after [] r a

unchanged : {A : Type 0} (o : Option (List A)) (xs : List A) → xs ≡ [] → o ≡ grown o xs
unchanged o xs e = sym (ap (grown o) e ∙ grown-nil o)

pub played-none : {S G : Type 0} (told : S → Told) (next : G → ℕ → TransactionId) (sure : Bool) (w : TwoParties S G) → IsBegun sure w.sides → PlayedOn told next sure w w []
unfolding AllAttached
played-none told next sure w b =
    let r : record_of w.sides ≡ w.sides.first = ap record_of b.sides ∙ append-nil w.sides.first in
    let all : AllAttached w.sides.first = b.begins.attached in
    let t = told w.below in
    record {
      drawn = [];
      played = record {
        follows = (refl, b.sides);
        took = subst (λ (x : Exchange). TookSince t.taken x t.taken) (sym b.sides) (begun_took sure w.sides.first t.taken b.begins);
        refused = λ runs. unchanged t.refused (refuses (record_of w.sides)) (ap refuses r ∙ none_refused w.sides.first all);
        stopped = λ halt item rest e f. let none : w.sides.stop ≡ None = ap (λ (x : Exchange). x.stop) b.sides in cc (none, e);
        vetoed = unchanged t.reviews.vetoed (vetoes (record_of w.sides)) (ap vetoes r ∙ none_vetoed w.sides.first all);
        vetoes_rose = let none : veto_count (record_of w.sides) ≡ 0 = ap veto_count r ∙ none_counted w.sides.first all in omega (arith, none);
      };
      opened = unchanged t.opened (opens (entries_of w.sides.came)) (ap (λ (x : Exchange). opens (entries_of x.came)) b.sides);
      first = refl;
      drew = Drew-none (next w.ids) (next w.ids) (λ n. refl);
      later = omega arith;
      fixed = refl;
      keeps = subst Keeps (sym b.sides) (keeps_start sure w.sides.first b.begins);
      few = let same : made w.sides ≡ 0 = ap made b.sides in omega (arith, same);
    }

-- ---- one more

rose_more : (a b c : ℕ) → Rose a b → b ≤ c → Rose a c
rose_more a b c r l = omega (arith, r, l)

rose_after : (a b c : ℕ) → a ≤ b → Rose b c → Rose a c
rose_after a b c l r = omega (arith, l, r)

joined-more : {A : Type 0} (old mid new : Option (List A)) (xs ys zs : List A) → mid ≡ grown old xs → new ≡ grown mid ys → zs ≡ xs ++ ys → new ≡ grown old zs
joined-more old mid new xs ys zs a b c = b ∙ ap (λ o. grown o ys) a ∙ grown-grown old xs ys ∙ ap (grown old) (sym c)

flat-snoc : {A : Type 0} (f : Entry → List A) (r : List Entry) (e : Entry) → flat_map f (r ++ e ∷ []) ≡ flat_map f r ++ f e
flat-snoc f r e = flat_map-append f r (e ∷ []) ∙ ap (λ l. flat_map f r ++ l) (append-nil (f e))

vetoes-snoc : (r : List Entry) (e : Entry) → vetoes (r ++ e ∷ []) ≡ vetoes r ++ vetoed_by r e.step e.reply
unfolding vetoes
vetoes-snoc r e = joined_after-snoc (λ before x. vetoed_by before x.step x.reply) [] r e

veto_count-snoc : (r : List Entry) (e : Entry) → veto_count (r ++ e ∷ []) ≡ veto_count r + cond (is_veto e.reply) 1 0
veto_count-snoc r e = sum_by-append (λ (x : Entry). cond (is_veto x.reply) 1 0) r (e ∷ []) ∙ ap (λ n. veto_count r + n) (zero-add (cond (is_veto e.reply) 1 0))

veto_one : (before mid now count : ℕ) (b : Bool) → min (before + count) (2 ^ 64 - 1) ≤ mid → mid ≤ now → (b ≡ true → Rose mid now) → min (before + (count + cond b 1 0)) (2 ^ 64 - 1) ≤ now
veto_one before mid now count true a l c = let r = c refl in omega (arith, a, r)
veto_one before mid now count false a l c = omega (arith, a, l)

-- the record of a moment whose parts are those of an earlier one
same_record : (w new : Exchange) → new.first ≡ w.first → new.came ≡ w.came → record_of new ≡ record_of w
same_record w new f c = ap (λ l. l ++ entries_of new.came) f ∙ ap (λ l. w.first ++ entries_of l) c

-- what was told of the layer below since then, of an event after which the session goes on or goes on
-- having stopped; `old` was told at first, `mid` before the event, `new` after it
record Tells (old mid new : Told) (w v : Exchange) : Type 0 where
  refused : v.stop ≡ None → new.refused ≡ grown old.refused (refuses (record_of v))
  stopped : (halt : Halt) → (item : Item) → (rest : List Item) → v.stop ≡ Some halt → v.waiting ≡ item ∷ rest → StopTold old new v item halt
  vetoed : new.reviews.vetoed ≡ grown old.reviews.vetoed (vetoes (record_of v))
  vetoes_rose : min (old.reviews.vetoes + veto_count (record_of v)) (2 ^ 64 - 1) ≤ new.reviews.vetoes
  opened : (os : Option (List (Attach × List Frame))) → mid.opened ≡ grown os (opens (entries_of w.came)) → new.opened ≡ grown os (opens (entries_of v.came))
  first : v.first ≡ w.first
  few : made v ≤ made w + 1

-- what a refusal that stopped the session at an item adds, after that record
abbrev Adds : List Entry → Item → Halt → SessionInnerError → List Refusal → Type 0
Adds r item halt error more = AddsRefusal (step_of item) (hands r (step_of item)) halt.handed error more

-- a stop stays as it was told
stop_stays : (old new : Told) (w v : Exchange) (item : Item) (halt : Halt) → record_of v ≡ record_of w → StopTold old new w item halt → StopTold old new v item halt
stop_stays old new w v item halt same (Unknown u) = Unknown u
stop_stays old new w v item halt same (Refused error code rose more adds told) =
    Refused error code rose more
    (subst (λ (r : List Entry). Adds r item halt error more) (sym same) adds)
    (told ∙ ap (λ (r : List Entry). grown old.refused (refuses r ++ more)) (sym same))

-- and one that comes now is told since the first
stop_now : (old mid new : Told) (w v : Exchange) (item : Item) (halt : Halt) → record_of v ≡ record_of w → old.refusals ≤ mid.refusals → mid.refused ≡ grown old.refused (refuses (record_of w)) → StopCause mid new w item halt → StopTold old new v item halt
stop_now old mid new w v item halt same later before (WorldUnknown u) = Unknown u
stop_now old mid new w v item halt same later before (WorldRefused error code rose adds) =
    stop_stays old new w v item halt same
    (Refused error code (rose_after old.refusals mid.refusals new.refusals later rose) adds.0 adds.1
    (joined-more old.refused mid.refused new.refused (refuses (record_of w)) adds.0 (refuses (record_of w) ++ adds.0) before adds.2 refl))

-- the same item, the same halt
other_stop : (old new : Told) (v : Exchange) (item other : Item) (halt also : Halt) → item ≡ other → halt ≡ also → StopTold old new v item halt → StopTold old new v other also
other_stop old new v item other halt also i h t = subst (λ (x : Halt). StopTold old new v other x) h (subst (λ (x : Item). StopTold old new v x halt) i t)

same_halt : (o : Option Halt) (a b : Halt) → o ≡ Some a → o ≡ Some b → a ≡ b
same_halt o a b e f = cc (e, f)

tells_rests : {S G : Type 0} (told : S → Told) (next : G → ℕ → TransactionId) (starts : G → Option (ℕ → TransactionId)) (old : Told) (sure : Bool) (first : List Entry) (mid new : TwoParties S G) (past : List (Event × Happened)) (drawn : List TransactionId) (e : Event) (h : Happened) → EventSays told next starts mid new e (Ok h) → Keeps mid.sides → Played old (told mid.below) sure first mid.sides past drawn → (h ≡ happenings.Arrived → ⊥) → new.sides.stop ≡ mid.sides.stop → new.sides.first ≡ mid.sides.first → new.sides.came ≡ mid.sides.came → SameFirst mid.sides new.sides → made new.sides ≤ made mid.sides + 1 → Tells old (told mid.below) (told new.below) mid.sides new.sides
tells_rests {S} told next starts old sure first mid new past drawn e h s k p none stop fst came same few =
    let below : new.below ≡ mid.below = (s.quiet (λ f. let is : h ≡ happenings.Arrived = cc f in none is)).0 in
    let r = same_record mid.sides new.sides fst came in
    record {
      refused = λ n. ap (λ (b : S). (told b).refused) below ∙ p.refused (sym stop ∙ n) ∙ ap (λ (l : List Entry). grown old.refused (refuses l)) (sym r);
      stopped = λ halt item rest f waits.
          let before = k.halted halt (sym stop ∙ f) in
          let on = same before.item before.rest before.waits in
          let is : before.item ≡ item = head_item before.item item on.0 rest (sym on.1 ∙ waits) in
          subst (λ (b : S). StopTold old (told b) new.sides item halt) (sym below)
          (stop_stays old (told mid.below) mid.sides new.sides item halt r
          (other_stop old (told mid.below) mid.sides before.item item halt halt is refl
          (p.stopped halt before.item before.rest (sym stop ∙ f) before.waits)));
      vetoed = ap (λ (b : S). (told b).reviews.vetoed) below ∙ p.vetoed ∙ ap (λ (l : List Entry). grown old.reviews.vetoed (vetoes l)) (sym r);
      vetoes_rose =
          let is : (told new.below).reviews.vetoes ≡ (told mid.below).reviews.vetoes = ap (λ (b : S). (told b).reviews.vetoes) below in
          let count : veto_count (record_of new.sides) ≡ veto_count (record_of mid.sides) = ap veto_count r in
          omega (arith, is, count, p.vetoes_rose);
      opened = λ os a. ap (λ (b : S). (told b).opened) below ∙ a ∙ ap (λ l. grown os (opens (entries_of l))) (sym came);
      first = fst;
      few = few;
    }

tells_stops : {S G : Type 0} (told : S → Told) (next : G → ℕ → TransactionId) (starts : G → Option (ℕ → TransactionId)) (old : Told) (sure : Bool) (first : List Entry) (mid new : TwoParties S G) (past : List (Event × Happened)) (drawn : List TransactionId) (e : Event) (h : Happened) → EventSays told next starts mid new e (Ok h) → old.refusals ≤ (told mid.below).refusals → Played old (told mid.below) sure first mid.sides past drawn → (halt : Halt) (item : Item) (rest : List Item) → mid.sides.stop ≡ None → mid.sides.waiting ≡ item ∷ rest → new.sides.stop ≡ Some halt → new.sides.first ≡ mid.sides.first → new.sides.came ≡ mid.sides.came → new.sides.waiting ≡ mid.sides.waiting → made new.sides ≡ made mid.sides → Tells old (told mid.below) (told new.below) mid.sides new.sides
tells_stops told next starts old sure first mid new past drawn e h s later p halt item rest n waits st fst came on m =
    let r = same_record mid.sides new.sides fst came in
    let did = s.halted halt n st in
    record {
      refused = λ none. cc (none, st);
      stopped = λ halt2 item2 rest2 f waits2.
          let is : item ≡ item2 = head_item item item2 rest rest2 (sym waits ∙ sym on ∙ waits2) in
          let same : halt ≡ halt2 = same_halt new.sides.stop halt halt2 st f in
          other_stop old (told new.below) new.sides item item2 halt halt2 is same
          (stop_now old (told mid.below) (told new.below) mid.sides new.sides item halt r later (p.refused n) (s.stopped halt item rest n st waits));
      vetoed = did.vetoed ∙ p.vetoed ∙ ap (λ (l : List Entry). grown old.reviews.vetoed (vetoes l)) (sym r);
      vetoes_rose =
          let count : veto_count (record_of new.sides) ≡ veto_count (record_of mid.sides) = ap veto_count r in
          let l = s.counted in
          omega (arith, count, l, p.vetoes_rose);
      opened = λ os a. did.opened ∙ a ∙ ap (λ l. grown os (opens (entries_of l))) (sym came);
      first = fst;
      few = omega (arith, m);
    }

tells_comes : {S G : Type 0} (told : S → Told) (next : G → ℕ → TransactionId) (starts : G → Option (ℕ → TransactionId)) (old : Told) (sure : Bool) (first : List Entry) (mid new : TwoParties S G) (past : List (Event × Happened)) (drawn : List TransactionId) (e : Event) (h : Happened) → EventSays told next starts mid new e (Ok h) → Played old (told mid.below) sure first mid.sides past drawn → (item : Item) (entry : Entry) → mid.sides.stop ≡ None → new.sides.stop ≡ None → new.sides.first ≡ mid.sides.first → new.sides.came ≡ mid.sides.came ++ (item, entry) ∷ [] → record_of new.sides ≡ record_of mid.sides ++ entry ∷ [] → made new.sides ≡ made mid.sides → Tells old (told mid.below) (told new.below) mid.sides new.sides
tells_comes told next starts old sure first mid new past drawn e h s p item entry n st fst came r m =
    let did = s.answered item entry came in
    let before = record_of mid.sides in
    let a = told mid.below in
    let b = told new.below in
    record {
      refused = λ none. joined-more old.refused a.refused b.refused (refuses before) (refused_by entry.step entry.reply) (refuses (record_of new.sides)) (p.refused n) did.refused (ap refuses r ∙ flat-snoc (λ (x : Entry). refused_by x.step x.reply) before entry);
      stopped = λ halt item2 rest2 f waits. cc (st, f);
      vetoed = joined-more old.reviews.vetoed a.reviews.vetoed b.reviews.vetoed (vetoes before) (vetoed_by before entry.step entry.reply) (vetoes (record_of new.sides)) p.vetoed did.vetoed (ap vetoes r ∙ vetoes-snoc before entry);
      vetoes_rose =
          let count : veto_count (record_of new.sides) ≡ veto_count before + cond (is_veto entry.reply) 1 0 = ap veto_count r ∙ veto_count-snoc before entry in
          subst (λ (k : ℕ). min (old.reviews.vetoes + k) (2 ^ 64 - 1) ≤ b.reviews.vetoes) (sym count)
          (veto_one old.reviews.vetoes a.reviews.vetoes b.reviews.vetoes (veto_count before) (is_veto entry.reply) p.vetoes_rose s.counted (s.vetoed item entry came));
      opened = λ os o. joined-more os a.opened b.opened (opens (entries_of mid.sides.came)) (opened_by entry.step entry.reply) (opens (entries_of new.sides.came)) o did.opened (ap (λ l. opens (entries_of l)) came ∙ ap opens (entries-snoc mid.sides.came item entry) ∙ flat-snoc (λ (x : Entry). opened_by x.step x.reply) (entries_of mid.sides.came) entry);
      first = fst;
      few = omega (arith, m);
    }

tells : {S G : Type 0} (told : S → Told) (next : G → ℕ → TransactionId) (starts : G → Option (ℕ → TransactionId)) (old : Told) (sure : Bool) (first : List Entry) (mid new : TwoParties S G) (past : List (Event × Happened)) (drawn : List TransactionId) (e : Event) (h : Happened) → EventSays told next starts mid new e (Ok h) → Keeps mid.sides → old.refusals ≤ (told mid.below).refusals → Played old (told mid.below) sure first mid.sides past drawn → OneTurn mid.sides new.sides h → Tells old (told mid.below) (told new.below) mid.sides new.sides
tells told next starts old sure first mid new past drawn e h s k later p (Rests none stop fst came same few) =
    tells_rests told next starts old sure first mid new past drawn e h s k p none stop fst came same few
tells told next starts old sure first mid new past drawn e h s k later p (Stops halt item rest n waits st fst came on m) =
    tells_stops told next starts old sure first mid new past drawn e h s later p halt item rest n waits st fst came on m
tells told next starts old sure first mid new past drawn e h s k later p (Comes item entry n st fst came r m) =
    tells_comes told next starts old sure first mid new past drawn e h s p item entry n st fst came r m

pub played-more : {S G : Type 0} (told : S → Told) (next : G → ℕ → TransactionId) (starts : G → Option (ℕ → TransactionId)) (sure : Bool) (old mid new : TwoParties S G) (past : List (Event × Happened)) (e : Event) (h : Happened) → PlayedOn told next sure old mid past → EventSays told next starts mid new e (Ok h) → PlayedOn told next sure old new (past ++ (e, h) ∷ [])
played-more told next starts sure old mid new past e h p s =
    let turn = s.turn.1 in
    let drawn = p.drawn ++ s.turn.0 in
    let one = one_turn mid.sides new.sides e h s.turn.0 turn in
    let t = tells told next starts (told old.below) sure old.sides.first mid new past p.drawn e h s p.keeps p.later p.played one in
    record {
      drawn = drawn;
      played = record {
        follows = follows_more (begun sure old.sides.first) mid.sides new.sides past e h p.drawn s.turn.0 p.played.follows turn;
        took = took_more mid.sides new.sides e h s.turn.0 (told old.below).taken (told mid.below).taken (told new.below).taken p.keeps turn p.played.took s.grew;
        refused = t.refused;
        stopped = t.stopped;
        vetoed = t.vetoed;
        vetoes_rose = t.vetoes_rose;
      };
      opened = t.opened (told old.below).opened p.opened;
      first = t.first ∙ p.first;
      drew = Drew-append (next old.ids) (next mid.ids) (next new.ids) p.drawn s.turn.0 p.drew s.turn.2;
      later = let a = p.later in let b = s.later in omega (arith, a, b);
      fixed = s.fixed ∙ p.fixed;
      keeps = s.keeps;
      few = let a = p.few in let b = t.few in let l = length-append past ((e, h) ∷ []) in omega (arith, a, b, l);
    }
