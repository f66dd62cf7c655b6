-- What the controllers know, after each event: for every transaction its link, its id, what its
-- discharge was answered and whether one was put; for every controller whether its link end was put.
use Rattle.std.proofs.Common.{◌≡◌, ℕ, ◌+◌, ◌<◌, ◌≤◌, Bool, true, false, cond, ◌||◌, ◌&&◌, Option, Some, None, List, [], ◌∷◌, ◌++◌, length, refl, sym, ◌∙◌, ap, append_assoc, arith, subst, inl, inr, add-zero, zero-add}
use Rattle.std.specs.Prelude.{◌==◌, slice_get}
use Rattle.std.specs.List.{list_any, count_by}
use Rattle.std.proofs.lemmas.List.{length-append, length-set}
use Rattle.std.proofs.lemmas.List.Folds.{list_any-append}
use Rattle.std.proofs.lemmas.List.Sums.{sum_by-append}
use Rattle.std.proofs.lemmas.Option.{slice_get_past, slice_get_within}
use Rattle.std.proofs.lemmas.Bool.{eqb-true}
use Rattle.amqp_txn_types.specs.declared.id.TransactionId.{TransactionId}
use Rattle.amqp_txn_types.specs.declared.performatives.Frame.{Frame}
use Rattle.amqp_below_ids.specs.Drawn.{DrawnIds}
use Rattle.amqp_resource_record.specs.declared.entry.Entry.{Entry}
use Rattle.amqp_resource_record.specs.declared.reply.Reply.{Reply}
use Rattle.txn_parties.specs.declared.item.Item.{Item}
use Rattle.txn_parties.specs.declared.item.Item.TheVariants as items
use Rattle.txn_parties.specs.declared.item.Asked.{Asked}
use Rattle.txn_parties.specs.declared.item.Asked.TheVariants as asked
use Rattle.txn_parties.specs.declared.item.Answered.{Answered}
use Rattle.txn_parties.specs.Items.{controller_in, declares_on, ends_link, is_any_declare, is_discharge, item_ends, made_in, or_else, step_of}
use Rattle.txn_parties.specs.BackWire.{answers, asked_by, declared_id, id_in, verdict, verdict_in}
use Rattle.txn_parties.specs.Exchange.{Exchange, forward, items_of, made}
use Rattle.txn_parties.specs.Turns.{entry_by, with_answer, with_heard, with_put}
use Rattle.txn_parties.proofs.Wires.{controller_in-append, id_in-append, items-snoc, verdict_in-append}
use Rattle.txn_parties.proofs.Turning.{forward_put}
use Rattle.txn_world_wires.specs.declared.controllers.Controllers.{Controllers}
use Rattle.txn_world_wires.specs.declared.controllers.Transaction.{Transaction}
use Rattle.txn_world_wires.specs.Knowing.{awaited_of, declaring, discharging, ending, has_ended, hearing, id_of, is_sent, link_of, new_on, verdict_of, with_transaction}
use Rattle.txn_world_wires.specs.Table.{AwaitsFit, Tabled, awaits_one, is_answer_to, is_asking, outstanding, same_asked}
use Rattle.txn_world_wires.proofs.Lists.{get-push, get-set, test_eq}

or_else-none : {A : Type 0} (a : Option A) → or_else a None ≡ a
or_else-none (Some v) = refl
or_else-none None = refl

or_false : (a : Bool) → (a || false) ≡ a
or_false true = refl
or_false false = refl

split_four : (a b c d : Bool) → ((a || b) || (c || d)) ≡ ((a || c) || (b || d))
split_four true b c d = refl
split_four false true true d = refl
split_four false true false d = refl
split_four false false c d = refl

-- what ends a transaction, by the two flags
pub item_ends-split : (x k : ℕ) (list : List Item) → list_any (item_ends x k) list ≡ (list_any (is_discharge x) list || list_any (ends_link k) list)
item_ends-split x k [] = refl
item_ends-split x k (i ∷ list) =
    ap (λ b. (is_discharge x i || ends_link k i) || b) (item_ends-split x k list)
    ∙ split_four (is_discharge x i) (ends_link k i) (list_any (is_discharge x) list) (list_any (ends_link k) list)

pub count-snoc : {A : Type 0} (p : A → Bool) (xs : List A) (x : A) → count_by p (xs ++ x ∷ []) ≡ count_by p xs + cond (p x) 1 0
count-snoc p xs x = sum_by-append (λ y. cond (p y) 1 0) xs (x ∷ []) ∙ ap (λ n. count_by p xs + n) (zero-add (cond (p x) 1 0))

pub count-cons : {A : Type 0} (p : A → Bool) (x : A) (xs : List A) → count_by p (x ∷ xs) ≡ cond (p x) 1 0 + count_by p xs
count-cons p x xs = sum_by-append (λ y. cond (p y) 1 0) (x ∷ []) xs ∙ ap (λ n. n + count_by p xs) (zero-add (cond (p x) 1 0))

-- ---- a put

pub any-put : (p : Item → Bool) (w : Exchange) (i : Item) → list_any p (forward (with_put w i)) ≡ (list_any p (forward w) || p i)
any-put p w i = ap (list_any p) (forward_put w i) ∙ list_any-append p (forward w) (i ∷ []) ∙ ap (λ b. list_any p (forward w) || b) (or_false (p i))

pub controller-put : (x : ℕ) (w : Exchange) (i : Item) → controller_in x (forward (with_put w i)) ≡ or_else (controller_in x (forward w)) (declares_on x i)
controller-put x w i =
    ap (controller_in x) (forward_put w i) ∙ controller_in-append x (forward w) (i ∷ [])
    ∙ ap (or_else (controller_in x (forward w))) (or_else-none (declares_on x i))

pub made-put : (w : Exchange) (i : Item) → made (with_put w i) ≡ made w + cond (is_any_declare i) 1 0
made-put w i = ap made_in (forward_put w i) ∙ count-snoc is_any_declare (forward w) i

abbrev pub AllFit : Controllers → Type 0
AllFit known = (x : ℕ) (txn : Transaction) → slice_get known.transactions x ≡ Some txn → AwaitsFit txn txn.awaits

-- what a put makes of what the controllers know
pub record Puts (known new : Controllers) (i : Item) : Type 0 where
  pub made : length new.transactions ≡ length known.transactions + cond (is_any_declare i) 1 0
  pub links : length new.ended ≡ length known.ended
  pub link : (x : ℕ) → link_of (slice_get new.transactions x) ≡ or_else (link_of (slice_get known.transactions x)) (declares_on x i)
  pub id : (x : ℕ) → id_of (slice_get new.transactions x) ≡ id_of (slice_get known.transactions x)
  pub verdict : (x : ℕ) → verdict_of (slice_get new.transactions x) ≡ verdict_of (slice_get known.transactions x)
  pub sent : (x : ℕ) → is_sent (slice_get new.transactions x) ≡ (is_sent (slice_get known.transactions x) || is_discharge x i)
  pub ended : (c : ℕ) → has_ended (slice_get new.ended c) ≡ (has_ended (slice_get known.ended c) || ends_link c i)
  pub awaits : (x : ℕ) (a : Asked) → awaits_one (awaited_of (slice_get new.transactions x)) a ≡ awaits_one (awaited_of (slice_get known.transactions x)) a + cond (is_asking x a i) 1 0
  pub fits : AllFit known → AllFit new

pub tabled_put : (known new : Controllers) (w : Exchange) (i : Item) → Tabled known w → Puts known new i → Tabled new (with_put w i)
tabled_put known new w i t p = record {
  made = p.made ∙ ap (λ n. n + cond (is_any_declare i) 1 0) t.made ∙ sym (made-put w i);
  links = p.links ∙ t.links;
  link = λ x. p.link x ∙ ap (λ o. or_else o (declares_on x i)) (t.link x) ∙ sym (controller-put x w i);
  id = λ x. p.id x ∙ t.id x;
  verdict = λ x. p.verdict x ∙ t.verdict x;
  sent = λ x. p.sent x ∙ ap (λ b. b || is_discharge x i) (t.sent x) ∙ sym (any-put (is_discharge x) w i);
  ended = λ c. p.ended c ∙ ap (λ b. b || ends_link c i) (t.ended c) ∙ sym (any-put (ends_link c) w i);
  awaits = λ x a.
      let before = t.awaits x a in
      let now = p.awaits x a in
      let counted = count-snoc (is_asking x a) w.waiting i in
      omega (arith, before, now, counted);
  fits = p.fits t.fits;
}

pub puts_frame : (known : Controllers) (frame : Frame) → Puts known known (items.Frame frame)
puts_frame known frame = record {
  made = sym (add-zero (length known.transactions));
  links = refl;
  link = λ x. sym (or_else-none (link_of (slice_get known.transactions x)));
  id = λ x. refl;
  verdict = λ x. refl;
  sent = λ x. sym (or_false (is_sent (slice_get known.transactions x)));
  ended = λ c. sym (or_false (has_ended (slice_get known.ended c)));
  awaits = λ x a. sym (add-zero (awaits_one (awaited_of (slice_get known.transactions x)) a));
  fits = λ h. h;
}

fit_at : (u : Transaction) (o : Option Transaction) (b : Bool) (txn : Transaction) → AwaitsFit u u.awaits → ((t : Transaction) → o ≡ Some t → AwaitsFit t t.awaits) → cond b (Some u) o ≡ Some txn → AwaitsFit txn txn.awaits
fit_at u o true txn f h e = let same : u ≡ txn = cc e in subst (λ (t : Transaction). AwaitsFit t t.awaits) same f
fit_at u o false txn f h e = h txn e

-- ---- a declare

abbrev declared_at : Controllers → ℕ → ℕ → Option Transaction
declared_at known c x = cond (x == length known.transactions) (Some (new_on c)) (slice_get known.transactions x)

at_declared : (known : Controllers) (c x : ℕ) → slice_get (declaring known c).transactions x ≡ declared_at known c x
at_declared known c x = get-push known.transactions x (new_on c)

none_yet : (known : Controllers) (x : ℕ) → (x == length known.transactions) ≡ true → slice_get known.transactions x ≡ None
none_yet known x e = let h = eqb-true x (length known.transactions) e in slice_get_past known.transactions x (omega arith)

declared_link : (o : Option Transaction) (b : Bool) (c : ℕ) → (b ≡ true → o ≡ None) → link_of (cond b (Some (new_on c)) o) ≡ or_else (link_of o) (cond b (Some c) None)
declared_link o true c h = sym (ap (λ (y : Option Transaction). or_else (link_of y) (Some c)) (h refl))
declared_link o false c h = sym (or_else-none (link_of o))

declared_id_of : (o : Option Transaction) (b : Bool) (c : ℕ) → (b ≡ true → o ≡ None) → id_of (cond b (Some (new_on c)) o) ≡ id_of o
declared_id_of o true c h = sym (ap id_of (h refl))
declared_id_of o false c h = refl

declared_verdict : (o : Option Transaction) (b : Bool) (c : ℕ) → (b ≡ true → o ≡ None) → verdict_of (cond b (Some (new_on c)) o) ≡ verdict_of o
declared_verdict o true c h = sym (ap verdict_of (h refl))
declared_verdict o false c h = refl

declared_sent : (o : Option Transaction) (b : Bool) (c : ℕ) → (b ≡ true → o ≡ None) → is_sent (cond b (Some (new_on c)) o) ≡ (is_sent o || false)
declared_sent o true c h = sym (ap (λ (y : Option Transaction). is_sent y || false) (h refl))
declared_sent o false c h = sym (or_false (is_sent o))

declared_awaits : (o : Option Transaction) (b : Bool) (c : ℕ) (a : Asked) → (b ≡ true → o ≡ None) → awaits_one (awaited_of (cond b (Some (new_on c)) o)) a ≡ awaits_one (awaited_of o) a + cond (b && same_asked a asked.Declare) 1 0
declared_awaits o true c a h = sym (ap (λ (y : Option Transaction). awaits_one (awaited_of y) a + cond (same_asked a asked.Declare) 1 0) (h refl) ∙ zero_add (cond (same_asked a asked.Declare) 1 0))
  where
    zero_add : (n : ℕ) → 0 + n ≡ n
    zero_add n = omega arith
declared_awaits o false c a h = sym (add-zero (awaits_one (awaited_of o) a))

pub puts_declare : (known : Controllers) (c : ℕ) → Puts known (declaring known c) (items.Declare (length known.transactions) c)
puts_declare known c = record {
  made = length-append known.transactions (new_on c ∷ []);
  links = refl;
  link = λ x. ap link_of (at_declared known c x) ∙ declared_link (slice_get known.transactions x) (x == length known.transactions) c (none_yet known x);
  id = λ x. ap id_of (at_declared known c x) ∙ declared_id_of (slice_get known.transactions x) (x == length known.transactions) c (none_yet known x);
  verdict = λ x. ap verdict_of (at_declared known c x) ∙ declared_verdict (slice_get known.transactions x) (x == length known.transactions) c (none_yet known x);
  sent = λ x. ap is_sent (at_declared known c x) ∙ declared_sent (slice_get known.transactions x) (x == length known.transactions) c (none_yet known x);
  ended = λ k. sym (or_false (has_ended (slice_get known.ended k)));
  awaits = λ x a. ap (λ o. awaits_one (awaited_of o) a) (at_declared known c x) ∙ declared_awaits (slice_get known.transactions x) (x == length known.transactions) c a (none_yet known x);
  fits = λ h x txn e. fit_at (new_on c) (slice_get known.transactions x) (x == length known.transactions) txn refl (h x) (sym (at_declared known c x) ∙ e);
}

-- ---- a discharge

abbrev changed_at : Controllers → ℕ → Transaction → ℕ → Option Transaction
changed_at known y t x = cond (x == y) (Some t) (slice_get known.transactions x)

at_changed : (known : Controllers) (y : ℕ) (t u : Transaction) (x : ℕ) → slice_get known.transactions y ≡ Some u → slice_get (with_transaction known y t).transactions x ≡ changed_at known y t x
at_changed known y t u x e = get-set known.transactions y x t (slice_get_within known.transactions y u e)

-- what the place of the transaction holds, where it is this one
the_one : (known : Controllers) (y x : ℕ) (u : Transaction) → slice_get known.transactions y ≡ Some u → (x == y) ≡ true → slice_get known.transactions x ≡ Some u
the_one known y x u e h = ap (slice_get known.transactions) (eqb-true x y h) ∙ e

sent_link : (o : Option Transaction) (b : Bool) (u : Transaction) (rb : Bool) → (b ≡ true → o ≡ Some u) → link_of (cond b (Some (discharging u rb)) o) ≡ or_else (link_of o) None
sent_link o true u rb h = sym (ap (λ (y : Option Transaction). or_else (link_of y) None) (h refl))
sent_link o false u rb h = sym (or_else-none (link_of o))

sent_id : (o : Option Transaction) (b : Bool) (u : Transaction) (rb : Bool) → (b ≡ true → o ≡ Some u) → id_of (cond b (Some (discharging u rb)) o) ≡ id_of o
sent_id o true u rb h = sym (ap id_of (h refl))
sent_id o false u rb h = refl

sent_verdict : (o : Option Transaction) (b : Bool) (u : Transaction) (rb : Bool) → (b ≡ true → o ≡ Some u) → verdict_of (cond b (Some (discharging u rb)) o) ≡ verdict_of o
sent_verdict o true u rb h = sym (ap verdict_of (h refl))
sent_verdict o false u rb h = refl

or_true : (a : Bool) → (a || true) ≡ true
or_true true = refl
or_true false = refl

sent_sent : (o : Option Transaction) (b : Bool) (u : Transaction) (rb : Bool) → (b ≡ true → o ≡ Some u) → is_sent (cond b (Some (discharging u rb)) o) ≡ (is_sent o || b)
sent_sent o true u rb h = sym (or_true (is_sent o))
sent_sent o false u rb h = sym (or_false (is_sent o))

sent_awaits : (o : Option Transaction) (b : Bool) (u : Transaction) (rb : Bool) (a : Asked) → (b ≡ true → o ≡ Some u) → u.awaits ≡ None → awaits_one (awaited_of (cond b (Some (discharging u rb)) o)) a ≡ awaits_one (awaited_of o) a + cond (b && same_asked a (asked_by rb)) 1 0
sent_awaits o true u rb a h n = sym (ap (λ (y : Option Transaction). awaits_one (awaited_of y) a + cond (same_asked a (asked_by rb)) 1 0) (h refl) ∙ ap (λ (y : Option Asked). awaits_one y a + cond (same_asked a (asked_by rb)) 1 0) n ∙ zero_add (cond (same_asked a (asked_by rb)) 1 0))
  where
    zero_add : (n : ℕ) → 0 + n ≡ n
    zero_add n = omega arith
sent_awaits o false u rb a h n = sym (add-zero (awaits_one (awaited_of o) a))

sent_fits : (u : Transaction) (rb : Bool) → AwaitsFit (discharging u rb) (Some (asked_by rb))
sent_fits u true = refl
sent_fits u false = refl

pub puts_discharge : (known : Controllers) (y k : ℕ) (u : Transaction) (id : TransactionId) (rb : Bool) → slice_get known.transactions y ≡ Some u → u.awaits ≡ None → Puts known (with_transaction known y (discharging u rb)) (items.Discharge y k id rb)
puts_discharge known y k u id rb e n = record {
  made = length-set known.transactions y (discharging u rb) ∙ sym (add-zero (length known.transactions));
  links = refl;
  link = λ x. ap link_of (at_changed known y (discharging u rb) u x e) ∙ sent_link (slice_get known.transactions x) (x == y) u rb (the_one known y x u e);
  id = λ x. ap id_of (at_changed known y (discharging u rb) u x e) ∙ sent_id (slice_get known.transactions x) (x == y) u rb (the_one known y x u e);
  verdict = λ x. ap verdict_of (at_changed known y (discharging u rb) u x e) ∙ sent_verdict (slice_get known.transactions x) (x == y) u rb (the_one known y x u e);
  sent = λ x. ap is_sent (at_changed known y (discharging u rb) u x e) ∙ sent_sent (slice_get known.transactions x) (x == y) u rb (the_one known y x u e);
  ended = λ c. sym (or_false (has_ended (slice_get known.ended c)));
  awaits = λ x a. ap (λ o. awaits_one (awaited_of o) a) (at_changed known y (discharging u rb) u x e) ∙ sent_awaits (slice_get known.transactions x) (x == y) u rb a (the_one known y x u e) n;
  fits = λ h x txn f. fit_at (discharging u rb) (slice_get known.transactions x) (x == y) txn (sent_fits u rb) (h x) (sym (at_changed known y (discharging u rb) u x e) ∙ f);
}

-- ---- a link's end

ended_at : (o : Option Bool) (b : Bool) → has_ended (cond b (Some true) o) ≡ (has_ended o || b)
ended_at o true = sym (or_true (has_ended o))
ended_at o false = sym (or_false (has_ended o))

eqb-comm : (m n : ℕ) → (m == n) ≡ (n == m)
eqb-comm m n =
    elim (test_eq m n) [
      | inl h ↦ elim (test_eq n m) [ inl g ↦ h.0 ∙ sym g.0 | inr g ↦ absurd (g.1 (sym h.1)) ]
      | inr h ↦ elim (test_eq n m) [ inl g ↦ absurd (h.1 (sym g.1)) | inr g ↦ h.0 ∙ sym g.0 ]
    ]

pub puts_end : (known : Controllers) (k : ℕ) → k < length known.ended → Puts known (ending known k) (items.LinkEnd k)
puts_end known k l = record {
  made = sym (add-zero (length known.transactions));
  links = length-set known.ended k true;
  link = λ x. sym (or_else-none (link_of (slice_get known.transactions x)));
  id = λ x. refl;
  verdict = λ x. refl;
  sent = λ x. sym (or_false (is_sent (slice_get known.transactions x)));
  ended = λ c. ap has_ended (get-set known.ended k c true l) ∙ ended_at (slice_get known.ended c) (c == k) ∙ ap (λ b. has_ended (slice_get known.ended c) || b) (eqb-comm c k);
  awaits = λ x a. sym (add-zero (awaits_one (awaited_of (slice_get known.transactions x)) a));
  fits = λ h. h;
}

-- ---- an arrival puts nothing

pub forward-answered : (w : Exchange) (i : Item) (rest : List Item) (drawn : DrawnIds) (reply : Reply) → w.waiting ≡ i ∷ rest → forward (with_answer w i rest drawn reply) ≡ forward w
forward-answered w i rest drawn reply e = ap (λ l. l ++ rest) (items-snoc w.came i (entry_by (step_of i) drawn reply)) ∙ append_assoc (items_of w.came) (i ∷ []) rest ∙ ap (λ l. items_of w.came ++ l) (sym e)

-- an item asks for what it is answered
asks_one : (x : ℕ) (a : Asked) (i : Item) (reply : Reply) → count_by (is_answer_to x a) (answers i reply) ≡ cond (is_asking x a i) 1 0
asks_one x a (items.Declare y k) reply = zero-add (cond ((x == y) && same_asked a asked.Declare) 1 0)
asks_one x a (items.Discharge y k id rb) reply = zero-add (cond ((x == y) && same_asked a (asked_by rb)) 1 0)
asks_one x a (items.LinkEnd k) reply = refl
asks_one x a (items.Frame frame) reply = refl

pub tabled_answered : (known : Controllers) (w : Exchange) (i : Item) (rest : List Item) (drawn : DrawnIds) (reply : Reply) → Tabled known w → w.waiting ≡ i ∷ rest → Tabled known (with_answer w i rest drawn reply)
tabled_answered known w i rest drawn reply t e =
    let same = forward-answered w i rest drawn reply e in
    record {
      made = t.made ∙ sym (ap made_in same);
      links = t.links;
      link = λ x. t.link x ∙ sym (ap (controller_in x) same);
      id = t.id;
      verdict = t.verdict;
      sent = λ x. t.sent x ∙ sym (ap (list_any (is_discharge x)) same);
      ended = λ c. t.ended c ∙ sym (ap (list_any (ends_link c)) same);
      awaits = λ x a.
          let before = t.awaits x a in
          let first : count_by (is_asking x a) w.waiting ≡ cond (is_asking x a i) 1 0 + count_by (is_asking x a) rest = ap (count_by (is_asking x a)) e ∙ count-cons (is_asking x a) i rest in
          let back = sum_by-append (λ y. cond (is_answer_to x a y) 1 0) w.coming (answers i reply) in
          let one = asks_one x a i reply in
          omega (arith, before, first, back, one);
      fits = t.fits;
    }

-- ---- a return

-- the request of the answer that comes first is outstanding
pub awaited_first : (known : Controllers) (w : Exchange) (answer : Answered) (rest : List Answered) → Tabled known w → w.coming ≡ answer ∷ rest → (t : Transaction) × (slice_get known.transactions answer.txn ≡ Some t) × (t.awaits ≡ Some answer.asked)
awaited_first known w answer rest t e = found (slice_get known.transactions answer.txn) refl
  where
    same_self : (a : Asked) → same_asked a a ≡ true
    same_self asked.Declare = refl
    same_self asked.Commit = refl
    same_self asked.Rollback = refl

    own : is_answer_to answer.txn answer.asked answer ≡ true
    own = elim (test_eq answer.txn answer.txn) [ inl h ↦ ap (λ b. b && same_asked answer.asked answer.asked) h.0 ∙ same_self answer.asked | inr h ↦ absurd (h.1 refl) ]

    some : 1 ≤ outstanding w answer.txn answer.asked
    some =
        let first : count_by (is_answer_to answer.txn answer.asked) w.coming ≡ cond (is_answer_to answer.txn answer.asked answer) 1 0 + count_by (is_answer_to answer.txn answer.asked) rest = ap (count_by (is_answer_to answer.txn answer.asked)) e ∙ count-cons (is_answer_to answer.txn answer.asked) answer rest in
        let one : ◌≡◌ {A = ℕ} (cond (is_answer_to answer.txn answer.asked answer) 1 0) 1 = ap (λ (b : Bool). let n : ℕ = cond b 1 0 in n) own in
        omega (arith, first, one)

    awaits : 1 ≤ awaits_one (awaited_of (slice_get known.transactions answer.txn)) answer.asked
    awaits = let a = t.awaits answer.txn answer.asked in let s = some in omega (arith, a, s)

    which : (b a : Asked) → 1 ≤ cond (same_asked a b) 1 0 → b ≡ a
    which asked.Declare asked.Declare h = refl
    which asked.Commit asked.Commit h = refl
    which asked.Rollback asked.Rollback h = refl
    which asked.Declare asked.Commit h = absurd (omega arith)
    which asked.Declare asked.Rollback h = absurd (omega arith)
    which asked.Commit asked.Declare h = absurd (omega arith)
    which asked.Commit asked.Rollback h = absurd (omega arith)
    which asked.Rollback asked.Declare h = absurd (omega arith)
    which asked.Rollback asked.Commit h = absurd (omega arith)

    what : (o : Option Asked) → 1 ≤ awaits_one o answer.asked → o ≡ Some answer.asked
    what None h = absurd (omega arith)
    what (Some b) h = ap Some (which b answer.asked h)

    found : (o : Option Transaction) → slice_get known.transactions answer.txn ≡ o → (t : Transaction) × (slice_get known.transactions answer.txn ≡ Some t) × (t.awaits ≡ Some answer.asked)
    found None h = absurd (no (subst (λ (y : Option Transaction). 1 ≤ awaits_one (awaited_of y) answer.asked) h awaits))
      where
        no : 1 ≤ 0 → ⊥
        no l = omega arith
    found (Some u) h = (u, h, what u.awaits (subst (λ (y : Option Transaction). 1 ≤ awaits_one (awaited_of y) answer.asked) h awaits))

heard_link : (o : Option Transaction) (b : Bool) (u : Transaction) (answer : Answered) → (b ≡ true → o ≡ Some u) → link_of (cond b (Some (hearing u answer)) o) ≡ link_of o
heard_link o true u answer h = sym (ap link_of (h refl))
heard_link o false u answer h = refl

heard_sent : (o : Option Transaction) (b : Bool) (u : Transaction) (answer : Answered) → (b ≡ true → o ≡ Some u) → is_sent (cond b (Some (hearing u answer)) o) ≡ is_sent o
heard_sent o true u answer h = sym (ap is_sent (h refl))
heard_sent o false u answer h = refl

heard_id : (o : Option Transaction) (b : Bool) (u : Transaction) (answer : Answered) → (b ≡ true → o ≡ Some u) → id_of (cond b (Some (hearing u answer)) o) ≡ or_else (id_of o) (cond b (declared_id answer.asked answer.state) None)
heard_id o true u answer h = sym (ap (λ (y : Option Transaction). or_else (id_of y) (declared_id answer.asked answer.state)) (h refl))
heard_id o false u answer h = sym (or_else-none (id_of o))

heard_verdict : (o : Option Transaction) (b : Bool) (u : Transaction) (answer : Answered) → (b ≡ true → o ≡ Some u) → verdict_of (cond b (Some (hearing u answer)) o) ≡ or_else (verdict_of o) (cond b (verdict answer.asked answer.state) None)
heard_verdict o true u answer h = sym (ap (λ (y : Option Transaction). or_else (verdict_of y) (verdict answer.asked answer.state)) (h refl))
heard_verdict o false u answer h = sym (or_else-none (verdict_of o))

heard_awaits : (o : Option Transaction) (b : Bool) (u : Transaction) (answer : Answered) (a : Asked) → (b ≡ true → o ≡ Some u) → u.awaits ≡ Some answer.asked → awaits_one (awaited_of o) a ≡ awaits_one (awaited_of (cond b (Some (hearing u answer)) o)) a + cond (b && same_asked a answer.asked) 1 0
heard_awaits o true u answer a h n = ap (λ (y : Option Transaction). awaits_one (awaited_of y) a) (h refl) ∙ ap (λ (y : Option Asked). awaits_one y a) n ∙ sym (zero_add (cond (same_asked a answer.asked) 1 0))
  where
    zero_add : (n : ℕ) → 0 + n ≡ n
    zero_add n = omega arith
heard_awaits o false u answer a h n = sym (add-zero (awaits_one (awaited_of o) a))

pub id-heard : (x : ℕ) (told : List Answered) (answer : Answered) → id_in x (told ++ answer ∷ []) ≡ or_else (id_in x told) (cond (x == answer.txn) (declared_id answer.asked answer.state) None)
id-heard x told answer = id_in-append x told (answer ∷ []) ∙ ap (or_else (id_in x told)) (or_else-none (cond (x == answer.txn) (declared_id answer.asked answer.state) None))

pub verdict-heard : (x : ℕ) (told : List Answered) (answer : Answered) → verdict_in x (told ++ answer ∷ []) ≡ or_else (verdict_in x told) (cond (x == answer.txn) (verdict answer.asked answer.state) None)
verdict-heard x told answer = verdict_in-append x told (answer ∷ []) ∙ ap (or_else (verdict_in x told)) (or_else-none (cond (x == answer.txn) (verdict answer.asked answer.state) None))

pub tabled_heard : (known : Controllers) (w : Exchange) (answer : Answered) (rest : List Answered) (u : Transaction) → Tabled known w → w.coming ≡ answer ∷ rest → slice_get known.transactions answer.txn ≡ Some u → u.awaits ≡ Some answer.asked → Tabled (with_transaction known answer.txn (hearing u answer)) (with_heard w answer rest)
tabled_heard known w answer rest u t c e n =
    let y = answer.txn in
    let v = hearing u answer in
    record {
      made = length-set known.transactions y v ∙ t.made;
      links = t.links;
      link = λ x. ap link_of (at_changed known y v u x e) ∙ heard_link (slice_get known.transactions x) (x == y) u answer (the_one known y x u e) ∙ t.link x;
      id = λ x. ap id_of (at_changed known y v u x e) ∙ heard_id (slice_get known.transactions x) (x == y) u answer (the_one known y x u e) ∙ ap (λ o. or_else o (cond (x == y) (declared_id answer.asked answer.state) None)) (t.id x) ∙ sym (id-heard x w.told answer);
      verdict = λ x. ap verdict_of (at_changed known y v u x e) ∙ heard_verdict (slice_get known.transactions x) (x == y) u answer (the_one known y x u e) ∙ ap (λ o. or_else o (cond (x == y) (verdict answer.asked answer.state) None)) (t.verdict x) ∙ sym (verdict-heard x w.told answer);
      sent = λ x. ap is_sent (at_changed known y v u x e) ∙ heard_sent (slice_get known.transactions x) (x == y) u answer (the_one known y x u e) ∙ t.sent x;
      ended = t.ended;
      awaits = λ x a.
          let before = t.awaits x a in
          let now = ap (λ o. awaits_one (awaited_of o) a) (at_changed known y v u x e) in
          let one = heard_awaits (slice_get known.transactions x) (x == y) u answer a (the_one known y x u e) n in
          let first : count_by (is_answer_to x a) w.coming ≡ cond ((x == y) && same_asked a answer.asked) 1 0 + count_by (is_answer_to x a) rest = ap (count_by (is_answer_to x a)) c ∙ count-cons (is_answer_to x a) answer rest in
          omega (arith, before, now, one, first);
      fits = λ x txn f. fit_at v (slice_get known.transactions x) (x == y) txn tt (t.fits x) (sym (at_changed known y v u x e) ∙ f);
    }

-- ---- what doesn't change the wires

-- the same table, where items and answers are the same
pub tabled_same : (known : Controllers) (w new : Exchange) → Tabled known w → new.first ≡ w.first → new.came ≡ w.came → new.waiting ≡ w.waiting → new.told ≡ w.told → new.coming ≡ w.coming → Tabled known new
tabled_same known w new t a b c d e =
    let same : forward new ≡ forward w = ap (λ l. items_of l ++ new.waiting) b ∙ ap (λ l. items_of w.came ++ l) c in
    record {
      made = t.made ∙ sym (ap made_in same);
      links = t.links ∙ sym (ap (λ (l : List Entry). length l) a);
      link = λ x. t.link x ∙ sym (ap (controller_in x) same);
      id = λ x. t.id x ∙ sym (ap (id_in x) d);
      verdict = λ x. t.verdict x ∙ sym (ap (verdict_in x) d);
      sent = λ x. t.sent x ∙ sym (ap (list_any (is_discharge x)) same);
      ended = λ k. t.ended k ∙ sym (ap (list_any (ends_link k)) same);
      awaits = λ x y. t.awaits x y ∙ sym (ap (λ l. count_by (is_asking x y) l + count_by (is_answer_to x y) new.coming) c ∙ ap (λ l. count_by (is_asking x y) w.waiting + count_by (is_answer_to x y) l) e);
      fits = t.fits;
    }
