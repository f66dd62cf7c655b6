-- What items of earlier transactions say of a later one: nothing.
use Rattle.std.proofs.Common.{◌≡◌, ℕ, suc, ◌+◌, ◌≤◌, Bool, false, cond, ◌||◌, Some, None, List, [], ◌∷◌, ◌++◌, length, refl, ◌∙◌, ap, arith}
use Rattle.std.specs.Prelude.{◌==◌}
use Rattle.std.specs.List.{list_any, AllByRecursion}
use Rattle.std.proofs.lemmas.List.{map-append}
use Rattle.std.proofs.lemmas.List.Concat.{flat_map-append}
use Rattle.std.proofs.lemmas.Bool.{eqb-true, false_from_ne_true}
use Rattle.amqp_resource_record.specs.declared.entry.Entry.{Entry}
use Rattle.amqp_resource_record.specs.declared.reply.Reply.{Reply}
use Rattle.txn_parties.specs.declared.item.Item.{Item}
use Rattle.txn_parties.specs.declared.item.Item.TheVariants as items
use Rattle.txn_parties.specs.declared.item.Asked.TheVariants as asked
use Rattle.txn_parties.specs.BackWire.{answers, asked_by, declared_id, id_in, state_of, verdict, verdict_in}
use Rattle.txn_parties.specs.Exchange.{back_of, entries_of, items_of}
use Rattle.txn_parties.specs.Items.{controller_in, declares_on, ends_link, is_declare, is_discharge, item_ends, or_else}
use Rattle.txn_parties.specs.Lives.{Life, Unborn, born, fate_from, next_life, unborn_next}
use Rattle.txn_parties.proofs.Wires.{id_in-append, verdict_in-append}
use Rattle.txn_relay.specs.Stages.{IsBelow}

pub not_same : (x y : ℕ) → (x ≡ y → ⊥) → (x == y) ≡ false
not_same x y differ = false_from_ne_true (x == y) (λ e. differ (eqb-true x y e))

-- all of these items are of transactions below n
abbrev pub AllBelow : ℕ → List (Item × Entry) → Type 0
AllBelow n past = AllByRecursion (λ (p : Item × Entry). IsBelow n p.0) past

-- ---- lists that are joined

pub items-append : (a b : List (Item × Entry)) → items_of (a ++ b) ≡ items_of a ++ items_of b
items-append a b = map-append (λ (p : Item × Entry). p.0) a b

pub entries-append : (a b : List (Item × Entry)) → entries_of (a ++ b) ≡ entries_of a ++ entries_of b
entries-append a b = map-append (λ (p : Item × Entry). p.1) a b

pub back-append : (a b : List (Item × Entry)) → back_of (a ++ b) ≡ back_of a ++ back_of b
back-append a b = flat_map-append (λ (p : Item × Entry). answers p.0 p.1.reply) a b

pub fate-append : (x n : ℕ) (life : Life) (a b : List (Item × Entry)) → fate_from x n life (a ++ b) ≡ fate_from x (n + length a) (fate_from x n life a) b
fate-append x n life [] b = let e : n ≡ n + 0 = omega arith in ap (λ k. fate_from x k life b) e
fate-append x n life (p ∷ a) b =
    let e : n + 1 + length a ≡ n + suc (length a) = omega arith in
    fate-append x (n + 1) (next_life x n life p.0 p.1.reply) a b
    ∙ ap (λ k. fate_from x k (fate_from x (n + 1) (next_life x n life p.0 p.1.reply) a) b) e

pub all-append : (P : Item × Entry → Type 0) (a b : List (Item × Entry)) → AllByRecursion P a → AllByRecursion P b → AllByRecursion P (a ++ b)
all-append P [] b h g = g
all-append P (p ∷ a) b h g = (h.0, all-append P a b h.1 g)

below_more : (n : ℕ) (i : Item) → IsBelow n i → IsBelow (suc n) i
below_more n (items.Declare y k) h = omega (arith, h)
below_more n (items.Discharge y k u rb) h = omega (arith, h)
below_more n (items.LinkEnd k) h = h
below_more n (items.Frame frame) h = tt

pub all_more : (n : ℕ) (past : List (Item × Entry)) → AllBelow n past → AllBelow (suc n) past
all_more n [] h = tt
all_more n (p ∷ past) h = (below_more n p.0 h.0, all_more n past h.1)

-- ---- what no item is

none_of : (P : Item → Bool) (n : ℕ) → ((i : Item) → IsBelow n i → P i ≡ false) → (past : List (Item × Entry)) → AllBelow n past → list_any P (items_of past) ≡ false
none_of P n each [] all = refl
none_of P n each (p ∷ past) all = ap (λ b. b || list_any P (items_of past)) (each p.0 all.0) ∙ none_of P n each past all.1

declare_not : (x n : ℕ) → n ≤ x → (i : Item) → IsBelow n i → is_declare x i ≡ false
declare_not x n le (items.Declare y k) h = not_same x y (λ e. omega (arith, e, h, le))
declare_not x n le (items.Discharge y k u rb) h = refl
declare_not x n le (items.LinkEnd k) h = refl
declare_not x n le (items.Frame frame) h = refl

discharge_not : (x n : ℕ) → n ≤ x → (i : Item) → IsBelow n i → is_discharge x i ≡ false
discharge_not x n le (items.Declare y k) h = refl
discharge_not x n le (items.Discharge y k u rb) h = not_same x y (λ e. omega (arith, e, h, le))
discharge_not x n le (items.LinkEnd k) h = refl
discharge_not x n le (items.Frame frame) h = refl

link_end_not : (n l : ℕ) (i : Item) → IsBelow n i → ends_link l i ≡ false
link_end_not n l (items.Declare y k) h = refl
link_end_not n l (items.Discharge y k u rb) h = refl
link_end_not n l (items.LinkEnd k) h = absurd h
link_end_not n l (items.Frame frame) h = refl

ends_not : (x n l : ℕ) → n ≤ x → (i : Item) → IsBelow n i → item_ends x l i ≡ false
ends_not x n l le i h = ap (λ b. b || ends_link l i) (discharge_not x n le i h) ∙ link_end_not n l i h

declares_not : (x n : ℕ) → n ≤ x → (i : Item) → IsBelow n i → declares_on x i ≡ None
declares_not x n le (items.Declare y k) h = ap (λ b. cond b (Some k) None) (not_same x y (λ e. omega (arith, e, h, le)))
declares_not x n le (items.Discharge y k u rb) h = refl
declares_not x n le (items.LinkEnd k) h = refl
declares_not x n le (items.Frame frame) h = refl

pub no_declare : (x n : ℕ) → n ≤ x → (past : List (Item × Entry)) → AllBelow n past → list_any (is_declare x) (items_of past) ≡ false
no_declare x n le past all = none_of (is_declare x) n (declare_not x n le) past all

pub no_discharge : (x n : ℕ) → n ≤ x → (past : List (Item × Entry)) → AllBelow n past → list_any (is_discharge x) (items_of past) ≡ false
no_discharge x n le past all = none_of (is_discharge x) n (discharge_not x n le) past all

pub no_link_end : (n l : ℕ) → (past : List (Item × Entry)) → AllBelow n past → list_any (ends_link l) (items_of past) ≡ false
no_link_end n l past all = none_of (ends_link l) n (link_end_not n l) past all

pub no_end : (x n l : ℕ) → n ≤ x → (past : List (Item × Entry)) → AllBelow n past → list_any (item_ends x l) (items_of past) ≡ false
no_end x n l le past all = none_of (item_ends x l) n (ends_not x n l le) past all

pub no_controller : (x n : ℕ) → n ≤ x → (past : List (Item × Entry)) → AllBelow n past → controller_in x (items_of past) ≡ None
no_controller x n le [] all = refl
no_controller x n le (p ∷ past) all = ap (λ o. or_else o (controller_in x (items_of past))) (declares_not x n le p.0 all.0) ∙ no_controller x n le past all.1

-- ---- what it heard and what became of it

id_not : (x n : ℕ) → n ≤ x → (i : Item) (reply : Reply) → IsBelow n i → id_in x (answers i reply) ≡ None
id_not x n le (items.Declare y k) reply h = ap (λ b. or_else (cond b (declared_id asked.Declare (state_of reply)) None) None) (not_same x y (λ e. omega (arith, e, h, le)))
id_not x n le (items.Discharge y k u rb) reply h = ap (λ b. or_else (cond b (declared_id (asked_by rb) (state_of reply)) None) None) (not_same x y (λ e. omega (arith, e, h, le)))
id_not x n le (items.LinkEnd k) reply h = refl
id_not x n le (items.Frame frame) reply h = refl

verdict_not : (x n : ℕ) → n ≤ x → (i : Item) (reply : Reply) → IsBelow n i → verdict_in x (answers i reply) ≡ None
verdict_not x n le (items.Declare y k) reply h = ap (λ b. or_else (cond b (verdict asked.Declare (state_of reply)) None) None) (not_same x y (λ e. omega (arith, e, h, le)))
verdict_not x n le (items.Discharge y k u rb) reply h = ap (λ b. or_else (cond b (verdict (asked_by rb) (state_of reply)) None) None) (not_same x y (λ e. omega (arith, e, h, le)))
verdict_not x n le (items.LinkEnd k) reply h = refl
verdict_not x n le (items.Frame frame) reply h = refl

pub no_id : (x n : ℕ) → n ≤ x → (past : List (Item × Entry)) → AllBelow n past → id_in x (back_of past) ≡ None
no_id x n le [] all = refl
no_id x n le (p ∷ past) all =
    id_in-append x (answers p.0 p.1.reply) (back_of past)
    ∙ ap (λ o. or_else o (id_in x (back_of past))) (id_not x n le p.0 p.1.reply all.0) ∙ no_id x n le past all.1

pub no_verdict : (x n : ℕ) → n ≤ x → (past : List (Item × Entry)) → AllBelow n past → verdict_in x (back_of past) ≡ None
no_verdict x n le [] all = refl
no_verdict x n le (p ∷ past) all =
    verdict_in-append x (answers p.0 p.1.reply) (back_of past)
    ∙ ap (λ o. or_else o (verdict_in x (back_of past))) (verdict_not x n le p.0 p.1.reply all.0) ∙ no_verdict x n le past all.1

unborn_not : (x n p : ℕ) → n ≤ x → (i : Item) (reply : Reply) → IsBelow n i → unborn_next x p i reply ≡ Unborn
unborn_not x n p le (items.Declare y k) reply h = ap (λ b. cond b (born p k reply) Unborn) (not_same x y (λ e. omega (arith, e, h, le)))
unborn_not x n p le (items.Discharge y k u rb) reply h = refl
unborn_not x n p le (items.LinkEnd k) reply h = refl
unborn_not x n p le (items.Frame frame) reply h = refl

pub unborn : (x n p : ℕ) → n ≤ x → (past : List (Item × Entry)) → AllBelow n past → fate_from x p Unborn past ≡ Unborn
unborn x n p le [] all = refl
unborn x n p le (q ∷ past) all = ap (λ l. fate_from x (p + 1) l past) (unborn_not x n p le q.0 q.1.reply all.0) ∙ unborn x n (p + 1) le past all.1
