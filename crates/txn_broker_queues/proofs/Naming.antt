-- The names of the queues differ, and are those that some frame attached a link to.
use Rattle.txn_broker_queues.proofs.Words.{Bool, Frame, List, None, Option, Some, [], ap, arith, cond, cons_option, eqb_tells, false, filter_map, inl, inr, length, list_any, none-some, pointwise, nat_eq, refl, same_Some, slice_get, slice_get_within, suc, sym, true, ℕ, ◌++◌, ◌+◌, ◌<◌, ◌==◌, ◌||◌, ◌∙◌, ◌∷◌, ◌≡◌}
use Rattle.std.specs.Prelude.{position}
use Rattle.std.specs.List.{IsDistinct, position_from}
use Rattle.std.proofs.Common.{get_or}
use Rattle.std.proofs.lemmas.Bool.Decides.{leb_tells}
use Rattle.std.proofs.lemmas.Cmp.{nat_list_eq_equiv}
use Rattle.std.proofs.lemmas.Iterator.Adapters.{position_from-zero}
use Rattle.std.proofs.lemmas.List.Folds.{list_any-append}
use Rattle.std.proofs.lemmas.Map.Keys.{IsDistinct-push, any_passes_from_place, apart_from_distinct}
use Rattle.std.proofs.lemmas.Map.Steps.{list_any_congr}
use Rattle.std.proofs.lemmas.Option.{get_or_from_slice_get}
use Rattle.std.specs.Cmp.Lexicographic.{same_text}
use Rattle.indexmap.specs.IndexSet.{insert_all, insert_key}
use Rattle.amqp_txn_types.specs.declared.performatives.Frame.TheVariants as frames
use Rattle.txn_broker_queues.specs.Keeping.{attached_address, queue_names}
use Rattle.txn_broker_queues.specs.Queues.{address_of, attaches, is_address, queue, queue_found}

abbrev pub same_name : List ℕ → List ℕ → Bool
same_name a b = pointwise nat_eq a b

-- ---- they differ

insert_distinct : (names : List (List ℕ)) (name : List ℕ) → IsDistinct same_name names → IsDistinct same_name (insert_key same_name names name)
insert_distinct names name distinct = by_case (list_any (same_name name) names) refl
  where
    by_case : (b : Bool) → list_any (same_name name) names ≡ b → IsDistinct same_name (cond b names (names ++ name ∷ []))
    by_case true e = distinct
    by_case false e = IsDistinct-push nat_list_eq_equiv names name distinct e

all_distinct : (names more : List (List ℕ)) → IsDistinct same_name names → IsDistinct same_name (insert_all same_name names more)
all_distinct names [] distinct = distinct
all_distinct names (x ∷ more) distinct = all_distinct (insert_key same_name names x) more (insert_distinct names x distinct)

none_distinct : IsDistinct same_name []
unfolding IsDistinct
none_distinct = tt

pub names_distinct : (taken : List Frame) → IsDistinct same_name (queue_names taken)
names_distinct taken = all_distinct [] (filter_map attached_address taken) none_distinct

apart : (names : List (List ℕ)) (i j : ℕ) (a b : List ℕ) → IsDistinct same_name names → i < j → slice_get names i ≡ Some a → slice_get names j ≡ Some b → same_name a b ≡ false
apart names i j a b distinct below at there =
    ap (λ x. same_name x b) (sym (get_or_from_slice_get names i a [] at))
    ∙ ap (same_name (get_or names i [])) (sym (get_or_from_slice_get names j b [] there))
    ∙ apart_from_distinct same_name names i j [] distinct below (slice_get_within names j b there)

-- a queue's name decides as its number does
pub name_decides : (names : List (List ℕ)) (k q : ℕ) (a name : List ℕ) → IsDistinct same_name names → slice_get names k ≡ Some a → slice_get names q ≡ Some name → same_name a name ≡ (k == q)
name_decides names k q a name distinct at there =
    elim (eqb_tells k q) [
      | inl p ↦
          ap (λ x. same_name x name) (same_Some a name (sym at ∙ ap (slice_get names) p.1 ∙ there))
          ∙ nat_list_eq_equiv.refl name ∙ sym p.0
      | inr p ↦ elim (leb_tells q k) [
        | inl g ↦
            let above : q < k = omega (arith, g.1, p.1) in
            nat_list_eq_equiv.symm a name ∙ apart names q k name a distinct above there at ∙ sym p.0
        | inr l ↦ apart names k q a name distinct l.1 at there ∙ sym p.0
      ]
    ]

-- ---- which they are

or_no : (b : Bool) → (b || false) ≡ b
or_no true = refl
or_no false = refl

or_assoc : (a b c : Bool) → ((a || b) || c) ≡ (a || (b || c))
or_assoc true b c = refl
or_assoc false b c = refl

absorbed : (a b : Bool) → (b ≡ true → a ≡ true) → a ≡ (a || b)
absorbed true b so = refl
absorbed false true so = so refl
absorbed false false so = refl

any_insert : (name : List ℕ) (names : List (List ℕ)) (k : List ℕ) → list_any (same_name name) (insert_key same_name names k) ≡ (list_any (same_name name) names || same_name name k)
any_insert name names k = by_case (list_any (same_name k) names) refl
  where
    by_case : (b : Bool) → list_any (same_name k) names ≡ b → list_any (same_name name) (cond b names (names ++ k ∷ [])) ≡ (list_any (same_name name) names || same_name name k)
    by_case true e =
        absorbed (list_any (same_name name) names) (same_name name k)
        (λ so. list_any_congr nat_list_eq_equiv name k names so ∙ e)
    by_case false e =
        list_any-append (same_name name) names (k ∷ [])
        ∙ ap (λ b. list_any (same_name name) names || b) (or_no (same_name name k))

any_all : (name : List ℕ) (names more : List (List ℕ)) → list_any (same_name name) (insert_all same_name names more) ≡ (list_any (same_name name) names || list_any (same_name name) more)
any_all name names [] = sym (or_no (list_any (same_name name) names))
any_all name names (x ∷ more) =
    any_all name (insert_key same_name names x) more
    ∙ ap (λ b. b || list_any (same_name name) more) (any_insert name names x)
    ∙ or_assoc (list_any (same_name name) names) (same_name name x) (list_any (same_name name) more)

any_attached : (name : List ℕ) (taken : List Frame) → list_any (same_name name) (filter_map attached_address taken) ≡ list_any (attaches name) taken
any_attached name [] = refl
any_attached name (frames.Attach attach ∷ taken) = by_case (address_of attach) (any_attached name taken)
  where
    by_case : (o : Option (List ℕ)) → list_any (same_name name) (filter_map attached_address taken) ≡ list_any (attaches name) taken
        → list_any (same_name name) (cons_option o (filter_map attached_address taken)) ≡ (is_address name o || list_any (attaches name) taken)
    by_case None rest = rest
    by_case (Some address) rest = ap (λ b. same_name name address || b) rest
any_attached name (frames.Flow flow ∷ taken) = any_attached name taken
any_attached name (frames.Transfer transfer payload ∷ taken) = any_attached name taken
any_attached name (frames.Disposition d ∷ taken) = any_attached name taken
any_attached name (frames.Detach detach ∷ taken) = any_attached name taken

-- a name is one of them where some frame attached a link to it
pub any_named : (name : List ℕ) (taken : List Frame) → list_any (same_name name) (queue_names taken) ≡ list_any (attaches name) taken
any_named name taken = any_all name [] (filter_map attached_address taken) ∙ any_attached name taken

-- ---- where a name stands

-- a name that was found is there
pub record Stands (names : List (List ℕ)) (name : List ℕ) (q : ℕ) : Type 0 where
  pub at : slice_get names q ≡ Some name
  pub any : list_any (same_name name) names ≡ true

found_from : (names : List (List ℕ)) (name : List ℕ) (i q : ℕ) → position_from (same_name name) i names ≡ Some q
    → (d : ℕ) × (q ≡ i + d) × (slice_get names d ≡ Some name)
found_from [] name i q e = absurd (none-some q e)
found_from (x ∷ names) name i q e = by_case (same_name name x) refl (λ later. found_from names name (i + 1) q later) e
  where
    by_case : (b : Bool) → same_name name x ≡ b
        → (position_from (same_name name) (i + 1) names ≡ Some q → (d : ℕ) × (q ≡ i + 1 + d) × (slice_get names d ≡ Some name))
        → cond b (Some i) (position_from (same_name name) (i + 1) names) ≡ Some q
        → (d : ℕ) × (q ≡ i + d) × (slice_get (x ∷ names) d ≡ Some name)
    by_case true so later is = (0, omega (arith, same_Some i q is), ap Some (sym (same_text name x (sym so))))
    by_case false un later is = let rest = later is in (suc rest.0, omega (arith, rest.1), rest.2)

pub name_found : (names : List (List ℕ)) (name : List ℕ) (q : ℕ) → position (same_name name) names ≡ Some q → Stands names name q
name_found names name q e =
    let found = found_from names name 0 q (sym (position_from-zero (same_name name) names) ∙ e) in
    let same : q ≡ found.0 = omega (arith, found.1) in
    let at : slice_get names q ≡ Some name = ap (slice_get names) same ∙ found.2 in
    record {
      at = at;
      any = any_passes_from_place (same_name name) names q name at (nat_list_eq_equiv.refl name);
    }

none_from : (names : List (List ℕ)) (name : List ℕ) (i : ℕ) → position_from (same_name name) i names ≡ None → list_any (same_name name) names ≡ false
none_from [] name i e = refl
none_from (x ∷ names) name i e = by_case (same_name name x) (λ later. none_from names name (i + 1) later) e
  where
    by_case : (b : Bool) → (position_from (same_name name) (i + 1) names ≡ None → list_any (same_name name) names ≡ false)
        → cond b (Some i) (position_from (same_name name) (i + 1) names) ≡ None → (b || list_any (same_name name) names) ≡ false
    by_case true later is = absurd (none-some i (sym is))
    by_case false later is = later is

-- a name that wasn't found isn't there
pub name_missing : (names : List (List ℕ)) (name : List ℕ) → position (same_name name) names ≡ None → list_any (same_name name) names ≡ false
name_missing names name e = none_from names name 0 (sym (position_from-zero (same_name name) names) ∙ e)

-- a name that is there isn't added
pub name_stays : (names : List (List ℕ)) (name : List ℕ) → list_any (same_name name) names ≡ true → names ≡ insert_key same_name names name
name_stays names name so = ap (λ b. cond b names (names ++ name ∷ [])) (sym so)

-- a name that isn't is added at the end
pub name_added : (names : List (List ℕ)) (name : List ℕ) → position (same_name name) names ≡ None → names ++ name ∷ [] ≡ insert_key same_name names name
name_added names name none = ap (λ b. cond b names (names ++ name ∷ [])) (sym (name_missing names name none))

-- there it stands
pub added_here : (names : List (List ℕ)) (name : List ℕ) → slice_get (names ++ name ∷ []) (length names) ≡ Some name
added_here [] name = refl
added_here (x ∷ names) name = added_here names name

-- the queue of a name that was found
pub found_queue : (taken : List Frame) (names : List (List ℕ)) (name : List ℕ) → names ≡ queue_names taken → list_any (same_name name) names ≡ true
    → Some (queue taken name) ≡ queue_found taken name
found_queue taken names name same so =
    sym (ap (λ b. cond b (Some (queue taken name)) None) (sym (any_named name taken) ∙ ap (list_any (same_name name)) (sym same) ∙ so))

-- there is none of one that wasn't
pub missing_queue : (taken : List Frame) (names : List (List ℕ)) (name : List ℕ) → names ≡ queue_names taken → list_any (same_name name) names ≡ false → None ≡ queue_found taken name
missing_queue taken names name same un =
    sym (ap (λ b. cond b (Some (queue taken name)) None) (sym (any_named name taken) ∙ ap (list_any (same_name name)) (sym same) ∙ un))
