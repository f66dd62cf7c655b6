-- Properties of which no two have the same key.
use Rattle.std.proofs.Common.{◌≡◌, Bool, false, List, [], ◌∷◌, Some, None, Result, Ok, Err, ◌∙◌, inl, inr, nat_eq, refl, arith}
use Rattle.std.specs.Cmp.Lexicographic.{pointwise, nat_list_eq_equiv}
use Rattle.std.specs.List.{AllByRecursion, IsDistinct}
use Rattle.std.specs.Map.{keys_of}
use Rattle.std.proofs.lemmas.Bool.{cases_Bool}
use Rattle.std.proofs.lemmas.Map.{lookup-remove_entry}
use Rattle.indexmap.specs.IndexMap.{insert_entry, shift_remove_entry}
use Rattle.amqp_txn_types.specs.declared.fields.Value.{Value}
use Rattle.amqp_txn_types.specs.declared.items.NoMemory.{NoMemory}
use Rattle.amqp_txn_types.specs.declared.text.Symbol.{Symbol}
use Rattle.amqp_links.specs.Receiving.{GivesOne, HasDistinctKeys, Properties, Removes, inserted, pairs_of, removed}
use Rattle.amqp_links.specs.ReceiverWire.{ReceiverWire, receiver_tells, with_properties}

-- what holds of the keys and of one more holds once that is put
all-inserted : (P : Symbol → Type 0) (key : Symbol) (value : Value) (pairs : List (Symbol × Value))
    → P key → AllByRecursion P (keys_of pairs)
    → AllByRecursion P (keys_of (insert_entry (pointwise nat_eq) pairs key value))
all-inserted P key value [] here rest = (here, tt)
all-inserted P key value (pair ∷ pairs) here rest =
    elim (cases_Bool (pointwise nat_eq key pair.0)) [
      | inl same ↦ rw same rest
      | inr other ↦ rw other (rest.0, all-inserted P key value pairs here rest.1)
    ]

-- what holds of the keys holds once one is taken out
all-removed : (P : Symbol → Type 0) (test : Symbol → Bool) (pairs : List (Symbol × Value))
    → AllByRecursion P (keys_of pairs) → AllByRecursion P (keys_of (shift_remove_entry test pairs))
all-removed P test [] rest = tt
all-removed P test (pair ∷ pairs) rest = elim (cases_Bool (test pair.0)) [
  | inl same ↦ rw same rest.1
  | inr other ↦ rw other (rest.0, all-removed P test pairs rest.1)
]

-- keys that are distinct stay so once one is put
distinct-put : (key : Symbol) (value : Value) (pairs : List (Symbol × Value))
    → IsDistinct (pointwise nat_eq) (keys_of pairs)
    → IsDistinct (pointwise nat_eq) (keys_of (insert_entry (pointwise nat_eq) pairs key value))
unfolding IsDistinct
distinct-put key value [] distinct = (tt, tt)
distinct-put key value (pair ∷ pairs) distinct =
    elim (cases_Bool (pointwise nat_eq key pair.0)) [
      | inl same ↦ rw same distinct
      | inr other ↦ rw other (
        all-inserted (λ next. pointwise nat_eq pair.0 next ≡ false) key value pairs
            (nat_list_eq_equiv.symm pair.0 key ∙ other) distinct.0,
        distinct-put key value pairs distinct.1,
      )
    ]

-- keys that are distinct stay so once one is taken out
distinct-taken : (test : Symbol → Bool) (pairs : List (Symbol × Value))
    → IsDistinct (pointwise nat_eq) (keys_of pairs)
    → IsDistinct (pointwise nat_eq) (keys_of (shift_remove_entry test pairs))
unfolding IsDistinct
distinct-taken test [] distinct = tt
distinct-taken test (pair ∷ pairs) distinct = elim (cases_Bool (test pair.0)) [
  | inl same ↦ rw same distinct.1
  | inr other ↦ rw other (
    all-removed (λ next. pointwise nat_eq pair.0 next ≡ false) test pairs distinct.0,
    distinct-taken test pairs distinct.1,
  )
]

-- no property is there
pub distinct-none : HasDistinctKeys None
unfolding IsDistinct
distinct-none = tt

-- a property was put, or failed to be
pub distinct-inserted : (properties : Properties) (key : Symbol) (value : Value)
    (result : Result Unit NoMemory) → HasDistinctKeys properties
    → HasDistinctKeys (inserted properties key value result)
distinct-inserted properties key value (Ok done) distinct =
    distinct-put key value (pairs_of properties) distinct
distinct-inserted properties key value (Err error) distinct = distinct

-- a property was taken out
pub distinct-removed : (properties : Properties) (key : Symbol) → HasDistinctKeys properties
    → HasDistinctKeys (removed properties key)
distinct-removed None key distinct = distinct
distinct-removed (Some pairs) key distinct = distinct-taken (pointwise nat_eq key) pairs distinct

-- the properties without the key differ from those before in that one key
pub gives-one-removed : (properties : Properties) (key : Symbol) → HasDistinctKeys properties
    → GivesOne key properties (removed properties key) None
gives-one-removed None key distinct other = elim (cases_Bool (pointwise nat_eq key other)) [
  | inl same ↦ rw same
  | inr apart ↦ rw apart
]
gives-one-removed (Some pairs) key distinct other =
    lookup-remove_entry nat_list_eq_equiv (pointwise nat_eq key) (nat_list_eq_equiv.congr key)
    other pairs distinct

-- a wire without a property tells that this was taken out
pub removes-told : (old : ReceiverWire) (properties : Properties) (key : Symbol)
    → HasDistinctKeys old.properties → properties ≡ removed old.properties key
    → Removes (receiver_tells old) (receiver_tells (with_properties old properties)) key
removes-told old properties key distinct is = record {
  put = refl;
  properties = is;
  alone = rw is (gives-one-removed old.properties key distinct);
  later = omega arith;
}
