-- Looking for a key among pairs, and taking a new one out again.
use Rattle.std.proofs.Common.{◌≡◌, ℕ, ◌+◌, ◌<◌, true, false, Some, List, [], ◌∷◌, length, drop, get_or, ◌∙◌, inl, inr, nat_eq, add-one, if◌then◌else◌}
use Rattle.std.specs.List.{slice_get}
use Rattle.std.proofs.lemmas.Option.{slice_get_within, get_or_from_slice_get}
use Rattle.std.proofs.lemmas.Bool.{cases_Bool}
use Rattle.std.proofs.Math.Seq.{drop-cons}
use Rattle.std.specs.Cmp.Lexicographic.{pointwise, nat_list_eq_equiv}
use Rattle.indexmap.specs.IndexMap.{insert_entry, shift_remove_entry}
use Rattle.amqp_txn_types.specs.declared.fields.Value.{Value}
use Rattle.amqp_txn_types.specs.declared.text.Symbol.{Symbol}
use Rattle.amqp_txn_types.specs.declared.fields.Value.TheVariants as values
use Rattle.amqp_txn_types.specs.declared.id.TransactionId.{TransactionId}
use Rattle.amqp_links.specs.declared.errors.IllegalLinkStateError.{IllegalLinkStateError}
use Rattle.amqp_links.specs.declared.errors.IllegalLinkStateError.TheVariants as faults
use Rattle.amqp_links.specs.Receiving.{GivesOne, Properties, pairs_of, removed, value_of}
use Rattle.amqp_controller_acquisition.specs.Receivers.{OnFlowFault, has_key, naming, txn_id_key}

-- what is left from an item on
drop-get : {X : Type 0} (xs : List X) (i : ℕ) (x : X) → slice_get xs i ≡ Some x
    → drop i xs ≡ x ∷ drop (i + 1) xs
drop-get xs i x here =
    let lt : i < length xs = slice_get_within xs i x here in
    let there : get_or xs i x ≡ x = get_or_from_slice_get xs i x x here in
    rw (add-one, drop-cons xs i x lt, there)

-- a pair with another key
pub has_key-past : (key : Symbol) (pairs : List (Symbol × Value)) (i : ℕ) (pair : Symbol × Value)
    → slice_get pairs i ≡ Some pair → pointwise nat_eq key pair.0 ≡ false
    → has_key key (drop (i + 1) pairs) ≡ has_key key (drop i pairs)
has_key-past key pairs i pair here other =
    rw (drop-get pairs i pair here, other)

-- a pair with the key
pub has_key-here : (key : Symbol) (pairs : List (Symbol × Value)) (i : ℕ) (pair : Symbol × Value)
    → slice_get pairs i ≡ Some pair → pointwise nat_eq key pair.0 ≡ true
    → has_key key (drop i pairs) ≡ true
has_key-here key pairs i pair here same = rw (drop-get pairs i pair here, same)

-- a new key that is taken out again
pub removed-inserted : (key : Symbol) (value : Value) (pairs : List (Symbol × Value))
    → has_key key pairs ≡ false
    → shift_remove_entry (pointwise nat_eq key) (insert_entry (pointwise nat_eq) pairs key value)
    ≡ pairs
removed-inserted key value [] none = rw (nat_list_eq_equiv.refl key)
removed-inserted key value (pair ∷ pairs) none = elim (cases_Bool (pointwise nat_eq key pair.0)) [
  | inl same ↦
      let found : true ≡ false = rw same at none in
      absurd (cc found)
  | inr other ↦
      let rest : has_key key pairs ≡ false = rw other at none in
      rw (other, other, removed-inserted key value pairs rest)
]

-- a fault that is counted, whichever it is
pub counted-flow_fault : (fault : IllegalLinkStateError) (P : Type 0) → P → OnFlowFault fault P
counted-flow_fault faults.NoMemory P counted = tt
counted-flow_fault faults.IllegalState P counted = counted
counted-flow_fault (faults.SessionStopped reason) P counted = counted

-- the pairs once the property that was put is taken out again
pub pairs-removed : (old named new : Properties) (txn_id : TransactionId)
    → has_key txn_id_key (pairs_of old) ≡ false → named ≡ naming old txn_id
    → new ≡ removed named txn_id_key → pairs_of new ≡ pairs_of old
pairs-removed old named new txn_id none is_named is_removed =
    rw (is_removed, is_named) (removed-inserted txn_id_key (values.Binary txn_id) (pairs_of old) none)

-- a new key that is put among pairs has its value, and no other another
given-inserted : (named key : Symbol) (value : Value) (pairs : List (Symbol × Value))
    → has_key named pairs ≡ false
    → value_of key (insert_entry (pointwise nat_eq) pairs named value)
    ≡ (if pointwise nat_eq named key then Some value else value_of key pairs)
given-inserted named key value [] none = rw (nat_list_eq_equiv.symm key named)
given-inserted named key value (pair ∷ pairs) none = elim (cases_Bool (pointwise nat_eq named pair.0)) [
  | inl same ↦
      let found : true ≡ false = rw same at none in
      absurd (cc found)
  | inr other ↦
      let rest : has_key named pairs ≡ false = rw other at none in
      elim (cases_Bool (pointwise nat_eq key pair.0)) [
        | inl here ↦
            let apart : pointwise nat_eq named key ≡ false =
            nat_list_eq_equiv.symm named key ∙ nat_list_eq_equiv.congr key pair.0 named here
            ∙ nat_list_eq_equiv.symm pair.0 named ∙ other in
            rw (other, here, apart)
        | inr past ↦ rw (other, past, given-inserted named key value pairs rest)
      ]
]

-- the properties that name a transaction differ from those before in that one key
pub gives-one-named : (old new : Properties) (txn_id : TransactionId)
    → has_key txn_id_key (pairs_of old) ≡ false → new ≡ naming old txn_id
    → GivesOne txn_id_key old new (Some (values.Binary txn_id))
gives-one-named old new txn_id none is_named key =
    rw is_named (given-inserted txn_id_key key (values.Binary txn_id) (pairs_of old) none)
