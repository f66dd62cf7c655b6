-- A link that was placed and freed again leaves the names as they were.
use Rattle.std.proofs.Common.{◌≡◌, ◌≢◌, true, false, Some, inl, inr, sym, ◌∙◌, ap, nat_eq, ◌⊎◌}
use Rattle.std.proofs.lemmas.Bool.{cases_Bool, cases_eq}
use Rattle.std.specs.Cmp.Lexicographic.{pointwise, same_text, nat_list_eq_equiv}
use Rattle.amqp_txn_types.specs.declared.small.OutputHandle.{OutputHandle}
use Rattle.amqp_txn_types.specs.declared.text.Text.{Text}
use Rattle.amqp_below_sessions.specs.declared.relay.NameState.TheVariants.{Waiting}
use Rattle.amqp_below_sessions.specs.Names.{Names, Freed, FreesLink, Placed, SameNames}

-- two names are one, or they aren't
cases_name : (a b : Text) → (a ≡ b) ⊎ (a ≢ b)
cases_name a b = elim (cases_Bool (pointwise nat_eq a b)) [
  | inl same ↦ inl (same_text a b (sym same))
  | inr other ↦
      inr (λ e. let all : pointwise nat_eq b b ≡ true = nat_list_eq_equiv.refl b in
      let this : pointwise nat_eq b b ≡ false = rw e at other in
      cc)
]

-- two output handles are one, or they aren't
cases_output : (a b : OutputHandle) → (a ≡ b) ⊎ (a ≢ b)
cases_output a b = elim (cases_eq a.0 b.0) [
  | inl same ↦ inl (ap (λ n. record { 0 = n }) same)
  | inr other ↦ inr (λ e. other (ap (λ (o : OutputHandle). o.0) e))
]

module _ (old placed checked new : Names) (name : Text) (output : OutputHandle)
    (put : Placed old placed name Waiting output) (same : SameNames placed checked)
    (freed : Freed checked new name output) where
  known-freed : (other : Text) → new.known other ≡ old.known other
  known-freed other = elim (cases_name other name) [
    | inl e ↦ rw e (freed.known ∙ sym put.unknown)
    | inr ne ↦ freed.others other ne ∙ same.known other ∙ put.others other ne
  ]

  at-freed : (other : OutputHandle) → new.at other ≡ old.at other
  at-freed other = elim (cases_output other output) [
    | inl e ↦ rw e (freed.here ∙ sym put.free)
    | inr ne ↦ freed.elsewhere other ne ∙ same.at other ∙ put.elsewhere other ne
  ]

  names-freed : SameNames old new
  names-freed = record { known = known-freed; at = at-freed }

pub same_names-freed : (old placed checked new : Names) (name : Text) (output : OutputHandle)
    → Placed old placed name Waiting output → SameNames placed checked
    → FreesLink (checked.at output) checked new output → SameNames old new
same_names-freed old placed checked new name output put same frees =
    let here : checked.at output ≡ Some name = same.at output ∙ put.here in
    names-freed old placed checked new name output put same (rw here at frees)
