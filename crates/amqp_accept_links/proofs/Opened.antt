-- A link that was placed and then freed leaves no trace among the names.
use Rattle.std.proofs.Common.{◌≡◌, ◌≢◌, Option, inl, inr, sym, ◌∙◌, ap, subst, nat_eq}
use Rattle.std.specs.Cmp.Lexicographic.{pointwise, same_text, other_text}
use Rattle.std.proofs.lemmas.Bool.{cases_Bool, eqb-true, eqb-false}
use Rattle.amqp_txn_types.specs.declared.text.Text.{Text}
use Rattle.amqp_txn_types.specs.declared.small.OutputHandle.{OutputHandle}
use Rattle.amqp_below_sessions.specs.declared.relay.NameState.{NameState}
use Rattle.amqp_below_sessions.specs.Names.{Freed, FreesLink, Names, Placed, SameNames}

-- a link of a known name, placed and then freed
freed-placed : (old placed new : Names) (name : Text) (state : NameState) (output : OutputHandle)
    → Placed old placed name state output → Freed placed new name output → SameNames old new
freed-placed old placed new name state output p f = record {
  known = λ other. elim (cases_Bool (pointwise nat_eq other name)) [
    | inl same ↦ let e : other ≡ name = same_text other name (sym same) in
        ap new.known e ∙ f.known ∙ sym p.unknown ∙ sym (ap old.known e)
    | inr differs ↦ let ne : other ≢ name = other_text other name (sym differs) in
        f.others other ne ∙ p.others other ne
  ];
  at = λ other. elim (cases_Bool (nat_eq other.0 output.0)) [
    | inl same ↦ let e : other ≡ output = ap (λ n. record { 0 = n }) (eqb-true other.0 output.0 same) in
        ap new.at e ∙ f.here ∙ sym p.free ∙ sym (ap old.at e)
    | inr differs ↦ let ne : other ≢ output = λ e. eqb-false other.0 output.0 differs (ap (λ (o : OutputHandle). o.0) e) in
        f.elsewhere other ne ∙ p.elsewhere other ne
  ];
}

-- a link that was placed, and whose output handle was then freed
pub placed-freed : (old placed new : Names) (name : Text) (state : NameState)
    (output : OutputHandle) → Placed old placed name state output
    → FreesLink (placed.at output) placed new output → SameNames old new
placed-freed old placed new name state output p frees =
    let Frees : Option Text → Type 0 = λ slot. FreesLink slot placed new output in
    freed-placed old placed new name state output p (subst Frees p.here frees)
