-- A call is refused exactly with its fault: each Err but out of memory is an equivalence.
use Rattle.std.proofs.Common.{◌≡◌, ◌↔◌, Option, Some, None, Result, Ok, Err, true, false, ap, sym, ◌∙◌}
use Rattle.amqp_below_layer.specs.declared.inner_error.SessionInnerError.{SessionInnerError}
use Rattle.amqp_below_layer.specs.Faults.{is_no_memory}
use Rattle.amqp_below_sessions.specs.Plain.{RefusedBy, RefusedOnlyBy}

-- an Err that isn't out of memory is answered exactly where it is the fault
pub refused-exactly : {T : Type 0} (fault : Option SessionInnerError) (result : Result T SessionInnerError) → RefusedBy fault result → (error : SessionInnerError) → is_no_memory error ≡ false → (result ≡ Err error) ↔ (fault ≡ Some error)
refused-exactly (Some fault) (Ok value) held error other = absurd held
refused-exactly (Some fault) (Err given) held error other = (λ p. (let e : given ≡ error = cc p in ap (λ x. Some x) (sym held ∙ e)), λ q. (let e : fault ≡ error = cc q in ap (λ x. Err x) (held ∙ e)))
refused-exactly None (Ok value) held error other = (λ p. absurd (cc p), λ q. absurd (cc q))
refused-exactly None (Err given) held error other = (λ p. (let e : given ≡ error = cc p in let no : is_no_memory error ≡ true = ap is_no_memory (sym e ∙ held) in absurd (cc (no, other))), λ q. absurd (cc q))

-- of a call that takes no memory each Err is answered exactly where it is the fault
pub refused_only-exactly : {T : Type 0} (fault : Option SessionInnerError) (result : Result T SessionInnerError) → RefusedOnlyBy fault result → (error : SessionInnerError) → (result ≡ Err error) ↔ (fault ≡ Some error)
refused_only-exactly (Some fault) (Ok value) held error = absurd held
refused_only-exactly (Some fault) (Err given) held error = (λ p. (let e : given ≡ error = cc p in ap (λ x. Some x) (sym held ∙ e)), λ q. (let e : fault ≡ error = cc q in ap (λ x. Err x) (held ∙ e)))
refused_only-exactly None (Ok value) held error = (λ p. absurd (cc p), λ q. absurd (cc q))
refused_only-exactly None (Err given) held error = absurd held
