-- The lines of the queues, one more at a time.
use Rattle.std.proofs.Common.{List, Some, [], ap, append-nil, append_assoc, sym, take, ℕ, ◌+◌, ◌++◌, ◌∙◌, ◌∷◌, ◌≡◌}
use Rattle.std.specs.Prelude.{slice_get}
use Rattle.std.specs.List.{flat_map}
use Rattle.std.proofs.lemmas.Grind.{flat_map-append}
use Rattle.std.proofs.lemmas.List.{take_more}
use Rattle.std.proofs.lemmas.Option.{get_or_from_slice_get, slice_get_within}

-- the lines of one more name
pub lines_more : {X : Type 0} (f : X → List ℕ) (before text after : List ℕ) (names : List X) (i : ℕ) (name : X) → slice_get names i ≡ Some name
    → text ≡ before ++ flat_map f (take i names) → after ≡ text ++ f name → after ≡ before ++ flat_map f (take (i + 1) names)
lines_more f before text after names i name at stands grown =
    grown ∙ ap (λ t. t ++ f name) stands ∙ append_assoc before (flat_map f (take i names)) (f name)
    ∙ ap (λ t. before ++ (flat_map f (take i names) ++ t)) (sym (append-nil (f name)))
    ∙ ap (λ t. before ++ t)
    (sym
    (ap (flat_map f) (take_more names i name (slice_get_within names i name at) ∙ ap (λ x. take i names ++ x ∷ []) (get_or_from_slice_get names i name name at))
    ∙ flat_map-append f (take i names) (name ∷ [])))
