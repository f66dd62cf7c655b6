-- The calls that some frames would make, one after another.
use Rattle.std.proofs.Common.{ℕ, ◌≡◌, ◌<◌, ◌+◌, ◌∙◌, ap, length, drop, Bool, List}
use Rattle.std.specs.Prelude.{◌||◌}
use Rattle.std.proofs.lemmas.List.{drop_more}
use Rattle.amqp_txn_types.specs.Counts.{one_more}
use Rattle.amqp_txn_types.specs.declared.performatives.Frame.{Frame}
use Rattle.amqp_below_recorder.specs.Recording.{any_refused, is_among}

-- the call of the next frame, and then of those that are left
pub any_refused-next : (refused : List ℕ) (calls : ℕ) (list : List Frame) (i : ℕ) (d : Frame) (hit : Bool)
    → i < length list → is_among refused (one_more calls) ≡ hit
    → any_refused refused calls (drop i list) ≡ (hit || any_refused refused (one_more calls) (drop (i + 1) list))
any_refused-next refused calls list i d hit within is =
    ap (any_refused refused calls) (drop_more list i d within)
    ∙ ap (λ b. b || any_refused refused (one_more calls) (drop (i + 1) list)) is
