-- What a look at a cell of the log tells.
use Rattle.amqp_resource_log.proofs.Words.{Cell, List, None, Option, Some, TransactionId, TxnWorkFrame, ap, get_or, get_or_from_slice_get, id_of, length, option_and_then, refl, slice_get, slice_get-get_or, sym, ℕ, ◌<◌, ◌∙◌, ◌≡◌}
use Rattle.amqp_resource_log.specs.declared.cell.Cell.TheVariants as cells

live_in : (o : Option Cell) (u : TransactionId) → option_and_then id_of o ≡ Some u → (w : TxnWorkFrame) × (o ≡ Some (cells.Live u w))
live_in None u e = cc
live_in (Some (cells.Live t w)) u e = let same : t ≡ u = cc in (w, ap (λ v. Some (cells.Live v w)) same)
live_in (Some cells.Dead) u e = cc

-- where an id was told, the cell is live with it
pub live_here : (cs : List Cell) (i : ℕ) (u : TransactionId) → option_and_then id_of (slice_get cs i) ≡ Some u → (w : TxnWorkFrame) × (cells.Live u w ≡ get_or cs i (cells.Live u w))
live_here cs i u e =
    let at = live_in (slice_get cs i) u e in
    (at.0, sym (get_or_from_slice_get cs i (cells.Live u at.0) (cells.Live u at.0) at.1))

dead_is : (c : Cell) → id_of c ≡ None → c ≡ cells.Dead
dead_is (cells.Live t w) e = cc
dead_is cells.Dead e = refl

-- where none was told, it is dead
pub dead_here : (cs : List Cell) (i : ℕ) → i < length cs → option_and_then id_of (slice_get cs i) ≡ None → cells.Dead ≡ get_or cs i cells.Dead
dead_here cs i below e =
    sym (dead_is (get_or cs i cells.Dead) (sym (ap (option_and_then id_of) (slice_get-get_or cs i cells.Dead below)) ∙ e))
