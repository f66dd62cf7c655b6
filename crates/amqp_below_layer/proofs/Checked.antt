-- The checks of frames given back, one after another.
use Rattle.std.proofs.Common.{◌≡◌, ℕ, ◌+◌, ◌<◌, suc, take, drop, get_or, length, Ok, Err, Result, List, [], ◌∷◌, ◌++◌, refl, sym, ◌∙◌, ap, subst, add-one}
use Rattle.std.proofs.Math.Seq.{split_at, take-suc}
use Rattle.amqp_txn_types.specs.declared.performatives.Disposition.{Disposition}
use Rattle.amqp_txn_types.specs.declared.performatives.Frame.{Frame}
use Rattle.amqp_below_layer.specs.declared.inner_error.SessionInnerError.{SessionInnerError}
use Rattle.amqp_below_layer.specs.OneFrame.{ChecksAll, ChecksFrame, ChecksTo}

-- some frames passed, and then one more
pub checks-snoc : {S : Type 0} (gives : S → S → Disposition → Result Unit SessionInnerError → Type 0)
    (old m new : S) (before : List Frame) (frame : Frame)
    → ChecksAll gives old before m → ChecksFrame gives m new frame (Ok tt) → ChecksAll gives old (before ++ frame ∷ []) new
checks-snoc {S} gives old m new [] frame first one =
    let P : S → Type 0 = λ x. ChecksFrame gives x new frame (Ok tt) in (new, subst P first one, refl)
checks-snoc gives old m new (f ∷ before) frame first one =
    (first.0, first.1, checks-snoc gives first.0 m new before frame first.2 one)

-- the frames up to a place passed, and so did the one at the place
pub checks-next : {S : Type 0} (gives : S → S → Disposition → Result Unit SessionInnerError → Type 0)
    (old m new : S) (given : List Frame) (i : ℕ) (frame : Frame)
    → i < length given → frame ≡ get_or given i frame
    → ChecksAll gives old (take i given) m → ChecksFrame gives m new frame (Ok tt) → ChecksAll gives old (take (i + 1) given) new
checks-next gives old m new given i frame within item first one =
    let P : List Frame → Type 0 = λ xs. ChecksAll gives old xs new in
    subst P
    (ap (λ x. take i given ++ x ∷ []) item ∙ sym (take-suc given i frame within) ∙ ap (λ n. take n given) (sym (add-one i)))
    (checks-snoc gives old m new (take i given) frame first one)

-- the frames up to a place passed, and the one at the place was refused
pub checks-refused : {S : Type 0} (gives : S → S → Disposition → Result Unit SessionInnerError → Type 0)
    (old m new : S) (given : List Frame) (i : ℕ) (frame : Frame) (error : SessionInnerError)
    → i < length given → frame ≡ get_or given i frame
    → ChecksAll gives old (take i given) m → ChecksFrame gives m new frame (Err error) → ChecksTo gives old given error new
checks-refused gives old m new given i frame error within item first one = (
  take i given,
  frame,
  drop (suc i) given,
  m,
  split_at given i frame within ∙ ap (λ x. take i given ++ x ∷ drop (suc i) given) (sym item),
  first,
  one,
)
