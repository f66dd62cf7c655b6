-- What a layer that was told its answer keeps true of its lists.
use Rattle.std.proofs.Common.{Bool, List, None, Option, Some, [], ap, arith, false, inl, inr, refl, subst, sym, true, ℕ, ◌++◌, ◌∙◌, ◌∷◌, ◌≡◌, ◌≤◌, Result, Ok, Err}
use Rattle.std.specs.Prelude.{OnOk, cond, is_some}
use Rattle.std.specs.declared.alloc.Global.{Global}
use Rattle.std.specs.declared.vec.Vec.{Vec}
use Rattle.std.proofs.lemmas.Option.{same_Some}
use Rattle.amqp_below_layer.specs.Faults.{is_no_memory}
use Rattle.amqp_below_layer.specs.Told.{refused_after}
use Rattle.amqp_below_layer.specs.declared.inner_error.SessionInnerError.{SessionInnerError}
use Rattle.amqp_below_layer.specs.declared.inner_error.SessionInnerError.TheVariants as faults
use Rattle.amqp_txn_types.specs.declared.performatives.Frame.{Frame}
use Rattle.daxurbi_layer.specs.Answering.{error_of, refusal_told, unless_take, unlisted}
use Rattle.daxurbi_layer.specs.Handing.{FrameAnswer}
use Rattle.daxurbi_layer.specs.Hindering.{HindersFrame, no_room}
use Rattle.daxurbi_layer.specs.declared.told_layer.ToldLayer.{ToldLayer}
use Rattle.daxurbi_layer.specs.Refusing.{error_listed, frame_refused, refused_list, slot_after}
use Rattle.daxurbi_layer.specs.declared.below_answer.BelowAnswer.{BelowAnswer}
use Rattle.daxurbi_layer.specs.declared.below_answer.BelowAnswer.TheVariants as answers
use Rattle.daxurbi_layer.specs.declared.refused.Refused.{Refused}

-- a layer that refuses nothing was told to take
pub take_counts : (told : BelowAnswer) (count : ℕ) → refusal_told told ≡ None → unless_take told count ≡ 0
take_counts answers.Take count none = refl
take_counts answers.Veto count none = absurd (cc none)
take_counts (answers.Refuse name) count none = absurd (cc none)

-- a frame was taken, and nothing was refused
pub taken_lists : (told : BelowAnswer) (taken : List (Frame × List Frame)) (pair : Frame × List Frame) (listed : Bool) (refusals : ℕ)
    → refusals ≡ 0 → unlisted told (taken ++ pair ∷ []) listed refusals ≡ 0
taken_lists answers.Take [] pair true refusals none = refl
taken_lists answers.Take [] pair false refusals none = none
taken_lists answers.Take (first ∷ rest) pair true refusals none = refl
taken_lists answers.Take (first ∷ rest) pair false refusals none = none
taken_lists answers.Veto taken pair listed refusals none = refl
taken_lists (answers.Refuse name) taken pair listed refusals none = refl

-- what a call is refused with: what was told, or out of memory once one was refused, or that there
-- is no room
pub data Cause (told : BelowAnswer) (taken : List (Frame × List Frame)) (refusals : ℕ) (error : SessionInnerError) : Type 0 where
  as_told : refusal_told told ≡ Some error → Cause told taken refusals error
  again : 1 ≤ refusals → error ≡ faults.NoMemory → Cause told taken refusals error
  full : refusal_told told ≡ None → error ≡ no_room taken → Cause told taken refusals error

-- what is listed after a call of a layer that was told to take was refused
take_refuses : (taken : List (Frame × List Frame)) (slot : Option Refused) (call : Refused) (error : SessionInnerError) (before after : ℕ)
    → unlisted answers.Take taken (is_some slot) before ≡ 0 → Cause answers.Take taken before error
    → unlisted answers.Take taken (is_some (slot_after slot call error)) after ≡ 0
take_refuses [] (Some first) call error before after none cause = absurd (cc none)
take_refuses [] None call error before after none (as_told is) = absurd (cc is)
take_refuses [] None call error before after none (again some is) = subst (λ (e : SessionInnerError). unlisted answers.Take [] (is_some (slot_after None call e)) after ≡ 0) (sym is) refl
take_refuses [] None call error before after none (full took is) = subst (λ (e : SessionInnerError). unlisted answers.Take [] (is_some (slot_after None call e)) after ≡ 0) (sym is) refl
take_refuses (pair ∷ rest) (Some first) call error before after none cause = refl
take_refuses (pair ∷ rest) None call error before after none (as_told is) = absurd (cc is)
take_refuses (pair ∷ rest) None call error before after none (again some is) = absurd (omega (arith, none, some))
take_refuses (pair ∷ rest) None call error before after none (full took is) = subst (λ (e : SessionInnerError). unlisted answers.Take (pair ∷ rest) (is_some (slot_after None call e)) after ≡ 0) (sym is) refl

pub refused_lists : (told : BelowAnswer) (taken : List (Frame × List Frame)) (slot : Option Refused) (call : Refused) (error : SessionInnerError) (before after : ℕ)
    → unlisted told taken (is_some slot) before ≡ 0 → Cause told taken before error
    → unlisted told taken (is_some (slot_after slot call error)) after ≡ 0
refused_lists answers.Take taken slot call error before after none cause = take_refuses taken slot call error before after none cause
refused_lists answers.Veto taken slot call error before after none cause = refl
refused_lists (answers.Refuse name) taken slot call error before after none cause = refl

-- the error that is listed
error_is : (told : BelowAnswer) (taken : List (Frame × List Frame)) (refusals : ℕ) (error : SessionInnerError) → is_no_memory error ≡ false → Cause told taken refusals error
    → error_of (refusal_told told) ≡ error
error_is told taken refusals error not (as_told is) = ap error_of is
error_is told taken refusals error not (again some is) = absurd (cc (sym not ∙ ap is_no_memory is))
error_is answers.Take [] refusals error not (full took is) = absurd (cc (sym not ∙ ap is_no_memory is))
error_is answers.Take (first ∷ rest) refusals error not (full took is) = sym is
error_is answers.Veto taken refusals error not (full took is) = absurd (cc took)
error_is (answers.Refuse name) taken refusals error not (full took is) = absurd (cc took)

-- what is told to be refused after a call was refused
told_by : (b : Bool) (own error : SessionInnerError) (call : Refused) → is_no_memory error ≡ b → (is_no_memory error ≡ false → own ≡ error)
    → Some (refused_list own (cond b None (Some call))) ≡ cond b (Some []) (Some (record { frame = frame_refused call; error = error } ∷ []))
told_by true own error call is same = refl
told_by false own error call is same = ap (λ (e : SessionInnerError). Some (record { frame = frame_refused call; error = e } ∷ [])) (same is)

told_after : (told : BelowAnswer) (taken : List (Frame × List Frame)) (slot : Option Refused) (call : Refused) (error : SessionInnerError) (refusals : ℕ)
    → Cause told taken refusals error
    → Some (refused_list (error_of (refusal_told told)) (slot_after slot call error))
    ≡ refused_after {T = List Frame} (Some (refused_list (error_of (refusal_told told)) slot)) (frame_refused call) (Err (error_listed slot error))
told_after told taken (Some first) call error refusals cause = refl
told_after told taken None call error refusals cause =
    told_by (is_no_memory error) (error_of (refusal_told told)) error call refl (λ not. error_is told taken refusals error not cause)

pub refused_told : (told : BelowAnswer) (taken : List (Frame × List Frame)) (slot now : Option Refused) (call : Refused) (frame : Frame) (error answer : SessionInnerError) (refusals : ℕ)
    → Cause told taken refusals error → now ≡ slot_after slot call error → answer ≡ error_listed slot error → frame_refused call ≡ frame
    → Some (refused_list (error_of (refusal_told told)) now) ≡ refused_after {T = List Frame} (Some (refused_list (error_of (refusal_told told)) slot)) frame (Err answer)
refused_told told taken slot now call frame error answer refusals cause kept gives is =
    let own : SessionInnerError = error_of (refusal_told told) in
    ap (λ (o : Option Refused). Some (refused_list own o)) kept ∙ told_after told taken slot call error refusals cause
    ∙ ap (λ (f : Frame). refused_after {T = List Frame} (Some (refused_list own slot)) f (Err (error_listed slot error))) is
    ∙ ap (λ (e : SessionInnerError). refused_after {T = List Frame} (Some (refused_list own slot)) frame (Err e)) (sym gives)

-- ---- a frame

hinders : (o : Option SessionInnerError) (told : BelowAnswer) (refusals : ℕ) (old new : Vec (Frame × List Frame) Global) (error : SessionInnerError) → refusal_told told ≡ o
    → HindersFrame o refusals old new (Some error) → Cause told old.items refusals error
hinders (Some own) told refusals old new error is why = as_told (is ∙ sym why)
hinders None told refusals old new error is (inl (some, gives)) = again some gives
hinders None told refusals old new error is (inr (none, full_up, gives)) = full is gives

pub hindered : (o : Option SessionInnerError) (told : BelowAnswer) (refusals : ℕ) (old new : Vec (Frame × List Frame) Global) (error : SessionInnerError) → o ≡ refusal_told told
    → HindersFrame o refusals old new (Some error) → Cause told old.items refusals error
hindered o told refusals old new error is why = hinders o told refusals old new error (sym is) why

answered : (o : Option SessionInnerError) (layer : ToldLayer) (new : Vec (Frame × List Frame) Global) (error answer : SessionInnerError) → HindersFrame o layer.refusals layer.taken new (Some error)
    → answer ≡ error_listed layer.refused error → FrameAnswer o layer (Err answer)
answered (Some own) layer new error answer why gives = ap Err (gives ∙ ap (error_listed layer.refused) (same_Some error own why))
answered None layer new error answer why gives = (error, why, gives)

pub frame_answer : (o : Option SessionInnerError) (layer : ToldLayer) (new : Vec (Frame × List Frame) Global) (error answer : SessionInnerError) → o ≡ refusal_told layer.answer
    → HindersFrame o layer.refusals layer.taken new (Some error) → answer ≡ error_listed layer.refused error → FrameAnswer (refusal_told layer.answer) layer (Err answer)
frame_answer o layer new error answer is why gives =
    subst (λ (p : Option SessionInnerError). FrameAnswer p layer (Err answer)) is (answered o layer new error answer why gives)

-- a refusal isn't Ok
pub no_ok : {T : Type 0} → (P : Type 0) (result : Result T SessionInnerError) (error : SessionInnerError) → result ≡ Err error → OnOk result P
no_ok P (Ok value) error is = absurd (cc is)
no_ok P (Err own) error is = tt
