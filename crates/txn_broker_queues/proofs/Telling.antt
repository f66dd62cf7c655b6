-- What a broker tells after its calls.
use Rattle.txn_broker_queues.proofs.Words.{Bool, Err, Frame, List, None, Ok, Result, SessionInnerError, Some, [], ap, arith, cond, false, refl, sym, true, ℕ, ◌++◌, ◌∙◌, ◌∷◌, ◌≡◌, ◌≤◌}
use Rattle.std.specs.Prelude.{IsErrAnd}
use Rattle.std.proofs.lemmas.List.{map_push}
use Rattle.amqp_below_layer.specs.Faults.{is_no_memory}
use Rattle.amqp_below_layer.specs.Told.{Takes, open_told}
use Rattle.amqp_txn_types.specs.Counts.{one_more}
use Rattle.txn_broker_queues.specs.Taking.{Board, CountsRefusal, NotTook, SameCounts, frames_of, told_by}

-- the frames once one more was taken
pub frames_more : (journal new : List (Frame × List Frame)) (frame : Frame) (given : List Frame) → new ≡ journal ++ (frame, given) ∷ [] → frames_of new ≡ frames_of journal ++ frame ∷ []
frames_more journal new frame given e =
    ap frames_of e ∙ map_push (λ (pair : Frame × List Frame). pair.0) journal (frame, given)

-- a frame was taken
pub took_told : (old new : Board) (frame : Frame) (given : List Frame) → new.journal ≡ old.journal ++ (frame, given) ∷ []
    → new.refusals ≡ old.refusals → new.vetoes ≡ old.vetoes → Takes (told_by old) (told_by new) frame (Ok given)
took_told old new frame given journal refusals vetoes = record {
  taken = ap Some journal;
  opened = refl;
  refused = refl;
  reviews = ap (λ v. record { vetoes = v; vetoed = None }) vetoes;
  fixed = refl;
  later = omega (arith, refusals);
  cause = tt;
}

same_cond : {A : Type 0} (b : Bool) (x : A) → x ≡ cond b x x
same_cond true x = refl
same_cond false x = refl

le_from_same : (a b : ℕ) → a ≡ b → a ≤ b
le_from_same a b same = omega (arith, same)

-- a frame was refused
pub refused_told : (old mid : Board) (journal : List (Frame × List Frame)) (refusals vetoes : ℕ) (frame : Frame) (error : SessionInnerError) → SameCounts old mid → mid.journal ≡ old.journal
    → journal ≡ mid.journal → vetoes ≡ mid.vetoes → mid.refusals ≤ refusals → refusals ≡ one_more mid.refusals
    → Takes (told_by old) (record open_told { taken = Some journal; refusals = refusals; reviews = record { vetoes = vetoes; vetoed = None } }) frame (Err error)
refused_told old mid journal refusals vetoes frame error counts same unchanged kept later counted = record {
  taken = ap Some (unchanged ∙ same);
  opened = refl;
  refused = same_cond (is_no_memory error) None;
  reviews = ap (λ v. record { vetoes = v; vetoed = None }) (kept ∙ counts.vetoes);
  fixed = refl;
  later = omega (arith, later, counts.refusals);
  cause = le_from_same (one_more old.refusals) refusals (sym (counted ∙ ap one_more counts.refusals));
}

-- an error that is known
pub err_is : {T E : Type 0} (r : Result T E) (error : E) → IsErrAnd r (λ e. e ≡ error) → r ≡ Err error
err_is (Ok value) error is = absurd is
err_is (Err e) error is = ap Err is

-- a frame was refused, and that was counted
pub refused_gives : (old mid new : Board) (frame : Frame) (error : SessionInnerError) → SameCounts old mid → NotTook old mid frame error
    → new.journal ≡ mid.journal → new.vetoes ≡ mid.vetoes → new.refusals ≡ one_more mid.refusals
    → NotTook old new frame error × CountsRefusal old new
refused_gives old mid new frame error counts not unchanged kept counted = (
  record { journal = unchanged ∙ not.journal; why = not.why },
  record { refusals = counted ∙ ap one_more counts.refusals; vetoes = kept ∙ counts.vetoes },
)
