-- What is known of the entries so far, with one more of them.
use Rattle.std.proofs.Common.{◌≡◌, ℕ, ◌+◌, ◌<◌, Bool, true, false, cond, Option, Some, List, [], ◌∷◌, ◌++◌, length, map, take, get_or, refl, sym, ◌∙◌, ap, arith, append-nil, append_assoc}
use Rattle.std.specs.Prelude.{Result, Ok, Err, IfOk}
use Rattle.std.proofs.lemmas.List.{length-take-le, take_more, map-append}
use Rattle.amqp_txn_types.specs.declared.id.TransactionId.{TransactionId}
use Rattle.amqp_txn_types.specs.declared.performatives.Frame.{Frame}
use Rattle.amqp_txn_types.specs.Frames.{is_plain_frame, stripped}
use Rattle.amqp_resource_record.specs.declared.step.Step.TheVariants as steps
use Rattle.amqp_resource_record.specs.declared.entry.Entry.{Entry}
use Rattle.amqp_resource_record.specs.Entries.{is_attached, is_under}
use Rattle.amqp_resource_record.specs.Links.{attached_count}
use Rattle.amqp_resource_record.specs.Live.{last_place}
use Rattle.amqp_resource_record.specs.Hands.{frame_of_step, frames_under, hands, own_frame}
use Rattle.amqp_resource_record.proofs.Places.{last_place-snoc}
use Rattle.amqp_resource_record.proofs.Whole.{count-snoc, hands-plain, hands-other_frame}

pub last_place-more : (p : Entry → Bool) (r : List Entry) (i : ℕ) (e : Entry) → i < length r → e ≡ get_or r i e → last_place p (take (i + 1) r) ≡ cond (p e) (Some i) (last_place p (take i r))
last_place-more p r i e h is =
    ap (last_place p) (take_more r i e h ∙ ap (λ x. take i r ++ x ∷ []) (sym is))
    ∙ last_place-snoc p (take i r) e
    ∙ ap (λ n. cond (p e) (Some n) (last_place p (take i r))) (length-take-le i r (omega arith))

pub attached_count-more : (r : List Entry) (i : ℕ) (e : Entry) → i < length r → e ≡ get_or r i e → attached_count (take (i + 1) r) ≡ attached_count (take i r) + cond (is_attached e.reply) 1 0
attached_count-more r i e h is = ap attached_count (take_more r i e h ∙ ap (λ x. take i r ++ x ∷ []) (sym is)) ∙ count-snoc (take i r) e

-- the last place after an entry that passes, and after one that doesn't
pub last_place-found : (p : Entry → Bool) (r : List Entry) (i : ℕ) (e : Entry) (last : Option ℕ) → i < length r → e ≡ get_or r i e → p e ≡ true → last ≡ Some i → last ≡ last_place p (take (i + 1) r)
last_place-found p r i e last h is b l = l ∙ sym (last_place-more p r i e h is ∙ ap (λ x. cond x (Some i) (last_place p (take i r))) b)

pub last_place-passed : (p : Entry → Bool) (r : List Entry) (i : ℕ) (e : Entry) (last : Option ℕ) → i < length r → e ≡ get_or r i e → p e ≡ false → last ≡ last_place p (take i r) → last ≡ last_place p (take (i + 1) r)
last_place-passed p r i e last h is b l = l ∙ sym (last_place-more p r i e h is ∙ ap (λ x. cond x (Some i) (last_place p (take i r))) b)

frames_under-append : (t : TransactionId) (r s : List Entry) → frames_under t (r ++ s) ≡ frames_under t r ++ frames_under t s
frames_under-append t [] s = refl
frames_under-append t (e ∷ r) s =
    let own : List Frame = own_frame t e in
    ap (λ l. own ++ l) (frames_under-append t r s) ∙ sym (append_assoc own (frames_under t r) (frames_under t s))

-- the stripped frames under an id, with one entry more
pub stripped_under-more : (t : TransactionId) (r : List Entry) (i : ℕ) (e : Entry) (handed new : List Frame) → i < length r → e ≡ get_or r i e → handed ≡ map stripped (frames_under t (take i r)) → new ≡ handed ++ map stripped (cond (is_under t e) (frame_of_step (Some e.step)) []) → new ≡ map stripped (frames_under t (take (i + 1) r))
stripped_under-more t r i e handed new h is so more =
    let own : List Frame = own_frame t e in
    more ∙ ap (λ l. l ++ map stripped own) so ∙ sym (map-append stripped (frames_under t (take i r)) own)
    ∙ ap (λ l. map stripped (frames_under t (take i r) ++ l)) (sym (append-nil own))
    ∙ sym (ap (map stripped) (frames_under-append t (take i r) (e ∷ [])))
    ∙ sym (ap (λ l. map stripped (frames_under t l)) (take_more r i e h ∙ ap (λ x. take i r ++ x ∷ []) (sym is)))

-- what a frame hands
pub hands-frame : (r : List Entry) (frame : Frame) → hands r (steps.Frame frame) ≡ cond (is_plain_frame frame) (frame ∷ []) []
hands-frame r frame = by_case (is_plain_frame frame) refl
  where
    by_case : (b : Bool) → is_plain_frame frame ≡ b → hands r (steps.Frame frame) ≡ cond (is_plain_frame frame) (frame ∷ []) []
    by_case true h = hands-plain r frame h ∙ sym (ap (λ b. cond b (frame ∷ []) []) h)
    by_case false h = hands-other_frame r frame h ∙ sym (ap (λ b. cond b (frame ∷ []) []) h)

-- what an Ok carries, said in other words
pub IfOk-along : {X E : Type 0} (result : Result X E) (a b : X) → a ≡ b → IfOk result (λ x. x ≡ a) → IfOk result (λ x. x ≡ b)
IfOk-along (Ok x) a b e h = h ∙ e
IfOk-along (Err error) a b e h = h
