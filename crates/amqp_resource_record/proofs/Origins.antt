-- Where the frames that a record handed came from.
use Rattle.std.proofs.Common.{◌≡◌, ℕ, suc, ◌+◌, ◌<◌, ◌≤◌, Bool, true, false, cond, Option, Some, None, List, [], ◌∷◌, ◌++◌, length, map, refl, sym, ◌∙◌, ap, arith, append-nil, subst}
use Rattle.std.specs.List.{AllByRecursion}
use Rattle.std.specs.Prelude.{slice_get}
use Rattle.std.proofs.lemmas.List.{map-append, length-append, length-map}
use Rattle.std.proofs.lemmas.List.Concat.{flat_map-append}
use Rattle.std.proofs.lemmas.Slice.Zip.{firsts-zip}
use Rattle.amqp_txn_types.specs.declared.id.TransactionId.{TransactionId}
use Rattle.amqp_txn_types.specs.declared.performatives.Frame.{Frame}
use Rattle.amqp_txn_types.specs.Frames.{is_plain_frame, stripped}
use Rattle.amqp_resource_record.specs.declared.entry.Entry.{Entry}
use Rattle.amqp_resource_record.specs.declared.step.Step.{Step}
use Rattle.amqp_resource_record.specs.declared.step.Step.TheVariants as steps
use Rattle.amqp_resource_record.specs.declared.reply.Reply.{Reply}
use Rattle.amqp_resource_record.specs.Entries.{steps_of}
use Rattle.amqp_resource_record.specs.Live.{frame_places}
use Rattle.amqp_resource_record.specs.Hands.{frames_at, frame_of_step, sources, sources_of, commits, hands}
use Rattle.amqp_resource_record.specs.Work.{origins, work, given_back, is_rejected, pairs, sources_by}
use Rattle.amqp_resource_record.specs.Answers.{Answer}
use Rattle.amqp_resource_record.specs.Legal.{IsLegal}
use Rattle.amqp_resource_record.proofs.Looking.{frames_at-front, places-below}
use Rattle.amqp_resource_record.proofs.Whole.{joined_after-snoc, work-snoc, legal_induction, work_given}

pub origins-snoc : (r : List Entry) (e : Entry) → origins (r ++ e ∷ []) ≡ origins r ++ sources_by r e.step e.reply
unfolding origins
origins-snoc r e = joined_after-snoc (λ before x. sources_by before x.step x.reply) [] r e

-- a rejected entry adds nothing
pub rejected-adds_nothing : (r : List Entry) (e : Entry) → is_rejected e.reply ≡ true → (work (r ++ e ∷ []) ≡ work r) × (origins (r ++ e ∷ []) ≡ origins r)
rejected-adds_nothing r e h = (
  work-snoc r e ∙ ap (λ b. work r ++ cond b [] (hands r e.step)) h ∙ append-nil (work r),
  origins-snoc r e ∙ ap (λ b. origins r ++ cond b [] (sources r e.step)) h ∙ append-nil (origins r),
)

all_more : (m n : ℕ) (xs : List ℕ) → m ≤ n → AllByRecursion (λ i. i < m) xs → AllByRecursion (λ i. i < n) xs
all_more m n [] h a = tt
all_more m n (x ∷ xs) h a = (omega (arith, a.0), all_more m n xs h a.1)

all_append : (P : ℕ → Type 0) (xs ys : List ℕ) → AllByRecursion P xs → AllByRecursion P ys → AllByRecursion P (xs ++ ys)
all_append P [] ys a b = b
all_append P (x ∷ xs) ys a b = (a.0, all_append P xs ys a.1 b)

sources-below : (r : List Entry) (s : Step) → AllByRecursion (λ i. i < suc (length r)) (sources r s)
sources-below r (steps.Frame frame) = by_case (is_plain_frame frame)
  where
    by_case : (b : Bool) → AllByRecursion (λ i. i < suc (length r)) (cond b (length r ∷ []) [])
    by_case true = (omega arith, tt)
    by_case false = tt
sources-below r (steps.Control k payload) = by_case (commits r (steps.Control k payload))
  where
    by_case : (o : Option TransactionId) → AllByRecursion (λ i. i < suc (length r)) (sources_of r o)
    by_case None = tt
    by_case (Some t) = all_more (length r) (suc (length r)) (frame_places r t) (omega arith) (places-below r t)
sources-below r (steps.LinkEnd k) = tt
sources-below r (steps.LocalEnd error) = tt
sources-below r (steps.RemoteEnd error) = tt
sources-below r (steps.ConnectionStop reason) = tt

sources_by-below : (r : List Entry) (s : Step) (reply : Reply) → AllByRecursion (λ i. i < suc (length r)) (sources_by r s reply)
sources_by-below r s reply = by_case (is_rejected reply)
  where
    by_case : (b : Bool) → AllByRecursion (λ i. i < suc (length r)) (cond b [] (sources r s))
    by_case true = tt
    by_case false = sources-below r s

-- what a step with a reply handed are the frames at its sources, stripped
handed-sources : (r : List Entry) (s : Step) (b : Bool) → cond b [] (hands r s) ≡ map stripped (frames_at (steps_of r ++ s ∷ []) (cond b [] (sources r s)))
handed-sources r s true = refl
handed-sources r s false = refl

-- the frames handed are those at the origins, stripped; and the origins are places of the record
abbrev pub FromOrigins : List Entry → Type 0
FromOrigins r = AllByRecursion (λ i. i < length r) (origins r) × (work r ≡ map stripped (frames_at (steps_of r) (origins r)))

none_from : FromOrigins []
unfolding origins work
none_from = (tt, refl)

steps_length : (r : List Entry) (xs : List ℕ) → AllByRecursion (λ i. i < length r) xs → AllByRecursion (λ i. i < length (steps_of r)) xs
steps_length r xs a = let P : ℕ → Type 0 = λ n. AllByRecursion (λ i. i < n) xs in subst P (sym (length-map r (λ (x : Entry). x.step))) a

more_from : (r : List Entry) (e : Entry) → FromOrigins r → Answer r e.step e.drawn.ids e.reply → FromOrigins (r ++ e ∷ [])
more_from r e p a =
    let count : length (r ++ e ∷ []) ≡ suc (length r) = let l : length (r ++ e ∷ []) ≡ length r + 1 = length-append r (e ∷ []) in omega arith in
    let more : List ℕ = sources_by r e.step e.reply in
    let P : ℕ → Type 0 = λ n. AllByRecursion (λ i. i < n) (origins r ++ more) in
    let Q : List ℕ → Type 0 = λ xs. AllByRecursion (λ i. i < length (r ++ e ∷ [])) xs in
    let f : ℕ → List Frame = λ i. frame_of_step (slice_get (steps_of r ++ e.step ∷ []) i) in (
      subst Q (sym (origins-snoc r e)) (subst P (sym count) (all_append (λ i. i < suc (length r)) (origins r) more (all_more (length r) (suc (length r)) (origins r) (omega arith) p.0) (sources_by-below r e.step e.reply))),
      work-snoc r e
          ∙ ap (λ ws. work r ++ ws) (handed-sources r e.step (is_rejected e.reply))
          ∙ ap (λ ws. ws ++ map stripped (frames_at (steps_of r ++ e.step ∷ []) more)) (p.1 ∙ sym (ap (map stripped) (frames_at-front (steps_of r) (e.step ∷ []) (origins r) (steps_length r (origins r) p.0))))
          ∙ sym (map-append stripped (frames_at (steps_of r ++ e.step ∷ []) (origins r)) (frames_at (steps_of r ++ e.step ∷ []) more))
          ∙ ap (map stripped) (sym (flat_map-append f (origins r) more))
          ∙ ap (λ xs. map stripped (frames_at (steps_of r ++ e.step ∷ []) xs)) (sym (origins-snoc r e))
          ∙ ap (λ ss. map stripped (frames_at ss (origins (r ++ e ∷ [])))) (sym (map-append (λ (x : Entry). x.step) r (e ∷ []))),
    )

pub work_origins : (r : List Entry) → IsLegal r → work r ≡ map stripped (frames_at (steps_of r) (origins r))
work_origins r l = (legal_induction FromOrigins none_from more_from r l).1

pub firsts_of_pairs : (r : List Entry) → IsLegal r → map (λ (p : Frame × List Frame). p.0) (pairs r) ≡ work r
unfolding pairs
firsts_of_pairs r l = firsts-zip (work r) (given_back r) (sym (work_given r l))
