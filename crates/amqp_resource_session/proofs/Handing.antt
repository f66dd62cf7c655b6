-- Frames handed one after another.
use Rattle.std.proofs.Common.{◌≡◌, ℕ, zero, suc, ◌+◌, ◌<◌, ◌≤◌, Bool, true, false, not, cond, Option, Some, None, Result, Ok, Err, List, [], ◌∷◌, ◌++◌, length, map, take, drop, refl, sym, ◌∙◌, ap, arith, subst, append-nil, add-one, add-zero}
use Rattle.std.specs.Prelude.{◌&&◌}
use Rattle.std.specs.List.{cons_option, list_all, zip}
use Rattle.std.specs.Map.{lookup}
use Rattle.std.specs.Option.{option_map}
use Rattle.std.proofs.lemmas.List.{length-append, length-map, map-append}
use Rattle.amqp_below_layer.specs.Windows.{AllWindowsFit, WindowFits}
use Rattle.amqp_below_layer.specs.declared.answers.Answers.{Answers}
use Rattle.amqp_below_sessions.specs.declared.transacting.CommitFault.{CommitFault}
use Rattle.amqp_txn_types.specs.declared.delivery.DeliveryState.{DeliveryState}
use Rattle.amqp_txn_types.specs.declared.performatives.Frame.{Frame}
use Rattle.amqp_resource_held.specs.declared.held.Held.{Held}
use Rattle.amqp_resource_log.specs.Live.{Live, frames_kept, kept}
use Rattle.amqp_txn_types.specs.declared.items.NoMemory.{NoMemory}
use Rattle.amqp_below_layer.specs.declared.refusal.Refusal.{Refusal}
use Rattle.amqp_below_layer.specs.Told.{Reviews, Told, refusal_of, refused_after}
use Rattle.amqp_below_layer.specs.declared.inner_error.SessionInnerError.{SessionInnerError}
use Rattle.amqp_below_layer.specs.OneFrame.{TookFrames, taken_frames}
use Rattle.amqp_txn_types.specs.declared.small.TransactionError.{TransactionError}
use Rattle.amqp_txn_types.specs.declared.id.TransactionId.{TransactionId}
use Rattle.amqp_txn_types.specs.Works.{frame_of_work}
use Rattle.amqp_txn_types.specs.Growing.{grown}
use Rattle.amqp_below_layer.specs.Reviewing.{is_bare}
use Rattle.amqp_below_layer.specs.Faults.{is_no_memory}
use Rattle.amqp_txn_types.specs.Frames.{is_under_txn, stripped, is_transfer, state_of_outcomes, stripped_state}
use Rattle.amqp_txn_types.specs.Ids.{same_id}
use Rattle.amqp_txn_types.specs.declared.performatives.Frame.TheVariants as frames
use Rattle.amqp_txn_types.proofs.Growing.{grown-grown, grown-nil}
use Rattle.amqp_resource_record.proofs.Whole.{zip-append, length-AllWindowsFit}
use Rattle.amqp_txn_types.specs.declared.small.TransactionError.TheVariants as transaction_errors
use Rattle.amqp_txn_types.specs.declared.frames.TxnWorkFrame.{TxnWorkFrame}
use Rattle.amqp_txn_types.specs.declared.frames.TxnWorkFrame.TheVariants as works
use Rattle.amqp_txn_types.specs.declared.delivery.DeliveryState.TheVariants as states
use Rattle.amqp_txn_types.specs.declared.delivery.Outcome.{Outcome}
use Rattle.amqp_txn_types.specs.declared.delivery.Outcome.TheVariants as outcomes
use Rattle.amqp_below_layer.specs.declared.inner_error.SessionInnerError.TheVariants as faults
use Rattle.amqp_below_layer.specs.declared.verdict.Verdict.TheVariants as verdicts
use Rattle.amqp_below_sessions.specs.declared.transacting.CommitFault.TheVariants as commit_faults
use Rattle.amqp_resource_log.specs.declared.cell.Cell.{Cell}
use Rattle.amqp_resource_log.specs.declared.cell.Cell.TheVariants as cells
use Rattle.amqp_resource_log.specs.Cells.{frame_under, frames_in, frames_of}
use Rattle.amqp_resource_held.specs.Draws.{is_kept}
use Rattle.amqp_resource_session.specs.Transacting.{CommittedIn, CommittedWith}
use Rattle.amqp_resource_held.specs.Changes.{Ended}
use Rattle.amqp_resource_session.specs.Committing.{HandCause, HandedAll, HandedSome, HandedPart, HandsAll, OnNoEchoes, OnVetoed, given_of, vetoed_of}

-- an Err of a call below adds its refusal
pub refused_after-err : (before : Option (List Refusal)) (frame : Frame) (error : SessionInnerError) → refused_after {T = List Frame} before frame (Err error) ≡ grown before (refusal_of frame error)
refused_after-err before frame error = by_case (is_no_memory error)
  where
    by_case : (b : Bool) → cond b before (grown before (record { frame = frame; error = error } ∷ [])) ≡ grown before (cond b [] (record { frame = frame; error = error } ∷ []))
    by_case true = sym (grown-nil before)
    by_case false = refl

pub took-append : (a b c : Option (List (Frame × List Frame))) (xs ys : List Frame) → TookFrames a b xs → TookFrames b c ys → TookFrames a c (xs ++ ys)
took-append a b c xs ys p q = (
  p.0 ++ q.0,
  length-append p.0 q.0 ∙ ap (λ n. n + length q.0) p.1 ∙ ap (λ n. length xs + n) q.1 ∙ sym (length-append xs ys),
  q.2 ∙ ap (λ o. grown o (zip ys q.0)) p.2 ∙ grown-grown a (zip xs p.0) (zip ys q.0) ∙ ap (grown a) (sym (zip-append xs ys p.0 q.0 (sym p.1))),
)

split_more : {A : Type 0} (all : List A) (n : ℕ) (x : A) (rest : List A) → drop n all ≡ x ∷ rest → (take (n + 1) all ≡ take n all ++ x ∷ []) × (drop (n + 1) all ≡ rest) × (n < length all)
split_more [] zero x rest h = cc h
split_more [] (suc n) x rest h = cc h
split_more (y ∷ all) zero x rest h = (let e : y ≡ x = cc h in ap (λ z. z ∷ []) e, let e : all ≡ rest = cc h in e, omega arith)
split_more (y ∷ all) (suc n) x rest h =
    let p = split_more all n x rest h in
    (rw add-one (ap (λ l. y ∷ l) (ap (λ k. take k all) (sym (add-one n)) ∙ p.0)), rw add-one (ap (λ k. drop k all) (sym (add-one n)) ∙ p.1), omega (arith, p.2))

pub transfer_stripped : (frame : Frame) → is_transfer (stripped frame) ≡ is_transfer frame
unfolding stripped
transfer_stripped (frames.Attach a) = refl
transfer_stripped (frames.Flow f) = refl
transfer_stripped (frames.Transfer t p) = refl
transfer_stripped (frames.Disposition d) = refl
transfer_stripped (frames.Detach d) = refl

pub WindowsFit-snoc : (handed : List Frame) (answers : List Answers) (frame : Frame) (a : Answers) → AllWindowsFit handed answers → WindowFits frame a → AllWindowsFit (handed ++ frame ∷ []) (answers ++ a ∷ [])
WindowsFit-snoc [] [] frame a w f = (f, tt)
WindowsFit-snoc [] (b ∷ answers) frame a w f = absurd w
WindowsFit-snoc (g ∷ handed) [] frame a w f = absurd w
WindowsFit-snoc (g ∷ handed) (b ∷ answers) frame a w f = (w.0, WindowsFit-snoc handed answers frame a w.1 f)

-- what fits the frames as they are handed fits them as they came
pub windows-stripped : (kept : List Frame) (echoes : List Answers) → AllWindowsFit (map stripped kept) echoes → AllWindowsFit kept echoes
windows-stripped [] [] w = tt
windows-stripped [] (a ∷ echoes) w = absurd w
windows-stripped (x ∷ kept) [] w = absurd w
windows-stripped (x ∷ kept) (a ∷ echoes) w = (λ y. w.0 (transfer_stripped x ∙ y), windows-stripped kept echoes w.1)

-- ---- work as it is handed

outcome-bare : (outcome : Option Outcome) → is_under_txn (state_of_outcomes outcome) ≡ false
outcome-bare None = refl
outcome-bare (Some outcomes.Accepted) = refl
outcome-bare (Some (outcomes.Rejected r)) = refl
outcome-bare (Some outcomes.Released) = refl
outcome-bare (Some (outcomes.Modified m)) = refl
outcome-bare (Some (outcomes.Declared d)) = refl

state-bare : (state : Option DeliveryState) → is_under_txn (stripped_state state) ≡ false
state-bare None = refl
state-bare (Some (states.TransactionalState inner)) = outcome-bare inner.outcome
state-bare (Some _) = refl

pub work-bare : (work : TxnWorkFrame) → is_bare (stripped (frame_of_work work)) ≡ true
unfolding stripped
work-bare (works.Post transfer payload) = ap not (state-bare transfer.state)
work-bare (works.Retire disposition) = ap not (state-bare disposition.state)

bare_under : (t u : TransactionId) (w : TxnWorkFrame) (fs : List Frame) → list_all is_bare (map stripped fs) ≡ true → list_all is_bare (map stripped (cons_option (frame_under t (cells.Live u w)) fs)) ≡ true
bare_under t u w fs more = by_case (same_id t u)
  where
    by_case : (b : Bool) → list_all is_bare (map stripped (cons_option (cond b (Some (frame_of_work w)) None) fs)) ≡ true
    by_case true = ap (λ b. b && list_all is_bare (map stripped fs)) (work-bare w) ∙ more
    by_case false = more

bare_in : (cs : List Cell) (t : TransactionId) → list_all is_bare (map stripped (frames_in cs t)) ≡ true
bare_in [] t = refl
bare_in (cells.Live u w ∷ cs) t = bare_under t u w (frames_in cs t) (bare_in cs t)
bare_in (cells.Dead ∷ cs) t = bare_in cs t

-- the frames that are kept for an id are work
pub kept-bare : (live : Live) (t : TransactionId) → list_all is_bare (map stripped (frames_kept (kept live t))) ≡ true
kept-bare live t = by_case (lookup (same_id t) live.homes)
  where
    by_case : (o : Option (Option ℕ)) → list_all is_bare (map stripped (frames_kept (option_map (λ home. (home, frames_of live t)) o))) ≡ true
    by_case None = refl
    by_case (Some home) = bare_in live.cells t

-- ---- frames handed one after another

lengths : (handed : List Frame) (echoes : List Answers) → AllWindowsFit handed echoes → length handed ≡ length (given_of echoes)
lengths handed echoes w = sym (length-AllWindowsFit handed echoes w) ∙ sym (length-map echoes (λ (a : Answers). a.given))

-- one more
pub handed-more : (old mid new : Told) (all rest : List Frame) (x : Frame) (echoes : List Answers) (a : Answers) → HandedSome old mid (take (length echoes) all) echoes → drop (length echoes) all ≡ x ∷ rest → new.taken ≡ grown mid.taken ((x, a.given) ∷ []) → WindowFits x a → HandedSome old new (take (length echoes + 1) all) (echoes ++ a ∷ [])
handed-more old mid new all rest x echoes a h d t w =
    let front : List Frame = take (length echoes) all in
    rw (split_more all (length echoes) x rest d).0 (record {
      taken =
          t ∙ ap (λ p. grown p ((x, a.given) ∷ [])) h.taken
          ∙ grown-grown old.taken (zip front (given_of echoes)) ((x, a.given) ∷ [])
          ∙ ap (grown old.taken) (
          sym (zip-append front (x ∷ []) (given_of echoes) (a.given ∷ []) (lengths front echoes h.fits))
          ∙ sym (ap (zip (front ++ x ∷ [])) (map-append (λ (b : Answers). b.given) echoes (a ∷ []))));
      fits = WindowsFit-snoc front echoes x a h.fits w;
    })

pub handed-none : (old : Told) (all : List Frame) → HandedSome old old (take 0 all) []
handed-none old all = record { taken = sym (grown-nil old.taken); fits = tt }

pub handed-rest : (all rest : List Frame) (x : Frame) (n : ℕ) → drop n all ≡ x ∷ rest → (drop (n + 1) all ≡ rest) × (n < length all)
handed-rest all rest x n d = let p = split_more all n x rest d in (p.1, p.2)

-- none is left, so all were handed
none_left : (all : List Frame) (n : ℕ) → drop n all ≡ [] → take n all ≡ all
none_left [] zero d = refl
none_left [] (suc n) d = refl
none_left (x ∷ all) zero d = cc d
none_left (x ∷ all) (suc n) d = ap (λ (fs : List Frame). x ∷ fs) (none_left all n d)

pub handed-all : (old new : Told) (all : List Frame) (echoes : List Answers) → HandedSome old new (take (length echoes) all) echoes → drop (length echoes) all ≡ [] → HandedSome old new all echoes
handed-all old new all echoes h d = subst (λ (fs : List Frame). HandedSome old new fs echoes) (none_left all (length echoes) d) h

front_of : (b : Bool) (all rest : List Frame) (x : Frame) (n : ℕ) → drop n all ≡ x ∷ rest → take n all ++ taken_frames b x ≡ take (n + cond b 1 0) all
front_of true all rest x n d = sym (split_more all n x rest d).0
front_of false all rest x n d = append-nil (take n all) ∙ sym (ap (λ k. take k all) (add-zero n))

within_of : (b : Bool) (n m : ℕ) → n < m → n + cond b 1 0 ≤ m
within_of true n m h = omega arith
within_of false n m h = omega arith

-- out of memory after these
pub handed-part : (old mid new : Told) (all rest : List Frame) (x : Frame) (echoes : List Answers) (b : Bool) → HandedSome old mid (take (length echoes) all) echoes → drop (length echoes) all ≡ x ∷ rest → TookFrames mid.taken new.taken (taken_frames b x) → HandedPart old new all (length echoes + cond b 1 0)
handed-part old mid new all rest x echoes b h d t = record {
  some = let p = (handed-rest all rest x (length echoes) d).1 in omega (arith, p);
  within = within_of b (length echoes) (length all) (handed-rest all rest x (length echoes) d).1;
  took =
      subst (TookFrames old.taken new.taken) (front_of b all rest x (length echoes) d)
      (took-append old.taken mid.taken new.taken (take (length echoes) all) (taken_frames b x)
      (given_of echoes, sym (lengths (take (length echoes) all) echoes h.fits), h.taken) t);
}

-- the one error that is out of memory
pub only-no_memory : (error : SessionInnerError) → is_no_memory error ≡ true → error ≡ faults.NoMemory
only-no_memory faults.NoMemory h = refl
only-no_memory _ h = cc h

-- out of memory refuses no frame
pub refuses-nothing : (before : Option (List Refusal)) (frame : Frame) (b : Bool) (error : SessionInnerError) → is_no_memory error ≡ true → grown before (cond b [] (refusal_of frame error)) ≡ before
refuses-nothing before frame true error h = grown-nil before
refuses-nothing before frame false error h = ap (λ c. grown before (cond c [] (record { frame = frame; error = error } ∷ []))) h ∙ grown-nil before

-- ---- a review, and then the frames

same-handed : (old mid new : Told) (list : List Frame) (result : Result (Result (List Answers) TransactionError) CommitFault) → mid.taken ≡ old.taken → HandedAll mid new list result → HandedAll old new list result
same-handed old mid new list (Ok (Ok echoes)) t h = record { taken = h.taken ∙ ap (λ p. grown p (zip list (given_of echoes))) t; fits = h.fits }
same-handed old mid new list (Ok (Err error)) t h = (h.0, record { some = h.1.some; taken = h.1.taken ∙ t })
same-handed old mid new list (Err (commit_faults.Refused error at)) t h =
    let part = h.1 in
    (h.0, record { some = part.some; within = part.within; took = subst (λ (p : Option (List (Frame × List Frame))). TookFrames p new.taken (take at list)) t part.took })
same-handed old mid new list (Err commit_faults.NoMemory) t h = h

same-cause : (old mid new : Told) (result : Result (Result (List Answers) TransactionError) CommitFault) → old.refusals ≤ mid.refusals → old.reviews.vetoes ≤ mid.reviews.vetoes → HandCause mid new result → HandCause old new result
same-cause old mid new (Ok (Ok echoes)) l c h = tt
same-cause old mid new (Ok (Err error)) l c h = omega (arith, h)
same-cause old mid new (Err fault) l c h = omega (arith, h)

-- frames that were accepted, and then handed
pub reviewed-handed : (old mid new : Told) (list : List Frame) (result : Result (Result (List Answers) TransactionError) CommitFault) → Reviews old mid list (Ok verdicts.Accept) → HandsAll mid new list result → HandsAll old new list result
reviewed-handed old mid new list result r h = record {
  handed = same-handed old mid new list result r.taken h.handed;
  opened = h.opened ∙ r.opened;
  refused = h.refused ∙ r.refused;
  vetoed = h.vetoed ∙ ap (λ (p : Option (List (List Frame))). grown p (vetoed_of list result)) r.vetoed;
  fixed = h.fixed ∙ r.fixed;
  later = let a = r.later in let b = h.later in omega (arith, a, b);
  counted = let a = r.counted in let b = h.counted in omega (arith, a, b);
  cause = same-cause old mid new result r.later r.counted h.cause;
}

-- frames that were vetoed
pub reviewed-vetoed : (old new : Told) (list : List Frame) → 1 ≤ length list → Reviews old new list (Ok verdicts.Veto) → HandsAll old new list (Ok (Err transaction_errors.Rollback))
reviewed-vetoed old new list some r = record {
  handed = (refl, record { some = some; taken = r.taken });
  opened = r.opened;
  refused = r.refused;
  vetoed = r.vetoed;
  fixed = r.fixed;
  later = r.later;
  counted = r.counted;
  cause = r.cause;
}

-- memory lacked in the review
pub reviewed-wanting : (old new : Told) (list : List Frame) (error : NoMemory) → 1 ≤ length list → Reviews old new list (Err error) → HandsAll old new list (Err (commit_faults.Refused faults.NoMemory 0))
reviewed-wanting old new list error some r = record {
  handed = (refl, record { some = some; within = omega arith; took = ([], refl, r.taken ∙ sym (grown-nil old.taken)) });
  opened = r.opened;
  refused = r.refused;
  vetoed = r.vetoed ∙ sym (grown-nil old.reviews.vetoed);
  fixed = r.fixed;
  later = r.later;
  counted = r.counted;
  cause = r.cause;
}

-- no frames, and no call below
pub handed-nothing : (told : Told) → HandsAll told told [] (Ok (Ok []))
handed-nothing told = record {
  handed = record { taken = sym (grown-nil told.taken); fits = tt };
  opened = refl;
  refused = refl;
  vetoed = sym (grown-nil told.reviews.vetoed);
  fixed = refl;
  later = omega arith;
  counted = omega arith;
  cause = tt;
}

-- ---- what is called beside

pub vetoed-weaker : (result : Result (Result (List Answers) TransactionError) CommitFault) (P Q : Type 0) → (P → Q) → OnVetoed result P → OnVetoed result Q
vetoed-weaker (Ok (Err transaction_errors.Rollback)) P Q f x = f x
vetoed-weaker _ P Q f x = tt

-- frames that were handed have an answer each
pub some-echoes : (old new : Told) (kept : List Frame) (result : Result (Result (List Answers) TransactionError) CommitFault) (P : Type 0) → HandsAll old new (map stripped kept) result → 1 ≤ length kept → OnNoEchoes result P
some-echoes old new [] result P h some = absurd (omega (arith, some))
some-echoes old new (f ∷ kept) (Ok (Ok [])) P h some = let x : AllWindowsFit (stripped f ∷ map stripped kept) [] = h.handed.fits in absurd x
some-echoes old new (f ∷ kept) _ P h some = tt

-- ---- an id that ends by a commit

pub no-frames : (fs : List Frame) → length fs ≡ 0 → fs ≡ []
no-frames [] h = refl
no-frames (f ∷ fs) h = absurd (omega arith)

-- memory of the session's own is there
pub committed-with : (h g : Held) (told now : Told) (id : TransactionId) (kept : List Frame) (U : Type 0) (result : Result (Result (List Answers) TransactionError) CommitFault) → Ended h g id → HandsAll told now (map stripped kept) result → CommittedWith h g told now id kept U result
committed-with h g told now id kept U (Ok answer) x hands = (x, hands)
committed-with h g told now id kept U (Err commit_faults.NoMemory) x hands = absurd hands.handed
committed-with h g told now id kept U (Err (commit_faults.Refused error at)) x hands = (x, hands)

-- a live id
pub committed-in : (h g : Held) (told now : Told) (id : TransactionId) (U : Type 0) (result : Result (Result (List Answers) TransactionError) CommitFault) → is_kept h.work id ≡ true → CommittedWith h g told now id (frames_kept (kept h.work id)) U result → CommittedIn h g told now id U result
committed-in h g told now id U (Ok (Ok echoes)) live x = (live, x)
committed-in h g told now id U (Ok (Err transaction_errors.UnknownId)) live x = let is : transaction_errors.UnknownId ≡ transaction_errors.Rollback = x.1.handed.0 in absurd (cc is)
committed-in h g told now id U (Ok (Err transaction_errors.Rollback)) live x = (live, x)
committed-in h g told now id U (Ok (Err transaction_errors.Timeout)) live x = (live, x)
committed-in h g told now id U (Err fault) live x = (live, x)
