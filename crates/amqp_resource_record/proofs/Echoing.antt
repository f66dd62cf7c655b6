-- The echoes of a commit, entry by entry.
use Rattle.std.proofs.Common.{◌≡◌, ℕ, suc, ◌+◌, ◌<◌, ◌≤◌, Bool, true, false, List, [], ◌∷◌, ◌++◌, length, drop, get_or, refl, sym, ◌∙◌, ap, arith, subst, add-one}
use Rattle.std.specs.Prelude.{IsTrue, ◌↔◌}
use Rattle.std.proofs.Math.Seq.{drop-cons}
use Rattle.std.proofs.lemmas.List.{drop_all}
use Rattle.amqp_txn_types.specs.declared.id.TransactionId.{TransactionId}
use Rattle.amqp_txn_types.specs.declared.performatives.Frame.{Frame}
use Rattle.amqp_below_layer.specs.declared.answers.Answers.{Answers}
use Rattle.amqp_resource_record.specs.declared.entry.Entry.{Entry}
use Rattle.amqp_resource_record.specs.Live.{entries_since}
use Rattle.amqp_resource_record.specs.Hands.{frames_under, own_frame}
use Rattle.amqp_resource_record.specs.Answers.{Echoed, MayBeVetoed}
use Rattle.amqp_below_layer.specs.Windows.{AllWindowsFit}
use Rattle.amqp_resource_record.proofs.Lives.{frames_of-since}

frames_under-drop : (t : TransactionId) (r : List Entry) (i : ℕ) (e : Entry) → i < length r → e ≡ get_or r i e → frames_under t (drop i r) ≡ own_frame t e ++ frames_under t (drop (i + 1) r)
frames_under-drop t r i e h is =
    let one : drop i r ≡ e ∷ drop (i + 1) r = rw add-one (drop-cons r i e h ∙ ap (λ x. x ∷ drop (suc i) r) (sym is)) in ap (frames_under t) one

-- what is left to fit, after an entry whose echo fits
pub echoes-fit : (t : TransactionId) (r : List Entry) (i : ℕ) (e : Entry) (all : Type 0) (rest left : List Answers) → i < length r → e ≡ get_or r i e → (all ↔ AllWindowsFit (frames_under t (drop i r)) rest) → ((later : List Frame) → (AllWindowsFit (own_frame t e ++ later) rest ↔ AllWindowsFit later left)) → (all ↔ AllWindowsFit (frames_under t (drop (i + 1) r)) left)
echoes-fit t r i e all rest left h is so step =
    let P : List Frame → Type 0 = λ fs. AllWindowsFit fs rest in
    let front = frames_under-drop t r i e h is in
    let one = step (frames_under t (drop (i + 1) r)) in (
      λ a. one.0 (subst P front (so.0 a)),
      λ w. so.1 (subst P (sym front) (one.1 w)),
    )

-- nothing fits after an entry whose echo doesn't
pub echoes-unfit : (t : TransactionId) (r : List Entry) (i : ℕ) (e : Entry) (all : Type 0) (rest : List Answers) → i < length r → e ≡ get_or r i e → (all ↔ AllWindowsFit (frames_under t (drop i r)) rest) → ((later : List Frame) → ¬ AllWindowsFit (own_frame t e ++ later) rest) → (IsTrue false ↔ all)
echoes-unfit t r i e all rest h is so none =
    let P : List Frame → Type 0 = λ fs. AllWindowsFit fs rest in (
      λ f. cc f,
      λ a. absurd (none (frames_under t (drop (i + 1) r)) (subst P (frames_under-drop t r i e h is) (so.0 a))),
    )

none_fit : (rest : List Answers) → AllWindowsFit [] rest → rest ≡ []
none_fit [] w = refl
none_fit (a ∷ rest) w = absurd w

fit_none : (rest : List Answers) → rest ≡ [] → AllWindowsFit [] rest
fit_none [] e = tt
fit_none (a ∷ rest) e = cc e

-- after the last entry no echo is left
pub echoes-end : (t : TransactionId) (r : List Entry) (i : ℕ) (all : Type 0) (rest : List Answers) (b : Bool) → length r ≤ i → (all ↔ AllWindowsFit (frames_under t (drop i r)) rest) → (IsTrue b ↔ (rest ≡ [])) → (IsTrue b ↔ all)
echoes-end t r i all rest b h so none =
    let P : List Entry → Type 0 = λ l. AllWindowsFit (frames_under t l) rest in
    let over = drop_all i r h in (
      λ f. so.1 (subst P (sym over) (fit_none rest (none.0 f))),
      λ a. none.1 (none_fit rest (subst P over (so.0 a))),
    )

-- the echoes of a commit are those of the frames under its id since the last declare
pub echoed-commit : (r : List Entry) (t : TransactionId) (rollback : Bool) (echoes : List Answers) (b : Bool) → rollback ≡ false → (IsTrue b ↔ AllWindowsFit (frames_under t (entries_since r t)) echoes) → (IsTrue b ↔ Echoed r t rollback echoes)
echoed-commit r t true echoes b h w = cc h
echoed-commit r t false echoes b h w =
    let P : List Frame → Type 0 = λ fs. AllWindowsFit fs echoes in
    let frames = frames_of-since r t in (λ f. subst P (sym frames) (w.0 f), λ a. w.1 (subst P frames a))

-- ---- whether there is a frame under the id

-- an entry without one leaves it open
pub under-passed : (t : TransactionId) (r : List Entry) (i : ℕ) (e : Entry) → i < length r → e ≡ get_or r i e → own_frame t e ≡ [] → frames_under t (drop i r) ≡ frames_under t r → frames_under t (drop (i + 1) r) ≡ frames_under t r
under-passed t r i e h is none so = ap (λ own. own ++ frames_under t (drop (i + 1) r)) (sym none) ∙ sym (frames_under-drop t r i e h is) ∙ so

-- an entry with one decides it
pub under-found : (t : TransactionId) (r : List Entry) (i : ℕ) (e : Entry) (f : Frame) → i < length r → e ≡ get_or r i e → own_frame t e ≡ f ∷ [] → frames_under t (drop i r) ≡ frames_under t r → 1 ≤ length (frames_under t r)
under-found t r i e f h is one so =
    let all : frames_under t r ≡ f ∷ frames_under t (drop (i + 1) r) = sym so ∙ frames_under-drop t r i e h is ∙ ap (λ own. own ++ frames_under t (drop (i + 1) r)) one in
    let P : List Frame → Type 0 = λ fs. 1 ≤ length fs in subst P (sym all) (omega arith)

-- after the last entry there is none
pub under-end : (t : TransactionId) (r : List Entry) (i : ℕ) → length r ≤ i → frames_under t (drop i r) ≡ frames_under t r → length (frames_under t r) ≡ 0
under-end t r i h so = ap length (sym so) ∙ ap (λ l. length (frames_under t l)) (drop_all i r h)

-- a commit may be vetoed where there is a frame under its id since the last declare
pub vetoed-commit : (r : List Entry) (t : TransactionId) (rollback b : Bool) → rollback ≡ false → (IsTrue b ↔ (1 ≤ length (frames_under t (entries_since r t)))) → (IsTrue b ↔ MayBeVetoed r t rollback)
vetoed-commit r t rollback b n h =
    let P : List Frame → Type 0 = λ fs. 1 ≤ length fs in
    let frames = frames_of-since r t in (λ f. (n, subst P (sym frames) (h.0 f)), λ m. h.1 (subst P frames m.1))
