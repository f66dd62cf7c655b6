-- Lists that come in some order.
use Rattle.std.proofs.Common.{◌≡◌, ◌≢◌, ◌<◌, ◌≤◌, ◌+◌, ◌-◌, ◌⊎◌, ⊎_elim, eqb, ℕ, zero, suc, true, false, cond, List, [], ◌∷◌, ◌++◌, length, take, drop, sym, refl, ap, ◌∙◌, arith, length-append, Some}
use Rattle.std.specs.Prelude.{slice_get}
use Rattle.std.proofs.lemmas.List.{append-nil, drop-drop, map-append, length-map}
use Rattle.std.proofs.lemmas.List.Elements.{All-map, All-nil, All-push}
use Rattle.std.proofs.lemmas.Bool.Decides.{eqb_tells}
use Rattle.std.proofs.lemmas.Grind.{common_steps}
use Rattle.std.proofs.Math.Seq.{take-length}
use Rattle.amqp_resource_record.specs.declared.step.Step.{Step}
use Rattle.txn_mailbox_queue.specs.declared.item.Item.{Item}
use Rattle.txn_mailbox_queue.specs.declared.item.View.{View}
use Rattle.txn_mailbox_queue.specs.Order.{count, with_first, with_second, sender_view}
use Rattle.txn_mailbox_queue.proofs.Items.{count_yes, count_no}
use Rattle.txn_mailbox_serving.specs.Steps.{Came, CameSoFar, IsFrontOf, list_of, marked, senders_of}

pub marked-append : (k : ℕ) (marks more : List ℕ) (steps others : List Step) → length marks ≡ length steps
    → marked k (marks ++ more) (steps ++ others) ≡ marked k marks steps ++ marked k more others
marked-append k [] more [] others h = refl
marked-append k [] more (s ∷ steps) others h = absurd (omega arith)
marked-append k (m ∷ marks) more [] others h = absurd (omega arith)
marked-append k (m ∷ marks) more (s ∷ steps) others h = let i = marked-append k marks more steps others (omega arith) in grind (arith, common_steps)

-- one more of a list
take-get : (xs : List Step) (n : ℕ) (s : Step) → slice_get xs n ≡ Some s → take (suc n) xs ≡ take n xs ++ s ∷ []
take-get [] n s e = absurd (cc e)
take-get (x ∷ xs) zero s e = let h : x ≡ s = cc e in ap (λ y. y ∷ []) h
take-get (x ∷ xs) (suc n) s e = ap (λ l. x ∷ l) (take-get xs n s e)

pub take-next : (xs : List Step) (n : ℕ) (s : Step) → slice_get xs n ≡ Some s → take (n + 1) xs ≡ take n xs ++ s ∷ []
take-next xs n s e = let one : n + 1 ≡ suc n = omega arith in ap (λ k. take k xs) one ∙ take-get xs n s e

pub came-nil : (first second : List Step) → CameSoFar first second [] []
came-nil first second = record { each = refl; known = All-nil (λ (x : Item). x.sender < 2); follows = λ k low. refl }

-- the next item of its sender, with its step
pub came-more : (first second : List Step) (taken : List Item) (steps : List Step) (x : Item) (step : Step) → CameSoFar first second taken steps
    → x.sender < 2 → x.place ≡ count x.sender taken → slice_get (list_of first second x.sender) x.place ≡ Some step
    → CameSoFar first second (taken ++ x ∷ []) (steps ++ step ∷ [])
came-more first second taken steps x step came low at is = record {
  each = length-append taken (x ∷ []) ∙ ap (λ n. n + 1) came.each ∙ sym (length-append steps (step ∷ []));
  known = All-push (λ (y : Item). y.sender < 2) taken x came.known low;
  follows = λ k small. let old = came.follows k small in
      let senders : senders_of (taken ++ x ∷ []) ≡ senders_of taken ++ x.sender ∷ [] = map-append (λ (y : Item). y.sender) taken (x ∷ []) in
      let same : length (senders_of taken) ≡ length steps = length-map taken (λ (y : Item). y.sender) ∙ came.each in
      let m = marked-append k (senders_of taken) (x.sender ∷ []) steps (step ∷ []) same in
      let both = ap (λ l. marked k l (steps ++ step ∷ [])) senders ∙ m in
      ⊎_elim
      (λ (t : (eqb x.sender k ≡ true) × (x.sender ≡ k)).
      let one : marked k (x.sender ∷ []) (step ∷ []) ≡ step ∷ [] = ap (λ b. cond b (step ∷ []) []) t.0 in
      let here : slice_get (list_of first second k) (count k taken) ≡ Some step = ap (λ j. slice_get (list_of first second j) (count j taken)) (sym t.1) ∙ ap (slice_get (list_of first second x.sender)) (sym at) ∙ is in
      both ∙ ap (λ l. marked k (senders_of taken) steps ++ l) one ∙ ap (λ l. l ++ step ∷ []) old ∙ sym (take-get (list_of first second k) (count k taken) step here)
      ∙ ap (λ n. take n (list_of first second k)) (sym (count_yes k taken x t.1)))
      (λ (t : (eqb x.sender k ≡ false) × (x.sender ≢ k)).
      let none : marked k (x.sender ∷ []) (step ∷ []) ≡ [] = ap (λ b. cond b (step ∷ []) []) t.0 in
      both ∙ ap (λ l. marked k (senders_of taken) steps ++ l) none ∙ append-nil (marked k (senders_of taken) steps) ∙ old ∙ ap (λ n. take n (list_of first second k)) (sym (count_no k taken x t.1)))
      (eqb_tells x.sender k);
}

-- a list whose front is left away, read at its first place
pub drop-get : (xs ys : List Step) (n : ℕ) → drop n xs ≡ drop n ys → slice_get xs n ≡ slice_get ys n
drop-get xs ys n e = sym (from xs n) ∙ ap (λ l. slice_get l 0) e ∙ from ys n
  where
    from : (l : List Step) (n : ℕ) → slice_get (drop n l) 0 ≡ slice_get l n
    from [] zero = refl
    from [] (suc n) = refl
    from (x ∷ l) zero = refl
    from (x ∷ l) (suc n) = from l n

-- what is left of two lists is one also further on
drop-further : (xs ys : List Step) (m n : ℕ) → m ≤ n → drop m xs ≡ drop m ys → drop n xs ≡ drop n ys
drop-further xs ys m n le e =
    let at : m + (n - m) ≡ n = omega arith in
    ap (λ k. drop k xs) (sym at) ∙ sym (drop-drop (n - m) m xs) ∙ ap (drop (n - m)) e ∙ drop-drop (n - m) m ys ∙ ap (λ k. drop k ys) at

-- the copies wait that an item left
pub waits-more : (k : ℕ) (taken : List Item) (x : Item) (now before new : List Step) → x.place ≡ count x.sender taken
    → drop (count k taken) now ≡ drop (count k taken) before
    → ((n : ℕ) → (k ≡ x.sender → x.place < n) → drop n new ≡ drop n now)
    → drop (count k (taken ++ x ∷ [])) new ≡ drop (count k (taken ++ x ∷ [])) before
waits-more k taken x now before new at waits left =
    let n : ℕ = count k (taken ++ x ∷ []) in
    let facts : (count k taken ≤ n) × (k ≡ x.sender → x.place < n) = ⊎_elim
    (λ (t : (eqb x.sender k ≡ true) × (x.sender ≡ k)). let c = count_yes k taken x t.1 in let here : x.place ≡ count k taken = at ∙ ap (λ j. count j taken) t.1 in (omega arith, λ _. omega arith))
    (λ (t : (eqb x.sender k ≡ false) × (x.sender ≢ k)). let c = count_no k taken x t.1 in (omega arith, λ same. absurd (t.1 (sym same))))
    (eqb_tells x.sender k) in
    left n facts.1 ∙ drop-further now before (count k taken) n facts.0 waits

-- once all items were taken, each list came whole
pub came-whole : (first second : List Step) (taken items : List Item) (steps : List Step) → CameSoFar first second taken steps
    → count 0 (taken ++ items) ≡ length first → count 1 (taken ++ items) ≡ length second
    → length taken + length items ≡ length first + length second → length taken ≡ length first + length second
    → Came first second (senders_of taken) steps
came-whole first second taken [] steps came a b total all = let e = append-nil taken in
    let a' : count 0 taken ≡ length first = rw e at a in let b' : count 1 taken ≡ length second = rw e at b in record {
      each = length-map taken (λ (y : Item). y.sender) ∙ came.each;
      known = All-map (λ k. k < 2) (λ (y : Item). y.sender) taken came.known;
      of_first = came.follows 0 (omega arith) ∙ ap (λ n. take n first) a' ∙ take-length first;
      of_second = came.follows 1 (omega arith) ∙ ap (λ n. take n second) b' ∙ take-length second;
    }
came-whole first second taken (x ∷ items) steps came a b total all = absurd (omega arith)

-- what the server's pass knows once both senders' passes were taken in
pub whole_view : (server first second one all : View) (a b : ℕ) → one ≡ with_first server first → all ≡ with_second one second → first ≡ sender_view 0 a → second ≡ sender_view 1 b
    → (all.taken ≡ server.taken) × (all.first_put ≡ a) × (all.second_put ≡ b)
whole_view server first second one all a b e f g h = (
  ap (λ (v : View). v.taken) f ∙ ap (λ (v : View). v.taken) e,
  ap (λ (v : View). v.first_put) f ∙ ap (λ (v : View). v.first_put) e ∙ ap (λ (v : View). v.first_put) g,
  ap (λ (v : View). v.second_put) f ∙ ap (λ (v : View). v.second_put) h,
)

-- the marked ones of the first steps are the first of those marked
pub marked-front : (k n : ℕ) (marks : List ℕ) (steps : List Step) → length marks ≡ length steps → IsFrontOf (marked k (take n marks) (take n steps)) (marked k marks steps)
marked-front k zero marks steps h = (0, refl)
marked-front k (suc n) [] [] h = (0, refl)
marked-front k (suc n) [] (s ∷ steps) h = absurd (omega arith)
marked-front k (suc n) (m ∷ marks) [] h = absurd (omega arith)
marked-front k (suc n) (m ∷ marks) (s ∷ steps) h = longer (eqb m k) (marked-front k n marks steps (omega arith))
  where
    longer : (b : _) → IsFrontOf (marked k (take n marks) (take n steps)) (marked k marks steps)
        → IsFrontOf (cond b (s ∷ marked k (take n marks) (take n steps)) (marked k (take n marks) (take n steps))) (cond b (s ∷ marked k marks steps) (marked k marks steps))
    longer true f = (suc f.0, ap (λ l. s ∷ l) f.1)
    longer false f = f
