-- The numbers that wait in a queue are those of its messages.
use Rattle.txn_broker_queues.proofs.Words.{Bool, Frame, Lines, List, Mail, Mark, Message, None, Option, Sent, Some, [], ap, arith, cond, cons_option, enumerate_from, false, filter_map, is_gone, is_waiting_in, length, mail_at, mail_of, map, messages, not, numbers_from, pointwise, nat_eq, queue, refl, slice_get, suc, sym, true, waiting, ℕ, ◌&&◌, ◌+◌, ◌==◌, ◌∙◌, ◌∷◌, ◌≡◌, ◌≤◌}
use Rattle.std.proofs.lemmas.List.FromFn.{length-enumerate_from}

-- where a queue's number decides as its name does, the messages of the numbers that wait are those
-- of the queue
pub listed : (taken : List Frame) (lines : Lines) (q : ℕ) (name : List ℕ) (F : ℕ → Message) (n : ℕ) (marks : List Mark) (sents : List Sent)
    → ((k : ℕ) (address : List ℕ) → slice_get lines.names k ≡ Some address → pointwise nat_eq address name ≡ (k == q))
    → ((i : ℕ) (s : Sent) → slice_get sents i ≡ Some s → F (n + i) ≡ record { number = n + i; payload = s.payload })
    → map (mail_at lines.names) marks ≡ map (mail_of taken) (enumerate_from n sents)
    → map F (numbers_from q n marks) ≡ filter_map (waiting taken name) (enumerate_from n sents)
listed taken lines q name F n [] [] decides reads same = refl
listed taken lines q name F n [] (s ∷ sents) decides reads same = absurd (cc same)
listed taken lines q name F n (m ∷ marks) [] decides reads same = absurd (cc same)
listed taken lines q name F n (m ∷ marks) (s ∷ sents) decides reads same =
    let head : mail_at lines.names m ≡ mail_of taken (n, s) = cc in
    let tail : map (mail_at lines.names) marks ≡ map (mail_of taken) (enumerate_from (n + 1) sents) = cc in
    let rest : map F (numbers_from q (n + 1) marks) ≡ filter_map (waiting taken name) (enumerate_from (n + 1) sents) =
    listed taken lines q name F (n + 1) marks sents decides
    (λ i x e.
    let k : n + suc i ≡ n + 1 + i = omega arith in
    ap F (sym k) ∙ reads (suc i) x e ∙ ap (λ j. record { number = j; payload = x.payload }) k)
    tail in
    let address : slice_get lines.names m.queue ≡ Some s.address = ap (λ (y : Mail). y.address) head in
    let waits : m.waits ≡ not (is_gone taken n s.place) = ap (λ (y : Mail). y.waits) head in
    let test : is_waiting_in q m ≡ (pointwise nat_eq s.address name && not (is_gone taken n s.place)) =
    ap (λ b. b && m.waits) (sym (decides m.queue s.address address))
    ∙ ap (λ b. pointwise nat_eq s.address name && b) waits in
    let at : n + 0 ≡ n = omega arith in
    let read : F n ≡ record { number = n; payload = s.payload } =
    ap F (sym at) ∙ reads 0 s refl ∙ ap (λ j. record { number = j; payload = s.payload }) at in
    let step : (b : Bool) → map F (cond b (n ∷ numbers_from q (n + 1) marks) (numbers_from q (n + 1) marks))
    ≡ cons_option (cond b (Some (record { number = n; payload = s.payload })) None) (filter_map (waiting taken name) (enumerate_from (n + 1) sents)) =
    λ b. elim b as (λ v. map F (cond v (n ∷ numbers_from q (n + 1) marks) (numbers_from q (n + 1) marks))
    ≡ cons_option (cond v (Some (record { number = n; payload = s.payload })) None) (filter_map (waiting taken name) (enumerate_from (n + 1) sents))) [
      | true ↦ ap (λ x. x ∷ map F (numbers_from q (n + 1) marks)) read ∙ ap (λ l. record { number = n; payload = s.payload } ∷ l) rest
      | false ↦ rest
    ] in
    step (is_waiting_in q m)
    ∙ ap (λ b. cons_option (cond b (Some (record { number = n; payload = s.payload })) None) (filter_map (waiting taken name) (enumerate_from (n + 1) sents))) test

filtered : {A B : Type 0} (f : A → Option B) (xs : List A) → length (filter_map f xs) ≤ length xs
filtered f [] = omega arith
filtered {A} {B} f (x ∷ xs) = by_case (f x) (filtered f xs)
  where
    by_case : (o : Option B) → length (filter_map f xs) ≤ length xs → length (cons_option o (filter_map f xs)) ≤ length (x ∷ xs)
    by_case None rest = omega (arith, rest)
    by_case (Some y) rest = omega (arith, rest)

-- a queue has no more messages than were sent
pub queue_within : (taken : List Frame) (name : List ℕ) → length (queue taken name) ≤ length (messages taken)
queue_within taken name =
    let some = filtered (waiting taken name) (enumerate_from 0 (messages taken)) in
    let all = length-enumerate_from 0 (messages taken) in
    omega (arith, some, all)
