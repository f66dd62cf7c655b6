-- What is kept of the messages, as frames are taken.
use Rattle.txn_broker_queues.proofs.Words.{Bool, Frame, Lines, List, Mail, MailsStand, Mark, None, Option, Sent, Some, [], ap, append-nil, arith, came, cons_option, enumerate_from, false, filter_map, is_gone, length, mail_at, mail_of, map, map-append, messages, none-some, not, option_map, option_to_list, range_with_len, refl, removes, same_Some, sent_at, slice_get, subst, suc, sym, true, zero, ℕ, ◌&&◌, ◌++◌, ◌+◌, ◌<◌, ◌||◌, ◌∙◌, ◌∷◌, ◌≡◌}
use Rattle.txn_broker_queues.specs.Keeping.{faded}
use Rattle.txn_broker_queues.proofs.Snoc.{gone_more, gone_new, messages_more, or_false, sent_new, sent_place}

pub enumerate-append : {A : Type 0} (n : ℕ) (xs ys : List A) → enumerate_from n (xs ++ ys) ≡ enumerate_from n xs ++ enumerate_from (n + length xs) ys
enumerate-append n [] ys = let e : n ≡ n + 0 = omega arith in ap (λ k. enumerate_from k ys) e
enumerate-append n (x ∷ xs) ys =
    let e : n + 1 + length xs ≡ n + suc (length xs) = omega arith in
    ap (λ l. (n, x) ∷ l) (enumerate-append (n + 1) xs ys ∙ ap (λ k. enumerate_from (n + 1) xs ++ enumerate_from k ys) e)

-- each message stands at one of the places
pub record Placed (n : ℕ) (sents : List Sent) : Type 0 where
  pub below : (i : ℕ) (s : Sent) → slice_get sents i ≡ Some s → s.place < n

cons_cases : (o : Option Sent) (rest : List Sent) (n : ℕ) → ((s : Sent) → o ≡ Some s → s.place < n) → Placed n rest → Placed n (cons_option o rest)
cons_cases None rest n here placed = placed
cons_cases (Some x) rest n here placed = record { below = below }
  where
    below : (i : ℕ) (s : Sent) → slice_get (x ∷ rest) i ≡ Some s → s.place < n
    below zero s e = subst (λ (y : Sent). y.place < n) (same_Some x s e) (here x refl)
    below (suc i) s e = placed.below i s e

placed_from : (w : List Frame) (a d n : ℕ) → a + d ≡ n → Placed n (filter_map (sent_at w) (range_with_len a d))
placed_from w a zero n sum = record { below = λ i s e. absurd (none-some s e) }
placed_from w a (suc d) n sum =
    cons_cases (sent_at w a) (filter_map (sent_at w) (range_with_len (a + 1) d)) n
    (λ s e. omega (arith, sent_place w a s e, sum)) (placed_from w (a + 1) d n (omega (arith, sum)))

pub placed : (w : List Frame) → Placed (length w) (messages w)
placed w = placed_from w 0 (length w) (length w) (omega arith)

-- a frame that removes nothing leaves what is kept
mails_left : (taken : List Frame) (frame : Frame) (n : ℕ) (sents : List Sent) → ((number : ℕ) → removes number frame ≡ false) → Placed (length taken) sents
    → map (mail_of (taken ++ frame ∷ [])) (enumerate_from n sents) ≡ map (mail_of taken) (enumerate_from n sents)
mails_left taken frame n [] none placed = refl
mails_left taken frame n (s ∷ sents) none placed =
    let left : is_gone (taken ++ frame ∷ []) n s.place ≡ is_gone taken n s.place =
    gone_more taken frame n s.place (placed.below 0 s refl)
    ∙ ap (λ b. is_gone taken n s.place || b) (none n) ∙ or_false (is_gone taken n s.place) in
    ap (λ b. record { place = s.place; address = Some s.address; waits = not b } ∷ map (mail_of (taken ++ frame ∷ [])) (enumerate_from (n + 1) sents)) left
    ∙ ap (λ l. mail_of taken (n, s) ∷ l)
    (mails_left taken frame (n + 1) sents none (record { below = λ i x e. placed.below (suc i) x e }))

mail_faded : (names : List (List ℕ)) (b : Bool) (m : Mark) → mail_at names (faded b m) ≡ record (mail_at names m) { waits = m.waits && not b }
mail_faded names true m = ap (λ w. record (mail_at names m) { waits = w }) (sym (and_no m.waits))
  where
    and_no : (w : Bool) → (w && false) ≡ false
    and_no true = refl
    and_no false = refl
mail_faded names false m = ap (λ w. record (mail_at names m) { waits = w }) (sym (and_yes m.waits))
  where
    and_yes : (w : Bool) → (w && true) ≡ w
    and_yes true = refl
    and_yes false = refl

not_or : (a b : Bool) → not (a || b) ≡ (not a && not b)
not_or true b = refl
not_or false b = refl

-- a frame that removes some numbers takes them from what is kept
mails_gone : (names : List (List ℕ)) (taken : List Frame) (frame : Frame) (n : ℕ) (marks new : List Mark) (sents : List Sent)
    → length new ≡ length marks → ((i : ℕ) → slice_get new i ≡ option_map (faded (removes (n + i) frame)) (slice_get marks i))
    → Placed (length taken) sents → map (mail_at names) marks ≡ map (mail_of taken) (enumerate_from n sents)
    → map (mail_at names) new ≡ map (mail_of (taken ++ frame ∷ [])) (enumerate_from n sents)
mails_gone names taken frame n [] [] [] len each placed same = refl
mails_gone names taken frame n [] (x ∷ new) sents len each placed same = absurd (omega (arith, len))
mails_gone names taken frame n (m ∷ marks) [] sents len each placed same = absurd (omega (arith, len))
mails_gone names taken frame n [] [] (s ∷ sents) len each placed same = absurd (cc same)
mails_gone names taken frame n (m ∷ marks) (x ∷ new) [] len each placed same = absurd (cc same)
mails_gone names taken frame n (m ∷ marks) (x ∷ new) (s ∷ sents) len each placed same =
    let head : mail_at names m ≡ mail_of taken (n, s) = cc in
    let tail : map (mail_at names) marks ≡ map (mail_of taken) (enumerate_from (n + 1) sents) = cc in
    let at : n + 0 ≡ n = omega arith in
    let is : x ≡ faded (removes n frame) m =
    same_Some x (faded (removes n frame) m) (each 0 ∙ ap (λ k. Some (faded (removes k frame) m)) at) in
    let left : is_gone (taken ++ frame ∷ []) n s.place ≡ (is_gone taken n s.place || removes n frame) =
    gone_more taken frame n s.place (placed.below 0 s refl) in
    let one : mail_at names x ≡ mail_of (taken ++ frame ∷ []) (n, s) =
    ap (mail_at names) is ∙ mail_faded names (removes n frame) m
    ∙ ap (λ (y : Mail). record y { waits = y.waits && not (removes n frame) }) head
    ∙ ap (λ w. record { place = s.place; address = Some s.address; waits = w })
    (sym (not_or (is_gone taken n s.place) (removes n frame)) ∙ sym (ap not left)) in
    ap (λ y. y ∷ map (mail_at names) new) one
    ∙ ap (λ l. mail_of (taken ++ frame ∷ []) (n, s) ∷ l)
    (mails_gone names taken frame (n + 1) marks new sents (omega (arith, len))
    (λ i.
    let k : n + suc i ≡ n + 1 + i = omega arith in
    each (suc i) ∙ ap (λ j. option_map (faded (removes j frame)) (slice_get marks i)) k)
    (record { below = λ i y e. placed.below (suc i) y e }) tail)

-- a frame that is no message and removes some numbers
pub mails_removed : (taken : List Frame) (frame : Frame) (lines new : Lines) → sent_new taken frame ≡ None → new.names ≡ lines.names → length new.marks ≡ length lines.marks
    → ((i : ℕ) → slice_get new.marks i ≡ option_map (faded (removes i frame)) (slice_get lines.marks i))
    → MailsStand taken lines → MailsStand (taken ++ frame ∷ []) new
mails_removed taken frame lines new un names len each stand =
    let same : messages (taken ++ frame ∷ []) ≡ messages taken =
    messages_more taken frame ∙ ap (λ o. messages taken ++ option_to_list o) un ∙ append-nil (messages taken) in
    ap (λ ns. map (mail_at ns) new.marks) names
    ∙ mails_gone lines.names taken frame 0 lines.marks new.marks (messages taken) len
    (λ i. let k : i ≡ 0 + i = omega arith in each i ∙ ap (λ j. option_map (faded (removes j frame)) (slice_get lines.marks i)) k)
    (placed taken) stand
    ∙ ap (λ l. map (mail_of (taken ++ frame ∷ [])) (enumerate_from 0 l)) (sym same)

-- a frame that is no message and removes nothing
pub mails_same : (taken : List Frame) (frame : Frame) (lines : Lines) → sent_new taken frame ≡ None → ((number : ℕ) → removes number frame ≡ false)
    → MailsStand taken lines → MailsStand (taken ++ frame ∷ []) lines
mails_same taken frame lines un none stand =
    stand
    ∙ sym (mails_left taken frame 0 (messages taken) none (placed taken))
    ∙ ap (λ l. map (mail_of (taken ++ frame ∷ [])) (enumerate_from 0 l))
    (sym (messages_more taken frame ∙ ap (λ o. messages taken ++ option_to_list o) un ∙ append-nil (messages taken)))

-- a message
pub mails_new : (taken : List Frame) (frame : Frame) (lines new : Lines) (s : Sent) (queue : ℕ) → sent_new taken frame ≡ Some s → s.place ≡ length taken
    → ((number : ℕ) → removes number frame ≡ false) → new.names ≡ lines.names → new.marks ≡ lines.marks ++ came (length taken) queue ∷ []
    → slice_get lines.names queue ≡ Some s.address → MailsStand taken lines → MailsStand (taken ++ frame ∷ []) new
mails_new taken frame lines new s queue is at none names marks name stand =
    let w : List Frame = taken ++ frame ∷ [] in
    let n : ℕ = 0 + length (messages taken) in
    let one : mail_at lines.names (came (length taken) queue) ≡ mail_of w (n, s) =
    ap (λ o. record { place = length taken; address = o; waits = true }) name
    ∙ ap (λ p. record { place = p; address = Some s.address; waits = true }) (sym at)
    ∙ ap (λ b. record { place = s.place; address = Some s.address; waits = not b })
    (sym (ap (is_gone w n) at ∙ gone_new taken frame n)) in
    ap (λ ns. map (mail_at ns) new.marks) names
    ∙ ap (map (mail_at lines.names)) marks
    ∙ map-append (mail_at lines.names) lines.marks (came (length taken) queue ∷ [])
    ∙ ap (λ l. l ++ mail_at lines.names (came (length taken) queue) ∷ [])
    (stand ∙ sym (mails_left taken frame 0 (messages taken) none (placed taken)))
    ∙ ap (λ y. map (mail_of w) (enumerate_from 0 (messages taken)) ++ y ∷ []) one
    ∙ sym (map-append (mail_of w) (enumerate_from 0 (messages taken)) ((n, s) ∷ []))
    ∙ ap (map (mail_of w)) (sym (enumerate-append 0 (messages taken) (s ∷ [])))
    ∙ ap (λ l. map (mail_of w) (enumerate_from 0 l))
    (sym (messages_more taken frame ∙ ap (λ o. messages taken ++ option_to_list o) is))
