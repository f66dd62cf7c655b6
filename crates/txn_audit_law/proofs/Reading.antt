-- The words of a frame that can be shown are read as those of a frame.
use Rattle.std.proofs.Common.{◌≡◌, ℕ, zero, suc, ◌+◌, ◌-◌, ◌*◌, ◌/◌, ◌%◌, ◌^◌, ◌<◌, ◌≤◌, ◌==◌, ◌&&◌, ◌||◌, Bool, true, false, cond, not, Option, Some, None, List, [], ◌∷◌, ◌++◌, length, get_or, refl, sym, ◌∙◌, ap, arith}
use Rattle.std.specs.Prelude.{codes, decimal, is_some, nat_le, nat_lt, slice_index, IfSome}
use Rattle.std.specs.Char.{is_ascii_digit}
use Rattle.std.proofs.Math.Nat.{div-lt_iff_lt-mul, pow-suc, pow-zero}
use Rattle.std.proofs.lemmas.Fmt.{decimal_nonempty, first_decimal}
use Rattle.std.specs.Fmt.{digit_glyph, digits, digits_onto}
use Rattle.std.specs.List.{list_all}
use Rattle.std.specs.Str.{bytes_eq}
use Rattle.std.proofs.lemmas.Bool.{and_parts, eqb-true}
use Rattle.std.proofs.lemmas.Bool.Decides.{nat_tests}
use Rattle.std.proofs.lemmas.Slice.Eq.{bytes_eq-Decides}
use Rattle.hex.specs.Hex.{IsBytes, encode_lower, encode_with, lower_digits}
use Rattle.hex.proofs.HexLemmas.{length-encode_with}
use Rattle.amqp_txn_types.specs.declared.id.TransactionId.{TransactionId}
use Rattle.amqp_txn_types.specs.declared.small.Role.{Role}
use Rattle.amqp_txn_types.specs.declared.small.Role.TheVariants as roles
use Rattle.amqp_txn_types.specs.declared.small.Handle.{Handle}
use Rattle.amqp_txn_types.specs.declared.delivery.Outcome.{Outcome}
use Rattle.amqp_txn_types.specs.declared.delivery.Outcome.TheVariants as outcomes
use Rattle.amqp_txn_types.specs.declared.delivery.DeliveryState.{DeliveryState}
use Rattle.amqp_txn_types.specs.declared.delivery.DeliveryState.TheVariants as states
use Rattle.amqp_txn_types.specs.declared.performatives.Frame.{Frame}
use Rattle.amqp_txn_types.specs.declared.performatives.Frame.TheVariants as frames
use Rattle.txn_program_lines.specs.Cutting.{words_of}
use Rattle.txn_program_lines.specs.LineWords.{◌>>=◌, at_most, bool_of, decimal_of, is_name, number_after, optional, role_of, some_of, u32_of, zero_alone}
use Rattle.txn_program_lines.specs.Lines.{deliveries_at, delivery_at, word_at}
use Rattle.txn_program_report.specs.Report.{bool_word, handle_word, number_word, optional_outcome_word, optional_state_word, payload_word, role_word, settled_word, state_word}
use Rattle.txn_audit_report.specs.OutLines.{are_digits, attach_words, detach_words, disposition_words, flow_words, frame_words, is_id, is_lower_digit, is_out_line, is_outcome, is_payload, is_state, is_state_of, out_line, out_words, transfer_words}
use Rattle.txn_audit_fits.specs.Fits.{out_text}
use Rattle.txn_audit_law.specs.Shown.{CanBeShown, IsId, IsShort, IsState}
use Rattle.txn_audit_law.proofs.Texts.{free-decimal, free-encode, is_free, split-first, split-whole}
use Rattle.txn_audit_law.proofs.Words.{free_after, free_kind, kind_of, text_of_words, words-spaced, words_after}

-- ---- numbers

digit_read : (n d : ℕ) (acc : List ℕ) → d < 10 → number_after n (digit_glyph false d ∷ acc) ≡ number_after (10 * n + d) acc
digit_read n d acc l =
    let g : digit_glyph false d ≡ 48 + d = ap (λ b. cond b (48 + d) (87 + d)) (let t : nat_lt d 10 ≡ true = grind (arith, nat_tests) in t) in
    let a : is_ascii_digit (48 + d) ≡ true = grind (arith, nat_tests) in
    ap (λ x. number_after n (x ∷ acc)) g ∙ ap (λ b. cond b (number_after (10 * n + (48 + d - 48)) acc) None) a
    ∙ ap (λ m. number_after (10 * n + m) acc) (let e : 48 + d - 48 ≡ d = omega arith in e)

above_zero : (m k : ℕ) → m < 10 ^ k → (m == 0) ≡ false → 0 < k
above_zero m zero l e =
    let z : m ≡ 0 = omega (arith, pow-zero 10) in
    let t : (m == 0) ≡ true = grind (arith, nat_tests) in
    absurd (cc (t, e))
above_zero m (suc k) l e = omega arith

number-onto : (k n : ℕ) (acc : List ℕ) → n < 10 ^ k → 0 < k → number_after 0 (digits_onto k 10 false n acc) ≡ number_after n acc
number-onto zero n acc l p = absurd (omega arith)
number-onto (suc k) n acc l p = by_end (n / 10 == 0) refl (λ q. number-onto k (n / 10) (digit_glyph false (n % 10) ∷ acc) less q)
  where
    small : n % 10 < 10
    small = omega arith

    less : n / 10 < 10 ^ k
    less = let some : 0 < 10 = omega arith in (div-lt_iff_lt-mul some).1 (omega (arith, pow-suc 10 k))

    here : number_after (n / 10) (digit_glyph false (n % 10) ∷ acc) ≡ number_after n acc
    here = digit_read (n / 10) (n % 10) acc small ∙ ap (λ m. number_after m acc) (let e : 10 * (n / 10) + n % 10 ≡ n = omega arith in e)

    by_end : (b : Bool) → (n / 10 == 0) ≡ b → (0 < k → number_after 0 (digits_onto k 10 false (n / 10) (digit_glyph false (n % 10) ∷ acc)) ≡ number_after (n / 10) (digit_glyph false (n % 10) ∷ acc)) → number_after 0 (cond b (digit_glyph false (n % 10) ∷ acc) (digits_onto k 10 false (n / 10) (digit_glyph false (n % 10) ∷ acc))) ≡ number_after n acc
    by_end true e more = ap (λ m. number_after m (digit_glyph false (n % 10) ∷ acc)) (sym (eqb-true (n / 10) 0 e)) ∙ here
    by_end false e more = more (above_zero (n / 10) k less e) ∙ here

after_decimal : (n : ℕ) → IsShort n → number_after 0 (decimal n) ≡ Some n
unfolding digits
after_decimal n b = number-onto 64 n [] (omega arith) (omega arith)

decimal_read : (ds : List ℕ) (n : ℕ) → number_after 0 ds ≡ Some n → 0 < length ds → 48 < get_or ds 0 0 → decimal_of ds ≡ Some n
decimal_read [] n e l f = absurd (omega arith)
decimal_read (d ∷ ds) n e l f =
    let t : (d == 48) ≡ false = grind (arith, nat_tests) in
    ap (λ b. cond b (zero_alone ds) (number_after 0 (d ∷ ds))) t ∙ e

zero-read : decimal_of (decimal 0) ≡ Some 0
unfolding digits
zero-read = refl

decimal-read : (n : ℕ) → IsShort n → decimal_of (decimal n) ≡ Some n
decimal-read zero b = zero-read
decimal-read (suc n) b =
    let small : suc n < 2 ^ 64 = omega arith in
    let some : 0 < suc n = omega arith in
    decimal_read (decimal (suc n)) (suc n) (after_decimal (suc n) b) (decimal_nonempty (suc n) small) (first_decimal (suc n) some small)

short-read : (n : ℕ) → IsShort n → u32_of (decimal n) ≡ Some n
short-read n b =
    let t : nat_le n 4294967295 ≡ true = grind (arith, nat_tests) in
    ap (at_most 4294967295) (decimal-read n b) ∙ ap (λ c. cond c (Some n) None) t

-- a text without this octet isn't this octet alone
not_alone : (octet : ℕ) (word : List ℕ) → is_free octet word ≡ true → bytes_eq word (octet ∷ []) ≡ false
not_alone octet word f = by_case (bytes_eq word (octet ∷ [])) refl
  where
    by_case : (b : Bool) → bytes_eq word (octet ∷ []) ≡ b → bytes_eq word (octet ∷ []) ≡ false
    by_case false e = e
    by_case true e =
        let w : word ≡ octet ∷ [] = (bytes_eq-Decides word (octet ∷ [])).0 e in
        let g : is_free octet (octet ∷ []) ≡ true = sym (ap (is_free octet) w) ∙ f in
        let t : (octet == octet) ≡ true = grind (arith, nat_tests) in
        absurd (cc ((and_parts (not (octet == octet)) true g).0, t))

optional-read : (n : ℕ) → IsShort n → optional u32_of (decimal n) ≡ Some (Some n)
optional-read n b =
    let low : 45 < 48 = omega arith in
    ap (λ c. cond c (Some None) (some_of (u32_of (decimal n)))) (not_alone 45 (decimal n) (free-decimal 45 n low))
    ∙ ap some_of (short-read n b)

number-read : (number : Option ℕ) → IfSome number IsShort → optional u32_of (number_word number) ≡ Some number
number-read None b = refl
number-read (Some n) b = optional-read n b

handle-read : (handle : Option Handle) → IfSome handle (λ (h : Handle). IsShort h.0) → (found : Option ℕ) × (optional u32_of (handle_word handle) ≡ Some found)
handle-read None b = (None, refl)
handle-read (Some handle) b = (Some handle.0, optional-read handle.0 b)

bool-read : (b : Bool) → bool_of (bool_word b) ≡ Some b
bool-read true = refl
bool-read false = refl

settled-read : (settled : Option Bool) → optional bool_of (settled_word settled) ≡ Some settled
settled-read None = refl
settled-read (Some true) = refl
settled-read (Some false) = refl

role-read : (role : Role) → role_of (role_word role) ≡ Some role
role-read roles.Sender = refl
role-read roles.Receiver = refl

-- ---- octets

at_place : (p : ℕ → Bool) (table : List ℕ) (k : ℕ) → list_all p table ≡ true → k < length table → p (slice_index table k) ≡ true
at_place p [] k f l = absurd (omega arith)
at_place p (x ∷ table) zero f l = (and_parts (p x) (list_all p table) f).0
at_place p (x ∷ table) (suc k) f l = at_place p table k (and_parts (p x) (list_all p table) f).1 (omega arith)

lower_digits-pass : (octets : List ℕ) → IsBytes octets → list_all is_lower_digit (encode_lower octets) ≡ true
unfolding encode_with
lower_digits-pass [] b = refl
lower_digits-pass (octet ∷ octets) b =
    let fits : octet < 256 = b 0 in
    let high : octet / 16 < length lower_digits = omega arith in
    let low : octet % 16 < length lower_digits = omega arith in
    ap (λ t. t && list_all is_lower_digit (slice_index lower_digits (octet % 16) ∷ encode_lower octets)) (at_place is_lower_digit lower_digits (octet / 16) refl high)
    ∙ ap (λ t. t && list_all is_lower_digit (encode_lower octets)) (at_place is_lower_digit lower_digits (octet % 16) refl low)
    ∙ lower_digits-pass octets (λ k. b (suc k))

digits-pass : (octets : List ℕ) → IsBytes octets → are_digits (encode_lower octets) ≡ true
digits-pass octets b =
    let len = length-encode_with lower_digits octets in
    let even : length (encode_lower octets) % 2 ≡ 0 = omega (arith, len) in
    let t : (length (encode_lower octets) % 2 == 0) ≡ true = grind (arith, nat_tests) in
    ap (λ c. c && list_all is_lower_digit (encode_lower octets)) t ∙ lower_digits-pass octets b

id-pass : (id : TransactionId) → IsId id → is_id (encode_lower id) ≡ true
id-pass id b =
    let len = length-encode_with lower_digits id in
    let few : length (encode_lower id) ≤ 64 = omega (arith, len, b.0) in
    let t : nat_le (length (encode_lower id)) 64 ≡ true = grind (arith, nat_tests) in
    ap (λ c. c && are_digits (encode_lower id)) t ∙ digits-pass id b.1

or_true : (b : Bool) → (b || true) ≡ true
or_true true = refl
or_true false = refl

payload-pass : (octets : List ℕ) → IsBytes octets → is_payload (payload_word octets) ≡ true
payload-pass [] b = refl
payload-pass (octet ∷ octets) b =
    let word = encode_lower (octet ∷ octets) in
    let len = length-encode_with lower_digits (octet ∷ octets) in
    let some : 1 ≤ length word = omega (arith, len) in
    let t : nat_le 1 (length word) ≡ true = grind (arith, nat_tests) in
    ap (λ c. bytes_eq word (codes "-") || c) (ap (λ c. c && are_digits word) t ∙ digits-pass (octet ∷ octets) b) ∙ or_true (bytes_eq word (codes "-"))

-- ---- states

free_colon : (octets : List ℕ) → is_free 58 (encode_lower octets) ≡ true
free_colon octets = free-encode 58 octets refl refl

outcome-pass : (outcome : Option Outcome) → (is_outcome (optional_outcome_word outcome) ≡ true) × (is_free 58 (optional_outcome_word outcome) ≡ true)
outcome-pass None = (refl, refl)
outcome-pass (Some outcomes.Accepted) = (refl, refl)
outcome-pass (Some (outcomes.Rejected rejected)) = (refl, refl)
outcome-pass (Some outcomes.Released) = (refl, refl)
outcome-pass (Some (outcomes.Modified modified)) = (refl, refl)
outcome-pass (Some (outcomes.Declared declared)) = (refl, refl)

state-pass : (state : DeliveryState) → IsState state → is_state (state_word state) ≡ true
state-pass (states.Received section offset) b = refl
state-pass states.Accepted b = refl
state-pass (states.Rejected rejected) b = refl
state-pass states.Released b = refl
state-pass (states.Modified modified) b = refl
state-pass (states.Declared declared) b =
    let id = encode_lower declared.txn_id in
    ap is_state_of (split-first 58 (codes "declared") id refl ∙ ap (λ ws. codes "declared" ∷ ws) (split-whole 58 id (free_colon declared.txn_id)))
    ∙ id-pass declared.txn_id b
state-pass (states.TransactionalState under) b =
    let id = encode_lower under.txn_id in
    let out = optional_outcome_word under.outcome in
    let o = outcome-pass under.outcome in
    ap is_state_of (split-first 58 (codes "txn") (id ++ 58 ∷ out) refl
    ∙ ap (λ ws. codes "txn" ∷ ws) (split-first 58 id out (free_colon under.txn_id) ∙ ap (λ ws. id ∷ ws) (split-whole 58 out o.1)))
    ∙ ap (λ c. c && is_outcome out) (id-pass under.txn_id b) ∙ o.0

optional_state-pass : (state : Option DeliveryState) → IfSome state IsState → is_state (optional_state_word state) ≡ true
optional_state-pass None b = refl
optional_state-pass (Some state) b = state-pass state b

-- ---- frames

attach-read : (name : List ℕ) (handle : ℕ) (role : Role) → is_name name ≡ true → IsShort handle → attach_words (name ∷ decimal handle ∷ role_word role ∷ []) ≡ Some tt
unfolding attach_words
attach-read name handle role n b = let e = short-read handle b in let r = role-read role in rw (n, e, r) refl

flow-read : (handle : Option Handle) (credit : Option ℕ) → IfSome handle (λ (h : Handle). IsShort h.0) → IfSome credit IsShort → flow_words (handle_word handle ∷ number_word credit ∷ []) ≡ Some tt
unfolding flow_words
flow-read handle credit b c = let e = (handle-read handle b).1 in let f = number-read credit c in rw (e, f) refl

transfer-read : (handle : ℕ) (number : Option ℕ) (settled : Option Bool) (state : Option DeliveryState) (payload : List ℕ) → IsShort handle → IfSome number IsShort → IfSome state IsState → IsBytes payload → transfer_words (decimal handle ∷ number_word number ∷ settled_word settled ∷ optional_state_word state ∷ payload_word payload ∷ []) ≡ Some tt
unfolding transfer_words delivery_at
transfer-read handle number settled state payload a b c d =
    let e = short-read handle a in
    let f = number-read number b in
    let g = settled-read settled in
    let h = optional_state-pass state c in
    let i = payload-pass payload d in
    rw (e, f, g, h, i) refl

disposition-read : (role : Role) (first : ℕ) (last : Option ℕ) (settled : Bool) (state : Option DeliveryState) → IsShort first → IfSome last IsShort → IfSome state IsState → disposition_words (role_word role ∷ decimal first ∷ number_word last ∷ bool_word settled ∷ optional_state_word state ∷ []) ≡ Some tt
unfolding disposition_words deliveries_at
disposition-read role first last settled state a b c =
    let e = role-read role in
    let f = short-read first a in
    let g = number-read last b in
    let h = bool-read settled in
    let i = optional_state-pass state c in
    rw (e, f, g, h, i) refl

detach-read : (handle : ℕ) (closed : Bool) → IsShort handle → detach_words (decimal handle ∷ bool_word closed ∷ []) ≡ Some tt
unfolding detach_words
detach-read handle closed a = let e = short-read handle a in let f = bool-read closed in rw (e, f) refl

frame-read : (frame : Frame) → CanBeShown frame → frame_words (kind_of frame) (words_after frame) ≡ Some tt
unfolding frame_words
frame-read (frames.Attach attach) s = attach-read attach.name attach.handle.0 attach.role s.1 s.0
frame-read (frames.Flow flow) s = flow-read flow.handle flow.link_credit s.0.0 s.0.1
frame-read (frames.Transfer transfer payload) s = transfer-read transfer.handle.0 transfer.delivery_id transfer.settled transfer.state payload s.0.0 s.0.1 s.0.2 s.0.3
frame-read (frames.Disposition disposition) s = disposition-read disposition.role disposition.first disposition.last disposition.settled disposition.state s.0.0 s.0.1 s.0.2
frame-read (frames.Detach detach) s = detach-read detach.handle.0 detach.closed s.0

-- the line of a frame that can be shown is one of a frame
pub out_line-read : (frame : Frame) → CanBeShown frame → is_out_line (out_text frame) ≡ true
unfolding out_line out_words
out_line-read frame s =
    let words : words_of (out_text frame) ≡ codes "out" ∷ kind_of frame ∷ words_after frame =
    ap (λ text. words_of (codes "out " ++ text)) (text_of_words frame)
    ∙ words-spaced (codes "out") (kind_of frame ∷ words_after frame) refl
    (ap (λ t. t && list_all (is_free 32) (words_after frame)) (free_kind false frame) ∙ free_after false frame s) in
    ap (λ ws. is_some (word_at ws >>= (λ first. out_words first.0 first.1))) words ∙ ap is_some (frame-read frame s)
