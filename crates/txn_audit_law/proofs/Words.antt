-- The words of a frame that is shown hold no octet that parts words or lines.
use Rattle.std.proofs.Common.{◌≡◌, ℕ, ◌<◌, ◌==◌, ◌&&◌, Bool, true, false, not, Option, Some, None, List, [], ◌∷◌, ◌++◌, refl, ◌∙◌, ap, arith, append-nil}
use Rattle.std.specs.Prelude.{codes, decimal}
use Rattle.std.specs.List.{list_all}
use Rattle.std.proofs.lemmas.Bool.{and_parts, eqb-true}
use Rattle.hex.specs.Hex.{encode_lower}
use Rattle.amqp_txn_types.specs.declared.small.Role.{Role}
use Rattle.amqp_txn_types.specs.declared.small.Role.TheVariants as roles
use Rattle.amqp_txn_types.specs.declared.small.Handle.{Handle}
use Rattle.amqp_txn_types.specs.declared.delivery.Outcome.{Outcome}
use Rattle.amqp_txn_types.specs.declared.delivery.Outcome.TheVariants as outcomes
use Rattle.amqp_txn_types.specs.declared.delivery.DeliveryState.{DeliveryState}
use Rattle.amqp_txn_types.specs.declared.delivery.DeliveryState.TheVariants as states
use Rattle.amqp_txn_types.specs.declared.performatives.Frame.{Frame}
use Rattle.amqp_txn_types.specs.declared.performatives.Frame.TheVariants as frames
use Rattle.txn_program_lines.specs.Cutting.{words_of}
use Rattle.txn_program_lines.specs.LineWords.{is_name, is_name_octet}
use Rattle.txn_program_report.specs.Report.{bool_word, frame_text, handle_word, number_word, optional_outcome_word, optional_state_word, payload_word, role_word, settled_word, spaced, state_word}
use Rattle.txn_audit_law.specs.Shown.{CanBeShown}
use Rattle.txn_audit_law.proofs.Texts.{free-append, free-decimal, free-encode, is_free, split-first, split-whole}

-- the octets that part lines and words
abbrev pub parting : Bool → ℕ
parting true = 10
parting false = 32

low : (b : Bool) → parting b < 48
low true = omega arith
low false = omega arith

-- the words, parted
pub words-spaced : (word : List ℕ) (words : List (List ℕ)) → is_free 32 word ≡ true → list_all (is_free 32) words ≡ true → words_of (word ++ spaced words) ≡ word ∷ words
words-spaced word [] f g = ap words_of (append-nil word) ∙ split-whole 32 word f
words-spaced word (next ∷ words) f g =
    let parts = and_parts (is_free 32 next) (list_all (is_free 32) words) g in
    split-first 32 word (next ++ spaced words) f ∙ ap (λ ws. word ∷ ws) (words-spaced next words parts.0 parts.1)

-- words that hold no line feed
free-spaced : (words : List (List ℕ)) → list_all (is_free 10) words ≡ true → is_free 10 (spaced words) ≡ true
free-spaced [] f = refl
free-spaced (word ∷ words) f =
    let parts = and_parts (is_free 10 word) (list_all (is_free 10) words) f in
    free-append 10 word (spaced words) parts.0 (free-spaced words parts.1)

free_number : (b : Bool) (number : Option ℕ) → is_free (parting b) (number_word number) ≡ true
free_number true None = refl
free_number false None = refl
free_number b (Some number) = free-decimal (parting b) number (low b)

free_handle : (b : Bool) (handle : Option Handle) → is_free (parting b) (handle_word handle) ≡ true
free_handle true None = refl
free_handle false None = refl
free_handle b (Some handle) = free-decimal (parting b) handle.0 (low b)

free_bool : (b c : Bool) → is_free (parting b) (bool_word c) ≡ true
free_bool true true = refl
free_bool true false = refl
free_bool false true = refl
free_bool false false = refl

free_settled : (b : Bool) (settled : Option Bool) → is_free (parting b) (settled_word settled) ≡ true
free_settled true None = refl
free_settled false None = refl
free_settled b (Some settled) = free_bool b settled

free_role : (b : Bool) (role : Role) → is_free (parting b) (role_word role) ≡ true
free_role true roles.Sender = refl
free_role true roles.Receiver = refl
free_role false roles.Sender = refl
free_role false roles.Receiver = refl

free_octets : (b : Bool) (octets : List ℕ) → is_free (parting b) (encode_lower octets) ≡ true
free_octets true octets = free-encode 10 octets refl refl
free_octets false octets = free-encode 32 octets refl refl

free_payload : (b : Bool) (octets : List ℕ) → is_free (parting b) (payload_word octets) ≡ true
free_payload true [] = refl
free_payload false [] = refl
free_payload b (octet ∷ octets) = free_octets b (octet ∷ octets)

free_outcome : (b : Bool) (outcome : Option Outcome) → is_free (parting b) (optional_outcome_word outcome) ≡ true
free_outcome true None = refl
free_outcome false None = refl
free_outcome true (Some outcomes.Accepted) = refl
free_outcome true (Some (outcomes.Rejected rejected)) = refl
free_outcome true (Some outcomes.Released) = refl
free_outcome true (Some (outcomes.Modified modified)) = refl
free_outcome true (Some (outcomes.Declared declared)) = refl
free_outcome false (Some outcomes.Accepted) = refl
free_outcome false (Some (outcomes.Rejected rejected)) = refl
free_outcome false (Some outcomes.Released) = refl
free_outcome false (Some (outcomes.Modified modified)) = refl
free_outcome false (Some (outcomes.Declared declared)) = refl

free_under : (b : Bool) (front id out : List ℕ) → is_free (parting b) front ≡ true → is_free (parting b) id ≡ true → is_free (parting b) (codes ":") ≡ true → is_free (parting b) out ≡ true → is_free (parting b) (front ++ (id ++ (codes ":" ++ out))) ≡ true
free_under b front id out f g h k =
    free-append (parting b) front (id ++ (codes ":" ++ out)) f (free-append (parting b) id (codes ":" ++ out) g (free-append (parting b) (codes ":") out h k))

free_state : (b : Bool) (state : DeliveryState) → is_free (parting b) (state_word state) ≡ true
free_state true (states.Received section offset) = refl
free_state true states.Accepted = refl
free_state true (states.Rejected rejected) = refl
free_state true states.Released = refl
free_state true (states.Modified modified) = refl
free_state true (states.Declared declared) = free-append 10 (codes "declared:") (encode_lower declared.txn_id) refl (free_octets true declared.txn_id)
free_state true (states.TransactionalState under) = free_under true (codes "txn:") (encode_lower under.txn_id) (optional_outcome_word under.outcome) refl (free_octets true under.txn_id) refl (free_outcome true under.outcome)
free_state false (states.Received section offset) = refl
free_state false states.Accepted = refl
free_state false (states.Rejected rejected) = refl
free_state false states.Released = refl
free_state false (states.Modified modified) = refl
free_state false (states.Declared declared) = free-append 32 (codes "declared:") (encode_lower declared.txn_id) refl (free_octets false declared.txn_id)
free_state false (states.TransactionalState under) = free_under false (codes "txn:") (encode_lower under.txn_id) (optional_outcome_word under.outcome) refl (free_octets false under.txn_id) refl (free_outcome false under.outcome)

free_optional_state : (b : Bool) (state : Option DeliveryState) → is_free (parting b) (optional_state_word state) ≡ true
free_optional_state true None = refl
free_optional_state false None = refl
free_optional_state b (Some state) = free_state b state

-- a list of which each octet passes a test that this one doesn't pass
free_tested : (p : ℕ → Bool) (octet : ℕ) (xs : List ℕ) → p octet ≡ false → list_all p xs ≡ true → is_free octet xs ≡ true
free_tested p octet [] n f = refl
free_tested p octet (x ∷ xs) n f = ap (λ t. t && is_free octet xs) (other (x == octet) refl) ∙ free_tested p octet xs n (and_parts (p x) (list_all p xs) f).1
  where
    other : (b : Bool) → (x == octet) ≡ b → not b ≡ true
    other false e = refl
    other true e =
        let y : p x ≡ true = (and_parts (p x) (list_all p xs) f).0 in
        let z = ap p (eqb-true x octet e) in
        absurd (cc (y, z, n))

free_name : (b : Bool) (name : List ℕ) → is_name name ≡ true → is_free (parting b) name ≡ true
free_name true name n = free_tested is_name_octet 10 name refl (named name n)
  where
    named : (word : List ℕ) → is_name word ≡ true → list_all is_name_octet word ≡ true
    named word m = (and_parts _ (list_all is_name_octet word) m).1
free_name false name n = free_tested is_name_octet 32 name refl (named name n)
  where
    named : (word : List ℕ) → is_name word ≡ true → list_all is_name_octet word ≡ true
    named word m = (and_parts _ (list_all is_name_octet word) m).1

more : (b : Bool) (word : List ℕ) (words : List (List ℕ)) → is_free (parting b) word ≡ true → list_all (is_free (parting b)) words ≡ true → list_all (is_free (parting b)) (word ∷ words) ≡ true
more b word words f g = ap (λ t. t && list_all (is_free (parting b)) words) f ∙ g

-- ---- frames

-- the first word of a frame, and the words after it
abbrev pub kind_of : Frame → List ℕ
kind_of (frames.Attach attach) = codes "attach"
kind_of (frames.Flow flow) = codes "flow"
kind_of (frames.Transfer transfer payload) = codes "transfer"
kind_of (frames.Disposition disposition) = codes "disposition"
kind_of (frames.Detach detach) = codes "detach"

abbrev pub words_after : Frame → List (List ℕ)
words_after (frames.Attach attach) = attach.name ∷ decimal attach.handle.0 ∷ role_word attach.role ∷ []
words_after (frames.Flow flow) = handle_word flow.handle ∷ number_word flow.link_credit ∷ []
words_after (frames.Transfer transfer payload) =
    decimal transfer.handle.0 ∷ number_word transfer.delivery_id ∷ settled_word transfer.settled ∷ optional_state_word transfer.state ∷ payload_word payload ∷ []
words_after (frames.Disposition disposition) =
    role_word disposition.role ∷ decimal disposition.first ∷ number_word disposition.last ∷ bool_word disposition.settled ∷ optional_state_word disposition.state ∷ []
words_after (frames.Detach detach) = decimal detach.handle.0 ∷ bool_word detach.closed ∷ []

pub text_of_words : (frame : Frame) → frame_text frame ≡ kind_of frame ++ spaced (words_after frame)
unfolding frame_text
text_of_words (frames.Attach attach) = refl
text_of_words (frames.Flow flow) = refl
text_of_words (frames.Transfer transfer payload) = refl
text_of_words (frames.Disposition disposition) = refl
text_of_words (frames.Detach detach) = refl

pub free_kind : (b : Bool) (frame : Frame) → is_free (parting b) (kind_of frame) ≡ true
free_kind true (frames.Attach attach) = refl
free_kind true (frames.Flow flow) = refl
free_kind true (frames.Transfer transfer payload) = refl
free_kind true (frames.Disposition disposition) = refl
free_kind true (frames.Detach detach) = refl
free_kind false (frames.Attach attach) = refl
free_kind false (frames.Flow flow) = refl
free_kind false (frames.Transfer transfer payload) = refl
free_kind false (frames.Disposition disposition) = refl
free_kind false (frames.Detach detach) = refl

pub free_after : (b : Bool) (frame : Frame) → CanBeShown frame → list_all (is_free (parting b)) (words_after frame) ≡ true
free_after b (frames.Attach attach) s =
    let role = role_word attach.role ∷ [] in
    let handle = decimal attach.handle.0 ∷ role in
    more b attach.name handle (free_name b attach.name s.1)
    (more b (decimal attach.handle.0) role (free-decimal (parting b) attach.handle.0 (low b))
    (more b (role_word attach.role) [] (free_role b attach.role) refl))
free_after b (frames.Flow flow) s =
    let credit = number_word flow.link_credit ∷ [] in
    more b (handle_word flow.handle) credit (free_handle b flow.handle)
    (more b (number_word flow.link_credit) [] (free_number b flow.link_credit) refl)
free_after b (frames.Transfer transfer payload) s =
    let octets = payload_word payload ∷ [] in
    let state = optional_state_word transfer.state ∷ octets in
    let settled = settled_word transfer.settled ∷ state in
    let number = number_word transfer.delivery_id ∷ settled in
    more b (decimal transfer.handle.0) number (free-decimal (parting b) transfer.handle.0 (low b))
    (more b (number_word transfer.delivery_id) settled (free_number b transfer.delivery_id)
    (more b (settled_word transfer.settled) state (free_settled b transfer.settled)
    (more b (optional_state_word transfer.state) octets (free_optional_state b transfer.state)
    (more b (payload_word payload) [] (free_payload b payload) refl))))
free_after b (frames.Disposition disposition) s =
    let state = optional_state_word disposition.state ∷ [] in
    let settled = bool_word disposition.settled ∷ state in
    let last = number_word disposition.last ∷ settled in
    let first = decimal disposition.first ∷ last in
    more b (role_word disposition.role) first (free_role b disposition.role)
    (more b (decimal disposition.first) last (free-decimal (parting b) disposition.first (low b))
    (more b (number_word disposition.last) settled (free_number b disposition.last)
    (more b (bool_word disposition.settled) state (free_bool b disposition.settled)
    (more b (optional_state_word disposition.state) [] (free_optional_state b disposition.state) refl))))
free_after b (frames.Detach detach) s =
    let closed = bool_word detach.closed ∷ [] in
    more b (decimal detach.handle.0) closed (free-decimal (parting b) detach.handle.0 (low b))
    (more b (bool_word detach.closed) [] (free_bool b detach.closed) refl)

-- the text of a frame that can be shown holds no line feed
pub free_frame : (frame : Frame) → CanBeShown frame → is_free 10 (frame_text frame) ≡ true
free_frame frame s = ap (is_free 10) (text_of_words frame) ∙ free-append 10 (kind_of frame) (spaced (words_after frame)) (free_kind true frame) (free-spaced (words_after frame) (free_after true frame s))
