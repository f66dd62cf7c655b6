-- The lines of a report that show a frame which the layer below gave back: `out FRAME`.
use Rattle.std.specs.Prelude.{ℕ, ◌%◌, ◌==◌, ◌&&◌, ◌||◌, Bool, false, Option, Some, None, List, [], ◌∷◌, length, codes, nat_le, is_some, if◌then◌else◌}
use Rattle.std.specs.Char.{is_ascii_digit}
use Rattle.std.specs.List.{list_all, slice_split}
use Rattle.std.specs.Str.{bytes_eq}
use Rattle.txn_program_lines.specs.Cutting.{words_of}
use Rattle.txn_program_lines.specs.LineWords.{◌>>=◌, name_of, u32_of, bool_of, role_of, optional}
use Rattle.txn_program_lines.specs.Lines.{word_at, next, ended, delivery_at, deliveries_at}

-- a word that passes a test
abbrev pub passing : (List ℕ → Bool) → List ℕ → Option (Unit {0})
passing test word = if test word then Some tt else None

-- a hexadecimal digit in lower case
abbrev pub is_lower_digit : ℕ → Bool
is_lower_digit octet = is_ascii_digit octet || (nat_le 97 octet && nat_le octet 102)

-- octets, two digits in lower case for each
abbrev pub are_digits : List ℕ → Bool
are_digits word = length word % 2 == 0 && list_all is_lower_digit word

-- T, of an id of at most 32 octets; of one without octets nothing is printed
abbrev pub is_id : List ℕ → Bool
is_id word = nat_le (length word) 64 && are_digits word

-- PAYLOAD
abbrev pub is_payload : List ℕ → Bool
is_payload word = bytes_eq word (codes "-") || (nat_le 1 (length word) && are_digits word)

-- a state or an outcome that isn't `declared`, or `-` for none
abbrev pub is_bare_outcome : List ℕ → Bool
is_bare_outcome word =
    bytes_eq word (codes "-") || bytes_eq word (codes "accepted") || bytes_eq word (codes "rejected")
    || bytes_eq word (codes "released") || bytes_eq word (codes "modified")

-- OUT of a state under a transaction
abbrev pub is_outcome : List ℕ → Bool
is_outcome word = is_bare_outcome word || bytes_eq word (codes "declared")

-- STATE, by the pieces that colons part: a word alone, `declared:T`, or `txn:T:OUT`
abbrev pub is_state_of : List (List ℕ) → Bool
is_state_of (word ∷ []) = is_bare_outcome word || bytes_eq word (codes "received")
is_state_of (kind ∷ id ∷ []) = bytes_eq kind (codes "declared") && is_id id
is_state_of (kind ∷ id ∷ outcome ∷ []) =
    bytes_eq kind (codes "txn") && is_id id && is_outcome outcome
is_state_of _ = false

abbrev pub is_state : List ℕ → Bool
is_state word = is_state_of (slice_split (λ octet. octet == 58) word)

-- NAME H ROLE
unfoldable pub attach_words : List (List ℕ) → Option (Unit {0})
attach_words words = do
  name ← next name_of words
  handle ← next u32_of name.1
  role ← next role_of handle.1
  ended role.1

-- H N, each `-` for none
unfoldable pub flow_words : List (List ℕ) → Option (Unit {0})
flow_words words = do
  handle ← next (optional u32_of) words
  credit ← next (optional u32_of) handle.1
  ended credit.1

-- H ID SET STATE PAYLOAD
unfoldable pub transfer_words : List (List ℕ) → Option (Unit {0})
transfer_words words = do
  delivery ← delivery_at words
  state ← next (passing is_state) delivery.1
  payload ← next (passing is_payload) state.1
  ended payload.1

-- ROLE FIRST LAST BOOL STATE
unfoldable pub disposition_words : List (List ℕ) → Option (Unit {0})
disposition_words words = do
  deliveries ← deliveries_at words
  state ← next (passing is_state) deliveries.1
  ended state.1

-- H BOOL
unfoldable pub detach_words : List (List ℕ) → Option (Unit {0})
detach_words words = do
  handle ← next u32_of words
  closed ← next bool_of handle.1
  ended closed.1

-- FRAME, by its first word and the words after it
unfoldable pub frame_words : List ℕ → List (List ℕ) → Option (Unit {0})
frame_words kind words =
    if bytes_eq kind (codes "attach") then attach_words words
    else if bytes_eq kind (codes "flow") then flow_words words
    else if bytes_eq kind (codes "transfer") then transfer_words words
    else if bytes_eq kind (codes "disposition") then disposition_words words
    else if bytes_eq kind (codes "detach") then detach_words words
    else None

-- out FRAME, by its first word and the words after it
unfoldable pub out_words : List ℕ → List (List ℕ) → Option (Unit {0})
out_words first words = do
  out ← passing (λ word. bytes_eq word (codes "out")) first
  kind ← word_at words
  frame_words kind.0 kind.1

-- out FRAME
unfoldable pub out_line : List ℕ → Option (Unit {0})
out_line line = do
  first ← word_at (words_of line)
  out_words first.0 first.1

-- the line is `out FRAME`: numbers up to 4,294,967,295, names that a line can spell, ids of at most
-- 32 octets, digits in lower case
abbrev pub is_out_line : List ℕ → Bool
is_out_line line = is_some (out_line line)

-- the first word of the line is `stop`
unfoldable pub is_stop_line : List ℕ → Bool
is_stop_line line = is_some (do
  first ← word_at (words_of line)
  passing (λ word. bytes_eq word (codes "stop")) first.0)
