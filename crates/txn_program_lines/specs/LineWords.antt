-- The kinds of words of a step line: what each word means, and which words are of no kind.
use Rattle.std.specs.Prelude.{ℕ, ◌+◌, ◌-◌, ◌*◌, ◌==◌, ◌&&◌, ◌||◌, Bool, true, false, Option, Some, None, List, [], ◌∷◌, length, codes, nat_le, if◌then◌else◌}
use Rattle.std.specs.Char.{is_ascii_digit}
use Rattle.std.specs.List.{list_all}
use Rattle.std.specs.Str.{bytes_eq}
use Rattle.hex.specs.Hex.{decode_of}
use Rattle.std.specs.Result.{result_ok}
use Rattle.amqp_txn_types.specs.declared.small.Role.{Role}
use Rattle.amqp_txn_types.specs.declared.small.Role.TheVariants as roles
use Rattle.amqp_txn_types.specs.declared.delivery.Outcome.{Outcome}
use Rattle.amqp_txn_types.specs.declared.delivery.Outcome.TheVariants as outcomes

-- what is read goes on to the next reading; where there is nothing, nothing comes after it
infixl 10 ◌>>=◌
abbrev pub ◌>>=◌ : {A B : Type 0} → Option A → (A → Option B) → Option B
(Some meaning) >>= next = next meaning
None >>= next = None

-- an octet of a name: a letter, a digit, `-`, `_` or `.`
abbrev pub is_name_octet : ℕ → Bool
is_name_octet octet =
    (nat_le 97 octet && nat_le octet 122) || (nat_le 65 octet && nat_le octet 90)
    || is_ascii_digit octet || octet == 45 || octet == 95 || octet == 46

-- a name: 1 to 64 octets of names
abbrev pub is_name : List ℕ → Bool
is_name word = nat_le 1 (length word) && nat_le (length word) 64 && list_all is_name_octet word

-- NAME
abbrev pub name_of : List ℕ → Option (List ℕ)
name_of word = if is_name word then Some word else None

-- the number that more digits make of what those before them made
abbrev pub number_after : ℕ → List ℕ → Option ℕ
number_after number [] = Some number
number_after number (digit ∷ digits) =
    if is_ascii_digit digit then number_after (10 * number + (digit - 48)) digits else None

-- a zero stands alone
abbrev pub zero_alone : List ℕ → Option ℕ
zero_alone [] = Some 0
zero_alone (digit ∷ digits) = None

-- a decimal number without leading zeros
abbrev pub decimal_of : List ℕ → Option ℕ
decimal_of [] = None
decimal_of (digit ∷ digits) =
    if digit == 48 then zero_alone digits else number_after 0 (digit ∷ digits)

-- a number up to a limit
abbrev pub at_most : ℕ → Option ℕ → Option ℕ
at_most limit None = None
at_most limit (Some number) = if nat_le number limit then Some number else None

-- H, N and FIRST
abbrev pub u32_of : List ℕ → Option ℕ
u32_of word = at_most 4294967295 (decimal_of word)

-- K
abbrev pub u64_of : List ℕ → Option ℕ
u64_of word = at_most 18446744073709551615 (decimal_of word)

-- BOOL
abbrev pub bool_of : List ℕ → Option Bool
bool_of word =
    if bytes_eq word (codes "true") then Some true
    else if bytes_eq word (codes "false") then Some false
    else None

-- ROLE
abbrev pub role_of : List ℕ → Option Role
role_of word =
    if bytes_eq word (codes "sender") then Some roles.Sender
    else if bytes_eq word (codes "receiver") then Some roles.Receiver
    else None

-- modified, with no field set
abbrev pub bare_modified : Outcome
bare_modified = outcomes.Modified (record {
  delivery_failed = None;
  undeliverable_here = None;
  message_annotations = None;
})

-- OUT, where it names an outcome
abbrev pub outcome_of : List ℕ → Option Outcome
outcome_of word =
    if bytes_eq word (codes "accepted") then Some outcomes.Accepted
    else if bytes_eq word (codes "rejected") then Some (outcomes.Rejected (record { error = None }))
    else if bytes_eq word (codes "released") then Some outcomes.Released
    else if bytes_eq word (codes "modified") then Some bare_modified
    else None

-- something, where a word means it
abbrev pub some_of : {A : Type 0} → Option A → Option (Option A)
some_of None = None
some_of (Some meaning) = Some (Some meaning)

-- a word of a kind, or `-` for none: ID, LAST, SET and OUT
abbrev pub optional : {A : Type 0} → (List ℕ → Option A) → List ℕ → Option (Option A)
optional kind word = if bytes_eq word (codes "-") then Some None else some_of (kind word)

-- the octets that hexadecimal digits of either case spell
abbrev pub octets_of : List ℕ → Option (List ℕ)
octets_of word = result_ok (decode_of word)

-- octets, at least `least` and at most `most` of them
abbrev pub between : ℕ → ℕ → List ℕ → Option (List ℕ)
between least most octets =
    if nat_le least (length octets) && nat_le (length octets) most then Some octets else None

-- T
abbrev pub txn_id_of : List ℕ → Option (List ℕ)
txn_id_of word = octets_of word >>= between 1 32

-- at least one octet
abbrev pub some_octets : List ℕ → Option (List ℕ)
some_octets [] = None
some_octets (octet ∷ octets) = Some (octet ∷ octets)

-- PAYLOAD
abbrev pub payload_of : List ℕ → Option (List ℕ)
payload_of word = if bytes_eq word (codes "-") then Some [] else octets_of word >>= some_octets
