-- Words that several programs have: ids, lists of calls, and counts.
use Rattle.std.specs.Prelude.{ℕ, ◌==◌, ◌<◌, ◌&&◌, Option, Some, None, List, [], ◌∷◌, length, codes, nat_le, if◌then◌else◌}
use Rattle.std.specs.List.{slice_split}
use Rattle.std.specs.Str.{bytes_eq}
use Rattle.amqp_txn_types.specs.declared.id.TransactionId.{TransactionId}
use Rattle.amqp_below_ids.specs.Listed.{listed}
use Rattle.amqp_below_uuid_ids.specs.Seeded.{seeded}
use Rattle.txn_program_lines.specs.LineWords.{◌>>=◌, octets_of, between, at_most, decimal_of, u64_of}
use Rattle.txn_program_edges.specs.declared.words.Ids.{Ids}
use Rattle.txn_program_edges.specs.declared.words.Ids.TheVariants as id_kinds

-- what each of the words means, where all mean something
abbrev pub each : {A : Type 0} → (List ℕ → Option A) → List (List ℕ) → Option (List A)
each kind [] = Some []
each kind (word ∷ words) = do
  meaning ← kind word
  meanings ← each kind words
  Some (meaning ∷ meanings)

-- 1 to 64 of them
abbrev pub some_few : {A : Type 0} → List A → Option (List A)
some_few items = if nat_le 1 (length items) && nat_le (length items) 64 then Some items else None

-- ID: 32 hexadecimal digits
abbrev pub id_of : List ℕ → Option TransactionId
id_of word = octets_of word >>= between 16 16

-- a number other than 0
abbrev pub from_one : Option ℕ → Option ℕ
from_one None = None
from_one (Some number) = if number == 0 then None else Some number

-- a number from 1 up to a limit
abbrev pub count_of : ℕ → List ℕ → Option ℕ
count_of limit word = from_one (at_most limit (decimal_of word))

-- a number of LIST: from 1 to 18,446,744,073,709,551,615
abbrev pub call_of : List ℕ → Option ℕ
call_of word = count_of 18446744073709551615 word

-- LIST: 1 to 64 numbers, parted by commas
abbrev pub call_list_of : List ℕ → Option (List ℕ)
call_list_of word = each call_of (slice_split (λ octet. octet == 44) word) >>= some_few

-- ID ID ..
abbrev pub id_list_of : List (List ℕ) → Option (List TransactionId)
id_list_of words = each id_of words >>= some_few

-- ID ID .., as the ids that are drawn
abbrev pub list_words : List (List ℕ) → Option Ids
list_words words = do
  ids ← id_list_of words
  Some (id_kinds.Listed ids)

-- N, up to 18,446,744,073,709,551,615
abbrev pub seed_words : List (List ℕ) → Option Ids
seed_words (word ∷ []) = do
  seed ← u64_of word
  Some (id_kinds.Seeded seed)
seed_words words = None

-- `--seed N`, or ID ID ..
abbrev pub id_words : List (List ℕ) → Option Ids
id_words [] = None
id_words (word ∷ words) =
    if bytes_eq word (codes "--seed") then seed_words words else list_words (word ∷ words)

-- there are ids to draw
abbrev pub AreSome : Ids → Type 0
AreSome (id_kinds.Listed ids) = 0 < length ids
AreSome (id_kinds.Seeded seed) = Unit {0}

-- the ids that are drawn, one after another
abbrev pub stream_of_ids : Ids → ℕ → TransactionId
stream_of_ids (id_kinds.Listed ids) = listed ids
stream_of_ids (id_kinds.Seeded seed) = seeded seed
