-- Names are text.
use Rattle.std.proofs.Common.{◌≡◌, ℕ, ◌<◌, true, ◌&&◌, List, [], ◌∷◌, length, arith}
use Rattle.std.specs.Prelude.{nat_le}
use Rattle.std.specs.List.{list_all}
use Rattle.std.specs.Str.{IsAscii, IsUtf8}
use Rattle.std.proofs.lemmas.Bool.{and_parts}
use Rattle.std.proofs.lemmas.Bool.Decides.{nat_tests}
use Rattle.std.proofs.lemmas.Str.{IsUtf8-from_ascii}
use Rattle.std.proofs.lemmas.Str.Ascii.{IsAscii-nil, IsAscii-cons}
use Rattle.txn_program_lines.specs.LineWords.{is_name, is_name_octet}

-- an octet of names is ASCII
ascii_octet : (b : ℕ) → is_name_octet b ≡ true → b < 128
ascii_octet b h = grind (arith, nat_tests)

ascii_octets : (bs : List ℕ) → list_all is_name_octet bs ≡ true → IsAscii bs
ascii_octets [] h = IsAscii-nil
ascii_octets (b ∷ bs) h =
    let both = and_parts (is_name_octet b) (list_all is_name_octet bs) h in
    IsAscii-cons b bs (ascii_octet b both.0) (ascii_octets bs both.1)

-- a name is text
pub IsUtf8-name : (word : List ℕ) → is_name word ≡ true → IsUtf8 word
IsUtf8-name word h =
    let parts = and_parts (nat_le 1 (length word) && nat_le (length word) 64) (list_all is_name_octet word) h in
    IsUtf8-from_ascii word (ascii_octets word parts.1)
