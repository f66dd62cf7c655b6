-- How an id stands in a block of 32 octets.
use Rattle.std.specs.Prelude.{◌≡◌, ℕ, ◌-◌, ◌≤◌, List, ◌++◌, length, take, replicate}

-- an id: the first octets of a block
abbrev pub view_of : List ℕ → ℕ → List ℕ
view_of octets len = take len octets

-- an id, with zeros up to 32 octets
abbrev pub padded : List ℕ → List ℕ
padded id = id ++ replicate (32 - length id) 0

-- a block of 32 octets that holds zeros after the first len
pub record IsPadded (octets : List ℕ) (len : ℕ) : Type 0 where
  pub short : len ≤ 32
  pub exact : length (view_of octets len) ≡ len
  pub again : padded (view_of octets len) ≡ octets
