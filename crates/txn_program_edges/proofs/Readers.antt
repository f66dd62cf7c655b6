-- What a reader of the standard library gives.
use Rattle.std.proofs.Common.{ℕ, Option, Some, None, List, sym, ◌∙◌, refl}
use Rattle.std.specs.Io.KnownBytes.{Consumes, Keeps}

-- known octets stay as they are
pub keeps-same : (a : Option (List ℕ)) → Keeps a a
keeps-same None = tt
keeps-same (Some xs) = refl

-- they stay through two reads that failed
pub keeps-on : (a b c : Option (List ℕ)) → Keeps a b → Keeps b c → Keeps a c
keeps-on None b c h k = tt
keeps-on (Some xs) None c h k = absurd h
keeps-on (Some xs) (Some ys) None h k = absurd k
keeps-on (Some xs) (Some ys) (Some zs) h k = k ∙ h

-- what a read consumed after others that failed
pub consumes-on : (a b c : Option (List ℕ)) (octets : List ℕ) → Keeps a b → Consumes b c octets → Consumes a c octets
consumes-on None b c octets h k = tt
consumes-on (Some xs) None c octets h k = absurd h
consumes-on (Some xs) (Some ys) None octets h k = absurd k
consumes-on (Some xs) (Some ys) (Some zs) octets h k = sym h ∙ k
