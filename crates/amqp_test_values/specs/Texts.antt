-- The texts of errors, where they are told.
use Rattle.std.specs.Prelude.{ℕ, ◌≡◌, ◌≢◌, ◌↔◌, IsTrue, Bool, Option, Some, None, List}

-- the text is that one
abbrev pub Reads : Option (List ℕ) → List ℕ → Type 0
Reads (Some text) want = text ≡ want
Reads None want = Unit {0}

-- the text is another
abbrev pub Differs : Option (List ℕ) → List ℕ → Type 0
Differs (Some text) want = text ≢ want
Differs None want = Unit {0}

-- this is whether the text is that one
abbrev pub IsAsTold : Option (List ℕ) → List ℕ → Bool → Type 0
IsAsTold (Some text) want same = IsTrue same ↔ (text ≡ want)
IsAsTold None want same = Unit {0}
