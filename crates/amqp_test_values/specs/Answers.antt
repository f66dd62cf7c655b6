-- What an answer is compared with.
use Rattle.std.specs.Prelude.{Bool, false, Result, Ok, Err}

-- whether it is this Ok
abbrev pub gives_ok : {T E : Type 0} → (T → T → Bool) → Result T E → T → Bool
gives_ok equal (Ok found) wanted = equal found wanted
gives_ok equal (Err error) wanted = false

-- whether it is this Err
abbrev pub gives_err : {T E : Type 0} → (E → E → Bool) → Result T E → E → Bool
gives_err equal (Ok value) wanted = false
gives_err equal (Err found) wanted = equal found wanted
