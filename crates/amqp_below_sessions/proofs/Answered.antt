-- What holds at an Err follows from what held there.
use Rattle.std.proofs.Common.{Result, Ok, Err, OnErr}

pub on_err-then : {T E : Type 0} {P Q : Type 0} (result : Result T E) → OnErr result P → (P → Q) → OnErr result Q
on_err-then (Ok value) held then = tt
on_err-then (Err error) held then = then held
