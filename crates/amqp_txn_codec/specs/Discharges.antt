-- What a discharge asks for. Part 4 of the standard (OASIS AMQP 1.0), section 4.5.3 (Discharge).
use Rattle.std.specs.Prelude.{Bool, true, false, Option, Some}

-- a discharge rolls back exactly where its `fail` is Some(true), else it commits (4.5.3, Discharge)
abbrev pub is_rollback : Option Bool → Bool
is_rollback (Some true) = true
is_rollback _ = false
