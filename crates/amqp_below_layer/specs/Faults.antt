-- Kinds of refusal.
use Rattle.std.specs.Prelude.{Bool, true, false}
use Rattle.amqp_below_layer.specs.declared.inner_error.SessionInnerError.{SessionInnerError}
use Rattle.amqp_below_layer.specs.declared.inner_error.SessionInnerError.TheVariants as faults

-- the error is out of memory
abbrev pub is_no_memory : SessionInnerError → Bool
is_no_memory faults.NoMemory = true
is_no_memory _ = false

-- the error is that a handle isn't attached
abbrev pub is_unattached : SessionInnerError → Bool
is_unattached faults.UnattachedHandle = true
is_unattached _ = false
