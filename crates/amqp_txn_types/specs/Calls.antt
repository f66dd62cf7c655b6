-- The fallible calls of a body in memory.
use Rattle.std.specs.Prelude.{◌==◌, Bool, Result, Ok, Err}
use Rattle.std.specs.List.{list_any}
use Rattle.amqp_txn_types.specs.declared.calls.Calls.{Calls}
use Rattle.amqp_txn_types.specs.Counts.{one_more}

-- the next call is to fail: its number is in the list
unfoldable pub is_failing : Calls → Bool
is_failing calls = list_any (λ number. number == one_more calls.made) calls.failing

-- one more fault
abbrev pub faulted : Calls → Calls
faulted calls = record calls { faults = one_more calls.faults }

-- one more call
abbrev pub called : Calls → Calls
called calls = record calls { made = one_more calls.made }

-- after a call, by its answer: an Err is a fault
abbrev pub after_call : {T E : Type 0} → Calls → Result T E → Calls
after_call calls (Ok answer) = called calls
after_call calls (Err error) = faulted (called calls)
