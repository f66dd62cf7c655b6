-- What the calls of a wire answer, and what a look leaves of them.
use Rattle.std.specs.Prelude.{◌≡◌, Bool, true, false, Result, Ok, Err}
use Rattle.amqp_txn_types.specs.Calls.{after_call, called}
use Rattle.amqp_txn_types.specs.declared.calls.Calls.{Calls}
use Rattle.amqp_links.specs.declared.poll.Poll.{Poll}
use Rattle.amqp_links.specs.declared.poll.Poll.TheVariants as polls

-- after a look, by what it found
abbrev pub after_look : {T E : Type 0} → Calls → Poll (Result T E) → Calls
after_look calls polls.Pending = called calls
after_look calls (polls.Ready result) = after_call calls result

-- a call that is to fail has that error, and any other has an Err where memory runs out alone
abbrev pub FailsAsListed : {T E : Type 0} → Bool → E → E → Result T E → Type 0
FailsAsListed true illegal_state no_memory result = result ≡ Err illegal_state
FailsAsListed false illegal_state no_memory (Ok answer) = Unit {0}
FailsAsListed false illegal_state no_memory (Err error) = error ≡ no_memory

-- a call that is to fail has that error, and any other is Ok
abbrev pub FailsOnlyAsListed : {T E : Type 0} → Bool → E → Result T E → Type 0
FailsOnlyAsListed true illegal_state result = result ≡ Err illegal_state
FailsOnlyAsListed false illegal_state (Ok answer) = Unit {0}
FailsOnlyAsListed false illegal_state (Err error) = ⊥
