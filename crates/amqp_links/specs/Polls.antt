-- What a look for an answer finds.
use Rattle.std.specs.Prelude.{Option, Some, None, Result, Ok, Err}
use Rattle.amqp_links.specs.declared.poll.Poll.{Poll}
use Rattle.amqp_links.specs.declared.poll.Poll.TheVariants as polls

-- what stands ready is given, and where nothing does the look is pending
abbrev pub polled : {A : Type 0} → Option A → Poll A
polled None = polls.Pending
polled (Some answer) = polls.Ready answer

-- the fact holds where the look found an error
abbrev pub OnReadyErr : {T E : Type 0} → Poll (Result T E) → Type 0 → Type 0
OnReadyErr polls.Pending P = Unit {0}
OnReadyErr (polls.Ready (Ok answer)) P = Unit {0}
OnReadyErr (polls.Ready (Err error)) P = P
