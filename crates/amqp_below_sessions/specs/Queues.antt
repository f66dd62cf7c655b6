-- The attaches that wait at a session to be accepted.
use Rattle.std.specs.Prelude.{Bool, true, List, [], ◌∷◌, ◌++◌, Option, Some, None, drop}
use Rattle.amqp_txn_types.specs.declared.performatives.Attach.{Attach}

-- the attaches that wait, in the order in which they came, and whether no more are queued
pub record Queue : Type 0 where
  pub waiting : List Attach
  pub closed : Bool

-- the queue of a session in which attaches never wait
abbrev pub no_queue : Queue
no_queue = record { waiting = []; closed = true }

-- the first of some attaches
abbrev pub first_of : List Attach → Option Attach
first_of [] = None
first_of (attach ∷ rest) = Some attach

-- the attach that came first
abbrev pub first_waiting : Queue → Option Attach
first_waiting queue = first_of queue.waiting

-- the queue once the attach that came first was taken
abbrev pub without_first : Queue → Queue
without_first queue = record queue { waiting = drop 1 queue.waiting }

-- the queue once an attach came
abbrev pub with_last : Queue → Attach → Queue
with_last queue attach = record queue { waiting = queue.waiting ++ attach ∷ [] }

-- the queue once no more attaches are queued; those that wait stay
abbrev pub closed_queue : Queue → Queue
closed_queue queue = record queue { closed = true }
