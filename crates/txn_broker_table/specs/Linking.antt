-- How the cells of the table lead from message to message.
use Rattle.std.specs.Prelude.{ℕ, ◌≡◌, ◌≤◌, ◌<◌, ◌+◌, ◌⊎◌, Bool, true, false, Option, Some, None, List, length, map, slice_get}
use Rattle.std.specs.Option.{option_map}
use Rattle.txn_broker_table.specs.declared.cell.Cell.{Cell}
use Rattle.txn_broker_table.specs.declared.cell.Ends.{Ends}
use Rattle.txn_broker_table.specs.declared.mark.Mark.{Mark}
use Rattle.txn_broker_table.specs.Marks.{is_waiting, is_waiting_in}

-- the messages of some cells
abbrev pub marks_of : List Cell → List Mark
marks_of cells = map (λ (c : Cell). c.mark) cells

-- the queue of the message with this number
abbrev pub queue_at : List Mark → ℕ → Option ℕ
queue_at marks n = option_map (λ (m : Mark). m.queue) (slice_get marks n)

-- no message from one number up to, but not with, another passes
abbrev pub NonePasses : (Mark → Bool) → List Mark → ℕ → ℕ → Type 0
NonePasses test marks from to =
    (n : ℕ) (mark : Mark) → from ≤ n → n < to → slice_get marks n ≡ Some mark → test mark ≡ false

-- from this number on, the first message that passes is this one, if any does
abbrev pub Finds : (Mark → Bool) → List Mark → ℕ → Option ℕ → Type 0
Finds test marks from None = NonePasses test marks from (length marks)
Finds test marks from (Some n) =
    (from ≤ n) × ((mark : Mark) × (slice_get marks n ≡ Some mark) × (test mark ≡ true))
    × NonePasses test marks from n

-- a greater number, within the messages: no message between waits
pub record Skips (marks : List Mark) (n to : ℕ) : Type 0 where
  pub after : n < to
  pub within : to ≤ length marks
  pub none : NonePasses is_waiting marks (n + 1) to

-- a later message of the queue: no message of the queue between waits
pub record LeadsOn (marks : List Mark) (queue n m : ℕ) : Type 0 where
  pub after : n < m
  pub same : queue_at marks m ≡ Some queue
  pub none : NonePasses (is_waiting_in queue) marks (n + 1) m

-- where a cell leads in its queue: on to a later message, or nowhere from the queue's last one
abbrev pub Leads : List Mark → ℕ → ℕ → Option ℕ → Type 0
Leads marks queue n None = (m : ℕ) → n < m → queue_at marks m ≡ Some queue → ⊥
Leads marks queue n (Some m) = LeadsOn marks queue n m

-- each cell skips messages that are gone
abbrev pub SkipsFit : List Cell → Type 0
SkipsFit cells = (n : ℕ) (c : Cell) → slice_get cells n ≡ Some c → Skips (marks_of cells) n c.skip

-- each cell leads on in its queue
abbrev pub LinksFit : List Cell → Type 0
LinksFit cells =
    (n : ℕ) (c : Cell) → slice_get cells n ≡ Some c → Leads (marks_of cells) c.mark.queue n c.next

-- the ends of a queue whose messages are these
pub record Spans (marks : List Mark) (queue : ℕ) (e : Ends) : Type 0 where
  pub first_in : queue_at marks e.first ≡ Some queue
  pub before : NonePasses (is_waiting_in queue) marks 0 e.first
  pub last_in : queue_at marks e.last ≡ Some queue
  pub last : (n : ℕ) → queue_at marks n ≡ Some queue → n ≤ e.last

-- the ends of a queue, none where no message came to it
abbrev pub EndFits : List Mark → ℕ → Option Ends → Type 0
EndFits marks queue None = (n : ℕ) → queue_at marks n ≡ Some queue → ⊥
EndFits marks queue (Some e) = Spans marks queue e

abbrev pub EndsFit : List Mark → List (Option Ends) → Type 0
EndsFit marks ends =
    (queue : ℕ) (o : Option Ends) → slice_get ends queue ≡ Some o → EndFits marks queue o

-- each message is of one of the queues
abbrev pub QueuesFit : List Mark → ℕ → Type 0
QueuesFit marks queues = (n queue : ℕ) → queue_at marks n ≡ Some queue → queue < queues

-- the cells lead over all that waits
pub record Linked (cells : List Cell) (ends : List (Option Ends)) : Type 0 where
  pub skips : SkipsFit cells
  pub links : LinksFit cells
  pub spans : EndsFit (marks_of cells) ends
  pub queues : QueuesFit (marks_of cells) (length ends)

-- the messages and the skips are as they were
pub record Relinked (old new : List Cell) : Type 0 where
  pub marks : marks_of new ≡ marks_of old
  pub skips : (n : ℕ) (c : Cell) → slice_get new n ≡ Some c
      → (o : Cell) × (slice_get old n ≡ Some o) × (c.skip ≡ o.skip)

-- the links are as they were, and so are places and queues; no message waits that didn't
pub record Faded (old new : List Cell) : Type 0 where
  pub len : length new ≡ length old
  pub cell : (n : ℕ) (c : Cell) → slice_get new n ≡ Some c
      → (o : Cell) × (slice_get old n ≡ Some o) × (c.next ≡ o.next)
      × (c.mark.queue ≡ o.mark.queue) × (o.mark.waits ≡ false → c.mark.waits ≡ false)

-- the cells before a new message of a queue: they skip what they skipped, and each leads on where
-- it led, or is the queue's last one and leads to the new one
pub record Prepared (cells : List Cell) (queue : ℕ) (new : List Cell) : Type 0 where
  pub relinked : Relinked cells new
  pub links : (n : ℕ) (c : Cell) → slice_get new n ≡ Some c
      → (Leads (marks_of cells) c.mark.queue n c.next
      × (c.next ≡ None → queue ≡ c.mark.queue → ⊥))
      ⊎ ((c.mark.queue ≡ queue) × (c.next ≡ Some (length cells))
      × ((m : ℕ) → n < m → queue_at (marks_of cells) m ≡ Some queue → ⊥))

-- where the first message of a queue is once a message came
abbrev pub first_with : List Mark → Option Ends → ℕ
first_with marks None = length marks
first_with marks (Some e) = e.first
