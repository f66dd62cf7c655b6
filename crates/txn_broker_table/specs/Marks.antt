-- The messages of some queues, by number: which of them wait.
use Rattle.std.specs.Prelude.{ℕ, ◌≡◌, ◌≤◌, ◌<◌, ◌+◌, ◌==◌, ◌&&◌, ◌⊎◌, Bool, true, false, cond, List, [], ◌∷◌, length, slice_get}
use Rattle.std.specs.Option.{option_map}
use Rattle.txn_broker_table.specs.declared.mark.Mark.{Mark}

-- the messages by number, how many queues there are, and how many more messages fit without taking
-- memory
pub record Table : Type 0 where
  pub marks : List Mark
  pub queues : ℕ
  pub room : ℕ

-- a message waits
abbrev pub is_waiting : Mark → Bool
is_waiting mark = mark.waits

-- a message waits in this queue
abbrev pub is_waiting_in : ℕ → Mark → Bool
is_waiting_in queue mark = (mark.queue == queue) && mark.waits

-- a message that came
abbrev pub came : ℕ → ℕ → Mark
came place queue = record { place = place; queue = queue; waits = true }

-- a message that is gone from its queue
abbrev pub gone : Mark → Mark
gone mark = record mark { waits = false }

-- the numbers of the messages that wait in a queue, rising, where the first message has number n
abbrev pub numbers_from : ℕ → ℕ → List Mark → List ℕ
numbers_from queue n [] = []
numbers_from queue n (mark ∷ marks) =
    cond (is_waiting_in queue mark) (n ∷ numbers_from queue (n + 1) marks)
    (numbers_from queue (n + 1) marks)

-- the numbers of the messages that wait in a queue, rising
abbrev pub numbers_in : ℕ → List Mark → List ℕ
numbers_in queue marks = numbers_from queue 0 marks

-- the messages from one number up to, but not with, another are gone, and all else is as it was
pub record Removes (from to : ℕ) (old new : List Mark) : Type 0 where
  pub len : length new ≡ length old
  pub removed : (n : ℕ) → from ≤ n → n < to → slice_get new n ≡ option_map gone (slice_get old n)
  pub others : (n : ℕ) → (n < from) ⊎ (to ≤ n) → slice_get new n ≡ slice_get old n
