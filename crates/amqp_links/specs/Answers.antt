-- The answers to unsettled sends.
use Rattle.std.specs.Prelude.{Bool, true, false, Option, Some, None}
use Rattle.amqp_links.specs.declared.answer_slot.AnswerSlot.{AnswerSlot}
use Rattle.amqp_links.specs.declared.answer_slot.AnswerSlot.TheVariants as slots
use Rattle.amqp_links.specs.Sending.{Answer}

-- an answer is awaited there
abbrev pub is_awaited : Option AnswerSlot → Bool
is_awaited (Some slots.Awaited) = true
is_awaited _ = false

-- the answer that stands ready there
abbrev pub answer_in : Option AnswerSlot → Option Answer
answer_in (Some (slots.Ready answer)) = Some answer
answer_in _ = None

-- an answer that is awaited has come
abbrev pub filled_slot : AnswerSlot → Answer → AnswerSlot
filled_slot slots.Awaited answer = slots.Ready answer
filled_slot slot answer = slot

-- an answer that stood ready was given
abbrev pub emptied_slot : AnswerSlot → AnswerSlot
emptied_slot (slots.Ready answer) = slots.Given
emptied_slot slot = slot
