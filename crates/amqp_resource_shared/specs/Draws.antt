-- How many ids a step may draw.
use Rattle.std.specs.Prelude.{ℕ, Bool, true, false, cond}
use Rattle.amqp_resource_record.specs.declared.step.Step.{Step}
use Rattle.amqp_resource_record.specs.declared.step.Step.TheVariants as steps

-- the step is a message on a control link
abbrev pub is_control : Step → Bool
is_control (steps.Frame frame) = false
is_control (steps.Control link payload) = true
is_control (steps.LinkEnd link) = false
is_control (steps.LocalEnd error) = false
is_control (steps.RemoteEnd error) = false
is_control (steps.ConnectionStop reason) = false

-- a message may be a declare, which draws at most 16 (4.2, Declaring a Transaction)
abbrev pub most_drawn : Step → ℕ
most_drawn step = cond (is_control step) 16 0
