-- What a layer inside another told and gave in one of its calls.
use Rattle.std.specs.Prelude.{Result, List}
use Rattle.amqp_txn_types.specs.declared.performatives.Attach.{Attach}
use Rattle.amqp_txn_types.specs.declared.performatives.Frame.{Frame}
use Rattle.amqp_below_layer.specs.declared.inner_error.SessionInnerError.{SessionInnerError}
use Rattle.amqp_below_layer.specs.Told.{Told, Takes, Opens}

-- what a layer told and gave in an incoming frame call
pub record Took {S : Type 0} (told : S → Told)
    (gives : S → S → Frame → Result (List Frame) SessionInnerError → Type 0)
    (old new : S) (frame : Frame) (result : Result (List Frame) SessionInnerError) : Type 0 where
  pub takes : Takes (told old) (told new) frame result
  pub gave : gives old new frame result

-- what a layer told and gave at the attach of a control link
pub record Opened {S : Type 0} (told : S → Told)
    (gives : S → S → Attach → Result (List Frame) SessionInnerError → Type 0)
    (old new : S) (attach : Attach) (result : Result (List Frame) SessionInnerError) : Type 0 where
  pub opens : Opens (told old) (told new) attach result
  pub gave : gives old new attach result
