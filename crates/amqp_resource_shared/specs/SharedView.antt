-- What contracts see of the value under the lock.
use Rattle.std.specs.Prelude.{Option, List}
use Rattle.amqp_below_layer.specs.Told.{Told}
use Rattle.amqp_resource_record.specs.declared.entry.Entry.{Entry}
use Rattle.amqp_resource_record.specs.declared.stop.StopCode.{StopCode}
use Rattle.amqp_resource_shared.specs.declared.receipt.StoppedAt.{StoppedAt}

-- the entries, the step at which the session stopped, the code of its stop, and what the layer
-- below tells
pub record SharedView : Type 0 where
  pub entries : List Entry
  pub stopped : Option StoppedAt
  pub stop : Option StopCode
  pub told : Told
