-- The line of a stop.
use Rattle.std.specs.Prelude.{ℕ, Option, Some, None, List, codes}
use Rattle.amqp_resource_record.specs.declared.stop.StopCode.{StopCode}
use Rattle.txn_program_report.specs.Report.{stop_word}

-- the word of a stop, or `none` where the session didn't stop
abbrev pub stop_text : Option StopCode → List ℕ
stop_text None = codes "none"
stop_text (Some code) = stop_word code
