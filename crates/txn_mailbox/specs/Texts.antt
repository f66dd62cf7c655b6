-- What is written of a mailbox.
use Rattle.std.specs.Prelude.{ℕ, ◌==◌, List, ◌++◌, codes, decimal}
use Rattle.std.specs.List.{count_by}
use Rattle.amqp_resource_record.specs.Stops.{code_of}
use Rattle.amqp_resource_record.specs.declared.stop.Stop.{Stop}
use Rattle.txn_program_report.specs.Report.{line, stop_word}

-- a line of a name and a count
abbrev pub count_line : List ℕ → ℕ → List ℕ
count_line name count = line (name ++ decimal count)

-- how many entries there are, how many of them each sender sent, how many frames were taken, and
-- the stop
unfoldable pub counts_text : ℕ → List ℕ → ℕ → Stop → List ℕ
counts_text entries marks taken stop =
    count_line (codes "entries ") entries
    ++ count_line (codes "sent 0 ") (count_by (λ mark. mark == 0) marks)
    ++ count_line (codes "sent 1 ") (count_by (λ mark. mark == 1) marks)
    ++ count_line (codes "taken ") taken
    ++ line (codes "stop " ++ stop_word (code_of stop))
