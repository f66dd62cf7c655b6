use Rattle.txn_program_lines.specs.Cutting.{lines_of}
use Rattle.txn_program_agree_lines.specs.EventLines.{event_of_line}
use Rattle.txn_program_agree_lines.proofs.Spelling.{spelled-events, spelled-none}
use Rattle.txn_program_agree_lines.proofs.events.spelled_events.Goals as goal

pub returns-in-Ok : goal.returns-in-Ok
returns-in-Ok c =
    spelled-events event_of_line (lines_of c.args.octets.now) c.new-events.result c.read_lines.new.reader
    c.new-events.ensures c.in-Ok.ensures

pub returns-in-Err : goal.returns-in-Err
returns-in-Err c =
    spelled-none event_of_line (lines_of c.args.octets.now) c.new-events.result c.read_lines.new.reader c.in-Err.error
    c.new-events.ensures c.in-Err.ensures
