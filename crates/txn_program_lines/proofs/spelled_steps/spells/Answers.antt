use Rattle.txn_program_lines.specs.Cutting.{lines_of}
use Rattle.txn_program_lines.specs.Lines.{step_of_line}
use Rattle.txn_program_lines.proofs.Spelling.{spelled-none, spelled-steps}
use Rattle.txn_program_lines.proofs.spelled_steps.spells.Goals as goal

pub returns-in-Ok : goal.returns-in-Ok
returns-in-Ok c =
    spelled-steps step_of_line (lines_of c.args.octets.now) c.new-steps.result c.read_lines.new.reader
    c.new-steps.ensures c.in-Ok.ensures

pub returns-in-Err : goal.returns-in-Err
returns-in-Err c =
    spelled-none step_of_line (lines_of c.args.octets.now) c.new-steps.result c.read_lines.new.reader c.in-Err.error
    c.new-steps.ensures c.in-Err.ensures
