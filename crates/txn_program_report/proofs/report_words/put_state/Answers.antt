use Rattle.std.proofs.Common.{ap}
use Rattle.std.specs.Prelude.{codes, string_bytes}
use Rattle.hex.specs.Hex.{encode_lower}
use Rattle.txn_program_report.specs.Report.{state_word}
use Rattle.txn_program_report.proofs.Putting.{put_after}
use Rattle.txn_program_report.proofs.report_words.put_state.Goals as goal

pub returns-in_ok-put-in-Declared : goal.returns-in_ok-put-in-Declared
returns-in_ok-put-in-Declared c =
    put_after c.put_txn_id.result (string_bytes c.args.out.now) (string_bytes c.put-in-Declared.new.out) (string_bytes c.put_txn_id.new.out) (codes "declared:") (encode_lower c.in-Declared.declared.txn_id) (state_word c.args.state.now)
    c.in_ok-put-in-Declared.ensures c.put_txn_id.ensures (ap state_word c.in-Declared.is)
