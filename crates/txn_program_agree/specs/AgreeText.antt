-- The text of a run of two parties.
use Rattle.std.specs.Prelude.{ℕ, zero, suc, List, [], ◌∷◌, ◌++◌, codes, decimal}
use Rattle.std.specs.List.{flat_map}
use Rattle.amqp_txn_types.specs.declared.performatives.Frame.{Frame}
use Rattle.amqp_below_layer.specs.declared.inner_error.SessionInnerError.{SessionInnerError}
use Rattle.amqp_resource_record.specs.Stops.{fault_code}
use Rattle.txn_parties.specs.declared.event.Heard.{Heard}
use Rattle.txn_parties.specs.declared.event.Heard.TheVariants as hearings
use Rattle.txn_parties.specs.Exchange.{Exchange, heard, made}
use Rattle.txn_program_parties.specs.StopLine.{stop_text}
use Rattle.txn_program_report.specs.Report.{line, stop_word, taken_line}
use Rattle.txn_world.specs.Happening.{code_of_stop, handed_of_stop}

abbrev pub heard_word : Heard → List ℕ
heard_word hearings.Undeclared = codes "undeclared"
heard_word hearings.Nothing = codes "nothing"
heard_word hearings.Committed = codes "committed"
heard_word hearings.RolledBack = codes "rolled-back"
heard_word hearings.Rejected = codes "rejected"

-- txn X HEARD
abbrev pub heard_line : ℕ → Heard → List ℕ
heard_line number heard = line (codes "txn " ++ (decimal number ++ (32 ∷ heard_word heard)))

-- the lines of the first transactions, so many of them
abbrev pub heard_lines : Exchange → ℕ → List ℕ
heard_lines w zero = []
heard_lines w (suc number) = heard_lines w number ++ heard_line number (heard w number)

-- a line for each transaction, how many events were skipped, the stop, how many frames of the
-- stopping item were taken, and a line for each frame that was taken
unfoldable pub agree_text : Exchange → ℕ → List (Frame × List Frame) → List ℕ
agree_text w skipped taken =
    heard_lines w (made w)
    ++ line (codes "skipped " ++ decimal skipped)
    ++ line (codes "stop " ++ stop_text (code_of_stop w.stop))
    ++ line (codes "handed " ++ decimal (handed_of_stop w.stop))
    ++ flat_map taken_line taken

-- attach-refused WORD
abbrev pub refused_text : SessionInnerError → List ℕ
refused_text error = line (codes "attach-refused " ++ stop_word (fault_code error))
