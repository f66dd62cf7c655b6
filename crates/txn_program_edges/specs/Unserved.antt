-- Ends of a program that does nothing: the status and the text of each.
use Rattle.std.specs.Prelude.{ℕ, List, ◌++◌, codes}
use Rattle.std.specs.Fmt.{decimal}
use Rattle.txn_program_edges.specs.declared.unserved.Unserved.{Unserved}
use Rattle.txn_program_edges.specs.declared.unserved.Unserved.TheVariants as causes

-- 2 arguments outside the table, 3 a line outside the table, 4 a fault of the input, 7 more octets
-- than the limit
abbrev pub unserved_status : Unserved → ℕ
unserved_status causes.Usage = 2
unserved_status (causes.Line number) = 3
unserved_status causes.ReadFault = 4
unserved_status causes.TooLong = 7

-- the text of a line of the input that isn't a step
abbrev pub line_text : ℕ → List ℕ
line_text number = codes "not a step: line " ++ decimal number ++ codes "\n"

abbrev pub unserved_text : Unserved → List ℕ
unserved_text causes.Usage = codes "usage\n"
unserved_text (causes.Line number) = line_text number
unserved_text causes.ReadFault = codes "read fault\n"
unserved_text causes.TooLong = codes "input too long\n"
