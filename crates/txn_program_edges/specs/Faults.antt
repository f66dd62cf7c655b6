-- What a process ends with where its arguments can't be read.
use Rattle.std.specs.Prelude.{ℕ, List, [], codes}
use Rattle.txn_program_edges.specs.declared.fault.Fault.{Fault}
use Rattle.txn_program_edges.specs.declared.fault.Fault.TheVariants as faults

-- 2 an argument that isn't UTF-8, 6 out of memory
abbrev pub fault_status : Fault → ℕ
fault_status faults.Arguments = 2
fault_status faults.NoMemory = 6

abbrev pub fault_text : Fault → List ℕ
fault_text faults.Arguments = codes "usage\n"
fault_text faults.NoMemory = []
