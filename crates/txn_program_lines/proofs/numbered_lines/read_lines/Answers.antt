use Rattle.std.proofs.Common.{sym, ◌∙◌, arith}
use Rattle.txn_program_lines.proofs.Spelling.{read-all, read-bad, read-more}
use Rattle.txn_program_lines.proofs.numbered_lines.read_lines.Goals as goal

pub returns-in-Err-OutsideTable : goal.returns-in-Err-OutsideTable
returns-in-Err-OutsideTable g c =
    let unread = rw c.in-Err-OutsideTable.field-0-is at c.in-Err-OutsideTable.ensures in
    read-bad g.L.LineReader.after_line c.loop-rest.reader c.loop-rest.number c.loop-rest.rest.now c.first_line.result.0.now c.first_line.result.1.now _ c.first_line.ensures.lines unread c.loop-rest.invariant.reads

pub loop-rest-preserved : goal.loop-rest-preserved
loop-rest-preserved g c = record {
  reads = read-more g.L.LineReader.after_line c.loop-rest.reader c.read_line.new.self c.loop-rest.number c.loop-rest.rest.now c.first_line.result.0.now c.first_line.result.1.now _ c.first_line.ensures.lines c.in-Ok.ensures c.loop-rest.invariant.reads;
  few = omega (arith, c.first_line.ensures.shorter, c.loop-rest.invariant.few);
}

pub returns : goal.returns
returns g c = read-all g.L.LineReader.after_line c.loop-rest.reader c.loop-rest.number c.loop-rest.rest.now _ (sym c.is_empty.ensures ∙ c.loop-rest-test.false) c.loop-rest.invariant.reads
