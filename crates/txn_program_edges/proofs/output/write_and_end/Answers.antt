use Rattle.std.proofs.Common.{ℕ, Option, List, sym, ◌∙◌, ap, length, take}
use Rattle.amqp_txn_types.specs.Growing.{grown}
use Rattle.txn_program_edges.proofs.Streaming.{text_by-whole}
use Rattle.txn_program_edges.proofs.output.write_and_end.Goals as goal

-- the whole text was written
pub returns-in-Ok-clause-written : goal.returns-in-Ok-clause-written
returns-in-Ok-clause-written g c =
    let text = c.args.text.now in
    let whole = text_by-whole c.args.status text c.if-status-eq-NO_MEMORY.false in
    record {
      count = length text;
      written =
          c.in-Ok.ensures.ok ∙ ap (λ (w : Option (List ℕ)). grown w text) c.reserve.ensures.written
          ∙ sym (ap (grown (g.O.ByteSink.written c.args.output.now)) whole);
    }

-- a front of it was written
pub returns-in-Err-clause-written : goal.returns-in-Err-clause-written
returns-in-Err-clause-written g c =
    let text = c.args.text.now in
    let front = c.in-Err.ensures.front in
    record {
      count = front.0;
      written =
          front.1 ∙ ap (λ (w : Option (List ℕ)). grown w (take front.0 text)) c.reserve.ensures.written;
    }
