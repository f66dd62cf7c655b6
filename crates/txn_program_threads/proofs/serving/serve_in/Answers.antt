use Rattle.std.proofs.Common.{◌≡◌, sum_by, sym, ◌∙◌}
use Rattle.amqp_resource_shared.specs.Close.{closed_of, why_of}
use Rattle.txn_program_threads.proofs.RunEnds.{AtEnd, few-entries, out-run, whole-run}
use Rattle.txn_program_threads.proofs.serving.serve_in.Goals as goal

pub returns-in_default : goal.returns-in_default
returns-in_default g c = out-run _ _ _ _ _ _ _ _ c.close.ensures.kept c.close.ensures.kept.taken c.end_ungathered.ensures.leaves c.end_ungathered.ensures.out

pub end-requires : goal.end-requires
end-requires g c =
    let parts : sum_by (λ s. s.parts) c.in-Some.gathered.shares.items ≡ g.L.Ledger.parts = c.in-Some.ensures.parts ∙ (sym c.requires.parts.1 ∙ c.requires.parts.0) in
    let end : AtEnd (sum_by (λ s. s.count) c.in-Some.gathered.shares.items) c.args.workers c.args.rounds (closed_of c.close-2.result).entries c.in-Some.gathered.receipts.items (why_of c.close-2.result) c.in-Some.gathered.done = record {
      closed = c.close-2.ensures.why;
      counts = c.in-Some.ensures.counts;
      whole = c.close-2.ensures.whole parts;
      gathered = c.in-Some.ensures.gathered;
      once = c.in-Some.ensures.once;
    } in
    few-entries _ c.args.workers c.args.rounds _ _ _ _ c.requires.workers.1 c.requires.rounds.1 end

pub returns : goal.returns
returns g c =
    let parts : sum_by (λ s. s.parts) c.in-Some.gathered.shares.items ≡ g.L.Ledger.parts = c.in-Some.ensures.parts ∙ (sym c.requires.parts.1 ∙ c.requires.parts.0) in
    let end : AtEnd (sum_by (λ s. s.count) c.in-Some.gathered.shares.items) c.args.workers c.args.rounds (closed_of c.close-2.result).entries c.in-Some.gathered.receipts.items (why_of c.close-2.result) c.in-Some.gathered.done = record {
      closed = c.close-2.ensures.why;
      counts = c.in-Some.ensures.counts;
      whole = c.close-2.ensures.whole parts;
      gathered = c.in-Some.ensures.gathered;
      once = c.in-Some.ensures.once;
    } in
    whole-run _ _ _ _ _ _ _ _ _ _ _ _ c.close-2.ensures.kept c.close-2.ensures.kept.taken c.end.ensures.leaves end c.end.ensures.numbers
