use Rattle.std.proofs.Common.{rules, ◌≡◌, ◌+◌, [], ◌∷◌, ◌++◌, length, ◌∙◌, ap, arith, length-append}
use Rattle.txn_program_threads.specs.declared.starting.Job.{Job}
use Rattle.txn_program_threads.proofs.Each.{each-push}
use Rattle.txn_program_threads.proofs.starting.make_jobs.Goals as goal

pub loop-made-preserved : goal.loop-made-preserved
loop-made-preserved g c =
    let inv = c.loop-made.invariant in
    let parts = c.split-share.ensures.parts in
    let counts = c.split-share.ensures.counts in
    let job : Job g.row.L.Denot = record { number = c.loop-made.made + 1; share = c.split-share.result } in
    let items : c.push.new.self.items ≡ c.loop-made.jobs.items ++ job ∷ [] = search rules in
    record {
      left = omega (arith, parts.1, inv.left);
      none = counts.1 ∙ inv.none;
      count = omega (arith, ap length items, length-append c.loop-made.jobs.items (job ∷ []), inv.count);
      each = rw items (each-push (λ n j. (j.number ≡ n) × (j.share.parts ≡ 1) × (j.share.count ≡ 0)) 1 c.loop-made.jobs.items job inv.each (omega (arith, inv.count), parts.0, counts.0));
    }
