use Rattle.std.proofs.Common.{rules, ◌≡◌, ◌<◌, ℕ, length, slice_index_or, subst}
use Rattle.txn_program_threads.specs.Gathered.{IsWorkOf}
use Rattle.txn_program_threads.proofs.Each.{each-at, each-from}
use Rattle.txn_program_threads.proofs.starting.run_jobs.Goals as goal

-- each job has a share with one part
pub map_vec-requires-after_bounds : goal.map_vec-requires-after_bounds
map_vec-requires-after_bounds g c κs within = λ i x low at.
    let is = each-at (λ n j. (j.number ≡ n) × (j.share.parts ≡ 1) × (j.share.count ≡ 0)) 1 c.args.jobs.items i x c.requires.each low at in
    (c.requires.rounds, is.1, is.2)

-- what comes of each is its worker's
pub returns-in-Ok-clause-each : goal.returns-in-Ok-clause-each
returns-in-Ok-clause-each g c =
    each-from (λ n w. IsWorkOf n w.number c.args.place.now.rounds w.share.parts w.share.count w.receipts.items w.done) 1 c.in-Ok.works.items
    (λ i d low.
    let few : i < length c.args.jobs.items = search rules in
    let given = (c.in-Ok.ensures.each i d few).1 in
    let number = each-at (λ n j. (j.number ≡ n) × (j.share.parts ≡ 1) × (j.share.count ≡ 0)) 1 c.args.jobs.items i given.job c.requires.each few given.job_read in
    let called = given.call in
    let w = slice_index_or c.in-Ok.works.items i d in
    let says : IsWorkOf given.job.number w.number c.args.place.now.rounds w.share.parts w.share.count w.receipts.items w.done = called.met in
    let P : ℕ → Type 0 = λ n. IsWorkOf n w.number c.args.place.now.rounds w.share.parts w.share.count w.receipts.items w.done in
    subst P number.0 says)
