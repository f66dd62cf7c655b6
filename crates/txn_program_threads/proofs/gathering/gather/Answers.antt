use Rattle.std.proofs.Common.{rules, ◌≡◌, ◌+◌, ◌-◌, ◌≤◌, ℕ, [], ◌∷◌, ◌++◌, length, ◌∙◌, ap, arith, subst, length-append}
use Rattle.std.proofs.lemmas.List.Sums.{sum_by_push}
use Rattle.txn_program_threads.specs.Gathered.{IsGathered, IsWorkOf}
use Rattle.txn_program_threads.specs.Works.{IsWork}
use Rattle.txn_program_threads.proofs.Each.{each-pop}
use Rattle.txn_program_threads.proofs.Joining.{AttachOnce, attach-once-more, gathered-more}
use Rattle.txn_program_threads.proofs.gathering.gather.Goals as goal

pub loop-work-preserved : goal.loop-work-preserved
loop-work-preserved g c =
    let w = c.in-Some.work in
    let inv = c.loop-work.invariant in
    let front = c.pop.new.self.items in
    let all = c.args.workers in
    let rounds = c.args.rounds in
    let items = c.in-Some.ensures.items in
    let popped = each-pop (λ n x. IsWorkOf n x.number rounds x.share.parts x.share.count x.receipts.items x.done) 1 front w (rw items at inv.each) in
    let last = popped.1.work in
    let left : length c.loop-work.works.items ≡ length front + 1 = ap length items ∙ length-append front (w ∷ []) in
    let low : length front + 1 ≤ all = omega (arith, inv.some, left) in
    let P : ℕ → Type 0 = λ n. IsWork n rounds w.share.parts w.share.count w.receipts.items w.done in
    let work : IsWork (length front + 1) rounds w.share.parts w.share.count w.receipts.items w.done = subst P (omega arith) last in
    let shares-is : c.push-in-Some.new.self.items ≡ c.loop-work.shares.items ++ w.share ∷ [] = search rules in
    let told-is : c.append.new.self.items ≡ c.loop-work.receipts.items ++ w.receipts.items = search rules in
    let two = c.both-done.ensures in
    let more = gathered-more all rounds (all - length c.loop-work.works.items) (length front + 1) w.share.parts w.share.count c.loop-work.receipts.items w.receipts.items c.loop-work.done w.done c.both-done.result inv.gathered (omega arith) low work two in
    let Q : ℕ → Type 0 = λ m. IsGathered all rounds m (c.loop-work.receipts.items ++ w.receipts.items) c.both-done.result in
    let R : ℕ → Type 0 = λ m. AttachOnce m c.loop-work.receipts.items in
    record {
      some = omega (arith, low);
      parts = rw shares-is (omega (arith, sum_by_push (λ s. s.parts) c.loop-work.shares.items w.share, work.parts, inv.parts, left));
      counts = rw (shares-is, told-is) (omega (arith, sum_by_push (λ s. s.count) c.loop-work.shares.items w.share, work.count, inv.counts, length-append c.loop-work.receipts.items w.receipts.items));
      gathered = rw told-is (subst Q (omega (arith, low, left)) more);
      each = popped.0;
      once = rw told-is (attach-once-more (length front) rounds w.share.parts w.share.count c.loop-work.receipts.items w.receipts.items w.done (subst R left inv.once) work);
    }
