use Rattle.std.proofs.Common.{◌≡◌, ◌<◌, ℕ, true, false, [], ◌∷◌, ◌++◌, length, drop, ap, sym, ◌∙◌, subst, refl, arith, length-append, vec_len, List, Some}
use Rattle.std.specs.Prelude.{slice_get}
use Rattle.std.proofs.lemmas.List.{map-append}
use Rattle.crossbeam_queue.specs.Passes.{view}
use Rattle.amqp_resource_record.specs.declared.step.Step.{Step}
use Rattle.txn_mailbox_queue.specs.declared.item.Item.{Item}
use Rattle.txn_mailbox_queue.specs.declared.item.View.{View}
use Rattle.txn_mailbox_queue.specs.Order.{count, took, view_of}
use Rattle.txn_mailbox_serving.specs.Steps.{list_of, senders_of}
use Rattle.txn_mailbox_serving.specs.Serving.{ServedSoFar, SoFar}
use Rattle.txn_mailbox_serving.proofs.Coming.{came-more, came-nil, drop-get, waits-more}
use Rattle.txn_mailbox_serving.proofs.Running.{so_far-nil}
use Rattle.txn_mailbox_serving.proofs.serving.serve_all.Goals as goal

pub loop-i-init : goal.loop-i-init
loop-i-init g c =
    let q = c.requires.queue in
    let b = c.requires.begins in
    let work = c.args.work in
    let got : (view c.args.seat).taken ≡ [] = ap (λ (w : View). w.taken) q.1 in
    let first_count : c.len.result ≡ vec_len work.copies.first = c.len.ensures in
    let second_count : c.len-2.result ≡ vec_len work.copies.second = c.len-2.ensures in
    let one = c.serve.ensures.served work.server.session work.server.ids [] []
    (so_far-nil {told = g.S.Tells.told} {next = g.G.IdSource.next} {starts = g.G.IdSource.start} g.S.LayerBelow.sure work.server b.fresh b.runs b.entries b.marks) in
    let two = c.serve-2.ensures.served work.server.session work.server.ids (2 ∷ []) (work.first_attach ∷ []) one in
    record {
      queue = q.0;
      seen = q.1 ∙ sym (ap (λ l. view_of false false true 0 0 l) got);
      many = ap length got;
      first = refl;
      second = refl;
      waits = λ k low. refl;
      stands = c.serve-2.ensures.stands;
      entries = omega (arith, c.serve.ensures.entries, c.serve-2.ensures.entries, ap length b.entries);
      marks = omega (arith, c.serve.ensures.marks, c.serve-2.ensures.marks, ap length b.marks);
      entries_room = omega (arith, first_count, second_count, work.copies.first.ok.0, work.copies.second.ok.0, b.first_list, b.second_list, b.entries_room, c.serve.ensures.entries_room, c.serve-2.ensures.entries_room);
      marks_room = omega (arith, first_count, second_count, work.copies.first.ok.0, work.copies.second.ok.0, b.first_list, b.second_list, b.marks_room, c.serve.ensures.marks_room, c.serve-2.ensures.marks_room);
      served =
          subst
          (λ (taken : List Item). ServedSoFar g.S.Tells.told g.S.LayerBelow.sure g.G.IdSource.next g.G.IdSource.start work.server.session work.server.ids work.copies.first.items work.copies.second.items work.first_attach work.second_attach taken c.serve-2.new.self)
          (sym got)
          (record { steps = []; came = came-nil work.copies.first.items work.copies.second.items; served = two });
    }

pub loop-i-preserved : goal.loop-i-preserved
loop-i-preserved g c =
    let i = c.loop-i.invariant in
    let work = c.args.work in
    let first : List Step = work.copies.first.items in
    let second : List Step = work.copies.second.items in
    let now : ℕ → List Step = list_of c.loop-i.copies.first.items c.loop-i.copies.second.items in
    let left : ℕ → List Step = list_of c.take_out-step.new.self.first.items c.take_out-step.new.self.second.items in
    let v : View = view c.loop-i.seat in
    let x : Item = c.take-item.result in
    let step : Step = c.take_out-step.result in
    let t : view c.take-item.new.pass ≡ took v x = c.take-item.ensures.took in
    let got : (view c.take-item.new.pass).taken ≡ v.taken ++ x ∷ [] = ap (λ (w : View). w.taken) t in
    let at : x.place ≡ count x.sender v.taken = c.take-item.ensures.place in
    let low : x.sender < 2 = c.take-item.ensures.sender in
    let same : slice_get (now x.sender) (count x.sender v.taken) ≡ slice_get (list_of first second x.sender) (count x.sender v.taken) =
    drop-get (now x.sender) (list_of first second x.sender) (count x.sender v.taken) (i.waits x.sender low) in
    let is : slice_get (list_of first second x.sender) x.place ≡ Some step =
    ap (slice_get (list_of first second x.sender)) at ∙ sym same ∙ ap (slice_get (now x.sender)) (sym at) ∙ c.take_out-step.ensures.step in
    let came = came-more first second v.taken i.served.steps x step i.served.came low at is in
    let senders : senders_of (v.taken ++ x ∷ []) ≡ senders_of v.taken ++ x.sender ∷ [] = map-append (λ (y : Item). y.sender) v.taken (x ∷ []) in
    let more = c.serve-in-loop-i.ensures.served work.server.session work.server.ids (2 ∷ 2 ∷ senders_of v.taken) (work.first_attach ∷ work.second_attach ∷ i.served.steps) i.served.served in
    let served =
    subst
    (λ (l : List ℕ). SoFar g.S.Tells.told g.S.LayerBelow.sure g.G.IdSource.next g.G.IdSource.start work.server.session work.server.ids (2 ∷ 2 ∷ l) (work.first_attach ∷ work.second_attach ∷ (i.served.steps ++ step ∷ [])) c.serve-in-loop-i.new.self)
    (sym senders) more in
    record {
      queue = c.take-item.ensures.queue;
      seen = t ∙ ap (λ (w : View). took w x) i.seen ∙ sym (ap (λ l. view_of false false true 0 0 l) got);
      many = omega (arith, ap length got, length-append v.taken (x ∷ []), i.many);
      first = c.take_out-step.ensures.first ∙ i.first;
      second = c.take_out-step.ensures.second ∙ i.second;
      waits =
          λ k small. subst (λ (taken : List Item). drop (count k taken) (left k) ≡ drop (count k taken) (list_of first second k)) (sym got)
          (waits-more k v.taken x (now k) (list_of first second k) (left k) at (i.waits k small) (λ n may. c.take_out-step.ensures.left k n small may));
      stands = c.serve-in-loop-i.ensures.stands;
      entries = omega (arith, c.serve-in-loop-i.ensures.entries, i.entries);
      marks = omega (arith, c.serve-in-loop-i.ensures.marks, i.marks);
      entries_room = omega (arith, i.entries_room, c.serve-in-loop-i.ensures.entries_room);
      marks_room = omega (arith, i.marks_room, c.serve-in-loop-i.ensures.marks_room);
      served =
          subst
          (λ (taken : List Item). ServedSoFar g.S.Tells.told g.S.LayerBelow.sure g.G.IdSource.next g.G.IdSource.start work.server.session work.server.ids first second work.first_attach work.second_attach taken c.serve-in-loop-i.new.self)
          (sym got)
          (record { steps = i.served.steps ++ step ∷ []; came = came; served = served });
    }
