use Rattle.std.proofs.Common.{◌+◌, subst, arith}
use Rattle.amqp_below_streams.specs.Streams.{WriteGave}
use Rattle.txn_program_edges.proofs.Streaming.{longer-front, longer_within, rest_fits, rest-rest}
use Rattle.txn_program_edges.proofs.output.write_all.Goals as goal

-- what the write appended, where it was Ok
pub loop-rest-preserved : goal.loop-rest-preserved
loop-rest-preserved g c =
    let before = c.loop-rest.invariant in
    let count = c.in_ok-count.count in
    let appends =
    subst (λ r. WriteGave (g.O.ByteSink.written c.loop-rest.output) (g.O.ByteSink.written c.write.new.self)
    (g.O.ByteSink.spare c.loop-rest.output) (g.O.ByteSink.spare c.write.new.self) c.loop-rest.rest.now r)
    c.in_ok-count.was c.write.ensures.gave in
    let rest_is = rest-rest c.args.text.now c.loop-rest.rest.now before.count count before.left in
    record {
      count = before.count + count;
      left = rest_is;
      within = longer_within c.args.text.now c.loop-rest.rest.now before.count count before.left before.within appends.within;
      written = longer-front _ _ _ c.args.text.now c.loop-rest.rest.now before.count count before.left before.written appends.written;
      room = rest_fits c.args.text.now c.loop-rest.rest.now before.count count _ _ before.left before.room appends.room;
      later = omega (arith, before.later, c.write.ensures.later);
    }
