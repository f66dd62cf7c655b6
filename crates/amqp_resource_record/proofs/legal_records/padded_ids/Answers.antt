use Rattle.std.proofs.Common.{◌∙◌, ◌<◌, arith, length, length-set}
use Rattle.amqp_resource_record.proofs.Prefixes.{written-more}
use Rattle.amqp_resource_record.proofs.legal_records.padded_ids.Goals as goal

pub loop-place-preserved : goal.loop-place-preserved
loop-place-preserved c =
    let here : c.loop-place.place < length c.args.drawn.now.ids = omega (arith, c.len-place-end.ensures) in
    let within : c.loop-place.place < length c.loop-place.ids = omega (arith, c.loop-place.invariant.long) in record {
      same = written-more c.loop-place.ids c.args.drawn.now.ids c.loop-place.place c.in-Some.id.now within here c.in-Some.ensures c.loop-place.invariant.same;
      long = length-set c.loop-place.ids c.loop-place.place c.in-Some.id.now ∙ c.loop-place.invariant.long;
    }
