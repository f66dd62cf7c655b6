use Rattle.std.proofs.Common.{◌∙◌, ap, is_some, rules}
use Rattle.amqp_below_sessions.specs.Agreement.{input_in, name_in}
use Rattle.amqp_below_sessions.specs.Plain.{input_of}
use Rattle.amqp_below_sessions.proofs.link_frames.detach_mapped.Goals as goal

pub returns-clause-ok : goal.returns-clause-ok
returns-clause-ok c =
    let found = c.in-Some.ensures.found in
    rw found.found_at (record {
      freed = c.free.ensures.freed;
      unnamed = rw found.link_is (c.free.ensures.unnamed c.in-Some.field-0-1.now.name (ap name_in found.link_is));
      unmapped = c.free.ensures.unmapped (input_of c.args.detach.now.handle) (ap input_in found.link_is ∙ c.in-Some.ensures.input);
      next = rw (c.free.ensures.found ∙ ap is_some found.link_is) at c.free.ensures.next;
      given_is = search rules;
    })
