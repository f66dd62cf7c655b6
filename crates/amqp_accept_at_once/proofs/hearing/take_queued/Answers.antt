use Rattle.std.proofs.Common.{rules, refl, ap, Ok, Err}
use Rattle.amqp_accept_listener.specs.Listening.{queue_of}
use Rattle.amqp_accept_at_once.proofs.Newest.{takes-queued, unwaited}
use Rattle.amqp_accept_at_once.proofs.hearing.take_queued.Goals as goal

-- the listener refuses it
pub returns-in_err-given-clause-takes : goal.returns-in_err-given-clause-takes
returns-in_err-given-clause-takes g c =
    record {
      heard = c.on_incoming_attach.new.self;
      answer = Err c.in_err-given.field-0.0;
      took = record { takes = c.in_err-given.ensures.told; gave = c.in_err-given.ensures.gives };
      out = (refl, search rules);
    }

-- it was queued as the last one, and is taken back
pub returns-clause-takes : goal.returns-clause-takes
returns-clause-takes g c =
    let heard = c.on_incoming_attach.new.self in
    let queued = unwaited _ _ _ _ _ _ _ _ c.requires c.in_ok-given.ensures.gives.hears.0 in
    let back = takes-queued (queue_of c.args.listener.now) (queue_of heard) (queue_of c.take_newest_attach.new.self)
    c.args.attach c.in-Some.attach queued.1.2 c.in-Some.ensures.newest in
    let rest = c.in-Some.ensures.rest in
    record {
      heard = heard;
      answer = Ok c.in_ok-given.given;
      took = record { takes = c.in_ok-given.ensures.told; gave = c.in_ok-given.ensures.gives };
      out = (
        record {
          inner = rest.inner;
          queue_is = back.0;
          held = rest.held;
          control = rest.control;
          own = rest.own;
        },
        ap Ok back.1,
      );
    }
