use Rattle.std.proofs.Common.{rules}
use Rattle.txn_mailbox_serving.proofs.Running.{none_of, so_far-more, so_far-still, so_far-stop}
use Rattle.txn_mailbox_serving.proofs.server.Server.serve.Goals as goal

pub returns-then-is_some-clause-served : goal.returns-then-is_some-clause-served
returns-then-is_some-clause-served g c = λ old source marks steps h. so_far-still old source marks steps c.args.self.now c.args.mark c.args.step (search rules) h

pub returns-in-Ok-clause-served : goal.returns-in-Ok-clause-served
returns-in-Ok-clause-served g c = λ old source marks steps h.
    so_far-more old source marks steps c.args.self.now _ c.args.mark c.args.step c.in-Ok.drawn c.in-Ok.reply (search (none_of, rules)) (search (none_of, rules)) c.push_reserved.ensures.items c.push_reserved-in-Ok.ensures.items c.in-Ok.ensures h

pub returns-in-Err-clause-served : goal.returns-in-Err-clause-served
returns-in-Err-clause-served g c = λ old source marks steps h.
    so_far-stop old source marks steps c.args.self.now _ c.args.mark c.args.step c.in-Err.error (search (none_of, rules)) (search rules) (search rules) (search rules) c.in-Err.ensures h
