use Rattle.std.proofs.Common.{rules}
use Rattle.amqp_accept_links.proofs.Opened.{placed-freed}
use Rattle.amqp_accept_links.proofs.open_link.Opening.open.Goals as goal

-- the session refused the flow: the output handle that it had allocated is freed
pub returns-in_err-frames-clause-names : goal.returns-in_err-frames-clause-names
returns-in_err-frames-clause-names g c =
    let freed = placed-freed _ _ _ _ _ _ c.in_ok-output.ensures.names c.in_err-frames.ensures.names in
    search (rules, freed)
