use Rattle.amqp_controller_transactions.proofs.Freeing.{same_names-freed}
use Rattle.amqp_controller_transactions.proofs.builder.ControllerBuilder.attach.Goals as goal

-- the link was placed and freed again
pub returns-in-Err-clause-names : goal.returns-in-Err-clause-names
returns-in-Err-clause-names g c =
    same_names-freed _ _ _ _ _ _ c.in_ok-output.ensures.names c.in-Err.ensures.leaves.names
    c.deallocate_link.ensures.names
