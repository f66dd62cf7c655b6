use Rattle.amqp_resource_record.proofs.answers.after_echo.Goals as goal

pub returns-in-Some : goal.returns-in-Some
returns-in-Some c = rw c.in-Some.ensures c.after_echo_of.ensures
