use Rattle.amqp_resource_tests.proofs.close_tests.a_receipt_of_another_step_differs.Given as goal

abbrev pub ghosts-told_elsewhere : goal.ghosts-told_elsewhere
ghosts-told_elsewhere g a = record { name = a.blank.name; parts = a.blank.parts }

abbrev pub ghosts-why_with : goal.ghosts-why_with
ghosts-why_with g a = record { name = a.blank.name; parts = a.blank.parts }
