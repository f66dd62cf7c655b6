use Rattle.amqp_resource_tests.proofs.live_work_tests.taken_work_is_in_order_and_stripped.Given as goal

abbrev pub ghosts-takes : goal.ghosts-takes
ghosts-takes g a = record { name = a.blank.name; parts = a.blank.parts }
