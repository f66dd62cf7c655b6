use Rattle.amqp_resource_tests.proofs.live_work_tests.dropped_id_leaves_the_other.Given as goal

abbrev pub ghosts-drops : goal.ghosts-drops
ghosts-drops g a = record { name = a.blank.name; parts = a.blank.parts }
