use Rattle.amqp_resource_tests.proofs.close_tests.a_share_left_out_is_missing.Given as goal

abbrev pub ghosts-leaves_a_share_out : goal.ghosts-leaves_a_share_out
ghosts-leaves_a_share_out g a = record { name = a.blank.name; parts = a.blank.parts }
