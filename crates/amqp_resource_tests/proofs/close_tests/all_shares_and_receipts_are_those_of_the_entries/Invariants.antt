use Rattle.amqp_resource_tests.proofs.close_tests.all_shares_and_receipts_are_those_of_the_entries.Given as goal

abbrev pub ghosts-closes_whole : goal.ghosts-closes_whole
ghosts-closes_whole g a = record { name = a.blank.name; parts = a.blank.parts }
