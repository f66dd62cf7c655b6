use Rattle.amqp_resource_session.proofs.runs.drive.Given as goal

abbrev pub ghosts-drive_blank : goal.ghosts-drive_blank
ghosts-drive_blank g a = record { name = a.blank.name; parts = a.blank.parts }
