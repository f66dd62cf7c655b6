use Rattle.amqp_resource_session.proofs.session.TxnSession.pending.Given as goal

abbrev pub ghosts-copy_kept : goal.ghosts-copy_kept
ghosts-copy_kept g a = record { name = a.blank.name; parts = a.blank.parts }
