use Rattle.amqp_resource_session.proofs.transactional_calls.TxnSessionHandleDischarge.rollback_transaction.Given as goal

abbrev pub ghosts-roll_back_kept : goal.ghosts-roll_back_kept
ghosts-roll_back_kept g a = record { name = a.blank.name; parts = a.blank.parts }
