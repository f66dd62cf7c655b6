use Rattle.amqp_resource_session.proofs.transactional_calls.TxnSessionHandleDischarge.commit_transaction.Given as goal

abbrev pub ghosts-commit_kept : goal.ghosts-commit_kept
ghosts-commit_kept g a = record { name = a.blank.name; parts = a.blank.parts }
