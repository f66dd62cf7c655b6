-- The calls of a session that the layer below answers.
use Rattle.std.specs.Prelude.{◌≡◌, Result}
use Rattle.amqp_resource_session.specs.declared.session.TxnSession.{TxnSession}
use Rattle.amqp_txn_types.specs.Counts.{counted}
use Rattle.amqp_resource_session.specs.Session.{below_of, held_of, refusals_of, stop_of, vetoes_of}

-- a call that the layer below answers, by what that told and gave: what the session keeps and its
-- stop are as they were, and an Err is counted
pub record Passes {S T E : Type 0} (Tells Gives : S → S → Type 0) (old new : TxnSession S)
    (result : Result T E) : Type 0 where
  pub tells : Tells (below_of old) (below_of new)
  pub gave : Gives (below_of old) (below_of new)
  pub held : held_of new ≡ held_of old
  pub stop : stop_of new ≡ stop_of old
  pub counts : refusals_of new ≡ counted result (refusals_of old)
  pub vetoes : vetoes_of new ≡ vetoes_of old

-- the same of a call that refuses nothing
pub record PassesOn {S : Type 0} (Tells Gives : S → S → Type 0) (old new : TxnSession S)
    : Type 0 where
  pub tells : Tells (below_of old) (below_of new)
  pub gave : Gives (below_of old) (below_of new)
  pub held : held_of new ≡ held_of old
  pub stop : stop_of new ≡ stop_of old
  pub own : refusals_of new ≡ refusals_of old
  pub vetoes : vetoes_of new ≡ vetoes_of old
