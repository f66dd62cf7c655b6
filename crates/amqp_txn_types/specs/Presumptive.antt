-- What work under a live transaction is answered at once: the presumptive disposition of a post.
-- Part 4 of the standard (OASIS AMQP 1.0), section 4.4 (Transactional Work).
use Rattle.std.specs.Prelude.{ℕ, Bool, true, false, Option, Some, None, List, [], ◌∷◌}
use Rattle.amqp_txn_types.specs.declared.id.TransactionId.{TransactionId}
use Rattle.amqp_txn_types.specs.declared.small.Role.TheVariants as roles
use Rattle.amqp_txn_types.specs.declared.delivery.Outcome.TheVariants as outcomes
use Rattle.amqp_txn_types.specs.declared.delivery.DeliveryState.TheVariants as states
use Rattle.amqp_txn_types.specs.declared.performatives.Disposition.{Disposition}
use Rattle.amqp_txn_types.specs.declared.performatives.Frame.{Frame}
use Rattle.amqp_txn_types.specs.declared.performatives.Frame.TheVariants as frames

-- the presumptive disposition of the post with this delivery id: the outcome that a commit
-- will give it (4.4.1, Transactional Posting)
abbrev pub presumptive : ℕ → TransactionId → Disposition
presumptive n t = record {
  role = roles.Receiver;
  first = n;
  last = None;
  settled = true;
  state = Some (states.TransactionalState (record {
    txn_id = t;
    outcome = Some outcomes.Accepted;
  }));
  batchable = false;
}

-- the presumptive disposition of a post, where it has a delivery id and isn't settled
abbrev pub presumed_disposition : Option Bool → Option ℕ → TransactionId → Option Disposition
presumed_disposition (Some true) number t = None
presumed_disposition settled None t = None
presumed_disposition settled (Some n) t = Some (presumptive n t)

-- a disposition as the one frame that tells it, or no frame
abbrev pub frames_telling : Option Disposition → List Frame
frames_telling None = []
frames_telling (Some disposition) = frames.Disposition disposition ∷ []

-- what a post under an id is answered at once
abbrev pub presumed : Option Bool → Option ℕ → TransactionId → List Frame
presumed settled number t = frames_telling (presumed_disposition settled number t)

-- what a frame under a live id is answered at once: the presumptive disposition for a post that
-- has one, nothing for a retirement (4.4.2, Transactional Retirement)
abbrev pub answered_under : TransactionId → Frame → List Frame
answered_under t (frames.Transfer transfer payload) =
    presumed transfer.settled transfer.delivery_id t
answered_under t _ = []
