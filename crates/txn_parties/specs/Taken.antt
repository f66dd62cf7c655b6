-- What the layer below took, by the places that were drawn on.
use Rattle.std.specs.Prelude.{◌≡◌, Option, List, ◌++◌, ℕ, map}
use Rattle.amqp_txn_types.specs.declared.performatives.Frame.{Frame}
use Rattle.amqp_txn_types.specs.Frames.{stripped}
use Rattle.amqp_below_layer.specs.OneFrame.{TookFrames}
use Rattle.amqp_resource_record.specs.declared.step.Step.{Step}
use Rattle.amqp_resource_record.specs.Entries.{steps_of}
use Rattle.amqp_resource_record.specs.Hands.{frames_at}
use Rattle.txn_parties.specs.Items.{step_of}
use Rattle.txn_parties.specs.Exchange.{Exchange, forward}
use Rattle.txn_parties.specs.Spans.{drawn_on}

-- the steps of the attaches, and of all items that were put
abbrev pub all_steps : Exchange → List Step
all_steps exchange = steps_of exchange.first ++ map step_of (forward exchange)

-- the frames at these places, each stripped of its transaction (4.4.1, Transactional Posting;
-- 4.4.2, Transactional Retirement)
abbrev pub frames_drawn : Exchange → List ℕ → List Frame
frames_drawn exchange places = map stripped (frames_at (all_steps exchange) places)

-- since the two parties began, the layer below took the frames at the places that were drawn on;
-- before that it had taken what it may
abbrev pub TookSince : Option (List (Frame × List Frame)) → Exchange
    → Option (List (Frame × List Frame)) → Type 0
TookSince old_taken exchange new_taken =
    TookFrames old_taken new_taken (frames_drawn exchange (drawn_on exchange))

-- from one moment to a later one, it took the frames at the places that were drawn on anew
abbrev pub Grew : Exchange → Exchange → Option (List (Frame × List Frame))
    → Option (List (Frame × List Frame)) → Type 0
Grew old new old_taken new_taken =
    (more : List ℕ) × (drawn_on new ≡ drawn_on old ++ more)
    × TookFrames old_taken new_taken (frames_drawn new more)
