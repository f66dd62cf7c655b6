-- What a queue with a greatest length takes: the example of a layer below.
use Rattle.std.specs.Prelude.{ℕ, ◌≡◌, ◌≤◌, ◌+◌, None, List, [], ◌∷◌, ◌++◌, length, count_by, Result, Ok, Err}
use Rattle.amqp_txn_types.specs.Counts.{one_more}
use Rattle.amqp_txn_types.specs.Frames.{is_transfer}
use Rattle.amqp_txn_types.specs.declared.items.NoMemory.{NoMemory}
use Rattle.amqp_txn_types.specs.declared.payload.Payload.{Payload}
use Rattle.amqp_txn_types.specs.declared.performatives.Frame.{Frame}
use Rattle.amqp_txn_types.specs.declared.performatives.Frame.TheVariants as frames
use Rattle.amqp_below_layer.specs.declared.inner_error.SessionInnerError.{SessionInnerError}
use Rattle.amqp_below_layer.specs.declared.inner_error.SessionInnerError.TheVariants as faults
use Rattle.amqp_below_layer.specs.declared.verdict.Verdict.{Verdict}
use Rattle.amqp_below_layer.specs.declared.verdict.Verdict.TheVariants as verdicts
use Rattle.amqp_below_layer.specs.Told.{Told, open_told}

-- a queue, as contracts see it
pub record Bounded : Type 0 where
  pub messages : List Payload
  pub limit : ℕ
  pub refusals : ℕ
  pub vetoes : ℕ

-- what a layer over it tells: its counts, and no list
abbrev pub told_of : Bounded → Told
told_of queue = record open_told {
  refusals = queue.refusals;
  reviews = record { vetoes = queue.vetoes; vetoed = None };
}

-- the message of a frame: the payload of a transfer
abbrev pub message_of : Frame → List Payload
message_of (frames.Transfer transfer payload) = payload ∷ []
message_of frame = []

-- there is room for the messages of these frames
abbrev pub HasRoom : Bounded → List Frame → Type 0
HasRoom queue list = length queue.messages + count_by is_transfer list ≤ queue.limit

-- a queue that is full, or finds no memory for a message, refuses it
abbrev pub Refuses : Bounded → Bounded → SessionInnerError → Type 0
Refuses old new faults.IllegalState =
    (old.limit ≤ length old.messages) × (new ≡ record old { refusals = one_more old.refusals })
Refuses old new faults.NoMemory = new ≡ record old { refusals = one_more old.refusals }
Refuses old new _ = ⊥

-- a frame comes: the message of a transfer goes to the end, every other frame passes
abbrev pub Queues : Bounded → Bounded → Frame → Result (List Frame) SessionInnerError → Type 0
Queues old new frame (Ok given) =
    (given ≡ []) × (new ≡ record old { messages = old.messages ++ message_of frame })
Queues old new (frames.Transfer transfer payload) (Err error) = Refuses old new error
Queues old new _ (Err error) = ⊥

-- some frames are reviewed: vetoed exactly where their messages don't fit
abbrev pub ReviewsRoom : Bounded → Bounded → List Frame → Result Verdict NoMemory → Type 0
ReviewsRoom old new list (Ok verdicts.Accept) = HasRoom old list × (new ≡ old)
ReviewsRoom old new list (Ok verdicts.Veto) =
    (HasRoom old list → ⊥) × (new ≡ record old { vetoes = one_more old.vetoes })
ReviewsRoom old new list (Err error) = ⊥
