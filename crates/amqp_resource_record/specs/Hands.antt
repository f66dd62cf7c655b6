-- What a step hands to the layer below: a plain frame itself, at once; a commit the frames of its
-- transaction; everything else nothing.
use Rattle.std.specs.Prelude.{ℕ, Bool, true, false, cond, not, ◌&&◌, Option, Some, None, List, [], ◌∷◌, ◌++◌, length, map, slice_get}
use Rattle.std.specs.List.{flat_map}
use Rattle.amqp_txn_codec.specs.Discharges.{is_rollback}
use Rattle.amqp_txn_types.specs.declared.id.TransactionId.{TransactionId}
use Rattle.amqp_txn_types.specs.declared.performatives.Frame.{Frame}
use Rattle.amqp_txn_types.specs.Frames.{is_plain_frame, stripped}
use Rattle.amqp_txn_codec.specs.declared.message.ControlMessageBody.{ControlMessageBody}
use Rattle.amqp_txn_codec.specs.declared.message.ControlMessageBody.TheVariants as messages
use Rattle.amqp_txn_codec.specs.Reading.{message_of}
use Rattle.amqp_resource_record.specs.declared.step.Step.{Step}
use Rattle.amqp_resource_record.specs.declared.step.Step.TheVariants as steps
use Rattle.amqp_resource_record.specs.declared.entry.Entry.{Entry}
use Rattle.amqp_resource_record.specs.Entries.{steps_of, is_under}
use Rattle.amqp_resource_record.specs.Links.{is_open}
use Rattle.amqp_resource_record.specs.Live.{is_held_on, frame_places}

-- the frame of the step, where there is a step and it is a frame
abbrev pub frame_of_step : Option Step → List Frame
frame_of_step (Some (steps.Frame frame)) = frame ∷ []
frame_of_step _ = []

-- the frames among the steps at these places, in order
abbrev pub frames_at : List Step → List ℕ → List Frame
frames_at all places = flat_map (λ i. frame_of_step (slice_get all i)) places

-- the frames of a transaction since its last declare, as they came
abbrev pub frames_of : List Entry → TransactionId → List Frame
frames_of entries id = frames_at (steps_of entries) (frame_places entries id)

-- the frame of the entry, where it is under the id
abbrev pub own_frame : TransactionId → Entry → List Frame
own_frame id entry = cond (is_under id entry) (frame_of_step (Some entry.step)) []

-- the frames under the id among these entries, in order
abbrev pub frames_under : TransactionId → List Entry → List Frame
frames_under id [] = []
frames_under id (entry ∷ entries) = own_frame id entry ++ frames_under id entries

-- the id that a message on an open link commits: a discharge of an id that is live with this home
abbrev pub commits_message : List Entry → ℕ → Option ControlMessageBody → Option TransactionId
commits_message entries link (Some (messages.Discharge discharge)) =
    cond (not (is_rollback discharge.fail) && is_held_on entries link discharge.txn_id)
    (Some discharge.txn_id) None
commits_message entries link _ = None

-- nothing on a link that is not open
abbrev pub if_open : Bool → Option TransactionId → Option TransactionId
if_open true committed = committed
if_open false committed = None

-- commits: the id that a step commits, if any (4.3, Discharging a Transaction)
abbrev pub commits : List Entry → Step → Option TransactionId
commits entries (steps.Control link payload) =
    if_open (is_open entries link) (commits_message entries link (message_of payload))
commits entries _ = None

-- the places of the frames of the committed id, if there is one
abbrev pub sources_of : List Entry → Option TransactionId → List ℕ
sources_of entries None = []
sources_of entries (Some id) = frame_places entries id

-- sources: the places of the frames that a step hands, among the record followed by the step: its
-- own place for a plain frame, those of the transaction for a commit (4.4, Transactional Work)
abbrev pub sources : List Entry → Step → List ℕ
sources entries (steps.Frame frame) = cond (is_plain_frame frame) (length entries ∷ []) []
sources entries (steps.Control link payload) =
    sources_of entries (commits entries (steps.Control link payload))
sources entries _ = []

-- hands: the frames that a step hands where it isn't vetoed, in order, each stripped of its
-- transactional state (4.4.1, Transactional Posting; 4.4.2, Transactional Retirement)
abbrev pub hands : List Entry → Step → List Frame
hands entries step = map stripped (frames_at (steps_of entries ++ step ∷ []) (sources entries step))
