-- What the calls of a broker answer and leave.
use Rattle.std.specs.Prelude.{ℕ, ◌≡◌, ◌≤◌, ◌+◌, ◌⊎◌, ◌++◌, Bool, true, false, cond, Option, Some, None, Result, Ok, Err, List, [], ◌∷◌, count_by, length, map, slice_get}
use Rattle.std.specs.List.{list_all}
use Rattle.std.specs.Option.{option_map}
use Rattle.amqp_txn_types.specs.declared.items.NoMemory.{NoMemory}
use Rattle.amqp_txn_types.specs.declared.performatives.Frame.{Frame}
use Rattle.amqp_txn_types.specs.declared.performatives.Frame.TheVariants as frames
use Rattle.amqp_txn_types.specs.declared.performatives.Transfer.{Transfer}
use Rattle.amqp_txn_types.specs.Counts.{one_more}
use Rattle.amqp_txn_types.specs.Frames.{is_transfer}
use Rattle.amqp_below_layer.specs.Told.{Told, open_told}
use Rattle.amqp_below_layer.specs.declared.inner_error.SessionInnerError.{SessionInnerError}
use Rattle.amqp_below_layer.specs.declared.inner_error.SessionInnerError.TheVariants as faults
use Rattle.amqp_below_layer.specs.declared.verdict.Verdict.{Verdict}
use Rattle.amqp_below_layer.specs.declared.verdict.Verdict.TheVariants as verdicts
use Rattle.amqp_txn_types.specs.declared.small.Handle.{Handle}
use Rattle.txn_broker_queues.specs.declared.link.Link.{Link}
use Rattle.txn_broker_queues.specs.Queues.{Linked, link_after, messages}
use Rattle.txn_broker_queues.specs.Given.{answered, any_refused, given_back, refusal, transfer_refusal}
use Rattle.txn_broker_queues.specs.Keeping.{Keeps, Lines, queue_names}

-- a broker: the frames that it took, each with what it gave back, its counts, and how many more
-- frames and messages it takes without memory
pub record Board : Type 0 where
  pub journal : List (Frame × List Frame)
  pub refusals : ℕ
  pub vetoes : ℕ
  pub room : ℕ
  pub message_room : ℕ

-- what a broker tells: what it took, and how often it refused and vetoed
abbrev pub told_by : Board → Told
told_by board = record open_told {
  taken = Some board.journal;
  refusals = board.refusals;
  reviews = record { vetoes = board.vetoes; vetoed = None };
}

-- the frames of some pairs
abbrev pub frames_of : List (Frame × List Frame) → List Frame
frames_of pairs = map (λ (pair : Frame × List Frame). pair.0) pairs

-- the frames that were taken
abbrev pub taken_of : Board → List Frame
taken_of board = frames_of board.journal

-- what a broker keeps: its journal has for each frame what is given back for it, and its links,
-- names and messages are those of the frames
pub record Stands (journal : List (Frame × List Frame)) (link : Handle → Option Link)
    (lines : Lines) : Type 0 where
  pub answers : journal ≡ answered (frames_of journal)
  pub keeps : Keeps (frames_of journal) link lines

-- how much room for messages a frame needs
abbrev pub message_need : Frame → ℕ
message_need frame = cond (is_transfer frame) 1 0

-- room may lack for a frame: for a transfer that of the journal or of the messages, for a
-- disposition that of the journal
abbrev pub Lacks : Board → Frame → Type 0
Lacks board (frames.Transfer transfer payload) = (board.room ≡ 0) ⊎ (board.message_room ≡ 0)
Lacks board (frames.Disposition d) = board.room ≡ 0
Lacks board _ = Unit {0}

-- the counts are as they were
pub record SameCounts (old new : Board) : Type 0 where
  pub refusals : new.refusals ≡ old.refusals
  pub vetoes : new.vetoes ≡ old.vetoes

-- a refusal was counted
pub record CountsRefusal (old new : Board) : Type 0 where
  pub refusals : new.refusals ≡ one_more old.refusals
  pub vetoes : new.vetoes ≡ old.vetoes

-- a frame was taken
pub record Took (old new : Board) (frame : Frame) (given : List Frame) : Type 0 where
  pub unrefused : refusal (taken_of old) frame ≡ None
  pub given_is : given ≡ given_back (taken_of old) frame
  pub journal : new.journal ≡ old.journal ++ (frame, given) ∷ []
  pub counts : SameCounts old new
  pub room : old.room ≤ new.room + 1
  pub message_room : old.message_room ≤ new.message_room + message_need frame

-- a frame isn't taken, and nothing that was taken changed
pub record NotTook (old new : Board) (frame : Frame) (error : SessionInnerError) : Type 0 where
  pub journal : new.journal ≡ old.journal
  pub why : (refusal (taken_of old) frame ≡ Some error)
      ⊎ ((refusal (taken_of old) frame ≡ None) × (error ≡ faults.NoMemory) × Lacks old frame)

-- a frame is about to be taken: what is given back for it, twice, with room for it in the journal
pub record Answered (old new : Board) (frame : Frame) (given : List Frame × List Frame)
    : Type 0 where
  pub unrefused : refusal (taken_of old) frame ≡ None
  pub given_is : given.0 ≡ given_back (taken_of old) frame
  pub copy_is : given.1 ≡ given_back (taken_of old) frame
  pub journal : new.journal ≡ old.journal
  pub room : 1 ≤ new.room
  pub stays : old.room ≤ new.room
  pub message_room : old.message_room ≤ new.message_room

-- a transfer is about to be taken into a queue, with room for it
pub record Admitted (old new : Board) (transfer : Transfer) (queue : ℕ) : Type 0 where
  pub unrefused : transfer_refusal transfer (length (messages (taken_of old)))
      (link_after (taken_of old) transfer.handle.0) ≡ None
  pub named : option_map (λ (link : Linked). link.address)
      (link_after (taken_of old) transfer.handle.0) ≡ slice_get (queue_names (taken_of old)) queue
  pub journal : new.journal ≡ old.journal
  pub room : 1 ≤ new.room
  pub stays : old.room ≤ new.room
  pub message_room : 1 ≤ new.message_room
  pub messages_stay : old.message_room ≤ new.message_room

-- an incoming frame call
abbrev pub Takes : Board → Board → Frame → Result (List Frame) SessionInnerError → Type 0
Takes old new frame (Ok given) = Took old new frame given
Takes old new frame (Err error) = NotTook old new frame error × CountsRefusal old new

-- the frame is a transfer or a disposition
abbrev pub is_work : Frame → Bool
is_work (frames.Transfer transfer payload) = true
is_work (frames.Disposition d) = true
is_work _ = false

-- the broker takes these frames one after another
pub record TakesAll (board : Board) (list : List Frame) : Type 0 where
  pub work : list_all is_work list ≡ true
  pub unrefused : any_refused (taken_of board) list ≡ false
  pub room : length list ≤ board.room
  pub message_room : count_by is_transfer list ≤ board.message_room

-- the verdict on frames of which one would be refused, or none
abbrev pub verdict_of : Bool → Verdict
verdict_of refused = cond refused verdicts.Veto verdicts.Accept

-- a review that answers: a veto is counted
pub record Reviewed (old new : Board) (list : List Frame) (verdict : Verdict) : Type 0 where
  pub verdict_is : verdict ≡ verdict_of (any_refused (taken_of old) list)
  pub journal : new.journal ≡ old.journal
  pub refusals : new.refusals ≡ old.refusals
  pub vetoes : new.vetoes
      ≡ cond (any_refused (taken_of old) list) (one_more old.vetoes) old.vetoes

-- a review for which room lacks: none would be refused
pub record NotReviewed (old new : Board) (list : List Frame) : Type 0 where
  pub unrefused : any_refused (taken_of old) list ≡ false
  pub journal : new.journal ≡ old.journal
  pub counts : CountsRefusal old new

-- a review
abbrev pub ReviewGives : Board → Board → List Frame → Result Verdict NoMemory → Type 0
ReviewGives old new list (Ok verdict) = Reviewed old new list verdict
ReviewGives old new list (Err error) = NotReviewed old new list
