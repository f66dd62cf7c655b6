-- What a broker keeps of the frames that it took.
use Rattle.std.specs.Prelude.{ℕ, ◌≡◌, ◌≤◌, ◌<◌, ◌+◌, ◌||◌, Bool, false, not, cond, Option, Some, None, Result, Ok, Err, List, is_some, [], ◌∷◌, length, map, nat_eq, position, slice_get}
use Rattle.std.specs.List.{enumerate_from, filter_map}
use Rattle.std.specs.Option.{option_map}
use Rattle.std.specs.Ordering.{nat_cmp}
use Rattle.std.specs.Cmp.Lexicographic.{pointwise}
use Rattle.std.specs.declared.cmp.Ordering.{Ordering}
use Rattle.indexmap.specs.IndexSet.{insert_all}
use Rattle.amqp_txn_types.specs.declared.performatives.Frame.{Frame}
use Rattle.amqp_txn_types.specs.declared.performatives.Frame.TheVariants as frames
use Rattle.amqp_below_layer.specs.declared.inner_error.SessionInnerError.{SessionInnerError}
use Rattle.amqp_txn_types.specs.declared.performatives.Transfer.{Transfer}
use Rattle.amqp_txn_types.specs.declared.small.Handle.{Handle}
use Rattle.txn_broker_table.specs.declared.mark.Mark.{Mark}
use Rattle.txn_broker_table.specs.Marks.{gone}
use Rattle.txn_broker_queues.specs.declared.link.Link.{Link}
use Rattle.txn_broker_queues.specs.declared.message.Message.{Message}
use Rattle.txn_broker_queues.specs.Given.{max_messages, transfer_refusal}
use Rattle.txn_broker_queues.specs.Queues.{Linked, Sent, address_of, is_gone, link_after, messages, removes}

-- the queues: their names, by first attach, what is kept of each message, and how many more
-- messages fit without taking memory
pub record Lines : Type 0 where
  pub names : List (List ℕ)
  pub marks : List Mark
  pub room : ℕ

-- the number that is kept for each name is its place among the names
abbrev pub AreNumbered : List (List ℕ) → (List ℕ → Option ℕ) → Type 0
AreNumbered names number =
    (name : List ℕ) → number name ≡ position (pointwise nat_eq name) names

-- the address of an attach
abbrev pub attached_address : Frame → Option (List ℕ)
attached_address (frames.Attach attach) = address_of attach
attached_address _ = None

-- the names of the queues of some frames, by first attach
abbrev pub queue_names : List Frame → List (List ℕ)
queue_names taken = insert_all (pointwise nat_eq) [] (filter_map attached_address taken)

-- a link with the name of its queue
abbrev pub named_link : List (List ℕ) → Option Link → Option Linked
named_link names None = None
named_link names (Some link) =
    option_map (λ name. record { address = name; peer = link.peer }) (slice_get names link.queue)

-- a link by its peer's end alone, as refusals see it
abbrev pub peer_link : Option Link → Option Linked
peer_link link = option_map (λ (l : Link). record { address = []; peer = l.peer }) link

-- a message with the name of its queue
pub record Mail : Type 0 where
  pub place : ℕ
  pub address : Option (List ℕ)
  pub waits : Bool

-- a message, by its number
abbrev pub mail_of : List Frame → ℕ × Sent → Mail
mail_of taken (number, sent) = record {
  place = sent.place;
  address = Some sent.address;
  waits = not (is_gone taken number sent.place);
}

-- what is kept of a message
abbrev pub mail_at : List (List ℕ) → Mark → Mail
mail_at names mark = record {
  place = mark.place;
  address = slice_get names mark.queue;
  waits = mark.waits;
}

-- what is kept of the messages is so of the frames that were taken
abbrev pub MailsStand : List Frame → Lines → Type 0
MailsStand taken lines = map (mail_at lines.names) lines.marks
    ≡ map (mail_of taken) (enumerate_from 0 (messages taken))

-- the payload of a message that was sent
abbrev pub payload_of : Option Sent → List ℕ
payload_of None = []
payload_of (Some sent) = sent.payload

-- the message of a number, with its number
abbrev pub message_at : List Frame → ℕ → Message
message_at taken number =
    record { number = number; payload = payload_of (slice_get (messages taken) number) }

-- a message as it was, or gone
abbrev pub faded : Bool → Mark → Mark
faded removed mark = cond removed (gone mark) mark

-- what is kept of the messages once a frame removed some of them
pub record Fades (frame : Frame) (old new : List Mark) : Type 0 where
  pub len : length new ≡ length old
  pub each : (number : ℕ)
      → slice_get new number ≡ option_map (faded (removes number frame)) (slice_get old number)

-- two handles are one
abbrev pub same_handle : Handle → Handle → Bool
same_handle a b = nat_eq a.0 b.0

-- handles in the order of their numbers
abbrev pub handle_order : Handle → Handle → Ordering
handle_order a b = nat_cmp a.0 b.0

-- what is kept is so of the frames that were taken: the links, by handle, the names of the queues,
-- and the messages, of which no more came than are numbered
pub record Keeps (taken : List Frame) (link : Handle → Option Link) (lines : Lines) : Type 0 where
  pub links : (handle : Handle)
      → named_link lines.names (link handle) ≡ link_after taken handle.0
  pub within : (handle : Handle) (l : Link) → link handle ≡ Some l → l.queue < length lines.names
  pub names : lines.names ≡ queue_names taken
  pub mails : MailsStand taken lines
  pub few : length lines.marks ≤ max_messages

-- ---- transfers by the links that are kept

-- a transfer that comes after so many messages gets the queue of its link, or is refused
abbrev pub AdmitsTransfer : Option Link → Transfer → ℕ → Result ℕ SessionInnerError → Type 0
AdmitsTransfer link transfer count (Ok queue) =
    (l : Link) × (link ≡ Some l) × (queue ≡ l.queue)
    × (transfer_refusal transfer count (peer_link link) ≡ None)
AdmitsTransfer link transfer count (Err error) =
    transfer_refusal transfer count (peer_link link) ≡ Some error

-- one of the transfers would be refused, each counted with those before it
abbrev pub refused_by : (Handle → Option Link) → ℕ → List Frame → Bool
refused_by link count [] = false
refused_by link count (frames.Transfer transfer payload ∷ rest) =
    is_some (transfer_refusal transfer count (peer_link (link transfer.handle)))
    || refused_by link (count + 1) rest
refused_by link count (_ ∷ rest) = refused_by link count rest
