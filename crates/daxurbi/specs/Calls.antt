-- What each call of a program answers, and what it leaves of a slot and of buffers.
use Rattle.std.specs.Prelude.{ℕ, ◌≡◌, ◌≤◌, ◌<◌, ◌==◌, ◌%◌, ◌&&◌, ◌⊎◌, Bool, true, false, Option, Some, None, List, [], ◌++◌, length, drop, nat_le, nat_lt}
use Rattle.amqp_txn_types.specs.declared.id.TransactionId.{TransactionId}
use Rattle.amqp_txn_types.specs.declared.performatives.Frame.{Frame}
use Rattle.amqp_txn_codec.specs.declared.message.ControlMessageBody.{ControlMessageBody}
use Rattle.amqp_txn_codec.specs.Canon.{canon}
use Rattle.amqp_resource_session.specs.Session.{bare_frames_on}
use Rattle.daxurbi_layer.specs.Answering.{answer_of}
use Rattle.daxurbi_layer.specs.declared.below_answer.BelowAnswer.{BelowAnswer}
use Rattle.daxurbi_session.specs.Payloads.{kind_and_id, message_of_kind}
use Rattle.daxurbi_session.specs.Reporting.{frames_text, report_of}
use Rattle.daxurbi_session.specs.SlotIds.{ids_of}
use Rattle.daxurbi_session.specs.Slots.{MakesLine, SlotStandsFor, session_of, stop_in}
use Rattle.daxurbi_session.specs.declared.control_payloads.MessageKind.{MessageKind}
use Rattle.daxurbi_session.specs.declared.control_payloads.MessageKind.TheVariants as kinds
use Rattle.daxurbi_session.specs.declared.slot_session.SlotSession.{SlotSession}
use Rattle.daxurbi_session.specs.declared.slot_session.Stepped.{Stepped}
use Rattle.daxurbi.specs.Numbers.{number_of, step_code}

-- ---- slots

-- a new session with the ids of a source
pub record IsNew (source : ℕ → TransactionId) (session : SlotSession) : Type 0 where
  pub stands : SlotStandsFor session []
  pub runs : stop_in session ≡ None
  pub last : session.last ≡ None
  pub ids : (n : ℕ) → ids_of session.ids n ≡ source n

-- there is a session, with a fact
abbrev pub HasSession : Option SlotSession → (SlotSession → Type 0) → Type 0
HasSession None P = ⊥
HasSession (Some session) P = P session

-- a closed slot was opened, or memory ran out
abbrev pub IsOpened : Option SlotSession → (ℕ → TransactionId) → ℕ → Type 0
IsOpened new ids result =
    ((result ≡ 0) × HasSession new (IsNew ids)) ⊎ ((result ≡ 3) × (new ≡ None))

-- opening a slot, by the session in it before and after, whether the octets of its ids fit, the ids
-- that they say, and the number that says that they don't fit
abbrev pub Opens : Option SlotSession → Option SlotSession → Bool → (ℕ → TransactionId) → ℕ → ℕ
    → Type 0
Opens (Some session) new fits ids refusal result = (result ≡ 5) × (new ≡ Some session)
Opens None new false ids refusal result = (result ≡ refusal) × (new ≡ None)
Opens None new true ids refusal result = IsOpened new ids result

-- a list of ids is 1 to 64 times 16 octets
abbrev pub is_ids : List ℕ → Bool
is_ids octets =
    nat_lt 0 (length octets) && nat_le (length octets) 1024 && (length octets % 16 == 0)

-- closing a slot
abbrev pub Closes : Option SlotSession → Option SlotSession → ℕ → Type 0
Closes None new result = (result ≡ 4) × (new ≡ None)
Closes (Some session) new result = (result ≡ 0) × (new ≡ None)

-- ---- steps

-- a line on an open slot, by the session in it before and after, and by what was told
abbrev pub StepsOpen : SlotSession → Option SlotSession → List ℕ → Option BelowAnswer → ℕ → Type 0
StepsOpen old new line None result = (result ≡ 7) × (new ≡ Some old)
StepsOpen old new line (Some answer) result =
    HasSession new (λ session. (stepped : Stepped) × (result ≡ step_code stepped)
    × MakesLine old session line answer stepped)

-- a line
abbrev pub StepsSlot : Option SlotSession → Option SlotSession → List ℕ → ℕ → ℕ → Type 0
StepsSlot None new line number result = (result ≡ 4) × (new ≡ None)
StepsSlot (Some old) new line number result = StepsOpen old new line (answer_of number) result

-- ---- buffers

-- a buffer and the length beside it
pub record Buffer : Type 0 where
  pub octets : List ℕ
  pub needed : ℕ

-- the text stands at the front of the buffer, where it fits there
abbrev pub Fills : List ℕ → Bool → Buffer → Buffer → ℕ → Type 0
Fills text true old new result =
    (result ≡ 0) × (new.octets ≡ text ++ drop (length text) old.octets)
Fills text false old new result = (result ≡ 8) × (new.octets ≡ old.octets)

-- the text is written, or the buffer is too short; the length of the text is told
abbrev pub Writes : List ℕ → Buffer → Buffer → ℕ → Type 0
Writes text old new result =
    (new.needed ≡ length text)
    × Fills text (nat_le (length text) (length old.octets)) old new result

-- nothing is written
abbrev pub Refuses : ℕ → Buffer → Buffer → ℕ → Type 0
Refuses number old new result = (result ≡ number) × (new ≡ old)

-- the text is written, or memory runs out
abbrev pub WritesIfMemory : List ℕ → Buffer → Buffer → ℕ → Type 0
WritesIfMemory text old new result = Writes text old new result ⊎ Refuses 3 old new result

-- the report of the last step
abbrev pub Reports : Option SlotSession → Buffer → Buffer → ℕ → Type 0
Reports None old new result = Refuses 4 old new result
Reports (Some session) old new result = WritesIfMemory (report_of session.last) old new result

-- the frames of an id that a commit would hand, where it is live
abbrev pub WritesPending : Option (List Frame) → Buffer → Buffer → ℕ → Type 0
WritesPending None old new result = Refuses 9 old new result ⊎ Refuses 3 old new result
WritesPending (Some frames) old new result = WritesIfMemory (frames_text frames) old new result

-- the same, of an id of at most 32 octets
abbrev pub PendingOf : SlotSession → List ℕ → Bool → Buffer → Buffer → ℕ → Type 0
PendingOf session id false old new result = Refuses 12 old new result
PendingOf session id true old new result =
    WritesPending (bare_frames_on (session_of session) id) old new result

abbrev pub TellsPending : Option SlotSession → List ℕ → Buffer → Buffer → ℕ → Type 0
TellsPending None id old new result = Refuses 4 old new result
TellsPending (Some session) id old new result =
    PendingOf session id (nat_le (length id) 32) old new result

-- ---- control messages

-- the octets of a message of a kind with an id; a declare has none
abbrev pub has_id : MessageKind → Bool
has_id kinds.Declare = false
has_id _ = true

-- the id of a message of a kind, for which octets are given
abbrev pub PayloadId : MessageKind → List ℕ → Option TransactionId → Type 0
PayloadId kinds.Declare octets found = found ≡ Some []
PayloadId kind octets None = 32 < length octets
PayloadId kind octets (Some id) = (length octets ≤ 32) × (id ≡ octets)

abbrev pub WritesMessage : MessageKind → List ℕ → Bool → Buffer → Buffer → ℕ → Type 0
WritesMessage kind id true old new result = Refuses 12 old new result
WritesMessage kind id false old new result =
    Writes (canon (message_of_kind kind id)) old new result

abbrev pub WritesPayload : Option MessageKind → List ℕ → Buffer → Buffer → ℕ → Type 0
WritesPayload None id old new result = Refuses 13 old new result
WritesPayload (Some kind) id old new result =
    WritesMessage kind id (has_id kind && nat_lt 32 (length id)) old new result

-- the octets of an id, none where there is none
abbrev pub id_octets : Option TransactionId → List ℕ
id_octets None = []
id_octets (Some id) = id

-- the kind and the id of the message that octets spell
abbrev pub ReadsMessage : Option ControlMessageBody → ℕ → ℕ → Buffer → Buffer → ℕ → Type 0
ReadsMessage None old_kind new_kind old new result =
    (new_kind ≡ old_kind) × Refuses 13 old new result
ReadsMessage (Some message) old_kind new_kind old new result =
    (new_kind ≡ number_of (kind_and_id message).0)
    × Writes (id_octets (kind_and_id message).1) old new result
