-- What an acceptor makes of the attach of a peer's receiver. Part 2 of the standard, section 2.7.3
-- (attach).
use Rattle.std.specs.Prelude.{ℕ, ◌≡◌, true, Option, Some, None, Result, Ok, Err, List, []}
use Rattle.amqp_txn_types.specs.declared.small.OutputHandle.{OutputHandle}
use Rattle.amqp_txn_types.specs.declared.small.Role.TheVariants as roles
use Rattle.amqp_txn_types.specs.declared.performatives.Attach.{Attach}
use Rattle.amqp_txn_types.specs.declared.performatives.Frame.{Frame}
use Rattle.amqp_txn_types.specs.declared.performatives.LinkEnd.{LinkEnd}
use Rattle.amqp_txn_types.specs.declared.performatives.Source.{Source}
use Rattle.amqp_txn_types.specs.declared.text.Symbol.{Symbol}
use Rattle.amqp_txn_types.specs.Counts.{Rose}
use Rattle.amqp_below_layer.specs.Told.{Steady, Told}
use Rattle.amqp_links.specs.SenderWire.{SenderWire}
use Rattle.amqp_below_sessions.specs.declared.attach_errors.SenderAttachError.{SenderAttachError}
use Rattle.amqp_below_sessions.specs.declared.attach_errors.SenderAttachError.TheVariants as refusals
use Rattle.amqp_accept_links.specs.declared.dynamic.RejectDynamic.{RejectDynamic}
use Rattle.amqp_accept_links.specs.declared.fields.SharedLinkAcceptorFields.{SharedLinkAcceptorFields}
use Rattle.amqp_accept_links.specs.declared.open_link.Opening.{Opening}
use Rattle.amqp_accept_links.specs.declared.open_link.OpenError.{OpenError}
use Rattle.amqp_accept_links.specs.declared.sender.LocalSenderLinkAcceptor.{LocalSenderLinkAcceptor}
use Rattle.amqp_accept_links.specs.Acceptance.{AcceptsBy, sender_refusal}
use Rattle.amqp_accept_links.specs.OpenLinks.{end_of, opening_of}
use Rattle.amqp_accept_links.specs.Termini.{LocalTerminus}

-- the sending end of the peer's link with this source, ready to be opened
abbrev pub sender_opening : SharedLinkAcceptorFields → ℕ → Attach → Option Source → Opening
sender_opening shared delivery_count remote source =
    opening_of shared (record remote { source = source }) roles.Sender (Some delivery_count) None

-- the sending end of the peer's link with a local source, ready to be opened
abbrev pub SenderReady : (Option Source → Type 0) → SharedLinkAcceptorFields → ℕ → Attach
    → Opening → Type 0
SenderReady Local shared delivery_count remote opening =
    (local : Option Source) × Local local
    × (opening ≡ sender_opening shared delivery_count remote local)

-- the local source for the peer's, with the acceptor's own capabilities
abbrev pub LocalSource : (Source → Option Source → Type 0) → Option (List Symbol)
    → Option Source → Option Source → Type 0
LocalSource decides capabilities source local =
    LocalTerminus decides (λ source. source.dynamic)
    (λ source. record source { capabilities = capabilities }) source local

-- a sending end on which nothing was put
abbrev pub sender_wire : LinkEnd → SenderWire
sender_wire end = record {
  end = end;
  put = [];
  answers = [];
  closes = [];
  calls = record { failing = []; made = 0; faults = 0 };
}

-- the sending end that was opened with its frames, or why it wasn't
abbrev pub sender_answer : Opening → Result (OutputHandle × List Frame) OpenError
    → Result (SenderWire × List Frame) SenderAttachError
sender_answer opening (Ok opened) = Ok (sender_wire (end_of opening opened.0), opened.1)
sender_answer opening (Err error) = Err (sender_refusal error)

-- the output handle of a sending end that was accepted
abbrev pub sender_output : SenderWire × List Frame → OutputHandle
sender_output accepted = accepted.0.end.output

-- a local sender: what an acceptor answers to the attach of a peer's receiver
abbrev pub AcceptsSource : {S : Type 0} → (Source → Option Source → Type 0)
    → Option (List Symbol) → SharedLinkAcceptorFields → ℕ → Attach
    → (S → S → Opening → Result (OutputHandle × List Frame) OpenError → Type 0)
    → S → S → Result (SenderWire × List Frame) SenderAttachError → Type 0
AcceptsSource decides capabilities shared delivery_count remote Opens old new result =
    AcceptsBy
    (SenderReady (LocalSource decides capabilities remote.source) shared delivery_count remote)
    Opens sender_answer refusals.NoMemory old new result

-- the fact holds where a sending end was refused but where memory runs out
abbrev pub OnSenderRefusal : {A : Type 0} → Result A SenderAttachError → Type 0 → Type 0
OnSenderRefusal (Ok accepted) P = Unit {0}
OnSenderRefusal (Err refusals.NoMemory) P = Unit {0}
OnSenderRefusal (Err error) P = P

-- accepting for a sending end adds to no list, and each refusal of the session is counted
pub record SenderTold {A : Type 0} (old new : Told) (result : Result A SenderAttachError)
    : Type 0 where
  pub steady : Steady old new
  pub cause : OnSenderRefusal result (Rose old.refusals new.refusals)

-- deliveries are counted from 0, it has no capabilities, and wants the peer's termini verified
pub record IsDefaultSender (sender : LocalSenderLinkAcceptor RejectDynamic) : Type 0 where
  pub count : sender.initial_delivery_count ≡ 0
  pub capabilities : sender.source_capabilities ≡ None
  pub source : sender.verify_incoming_source ≡ true
  pub target : sender.verify_incoming_target ≡ true
