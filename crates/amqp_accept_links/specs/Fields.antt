-- What the links that an acceptor accepts have in common.
use Rattle.std.specs.Prelude.{if◌then◌else◌, None}
use Rattle.amqp_txn_types.specs.declared.small.SenderSettleMode.{SenderSettleMode}
use Rattle.amqp_txn_types.specs.declared.small.SenderSettleMode.TheVariants as sender_modes
use Rattle.amqp_txn_types.specs.declared.small.ReceiverSettleMode.{ReceiverSettleMode}
use Rattle.amqp_txn_types.specs.declared.small.ReceiverSettleMode.TheVariants as receiver_modes
use Rattle.amqp_accept_links.specs.declared.modes.SupportedSenderSettleModes.TheVariants as sender_sets
use Rattle.amqp_accept_links.specs.declared.modes.SupportedReceiverSettleModes.TheVariants as receiver_sets
use Rattle.amqp_accept_links.specs.declared.fields.SharedLinkAcceptorFields.{SharedLinkAcceptorFields}
use Rattle.amqp_accept_links.specs.Modes.{supports_receiver, supports_sender}

-- all modes are supported, and nothing is offered or wanted
abbrev pub default_shared : SharedLinkAcceptorFields
default_shared = record {
  supported_snd_settle_modes = sender_sets.All;
  fallback_snd_settle_mode = sender_modes.Mixed;
  supported_rcv_settle_modes = receiver_sets.Both;
  fallback_rcv_settle_mode = receiver_modes.First;
  max_message_size = None;
  offered_capabilities = None;
  desired_capabilities = None;
  properties = None;
  buffer_size = 65535;
}

-- the mode that a link settles on: the peer's where it is supported, else the fallback
abbrev pub sender_mode_for : SharedLinkAcceptorFields → SenderSettleMode → SenderSettleMode
sender_mode_for shared mode =
    if supports_sender shared.supported_snd_settle_modes mode
    then mode
    else shared.fallback_snd_settle_mode

-- the mode that a link settles on: the peer's where it is supported, else the fallback
abbrev pub receiver_mode_for : SharedLinkAcceptorFields → ReceiverSettleMode → ReceiverSettleMode
receiver_mode_for shared mode =
    if supports_receiver shared.supported_rcv_settle_modes mode
    then mode
    else shared.fallback_rcv_settle_mode
