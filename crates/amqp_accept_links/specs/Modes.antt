-- The settle modes that an acceptor supports, and the one that a link settles on. Part 2 of the
-- standard, sections 2.8.2 (sender settle mode) and 2.8.3 (receiver settle mode).
use Rattle.std.specs.Prelude.{Bool, true, false, List, [], ◌∷◌}
use Rattle.std.specs.List.{list_any}
use Rattle.amqp_txn_types.specs.declared.small.SenderSettleMode.{SenderSettleMode}
use Rattle.amqp_txn_types.specs.declared.small.SenderSettleMode.TheVariants as senders
use Rattle.amqp_txn_types.specs.declared.small.ReceiverSettleMode.{ReceiverSettleMode}
use Rattle.amqp_txn_types.specs.declared.small.ReceiverSettleMode.TheVariants as receivers
use Rattle.amqp_accept_links.specs.declared.modes.SupportedSenderSettleModes.{SupportedSenderSettleModes}
use Rattle.amqp_accept_links.specs.declared.modes.SupportedSenderSettleModes.TheVariants as sets
use Rattle.amqp_accept_links.specs.declared.modes.SupportedReceiverSettleModes.{SupportedReceiverSettleModes}
use Rattle.amqp_accept_links.specs.declared.modes.SupportedReceiverSettleModes.TheVariants as receiver_sets

-- the modes that the name of a set lists
abbrev pub sender_modes : SupportedSenderSettleModes → List SenderSettleMode
sender_modes sets.Unsettled = senders.Unsettled ∷ []
sender_modes sets.Settled = senders.Settled ∷ []
sender_modes sets.Mixed = senders.Mixed ∷ []
sender_modes sets.UnsettledAndSettled = senders.Unsettled ∷ senders.Settled ∷ []
sender_modes sets.UnsettledAndMixed = senders.Unsettled ∷ senders.Mixed ∷ []
sender_modes sets.SettledAndMixed = senders.Settled ∷ senders.Mixed ∷ []
sender_modes sets.All = senders.Unsettled ∷ senders.Settled ∷ senders.Mixed ∷ []

-- the modes that the name of a set lists
abbrev pub receiver_modes : SupportedReceiverSettleModes → List ReceiverSettleMode
receiver_modes receiver_sets.First = receivers.First ∷ []
receiver_modes receiver_sets.Second = receivers.Second ∷ []
receiver_modes receiver_sets.Both = receivers.First ∷ receivers.Second ∷ []

-- the two modes are one
abbrev pub same_sender_mode : SenderSettleMode → SenderSettleMode → Bool
same_sender_mode senders.Unsettled senders.Unsettled = true
same_sender_mode senders.Settled senders.Settled = true
same_sender_mode senders.Mixed senders.Mixed = true
same_sender_mode _ _ = false

-- the two modes are one
abbrev pub same_receiver_mode : ReceiverSettleMode → ReceiverSettleMode → Bool
same_receiver_mode receivers.First receivers.First = true
same_receiver_mode receivers.Second receivers.Second = true
same_receiver_mode _ _ = false

-- the mode is one of the set
abbrev pub supports_sender : SupportedSenderSettleModes → SenderSettleMode → Bool
supports_sender supported mode = list_any (same_sender_mode mode) (sender_modes supported)

-- the mode is one of the set
abbrev pub supports_receiver : SupportedReceiverSettleModes → ReceiverSettleMode → Bool
supports_receiver supported mode =
    list_any (same_receiver_mode mode) (receiver_modes supported)
