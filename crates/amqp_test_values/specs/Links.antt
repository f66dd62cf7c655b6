-- The ends of links that tests use.
use Rattle.std.specs.Prelude.{ℕ}
use Rattle.amqp_txn_types.specs.declared.performatives.LinkEnd.{LinkEnd}
use Rattle.amqp_txn_types.specs.declared.small.ReceiverSettleMode.TheVariants as receivers
use Rattle.amqp_txn_types.specs.declared.small.Role.{Role}
use Rattle.amqp_txn_types.specs.declared.small.SenderSettleMode.TheVariants as senders
use Rattle.amqp_txn_types.specs.declared.text.Text.{Text}

-- an end of a link
abbrev pub end_of : Text → Role → ℕ → LinkEnd
end_of name role output = record {
  name = name;
  role = role;
  output = record { 0 = output };
  snd_settle_mode = senders.Mixed;
  rcv_settle_mode = receivers.First;
}
