use Rattle.amqp_controller_acquisition.proofs.receiver.unname.Goals as goal

-- the key is that of the property
pub returns : goal.returns
returns g c = (
  rw c.args.key.now.named at c.remove_property.ensures.told,
  rw c.args.key.now.named at c.remove_property.ensures.gives,
)
