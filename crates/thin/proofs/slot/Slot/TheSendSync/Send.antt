-- A slot moves to another thread as the value that it holds does.
use denote.RattleType.{RattleType}
use denote.Param.Send.{IsSend}
use Rattle.thin.proofs.Crossing.{slot_send}
use Rattle.thin.specs.contracts.slot.Slot.{the_row}

pub send : (T : RattleType) → IsSend T → IsSend (the_row T)
send = slot_send
