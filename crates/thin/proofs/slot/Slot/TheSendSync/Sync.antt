-- A slot is shared by threads as the value that it holds is.
use denote.RattleType.{RattleType}
use denote.Param.Send.{IsSync}
use Rattle.thin.proofs.Crossing.{slot_sync}
use Rattle.thin.specs.contracts.slot.Slot.{the_row}

pub sync : (T : RattleType) → IsSync T → IsSync (the_row T)
sync = slot_sync
