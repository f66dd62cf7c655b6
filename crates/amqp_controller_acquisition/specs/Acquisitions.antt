-- What an acquisition keeps.
use Rattle.std.specs.Borrow.{MutBor}
use Rattle.amqp_controller_acquisition.specs.declared.acquisition.TxnAcquisition.{TxnAcquisition}

-- the transaction of an acquisition
abbrev pub txn_of : {Txn R : Type 0} → TxnAcquisition Txn R → Txn
txn_of acquisition = acquisition.txn

-- the receiver of an acquisition, as it stands
abbrev pub recver_of : {Txn R : Type 0} → TxnAcquisition Txn R → R
recver_of acquisition = acquisition.recver.now

-- the receiver of an acquisition, as it is lent to it
abbrev pub lent_to : {Txn R : Type 0} → TxnAcquisition Txn R → MutBor R
lent_to acquisition = acquisition.recver
