-- Frames of transactional work: posts and retirements (part 4 of the standard, section 4.4).
use Rattle.amqp_txn_types.specs.declared.performatives.Frame.{Frame}
use Rattle.amqp_txn_types.specs.declared.performatives.Frame.TheVariants as frames
use Rattle.amqp_txn_types.specs.declared.frames.TxnWorkFrame.{TxnWorkFrame}
use Rattle.amqp_txn_types.specs.declared.frames.TxnWorkFrame.TheVariants.{Post, Retire}

-- the frame as it came: a post is a transfer, a retirement a disposition
abbrev pub frame_of_work : TxnWorkFrame → Frame
frame_of_work (Post transfer payload) = frames.Transfer transfer payload
frame_of_work (Retire d) = frames.Disposition d
