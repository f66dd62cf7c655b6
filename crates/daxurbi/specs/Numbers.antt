-- The numbers of answers and of kinds of messages. The number of what a layer below is told stands
-- beside what it may be told (`daxurbi_layer`, Answering).
use Rattle.std.specs.Prelude.{ℕ, Option, List, [], ◌∷◌, slice_get}
use Rattle.daxurbi_session.specs.declared.control_payloads.MessageKind.{MessageKind}
use Rattle.daxurbi_session.specs.declared.control_payloads.MessageKind.TheVariants as kinds
use Rattle.daxurbi_session.specs.declared.slot_session.Stepped.{Stepped}
use Rattle.daxurbi_session.specs.declared.slot_session.Stepped.TheVariants as stepped

-- the number of what a step answered
abbrev pub step_code : Stepped → ℕ
step_code stepped.Answered = 0
step_code stepped.Stopped = 1
step_code stepped.StoppedBefore = 2
step_code stepped.NoMemory = 3
step_code stepped.NotAStep = 6
step_code stepped.NoLinkLeft = 14

-- the kinds of messages, in the order of the numbers from 0
abbrev pub kinds_in_order : List MessageKind
kinds_in_order =
    kinds.Declare ∷ kinds.DeclareGlobal ∷ kinds.Discharge ∷ kinds.Commit ∷ kinds.Rollback ∷ []

-- the kind of message of a number
abbrev pub kind_of : ℕ → Option MessageKind
kind_of number = slice_get kinds_in_order number

-- the number of a kind of message
abbrev pub number_of : MessageKind → ℕ
number_of kinds.Declare = 0
number_of kinds.DeclareGlobal = 1
number_of kinds.Discharge = 2
number_of kinds.Commit = 3
number_of kinds.Rollback = 4
