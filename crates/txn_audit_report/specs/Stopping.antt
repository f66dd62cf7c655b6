-- The lines of refusals of the layer below.
use Rattle.std.specs.Prelude.{ℕ, Bool, true, false, Option, Some, None, List, [], ◌∷◌, ◌++◌, codes, if◌then◌else◌}
use Rattle.std.specs.Str.{bytes_eq}
use Rattle.amqp_resource_record.specs.declared.stop.StopCode.{StopCode}
use Rattle.amqp_resource_record.specs.declared.stop.StopCode.TheVariants as stop_codes
use Rattle.txn_program_report.specs.Report.{stop_word}

-- the code is that of a refusal: the layer below refused a frame, or ran out of memory
abbrev pub is_refusal : StopCode → Bool
is_refusal stop_codes.UnattachedHandle = true
is_refusal stop_codes.LinkNameNotFound = true
is_refusal stop_codes.HandleInUse = true
is_refusal stop_codes.IllegalState = true
is_refusal stop_codes.TransferToSender = true
is_refusal stop_codes.BelowConnectionStopped = true
is_refusal stop_codes.BelowRemoteEnded = true
is_refusal stop_codes.BelowRemoteEndedWithError = true
is_refusal stop_codes.BelowNoMemory = true
is_refusal _ = false

-- the codes of refusals
abbrev pub refusals : List StopCode
refusals =
    stop_codes.UnattachedHandle ∷ stop_codes.LinkNameNotFound ∷ stop_codes.HandleInUse
    ∷ stop_codes.IllegalState ∷ stop_codes.TransferToSender ∷ stop_codes.BelowConnectionStopped
    ∷ stop_codes.BelowRemoteEnded ∷ stop_codes.BelowRemoteEndedWithError
    ∷ stop_codes.BelowNoMemory ∷ []

-- the first of the codes whose word makes this line, after that front
abbrev pub code_of_line : List ℕ → List ℕ → List StopCode → Option StopCode
code_of_line front line [] = None
code_of_line front line (code ∷ others) =
    if bytes_eq line (front ++ stop_word code) then Some code else code_of_line front line others

-- the code of a line `stop WORD`, where it is a refusal's
unfoldable pub refusal_of_stop : List ℕ → Option StopCode
refusal_of_stop line = code_of_line (codes "stop ") line refusals

-- the code of a line `attach-refused WORD`, of any error that a layer may answer
unfoldable pub refusal_of_attach : List ℕ → Option StopCode
refusal_of_attach line =
    code_of_line (codes "attach-refused ") line (stop_codes.UnknownTxnId ∷ refusals)
