-- Refusals in a history, and the status of a run of workers.
use Rattle.std.specs.Prelude.{ℕ, ◌==◌, ◌&&◌, Bool, true, false, Option, Some, None, List, is_none, if◌then◌else◌}
use Rattle.std.specs.List.{count_by, find}
use Rattle.amqp_below_layer.specs.declared.inner_error.SessionInnerError.TheVariants as faults
use Rattle.amqp_resource_record.specs.declared.entry.Entry.{Entry}
use Rattle.amqp_resource_record.specs.declared.reply.Reply.{Reply}
use Rattle.amqp_resource_record.specs.declared.reply.Reply.TheVariants as replies
use Rattle.amqp_resource_record.specs.declared.stop.StopCode.{StopCode}
use Rattle.amqp_resource_record.specs.declared.stop.StopCode.TheVariants as codes
use Rattle.amqp_resource_shared.specs.declared.close.CloseWhy.{CloseWhy}

-- the reply is neither Attached, Declared, Frames nor Accepted
unfoldable pub is_refused_reply : Reply → Bool
is_refused_reply (replies.Frames answers) = false
is_refused_reply (replies.Attached link given) = false
is_refused_reply (replies.Declared id) = false
is_refused_reply (replies.Accepted echoes) = false
is_refused_reply _ = true

-- how many replies are such
abbrev pub refused_count : List Entry → ℕ
refused_count history = count_by (λ (entry : Entry). is_refused_reply entry.reply) history

-- a refused attach
abbrev pub is_refused_attach : Reply → Bool
is_refused_attach (replies.AttachRefused error) = true
is_refused_attach _ = false

-- an attach for which the layer below ran out of memory
abbrev pub is_starved_attach : Reply → Bool
is_starved_attach (replies.AttachRefused faults.NoMemory) = true
is_starved_attach _ = false

-- there is an entry, and it is such an attach
abbrev pub is_starved_entry : Option Entry → Bool
is_starved_entry None = false
is_starved_entry (Some entry) = is_starved_attach entry.reply

-- the first entry whose attach was refused
abbrev pub first_refused : List Entry → Option Entry
first_refused history = find (λ (entry : Entry). is_refused_attach entry.reply) history

-- the stop is that of a layer below that ran out of memory; or there is no stop, and the layer
-- below ran out of memory for the first attach that it refused
abbrev pub starved_by : Option StopCode → List Entry → Bool
starved_by (Some codes.BelowNoMemory) history = true
starved_by (Some _) history = false
starved_by None history = is_starved_entry (first_refused history)

-- 0 where the session didn't stop, `close` found no difference and no reply is a refusal; else 8
-- where the layer below ran out of memory, and 1
abbrev pub threads_status : Option StopCode → Option CloseWhy → ℕ → List Entry → ℕ
threads_status stop why refused history =
    if is_none stop && is_none why && (refused == 0) then 0
    else if starved_by stop history then 8
    else 1
