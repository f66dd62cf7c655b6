-- The open control links of a record. A link has the number that its Attached reply gave it.
use Rattle.std.specs.Prelude.{ℕ, Bool, not, ◌&&◌, List}
use Rattle.std.specs.List.{list_any, count_by}
use Rattle.amqp_resource_record.specs.declared.entry.Entry.{Entry}
use Rattle.amqp_resource_record.specs.Entries.{attaches, closes, is_attached}

-- open link: an entry attached it, and no entry ended or closed it (4.1, Transactional Messaging;
-- 4.5.1, Coordinator). Numbers never come again in a legal record, so "no entry" is "no later one".
unfoldable pub is_open : List Entry → ℕ → Bool
is_open entries link = list_any (attaches link) entries && not (list_any (closes link) entries)

-- how many links were attached, which is the number of the next one
abbrev pub attached_count : List Entry → ℕ
attached_count entries = count_by (λ (e : Entry). is_attached e.reply) entries
