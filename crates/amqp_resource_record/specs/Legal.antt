-- Legal records: each entry is an answer after the entries before it.
use Rattle.std.specs.Prelude.{List, [], ◌∷◌, ◌++◌}
use Rattle.amqp_resource_record.specs.declared.entry.Entry.{Entry}
use Rattle.amqp_resource_record.specs.Answers.{Answer}

-- each entry is an answer after the entries before it, where others came first
abbrev pub LegalAfter : List Entry → List Entry → Type 0
LegalAfter before [] = Unit {0}
LegalAfter before (entry ∷ entries) =
    Answer before entry.step entry.drawn.ids entry.reply × LegalAfter (before ++ entry ∷ []) entries

-- legal record: each entry is an answer after the entries before it (4.1 to 4.4)
unfoldable pub IsLegal : List Entry → Type 0
IsLegal entries = LegalAfter [] entries
