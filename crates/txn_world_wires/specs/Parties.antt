-- The two parties as the code keeps them, seen as plain data.
use Rattle.std.specs.Prelude.{◌≡◌, ◌≤◌, ◌+◌, Bool, false, None, List, [], length, take, drop, replicate}
use Rattle.amqp_resource_record.specs.declared.entry.Entry.{Entry}
use Rattle.txn_parties.specs.Exchange.{Exchange}
use Rattle.txn_parties.specs.Invariant.{Keeps}
use Rattle.txn_world_wires.specs.declared.parties.Parties.{Parties}
use Rattle.txn_world_wires.specs.Tags.{came_of}
use Rattle.txn_world_wires.specs.Table.{Tabled}

-- the two parties over a layer below that is sure or not: of the entries the first are those of the
-- attaches, of the answers the first have returned
abbrev pub exchange_of : Bool → Parties → Exchange
exchange_of sure parties = record {
  first = take parties.attached parties.entries;
  came = came_of parties.tags (drop parties.attached parties.entries);
  waiting = parties.waiting;
  told = take parties.returned parties.answers;
  coming = drop parties.returned parties.answers;
  cut = parties.cut;
  stop = parties.stop;
  sure = sure;
}

-- as they begin, after these attaches
pub record Begun (first : List Entry) (parties : Parties) : Type 0 where
  pub entries : parties.entries ≡ first
  pub attached : parties.attached ≡ length first
  pub tags : parties.tags ≡ []
  pub waiting : parties.waiting ≡ []
  pub answers : parties.answers ≡ []
  pub returned : parties.returned ≡ 0
  pub cut : parties.cut ≡ false
  pub stop : parties.stop ≡ None
  pub transactions : parties.controllers.transactions ≡ []
  pub ended : parties.controllers.ended ≡ replicate (length first) false

-- what is so of them after every list of events
pub record Sound (sure : Bool) (parties : Parties) : Type 0 where
  pub keeps : Keeps (exchange_of sure parties)
  pub counted : length parties.entries ≡ parties.attached + length parties.tags
  pub returned : parties.returned ≤ length parties.answers
  pub table : Tabled parties.controllers (exchange_of sure parties)
