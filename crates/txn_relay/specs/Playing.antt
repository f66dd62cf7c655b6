-- The events of a relay, one after another.
use Rattle.std.specs.Prelude.{ℕ, ◌≡◌, List, [], ◌∷◌, ◌++◌}
use Rattle.txn_parties.specs.declared.event.Happened.{Happened}
use Rattle.txn_program_parties.specs.Skipping.{events_of, skipped_in}
use Rattle.txn_relay.specs.declared.event.RelayEvent.{RelayEvent}
use Rattle.txn_relay.specs.Relaying.{Draws, Happens, LeavesSome, Relaying}

-- a relay had these events, once each and in order, and each did what it did
abbrev pub Had : Draws → Relaying → List (RelayEvent × Happened)
    → Relaying → Type 0
Had draws old [] new = new ≡ old
Had draws old (first ∷ past) new =
    (mid : Relaying) × Happens draws old mid first.0 first.1 × Had draws mid past new

-- it had all of these events, and so many of them were skipped
pub record HadAll (draws : Draws) (old new : Relaying)
    (events : List RelayEvent) (skipped : ℕ) : Type 0 where
  pub past : List (RelayEvent × Happened)
  pub had : Had draws old past new
  pub these : events_of past ≡ events
  pub skips : skipped ≡ skipped_in past

-- memory ran out at one of these events: it had those before it, and what that one leaves
pub record HadSome (draws : Draws) (old new : Relaying)
    (events : List RelayEvent) : Type 0 where
  pub past : List (RelayEvent × Happened)
  pub event : RelayEvent
  pub rest : List RelayEvent
  pub mid : Relaying
  pub these : events ≡ events_of past ++ event ∷ rest
  pub had : Had draws old past mid
  pub left : LeavesSome mid new event
