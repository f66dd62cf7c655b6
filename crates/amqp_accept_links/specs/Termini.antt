-- The local terminus of a link: the peer's, or what a rule answers where that is dynamic.
use Rattle.std.specs.Prelude.{◌≡◌, Bool, true, false, Option, Some, None, option_map}
use Rattle.amqp_txn_types.specs.declared.performatives.Coordinator.{Coordinator}
use Rattle.amqp_txn_types.specs.declared.performatives.Target.{Target}
use Rattle.amqp_txn_types.specs.declared.performatives.TargetArchetype.{TargetArchetype}
use Rattle.amqp_txn_types.specs.declared.performatives.TargetArchetype.TheVariants as targets

-- the local terminus for the peer's, by whether that is dynamic
abbrev pub SettlesOn : {T : Type 0} → (T → Option T → Type 0) → Bool → (T → T) → T → Option T
    → Type 0
SettlesOn {T} decides true with_own terminus local =
    (answer : Option T) × decides terminus answer × (local ≡ option_map with_own answer)
SettlesOn decides false with_own terminus local = local ≡ Some (with_own terminus)

-- the local terminus for the peer's: none stays none
abbrev pub LocalTerminus : {T : Type 0} → (T → Option T → Type 0) → (T → Bool) → (T → T)
    → Option T → Option T → Type 0
LocalTerminus decides dynamic with_own None local = local ≡ None
LocalTerminus decides dynamic with_own (Some terminus) local =
    SettlesOn decides (dynamic terminus) with_own terminus local

-- the target as a node that takes messages, where it is one
abbrev pub node_target : TargetArchetype → Option Target
node_target (targets.Target target) = Some target
node_target (targets.Coordinator coordinator) = None

-- the target as a coordinator, where it is one
abbrev pub coordinator_target : TargetArchetype → Option Coordinator
coordinator_target (targets.Target target) = None
coordinator_target (targets.Coordinator coordinator) = Some coordinator

-- the peer's target as one of a kind, or none; no answer where it is of another kind
abbrev pub kind_of_target : {T : Type 0} → (TargetArchetype → Option T) → Option TargetArchetype
    → Option (Option T)
kind_of_target of_archetype None = Some None
kind_of_target of_archetype (Some target) = option_map Some (of_archetype target)
