-- A link that is opened as its attach comes.
use Rattle.std.proofs.Common.{◌≡◌, ◌≤◌, ◌||◌, Bool, true, Result, Ok, Err, List, refl, ap, sym, ◌∙◌, subst, inr, arith}
use Rattle.std.specs.Prelude.{IfErr}
use Rattle.amqp_txn_types.specs.Counts.{Rose}
use Rattle.amqp_txn_types.specs.declared.performatives.Attach.{Attach}
use Rattle.amqp_txn_types.specs.declared.performatives.Frame.{Frame}
use Rattle.amqp_txn_types.specs.declared.performatives.Frame.TheVariants as frames
use Rattle.amqp_txn_types.specs.declared.small.OutputHandle.{OutputHandle}
use Rattle.amqp_txn_types.specs.declared.text.Text.{Text}
use Rattle.amqp_txn_types.specs.Frames.{is_coordinator_attach}
use Rattle.amqp_below_layer.specs.declared.inner_error.SessionInnerError.{SessionInnerError}
use Rattle.amqp_below_layer.specs.Inner.{Took}
use Rattle.amqp_below_layer.specs.Told.{Told}
use Rattle.amqp_below_sessions.specs.Names.{AttachLeaves, LeftBy, Names, Placed, SameNames, leaves-at_once, left-map, left-same}
use Rattle.amqp_below_sessions.specs.Sessions.{Kept, LeavesFrame, kept-same}
use Rattle.amqp_below_sessions.specs.declared.relay.NameState.{NameState}
use Rattle.amqp_below_sessions.specs.declared.relay.NameState.TheVariants.{Unknown, Waiting, Taken}
use Rattle.amqp_accept_listener.specs.Listening.{queue_of}
use Rattle.amqp_accept_listener.specs.declared.listener.ListenerSession.{ListenerSession}
use Rattle.amqp_accept_at_once.specs.AtOnce.{Accepted, AcceptsAttach, AcceptsLeaves, AcceptsQueued, AttachCause, HearsAttach, OpensAtOnce, TakesQueued}

-- an attach whose name doesn't wait is accepted, where it is queued
hears-unwaited : {S : Type 0}
    (Heard : ListenerSession S → ListenerSession S → Result (List Frame) SessionInnerError → Type 0)
    (Accepts : Attach → ListenerSession S → ListenerSession S → Accepted → Type 0)
    (known : NameState) (old taken new : ListenerSession S) (attach : Attach)
    (queued : Result Attach SessionInnerError) (result : Result (List Frame) SessionInnerError)
    → (known ≡ Waiting → ⊥) → TakesQueued Heard old taken attach queued
    → AcceptsQueued Accepts taken new queued result
    → HearsAttach Heard Accepts known old new attach result
hears-unwaited Heard Accepts Unknown old taken new attach queued result differs takes accepts =
    (taken, queued, takes, accepts)
hears-unwaited Heard Accepts Waiting old taken new attach queued result differs takes accepts =
    absurd (differs refl)
hears-unwaited Heard Accepts Taken old taken new attach queued result differs takes accepts =
    (taken, queued, takes, accepts)

-- names that are the same, and then the same again
same-again : (old now new : Names) → SameNames old now → SameNames now new → SameNames old new
same-again old now new same again = record {
  known = λ name. again.known name ∙ same.known name;
  at = λ output. again.at output ∙ same.at output;
}

-- a link that is placed where the names were as before
placed-after : (old now new : Names) (name : Text) (state : NameState) (output : OutputHandle)
    → SameNames old now → Placed now new name state output → Placed old new name state output
placed-after old now new name state output same placed = record {
  unknown = sym (same.known name) ∙ placed.unknown;
  known = placed.known;
  others = λ other differs. placed.others other differs ∙ same.known other;
  free = sym (same.at output) ∙ placed.free;
  here = placed.here;
  elsewhere = λ other differs. placed.elsewhere other differs ∙ same.at other;
}

-- an attach that is accepted where the names were as before
accepted-names : (old now new : Names) (name : Text)
    (result : Result (List Frame) SessionInnerError) → SameNames old now
    → AcceptsLeaves now new name result
    → LeftBy (AttachLeaves true old new name) (SameNames old new) result
accepted-names old now new name (Ok given) same opens =
    inr (opens.0, placed-after old now new name Taken opens.0 same opens.1)
accepted-names old now new name (Err error) same again =
    left-same _ _ error (same-again old now new same again)

-- what any attach leaves is left by one that is accepted at once
pub leaves-accepted : (at_once : Bool) (before after : Kept) (old new : Names) (attach : Attach)
    (result : Result (List Frame) SessionInnerError)
    → LeavesFrame at_once before after old new (frames.Attach attach) result
    → LeavesFrame true before after old new (frames.Attach attach) result
leaves-accepted at_once before after old new attach result left =
    let opens : Bool = at_once || is_coordinator_attach (frames.Attach attach) in
    record {
      kept = left.kept;
      names = left-map (AttachLeaves opens old new attach.name)
          (AttachLeaves true old new attach.name) (SameNames old new) result
          (leaves-at_once opens old new attach.name) left.names;
    }

module _ {S : Type 0} (told : ListenerSession S → Told) (kept : ListenerSession S → Kept)
    (names : ListenerSession S → Names)
    (gives : ListenerSession S → ListenerSession S → Frame → Result (List Frame) SessionInnerError
    → Type 0)
    (Accepts : Attach → ListenerSession S → ListenerSession S → Accepted → Type 0) where
  -- the listener takes an attach
  abbrev Heard : Attach → ListenerSession S → ListenerSession S
      → Result (List Frame) SessionInnerError → Type 0
  Heard attach a b answer = Took told gives a b (frames.Attach attach) answer

  -- a cause since the attach was taken is one since before
  caused-before : (old taken new : ListenerSession S) (attach : Attach)
      (result : Result (List Frame) SessionInnerError) → kept taken ≡ kept old
      → (told old).refusals ≤ (told taken).refusals
      → IfErr result (AttachCause (kept taken).stop attach (told taken) (told new))
      → IfErr result (AttachCause (kept old).stop attach (told old) (told new))
  caused-before old taken new attach (Ok given) same later cause = tt
  caused-before old taken new attach (Err error) same later cause =
      λ some none other.
      let rose = cause some (ap (λ (k : Kept). k.stop) same ∙ none) other in
      omega (arith, later, rose)

  -- the listener refuses the attach
  pub opens-refused : (old taken : ListenerSession S) (attach : Attach) (error : SessionInnerError)
      (result : Result (List Frame) SessionInnerError)
      → ((names old).known attach.name ≡ Waiting → ⊥) → kept taken ≡ kept old
      → SameNames (names old) (names taken) → Rose (told old).refusals (told taken).refusals
      → TakesQueued (Heard attach) old taken attach (Err error)
      → queue_of taken ≡ queue_of old → result ≡ Err error
      → OpensAtOnce told kept names gives Accepts old taken attach result
  opens-refused old taken attach error result differs same_kept same_names rose takes queue is =
      let Opens : Result (List Frame) SessionInnerError → Type 0 =
      OpensAtOnce told kept names gives Accepts old taken attach in
      subst Opens (sym is) (record {
        hears = hears-unwaited (Heard attach) Accepts _ old taken taken attach (Err error)
            (Err error) differs takes (refl, refl);
        leaves = record {
          kept = kept-same (kept old) (kept taken) (frames.Attach attach) (Err error) same_kept;
          names = left-same _ _ error same_names;
        };
        cause = λ some none other. rose;
        queue = queue;
      })

  -- the attach is out of the queue, and answered by the acceptor
  opens-accepted : (old taken new : ListenerSession S) (attach : Attach)
      (result : Result (List Frame) SessionInnerError)
      → ((names old).known attach.name ≡ Waiting → ⊥) → kept taken ≡ kept old
      → SameNames (names old) (names taken) → (told old).refusals ≤ (told taken).refusals
      → TakesQueued (Heard attach) old taken attach (Ok attach) → kept new ≡ kept taken
      → AcceptsLeaves (names taken) (names new) attach.name result
      → IfErr result (AttachCause (kept taken).stop attach (told taken) (told new))
      → AcceptsAttach (Accepts attach taken new) result → queue_of new ≡ queue_of old
      → OpensAtOnce told kept names gives Accepts old new attach result
  opens-accepted old taken new attach result differs same_kept same_names later takes then_kept
      then_names cause accepts queue = record {
        hears = hears-unwaited (Heard attach) Accepts _ old taken new attach (Ok attach) result differs
            takes accepts;
        leaves = record {
          kept = kept-same (kept old) (kept new) (frames.Attach attach) result (then_kept ∙ same_kept);
          names = accepted-names (names old) (names taken) (names new) attach.name result same_names
              then_names;
        };
        cause = caused-before old taken new attach result same_kept later cause;
        queue = queue;
      }

  -- the same of the attach that was taken back, which is the one that came
  pub opens-back : (old taken new : ListenerSession S) (attach back : Attach)
      (result : Result (List Frame) SessionInnerError) → back ≡ attach
      → ((names old).known attach.name ≡ Waiting → ⊥) → kept taken ≡ kept old
      → SameNames (names old) (names taken) → (told old).refusals ≤ (told taken).refusals
      → TakesQueued (Heard attach) old taken attach (Ok back) → kept new ≡ kept taken
      → AcceptsLeaves (names taken) (names new) back.name result
      → IfErr result (AttachCause (kept taken).stop back (told taken) (told new))
      → AcceptsAttach (Accepts back taken new) result → queue_of new ≡ queue_of old
      → OpensAtOnce told kept names gives Accepts old new attach result
  opens-back old taken new attach back result is differs same_kept same_names later takes then_kept
      then_names cause accepts queue =
      let T : Attach → Type 0 = λ a. TakesQueued (Heard attach) old taken attach (Ok a) in
      let N : Attach → Type 0 = λ a. AcceptsLeaves (names taken) (names new) a.name result in
      let C : Attach → Type 0 =
      λ a. IfErr result (AttachCause (kept taken).stop a (told taken) (told new)) in
      let A : Attach → Type 0 = λ a. AcceptsAttach (Accepts a taken new) result in
      opens-accepted old taken new attach result differs same_kept same_names later
      (subst T is takes) then_kept (subst N is then_names) (subst C is cause)
      (subst A is accepts) queue
