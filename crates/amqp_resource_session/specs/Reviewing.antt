-- What a session over another answers to a review, and what it takes after an Accept.
use Rattle.std.specs.Prelude.{ℕ, ◌≡◌, Bool, true, false, not, Option, Some, None, Result, Ok, Err, List}
use Rattle.std.proofs.Common.{refl, ◌∙◌, subst}
use Rattle.std.proofs.lemmas.Bool.{and_parts}
use Rattle.std.specs.List.{list_all}
use Rattle.amqp_txn_types.specs.declared.performatives.Attach.{Attach}
use Rattle.amqp_txn_types.specs.declared.delivery.DeliveryState.{DeliveryState}
use Rattle.amqp_txn_types.specs.declared.performatives.Frame.{Frame}
use Rattle.amqp_txn_types.specs.declared.items.NoMemory.{NoMemory}
use Rattle.amqp_below_layer.specs.Told.{Reviews, Told}
use Rattle.amqp_below_layer.specs.declared.inner_error.SessionInnerError.{SessionInnerError}
use Rattle.amqp_resource_record.specs.declared.stop.StopCode.{StopCode}
use Rattle.amqp_txn_types.specs.declared.id.TransactionId.{TransactionId}
use Rattle.amqp_resource_session.specs.declared.session.TxnSession.{TxnSession}
use Rattle.amqp_below_layer.specs.declared.verdict.Verdict.{Verdict}
use Rattle.amqp_below_layer.specs.Reviewing.{is_bare, GoesOn, Lasts, StaysOn}
use Rattle.amqp_txn_types.specs.Frames.{is_coordinator_attach, is_under_txn, txn, txn_of_state}
use Rattle.amqp_txn_types.specs.Counts.{one_more}
use Rattle.amqp_txn_types.specs.declared.delivery.DeliveryState.TheVariants as states
use Rattle.amqp_txn_types.specs.declared.performatives.Disposition.{Disposition}
use Rattle.amqp_txn_types.specs.declared.performatives.Frame.TheVariants as frames
use Rattle.amqp_below_layer.specs.declared.verdict.Verdict.TheVariants as verdicts
use Rattle.amqp_resource_session.specs.Calls.{by_stop}
use Rattle.amqp_resource_session.specs.Hearing.{HearsFrame, HearsKind, HearsPlain, HearsUnbound, RefusesWith}
use Rattle.amqp_below_layer.specs.declared.inner_error.SessionInnerError.TheVariants as faults
use Rattle.amqp_resource_session.specs.Passing.{Passes, PassesOn}
use Rattle.amqp_txn_types.specs.Counts.{counted}
use Rattle.amqp_resource_session.specs.Session.{below_of, held_of, refusals_of, stop_of, vetoes_of}

-- a count of vetoes, with one more after a Veto
abbrev pub with_veto : Result Verdict NoMemory → ℕ → ℕ
with_veto (Ok verdicts.Veto) count = one_more count
with_veto _ count = count

-- the session below was asked, and its answer is given
pub record AsksBelow {S : Type 0} (told : S → Told)
    (gives : S → S → List Frame → Result Verdict NoMemory → Type 0) (old new : S)
    (list : List Frame) (result : Result Verdict NoMemory) : Type 0 where
  pub reviews : Reviews (told old) (told new) list result
  pub gave : gives old new list result

-- a review: a Veto where the session has stopped, else the answer of the session below; what the
-- session keeps and its stop are as they were, and a Veto and out of memory are counted
pub record TxnReviews {S : Type 0} (told : S → Told)
    (gives : S → S → List Frame → Result Verdict NoMemory → Type 0) (old new : TxnSession S)
    (list : List Frame) (result : Result Verdict NoMemory) : Type 0 where
  pub answers : by_stop (stop_of old)
      ((result ≡ Ok verdicts.Veto) × (below_of new ≡ below_of old))
      (AsksBelow told gives (below_of old) (below_of new) list result)
  pub held : held_of new ≡ held_of old
  pub stop : stop_of new ≡ stop_of old
  pub refusals : refusals_of new ≡ counted result (refusals_of old)
  pub vetoes : vetoes_of new ≡ with_veto result (vetoes_of old)

-- what it takes: where it runs, plain work that the session below takes
abbrev pub TxnTakes : {S : Type 0} → (S → List Frame → Type 0) → TxnSession S → List Frame
    → Type 0
TxnTakes takes session list =
    (stop_of session ≡ None) × (list_all is_bare list ≡ true) × takes (below_of session) list

-- ---- after an Accept

-- a state that isn't transactional has no id
bare-state : (state : Option DeliveryState) → not (is_under_txn state) ≡ true
    → txn_of_state state ≡ None
bare-state None is = refl
bare-state (Some (states.TransactionalState inner)) is = absurd (cc is)
bare-state (Some _) is = refl

-- work as it is handed is under no id
bare-txn : (frame : Frame) → is_bare frame ≡ true → txn frame ≡ None
unfolding txn
bare-txn (frames.Transfer transfer payload) is = bare-state transfer.state is
bare-txn (frames.Disposition disposition) is = bare-state disposition.state is
bare-txn _ is = refl

-- and attaches no link
bare-no_link : (frame : Frame) → is_bare frame ≡ true → is_coordinator_attach frame ≡ false
unfolding is_coordinator_attach
bare-no_link (frames.Attach attach) is = absurd (cc is)
bare-no_link _ is = refl

module _ {S : Type 0} (told : S → Told) (takes : S → List Frame → Type 0) (sure : Bool) where
  -- a plain frame among those that the session below takes
  plain-goes-on : (gives : S → S → Frame → Result (List Frame) SessionInnerError → Type 0)
      (old new : TxnSession S) (frame : Frame) (result : Result (List Frame) SessionInnerError)
      (rest : List Frame) → list_all is_bare rest ≡ true
      → Lasts sure (takes (below_of new) rest) result
      → HearsPlain told gives old new frame result
      → Lasts false (TxnTakes takes new rest) result
  plain-goes-on gives old new frame (Ok given) rest bare lasts hears = (hears.stops, bare, lasts)
  plain-goes-on gives old new frame (Err error) rest bare lasts hears = (lasts.0, refl)

  -- a frame among those that the session takes
  pub heard-goes-on : (gives : S → S → Frame → Result (List Frame) SessionInnerError → Type 0)
      (opens : S → S → Attach → Result (List Frame) SessionInnerError → Type 0)
      (goes : (old new : S) (frame : Frame) (answer : Result (List Frame) SessionInnerError)
      → gives old new frame answer → GoesOn takes sure old new frame answer)
      (old new : TxnSession S) (frame : Frame) (answer : Result (List Frame) SessionInnerError)
      → HearsFrame told gives opens old new frame answer
      → GoesOn (TxnTakes takes) false old new frame answer
  heard-goes-on gives opens goes old new frame answer hears rest taken =
      let bare = and_parts (is_bare frame) (list_all is_bare rest) taken.1 in
      let Runs : Option StopCode → Type 0 = λ stop. by_stop stop
      (RefusesWith old new faults.IllegalState answer)
      (HearsKind told gives opens old new frame (txn frame) answer) in
      let Under : Option TransactionId → Type 0 =
      λ id. HearsKind told gives opens old new frame id answer in
      let Attaches : Bool → Type 0 =
      λ b. HearsUnbound told gives opens old new frame b answer in
      let plain : HearsPlain told gives old new frame answer =
      subst Attaches (bare-no_link frame bare.0)
      (subst Under (bare-txn frame bare.0) (subst Runs taken.0 hears.hears)) in
      plain-goes-on gives old new frame answer rest bare.1
      (goes (below_of old) (below_of new) frame answer plain.took.gave rest taken.2) plain

  -- a check among frames that the session takes
  pub check-stays-on : (Tells : S → S → Type 0)
      (gives : S → S → Disposition → Result Unit SessionInnerError → Type 0)
      (stays : (old new : S) (disposition : Disposition) (answer : Result Unit SessionInnerError)
      → gives old new disposition answer → StaysOn takes sure old new answer)
      (old new : TxnSession S) (disposition : Disposition)
      (answer : Result Unit SessionInnerError)
      → Passes Tells (λ a b. gives a b disposition answer) old new answer
      → StaysOn (TxnTakes takes) false old new answer
  check-stays-on Tells gives stays old new disposition (Ok done) passes list taken = (
    passes.stop ∙ taken.0,
    taken.1,
    stays (below_of old) (below_of new) disposition (Ok done) passes.gave list taken.2,
  )
  check-stays-on Tells gives stays old new disposition (Err error) passes list taken =
      let below = stays (below_of old) (below_of new) disposition (Err error) passes.gave list
      taken.2 in
      record {
        stays = (passes.stop ∙ taken.0, taken.1, below.stays);
        wants = (below.wants.0, refl);
      }

  -- and asking for the window
  pub window-stays-on : (Tells Gives : S → S → Type 0)
      (stays : (old new : S) → Gives old new → (list : List Frame) → takes old list
      → takes new list)
      (old new : TxnSession S) → PassesOn Tells Gives old new → (list : List Frame)
      → TxnTakes takes old list → TxnTakes takes new list
  window-stays-on Tells Gives stays old new passes list taken = (
    passes.stop ∙ taken.0,
    taken.1,
    stays (below_of old) (below_of new) passes.gave list taken.2,
  )
