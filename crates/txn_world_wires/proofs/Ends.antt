-- What an answer that is filled in and heard leaves of the end of a link.
use Rattle.std.proofs.Common.{◌≡◌, ℕ, Bool, false, cond, Option, Some, Result, Ok, Err, List, [], length, refl, sym, ◌∙◌, ap, subst}
use Rattle.std.specs.Prelude.{◌==◌, option_map, slice_get, slice_set}
use Rattle.std.specs.List.{list_any}
use Rattle.std.proofs.lemmas.Option.{slice_get_within}
use Rattle.std.proofs.lemmas.List.{length-set}
use Rattle.amqp_txn_types.specs.declared.calls.Calls.{Calls}
use Rattle.amqp_txn_types.specs.declared.delivery.DeliveryState.{DeliveryState}
use Rattle.amqp_txn_types.specs.declared.small.Token.{Token}
use Rattle.amqp_txn_types.specs.Calls.{is_failing}
use Rattle.amqp_txn_types.specs.Counts.{one_more}
use Rattle.amqp_links.specs.declared.answer_slot.AnswerSlot.{AnswerSlot}
use Rattle.amqp_links.specs.declared.answer_slot.AnswerSlot.TheVariants as slots
use Rattle.amqp_links.specs.declared.poll.Poll.{Poll}
use Rattle.amqp_links.specs.declared.poll.Poll.TheVariants as polls
use Rattle.amqp_links.specs.declared.progress.Progress.TheVariants as waits
use Rattle.amqp_links.specs.declared.sendable.Sent.{Sent}
use Rattle.amqp_links.specs.declared.sendable.Sent.TheVariants as sendings
use Rattle.amqp_links.specs.Answers.{answer_in, emptied_slot, filled_slot}
use Rattle.amqp_links.specs.declared.errors.LinkStateError.TheVariants as link_errors
use Rattle.amqp_links.specs.Calls.{after_look}
use Rattle.amqp_links.specs.Polls.{polled}
use Rattle.amqp_links.specs.Sending.{Answer, unsettled_count}
use Rattle.amqp_links.specs.SenderWire.{SenderWire, answered, filled_at, given_at, looked, ready_on, sender_tells, with_slot}
use Rattle.amqp_controller_calls.specs.declared.errors.ControllerSendError.{ControllerSendError}
use Rattle.amqp_controller_calls.specs.Polls.{LooksOnce, found_of, outcome_of, waited}
use Rattle.txn_world_wires.specs.Links.{HasHeard, IsAwaited, IsQuiet}
use Rattle.txn_world_wires.proofs.Lists.{get-set_other, get-set_same}

-- of calls none of which is to fail, the next doesn't
pub none_failing : (calls : Calls) → calls.failing ≡ [] → is_failing calls ≡ false
unfolding is_failing
none_failing calls h = ap (λ (l : List ℕ). list_any (λ (number : ℕ). number == one_more calls.made) l) h

-- ---- what is heard

-- the slot of an answer that is awaited, once it was filled in
filled_slot_at : (answers : List AnswerSlot) (n : ℕ) (answer : Answer) → slice_get answers n ≡ Some slots.Awaited → filled_at answers n answer ≡ slice_set answers n (slots.Ready answer)
filled_slot_at answers n answer h = ap (λ (o : Option AnswerSlot). with_slot answers n (option_map (λ slot. filled_slot slot answer) o)) h

-- it stands ready there
pub stands_ready : (w : SenderWire) (token : Token) (answer : Answer) → slice_get w.answers token.0 ≡ Some slots.Awaited → slice_get (answered w token answer).answers token.0 ≡ Some (slots.Ready answer)
stands_ready w token answer h =
    ap (λ (l : List AnswerSlot). slice_get l token.0) (filled_slot_at w.answers token.0 answer h)
    ∙ get-set_same w.answers token.0 (slots.Ready answer) (slice_get_within w.answers token.0 slots.Awaited h)

-- a poll finds it
pub finds : {R : Type 0} (by_state : DeliveryState → Result R ControllerSendError) (w : SenderWire) (token : Token) (answer : Answer) → IsQuiet w → slice_get w.answers token.0 ≡ Some slots.Awaited → found_of by_state (sender_tells (answered w token answer)) (sendings.Unsettled token) ≡ waits.Ready (outcome_of by_state answer)
finds {R} by_state w token answer q h =
    let ready : ready_on (answered w token answer) token.0 ≡ Some answer =
    ap (λ (b : Bool). cond b (Some (Err link_errors.IllegalState)) (answer_in (slice_get (answered w token answer).answers token.0))) (none_failing w.calls q.failing)
    ∙ ap answer_in (stands_ready w token answer h) in
    ap (λ (o : Option Answer). waited (sendings.Unsettled token) (outcome_of by_state) (polled o)) ready

-- what a look leaves
look_failing : (calls : Calls) (found : Poll Answer) → (after_look calls found).failing ≡ calls.failing
look_failing calls polls.Pending = refl
look_failing calls (polls.Ready (Ok state)) = refl
look_failing calls (polls.Ready (Err error)) = refl

given_slot_at : (answers : List AnswerSlot) (n : ℕ) (answer : Answer) → slice_get answers n ≡ Some (slots.Ready answer) → given_at answers n ≡ slice_set answers n slots.Given
given_slot_at answers n answer h = ap (λ (o : Option AnswerSlot). with_slot answers n (option_map emptied_slot o)) h

pub has_heard : (old new : SenderWire) (token : Token) (answer : Answer) (found : Poll Answer) → IsQuiet old → slice_get old.answers token.0 ≡ Some slots.Awaited → new ≡ looked (answered old token answer) token found → HasHeard old new (sendings.Unsettled token)
has_heard old new token answer found q h e =
    let filled = slice_set old.answers token.0 (slots.Ready answer) in
    let given = slice_set filled token.0 slots.Given in
    let at : slice_get filled token.0 ≡ Some (slots.Ready answer) = get-set_same old.answers token.0 (slots.Ready answer) (slice_get_within old.answers token.0 slots.Awaited h) in
    let put : new.put ≡ old.put = ap (λ (w : SenderWire). w.put) e in
    let answers : new.answers ≡ given =
    ap (λ (w : SenderWire). w.answers) e
    ∙ ap (λ (b : Bool). cond b (answered old token answer).answers (given_at (answered old token answer).answers token.0)) (none_failing old.calls q.failing)
    ∙ ap (λ (l : List AnswerSlot). given_at l token.0) (filled_slot_at old.answers token.0 answer h)
    ∙ given_slot_at filled token.0 answer at in
    let len : length given ≡ length old.answers = length-set filled token.0 slots.Given ∙ length-set old.answers token.0 (slots.Ready answer) in
    record {
      put = put;
      others = λ other n is ne.
          let same : token ≡ other = cc is in
          let apart : n ≡ token.0 → ⊥ = λ f. ne (f ∙ ap (λ (t : Token). t.0) same) in
          ap (λ (l : List AnswerSlot). slice_get l n) answers
          ∙ get-set_other filled token.0 n slots.Given apart
          ∙ get-set_other old.answers token.0 n (slots.Ready answer) apart;
      quiet = record {
        failing = ap (λ (w : SenderWire). w.calls.failing) e ∙ look_failing old.calls found ∙ q.failing;
        count = ap (λ (l : List AnswerSlot). length l) answers ∙ len ∙ q.count ∙ ap unsettled_count (sym put);
      };
    }

-- ---- what a call that was sent so finds and leaves, once its answer is filled in

awaited_at : (w : SenderWire) (sent : Sent) (token : Token) → IsAwaited w sent → sendings.Unsettled token ≡ sent → slice_get w.answers token.0 ≡ Some slots.Awaited
awaited_at w sent token a e =
    let same : a.token ≡ token = let f = sym a.sent_is ∙ sym e in cc f in
    subst (λ (t : Token). slice_get w.answers t.0 ≡ Some slots.Awaited) same a.slot

pub finds_answer : {R : Type 0} (by_state : DeliveryState → Result R ControllerSendError) (w mid : SenderWire) (sent : Sent) (token : Token) (answer : Answer) (outcome : Result R ControllerSendError) → IsQuiet w → IsAwaited w sent → sendings.Unsettled token ≡ sent → mid ≡ answered w token answer → waits.Ready outcome ≡ found_of by_state (sender_tells mid) sent → outcome ≡ outcome_of by_state answer
finds_answer {R} by_state w mid sent token answer outcome q a e m f =
    let here : found_of by_state (sender_tells mid) sent ≡ found_of by_state (sender_tells (answered w token answer)) (sendings.Unsettled token) =
    ap (λ (x : SenderWire). found_of by_state (sender_tells x) sent) m
    ∙ ap (λ (x : Sent). found_of by_state (sender_tells (answered w token answer)) x) (sym e) in
    let ready : waits.Ready outcome ≡ waits.Ready (outcome_of by_state answer) = f ∙ here ∙ finds by_state w token answer q (awaited_at w sent token a e) in
    cc ready

pub hears_answer : (old mid new : SenderWire) (sent : Sent) (token : Token) (answer : Answer) → IsQuiet old → IsAwaited old sent → sendings.Unsettled token ≡ sent → mid ≡ answered old token answer → LooksOnce (λ (a b : SenderWire) (t : Token) (found : Poll Answer). b ≡ looked a t found) sender_tells mid new sent → HasHeard old new sent
hears_answer old mid new sent token answer q a e m looks =
    let one : LooksOnce (λ (x y : SenderWire) (t : Token) (found : Poll Answer). y ≡ looked x t found) sender_tells mid new (sendings.Unsettled token) =
    subst (λ (x : Sent). LooksOnce (λ (x y : SenderWire) (t : Token) (found : Poll Answer). y ≡ looked x t found) sender_tells mid new x) (sym e) looks in
    let found : Poll Answer = polled (ready_on mid token.0) in
    let is : new ≡ looked (answered old token answer) token found = one.1 ∙ ap (λ (x : SenderWire). looked x token found) m in
    subst (λ (x : Sent). HasHeard old new x) e (has_heard old new token answer found q (awaited_at old sent token a e) is)
