-- What the transactions heard, by the stage of the last one.
use Rattle.std.proofs.Common.{◌≡◌, ℕ, zero, suc, ◌+◌, ◌<◌, Bool, true, false, cond, Option, Some, None, List, [], ◌∷◌, ◌++◌, refl, ◌∙◌, ap, arith}
use Rattle.std.specs.Prelude.{◌==◌}
use Rattle.std.proofs.lemmas.Bool.{eq-eqb}
use Rattle.amqp_txn_types.specs.declared.id.TransactionId.{TransactionId}
use Rattle.amqp_resource_record.specs.declared.entry.Entry.{Entry}
use Rattle.amqp_resource_record.specs.declared.reply.Reply.{Reply}
use Rattle.txn_broker_queues.specs.declared.message.Message.{Message}
use Rattle.txn_parties.specs.declared.event.Heard.{Heard}
use Rattle.txn_parties.specs.declared.event.Heard.TheVariants as hearings
use Rattle.txn_parties.specs.declared.item.Answered.{Answered}
use Rattle.txn_parties.specs.declared.item.Asked.TheVariants as asked
use Rattle.txn_parties.specs.declared.item.Item.{Item}
use Rattle.txn_parties.specs.declared.item.Item.TheVariants as items
use Rattle.txn_parties.specs.declared.item.ReplyState.{ReplyState}
use Rattle.txn_parties.specs.declared.item.ReplyState.TheVariants as states
use Rattle.txn_parties.specs.BackWire.{answers, declared_id, heard_by, id_in, state_of, verdict, verdict_in}
use Rattle.txn_parties.specs.Exchange.{Exchange, back_of, heard}
use Rattle.txn_parties.specs.Items.{or_else}
use Rattle.txn_parties.proofs.Wires.{id_in-append, verdict_in-append}
use Rattle.txn_relay.specs.Once.{committed_among, is_committed}
use Rattle.txn_relay.specs.Stages.{Behind, Last, SaysCommitted, declared}
use Rattle.txn_relay.proofs.Behind.{no_id, no_verdict}

-- one that heard Committed goes on to say so, whatever is heard later
keep_committed : (a : Option TransactionId) (v : Option Heard) (b : Option TransactionId) (w : Option Heard) → heard_by a v ≡ hearings.Committed → heard_by (or_else a b) (or_else v w) ≡ hearings.Committed
keep_committed None v b w h = cc h
keep_committed (Some t) None b w h = cc h
keep_committed (Some t) (Some v) b w h = h

pub still_committed : (x : ℕ) (told more : List Answered) → heard_by (id_in x told) (verdict_in x told) ≡ hearings.Committed → heard_by (id_in x (told ++ more)) (verdict_in x (told ++ more)) ≡ hearings.Committed
still_committed x told more h =
    ap (λ o. heard_by o (verdict_in x (told ++ more))) (id_in-append x told more)
    ∙ ap (λ v. heard_by (or_else (id_in x told) (id_in x more)) v) (verdict_in-append x told more)
    ∙ keep_committed (id_in x told) (verdict_in x told) (id_in x more) (verdict_in x more) h

-- ---- how many heard Committed

pub all_committed : (sides : Exchange) (n : ℕ) → ((x : ℕ) → x < n → heard sides x ≡ hearings.Committed) → committed_among sides n ≡ n
all_committed sides zero each = refl
all_committed sides (suc n) each =
    let one : cond {A = ℕ} (is_committed (heard sides n)) 1 0 ≡ 1 = ap (λ h. cond (is_committed h) 1 0) (each n (omega arith)) in
    let more : n + 1 ≡ suc n = omega arith in
    ap (λ k. k + cond (is_committed (heard sides n)) 1 0) (all_committed sides n (λ x less. each x (omega (arith, less)))) ∙ ap (λ k. n + k) one ∙ more

-- ---- the last transaction

-- the transactions before the last one heard Committed
pub earlier : (sides : Exchange) (work : List Message) (txn : ℕ) (m : Message) (came : List (Item × Entry)) (waiting : List Item) (told coming : List Answered) → Last sides work txn m came waiting told coming → (x : ℕ) → x < txn → heard sides x ≡ hearings.Committed
earlier sides work txn m came waiting told coming l x less =
    ap (λ a. heard_by (id_in x a) (verdict_in x a)) l.told_is
    ∙ still_committed x (back_of l.past) told (l.behind.heard x less)

-- what one heard that isn't among those before are the answers after theirs alone
pub own_heard : (first : List Entry) (past : List (Item × Entry)) (txn : ℕ) (told : List Answered) → Behind first past txn → heard_by (id_in txn (back_of past ++ told)) (verdict_in txn (back_of past ++ told)) ≡ heard_by (id_in txn told) (verdict_in txn told)
own_heard first past txn told b =
    ap (λ o. heard_by o (verdict_in txn (back_of past ++ told))) (id_in-append txn (back_of past) told ∙ ap (λ o. or_else o (id_in txn told)) (no_id txn txn (omega arith) past b.below))
    ∙ ap (λ v. heard_by (id_in txn told) v) (verdict_in-append txn (back_of past) told ∙ ap (λ v. or_else v (verdict_in txn told)) (no_verdict txn txn (omega arith) past b.below))

pub last_heard : (sides : Exchange) (work : List Message) (txn : ℕ) (m : Message) (came : List (Item × Entry)) (waiting : List Item) (told coming : List Answered) → Last sides work txn m came waiting told coming → heard sides txn ≡ heard_by (id_in txn told) (verdict_in txn told)
last_heard sides work txn m came waiting told coming l =
    ap (λ a. heard_by (id_in txn a) (verdict_in txn a)) l.told_is ∙ own_heard sides.first l.past txn told l.behind

pub last_id : (sides : Exchange) (work : List Message) (txn : ℕ) (m : Message) (came : List (Item × Entry)) (waiting : List Item) (told coming : List Answered) → Last sides work txn m came waiting told coming → id_in txn sides.told ≡ id_in txn told
last_id sides work txn m came waiting told coming l =
    ap (id_in txn) l.told_is ∙ id_in-append txn (back_of l.past) told ∙ ap (λ o. or_else o (id_in txn told)) (no_id txn txn (omega arith) l.past l.behind.below)

own : (txn : ℕ) → (txn == txn) ≡ true
own txn = eq-eqb txn txn refl

-- the answer to its declare
pub declare_id : (txn : ℕ) (reply : Reply) → id_in txn (answers (items.Declare txn 0) reply) ≡ declared_id asked.Declare (state_of reply)
declare_id txn reply = ap (λ b. or_else (cond b (declared_id asked.Declare (state_of reply)) None) None) (own txn) ∙ none_after (declared_id asked.Declare (state_of reply))
  where
    none_after : (o : Option TransactionId) → or_else o None ≡ o
    none_after None = refl
    none_after (Some t) = refl

-- it heard its id
pub declared_heard : (txn : ℕ) (id : TransactionId) (more : List Answered) → id_in txn (declared txn id ∷ more) ≡ Some id
declared_heard txn id more = ap (λ b. or_else (cond b (Some id) None) (id_in txn more)) (own txn)

no_verdict_of : (b : Bool) → cond {A = Option Heard} b None None ≡ None
no_verdict_of true = refl
no_verdict_of false = refl

pub declared_verdict : (txn : ℕ) (id : TransactionId) (more : List Answered) → verdict_in txn (declared txn id ∷ more) ≡ verdict_in txn more
declared_verdict txn id more = ap (λ o. or_else o (verdict_in txn more)) (no_verdict_of (txn == txn))

-- the answer to its commit
pub commit_verdict : (txn : ℕ) (id : TransactionId) (reply : Reply) → verdict_in txn (answers (items.Discharge txn 0 id false) reply) ≡ verdict asked.Commit (state_of reply)
commit_verdict txn id reply = ap (λ b. or_else (cond b (verdict asked.Commit (state_of reply)) None) None) (own txn) ∙ none_after (verdict asked.Commit (state_of reply))
  where
    none_after : (o : Option Heard) → or_else o None ≡ o
    none_after None = refl
    none_after (Some t) = refl

-- before the answer to its declare it heard nothing of it
pub heard_none : (txn : ℕ) → heard_by (id_in txn []) (verdict_in txn []) ≡ hearings.Undeclared
heard_none txn = refl

pub heard_refused : (txn : ℕ) (reply : Reply) → declared_id asked.Declare (state_of reply) ≡ None → heard_by (id_in txn (answers (items.Declare txn 0) reply)) (verdict_in txn (answers (items.Declare txn 0) reply)) ≡ hearings.Undeclared
heard_refused txn reply none = ap (λ o. heard_by o (verdict_in txn (answers (items.Declare txn 0) reply))) (declare_id txn reply ∙ none)

pub heard_declared : (txn : ℕ) (id : TransactionId) → heard_by (id_in txn (declared txn id ∷ [])) (verdict_in txn (declared txn id ∷ [])) ≡ hearings.Nothing
heard_declared txn id =
    ap (λ o. heard_by o (verdict_in txn (declared txn id ∷ []))) (declared_heard txn id [])
    ∙ ap (λ v. heard_by (Some id) v) (declared_verdict txn id [])

pub heard_ended : (txn : ℕ) (id : TransactionId) (reply : Reply) → heard_by (id_in txn (declared txn id ∷ answers (items.Discharge txn 0 id false) reply)) (verdict_in txn (declared txn id ∷ answers (items.Discharge txn 0 id false) reply)) ≡ heard_by (Some id) (verdict asked.Commit (state_of reply))
heard_ended txn id reply =
    ap (λ o. heard_by o (verdict_in txn (declared txn id ∷ answers (items.Discharge txn 0 id false) reply))) (declared_heard txn id (answers (items.Discharge txn 0 id false) reply))
    ∙ ap (λ v. heard_by (Some id) v) (declared_verdict txn id (answers (items.Discharge txn 0 id false) reply) ∙ commit_verdict txn id reply)

-- once it was told something else than Committed, it heard nothing or Rejected
pub data NotCommitted (h : Heard) : Type 0 where
  IsNothing : h ≡ hearings.Nothing → NotCommitted h
  IsRejected : h ≡ hearings.Rejected → NotCommitted h

pub not_committed : (id : TransactionId) (commit : Entry) → (SaysCommitted commit → ⊥) → NotCommitted (heard_by (Some id) (verdict asked.Commit (state_of commit.reply)))
not_committed id commit isnt = by_state (state_of commit.reply) isnt
  where
    by_state : (s : ReplyState) → (verdict asked.Commit s ≡ Some hearings.Committed → ⊥) → NotCommitted (heard_by (Some id) (verdict asked.Commit s))
    by_state (states.Declared t) isnt = IsNothing refl
    by_state states.Accepted isnt = absurd (isnt refl)
    by_state (states.Rejected error text) isnt = IsRejected refl
    by_state states.Closed isnt = IsNothing refl
