-- What a transaction heard is the answer to its own request.
use Rattle.std.proofs.Common.{◌≡◌, ℕ, Bool, true, false, cond, Option, Some, None, List, [], ◌∷◌, refl, sym, ◌∙◌, ap, subst, ◌⊎◌, inl, inr}
use Rattle.std.specs.Prelude.{◌==◌}
use Rattle.std.proofs.lemmas.Bool.{eqb-true}
use Rattle.amqp_txn_types.specs.declared.id.TransactionId.{TransactionId}
use Rattle.amqp_txn_types.specs.declared.small.TransactionError.{TransactionError}
use Rattle.amqp_below_layer.specs.declared.answers.Answers.{Answers}
use Rattle.amqp_resource_record.specs.declared.entry.Entry.{Entry}
use Rattle.amqp_resource_record.specs.declared.reply.Reply.{Reply}
use Rattle.amqp_resource_record.specs.declared.reply.Reply.TheVariants as replies
use Rattle.amqp_resource_record.specs.declared.reply.RejectText.{RejectText}
use Rattle.txn_parties.specs.declared.event.Heard.{Heard}
use Rattle.txn_parties.specs.declared.event.Heard.TheVariants as hearings
use Rattle.txn_parties.specs.declared.item.Item.{Item}
use Rattle.txn_parties.specs.declared.item.Item.TheVariants as items
use Rattle.txn_parties.specs.Items.{or_else}
use Rattle.txn_parties.specs.BackWire.{answers, heard_by, id_in, verdict_in}
use Rattle.txn_parties.specs.Exchange.{Exchange, back_of, heard}
use Rattle.txn_parties.specs.Invariant.{Keeps}
use Rattle.txn_parties.specs.Agreement.{OwnAnswer, OwnDeclare, Replied}
use Rattle.txn_parties.proofs.Wires.{id_in-append, verdict_in-append}
use Rattle.txn_parties.proofs.Turning.{heard_back}
use Rattle.txn_parties.proofs.Agreeing.{heard_verdict}

or_split : {A : Type 0} (a b : Option A) (v : A) → or_else a b ≡ Some v → (a ≡ Some v) ⊎ (b ≡ Some v)
or_split None b v h = inr h
or_split (Some z) b v h = inl h

first_of_two : {A : Type 0} (a : Option A) (v : A) → or_else a None ≡ Some v → a ≡ Some v
first_of_two None v h = cc h
first_of_two (Some z) v h = h

cond_split : {A : Type 0} (b : Bool) (o : Option A) (v : A) → cond b o None ≡ Some v → (b ≡ true) × (o ≡ Some v)
cond_split true o v h = (refl, h)
cond_split false o v h = cc h

-- the answer to one request of x
asked_here : {A : Type 0} (x y : ℕ) (o : Option A) (v : A) → or_else (cond (x == y) o None) None ≡ Some v → (x ≡ y) × (o ≡ Some v)
asked_here x y o v h = let p = cond_split (x == y) o v (first_of_two (cond (x == y) o None) v h) in (eqb-true x y p.0, p.1)

-- ---- a later item

replied_later : (p : Item × Entry) (came : List (Item × Entry)) (i : Item) (reply : Reply) → Replied came i reply → Replied (p ∷ came) i reply
replied_later p came i reply r = record { before = p ∷ r.before; after = r.after; entry = r.entry; parts = ap (λ l. p ∷ l) r.parts; answer = r.answer }

replied_now : (i j : Item) (e : Entry) (came : List (Item × Entry)) (reply : Reply) → i ≡ j → e.reply ≡ reply → Replied ((i, e) ∷ came) j reply
replied_now i j e came reply h g = record { before = []; after = came; entry = e; parts = ap (λ z. (z, e) ∷ came) h; answer = g }

-- ---- its declare

declared_here : (x y k : ℕ) (t : TransactionId) (reply : Reply) → id_in x (answers (items.Declare y k) reply) ≡ Some t → (items.Declare y k ≡ items.Declare x k) × (reply ≡ replies.Declared t)
declared_here x y k t (replies.Declared u) h =
    let p = asked_here x y (Some u) t h in
    let ut : u ≡ t = cc p.1 in (ap (λ z. items.Declare z k) (sym p.0), ap (λ z. replies.Declared z) ut)
declared_here x y k t _ h = let p = asked_here {A = TransactionId} x y None t h in cc p.1

no_id : (x y k : ℕ) (u t : TransactionId) (rollback : Bool) (reply : Reply) → id_in x (answers (items.Discharge y k u rollback) reply) ≡ Some t → ⊥
no_id x y k u t true reply h = let p = asked_here {A = TransactionId} x y None t h in cc p.1
no_id x y k u t false reply h = let p = asked_here {A = TransactionId} x y None t h in cc p.1

declare_by : (x : ℕ) (t : TransactionId) (i : Item) (e : Entry) (came : List (Item × Entry)) → id_in x (answers i e.reply) ≡ Some t → (k : ℕ) × Replied ((i, e) ∷ came) (items.Declare x k) (replies.Declared t)
declare_by x t (items.Declare y k) e came h =
    let p = declared_here x y k t e.reply h in (k, replied_now (items.Declare y k) (items.Declare x k) e came (replies.Declared t) p.0 p.1)
declare_by x t (items.Discharge y k u rollback) e came h = absurd (no_id x y k u t rollback e.reply h)
declare_by x t (items.LinkEnd k) e came h = cc h
declare_by x t (items.Frame frame) e came h = cc h

declare_in : (x : ℕ) (t : TransactionId) (came : List (Item × Entry)) → id_in x (back_of came) ≡ Some t → (k : ℕ) × Replied came (items.Declare x k) (replies.Declared t)
declare_in x t [] h = cc h
declare_in x t (p ∷ came) h = by_place (or_split (id_in x (answers p.0 p.1.reply)) (id_in x (back_of came)) t (sym (id_in-append x (answers p.0 p.1.reply) (back_of came)) ∙ h)) (λ g. declare_in x t came g)
  where
    by_place : (id_in x (answers p.0 p.1.reply) ≡ Some t) ⊎ (id_in x (back_of came) ≡ Some t) → (id_in x (back_of came) ≡ Some t → (k : ℕ) × Replied came (items.Declare x k) (replies.Declared t)) → (k : ℕ) × Replied (p ∷ came) (items.Declare x k) (replies.Declared t)
    by_place (inl g) more = declare_by x t p.0 p.1 came g
    by_place (inr g) more = let r = more g in (r.0, replied_later p came (items.Declare x r.0) (replies.Declared t) r.1)

pub own_declare : (w : Exchange) (x : ℕ) (t : TransactionId) → Keeps w → id_in x w.told ≡ Some t → OwnDeclare w x t
own_declare w x t k h = declare_in x t w.came (heard_back w x t k h)

-- ---- its discharge

-- which answer to which discharge of x it is that says this
pub data SaidBy (x : ℕ) (came : List (Item × Entry)) (v : Heard) : Type 0 where
  ByCommit : (k : ℕ) (t : TransactionId) (echoes : List Answers) → v ≡ hearings.Committed → Replied came (items.Discharge x k t false) (replies.Accepted echoes) → SaidBy x came v
  ByRollback : (k : ℕ) (t : TransactionId) (echoes : List Answers) → v ≡ hearings.RolledBack → Replied came (items.Discharge x k t true) (replies.Accepted echoes) → SaidBy x came v
  ByRejection : (k : ℕ) (t : TransactionId) (rollback : Bool) (error : TransactionError) (text : RejectText) → v ≡ hearings.Rejected → Replied came (items.Discharge x k t rollback) (replies.Rejected error text) → SaidBy x came v

said_later : (x : ℕ) (p : Item × Entry) (came : List (Item × Entry)) (v : Heard) → SaidBy x came v → SaidBy x (p ∷ came) v
said_later x p came v (ByCommit k t echoes e r) = ByCommit k t echoes e (replied_later p came (items.Discharge x k t false) (replies.Accepted echoes) r)
said_later x p came v (ByRollback k t echoes e r) = ByRollback k t echoes e (replied_later p came (items.Discharge x k t true) (replies.Accepted echoes) r)
said_later x p came v (ByRejection k t rollback error text e r) = ByRejection k t rollback error text e (replied_later p came (items.Discharge x k t rollback) (replies.Rejected error text) r)

said_now : (x y k : ℕ) (t : TransactionId) (rollback : Bool) (e : Entry) (reply : Reply) (came : List (Item × Entry)) (v : Heard) → e.reply ≡ reply → verdict_in x (answers (items.Discharge y k t rollback) reply) ≡ Some v → SaidBy x ((items.Discharge y k t rollback, e) ∷ came) v
said_now x y k t false e (replies.Accepted echoes) came v g h =
    let p = asked_here x y (Some hearings.Committed) v h in
    let q : hearings.Committed ≡ v = cc p.1 in
    ByCommit k t echoes (sym q) (replied_now (items.Discharge y k t false) (items.Discharge x k t false) e came (replies.Accepted echoes) (ap (λ z. items.Discharge z k t false) (sym p.0)) g)
said_now x y k t true e (replies.Accepted echoes) came v g h =
    let p = asked_here x y (Some hearings.RolledBack) v h in
    let q : hearings.RolledBack ≡ v = cc p.1 in
    ByRollback k t echoes (sym q) (replied_now (items.Discharge y k t true) (items.Discharge x k t true) e came (replies.Accepted echoes) (ap (λ z. items.Discharge z k t true) (sym p.0)) g)
said_now x y k t false e (replies.Rejected error text) came v g h =
    let p = asked_here x y (Some hearings.Rejected) v h in
    let q : hearings.Rejected ≡ v = cc p.1 in
    ByRejection k t false error text (sym q) (replied_now (items.Discharge y k t false) (items.Discharge x k t false) e came (replies.Rejected error text) (ap (λ z. items.Discharge z k t false) (sym p.0)) g)
said_now x y k t true e (replies.Rejected error text) came v g h =
    let p = asked_here x y (Some hearings.Rejected) v h in
    let q : hearings.Rejected ≡ v = cc p.1 in
    ByRejection k t true error text (sym q) (replied_now (items.Discharge y k t true) (items.Discharge x k t true) e came (replies.Rejected error text) (ap (λ z. items.Discharge z k t true) (sym p.0)) g)
said_now x y k t false e _ came v g h = let p = asked_here {A = Heard} x y None v h in cc p.1
said_now x y k t true e _ came v g h = let p = asked_here {A = Heard} x y None v h in cc p.1

no_verdict : (x y k : ℕ) (reply : Reply) (v : Heard) → verdict_in x (answers (items.Declare y k) reply) ≡ Some v → ⊥
no_verdict x y k reply v h = let p = asked_here {A = Heard} x y None v h in cc p.1

said_by : (x : ℕ) (i : Item) (e : Entry) (came : List (Item × Entry)) (v : Heard) → verdict_in x (answers i e.reply) ≡ Some v → SaidBy x ((i, e) ∷ came) v
said_by x (items.Declare y k) e came v h = absurd (no_verdict x y k e.reply v h)
said_by x (items.Discharge y k t rollback) e came v h = said_now x y k t rollback e e.reply came v refl h
said_by x (items.LinkEnd k) e came v h = cc h
said_by x (items.Frame frame) e came v h = cc h

said_in : (x : ℕ) (came : List (Item × Entry)) (v : Heard) → verdict_in x (back_of came) ≡ Some v → SaidBy x came v
said_in x [] v h = cc h
said_in x (p ∷ came) v h = by_place (or_split (verdict_in x (answers p.0 p.1.reply)) (verdict_in x (back_of came)) v (sym (verdict_in-append x (answers p.0 p.1.reply) (back_of came)) ∙ h)) (λ g. said_in x came v g)
  where
    by_place : (verdict_in x (answers p.0 p.1.reply) ≡ Some v) ⊎ (verdict_in x (back_of came) ≡ Some v) → (verdict_in x (back_of came) ≡ Some v → SaidBy x came v) → SaidBy x (p ∷ came) v
    by_place (inl g) more = said_by x p.0 p.1 came v g
    by_place (inr g) more = said_later x p came v (more g)

own_of : (w : Exchange) (x : ℕ) (v : Heard) → SaidBy x w.came v → OwnAnswer w x v
own_of w x v (ByCommit k t echoes e r) = subst (λ (z : Heard). OwnAnswer w x z) (sym e) (k, t, echoes, r)
own_of w x v (ByRollback k t echoes e r) = subst (λ (z : Heard). OwnAnswer w x z) (sym e) (k, t, echoes, r)
own_of w x v (ByRejection k t rollback error text e r) = subst (λ (z : Heard). OwnAnswer w x z) (sym e) (k, t, rollback, error, text, r)

own_by : (w : Exchange) (x : ℕ) (o : Option TransactionId) (v : Option Heard) → Keeps w → verdict_in x w.told ≡ v → OwnAnswer w x (heard_by o v)
own_by w x None v kp h = tt
own_by w x (Some t) None kp h = tt
own_by w x (Some t) (Some v) kp h = own_of w x v (said_in x w.came v (heard_verdict w x v kp h))

pub own_answer : (w : Exchange) (x : ℕ) → Keeps w → OwnAnswer w x (heard w x)
own_answer w x kp = own_by w x (id_in x w.told) (verdict_in x w.told) kp refl
