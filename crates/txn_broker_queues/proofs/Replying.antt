-- What a broker refuses, and what it gives back, by the links that it keeps.
use Rattle.txn_broker_queues.proofs.Words.{Frame, Handle, Keeps, Lines, Link, Linked, List, Message, None, Option, Some, [], ap, cond, false, is_sender, is_some, link_after, map, queue, refl, refusal, slice_get, sym, take, true, ℕ, ◌∙◌, ◌≡◌}
use Rattle.amqp_below_layer.specs.declared.inner_error.SessionInnerError.TheVariants as faults
use Rattle.amqp_txn_types.specs.declared.performatives.Attach.{Attach}
use Rattle.amqp_txn_types.specs.declared.performatives.Detach.{Detach}
use Rattle.amqp_txn_types.specs.declared.performatives.Flow.{Flow}
use Rattle.amqp_txn_types.specs.declared.performatives.Frame.TheVariants as frames
use Rattle.txn_broker_queues.specs.Given.{attach_refusal, credit_back, flow_given, flow_refusal, given_back, handle_refusal, message_back}
use Rattle.txn_broker_queues.specs.Queues.{address_of}
use Rattle.txn_broker_queues.proofs.Linking.{link_none, link_some}

none_of : {A : Type 0} (o : Option A) → is_some o ≡ false → o ≡ None
none_of None un = refl
none_of (Some x) un = absurd (cc un)

some_of : {A : Type 0} (o : Option A) → is_some o ≡ true → (x : A) × (o ≡ Some x)
some_of None so = absurd (cc so)
some_of (Some x) so = (x, refl)

module _ (taken : List Frame) (link : Handle → Option Link) (lines : Lines) (keeps : Keeps taken link lines) where
  -- no link of the handle is kept
  unlinked : (handle : Handle) → is_some (link handle) ≡ false → link_after taken handle.0 ≡ None
  unlinked handle un = link_none taken link lines handle keeps (none_of (link handle) un)

  -- one is
  linked : (handle : Handle) → is_some (link handle) ≡ true → (l : Linked) × (link_after taken handle.0 ≡ Some l)
  linked handle so =
      let l = some_of (link handle) so in
      let found = link_some taken link lines handle l.0 keeps l.1 in (found.link, found.is)

  -- ---- attaches

  pub attach_in_use : (attach : Attach) → is_some (link attach.handle) ≡ true → refusal taken (frames.Attach attach) ≡ Some faults.HandleInUse
  attach_in_use attach so = ap (λ o. attach_refusal o (address_of attach)) (linked attach.handle so).1

  pub attach_nowhere : (attach : Attach) → is_some (link attach.handle) ≡ false → address_of attach ≡ None → refusal taken (frames.Attach attach) ≡ Some faults.IllegalState
  attach_nowhere attach un none =
      ap (λ o. attach_refusal o (address_of attach)) (unlinked attach.handle un) ∙ ap (attach_refusal None) none

  pub attach_fits : (attach : Attach) (address : List ℕ) → is_some (link attach.handle) ≡ false → address_of attach ≡ Some address → refusal taken (frames.Attach attach) ≡ None
  attach_fits attach address un some =
      ap (λ o. attach_refusal o (address_of attach)) (unlinked attach.handle un) ∙ ap (attach_refusal None) some

  -- ---- detaches

  pub detach_unattached : (detach : Detach) → is_some (link detach.handle) ≡ false → refusal taken (frames.Detach detach) ≡ Some faults.UnattachedHandle
  detach_unattached detach un = ap handle_refusal (unlinked detach.handle un)

  pub detach_fits : (detach : Detach) → is_some (link detach.handle) ≡ true → refusal taken (frames.Detach detach) ≡ None
  detach_fits detach so = ap handle_refusal (linked detach.handle so).1

  -- ---- flows

  pub flow_unattached : (flow : Flow) (handle : Handle) → flow.handle ≡ Some handle → link handle ≡ None → refusal taken (frames.Flow flow) ≡ Some faults.UnattachedHandle
  flow_unattached flow handle is none =
      ap (flow_refusal taken) is ∙ ap handle_refusal (link_none taken link lines handle keeps none)

  pub flow_fits : (flow : Flow) (handle : Handle) (l : Link) → flow.handle ≡ Some handle → link handle ≡ Some l → refusal taken (frames.Flow flow) ≡ None
  flow_fits flow handle l is some =
      ap (flow_refusal taken) is ∙ ap handle_refusal (link_some taken link lines handle l keeps some).is

  -- a flow on a link of which the peer is the sender brings nothing
  pub flow_sender : (flow : Flow) (handle : Handle) (l : Link) → flow.handle ≡ Some handle → link handle ≡ Some l → is_sender l.peer ≡ true → given_back taken (frames.Flow flow) ≡ []
  flow_sender flow handle l is some so =
      let found = link_some taken link lines handle l keeps some in
      ap (λ h. flow_given taken h flow.link_credit) is
      ∙ ap (credit_back taken handle flow.link_credit) found.is
      ∙ silent flow.link_credit found.link (ap is_sender found.peer ∙ so)
    where
      silent : (credit : Option ℕ) (x : Linked) → is_sender x.peer ≡ true → credit_back taken handle credit (Some x) ≡ []
      silent None x so = refl
      silent (Some n) x so = ap (λ b. cond b [] (map (message_back handle) (take n (queue taken x.address)))) so

  -- so does one without credit
  pub flow_bare : (flow : Flow) (handle : Handle) (l : Link) → flow.handle ≡ Some handle → link handle ≡ Some l → flow.link_credit ≡ None → given_back taken (frames.Flow flow) ≡ []
  flow_bare flow handle l is some none =
      let found = link_some taken link lines handle l keeps some in
      ap (λ h. flow_given taken h flow.link_credit) is
      ∙ ap (λ credit. flow_given taken (Some handle) credit) none
      ∙ ap (credit_back taken handle None) found.is

  -- a receiver's credit brings the first messages of its queue
  pub flow_brings : (flow : Flow) (handle : Handle) (l : Link) (n : ℕ) (copies : List Message) → flow.handle ≡ Some handle → link handle ≡ Some l → flow.link_credit ≡ Some n → is_sender l.peer ≡ false
      → ((name : List ℕ) → slice_get lines.names l.queue ≡ Some name → copies ≡ take n (queue taken name))
      → map (message_back handle) copies ≡ given_back taken (frames.Flow flow)
  flow_brings flow handle l n copies is some credit un first =
      let found = link_some taken link lines handle l keeps some in
      let receives : is_sender found.link.peer ≡ false = ap is_sender found.peer ∙ un in
      ap (map (message_back handle)) (first found.link.address found.named)
      ∙ sym
      (ap (λ h. flow_given taken h flow.link_credit) is
      ∙ ap (λ c. flow_given taken (Some handle) c) credit
      ∙ ap (credit_back taken handle (Some n)) found.is
      ∙ ap (λ b. cond b [] (map (message_back handle) (take n (queue taken found.link.address)))) receives)

-- a flow of the session is taken, and brings nothing
pub session_flow : (taken : List Frame) (flow : Flow) → flow.handle ≡ None → refusal taken (frames.Flow flow) ≡ None
session_flow taken flow none = ap (flow_refusal taken) none

pub session_silent : (taken : List Frame) (flow : Flow) → flow.handle ≡ None → given_back taken (frames.Flow flow) ≡ []
session_silent taken flow none = ap (λ h. flow_given taken h flow.link_credit) none
