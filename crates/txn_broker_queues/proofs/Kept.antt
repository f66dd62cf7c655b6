-- What is kept stays so, frame by frame.
use Rattle.txn_broker_queues.proofs.Words.{Attach, Bool, Disposition, Frame, Handle, Keeps, Lines, Link, List, Mail, Mark, None, Option, Sent, Some, [], ap, arith, came, cond, cons_option, enumerate_from, false, filter_map, filter_map-append, is_some, length, length_push, link_after, list_any, mail_at, mail_of, map, messages, named_link, nat_eq, none-some, option_map, option_to_list, pointwise, refl, same_Some, sent_on, slice_get, slice_get_within, subst, suc, sym, true, zero, ℕ, ◌++◌, ◌+◌, ◌<◌, ◌∙◌, ◌∷◌, ◌≡◌, ◌≤◌}
use Rattle.amqp_txn_types.specs.declared.performatives.Detach.{Detach}
use Rattle.amqp_txn_types.specs.declared.performatives.Flow.{Flow}
use Rattle.amqp_txn_types.specs.declared.performatives.Frame.TheVariants as frames
use Rattle.amqp_txn_types.specs.declared.performatives.Transfer.{Transfer}
use Rattle.indexmap.specs.IndexSet.{insert_all, insert_key}
use Rattle.std.proofs.lemmas.Grind.{fold-append}
use Rattle.txn_broker_queues.specs.Given.{max_messages}
use Rattle.txn_broker_queues.specs.Keeping.{Fades, attached_address, queue_names, same_handle}
use Rattle.txn_broker_queues.specs.Queues.{address_of, link_of}
use Rattle.txn_broker_queues.proofs.Mails.{mails_new, mails_removed, mails_same}
use Rattle.txn_broker_queues.proofs.Snoc.{link_more}

abbrev same_name : List ℕ → List ℕ → Bool
same_name a b = pointwise nat_eq a b

-- the names, and that of one more attach
names_more : (taken : List Frame) (frame : Frame) → queue_names (taken ++ frame ∷ []) ≡ insert_all same_name (queue_names taken) (option_to_list (attached_address frame))
names_more taken frame =
    ap (insert_all same_name [])
    (filter_map-append attached_address taken (frame ∷ []) ∙ ap (λ l. filter_map attached_address taken ++ l) (one (attached_address frame)))
    ∙ fold-append (insert_key same_name) [] (filter_map attached_address taken) (option_to_list (attached_address frame))
  where
    one : (o : Option (List ℕ)) → cons_option o [] ≡ option_to_list o
    one None = refl
    one (Some x) = refl

-- a flow changes nothing
pub keeps_flow : (taken : List Frame) (flow : Flow) (link : Handle → Option Link) (lines : Lines) → Keeps taken link lines → Keeps (taken ++ frames.Flow flow ∷ []) link lines
keeps_flow taken flow link lines keeps = record {
  links = λ handle. keeps.links handle ∙ sym (link_more taken (frames.Flow flow) handle.0);
  within = keeps.within;
  names = keeps.names ∙ sym (names_more taken (frames.Flow flow));
  mails = mails_same taken (frames.Flow flow) lines refl (λ number. refl) keeps.mails;
  few = keeps.few;
}

-- a detach frees its handle
pub keeps_detach : (taken : List Frame) (detach : Detach) (link new : Handle → Option Link) (lines : Lines)
    → ((handle : Handle) → new handle ≡ cond (same_handle detach.handle handle) None (link handle)) → Keeps taken link lines → Keeps (taken ++ frames.Detach detach ∷ []) new lines
keeps_detach taken detach link new lines is keeps = record {
  links = λ handle.
      ap (named_link lines.names) (is handle)
      ∙ by_case handle (same_handle detach.handle handle)
      ∙ sym (link_more taken (frames.Detach detach) handle.0);
  within = λ handle l e. within handle l (same_handle detach.handle handle) (sym (is handle) ∙ e);
  names = keeps.names ∙ sym (names_more taken (frames.Detach detach));
  mails = mails_same taken (frames.Detach detach) lines refl (λ number. refl) keeps.mails;
  few = keeps.few;
}
  where
    by_case : (handle : Handle) (b : Bool) → named_link lines.names (cond b None (link handle)) ≡ cond b None (link_after taken handle.0)
    by_case handle true = refl
    by_case handle false = keeps.links handle

    within : (handle : Handle) (l : Link) (b : Bool) → cond b None (link handle) ≡ Some l → l.queue < length lines.names
    within handle l true e = absurd (none-some l e)
    within handle l false e = keeps.within handle l e

-- a link is named as before where names are added at the end
named_grown : (names new : List (List ℕ)) (o : Option Link) → ((l : Link) → o ≡ Some l → slice_get new l.queue ≡ slice_get names l.queue) → named_link new o ≡ named_link names o
named_grown names new None same = refl
named_grown names new (Some l) same = ap (option_map (λ (name : List ℕ). record { address = name; peer = l.peer })) (same l refl)

get_left : (names : List (List ℕ)) (name : List ℕ) (i : ℕ) → i < length names → slice_get (names ++ name ∷ []) i ≡ slice_get names i
get_left [] name i below = absurd (omega (arith, below))
get_left (x ∷ names) name zero below = refl
get_left (x ∷ names) name (suc i) below = get_left names name i (omega (arith, below))

-- the names that were there stay where they are
insert_left : (names : List (List ℕ)) (name : List ℕ) (i : ℕ) → i < length names → slice_get (insert_key same_name names name) i ≡ slice_get names i
insert_left names name i below = by_case (list_any (same_name name) names)
  where
    by_case : (b : Bool) → slice_get (cond b names (names ++ name ∷ [])) i ≡ slice_get names i
    by_case true = refl
    by_case false = get_left names name i below

insert_longer : (names : List (List ℕ)) (name : List ℕ) → length names ≤ length (insert_key same_name names name)
insert_longer names name = by_case (list_any (same_name name) names)
  where
    by_case : (b : Bool) → length names ≤ length (cond b names (names ++ name ∷ []))
    by_case true = omega arith
    by_case false = omega (arith, length_push names name)

-- a message's name stays
mails_named : (lines : Lines) (new : List (List ℕ)) (marks : List Mark) (mails : List Mail) → ((i : ℕ) (name : List ℕ) → slice_get lines.names i ≡ Some name → slice_get new i ≡ Some name)
    → ((i : ℕ) (m : Mail) → slice_get mails i ≡ Some m → is_some m.address ≡ true) → map (mail_at lines.names) marks ≡ mails → map (mail_at new) marks ≡ mails
mails_named lines new [] mails stays some same = same
mails_named lines new (m ∷ marks) [] stays some same = absurd (cc same)
mails_named lines new (m ∷ marks) (x ∷ mails) stays some same =
    let head : mail_at lines.names m ≡ x = cc in
    let tail : map (mail_at lines.names) marks ≡ mails = cc in
    ap (λ o. record { place = m.place; address = o; waits = m.waits } ∷ map (mail_at new) marks)
    (read (slice_get lines.names m.queue) refl (ap is_some (ap (λ (y : Mail). y.address) head) ∙ some 0 x refl))
    ∙ ap (λ y. y ∷ map (mail_at new) marks) head
    ∙ ap (λ l. x ∷ l) (mails_named lines new marks mails stays (λ i y e. some (suc i) y e) tail)
  where
    read : (o : Option (List ℕ)) → slice_get lines.names m.queue ≡ o → is_some o ≡ true → slice_get new m.queue ≡ slice_get lines.names m.queue
    read None e none = absurd (cc none)
    read (Some name) e so = stays m.queue name e ∙ sym e

mails_some : (taken : List Frame) (n : ℕ) (sents : List Sent) (i : ℕ) (m : Mail) → slice_get (map (mail_of taken) (enumerate_from n sents)) i ≡ Some m → is_some m.address ≡ true
mails_some taken n [] i m e = absurd (none-some m e)
mails_some taken n (s ∷ sents) zero m e = ap (λ (y : Mail). is_some y.address) (sym (same_Some (mail_of taken (n, s)) m e))
mails_some taken n (s ∷ sents) (suc i) m e = mails_some taken (n + 1) sents i m e

-- an attach links its handle to the queue of its address
pub keeps_attach : (taken : List Frame) (attach : Attach) (address : List ℕ) (queue : ℕ) (link new : Handle → Option Link) (lines wide : Lines)
    → address_of attach ≡ Some address
    → ((handle : Handle) → new handle ≡ cond (same_handle attach.handle handle) (Some (record { queue = queue; peer = attach.role })) (link handle))
    → wide.names ≡ insert_key same_name lines.names address → wide.marks ≡ lines.marks → slice_get wide.names queue ≡ Some address
    → Keeps taken link lines → Keeps (taken ++ frames.Attach attach ∷ []) new wide
keeps_attach taken attach address queue link new lines wide named is names marks at keeps = record {
  links = λ handle.
      ap (named_link wide.names) (is handle)
      ∙ by_case handle (same_handle attach.handle handle)
      ∙ sym (link_more taken (frames.Attach attach) handle.0);
  within = λ handle l e. within handle l (same_handle attach.handle handle) (sym (is handle) ∙ e);
  names =
      names ∙ ap (λ ns. insert_key same_name ns address) keeps.names
      ∙ ap (λ o. insert_all same_name (queue_names taken) (option_to_list o)) (sym named)
      ∙ sym (names_more taken (frames.Attach attach));
  mails =
      ap (map (mail_at wide.names)) marks
      ∙ mails_named lines wide.names lines.marks _
      (λ i name e.
      ap (λ ns. slice_get ns i) names ∙ insert_left lines.names address i (slice_get_within lines.names i name e) ∙ e)
      (λ i m e. mails_some (taken ++ frames.Attach attach ∷ []) 0 (messages (taken ++ frames.Attach attach ∷ [])) i m e)
      (mails_same taken (frames.Attach attach) lines refl (λ number. refl) keeps.mails);
  few = omega (arith, keeps.few, ap (λ (ms : List Mark). length ms) marks);
}
  where
    grown : (o : Option Link) → ((l : Link) → o ≡ Some l → l.queue < length lines.names) → named_link wide.names o ≡ named_link lines.names o
    grown o below = named_grown lines.names wide.names o (λ l e. ap (λ ns. slice_get ns l.queue) names ∙ insert_left lines.names address l.queue (below l e))

    by_case : (handle : Handle) (b : Bool) → named_link wide.names (cond b (Some (record { queue = queue; peer = attach.role })) (link handle)) ≡ cond b (link_of attach) (link_after taken handle.0)
    by_case handle true =
        ap (option_map (λ (name : List ℕ). record { address = name; peer = attach.role })) at
        ∙ ap (option_map (λ (name : List ℕ). record { address = name; peer = attach.role })) (sym named)
    by_case handle false = grown (link handle) (keeps.within handle) ∙ keeps.links handle

    within : (handle : Handle) (l : Link) (b : Bool) → cond b (Some (record { queue = queue; peer = attach.role })) (link handle) ≡ Some l → l.queue < length wide.names
    within handle l true e =
        subst (λ (y : Link). y.queue < length wide.names) (same_Some (record { queue = queue; peer = attach.role }) l e)
        (slice_get_within wide.names queue address at)
    within handle l false e = omega (arith, keeps.within handle l e, insert_longer lines.names address, ap (λ (ns : List (List ℕ)). length ns) names)

-- a transfer is the last message of its queue
pub keeps_transfer : (taken : List Frame) (transfer : Transfer) (payload : List ℕ) (s : Sent) (queue : ℕ) (link : Handle → Option Link) (lines new : Lines)
    → sent_on (length taken) payload (link_after taken transfer.handle.0) ≡ Some s → s.place ≡ length taken → slice_get lines.names queue ≡ Some s.address
    → new.names ≡ lines.names → new.marks ≡ lines.marks ++ came (length taken) queue ∷ [] → length lines.marks < max_messages
    → Keeps taken link lines → Keeps (taken ++ frames.Transfer transfer payload ∷ []) link new
keeps_transfer taken transfer payload s queue link lines new is at name names marks below keeps = record {
  links = λ handle.
      ap (λ ns. named_link ns (link handle)) names ∙ keeps.links handle ∙ sym (link_more taken (frames.Transfer transfer payload) handle.0);
  within = λ handle l e. omega (arith, keeps.within handle l e, ap (λ (ns : List (List ℕ)). length ns) names);
  names = names ∙ keeps.names ∙ sym (names_more taken (frames.Transfer transfer payload));
  mails = mails_new taken (frames.Transfer transfer payload) lines new s queue is at (λ number. refl) names marks name keeps.mails;
  few = omega (arith, below, length_push lines.marks (came (length taken) queue), ap (λ (ms : List Mark). length ms) marks);
}

-- a disposition removes what it covers
pub keeps_disposition : (taken : List Frame) (d : Disposition) (link : Handle → Option Link) (lines new : Lines)
    → new.names ≡ lines.names → Fades (frames.Disposition d) lines.marks new.marks
    → Keeps taken link lines → Keeps (taken ++ frames.Disposition d ∷ []) link new
keeps_disposition taken d link lines new names fades keeps = record {
  links = λ handle.
      ap (λ ns. named_link ns (link handle)) names ∙ keeps.links handle ∙ sym (link_more taken (frames.Disposition d) handle.0);
  within = λ handle l e. omega (arith, keeps.within handle l e, ap (λ (ns : List (List ℕ)). length ns) names);
  names = names ∙ keeps.names ∙ sym (names_more taken (frames.Disposition d));
  mails = mails_removed taken (frames.Disposition d) lines new refl names fades.len fades.each keeps.mails;
  few = omega (arith, keeps.few, fades.len);
}

-- what is kept stays so where it is said of the same links, names and messages
pub keeps_same : (taken : List Frame) (link new : Handle → Option Link) (lines wide : Lines) → ((handle : Handle) → new handle ≡ link handle)
    → wide.names ≡ lines.names → wide.marks ≡ lines.marks → Keeps taken link lines → Keeps taken new wide
keeps_same taken link new lines wide same names marks keeps = record {
  links = λ handle. ap (λ ns. named_link ns (new handle)) names ∙ ap (named_link lines.names) (same handle) ∙ keeps.links handle;
  within = λ handle l e. omega (arith, keeps.within handle l (sym (same handle) ∙ e), ap (λ (ns : List (List ℕ)). length ns) names);
  names = names ∙ keeps.names;
  mails =
      ap (λ ns. map (mail_at ns) wide.marks) names ∙ ap (map (mail_at lines.names)) marks ∙ keeps.mails;
  few = omega (arith, keeps.few, ap (λ (ms : List Mark). length ms) marks);
}

-- nothing is kept of no frames
pub keeps_nothing : (link : Handle → Option Link) (lines : Lines) → ((handle : Handle) → link handle ≡ None) → lines.names ≡ [] → lines.marks ≡ []
    → Keeps [] link lines
keeps_nothing link lines none names marks = record {
  links = λ handle. ap (named_link lines.names) (none handle);
  within = λ handle l e. absurd (none-some l (sym (none handle) ∙ e));
  names = names;
  mails = ap (map (mail_at lines.names)) marks;
  few = omega (arith, ap (λ (ms : List Mark). length ms) marks);
}
