-- The rule of the mailbox: of each sender, the places that were taken and then those in the queue are 0, 1, 2 and so on, up to the number that it has put.
use Rattle.std.specs.Prelude.{◌≡◌, ◌<◌, ◌≤◌, ◌==◌, ℕ, zero, suc, Bool, true, false, cond, List, [], ◌∷◌, ◌++◌, length}
use Rattle.std.specs.List.{All, range_with_len}
use mathlib.Core.Option.{some}
use lib.ListN.{get_elem?}
use Rattle.txn_mailbox_queue.specs.declared.item.Item.{Item}
use Rattle.txn_mailbox_queue.specs.declared.item.View.{View}

-- the places of a sender's items, in order
abbrev pub places : ℕ → List Item → List ℕ
places k [] = []
places k (x ∷ xs) = cond (x.sender == k) (x.place ∷ places k xs) (places k xs)

-- how many of the items are this sender's
abbrev pub count : ℕ → List Item → ℕ
count k items = length (places k items)

-- each sender's items are at its places 0, 1, 2 and so on
abbrev pub InTurn : List Item → Type 0
InTurn items = (k : ℕ) → places k items ≡ range_with_len 0 (count k items)

-- whether the pass may put items of this sender
abbrev pub may : View → ℕ → Bool
may v zero = v.first
may v (suc zero) = v.second
may v (suc (suc k)) = false

-- how many items of this sender were put, as the pass that may put them knows it
abbrev pub put : View → ℕ → ℕ
put v zero = v.first_put
put v (suc k) = v.second_put

abbrev pub view_of : Bool → Bool → Bool → ℕ → ℕ → List Item → View
view_of first second takes first_put second_put taken = record { first = first; second = second; takes = takes; first_put = first_put; second_put = second_put; taken = taken }

-- one more item of this sender was put
abbrev pub put_one : View → ℕ → View
put_one v zero = view_of v.first v.second v.takes (suc v.first_put) v.second_put v.taken
put_one v (suc k) = view_of v.first v.second v.takes v.first_put (suc v.second_put) v.taken

-- one more item was taken
abbrev pub took : View → Item → View
took v x = view_of v.first v.second v.takes v.first_put v.second_put (v.taken ++ x ∷ [])

-- what a pass knows is so: of each sender one pass at most may put, and it knows how many it has put; one pass at most takes, and it knows what was taken
pub record Fits (seat : ℕ → ℕ) (taker : ℕ) (taken : List Item) (items : List Item) (pass : ℕ) (v : View) : Type 0 where
  pub puts : (k : ℕ) → may v k ≡ true → (pass ≡ seat k) × (put v k ≡ count k (taken ++ items))
  pub takes : v.takes ≡ true → (pass ≡ taker) × (v.taken ≡ taken)

abbrev pub AllFit : (ℕ → ℕ) → ℕ → List Item → List Item → List View → Type 0
AllFit seat taker taken items views = (pass : ℕ) (v : View) → get_elem? views pass ≡ some v → Fits seat taker taken items pass v

-- so many steps each sender has
abbrev pub len_of : ℕ → ℕ → ℕ → ℕ
len_of first second zero = first
len_of first second (suc k) = second

pub record Kept (len : ℕ → ℕ) (seat : ℕ → ℕ) (taker : ℕ) (taken : List Item) (items : List Item) (views : List View) : Type 0 where
  pub in_turn : InTurn (taken ++ items)
  pub within : (k : ℕ) → count k (taken ++ items) ≤ len k
  pub known : All (λ x. x.sender < 2) (taken ++ items)
  pub fit : AllFit seat taker taken items views

abbrev pub Ordered : (ℕ → ℕ) → List Item → List View → Type 0
Ordered len items views = (seat : ℕ → ℕ) × (taker : ℕ) × (taken : List Item) × Kept len seat taker taken items views

-- the first sender's part of a pass
abbrev pub only_first : View → View
only_first v = view_of true false false v.first_put 0 []

abbrev pub but_first : View → View
but_first v = view_of false v.second v.takes 0 v.second_put v.taken

abbrev pub with_first : View → View → View
with_first v w = view_of true v.second v.takes w.first_put v.second_put v.taken

abbrev pub only_second : View → View
only_second v = view_of false true false 0 v.second_put []

abbrev pub but_second : View → View
but_second v = view_of v.first false v.takes v.first_put 0 v.taken

abbrev pub with_second : View → View → View
with_second v w = view_of v.first true v.takes v.first_put w.second_put v.taken

-- what is known of a pass that has ended
abbrev pub spent : View
spent = view_of false false false 0 0 []

-- what a sender knows that has put so many
abbrev pub sender_view : ℕ → ℕ → View
sender_view zero n = view_of true false false n 0 []
sender_view (suc k) n = view_of false true false 0 n []
