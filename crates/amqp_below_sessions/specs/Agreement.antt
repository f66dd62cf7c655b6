-- That the three tables of a session's links agree.
use Rattle.std.specs.Prelude.{ℕ, ◌≡◌, Option, Some, None, List, cond}
use Rattle.amqp_txn_types.specs.declared.text.Text.{Text}
use Rattle.amqp_txn_types.specs.declared.small.InputHandle.{InputHandle}
use Rattle.amqp_txn_types.specs.declared.small.OutputHandle.{OutputHandle}
use Rattle.amqp_below_sessions.specs.declared.links.Link.{Link}
use Rattle.amqp_below_sessions.specs.Links.{link_at, same_input}

-- an index finds exactly the output handles that have its keys
pub record Indexes {K : Type 0} (key_at : ℕ → Option K) (find : K → Option OutputHandle)
    : Type 0 where
  pub found :
      (key : K) (output : OutputHandle) → find key ≡ Some output → key_at output.0 ≡ Some key
  pub finds :
      (key : K) (output : ℕ) → key_at output ≡ Some key → find key ≡ Some (record { 0 = output })

-- the name of a link
abbrev pub name_in : Option Link → Option Text
name_in None = None
name_in (Some link) = Some link.name

-- the input handle of a link
abbrev pub input_in : Option Link → Option InputHandle
input_in None = None
input_in (Some link) = link.input

-- the links by name and by input handle are the links by output handle
pub record Agree (slots : List (Option Link)) (by_name : Text → Option OutputHandle)
    (by_input : InputHandle → Option OutputHandle) : Type 0 where
  pub names : Indexes (λ output. name_in (link_at slots output)) by_name
  pub inputs : Indexes (λ output. input_in (link_at slots output)) by_input

-- what an input handle finds once another, which may be none, is dropped
abbrev pub found_without :
    Option InputHandle → InputHandle → Option OutputHandle → Option OutputHandle
found_without None input found = found
found_without (Some dropped) input found = cond (same_input dropped input) None found
