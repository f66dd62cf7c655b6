-- There are at most as many messages as octets, and one.
use Rattle.std.proofs.Common.{◌≡◌, ℕ, ◌+◌, ◌≤◌, Option, Some, None, Ok, List, [], ◌∷◌, ◌++◌, length, refl, ap, arith}
use Rattle.std.proofs.lemmas.List.{length-append}
use Rattle.txn_program_lines.specs.Cutting.{lines_of}
use Rattle.txn_program_lines.specs.LineWords.{◌>>=◌}
use Rattle.txn_program_lines.specs.Numbered.{lines_after, then_lines}
use Rattle.txn_program_parties.proofs.LineCount.{lines-few}
use Rattle.txn_relay.specs.declared.event.RelayEvent.{RelayEvent}
use Rattle.txn_relay.specs.Scripts.{line_of, no_script, script_after, script_of, with_line, with_message}
use Rattle.txn_relay.specs.declared.script.Line.{Line}
use Rattle.txn_relay.specs.declared.script.Line.TheVariants as kinds
use Rattle.txn_relay.specs.declared.script.Script.{Script}

message_one : (script next : Script) (payload : List ℕ) (events : List RelayEvent) → with_message script payload events ≡ Some next → length next.messages ≤ length script.messages + 1
message_one script next payload [] e =
    let is : next.messages ≡ script.messages ++ payload ∷ [] = cc e in
    let long = ap length is in
    let more = length-append script.messages (payload ∷ []) in
    omega (arith, long, more)
message_one script next payload (event ∷ events) e = absurd (cc e)

line_one : (script next : Script) (o : Option Line) → (o >>= with_line script) ≡ Some next → length next.messages ≤ length script.messages + 1
line_one script next None e = absurd (cc e)
line_one script next (Some (kinds.Message payload)) e = message_one script next payload script.events e
line_one script next (Some (kinds.Event event)) e =
    let is : next.messages ≡ script.messages = cc e in
    let long = ap length is in
    omega (arith, long)

script_few : (n : ℕ) (lines : List (List ℕ)) (script final : Script) → lines_after script_after script n lines ≡ Ok final → length final.messages ≤ length script.messages + length lines
unfolding lines_after
script_few n [] script final e =
    let is : final.messages ≡ script.messages = cc e in
    let long = ap length is in
    omega (arith, long)
script_few n (line ∷ others) script final e = by_line (script_after script line) (λ next made. line_one script next (line_of line) made) (λ next f. script_few (n + 1) others next final f) e
  where
    by_line : (o : Option Script) → ((next : Script) → o ≡ Some next → length next.messages ≤ length script.messages + 1) → ((next : Script) → lines_after script_after next (n + 1) others ≡ Ok final → length final.messages ≤ length next.messages + length others) → then_lines o n (λ next. lines_after script_after next (n + 1) others) ≡ Ok final → length final.messages ≤ length script.messages + length (line ∷ others)
    by_line None one rest e = absurd (cc e)
    by_line (Some next) one rest e =
        let a = one next refl in
        let b = rest next e in
        omega (arith, a, b)

pub messages_few : (octets : List ℕ) (script : Script) → script_of octets ≡ Ok script → length script.messages ≤ length octets + 1
messages_few octets script e =
    let a = lines-few octets in
    let b = script_few 1 (lines_of octets) no_script script e in
    omega (arith, a, b)
