use Rattle.std.proofs.Common.{◌≡◌, ℕ, List, length, refl, ap, subst, ◌∙◌}
use Rattle.std.specs.Prelude.{IfOk, string_bytes}
use Rattle.txn_mailbox.specs.Texts.{counts_text}
use Rattle.txn_mailbox.proofs.Ends.{some_is}
use Rattle.txn_mailbox.proofs.runs.end_served.Goals as goal

pub returns : goal.returns
returns g c =
    let served = c.args.served in
    let says = c.write_counts-status.ensures in
    let taken : c.len-2.result ≡ length served.session.below.exchanges =
    c.len-2.ensures ∙ ap length (some_is _ _ c.exchanges.ensures ∙ ap (λ r. r.exchanges) c.below.ensures) in
    let these =
    subst (λ (x : ℕ × List ℕ × ℕ). IfOk c.counts_string-text.result (λ text. string_bytes text ≡ counts_text x.0 x.1 x.2 served.stop))
    (λ i. (c.len.ensures i, c.as_slice.ensures i, taken i)) c.counts_string-text.ensures in
    record {
      status = rw (← c.status_of_stop-stopped.ensures) says.status;
      serves = refl;
      text = says.written _ these;
    }
