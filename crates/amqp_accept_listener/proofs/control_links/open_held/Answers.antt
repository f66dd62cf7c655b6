use Rattle.std.proofs.Common.{rules, Result, Ok, Err, IfErr, subst, sym}
use Rattle.std.specs.Prelude.{IsErrAnd}
use Rattle.amqp_accept_links.proofs.Opened.{placed-freed}
use Rattle.amqp_accept_links.specs.declared.open_link.OpenError.{OpenError}
use Rattle.amqp_accept_listener.specs.Controlling.{CausedBelow, control_refusal}
use Rattle.amqp_accept_listener.proofs.control_links.open_held.Goals as goal

-- what holds of an error by what it is made of
if-err : {T E : Type 0} (P Q : E → Type 0) (result : Result T E) → IsErrAnd result P → ((error : E) → P error → Q error) → IfErr result Q
if-err P Q (Ok value) made then = tt
if-err P Q (Err error) made then = then error made

-- the session refused the link, and its cause is that of the answer
pub returns-in_err-output-clause-cause : goal.returns-in_err-output-clause-cause
returns-in_err-output-clause-cause g c =
    let Caused : OpenError → Type 0 = λ error. CausedBelow (control_refusal error) (g.S.Tells.told c.args.session.now) (g.S.Tells.told c.allocate_held.new.session) in
    if-err _ Caused c.from_residual.result c.from_residual.ensures.1 (λ error is. subst Caused (sym is) c.in_err-output.ensures.cause)

-- the session refused the flow: the output handle that it had allocated is freed
pub returns-in_err-frames-clause-names : goal.returns-in_err-frames-clause-names
returns-in_err-frames-clause-names g c =
    let freed = placed-freed _ _ _ _ _ _ c.in_ok-output.ensures.names c.in_err-frames.ensures.names in
    search (rules, freed)
