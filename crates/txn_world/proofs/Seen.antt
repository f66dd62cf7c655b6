-- What a contract sees of a world.
use Rattle.std.proofs.Common.{◌≡◌, Bool, sym, ◌∙◌, ap, subst}
use Rattle.amqp_resource_session.specs.declared.session.TxnSession.{TxnSession}
use Rattle.txn_parties.specs.Agreement.{Agreement}
use Rattle.txn_parties.specs.Exchange.{record_of}
use Rattle.txn_parties.proofs.Agreed.{agreement}
use Rattle.txn_world_wires.specs.declared.parties.Parties.{Parties}
use Rattle.txn_world_wires.specs.Parties.{Sound, exchange_of}
use Rattle.txn_world_wires.proofs.Recording.{record_is}
use Rattle.txn_world.specs.Happening.{TwoParties}
use Rattle.txn_world.specs.Serving.{two_parties}

pub entries_are : {S G : Type 0} (sure : Bool) (session : TxnSession S) (ids : G) (p : Parties) (value : TwoParties S G) → two_parties sure session ids p ≡ value → Sound sure p → p.entries ≡ record_of value.sides
entries_are {S} {G} sure session ids p value e s = sym (record_is sure p s.counted) ∙ ap (λ (v : TwoParties S G). record_of v.sides) e

pub they_agree : {S G : Type 0} (sure : Bool) (session : TxnSession S) (ids : G) (p : Parties) (value : TwoParties S G) → two_parties sure session ids p ≡ value → Sound sure p → Agreement value.sides
they_agree {S} {G} sure session ids p value e s = subst (λ (v : TwoParties S G). Agreement v.sides) e (agreement (exchange_of sure p) s.keeps)
