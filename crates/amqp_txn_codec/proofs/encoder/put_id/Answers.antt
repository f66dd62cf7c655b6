use Rattle.std.proofs.Common.{ℕ, ◌+◌, List, arith, length-append, ap, subst, ◌∷◌, [], ◌++◌, length}
use Rattle.amqp_txn_codec.specs.Canon.{with_id, IsWritten}
use Rattle.amqp_txn_codec.proofs.Written.{appended}
use Rattle.amqp_txn_codec.proofs.encoder.put_id.Goals as goal

pub returns-clause-len : goal.returns-clause-len
unfolding with_id
returns-clause-len c =
    let h1 = c.append-at.ensures.place in
    let h2 = c.append-at-2.ensures.place in
    let h3 = c.append.ensures.place in
    let h4 = ap length c.as_ref-octets.ensures.id in
    omega (arith, h1, h2, h3, h4, length-append c.args.id.now c.args.tail.now)

pub returns-clause-written : goal.returns-clause-written
unfolding with_id
returns-clause-written c =
    let id = c.as_ref-octets.result.now in
    let tail = c.args.tail.now in
    let head : List ℕ = 0 ∷ 0x53 ∷ 0x77 ∷ 0 ∷ 0x53 ∷ c.args.code ∷ 0xc0 ∷ (length id + length tail + 3) ∷ c.args.count ∷ 0xa0 ∷ length id ∷ [] in
    let one : IsWritten head c.args.out.now c.append-at.new.out = c.append-at.ensures.after in
    let two : IsWritten (head ++ id) c.args.out.now c.append-at-2.new.out = appended c.args.out.now c.append-at.new.out c.append-at-2.new.out head id c.append-at.result c.append-at.ensures.place one c.append-at-2.ensures.after in
    let three : IsWritten ((head ++ id) ++ tail) c.args.out.now c.append.new.out = appended c.args.out.now c.append-at-2.new.out c.append.new.out (head ++ id) tail c.append-at-2.result (omega (arith, c.append-at.ensures.place, c.append-at-2.ensures.place, length-append head id)) two c.append.ensures.after in
    subst (λ (l : List ℕ). IsWritten (with_id c.args.code c.args.count l tail) c.args.out.now c.append.new.out) c.as_ref-octets.ensures.id three
