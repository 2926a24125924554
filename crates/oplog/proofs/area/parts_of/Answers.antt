use Rattle.std.proofs.Common.{sym, arith}
use Rattle.oplog.proofs.Fronts.{no_number, no_length, no_checkpoint, parts_found}
use Rattle.oplog.proofs.Gates.{not_open}
use Rattle.oplog.proofs.AreaRefusing.{handed_on}
use Rattle.oplog.proofs.area.parts_of.Goals as goal

pub returns-then-not-is_open-clause-undamaged : goal.returns-then-not-is_open-clause-undamaged
returns-then-not-is_open-clause-undamaged c = λ n cp rest fits short eq err. not_open c.args.bytes.now _ (sym c.if-not-is_open.ensures) eq

pub returns-in_err-number-clause-undamaged : goal.returns-in_err-number-clause-undamaged
returns-in_err-number-clause-undamaged c = λ n cp rest fits short eq err.
    no_number c.args.bytes.now c.behind_gate.result.now n cp rest fits short c.behind_gate.ensures eq c.in_err-number.field-0.0 c.in_err-number.ensures (handed_on c.from_residual.result c.in_err-number.field-0.0 c.from_residual.ensures.1 err)

pub returns-in_err-size-clause-undamaged : goal.returns-in_err-size-clause-undamaged
returns-in_err-size-clause-undamaged c = λ n cp rest fits short eq err.
    no_length c.args.bytes.now c.behind_gate.result.now n cp rest fits short c.behind_gate.ensures eq c.in_ok-number.number c.in_ok-number.rest.now c.in_ok-number.ensures c.in_err-size.field-0.0 c.in_err-size.ensures
    (handed_on c.from_residual-in_err-size.result c.in_err-size.field-0.0 c.from_residual-in_err-size.ensures.1 err)

pub returns-then-rest-size-clause-undamaged : goal.returns-then-rest-size-clause-undamaged
returns-then-rest-size-clause-undamaged c = λ n cp rest fits short eq err.
    no_checkpoint c.args.bytes.now c.behind_gate.result.now n cp rest fits short c.behind_gate.ensures eq c.in_ok-number.number c.in_ok-number.rest.now c.in_ok-number.ensures c.in_ok-size.size c.in_ok-size.rest.now c.in_ok-size.ensures c.if-rest-size.true

pub returns-clause-found : goal.returns-clause-found
returns-clause-found c =
    parts_found c.args.bytes.now c.behind_gate.result.now c.in_ok-number.number c.in_ok-number.rest.now c.in_ok-size.size c.in_ok-size.rest.now c.split_at.result.0.now c.split_at.result.1.now (λ i. omega (arith, c.type_inv.bytes i))
    c.behind_gate.ensures c.in_ok-number.ensures c.in_ok-size.ensures c.if-rest-size.false c.split_at.ensures.front c.split_at.ensures.back
