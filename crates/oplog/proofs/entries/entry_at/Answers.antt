use Rattle.std.proofs.Common.{◌++◌, ℕ, List, ap, sym, ◌∙◌, arith}
use Rattle.oplog.specs.Entries.{entry}
use Rattle.oplog.proofs.Parsing.{entry_found}
use Rattle.oplog.proofs.AreaRefusing.{handed_on, no_size, too_short, no_record}
use Rattle.oplog.proofs.entries.entry_at.Goals as goal

pub returns-in_err-size-clause-undamaged : goal.returns-in_err-size-clause-undamaged
returns-in_err-size-clause-undamaged c = λ r x fits eq err.
    no_size c.args.bytes.now c.in_err-size.field-0.0 r x c.in_err-size.ensures (handed_on c.from_residual.result c.in_err-size.field-0.0 c.from_residual.ensures.1 err) fits eq

pub returns-then-rest-size-clause-undamaged : goal.returns-then-rest-size-clause-undamaged
returns-then-rest-size-clause-undamaged c = λ r x fits eq err.
    too_short c.args.bytes.now c.in_ok-size.size c.in_ok-size.rest.now r x c.in_ok-size.ensures c.if-rest-size.true fits eq

pub returns-in_err-record-clause-undamaged : goal.returns-in_err-record-clause-undamaged
returns-in_err-record-clause-undamaged c = λ r x fits eq err.
    no_record c.args.bytes.now c.in_ok-size.size c.in_ok-size.rest.now c.in_err-record.field-0.0 r x c.in_ok-size.ensures (λ s is e. c.in_err-record.ensures.only s is (c.split_at.ensures.front ∙ e))
    (handed_on c.from_residual-in_err-record.result c.in_err-record.field-0.0 c.from_residual-in_err-record.ensures.1 err) fits eq

pub returns-clause-found : goal.returns-clause-found
returns-clause-found c =
    let read = c.in_ok-record.ensures.found in
    let found = entry_found c.args.bytes.now c.in_ok-size.size c.in_ok-size.rest.now c.in_ok-record.record (λ i. omega (arith, c.type_inv.bytes i)) c.in_ok-size.ensures (omega (arith, c.if-rest-size.false)) read.0 (sym c.split_at.ensures.front ∙ read.1) in
    (found.0, found.1 ∙ ap (λ (l : List ℕ). entry c.in_ok-record.record ++ l) (sym c.split_at.ensures.back))
