use Rattle.std.proofs.Common.{Some, subst, ap, sym}
use Rattle.std.specs.Prelude.{Err}
use Rattle.oplog.specs.Areas.{AreaState}
use Rattle.oplog.specs.Entries.{entries, HoldsRecords}
use Rattle.oplog.proofs.Areas.{area_unique, parts_are, says_area}
use Rattle.oplog.proofs.AreaRefusing.{refused}
use Rattle.oplog.proofs.area.read_area.Goals as goal

pub returns-in_err-number-clause-only : goal.returns-in_err-number-clause-only
returns-in_err-number-clause-only c = λ area says.
    refused (λ a. a) c.from_residual.result c.in_err-number.field-0.0 c.from_residual.ensures.1 area
    (λ is. c.in_err-number.ensures.undamaged area.number (entries area.items) says.rest says.number_fits says.length_fits says.parts (ap Err is))

pub returns-in_err-items-clause-only : goal.returns-in_err-items-clause-only
returns-in_err-items-clause-only c = λ area says.
    let found = c.in_ok-number.ensures.found in
    let same = parts_are c.in_ok-number.number c.in_ok-number.checkpoint.now c.in_ok-number.rest.now c.args.bytes.now area found.0 found.1 found.2 says in
    refused (λ a. a) c.from_residual-in_err-items.result c.in_err-items.field-0.0 c.from_residual-in_err-items.ensures.1 area
    (λ is. c.in_err-items.ensures.undamaged area.items says.each says.order same.checkpoint (ap Err is))

pub returns-in_err-records-clause-only : goal.returns-in_err-records-clause-only
returns-in_err-records-clause-only c = λ area says.
    let found = c.in_ok-number.ensures.found in
    let same = parts_are c.in_ok-number.number c.in_ok-number.checkpoint.now c.in_ok-number.rest.now c.args.bytes.now area found.0 found.1 found.2 says in
    refused (λ a. a) c.from_residual-in_err-records.result c.in_err-records.field-0.0 c.from_residual-in_err-records.ensures.1 area
    (λ is. c.in_err-records.ensures.undamaged area.records (subst (HoldsRecords area.records) (sym same.rest) says.records) (ap Err is))

pub returns-clause-only : goal.returns-clause-only
returns-clause-only c = λ area says.
    let found = c.in_ok-number.ensures.found in
    let items = c.in_ok-items.ensures.found in
    let read : AreaState = record { number = c.in_ok-number.number; items = c.in_ok-items.items; records = c.in_ok-records.records } in
    ap Some (area_unique area read c.args.bytes.now says
    (says_area c.in_ok-number.number c.in_ok-number.checkpoint.now c.in_ok-number.rest.now c.args.bytes.now c.in_ok-items.items c.in_ok-records.records found.0 found.1 found.2 items.0 items.1 items.2 c.in_ok-records.ensures.found))
