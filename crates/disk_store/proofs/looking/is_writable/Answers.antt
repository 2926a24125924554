use Rattle.std.proofs.Common.{refl, sym, ◌∙◌, arith}
use Rattle.replica_store.specs.Replicas.{row_at}
use Rattle.store_disk.proofs.Looked.{no_row}
use Rattle.chunk_store.proofs.Looked.{nothing_over}
use Rattle.chunk_store.proofs.States.{none_held, none_writable, row_held}
use Rattle.disk_store.proofs.Causes.{disk_cause, disk_has_room}
use Rattle.disk_store.proofs.looking.is_writable.Goals as goal

pub returns-in_default-clause-value : goal.returns-in_default-clause-value
returns-in_default-clause-value g c d is = none_writable g.D.Disk.seen g.D.Disk.may_leave c.args.store.now d is c.args.handle.0 c.args.offset c.args.end (sym c.held.ensures ∙ c.in_default.is)

pub returns-then-end-offset-clause-value : goal.returns-then-end-offset-clause-value
returns-then-end-offset-clause-value g c d is = nothing_over d c.args.handle.0 c.args.offset c.args.end c.if-end-offset.true

pub is_writable-requires-clause-within : goal.is_writable-requires-clause-within
is_writable-requires-clause-within g c = omega (arith, c.if-end-from.false, c.from.ensures, c.chunk.ensures)

pub returns-in-Ok-clause-value : goal.returns-in-Ok-clause-value
returns-in-Ok-clause-value g c d is = c.in-Ok.ensures.value d is

pub returns-in-Ok-clause-still_open : goal.returns-in-Ok-clause-still_open
returns-in-Ok-clause-still_open g c d is = c.is_writable.ensures.still_open d is

pub returns-in-Err-clause-still_open : goal.returns-in-Err-clause-still_open
returns-in-Err-clause-still_open g c d is = c.is_writable.ensures.still_open d is

pub returns-in_default-clause-no_room : goal.returns-in_default-clause-no_room
returns-in_default-clause-no_room g c d is =
    let none = none_held g.D.Disk.seen g.D.Disk.may_leave c.args.store.now d is c.args.handle.0 (sym c.held.ensures ∙ c.in_default.is) in
    (λ e. absurd cc, λ p. absurd (no_row (row_at d c.args.handle.0) p.0 none p.1))

pub returns-then-end-offset-clause-no_room : goal.returns-then-end-offset-clause-no_room
returns-then-end-offset-clause-no_room g c d is = (λ e. absurd cc, λ p. absurd (omega (arith, p.2, c.if-end-offset.true)))

pub returns-then-end-from-clause-no_room : goal.returns-then-end-from-clause-no_room
returns-then-end-from-clause-no_room g c d is =
    let row = row_held g.D.Disk.seen g.D.Disk.may_leave c.args.store.now d is c.args.handle.0 c.in-Some.found (sym c.held.ensures ∙ c.in-Some.is) in
    (λ e. (c.in-Some.found.row, row, omega (arith, c.if-end-offset.false), omega (arith, c.if-end-from.true, c.from.ensures, c.chunk.ensures)), λ p. refl)

pub returns-in-Ok-clause-no_room : goal.returns-in-Ok-clause-no_room
returns-in-Ok-clause-no_room g c d is = (λ e. absurd cc, λ p. absurd (omega (arith, p.3, c.if-end-from.false, c.from.ensures, c.chunk.ensures)))

pub returns-in-Err-clause-no_room : goal.returns-in-Err-clause-no_room
returns-in-Err-clause-no_room g c d is =
    (λ e. absurd (disk_has_room c.in-Err.fault c.fault_of_disk.result c.fault_of_disk.ensures e), λ p. absurd (omega (arith, p.3, c.if-end-from.false, c.from.ensures, c.chunk.ensures)))

pub returns-in-Err-clause-cause : goal.returns-in-Err-clause-cause
returns-in-Err-clause-cause g c = disk_cause _ _ c.in-Err.fault c.fault_of_disk.result c.fault_of_disk.ensures c.in-Err.ensures.cause
