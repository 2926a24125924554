use Rattle.std.proofs.Common.{ℕ, List, drop, length, refl, sym, ap, ◌∙◌, subst, arith}
use Rattle.std.specs.Prelude.{is_some}
use Rattle.std.specs.FinMap as map
use Rattle.replica_store.specs.declared.change.StoreChange.TheVariants.{Put}
use Rattle.replica_store.specs.declared.row.Row.{Row}
use Rattle.replica_store.specs.Replicas.{disk_changed}
use Rattle.store_disk.specs.Index.{IndexState, index_with}
use Rattle.store_changes.specs.Changing.{Says}
use Rattle.store_changes.specs.declared.fault.StoreFault.TheVariants as faults
use Rattle.store_changes.specs.Faults.{fault_of}
use Rattle.chunk_store.specs.Volumes.{IsOpen}
use Rattle.store_changes.proofs.Answered.{disk_never, never, not_refused}
use Rattle.store_disk.proofs.Looked.{first_free, no_row, none_free, test_none, test_some}
use Rattle.chunk_store.proofs.StillOpen.{free_within, full_open, none_held, room_there, row_held, still_open}
use Rattle.chunk_store.proofs.Ready.{leaves_none, ready_after}
use Rattle.chunk_store.proofs.volume.StoreVolume.install.Goals as goal

pub returns-then-is_some-clause-version : goal.returns-then-is_some-clause-version
returns-then-is_some-clause-version g c d is =
    let held = test_some (map.get c.args.self.now.index.held c.args.handle.0) (ap is_some (sym c.get.ensures) ∙ sym c.is_some.ensures ∙ c.if-is_some.true) in
    let row = row_held g.D.Disk.seen g.D.Disk.may_leave c.args.self.now d is c.args.handle.0 held.0 held.1 in
    (λ e. (held.0.row, row), λ p. refl)

pub returns-then-is_some-clause-no_room : goal.returns-then-is_some-clause-no_room
returns-then-is_some-clause-no_room g c d is =
    let held = test_some (map.get c.args.self.now.index.held c.args.handle.0) (ap is_some (sym c.get.ensures) ∙ sym c.is_some.ensures ∙ c.if-is_some.true) in
    let row = row_held g.D.Disk.seen g.D.Disk.may_leave c.args.self.now d is c.args.handle.0 held.0 held.1 in
    (λ e. absurd cc, λ p. absurd (no_row _ held.0.row p.0 row))

pub returns-then-is_some-clause-any_moment : goal.returns-then-is_some-clause-any_moment
returns-then-is_some-clause-any_moment g c =
    let disk = g.D.Disk in
    leaves_none disk.seen disk.may_leave c.args.self.now c.requires.ready disk.moment disk.left_since (g.met.D.Disk.only_now c.args.self.now.disk) (Put c.args.handle c.args.version c.args.serial c.args.bytes.now)

pub returns-in_err-slot-clause-version : goal.returns-in_err-slot-clause-version
returns-in_err-slot-clause-version g c d is =
    let none = test_none (map.get c.args.self.now.index.held c.args.handle.0) (ap is_some (sym c.get.ensures) ∙ sym c.is_some.ensures ∙ c.if-is_some.false) in
    let row = none_held g.D.Disk.seen g.D.Disk.may_leave c.args.self.now d is c.args.handle.0 none in
    (λ e. absurd (never c.from_residual.result faults.NoMemory faults.Version c.from_residual.ensures.1 refl refl e), λ p. absurd (no_row _ p.0 row p.1))

pub returns-in_err-slot-clause-no_room : goal.returns-in_err-slot-clause-no_room
returns-in_err-slot-clause-no_room g c d is =
    (λ e. absurd (never c.from_residual.result faults.NoMemory faults.NoRoom c.from_residual.ensures.1 refl refl e), λ p. absurd (c.in_err-slot.ensures.room ((full_open g.D.Disk.seen g.D.Disk.may_leave c.args.self.now d is).1 p.1)))

pub returns-in_err-slot-clause-any_moment : goal.returns-in_err-slot-clause-any_moment
returns-in_err-slot-clause-any_moment g c =
    let disk = g.D.Disk in
    leaves_none disk.seen disk.may_leave c.args.self.now c.requires.ready disk.moment disk.left_since (g.met.D.Disk.only_now c.args.self.now.disk) (Put c.args.handle c.args.version c.args.serial c.args.bytes.now)

pub returns-in_default-clause-version : goal.returns-in_default-clause-version
returns-in_default-clause-version g c d is =
    let none = test_none (map.get c.args.self.now.index.held c.args.handle.0) (ap is_some (sym c.get.ensures) ∙ sym c.is_some.ensures ∙ c.if-is_some.false) in
    let row = none_held g.D.Disk.seen g.D.Disk.may_leave c.args.self.now d is c.args.handle.0 none in
    (λ e. absurd cc, λ p. absurd (no_row _ p.0 row p.1))

pub returns-in_default-clause-no_room : goal.returns-in_default-clause-no_room
returns-in_default-clause-no_room g c d is =
    let none = test_none (map.get c.args.self.now.index.held c.args.handle.0) (ap is_some (sym c.get.ensures) ∙ sym c.is_some.ensures ∙ c.if-is_some.false) in
    let row = none_held g.D.Disk.seen g.D.Disk.may_leave c.args.self.now d is c.args.handle.0 none in
    (λ e. (row, (full_open g.D.Disk.seen g.D.Disk.may_leave c.args.self.now d is).0 (none_free c.args.self.now.index.free (sym c.in_ok-slot.ensures.slot ∙ c.in_default.is))), λ p. refl)

pub returns-in_default-clause-any_moment : goal.returns-in_default-clause-any_moment
returns-in_default-clause-any_moment g c =
    let disk = g.D.Disk in
    leaves_none disk.seen disk.may_leave c.args.self.now c.requires.ready disk.moment disk.left_since (g.met.D.Disk.only_now c.args.self.now.disk) (Put c.args.handle c.args.version c.args.serial c.args.bytes.now)

pub returns-in_err-put_in_slot-clause-version : goal.returns-in_err-put_in_slot-clause-version
returns-in_err-put_in_slot-clause-version g c d is =
    let none = test_none (map.get c.args.self.now.index.held c.args.handle.0) (ap is_some (sym c.get.ensures) ∙ sym c.is_some.ensures ∙ c.if-is_some.false) in
    let row = none_held g.D.Disk.seen g.D.Disk.may_leave c.args.self.now d is c.args.handle.0 none in
    (λ e. absurd (never c.from_residual-in_err-put_in_slot.result (fault_of c.in_err-put_in_slot.field-0.0) faults.Version c.from_residual-in_err-put_in_slot.ensures.1 (disk_never c.in_err-put_in_slot.field-0.0) refl e), λ p. absurd (no_row _ p.0 row p.1))

pub returns-in_err-put_in_slot-clause-no_room : goal.returns-in_err-put_in_slot-clause-no_room
returns-in_err-put_in_slot-clause-no_room g c d is =
    room_there g.D.Disk.seen g.D.Disk.may_leave c.args.self.now d is c.args.handle.0 c.in-Some.slot (sym c.in_ok-slot.ensures.slot ∙ c.in-Some.is) (λ e. never c.from_residual-in_err-put_in_slot.result (fault_of c.in_err-put_in_slot.field-0.0) faults.NoRoom c.from_residual-in_err-put_in_slot.ensures.1 (disk_never c.in_err-put_in_slot.field-0.0) refl e)

pub returns-in_err-put_in_slot-clause-any_moment : goal.returns-in_err-put_in_slot-clause-any_moment
returns-in_err-put_in_slot-clause-any_moment g c d says =
    let index = c.args.self.now.index in
    let none = test_none (map.get c.args.self.now.index.held c.args.handle.0) (ap is_some (sym c.get.ensures) ∙ sym c.is_some.ensures ∙ c.if-is_some.false) in
    c.put_in_slot.ensures.any_moment index (drop 1 index.free) none (first_free index.free c.in-Some.slot (sym c.in_ok-slot.ensures.slot ∙ c.in-Some.is)) d says

pub returns-clause-ok : goal.returns-clause-ok
returns-clause-ok g c d is =
    let disk = g.D.Disk in
    let store = c.args.self.now in
    let l = store.layout in
    let none = test_none (map.get c.args.self.now.index.held c.args.handle.0) (ap is_some (sym c.get.ensures) ∙ sym c.is_some.ensures ∙ c.if-is_some.false) in
    let first = first_free store.index.free c.in-Some.slot (sym c.in_ok-slot.ensures.slot ∙ c.in-Some.is) in
    let row : Row = record { version = c.args.version; serial = c.args.serial; count = length c.args.bytes.now } in
    let index_is = c.in_ok-slot.ensures.ok ∙ ap (λ (fs : List ℕ). index_with store.index c.args.handle.0 row fs) first in
    let after = disk_changed d (Put c.args.handle c.args.version c.args.serial c.args.bytes.now) in
    still_open disk.seen disk.may_leave store d is c.put_in_slot.new.disk c.add.new.self store.order after c.put_in_slot.ensures.size is.order c.in_ok-put_in_slot.ensures.rest
    (subst (λ (x : IndexState). Says l.chunk l.block l.slots x (disk.seen c.put_in_slot.new.disk) after) (sym index_is) (c.in_ok-put_in_slot.ensures.made store.index (drop 1 store.index.free) none first d is.says))

pub returns-clause-version : goal.returns-clause-version
returns-clause-version g c d is =
    let none = test_none (map.get c.args.self.now.index.held c.args.handle.0) (ap is_some (sym c.get.ensures) ∙ sym c.is_some.ensures ∙ c.if-is_some.false) in
    let row = none_held g.D.Disk.seen g.D.Disk.may_leave c.args.self.now d is c.args.handle.0 none in
    (λ e. absurd cc, λ p. absurd (no_row _ p.0 row p.1))

pub returns-clause-no_room : goal.returns-clause-no_room
returns-clause-no_room g c d is =
    room_there g.D.Disk.seen g.D.Disk.may_leave c.args.self.now d is c.args.handle.0 c.in-Some.slot (sym c.in_ok-slot.ensures.slot ∙ c.in-Some.is) (λ e. absurd cc)

pub returns-clause-any_moment : goal.returns-clause-any_moment
returns-clause-any_moment g c d says =
    let index = c.args.self.now.index in
    let none = test_none (map.get c.args.self.now.index.held c.args.handle.0) (ap is_some (sym c.get.ensures) ∙ sym c.is_some.ensures ∙ c.if-is_some.false) in
    c.put_in_slot.ensures.any_moment index (drop 1 index.free) none (first_free index.free c.in-Some.slot (sym c.in_ok-slot.ensures.slot ∙ c.in-Some.is)) d says

pub returns-in_err-slot-clause-refused : goal.returns-in_err-slot-clause-refused
returns-in_err-slot-clause-refused g c d is e = absurd (not_refused c.from_residual.result faults.NoMemory c.from_residual.ensures.1 refl e)

pub returns-in_default-clause-refused : goal.returns-in_default-clause-refused
returns-in_default-clause-refused g c d is e =
    let store = c.args.self.now in
    let row : Row = record { version = c.args.version; serial = c.args.serial; count = length c.args.bytes.now } in
    let same = c.in_ok-slot.ensures.ok ∙ ap (λ (fs : List ℕ). index_with store.index c.args.handle.0 row fs) (none_free store.index.free (sym c.in_ok-slot.ensures.slot ∙ c.in_default.is)) in
    subst (λ (x : IndexState). IsOpen g.D.Disk.seen g.D.Disk.may_leave (record { disk = store.disk; layout = store.layout; order = store.order; index = x; hashed = tt }) d) (sym same) is

pub returns-in_err-put_in_slot-clause-refused : goal.returns-in_err-put_in_slot-clause-refused
returns-in_err-put_in_slot-clause-refused g c d is e =
    absurd (not_refused c.from_residual-in_err-put_in_slot.result (fault_of c.in_err-put_in_slot.field-0.0) c.from_residual-in_err-put_in_slot.ensures.1 (disk_never c.in_err-put_in_slot.field-0.0) e)

pub returns-in_err-slot-clause-kept : goal.returns-in_err-slot-clause-kept
returns-in_err-slot-clause-kept g c e = absurd (not_refused c.from_residual.result faults.NoMemory c.from_residual.ensures.1 refl e)

pub returns-in_err-put_in_slot-clause-kept : goal.returns-in_err-put_in_slot-clause-kept
returns-in_err-put_in_slot-clause-kept g c e = absurd (not_refused c.from_residual-in_err-put_in_slot.result (fault_of c.in_err-put_in_slot.field-0.0) c.from_residual-in_err-put_in_slot.ensures.1 (disk_never c.in_err-put_in_slot.field-0.0) e)

pub returns-clause-ready : goal.returns-clause-ready
returns-clause-ready g c = (let store = c.args.self.now in ready_after g.D.Disk.seen g.D.Disk.may_leave store c.requires.ready c.put_in_slot.new.disk c.add.new.self store.order c.put_in_slot.ensures.size c.in_ok-put_in_slot.ensures.rest)

pub returns-then-slot-slots-clause-version : goal.returns-then-slot-slots-clause-version
returns-then-slot-slots-clause-version g c d is =
    let none = test_none (map.get c.args.self.now.index.held c.args.handle.0) (ap is_some (sym c.get.ensures) ∙ sym c.is_some.ensures ∙ c.if-is_some.false) in
    let within = free_within g.D.Disk.seen g.D.Disk.may_leave c.args.self.now d is c.args.handle.0 c.in-Some.slot none (sym c.in_ok-slot.ensures.slot ∙ c.in-Some.is) in
    absurd (omega (arith, within, c.if-slot-slots.true))

pub returns-then-slot-slots-clause-no_room : goal.returns-then-slot-slots-clause-no_room
returns-then-slot-slots-clause-no_room g c d is =
    let none = test_none (map.get c.args.self.now.index.held c.args.handle.0) (ap is_some (sym c.get.ensures) ∙ sym c.is_some.ensures ∙ c.if-is_some.false) in
    let within = free_within g.D.Disk.seen g.D.Disk.may_leave c.args.self.now d is c.args.handle.0 c.in-Some.slot none (sym c.in_ok-slot.ensures.slot ∙ c.in-Some.is) in
    absurd (omega (arith, within, c.if-slot-slots.true))

pub returns-then-slot-slots-clause-refused : goal.returns-then-slot-slots-clause-refused
returns-then-slot-slots-clause-refused g c d is e =
    let none = test_none (map.get c.args.self.now.index.held c.args.handle.0) (ap is_some (sym c.get.ensures) ∙ sym c.is_some.ensures ∙ c.if-is_some.false) in
    let within = free_within g.D.Disk.seen g.D.Disk.may_leave c.args.self.now d is c.args.handle.0 c.in-Some.slot none (sym c.in_ok-slot.ensures.slot ∙ c.in-Some.is) in
    absurd (omega (arith, within, c.if-slot-slots.true))

pub returns-then-slot-slots-clause-any_moment : goal.returns-then-slot-slots-clause-any_moment
returns-then-slot-slots-clause-any_moment g c =
    let disk = g.D.Disk in
    leaves_none disk.seen disk.may_leave c.args.self.now c.requires.ready disk.moment disk.left_since (g.met.D.Disk.only_now c.args.self.now.disk) (Put c.args.handle c.args.version c.args.serial c.args.bytes.now)

pub returns-in_default-clause-kept : goal.returns-in_default-clause-kept
returns-in_default-clause-kept g c e = record { large = c.requires.ready.large; whole = c.requires.ready.whole; rest = c.requires.ready.rest }

pub returns-then-slot-slots-clause-kept : goal.returns-then-slot-slots-clause-kept
returns-then-slot-slots-clause-kept g c e = record { large = c.requires.ready.large; whole = c.requires.ready.whole; rest = c.requires.ready.rest }
