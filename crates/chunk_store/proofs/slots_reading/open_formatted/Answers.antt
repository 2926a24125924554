use Rattle.std.proofs.Common.{◌≡◌, ℕ, ◌≤◌, List, length, sym, ap, ◌∙◌, subst, arith}
use Rattle.std.proofs.lemmas.Result.{IfOk-weaker}
use Rattle.disk_redo.specs.GateMoments.{LeavesOnly}
use Rattle.disk_redo.specs.Redo.{IsAtRest, stands_for}
use Rattle.disk_redo.specs.declared.range.RedoArea.{RedoArea}
use Rattle.disk_redo.specs.Opening.{IsOpening as IsRedoing}
use Rattle.replica_store.specs.Replicas.{ServerDisk}
use Rattle.store_disk.specs.Index.{IndexState}
use Rattle.store_changes.specs.Areas.{area_of}
use Rattle.store_disk.specs.Places.{disk_size}
use Rattle.chunk_store.specs.Opening.{IsFound}
use Rattle.store_disk.specs.Stored.{IsDiskOf, IsStored}
use Rattle.chunk_store.proofs.Kept.{found_at_rest, says_at_rest}
use Rattle.chunk_store.proofs.Moments.{on_ok, redoes_read, still_rests}
use Rattle.chunk_store.proofs.slots_reading.open_formatted.Goals as goal

pub returns-clause-rest : goal.returns-clause-rest
returns-clause-rest g c =
    let disk = g.D.Disk in
    let layout = c.args.layout in
    on_ok c.read_found.result (still_rests disk.seen disk.may_leave disk.moment disk.left_since layout.chunk layout.block c.open.new.disk c.read_found.new.disk
    (subst (λ (a : RedoArea). IsAtRest disk.seen disk.may_leave a c.open.new.disk) c.redo_area_of-area.ensures c.in_ok-open.ensures.rest) c.read_found.ensures.reads)

pub returns-clause-found : goal.returns-clause-found
returns-clause-found g c =
    let disk = g.D.Disk in
    let layout = c.args.layout in
    let area = area_of layout.chunk layout.block in
    let mid = disk.seen c.open.new.disk in
    let closed = (subst (λ (a : RedoArea). IsAtRest disk.seen disk.may_leave a c.open.new.disk) c.redo_area_of-area.ensures c.in_ok-open.ensures.rest).closed in
    let same = subst (λ (a : RedoArea). stands_for a mid ≡ stands_for a (disk.seen c.args.disk.now)) c.redo_area_of-area.ensures c.open.ensures.same in
    let fits : disk_size layout.chunk layout.block layout.slots ≤ length mid = omega (arith, c.requires, c.open.ensures.size) in
    IfOk-weaker c.read_found.result
    (λ found. (index : IndexState) (d : ServerDisk) → IsDiskOf layout.chunk layout.block layout.slots index mid d → IsFound layout.chunk layout.block layout.slots found mid d)
    (λ found. (d : ServerDisk) → IsStored layout.chunk layout.block layout.slots (stands_for area (disk.seen c.args.disk.now)) d → IsFound layout.chunk layout.block layout.slots found (stands_for area (disk.seen c.read_found.new.disk)) d)
    (λ found says d stored.
    let there = subst (λ (l : List ℕ). IsDiskOf layout.chunk layout.block layout.slots stored.0 l d) (sym same) stored.1 in
    let is = says_at_rest layout.chunk layout.block layout.slots mid fits closed stored.0 d there in
    subst (λ (l : List ℕ). IsFound layout.chunk layout.block layout.slots found (stands_for area l) d) (sym c.read_found.ensures.reads.seen_same)
    (found_at_rest layout.chunk layout.block layout.slots mid fits closed found d (says stored.0 d is)))
    c.read_found.ensures.found

pub returns-clause-any_moment : goal.returns-clause-any_moment
returns-clause-any_moment g c =
    let disk = g.D.Disk in
    let layout = c.args.layout in
    redoes_read disk.seen disk.may_leave disk.moment disk.left_since layout.chunk layout.block c.args.disk.now c.open.new.disk c.read_found.new.disk
    (subst (λ (a : RedoArea). stands_for a (disk.seen c.open.new.disk) ≡ stands_for a (disk.seen c.args.disk.now)) c.redo_area_of-area.ensures c.open.ensures.same)
    c.in_ok-open.ensures.rest.durable
    (subst (λ (a : RedoArea). LeavesOnly disk.moment disk.left_since c.args.disk.now c.open.new.disk (IsRedoing a (disk.seen c.args.disk.now) (disk.may_leave c.args.disk.now))) c.redo_area_of-area.ensures c.open.ensures.any_moment)
    c.read_found.ensures.reads

pub returns-clause-same : goal.returns-clause-same
returns-clause-same g c =
    let disk = g.D.Disk in
    let layout = c.args.layout in
    ap (stands_for (area_of layout.chunk layout.block)) c.read_found.ensures.reads.seen_same
    ∙ subst (λ (a : RedoArea). stands_for a (disk.seen c.open.new.disk) ≡ stands_for a (disk.seen c.args.disk.now)) c.redo_area_of-area.ensures c.open.ensures.same

pub returns-in_err-open-clause-same : goal.returns-in_err-open-clause-same
returns-in_err-open-clause-same g c =
    let disk = g.D.Disk in
    let layout = c.args.layout in
    subst (λ (a : RedoArea). stands_for a (disk.seen c.open.new.disk) ≡ stands_for a (disk.seen c.args.disk.now)) c.redo_area_of-area.ensures c.open.ensures.same
