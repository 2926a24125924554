use Rattle.std.proofs.Common.{ℕ, true, false, List, sym, ap, ◌∙◌, subst, arith}
use Rattle.std.proofs.lemmas.Result.{IfOk-weaker, on_ok_weaker}
use Rattle.disk_redo.specs.Redo.{stands_for}
use Rattle.replica_store.specs.Replicas.{ServerDisk, new_server_disk}
use Rattle.store_changes.specs.Areas.{area_of}
use Rattle.chunk_store.specs.Opening.{HoldsReplicas, IsFound}
use Rattle.store_disk.specs.Stored.{IsStored}
use Rattle.chunk_store.proofs.Fronts.{gate_read, head_read}
use Rattle.chunk_store.proofs.Moments.{begins, closed_holds, on_ok, open_holds, redoes}
use Rattle.chunk_store.proofs.Stopped.{same_holds}
use Rattle.chunk_store.proofs.disk_opening.open_disk.Goals as goal

pub returns-then-is_open-clause-found : goal.returns-then-is_open-clause-found
returns-then-is_open-clause-found g c =
    let seen = g.D.Disk.seen in
    let layout = c.args.layout in
    let area = area_of layout.chunk layout.block in
    let old = seen c.args.disk.now in
    let opened = gate_read old c.in_ok-head.head true c.in_ok-head.ensures.bytes c.if-is_open.ensures in
    IfOk-weaker c.open_headed.result
    (λ found. (d : ServerDisk) → IsStored layout.chunk layout.block layout.slots (stands_for area (seen c.read_head.new.disk)) d → IsFound layout.chunk layout.block layout.slots found (stands_for area (seen c.open_headed.new.disk)) d)
    (λ found. (d : ServerDisk) → HoldsReplicas layout.chunk layout.block layout.slots old d → IsFound layout.chunk layout.block layout.slots found (stands_for area (seen c.open_headed.new.disk)) d)
    (λ found says d holds.
    says d (subst (λ (l : List ℕ). IsStored layout.chunk layout.block layout.slots (stands_for area l) d) (sym c.read_head.ensures.reads.seen_same) (open_holds layout.chunk layout.block layout.slots old d opened holds)))
    c.open_headed.ensures.found

pub returns-then-is_open-clause-its_head : goal.returns-then-is_open-clause-its_head
returns-then-is_open-clause-its_head g c opened =
    on_ok_weaker c.open_headed.result (λ is. sym (head_read (g.D.Disk.seen c.args.disk.now) c.in_ok-head.head c.in_ok-head.ensures.bytes) ∙ is) c.open_headed.ensures.its_head

pub returns-then-is_open-clause-sized : goal.returns-then-is_open-clause-sized
returns-then-is_open-clause-sized g c = on_ok c.open_headed.result (omega (arith, c.if-size-disk_size.false, c.size.ensures, c.disk_size.ensures))

pub returns-then-is_open-clause-undamaged : goal.returns-then-is_open-clause-undamaged
returns-then-is_open-clause-undamaged g c large so e =
    let old = g.D.Disk.seen c.args.disk.now in
    let opened = gate_read old c.in_ok-head.head true c.in_ok-head.ensures.bytes c.if-is_open.ensures in
    c.open_headed.ensures.undamaged (head_read old c.in_ok-head.head c.in_ok-head.ensures.bytes ∙ so opened) e

pub returns-then-is_open-clause-any_moment : goal.returns-then-is_open-clause-any_moment
returns-then-is_open-clause-any_moment g c =
    let disk = g.D.Disk in
    let layout = c.args.layout in
    let opened = gate_read (disk.seen c.args.disk.now) c.in_ok-head.head true c.in_ok-head.ensures.bytes c.if-is_open.ensures in
    redoes disk.seen disk.may_leave disk.moment disk.left_since layout.chunk layout.block layout.slots c.args.disk.now c.read_head.new.disk c.open_headed.new.disk opened c.read_head.ensures.reads c.open_headed.ensures.any_moment

pub returns-else-is_open-clause-found : goal.returns-else-is_open-clause-found
returns-else-is_open-clause-found g c =
    let seen = g.D.Disk.seen in
    let layout = c.args.layout in
    let area = area_of layout.chunk layout.block in
    let old = seen c.args.disk.now in
    let closed = gate_read old c.in_ok-head.head false c.in_ok-head.ensures.bytes c.if-is_open.ensures in
    IfOk-weaker c.open_new.result
    (λ found. IsFound layout.chunk layout.block layout.slots found (stands_for area (seen c.open_new.new.disk)) (new_server_disk layout.chunk layout.block layout.slots))
    (λ found. (d : ServerDisk) → HoldsReplicas layout.chunk layout.block layout.slots old d → IsFound layout.chunk layout.block layout.slots found (stands_for area (seen c.open_new.new.disk)) d)
    (λ found none d holds.
    subst (λ (e : ServerDisk). IsFound layout.chunk layout.block layout.slots found (stands_for area (seen c.open_new.new.disk)) e) (sym (closed_holds layout.chunk layout.block layout.slots old d closed holds)) none)
    c.open_new.ensures.found

pub returns-else-is_open-clause-sized : goal.returns-else-is_open-clause-sized
returns-else-is_open-clause-sized g c = on_ok c.open_new.result (omega (arith, c.if-size-disk_size.false, c.size.ensures, c.disk_size.ensures))

pub returns-else-is_open-clause-undamaged : goal.returns-else-is_open-clause-undamaged
returns-else-is_open-clause-undamaged g c large so e = c.open_new.ensures.undamaged e

pub returns-else-is_open-clause-any_moment : goal.returns-else-is_open-clause-any_moment
returns-else-is_open-clause-any_moment g c =
    let disk = g.D.Disk in
    let layout = c.args.layout in
    begins disk.seen disk.may_leave disk.moment disk.left_since layout.chunk layout.block layout.slots c.args.disk.now c.read_head.new.disk c.open_new.new.disk c.read_head.ensures.reads c.open_new.ensures.any_moment

pub returns-in_err-head-clause-held : goal.returns-in_err-head-clause-held
returns-in_err-head-clause-held g c d holds =
    let layout = c.args.layout in
    subst (λ (l : List ℕ). HoldsReplicas layout.chunk layout.block layout.slots l d) (sym c.read_head.ensures.reads.seen_same) holds

pub returns-then-is_open-clause-held : goal.returns-then-is_open-clause-held
returns-then-is_open-clause-held g c d holds =
    let seen = g.D.Disk.seen in
    let layout = c.args.layout in
    let old = seen c.args.disk.now in
    let opened = gate_read old c.in_ok-head.head true c.in_ok-head.ensures.bytes c.if-is_open.ensures in
    same_holds layout.chunk layout.block layout.slots old (seen c.open_headed.new.disk) d (c.open_headed.ensures.same ∙ ap (stands_for (area_of layout.chunk layout.block)) c.read_head.ensures.reads.seen_same)
    (open_holds layout.chunk layout.block layout.slots old d opened holds)

pub returns-else-is_open-clause-held : goal.returns-else-is_open-clause-held
returns-else-is_open-clause-held g c d holds =
    let seen = g.D.Disk.seen in
    let layout = c.args.layout in
    let old = seen c.args.disk.now in
    let closed = gate_read old c.in_ok-head.head false c.in_ok-head.ensures.bytes c.if-is_open.ensures in
    subst (λ (e : ServerDisk). HoldsReplicas layout.chunk layout.block layout.slots (seen c.open_new.new.disk) e) (sym (closed_holds layout.chunk layout.block layout.slots old d closed holds)) c.open_new.ensures.held
