use Rattle.std.proofs.Common.{ℕ, ◌≤◌, length, ap, ◌∙◌}
use Rattle.std.specs.Prelude.{◌%◌}
use Rattle.store_disk.specs.Formats.{IsHeadOf}
use Rattle.store_disk.specs.Places.{disk_size}
use Rattle.disk_redo.specs.GateMoments.{LeavesOnly}
use Rattle.replica_store.specs.Replicas.{ServerDisk}
use Rattle.chunk_store.specs.Opening.{HoldsReplicas, IsOpening}
use Rattle.protocol.specs.Server.{started_server}
use Rattle.server_cell.proofs.DiskServers.{by_layout, by_settings}
use Rattle.server_cell.proofs.disk_server.Server.open.Goals as goal

pub open-requires-clause-whole : goal.open-requires-clause-whole
open-requires-clause-whole g c =
    ap (λ (n : ℕ). n % c.new-layout.result.block) c.new-layout.ensures.chunk ∙ (ap (λ (n : ℕ). c.args.config.chunk % n) c.new-layout.ensures.block ∙ c.requires.whole)

pub open-requires-clause-holds : goal.open-requires-clause-holds
open-requires-clause-holds g c =
    let held = c.requires.holds in
    (held.0, by_layout (λ chunk block slots. HoldsReplicas chunk block slots (g.D.Disk.seen c.args.disk) held.0) c.args.config c.new-layout.result c.new-layout.ensures.chunk c.new-layout.ensures.block c.new-layout.ensures.slots held.1)

pub returns-in-Ok-clause-opened : goal.returns-in-Ok-clause-opened
returns-in-Ok-clause-opened g c d holds =
    let here = by_layout (λ chunk block slots. HoldsReplicas chunk block slots (g.D.Disk.seen c.args.disk) d) c.args.config c.new-layout.result c.new-layout.ensures.chunk c.new-layout.ensures.block c.new-layout.ensures.slots holds in
    c.new.ensures.state ∙ ap (λ (x : ServerDisk). started_server c.args.config c.args.id.0 x c.args.now.0) (c.in-Ok.ensures.opened d here)

pub returns-in-Err-clause-held : goal.returns-in-Err-clause-held
returns-in-Err-clause-held g c d holds =
    let before = by_layout (λ chunk block slots. HoldsReplicas chunk block slots (g.D.Disk.seen c.args.disk) d) c.args.config c.new-layout.result c.new-layout.ensures.chunk c.new-layout.ensures.block c.new-layout.ensures.slots holds in
    by_settings (λ chunk block slots. HoldsReplicas chunk block slots (g.D.Disk.seen c.in-Err.error.0) d) c.args.config c.new-layout.result c.new-layout.ensures.chunk c.new-layout.ensures.block c.new-layout.ensures.slots (c.in-Err.ensures.held d before)

pub returns-in-Err-clause-any_moment_of_error : goal.returns-in-Err-clause-any_moment_of_error
returns-in-Err-clause-any_moment_of_error g c =
    let disk = g.D.Disk in
    by_settings (λ chunk block slots. LeavesOnly disk.moment disk.left_since c.args.disk c.in-Err.error.0 (IsOpening chunk block slots (disk.seen c.args.disk) (disk.may_leave c.args.disk))) c.args.config c.new-layout.result
    c.new-layout.ensures.chunk c.new-layout.ensures.block c.new-layout.ensures.slots c.in-Err.ensures.any_moment_of_error

pub returns-in-Err-clause-undamaged : goal.returns-in-Err-clause-undamaged
returns-in-Err-clause-undamaged g c large head =
    let l = c.new-layout.result in
    let is = c.new-layout.ensures in
    let bytes = g.D.Disk.seen c.args.disk in
    c.in-Err.ensures.undamaged
    (by_layout (λ chunk block slots. disk_size chunk block slots ≤ length bytes) c.args.config l is.chunk is.block is.slots large)
    (λ opened. by_layout (λ chunk block slots. IsHeadOf chunk block slots bytes) c.args.config l is.chunk is.block is.slots (head opened))

pub new-requires-clause-nothing : goal.new-requires-clause-nothing
new-requires-clause-nothing g c = c.in-Ok.ensures.nothing.0
