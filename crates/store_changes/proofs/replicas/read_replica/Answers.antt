use Rattle.std.proofs.Common.{◌≡◌, ℕ, ◌+◌, List, min, sym, ap, ◌∙◌, arith, Some}
use Rattle.std.specs.FinMap as map
use Rattle.std.proofs.lemmas.Result.{IfOk-weaker}
use Rattle.disk_redo.specs.Redo.{stands_for}
use Rattle.replica_store.specs.Replicas.{Replica, ServerDisk, read_at, read_end}
use Rattle.store_disk.specs.Index.{IndexState}
use Rattle.store_changes.specs.Areas.{area_of}
use Rattle.store_changes.specs.Changing.{Says}
use Rattle.store_changes.specs.Reading.{checked_part}
use Rattle.store_changes.proofs.ReadRanges.{reads_nothing, reads_part}
use Rattle.store_changes.proofs.Rested.{holds_at_rest}
use Rattle.store_changes.proofs.replicas.read_replica.Goals as goal
use Rattle.store_disk.specs.Stored.{Holds}
use Rattle.store_disk.proofs.Replicas.{its_replica}

pub returns-then-end-offset-clause-read : goal.returns-then-end-offset-clause-read
returns-then-end-offset-clause-read g c index d handle says there =
    let l = c.args.layout in
    let its = its_replica l.chunk l.block l.slots index (stands_for (area_of l.chunk l.block) (g.D.Disk.seen c.args.disk.now)) d says handle c.args.found there in
    let stored : its.0.count ≡ c.args.found.row.count = (let e = its.2.row in cc) in
    ap (λ (s : List ℕ). Some s) c.new.ensures
    ∙ reads_nothing l.block d handle its.0 its.1 says.block_is c.args.offset c.args.count (omega (arith, stored, c.end_of-end.ensures, c.if-end-offset.true))

pub returns-clause-read : goal.returns-clause-read
returns-clause-read g c =
    let l = c.args.layout in
    let seen = g.D.Disk.seen c.args.disk.now in
    IfOk-weaker c.read_range.result
    (λ o. (handle : ℕ) (r : Replica) → Holds l.chunk l.block seen c.args.found.slot handle r → o ≡ checked_part l.block r c.args.offset c.end_of-end.result)
    (λ o. (index : IndexState) (d : ServerDisk) (handle : ℕ) → Says l.chunk l.block l.slots index seen d → map.get index.held handle ≡ Some c.args.found → o ≡ read_at d handle c.args.offset c.args.count)
    (λ o part index d handle says there.
    let its = its_replica l.chunk l.block l.slots index (stands_for (area_of l.chunk l.block) seen) d says handle c.args.found there in
    let stored : its.0.count ≡ c.args.found.row.count = (let e = its.2.row in cc) in
    let ends : c.end_of-end.result ≡ read_end its.0 c.args.offset c.args.count = c.end_of-end.ensures ∙ ap (λ (n : ℕ). min (c.args.offset + c.args.count) n) (sym stored) in
    part handle its.0 (holds_at_rest l.chunk l.block l.slots seen c.requires.size c.requires.rest.closed c.args.found.slot handle its.0 c.requires.slot its.2.holds)
    ∙ reads_part l.block d handle its.0 its.1 says.block_is c.args.offset c.args.count c.end_of-end.result ends c.if-end-offset.false)
    c.read_range.ensures.part
