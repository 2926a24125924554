use Rattle.std.proofs.Common.{ℕ, List}
use Rattle.std.proofs.lemmas.Result.{IfErr-weaker}
use Rattle.disk.specs.Failing.{FuseState}
use Rattle.disk.specs.Laws.{left_now}
use Rattle.disk.specs.Writes.{LeftBy, LeftSince, moment_of}
use Rattle.disk_redo.specs.GateMoments.{LeavesOnly}
use Rattle.chunk_store.specs.Opening.{IsOpening}
use Rattle.disk_store.proofs.Again.{found, still_left}
use Rattle.tests_stores.specs.StoppedStores.{HasStore}
use Rattle.tests_stores.proofs.stopped_store.open_after.Goals as goal

pub open-requires-clause-holds : goal.open-requires-clause-holds
open-requires-clause-holds c =
    let l = c.args.layout in
    let h = c.requires.store in
    let f = found l.chunk l.block l.slots h.disk h.under_way h.chunk_is h.block_is h.slots_is (LeftBy c.args.disk.disk) c.restart.result.disk.bytes h.leaves c.restart.ensures.lawful in
    (f.disk, f.holds)

pub returns-clause-store : goal.returns-clause-store
returns-clause-store c =
    let l = c.args.layout in
    let h = c.requires.store in
    let old = c.restart.result in
    let f = found l.chunk l.block l.slots h.disk h.under_way h.chunk_is h.block_is h.slots_is (LeftBy c.args.disk.disk) old.disk.bytes h.leaves c.restart.ensures.lawful in
    IfErr-weaker c.open.result
    (λ e. LeavesOnly (λ (x : FuseState). moment_of x.disk) (λ (x : FuseState) (t : ℕ) (b : List ℕ). LeftSince x.disk t b) old e.0 (IsOpening l.chunk l.block l.slots old.disk.bytes (LeftBy old.disk)))
    (λ e. HasStore l e.0)
    (λ e run. record {
      disk = h.disk;
      under_way = h.under_way;
      chunk_is = h.chunk_is;
      block_is = h.block_is;
      slots_is = h.slots_is;
      leaves = still_left l.chunk l.block l.slots h.disk h.under_way h.chunk_is h.block_is h.slots_is (λ (x : FuseState). x.disk.bytes) (λ (x : FuseState). LeftBy x.disk) (λ (x : FuseState). moment_of x.disk)
          (λ (x : FuseState) (t : ℕ) (b : List ℕ). LeftSince x.disk t b) (λ x t b le now. left_now x.disk t b le now) old e.0 f c.restart.ensures.durable run;
    })
    c.open.ensures.any_moment_of_error
