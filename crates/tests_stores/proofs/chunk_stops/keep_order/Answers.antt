use Rattle.std.proofs.Common.{◌⊎◌, ℕ, List, inl, inr, subst}
use Rattle.std.specs.Prelude.{IfOk}
use Rattle.std.proofs.lemmas.Result.{IfOk-weaker}
use Rattle.disk.specs.Failing.{FuseState}
use Rattle.disk.specs.Laws.{left_now}
use Rattle.disk.specs.Writes.{LeftBy, LeftSince, moment_of}
use Rattle.chunk_store.specs.Opening.{HoldsReplicas}
use Rattle.chunk_store.specs.Stores.{IsOpen}
use Rattle.chunk_store.proofs.Stopped.{reopens_either}
use Rattle.replica_store.specs.declared.change.StoreChange.TheVariants.{SetOrder}
use Rattle.replica_store.specs.Replicas.{ServerDisk, disk_changed}
use Rattle.store_disk.specs.declared.places.Layout.{Layout}
use Rattle.tests_stores.proofs.chunk_stops.keep_order.Goals as goal

abbrev seen : FuseState → List ℕ
seen f = f.disk.bytes

abbrev may_leave : FuseState → List ℕ → Type 0
may_leave f = LeftBy f.disk

pub open-requires : goal.open-requires
open-requires c = record { whole = c.layout-layout.ensures.whole }

pub returns : goal.returns
returns c d is =
    let store = c.args.store in
    let l = store.layout in
    let mid = c.set_order.new.self.disk in
    let e = disk_changed d (SetOrder c.args.order) in
    let found = seen c.restart-disk.result in
    let opened = subst (λ (m : Layout). IfOk c.open.result (λ s. (x : ServerDisk) → HoldsReplicas m.chunk m.block m.slots found x → IsOpen seen may_leave s x)) c.layout-layout.ensures.value c.open.ensures.open in
    let run = reopens_either seen may_leave (λ (f : FuseState). moment_of f.disk) (λ (f : FuseState) (t : ℕ) (b : List ℕ). LeftSince f.disk t b) l.chunk l.block l.slots store.disk mid d e (c.set_order.ensures.any_moment d is.says) in
    elim (run.stop.each found (left_now mid.disk (moment_of store.disk.disk) found run.stop.later (subst (λ x. may_leave x found) c.into_disk.ensures c.restart-disk.ensures.lawful))) [
      | inl holds ↦
          IfOk-weaker c.open.result
          (λ s. (x : ServerDisk) → HoldsReplicas l.chunk l.block l.slots found x → IsOpen seen may_leave s x)
          (λ s. IsOpen seen may_leave s d ⊎ IsOpen seen may_leave s e)
          (λ s opens. inl (opens d holds))
          opened
      | inr holds ↦
          IfOk-weaker c.open.result
          (λ s. (x : ServerDisk) → HoldsReplicas l.chunk l.block l.slots found x → IsOpen seen may_leave s x)
          (λ s. IsOpen seen may_leave s d ⊎ IsOpen seen may_leave s e)
          (λ s opens. inr (opens e holds))
          opened
    ]
