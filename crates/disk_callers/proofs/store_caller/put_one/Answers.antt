use Rattle.std.proofs.Common.{inl, refl, ap, ◌∙◌, subst, arith}
use Rattle.chunk_store.specs.Opening.{HoldsReplicas}
use Rattle.replica_store.specs.Replicas.{new_server_disk}
use Rattle.store_disk.specs.declared.places.Layout.{Layout}
use Rattle.disk_callers.specs.Stored.{with_one}
use Rattle.disk_callers.proofs.store_caller.put_one.Goals as goal

pub install-requires-clause-within : goal.install-requires-clause-within
install-requires-clause-within g c = omega (arith, c.requires.short, ap (λ (l : Layout). l.chunk) c.in_ok-store.ensures.layout)

pub returns : goal.returns
returns g c bytes left =
    let d = new_server_disk c.args.layout.chunk c.args.layout.block c.args.layout.slots in
    let is = c.in_ok-install.ensures.ok d (c.in_ok-store.ensures.open d (inl (c.requires.new, refl))) in
    let its = c.stops_leave_before_or_after.ensures.open c.install.new.self (with_one c.args.layout.chunk c.args.layout.block c.args.layout.slots c.args.bytes.now) is bytes (subst (λ disk. g.D.Disk.may_leave disk bytes) c.into_disk.ensures left) in
    subst (λ (l : Layout). HoldsReplicas l.chunk l.block l.slots bytes (with_one c.args.layout.chunk c.args.layout.block c.args.layout.slots c.args.bytes.now)) (c.install.ensures.layout ∙ c.in_ok-store.ensures.layout) its
