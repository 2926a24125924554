use Rattle.std.proofs.Common.{◌≡◌, ℕ, true, false, List, length, sym, ap, ◌∙◌, subst, arith}
use Rattle.std.specs.Prelude.{OnOk}
use Rattle.std.specs.FinMap as map
use Rattle.std.proofs.lemmas.Result.{on_ok_weaker}
use Rattle.replica_store.specs.Replicas.{disk_changed}
use Rattle.replica_store.specs.declared.change.StoreChange.{StoreChange}
use Rattle.replica_store.specs.declared.change.StoreChange.TheVariants.{SetOrder, Put, Write, Zero, Raise, Copy, Remove, Rot}
use Rattle.replica_store.specs.Stores.{IsCopyable}
use Rattle.chunk_store.specs.Stores.{IsOpen}
use Rattle.store_disk.proofs.Looked.{test_some}
use Rattle.disk_store.specs.Faults.{IsFitting}
use Rattle.disk_store.specs.Known.{can_be_made}
use Rattle.disk_store.specs.Careful.{IsCareful}
use Rattle.disk_store.specs.Standing.{writes}
use Rattle.disk_store.proofs.Careful.{le_of, put_within, rot_within, write_careful, write_unwritable, write_within, zero_careful, zero_unwritable, zero_within}
use Rattle.disk_store.proofs.Made.{change_made, made_as}
use Rattle.disk_store.proofs.Saying.{on_ok}
use Rattle.disk_store.proofs.Fitting.{installed_fits, put_lacks, removed_fits, rot_there, unrefused_fits}
use Rattle.disk_store.proofs.making.make.Goals as goal

pub returns-in-SetOrder-clause-ok : goal.returns-in-SetOrder-clause-ok
returns-in-SetOrder-clause-ok g c d is =
    let it = c.in-SetOrder in
    subst (λ (x : StoreChange). OnOk c.set_order.result (IsOpen g.D.Disk.seen g.D.Disk.may_leave c.set_order.new.self (disk_changed d x))) (sym it.is) (c.set_order.ensures.ok d is)

pub returns-in-SetOrder-clause-any_moment : goal.returns-in-SetOrder-clause-any_moment
returns-in-SetOrder-clause-any_moment g c =
    let it = c.in-SetOrder in
    let disk = g.D.Disk in
    let old = c.args.store.now in
    let new = c.set_order.new.self in
    made_as disk.seen disk.may_leave disk.moment disk.left_since old new (SetOrder it.order) c.args.change.now it.is (change_made disk.seen disk.may_leave disk.moment disk.left_since old new (SetOrder it.order) c.set_order.ensures.any_moment)

pub returns-in-Put-clause-ok : goal.returns-in-Put-clause-ok
returns-in-Put-clause-ok g c d is =
    let it = c.in-Put in
    subst (λ (x : StoreChange). OnOk c.install.result (IsOpen g.D.Disk.seen g.D.Disk.may_leave c.install.new.self (disk_changed d x))) (ap (λ (b : List ℕ). Put it.handle it.version it.serial b) c.deref.ensures ∙ sym it.is) (c.install.ensures.ok d is)

pub returns-in-Put-clause-any_moment : goal.returns-in-Put-clause-any_moment
returns-in-Put-clause-any_moment g c =
    let it = c.in-Put in
    let disk = g.D.Disk in
    let old = c.args.store.now in
    let new = c.install.new.self in
    let put = Put it.handle it.version it.serial c.deref.result.now in
    made_as disk.seen disk.may_leave disk.moment disk.left_since old new put c.args.change.now (it.is ∙ ap (λ (b : List ℕ). Put it.handle it.version it.serial b) (sym c.deref.ensures)) (change_made disk.seen disk.may_leave disk.moment disk.left_since old new put c.install.ensures.any_moment)

pub install-requires-clause-within : goal.install-requires-clause-within
install-requires-clause-within g c =
    let it = c.in-Put in
    let fits = put_within c.args.store.now.layout.chunk c.args.known.now.rows it.handle it.version it.serial it.bytes (ap (can_be_made c.args.store.now.layout.chunk c.args.known.now.rows) (sym it.is) ∙ c.requires.told) in
    let same = ap (λ (b : List ℕ). length b) c.deref.ensures in
    omega (arith, fits, same)

pub returns-in-Write-clause-ok : goal.returns-in-Write-clause-ok
returns-in-Write-clause-ok g c d is =
    let it = c.in-Write in
    subst (λ (x : StoreChange). OnOk c.write.result (IsOpen g.D.Disk.seen g.D.Disk.may_leave c.write.new.store (disk_changed d x))) (sym it.is) (c.write.ensures.ok d is)

pub returns-in-Write-clause-any_moment : goal.returns-in-Write-clause-any_moment
returns-in-Write-clause-any_moment g c =
    let it = c.in-Write in
    let disk = g.D.Disk in
    let old = c.args.store.now in
    let new = c.write.new.store in
    made_as disk.seen disk.may_leave disk.moment disk.left_since old new (Write it.handle it.serial it.offset it.bytes) c.args.change.now it.is c.write.ensures.any_moment

pub write-requires-clause-within : goal.write-requires-clause-within
write-requires-clause-within g c =
    let it = c.in-Write in
    le_of _ _ (write_within c.args.store.now.layout.chunk c.args.known.now.rows it.handle it.serial it.offset it.bytes (ap (can_be_made c.args.store.now.layout.chunk c.args.known.now.rows) (sym it.is) ∙ c.requires.told))

pub returns-in-Zero-clause-ok : goal.returns-in-Zero-clause-ok
returns-in-Zero-clause-ok g c d is =
    let it = c.in-Zero in
    subst (λ (x : StoreChange). OnOk c.zero.result (IsOpen g.D.Disk.seen g.D.Disk.may_leave c.zero.new.store (disk_changed d x))) (sym it.is) (c.zero.ensures.ok d is)

pub returns-in-Zero-clause-any_moment : goal.returns-in-Zero-clause-any_moment
returns-in-Zero-clause-any_moment g c =
    let it = c.in-Zero in
    let disk = g.D.Disk in
    let old = c.args.store.now in
    let new = c.zero.new.store in
    made_as disk.seen disk.may_leave disk.moment disk.left_since old new (Zero it.handle it.serial it.offset it.count) c.args.change.now it.is c.zero.ensures.any_moment

pub zero-requires-clause-within : goal.zero-requires-clause-within
zero-requires-clause-within g c =
    let it = c.in-Zero in
    le_of _ _ (zero_within c.args.store.now.layout.chunk c.args.known.now.rows it.handle it.serial it.offset it.count (ap (can_be_made c.args.store.now.layout.chunk c.args.known.now.rows) (sym it.is) ∙ c.requires.told))

pub returns-in-Raise-clause-ok : goal.returns-in-Raise-clause-ok
returns-in-Raise-clause-ok g c d is =
    let it = c.in-Raise in
    subst (λ (x : StoreChange). OnOk c.raise.result (IsOpen g.D.Disk.seen g.D.Disk.may_leave c.raise.new.store (disk_changed d x))) (sym it.is) (c.raise.ensures.ok d is)

pub returns-in-Raise-clause-any_moment : goal.returns-in-Raise-clause-any_moment
returns-in-Raise-clause-any_moment g c =
    let it = c.in-Raise in
    let disk = g.D.Disk in
    let old = c.args.store.now in
    let new = c.raise.new.store in
    made_as disk.seen disk.may_leave disk.moment disk.left_since old new (Raise it.handle it.version) c.args.change.now it.is c.raise.ensures.any_moment

pub returns-in-Copy-clause-ok : goal.returns-in-Copy-clause-ok
returns-in-Copy-clause-ok g c d is =
    let it = c.in-Copy in
    subst (λ (x : StoreChange). OnOk c.copy.result (IsOpen g.D.Disk.seen g.D.Disk.may_leave c.copy.new.store (disk_changed d x))) (sym it.is) (c.copy.ensures.ok d is)

pub returns-in-Copy-clause-any_moment : goal.returns-in-Copy-clause-any_moment
returns-in-Copy-clause-any_moment g c =
    let it = c.in-Copy in
    let disk = g.D.Disk in
    let old = c.args.store.now in
    let new = c.copy.new.store in
    made_as disk.seen disk.may_leave disk.moment disk.left_since old new (Copy it.handle it.other it.version) c.args.change.now it.is c.copy.ensures.any_moment

pub returns-in-Remove-clause-ok : goal.returns-in-Remove-clause-ok
returns-in-Remove-clause-ok g c d is =
    let it = c.in-Remove in
    subst (λ (x : StoreChange). OnOk c.drop_replica.result (IsOpen g.D.Disk.seen g.D.Disk.may_leave c.drop_replica.new.self (disk_changed d x))) (sym it.is) (c.drop_replica.ensures.ok d is)

pub returns-in-Remove-clause-any_moment : goal.returns-in-Remove-clause-any_moment
returns-in-Remove-clause-any_moment g c =
    let it = c.in-Remove in
    let disk = g.D.Disk in
    let old = c.args.store.now in
    let new = c.drop_replica.new.self in
    made_as disk.seen disk.may_leave disk.moment disk.left_since old new (Remove it.handle) c.args.change.now it.is (change_made disk.seen disk.may_leave disk.moment disk.left_since old new (Remove it.handle) c.drop_replica.ensures.any_moment)

pub returns-in-SetOrder-clause-careful : goal.returns-in-SetOrder-clause-careful
returns-in-SetOrder-clause-careful g c d is =
    let it = c.in-SetOrder in
    let chunk = c.args.store.now.layout.chunk in
    on_ok c.set_order.result (subst (IsCareful chunk d) (sym it.is) tt)

pub returns-in-SetOrder-clause-unfit : goal.returns-in-SetOrder-clause-unfit
returns-in-SetOrder-clause-unfit g c d is e over = let f : true ≡ false = sym over ∙ ap writes c.in-SetOrder.is in absurd cc

pub returns-in-SetOrder-clause-untouched : goal.returns-in-SetOrder-clause-untouched
returns-in-SetOrder-clause-untouched g c d is uncareful =
    let it = c.in-SetOrder in
    let chunk = c.args.store.now.layout.chunk in
    absurd (uncareful (subst (IsCareful chunk d) (sym it.is) tt))

pub returns-in-Put-clause-careful : goal.returns-in-Put-clause-careful
returns-in-Put-clause-careful g c d is =
    let it = c.in-Put in
    let chunk = c.args.store.now.layout.chunk in
    let told = ap (can_be_made chunk c.args.known.now.rows) (sym it.is) ∙ c.requires.told in
    on_ok c.install.result (subst (IsCareful chunk d) (sym it.is) (put_within chunk c.args.known.now.rows it.handle it.version it.serial it.bytes told))

pub returns-in-Put-clause-unfit : goal.returns-in-Put-clause-unfit
returns-in-Put-clause-unfit g c d is e over = let f : true ≡ false = sym over ∙ ap writes c.in-Put.is in absurd cc

pub returns-in-Put-clause-untouched : goal.returns-in-Put-clause-untouched
returns-in-Put-clause-untouched g c d is uncareful =
    let it = c.in-Put in
    let chunk = c.args.store.now.layout.chunk in
    let told = ap (can_be_made chunk c.args.known.now.rows) (sym it.is) ∙ c.requires.told in
    absurd (uncareful (subst (IsCareful chunk d) (sym it.is) (put_within chunk c.args.known.now.rows it.handle it.version it.serial it.bytes told)))

pub returns-in-Raise-clause-careful : goal.returns-in-Raise-clause-careful
returns-in-Raise-clause-careful g c d is =
    let it = c.in-Raise in
    let chunk = c.args.store.now.layout.chunk in
    on_ok c.raise.result (subst (IsCareful chunk d) (sym it.is) tt)

pub returns-in-Raise-clause-unfit : goal.returns-in-Raise-clause-unfit
returns-in-Raise-clause-unfit g c d is e over = let f : true ≡ false = sym over ∙ ap writes c.in-Raise.is in absurd cc

pub returns-in-Raise-clause-untouched : goal.returns-in-Raise-clause-untouched
returns-in-Raise-clause-untouched g c d is uncareful =
    let it = c.in-Raise in
    let chunk = c.args.store.now.layout.chunk in
    absurd (uncareful (subst (IsCareful chunk d) (sym it.is) tt))

pub returns-in-Copy-clause-careful : goal.returns-in-Copy-clause-careful
returns-in-Copy-clause-careful g c d is =
    let it = c.in-Copy in
    let chunk = c.args.store.now.layout.chunk in
    on_ok c.copy.result (subst (IsCareful chunk d) (sym it.is) tt)

pub returns-in-Copy-clause-unfit : goal.returns-in-Copy-clause-unfit
returns-in-Copy-clause-unfit g c d is e over = let f : true ≡ false = sym over ∙ ap writes c.in-Copy.is in absurd cc

pub returns-in-Copy-clause-untouched : goal.returns-in-Copy-clause-untouched
returns-in-Copy-clause-untouched g c d is uncareful =
    let it = c.in-Copy in
    let chunk = c.args.store.now.layout.chunk in
    absurd (uncareful (subst (IsCareful chunk d) (sym it.is) tt))

pub returns-in-Remove-clause-careful : goal.returns-in-Remove-clause-careful
returns-in-Remove-clause-careful g c d is =
    let it = c.in-Remove in
    let chunk = c.args.store.now.layout.chunk in
    on_ok c.drop_replica.result (subst (IsCareful chunk d) (sym it.is) tt)

pub returns-in-Remove-clause-unfit : goal.returns-in-Remove-clause-unfit
returns-in-Remove-clause-unfit g c d is e over = let f : true ≡ false = sym over ∙ ap writes c.in-Remove.is in absurd cc

pub returns-in-Remove-clause-untouched : goal.returns-in-Remove-clause-untouched
returns-in-Remove-clause-untouched g c d is uncareful =
    let it = c.in-Remove in
    let chunk = c.args.store.now.layout.chunk in
    absurd (uncareful (subst (IsCareful chunk d) (sym it.is) tt))

pub returns-in-Write-clause-careful : goal.returns-in-Write-clause-careful
returns-in-Write-clause-careful g c d is =
    let it = c.in-Write in
    let chunk = c.args.store.now.layout.chunk in
    let rows = c.args.known.now.rows in
    let told = ap (can_be_made chunk rows) (sym it.is) ∙ c.requires.told in
    on_ok_weaker c.write.result (λ writable. subst (IsCareful chunk d) (sym it.is) (write_careful chunk rows d it.handle it.serial it.offset it.bytes told writable)) (c.write.ensures.writable d is)

pub returns-in-Write-clause-unfit : goal.returns-in-Write-clause-unfit
returns-in-Write-clause-unfit g c d is e over =
    let it = c.in-Write in
    let chunk = c.args.store.now.layout.chunk in
    let both = c.write.ensures.corrupt d is e in
    (λ careful. (let kept = subst (IsCareful chunk d) it.is careful in let f : true ≡ false = sym kept.1 ∙ both.0 in cc), both.1)

pub returns-in-Write-clause-untouched : goal.returns-in-Write-clause-untouched
returns-in-Write-clause-untouched g c d is uncareful =
    let it = c.in-Write in
    let chunk = c.args.store.now.layout.chunk in
    let rows = c.args.known.now.rows in
    let told = ap (can_be_made chunk rows) (sym it.is) ∙ c.requires.told in
    c.write.ensures.untouched d is (write_unwritable chunk rows d it.handle it.serial it.offset it.bytes told (λ careful. uncareful (subst (IsCareful chunk d) (sym it.is) careful)))

pub returns-in-Zero-clause-careful : goal.returns-in-Zero-clause-careful
returns-in-Zero-clause-careful g c d is =
    let it = c.in-Zero in
    let chunk = c.args.store.now.layout.chunk in
    let rows = c.args.known.now.rows in
    let told = ap (can_be_made chunk rows) (sym it.is) ∙ c.requires.told in
    on_ok_weaker c.zero.result (λ writable. subst (IsCareful chunk d) (sym it.is) (zero_careful chunk rows d it.handle it.serial it.offset it.count told writable)) (c.zero.ensures.writable d is)

pub returns-in-Zero-clause-unfit : goal.returns-in-Zero-clause-unfit
returns-in-Zero-clause-unfit g c d is e over =
    let it = c.in-Zero in
    let chunk = c.args.store.now.layout.chunk in
    let both = c.zero.ensures.corrupt d is e in
    (λ careful. (let kept = subst (IsCareful chunk d) it.is careful in let f : true ≡ false = sym kept.1 ∙ both.0 in cc), both.1)

pub returns-in-Zero-clause-untouched : goal.returns-in-Zero-clause-untouched
returns-in-Zero-clause-untouched g c d is uncareful =
    let it = c.in-Zero in
    let chunk = c.args.store.now.layout.chunk in
    let rows = c.args.known.now.rows in
    let told = ap (can_be_made chunk rows) (sym it.is) ∙ c.requires.told in
    c.zero.ensures.untouched d is (zero_unwritable chunk rows d it.handle it.serial it.offset it.count told (λ careful. uncareful (subst (IsCareful chunk d) (sym it.is) careful)))

pub returns-in-SetOrder-clause-only : goal.returns-in-SetOrder-clause-only
returns-in-SetOrder-clause-only g c d is known copyable = unrefused_fits c.args.change.now c.set_order.result c.set_order.ensures.unrefused

pub returns-in-Put-clause-only : goal.returns-in-Put-clause-only
returns-in-Put-clause-only g c d is known copyable =
    let it = c.in-Put in
    let call = c.install.ensures in
    let told = ap (can_be_made c.args.store.now.layout.chunk c.args.known.now.rows) (sym it.is) ∙ c.requires.told in
    let lacks = put_lacks c.args.store.now.layout.chunk c.args.known.now.rows it.handle it.version it.serial it.bytes told in
    installed_fits c.args.change.now c.install.result d it.handle.0 (sym (known.rows_are it.handle.0) ∙ lacks) (call.version d is) call.no_chunk call.intact call.no_serial

pub returns-in-Write-clause-only : goal.returns-in-Write-clause-only
returns-in-Write-clause-only g c d is known copyable =
    let it = c.in-Write in
    let told = ap (can_be_made c.args.store.now.layout.chunk c.args.known.now.rows) (sym it.is) ∙ c.requires.told in
    subst (λ (x : StoreChange). IsFitting x c.write.result) (sym it.is) (c.write.ensures.only d is known told)

pub returns-in-Zero-clause-only : goal.returns-in-Zero-clause-only
returns-in-Zero-clause-only g c d is known copyable =
    let it = c.in-Zero in
    let told = ap (can_be_made c.args.store.now.layout.chunk c.args.known.now.rows) (sym it.is) ∙ c.requires.told in
    subst (λ (x : StoreChange). IsFitting x c.zero.result) (sym it.is) (c.zero.ensures.only d is known told)

pub returns-in-Raise-clause-only : goal.returns-in-Raise-clause-only
returns-in-Raise-clause-only g c d is known copyable =
    let it = c.in-Raise in
    let told = ap (can_be_made c.args.store.now.layout.chunk c.args.known.now.rows) (sym it.is) ∙ c.requires.told in
    subst (λ (x : StoreChange). IsFitting x c.raise.result) (sym it.is) (c.raise.ensures.only d is known told)

pub returns-in-Copy-clause-only : goal.returns-in-Copy-clause-only
returns-in-Copy-clause-only g c d is known copyable =
    let it = c.in-Copy in
    let told = ap (can_be_made c.args.store.now.layout.chunk c.args.known.now.rows) (sym it.is) ∙ c.requires.told in
    subst (λ (x : StoreChange). IsFitting x c.copy.result) (sym it.is) (c.copy.ensures.only d is known told (subst (IsCopyable d) it.is copyable))

pub returns-in-Remove-clause-only : goal.returns-in-Remove-clause-only
returns-in-Remove-clause-only g c d is known copyable =
    let it = c.in-Remove in
    let call = c.drop_replica.ensures in
    let told = ap (can_be_made c.args.store.now.layout.chunk c.args.known.now.rows) (sym it.is) ∙ c.requires.told in
    let row = test_some (map.get c.args.known.now.rows it.handle.0) told in
    removed_fits c.args.change.now c.drop_replica.result d it.handle.0 row.0 (sym (known.rows_are it.handle.0) ∙ row.1) (call.no_chunk d is) call.only

pub rot-requires-clause-place : goal.rot-requires-clause-place
rot-requires-clause-place g c =
    let it = c.in-Rot in
    let chunk = c.args.store.now.layout.chunk in
    rot_within chunk c.args.known.now.rows it.handle it.place it.byte (ap (can_be_made chunk c.args.known.now.rows) (sym it.is) ∙ c.requires.told)

pub returns-in-Rot-clause-ok : goal.returns-in-Rot-clause-ok
returns-in-Rot-clause-ok g c d is =
    let it = c.in-Rot in
    subst (λ (x : StoreChange). OnOk c.rot.result (IsOpen g.D.Disk.seen g.D.Disk.may_leave c.rot.new.self (disk_changed d x))) (sym it.is) (c.rot.ensures.ok d is)

pub returns-in-Rot-clause-any_moment : goal.returns-in-Rot-clause-any_moment
returns-in-Rot-clause-any_moment g c =
    let it = c.in-Rot in
    let disk = g.D.Disk in
    let old = c.args.store.now in
    let new = c.rot.new.self in
    let rot = Rot it.handle it.place it.byte in
    made_as disk.seen disk.may_leave disk.moment disk.left_since old new rot c.args.change.now it.is (change_made disk.seen disk.may_leave disk.moment disk.left_since old new rot c.rot.ensures.any_moment)

pub returns-in-Rot-clause-careful : goal.returns-in-Rot-clause-careful
returns-in-Rot-clause-careful g c d is =
    let it = c.in-Rot in
    let chunk = c.args.store.now.layout.chunk in
    let told = ap (can_be_made chunk c.args.known.now.rows) (sym it.is) ∙ c.requires.told in
    on_ok c.rot.result (subst (IsCareful chunk d) (sym it.is) (rot_within chunk c.args.known.now.rows it.handle it.place it.byte told))

pub returns-in-Rot-clause-unfit : goal.returns-in-Rot-clause-unfit
returns-in-Rot-clause-unfit g c d is e over = let f : true ≡ false = sym over ∙ ap writes c.in-Rot.is in absurd cc

pub returns-in-Rot-clause-untouched : goal.returns-in-Rot-clause-untouched
returns-in-Rot-clause-untouched g c d is uncareful =
    let it = c.in-Rot in
    let chunk = c.args.store.now.layout.chunk in
    let told = ap (can_be_made chunk c.args.known.now.rows) (sym it.is) ∙ c.requires.told in
    absurd (uncareful (subst (IsCareful chunk d) (sym it.is) (rot_within chunk c.args.known.now.rows it.handle it.place it.byte told)))

pub returns-in-Rot-clause-only : goal.returns-in-Rot-clause-only
returns-in-Rot-clause-only g c d is known copyable =
    let it = c.in-Rot in
    let call = c.rot.ensures in
    let told = ap (can_be_made c.args.store.now.layout.chunk c.args.known.now.rows) (sym it.is) ∙ c.requires.told in
    let row = rot_there c.args.store.now.layout.chunk c.args.known.now.rows it.handle it.place it.byte told in
    removed_fits c.args.change.now c.rot.result d it.handle.0 row.0 (sym (known.rows_are it.handle.0) ∙ row.1) (call.no_chunk d is) call.only
