use Rattle.std.proofs.Common.{ℕ, ◌+◌, sym, ap, ◌∙◌, subst, Some}
use Rattle.std.specs.Prelude.{OnOk, replicate}
use Rattle.std.specs.FinMap as map
use Rattle.std.proofs.lemmas.Result.{on_ok_weaker}
use Rattle.replica_store.specs.declared.change.StoreChange.{StoreChange}
use Rattle.replica_store.specs.Replicas.{disk_changed, own_bytes, raised_replica, replica_of, rotten_replica, stored_replica, written_replica}
use Rattle.store_disk.proofs.Looked.{order_stays}
use Rattle.disk_store.specs.Known.{IsKnownOf, Rows, longer_row, rows_with}
use Rattle.disk_store.proofs.Rows.{copy_known, insert_known, raise_known, remove_known, rot_known, write_known, zero_known}
use Rattle.disk_store.proofs.known.Known.make.Goals as goal

pub returns-in-Put-clause-ok : goal.returns-in-Put-clause-ok
returns-in-Put-clause-ok c d is enough =
    let it = c.in-Put in
    let rows = c.args.self.now.rows in
    subst (λ (x : StoreChange). OnOk c.insert.result (IsKnownOf c.args.self.now.order c.insert.new.self (disk_changed d x))) (sym it.is)
    (on_ok_weaker c.insert.result (λ made. record {
      order_is = is.order_is;
      rows_are = λ q.
          ap (λ (m : Rows). map.get m q) made
          ∙ insert_known d rows is.rows_are it.handle.0 (stored_replica d.chunk d.block it.version.0 it.serial.0 it.bytes) (record { version = it.version; serial = it.serial; count = c.len.result })
          (ap (λ (n : ℕ). Some (record { version = it.version; serial = it.serial; count = n })) (sym c.len.ensures.value)) q;
    }) c.insert.ensures.ok)

pub returns-in-Write-clause-ok : goal.returns-in-Write-clause-ok
returns-in-Write-clause-ok c d is enough =
    let it = c.in-Write in
    let rows = c.args.self.now.rows in
    subst (λ (x : StoreChange). OnOk c.lengthen.result (IsKnownOf c.args.self.now.order c.lengthen.new.rows (disk_changed d x))) (sym it.is)
    (on_ok_weaker c.lengthen.result (λ made. record {
      order_is = is.order_is ∙ order_stays (λ r. written_replica d.block r it.serial.0 it.offset it.bytes) d it.handle.0 (replica_of d it.handle.0);
      rows_are = λ q.
          ap (λ (m : Rows). map.get m q) made
          ∙ ap (λ (n : ℕ). map.get (rows_with (λ row. longer_row row it.serial.0 n) rows it.handle.0 (map.get rows it.handle.0)) q) (c.end_of-end.ensures ∙ ap (λ (n : ℕ). it.offset + n) c.len-in-Write.ensures.value)
          ∙ write_known d rows is.rows_are it.handle.0 it.serial.0 it.offset it.bytes q;
    }) c.lengthen.ensures.ok)

pub returns-in-Zero-clause-ok : goal.returns-in-Zero-clause-ok
returns-in-Zero-clause-ok c d is enough =
    let it = c.in-Zero in
    let rows = c.args.self.now.rows in
    subst (λ (x : StoreChange). OnOk c.lengthen-in-Zero.result (IsKnownOf c.args.self.now.order c.lengthen-in-Zero.new.rows (disk_changed d x))) (sym it.is)
    (on_ok_weaker c.lengthen-in-Zero.result (λ made. record {
      order_is = is.order_is ∙ order_stays (λ r. written_replica d.block r it.serial.0 it.offset (replicate it.count 0)) d it.handle.0 (replica_of d it.handle.0);
      rows_are = λ q.
          ap (λ (m : Rows). map.get m q) made
          ∙ ap (λ (n : ℕ). map.get (rows_with (λ row. longer_row row it.serial.0 n) rows it.handle.0 (map.get rows it.handle.0)) q) c.end_of-end-in-Zero.ensures
          ∙ zero_known d rows is.rows_are it.handle.0 it.serial.0 it.offset it.count q;
    }) c.lengthen-in-Zero.ensures.ok)

pub returns-in-Raise-clause-ok : goal.returns-in-Raise-clause-ok
returns-in-Raise-clause-ok c d is enough =
    let it = c.in-Raise in
    let rows = c.args.self.now.rows in
    subst (λ (x : StoreChange). OnOk c.raise.result (IsKnownOf c.args.self.now.order c.raise.new.rows (disk_changed d x))) (sym it.is)
    (on_ok_weaker c.raise.result (λ made. record {
      order_is = is.order_is ∙ order_stays (λ r. raised_replica r it.version.0) d it.handle.0 (replica_of d it.handle.0);
      rows_are = λ q. ap (λ (m : Rows). map.get m q) made ∙ raise_known d rows is.rows_are it.handle.0 it.version.0 q;
    }) c.raise.ensures.ok)

pub returns-in-Copy-clause-ok : goal.returns-in-Copy-clause-ok
returns-in-Copy-clause-ok c d is enough =
    let it = c.in-Copy in
    let rows = c.args.self.now.rows in
    subst (λ (x : StoreChange). OnOk c.raise-in-Copy.result (IsKnownOf c.args.self.now.order c.raise-in-Copy.new.rows (disk_changed d x))) (sym it.is)
    (on_ok_weaker c.raise-in-Copy.result (λ made. record {
      order_is = is.order_is ∙ order_stays (λ r. stored_replica d.chunk d.block it.version.0 0 (own_bytes r)) d it.copy.0 (replica_of d it.handle.0);
      rows_are = λ q. ap (λ (m : Rows). map.get m q) made ∙ copy_known d rows is.rows_are it.handle.0 it.copy.0 it.version.0 q (enough it.handle.0);
    }) c.raise-in-Copy.ensures.ok)

pub returns-in-Remove-clause-ok : goal.returns-in-Remove-clause-ok
returns-in-Remove-clause-ok c d is enough =
    let it = c.in-Remove in
    let rows = c.args.self.now.rows in
    subst (λ (x : StoreChange). IsKnownOf c.args.self.now.order c.remove.new.self (disk_changed d x)) (sym it.is) (record {
      order_is = is.order_is;
      rows_are = λ q. ap (λ (m : Rows). map.get m q) c.remove.ensures.rest ∙ remove_known d rows is.rows_are it.handle.0 q;
    })

pub returns-in-Rot-clause-ok : goal.returns-in-Rot-clause-ok
returns-in-Rot-clause-ok c d is enough =
    let it = c.in-Rot in
    subst (λ (x : StoreChange). IsKnownOf c.args.self.now.order c.args.self.now.rows (disk_changed d x)) (sym it.is) (record {
      order_is = is.order_is ∙ order_stays (λ r. rotten_replica r it._place it._byte) d it._handle.0 (replica_of d it._handle.0);
      rows_are = λ q. rot_known d c.args.self.now.rows is.rows_are it._handle.0 it._place it._byte q;
    })
