use Rattle.std.proofs.Common.{◌≡◌, ℕ, ◌+◌, ◌≤◌, true, false, List, length, max, sym, ap, ◌∙◌, subst, arith, Some, None}
use Rattle.std.specs.FinMap as map
use Rattle.std.specs.Option.{option_map}
use Rattle.disk_redo.specs.Redo.{FitsArea}
use Rattle.replica_store.specs.declared.change.StoreChange.TheVariants.{Write}
use Rattle.store_disk.specs.Index.{IndexState}
use Rattle.store_changes.specs.Areas.{area_of}
use Rattle.store_changes.specs.Changing.{Says}
use Rattle.replica_store.specs.declared.row.Row.{Row}
use Rattle.replica_store.specs.Replicas.{Replica, disk_changed, is_writable_at}
use Rattle.disk_redo.specs.declared.range.RedoRange.{RedoRange}
use Rattle.store_disk.specs.Fields.{FitsHeader}
use Rattle.store_disk.specs.Stored.{Holds, header_of}
use Rattle.store_changes.specs.Writing.{checked_ranges, written_row}
use Rattle.store_changes.proofs.Moments.{only_read, still_rests, written_either, written_so}
use Rattle.store_changes.proofs.Plans.{is_written, not_written, write_law}
use Rattle.store_changes.proofs.writing.write.Goals as goal

pub returns-in_err-ranges-clause-any_moment : goal.returns-in_err-ranges-clause-any_moment
returns-in_err-ranges-clause-any_moment g c =
    let disk = g.D.Disk in
    let l = c.args.layout in
    only_read disk.seen disk.may_leave disk.moment disk.left_since l.chunk l.block l.slots c.args.index.now (Write c.args.handle c.args.serial c.args.offset c.args.bytes.now) c.args.disk.now c.checked_ranges.new.disk c.requires.rest c.checked_ranges.ensures.reads

pub returns-in_default-clause-any_moment : goal.returns-in_default-clause-any_moment
returns-in_default-clause-any_moment g c =
    let disk = g.D.Disk in
    let l = c.args.layout in
    only_read disk.seen disk.may_leave disk.moment disk.left_since l.chunk l.block l.slots c.args.index.now (Write c.args.handle c.args.serial c.args.offset c.args.bytes.now) c.args.disk.now c.checked_ranges.new.disk c.requires.rest c.checked_ranges.ensures.reads

pub returns-in_default-clause-rest : goal.returns-in_default-clause-rest
returns-in_default-clause-rest g c =
    let disk = g.D.Disk in
    let l = c.args.layout in
    still_rests disk.seen disk.may_leave disk.moment disk.left_since l.chunk l.block c.args.disk.now c.checked_ranges.new.disk c.requires.rest c.checked_ranges.ensures.reads

pub returns-in_default-clause-writable : goal.returns-in_default-clause-writable
returns-in_default-clause-writable g c d says =
    let disk = g.D.Disk in
    let l = c.args.layout in
    let seen = disk.seen c.args.disk.now in
    let index = c.args.index.now in
    let h = c.args.handle.0 in
    let found = c.args.found in
    let serial = c.args.serial.0 in
    let offset = c.args.offset in
    let content = c.args.bytes.now in
    let now : Row = written_row found.row serial offset content in
    let row_is : c.row_after-row.result ≡ now = c.row_after-row.ensures ∙ ap (λ (n : ℕ). record { version = found.row.version; serial = c.args.serial; count = max found.row.count (offset + n) }) c.len-count.ensures.value in
    let planned : (q : ℕ) (r : Replica) → Holds l.chunk l.block seen found.slot q r → None ≡ checked_ranges l.chunk l.block r found.slot h now offset content =
    λ q r holds. sym (ap (option_map (λ v. v.items)) c.in_default.is) ∙ c.in_ok-ranges.ensures.ranges q r holds ∙ ap (λ (row : Row). checked_ranges l.chunk l.block r found.slot h row offset content) row_is in
    not_written l.chunk l.block l.slots index seen c.requires.size c.requires.rest.closed h found c.requires.found serial offset content planned d says

pub change-requires-clause-rest : goal.change-requires-clause-rest
change-requires-clause-rest g c =
    let disk = g.D.Disk in
    let l = c.args.layout in
    still_rests disk.seen disk.may_leave disk.moment disk.left_since l.chunk l.block c.args.disk.now c.checked_ranges.new.disk c.requires.rest c.checked_ranges.ensures.reads

pub change-requires-clause-fits : goal.change-requires-clause-fits
change-requires-clause-fits g c =
    let l = c.args.layout in
    let room = rw c.in-Some.is at c.in_ok-ranges.ensures.room in
    subst (λ (s : List ℕ). FitsArea (area_of l.chunk l.block) (length s) c.deref.result.now) (sym c.checked_ranges.ensures.reads.seen_same)
    (subst (λ (rs : List RedoRange). FitsArea (area_of l.chunk l.block) (length (g.D.Disk.seen c.args.disk.now)) rs) (sym c.deref.ensures.value) room)

pub returns-in_err-update-clause-any_moment : goal.returns-in_err-update-clause-any_moment
returns-in_err-update-clause-any_moment g c =
    let disk = g.D.Disk in
    let l = c.args.layout in
    only_read disk.seen disk.may_leave disk.moment disk.left_since l.chunk l.block l.slots c.args.index.now (Write c.args.handle c.args.serial c.args.offset c.args.bytes.now) c.args.disk.now c.checked_ranges.new.disk c.requires.rest c.checked_ranges.ensures.reads

pub returns-in_err-change-clause-any_moment : goal.returns-in_err-change-clause-any_moment
returns-in_err-change-clause-any_moment g c =
    let disk = g.D.Disk in
    let l = c.args.layout in
    let seen = disk.seen c.args.disk.now in
    let index = c.args.index.now in
    let h = c.args.handle.0 in
    let found = c.args.found in
    let serial = c.args.serial.0 in
    let offset = c.args.offset in
    let content = c.args.bytes.now in
    let now : Row = written_row found.row serial offset content in
    let row_is : c.row_after-row.result ≡ now = c.row_after-row.ensures ∙ ap (λ (n : ℕ). record { version = found.row.version; serial = c.args.serial; count = max found.row.count (offset + n) }) c.len-count.ensures.value in
    let items : List RedoRange = c.deref.result.now in
    let planned : (q : ℕ) (r : Replica) → Holds l.chunk l.block seen found.slot q r → Some items ≡ checked_ranges l.chunk l.block r found.slot h now offset content =
    λ q r holds. ap (λ (rs : List RedoRange). Some rs) c.deref.ensures.value ∙ sym (ap (option_map (λ v. v.items)) c.in-Some.is) ∙ c.in_ok-ranges.ensures.ranges q r holds
    ∙ ap (λ (row : Row). checked_ranges l.chunk l.block r found.slot h row offset content) row_is in
    let positive : 1 ≤ l.block = omega (arith, l.block_range) in
    let small : FitsHeader (header_of h now) = subst (λ (row : Row). FitsHeader (header_of h row)) row_is c.checked_ranges.ensures.fits in
    let index_now : IndexState = record index { held = map.insert index.held h (record found { row = now }) } in
    let law = write_law l.chunk l.block l.slots index seen c.requires.size c.requires.rest.closed h found c.requires.found serial offset content items planned positive c.requires.whole c.requires.within small in
    written_either disk.seen disk.may_leave disk.moment disk.left_since l.chunk l.block l.slots index (Write c.args.handle c.args.serial offset content) c.args.disk.now c.checked_ranges.new.disk c.change.new.disk items index_now c.checked_ranges.ensures.reads law c.requires.rest c.change.ensures.any_moment

pub returns-clause-any_moment : goal.returns-clause-any_moment
returns-clause-any_moment g c =
    let disk = g.D.Disk in
    let l = c.args.layout in
    let seen = disk.seen c.args.disk.now in
    let index = c.args.index.now in
    let h = c.args.handle.0 in
    let found = c.args.found in
    let serial = c.args.serial.0 in
    let offset = c.args.offset in
    let content = c.args.bytes.now in
    let now : Row = written_row found.row serial offset content in
    let row_is : c.row_after-row.result ≡ now = c.row_after-row.ensures ∙ ap (λ (n : ℕ). record { version = found.row.version; serial = c.args.serial; count = max found.row.count (offset + n) }) c.len-count.ensures.value in
    let items : List RedoRange = c.deref.result.now in
    let planned : (q : ℕ) (r : Replica) → Holds l.chunk l.block seen found.slot q r → Some items ≡ checked_ranges l.chunk l.block r found.slot h now offset content =
    λ q r holds. ap (λ (rs : List RedoRange). Some rs) c.deref.ensures.value ∙ sym (ap (option_map (λ v. v.items)) c.in-Some.is) ∙ c.in_ok-ranges.ensures.ranges q r holds
    ∙ ap (λ (row : Row). checked_ranges l.chunk l.block r found.slot h row offset content) row_is in
    let positive : 1 ≤ l.block = omega (arith, l.block_range) in
    let small : FitsHeader (header_of h now) = subst (λ (row : Row). FitsHeader (header_of h row)) row_is c.checked_ranges.ensures.fits in
    let index_now : IndexState = record index { held = map.insert index.held h (record found { row = now }) } in
    let law = write_law l.chunk l.block l.slots index seen c.requires.size c.requires.rest.closed h found c.requires.found serial offset content items planned positive c.requires.whole c.requires.within small in
    written_either disk.seen disk.may_leave disk.moment disk.left_since l.chunk l.block l.slots index (Write c.args.handle c.args.serial offset content) c.args.disk.now c.checked_ranges.new.disk c.change.new.disk items index_now c.checked_ranges.ensures.reads law c.requires.rest c.change.ensures.any_moment

pub returns-clause-writable : goal.returns-clause-writable
returns-clause-writable g c d says =
    let disk = g.D.Disk in
    let l = c.args.layout in
    let seen = disk.seen c.args.disk.now in
    let index = c.args.index.now in
    let h = c.args.handle.0 in
    let found = c.args.found in
    let serial = c.args.serial.0 in
    let offset = c.args.offset in
    let content = c.args.bytes.now in
    let now : Row = written_row found.row serial offset content in
    let row_is : c.row_after-row.result ≡ now = c.row_after-row.ensures ∙ ap (λ (n : ℕ). record { version = found.row.version; serial = c.args.serial; count = max found.row.count (offset + n) }) c.len-count.ensures.value in
    let items : List RedoRange = c.deref.result.now in
    let planned : (q : ℕ) (r : Replica) → Holds l.chunk l.block seen found.slot q r → Some items ≡ checked_ranges l.chunk l.block r found.slot h now offset content =
    λ q r holds. ap (λ (rs : List RedoRange). Some rs) c.deref.ensures.value ∙ sym (ap (option_map (λ v. v.items)) c.in-Some.is) ∙ c.in_ok-ranges.ensures.ranges q r holds
    ∙ ap (λ (row : Row). checked_ranges l.chunk l.block r found.slot h row offset content) row_is in
    let positive : 1 ≤ l.block = omega (arith, l.block_range) in
    is_written l.chunk l.block l.slots index seen c.requires.size c.requires.rest.closed h found c.requires.found serial offset content items planned d says

pub returns-clause-made : goal.returns-clause-made
returns-clause-made g c is_yes d says =
    let disk = g.D.Disk in
    let l = c.args.layout in
    let seen = disk.seen c.args.disk.now in
    let index = c.args.index.now in
    let h = c.args.handle.0 in
    let found = c.args.found in
    let serial = c.args.serial.0 in
    let offset = c.args.offset in
    let content = c.args.bytes.now in
    let now : Row = written_row found.row serial offset content in
    let row_is : c.row_after-row.result ≡ now = c.row_after-row.ensures ∙ ap (λ (n : ℕ). record { version = found.row.version; serial = c.args.serial; count = max found.row.count (offset + n) }) c.len-count.ensures.value in
    let items : List RedoRange = c.deref.result.now in
    let planned : (q : ℕ) (r : Replica) → Holds l.chunk l.block seen found.slot q r → Some items ≡ checked_ranges l.chunk l.block r found.slot h now offset content =
    λ q r holds. ap (λ (rs : List RedoRange). Some rs) c.deref.ensures.value ∙ sym (ap (option_map (λ v. v.items)) c.in-Some.is) ∙ c.in_ok-ranges.ensures.ranges q r holds
    ∙ ap (λ (row : Row). checked_ranges l.chunk l.block r found.slot h row offset content) row_is in
    let positive : 1 ≤ l.block = omega (arith, l.block_range) in
    let small : FitsHeader (header_of h now) = subst (λ (row : Row). FitsHeader (header_of h row)) row_is c.checked_ranges.ensures.fits in
    let index_now : IndexState = record index { held = map.insert index.held h (record found { row = now }) } in
    let law = write_law l.chunk l.block l.slots index seen c.requires.size c.requires.rest.closed h found c.requires.found serial offset content items planned positive c.requires.whole c.requires.within small in
    let index_is = c.in_ok-update.ensures.ok ∙ ap (λ (row : Row). record index { held = map.insert index.held h (record found { row = row }) }) row_is in
    subst (λ (x : IndexState). Says l.chunk l.block l.slots x (disk.seen c.change.new.disk) (disk_changed d (Write c.args.handle c.args.serial offset content))) (sym index_is)
    (written_so disk.seen disk.may_leave disk.moment disk.left_since l.chunk l.block l.slots index (Write c.args.handle c.args.serial offset content) c.args.disk.now c.checked_ranges.new.disk c.change.new.disk items index_now c.checked_ranges.ensures.reads law d c.in_ok-change.ensures.made says)

pub returns-in_err-change-clause-untouched : goal.returns-in_err-change-clause-untouched
returns-in_err-change-clause-untouched g c d says none =
    let disk = g.D.Disk in
    let l = c.args.layout in
    let seen = disk.seen c.args.disk.now in
    let index = c.args.index.now in
    let h = c.args.handle.0 in
    let found = c.args.found in
    let serial = c.args.serial.0 in
    let offset = c.args.offset in
    let content = c.args.bytes.now in
    let now : Row = written_row found.row serial offset content in
    let row_is : c.row_after-row.result ≡ now = c.row_after-row.ensures ∙ ap (λ (n : ℕ). record { version = found.row.version; serial = c.args.serial; count = max found.row.count (offset + n) }) c.len-count.ensures.value in
    let items : List RedoRange = c.deref.result.now in
    let planned : (q : ℕ) (r : Replica) → Holds l.chunk l.block seen found.slot q r → Some items ≡ checked_ranges l.chunk l.block r found.slot h now offset content =
    λ q r holds. ap (λ (rs : List RedoRange). Some rs) c.deref.ensures.value ∙ sym (ap (option_map (λ v. v.items)) c.in-Some.is) ∙ c.in_ok-ranges.ensures.ranges q r holds
    ∙ ap (λ (row : Row). checked_ranges l.chunk l.block r found.slot h row offset content) row_is in
    let positive : 1 ≤ l.block = omega (arith, l.block_range) in
    let is : true ≡ is_writable_at d h offset (offset + length content) =
    is_written l.chunk l.block l.slots index seen c.requires.size c.requires.rest.closed h found c.requires.found serial offset content items planned d says in
    let f : true ≡ false = is ∙ none in absurd cc

pub returns-clause-untouched : goal.returns-clause-untouched
returns-clause-untouched g c d says none =
    let disk = g.D.Disk in
    let l = c.args.layout in
    let seen = disk.seen c.args.disk.now in
    let index = c.args.index.now in
    let h = c.args.handle.0 in
    let found = c.args.found in
    let serial = c.args.serial.0 in
    let offset = c.args.offset in
    let content = c.args.bytes.now in
    let now : Row = written_row found.row serial offset content in
    let row_is : c.row_after-row.result ≡ now = c.row_after-row.ensures ∙ ap (λ (n : ℕ). record { version = found.row.version; serial = c.args.serial; count = max found.row.count (offset + n) }) c.len-count.ensures.value in
    let items : List RedoRange = c.deref.result.now in
    let planned : (q : ℕ) (r : Replica) → Holds l.chunk l.block seen found.slot q r → Some items ≡ checked_ranges l.chunk l.block r found.slot h now offset content =
    λ q r holds. ap (λ (rs : List RedoRange). Some rs) c.deref.ensures.value ∙ sym (ap (option_map (λ v. v.items)) c.in-Some.is) ∙ c.in_ok-ranges.ensures.ranges q r holds
    ∙ ap (λ (row : Row). checked_ranges l.chunk l.block r found.slot h row offset content) row_is in
    let positive : 1 ≤ l.block = omega (arith, l.block_range) in
    let is : true ≡ is_writable_at d h offset (offset + length content) =
    is_written l.chunk l.block l.slots index seen c.requires.size c.requires.rest.closed h found c.requires.found serial offset content items planned d says in
    let f : true ≡ false = is ∙ none in absurd cc
