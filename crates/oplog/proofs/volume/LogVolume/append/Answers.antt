use Rattle.std.proofs.Common.{◌≡◌, ◌+◌, ◌≤◌, true, List, ℕ, [], ◌∷◌, ◌++◌, length, sym, subst, ap, ◌∙◌, arith}
use Rattle.std.specs.Prelude.{Err}
use Rattle.disk_redo.specs.Gates.{committed, IsCommitting, IsUncommitted}
use Rattle.disk_redo.proofs.Moments.{weaker}
use Rattle.oplog.specs.Entries.{entry}
use Rattle.oplog.specs.Layout.{area_size, record_fits}
use Rattle.oplog.specs.Changes.{appended, IsBeforeOrAfter}
use Rattle.oplog.specs.Logs.{IsOpen}
use Rattle.oplog.proofs.Refusing.{was_refused}
use Rattle.oplog.proofs.Appending.{after_stop, appends, nothing_left, stays, within}
use Rattle.oplog.proofs.volume.LogVolume.append.Goals as goal

pub write_behind-requires-clause-room : goal.write_behind-requires-clause-room
write_behind-requires-clause-room g c =
    let log = c.args.self.now in
    let r = c.args.logged.now in
    let area = c.requires.is_open.0 in
    let is_open = c.requires.is_open.1 in
    let has_room : record_fits (area_size log.size) area r ≡ true = grind (arith, c.fits.ensures area is_open) in
    let written : c.deref.result.now ≡ entry r ++ 0 ∷ [] = c.deref.ensures.value ∙ c.in_ok-bytes.ensures.bytes in
    subst (λ (l : List ℕ). log.start + log.end + 1 + length l ≤ length (g.D.Disk.seen log.disk)) (sym written)
    (within g.D.Disk.seen g.D.Disk.may_leave log area is_open r has_room (c.in_ok-bytes.ensures.stands, c.requires.no_item))

pub returns-clause-ok : goal.returns-clause-ok
returns-clause-ok g c area is_open =
    let log = c.args.self.now in
    let r = c.args.logged.now in
    let d = g.D.Disk.seen log.disk in
    let has_room : record_fits (area_size log.size) area r ≡ true = grind (arith, c.fits.ensures area is_open) in
    let written : c.deref.result.now ≡ entry r ++ 0 ∷ [] = c.deref.ensures.value ∙ c.in_ok-bytes.ensures.bytes in
    let is : g.D.Disk.seen c.write_behind.new.disk ≡ committed d (log.start + log.end + 1) (entry r ++ 0 ∷ []) (log.start + log.end) =
    c.in_ok-write_behind.ensures.committed ∙ ap (λ (l : List ℕ). committed d (log.start + log.end + 1) l (log.start + log.end)) written in
    let count : length (entry r ++ 0 ∷ []) ≡ c.len.result = sym (ap length written) ∙ c.deref.ensures.len ∙ sym c.len.ensures in
    subst (λ (k : ℕ). IsOpen g.D.Disk.seen g.D.Disk.may_leave (record log { disk = c.write_behind.new.disk; end = log.end + k }) (appended area r)) count
    (appends g.D.Disk.seen g.D.Disk.may_leave log area is_open r has_room (c.in_ok-bytes.ensures.stands, c.requires.no_item) c.write_behind.new.disk is c.in_ok-write_behind.ensures.durable)

pub returns-clause-any_moment : goal.returns-clause-any_moment
returns-clause-any_moment g c area is_open =
    let log = c.args.self.now in
    let r = c.args.logged.now in
    let has_room : record_fits (area_size log.size) area r ≡ true = grind (arith, c.fits.ensures area is_open) in
    let written : c.deref.result.now ≡ entry r ++ 0 ∷ [] = c.deref.ensures.value ∙ c.in_ok-bytes.ensures.bytes in
    weaker g.D.Disk.moment g.D.Disk.left_since log.disk c.write_behind.new.disk _ (IsBeforeOrAfter area r) c.write_behind.ensures.any_moment (λ f stop.
    after_stop g.D.Disk.seen g.D.Disk.may_leave log area is_open r has_room (c.in_ok-bytes.ensures.stands, c.requires.no_item) f
    (subst (λ (l : List ℕ). IsCommitting (g.D.Disk.seen log.disk) (log.start + log.end + 1) l (log.start + log.end) f) written stop))

pub returns-in_err-write_behind-clause-any_moment : goal.returns-in_err-write_behind-clause-any_moment
returns-in_err-write_behind-clause-any_moment g c area is_open =
    let log = c.args.self.now in
    let r = c.args.logged.now in
    let has_room : record_fits (area_size log.size) area r ≡ true = grind (arith, c.fits.ensures area is_open) in
    let written : c.deref.result.now ≡ entry r ++ 0 ∷ [] = c.deref.ensures.value ∙ c.in_ok-bytes.ensures.bytes in
    weaker g.D.Disk.moment g.D.Disk.left_since log.disk c.write_behind.new.disk _ (IsBeforeOrAfter area r) c.write_behind.ensures.any_moment (λ f stop.
    after_stop g.D.Disk.seen g.D.Disk.may_leave log area is_open r has_room (c.in_ok-bytes.ensures.stands, c.requires.no_item) f
    (subst (λ (l : List ℕ). IsCommitting (g.D.Disk.seen log.disk) (log.start + log.end + 1) l (log.start + log.end) f) written stop))

pub returns-in_err-write_behind-clause-still_open : goal.returns-in_err-write_behind-clause-still_open
returns-in_err-write_behind-clause-still_open g c area is_open refused =
    let log = c.args.self.now in
    let r = c.args.logged.now in
    let d = g.D.Disk.seen log.disk in
    let has_room : record_fits (area_size log.size) area r ≡ true = grind (arith, c.fits.ensures area is_open) in
    let written : c.deref.result.now ≡ entry r ++ 0 ∷ [] = c.deref.ensures.value ∙ c.in_ok-bytes.ensures.bytes in
    let none = was_refused c.from_residual-in_err-write_behind.result c.in_err-write_behind.field-0.0 c.from_residual-in_err-write_behind.ensures.1 refused in
    let left = c.in_err-write_behind.ensures.refused (ap Err none) in
    stays g.D.Disk.seen g.D.Disk.may_leave log area is_open r has_room (c.in_ok-bytes.ensures.stands, c.requires.no_item) c.write_behind.new.disk
    (subst (λ (l : List ℕ). IsUncommitted d (log.start + log.end + 1) l (g.D.Disk.seen c.write_behind.new.disk)) written left.0) left.1

pub returns-clause-read : goal.returns-clause-read
returns-clause-read g c area is_open =
    let log = c.args.self.now in
    let r = c.args.logged.now in
    let d = g.D.Disk.seen c.write_behind.new.disk in
    let has_room : record_fits (area_size log.size) area r ≡ true = grind (arith, c.fits.ensures area is_open) in
    let written : c.deref.result.now ≡ entry r ++ 0 ∷ [] = c.deref.ensures.value ∙ c.in_ok-bytes.ensures.bytes in
    after_stop g.D.Disk.seen g.D.Disk.may_leave log area is_open r has_room (c.in_ok-bytes.ensures.stands, c.requires.no_item) d
    (subst (λ (l : List ℕ). IsCommitting (g.D.Disk.seen log.disk) (log.start + log.end + 1) l (log.start + log.end) d) written c.write_behind.ensures.read)

pub returns-in_err-write_behind-clause-read : goal.returns-in_err-write_behind-clause-read
returns-in_err-write_behind-clause-read g c area is_open =
    let log = c.args.self.now in
    let r = c.args.logged.now in
    let d = g.D.Disk.seen c.write_behind.new.disk in
    let has_room : record_fits (area_size log.size) area r ≡ true = grind (arith, c.fits.ensures area is_open) in
    let written : c.deref.result.now ≡ entry r ++ 0 ∷ [] = c.deref.ensures.value ∙ c.in_ok-bytes.ensures.bytes in
    after_stop g.D.Disk.seen g.D.Disk.may_leave log area is_open r has_room (c.in_ok-bytes.ensures.stands, c.requires.no_item) d
    (subst (λ (l : List ℕ). IsCommitting (g.D.Disk.seen log.disk) (log.start + log.end + 1) l (log.start + log.end) d) written c.write_behind.ensures.read)

pub returns-in_err-bytes-clause-read : goal.returns-in_err-bytes-clause-read
returns-in_err-bytes-clause-read g c area is_open = nothing_left g.D.Disk.seen g.D.Disk.may_leave c.args.self.now area is_open c.args.logged.now
