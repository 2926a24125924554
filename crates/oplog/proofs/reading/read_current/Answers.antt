use Rattle.std.proofs.Common.{◌≡◌, ℕ, length, sym, ap, subst, ◌∙◌}
use Rattle.std.specs.Prelude.{Err}
use Rattle.disk.specs.Bytes.{range_at}
use Rattle.log_codec.specs.declared.fault.DecodeFault.TheVariants.{Damaged}
use Rattle.oplog.specs.Areas.{AreaSays}
use Rattle.oplog.specs.Layout.{area_at, area_size}
use Rattle.oplog.specs.Disks.{area_of}
use Rattle.oplog.proofs.reading.read_current.Goals as goal

pub returns-in-Err-Damaged-clause-undamaged : goal.returns-in-Err-Damaged-clause-undamaged
returns-in-Err-Damaged-clause-undamaged g c area says damaged =
    let d = g.D.Disk.seen c.args.disk.now in
    let which = c.args.which in
    let size = c.size-size.ensures in
    let at : c.area_at.result ≡ area_at (length d) which = c.area_at.ensures.place ∙ ap (λ (k : ℕ). area_at k which) size in
    let count : c.area_size.result ≡ area_size (length d) = c.area_size.ensures.size ∙ ap (λ (k : ℕ). area_size k) size in
    let same : c.in_ok-bytes.bytes.items ≡ area_of (length d) which d = c.in_ok-bytes.ensures.bytes
    ∙ ap (λ (k : ℕ). range_at d k c.area_size.result) at ∙ ap (λ (k : ℕ). range_at d (area_at (length d) which) k) count in
    let one = c.in-Err-Damaged.is in
    let two = c.in-Err-Damaged.field-0-is in
    let told : c.found_in.result ≡ Err Damaged = cc in
    c.found_in.ensures.undamaged area (subst (AreaSays area) (sym same) says) told
