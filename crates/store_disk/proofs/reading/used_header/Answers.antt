use Rattle.std.proofs.Common.{◌≡◌, ℕ, ap, ◌∙◌}
use Rattle.store_disk.specs.Fields.{number_at}
use Rattle.store_disk.specs.declared.header.SlotHeader.{SlotHeader}
use Rattle.store_disk.proofs.reading.used_header.Goals as goal

abbrev header : ℕ → ℕ → ℕ → ℕ → SlotHeader
header handle version serial count = record { handle = record { 0 = handle }; version = record { 0 = version }; serial = record { 0 = serial }; count = count }

pub returns : goal.returns
returns c =
    let bytes = c.args.bytes.now in
    ap (λ (n : ℕ). header n c.number_from-2.result c.number_from-3.result c.number_from-4.result) c.number_from.ensures
    ∙ ap (λ (n : ℕ). header (number_at 8 bytes) n c.number_from-3.result c.number_from-4.result) c.number_from-2.ensures
    ∙ ap (λ (n : ℕ). header (number_at 8 bytes) (number_at 16 bytes) n c.number_from-4.result) c.number_from-3.ensures
    ∙ ap (λ (n : ℕ). header (number_at 8 bytes) (number_at 16 bytes) (number_at 24 bytes) n) c.number_from-4.ensures
