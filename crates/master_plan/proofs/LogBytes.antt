-- The bytes that the log takes after some changes, and those of a checkpoint.
use Rattle.std.proofs.Common.{◌≡◌, ℕ, ◌+◌, ◌<◌, ◌≤◌, false, List, [], ◌∷◌, take, length, get_or, refl, sym, ap, ◌∙◌, arith}
use Rattle.std.specs.Prelude.{nat_le}
use Rattle.std.specs.List.{sum_by}
use Rattle.std.proofs.lemmas.Bool.{leb-false, lt-leb}
use Rattle.std.proofs.lemmas.List.{map-append, take_more}
use Rattle.std.proofs.lemmas.List.Sums.{sum_by_push, sum_by_more, sum_by_more_le}
use Rattle.log_records.specs.declared.record.Record.{Record}
use Rattle.protocol.specs.LogSizes.{payload_size, checkpoint_size, used_size, area_size, checkpoint_fits}
use Rattle.protocol.specs.Logged.{LogDisk, LogChange, AppendRecord, WriteCheckpoint, log_changed, log_changed_by_all}
use Rattle.master_plan.specs.declared.change.PlannedChange.{PlannedChange}
use Rattle.master_plan.specs.Changes.{change_of, changes_of}
use Rattle.master_plan.specs.Sizes.{size_after}
use Rattle.master_plan.proofs.Logs.{changed_last}

-- the bytes that a disk's log takes
abbrev pub disk_size : LogDisk → ℕ
disk_size d = used_size d.items d.records

abbrev record_room : Record → ℕ
record_room r = 5 + payload_size r

abbrev item_room : Record → ℕ
item_room r = 4 + payload_size r

size_after_change : (d : LogDisk) (c : LogChange) → disk_size (log_changed d c) ≡ size_after (disk_size d) c
size_after_change d (AppendRecord entry) = omega (arith, sum_by_push record_room d.records entry)
size_after_change d (WriteCheckpoint items) = refl

-- after one change more
pub used_more : (disk : LogDisk) (changes : List PlannedChange) (i used after : ℕ) (c : PlannedChange) → i < length changes
    → used ≡ disk_size (log_changed_by_all disk (changes_of (take i changes))) → after ≡ size_after used (change_of (get_or changes i c))
    → after ≡ disk_size (log_changed_by_all disk (changes_of (take (i + 1) changes)))
used_more disk changes i used after c within so_far is =
    let one : PlannedChange = get_or changes i c in
    is
    ∙ ap (λ n. size_after n (change_of one)) so_far
    ∙ sym (size_after_change (log_changed_by_all disk (changes_of (take i changes))) (change_of one))
    ∙ ap disk_size (sym (changed_last disk (changes_of (take i changes)) (change_of one)))
    ∙ ap (λ (l : List LogChange). disk_size (log_changed_by_all disk l)) (sym (ap changes_of (take_more changes i c within) ∙ map-append change_of (take i changes) (one ∷ [])))

-- one item more
pub item_more : (items : List Record) (i used : ℕ) (item : Record) → i < length items → used ≡ 13 + checkpoint_size (take i items)
    → used + (4 + payload_size (get_or items i item)) ≡ 13 + checkpoint_size (take (i + 1) items)
item_more items i used item within so_far = omega (arith, so_far, sum_by_more item_room items i item within)

-- where the items so far don't fit, all don't
pub too_many : (log_bytes : ℕ) (items : List Record) (i used : ℕ) (item : Record) → i < length items → used ≡ 13 + checkpoint_size (take i items)
    → nat_le (used + (4 + payload_size (get_or items i item)) + 1) (area_size log_bytes) ≡ false → checkpoint_fits log_bytes items ≡ false
too_many log_bytes items i used item within so_far out =
    let past : area_size log_bytes < used + (4 + payload_size (get_or items i item)) + 1 = leb-false _ _ out in
    let all : sum_by item_room (take i items) + item_room (get_or items i item) ≤ sum_by item_room items = sum_by_more_le item_room items i item within in
    lt-leb _ _ (omega (arith, past, all, so_far))
