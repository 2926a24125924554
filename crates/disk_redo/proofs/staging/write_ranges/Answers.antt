use Rattle.std.proofs.Common.{◌≡◌, ℕ, ◌+◌, ◌≤◌, ◌++◌, List, ◌∷◌, length, drop, refl, sym, ap, ◌∙◌, arith, append_assoc, length-append}
use Rattle.std.specs.List.{flat_map}
use Rattle.std.proofs.lemmas.List.{drop_more}
use Rattle.disk.specs.Bytes.{put_at}
use Rattle.disk_redo.specs.Redo.{range_bytes, redo_bytes}
use Rattle.disk_redo.specs.declared.range.RedoRange.{RedoRange}
use Rattle.disk_redo.proofs.ParsedArea.{length_range, length_redo, room_left}
use Rattle.disk_redo.proofs.Places.{misses_part, put_more}
use Rattle.disk_redo.proofs.staging.write_ranges.Goals as goal

pub returns-in_err-write-clause-goes_on : goal.returns-in_err-write-clause-goes_on
returns-in_err-write-clause-goes_on g c start kept misses so_far =
    c.write.ensures.goes_on start kept (misses_part kept c.args.at _ c.args.at (length c.to_le_bytes.result) (omega arith) (omega (arith, length_redo c.args.ranges.now, ap length c.to_le_bytes.ensures)) misses) so_far

pub loop-range-init : goal.loop-range-init
loop-range-init g c =
    let rs = c.args.ranges.now in
    record {
      written = (c.to_le_bytes.result, c.in_ok-write.ensures.written, ap (λ (l : List ℕ). l ++ flat_map range_bytes rs) c.to_le_bytes.ensures, omega (arith, ap length c.to_le_bytes.ensures));
      size = c.write.ensures.size;
      goes_on = λ start kept misses so_far.
          c.write.ensures.goes_on start kept (misses_part kept c.args.at _ c.args.at (length c.to_le_bytes.result) (omega arith) (omega (arith, length_redo rs, ap length c.to_le_bytes.ensures)) misses) so_far;
      later = c.write.ensures.cause.later;
    }

pub write_range-requires-clause-fits : goal.write_range-requires-clause-fits
write_range-requires-clause-fits g c =
    let rs = c.args.ranges.now in
    let i = c.loop-range.range-index in
    let item = c.range-item.result in
    let next : drop i rs ≡ item ∷ drop (i + 1) rs = drop_more rs i item c.loop-range-test.true ∙ ap (λ (x : RedoRange). x ∷ drop (i + 1) rs) (sym c.range-item.is) in
    let w = c.loop-range.invariant.written in
    let room = room_left w.0 (redo_bytes rs) item (drop (i + 1) rs) (sym (ap (λ (l : List RedoRange). w.0 ++ flat_map range_bytes l) next) ∙ w.2) in
    omega (arith, room, w.3, c.requires.fits, c.loop-range.invariant.size, length_range item)

pub write_range-requires-clause-small : goal.write_range-requires-clause-small
write_range-requires-clause-small g c =
    let rs = c.args.ranges.now in
    let i = c.loop-range.range-index in
    let item = c.range-item.result in
    let next : drop i rs ≡ item ∷ drop (i + 1) rs = drop_more rs i item c.loop-range-test.true ∙ ap (λ (x : RedoRange). x ∷ drop (i + 1) rs) (sym c.range-item.is) in
    let w = c.loop-range.invariant.written in
    let room = room_left w.0 (redo_bytes rs) item (drop (i + 1) rs) (sym (ap (λ (l : List RedoRange). w.0 ++ flat_map range_bytes l) next) ∙ w.2) in
    omega (arith, room, w.3, c.requires.small, length_range item)

pub returns-in_err-write_range-clause-goes_on : goal.returns-in_err-write_range-clause-goes_on
returns-in_err-write_range-clause-goes_on g c start kept misses so_far =
    let rs = c.args.ranges.now in
    let i = c.loop-range.range-index in
    let item = c.range-item.result in
    let next : drop i rs ≡ item ∷ drop (i + 1) rs = drop_more rs i item c.loop-range-test.true ∙ ap (λ (x : RedoRange). x ∷ drop (i + 1) rs) (sym c.range-item.is) in
    let w = c.loop-range.invariant.written in
    let room = room_left w.0 (redo_bytes rs) item (drop (i + 1) rs) (sym (ap (λ (l : List RedoRange). w.0 ++ flat_map range_bytes l) next) ∙ w.2) in
    c.write_range.ensures.goes_on start kept (misses_part kept c.args.at _ c.loop-range.place (length (range_bytes item)) (omega (arith, w.3)) (omega (arith, room, w.3, length_range item)) misses) (c.loop-range.invariant.goes_on start kept misses so_far)

pub overflow_add-place-in-loop-range-2 : goal.overflow_add-place-in-loop-range-2
overflow_add-place-in-loop-range-2 g c =
    let rs = c.args.ranges.now in
    let i = c.loop-range.range-index in
    let item = c.range-item.result in
    let next : drop i rs ≡ item ∷ drop (i + 1) rs = drop_more rs i item c.loop-range-test.true ∙ ap (λ (x : RedoRange). x ∷ drop (i + 1) rs) (sym c.range-item.is) in
    let w = c.loop-range.invariant.written in
    let room = room_left w.0 (redo_bytes rs) item (drop (i + 1) rs) (sym (ap (λ (l : List RedoRange). w.0 ++ flat_map range_bytes l) next) ∙ w.2) in
    omega (arith, room, w.3, c.requires.small, c.len.ensures.value)

pub loop-range-preserved : goal.loop-range-preserved
loop-range-preserved g c =
    let rs = c.args.ranges.now in
    let old = g.D.Disk.seen c.args.disk.now in
    let i = c.loop-range.range-index in
    let item = c.range-item.result in
    let bytes = range_bytes item in
    let tail = drop (i + 1) rs in
    let so_far = c.loop-range.invariant in
    let later = so_far.later in
    let next : drop i rs ≡ item ∷ tail = drop_more rs i item c.loop-range-test.true ∙ ap (λ (x : RedoRange). x ∷ tail) (sym c.range-item.is) in
    let w = so_far.written in
    let all : w.0 ++ flat_map range_bytes (item ∷ tail) ≡ redo_bytes rs = sym (ap (λ (l : List RedoRange). w.0 ++ flat_map range_bytes l) next) ∙ w.2 in
    let room = room_left w.0 (redo_bytes rs) item tail all in
    let long = length_range item in
    let fits : c.args.at + length w.0 + length bytes ≤ length old = omega (arith, room, long, c.requires.fits) in
    record {
      written = (
        w.0 ++ bytes,
        c.in_ok-write_range.ensures.written ∙ ap (λ (l : List ℕ). put_at l c.loop-range.place bytes) w.1 ∙ put_more old w.0 bytes c.args.at c.loop-range.place w.3 fits,
        append_assoc w.0 bytes (flat_map range_bytes tail) ∙ all,
        omega (arith, w.3, long, length-append w.0 bytes, c.len.ensures.value),
      );
      size = c.write_range.ensures.size ∙ so_far.size;
      goes_on = λ start kept misses run.
          c.write_range.ensures.goes_on start kept (misses_part kept c.args.at _ c.loop-range.place (length bytes) (omega (arith, w.3)) (omega (arith, room, w.3, long)) misses) (so_far.goes_on start kept misses run);
      later = omega (arith, later, c.write_range.ensures.cause.later);
    }
