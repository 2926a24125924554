use Rattle.std.proofs.Common.{◌≡◌, ℕ, ◌+◌, ◌++◌, List, length, refl, ap, ◌∙◌, arith, length-append, ◌≤◌}
use Rattle.std.specs.Int.{w32, w64, to_le_bytes}
use Rattle.std.proofs.lemmas.Result.{on_ok_weaker}
use Rattle.disk_redo.proofs.ParsedArea.{length_range}
use Rattle.disk_redo.proofs.Places.{misses_part, put_more}
use Rattle.disk.specs.Bytes.{put_at}
use Rattle.disk_redo.proofs.staging.write_range.Goals as goal

-- three writes, each right behind the one before
three : (old one two new a b d : List ℕ) (at : ℕ) → length a ≡ 8 → length b ≡ 4 → at + 12 + length d ≤ length old
    → one ≡ put_at old at a → two ≡ put_at one (at + 8) b → new ≡ put_at two (at + 12) d → new ≡ put_at old at (a ++ b ++ d)
three old one two new a b d at len_a len_b fits e f h =
    let front : two ≡ put_at old at (a ++ b) = f ∙ ap (λ (l : List ℕ). put_at l (at + 8) b) e ∙ put_more old a b at (at + 8) (omega (arith, len_a)) (omega (arith, len_a, len_b, fits)) in
    let long = length-append a b in
    h ∙ ap (λ (l : List ℕ). put_at l (at + 12) d) front ∙ put_more old (a ++ b) d at (at + 12) (omega (arith, long, len_a, len_b)) (omega (arith, long, len_a, len_b, fits))

pub returns-in_err-write-clause-goes_on : goal.returns-in_err-write-clause-goes_on
returns-in_err-write-clause-goes_on g c start kept misses so_far =
    let long = length_range c.args.range.now in
    c.write.ensures.goes_on start kept (misses_part kept c.args.at _ c.args.at (length c.to_le_bytes.result) (omega arith) (omega (arith, long, ap length c.to_le_bytes.ensures)) misses) so_far

pub returns-in_err-write-2-clause-goes_on : goal.returns-in_err-write-2-clause-goes_on
returns-in_err-write-2-clause-goes_on g c start kept misses so_far =
    let long = length_range c.args.range.now in
    c.write-2.ensures.goes_on start kept (misses_part kept c.args.at _ (c.args.at + 8) (length c.to_le_bytes-2.result) (omega arith) (omega (arith, long, ap length c.to_le_bytes-2.ensures)) misses)
    (c.write.ensures.goes_on start kept (misses_part kept c.args.at _ c.args.at (length c.to_le_bytes.result) (omega arith) (omega (arith, long, ap length c.to_le_bytes.ensures)) misses) so_far)

pub returns-clause-goes_on : goal.returns-clause-goes_on
returns-clause-goes_on g c start kept misses so_far =
    let long = length_range c.args.range.now in
    c.write-3.ensures.goes_on start kept (misses_part kept c.args.at _ (c.args.at + 12) (length c.deref.result.now) (omega arith) (omega (arith, long, ap length c.deref.ensures)) misses)
    (c.write-2.ensures.goes_on start kept (misses_part kept c.args.at _ (c.args.at + 8) (length c.to_le_bytes-2.result) (omega arith) (omega (arith, long, ap length c.to_le_bytes-2.ensures)) misses)
    (c.write.ensures.goes_on start kept (misses_part kept c.args.at _ c.args.at (length c.to_le_bytes.result) (omega arith) (omega (arith, long, ap length c.to_le_bytes.ensures)) misses) so_far))

pub returns-clause-written : goal.returns-clause-written
returns-clause-written g c =
    let long = length_range c.args.range.now in
    let old = g.D.Disk.seen c.args.disk.now in
    let a = c.to_le_bytes.result in
    let b = c.to_le_bytes-2.result in
    let d = c.deref.result.now in
    let range = c.args.range.now in
    let len_a : length a ≡ 8 = ap length c.to_le_bytes.ensures in
    let len_b : length b ≡ 4 = ap length c.to_le_bytes-2.ensures in
    on_ok_weaker c.write-3.result
    (λ e. three old (g.D.Disk.seen c.write.new.disk) (g.D.Disk.seen c.write-2.new.disk) (g.D.Disk.seen c.write-3.new.disk) a b d c.args.at len_a len_b (omega (arith, long, c.requires.fits, ap length c.deref.ensures)) c.in_ok-write.ensures.written c.in_ok-write-2.ensures.written e
    ∙ ap (λ (l : List ℕ). put_at old c.args.at (l ++ b ++ d)) c.to_le_bytes.ensures
    ∙ ap (λ (l : List ℕ). put_at old c.args.at (to_le_bytes w64 range.place ++ l ++ d)) c.to_le_bytes-2.ensures
    ∙ ap (λ (n : ℕ). put_at old c.args.at (to_le_bytes w64 range.place ++ to_le_bytes w32 n ++ d)) c.len.ensures.value
    ∙ ap (λ (l : List ℕ). put_at old c.args.at (to_le_bytes w64 range.place ++ to_le_bytes w32 (length range.bytes) ++ l)) c.deref.ensures)
    c.write-3.ensures.written
