use Rattle.std.proofs.Common.{◌≡◌, inl, inr, ℕ, ◌+◌, ◌<◌, ◌≤◌, List, [], ◌∷◌, length, get_or, ap, ◌∙◌, subst, arith}
use Rattle.std.proofs.lemmas.Bool.{cases_lt}
use Rattle.disk.specs.Bytes.{put_at}
use Rattle.store_disk.proofs.FormatSlots.{kept_before, misses_behind, slot_before, slots_behind, zero_put, zeros_put}
use Rattle.store_disk.specs.Places.{slot_place}
use Rattle.store_disk.proofs.formatting.clear.Goals as goal

-- one slot more is free
one_freed : (chunk block slot : ℕ) (now new : List ℕ) → slot_place chunk block slot + 1 ≤ length now → new ≡ put_at now (slot_place chunk block slot) (0 ∷ [])
    → ((s : ℕ) → s < slot → get_or now (slot_place chunk block s) 0 ≡ 0) → (s : ℕ) → s < slot + 1 → get_or new (slot_place chunk block s) 0 ≡ 0
one_freed chunk block slot now new fits is so_far s lt = elim (cases_lt s slot) [
  | inl less ↦
      ap (λ (l : List ℕ). get_or l (slot_place chunk block s) 0) is
      ∙ kept_before now (0 ∷ []) (slot_place chunk block slot) (slot_place chunk block s) fits (omega (arith, slot_before chunk block s slot less))
      ∙ so_far s less
  | inr le ↦
      let same : slot ≡ s = omega (arith, lt, le) in
      subst (λ (k : ℕ). get_or new (slot_place chunk block k) 0 ≡ 0) same (ap (λ (l : List ℕ). get_or l (slot_place chunk block slot) 0) is ∙ zero_put now (slot_place chunk block slot) fits)
]

-- what lies before the slots stays
front_stays : (chunk block slot : ℕ) (now new : List ℕ) → slot_place chunk block slot + 1 ≤ length now → new ≡ put_at now (slot_place chunk block slot) (0 ∷ [])
    → ((place : ℕ) → 32 ≤ place → place < 49 → get_or now place 0 ≡ 0) → (place : ℕ) → 32 ≤ place → place < 49 → get_or new place 0 ≡ 0
front_stays chunk block slot now new fits is so_far place le lt =
    ap (λ (l : List ℕ). get_or l place 0) is ∙ kept_before now (0 ∷ []) (slot_place chunk block slot) place fits (omega (arith, slots_behind chunk block slot, lt)) ∙ so_far place le lt

pub returns-in_err-write-clause-goes_on : goal.returns-in_err-write-clause-goes_on
returns-in_err-write-clause-goes_on g c start kept small so_far = c.write.ensures.goes_on start kept (misses_behind kept 32 17 (omega arith) small) so_far

pub loop-slot-init : goal.loop-slot-init
loop-slot-init g c =
    let old = g.D.Disk.seen c.args.disk.now in
    let behind = slots_behind c.args.layout.chunk c.args.layout.block c.args.layout.slots in
    record {
      order = λ place le lt. ap (λ (l : List ℕ). get_or l place 0) c.in_ok-write.ensures.written ∙ zeros_put old (omega (arith, behind, c.requires)) place le lt;
      free = λ slot lt. absurd (omega (arith, lt));
      size = c.write.ensures.size;
      goes_on = λ start kept small so_far. c.write.ensures.goes_on start kept (misses_behind kept 32 17 (omega arith) small) so_far;
      later = c.write.ensures.cause.later;
    }

pub write_zero-requires : goal.write_zero-requires
write_zero-requires g c =
    let layout = c.args.layout in
    omega (arith, slot_before layout.chunk layout.block c.loop-slot.slot layout.slots c.loop-slot-test.true, c.slot.ensures, c.requires, c.loop-slot.invariant.size)

pub returns-in_err-write_zero-clause-goes_on : goal.returns-in_err-write_zero-clause-goes_on
returns-in_err-write_zero-clause-goes_on g c start kept small so_far =
    let behind = slots_behind c.args.layout.chunk c.args.layout.block c.loop-slot.slot in
    c.write_zero.ensures.goes_on start kept (misses_behind kept c.slot.result 1 (omega (arith, behind, c.slot.ensures)) small) (c.loop-slot.invariant.goes_on start kept small so_far)

pub loop-slot-preserved : goal.loop-slot-preserved
loop-slot-preserved g c =
    let layout = c.args.layout in
    let slot = c.loop-slot.slot in
    let now = g.D.Disk.seen c.loop-slot.disk in
    let so_far = c.loop-slot.invariant in
    let later = so_far.later in
    let place = slot_place layout.chunk layout.block slot in
    let behind = slots_behind layout.chunk layout.block slot in
    let fits : place + 1 ≤ length now = omega (arith, slot_before layout.chunk layout.block slot layout.slots c.loop-slot-test.true, c.requires, so_far.size) in
    let is = c.in_ok-write_zero.ensures.written ∙ ap (λ (k : ℕ). put_at now k (0 ∷ [])) c.slot.ensures in
    record {
      order = front_stays layout.chunk layout.block slot now (g.D.Disk.seen c.write_zero.new.disk) fits is so_far.order;
      free = one_freed layout.chunk layout.block slot now (g.D.Disk.seen c.write_zero.new.disk) fits is so_far.free;
      size = c.write_zero.ensures.size ∙ so_far.size;
      goes_on = λ start kept small run.
          c.write_zero.ensures.goes_on start kept (misses_behind kept c.slot.result 1 (omega (arith, behind, c.slot.ensures)) small) (so_far.goes_on start kept small run);
      later = omega (arith, later, c.write_zero.ensures.cause.later);
    }
