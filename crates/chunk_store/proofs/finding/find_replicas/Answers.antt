use Rattle.std.proofs.Common.{◌≡◌, ℕ, ◌+◌, List, refl, sym, ◌∙◌, subst, arith}
use Rattle.disk_redo.proofs.Moments.{reads_both, reads_nothing}
use Rattle.store_disk.specs.Index.{IndexState}
use Rattle.store_disk.specs.Stored.{IsDiskOf}
use Rattle.chunk_store.specs.Finding.{KnowsFirst}
use Rattle.chunk_store.proofs.SlotsFound.{all_known, none_yet}
use Rattle.chunk_store.proofs.finding.find_replicas.Goals as goal

pub loop-slot-init : goal.loop-slot-init
loop-slot-init g c =
    let disk = g.D.Disk in
    let layout = c.args.layout in
    let old = c.args.disk.now in
    record {
      known = λ index d is.
          subst (λ (x : IndexState). KnowsFirst layout.chunk layout.block layout.slots (disk.seen old) index 0 x) (sym c.in_ok-found.ensures) (none_yet layout.chunk layout.block layout.slots index (disk.seen old) d is);
      seen = refl;
      reads = reads_nothing disk.seen disk.may_leave disk.moment disk.left_since old (λ e left. g.met.D.Disk.only_now old e left);
      later = omega arith;
    }

pub loop-slot-preserved : goal.loop-slot-preserved
loop-slot-preserved g c =
    let disk = g.D.Disk in
    let layout = c.args.layout in
    let slot = c.loop-slot.slot in
    let so_far = c.loop-slot.invariant in
    let new = c.find_in_slot.new in
    record {
      known = λ index d is.
          subst (λ (l : List ℕ). KnowsFirst layout.chunk layout.block layout.slots l index (slot + 1) new.found) so_far.seen
          (c.in_ok-find_in_slot.ensures.found index d
          (subst (λ (l : List ℕ). IsDiskOf layout.chunk layout.block layout.slots index l d) (sym so_far.seen) is)
          (subst (λ (l : List ℕ). KnowsFirst layout.chunk layout.block layout.slots l index slot c.loop-slot.found) (sym so_far.seen) (so_far.known index d is)));
      seen = c.find_in_slot.ensures.seen ∙ so_far.seen;
      reads = reads_both disk.seen disk.may_leave disk.moment disk.left_since c.args.disk.now c.loop-slot.disk new.disk so_far.reads c.find_in_slot.ensures.reads;
      later = omega (arith, so_far.later, c.find_in_slot.ensures.cause.later);
    }

pub returns-clause-found : goal.returns-clause-found
returns-clause-found g c index d is =
    let layout = c.args.layout in
    let old = g.D.Disk.seen c.args.disk.now in
    let last : c.loop-slot.slot ≡ layout.slots = omega (arith, c.loop-slot-test.false, c.loop-slot.auto.slot-end) in
    all_known layout.chunk layout.block layout.slots index old d is c.loop-slot.found
    (subst (λ (n : ℕ). KnowsFirst layout.chunk layout.block layout.slots old index n c.loop-slot.found) last (c.loop-slot.invariant.known index d is))
