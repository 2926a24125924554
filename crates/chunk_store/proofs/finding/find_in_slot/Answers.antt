use Rattle.std.proofs.Common.{◌+◌, sym, ◌∙◌, subst}
use Rattle.store_disk.specs.Index.{IndexState}
use Rattle.chunk_store.specs.Finding.{KnowsFirst}
use Rattle.chunk_store.proofs.SlotsFound.{one_found, one_skipped, unused_from}
use Rattle.chunk_store.proofs.finding.find_in_slot.Goals as goal

pub returns-in_default-clause-found : goal.returns-in_default-clause-found
returns-in_default-clause-found g c all d is so_far =
    let layout = c.args.layout in
    let old = g.D.Disk.seen c.args.disk.now in
    let unused = unused_from layout.chunk layout.block old c.args.slot (sym c.in_ok-header.ensures.header ∙ c.in_default.is) in
    one_skipped layout.chunk layout.block layout.slots all old d is c.args.slot c.args.found.now so_far unused

pub returns-clause-found : goal.returns-clause-found
returns-clause-found g c all d is so_far =
    let layout = c.args.layout in
    let old = g.D.Disk.seen c.args.disk.now in
    let says = sym c.in_ok-header.ensures.header ∙ c.in-Some.is in
    subst (λ (x : IndexState). KnowsFirst layout.chunk layout.block layout.slots old all (c.args.slot + 1) x) (sym c.in_ok-occupy.ensures.ok)
    (one_found layout.chunk layout.block layout.slots all old d is c.args.slot c.args.found.now so_far c.in-Some.header c.requires.slot says)
