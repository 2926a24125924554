use Rattle.std.proofs.Common.{◌≡◌, List, length, subst, sym, true, drop, take, ◌-◌}
use Rattle.disk.specs.Pages.{PagesState}
use Rattle.disk.specs.Writes.{Write, all_fit}
use Rattle.disk.proofs.Stops.{fits_part}
use Rattle.disk.proofs.Taken.{taken_kept, taken_part}
use Rattle.disk.proofs.memory.settle_bytes.Goals as goal

pub undo-requires-clause-fit : goal.undo-requires-clause-fit
undo-requires-clause-fit g c = fits_part c.args.bytes.now.size c.args.writes.now c.first_unsynced-start.result c.first_unsynced-start.ensures.writes c.requires.fit

pub undo-requires-clause-taken : goal.undo-requires-clause-taken
undo-requires-clause-taken g c = taken_part c.args.bytes.now.pages c.args.writes.now c.first_unsynced-start.result c.first_unsynced-start.ensures.writes c.requires.taken

pub undo-requires-in-Byte-clause-fit : goal.undo-requires-in-Byte-clause-fit
undo-requires-in-Byte-clause-fit g c = fits_part c.args.bytes.now.size c.args.writes.now c.first_unsynced-start.result c.first_unsynced-start.ensures.writes c.requires.fit

pub undo-requires-in-Byte-clause-taken : goal.undo-requires-in-Byte-clause-taken
undo-requires-in-Byte-clause-taken g c = taken_part c.args.bytes.now.pages c.args.writes.now c.first_unsynced-start.result c.first_unsynced-start.ensures.writes c.requires.taken

pub fill_ranges-requires-clause-fit : goal.fill_ranges-requires-clause-fit
fill_ranges-requires-clause-fit g c =
    let ws : List Write = c.args.writes.now in
    let start = c.first_unsynced-start.result in
    let part = take (length ws - start) (drop start ws) in
    subst (λ n. all_fit n part ≡ true) (sym c.undo-in-Byte.ensures.keeps.size) (fits_part c.args.bytes.now.size ws start c.first_unsynced-start.ensures.writes c.requires.fit)

pub fill_ranges-requires-clause-taken : goal.fill_ranges-requires-clause-taken
fill_ranges-requires-clause-taken g c =
    let p : PagesState = c.args.bytes.now in
    let ws : List Write = c.args.writes.now in
    let start = c.first_unsynced-start.result in
    let part = take (length ws - start) (drop start ws) in
    taken_kept p c.undo-in-Byte.new.bytes c.undo-in-Byte.ensures.keeps part (taken_part p.pages ws start c.first_unsynced-start.ensures.writes c.requires.taken)
