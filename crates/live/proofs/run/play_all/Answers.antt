use Rattle.std.proofs.Common.{◌∙◌, Vec, Global, refl, ap}
use Rattle.cell_run.specs.Cells.{CellState}
use Rattle.live.specs.declared.play.Player.{Player}
use Rattle.live.proofs.Players.{all_new, still_one, same_reopened, mid_cells, barrier_passed, all_lines}
use Rattle.live.proofs.run.play_all.Goals as goal

pub loop-first-init : goal.loop-first-init
loop-first-init g c = record { cell = still_one c.args.cell.of; count = refl; played = all_new c.args.cell.of c.args.players.items c.requires.fresh }

pub pass-requires-clause-seated : goal.pass-requires-clause-seated
pass-requires-clause-seated g c κs lives =
    let was = c.loop-first.running in
    let next = c.next_barrier-next in
    mid_cells was.cell.of c.args.lines.now c.loop-first.first next.result next.ensures.within.0 next.ensures.barrier was.players.items c.play_part.new.players.items c.loop-first.invariant.played c.play_part.ensures

pub loop-first-preserved : goal.loop-first-preserved
loop-first-preserved g c =
    let was = c.loop-first.running in
    let inv = c.loop-first.invariant in
    let next = c.next_barrier-next in
    let now = c.in_ok-running.running in
    let over = barrier_passed was.cell.of now.cell.of c.args.lines.now c.loop-first.first next.result was.players.items c.play_part.new.players.items now.players.items c.is_reopen_at.result next.ensures.within.0
    next.ensures.barrier inv.played c.play_part.ensures c.is_reopen_at.ensures (λ calm. let same = c.in_ok-running.ensures.stays calm in (ap (λ (x : CellState). x.of) same.0, ap (λ (v : Vec Player Global). v.items) same.1)) c.in_ok-running.ensures.goes in
    record { cell = same_reopened c.args.cell.of was.cell.of now.cell.of inv.cell over.0; count = over.1 ∙ inv.count; played = over.2 }

pub returns-clause-players : goal.returns-clause-players
returns-clause-players g c = all_lines c.loop-first.running.cell.of c.loop-first.running.players.items c.args.lines.now c.loop-first.first c.loop-first-test.false c.loop-first.invariant.played
