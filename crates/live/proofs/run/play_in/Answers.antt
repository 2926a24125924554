use Rattle.std.proofs.Common.{◌∙◌, List, sym, ap, subst}
use Rattle.std.specs.Prelude.{slice_get}
use Rattle.cell_journal.specs.Identity.{Identity}
use Rattle.live.specs.declared.play.Player.{Player}
use Rattle.live.specs.Playing.{IsNewPlayer, IsReopened, Each}
use Rattle.live.proofs.run.play_in.Goals as goal

pub play_all-requires-clause-fresh : goal.play_all-requires-clause-fresh
play_all-requires-clause-fresh g c κs lives = subst (λ (i : Identity). Each (IsNewPlayer i) c.in-Ok.players.items) (sym c.new_players.ensures.cell) c.in-Ok.ensures.players

pub returns-clause-cell : goal.returns-clause-cell
returns-clause-cell g c = subst (λ (i : Identity). IsReopened i c.in_ok-cell.cell.of) c.new_players.ensures.cell c.in_ok-cell.ensures.cell

pub returns-clause-count : goal.returns-clause-count
returns-clause-count g c = c.in_ok-cell.ensures.count ∙ c.in-Ok.ensures.count

pub returns-clause-lacked : goal.returns-clause-lacked
returns-clause-lacked g c = λ k p at. c.lack_memory.ensures c.if-lack_memory.false k p (ap (λ (l : List Player). slice_get l k) c.as_slice.ensures.value ∙ at)
