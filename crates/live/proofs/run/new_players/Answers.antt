use Rattle.std.proofs.Common.{◌+◌, ◌∙◌, length, refl, sym, ap, subst}
use Rattle.cell_journal.specs.Identity.{Identity}
use Rattle.live.specs.Playing.{IsNewPlayer, Each}
use Rattle.live.proofs.Players.{each_more, each_of_none, count_more}
use Rattle.live.proofs.run.new_players.Goals as goal

pub loop-before-init : goal.loop-before-init
loop-before-init c = record {
  made = c.requires;
  cell = refl;
  count = ap length c.new-all.ensures.items;
  new = subst (Each (IsNewPlayer c.args.cell.now.of)) (sym c.new-all.ensures.items) (each_of_none (IsNewPlayer c.args.cell.now.of));
}

pub loop-before-preserved : goal.loop-before-preserved
loop-before-preserved c =
    let was = c.loop-before.invariant in
    let of = c.args.cell.now.of in
    let new = subst (λ (i : Identity). IsNewPlayer i (c.loop-before.before + 1) c.in_ok-player.player) was.cell c.in_ok-player.ensures.player in
    record {
      made = c.in_ok-player.ensures.made;
      cell = c.new_player.ensures.cell ∙ was.cell;
      count = count_more c.loop-before.all.items _ c.in_ok-player.player c.loop-before.before was.count c.in_ok-push.ensures.items;
      new = subst (Each (IsNewPlayer of)) (sym c.in_ok-push.ensures.items) (each_more (IsNewPlayer of) c.loop-before.all.items c.in_ok-player.player c.loop-before.before was.count was.new new);
    }
