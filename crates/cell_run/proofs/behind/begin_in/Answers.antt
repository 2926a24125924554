use Rattle.std.proofs.Common.{ℕ, List, refl, sym, ap, subst, ◌∙◌}
use Rattle.cell_journal.specs.Identity.{Identity, Filled}
use Rattle.cell_journal.specs.Log.{listed}
use Rattle.cell_run.specs.Resumed.{HasRoom}
use Rattle.cell_run.proofs.behind.begin_in.Goals as goal

pub open_behind-requires-clause-none : goal.open_behind-requires-clause-none
open_behind-requires-clause-none g c = ap (λ (h : Filled). h.entries) c.requires.history

pub open_behind-requires-clause-settings : goal.open_behind-requires-clause-settings
open_behind-requires-clause-settings g c =
    (ap (λ (h : Filled). h.cell.config) c.requires.history, ap (λ (h : Filled). h.cell.servers) c.requires.history, ap (λ (h : Filled). h.cell.clients) c.requires.history)

pub returns-in-Ok-clause-stands : goal.returns-in-Ok-clause-stands
returns-in-Ok-clause-stands g c =
    let is = c.in-Ok.ensures.registry in
    let cell = ap (λ (h : Filled). h.cell) c.requires.history in
    record {
      first = is.0;
      cell_is = is.1 ∙ cell;
      config_is = is.2 ∙ ap (λ (i : Identity). i.config) cell;
      servers_are = is.3 ∙ ap (λ (i : Identity). i.servers) cell;
      few = c.requires.few;
      alive = c.requires.alive;
      room_is = subst (λ (i : Identity). HasRoom i c.args.parts c.in-Ok.room) (sym is.1) c.in-Ok.ensures.room;
      asks = c.in-Ok.ensures.asks;
    }

pub with_list-requires : goal.with_list-requires
with_list-requires g c = c.in-Err.ensures.back ∙ ap (λ (h : Filled). listed h.cell.name h.cell.base) c.requires.history
