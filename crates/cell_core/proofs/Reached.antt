-- What events lead to from a new cell goes on.
use Rattle.std.proofs.Common.{◌≡◌, ℕ, List, [], ◌∷◌, Option, Result, Ok, Err, refl, sym, subst}
use Rattle.std.specs.Prelude.{IfOk, OnOk, OnErr}
use Rattle.gfs_types.specs.declared.config.Config.{Config}
use Rattle.gfs_types.specs.declared.answer.Answer.{Answer}
use Rattle.messages.specs.declared.event.Event.{Event}
use Rattle.protocol.specs.World.{happens, new_world}
use Rattle.cell_world.specs.Held.{HeldCell, IsHeldAs, HasEffect}
use Rattle.cell_world.specs.Rebasing.{Rebases}
use Rattle.cell_world.specs.Runs.{Runs}
use Rattle.cell_core.specs.Standing.{HasReachedWorld}
use Rattle.cell_world.proofs.Running.{runs_none, runs_more}
use Rattle.cell_core.proofs.Cuts.{drops_all, runs_to, rebases_to}
use Rattle.cell_core.proofs.Explained.{reached_on}

pub stands_new : (config : Config) (servers clients : ℕ) (h : HeldCell) → IsHeldAs (new_world config servers clients) h → HasReachedWorld h
stands_new config servers clients h g = record {
  config = config;
  servers = servers;
  clients = clients;
  world = new_world config servers clients;
  earlier = [];
  reached = ([], refl);
  stands = record { cut = new_world config servers clients; is_cut = record { but_sent = refl; sent_is = refl }; held = g };
}

pub stands_run : (old new : HeldCell) (events : List Event) (answers : List Answer) → HasReachedWorld old → Runs old events answers new → HasReachedWorld new
stands_run old new events answers s r =
    let it = runs_to s.world s.earlier old new events answers s.stands r in
    record {
      config = s.config;
      servers = s.servers;
      clients = s.clients;
      world = it.next;
      earlier = s.earlier;
      reached = reached_on s.config s.servers s.clients s.world it.next s.reached it.runs.steps it.runs.leads;
      stands = it.stands;
    }

pub stands_without : (old new : HeldCell) → HasReachedWorld old → new ≡ record old { sent = [] } → HasReachedWorld new
stands_without old new s is = record {
  config = s.config;
  servers = s.servers;
  clients = s.clients;
  world = s.world;
  earlier = s.world.sent;
  reached = s.reached;
  stands = drops_all old new is s.world s.earlier s.stands;
}

stands_rebase : (old new : HeldCell) (moment : ℕ) → HasReachedWorld old → Rebases old moment new → HasReachedWorld new
stands_rebase old new moment s r =
    let it = rebases_to s.world s.earlier old new moment s.stands r in
    record {
      config = s.config;
      servers = s.servers;
      clients = s.clients;
      world = it.0;
      earlier = it.0.sent;
      reached = reached_on s.config s.servers s.clients s.world it.0 s.reached it.1.steps it.1.leads;
      stands = it.2;
    }

pub stands_step : (old new : HeldCell) (event : Event) (answer : Option Answer) → HasReachedWorld old → HasEffect old (λ w choice. happens w event choice) answer new → HasReachedWorld new
stands_step old new event answer s d = stands_run old new (event ∷ []) _ s (runs_more old old new [] [] event answer (runs_none old) d)

pub stands_ran : {V : Type 0} {E : Type 0} (old new : HeldCell) (events : List Event) (items : V → List Answer) (r : Result V E) → HasReachedWorld old → IfOk r (λ v. Runs old events (items v) new) → OnErr r (new ≡ old) → HasReachedWorld new
stands_ran old new events items (Ok v) s ok err = stands_run old new events (items v) s ok
stands_ran old new events items (Err fault) s ok err = subst HasReachedWorld (sym err) s

pub stands_rebased : {V : Type 0} {E : Type 0} (old new : HeldCell) (moment : ℕ) (r : Result V E) → HasReachedWorld old → OnOk r (Rebases old moment new) → OnErr r (new ≡ old) → HasReachedWorld new
stands_rebased old new moment (Ok v) s ok err = stands_rebase old new moment s ok
stands_rebased old new moment (Err e) s ok err = subst HasReachedWorld (sym err) s
