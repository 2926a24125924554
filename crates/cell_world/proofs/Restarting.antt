-- Nodes begin again, one after another, and messages are dropped.
use Rattle.std.proofs.Common.{◌≡◌, ℕ, suc, ◌+◌, List, [], ◌∷◌, ◌++◌, map, None, refl, sym, subst, ap, arith}
use Rattle.std.proofs.lemmas.List.{map-append}
use Rattle.gfs_types.specs.declared.ids.Moment.{Moment}
use Rattle.gfs_types.specs.declared.ids.Node.TheVariants as node
use Rattle.messages.specs.declared.event.Event.{Event}
use Rattle.messages.specs.declared.event.Event.TheVariants as event
use Rattle.protocol.specs.Sending.{moment_of, the_server}
use Rattle.protocol.specs.Tables.{first_numbers}
use Rattle.protocol.specs.World.{happens}
use Rattle.protocol_journal.specs.Rebased.{restart_events, without_messages}
use Rattle.cell_world.specs.Held.{HeldCell, IsHeldAs, HasEffect}
use Rattle.cell_world.specs.Looks.{server_count}
use Rattle.cell_world.specs.Rebasing.{Rebases}
use Rattle.cell_world.specs.Runs.{Runs}
use Rattle.cell_world.proofs.Running.{runs_none, runs_more}

one_server_more : (n moment : ℕ) → restart_events n moment ++ event.Restart (the_server (n + 1)) (moment_of moment) ∷ [] ≡ restart_events (n + 1) moment
one_server_more n moment =
    let began : ℕ → Event = λ s. event.Restart (the_server s) (moment_of moment) in
    let next : suc n ≡ n + 1 = omega arith in
    subst (λ (k : ℕ). restart_events n moment ++ began k ∷ [] ≡ restart_events k moment) next
    (ap (λ (l : List Event). event.Restart node.Master (moment_of moment) ∷ l) (sym (map-append began (first_numbers n) (suc n ∷ []))))

-- the master began again
pub master_began : (old new : HeldCell) (now : Moment) → HasEffect old (λ w choice. happens w (event.Restart node.Master now) choice) None new → Runs old (restart_events 0 now.0) [] new
master_began old new now effect = runs_more old old new [] [] (event.Restart node.Master now) None (runs_none old) effect

-- one server more did
pub server_began : (old middle new : HeldCell) (n : ℕ) (now : Moment) → Runs old (restart_events n now.0) [] middle → HasEffect middle (λ w choice. happens w (event.Restart (the_server (n + 1)) now) choice) None new
    → Runs old (restart_events (n + 1) now.0) [] new
server_began old middle new n now runs effect =
    subst (λ (events : List Event). Runs old events [] new) (one_server_more n now.0)
    (runs_more old middle new (restart_events n now.0) [] (event.Restart (the_server (n + 1)) now) None runs effect)

-- all of them did
pub all_began : (old new : HeldCell) (n count moment : ℕ) → n ≡ count → count ≡ server_count old → Runs old (restart_events n moment) [] new → Runs old (restart_events (server_count old) moment) [] new
all_began old new n count moment all is runs = subst (λ (k : ℕ). Runs old (restart_events k moment) [] new) is (subst (λ (k : ℕ). Runs old (restart_events k moment) [] new) all runs)

dropped : (old middle : HeldCell) (moment : ℕ) → Runs old (restart_events (server_count old) moment) [] middle → Rebases old moment (record middle { sent = [] })
dropped old middle moment runs w g =
    let it = runs w g in
    let h = it.2 in (
      it.0,
      it.1,
      record { config = h.config; master = h.master; files = h.files; servers = h.servers; clients = h.clients; sent = refl; orders = h.orders; greatest = h.greatest },
    )

-- and then messages were dropped
pub rebased : (old middle new : HeldCell) (moment : ℕ) → Runs old (restart_events (server_count old) moment) [] middle → new ≡ record middle { sent = [] } → Rebases old moment new
rebased old middle new moment runs is = subst (λ (h : HeldCell). Rebases old moment h) (sym is) (dropped old middle moment runs)
