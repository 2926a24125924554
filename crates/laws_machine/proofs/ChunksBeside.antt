-- The machine's chunks beside a world, from each world to the next.
use Rattle.std.proofs.Common.{◌≡◌, ℕ, ◌-◌, ◌<◌, true, false, List, [], ◌∷◌, Option, Some, None, refl, sym, ap, subst, ◌∙◌, inl, inr, arith}
use Rattle.std.specs.Prelude.{◌&&◌, nat_lt, nat_le, filter, option_map, unwrap_or}
use Rattle.std.specs.List.{list_all}
use Rattle.std.specs.Ordering.{nat_cmp}
use Rattle.std.specs.FinMap as table
use Rattle.gfs_types.specs.declared.config.Config.{Config}
use Rattle.gfs_types.specs.declared.call.Call.{Call}
use Rattle.gfs_types.specs.declared.ids.Node.{Node}
use Rattle.gfs_types.specs.declared.ids.Node.TheVariants as node
use Rattle.messages.specs.declared.event.Event.{Event}
use Rattle.messages.specs.declared.event.Event.TheVariants as event
use Rattle.messages.specs.declared.event.NodeInput.{NodeInput}
use Rattle.messages.specs.declared.event.NodeInput.TheVariants as input
use Rattle.messages.specs.declared.message.Message.{Message}
use Rattle.relaxed_file.specs.Machine.{Machine, OpenCall, FileState}
use Rattle.relaxed_file.specs.Chunks.{placed}
use Rattle.relaxed_file.specs.Run.{Action, Place, Settle, after, after_all}
use Rattle.protocol.specs.Choice.{Choice}
use Rattle.protocol.specs.Master.{MasterState}
use Rattle.replica_store.specs.Replicas.{Replica, replica_of}
use Rattle.protocol.specs.Server.{ServerState}
use Rattle.protocol.specs.ServerStep.{server_step}
use Rattle.protocol.specs.Client.{ClientState}
use Rattle.protocol.specs.ClientStep.{may_call, client_step}
use Rattle.protocol.specs.World.{WorldState, Happened, new_world, nothing_happens, numbered_from_1, after_server, after_client, server_moves, client_moves, moves, delivered, server_restarts_at, restarts, call_moves, rots_replica, rots_on, at_moment, happens}
use Rattle.protocol.specs.Tables.{moment_limit}
use Rattle.laws_base.proofs.Steps.{on_cond, none_some}
use Rattle.laws_base.specs.Versions.{IsLeaseOver}
use Rattle.laws_machine.specs.ChunksAlike.{ChunkSides, IsRoundOpen, AreChunksAlike, KeepsRounds, HasRounds, moved}
use Rattle.laws_machine.proofs.Plain.{other_changes_keep_chunks}
use Rattle.laws_machine.specs.Rounds.{IsLogOf, IsMastersStep, IsEnded}
use Rattle.laws_machine.specs.ServerSteps.{is_of_entries, ComesToOrders}
use Rattle.laws_machine.specs.Tries.{IsNumberedAt, IsRise}
use Rattle.laws_machine.specs.HoldersApart.{IsRoundAt}
use Rattle.laws_machine.specs.ToldHolders.{IsStandingFor, AreHoldersTold}
use Rattle.laws_machine.specs.ToldRounds.{AreToldRounds}
use Rattle.laws_machine.specs.ShownChunks.{AreShownStanding}
use Rattle.protocol_invariant.specs.Actions.{Spot}
use Rattle.relaxed_file.specs.Order.{Entry}
use Rattle.laws_machine.specs.ChunksBeside.{AreChunksBeside, NewChunksAreBeside, SameFilesKeepChunksBeside, IsMastersEvent, OtherEventsKeepChunksBeside, MastersEventsKeepChunksBeside}
use Rattle.laws_machine.proofs.EndedRounds.{other_events_keep_rounds, rounds_go, new_rounds}
use Rattle.laws_machine.proofs.HoldersOn.{holders_go_on}
use Rattle.laws_machine.proofs.MasterHolders.{masters_events_keep_holders}
use Rattle.laws_machine.proofs.ServerSteps.{other_events_are_taken}
use Rattle.laws_machine.proofs.ShownChunks.{shown_goes_on, masters_events_keep_shown}
use Rattle.laws_machine.proofs.ToldRounds.{no_round_is_told_at_first, told_rounds_go_on}
use Rattle.laws_machine.proofs.OpenRounds.{ungranted_is_over}

-- an event that isn't the master's leaves the master

abbrev IsLeft : WorldState → Happened → Type 0
IsLeft w h = h.world.master ≡ w.master

module _ (w : WorldState) (moment : ℕ) where
  server_left : (index : ℕ) (i : NodeInput) (choice : Choice) (o : Option ServerState) → IsLeft w (server_moves w index moment i choice o)
  server_left index i choice None = refl
  server_left index i choice (Some s) = on_cond (IsLeft w) s.up (after_server w index moment (server_step s moment i choice)) (nothing_happens w) (λ _. refl) (λ _. refl)

  client_left : (index : ℕ) (i : NodeInput) (choice : Choice) (o : Option ClientState) → IsLeft w (client_moves w index moment i choice o)
  client_left index i choice None = refl
  client_left index i choice (Some s) = on_cond (IsLeft w) s.up (after_client w index moment (client_step s moment i choice)) (nothing_happens w) (λ _. refl) (λ _. refl)

  moves_left : (n : Node) (i : NodeInput) (choice : Choice) → (n ≡ node.Master → ⊥) → IsLeft w (moves w n moment i choice)
  moves_left node.Master i choice not = absurd (not refl)
  moves_left (node.Server s) i choice not = server_left (s.0 - 1) i choice (numbered_from_1 w.servers s.0)
  moves_left (node.Client c) i choice not = client_left (c.0 - 1) i choice (numbered_from_1 w.clients c.0)

  delivery_left : (choice : Choice) (o : Option Message) → ((m : Message) → o ≡ Some m → m.receiver ≡ node.Master → ⊥) → IsLeft w (delivered w moment choice o)
  delivery_left choice None not = refl
  delivery_left choice (Some m) not = moves_left m.receiver (input.Deliver m) choice (not m refl)

  opens_left : (index : ℕ) (choice : Choice) (o : Option ServerState) → IsLeft w (server_restarts_at w index moment choice o)
  opens_left index choice None = refl
  opens_left index choice (Some s) = refl

  restart_left : (n : Node) (choice : Choice) → (n ≡ node.Master → ⊥) → IsLeft w (restarts w n moment choice)
  restart_left node.Master choice not = absurd (not refl)
  restart_left (node.Server s) choice not = opens_left (s.0 - 1) choice (numbered_from_1 w.servers s.0)
  restart_left (node.Client c) choice not = refl

  call_left : (index : ℕ) (c : Call) (choice : Choice) (o : Option ClientState) → IsLeft w (call_moves w index moment c choice o)
  call_left index c choice None = refl
  call_left index c choice (Some s) = on_cond (IsLeft w) (may_call s) _ (nothing_happens w) (λ _. refl) (λ _. refl)

  moment_left : (h : Happened) → IsLeft w h → IsLeft w (at_moment w moment h)
  moment_left h left = on_cond (IsLeft w) (nat_le moment moment_limit) h (nothing_happens w) (λ _. left) (λ _. refl)

rot_left : (w : WorldState) (index handle place byte : ℕ) (choice : Choice) (o : Option ServerState) → IsLeft w (rots_on w index handle place byte choice o)
rot_left w index handle place byte choice None = refl
rot_left w index handle place byte choice (Some s) =
    on_cond (IsLeft w) (s.up && nat_lt place w.config.chunk) (rots_replica w index s handle place byte choice (replica_of s.disk handle)) (nothing_happens w) (λ _. by_replica (replica_of s.disk handle)) (λ _. refl)
  where
    by_replica : (o : Option Replica) → IsLeft w (rots_replica w index s handle place byte choice o)
    by_replica None = refl
    by_replica (Some r) = refl

pub master_left : (w : WorldState) (e : Event) (choice : Choice) → (IsMastersEvent w e → ⊥) → IsLeft w (happens w e choice)
master_left w (event.Call client c now) choice not = moment_left w now.0 _ (call_left w now.0 (client.0 - 1) c choice (numbered_from_1 w.clients client.0))
master_left w (event.Deliver number now) choice not = moment_left w now.0 _ (delivery_left w now.0 choice (numbered_from_1 w.sent number) (λ m at to. not (m, at, to)))
master_left w (event.Tick n now) choice not = moment_left w now.0 _ (moves_left w now.0 n input.Tick choice not)
master_left w (event.Restart n now) choice not = moment_left w now.0 _ (restart_left w now.0 n choice not)
master_left w (event.Rot server handle place byte) choice not = rot_left w (server.0 - 1) handle.0 place byte choice (numbered_from_1 w.servers server.0)
master_left w (event.Fuse n count torn) choice not = refl

-- a step is an event of the master's
pub masters_step : (w : WorldState) (e : Event) → IsMastersStep w e → IsMastersEvent w e
masters_step w (event.Deliver number now) is = is
masters_step w (event.Tick n now) is = is
masters_step w (event.Call client c now) is = absurd is
masters_step w (event.Restart n now) is = absurd is
masters_step w (event.Rot server handle place byte) is = absurd is
masters_step w (event.Fuse n count torn) is = absurd is

-- entries leave the settings
same_settings : (m : Machine) (actions : List Action) → list_all is_of_entries actions ≡ true → (after_all m actions).config ≡ m.config
same_settings m [] of = refl
same_settings m (Place client file index mutation ∷ rest) of = same_settings (after m (Place client file index mutation)) rest of ∙ by_call (m.clients client).open_call
  where
    by_call : (o : Option OpenCall) → (unwrap_or (option_map (λ (c : OpenCall). placed m client c file index mutation) o) m).config ≡ m.config
    by_call None = refl
    by_call (Some c) = refl
same_settings m (Settle file index place ∷ rest) of = same_settings (after m (Settle file index place)) rest of
same_settings m (other ∷ rest) of = absurd (let no : false ≡ true = of in cc)

pub other_events_keep_chunks_beside : OtherEventsKeepChunksBeside
other_events_keep_chunks_beside config servers clients w r kept e choice clocks not k machine_reached h sized calls = (
  comes.actions,
  comes.of_entries,
  comes.follows.allowed,
  record {
    settings = same_settings k.machine comes.actions comes.of_entries ∙ h.settings;
    log = subst (λ (m : MasterState). IsLogOf m k.log) (sym (master_left w e choice not)) h.log;
    orders = refl;
    alike = comes.follows.keeps.alike;
    gone = comes.gone h.gone;
    rounds = other_events_keep_rounds config servers clients w r e choice clocks no_step k j h.rounds none_ended;
    told = told_rounds_go_on config servers clients w r e choice clocks k j h.log h.alike h.rounds none_ended h.told;
    holders = holders_go_on config servers clients w r e choice clocks no_step k j (omega arith) comes.standing h.holders;
    shown = shown_goes_on config servers clients w r e choice clocks no_step (master_left w e choice not) k j refl comes.standing h.shown;
  },
  (came.0, comes.tries),
)
  where
    no_step : IsMastersStep w e → ⊥
    no_step is = not (masters_step w e is)

    came : (g : Option (IsNumberedAt w (happens w e choice).world k)) × ComesToOrders (IsLeaseOver w) k (happens w e choice).world.observer.orders (IsRise w (happens w e choice).world k g)
    came = other_events_are_taken config servers clients w r kept e choice clocks no_step k h.settings h.orders h.log h.alike h.rounds machine_reached sized calls

    comes : ComesToOrders (IsLeaseOver w) k (happens w e choice).world.observer.orders (IsRise w (happens w e choice).world k came.0)
    comes = came.1

    j : ChunkSides
    j = moved k comes.actions k.log k.gone (happens w e choice).world.observer.orders

    none_ended : KeepsRounds (IsEnded w (happens w e choice).world) k j
    none_ended handle version s was_open = elim (comes.follows.keeps.rounds handle version s was_open) [
      | inl none ↦ absurd none
      | inr still ↦ inr still
    ]

pub masters_events_keep_chunks_beside : MastersEventsKeepChunksBeside
masters_events_keep_chunks_beside config servers clients w r e choice clocks k j h settings log orders alike gone keeps sent is may = record {
  gone = gone;
  holders = masters_events_keep_holders config servers clients w r e choice is k j h.log h.orders orders h.holders may;
  shown = masters_events_keep_shown config servers clients w r e choice clocks is k j h.log h.orders h.rounds h.holders log orders alike gone keeps may h.shown;
  settings = settings;
  log = log;
  orders = orders;
  alike = alike;
  rounds = rounds_go config servers clients w r e choice clocks k j h.rounds keeps (new_rounds w e choice j sent);
  told = told_rounds_go_on config servers clients w r e choice clocks k j h.log h.alike h.rounds keeps h.told;
}

-- other actions of the machine

module _ (config : Config) (w : WorldState) (k : ChunkSides) (m : Machine) (h : AreChunksBeside config w k) (files : m.files ≡ k.machine.files) where
  abbrev later : ChunkSides
  later = record k { machine = m }

  still_open : (handle version : ℕ) → (s : _) → IsRoundOpen k handle version s → IsRoundOpen later handle version s
  still_open handle version s was_open = record {
    place = was_open.place;
    order = was_open.order ∙ sym (ap (λ (f : ℕ → FileState). ((f s.file).chunks s.index).order) files);
    round = ap (λ (f : ℕ → FileState). ((f s.file).chunks s.index).round) files ∙ was_open.round;
    is_open = ap (λ (f : ℕ → FileState). ((f s.file).chunks s.index).is_open) files ∙ was_open.is_open;
  }

  still_told : AreToldRounds w later
  still_told client file l place t = elim (h.told client file l place t) [
    | inl over ↦ inl over
    | inr was_open ↦ inr (still_open l.handle.0 l.round.0 (record { file = file; index = l.index }) was_open)
  ]

  still_rounds : HasRounds (IsLeaseOver w) later
  still_rounds handle version = elim (h.rounds handle version) [
    | inl over ↦ inl over
    | inr was_open ↦ inr (was_open.0, still_open handle version was_open.0 was_open.1)
  ]

  round_before : (handle version : ℕ) (s : Spot) → IsRoundAt later handle version s → IsRoundAt k handle version s
  round_before handle version s at = record {
    place = at.place;
    round = sym (ap (λ (f : ℕ → FileState). ((f s.file).chunks s.index).round) files) ∙ at.round;
    is_open = sym (ap (λ (f : ℕ → FileState). ((f s.file).chunks s.index).is_open) files) ∙ at.is_open;
  }

  still_standing : (file index handle version : ℕ) → IsStandingFor w k file index handle version → IsStandingFor w later file index handle version
  still_standing file index handle version x = record {
    stands = record {
      count = subst (λ (f : ℕ → FileState). index < (f file).chunk_count) (sym files) (x.stands).count;
      entries = (x.stands).entries ∙ sym (ap (λ (f : ℕ → FileState). filter (λ (e : Entry). nat_le e.round version) ((f file).chunks index).order) files);
    };
    apart = λ other round t at few. x.apart other round t (round_before other round t at) few;
  }

  still_held : AreHoldersTold w later
  still_held client file l t =
      let it = h.holders client file l t in
      record { used = it.used; round = still_standing file l.index l.handle.0 l.round.0 it.round; holders = λ n x there. let one = it.holders n x there in (one.0, still_standing file l.index l.handle.0 x.version.0 one.1) }

  still_shown : AreShownStanding w later
  still_shown file handles is index handle at =
      let it = h.shown file handles is index handle at in
      (it.0, λ version. still_standing file index handle version (it.1 version))

  still_alike : AreChunksAlike later
  still_alike = (other_changes_keep_chunks k later h.alike (record { lists = refl; grants = λ handle. refl; next = omega arith; gone = refl; orders = refl; files = files })).alike

pub same_files_keep_chunks_beside : SameFilesKeepChunksBeside
same_files_keep_chunks_beside config w k m h settings files = record {
  settings = settings ∙ h.settings;
  log = h.log;
  orders = h.orders;
  alike = still_alike config w k m h files;
  gone = λ handle s stood. h.gone handle s stood ∙ sym (ap (λ (f : ℕ → FileState). ((f s.file).chunks s.index).order) files);
  rounds = still_rounds config w k m h files;
  told = still_told config w k m h files;
  holders = still_held config w k m h files;
  shown = still_shown config w k m h files;
}

-- a new cell

pub new_chunks_are_beside : NewChunksAreBeside
new_chunks_are_beside config servers clients = record {
  settings = refl;
  log = inl (refl, refl);
  orders = refl;
  alike = record {
    there = λ file handles is. none_some handles (sym (table.get-empty nat_cmp file) ∙ is);
    gone = λ handle s none. none_some s none;
    apart = λ handle other s none too. none_some s none;
  };
  rounds = λ handle version. inl (ungranted_is_over config servers clients (new_world config servers clients) ([], refl) handle version refl);
  told = no_round_is_told_at_first config servers clients _;
  holders = λ client file l t. none_some t.told (t.sent_is).1;
  shown = λ file handles is. none_some handles (sym (table.get-empty nat_cmp file) ∙ is);
  gone = λ handle s stood. none_some s stood.0;
}
