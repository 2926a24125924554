-- What an event may come to in a cell that a script drives, and how its replicas are printed.
use Rattle.std.specs.Prelude.{◌≡◌, ◌⊎◌, ℕ, List, [], length, map, Option, option_map}
use Rattle.gfs_types.specs.declared.answer.Answer.{Answer}
use Rattle.gfs_types.specs.declared.ids.Handle.{Handle}
use Rattle.messages.specs.declared.event.Event.{Event}
use Rattle.script.specs.declared.stored.StoredReplica.{StoredReplica}
use Rattle.protocol.specs.Lookups.{StoredAt}
use Rattle.protocol.specs.Sending.{handle_of, server_id, version_of}
use Rattle.protocol.specs.World.{happens, numbered_from_1}
use Rattle.cell_world.specs.Held.{HeldCell, HasEffect}
use Rattle.cell_world.specs.Rebasing.{IsBehind, Rebases}
use Rattle.cell_world.specs.Looks.{file_held, has_open_call, regions_held, replicas_held, server_count}
use Rattle.cell_simulator.specs.Cells.{Meaning}

-- It comes to this in each world that the cell stands for.
abbrev pub Steps : HeldCell → Event → Option Answer → HeldCell → Type 0
Steps old event answer new = HasEffect old (λ w choice. happens w event choice) answer new

-- All but clients begin again, and all messages are dropped; or nothing happens, where the moment is too far behind the greatest one, as no script's clock is.
abbrev pub DropsMessages : HeldCell → ℕ → HeldCell → Type 0
DropsMessages old moment new = Rebases old moment new ⊎ (IsBehind old moment × (new ≡ old))

abbrev pub as_shown : StoredAt → StoredReplica
as_shown r = record { server = server_id r.server; version = version_of r.version; length = r.count }

-- a chunk's handle and replicas, as they are printed
abbrev pub replicas_shown : HeldCell → ℕ → ℕ → Option (Handle × List StoredReplica)
replicas_shown h file index = option_map (λ found. (handle_of found.0, map as_shown found.1)) (replicas_held h file index)

-- what a simulator is told of whatever holds such a cell
abbrev pub meaning_of : {C : Type 0} → (C → HeldCell) → Meaning C
meaning_of cell_of =
    record {
      steps = λ old event answer new. Steps (cell_of old) event answer (cell_of new);
      rebases = λ old moment new. DropsMessages (cell_of old) moment (cell_of new);
      drops = λ old new. cell_of new ≡ record (cell_of old) { sent = [] };
      count = λ c. length (cell_of c).sent;
      message = λ c number. numbered_from_1 (cell_of c).sent number;
      servers = λ c. server_count (cell_of c);
      clients = λ c. length (cell_of c).clients;
      is_open = λ c client. has_open_call (cell_of c) client.0;
      file = λ c path. file_held (cell_of c) path;
      regions = λ c file index. regions_held (cell_of c) file.0 index;
      replicas = λ c file index. replicas_shown (cell_of c) file.0 index;
    }
