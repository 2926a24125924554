-- Whether chunks have their replicas, by what the master knows of its servers.
use Rattle.std.specs.Prelude.{◌≡◌, ℕ, ◌+◌, ◌<◌, true}
use Rattle.std.specs.FinMap as table
use Rattle.gfs_types.specs.declared.config.Config.{Config}
use Rattle.protocol.specs.Tables.{Table}
use Rattle.protocol.specs.Logged.{Logged}
use Rattle.protocol.specs.Master.{MasterState, is_present, version_held, chunks_held}
use Rattle.protocol.specs.MasterClones.{is_attempt_at}
use Rattle.rereplicate.specs.Servers.{Servers}
use Rattle.rereplicate.specs.Whole.{AreWholeBut}
use Rattle.master_plan.specs.Plans.{known, started}

-- the servers, as the choice of a clone asks for them
abbrev pub servers_in : MasterState → Servers
servers_in m =
    record {
      count = m.server_count;
      is_present = λ server. is_present m server;
      version_held = λ handle server. version_held m handle server;
      chunks_held = λ server. chunks_held m server;
      is_under_way = λ handle version. is_attempt_at version (table.get m.attempts handle);
    }

-- no chunk lacks replicas but some of those that are doubted
abbrev pub IsWhole : MasterState → Table Unit → Type 0
IsWhole m doubted = AreWholeBut (servers_in m) m.logged.table.chunks doubted

-- the same at a moment, as far as servers have reported so far
abbrev pub IsWholeAt : Config → ℕ → Logged → Table (Table ℕ) → Table ℕ → Table Unit → ℕ → Type 0
IsWholeAt config server_count logged holders reported doubted moment =
    IsWhole (known (record (started config server_count logged moment) { holders = holders; reported = reported })) doubted

-- the servers that are present stay so up to a moment if they don't report
abbrev pub AllStay : MasterState → ℕ → Type 0
AllStay m moment = (s : ℕ) → s < m.server_count → is_present m (s + 1) ≡ true → is_present (record m { now = moment }) (s + 1) ≡ true
