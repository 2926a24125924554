-- A server that makes a new replica.
use Rattle.std.specs.Prelude.{ℕ, None}
use Rattle.protocol.specs.MasterVersions.{VersionTarget}

abbrev pub new_target : ℕ → VersionTarget
new_target server = record { server = server; base = None }
