-- A replica that is shown.
use Rattle.protocol.specs.Lookups.{StoredAt}
use Rattle.script.specs.declared.stored.StoredReplica.{StoredReplica}

abbrev pub as_stored : StoredReplica → StoredAt
as_stored r = record { server = r.server.0; version = r.version.0; count = r.length }
