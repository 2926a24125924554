-- A grant, by whether its record got in, and by its first server.
use Rattle.std.proofs.Common.{◌≡◌, ℕ, cond, List, [], ◌∷◌, refl, ap, Some, None}
use Rattle.std.specs.Prelude.{slice_get}
use Rattle.log_records.specs.declared.record.Record.TheVariants as log
use Rattle.protocol.specs.Sending.{handle_of, version_of, server_id}
use Rattle.protocol.specs.Master.{MasterDoing, VersionAttempt}
use Rattle.protocol.specs.MasterVersions.{sends_grant, grants, grants_to}
use Rattle.master_plan.specs.Logging.{was_logged, tried}
use Rattle.master_plan.proofs.Logs.{logs_by}

pub grants_by : (d : MasterDoing) (handle : ℕ) (a : VersionAttempt) (primary : ℕ) (members : List ℕ)
    → grants d handle a primary members
    ≡ cond (was_logged d (log.Grant (handle_of handle) (version_of a.version) (server_id primary) members))
    (sends_grant (tried d (log.Grant (handle_of handle) (version_of a.version) (server_id primary) members)) handle a.version primary members)
    (tried d (log.Grant (handle_of handle) (version_of a.version) (server_id primary) members))
grants_by d handle a primary members =
    logs_by d (log.Grant (handle_of handle) (version_of a.version) (server_id primary) members) (λ e. sends_grant e handle a.version primary members)

pub to_none : (d : MasterDoing) (handle : ℕ) (a : VersionAttempt) (members : List ℕ) → slice_get members 0 ≡ None → grants_to d handle a members ≡ d
to_none d handle a [] h = refl
to_none d handle a (m ∷ rest) h = absurd cc

pub to_first : (d : MasterDoing) (handle : ℕ) (a : VersionAttempt) (members : List ℕ) (primary : ℕ) → slice_get members 0 ≡ Some primary → grants_to d handle a members ≡ grants d handle a primary members
to_first d handle a [] primary h = absurd cc
to_first d handle a (m ∷ rest) primary h = let e : m ≡ primary = cc in ap (λ x. grants d handle a x (m ∷ rest)) e
