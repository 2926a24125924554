-- Each answer to a name call that the master keeps, and each snapshot that waits, is to a Name that its client sent (sections 2.6.3 and 3.4).
use Rattle.std.specs.Prelude.{◌≡◌, ℕ, Bool, List, Some, IsTrue}
use Rattle.std.specs.List.{AllByRecursion}
use Rattle.std.specs.FinMap as table
use Rattle.gfs_types.specs.declared.config.Config.{Config}
use Rattle.messages.specs.declared.message.Body.{Body}
use Rattle.messages.specs.declared.message.Body.TheVariants as body
use Rattle.messages.specs.declared.message.Message.{Message}
use Rattle.protocol.specs.Tables.{Table, element_at}
use Rattle.protocol.specs.Choice.{decided_changes}
use Rattle.protocol.specs.Sending.{client_number}
use Rattle.protocol.specs.Logged.{KeptCall, log_changed_by_all, replayed}
use Rattle.protocol.specs.World.{WorldState, IsReached}

abbrev pub IsNameOf : ℕ → Body → Type 0
IsNameOf number (body.Name n deadline c) = n ≡ number
IsNameOf number other = ⊥

-- the client sent a Name under this number
abbrev pub WasAskedFor : List Message → ℕ → ℕ → Type 0
WasAskedFor sent client number = (place : ℕ) × (x : Message) × (element_at sent place ≡ Some x) × (client_number x.sender ≡ client) × IsNameOf number x.body

abbrev pub WereAskedFor : List Message → Table KeptCall → Type 0
WereAskedFor sent kept = (client : ℕ) (k : KeptCall) → table.get kept client ≡ Some k → WasAskedFor sent client k.number

-- The answers that a master keeps that is up, and those of its log, for each way to decide what was under way.
abbrev pub KeptAnswersWereAskedFor : Type 0
KeptAnswersWereAskedFor =
    (config : Config) (servers clients : ℕ) (w : WorldState) → IsReached config servers clients w
    → (IsTrue w.master.up → WereAskedFor w.sent w.master.logged.kept)
    × ((decided : List Bool) → WereAskedFor w.sent (replayed (log_changed_by_all w.master.disk (decided_changes decided w.master.under_way))).kept)

-- The snapshots that wait.
abbrev pub WaitingSnapshotsWereAskedFor : Type 0
WaitingSnapshotsWereAskedFor =
    (config : Config) (servers clients : ℕ) (w : WorldState) → IsReached config servers clients w → IsTrue w.master.up
    → AllByRecursion (λ s. WasAskedFor w.sent s.client s.number) w.master.snapshots
