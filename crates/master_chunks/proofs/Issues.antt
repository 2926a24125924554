-- A version number, by whether there is a set for it and whether its record got in.
use Rattle.std.proofs.Common.{◌≡◌, ℕ, suc, cond, List, [], ◌∷◌, refl, length}
use Rattle.log_records.specs.declared.record.Record.TheVariants as log
use Rattle.chunk_table.specs.ChunkTable.{ChunkRow}
use Rattle.protocol.specs.Sending.{handle_of, version_of}
use Rattle.protocol.specs.Master.{MasterDoing}
use Rattle.protocol.specs.MasterVersions.{Asker, VersionTarget, tells_location, sends_issued, issues_to}
use Rattle.master_plan.specs.Logging.{was_logged, tried}
use Rattle.master_plan.proofs.Logs.{logs_by}

pub to_none : (d : MasterDoing) (a : Asker) (own : ℕ) (own_row : ChunkRow) (handle : ℕ) (row : ChunkRow) (targets : List VersionTarget)
    → length targets ≡ 0 → issues_to d a own own_row handle row targets ≡ tells_location d a own own_row []
to_none d a own own_row handle row [] h = refl
to_none d a own own_row handle row (t ∷ rest) h = absurd cc

pub to_some : (d : MasterDoing) (a : Asker) (own : ℕ) (own_row : ChunkRow) (handle : ℕ) (row : ChunkRow) (targets : List VersionTarget)
    → (length targets ≡ 0 → ⊥)
    → issues_to d a own own_row handle row targets
    ≡ cond (was_logged d (log.Issue (handle_of handle) (version_of (suc row.issued))))
    (sends_issued (tried d (log.Issue (handle_of handle) (version_of (suc row.issued)))) a handle (suc row.issued) targets)
    (tried d (log.Issue (handle_of handle) (version_of (suc row.issued))))
to_some d a own own_row handle row [] h = absurd (h refl)
to_some d a own own_row handle row (t ∷ rest) h =
    logs_by d (log.Issue (handle_of handle) (version_of (suc row.issued))) (λ e. sends_issued e a handle (suc row.issued) (t ∷ rest))
