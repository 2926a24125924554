-- A copy, by whether there are servers for it and whether its record got in.
use Rattle.std.proofs.Common.{◌≡◌, ℕ, suc, cond, List, [], ◌∷◌, refl, length, map}
use Rattle.log_records.specs.declared.record.Record.TheVariants as log
use Rattle.chunk_table.specs.ChunkTable.{ChunkRow, chunk_of}
use Rattle.protocol.specs.Sending.{file_id, handle_of, version_of}
use Rattle.protocol.specs.Master.{MasterDoing, HeldAt, gives_up_copy}
use Rattle.protocol.specs.MasterVersions.{Asker, VersionTarget, holder_target, tells_location, sends_copy_started, copies_to, wants_own_of, issues_to, issues_copy}
use Rattle.master_plan.specs.Logging.{was_logged, tried}
use Rattle.master_plan.proofs.Logs.{logs_by}

pub to_none : (d : MasterDoing) (a : Asker) (handle : ℕ) (row : ChunkRow) (targets : List VersionTarget)
    → length targets ≡ 0 → copies_to d a handle row targets ≡ tells_location d a handle row []
to_none d a handle row [] h = refl
to_none d a handle row (t ∷ rest) h = absurd cc

pub to_some : (d : MasterDoing) (a : Asker) (handle : ℕ) (row : ChunkRow) (targets : List VersionTarget)
    → (length targets ≡ 0 → ⊥)
    → copies_to d a handle row targets
    ≡ cond (was_logged d (log.CopyStart (file_id a.file) a.index (handle_of handle) (handle_of d.master.logged.next_handle) (version_of (suc row.issued))))
    (sends_copy_started (tried d (log.CopyStart (file_id a.file) a.index (handle_of handle) (handle_of d.master.logged.next_handle) (version_of (suc row.issued)))) a handle d.master.logged.next_handle (suc row.issued) targets)
    (tried d (log.CopyStart (file_id a.file) a.index (handle_of handle) (handle_of d.master.logged.next_handle) (version_of (suc row.issued))))
to_some d a handle row [] h = absurd (h refl)
to_some d a handle row (t ∷ rest) h =
    logs_by d (log.CopyStart (file_id a.file) a.index (handle_of handle) (handle_of d.master.logged.next_handle) (version_of (suc row.issued)))
    (λ e. sends_copy_started e a handle d.master.logged.next_handle (suc row.issued) (t ∷ rest))

pub by_none : (d : MasterDoing) (a : Asker) (handle : ℕ) (row : ChunkRow) (copy : ℕ) (copy_row : ChunkRow) (holders : List HeldAt)
    → length holders ≡ 0 → issues_copy d a handle row copy copy_row holders ≡ wants_own_of (gives_up_copy d copy) a handle (chunk_of (gives_up_copy d copy).master.logged.table handle)
by_none d a handle row copy copy_row [] h = refl
by_none d a handle row copy copy_row (t ∷ rest) h = absurd cc

pub by_some : (d : MasterDoing) (a : Asker) (handle : ℕ) (row : ChunkRow) (copy : ℕ) (copy_row : ChunkRow) (holders : List HeldAt)
    → (length holders ≡ 0 → ⊥) → issues_copy d a handle row copy copy_row holders ≡ issues_to d a handle row copy copy_row (map holder_target holders)
by_some d a handle row copy copy_row [] h = absurd (h refl)
by_some d a handle row copy copy_row (t ∷ rest) h = refl
