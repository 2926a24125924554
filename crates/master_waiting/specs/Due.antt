-- What is kept beside the snapshots that wait, so that few steps look at each.
use Rattle.std.specs.Prelude.{◌≡◌, ◌==◌, ◌&&◌, ℕ, Bool, true, not, nat_le, List, length, is_some}
use Rattle.std.specs.List.{list_all}
use Rattle.std.specs.FinMap as table
use Rattle.log_records.specs.declared.record.Record.{Record}
use Rattle.log_records.specs.declared.record.Record.TheVariants as log
use Rattle.protocol.specs.Logged.{Logged}
use Rattle.protocol.specs.Master.{PendingSnapshot}
use Rattle.protocol.specs.MasterSnapshots.{row_has_ended}
use Rattle.chunk_table.specs.ChunkTable.{chunk_of, handles_of}
use Rattle.master_state.specs.Copied.{handles_copied}
use Rattle.master_waiting.specs.Concerned.{NumberSet, is_in}

-- no deadline is earlier than this moment
abbrev pub are_due_from : ℕ → List PendingSnapshot → Bool
are_due_from earliest snapshots = list_all (λ s. nat_le earliest s.deadline) snapshots

-- each was asked for by one of these clients
abbrev pub are_from : NumberSet → List PendingSnapshot → Bool
are_from clients snapshots = list_all (λ s. is_in clients s.client) snapshots

-- no lease is left to end of the chunks that a snapshot concerns
abbrev pub is_ready_at : Logged → ℕ → PendingSnapshot → Bool
is_ready_at l moment s = list_all (λ handle. row_has_ended moment (chunk_of l.table handle)) (handles_copied l s.from s.to)

-- at this moment each snapshot waits for some lease
abbrev pub WaitAt : Logged → List PendingSnapshot → ℕ → Type 0
WaitAt l snapshots moment = list_all (λ s. not (is_ready_at l moment s)) snapshots ≡ true

-- Whether no lease that has not ended at a moment ends by a record that moves no name, as far as is looked: a row that it sets anew has none, and no file's list gets shorter.
abbrev pub leaves_leases : Logged → ℕ → Record → Bool
leaves_leases l moment (log.Epoch epoch) = true
leaves_leases l moment (log.Mkdir client n path) = true
leaves_leases l moment (log.Rmdir client n path) = true
leaves_leases l moment (log.Create client n file shape path) = length (handles_of l.table file.0) == 0
leaves_leases l moment (log.Delete client n at path) = true
leaves_leases l moment (log.Rename client n from to) = true
leaves_leases l moment (log.Snapshot client n from to) = true
leaves_leases l moment (log.Refused client n refusal) = true
leaves_leases l moment (log.Expired file) = true
leaves_leases l moment (log.AddChunk file handle) = row_has_ended moment (chunk_of l.table handle.0)
leaves_leases l moment (log.Issue handle version) = true
leaves_leases l moment (log.Grant handle version primary members) = row_has_ended moment (chunk_of l.table handle.0) && not (is_some (table.get l.copies handle.0))
leaves_leases l moment (log.CopyStart file index handle copy copy_version) = row_has_ended moment (chunk_of l.table copy.0)
leaves_leases l moment (log.Counters next_file next_handle epoch) = true
leaves_leases l moment (log.DirItem path) = true
leaves_leases l moment (log.FileItem path file shape handles) = true
leaves_leases l moment (log.ChunkItem handle granted issued primary members) = true
leaves_leases l moment (log.ClientItem client n refusal) = true
