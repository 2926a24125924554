-- Whose list of chunks a change of the log may change, of the files that were there before.
use Rattle.std.specs.Prelude.{ℕ, List, Option, Some, None}
use Rattle.std.specs.List.{filter_map}
use Rattle.std.specs.FinMap as table
use Rattle.log_records.specs.declared.record.Record.{Record}
use Rattle.log_records.specs.declared.record.Record.TheVariants as log
use Rattle.protocol.specs.Logged.{LogChange, AppendRecord, WriteCheckpoint}
use Rattle.protocol.specs.Tables.{Table}

-- The file of a record, where the copies under way are for these files, by the copies' handles. A copy is put into its file's list at its grant.
abbrev pub file_changed : Table ℕ → Record → Option ℕ
file_changed copies (log.Expired file) = Some file.0
file_changed copies (log.AddChunk file handle) = Some file.0
file_changed copies (log.CopyStart file index handle copy version) = Some file.0
file_changed copies (log.Grant handle version primary members) = table.get copies handle.0
file_changed copies other = None

abbrev pub file_changed_by : Table ℕ → LogChange → Option ℕ
file_changed_by copies (AppendRecord entry) = file_changed copies entry
file_changed_by copies (WriteCheckpoint items) = None

-- the files of a step's changes, in order
abbrev pub files_changed : Table ℕ → List LogChange → List ℕ
files_changed copies changes = filter_map (file_changed_by copies) changes
