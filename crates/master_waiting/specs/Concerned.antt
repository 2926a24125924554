-- The files and chunks that waiting snapshots are about, as the master keeps them beside the names.
use Rattle.std.specs.Prelude.{◌≡◌, ℕ, Bool, true, false, ◌||◌, if◌then◌else◌, List, [], ◌∷◌, Option, Some, None}
use Rattle.std.specs.List.{list_any}
use Rattle.std.specs.FinMap as table
use Rattle.gfs_types.specs.Paths.{Path, trash, is_at_or_below}
use Rattle.relaxed_file.specs.NameStep.{is_in_trash}
use Rattle.log_records.specs.declared.record.Record.{Record}
use Rattle.log_records.specs.declared.record.Record.TheVariants as log
use Rattle.protocol.specs.Tables.{Table, has_number}
use Rattle.protocol.specs.Logged.{Logged, Copy}
use Rattle.protocol.specs.Master.{PendingSnapshot}
use Rattle.master_state.specs.Copied.{handles_copied, files_copied}

abbrev pub NumberSet : Type 0
NumberSet = Table Unit

abbrev pub is_in : NumberSet → ℕ → Bool
is_in set number = table.contains_key set number

abbrev pub with_all : NumberSet → List ℕ → NumberSet
with_all set [] = set
with_all set (number ∷ rest) = with_all (table.insert set number tt) rest

-- whether a snapshot copies this file
abbrev pub copies_file : Logged → List PendingSnapshot → ℕ → Bool
copies_file l snapshots file = list_any (λ s. has_number (files_copied l s.from s.to) file) snapshots

-- whether it shares this chunk
abbrev pub shares_chunk : Logged → List PendingSnapshot → ℕ → Bool
shares_chunk l snapshots handle = list_any (λ s. has_number (handles_copied l s.from s.to) handle) snapshots

-- a set with the files of these snapshots
abbrev pub files_of_all : Logged → List PendingSnapshot → NumberSet → NumberSet
files_of_all l [] set = set
files_of_all l (s ∷ rest) set = files_of_all l rest (with_all set (files_copied l s.from s.to))

-- a set with their chunks
abbrev pub chunks_of_all : Logged → List PendingSnapshot → NumberSet → NumberSet
chunks_of_all l [] set = set
chunks_of_all l (s ∷ rest) set = chunks_of_all l rest (with_all set (handles_copied l s.from s.to))

-- These sets are just the files and the chunks of these snapshots.
abbrev pub AreConcerned : Logged → List PendingSnapshot → NumberSet → NumberSet → Type 0
AreConcerned l snapshots files chunks = ((file : ℕ) → is_in files file ≡ copies_file l snapshots file) × ((handle : ℕ) → is_in chunks handle ≡ shares_chunk l snapshots handle)

abbrev pub IfKnown : Bool → Type 0 → Type 0
IfKnown true A = A
IfKnown false A = Unit {0}

-- whether a path is a source or lies below one
abbrev pub is_source : List PendingSnapshot → Path → Bool
is_source snapshots path = list_any (λ s. is_at_or_below s.from path) snapshots

-- whether a deleted file's hidden name may lie at a path or below it
abbrev pub is_by_trash : Path → Bool
is_by_trash path = is_at_or_below path trash || is_in_trash path

-- whether a copy that is under way is for one of these files
abbrev pub is_for_one : NumberSet → Option Copy → Bool
is_for_one files None = false
is_for_one files (Some c) = is_in files c.file

-- whether a record may change a name at a source or below it, as far as is looked
abbrev pub moves : List PendingSnapshot → Record → Bool
moves snapshots (log.Epoch epoch) = false
moves snapshots (log.Mkdir client n path) = is_source snapshots path
moves snapshots (log.Rmdir client n path) = is_source snapshots path
moves snapshots (log.Create client n file shape path) = is_source snapshots path
moves snapshots (log.Delete client n moment path) = is_source snapshots path || list_any (λ s. is_by_trash s.from) snapshots
moves snapshots (log.Rename client n from to) = is_source snapshots from || is_source snapshots to
moves snapshots (log.Snapshot client n from to) = true
moves snapshots (log.Refused client n refusal) = false
moves snapshots (log.Expired file) = true
moves snapshots (log.AddChunk file handle) = false
moves snapshots (log.Issue handle version) = false
moves snapshots (log.Grant handle version primary members) = false
moves snapshots (log.CopyStart file index handle copy copy_version) = false
moves snapshots (log.Counters next_file next_handle epoch) = false
moves snapshots (log.DirItem path) = true
moves snapshots (log.FileItem path file shape handles) = true
moves snapshots (log.ChunkItem handle granted issued primary members) = false
moves snapshots (log.ClientItem client n refusal) = false

-- Whether a record changes what snapshots copy otherwise than by a chunk at a file's end, as far as is looked.
abbrev pub touches : Logged → List PendingSnapshot → NumberSet → Record → Bool
touches l snapshots files (log.Epoch epoch) = false
touches l snapshots files (log.Mkdir client n path) = is_source snapshots path
touches l snapshots files (log.Rmdir client n path) = is_source snapshots path
touches l snapshots files (log.Create client n file shape path) = is_in files file.0 || is_source snapshots path
touches l snapshots files (log.Delete client n moment path) = is_source snapshots path || list_any (λ s. is_by_trash s.from) snapshots
touches l snapshots files (log.Rename client n from to) = is_source snapshots from || is_source snapshots to
touches l snapshots files (log.Snapshot client n from to) = true
touches l snapshots files (log.Refused client n refusal) = false
touches l snapshots files (log.Expired file) = true
touches l snapshots files (log.AddChunk file handle) = false
touches l snapshots files (log.Issue handle version) = false
touches l snapshots files (log.Grant handle version primary members) = is_for_one files (table.get l.copies handle.0)
touches l snapshots files (log.CopyStart file index handle copy copy_version) = false
touches l snapshots files (log.Counters next_file next_handle epoch) = false
touches l snapshots files (log.DirItem path) = true
touches l snapshots files (log.FileItem path file shape handles) = true
touches l snapshots files (log.ChunkItem handle granted issued primary members) = false
touches l snapshots files (log.ClientItem client n refusal) = false

-- the chunks after a record that touches nothing: a chunk at the end of one of these files is one of them
abbrev pub followed : NumberSet → NumberSet → Record → NumberSet
followed files chunks (log.AddChunk file handle) = if is_in files file.0 then table.insert chunks handle.0 tt else chunks
followed files chunks other = chunks
