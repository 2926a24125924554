-- What the log, replayed, has of the names and files of a master that is up, and how references are counted.
use Rattle.std.proofs.Common.{is_some, sym, ap, ◌∙◌, arith}
use Rattle.std.specs.FinMap as table
use Rattle.laws_base.specs.Laws.{MasterNamesAreATree, LogHasTheNames, LogHasTheFiles, EachFileHasOneName, FilesHaveOneName, HasAllReferences, ReferencesAreCounted, LogHasTheChunks}
use Rattle.chunk_table.specs.ChunkTable.{ChunkTable}
use Rattle.protocol.specs.Logged.{Logged, replayed}
use Rattle.laws_base.proofs.LoggedParts.{Parts}
use Rattle.laws_base.proofs.NamesReached.{logged_reached}
use Rattle.laws_base.proofs.OrderNumbers.{state_of}
use Rattle.laws_base.proofs.OneName.{HasOneName, less_keep}
use Rattle.laws_base.proofs.CountsLogged.{IsFoundCounts, IsCountedLog}
use Rattle.laws_base.proofs.CountsKept.{counts_kept, restart_counted}
use Rattle.laws_base.proofs.RowsLogged.{IsFoundRows, IsRowedLog}
use Rattle.laws_base.proofs.RowsKept.{rows_kept, given_up_same}
use Rattle.laws_base.proofs.Owners.{references_of, has_row, AreCounted}

pub master_names_are_a_tree : MasterNamesAreATree
master_names_are_a_tree config servers clients w r up = (logged_reached IsFoundCounts IsCountedLog counts_kept config servers clients w r up).names.tree.is

pub log_has_the_names : LogHasTheNames
log_has_the_names config servers clients w r up =
    let same = (logged_reached IsFoundCounts IsCountedLog counts_kept config servers clients w r up).same in
    (ap (λ (p : Parts). p.names) same, ap (λ (p : Parts). p.next_file) same, ap (λ (p : Parts). p.next_handle) same, ap (λ (p : Parts). p.epoch) same, ap (λ (p : Parts). p.kept) same)

pub log_has_the_files : LogHasTheFiles
log_has_the_files config servers clients w r up = (logged_reached IsFoundCounts IsCountedLog counts_kept config servers clients w r up).tied.base.files

each_has_one : (l : Logged) → HasOneName l → EachFileHasOneName l
each_has_one l h = (λ file has. let name = h.named.named file has in (name.0, name.1, λ other is. h.named.one name.0 other file name.1 is), λ path file is. h.named.there path file is)

pub files_have_one_name : FilesHaveOneName
files_have_one_name config servers clients w r up =
    let log = (logged_reached IsFoundCounts IsCountedLog counts_kept config servers clients w r up).tied.base in
    (each_has_one w.master.logged log.here, each_has_one (replayed w.master.disk) (less_keep (state_of w.master.disk) (table.keys (state_of w.master.disk).copies) log.log.one_name))

all_references : (t : ChunkTable) → AreCounted t → HasAllReferences t
all_references t h = (
  λ handle row is. sym (ap references_of is) ∙ h handle,
  λ handle more. let has = has_row t.chunks handle (let same = h handle in omega (arith, same, more)) in ap is_some has.1,
)

pub references_are_counted : ReferencesAreCounted
references_are_counted config servers clients w r up =
    let log = (logged_reached IsFoundCounts IsCountedLog counts_kept config servers clients w r up).tied in
    (all_references w.master.logged.table log.counted, all_references (replayed w.master.disk).table (restart_counted (state_of w.master.disk) log.log).counted)

pub log_has_the_chunks : LogHasTheChunks
log_has_the_chunks config servers clients w r up handle =
    let log = (logged_reached IsFoundRows IsRowedLog rows_kept config servers clients w r up).tied in
    given_up_same w.master.logged (state_of w.master.disk) log handle
