-- The files that a client has open (section 2.4).
use Rattle.std.specs.Prelude.{ℕ, suc, ◌-◌, nat_le, if◌then◌else◌, Option, Some, None}
use Rattle.std.specs.FinMap as table
use Rattle.gfs_types.specs.declared.shape.Shape.{Shape}
use Rattle.protocol.specs.Tables.{Table}
use Rattle.client_state.specs.declared.kept.OpenFile.{OpenFile}

abbrev pub opened_again : Option OpenFile → Shape → ℕ → OpenFile
opened_again None shape fd = record { descriptors = 1; last_opened = record { 0 = fd }; shape = shape; last_append = None }
opened_again (Some f) shape fd = record f { descriptors = suc f.descriptors; last_opened = record { 0 = fd } }

abbrev pub files_after_open : Table OpenFile → ℕ → Shape → ℕ → Table OpenFile
files_after_open files file shape fd = table.insert files file (opened_again (table.get files file) shape fd)

abbrev pub with_one_closed : Table OpenFile → ℕ → Option OpenFile → Table OpenFile
with_one_closed files file None = files
with_one_closed files file (Some f) = if nat_le f.descriptors 1 then table.remove files file else table.insert files file (record f { descriptors = f.descriptors - 1 })

-- one descriptor of the file is closed, and with its last one the file
abbrev pub files_after_close : Table OpenFile → ℕ → Table OpenFile
files_after_close files file = with_one_closed files file (table.get files file)

abbrev pub last_append_of : Option OpenFile → Option ℕ
last_append_of None = None
last_append_of (Some f) = f.last_append

-- the index at which the last append to the file succeeded
abbrev pub last_append : Table OpenFile → ℕ → Option ℕ
last_append files file = last_append_of (table.get files file)

abbrev pub with_append_of : Table OpenFile → ℕ → Option ℕ → Option OpenFile → Table OpenFile
with_append_of files file index None = files
with_append_of files file index (Some f) = table.insert files file (record f { last_append = index })

abbrev pub with_last_append : Table OpenFile → ℕ → Option ℕ → Table OpenFile
with_last_append files file index = with_append_of files file index (table.get files file)
