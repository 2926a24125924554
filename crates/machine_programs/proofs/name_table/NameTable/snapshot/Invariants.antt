use Rattle.std.proofs.Common.{◌≡◌, drop}
use Rattle.relaxed_file.specs.Names.{copied_entries}
use Rattle.machine_programs.specs.NameTables.{with_all_copies}
use Rattle.machine_programs.proofs.name_table.NameTable.snapshot.Given as goal

-- the copies that are left complete the names
abbrev pub invariant-loop-copy : goal.invariant-loop-copy
invariant-loop-copy l = with_all_copies l.self (drop l.copy-index l.copy-items) ≡ with_all_copies l.fn.self (copied_entries l.fn.self.names l.fn.path l.fn.to)
