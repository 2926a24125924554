use Rattle.std.proofs.Common.{◌≡◌, ◌-◌, drop, length, map as mapped}
use Rattle.std.specs.FinMap as map
use Rattle.disk_store.specs.Known.{entry_of}
use Rattle.disk_store.proofs.known.rows_in.Given as goal

abbrev pub invariant-loop-done : goal.invariant-loop-done
invariant-loop-done l = l.rows ≡ map.from_entries (mapped entry_of (drop (length l.list - l.done) l.list))
