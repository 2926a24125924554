use Rattle.std.proofs.Common.{◌≡◌, ◌≤◌, ◌++◌, length}
use Rattle.std.specs.List.{AllByRecursion}
use Rattle.log_codec.specs.Payloads.{IsWritable}
use Rattle.oplog.specs.Entries.{entries, IsEntry}
use Rattle.oplog.proofs.area_writing.put_entries.Given as goal

abbrev pub invariant-loop-first : goal.invariant-loop-first
invariant-loop-first l = record {
  writable : AllByRecursion IsWritable l.rest;
  bytes : l.out.items ++ entries l.rest ≡ l.fn.out.items ++ entries l.items;
  stand : AllByRecursion IsEntry l.rest → AllByRecursion IsEntry l.items;
  short : length (entries l.rest) ≤ length (entries l.items);
}

abbrev pub decreases-loop-first : goal.decreases-loop-first
decreases-loop-first l = length l.rest
