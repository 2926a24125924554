use Rattle.std.proofs.Common.{◌≡◌, drop}
use Rattle.relaxed_file.specs.Names.{with_copies}
use Rattle.snapshot.specs.Copies.{with_all_shared, may_share_all}
use Rattle.snapshot.proofs.commit.put_copies.Given as goal

-- what is left completes the snapshot
abbrev pub invariant-loop-copy : goal.invariant-loop-copy
invariant-loop-copy g l = record {
  names : with_copies l.names l.table.next_file (drop l.copy-index l.copies) ≡ with_copies l.initial.names l.initial.table.next_file l.copies;
  table : with_all_shared l.table (drop l.copy-index l.copies) ≡ with_all_shared l.initial.table l.copies;
  allowed : may_share_all l.table (drop l.copy-index l.copies) ≡ may_share_all l.initial.table l.copies;
}
