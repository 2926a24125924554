use Rattle.std.proofs.Common.{◌≡◌, map, take}
use Rattle.protocol.specs.MasterVersions.{holder_line}
use Rattle.master_chunks.proofs.held.holder_lines.Given as goal

abbrev pub invariant-loop-holder : goal.invariant-loop-holder
invariant-loop-holder l = l.lines ≡ map holder_line (take l.holder-index l.holders)
