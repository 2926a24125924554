-- Of the nodes of a new cell nothing was written, and of each something may be.
use Rattle.std.proofs.Common.{◌≡◌, ℕ, zero, suc, ◌-◌, false, List, [], refl, ap, ◌∙◌}
use Rattle.std.specs.Prelude.{Bool, replicate, get_or}
use Rattle.gfs_types.specs.declared.ids.Node.{Node}
use Rattle.gfs_types.specs.declared.ids.Node.TheVariants as node
use Rattle.protocol_journal.specs.Journal.{Entry, own}
use Rattle.cell_journal.specs.Identity.{Identity}
use Rattle.cell_journal.specs.WholeHistories.{is_retired}
use Rattle.cell_run.specs.Cells.{IsFresh}

pub no_flag : (count k : ℕ) → get_or (replicate count false) k false ≡ false
no_flag zero k = refl
no_flag (suc count) zero = refl
no_flag (suc count) (suc k) = no_flag count k

none_retired : (cell : Identity) (n : Node) → cell.retired ≡ replicate 64 false → is_retired cell n ≡ false
none_retired cell node.Master is = refl
none_retired cell (node.Server s) is = refl
none_retired cell (node.Client c) is = ap (λ (flags : List Bool). get_or flags (c.0 - 1) false) is ∙ no_flag 64 (c.0 - 1)

pub all_fresh : (cell : Identity) (n : Node) → cell.base ≡ [] → cell.retired ≡ replicate 64 false → IsFresh cell n
all_fresh cell n base retired = (ap (λ (es : List Entry). own n es) base, none_retired cell n retired)
