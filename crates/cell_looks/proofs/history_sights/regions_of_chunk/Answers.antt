use Rattle.std.proofs.Common.{◌∙◌}
use Rattle.cell_journal.specs.WholeHistories.{whole_of}
use Rattle.cell_looks.proofs.JournalOrders.{journal_regions}
use Rattle.cell_looks.specs.declared.look_fault.LookFault.TheVariants.{NoMemory}
use Rattle.cell_looks.proofs.Handing.{handed_on}
use Rattle.cell_looks.proofs.history_sights.regions_of_chunk.Goals as goal

pub returns-clause-regions : goal.returns-clause-regions
returns-clause-regions c =
    let j = c.args.journal.now.now in
    c.in_ok-regions.ensures ∙ journal_regions j.cell.config (whole_of j) c.in_ok-sights.sights.seen c.args.handle.0 c.in_ok-sights.ensures.seen

pub returns-in_err-regions-clause-fault : goal.returns-in_err-regions-clause-fault
returns-in_err-regions-clause-fault c = handed_on c.from_residual-in_err-regions.result _ NoMemory c.from_residual-in_err-regions.ensures.1 tt
