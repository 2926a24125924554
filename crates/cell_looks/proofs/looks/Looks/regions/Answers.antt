use Rattle.cell_looks.proofs.Told.{told_regions, told_no_regions}
use Rattle.cell_looks.specs.declared.look_fault.LookFault.TheVariants.{NoMemory}
use Rattle.cell_looks.proofs.Handing.{handed_on}
use Rattle.cell_looks.proofs.looks.Looks.regions.Goals as goal

pub returns-in_default-clause-regions : goal.returns-in_default-clause-regions
returns-in_default-clause-regions c = told_no_regions c.args.self.now c.args.file.0 c.args.index c.in_ok-found.found c.in_ok-found.ensures.up c.in_ok-found.ensures.handle c.in_default.is

pub returns-clause-regions : goal.returns-clause-regions
returns-clause-regions c =
    told_regions c.args.self.now c.args.file.0 c.args.index c.in_ok-found.found c.in_ok-found.ensures.up c.in_ok-found.ensures.handle c.in-Some.handle c.in_ok-regions.regions.items c.in_ok-sights.sights.now.seen c.in-Some.is
    c.in_ok-sights.ensures.sights c.in_ok-regions.ensures

pub returns-in_err-regions-clause-fault : goal.returns-in_err-regions-clause-fault
returns-in_err-regions-clause-fault c = handed_on c.from_residual-in_err-regions.result _ NoMemory c.from_residual-in_err-regions.ensures.1 tt
