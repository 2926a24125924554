use Rattle.std.proofs.Common.{map, sym, ap, ◌∙◌}
use Rattle.std.specs.Prelude.{option_map}
use Rattle.cell_looks.proofs.FileRegions.{regions_more, regions_whole}
use Rattle.cell_looks.specs.declared.look_fault.LookFault.TheVariants.{NoMemory}
use Rattle.cell_looks.proofs.Handing.{handed_on}
use Rattle.cell_looks.proofs.looks.Looks.all_regions.Goals as goal

pub loop-index-init : goal.loop-index-init
loop-index-init c = λ w of. ap (map (λ v. v.items)) c.new-all.ensures.items

pub loop-index-preserved : goal.loop-index-preserved
loop-index-preserved c = λ w of.
    regions_more w c.args.file.0 c.loop-index.index (map (λ v. v.items) c.loop-index.all.items) (map (λ v. v.items) c.keep.new.all.items) c.in-Some.regions.items c.in_ok-keep.ensures
    (sym (ap (option_map (λ v. v.items)) c.in-Some.is) ∙ c.in_ok-found.ensures.regions w of) (c.loop-index.invariant w of)

pub returns-in_default-clause-regions : goal.returns-in_default-clause-regions
returns-in_default-clause-regions c = λ w of.
    regions_whole w c.args.file.0 c.loop-index.index (map (λ v. v.items) c.loop-index.all.items) (sym (ap (option_map (λ v. v.items)) c.in_default.is) ∙ c.in_ok-found.ensures.regions w of) (c.loop-index.invariant w of)

pub returns-in_err-keep-clause-fault : goal.returns-in_err-keep-clause-fault
returns-in_err-keep-clause-fault c = handed_on c.from_residual-in_err-keep.result _ NoMemory c.from_residual-in_err-keep.ensures.1 tt
