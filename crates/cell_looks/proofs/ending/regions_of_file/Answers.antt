use Rattle.std.proofs.Common.{map, ap}
use Rattle.std.proofs.lemmas.Result.{IfOk-weaker}
use Rattle.cell_looks.proofs.EndedWorlds.{told_file, told_none}
use Rattle.cell_looks.proofs.ending.regions_of_file.Goals as goal

pub returns-in-Some : goal.returns-in-Some
returns-in-Some c =
    let p = c.in_ok-looks.looks in
    let found = c.in_ok-looks.ensures.world in
    IfOk-weaker c.all_regions.result _ _
    (λ all are. told_file p c.args.parked.now.journal c.args.path.now found.0 found.1 c.in_ok-looks.ensures.journal c.in-Some.file (map (λ v. v.items) all.items) (c.in-Some.ensures found.0 found.1) (are found.0 found.1))
    c.all_regions.ensures.regions

pub returns : goal.returns
returns c =
    let p = c.in_ok-looks.looks in
    let found = c.in_ok-looks.ensures.world in
    told_none p c.args.parked.now.journal c.args.path.now found.0 found.1 c.in_ok-looks.ensures.journal (map (λ v. v.items) c.new.result.items) (c.in-None.ensures found.0 found.1) (ap (map (λ v. v.items)) c.new.ensures.items)
