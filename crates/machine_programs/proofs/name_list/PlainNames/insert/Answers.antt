use Rattle.std.proofs.Common.{◌≡◌, OnOk, subst}
use Rattle.std.specs.FinMap as map
use Rattle.relaxed_file.specs.Names.{Node}
use Rattle.gfs_types.specs.Paths.{Path}
use Rattle.machine_programs.proofs.Sorted.{names_of, names_after, sorted_after}
use Rattle.machine_programs.proofs.name_list.PlainNames.insert.Goals as goal

pub invariant_of-self : goal.invariant_of-self
invariant_of-self c = sorted_after c.put.result c.new.result.0 c.new.result.1 c.self.inside.names.items c.put.new.names.items c.self.invariant c.put.ensures.ok c.put.ensures.err

pub returns : goal.returns
returns c =
    subst (λ (e : Path × Node). OnOk c.put.result (names_of c.put.new.names.items ≡ map.insert c.args.self.now e.0 e.1)) c.new.ensures
    (names_after c.put.result c.new.result.0 c.new.result.1 c.self.inside.names.items c.put.new.names.items c.args.self.now c.self.view_is c.put.ensures.ok)
