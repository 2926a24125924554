use Rattle.std.proofs.Common.{sym, ap, subst, ◌∙◌}
use Rattle.std.proofs.lemmas.Result.{on_ok_weaker}
use Rattle.gfs_types.specs.declared.call.Call.{Call}
use Rattle.gfs_types.specs.declared.call.Call.TheVariants as call
use Rattle.machine_programs.specs.NameTables.{Performs}
use Rattle.machine_programs.proofs.name_table.NameTable.perform.Goals as goal

pub returns-in_ok-copy-in-Create : goal.returns-in_ok-copy-in-Create
returns-in_ok-copy-in-Create c =
    let shape = c.in-Create.field-1 in
    let called = ap (λ path. call.Create path shape) c.in_ok-copy-in-Create.ensures ∙ sym c.in-Create.is in
    on_ok_weaker c.create.result (λ h. subst (λ (x : Call). Performs c.args.self.now x c.args.moment c.create.new.self) called (h shape)) c.create.ensures
