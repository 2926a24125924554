use Rattle.std.proofs.Common.{ap, ◌∙◌}
use Rattle.std.specs.Prelude.{map}
use Rattle.std.specs.List.{filter_map}
use Rattle.protocol.specs.Lookups.{stored_on}
use Rattle.cell_world.specs.AsStored.{as_stored}
use Rattle.cell_looks.specs.Looks.{LooksState}
use Rattle.cell_looks.proofs.Servers.{stored_alike}
use Rattle.cell_looks.proofs.Told.{told_replicas, told_no_replicas}
use Rattle.cell_looks.specs.declared.look_fault.LookFault.TheVariants.{NoMemory}
use Rattle.cell_looks.proofs.Handing.{handed_on}
use Rattle.cell_looks.proofs.looks.Looks.replicas.Goals as goal

pub returns-in_default-clause-replicas : goal.returns-in_default-clause-replicas
returns-in_default-clause-replicas c = told_no_replicas c.args.self.now c.args.file.0 c.args.index c.in_ok-found.found c.in_ok-found.ensures.up c.in_ok-found.ensures.handle c.in_default.is

pub returns-clause-replicas : goal.returns-clause-replicas
returns-clause-replicas c =
    told_replicas c.args.self.now c.args.file.0 c.args.index c.in_ok-found.found c.in_ok-found.ensures.up c.in_ok-found.ensures.handle c.in-Some.handle (map as_stored c.in_ok-replicas.replicas.items) c.in-Some.is
    (c.in_ok-replicas.ensures ∙ stored_alike c.as_slice.ensures.value (λ s. s.now) c.in-Some.handle.0
    ∙ ap (λ (p : LooksState). filter_map (stored_on c.in-Some.handle.0) p.servers) c.self.view_is)

pub returns-in_err-replicas-clause-fault : goal.returns-in_err-replicas-clause-fault
returns-in_err-replicas-clause-fault c = handed_on c.from_residual-in_err-replicas.result _ NoMemory c.from_residual-in_err-replicas.ensures.1 tt
