use Rattle.std.proofs.Common.{ap, ◌∙◌, Err}
use Rattle.store_changes.specs.declared.fault.StoreFault.{StoreFault}
use Rattle.disk_store.proofs.Causes.{change_has_room, look_cause}
use Rattle.disk_store.proofs.looking.read.Goals as goal

pub returns-in-Ok-clause-value : goal.returns-in-Ok-clause-value
returns-in-Ok-clause-value g c d is = c.in-Ok.ensures.ok d is

pub returns-in_default-clause-no_room : goal.returns-in_default-clause-no_room
returns-in_default-clause-no_room g c e = change_has_room c.in-Err.fault c.fault_of.result c.fault_of.ensures (λ same. c.read.ensures.no_room (c.in-Err.is ∙ ap (λ (x : StoreFault). Err x) same)) e

pub returns-in_default-clause-cause : goal.returns-in_default-clause-cause
returns-in_default-clause-cause g c d row is at same =
    let known = c.in-Err.ensures in
    look_cause _ _ d c.args.handle.0 c.args.version row c.in-Err.fault c.fault_of.result c.fault_of.ensures (known.no_chunk d is) (known.version d is) known.no_serial c.in_default.not-Corrupt at same known.cause
