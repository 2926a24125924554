use Rattle.std.proofs.Common.{subst}
use Rattle.std.specs.Prelude.{Option}
use Rattle.gfs_types.specs.declared.call.Call.{Call}
use Rattle.protocol_journal.specs.Journal.{Calls}
use Rattle.cell_seats.specs.Slots.{IsCopyOf}
use Rattle.running_nodes.proofs.Stepping.{called_so, copy_is}
use Rattle.running_nodes.proofs.client_stepper.calls.Goals as goal

pub returns-clause-steps : goal.returns-clause-steps
returns-clause-steps c =
    called_so c.args.client.now c.take_call-out.new.self c.with_copy.new.client c.config-config.result c.id-id.result c.args.now.0 c.args.asked.now c.in-Some.call c.take_call-out.result c.with_copy.result.out
    c.config-config.ensures.value c.id-id.ensures (copy_is c.args.asked.now c.args.copy c.in-Some.call c.in-Some.is c.requires) c.take_call-out.ensures c.with_copy.ensures.step

pub unreachable-requires : goal.unreachable-requires
unreachable-requires c = subst (λ (o : Option Call). IsCopyOf (Calls c.args.asked.now) o) c.in-None.is c.requires
