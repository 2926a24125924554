use Rattle.std.proofs.Common.{refl, ap, ◌∙◌, sym}
use Rattle.protocol.specs.Master.{MasterState}
use Rattle.memory_nodes.proofs.Files.{shown_first}
use Rattle.memory_nodes.proofs.master_slot.MasterSlot.new.Goals as goal

pub invariant_of-result : goal.invariant_of-result
invariant_of-result g c = (
  c.requires.lease,
  c.requires.skew,
  record { config_is = ap (λ (m : MasterState). m.config) c.in-Ok-new.ensures; count_is = ap (λ (m : MasterState). m.server_count) c.in-Ok-new.ensures },
  tt,
  λ _. shown_first c.args.config c.args.server_count c.in-Ok-new.master.state _ c.in-Ok-new.ensures c.new-files.ensures,
)
