use Rattle.std.proofs.Common.{sym, ap, ◌∙◌}
use Rattle.protocol.specs.Master.{MasterState}
use Rattle.memory_nodes.specs.MasterSlots.{SlotState}
use Rattle.memory_nodes.proofs.MasterSlots.{held_is, not_held}
use Rattle.memory_nodes.proofs.master_slot.MasterSlotCellMaster.is_up.Goals as goal

pub returns-in-Some : goal.returns-in-Some
returns-in-Some g c =
    let i = c.self.inside in
    c.is_up.ensures ∙ sym (ap (λ (m : MasterState). m.up) (held_is i.config i.server_count i.master _ i.log i.before.items c.in-Some.is)) ∙ ap (λ (s : SlotState). s.state.up) c.self.view_is

pub returns-in-None : goal.returns-in-None
returns-in-None g c =
    let i = c.self.inside in
    sym (not_held i.config i.server_count i.master i.log i.before.items c.in-None.is) ∙ ap (λ (s : SlotState). s.state.up) c.self.view_is
