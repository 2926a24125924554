use Rattle.std.proofs.Common.{sym, ap, ◌∙◌}
use Rattle.std.specs.Prelude.{option_map}
use Rattle.protocol.specs.Master.{MasterState}
use Rattle.protocol.specs.Sending.{file_id}
use Rattle.cell_world.specs.FileNames.{file_in}
use Rattle.memory_nodes.specs.MasterSlots.{SlotState}
use Rattle.memory_nodes.proofs.MasterSlots.{held_is, names_none, not_held}
use Rattle.memory_nodes.proofs.master_slot.MasterSlotCellMaster.file.Goals as goal

pub returns-in-Some : goal.returns-in-Some
returns-in-Some g c =
    let i = c.self.inside in
    c.file_of.ensures ∙ ap (λ (m : MasterState). option_map file_id (file_in m c.args.path.now)) (sym (held_is i.config i.server_count i.master _ i.log i.before.items c.in-Some.is) ∙ ap (λ (s : SlotState). s.state) c.self.view_is)

pub returns-in-None : goal.returns-in-None
returns-in-None g c =
    let i = c.self.inside in
    names_none c.args.self.now.state c.args.path.now (ap (λ (s : SlotState). s.state.up) (sym c.self.view_is) ∙ not_held i.config i.server_count i.master i.log i.before.items c.in-None.is)
