use Rattle.std.proofs.Common.{◌≡◌, ℕ, List, true, ap, ◌∙◌}
use Rattle.std.specs.Prelude.{option_map, option_and_then}
use Rattle.std.specs.FinMap as table
use Rattle.protocol.specs.Sending.{handle_of}
use Rattle.protocol.specs.Tables.{Table, element_at}
use Rattle.memory_nodes.specs.MasterSlots.{SlotState, slot_state}
use Rattle.memory_nodes.proofs.master_slot.MasterSlot.current_handle_at.Goals as goal

pub returns : goal.returns
returns g c =
    let i = c.self.inside in
    let up : (slot_state i.config i.server_count i.master i.log i.before.items).up ≡ true = ap (λ (s : SlotState). s.state.up) c.self.view_is ∙ c.requires in
    let files = c.self.invariant.4 up ∙ ap (λ (s : SlotState). s.state.logged.table.files) c.self.view_is in
    c.handle_in.ensures
    ∙ ap (λ (t : Table (List ℕ)). option_map handle_of (option_and_then (λ handles. element_at handles c.args.index) (table.get t c.args.file.0))) files
