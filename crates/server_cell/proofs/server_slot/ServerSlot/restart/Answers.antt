use Rattle.std.proofs.Common.{refl, sym, ap, ◌∙◌}
use Rattle.disk.specs.Writes.{LeftBy}
use Rattle.protocol.specs.Server.{ServerState}
use Rattle.server_cell.specs.Slots.{slot_state}
use Rattle.server_cell.proofs.Slots.{disk_kept, found_again, left_again, left_down, of_stopped, opened_again, opened_of}
use Rattle.server_cell.proofs.Steps.{stays_down_so}
use Rattle.server_cell.proofs.server_slot.ServerSlot.restart.Goals as goal

pub returns-in_default : goal.returns-in_default
returns-in_default c = stays_down_so c.args.self.now c.args.self.now c.args.now.0 c.down_output.result c.take_disk.new.self c.down_output.ensures refl c.take_disk.ensures.down

pub open-requires-clause-holds : goal.open-requires-clause-holds
open-requires-clause-holds c =
    let i = c.self.inside in
    let s = c.args.self.now in
    let h = of_stopped i.config i.id.0 s (slot_state i.config i.id.0 i.server i.before.items) (c.self.view_is ∙ c.take_disk.ensures.down) c.self.invariant.1 in
    let f = found_again i.config i.id.0 s h (LeftBy c.in-Some.disk.disk) c.restart-disk.result.disk.bytes c.in-Some.ensures.left c.restart-disk.ensures.lawful in
    (f.disk, f.holds)

pub returns-in-Ok : goal.returns-in-Ok
returns-in-Ok c =
    let i = c.self.inside in
    let s = c.args.self.now in
    let h = of_stopped i.config i.id.0 s (slot_state i.config i.id.0 i.server i.before.items) (c.self.view_is ∙ c.take_disk.ensures.down) c.self.invariant.1 in
    let bytes = c.restart-disk.result.disk.bytes in
    let f = found_again i.config i.id.0 s h (LeftBy c.in-Some.disk.disk) bytes c.in-Some.ensures.left c.restart-disk.ensures.lawful in
    opened_again i.config i.id.0 s h c.args.now.0 c.no_output.result c.in-Ok.server.state bytes c.no_output.ensures f (c.in-Ok.ensures.opened f.disk f.holds)

pub invariant_of-self : goal.invariant_of-self
invariant_of-self c =
    let i = c.self.inside in
    let s = c.args.self.now in
    let h = of_stopped i.config i.id.0 s (slot_state i.config i.id.0 i.server i.before.items) (c.self.view_is ∙ c.take_disk.ensures.down) c.self.invariant.1 in
    let bytes = c.restart-disk.result.disk.bytes in
    let f = found_again i.config i.id.0 s h (LeftBy c.in-Some.disk.disk) bytes c.in-Some.ensures.left c.restart-disk.ensures.lawful in
    (c.self.invariant.0, opened_of i.config i.id.0 c.args.now.0 bytes f.disk c.in-Ok.server.state f.holds (c.in-Ok.ensures.opened f.disk f.holds), tt)

pub returns-in-Err : goal.returns-in-Err
returns-in-Err c = stays_down_so c.args.self.now c.args.self.now c.args.now.0 c.down_output-in-Err.result _ c.down_output-in-Err.ensures refl (c.self.view_is ∙ c.take_disk.ensures.down)

pub invariant_of-self-in-Err : goal.invariant_of-self-in-Err
invariant_of-self-in-Err c =
    let i = c.self.inside in
    let s = c.args.self.now in
    let now : ServerState = slot_state i.config i.id.0 i.server i.before.items in
    let down = c.self.view_is ∙ c.take_disk.ensures.down in
    let h = of_stopped i.config i.id.0 s now down c.self.invariant.1 in
    let old = c.restart-disk.result in
    let f = found_again i.config i.id.0 s h (LeftBy c.in-Some.disk.disk) old.disk.bytes c.in-Some.ensures.left c.restart-disk.ensures.lawful in
    let left = left_again i.config i.id.0 s h old c.in-Err.disk f c.restart-disk.ensures.durable c.in-Err.ensures.any_moment_of_error in
    (c.self.invariant.0, c.self.invariant.1, disk_kept i.config i.id.0 i.before.items i.server c.in-Err.disk now refl (left_down c.in-Err.disk s now down left))
