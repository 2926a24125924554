use Rattle.std.proofs.Common.{◌≡◌, ◌≤◌, ℕ, false, true, length, refl, sym, ap, ◌∙◌, subst}
use Rattle.disk.specs.Failing.{FuseState}
use Rattle.disk.specs.Writes.{LeftBy}
use Rattle.stored_log.specs.Kept.{IsDiskSize, LeavesDecided}
use Rattle.protocol.specs.Master.{MasterState, stopped_master}
use Rattle.master_cell.specs.Opens.{down_over}
use Rattle.master_cell.specs.Shown.{shown_in}
use Rattle.memory_nodes.specs.MasterSlots.{SlotState, slot_state}
use Rattle.memory_nodes.proofs.MasterSlots.{begun_left, disk_kept, files_stay, is_disk_size, is_down_again, is_left_again, is_up_again, not_again, of_stopped, opened_decided, unopened_left, up_files, up_of}
use Rattle.memory_nodes.proofs.master_slot.MasterSlotRestartedMaster.restart.Goals as goal

-- The names of the branches are guesses: no disk `in_default`, another size `then-not-is_log_size`, no log `in-Err`, no names `in_default-clone`, the master `in-Ok-open` or `in-Err-open`.

abbrev stopped : MasterState → MasterState
stopped m = stopped_master m m.disk m.under_way

pub returns-in_default-clause-steps : goal.returns-in_default-clause-steps
returns-in_default-clause-steps g c = not_again c.args.self.now.state c.take_disk.new.self.state c.args.now.0 c.down_output.result c.down_output.ensures (ap (λ (s : SlotState). s.state) c.take_disk.ensures.down)

pub returns-in_default-clause-files : goal.returns-in_default-clause-files
returns-in_default-clause-files g c =
    let down = c.take_disk.ensures.down in
    ap (λ (s : SlotState). s.files) down ∙ files_stay c.take_disk.new.self.state c.args.self.now.files (ap (λ (s : SlotState). s.state.up) down)

-- another size
pub invariant_of-self : goal.invariant_of-self
invariant_of-self g c =
    let i = c.self.inside in
    let m = c.args.self.now.state in
    let now : MasterState = slot_state i.config i.server_count i.master i.log i.before.items in
    let is : now ≡ stopped m = ap (λ (s : SlotState). s.state) (c.self.view_is ∙ c.take_disk.ensures.down) in
    let left = begun_left c.in-Some.disk c.restart-disk.result m.disk m.under_way c.in-Some.ensures.left c.restart-disk.ensures.lawful c.restart-disk.ensures.durable in
    let here = subst (λ (x : MasterState). LeavesDecided (λ (d : FuseState). LeftBy d.disk) c.restart-disk.result x.disk x.under_way) (sym is) left in
    (c.self.invariant.0, c.self.invariant.1, c.self.invariant.2, disk_kept i.config i.server_count i.before.items i.master i.log c.restart-disk.result now refl here, c.self.invariant.4)

pub returns-then-not-is_log_size-clause-steps : goal.returns-then-not-is_log_size-clause-steps
returns-then-not-is_log_size-clause-steps g c =
    not_again c.args.self.now.state _ c.args.now.0 c.down_output-then-not-is_log_size.result c.down_output-then-not-is_log_size.ensures (ap (λ (s : SlotState). s.state) (c.self.view_is ∙ c.take_disk.ensures.down))

pub returns-then-not-is_log_size-clause-files : goal.returns-then-not-is_log_size-clause-files
returns-then-not-is_log_size-clause-files g c =
    let i = c.self.inside in
    let down = c.self.view_is ∙ c.take_disk.ensures.down in
    ap (λ (s : SlotState). s.files) down ∙ files_stay (slot_state i.config i.server_count i.master i.log i.before.items) c.args.self.now.files (ap (λ (s : SlotState). s.state.up) down)

pub open-requires : goal.open-requires
open-requires g c = subst IsDiskSize c.size.ensures (is_disk_size c.is_log_size.result c.size.result c.is_log_size.ensures c.if-not-is_log_size.false)

-- no log
pub invariant_of-self-in-Err : goal.invariant_of-self-in-Err
invariant_of-self-in-Err g c =
    let i = c.self.inside in
    let m = c.args.self.now.state in
    let now : MasterState = slot_state i.config i.server_count i.master i.log i.before.items in
    let is : now ≡ stopped m = ap (λ (s : SlotState). s.state) (c.self.view_is ∙ c.take_disk.ensures.down) in
    let left = unopened_left c.in-Some.disk c.restart-disk.result c.in-Err.disk m.disk m.under_way c.in-Some.ensures.left c.restart-disk.ensures.lawful c.restart-disk.ensures.durable c.in-Err.ensures.any_moment_of_error in
    let here = subst (λ (x : MasterState). LeavesDecided (λ (d : FuseState). LeftBy d.disk) c.in-Err.disk x.disk x.under_way) (sym is) left in
    (c.self.invariant.0, c.self.invariant.1, c.self.invariant.2, disk_kept i.config i.server_count i.before.items i.master i.log c.in-Err.disk now refl here, c.self.invariant.4)

pub returns-in-Err-clause-steps : goal.returns-in-Err-clause-steps
returns-in-Err-clause-steps g c =
    not_again c.args.self.now.state _ c.args.now.0 c.down_output-in-Err.result c.down_output-in-Err.ensures (ap (λ (s : SlotState). s.state) (c.self.view_is ∙ c.take_disk.ensures.down))

pub returns-in-Err-clause-files : goal.returns-in-Err-clause-files
returns-in-Err-clause-files g c =
    let i = c.self.inside in
    let down = c.self.view_is ∙ c.take_disk.ensures.down in
    ap (λ (s : SlotState). s.files) down ∙ files_stay (slot_state i.config i.server_count i.master i.log i.before.items) c.args.self.now.files (ap (λ (s : SlotState). s.state.up) down)

-- no names
pub invariant_of-self-in_default-clone : goal.invariant_of-self-in_default-clone
invariant_of-self-in_default-clone g c =
    (c.self.invariant.0, c.self.invariant.1, record { config_is = refl; count_is = refl }, tt, λ up. absurd cc)

pub returns-in_default-clone-clause-steps : goal.returns-in_default-clone-clause-steps
returns-in_default-clone-clause-steps g c =
    let i = c.self.inside in
    let m = c.args.self.now.state in
    let now : MasterState = slot_state i.config i.server_count i.master i.log i.before.items in
    let of = of_stopped i.config i.server_count m now (ap (λ (s : SlotState). s.state) (c.self.view_is ∙ c.take_disk.ensures.down)) c.self.invariant.2 in
    let size = subst IsDiskSize c.size.ensures (is_disk_size c.is_log_size.result c.size.result c.is_log_size.ensures c.if-not-is_log_size.false) in
    let decided = opened_decided c.in-Some.disk c.restart-disk.result.disk.bytes m c.in-Ok.log size.0 c.in-Some.ensures.left c.restart-disk.ensures.lawful c.in-Ok.ensures.opened in
    is_left_again i.config i.server_count m of c.args.now.0 c.in-Ok.log decided c.in-Ok.ensures.decided c.down_output-in_default-clone.result c.down_output-in_default-clone.ensures

pub returns-in_default-clone-clause-files : goal.returns-in_default-clone-clause-files
returns-in_default-clone-clause-files g c =
    let i = c.self.inside in
    ap (λ (s : SlotState). s.files) (c.self.view_is ∙ c.take_disk.ensures.down) ∙ files_stay (down_over i.config i.server_count c.in-Ok.log.disk c.in-Ok.log.under_way) c.args.self.now.files refl

-- the master is up
pub invariant_of-self-in-Ok-open : goal.invariant_of-self-in-Ok-open
invariant_of-self-in-Ok-open g c =
    let i = c.self.inside in
    (c.self.invariant.0, c.self.invariant.1, up_of i.config i.server_count c.args.now.0 c.in-Ok.log.disk c.in-Ok-open.master.state c.in-Ok-open.ensures.opens, tt, λ up. c.in-Ok-open.ensures.files)

pub returns-in-Ok-open-clause-steps : goal.returns-in-Ok-open-clause-steps
returns-in-Ok-open-clause-steps g c =
    let i = c.self.inside in
    let m = c.args.self.now.state in
    let now : MasterState = slot_state i.config i.server_count i.master i.log i.before.items in
    let of = of_stopped i.config i.server_count m now (ap (λ (s : SlotState). s.state) (c.self.view_is ∙ c.take_disk.ensures.down)) c.self.invariant.2 in
    let size = subst IsDiskSize c.size.ensures (is_disk_size c.is_log_size.result c.size.result c.is_log_size.ensures c.if-not-is_log_size.false) in
    let decided = opened_decided c.in-Some.disk c.restart-disk.result.disk.bytes m c.in-Ok.log size.0 c.in-Some.ensures.left c.restart-disk.ensures.lawful c.in-Ok.ensures.opened in
    is_up_again i.config i.server_count m of c.args.now.0 c.in-Ok.log decided c.in-Ok.ensures.decided c.no_output.result c.in-Ok-open.master.state c.no_output.ensures c.in-Ok-open.ensures.opens

pub returns-in-Ok-open-clause-files : goal.returns-in-Ok-open-clause-files
returns-in-Ok-open-clause-files g c = up_files c.in-Ok-open.master.state _ c.args.self.now.files c.in-Ok-open.ensures.opens.is_up c.in-Ok-open.ensures.files

-- or down
pub invariant_of-self-in-Err-open : goal.invariant_of-self-in-Err-open
invariant_of-self-in-Err-open g c =
    (c.self.invariant.0, c.self.invariant.1, record { config_is = refl; count_is = refl }, tt, λ up. absurd cc)

pub returns-in-Err-open-clause-steps : goal.returns-in-Err-open-clause-steps
returns-in-Err-open-clause-steps g c =
    let i = c.self.inside in
    let m = c.args.self.now.state in
    let now : MasterState = slot_state i.config i.server_count i.master i.log i.before.items in
    let of = of_stopped i.config i.server_count m now (ap (λ (s : SlotState). s.state) (c.self.view_is ∙ c.take_disk.ensures.down)) c.self.invariant.2 in
    let size = subst IsDiskSize c.size.ensures (is_disk_size c.is_log_size.result c.size.result c.is_log_size.ensures c.if-not-is_log_size.false) in
    let decided = opened_decided c.in-Some.disk c.restart-disk.result.disk.bytes m c.in-Ok.log size.0 c.in-Some.ensures.left c.restart-disk.ensures.lawful c.in-Ok.ensures.opened in
    is_down_again i.config i.server_count m of c.args.now.0 c.in-Ok.log decided c.in-Ok.ensures.decided c.down_output-in-Err-open.result c.in-Err-open.log c.down_output-in-Err-open.ensures c.in-Err-open.ensures.fails

pub returns-in-Err-open-clause-files : goal.returns-in-Err-open-clause-files
returns-in-Err-open-clause-files g c =
    let i = c.self.inside in
    let old = ap (λ (s : SlotState). s.files) (c.self.view_is ∙ c.take_disk.ensures.down) in
    c.in-Err-open.ensures.files_of_error ∙ old ∙ files_stay (down_over i.config i.server_count c.in-Err-open.log.disk c.in-Err-open.log.under_way) c.args.self.now.files refl
