use Rattle.std.proofs.Common.{◌≡◌, true, sym, ap, ◌∙◌, subst}
use Rattle.protocol.specs.Master.{MasterState}
use Rattle.master_cell.specs.Shown.{shown_in}
use Rattle.master_cell.specs.Standing.{LoggedMasterState}
use Rattle.memory_nodes.specs.MasterSlots.{IsMasterOf, SlotState}
use Rattle.memory_nodes.proofs.MasterSlots.{held_is}
use Rattle.memory_nodes.proofs.master_slot.MasterSlotStoppableMaster.fuse.Goals as goal

pub returns-then-not-is_up-clause-state : goal.returns-then-not-is_up-clause-state
returns-then-not-is_up-clause-state g c = ap (λ (s : SlotState). s.state) c.self.view_is

pub returns-then-not-is_up-clause-files : goal.returns-then-not-is_up-clause-files
returns-then-not-is_up-clause-files g c = ap (λ (s : SlotState). s.files) c.self.view_is

pub invariant_of-self-in-Some : goal.invariant_of-self-in-Some
invariant_of-self-in-Some g c =
    let i = c.self.inside in
    let same = held_is i.config i.server_count i.master _ i.log i.before.items c.in-Some.is ∙ sym (ap (λ (m : LoggedMasterState). m.state) c.arm.ensures) in (
      c.self.invariant.0,
      c.self.invariant.1,
      subst (IsMasterOf i.config i.server_count) same c.self.invariant.2,
      tt,
      subst (λ (m : MasterState). m.up ≡ true → shown_in i.files ≡ m.logged.table.files) same c.self.invariant.4,
    )

pub returns-in-Some-clause-state : goal.returns-in-Some-clause-state
returns-in-Some-clause-state g c =
    let i = c.self.inside in
    ap (λ (m : LoggedMasterState). m.state) c.arm.ensures ∙ sym (held_is i.config i.server_count i.master _ i.log i.before.items c.in-Some.is) ∙ ap (λ (s : SlotState). s.state) c.self.view_is

pub returns-in-Some-clause-files : goal.returns-in-Some-clause-files
returns-in-Some-clause-files g c = ap (λ (s : SlotState). s.files) c.self.view_is
