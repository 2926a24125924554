use Rattle.std.proofs.Common.{◌≡◌, [], false, true, refl, sym, ap, ◌∙◌, subst}
use Rattle.protocol.specs.Master.{MasterState, stopped_master}
use Rattle.memory_nodes.specs.MasterSlots.{IsMasterOf, SlotState}
use Rattle.memory_nodes.proofs.MasterSlots.{held_is, still_of, up_held}
use Rattle.memory_nodes.proofs.master_slot.MasterSlotCellMaster.stop.Goals as goal

pub stop-requires : goal.stop-requires
stop-requires g c =
    let i = c.self.inside in
    ap (λ (m : MasterState). m.up) (sym (held_is i.config i.server_count i.master _ i.log i.before.items c.in-Some.is) ∙ ap (λ (s : SlotState). s.state) c.self.view_is) ∙ c.requires

pub returns-clause-state : goal.returns-clause-state
returns-clause-state g c =
    let i = c.self.inside in
    c.stop.ensures.state ∙ ap (λ (m : MasterState). stopped_master m m.disk []) (sym (held_is i.config i.server_count i.master _ i.log i.before.items c.in-Some.is) ∙ ap (λ (s : SlotState). s.state) c.self.view_is)

pub returns-clause-files : goal.returns-clause-files
returns-clause-files g c = ap (λ (s : SlotState). s.files) c.self.view_is

pub returns-in_default-clause-state : goal.returns-in_default-clause-state
returns-in_default-clause-state g c =
    let i = c.self.inside in
    up_held i.config i.server_count i.master i.log i.before.items c.args.self.now.state c.in_default.is (ap (λ (s : SlotState). s.state) c.self.view_is) c.requires

pub returns-in_default-clause-files : goal.returns-in_default-clause-files
returns-in_default-clause-files g c = ap (λ (s : SlotState). s.files) c.self.view_is

pub invariant_of-self : goal.invariant_of-self
invariant_of-self g c = c.self.invariant

pub invariant_of-self-2 : goal.invariant_of-self-2
invariant_of-self-2 g c =
    let i = c.self.inside in
    let of = subst (IsMasterOf i.config i.server_count) (held_is i.config i.server_count i.master _ i.log i.before.items c.in-Some.is) c.self.invariant.2 in (
      c.self.invariant.0,
      c.self.invariant.1,
      still_of i.config i.server_count _ c.stop.new.self.state of (ap (λ (m : MasterState). m.config) c.stop.ensures.state, ap (λ (m : MasterState). m.server_count) c.stop.ensures.state),
      tt,
      λ up. let both : false ≡ true = sym (ap (λ (m : MasterState). m.up) c.stop.ensures.state) ∙ up in absurd cc,
    )
