use Rattle.std.proofs.Common.{sym, ap, ◌∙◌, subst}
use Rattle.server_handlers.specs.Standing.{HeldServerState}
use Rattle.server_cell.specs.Settings.{IsServerOf}
use Rattle.server_cell.proofs.Slots.{held_is}
use Rattle.server_cell.proofs.server_slot.ServerSlot.fuse.Goals as goal

pub invariant_of-self-in-Some : goal.invariant_of-self-in-Some
invariant_of-self-in-Some c =
    let i = c.self.inside in
    (c.self.invariant.0, subst (IsServerOf i.config i.id.0) (held_is i.config i.id.0 i.server _ i.before.items c.in-Some.is ∙ sym (ap (λ (s : HeldServerState). s.state) c.arm.ensures)) c.self.invariant.1, tt)

pub returns-in-Some : goal.returns-in-Some
returns-in-Some c =
    let i = c.self.inside in
    ap (λ (s : HeldServerState). s.state) c.arm.ensures ∙ sym (held_is i.config i.id.0 i.server _ i.before.items c.in-Some.is) ∙ c.self.view_is
