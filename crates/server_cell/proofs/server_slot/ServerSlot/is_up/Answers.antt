use Rattle.std.proofs.Common.{sym, ap, ◌∙◌}
use Rattle.protocol.specs.Server.{ServerState}
use Rattle.server_cell.proofs.Slots.{held_is, not_held}
use Rattle.server_cell.proofs.server_slot.ServerSlot.is_up.Goals as goal

pub returns-in-Some : goal.returns-in-Some
returns-in-Some c =
    let i = c.self.inside in
    c.is_up.ensures ∙ sym (ap (λ (s : ServerState). s.up) (held_is i.config i.id.0 i.server _ i.before.items c.in-Some.is)) ∙ ap (λ (s : ServerState). s.up) c.self.view_is

pub returns-in-None : goal.returns-in-None
returns-in-None c =
    let i = c.self.inside in
    sym (not_held i.config i.id.0 i.server i.before.items c.in-None.is) ∙ ap (λ (s : ServerState). s.up) c.self.view_is
