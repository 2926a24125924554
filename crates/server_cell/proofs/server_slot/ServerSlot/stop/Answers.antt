use Rattle.std.proofs.Common.{[], sym, ap, ◌∙◌}
use Rattle.protocol.specs.Server.{ServerState, stopped_server}
use Rattle.server_cell.proofs.Settings.{stopped_settings}
use Rattle.server_cell.proofs.Slots.{goes_on, held_is, up_held}
use Rattle.server_cell.proofs.server_slot.ServerSlot.stop.Goals as goal

pub stop-requires : goal.stop-requires
stop-requires c =
    let i = c.self.inside in
    ap (λ (s : ServerState). s.up) (sym (held_is i.config i.id.0 i.server _ i.before.items c.in-Some.is) ∙ c.self.view_is) ∙ c.requires

pub invariant_of-self : goal.invariant_of-self
invariant_of-self c = c.self.invariant

pub invariant_of-self-2 : goal.invariant_of-self-2
invariant_of-self-2 c =
    let i = c.self.inside in
    (c.self.invariant.0, goes_on i.config i.id.0 i.server _ c.stop.new.self.state i.before.items c.in-Some.is c.self.invariant.1 (stopped_settings _ c.stop.new.self.state [] c.stop.ensures), tt)

pub returns : goal.returns
returns c =
    let i = c.self.inside in
    c.stop.ensures ∙ ap (λ (s : ServerState). stopped_server s s.disk []) (sym (held_is i.config i.id.0 i.server _ i.before.items c.in-Some.is) ∙ c.self.view_is)

pub returns-in_default : goal.returns-in_default
returns-in_default c =
    let i = c.self.inside in
    up_held i.config i.id.0 i.server i.before.items c.args.self.now c.in_default.is c.self.view_is c.requires
