use Rattle.std.proofs.Common.{sym, ap, ◌∙◌, subst}
use Rattle.protocol.specs.Conforms.{ServerRots}
use Rattle.protocol.specs.Server.{ServerState}
use Rattle.server_cell.proofs.Settings.{rots_settings}
use Rattle.server_cell.proofs.Slots.{goes_on, held_is, up_held}
use Rattle.server_cell.proofs.server_slot.ServerSlot.rot.Goals as goal

pub rot-requires : goal.rot-requires
rot-requires c =
    let i = c.self.inside in
    ap (λ (s : ServerState). s.up) (sym (held_is i.config i.id.0 i.server _ i.before.items c.in-Some.is) ∙ c.self.view_is) ∙ c.requires

pub invariant_of-self : goal.invariant_of-self
invariant_of-self c = c.self.invariant

pub invariant_of-self-2 : goal.invariant_of-self-2
invariant_of-self-2 c =
    let i = c.self.inside in
    (c.self.invariant.0, goes_on i.config i.id.0 i.server _ c.rot.new.self.state i.before.items c.in-Some.is c.self.invariant.1 (rots_settings _ c.rot.new.self.state c.args.handle.0 c.args.place c.args.byte c.rot.ensures), tt)

pub returns : goal.returns
returns c =
    let i = c.self.inside in
    subst (λ (s : ServerState). ServerRots s c.args.handle.0 c.args.place c.args.byte c.rot.new.self.state) (sym (held_is i.config i.id.0 i.server _ i.before.items c.in-Some.is) ∙ c.self.view_is) c.rot.ensures

pub returns-in_default : goal.returns-in_default
returns-in_default c =
    let i = c.self.inside in
    up_held i.config i.id.0 i.server i.before.items c.args.self.now c.in_default.is c.self.view_is c.requires
