use Rattle.std.proofs.Common.{sym, ap, ◌∙◌}
use Rattle.protocol.specs.Server.{ServerState}
use Rattle.replica_store.specs.Replicas.{row_at}
use Rattle.server_cell.proofs.Slots.{held_is, up_held}
use Rattle.server_cell.proofs.server_slot.ServerSlot.row.Goals as goal

pub returns-in-Some : goal.returns-in-Some
returns-in-Some c =
    let i = c.self.inside in
    c.row.ensures ∙ ap (λ (s : ServerState). row_at s.disk c.args.handle.0) (sym (held_is i.config i.id.0 i.server _ i.before.items c.in-Some.is) ∙ c.self.view_is)

pub returns-in-None : goal.returns-in-None
returns-in-None c =
    let i = c.self.inside in
    up_held i.config i.id.0 i.server i.before.items c.args.self.now c.in-None.is c.self.view_is c.requires
