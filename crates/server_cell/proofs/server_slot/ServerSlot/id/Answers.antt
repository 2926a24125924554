use Rattle.std.proofs.Common.{sym, ap, ◌∙◌}
use Rattle.protocol.specs.Server.{ServerState}
use Rattle.server_cell.proofs.server_slot.ServerSlot.id.Goals as goal

pub returns : goal.returns
returns c = sym c.self.invariant.1.id_is ∙ ap (λ (s : ServerState). s.id) c.self.view_is
