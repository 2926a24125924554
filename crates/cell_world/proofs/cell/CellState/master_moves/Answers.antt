use Rattle.std.proofs.Common.{None, refl, sym, subst, ◌∙◌}
use Rattle.gfs_types.specs.declared.ids.Node.TheVariants as node
use Rattle.server_cell.specs.Inputs.{input_of}
use Rattle.protocol.specs.World.{moves}
use Rattle.cell_world.specs.Batches.{message_named}
use Rattle.cell_world.specs.Held.{HeldCell, HasEffect}
use Rattle.cell_world.proofs.Inside.{holding}
use Rattle.cell_world.proofs.Moved.{master_down, master_did}
use Rattle.cell_world.proofs.cell.CellState.master_moves.Goals as goal

pub returns-then-not-is_up : goal.returns-then-not-is_up
returns-then-not-is_up g c =
    let i = c.self.inside in
    let h : HeldCell = holding i.config (g.M.CellMaster.state i.master) (g.M.CellMaster.files i.master) i.servers.items i.clients.items i.record i.greatest in
    subst (λ (s : HeldCell). HasEffect s (λ w choice. moves w node.Master c.args.now.0 (input_of (message_named s.sent c.args.given)) choice) None s) c.self.view_is
    (master_down h c.args.now.0 (input_of (message_named h.sent c.args.given)) (sym c.is_up.ensures ∙ c.if-not-is_up.true))

pub returns : goal.returns
returns g c =
    let i = c.self.inside in
    let h : HeldCell = holding i.config (g.M.CellMaster.state i.master) (g.M.CellMaster.files i.master) i.servers.items i.clients.items i.record i.greatest in
    let new : HeldCell = record h {
      master = g.M.CellMaster.state c.master_steps.new.master;
      files = g.M.CellMaster.files c.master_steps.new.master;
      sent = c.master_steps.new.kept.network.messages;
      seen = c.master_steps.new.kept.sights.seen;
      greatest = c.later-self-inside.result.0;
    } in
    subst (λ (s : HeldCell). HasEffect s (λ w choice. moves w node.Master c.args.now.0 (input_of (message_named s.sent c.args.given)) choice) c.master_steps.result new) c.self.view_is
    (master_did h c.args.now.0 (input_of (message_named h.sent c.args.given)) c.self.inside.record c.master_steps.new.kept c.master_steps.result new.master new.files new.greatest
    (sym c.is_up.ensures ∙ c.if-not-is_up.false) c.master_steps.ensures.steps c.master_steps.ensures.files refl refl c.later-self-inside.ensures)
