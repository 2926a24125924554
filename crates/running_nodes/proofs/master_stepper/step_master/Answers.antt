use Rattle.running_nodes.specs.Standing.{MasterStands}
use Rattle.running_nodes.proofs.Stepping.{seen_none, master_stepped, master_restarted, master_never_calls, master_silent, master_restarts_silently}
use Rattle.running_nodes.proofs.master_stepper.step_master.Goals as goal

pub returns-in-Takes-clause-steps : goal.returns-in-Takes-clause-steps
returns-in-Takes-clause-steps g c = λ s stands. master_stepped (g.M.CellMaster.state c.args.master.now) (g.M.CellMaster.state c.step-out.new.self) s c.args.cause.now _ _ c.args.now.0 c.step-out.result.out c.step-out.result.seen stands (c.requires.may s stands) c.in-Takes.is c.message_in.ensures c.step-out.ensures.steps

pub returns-in-Takes-clause-silent : goal.returns-in-Takes-clause-silent
returns-in-Takes-clause-silent g c = master_silent (g.M.CellMaster.state c.args.master.now) (g.M.CellMaster.state c.step-out.new.self) c.args.now.0 _ c.step-out.result.out c.step-out.result.seen c.step-out.ensures.steps

pub returns-in-Restarts-clause-steps : goal.returns-in-Restarts-clause-steps
returns-in-Restarts-clause-steps g c = λ s stands. seen_none s c.args.cause.now c.args.now.0 c.restart.result c.empty.result (MasterStands (g.M.CellMaster.state c.restart.new.self)) c.empty.ensures
    (master_restarted (g.M.CellMaster.state c.args.master.now) (g.M.CellMaster.state c.restart.new.self) s c.args.cause.now c.args.now.0 c.restart.result stands c.in-Restarts.is c.restart.ensures.steps)

pub returns-in-Restarts-clause-silent : goal.returns-in-Restarts-clause-silent
returns-in-Restarts-clause-silent g c = master_restarts_silently (g.M.CellMaster.state c.args.master.now) (g.M.CellMaster.state c.restart.new.self) c.args.now.0 c.restart.result c.restart.ensures.steps

pub returns-in-Calls-clause-steps : goal.returns-in-Calls-clause-steps
returns-in-Calls-clause-steps g c = λ s stands. master_never_calls (g.M.CellMaster.state c.args.master.now) s c.args.cause.now _ c.args.now.0 _ _ _ stands (c.requires.may s stands) c.in-Calls.is
