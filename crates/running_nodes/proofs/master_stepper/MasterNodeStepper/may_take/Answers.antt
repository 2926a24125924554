use Rattle.running_nodes.proofs.Stepping.{master_takes, master_restarts, master_calls}
use Rattle.running_nodes.proofs.master_stepper.MasterNodeStepper.may_take.Goals as goal

pub returns-in-Takes : goal.returns-in-Takes
returns-in-Takes g c = λ s stands. master_takes (g.M.CellMaster.state c.args.self.now.master) s c.args.cause.now _ c.is_up.result stands c.in-Takes.is c.is_up.ensures

pub returns-in-Restarts : goal.returns-in-Restarts
returns-in-Restarts g c = λ s stands. master_restarts (g.M.CellMaster.state c.args.self.now.master) s c.args.cause.now stands c.in-Restarts.is

pub returns-in-Calls : goal.returns-in-Calls
returns-in-Calls g c = λ s stands. master_calls (g.M.CellMaster.state c.args.self.now.master) s c.args.cause.now _ stands c.in-Calls.is
