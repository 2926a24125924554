use denote.Exit.{yes}
use denote.Param.Send.{param_send, arg_send}
use Rattle.cell_nodes.proofs.Sent.{running_send}
use Rattle.cell_run.proofs.cell.start_master.Goals as goal

pub start_node-requires-send-N : goal.start_node-requires-send-N
start_node-requires-send-N g c κs within = param_send _ _ (arg_send _ yes _ running_send)
