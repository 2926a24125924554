use denote.Exit.{yes}
use denote.Param.Send.{param_send, arg_send}
use Rattle.cell_nodes.proofs.Sent.{running_send}
use Rattle.cell_run.proofs.behind.start_all.Goals as goal

pub start_at-requires-send-N : goal.start_at-requires-send-N
start_at-requires-send-N g c κs within = param_send _ _ (arg_send _ yes _ running_send)
