use Rattle.laws_versions.proofs.RecordedServers.{recorded_servers_refuse_their_order}
use Rattle.laws_versions.proofs.master_knowledge.recorded_servers_refuse_their_order.Goals as goal

pub returns : goal.returns
returns c = recorded_servers_refuse_their_order
