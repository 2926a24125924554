-- The invariant: a world in which it is decided what was under way, a state of the machine, what is kept beside them, and the file and index of each handle. All its parts but what is said of shapes, and what each message that was ever sent says.
use Rattle.std.specs.List.{AllByRecursion}
use Rattle.relaxed_file.specs.Machine.{Machine}
use Rattle.messages.specs.declared.message.Message.{Message}
use Rattle.protocol.specs.Tables.{Table}
use Rattle.protocol.specs.World.{WorldState}
use Rattle.protocol_invariant.specs.Ghost.{Ghost}
use Rattle.protocol_invariant.specs.Actions.{Spot}
use Rattle.protocol_invariant.specs.Leases.{AreLeases}
use Rattle.protocol_invariant.specs.Versions.{AreVersions}
use Rattle.protocol_invariant.specs.OrdersSay.{OrderInFlight}
use Rattle.protocol_invariant.specs.ReplicaParts.{AreReplicas, ReplicaInFlight}
use Rattle.protocol_invariant.specs.AttemptParts.{AreAttempts, AttemptInFlight}
use Rattle.protocol_invariant.specs.MachineParts.{IsMachine}
use Rattle.protocol_invariant.specs.ClientParts.{AreClients, ClientInFlight}

-- what a message says
pub record InFlight (w : WorldState) (m : Machine) (g : Ghost) (x : Message) : Type 0 where
  pub order : OrderInFlight w g x
  pub replica : ReplicaInFlight w g x
  pub attempt : AttemptInFlight w g x
  pub client : ClientInFlight w m g x

pub record Simulates (w : WorldState) (m : Machine) (g : Ghost) (spots : Table Spot) : Type 0 where
  pub leases : AreLeases w g
  pub versions : AreVersions w g
  pub replicas : AreReplicas w g
  pub attempts : AreAttempts w g
  pub machine : IsMachine w m spots
  pub clients : AreClients w m g
  pub messages : AllByRecursion (InFlight w m g) w.sent
