-- How the step of a server that is up ends, for some choice.
use Rattle.std.specs.Prelude.{◌≡◌, List}
use Rattle.messages.specs.declared.event.StepOut.{StepOut}
use Rattle.protocol.specs.Choice.{Choice}
use Rattle.protocol.specs.declared.seen.Seen.{Seen}
use Rattle.protocol.specs.Server.{ServerState, ServerDoing}
use Rattle.protocol.specs.ServerStep.{server_ends}
use Rattle.protocol.specs.Conforms.{Gives}

pub record Ends (s : ServerState) (d : ServerDoing) (out : StepOut) (seen : List Seen) (new : ServerState) : Type 0 where
  pub choice : Choice
  pub gives : Gives (server_ends s d choice choice.ending) out new
  pub seen_is : (server_ends s d choice choice.ending).seen ≡ seen
