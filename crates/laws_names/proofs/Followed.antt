-- The two laws: what is known of a client of a reached world is what its steps and calls ask.
use Rattle.std.proofs.Common.{◌≡◌, ℕ, List, Some}
use Rattle.std.specs.Prelude.{IsTrue}
use Rattle.gfs_types.specs.declared.config.Config.{Config}
use Rattle.protocol.specs.Tables.{element_at}
use Rattle.protocol.specs.Logged.{Logged}
use Rattle.protocol.specs.Master.{PendingSnapshot}
use Rattle.protocol.specs.Client.{ClientState}
use Rattle.protocol.specs.World.{WorldState, IsReached}
use Rattle.laws_base.proofs.RequestsOnce.{numbered_reached}
use Rattle.laws_base.proofs.Reached.{name_requests_ask_for_their_call}
use Rattle.laws_names.proofs.NameWords.{name_answers_were_asked_for}
use Rattle.laws_names.specs.BesideClients.{IsAskedFor, ClientStepsAreFollowed, ClientCallsAreFollowed}
use Rattle.laws_names.proofs.Clients.{IsKnownClient}
use Rattle.laws_names.proofs.BesideClientsCalls.{steps_beside, calls_beside}

pub facts : (config : Config) (servers clients : ℕ) (w : WorldState) → IsReached config servers clients w → (index : ℕ) (s : ClientState) → element_at w.clients index ≡ Some s → IsTrue s.up → (l : Logged) (ss : List PendingSnapshot)
    → IsAskedFor w.sent l ss → IsKnownClient w.sent l ss index s
facts config servers clients w r index s at up l ss asked =
    record {
      numbered = (numbered_reached config servers clients w r).each index s at;
      asks = λ x is from. name_requests_ask_for_their_call config servers clients w r index s at up is.0 x is.1 from;
      answers = λ x is. name_answers_were_asked_for config servers clients w r is.0 x is.1;
      kept = asked.0;
      waits = asked.1;
    }

pub client_steps_are_followed : ClientStepsAreFollowed
client_steps_are_followed config servers clients w r index s at up l ss asked trace greatest b moment i reached came k choice =
    steps_beside w.config trace greatest w.clients w.sent l ss b.0 b.1 b.2 b.3 k index s up at (facts config servers clients w r index s at up l ss asked) moment reached i came choice

pub client_calls_are_followed : ClientCallsAreFollowed
client_calls_are_followed config servers clients w r index s at up l ss asked trace greatest b moment c reached none k choice =
    calls_beside w.config trace greatest w.clients w.sent l ss b.0 b.1 b.2 b.3 k index s up at (facts config servers clients w r index s at up l ss asked) moment reached none c choice
