-- The law of every lawful list of events on who answers a client's attempts, that a public function of this crate states.
use Rattle.std.specs.Prelude.{◌≡◌, ◌⊎◌, ℕ, List, Some}
use Rattle.gfs_types.specs.declared.config.Config.{Config}
use Rattle.gfs_types.specs.declared.ids.DataId.{DataId}
use Rattle.gfs_types.specs.declared.refusal.Refusal.{Refusal}
use Rattle.messages.specs.declared.message.Body.TheVariants as body
use Rattle.messages.specs.declared.message.Message.{Message}
use Rattle.protocol.specs.Tables.{element_at}
use Rattle.protocol.specs.Sending.{the_server, the_client}
use Rattle.protocol.specs.World.{WorldState, IsReached}
use Rattle.laws_base.specs.Entries.{IsPushed}

-- a Done of these data, or a refusal to their client under their number
abbrev pub IsAnswerUnder : DataId → Message → Type 0
IsAnswerUnder id m = ((offset : ℕ) × (m.body ≡ body.Done id offset)) ⊎ ((refusal : Refusal) × (m.receiver ≡ the_client id.client.0) × (m.body ≡ body.Refused id.seq refusal))

-- What answers an attempt whose data were pushed was sent by a server (sections 3.1 and 3.3).
abbrev pub AttemptsAreAnsweredByServers : Type 0
AttemptsAreAnsweredByServers =
    (config : Config) (servers clients : ℕ) (w : WorldState) → IsReached config servers clients w
    → (place : ℕ) (m : Message) → element_at w.sent place ≡ Some m → (id : DataId) (bytes : List ℕ) → IsPushed w.sent id bytes → IsAnswerUnder id m → (server : ℕ) × (m.sender ≡ the_server server)
