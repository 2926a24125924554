-- The law of every lawful list of events on the successes that clients take, that a public function of this crate states.
use Rattle.std.specs.Prelude.{◌≡◌, ℕ, suc, List, Option, Some}
use Rattle.gfs_types.specs.declared.config.Config.{Config}
use Rattle.gfs_types.specs.declared.ids.DataId.{DataId}
use Rattle.messages.specs.declared.event.Event.{Event}
use Rattle.messages.specs.declared.message.Message.{Message}
use Rattle.messages.specs.declared.message.Body.TheVariants as body
use Rattle.client_state.specs.declared.call.ToldChunk.{ToldChunk}
use Rattle.protocol.specs.Tables.{element_at}
use Rattle.protocol.specs.Sending.{handle_of, version_of, serial_of}
use Rattle.protocol.specs.Choice.{Choice}
use Rattle.protocol.specs.declared.seen.Seen.{Seen}
use Rattle.protocol.specs.declared.seen.Seen.TheVariants.{BecameSettled}
use Rattle.protocol.specs.Client.{ClientState}
use Rattle.protocol.specs.World.{new_world, after_events}
use Rattle.laws_base.specs.Successes.{WasShown, IsNumberedAs}
use Rattle.laws_base.specs.WaitedRounds.{waited}

-- These data were placed there in this chunk under this round, and their mutation became settled.
pub record IsSettledIn (K : Seen → Type 0) (chunk : ToldChunk) (id : DataId) (place : Option ℕ) : Type 0 where
  pub serial : ℕ
  pub numbered : IsNumberedAs K chunk.handle.0 chunk.round.0 serial id place
  pub settled : K (BecameSettled (handle_of chunk.handle.0) (version_of chunk.round.0) (serial_of serial))

-- Each success of the data for which a client waits is of the round and the chunk that it noted.
abbrev pub SuccessesAreOfTheNotedRound : Type 0
SuccessesAreOfTheNotedRound =
    (config : Config) (servers clients : ℕ) (steps : List (Event × Choice)) (index : ℕ) (s : ClientState) → element_at (after_events (new_world config servers clients) steps).clients index ≡ Some s
    → (chunk : ToldChunk) (number : ℕ) → waited s.current ≡ Some (chunk, number)
    → (place : ℕ) (m : Message) → element_at (after_events (new_world config servers clients) steps).sent place ≡ Some m → (id : DataId) (offset : ℕ) → m.body ≡ body.Done id offset → id.client.0 ≡ suc index → id.seq ≡ number
    → IsSettledIn (WasShown (new_world config servers clients) steps) chunk id (Some offset)
