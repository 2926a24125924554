-- The law of every lawful list of events on attempts that a client left behind at another chunk, that a public function of this crate states.
use Rattle.std.specs.Prelude.{◌≡◌, ◌≢◌, ℕ, suc, ◌≤◌, ◌<◌, List, Some, IsTrue}
use Rattle.gfs_types.specs.declared.config.Config.{Config}
use Rattle.messages.specs.declared.event.Event.{Event}
use Rattle.messages.specs.declared.message.Message.{Message}
use Rattle.client_state.specs.declared.call.ToldChunk.{ToldChunk}
use Rattle.protocol.specs.Tables.{element_at}
use Rattle.protocol.specs.Sending.{data_id, the_server}
use Rattle.protocol.specs.Choice.{Choice}
use Rattle.protocol.specs.World.{new_world, after_events}
use Rattle.laws_base.specs.Versions.{IsLeaseOver}
use Rattle.laws_base.specs.Entries.{IsPushed}
use Rattle.laws_base.specs.AnsweredAttempts.{IsAnswerTo}
use Rattle.laws_machine.specs.OpenAttempts.{WasSentFor}

-- Where clocks are kept, of two attempts of a client for one place in a file, by locations with granted rounds and different handles, of which a server answered the later one, the earlier one's lease is over (sections 3.1, 3.3 and 3.4).
abbrev pub PassedAttemptsHaveNoLease : Type 0
PassedAttemptsHaveNoLease =
    (config : Config) (servers clients : ℕ) (steps : List (Event × Choice)) → IsTrue (after_events (new_world config servers clients) steps).observer.are_clocks_kept
    → (index file : ℕ) (chunk other : ToldChunk) (first later : ℕ) → WasSentFor index (new_world config servers clients) steps file chunk first → WasSentFor index (new_world config servers clients) steps file other later
    → first < later → chunk.index ≡ other.index → chunk.handle.0 ≢ other.handle.0 → 1 ≤ chunk.round.0 → 1 ≤ other.round.0
    → (place server : ℕ) (m : Message) → element_at (after_events (new_world config servers clients) steps).sent place ≡ Some m → m.sender ≡ the_server server → IsAnswerTo (data_id (suc index) later) m
    → (bytes : List ℕ) → IsPushed (after_events (new_world config servers clients) steps).sent (data_id (suc index) later) bytes
    → IsLeaseOver (after_events (new_world config servers clients) steps) chunk.handle.0 chunk.round.0
