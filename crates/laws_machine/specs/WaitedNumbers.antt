-- In which call a client used the number of the data for whose place it waits (sections 3.1 and 3.3).
use Rattle.std.specs.Prelude.{◌≡◌, ℕ, suc, List, Option, Some}
use Rattle.gfs_types.specs.declared.config.Config.{Config}
use Rattle.messages.specs.declared.event.Event.{Event}
use Rattle.client_state.specs.declared.call.ToldChunk.{ToldChunk}
use Rattle.protocol.specs.Tables.{element_at}
use Rattle.protocol.specs.Choice.{Choice}
use Rattle.protocol.specs.Client.{ClientState}
use Rattle.protocol.specs.Observer.{calls_made}
use Rattle.protocol.specs.World.{new_world, after_events}
use Rattle.laws_base.specs.FewAttempts.{WasAsked}
use Rattle.laws_base.specs.WaitedRounds.{waited}

-- A number for whose data it waits was used to ask for a place in the call that is open, and in no call before.
abbrev pub WaitedNumbersAreOfTheOpenCall : Type 0
WaitedNumbersAreOfTheOpenCall =
    (config : Config) (servers clients : ℕ) (steps : List (Event × Choice)) (index : ℕ) (s : ClientState) → element_at (after_events (new_world config servers clients) steps).clients index ≡ Some s
    → (chunk : ToldChunk) (number : ℕ) → waited s.current ≡ Some (chunk, number)
    → (made : ℕ) (part : Option ℕ) → WasAsked index (new_world config servers clients) steps made part number
    → made ≡ calls_made (after_events (new_world config servers clients) steps).observer.trace (suc index)
