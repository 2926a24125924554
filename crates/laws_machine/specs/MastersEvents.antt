-- What an event of the master asks beside the log: of chunks that it offers, of copies, and of handles that are gone (sections 2.7, 3.1 and 3.4).
use Rattle.std.specs.Prelude.{◌≡◌, ◌⊎◌, ℕ, Bool, true, false, List, ◌++◌, Some, IsTrue}
use Rattle.std.specs.List.{list_all}
use Rattle.messages.specs.declared.message.Message.{Message}
use Rattle.relaxed_file.specs.Machine.{Machine}
use Rattle.relaxed_file.specs.Run.{Action, Tell, IsLawful, after_all}
use Rattle.protocol.specs.Choice.{decided_changes}
use Rattle.protocol.specs.Logged.{log_changed_by_all}
use Rattle.protocol.specs.World.{WorldState}
use Rattle.laws_base.specs.Versions.{AreLeasesOver}
use Rattle.laws_names.specs.NameTrails.{log_read}
use Rattle.protocol_invariant.specs.Actions.{Spot}
use Rattle.laws_machine.specs.ChunksAlike.{ChunkSides, StandsAt}
use Rattle.laws_machine.specs.MasterSteps.{IsCopy}
use Rattle.laws_machine.specs.WholeWorlds.{AreWordsSo}

-- a chunk is offered to a client
abbrev pub is_offer : Action → Bool
is_offer (Tell client file index) = true
is_offer other = false

-- The machine may offer chunks to clients, after which all is so that is said anew.
pub record AreOffersSo (w then_ : WorldState) (m : Machine) : Type 0 where
  pub offers : List Action
  pub of_offers : IsTrue (list_all is_offer offers)
  pub lawful : IsLawful m offers
  pub said : (more : List Message) → then_.sent ≡ w.sent ++ more → AreWordsSo more w.clients (after_all m offers)

-- Of each copy under way in the master's log, however it is decided what of it was under way, each lease is over, also of one that the master has given up since.
abbrev pub AreCopiesOver : WorldState → Type 0
AreCopiesOver w =
    (decided : List Bool) (handle : ℕ) → IsCopy (log_read (log_changed_by_all w.master.disk (decided_changes decided w.master.under_way))) handle → AreLeasesOver w handle

-- Where a handle stood that is gone, it stood so before already, or stands in the log before.
abbrev pub IsGoneFrom : ChunkSides → ChunkSides → Type 0
IsGoneFrom k j = (handle : ℕ) (s : Spot) → j.gone handle ≡ Some s → (k.gone handle ≡ Some s) ⊎ StandsAt k.log.table handle s
