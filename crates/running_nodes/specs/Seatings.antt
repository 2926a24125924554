-- Seats that go over to a cell that goes on.
use Rattle.std.specs.Prelude.{◌≡◌, ℕ, ◌≤◌, ◌<◌, Bool, List, [], ◌∷◌, length, Option, IfSome}
use Rattle.gfs_types.specs.declared.config.Config.{Config}
use Rattle.gfs_types.specs.declared.ids.Node.TheVariants.{Client}
use Rattle.protocol_journal.specs.Journal.{own}
use Rattle.cell_journal.specs.Identity.{Identity}
use Rattle.cell_seats.specs.ParkedNodes.{GoesOnBehind}
use Rattle.cell_seats.specs.Seats.{SeatState, GoesOver}
use Rattle.running_nodes.specs.declared.running_client.RunningClient.{RunningClient}
use Rattle.running_nodes.specs.declared.client_places.ClientPlace.{ClientPlace}
use Rattle.running_nodes.specs.declared.seating.Seating.{Seating}
use Rattle.running_nodes.specs.ParkedSeats.{ParkedSeatState}
use Rattle.running_nodes.specs.Places.{AreNewClients, ArePlacesOf}

-- a seat of this name, whose client, if it is there, saw so many entries
pub record IsSeatOf (cell : Identity) (count : ℕ) (s : ParkedSeatState) : Type 0 where
  pub named : s.seat.cell.name ≡ cell.name
  pub saw : IfSome s.saw (λ k. k ≡ count)

-- each seat goes over to this cell, in order
abbrev pub AllGoOver : Identity → List ParkedSeatState → List SeatState → Type 0
AllGoOver cell [] [] = Unit {0}
AllGoOver cell (old ∷ olds) (new ∷ news) = GoesOver cell old.saw old.seat new × AllGoOver cell olds news
AllGoOver cell olds news = ⊥

-- to a cell with so many entries behind it, of these settings, seats may go over: to these places, or as these clients of numbers after those that were made, of which nothing was written
pub record IsSeating (cell : Identity) (base_len : ℕ) (config : Config) (retired : List Bool) (made : ℕ) (places : List (Option ClientPlace)) (clients : List (Option RunningClient)) : Type 0 where
  pub base_is : length cell.base ≡ base_len
  pub config_is : cell.config ≡ config
  pub clients_are : cell.clients ≡ 64
  pub retired_are : cell.retired ≡ retired
  pub places_are : ArePlacesOf cell places
  pub anew : AreNewClients config made clients
  pub goes_on : GoesOnBehind cell.name cell
  pub few : made ≤ 64
  pub fresh : (n : ℕ) → made < n → own (Client (record { 0 = n })) cell.base ≡ []

-- what seats go over to
abbrev pub IsReady : Seating → Type 0
IsReady s = IsSeating s.cell s.base_len s.config s.retired s.made s.places.items s.clients.items
