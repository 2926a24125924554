-- The places of clients in the journal of a cell that goes on, and its clients of new numbers.
use Rattle.std.specs.Prelude.{◌≡◌, ℕ, ◌+◌, List, [], slice_get, Option, Some}
use Rattle.gfs_types.specs.declared.config.Config.{Config}
use Rattle.protocol.specs.Client.{new_client}
use Rattle.cell_journal.specs.Identity.{Identity}
use Rattle.running_nodes.specs.declared.running_client.RunningClient.{RunningClient}
use Rattle.running_nodes.specs.declared.client_places.ClientPlace.{ClientPlace}

-- clients of the numbers after so many, in rising order, of which none made a call
abbrev pub AreNewClients : Config → ℕ → List (Option RunningClient) → Type 0
AreNewClients config made clients = (k : ℕ) (c : RunningClient) → slice_get clients k ≡ Some (Some c) → c.node.client ≡ new_client config (made + k + 1)

-- a client's place in the journal of this cell, of which nothing was written there yet
pub record IsPlaceOf (cell : Identity) (place : ClientPlace) : Type 0 where
  pub of : place.journal.writer.me.0.of ≡ cell
  pub mine : place.journal.writer.me.0.mine ≡ []

-- and each place of these
abbrev pub ArePlacesOf : Identity → List (Option ClientPlace) → Type 0
ArePlacesOf cell places = (k : ℕ) (place : ClientPlace) → slice_get places k ≡ Some (Some place) → IsPlaceOf cell place

-- what is left of these was there before
abbrev pub IsLeftOf : {T : Type 0} → List (Option T) → List (Option T) → Type 0
IsLeftOf {T} old new = (k : ℕ) (x : T) → slice_get new k ≡ Some (Some x) → slice_get old k ≡ Some (Some x)
