-- The law of every lawful list of events on how many entries a part of a call gets, that a public function of this crate states.
use Rattle.std.specs.Prelude.{◌≡◌, ℕ, suc, ◌≤◌, max, List, length, Option, Some}
use Rattle.gfs_types.specs.declared.config.Config.{Config}
use Rattle.messages.specs.declared.event.Event.{Event}
use Rattle.protocol.specs.Tables.{element_at}
use Rattle.protocol.specs.Choice.{Choice}
use Rattle.protocol.specs.Observer.{Placed, order_of}
use Rattle.protocol.specs.World.{WorldState, new_world, after_events}
use Rattle.laws_base.specs.FewAttempts.{WasAsked, Counts, EachOf, AreApart}

-- At this place of a chunk's order stands an entry that the client asked for, in these steps, for this part of its call, by an attempt that counts.
pub record IsTry (start : WorldState) (steps : List (Event × Choice)) (handle index made : ℕ) (part : Option ℕ) (place : ℕ) : Type 0 where
  pub placed : Placed
  pub is : element_at (order_of (after_events start steps).observer handle) place ≡ Some placed
  pub client_is : placed.entry.call.client ≡ suc index
  pub asked : WasAsked index start steps made part placed.seq
  pub counts : Counts (after_events start steps).sent index part placed.seq

-- A part of a call gets at most as many entries by attempts that count in a chunk's order as its client has attempts.
abbrev pub AttemptsBoundEntries : Type 0
AttemptsBoundEntries =
    (config : Config) (servers clients : ℕ) (steps : List (Event × Choice)) (handle index made : ℕ) (part : Option ℕ) (places : List ℕ) → AreApart places
    → EachOf (λ place. IsTry (new_world config servers clients) steps handle index made part place) places → length places ≤ max 1 config.attempts
