-- The laws of every lawful list of events on chunks that are full, that public functions of this crate state.
use Rattle.std.specs.Prelude.{◌≡◌, ℕ, suc, ◌≤◌, max, List, length, Option, Some}
use Rattle.gfs_types.specs.declared.config.Config.{Config}
use Rattle.gfs_types.specs.declared.mutation.Mutation.{Mutation}
use Rattle.gfs_types.specs.declared.mutation.Mutation.TheVariants.{Pad}
use Rattle.gfs_types.specs.declared.refusal.Refusal.TheVariants.{ChunkFull}
use Rattle.messages.specs.declared.event.Event.{Event}
use Rattle.messages.specs.declared.message.Body.TheVariants as body
use Rattle.messages.specs.declared.message.Message.{Message}
use Rattle.protocol.specs.Tables.{element_at}
use Rattle.protocol.specs.Sending.{the_client}
use Rattle.protocol.specs.Choice.{Choice}
use Rattle.protocol.specs.Observer.{Placed, order_of}
use Rattle.protocol.specs.World.{WorldState, new_world, after_events, IsReached}
use Rattle.laws_base.specs.FewAttempts.{WasAsked, EachOf, AreApart}

abbrev pub IsPad : Mutation → Type 0
IsPad (Pad offset end) = Unit {0}
IsPad other = ⊥

-- An entry of a number to which ChunkFull was answered is a pad (section 3.3).
abbrev pub FullNumbersHavePadsAlone : Type 0
FullNumbersHavePadsAlone =
    (config : Config) (servers clients : ℕ) (w : WorldState) → IsReached config servers clients w
    → (told client number : ℕ) (m : Message) → element_at w.sent told ≡ Some m → m.receiver ≡ the_client client → m.body ≡ body.Refused number ChunkFull
    → (handle place : ℕ) (p : Placed) → element_at (order_of w.observer handle) place ≡ Some p → p.entry.call.client ≡ client → p.seq ≡ number → IsPad p.entry.mutation

-- At this place of a chunk's order stands an entry, no pad, that the client asked for, in these steps, for this part of its call.
pub record IsPlacedTry (start : WorldState) (steps : List (Event × Choice)) (handle index made : ℕ) (part : Option ℕ) (place : ℕ) : Type 0 where
  pub placed : Placed
  pub is : element_at (order_of (after_events start steps).observer handle) place ≡ Some placed
  pub client_is : placed.entry.call.client ≡ suc index
  pub asked : WasAsked index start steps made part placed.seq
  pub no_pad : IsPad placed.entry.mutation → ⊥

-- A part of a call gets at most as many entries in a chunk's order that are no pads as its client has attempts.
abbrev pub AttemptsBoundPlacedEntries : Type 0
AttemptsBoundPlacedEntries =
    (config : Config) (servers clients : ℕ) (steps : List (Event × Choice)) (handle index made : ℕ) (part : Option ℕ) (places : List ℕ) → AreApart places
    → EachOf (λ place. IsPlacedTry (new_world config servers clients) steps handle index made part place) places → length places ≤ max 1 config.attempts
