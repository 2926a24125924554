-- An attempt whose entry is no pad counts: of an append no ChunkFull was told under its number.
use Rattle.std.proofs.Common.{ℕ, suc, List, [], ◌∷◌, Option, Some, None, refl}
use Rattle.gfs_types.specs.declared.config.Config.{Config}
use Rattle.messages.specs.declared.event.Event.{Event}
use Rattle.protocol.specs.Choice.{Choice}
use Rattle.protocol.specs.World.{WorldState, new_world, after_events}
use Rattle.laws_base.specs.FewAttempts.{Counts, EachOf}
use Rattle.laws_base.specs.BoundedEntries.{IsTry}
use Rattle.laws_base.proofs.BoundedEntries.{attempts_bound_entries}
use Rattle.laws_base.specs.FullChunks.{IsPlacedTry, AttemptsBoundPlacedEntries}
use Rattle.laws_base.proofs.FullChunks.{full_numbers_have_pads_alone}

module _ (config : Config) (servers clients : ℕ) (steps : List (Event × Choice)) (handle index made : ℕ) where
  abbrev Start : WorldState
  Start = new_world config servers clients

  counting : (part : Option ℕ) (place : ℕ) (t : IsPlacedTry Start steps handle index made part place) → Counts (after_events Start steps).sent index part t.placed.seq
  counting None place t = λ told m at receiver is.
      t.no_pad (full_numbers_have_pads_alone config servers clients (after_events Start steps) (steps, refl) told (suc index) t.placed.seq m at receiver is handle place t.placed t.is t.client_is refl)
  counting (Some part) place t = tt

  one_try : (part : Option ℕ) (place : ℕ) → IsPlacedTry Start steps handle index made part place → IsTry Start steps handle index made part place
  one_try part place t = record { placed = t.placed; is = t.is; client_is = t.client_is; asked = t.asked; counts = counting part place t }

  all_tries : (part : Option ℕ) (places : List ℕ) → EachOf (λ place. IsPlacedTry Start steps handle index made part place) places → EachOf (λ place. IsTry Start steps handle index made part place) places
  all_tries part [] each = tt
  all_tries part (place ∷ places) each = (one_try part place each.0, all_tries part places each.1)

pub attempts_bound_placed_entries : AttemptsBoundPlacedEntries
attempts_bound_placed_entries config servers clients steps handle index made part places apart each =
    attempts_bound_entries config servers clients steps handle index made part places apart (all_tries config servers clients steps handle index made part places each)
