-- Entries at different places of an order are of different numbers, and each number that counts is one of the few under which the part was asked for.
use Rattle.std.proofs.Common.{◌≡◌, ℕ, suc, ◌≤◌, List, [], ◌∷◌, length, Option, refl, sym, ap, subst, ◌∙◌}
use Rattle.std.specs.Prelude.{max}
use Rattle.gfs_types.specs.declared.config.Config.{Config}
use Rattle.messages.specs.declared.event.Event.{Event}
use Rattle.protocol.specs.Choice.{Choice}
use Rattle.protocol.specs.World.{WorldState, new_world, after_events}
use Rattle.laws_base.proofs.OneEntry.{numbers_have_one_entry}
use Rattle.laws_base.specs.FewAttempts.{WasAsked, Counts, EachOf, AreApart}
use Rattle.laws_base.proofs.FewAttempts.{parts_have_few_attempts}
use Rattle.laws_base.specs.BoundedEntries.{IsTry, AttemptsBoundEntries}

module _ (config : Config) (servers clients : ℕ) (steps : List (Event × Choice)) (handle index made : ℕ) (part : Option ℕ) where
  abbrev Start : WorldState
  Start = new_world config servers clients

  abbrev Try : ℕ → Type 0
  Try place = IsTry Start steps handle index made part place

  abbrev Asked : ℕ → Type 0
  Asked n = WasAsked index Start steps made part n × Counts (after_events Start steps).sent index part n

  -- the numbers of the entries at these places
  numbers : (places : List ℕ) → EachOf Try places → List ℕ
  numbers [] each = []
  numbers (place ∷ places) each = ((each.0).placed).seq ∷ numbers places each.1

  as_many : (places : List ℕ) (each : EachOf Try places) → length (numbers places each) ≡ length places
  unfolding numbers
  as_many [] each = refl
  as_many (place ∷ places) each = ap (λ (n : ℕ). suc n) (as_many places each.1)

  all_asked : (places : List ℕ) (each : EachOf Try places) → EachOf Asked (numbers places each)
  unfolding numbers
  all_asked [] each = tt
  all_asked (place ∷ places) each = (((each.0).asked, (each.0).counts), all_asked places each.1)

  one_place : (place other : ℕ) (t : Try place) (o : Try other) → t.placed.seq ≡ o.placed.seq → place ≡ other
  one_place place other t o same = numbers_have_one_entry config servers clients (after_events Start steps) (steps, refl) handle place other t.placed o.placed t.is o.is (t.client_is ∙ sym o.client_is) same

  apart_from : (place : ℕ) (t : Try place) (places : List ℕ) (each : EachOf Try places) → EachOf (λ other. place ≡ other → ⊥) places → EachOf (λ n. t.placed.seq ≡ n → ⊥) (numbers places each)
  unfolding numbers
  apart_from place t [] each apart = tt
  apart_from place t (other ∷ places) each apart = (λ same. apart.0 (one_place place other t each.0 same), apart_from place t places each.1 apart.1)

  all_apart : (places : List ℕ) (each : EachOf Try places) → AreApart places → AreApart (numbers places each)
  unfolding numbers
  all_apart [] each apart = tt
  all_apart (place ∷ places) each apart = (apart_from place each.0 places each.1 apart.0, all_apart places each.1 apart.1)

  pub bounded : (places : List ℕ) → AreApart places → EachOf Try places → length places ≤ max 1 config.attempts
  bounded places apart each =
      subst (λ (n : ℕ). n ≤ max 1 config.attempts) (as_many places each)
      (parts_have_few_attempts config servers clients steps index made part (numbers places each) (all_apart places each apart) (all_asked places each))

pub attempts_bound_entries : AttemptsBoundEntries
attempts_bound_entries config servers clients steps handle index made part places apart each = bounded config servers clients steps handle index made part places apart each
