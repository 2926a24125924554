-- Each lawful list of events is a run of the relaxed-file machine (sections 2.7.1, 3.1 and 4.1).
use Rattle.std.specs.Prelude.{◌≡◌, ℕ, None, IsTrue}
use Rattle.gfs_types.specs.declared.config.Config.{Config}
use Rattle.gfs_types.specs.Settings.{first_out_of_range}
use Rattle.messages.specs.declared.event.Event.{Event}
use Rattle.protocol.specs.Choice.{Choice}
use Rattle.protocol.specs.World.{WorldState, happens, IsReached, is_kept}
use Rattle.protocol.specs.Explained.{AreSettings, IsExplained}
use Rattle.laws_machine.specs.WholeWorlds.{IsWholeWorld}

-- An event keeps the whole machine beside each world that is reached, where clocks and disks are kept.
abbrev pub KeepsWorldsWhole : (WorldState → Event → Type 0) → Type 0
KeepsWorldsWhole IsOfKind =
    (config : Config) (servers clients : ℕ) (w : WorldState) → AreSettings config → IsReached config servers clients w → IsTrue (is_kept w)
    → (e : Event) (choice : Choice) → IsTrue (happens w e choice).world.observer.are_clocks_kept → IsOfKind w e → IsWholeWorld config w → IsWholeWorld config (happens w e choice).world

-- Beside each world that is reached, under settings in their ranges and kept clocks and disks, goes the whole machine.
abbrev pub ReachedWorldsAreWhole : Type 0
ReachedWorldsAreWhole = (config : Config) (servers clients : ℕ) (w : WorldState) → AreSettings config → IsReached config servers clients w → IsTrue (is_kept w) → IsWholeWorld config w

-- The headline: the answers of each world that a lawful list of events reaches, under settings in their ranges and kept clocks and disks, are those of a run of the machine, and that run led to what the world shows.
abbrev pub AnswersAreARun : Type 0
AnswersAreARun = (config : Config) (servers clients : ℕ) (w : WorldState) → IsExplained config servers clients w

-- Settings that are within their ranges are such settings.
abbrev pub SettingsInRangeAreSo : Type 0
SettingsInRangeAreSo = (c : Config) → first_out_of_range c ≡ None → AreSettings c
