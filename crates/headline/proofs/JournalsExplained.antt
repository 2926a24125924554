-- A lawful journal is a list of a world's events, in which no byte rots.
use Rattle.std.proofs.Common.{◌≡◌, List, ap, subst, ◌∙◌}
use Rattle.std.specs.Prelude.{IsTrue}
use Rattle.gfs_types.specs.declared.config.Config.{Config}
use Rattle.relaxed_file.specs.Machine.{Machine}
use Rattle.relaxed_file.specs.Run.{Visible, IsRunTo}
use Rattle.protocol.specs.World.{WorldState, is_kept}
use Rattle.protocol_journal.specs.Journal.{Entry, observer_of}
use Rattle.protocol_journal.specs.Laws.{Shows}
use Rattle.protocol_journal.proofs.Journals.{journals_are_runs}
use Rattle.laws_versions.proofs.AppliedReached.{kept_both}
use Rattle.headline.proofs.SettingsInRange.{settings_in_range_are_so}
use Rattle.headline.proofs.Induction.{answers_are_a_run}
use Rattle.promises.specs.Promises.{Promises}
use Rattle.promises.specs.ExplainedWorlds.{KeepsPromises}
use Rattle.promises.proofs.KeptPromises.{explained_worlds_are_promised}
use Rattle.headline.specs.Journals.{AreExplained, JournalsAreExplained}

abbrev Explained : Config → List Visible → Type 0
Explained config trace = (m : Machine) × (run : IsRunTo config trace m) × Promises config trace m run

of_world : (w : WorldState) → KeepsPromises w → Explained w.config w.observer.trace
of_world w it = (it.0, (it.1).run, it.2)

of_entries : (config : Config) (entries : List Entry) → Explained config (observer_of config entries).trace → AreExplained config entries
of_entries config entries it = record { machine = it.0; run = it.1; promises = it.2 }

pub journals_are_explained : JournalsAreExplained
journals_are_explained config servers clients entries ends lawful in_range clocks =
    let it = journals_are_runs config servers clients entries ends lawful in
    let w : WorldState = it.0 in
    let shows : Shows w entries ends = it.3 in
    let same_trace : w.observer.trace ≡ (observer_of config entries).trace = shows.trace_is ∙ ap (λ (c : Config). (observer_of c entries).trace) it.2 in
    let same_clocks : w.observer.are_clocks_kept ≡ (observer_of config entries).are_clocks_kept = shows.clocks_are ∙ ap (λ (c : Config). (observer_of c entries).are_clocks_kept) it.2 in
    let kept : IsTrue (is_kept w) = kept_both w.observer.are_clocks_kept w.observer.are_disks_kept (same_clocks ∙ clocks) shows.disks_are_kept in
    let all : KeepsPromises w = explained_worlds_are_promised config servers clients w (answers_are_a_run config servers clients w) (settings_in_range_are_so config in_range) it.1 kept in
    of_entries config entries (subst (λ (trace : List Visible). Explained config trace) same_trace (subst (λ (c : Config). Explained c w.observer.trace) it.2 (of_world w all)))
