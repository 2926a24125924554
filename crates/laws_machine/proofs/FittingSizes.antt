-- A Grant tells a size that fits the settings: a file had it, and so had a file of a run of the machine by names.
use Rattle.std.proofs.Common.{◌≡◌, ℕ, ◌≤◌, sym, ap, subst, ◌∙◌}
use Rattle.gfs_types.specs.declared.config.Config.{Config}
use Rattle.gfs_types.specs.declared.shape.Shape.{Shape}
use Rattle.relaxed_file.specs.Machine.{Machine, chunk_size}
use Rattle.relaxed_file.specs.Run as run
use Rattle.laws_base.proofs.Lengths.{settings_stay}
use Rattle.laws_names.proofs.Explained.{names_are_explained}
use Rattle.laws_versions.proofs.OneSizes.{chunks_have_one_size, granted_by_file}
use Rattle.laws_machine.specs.RoundSizes.{GrantedSizesFitTheSettings}
use Rattle.laws_machine.proofs.ServerSteps.{size_within}

pub granted_sizes_fit_the_settings : GrantedSizesFitTheSettings
granted_sizes_fit_the_settings config servers clients w r clocks handle version size granted =
    let had = granted_by_file config servers clients w r clocks handle version size granted in
    let names = names_are_explained config servers clients had.0 had.1 had.2 had.3 in
    let m : Machine = names.0 in
    let by_names = (names.1).0 in
    let reached : run.IsReached config m =
    subst (λ (c : Config). run.IsReached c m) (settings_stay config servers clients had.0 had.1) (by_names.0, by_names.1, by_names.3) in
    let same : chunk_size m had.4 ≡ size = ap (λ (s : Shape). s.chunk) (sym ((names.2).shapes had.4 had.5)) ∙ had.6 in (
      (chunks_have_one_size config servers clients w r handle version version size size granted granted).1,
      subst (λ (n : ℕ). n ≤ config.chunk) same (size_within config m reached had.4),
    )
