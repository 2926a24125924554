-- The round of a version that the master grants is open with the size that the Grant tells: the chunk's row has it before and after, and the row's file has the row's shape.
use Rattle.std.proofs.Common.{◌≡◌, ◌⊎◌, ℕ, List, [], ◌∷◌, Some, true≢false, sym, ap, subst, ◌∙◌, inl, inr, arith}
use Rattle.std.specs.Prelude.{true, IsTrue}
use Rattle.std.specs.FinMap as table
use Rattle.gfs_types.specs.declared.config.Config.{Config}
use Rattle.gfs_types.specs.declared.shape.Shape.{Shape}
use Rattle.messages.specs.declared.event.Event.{Event}
use Rattle.messages.specs.declared.event.NodeInput.TheVariants as input
use Rattle.chunk_table.specs.ChunkTable.{ChunkRow, chunk_of, shape_of}
use Rattle.protocol.specs.Choice.{Choice}
use Rattle.protocol.specs.Logged.{Logged}
use Rattle.protocol.specs.Master.{MasterState}
use Rattle.protocol.specs.World.{WorldState, happens, IsReached}
use Rattle.protocol_invariant.specs.Actions.{Spot}
use Rattle.laws_base.specs.Laws.{IsSizeGranted, grants_of}
use Rattle.laws_base.proofs.ShapesKept.{chunks_have_their_files_shapes}
use Rattle.laws_base.proofs.Steps.{none_some}
use Rattle.laws_base.specs.Versions.{IsLeaseOver}
use Rattle.laws_base.proofs.LeasesStayOver.{reached_later}
use Rattle.laws_versions.proofs.ClosedVersions.{clocks_before}
use Rattle.laws_versions.proofs.RowSizes.{size_counts, grants_tell_their_rows_size}
use Rattle.laws_machine.specs.ChunksAlike.{ChunkSides, StandsAt, StoodAt, IsRoundOpen, HasRounds}
use Rattle.laws_machine.specs.GrantedRecords.{IsAttempted}
use Rattle.laws_machine.specs.Rounds.{IsLogOf}
use Rattle.laws_machine.specs.RoundSizes.{IsOpenWithSize}
use Rattle.laws_machine.proofs.ToldShapes.{stood_in}
use Rattle.headline.specs.RoundsApart.{IsNewGrant}
use Rattle.headline.proofs.GrantingSteps.{IsGrantingStep, granting_step, goes_up}
use Rattle.headline.proofs.GrantedRows.{granted_chunks_stay}

-- the log of a master that is up
log_is_up : (s : MasterState) (l : Logged) → IsTrue s.up → IsLogOf s l → l ≡ s.logged
log_is_up s l up (inl is) = is.1
log_is_up s l up (inr is) = absurd (true≢false (sym up ∙ is.0))

-- a chunk that has a row stands in a file of the log
stands_there : (k : ChunkSides) (handle : ℕ) (s : Spot) (row : ChunkRow) → chunk_of k.log.table handle ≡ Some row → StandsAt k.log.table handle s ⊎ StoodAt k handle s → StandsAt k.log.table handle s
stands_there k handle s row is (inl at) = at
stands_there k handle s row is (inr stood) = none_some row (sym stood.1 ∙ is)

module _ (config : Config) (servers clients : ℕ) (w : WorldState) (r : IsReached config servers clients w) (e : Event) (choice : Choice) (clocks : IsTrue (happens w e choice).world.observer.are_clocks_kept)
    (j : ChunkSides) (is_log : IsLogOf (happens w e choice).world.master j.log) (rounds : HasRounds (IsLeaseOver (happens w e choice).world) j)
    (shapes : (file : ℕ) → table.contains_key j.log.table.files file ≡ true → shape_of j.log.table file ≡ (j.machine.files file).shape)
  where
    abbrev v : WorldState
    v = (happens w e choice).world

    before : IsTrue w.observer.are_clocks_kept
    before = clocks_before w ((e, choice) ∷ []) clocks

    module _ (handle version size : ℕ) (none : grants_of handle version w.sent ≡ 0) (g : IsSizeGranted v.sent handle version size) where
      is_new : IsNewGrant w v handle version
      is_new = let some = size_counts handle version size v.sent g in omega (arith, none, some)

      step : IsGrantingStep w handle version v.master
      step = granting_step config servers clients w r before handle version e choice is_new

      up : IsTrue v.master.up
      up = subst (λ (m : MasterState). IsTrue m.up) (sym step.goes) (goes_up w.master step.moment (input.Deliver step.message) step.refused step.up)

      log : j.log ≡ v.master.logged
      log = log_is_up v.master j.log up is_log

      attempted : IsAttempted w.master handle version
      attempted = step.attempted

      left : (row : ChunkRow) × (chunk_of v.master.logged.table handle ≡ Some row)
      left = (granted_chunks_stay config servers clients w r before e choice handle version is_new).2

      with_size : (s : Spot) → IsRoundOpen j handle version s → IsOpenWithSize j handle version size
      with_size s is_open =
          let here : StandsAt j.log.table handle s = stands_there j handle s left.0 (ap (λ (l : Logged). chunk_of l.table handle) log ∙ left.1) is_open.place in
          let there : StandsAt v.master.logged.table handle s = subst (λ (l : Logged). StandsAt l.table handle s) log here in
          let told = grants_tell_their_rows_size config servers clients w r e choice handle version size none g attempted.row left.0 attempted.row_is left.1 in
          let row = ((chunks_have_their_files_shapes config servers clients v (reached_later config servers clients w ((e, choice) ∷ []) r) up).0).chunks s.file s.index handle left.0 there left.1 in
          let shape = row ∙ ap (λ (l : Logged). shape_of l.table s.file) (sym log) ∙ shapes s.file (stood_in j.log s.file s.index handle here) in
          (s, is_open, told.1 ∙ ap (λ (x : Shape). x.chunk) shape)

      pub granted_size_is_open : IsLeaseOver v handle version ⊎ IsOpenWithSize j handle version size
      granted_size_is_open = elim (rounds handle version) [ inl over ↦ inl over | inr now ↦ inr (with_size now.0 now.1) ]
