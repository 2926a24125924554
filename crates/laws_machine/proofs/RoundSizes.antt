-- The sizes of open rounds: a version is granted once, its round stays at its place, and a file keeps its shape.
use Rattle.std.proofs.Common.{◌≡◌, ◌⊎◌, ℕ, zero, suc, ◌≤◌, List, [], ◌∷◌, Some, refl, sym, ap, subst, ◌∙◌, inl, inr, arith}
use Rattle.std.specs.Prelude.{IsTrue, IsFalse}
use Rattle.gfs_types.specs.declared.config.Config.{Config}
use Rattle.gfs_types.specs.declared.shape.Shape.{Shape}
use Rattle.messages.specs.declared.event.Event.{Event}
use Rattle.messages.specs.declared.message.Message.{Message}
use Rattle.relaxed_file.specs.Machine.{Machine, chunk_size}
use Rattle.relaxed_file.specs.Run.{LeadsTo}
use Rattle.relaxed_file.specs.Run as run
use Rattle.relaxed_file.proofs.ShapesKept.{shapes_stay}
use Rattle.protocol.specs.Choice.{Choice}
use Rattle.protocol.specs.Master.{PendingSnapshot}
use Rattle.protocol.specs.Observer.{Placed}
use Rattle.protocol.specs.Tables.{Table, element_at}
use Rattle.protocol.specs.World.{WorldState, happens, IsReached}
use Rattle.protocol_invariant.specs.Actions.{Spot}
use Rattle.laws_base.specs.Laws.{IsSizeGranted, is_grant, grants_of}
use Rattle.laws_base.proofs.GrantsOnce.{versions_are_granted_once}
use Rattle.laws_base.proofs.LeaseOrders.{says_grant}
use Rattle.laws_base.proofs.LeasesTold.{granting}
use Rattle.laws_base.specs.Versions.{IsLeaseOver}
use Rattle.laws_base.proofs.Events.{holds_after}
use Rattle.laws_base.proofs.Histories.{step_grown}
use Rattle.laws_base.proofs.LeasesStayOver.{reached_later, leases_stay_over}
use Rattle.laws_base.proofs.Deadlines.{same_counted}
use Rattle.laws_versions.proofs.AnsweredOrders.{placed_later}
use Rattle.laws_versions.proofs.RowSizes.{size_counts}
use Rattle.laws_machine.specs.ChunksAlike.{ChunkSides, StandsAt, StoodAt, IsRoundOpen, AreChunksAlike}
use Rattle.laws_machine.specs.ChunksBeside.{AreChunksBeside, IsMastersEvent}
use Rattle.laws_machine.specs.Rounds.{IsMastersStep}
use Rattle.laws_machine.specs.RoundSizes.{IsOpenWithSize, AreRoundsSized, RoundSizesGoOn}
use Rattle.laws_machine.specs.WholeWorlds.{IsBeside}
use Rattle.laws_machine.proofs.ChunksBeside.{masters_step}
use Rattle.laws_machine.proofs.EndedRounds.{GrantsNoMore, none_granted, some_place, leased_chunks_stand_once, places_are_one}
use Rattle.laws_machine.proofs.Sides.{listed}

-- the file of an open round is numbered
round_numbered : (k : ChunkSides) → AreChunksAlike k → (handle : ℕ) (s : Spot) → StandsAt k.log.table handle s ⊎ StoodAt k handle s → suc s.file ≤ k.log.next_file
round_numbered k alike handle s (inl at) = let there = listed k.log.table handle s at in let low = (alike.there s.file there.0 there.1).numbered in omega (arith, low)
round_numbered k alike handle s (inr stood) = let low = (alike.gone handle s stood.0).numbered in omega (arith, low)

module _ (config : Config) (servers clients : ℕ) (w : WorldState) (r : IsReached config servers clients w) (e : Event) (choice : Choice) (clocks : IsTrue (happens w e choice).world.observer.are_clocks_kept) where
  abbrev then_ : WorldState
  then_ = (happens w e choice).world

  later : IsReached config servers clients then_
  later = reached_later config servers clients w ((e, choice) ∷ []) r

  -- a Grant of a version that was granted before is the one from before
  told_before : (handle version size : ℕ) → 1 ≤ grants_of handle version w.sent → IsSizeGranted then_.sent handle version size → IsSizeGranted w.sent handle version size
  told_before handle version size some g =
      let old = some_place handle version w.sent some in
      let same : old.1 ≡ g.1 =
      same_counted (λ m. is_grant handle version m.body) then_.sent old.0 g.0 old.1 g.1 (versions_are_granted_once config servers clients then_ later handle version)
      (placed_later w.sent then_.sent old.0 old.1 (step_grown w e choice) old.2) g.2 old.3 (granting g.3 handle version g.4 g.5 (g.1).body (says_grant (size, g.6))) in
      (old.0, g.1, old.2 ∙ ap (λ (m : Message). Some m) same, g.3, g.4, g.5, g.6)

  module _ (k j : ChunkSides) (reached : run.IsReached config k.machine) (led : LeadsTo k.machine j.machine) (alike : AreChunksAlike k) (made : k.log.next_file ≤ suc k.machine.file_count)
      (old : (handle version : ℕ) (s : Spot) → 1 ≤ grants_of handle version w.sent → IsRoundOpen k handle version s → IsLeaseOver then_ handle version ⊎ IsRoundOpen j handle version s)
      (new : (handle version size : ℕ) → grants_of handle version w.sent ≡ 0 → IsSizeGranted then_.sent handle version size → IsLeaseOver then_ handle version ⊎ IsOpenWithSize j handle version size)
      (sized : AreRoundsSized w k)
    where
      -- a file keeps its size
      same_size : (handle version size : ℕ) (s : Spot) → IsRoundOpen k handle version s → size ≡ chunk_size k.machine s.file → size ≡ chunk_size j.machine s.file
      same_size handle version size s was_open is =
          let low = round_numbered k alike handle s was_open.place in
          is ∙ sym (ap (λ (x : Shape). x.chunk) (shapes_stay config k.machine j.machine s.file reached led (omega (arith, low, made))))

      sized_still : (handle version size : ℕ) → 1 ≤ grants_of handle version w.sent → IsSizeGranted then_.sent handle version size → IsLeaseOver then_ handle version ⊎ IsOpenWithSize j handle version size
      sized_still handle version size some g = elim (sized handle version size (told_before handle version size some g)) [
        | inl over ↦ inl (leases_stay_over config servers clients w r handle version some over ((e, choice) ∷ []) clocks)
        | inr was ↦ elim (old handle version was.0 some was.1) [
          | inl over ↦ inl over
          | inr still ↦ inr (was.0, still, same_size handle version size was.0 was.1 was.2)
        ]
      ]

      by_count : (handle version size : ℕ) → IsSizeGranted then_.sent handle version size → (count : ℕ) → grants_of handle version w.sent ≡ count → IsLeaseOver then_ handle version ⊎ IsOpenWithSize j handle version size
      by_count handle version size g zero is = new handle version size is g
      by_count handle version size g (suc count) is = sized_still handle version size (omega (arith, is)) g

pub round_sizes_go_on : RoundSizesGoOn
round_sizes_go_on config servers clients w r e choice clocks k j reached led alike made old new sized handle version size g =
    by_count config servers clients w r e choice clocks k j reached led alike made old new sized handle version size g (grants_of handle version w.sent) refl

-- beside a world

module _ (config : Config) (servers clients : ℕ) (w : WorldState) (r : IsReached config servers clients w) (e : Event) (choice : Choice) (clocks : IsTrue (happens w e choice).world.observer.are_clocks_kept)
    (ss : List PendingSnapshot) (k : ChunkSides) (h : IsBeside config w ss k)
  where
    -- the machine has made the files of the log
    pub files_made : k.log.next_file ≤ suc k.machine.file_count
    files_made = let next = h.named.alike.next in let count = h.same.count in omega (arith, next, count)

    -- However the machine goes on, where what is granted anew is so.
    pub sizes_on : (j : ChunkSides) → LeadsTo k.machine j.machine
        → ((handle version : ℕ) (s : Spot) → 1 ≤ grants_of handle version w.sent → IsRoundOpen k handle version s → IsLeaseOver (happens w e choice).world handle version ⊎ IsRoundOpen j handle version s)
        → ((handle version size : ℕ) → grants_of handle version w.sent ≡ 0 → IsSizeGranted (happens w e choice).world.sent handle version size
        → IsLeaseOver (happens w e choice).world handle version ⊎ IsOpenWithSize j handle version size)
        → AreRoundsSized (happens w e choice).world j
    sizes_on j led old new = round_sizes_go_on config servers clients w r e choice clocks k j (h.run.0, h.run.1, h.run.3) led h.chunks.alike files_made old new h.sized

    -- at an event that is none of the master's, which leaves the log
    module _ (not : IsMastersEvent w e → ⊥) (orders : Table (List Placed)) (n : Machine) (led : LeadsTo k.machine n)
        (b : AreChunksBeside config (happens w e choice).world (record { log = k.log; gone = k.gone; orders = orders; machine = n }))
      where
        abbrev j : ChunkSides
        j = record { log = k.log; gone = k.gone; orders = orders; machine = n }

        abbrev v : WorldState
        v = (happens w e choice).world

        old : (handle version : ℕ) (s : Spot) → 1 ≤ grants_of handle version w.sent → IsRoundOpen k handle version s → IsLeaseOver v handle version ⊎ IsRoundOpen j handle version s
        old handle version s some was_open = elim (b.rounds handle version) [
          | inl over ↦ inl over
          | inr now ↦ elim (leased_chunks_stand_once config servers clients v (reached_later config servers clients w ((e, choice) ∷ []) r) clocks j b.log handle version) [
            | inl over ↦ inl over
            | inr nowhere ↦ inr (subst (λ (t : Spot). IsRoundOpen j handle version t) (places_are_one j b.alike handle now.0 s nowhere (now.1).place was_open.place) now.1)
          ]
        ]

        new : (handle version size : ℕ) → grants_of handle version w.sent ≡ 0 → IsSizeGranted v.sent handle version size → IsLeaseOver v handle version ⊎ IsOpenWithSize j handle version size
        new handle version size none g =
            let some = size_counts handle version size v.sent g in
            let few = holds_after w (λ e x. (IsMastersStep w e → IsFalse x.world.master.up) → GrantsNoMore w handle version x.world) (none_granted w handle version) e choice (λ is. absurd (not (masters_step w e is))) in
            absurd (omega (arith, none, some, few))

        pub sizes_beside : AreRoundsSized v j
        sizes_beside = sizes_on j led old new
