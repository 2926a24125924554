-- Open rounds go with the leases from one world to the next.
use Rattle.std.proofs.Common.{◌≡◌, ◌⊎◌, ℕ, zero, suc, ◌≤◌, List, [], ◌∷◌, Option, Some, refl, sym, ap, subst, ◌∙◌, inl, inr, arith}
use Rattle.std.specs.Prelude.{unwrap_or, IsTrue}
use Rattle.std.specs.FinMap as table
use Rattle.gfs_types.specs.declared.config.Config.{Config}
use Rattle.messages.specs.declared.event.Event.{Event}
use Rattle.chunk_table.specs.ChunkTable.{ChunkRow, handles_of, chunk_of}
use Rattle.protocol.specs.Choice.{Choice}
use Rattle.protocol.specs.Tables.{element_at}
use Rattle.protocol.specs.World.{WorldState, IsReached, happens}
use Rattle.laws_base.specs.Laws.{HasAllReferences, times_in, grants_of}
use Rattle.laws_base.proofs.Steps.{none_some, same_or_not, gone_other}
use Rattle.laws_base.proofs.Owners.{stands, times_gone, times_at_least, placed_stands}
use Rattle.laws_base.specs.Versions.{IsLeaseOver, AreLeasesOver}
use Rattle.laws_base.proofs.LeasesStayOver.{reached_later, leases_stay_over}
use Rattle.laws_base.proofs.EndedLeases.{over_leases_number_nothing}
use Rattle.protocol_invariant.specs.Actions.{Spot}
use Rattle.laws_machine.specs.ChunksAlike.{ChunkSides, StandsAt, StoodAt, IsRoundOpen, KeepsRounds, HasRounds}
use Rattle.laws_machine.specs.EntrySteps.{StandsNowhereElse}
use Rattle.laws_machine.specs.OpenRounds.{NewRoundsAreOpen, RoundsGoWithLeases, CountingRoundsAreOpen, ChunksOfOneOwnerStandOnce, RoundsAreOpenAtTheirPlace}
use Rattle.laws_machine.proofs.Sides.{gone_or_there, same_spot}
use Rattle.laws_machine.proofs.Rows.{one_place}
use Rattle.laws_versions.proofs.LeasesBelow.{none_granted_over}

-- what was never granted is over
pub ungranted_is_over : (config : Config) (servers clients : ℕ) (w : WorldState) → IsReached config servers clients w → (handle version : ℕ) → grants_of handle version w.sent ≡ 0 → IsLeaseOver w handle version
ungranted_is_over config servers clients w r handle version none = none_granted_over config servers clients w r handle version (omega (arith, none))

module _ (config : Config) (servers clients : ℕ) (w : WorldState) (r : IsReached config servers clients w) (e : Event) (choice : Choice) (kept : IsTrue (happens w e choice).world.observer.are_clocks_kept)
    (k j : ChunkSides) (has : HasRounds (IsLeaseOver w) k) (keeps : KeepsRounds (λ handle. AreLeasesOver w handle ⊎ AreLeasesOver (happens w e choice).world handle) k j)
    (new : NewRoundsAreOpen w (happens w e choice).world j) where
  abbrev then_ : WorldState
  then_ = (happens w e choice).world

  abbrev Goes : ℕ → ℕ → Type 0
  Goes handle version = IsLeaseOver then_ handle version ⊎ ((s : Spot) × IsRoundOpen j handle version s)

  over_still : (handle version : ℕ) → 1 ≤ grants_of handle version w.sent → IsLeaseOver w handle version → IsLeaseOver then_ handle version
  over_still handle version granted over = leases_stay_over config servers clients w r handle version granted over ((e, choice) ∷ []) kept

  open_still : (handle version : ℕ) → 1 ≤ grants_of handle version w.sent → (s : Spot) → IsRoundOpen k handle version s → Goes handle version
  open_still handle version granted s was_open = elim (keeps handle version s was_open) [
    | inl ended ↦ elim ended [
      | inl before ↦ inl (over_still handle version granted (before version))
      | inr after ↦ inl (after version)
    ]
    | inr still ↦ inr (s, still)
  ]

  granted_before : (handle version : ℕ) → 1 ≤ grants_of handle version w.sent → Goes handle version
  granted_before handle version granted = elim (has handle version) [
    | inl over ↦ inl (over_still handle version granted over)
    | inr was_open ↦ open_still handle version granted was_open.0 was_open.1
  ]

  by_before : (handle version : ℕ) → 1 ≤ grants_of handle version then_.sent → (count : ℕ) → grants_of handle version w.sent ≡ count → Goes handle version
  by_before handle version some zero is = inr (new handle version is some)
  by_before handle version some (suc count) is = granted_before handle version (omega (arith, is))

  by_count : (handle version : ℕ) (count : ℕ) → grants_of handle version then_.sent ≡ count → Goes handle version
  by_count handle version zero is = inl (ungranted_is_over config servers clients then_ (reached_later config servers clients w ((e, choice) ∷ []) r) handle version is)
  by_count handle version (suc count) is = by_before handle version (omega (arith, is)) (grants_of handle version w.sent) refl

pub rounds_go_with_leases : RoundsGoWithLeases
rounds_go_with_leases config servers clients w r e choice kept k j has keeps new handle version =
    by_count config servers clients w r e choice kept k j has keeps new handle version (grants_of handle version (happens w e choice).world.sent) refl

pub counting_rounds_are_open : CountingRoundsAreOpen
counting_rounds_are_open config servers clients w r k has moment kept index s at handle version p is = elim (has handle version) [
  | inl over ↦ none_some p (sym (over_leases_number_nothing config servers clients w r handle version over moment kept index s at) ∙ is)
  | inr was_open ↦ was_open
]

-- where handles stand

module _ (k : ChunkSides) (handle : ℕ) (row : ChunkRow) (all : HasAllReferences k.log.table) (is : chunk_of k.log.table handle ≡ Some row) (few : row.references ≤ 1) where
  few_times : times_in k.log.table.files handle ≤ 1
  few_times = let references = all.0 handle row is in let low = few in omega (arith, references, low)

  some_at : (s : Spot) → StandsAt k.log.table handle s → 1 ≤ stands handle (handles_of k.log.table s.file)
  some_at s at = placed_stands (handles_of k.log.table s.file) s.index handle at

  same_file : (s other : Spot) → s.file ≡ other.file → StandsAt k.log.table handle s → StandsAt k.log.table handle other → s ≡ other
  same_file s other same at there =
      let low = times_at_least k.log.table.files other.file handle in
      let most = few_times in
      same_spot s other same
      (one_place (handles_of k.log.table other.file) handle s.index other.index (omega (arith, low, most)) (ap (λ (n : ℕ). element_at (handles_of k.log.table n) s.index) (sym same) ∙ at) there)

  other_file : (s other : Spot) → (other.file ≡ s.file → ⊥) → StandsAt k.log.table handle s → StandsAt k.log.table handle other → ⊥
  other_file s other differs at there =
      let whole = times_gone k.log.table.files s.file handle in
      let one = some_at s at in
      let rest = times_at_least (table.remove k.log.table.files s.file) other.file handle in
      let more = subst (λ (o : Option (List ℕ)). 1 ≤ stands handle (unwrap_or o [])) (sym (gone_other k.log.table.files s.file other.file differs)) (some_at other there) in
      let most = few_times in
      omega (arith, whole, one, rest, more, most)

  once : StandsNowhereElse k handle
  once s other at there = elim (same_or_not other.file s.file) [
    | inl same ↦ same_file s other (sym same) at there
    | inr differs ↦ absurd (other_file s other differs at there)
  ]

pub chunks_of_one_owner_stand_once : ChunksOfOneOwnerStandOnce
chunks_of_one_owner_stand_once k handle row all is few = once k handle row all is few

pub rounds_are_open_at_their_place : RoundsAreOpenAtTheirPlace
rounds_are_open_at_their_place w k h has handle version s nowhere at = elim (has handle version) [
  | inl over ↦ inl over
  | inr was_open ↦ inr (here was_open.0 was_open.1 was_open.1.place)
]
  where
    here : (found : Spot) → IsRoundOpen k handle version found → StandsAt k.log.table handle found ⊎ StoodAt k handle found → IsRoundOpen k handle version s
    here found was_open (inl stand) = subst (λ (x : Spot). IsRoundOpen k handle version x) (nowhere found s stand at) was_open
    here found was_open (inr stood) = absurd (gone_or_there k h handle s at found stood)
