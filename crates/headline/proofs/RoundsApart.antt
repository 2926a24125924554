-- Rounds stay apart over an event, but for those that are granted in it.
use Rattle.std.proofs.Common.{◌≡◌, ◌⊎◌, ℕ, zero, suc, ◌≤◌, [], ◌∷◌, refl, sym, ◌∙◌, subst, inl, inr, arith}
use Rattle.std.specs.Prelude.{IsTrue}
use Rattle.std.proofs.lemmas.Bool.{cases_lt}
use Rattle.gfs_types.specs.declared.config.Config.{Config}
use Rattle.messages.specs.declared.event.Event.{Event}
use Rattle.protocol.specs.Choice.{Choice}
use Rattle.protocol.specs.World.{WorldState, happens, IsReached}
use Rattle.laws_base.specs.Laws.{grants_of}
use Rattle.laws_base.proofs.Steps.{none_some}
use Rattle.laws_base.specs.Versions.{IsLeaseOver}
use Rattle.laws_base.proofs.LeasesStayOver.{reached_later, over_later}
use Rattle.protocol_invariant.specs.Actions.{Spot}
use Rattle.laws_machine.specs.ChunksAlike.{ChunkSides, StandsAt, StoodAt, IsRoundOpen, AreChunksAlike, KeepsRounds, HasRounds, chunk_in, entries_in}
use Rattle.laws_machine.proofs.Sides.{listed, alike_at, one_handle, gone_or_there}
use Rattle.laws_machine.specs.Rounds.{IsLogOf, IsEnded}
use Rattle.laws_machine.specs.ServerSteps.{AreGoneOrdersAlike}
use Rattle.laws_machine.specs.HoldersApart.{IsRoundAt, IsApart}
use Rattle.laws_machine.proofs.EndedRounds.{leased_chunks_stand_once, open_rounds_have_one_spot}
use Rattle.headline.specs.RoundsApart.{LoggedChunksAreApart, AreGrantsApart, RoundsStayApart}
use Rattle.laws_machine.proofs.OpenRounds.{ungranted_is_over}

pub logged_chunks_are_apart : LoggedChunksAreApart
logged_chunks_are_apart config servers clients w r clocks k log h handle s stands version other round t at low = by_place at.place
  where
    -- a chunk of a file that is there is no gone spot
    not_gone : (q : ℕ) → StoodAt k q s → ⊥
    not_gone q stood = let found = listed k.log.table handle s stands in none_some found.0 (sym ((h.gone q s stood.0).collected) ∙ found.1)

    by_place : StandsAt k.log.table other t ⊎ StoodAt k other t → IsLeaseOver w other round ⊎ ((other ≡ handle → t ≡ s) × (t ≡ s → other ≡ handle))
    by_place (inr stood) = inr (
      λ same. absurd (gone_or_there k h handle s stands t (subst (λ (n : ℕ). StoodAt k n t) same stood)),
      λ here. absurd (not_gone other (subst (λ (u : Spot). StoodAt k other u) here stood)),
    )
    by_place (inl there) = elim (leased_chunks_stand_once config servers clients w r clocks k log other round) [
      | inl over ↦ inl over
      | inr once ↦ inr (
        λ same. once t s there (subst (λ (n : ℕ). StandsAt k.log.table n s) (sym same) stands),
        λ here. one_handle k.log.table other handle s (subst (λ (u : Spot). StandsAt k.log.table other u) here there) stands,
      )
    ]

module _ (config : Config) (servers clients : ℕ) (w : WorldState) (r : IsReached config servers clients w) (e : Event) (choice : Choice) (clocks : IsTrue (happens w e choice).world.observer.are_clocks_kept) (k j : ChunkSides) (has : HasRounds (IsLeaseOver w) k)
    (keeps : KeepsRounds (IsEnded w (happens w e choice).world) k j) (log : IsLogOf (happens w e choice).world.master j.log) (h : AreChunksAlike j) (gone : AreGoneOrdersAlike j) where
  abbrev then_ : WorldState
  then_ = (happens w e choice).world

  later : IsReached config servers clients then_
  later = reached_later config servers clients w ((e, choice) ∷ []) r

  -- an open round is of a chunk with the handle's order
  open_of : (other round : ℕ) (t : Spot) → IsRoundAt j other round t → IsRoundOpen j other round t
  open_of other round t at = record { place = at.place; order = by_place at.place; round = at.round; is_open = at.is_open }
    where
      by_place : StandsAt j.log.table other t ⊎ StoodAt j other t → entries_in j.orders other ≡ (chunk_in j.machine t).order
      by_place (inl there) = (alike_at j h other t there).2.order
      by_place (inr stood) = gone other t stood

  -- what isn't granted in the event stays over
  still_over : (other round : ℕ) → grants_of other round then_.sent ≤ grants_of other round w.sent → IsLeaseOver w other round → IsLeaseOver then_ other round
  still_over other round few over = over_later config servers clients w r other round over ((e, choice) ∷ []) clocks few

  ended_over : (other round : ℕ) → grants_of other round then_.sent ≤ grants_of other round w.sent → IsEnded w then_ other → IsLeaseOver then_ other round
  ended_over other round few ended = by_count (grants_of other round w.sent) refl
    where
      by_count : (count : ℕ) → grants_of other round w.sent ≡ count → IsLeaseOver then_ other round
      by_count zero none = ungranted_is_over config servers clients then_ later other round (omega (arith, none, few))
      by_count (suc count) some = ended round (omega (arith, some))

  module _ (handle version : ℕ) (s : Spot) (apart : IsApart (IsLeaseOver w) k handle version s) where
    abbrev IsSo : ℕ → ℕ → Spot → Type 0
    IsSo other round t = IsLeaseOver then_ other round ⊎ ((other ≡ handle → t ≡ s) × (t ≡ s → other ≡ handle))

    -- a round that was open before is open at its spot
    open_before : (other round : ℕ) (t u : Spot) → grants_of other round then_.sent ≤ grants_of other round w.sent → round ≤ version → IsRoundAt j other round t → IsRoundOpen k other round u → IsSo other round t
    open_before other round t u few low at was = elim (keeps other round u was) [
      | inl ended ↦ inl (ended_over other round few ended)
      | inr still ↦ elim (leased_chunks_stand_once config servers clients then_ later clocks j log other round) [
        | inl over ↦ inl over
        | inr once ↦ by_spot (open_rounds_have_one_spot j h other round round u t once still (open_of other round t at))
      ]
    ]
      where
        by_spot : u ≡ t → IsSo other round t
        by_spot same = elim (apart other round u (record { place = was.place; round = was.round; is_open = was.is_open }) low) [
          | inl over ↦ inl (still_over other round few over)
          | inr both ↦ inr (λ is. sym same ∙ both.0 is, λ is. both.1 (same ∙ is))
        ]

    by_grants : AreGrantsApart w then_ j handle version s → IsApart (IsLeaseOver then_) j handle version s
    by_grants new other round t at low = elim (cases_lt (grants_of other round w.sent) (grants_of other round then_.sent)) [
      | inl more ↦ new other round t more low at
      | inr few ↦ elim (has other round) [
        | inl over ↦ inl (still_over other round few over)
        | inr was ↦ open_before other round t was.0 few low at was.1
      ]
    ]

pub rounds_stay_apart : RoundsStayApart
rounds_stay_apart config servers clients w r e choice clocks k j has keeps log h gone handle version s apart new =
    by_grants config servers clients w r e choice clocks k j has keeps log h gone handle version s apart new
