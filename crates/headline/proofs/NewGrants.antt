-- What is granted at an event is apart from what was told before: no number up to a told version is granted of the told chunk but while it stands at its place, nor of another chunk that takes the place.
use Rattle.std.proofs.Common.{◌≡◌, ◌⊎◌, ℕ, zero, suc, ◌≤◌, true, false, List, [], ◌∷◌, Some, refl, sym, ap, subst, ◌∙◌, inl, inr, arith}
use Rattle.std.specs.Prelude.{IsTrue}
use Rattle.std.specs.FinMap as table
use Rattle.gfs_types.specs.declared.config.Config.{Config}
use Rattle.messages.specs.declared.event.Event.{Event}
use Rattle.messages.specs.declared.event.NodeInput.TheVariants as input
use Rattle.messages.specs.declared.message.Holder.{Holder}
use Rattle.messages.specs.declared.message.Location.{Location}
use Rattle.chunk_table.specs.ChunkTable.{ChunkRow, chunk_of, file_of}
use Rattle.protocol.specs.Tables.{element_at}
use Rattle.protocol.specs.Choice.{Choice, decided_changes}
use Rattle.protocol.specs.Logged.{Logged, log_changed_by_all}
use Rattle.protocol.specs.Master.{MasterState}
use Rattle.protocol.specs.World.{WorldState, new_world, happens, after_events, IsReached}
use Rattle.laws_base.specs.Laws.{grants_of}
use Rattle.laws_base.proofs.Steps.{none_some, same_some}
use Rattle.laws_base.proofs.OrderNumbers.{state_of}
use Rattle.laws_base.specs.Versions.{IsLeaseOver}
use Rattle.laws_base.specs.Reads.{IsTold}
use Rattle.laws_base.proofs.EndedLeases.{attempted_chunks_have_no_lease}
use Rattle.laws_base.proofs.Events.{holds_after}
use Rattle.laws_base.proofs.Histories.{SentIn, sent_in, after_both}
use Rattle.laws_base.proofs.IssuedNumbers.{IsPassed}
use Rattle.laws_base.proofs.LeasesStayOver.{reached_later}
use Rattle.laws_base.proofs.GrantsFollow.{HasPassed}
use Rattle.laws_versions.specs.ReplacedChunks.{IsToldAt}
use Rattle.laws_versions.proofs.AskedSteps.{StandsAt, IsToldOf}
use Rattle.laws_versions.proofs.ClosedVersions.{clocks_before}
use Rattle.laws_versions.proofs.PlacesTaken.{IsTaken, ArePlacesTaken}
use Rattle.laws_versions.proofs.ReplacedChunks.{each_passed, kept_before}
use Rattle.laws_versions.proofs.ToldAnswers.{told_now}
use Rattle.laws_machine.proofs.OrderedHolders.{told_holders_were_ordered}
use Rattle.protocol_invariant.specs.Actions.{Spot}
use Rattle.laws_machine.specs.ChunksAlike.{ChunkSides, StoodAt, AreChunksAlike}
use Rattle.laws_machine.specs.ChunksAlike as sides
use Rattle.laws_machine.proofs.Sides.{listed}
use Rattle.laws_machine.specs.Rounds.{IsLogOf}
use Rattle.laws_machine.specs.GrantedRecords.{IsAttempted}
use Rattle.laws_machine.proofs.EndedRounds.{leased_chunks_stand_once}
use Rattle.laws_machine.proofs.PassedRounds.{passed_on, tells_passed}
use Rattle.headline.specs.RoundsApart.{IsNewGrant, AreGrantsApart}
use Rattle.headline.specs.GrantingSteps.{KeepsFiles}
use Rattle.headline.specs.HoldersGoOn.{NewGrantsAreApart}
use Rattle.headline.proofs.GrantingSteps.{IsGrantingStep, goes_up, granting_step}
use Rattle.headline.proofs.GrantedRows.{granted_chunks_stay, unsourced_here}
use Rattle.headline.proofs.PinnedHandles.{IsFor, IsLow, IsPinned, taken_here, taken_after, pinned_at, pinned_on, places_after}
use Rattle.headline.proofs.ToldStands.{told_in}

-- numbers that the master has passed

low_passed : (q version low : ℕ) → low ≤ version → (l : Logged) → IsPassed q version l → IsPassed q low l
low_passed q version low less l h = (h.0, λ row is. let most = h.1 row is in omega (arith, most, less))

passed_low : (q version low : ℕ) → low ≤ version → (m : MasterState) → HasPassed q version m → HasPassed q low m
passed_low q version low less m h =
    record {
      found = λ decided. low_passed q version low less (state_of (log_changed_by_all m.disk (decided_changes decided m.under_way))) (h.found decided);
      up = λ up. let now = h.up up in (low_passed q version low less m.logged now.0, λ row is a at. let above = now.1 row is a at in omega (arith, above, less));
    }

module _ (config : Config) (servers clients : ℕ) (w : WorldState) (r : IsReached config servers clients w) (e : Event) (choice : Choice) (clocks : IsTrue (happens w e choice).world.observer.are_clocks_kept) where
  abbrev then_ : WorldState
  then_ = (happens w e choice).world

  later : IsReached config servers clients then_
  later = reached_later config servers clients w ((e, choice) ∷ []) r

  before : IsTrue w.observer.are_clocks_kept
  before = clocks_before w ((e, choice) ∷ []) clocks

  -- no number is granted that the master has passed
  not_passed : (q round version : ℕ) → round ≤ version → IsNewGrant w then_ q round → HasPassed q version w.master → ⊥
  not_passed q round version low new passed =
      let few = (holds_after w (λ e x. HasPassed q round x.world.master × (grants_of q round x.world.sent ≤ grants_of q round w.sent)) (each_passed config servers clients w r q round (passed_low q version round low w.master passed)) e choice).1 in
      omega (arith, few, new)

  -- nor is 0
  not_first : (q round : ℕ) → round ≤ 0 → IsNewGrant w then_ q round → ⊥
  not_first q round low new =
      let g = granted_chunks_stay config servers clients w r before e choice q round new in
      let a : IsAttempted w.master q round = g.1 in
      let above = (attempted_chunks_have_no_lease config servers clients w r before g.0 q a.attempt a.at a.row a.row_is).0 in
      let same = a.same in
      omega (arith, low, above, same)

  module _ (j : ChunkSides) (log : IsLogOf (happens w e choice).world.master j.log) (file index handle version : ℕ) (pinned : IsPinned file index handle version w) where
    abbrev s : Spot
    s = record { file = file; index = index }

    module _ (other round : ℕ) (t : Spot) (new : IsNewGrant w (happens w e choice).world other round) (low : round ≤ version) where
      g : IsGrantingStep w other round (happens w e choice).world.master
      g = granting_step config servers clients w r before other round e choice new

      stays : IsTrue w.master.up × IsAttempted w.master other round × ((row : ChunkRow) × (chunk_of (happens w e choice).world.master.logged.table other ≡ Some row)) × KeepsFiles w.master.logged (happens w e choice).world.master.logged
      stays = granted_chunks_stay config servers clients w r before e choice other round new

      attempted : IsAttempted w.master other round
      attempted = g.attempted

      up_then : IsTrue (happens w e choice).world.master.up
      up_then = subst (λ (m : MasterState). IsTrue m.up) (sym g.goes) (goes_up w.master g.moment (input.Deliver g.message) g.refused g.up)

      log_is : j.log ≡ (happens w e choice).world.master.logged
      log_is = by_log log
        where
          by_log : IsLogOf (happens w e choice).world.master j.log → j.log ≡ (happens w e choice).world.master.logged
          by_log (inl is) = is.1
          by_log (inr is) = absurd (let both : true ≡ false = sym up_then ∙ is.0 in cc)

      -- it has its row
      not_stood : StoodAt j other t → ⊥
      not_stood stood = none_some stays.2.0 (sym stood.1 ∙ (ap (λ (l : Logged). chunk_of l.table other) log_is ∙ stays.2.1))

      -- what stands at the place after the event
      taken_by : (R : ℕ → Type 0) → ArePlacesTaken file index R (happens w e choice).world.master → (files : (handles : List ℕ) × (file_of (happens w e choice).world.master.logged.table file ≡ Some handles))
          → (q : ℕ) × StandsAt (happens w e choice).world.master.logged.table.files file index q × R q
      taken_by R places files =
          let taken : IsTaken file index R (happens w e choice).world.master.logged = places.up up_then in
          elim ((taken.1).1) [
            | inl stands ↦ (taken.0, stands, taken.2)
            | inr gone ↦ none_some files.0 (sym gone ∙ files.1)
          ]

      -- the told chunk itself: it stands at its place, before the event and after it
      itself : other ≡ handle → StandsAt (happens w e choice).world.master.logged.table.files file index other
      itself same = elim (pinned.tried before g.up attempted.attempt (ap (λ (n : ℕ). table.get w.master.attempts n) (sym same) ∙ attempted.at) (attempted.row, ap (λ (n : ℕ). chunk_of w.master.logged.table n) (sym same) ∙ attempted.row_is)) [
        | inl above ↦ absurd (let number = attempted.same in omega (arith, above, number, low))
        | inr stood ↦ after (subst (λ (n : ℕ). StandsAt w.master.logged.table.files file index n) (sym same) stood)
      ]
        where
          Itself : ℕ → Type 0
          Itself q = q ≡ other

          after : StandsAt w.master.logged.table.files file index other → StandsAt (happens w e choice).world.master.logged.table.files file index other
          after stood =
              let found = listed w.master.logged.table other s stood in
              let places : ArePlacesTaken file index Itself (happens w e choice).world.master =
              taken_after file index Itself config servers clients w r before (taken_here file index Itself config servers clients w r g.up other stood refl)
              (λ up copy c is source. absurd (unsourced_here config servers clients w r before g.up other round attempted (copy, c, is, source))) e choice in
              let now = taken_by Itself places (stays.3 file found.0 found.1) in
              subst (λ (q : ℕ). StandsAt (happens w e choice).world.master.logged.table.files file index q) now.2 now.1

      -- another chunk at the place
      another : StandsAt (happens w e choice).world.master.logged.table.files file index other → other ≡ handle
      another stands =
          let found = listed (happens w e choice).world.master.logged.table other s stands in
          let now = taken_by (IsFor file index handle version w) (places_after file index handle version config servers clients w r e choice pinned clocks) (found.0, found.1) in
          elim (now.2) [
            | inl same ↦ same_some other now.0 (sym stands ∙ now.1) ∙ same
            | inr passed ↦ absurd (not_passed other round version low new (subst (λ (q : ℕ). HasPassed q version w.master) (same_some now.0 other (sym now.1 ∙ stands)) passed))
          ]

      stands_now : sides.StandsAt j.log.table other t → sides.StandsAt (happens w e choice).world.master.logged.table other t
      stands_now there = subst (λ (l : Logged). sides.StandsAt l.table other t) log_is there

      by_place : sides.StandsAt j.log.table other t ⊎ StoodAt j other t → IsLeaseOver (happens w e choice).world other round ⊎ ((other ≡ handle → t ≡ s) × (t ≡ s → other ≡ handle))
      by_place (inr stood) = absurd (not_stood stood)
      by_place (inl there) = elim (leased_chunks_stand_once config servers clients then_ later clocks j log other round) [
        | inl over ↦ inl over
        | inr once ↦ inr (
          λ same. once t s there (subst (λ (l : Logged). sides.StandsAt l.table other s) (sym log_is) (itself same)),
          λ here. another (subst (λ (x : Spot). sides.StandsAt (happens w e choice).world.master.logged.table other x) here (stands_now there)),
        )
      ]

    pub grants_apart : AreGrantsApart w (happens w e choice).world j handle version (record { file = file; index = index })
    grants_apart other round t new low at = by_place other round t new low at.place

-- where it was told

module _ (config : Config) (servers clients : ℕ) (w : WorldState) (r : IsReached config servers clients w) (clocks : IsTrue w.observer.are_clocks_kept) (client file : ℕ) (l : Location) (t : IsTold w.sent client file l) where
  abbrev start : WorldState
  start = new_world config servers clients

  h : SentIn start r.0 (t.sent_is).0 t.told
  h = sent_in start r.0 (t.sent_is).0 t.told (omega arith) (ap (λ (v : WorldState). element_at v.sent (t.sent_is).0) r.1 ∙ (t.sent_is).1)

  abbrev was : WorldState
  was = after_events start h.before

  reached : IsReached config servers clients was
  reached = (h.before, refl)

  path : after_events was (h.step ∷ h.after) ≡ w
  path = sym (ap (λ (steps : List (Event × Choice)). after_events start steps) h.steps_are ∙ after_both start h.before (h.step ∷ h.after)) ∙ r.1

  clocks_was : IsTrue was.observer.are_clocks_kept
  clocks_was = kept_before w clocks was (h.step ∷ h.after) path

  abbrev next : WorldState
  next = (happens was h.step.0 h.step.1).world

  reached_next : IsReached config servers clients next
  reached_next = reached_later config servers clients was (h.step ∷ []) reached

  stands : IsTrue was.master.up × IsTrue next.master.up × StandsAt next.master.logged.table.files file l.index l.handle.0
  stands = told_in config servers clients w r was reached clocks_was h.step.0 h.step.1 h.after path client file l t h.unsent h.sent_is

  pinned : (version : ℕ) → IsLow file l.index l.handle.0 version next → IsPinned file l.index l.handle.0 version w
  pinned version low =
      subst (λ (v : WorldState). IsPinned file l.index l.handle.0 version v) path
      (pinned_on file l.index l.handle.0 version config servers clients next reached_next h.after (pinned_at file l.index l.handle.0 version config servers clients next reached_next stands.1 stands.2 low))

  -- a holder's version was ordered
  holder_pinned : (n : ℕ) (x : Holder) → element_at l.holders n ≡ Some x → IsPinned file l.index l.handle.0 x.version.0 w
  holder_pinned n x there = pinned x.version.0 (inl (x.server.0, told_holders_were_ordered config servers clients next reached_next (t.sent_is).0 t.number t.told l h.sent_is t.body_is n x there))

  -- a granted round was passed
  round_pinned : 1 ≤ l.round.0 → IsPinned file l.index l.handle.0 l.round.0 w
  round_pinned granted = pinned l.round.0 (inr (passed_on l.handle.0 l.round.0 config servers clients was reached (h.step ∷ []) (tells_passed config servers clients was reached now.0 file l now.1)).0)
    where
      at : IsToldAt w.sent client file l (t.sent_is).0
      at = record { number = t.number; asked = t.asked; told = t.told; sent_is = (t.sent_is).1; receiver_is = t.receiver_is; body_is = t.body_is; granted = granted }

      now : IsTrue was.master.up × IsToldOf was.master.logged file l
      now = told_now config servers clients w r was reached clocks_was h.step h.after path client file l (t.sent_is).0 at h.unsent h.sent_is

pub new_grants_are_apart : NewGrantsAreApart
new_grants_are_apart config servers clients w r e choice clocks j log alike client file l t version (inr holder) =
    subst (λ (v : ℕ). AreGrantsApart w (happens w e choice).world j l.handle.0 v (record { file = file; index = l.index })) (sym holder.3)
    (grants_apart config servers clients w r e choice clocks j log file l.index l.handle.0 (holder.1).version.0 (holder_pinned config servers clients w r (before config servers clients w r e choice clocks) client file l t holder.0 holder.1 holder.2))
new_grants_are_apart config servers clients w r e choice clocks j log alike client file l t version (inl round) =
    subst (λ (v : ℕ). AreGrantsApart w (happens w e choice).world j l.handle.0 v (record { file = file; index = l.index })) (sym round) (by_round l.round.0 refl)
  where
    by_round : (n : ℕ) → l.round.0 ≡ n → AreGrantsApart w (happens w e choice).world j l.handle.0 l.round.0 (record { file = file; index = l.index })
    by_round zero none = λ other number at new low is. absurd (not_first config servers clients w r e choice clocks other number (omega (arith, low, none)) new)
    by_round (suc n) some =
        grants_apart config servers clients w r e choice clocks j log file l.index l.handle.0 l.round.0 (round_pinned config servers clients w r (before config servers clients w r e choice clocks) client file l t (omega (arith, some)))
