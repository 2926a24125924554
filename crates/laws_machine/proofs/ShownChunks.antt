-- What is shown of files, from each world to the next: while the master is up, the files of its log; while it is down, what was shown before, and nothing is granted.
use Rattle.std.proofs.Common.{◌≡◌, ◌⊎◌, ℕ, zero, suc, ◌<◌, Bool, true, false, true≢false, List, [], ◌∷◌, Option, Some, None, refl, sym, ap, subst, ◌∙◌, inl, inr, arith}
use Rattle.std.specs.Prelude.{if◌then◌else◌, IsTrue, IsFalse}
use Rattle.std.specs.FinMap as table
use Rattle.gfs_types.specs.declared.answer.Answer.{Answer}
use Rattle.gfs_types.specs.declared.config.Config.{Config}
use Rattle.messages.specs.declared.event.Event.{Event}
use Rattle.protocol.specs.Choice.{Choice}
use Rattle.protocol.specs.ClientStep.{client_step, client_call}
use Rattle.protocol.specs.Logged.{Logged}
use Rattle.protocol.specs.Master.{MasterState}
use Rattle.protocol.specs.MasterStep.{master_step, master_restart}
use Rattle.protocol.specs.Observer.{Observer, observed_moment, observed_answer}
use Rattle.protocol.specs.Tables.{Table}
use Rattle.protocol.specs.World.{WorldState, files_seen, happens, IsReached}
use Rattle.laws_base.specs.Laws.{grants_of}
use Rattle.laws_base.proofs.Steps.{none_some}
use Rattle.laws_base.specs.Versions.{IsLeaseOver}
use Rattle.laws_base.proofs.Events.{with_call, HoldsAfter, holds_after, world_reached}
use Rattle.laws_base.proofs.LeasesStayOver.{reached_later, leases_stay_over}
use Rattle.laws_versions.proofs.MasterRows.{rows_are_of_used_handles}
use Rattle.protocol_invariant.specs.Actions.{Spot}
use Rattle.laws_machine.specs.ChunksAlike.{ChunkSides, StandsAt, StoodAt, IsRoundOpen, AreChunksAlike, KeepsRounds, HasRounds, chunk_in, entries_in}
use Rattle.laws_machine.specs.EntrySteps.{StandsNowhereElse}
use Rattle.laws_machine.proofs.Sides.{stands_in, listed, one_handle, alike_at, gone_or_there}
use Rattle.laws_machine.specs.Rounds.{IsLogOf, IsMastersStep, IsEnded}
use Rattle.laws_machine.specs.ServerSteps.{AreGoneOrdersAlike}
use Rattle.laws_machine.specs.ChunksBeside.{IsMastersEvent}
use Rattle.laws_machine.specs.HoldersApart.{IsRoundAt, IsApart, KeepsStanding}
use Rattle.laws_machine.specs.ToldHolders.{AreHoldersTold, HoldersMayGoOn}
use Rattle.laws_machine.specs.ShownChunks.{AreShownStanding}
use Rattle.laws_machine.proofs.EndedRounds.{GrantsNoMore, none_granted, leased_chunks_stand_once, open_rounds_have_one_spot}
use Rattle.laws_machine.proofs.HoldersOn as on
use Rattle.laws_machine.proofs.MasterHolders as master
use Rattle.laws_machine.proofs.ToldStanding.{stands_for_itself}
use Rattle.laws_machine.proofs.OpenRounds.{ungranted_is_over}

-- while the master is up, its files are shown

abbrev AreSeen : WorldState → Type 0
AreSeen w = IsTrue w.master.up → w.observer.files ≡ w.master.logged.table.files

files_of : (m : MasterState) (before : Table (List ℕ)) → IsTrue m.up → files_seen m before ≡ m.logged.table.files
files_of m before up = ap (λ (b : Bool). if b then m.logged.table.files else before) up

answer_files : (o : Observer) (client : ℕ) (a : Option Answer) → (observed_answer o client a).files ≡ o.files
answer_files o client None = refl
answer_files o client (Some reply) = refl

seen_on : (w : WorldState) → AreSeen w → HoldsAfter w (λ e x. AreSeen x.world)
seen_on w h =
    record {
      nothing = λ e. h;
      masters = λ e moment i choice given was up. files_of (master_step w.master moment i choice).state w.observer.files up;
      opens = λ e moment choice up. files_of (master_restart w.master moment choice).state w.observer.files up;
      serves = λ e index moment s i choice there given was. h;
      restarts = λ e index moment s choice there. h;
      steps = λ e index moment s i choice there given was up. answer_files (observed_moment w.config.skew_ms w.observer moment) (suc index) (client_step s moment i choice).out.answer ∙ h up;
      calls = λ e index moment s c choice there may up. answer_files (observed_moment w.config.skew_ms (with_call w index moment c).observer moment) (suc index) (client_call s moment c choice).out.answer ∙ h up;
      rots = λ e index q s x place byte ending is_kept there held was. h;
    }

pub files_are_seen : (config : Config) (servers clients : ℕ) (w : WorldState) → IsReached config servers clients w → IsTrue w.master.up → w.observer.files ≡ w.master.logged.table.files
files_are_seen config servers clients w r up = world_reached AreSeen seen_on (λ c n m up. refl) config servers clients w r up

-- an event after which it is down leaves what is shown

files_before : (m : MasterState) (before : Table (List ℕ)) → IsFalse m.up → files_seen m before ≡ before
files_before m before down = ap (λ (b : Bool). if b then m.logged.table.files else before) down

files_left : (w : WorldState) → HoldsAfter w (λ e x. IsFalse x.world.master.up → x.world.observer.files ≡ w.observer.files)
files_left w =
    record {
      nothing = λ e down. refl;
      masters = λ e moment i choice given was down. files_before (master_step w.master moment i choice).state w.observer.files down;
      opens = λ e moment choice down. files_before (master_restart w.master moment choice).state w.observer.files down;
      serves = λ e index moment s i choice there given was down. refl;
      restarts = λ e index moment s choice there down. refl;
      steps = λ e index moment s i choice there given was down. answer_files (observed_moment w.config.skew_ms w.observer moment) (suc index) (client_step s moment i choice).out.answer;
      calls = λ e index moment s c choice there may down. answer_files (observed_moment w.config.skew_ms (with_call w index moment c).observer moment) (suc index) (client_call s moment c choice).out.answer;
      rots = λ e index q s x place byte ending is_kept there held was down. refl;
    }

-- what is shown while the master is up

module _ (config : Config) (servers clients : ℕ) (w : WorldState) (r : IsReached config servers clients w) (clocks : IsTrue w.observer.are_clocks_kept) (up : IsTrue w.master.up) (k : ChunkSides) (log : IsLogOf w.master k.log) (alike : AreChunksAlike k) where
  log_is : k.log ≡ w.master.logged
  log_is = by_log log
    where
      by_log : IsLogOf w.master k.log → k.log ≡ w.master.logged
      by_log (inl here) = here.1
      by_log (inr down) = absurd (true≢false (sym up ∙ down.0))

  files : k.log.table.files ≡ w.observer.files
  files = ap (λ (l : Logged). l.table.files) log_is ∙ sym (files_are_seen config servers clients w r up)

  used_handle : (handle : ℕ) (s : Spot) → StandsAt k.log.table handle s → handle < k.log.next_handle
  used_handle handle s stood =
      let found = alike_at k alike handle s stood in
      subst (λ (l : Logged). handle < l.next_handle) (sym log_is)
      ((rows_are_of_used_handles config servers clients w r handle found.0 (inl (up, ap (λ (l : Logged). table.get l.table.chunks handle) (sym log_is) ∙ found.1))).1 up)

  -- a chunk in the log is at its place alone, or its leases are over
  module _ (handle : ℕ) (s : Spot) (stood : StandsAt k.log.table handle s) where
    its_place : (t : Spot) → StandsNowhereElse k handle → StandsAt k.log.table handle t ⊎ StoodAt k handle t → t ≡ s
    its_place t once (inl there) = once t s there stood
    its_place t once (inr gone) = absurd (gone_or_there k alike handle s stood t gone)

    its_handle : (other : ℕ) (t : Spot) → t ≡ s → StandsAt k.log.table other t ⊎ StoodAt k other t → other ≡ handle
    its_handle other t same (inl there) = one_handle k.log.table other handle s (subst (λ (u : Spot). StandsAt k.log.table other u) same there) stood
    its_handle other t same (inr gone) =
        let found = listed k.log.table handle s stood in
        none_some found.0 (sym (alike.gone other t gone.0).collected ∙ (ap (λ (u : Spot). table.get k.log.table.files u.file) same ∙ found.1))

    stands_apart : (version : ℕ) → IsApart (IsLeaseOver w) k handle version s
    stands_apart version other round t there low = elim (leased_chunks_stand_once config servers clients w r clocks k log other round) [
      | inl over ↦ inl over
      | inr once ↦
          inr (
            λ same. its_place t (subst (λ (n : ℕ). StandsNowhereElse k n) same once) (subst (λ (n : ℕ). StandsAt k.log.table n t ⊎ StoodAt k n t) same there.place),
            λ same. its_handle other t same there.place,
          )
    ]

  pub shown_begun : AreShownStanding w k
  shown_begun file handles is index handle at =
      let stood : StandsAt k.log.table handle (record { file = file; index = index }) = stands_in k.log.table file index handle handles (ap (λ (t : Table (List ℕ)). table.get t file) files ∙ is) at in (
        used_handle handle (record { file = file; index = index }) stood,
        λ version. record { stands = stands_for_itself k alike file index handle stood version; apart = stands_apart handle (record { file = file; index = index }) stood version },
      )

-- from one world to the next

module _ (config : Config) (servers clients : ℕ) (w : WorldState) (r : IsReached config servers clients w) (e : Event) (choice : Choice) (clocks : IsTrue (happens w e choice).world.observer.are_clocks_kept) where
  abbrev then_ : WorldState
  then_ = (happens w e choice).world

  later : IsReached config servers clients then_
  later = reached_later config servers clients w ((e, choice) ∷ []) r

  left_down : IsFalse then_.master.up → then_.observer.files ≡ w.observer.files
  left_down = holds_after w (λ e x. IsFalse x.world.master.up → x.world.observer.files ≡ w.observer.files) (files_left w) e choice

  -- at an event that leaves the master
  same_files : then_.master ≡ w.master → then_.observer.files ≡ w.observer.files
  same_files left = by_up w.master.up refl
    where
      by_up : (b : Bool) → w.master.up ≡ b → then_.observer.files ≡ w.observer.files
      by_up true up =
          files_are_seen config servers clients then_ later (ap (λ (m : MasterState). m.up) left ∙ up) ∙ (ap (λ (m : MasterState). m.logged.table.files) left ∙ sym (files_are_seen config servers clients w r up))
      by_up false down = left_down (ap (λ (m : MasterState). m.up) left ∙ down)

  pub shown_goes_on : (IsMastersStep w e → ⊥) → then_.master ≡ w.master → (k j : ChunkSides) → k.log.next_handle ≡ j.log.next_handle → KeepsStanding (IsLeaseOver w) k j → AreShownStanding w k → AreShownStanding then_ j
  shown_goes_on not left k j next keeps shown file handles is index handle at =
      let it = shown file handles (ap (λ (t : Table (List ℕ)). table.get t file) (sym (same_files left)) ∙ is) index handle at in (
        subst (λ (n : ℕ). handle < n) next it.0,
        λ version. on.standing_on config servers clients w r e choice clocks (λ is. absurd (not is)) k j keeps file index handle version (it.1 version),
      )

  -- at an event of the master
  module _ (is : IsMastersEvent w e) (k j : ChunkSides) (log : IsLogOf w.master k.log) (before : k.orders ≡ w.observer.orders) (rounds : HasRounds (IsLeaseOver w) k) (told : AreHoldersTold w k) (log_after : IsLogOf then_.master j.log)
      (after : j.orders ≡ then_.observer.orders) (alike : AreChunksAlike j) (gone : AreGoneOrdersAlike j) (keeps : KeepsRounds (IsEnded w then_) k j) (may : HoldersMayGoOn w then_ k j)
    where
      module _ (down : IsFalse then_.master.up) where
        -- a chunk has its handle's order, so a round there is the handle's
        round_open : (other round : ℕ) (t : Spot) → IsRoundAt j other round t → IsRoundOpen j other round t
        round_open other round t at = record { place = at.place; order = order_there at.place; round = at.round; is_open = at.is_open }
          where
            order_there : StandsAt j.log.table other t ⊎ StoodAt j other t → entries_in j.orders other ≡ (chunk_in j.machine t).order
            order_there (inl there) = (alike_at j alike other t there).2.order
            order_there (inr stood) = gone other t stood

        granted_before : (other round : ℕ) (t : Spot) → IsRoundAt j other round t → (count : ℕ) → grants_of other round w.sent ≡ suc count → IsLeaseOver then_ other round ⊎ IsRoundAt k other round t
        granted_before other round t at count some = elim (rounds other round) [
          | inl over ↦ inl (leases_stay_over config servers clients w r other round (omega (arith, some)) over ((e, choice) ∷ []) clocks)
          | inr was ↦ by_end was.0 was.1 (keeps other round was.0 was.1)
        ]
          where
            by_end : (s : Spot) → IsRoundOpen k other round s → IsEnded w then_ other ⊎ IsRoundOpen j other round s → IsLeaseOver then_ other round ⊎ IsRoundAt k other round t
            by_end s was (inl ended) = inl (ended round (omega (arith, some)))
            by_end s was (inr still) = elim (leased_chunks_stand_once config servers clients then_ later clocks j log_after other round) [
              | inl over ↦ inl over
              | inr once ↦
                  inr (subst (λ (u : Spot). IsRoundAt k other round u) (open_rounds_have_one_spot j alike other round round s t once still (round_open other round t at)) (record { place = was.place; round = was.round; is_open = was.is_open }))
            ]

        -- nothing is granted, so each round that lasts was open at its place before
        lasted : (other round : ℕ) (t : Spot) → IsRoundAt j other round t → IsLeaseOver then_ other round ⊎ IsRoundAt k other round t
        lasted other round t at = by_count (grants_of other round w.sent) refl
          where
            few : GrantsNoMore w other round then_
            few = holds_after w (λ e x. (IsMastersStep w e → IsFalse x.world.master.up) → GrantsNoMore w other round x.world) (none_granted w other round) e choice (λ is. down)

            by_count : (count : ℕ) → grants_of other round w.sent ≡ count → IsLeaseOver then_ other round ⊎ IsRoundAt k other round t
            by_count zero none = inl (ungranted_is_over config servers clients then_ later other round (omega (arith, none, few)))
            by_count (suc count) some = granted_before other round t at count some

        apart_on : (handle version : ℕ) (s : Spot) → IsApart (IsLeaseOver w) k handle version s → IsApart (IsLeaseOver then_) j handle version s
        apart_on handle version s apart other round t at low = elim (lasted other round t at) [
          | inl over ↦ inl over
          | inr was ↦ elim (apart other round t was low) [
            | inl over ↦ inl (on.over_on config servers clients w r e choice clocks (λ is. down) other round over)
            | inr both ↦ inr both
          ]
        ]

        still_shown : AreShownStanding w k → AreShownStanding then_ j
        still_shown shown file handles is_shown index handle at =
            let it = shown file handles (ap (λ (t : Table (List ℕ)). table.get t file) (sym (left_down down)) ∙ is_shown) index handle at in (
              (let low = it.0 in let more = may.next in omega (arith, low, more)),
              λ version. master.standing_on config servers clients w r e choice is k j log before after told may file index handle version it.0 (apart_on handle version (record { file = file; index = index })) (it.1 version),
            )

      pub masters_events_keep_shown : AreShownStanding w k → AreShownStanding then_ j
      masters_events_keep_shown shown = by_up then_.master.up refl
        where
          by_up : (b : Bool) → then_.master.up ≡ b → AreShownStanding then_ j
          by_up true up = shown_begun config servers clients then_ later clocks up j log_after alike
          by_up false down = still_shown down shown
