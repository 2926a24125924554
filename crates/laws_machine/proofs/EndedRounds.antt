-- Which rounds may end at an event, and that their leases are over.
use Rattle.std.proofs.Common.{◌≡◌, ◌⊎◌, ℕ, zero, suc, ◌≤◌, Bool, true, false, List, [], ◌∷◌, ◌++◌, length, Option, Some, None, is_some, true≢false, refl, sym, ap, subst, ◌∙◌, inl, inr, arith}
use Rattle.std.specs.Prelude.{IsTrue, IsFalse}
use Rattle.std.proofs.lemmas.Bool.{cases_lt}
use Rattle.gfs_types.specs.declared.config.Config.{Config}
use Rattle.gfs_types.specs.declared.ids.Handle.{Handle}
use Rattle.gfs_types.specs.declared.ids.Moment.{Moment}
use Rattle.gfs_types.specs.declared.ids.Node.TheVariants as node
use Rattle.gfs_types.specs.declared.ids.OrderNo.{OrderNo}
use Rattle.gfs_types.specs.declared.ids.Version.{Version}
use Rattle.messages.specs.declared.event.Event.{Event}
use Rattle.messages.specs.declared.event.Event.TheVariants as event
use Rattle.messages.specs.declared.event.NodeInput.{NodeInput}
use Rattle.messages.specs.declared.event.NodeInput.TheVariants as input
use Rattle.messages.specs.declared.message.Message.{Message}
use Rattle.messages.specs.declared.message.Body.{Body}
use Rattle.chunk_table.specs.ChunkTable.{ChunkRow, handles_of, chunk_of}
use Rattle.protocol.specs.Choice.{Choice, Ending, Goes, Lost, Stops}
use Rattle.protocol.specs.Seen.{Taken, no_step}
use Rattle.protocol.specs.Master.{MasterState, MasterDoing}
use Rattle.protocol.specs.Tables.{element_at}
use Rattle.protocol.specs.Sending.{handle_of, version_of}
use Rattle.protocol.specs.Logged.{Logged}
use Rattle.protocol.specs.ServerStep.{server_step, server_restart}
use Rattle.protocol.specs.MasterStep.{master_goes, master_ends, may_end, master_bounded, master_step, master_restart}
use Rattle.protocol.specs.ClientStep.{client_step, client_call}
use Rattle.protocol.specs.World.{WorldState, stamped, happens, IsReached}
use Rattle.laws_base.proofs.LeaseOrders.{SaysGrant, grant_parts, stated_grant}
use Rattle.laws_base.specs.Laws.{HasAllReferences, is_grant, grants_of}
use Rattle.laws_base.proofs.Steps.{on_cond, none_some, same_some, tally, count-cons}
use Rattle.laws_base.proofs.MasterMoves.{Nothing, NoneEnded, Keeps}
use Rattle.laws_base.proofs.MasterSteps.{goes_keeps}
use Rattle.laws_base.proofs.ClientMoves.{HasNoOrder, quiet_orders, client_quiet, call_quiet}
use Rattle.laws_base.proofs.SentReached.{server_quiet, server_restarts_quiet}
use Rattle.laws_base.proofs.NamesLogged.{references_are_counted}
use Rattle.laws_base.proofs.Owners.{placed_stands, times_at_least}
use Rattle.laws_base.specs.Versions.{IsLeaseOver, AreLeasesOver}
use Rattle.laws_base.specs.NewCopies.{HasNoLease}
use Rattle.laws_base.proofs.EndedLeases.{attempted_chunks_have_no_lease}
use Rattle.laws_base.proofs.Unleased.{new_copies_have_no_lease}
use Rattle.laws_base.proofs.LeasesStayOver.{reached_later, leases_stay_over}
use Rattle.laws_base.proofs.Histories.{step_grown, stood_before}
use Rattle.laws_base.proofs.Events.{IsGiven, HoldsAfter, holds_after}
use Rattle.laws_versions.proofs.ClosedVersions.{clocks_before}
use Rattle.laws_versions.proofs.CopiedSources.{copied_chunks_have_no_lease}
use Rattle.laws_versions.proofs.ExtendLaws.{restart_silent}
use Rattle.laws_versions.proofs.SharedChunks.{quiet_sent, shared_chunks_have_no_lease, shared_chunks_in_the_log_have_no_lease}
use Rattle.laws_versions.proofs.CopiedOrders.{copies_under_way_are_not_granted}
use Rattle.protocol_invariant.specs.Actions.{Spot}
use Rattle.laws_machine.specs.ChunksAlike.{ChunkSides, StandsAt, StoodAt, IsRoundOpen, KeepsRounds, HasRounds, AreChunksAlike}
use Rattle.laws_machine.specs.EntrySteps.{StandsNowhereElse}
use Rattle.laws_machine.specs.OpenRounds.{NewRoundsAreOpen}
use Rattle.laws_machine.proofs.Sides.{gone_or_there}
use Rattle.laws_machine.proofs.OpenRounds.{chunks_of_one_owner_stand_once, ungranted_is_over}
use Rattle.laws_machine.specs.Rounds.{IsLogOf, IsMastersStep, IsTried, IsCopied, IsCopy, IsBegun, IsShared, IsEnded, SentGrantsAreOpen, EachEventKeepsRounds, OtherEventsKeepRounds, SharedChunksInEachLogHaveNoLease, LeasedChunksStandOnce, OpenRoundsHaveOneSpot, EndedRoundsAreOver}
use Rattle.laws_machine.proofs.Decided.{decided_world, over_in, counted_in_each}
use Rattle.laws_base.proofs.SentGrants.{counted_one}

-- shared chunks, in each log

module _ (config : Config) (servers clients : ℕ) (w : WorldState) (r : IsReached config servers clients w) (clocks : IsTrue w.observer.are_clocks_kept) where
  shared_over : (l : Logged) → IsLogOf w.master l → (handle : ℕ) (row : ChunkRow) → chunk_of l.table handle ≡ Some row → 2 ≤ row.references → AreLeasesOver w handle
  shared_over l (inl is) handle row there owned =
      (shared_chunks_have_no_lease config servers clients w r clocks is.0 handle row (subst (λ (x : Logged). chunk_of x.table handle ≡ Some row) is.1 there) owned).1
  shared_over l (inr is) handle row there owned =
      let d = decided_world config servers clients w r clocks is.1 in
      let here = subst (λ (x : Logged). chunk_of x.table handle ≡ Some row) (is.2 ∙ sym d.log) there in
      λ version. over_in config servers clients w _ is.1 d handle version (shared_chunks_in_the_log_have_no_lease config servers clients _ d.reached d.clocks handle row here owned version)

  pub references_in : (l : Logged) → IsLogOf w.master l → HasAllReferences l.table
  references_in l (inl is) = subst (λ (x : Logged). HasAllReferences x.table) (sym is.1) (references_are_counted config servers clients w r is.0).0
  references_in l (inr is) = subst (λ (x : Logged). HasAllReferences x.table) (sym is.2) (counted_in_each config servers clients w r is.1)

  -- a chunk without a row stands nowhere
  module _ (k : ChunkSides) (is : IsLogOf w.master k.log) (handle version : ℕ) where
    no_row : chunk_of k.log.table handle ≡ None → (s : Spot) → StandsAt k.log.table handle s → ⊥
    no_row none s at =
        let one = placed_stands (handles_of k.log.table s.file) s.index handle at in
        let low = times_at_least k.log.table.files s.file handle in
        let key = (references_in k.log is).1 handle (omega (arith, one, low)) in
        (let both : is_some (chunk_of k.log.table handle) ≡ true = key in let no = ap is_some none in cc)

    by_row : (o : Option ChunkRow) → chunk_of k.log.table handle ≡ o → IsLeaseOver w handle version ⊎ StandsNowhereElse k handle
    by_row None none = inr (λ s other at there. absurd (no_row none s at))
    by_row (Some row) there = elim (cases_lt row.references 2) [
      | inl few ↦ inr (chunks_of_one_owner_stand_once k handle row (references_in k.log is) there (omega (arith, few)))
      | inr owned ↦ inl (shared_over k.log is handle row there owned version)
    ]

pub shared_chunks_in_each_log_have_no_lease : SharedChunksInEachLogHaveNoLease
shared_chunks_in_each_log_have_no_lease config servers clients w r clocks l is handle row there owned = shared_over config servers clients w r clocks l is handle row there owned

pub leased_chunks_stand_once : LeasedChunksStandOnce
leased_chunks_stand_once config servers clients w r clocks k is handle version = by_row config servers clients w r clocks k is handle version (chunk_of k.log.table handle) refl

-- a chunk that stands at one place at most has one place, there or gone
pub places_are_one : (k : ChunkSides) → AreChunksAlike k → (handle : ℕ) (s t : Spot) → StandsNowhereElse k handle → StandsAt k.log.table handle s ⊎ StoodAt k handle s → StandsAt k.log.table handle t ⊎ StoodAt k handle t → s ≡ t
places_are_one k h handle s t nowhere (inl here) (inl there) = nowhere s t here there
places_are_one k h handle s t nowhere (inl here) (inr stood) = absurd (gone_or_there k h handle s here t stood)
places_are_one k h handle s t nowhere (inr stood) (inl there) = absurd (gone_or_there k h handle t there s stood)
places_are_one k h handle s t nowhere (inr stood) (inr too) = same_some s t (sym stood.0 ∙ too.0)

pub open_rounds_have_one_spot : OpenRoundsHaveOneSpot
open_rounds_have_one_spot k h handle version other s t nowhere first second = places_are_one k h handle s t nowhere first.place second.place

-- from one world to the next

module _ (config : Config) (servers clients : ℕ) (w : WorldState) (r : IsReached config servers clients w) (e : Event) (choice : Choice) (clocks : IsTrue (happens w e choice).world.observer.are_clocks_kept) where
  abbrev next : WorldState
  next = (happens w e choice).world

  still_over : (handle version : ℕ) → 1 ≤ grants_of handle version w.sent → IsLeaseOver w handle version → IsLeaseOver next handle version
  still_over handle version granted over = leases_stay_over config servers clients w r handle version granted over ((e, choice) ∷ []) clocks

  pub ended_before : (handle : ℕ) → AreLeasesOver w handle → IsEnded w next handle
  ended_before handle over version granted = still_over handle version granted (over version)

  module _ (k j : ChunkSides) (has : HasRounds (IsLeaseOver w) k) (keeps : KeepsRounds (IsEnded w next) k j) (new : NewRoundsAreOpen w next j) where
    abbrev IsOverOrOpen : ℕ → ℕ → Type 0
    IsOverOrOpen handle version = IsLeaseOver next handle version ⊎ ((s : Spot) × IsRoundOpen j handle version s)

    open_still : (handle version : ℕ) → 1 ≤ grants_of handle version w.sent → (s : Spot) → IsRoundOpen k handle version s → IsOverOrOpen handle version
    open_still handle version granted s was_open = elim (keeps handle version s was_open) [
      | inl ended ↦ inl (ended version granted)
      | inr still ↦ inr (s, still)
    ]

    granted_before : (handle version : ℕ) → 1 ≤ grants_of handle version w.sent → IsOverOrOpen handle version
    granted_before handle version granted = elim (has handle version) [
      | inl over ↦ inl (still_over handle version granted over)
      | inr was_open ↦ open_still handle version granted was_open.0 was_open.1
    ]

    by_before : (handle version : ℕ) → 1 ≤ grants_of handle version next.sent → (count : ℕ) → grants_of handle version w.sent ≡ count → IsOverOrOpen handle version
    by_before handle version some zero is = inr (new handle version is some)
    by_before handle version some (suc count) is = granted_before handle version (omega (arith, is))

    by_count : (handle version : ℕ) (count : ℕ) → grants_of handle version next.sent ≡ count → IsOverOrOpen handle version
    by_count handle version zero is = inl (ungranted_is_over config servers clients next (reached_later config servers clients w ((e, choice) ∷ []) r) handle version is)
    by_count handle version (suc count) is = by_before handle version (omega (arith, is)) (grants_of handle version w.sent) refl

    pub rounds_go : HasRounds (IsLeaseOver next) j
    rounds_go handle version = by_count handle version (grants_of handle version next.sent) refl

-- an event that is no step of the master

pub masters_input : (w : WorldState) (e : Event) (moment : ℕ) (i : NodeInput) → IsGiven w e node.Master moment i → IsMastersStep w e
masters_input w (event.Deliver number now) moment (input.Deliver m) given = (m, given.0, given.1)
masters_input w (event.Deliver number now) moment input.Tick given = absurd given
masters_input w (event.Tick n now) moment input.Tick given = given.0
masters_input w (event.Tick n now) moment (input.Deliver m) given = absurd given
masters_input w (event.Call client c now) moment i given = absurd given
masters_input w (event.Restart n now) moment i given = absurd given
masters_input w (event.Rot server q place byte) moment i given = absurd given
masters_input w (event.Fuse n count torn) moment i given = absurd given

-- the master stays up in a step that goes through
up_keeps : Keeps ⊥ Nothing NoneEnded (λ c. c.up ≡ true)
up_keeps =
    record {
      sound = λ asks. absurd asks;
      tells = λ c receiver b quiet h. h;
      orders = λ c server b is plain h. h;
      revokes = λ c handle row is h. h;
      grants = λ c handle version until primary members told due names from idle h. h;
      appends = λ c r due plain names h. h;
      checkpoint = λ c tree h. h;
      less = λ c handles copied h. h;
      ends = λ c handle row is word h. h;
      extends = λ c handle until row is left later from h. h;
    }

-- one that stops says nothing
abbrev IsSilent : Taken MasterState → Type 0
IsSilent t = IsFalse t.state.up → t.out.sent ≡ []

ends_silent : (m : MasterState) (d : MasterDoing) (choice : Choice) (ending : Ending) → IsTrue d.master.up → IsSilent (master_ends m d choice ending)
ends_silent m d choice Goes up down = absurd (true≢false (sym up ∙ down))
ends_silent m d choice Lost up down = refl
ends_silent m d choice (Stops made) up down = refl

stopped_silent : (m : MasterState) (moment : ℕ) (i : NodeInput) (choice : Choice) → IsTrue m.up → IsSilent (master_step m moment i choice)
stopped_silent m moment i choice up =
    let d : MasterDoing = master_goes m moment i choice.refused in
    on_cond IsSilent m.up (master_bounded m i d choice) (no_step m)
    (λ _. on_cond IsSilent (may_end m i d choice.ending) (master_ends m d choice choice.ending) (no_step m) (λ _. ends_silent m d choice choice.ending (goes_keeps (λ c. c.up ≡ true) up_keeps m moment i choice.refused up)) (λ _ down. refl)) (λ _ down. refl)

module _ (w : WorldState) (handle version : ℕ) where
  abbrev pub GrantsNoMore : WorldState → Type 0
  GrantsNoMore v = grants_of handle version v.sent ≤ grants_of handle version w.sent

  quiet : (ms : List Message) → HasNoOrder ms → grants_of handle version (w.sent ++ stamped (suc (length w.sent)) ms) ≤ grants_of handle version w.sent
  quiet ms none = quiet_sent w.sent (suc (length w.sent)) ms handle version none

  -- but for a step of the master that leaves it up
  pub none_granted : HoldsAfter w (λ e x. (IsMastersStep w e → IsFalse x.world.master.up) → GrantsNoMore x.world)
  none_granted = record {
    nothing = λ e not. omega arith;
    masters = λ e moment i choice given up not.
        quiet (master_step w.master moment i choice).out.sent (subst HasNoOrder (sym (stopped_silent w.master moment i choice up (not (masters_input w e moment i given)))) (λ epoch count. refl));
    opens = λ e moment choice not. quiet (master_restart w.master moment choice).out.sent (subst HasNoOrder (sym (restart_silent w.master moment choice)) (λ epoch count. refl));
    serves = λ e index moment s i choice at given up not. quiet (server_step s moment i choice).out.sent (server_quiet s moment i choice);
    restarts = λ e index moment s choice at not. quiet (server_restart s moment choice).out.sent (server_restarts_quiet s moment choice choice.ending);
    steps = λ e index moment s i choice at given up not. quiet (client_step s moment i choice).out.sent (quiet_orders (client_step s moment i choice).out.sent (client_quiet s moment i choice));
    calls = λ e index moment s c choice at may not. quiet (client_call s moment c choice).out.sent (quiet_orders (client_call s moment c choice).out.sent (call_quiet s moment c choice));
    rots = λ e index q s x place byte ending is_kept at there up not. omega arith;
  }

pub other_events_keep_rounds : OtherEventsKeepRounds
other_events_keep_rounds config servers clients w r e choice clocks not k j has keeps =
    rounds_go config servers clients w r e choice clocks k j has keeps
    (λ handle version none some. let few = holds_after w (λ e x. (IsMastersStep w e → IsFalse x.world.master.up) → GrantsNoMore w handle version x.world) (none_granted w handle version) e choice (λ is. absurd (not is)) in absurd (omega (arith, none, some, few)))

-- chunks whose rounds may end

module _ (config : Config) (servers clients : ℕ) (w : WorldState) (r : IsReached config servers clients w) (clocks : IsTrue w.observer.are_clocks_kept) (handle : ℕ) where
  tried_over : IsTried w.master handle → AreLeasesOver w handle
  tried_over is = (attempted_chunks_have_no_lease config servers clients w r clocks is.0 handle is.1 is.2 is.3 is.4).1

  copied_over : IsCopied w.master handle → AreLeasesOver w handle
  copied_over is = subst (λ (n : ℕ). AreLeasesOver w n) is.4 (copied_chunks_have_no_lease config servers clients w r clocks is.0 is.1 is.2 is.3).1

  copy_over : IsCopy w.master handle → AreLeasesOver w handle
  copy_over is version = ungranted_is_over config servers clients w r handle version ((copies_under_way_are_not_granted config servers clients w r clocks is.0 handle is.1 is.2).granted version)

  begun_over : IsBegun w.master handle → AreLeasesOver w handle
  begun_over is version =
      let none : HasNoLease w (handle_of handle) = new_copies_have_no_lease config servers clients w r is.0 is.1 is.2 is.3 is.4 (handle_of handle) is.5 in
      record {
        held = λ index p holds same. none_some p (sym (none.unheld index holds.0 holds.1) ∙ holds.2);
        comes = λ place grant order end_moment members at says. absurd (none.ungranted place grant at order (version_of version) end_moment members says);
      }

  is_shared_over : IsShared w.master handle → AreLeasesOver w handle
  is_shared_over is = shared_over config servers clients w r clocks is.0 is.1 handle is.2 is.3 is.4

pub ended_rounds_are_over : EndedRoundsAreOver
ended_rounds_are_over config servers clients w r e choice clocks handle may = by_kind may
  where
    then_ : WorldState
    then_ = (happens w e choice).world

    before : IsTrue w.observer.are_clocks_kept
    before = clocks_before w ((e, choice) ∷ []) clocks

    by_kind : IsTried w.master handle ⊎ IsCopied w.master handle ⊎ IsCopy w.master handle ⊎ IsBegun w.master handle ⊎ IsShared w.master handle ⊎ IsShared then_.master handle → IsEnded w then_ handle
    by_kind (inl is) = ended_before config servers clients w r e choice clocks handle (tried_over config servers clients w r before handle is)
    by_kind (inr (inl is)) = ended_before config servers clients w r e choice clocks handle (copied_over config servers clients w r before handle is)
    by_kind (inr (inr (inl is))) = ended_before config servers clients w r e choice clocks handle (copy_over config servers clients w r before handle is)
    by_kind (inr (inr (inr (inl is)))) = ended_before config servers clients w r e choice clocks handle (begun_over config servers clients w r before handle is)
    by_kind (inr (inr (inr (inr (inl is))))) = ended_before config servers clients w r e choice clocks handle (is_shared_over config servers clients w r before handle is)
    by_kind (inr (inr (inr (inr (inr is))))) = λ version granted. is_shared_over config servers clients then_ (reached_later config servers clients w ((e, choice) ∷ []) r) clocks handle is version

-- what an event grants

pub some_place : (handle version : ℕ) (sent : List Message) → 1 ≤ grants_of handle version sent → (place : ℕ) × (m : Message) × (element_at sent place ≡ Some m) × (is_grant handle version m.body ≡ true)
some_place handle version [] some = absurd (omega (arith, some))
some_place handle version (m ∷ sent) some = by_test (is_grant handle version m.body) refl (λ more. let found = some_place handle version sent more in (suc found.0, found.1, found.2, found.3))
  where
    by_test : (b : Bool) → is_grant handle version m.body ≡ b → (1 ≤ grants_of handle version sent → (place : ℕ) × (x : Message) × (element_at (m ∷ sent) place ≡ Some x) × (is_grant handle version x.body ≡ true))
        → (place : ℕ) × (x : Message) × (element_at (m ∷ sent) place ≡ Some x) × (is_grant handle version x.body ≡ true)
    by_test true is behind = (0, m, refl, is)
    by_test false is behind =
        let whole = count-cons (λ (x : Message). is_grant handle version x.body) m sent in
        let none = ap tally is in
        behind (omega (arith, some, whole, none))

pub record IsGrantOf (handle version : ℕ) (b : Body) : Type 0 where
  pub order : OrderNo
  pub named : Handle
  pub number : Version
  pub end_moment : Moment
  pub members : List ℕ
  pub body_is : SaysGrant order named number end_moment members b
  pub handle_is : named.0 ≡ handle
  pub version_is : number.0 ≡ version

pub grant_is : (handle version : ℕ) (b : Body) → is_grant handle version b ≡ true → IsGrantOf handle version b
grant_is handle version b is =
    let parts = grant_parts handle version b is in
    record { order = parts.0; named = handle_of handle; number = version_of version; end_moment = parts.1; members = parts.2; body_is = parts.3; handle_is = refl; version_is = refl }

pub new_rounds : (w : WorldState) (e : Event) (choice : Choice) (j : ChunkSides) → SentGrantsAreOpen w (happens w e choice).world j → NewRoundsAreOpen w (happens w e choice).world j
new_rounds w e choice j sent handle version none some =
    let found = some_place handle version (happens w e choice).world.sent some in
    elim (cases_lt found.0 (length w.sent)) [
      | inl early ↦
          let before = counted_one (λ (x : Message). is_grant handle version x.body) w.sent found.1 found.0 (stood_before w.sent (happens w e choice).world.sent found.0 found.1 (step_grown w e choice) early found.2) found.3 in
          absurd (omega (arith, before, none))
      | inr from ↦
          let g = grant_is handle version (found.1).body found.3 in
          subst (λ (n : ℕ). (s : Spot) × IsRoundOpen j n version s) g.handle_is
          (subst (λ (v : ℕ). (s : Spot) × IsRoundOpen j g.named.0 v s) g.version_is (sent found.0 found.1 g.order g.named g.number g.end_moment g.members from found.2 (stated_grant g.body_is)))
    ]

pub each_event_keeps_rounds : EachEventKeepsRounds
each_event_keeps_rounds config servers clients w r e choice clocks k j has keeps sent =
    rounds_go config servers clients w r e choice clocks k j has
    (λ handle version s was_open. elim (keeps handle version s was_open) [
      | inl may ↦ inl (ended_rounds_are_over config servers clients w r e choice clocks handle may)
      | inr still ↦ inr still
    ]) (new_rounds w e choice j sent)
