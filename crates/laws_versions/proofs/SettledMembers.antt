-- As an entry becomes settled under a lease that counts, each replica of its round stands at a member, which acknowledged the entry, or at the primary, which has applied its round.
use Rattle.std.proofs.Common.{◌≡◌, ◌⊎◌, ℕ, zero, suc, ◌≤◌, ◌<◌, ◌+◌, List, [], ◌∷◌, length, Option, Some, None, refl, sym, ap, subst, ◌∙◌, inl, inr, arith}
use Rattle.std.specs.Prelude.{IsTrue, ◌==◌, ◌&&◌, map, filter, max}
use Rattle.std.specs.FinMap as table
use Rattle.std.proofs.lemmas.Bool.{and_parts, eqb-true, ltb-true, cases_lt}
use Rattle.std.proofs.Math.Nat.{le-max_right}
use Rattle.gfs_types.specs.declared.config.Config.{Config}
use Rattle.messages.specs.declared.event.NodeInput.{NodeInput}
use Rattle.messages.specs.declared.event.NodeInput.TheVariants as input
use Rattle.messages.specs.declared.message.Message.{Message}
use Rattle.leases.specs.LeaseHeld.{LeaseHeld, counts_at}
use Rattle.primary_order.specs.SerialOrder.{SerialOrder}
use Rattle.protocol.specs.Tables.{element_at, first_numbers, has_number}
use Rattle.protocol.specs.Sending.{the_server, server_number, handle_of, version_of, serial_of}
use Rattle.protocol.specs.Choice.{Choice}
use Rattle.protocol.specs.declared.seen.Seen.TheVariants.{BecameSettled}
use Rattle.protocol.specs.Observer.{Placed, observed_moment, order_of}
use Rattle.protocol.specs.StoredBytes.{stored_bytes}
use Rattle.protocol.specs.Server.{ServerState, counting_primary}
use Rattle.protocol.specs.ServerStep.{server_at, found_disk, server_step}
use Rattle.protocol.specs.World.{WorldState, Happened, stamped, after_server, IsReached, is_kept}
use Rattle.laws_base.proofs.LeaseOrders.{named_grant, lease_grant, stated_grant}
use Rattle.laws_base.specs.Laws.{WasGranted, HoldsLastingLease}
use Rattle.laws_base.proofs.Steps.{on_cond, none_some, same_some}
use Rattle.laws_base.proofs.ScenesReached.{scene_of, now_passed, scene_reached}
use Rattle.laws_base.proofs.ServerSettings.{AreSet, settings_kept}
use Rattle.laws_base.proofs.MembersRecorded.{kept_place}
use Rattle.laws_base.proofs.MessagesSent.{IsSent}
use Rattle.laws_base.proofs.LeasesTold.{leases_are_told}
use Rattle.laws_base.proofs.LeasesStayOver.{reached_later}
use Rattle.laws_base.proofs.KnownNumbers.{primary_there}
use Rattle.laws_base.specs.Given.{version_given}
use Rattle.laws_versions.proofs.GivenVersions.{members_alone_are_given_a_version}
use Rattle.laws_versions.proofs.ClonedVersions.{clones_are_of_closed_versions}
use Rattle.laws_base.specs.CountedSerials.{serials_of}
use Rattle.laws_base.proofs.CountedRounds.{leases_count_their_serials}
use Rattle.laws_versions.specs.WaitingMutations.{HasAcked, IsAcknowledgedByAll}
use Rattle.laws_versions.proofs.Acknowledging.{settled_mutations_were_acknowledged}
use Rattle.laws_versions.specs.ReplicaImages.{marked, HasEntry}
use Rattle.laws_versions.proofs.Marks.{last_element}
use Rattle.laws_versions.proofs.Acknowledged.{WasCopied, set_there}
use Rattle.laws_versions.proofs.Images.{own_in}
use Rattle.laws_versions.proofs.ImagesReached.{found_stored, same_image}
use Rattle.laws_versions.proofs.JointRounds.{Joint, joint_reached}
use Rattle.laws_versions.specs.AcknowledgedEntries.{IsAtAllMembers, SettledEntriesAreAtAllMembers}

-- the entry of a serial that was given

abbrev pub IsThere : ℕ → List Placed → ℕ → Type 0
IsThere round order serial = (place : ℕ) × (p : Placed) × (element_at order place ≡ Some p) × (p.entry.round ≡ round) × (p.serial ≡ serial)

pub entry_numbered : (round : ℕ) (order : List Placed) (n serial : ℕ) → element_at (serials_of round order) n ≡ Some serial → IsThere round order serial
entry_numbered round [] n serial at = none_some serial at
entry_numbered round (p ∷ order) n serial at =
    on_cond (λ (ps : List Placed). element_at (map (λ q. q.serial) ps) n ≡ Some serial → IsThere round (p ∷ order) serial) (p.entry.round == round) (p ∷ filter (λ q. q.entry.round == round) order) (filter (λ q. q.entry.round == round) order)
    (λ is. first (λ k g. entry_numbered round order k serial g) n (eqb-true p.entry.round round is)) (λ _ g. behind (entry_numbered round order n serial g)) at
  where
    behind : IsThere round order serial → IsThere round (p ∷ order) serial
    behind e = (suc e.0, e.1, e.2, e.3, e.4)

    first : ((k : ℕ) → element_at (serials_of round order) k ≡ Some serial → IsThere round order serial) → (k : ℕ) → p.entry.round ≡ round → element_at (p.serial ∷ serials_of round order) k ≡ Some serial → IsThere round (p ∷ order) serial
    first rest zero is g = (zero, p, refl, is, same_some p.serial serial g)
    first rest (suc k) is g = behind (rest k g)

pub number_there : (count x : ℕ) → 1 ≤ x → x ≤ count → (n : ℕ) × (element_at (first_numbers count) n ≡ Some x)
number_there zero x some low = absurd (omega (arith, some, low))
number_there (suc count) x some low =
    elim (cases_lt x (suc count)) [
      | inl less ↦ let before = number_there count x some (omega (arith, less)) in (before.0, kept_place (first_numbers count) (suc count ∷ []) before.0 x before.1)
      | inr least ↦
          let one : suc count ≡ x = omega (arith, low, least) in
          let last = last_element (first_numbers count) (suc count) in
          (last.0, last.1 ∙ ap (λ (k : ℕ). Some k) one)
    ]

-- a lease that counts
counts_there : (s : ServerState) (version : ℕ) (o : Option SerialOrder) (p : SerialOrder) → counting_primary s version o ≡ Some p → IsTrue (counts_at s.config.skew_ms p.held s.now)
counts_there s version None p is = none_some p is
counts_there s version (Some q) p is =
    on_cond (λ (o : Option SerialOrder). o ≡ Some p → IsTrue (counts_at s.config.skew_ms p.held s.now)) ((q.held.version == version) && counts_at s.config.skew_ms q.held s.now) (Some q) None
    (λ both g. subst (λ (x : SerialOrder). IsTrue (counts_at s.config.skew_ms x.held s.now)) (same_some q p g) (and_parts (q.held.version == version) (counts_at s.config.skew_ms q.held s.now) both).1) (λ _ g. none_some p g) is

-- A step of a server in which the entry becomes settled.
module _ (config : Config) (servers clients : ℕ) (w : WorldState) (r : IsReached config servers clients w) (index moment : ℕ) (s : ServerState) (i : NodeInput) (choice : Choice) (at : element_at w.servers index ≡ Some s)
    (came : (m : Message) → i ≡ input.Deliver m → (place : ℕ) × (element_at w.sent place ≡ Some m)) (handle version serial shown : ℕ)
    (seen : element_at (server_step s moment i choice).seen shown ≡ Some (BecameSettled (handle_of handle) (version_of version) (serial_of serial)))
    (later : IsReached config servers clients (after_server w index moment (server_step s moment i choice)).world) (kept : IsTrue (is_kept (after_server w index moment (server_step s moment i choice)).world)) where
  abbrev v : WorldState
  v = (after_server w index moment (server_step s moment i choice)).world

  abbrev t : ServerState
  t = (server_step s moment i choice).state

  abbrev more : List Message
  more = stamped (suc (length w.sent)) (server_step s moment i choice).out.sent

  acked : IsAcknowledgedByAll w.sent (suc index) (server_at s moment) (server_step s moment i choice).state handle version serial
  acked = settled_mutations_were_acknowledged config servers clients w r index s at moment i choice came shown (handle_of handle) (version_of version) (serial_of serial) seen

  clocks : IsTrue (observed_moment w.config.skew_ms w.observer moment).are_clocks_kept
  clocks = (and_parts (observed_moment w.config.skew_ms w.observer moment).are_clocks_kept w.observer.are_disks_kept kept).0

  leased : (table.get s.leases handle ≡ Some acked.lease) × (acked.lease.held.version ≡ version)
  leased = primary_there (server_at s moment) version (table.get s.leases handle) acked.lease acked.counts

  there : element_at v.servers index ≡ Some t
  there = set_there w.servers index s t at

  version_is : acked.later.held.version ≡ version
  version_is = ap (λ (held : LeaseHeld). held.version) acked.same ∙ leased.1

  -- the lease lasts
  lasting : HoldsLastingLease v index handle acked.later
  lasting =
      let skew = ap (λ (c : Config). c.skew_ms) (scene_reached AreSet settings_kept config servers clients w r index s at) in
      let late : max w.observer.greatest moment ≤ moment + w.config.skew_ms = (now_passed (scene_of w) moment).kept clocks in
      let given : moment ≤ max s.now moment = le-max_right s.now moment in
      let before : max s.now moment + s.config.skew_ms < acked.lease.held.until = ltb-true (max s.now moment + s.config.skew_ms) acked.lease.held.until (counts_there (server_at s moment) version (table.get s.leases handle) acked.lease acked.counts) in
      let same : acked.later.held.until ≡ acked.lease.held.until = ap (λ (held : LeaseHeld). held.until) acked.same in
      (t, there, acked.held, omega (arith, skew, late, given, before, same))

  -- so its version was not copied
  not_copied : {A : Type 0} → WasCopied v.sent handle version → A
  not_copied copied = absurd ((clones_are_of_closed_versions config servers clients v later clocks (copied.1).0 copied.0 (copied.1).1 handle version copied.2).lease.held index acked.later lasting version_is)

  entry : IsThere version (order_of v.observer handle) serial
  entry =
      let counted = leases_count_their_serials config servers clients v later index t there handle acked.later acked.held in
      let number = number_there acked.later.serial serial acked.given.0 acked.given.1 in
      entry_numbered version (order_of v.observer handle) number.0 serial
      (ap (λ (xs : List ℕ). element_at xs number.0) (ap (λ (n : ℕ). serials_of n (order_of v.observer handle)) (sym version_is) ∙ counted) ∙ number.1)

  granted : WasGranted w.sent (suc index) handle acked.lease.chunk acked.lease.held
  granted = (leases_are_told config servers clients w r index s at handle acked.lease leased.0).0

  is_member : (other : ℕ) (m : Message) → IsSent v.sent m → m.receiver ≡ the_server (suc other) → version_given m.body ≡ Some (handle, version) → IsTrue (has_number acked.lease.held.members (suc other))
  is_member other m sent receiver given =
      let one =
      members_alone_are_given_a_version config servers clients v later handle version granted.0 granted.1 granted.4 granted.5 acked.lease.held.members (kept_place w.sent more granted.0 granted.1 granted.2)
      (stated_grant (named_grant {handle = handle} (lease_grant w.sent (suc index) handle acked.lease.chunk acked.lease.held granted) refl leased.1)) sent.0 m sent.1 given in
      subst (λ (n : ℕ). IsTrue (has_number acked.lease.held.members n)) (ap server_number (sym one.1 ∙ receiver)) one.2

  -- What a replica of this version has applied, of which what is carried holds, has the entry.
  pub settled_is_among : (other : ℕ) (ps : List Placed) → Joint v other handle version ps → HasEntry ps version serial
  settled_is_among other ps h = elim (h.1) [ inl copied ↦ not_copied copied | inr m ↦ by_member (acked.acked (suc other) (is_member other m.0 m.1 m.2 m.3)) ]
    where
      same_suc : (a b : ℕ) → suc a ≡ suc b → a ≡ b
      same_suc a b same = omega (arith, same)

      by_member : (suc other ≡ suc index) ⊎ HasAcked w.sent (suc other) handle version serial → HasEntry ps version serial
      by_member (inl same) =
          elim (h.0.1) [
            | inl copied ↦ not_copied copied
            | inr has ↦ subst (λ (n : ℕ). HasEntry ps version n) entry.4
                (has t (ap (λ (n : ℕ). element_at v.servers n) (same_suc other index same) ∙ there) acked.later acked.held version_is entry.0 entry.1 entry.2 entry.3)
          ]
      by_member (inr a) =
          elim (h.0.0) [
            | inl copied ↦ not_copied copied
            | inr has ↦ has a.0 a.1 (kept_place w.sent more a.0 a.1 a.2) a.3 serial a.4 acked.given.0
          ]

  all_have : IsAtAllMembers v handle version serial
  all_have other u u_there decision x is same =
      let one = ((joint_reached config servers clients v later kept).each other u u_there).found decision.decided handle x is in
      same_image (λ ps. HasEntry ps version serial) (order_of v.observer handle) x.version x.serial (own_in v other handle x) (stored_bytes v.observer other handle (found_disk u decision) x)
      (found_stored config servers clients v later other u u_there decision.decided handle x) one.0
      (settled_is_among other (marked one.0.marks (order_of v.observer handle)) (subst (λ (n : ℕ). Joint v other handle n (marked one.0.marks (order_of v.observer handle))) same one.1))

pub settled_entries_are_at_all_members : SettledEntriesAreAtAllMembers
settled_entries_are_at_all_members config servers clients w r e choice kept handle version serial now =
    subst (λ (x : Happened). IsAtAllMembers x.world handle version serial) (sym now.step_is)
    (all_have config servers clients w r now.index now.moment now.server now.input now.choice now.is now.came handle version serial now.place now.seen
    (subst (λ (x : Happened). IsReached config servers clients x.world) now.step_is (reached_later config servers clients w ((e, choice) ∷ []) r)) (subst (λ (x : Happened). IsTrue (is_kept x.world)) now.step_is kept))
