-- Until a lease of a chunk is over, nothing of it is of a later version, and its server's replica has the lease's last serial.
use Rattle.std.proofs.Common.{◌≡◌, ◌⊎◌, ℕ, zero, suc, ◌≤◌, ◌<◌, false, List, [], ◌∷◌, ◌++◌, Some, sym, ap, subst, ◌∙◌, inl, inr, arith}
use Rattle.std.specs.Prelude.{◌==◌, map, filter, IsTrue}
use Rattle.std.specs.List.{AllByRecursion}
use Rattle.std.proofs.lemmas.Bool.{and_parts, cases_lt, true≢false}
use Rattle.gfs_types.specs.declared.config.Config.{Config}
use Rattle.gfs_types.specs.declared.ids.Moment.{Moment}
use Rattle.gfs_types.specs.declared.ids.OrderNo.{OrderNo}
use Rattle.messages.specs.declared.message.Message.{Message}
use Rattle.protocol.specs.Tables.{element_at, first_numbers, has_number}
use Rattle.protocol.specs.Sending.{server_number, handle_of, version_of}
use Rattle.protocol.specs.Observer.{Placed, order_of}
use Rattle.protocol.specs.StoredBytes.{stored_bytes}
use Rattle.protocol.specs.World.{WorldState, IsReached, is_kept}
use Rattle.laws_base.proofs.LeaseOrders.{SaysGrant, says_grant, stated_grant}
use Rattle.laws_base.specs.Laws.{is_grant, grants_of}
use Rattle.laws_base.proofs.Entries.{same_number}
use Rattle.laws_base.proofs.LeasesTold.{granting}
use Rattle.laws_base.proofs.Steps.{on_cond, none_some, same_some}
use Rattle.laws_base.specs.Given.{version_given}
use Rattle.laws_base.specs.Versions.{IsLeaseOver}
use Rattle.laws_base.specs.CountedSerials.{serials_of}
use Rattle.laws_base.proofs.CountedRounds.{leases_count_their_serials}
use Rattle.laws_base.proofs.RisingRounds.{lower_leases_are_over, entries_are_of_granted_rounds}
use Rattle.laws_base.proofs.SentGrants.{counted_one}
use Rattle.laws_versions.proofs.ClonedVersions.{clones_are_of_closed_versions}
use Rattle.laws_versions.proofs.GivenClones.{copied_versions_were_given}
use Rattle.laws_versions.proofs.GivenVersions.{members_alone_are_given_a_version}
use Rattle.laws_versions.proofs.LeasesBelow.{leases_below_are_over}
use Rattle.laws_versions.specs.AcknowledgedEntries.{HasRound}
use Rattle.laws_versions.specs.LastingLeases.{IsLastVersion, LeasesThatAreNotOverAreTheLast, PrimariesHaveTheirSerial}
use Rattle.laws_versions.specs.ReplicaImages.{marked, IsWithin, HasEntry, IsImageOf}
use Rattle.laws_versions.proofs.HeldEntries.{WasGivenTo}
use Rattle.laws_versions.proofs.JointRounds.{joint_reached, primaries_have_their_round}
use Rattle.laws_versions.proofs.SettledEnds.{marked_from}
use Rattle.laws_versions.proofs.SettledMembers.{IsThere, entry_numbered, number_there}

module _ (config : Config) (servers clients : ℕ) (w : WorldState) (r : IsReached config servers clients w) (kept : IsTrue (is_kept w)) (handle version number : ℕ) (grant : Message) (order : OrderNo) (end_moment : Moment) (members : List ℕ)
    (sent_at : element_at w.sent number ≡ Some grant) (grant_is : SaysGrant order (handle_of handle) (version_of version) end_moment members grant.body) (lasts : IsLeaseOver w handle version → ⊥) where
  clocks : IsTrue w.observer.are_clocks_kept
  clocks = (and_parts w.observer.are_clocks_kept w.observer.are_disks_kept kept).0

  not_over : {A : Type 0} → IsLeaseOver w handle version → A
  not_over over = absurd (lasts over)

  some_granted : 1 ≤ grants_of handle version w.sent
  some_granted = counted_one (λ x. is_grant handle version x.body) w.sent grant number sent_at (granting order handle version end_moment members grant.body grant_is)

  entries : (place : ℕ) (e : Placed) → element_at (order_of w.observer handle) place ≡ Some e → e.entry.round ≤ version
  entries place e there =
      elim (cases_lt version e.entry.round) [
        | inl less ↦ elim (entries_are_of_granted_rounds config servers clients w r handle place e there) [
          | inl granted ↦ not_over (lower_leases_are_over config servers clients w r clocks handle version e.entry.round some_granted granted less)
          | inr below ↦ let low = below version some_granted in absurd (omega (arith, low, less))
        ]
        | inr low ↦ low
      ]

  orders : (place : ℕ) (m : Message) → element_at w.sent place ≡ Some m → (given : ℕ) → version_given m.body ≡ Some (handle, given) → given ≤ version
  orders place m at given is =
      elim (cases_lt version given) [
        | inl less ↦ not_over (leases_below_are_over config servers clients w r clocks place m at handle given is version less)
        | inr low ↦ low
      ]

  given_low : (other given : ℕ) (ps : List Placed) → WasGivenTo w.sent other handle given ps → given ≤ version
  given_low other given ps (inl copied) = let g = copied_versions_were_given config servers clients w r (copied.1).0 copied.0 (copied.1).1 handle given copied.2 in orders g.0 g.1 g.2 given g.3
  given_low other given ps (inr m) = orders (m.1).0 m.0 (m.1).1 given m.3

  is_member : (other given : ℕ) (ps : List Placed) → given ≡ version → WasGivenTo w.sent other handle given ps → IsTrue (has_number members (suc other))
  is_member other given ps same (inl copied) =
      not_over (subst (λ (n : ℕ). IsLeaseOver w handle n) same (clones_are_of_closed_versions config servers clients w r clocks (copied.1).0 copied.0 (copied.1).1 handle given copied.2).lease)
  is_member other given ps same (inr m) =
      let one =
      members_alone_are_given_a_version config servers clients w r handle version number grant order end_moment members sent_at (stated_grant grant_is) (m.1).0 m.0 (m.1).1
      (m.3 ∙ ap (λ (n : ℕ). Some (handle, n)) same) in
      subst (λ (n : ℕ). IsTrue (has_number members n)) (ap server_number (sym one.1 ∙ m.2)) one.2

  last_version : IsLastVersion w handle version members
  last_version =
      record {
        entries = entries;
        orders = orders;
        replicas = λ other s at choice x found.
            let one = ((joint_reached config servers clients w r kept).each other s at).found choice.decided handle x found in
            let ps : List Placed = marked (one.0).marks (order_of w.observer handle) in
            (given_low other x.version ps one.1.1, λ same. is_member other x.version ps same one.1.1);
      }

pub leases_that_are_not_over_are_the_last : LeasesThatAreNotOverAreTheLast
leases_that_are_not_over_are_the_last config servers clients w r kept handle version place grant order end_moment members at is lasts =
    last_version config servers clients w r kept handle version place grant order end_moment members at (says_grant is) lasts

-- serials

last_or_first : (xs : List ℕ) (y n x : ℕ) → element_at (xs ++ y ∷ []) n ≡ Some x → (element_at xs n ≡ Some x) ⊎ (y ≡ x)
last_or_first [] y zero x at = inr (same_some y x at)
last_or_first [] y (suc n) x at = none_some x at
last_or_first (z ∷ xs) y zero x at = inl at
last_or_first (z ∷ xs) y (suc n) x at = last_or_first xs y n x at

most : (count n x : ℕ) → element_at (first_numbers count) n ≡ Some x → x ≤ count
most zero n x at = none_some x at
most (suc count) n x at =
    elim (last_or_first (first_numbers count) (suc count) n x at) [
      | inl before ↦ let low = most count n x before in omega (arith, low)
      | inr last ↦ omega (arith, last)
    ]

-- an entry's serial is among those of its round
listed : (round : ℕ) (order : List Placed) (place : ℕ) (p : Placed) → element_at order place ≡ Some p → p.entry.round ≡ round → (n : ℕ) × (element_at (serials_of round order) n ≡ Some p.serial)
listed round [] place p at is = none_some p at
listed round (q ∷ order) zero p at is =
    let one : q ≡ p = same_some q p at in
    on_cond (λ (ps : List Placed). (n : ℕ) × (element_at (map (λ x. x.serial) ps) n ≡ Some p.serial)) (q.entry.round == round) (q ∷ filter (λ x. x.entry.round == round) order) (filter (λ x. x.entry.round == round) order)
    (λ _. (zero, ap (λ (x : Placed). Some x.serial) one))
    (λ apart. absurd (not_both (subst (λ (n : ℕ). (n == round) ≡ false) (ap (λ (x : Placed). x.entry.round) one ∙ is) apart)))
  where
    not_both : (round == round) ≡ false → ⊥
    not_both apart = true≢false (sym (same_number round) ∙ apart)
listed round (q ∷ order) (suc place) p at is =
    let rest = listed round order place p at is in
    on_cond (λ (ps : List Placed). (n : ℕ) × (element_at (map (λ x. x.serial) ps) n ≡ Some p.serial)) (q.entry.round == round) (q ∷ filter (λ x. x.entry.round == round) order) (filter (λ x. x.entry.round == round) order)
    (λ _. (suc rest.0, rest.1)) (λ _. rest)

within_at : (version serial : ℕ) (ps : List Placed) (n : ℕ) (q : Placed) → AllByRecursion (IsWithin version serial) ps → element_at ps n ≡ Some q → IsWithin version serial q
within_at version serial [] n q all at = none_some q at
within_at version serial (x ∷ ps) zero q all at = subst (λ (y : Placed). IsWithin version serial y) (same_some x q at) all.0
within_at version serial (x ∷ ps) (suc n) q all at = within_at version serial ps n q all.1 at

-- the last serial of the image of an order, of which all entries of the round were applied
same_serial : (order : List Placed) (version serial count : ℕ) (bytes : List ℕ) → (g : IsImageOf order version serial bytes) → HasRound order version (marked g.marks order) → serials_of version order ≡ first_numbers count → serial ≡ count
same_serial order version serial count bytes g has counted = omega (arith, upper, lower)
  where
    ps : List Placed
    ps = marked g.marks order

    upper : serial ≤ count
    upper = elim (g.last) [ inl none ↦ omega (arith, none) | inr h ↦ by_entry h ]
      where
        by_entry : HasEntry ps version serial → serial ≤ count
        by_entry h =
            let from = marked_from g.marks order h.0 h.1 h.2 in
            let at = listed version order from.0 from.1 from.2 (ap (λ (x : Placed). x.entry.round) from.3 ∙ h.3) in
            let low = most count at.0 (from.1).serial (ap (λ (xs : List ℕ). element_at xs at.0) (sym counted) ∙ at.1) in
            let same : (from.1).serial ≡ serial = ap (λ (x : Placed). x.serial) from.3 ∙ h.4 in
            omega (arith, low, same)

    lower : count ≤ serial
    lower = elim (cases_lt 0 count) [ inl some ↦ by_last some | inr none ↦ omega (arith, none) ]
      where
        by_last : 0 < count → count ≤ serial
        by_last some =
            let n = number_there count count (omega (arith, some)) (omega arith) in
            let e : IsThere version order count = entry_numbered version order n.0 count (ap (λ (xs : List ℕ). element_at xs n.0) counted ∙ n.1) in
            let h = has e.0 e.1 e.2 e.3 in
            let low = (within_at version serial ps h.0 h.1 g.applied h.2).1 h.3 in
            let one = h.4 in
            let last = e.4 in
            omega (arith, low, one, last)

pub primaries_have_their_serial : PrimariesHaveTheirSerial
primaries_have_their_serial config servers clients w r kept index s at handle p held less =
    let round = primaries_have_their_round config servers clients w r kept index s at handle p held in (
      round.0,
      round.1,
      round.2,
      elim (round.3) [
        | inl over ↦ absurd (over.lease.held index p (s, at, held, less) (sym round.2))
        | inr has ↦ same_serial (order_of w.observer handle) (round.0).version (round.0).serial p.serial (stored_bytes w.observer index handle s.disk round.0) has.0 has.1
            (ap (λ (n : ℕ). serials_of n (order_of w.observer handle)) round.2 ∙ leases_count_their_serials config servers clients w r index s at handle p held)
      ],
    )
