-- A record or a pad begins past each settled entry: its server's replica has applied each of them, and it is placed just behind the replica's bytes.
use Rattle.std.proofs.Common.{◌≡◌, ℕ, zero, suc, ◌≤◌, Bool, true, false, List, [], ◌∷◌, length, Some, refl, sym, ap, subst, ◌∙◌, inl, inr, arith}
use Rattle.std.specs.Prelude.{max, IsTrue}
use Rattle.std.proofs.lemmas.Bool.{and_parts, cases_lt}
use Rattle.std.proofs.Math.Nat.{le-max_left, le-max_right}
use Rattle.gfs_types.specs.declared.config.Config.{Config}
use Rattle.gfs_types.specs.declared.mutation.Mutation.{Mutation}
use Rattle.gfs_types.specs.declared.mutation.Mutation.TheVariants.{Write, Append, Pad}
use Rattle.gfs_types.specs.Mutations.{end_of}
use Rattle.gfs_types.specs.Image.{image, image_length, bytes_from}
use Rattle.protocol.specs.Tables.{element_at}
use Rattle.protocol.specs.Observer.{Placed, observed_moment, order_of}
use Rattle.protocol.specs.Server.{chunk_limit, ServerState}
use Rattle.protocol.specs.World.{WorldState, IsReached}
use Rattle.laws_base.specs.Laws.{is_grant, grants_of}
use Rattle.laws_base.proofs.Steps.{none_some, same_some}
use Rattle.laws_base.proofs.EndedLeases.{over_leases_number_nothing}
use Rattle.laws_base.specs.ChunkOrders.{unsettled}
use Rattle.laws_base.specs.Replicas.{IsPlacedBehind, IsPlacedByReplica}
use Rattle.laws_base.proofs.Placings.{mutations_are_placed_by_replicas}
use Rattle.laws_base.proofs.SentGrants.{counted_one}
use Rattle.laws_base.proofs.RisingRounds.{IsUnderLease, leased_granted, under_lease, lower_leases_are_over, entries_are_of_granted_rounds}
use Rattle.laws_base.proofs.CountedRounds.{serials_have_one_entry}
use Rattle.laws_versions.specs.HeldRounds.{ComesBehind}
use Rattle.protocol.specs.StoredBytes.{stored_bytes}
use Rattle.laws_versions.proofs.KeptDisks.{stored_as_long}
use Rattle.laws_versions.specs.ReplicaImages.{marked, mutations_in, HasEntry, IsImageOf}
use Rattle.laws_versions.specs.Selections.{HasSettled, RecordsComeBehindSettledEntries}
use Rattle.laws_versions.proofs.Selections.{replicas_have_settled_entries}

-- as many bytes as are asked for
pub length_from : (ms : List Mutation) (place count : ℕ) → length (bytes_from ms place count) ≡ count
length_from ms place zero = refl
length_from ms place (suc count) = ap (λ (n : ℕ). suc n) (length_from ms (suc place) count)

-- an image reaches to the end of each of its mutations
reaches_end : (ps : List Placed) (n : ℕ) (q : Placed) → element_at ps n ≡ Some q → end_of q.entry.mutation ≤ image_length (mutations_in ps)
reaches_end [] n q at = none_some q at
reaches_end (p ∷ ps) zero q at =
    let first = le-max_left (end_of p.entry.mutation) (image_length (mutations_in ps)) in
    subst (λ (x : Placed). end_of x.entry.mutation ≤ max (end_of p.entry.mutation) (image_length (mutations_in ps))) (same_some p q at) first
reaches_end (p ∷ ps) (suc n) q at =
    let rest = reaches_end ps n q at in
    let second = le-max_right (end_of p.entry.mutation) (image_length (mutations_in ps)) in
    omega (arith, rest, second)

-- what is marked stands in the order
pub marked_from : (marks : List Bool) (order : List Placed) (n : ℕ) (q : Placed) → element_at (marked marks order) n ≡ Some q → (place : ℕ) × (p : Placed) × (element_at order place ≡ Some p) × (unsettled p ≡ q)
marked_from [] order n q at = none_some q at
marked_from (mark ∷ marks) [] n q at = none_some q at
marked_from (false ∷ marks) (p ∷ order) n q at = let rest = marked_from marks order n q at in (suc rest.0, rest.1, rest.2, rest.3)
marked_from (true ∷ marks) (p ∷ order) zero q at = (zero, p, refl, same_some (unsettled p) q at)
marked_from (true ∷ marks) (p ∷ order) (suc n) q at = let rest = marked_from marks order n q at in (suc rest.0, rest.1, rest.2, rest.3)

module _ (config : Config) (servers clients : ℕ) (w : WorldState) (r : IsReached config servers clients w) where
  -- an entry that is among the marked ones ends within their image
  ends_within : (handle : ℕ) (marks : List Bool) (place : ℕ) (e : Placed) → element_at (order_of w.observer handle) place ≡ Some e → HasEntry (marked marks (order_of w.observer handle)) e.entry.round e.serial
      → end_of e.entry.mutation ≤ length (image (mutations_in (marked marks (order_of w.observer handle))))
  ends_within handle marks place e there h =
      let ps : List Placed = marked marks (order_of w.observer handle) in
      let from = marked_from marks (order_of w.observer handle) h.0 h.1 h.2 in
      let same : from.0 ≡ place =
      serials_have_one_entry config servers clients w r handle from.0 place from.1 e from.2 there (ap (λ (x : Placed). x.entry.round) from.3 ∙ h.3) (ap (λ (x : Placed). x.serial) from.3 ∙ h.4) in
      let one : from.1 ≡ e = same_some from.1 e (sym from.2 ∙ ap (λ (n : ℕ). element_at (order_of w.observer handle) n) same ∙ there) in
      let mutation_is : (h.1).entry.mutation ≡ e.entry.mutation = sym (ap (λ (x : Placed). x.entry.mutation) from.3) ∙ ap (λ (x : Placed). x.entry.mutation) one in
      let far = reaches_end ps h.0 h.1 h.2 in
      let count = length_from (mutations_in ps) 0 (image_length (mutations_in ps)) in
      let end_is = ap (λ (m : Mutation). end_of m) mutation_is in
      omega (arith, far, count, end_is)

  -- under a lease that counts no entry is of a later round
  pub none_later : IsTrue w.observer.are_clocks_kept → (index moment : ℕ) (s : ServerState) → element_at w.servers index ≡ Some s → IsTrue (observed_moment w.config.skew_ms w.observer moment).are_clocks_kept → (handle version serial : ℕ)
      → IsUnderLease w index moment s handle version serial → (place : ℕ) (e : Placed) → element_at (order_of w.observer handle) place ≡ Some e → e.entry.round ≤ version
  none_later clocks index moment s at then_clocks handle version serial under place e there =
      elim (cases_lt version e.entry.round) [
        | inl less ↦ elim (entries_are_of_granted_rounds config servers clients w r handle place e there) [
          | inl granted ↦
              none_some under.lease
              (sym (over_leases_number_nothing config servers clients w r handle version (lower_leases_are_over config servers clients w r clocks handle version e.entry.round some granted less) moment then_clocks index s at) ∙ under.counts)
          | inr below ↦ let low = below version some in absurd (omega (arith, low, less))
        ]
        | inr low ↦ low
      ]
    where
      some : 1 ≤ grants_of handle version w.sent
      some =
          let g = leased_granted config servers clients w r index s at handle under.lease under.there in
          counted_one (λ x. is_grant handle version x.body) w.sent g.0 (g.1).0 (g.1).1 (ap (λ (n : ℕ). is_grant handle n (g.0).body) (sym under.number) ∙ g.2)

pub records_come_behind_settled_entries : RecordsComeBehindSettledEntries
records_come_behind_settled_entries config servers clients w r kept index s at moment i choice came then_clocks shown handle version serial id m seen place e there settled = behind m by.placed
  where
    by : IsPlacedByReplica s handle.0 version.0 serial.0 id m
    by = mutations_are_placed_by_replicas config servers clients w r index s at moment i choice shown handle version serial id m seen

    have : (g : IsImageOf (order_of w.observer handle.0) (by.replica).version (by.replica).serial (stored_bytes w.observer index handle.0 s.disk by.replica)) × HasSettled (order_of w.observer handle.0) (by.replica).version (marked g.marks (order_of w.observer handle.0))
    have = (replicas_have_settled_entries config servers clients w r kept index s at).0 handle.0 by.replica by.replica_is

    round : e.entry.round ≤ (by.replica).version
    round =
        let low = none_later config servers clients w r (and_parts w.observer.are_clocks_kept w.observer.are_disks_kept kept).0 index moment s at then_clocks handle.0 version.0 serial.0
        (under_lease config servers clients w r index moment s i choice at came shown handle version serial id m seen) place e there in
        let same = by.replica_version in
        omega (arith, low, same)

    low : end_of e.entry.mutation ≤ (by.replica).count
    low =
        subst (λ (n : ℕ). end_of e.entry.mutation ≤ n) (stored_as_long config servers clients w r (and_parts w.observer.are_clocks_kept w.observer.are_disks_kept kept).1 index s at handle.0 by.replica by.replica_is)
        (subst (λ (bs : List ℕ). end_of e.entry.mutation ≤ length bs) (sym (have.0).bytes_are) (ends_within config servers clients w r handle.0 (have.0).marks place e there (have.1 place e there settled round)))

    behind : (x : Mutation) → IsPlacedBehind (chunk_limit s (by.lease).chunk) (by.replica).count by.bytes x → ComesBehind (end_of e.entry.mutation) x
    behind (Write offset bytes) placed = tt
    behind (Append offset bytes) placed = let start = placed.1 in let bound = low in omega (arith, start, bound)
    behind (Pad offset end) placed = let start = placed.0 in let bound = low in omega (arith, start, bound)
