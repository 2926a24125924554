-- Each entry was numbered in a step, by a replica within the chunk.
use Rattle.std.proofs.Common.{◌≡◌, ℕ, min, List, ◌∷◌, Some, refl, sym, ap, subst, ◌∙◌}
use Rattle.gfs_types.specs.declared.mutation.Mutation.{Mutation}
use Rattle.gfs_types.specs.declared.mutation.Mutation.TheVariants.{Write, Append, Pad}
use Rattle.messages.specs.declared.event.Event.{Event}
use Rattle.messages.specs.declared.message.Body.TheVariants as body
use Rattle.protocol.specs.Choice.{Choice}
use Rattle.protocol.specs.Observer.{Placed, order_of}
use Rattle.protocol.specs.World.{WorldState, new_world, happens, after_events}
use Rattle.laws_base.specs.ChunkOrders.{IsNumberedNow, WasNumbered, WasCopied, IsSource}
use Rattle.laws_base.proofs.Numbering.{entries_were_numbered}
use Rattle.laws_base.specs.Replicas.{IsPlacedBehind, IsPlacedByReplica}
use Rattle.laws_base.proofs.Placings.{mutations_are_placed_by_replicas}
use Rattle.laws_base.specs.PlacedEntries.{LiesWithin, EntriesLieWithinTheChunk}
use Rattle.gfs_types.specs.declared.config.Config.{Config}
use Rattle.messages.specs.declared.message.Message.{Message}
use Rattle.protocol.specs.Tables.{element_at}
use Rattle.protocol.specs.Sending.{handle_of, version_of}
use Rattle.laws_base.specs.Laws.{IsSizeGranted}
use Rattle.laws_base.proofs.LeasesTold.{leases_are_told}
use Rattle.laws_base.proofs.MembersRecorded.{kept_place}
use Rattle.laws_base.proofs.Histories.{steps_grown, after_both}
use Rattle.laws_base.proofs.Lengths.{servers_within}

within : (size count : ℕ) (bytes : List ℕ) (m : Mutation) → IsPlacedBehind size count bytes m → LiesWithin size m
within size count bytes (Write offset written) placed = placed.1
within size count bytes (Append offset written) placed = placed.2
within size count bytes (Pad offset end) placed = (placed.1, placed.3)

-- where each entry was numbered, and within which size
pub entry_sized : (config : Config) (servers clients : ℕ) (steps : List (Event × Choice)) (handle place : ℕ) (p : Placed) → element_at (order_of (after_events (new_world config servers clients) steps).observer handle) place ≡ Some p
    → (from size : ℕ) × IsSizeGranted (after_events (new_world config servers clients) steps).sent from p.entry.round size × LiesWithin (min size config.chunk) p.entry.mutation
    × IsSource (WasCopied (new_world config servers clients) steps) from handle
entry_sized config servers clients steps handle place p at = (
  (now.named).0,
  by.lease.chunk,
  granted,
  subst (λ (m : Mutation). LiesWithin (min by.lease.chunk config.chunk) m) (sym (ap (λ (q : Placed). q.entry.mutation) now.entry_is))
      (within (min by.lease.chunk config.chunk) _ by.bytes (now.numbers).placed
      (subst (λ (c : Config). IsPlacedBehind (min by.lease.chunk c.chunk) by.replica.count by.bytes (now.numbers).placed) (servers_within config servers clients v (before, refl) now.index now.server (now.numbers).is).set by.placed)),
  subst (λ (q : ℕ). IsSource (WasCopied (new_world config servers clients) steps) q handle) (sym now.handle_is) was.2,
)
  where
    was : (from : ℕ) × WasNumbered (new_world config servers clients) steps from p × IsSource (WasCopied (new_world config servers clients) steps) from handle
    was = entries_were_numbered config servers clients steps handle place p at

    before : List (Event × Choice)
    before = (was.1).before

    v : WorldState
    v = after_events (new_world config servers clients) before

    w : WorldState
    w = after_events (new_world config servers clients) steps

    now : IsNumberedNow v (happens v ((was.1).step).0 ((was.1).step).1) was.0 p
    now = (was.1).now

    by : IsPlacedByReplica now.server (now.named).0 (now.version).0 ((now.numbers).serial).0 now.id (now.numbers).placed
    by =
        mutations_are_placed_by_replicas config servers clients v (before, refl) now.index now.server (now.numbers).is now.moment now.input now.choice (now.numbers).place now.named now.version (now.numbers).serial now.id
        (now.numbers).placed (now.numbers).seen

    -- the lease was granted with its size, in this world too
    w_is : w ≡ after_events v ((was.1).step ∷ (was.1).after)
    w_is = ap (λ (xs : List (Event × Choice)). after_events (new_world config servers clients) xs) (was.1).steps_are ∙ after_both (new_world config servers clients) before ((was.1).step ∷ (was.1).after)

    round_is : (by.lease).held.version ≡ p.entry.round
    round_is = sym by.version_is ∙ sym (ap (λ (q : Placed). q.entry.round) now.entry_is)

    granted : IsSizeGranted w.sent (now.named).0 p.entry.round by.lease.chunk
    granted =
        let told = (leases_are_told config servers clients v (before, refl) now.index now.server (now.numbers).is (now.named).0 by.lease by.lease_is).0 in
        let grown = steps_grown v ((was.1).step ∷ (was.1).after) in
        subst (λ (u : WorldState). IsSizeGranted u.sent (now.named).0 p.entry.round by.lease.chunk) (sym w_is) (
          told.0,
          told.1,
          subst (λ (ms : List Message). element_at ms told.0 ≡ Some told.1) (sym grown.1) (kept_place v.sent grown.0 told.0 told.1 told.2),
          told.4,
          told.5,
          (by.lease).held.members,
          subst (λ (n : ℕ). (told.1).body ≡ body.Grant told.4 (handle_of (now.named).0) (version_of n) told.5 (by.lease).chunk (by.lease).held.members) round_is told.6,
        )

pub entries_lie_within_the_chunk : EntriesLieWithinTheChunk
entries_lie_within_the_chunk config servers clients steps handle place p at = let one = entry_sized config servers clients steps handle place p at in (one.0, one.1, one.2, one.3)
