-- After a number was placed under a version of a chunk, each lease of that version keeps it, and none is granted anew.
use Rattle.std.proofs.Common.{◌≡◌, [], ◌∷◌, Some, refl, sym, subst, arith}
use Rattle.std.specs.FinMap as table
use Rattle.gfs_types.specs.declared.ids.DataId.{DataId}
use Rattle.messages.specs.declared.message.Message.{Message}
use Rattle.messages.specs.declared.event.NodeInput.TheVariants as input
use Rattle.primary_order.specs.declared.kept.Standing.TheVariants.{IsPending}
use Rattle.primary_order.specs.SerialOrder.{SerialOrder}
use Rattle.primary_order.specs.PrimaryOrder.{kept_as}
use Rattle.protocol.specs.declared.seen.Seen.TheVariants.{Numbered}
use Rattle.protocol.specs.ServerStep.{server_at, server_step}
use Rattle.protocol.specs.World.{WorldState, Happened, after_server, happens, after_events, IsReached}
use Rattle.laws_base.proofs.Steps.{put_there}
use Rattle.laws_base.proofs.LeasesStayOver.{reached_later}
use Rattle.laws_base.specs.Entries.{IsAskedFor}
use Rattle.laws_base.proofs.Stemming.{numbered_mutations_were_asked_for}
use Rattle.laws_base.specs.NumberedOnce.{NumbersArePlacedOnce}
use Rattle.laws_base.proofs.KnownNumbers.{IsKept, primary_there, new_later, keeps_known}
use Rattle.laws_base.proofs.SpentVersions.{IsSpent, spent_on, numbered_spent}

-- a number is kept as it is taken
number_kept : (id : DataId) (p : SerialOrder) → IsKept id.client.0 id.seq (table.insert p.kept id.client.0 (kept_as id.seq IsPending))
number_kept id p = (kept_as id.seq IsPending, put_there p.kept id.client.0 (kept_as id.seq IsPending) id.client.0 refl, omega arith)

pub numbers_are_placed_once : NumbersArePlacedOnce
numbers_are_placed_once config servers clients w r e choice handle version id index moment s i taken first step steps other later t j then_ again =
    let few = kept.2 in
    let less = new_later id.client.0 id.seq id.seq (table.get p.kept id.client.0) kept.0 kept.1 asked.new in
    omega (arith, few, less)
  where
    u : WorldState
    u = (happens w e choice).world

    v : WorldState
    v = after_events u steps

    reached : IsReached config servers clients u
    reached = reached_later config servers clients w ((e, choice) ∷ []) r

    first_law : (m : Message) × (i ≡ input.Deliver m) × IsAskedFor (server_at s moment) w.sent m handle version first.serial id first.placed
    first_law = numbered_mutations_were_asked_for config servers clients w r index s first.is moment i taken first.came first.place handle version first.serial id first.placed first.seen

    spent : IsSpent (λ p. IsKept id.client.0 id.seq p.kept) handle.0 version.0 (after_server w index moment (server_step s moment i taken)).world
    spent =
        numbered_spent (λ p. IsKept id.client.0 id.seq p.kept) (keeps_known id.client.0 id.seq) config servers clients w r index moment s i taken first.is first_law.0 first_law.1 handle version first.serial id first.placed first_law.2
        first.place (Numbered handle version first.serial id first.placed) first.seen (λ o. number_kept id (first_law.2).lease)

    used : IsSpent (λ p. IsKept id.client.0 id.seq p.kept) handle.0 version.0 v
    used =
        spent_on (λ p. IsKept id.client.0 id.seq p.kept) (keeps_known id.client.0 id.seq) config servers clients handle.0 version.0 u steps reached
        (subst (λ (x : Happened). IsSpent (λ p. IsKept id.client.0 id.seq p.kept) handle.0 version.0 x.world) (sym step) spent)

    law : (m : Message) × (j ≡ input.Deliver m) × IsAskedFor (server_at t later) v.sent m handle version again.serial id again.placed
    law = numbered_mutations_were_asked_for config servers clients v (reached_later config servers clients u steps reached) other t again.is later j then_ again.came again.place handle version again.serial id again.placed again.seen

    asked : IsAskedFor (server_at t later) v.sent law.0 handle version again.serial id again.placed
    asked = law.2

    p : SerialOrder
    p = asked.lease

    there : (table.get t.leases handle.0 ≡ Some p) × (p.held.version ≡ version.0)
    there = primary_there (server_at t later) version.0 (table.get t.leases handle.0) p asked.lease_is

    kept : IsKept id.client.0 id.seq p.kept
    kept = used.fit other t again.is p there.0 there.1
