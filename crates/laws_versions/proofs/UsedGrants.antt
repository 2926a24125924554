-- The Grant of a version under which something is numbered is used up: the lease was granted to that server, which refuses the Grant since.
use Rattle.std.proofs.Common.{◌≡◌, ℕ, suc, true, List, ◌∷◌, Option, Some, None, refl, sym, ap, subst, ◌∙◌, arith}
use Rattle.std.specs.Prelude.{◌==◌}
use Rattle.std.specs.FinMap as table
use Rattle.std.proofs.lemmas.Bool.{eqb-true, and_parts}
use Rattle.gfs_types.specs.declared.config.Config.{Config}
use Rattle.gfs_types.specs.declared.ids.OrderNo.{OrderNo}
use Rattle.messages.specs.declared.event.Event.{Event}
use Rattle.messages.specs.declared.event.NodeInput.TheVariants as input
use Rattle.messages.specs.declared.message.Message.{Message}
use Rattle.primary_order.specs.SerialOrder.{SerialOrder}
use Rattle.protocol.specs.Tables.{element_at}
use Rattle.protocol.specs.Sending.{handle_of, version_of, order_number}
use Rattle.protocol.specs.Choice.{Choice}
use Rattle.protocol.specs.Observer.{Placed}
use Rattle.protocol.specs.Server.{ServerState, counting_primary}
use Rattle.protocol.specs.ServerStep.{server_at}
use Rattle.protocol.specs.World.{WorldState, new_world, happens, after_events, IsReached}
use Rattle.laws_base.proofs.LeaseOrders.{SaysGrant, named_grant, says_grant, grant_number}
use Rattle.laws_base.specs.Laws.{is_grant}
use Rattle.laws_base.proofs.Steps.{on_cond, none_some, same_some}
use Rattle.laws_base.proofs.RisingOrders.{order_numbers_never_fall}
use Rattle.laws_base.proofs.LeasesTold.{IsStaleAt, stale_later, IsToldLease, IsToldServer, AreTold, told_kept, same_grant, granting}
use Rattle.laws_base.proofs.GrantsOnce.{versions_are_granted_once}
use Rattle.laws_base.proofs.ScenesReached.{scene_reached}
use Rattle.laws_base.proofs.LeasesStayOver.{reached_later}
use Rattle.laws_base.proofs.Histories.{steps_grown, after_both}
use Rattle.laws_base.specs.Entries.{IsAskedFor}
use Rattle.laws_base.proofs.Stemming.{numbered_mutations_were_asked_for}
use Rattle.laws_base.specs.ChunkOrders.{IsNumberedNow, WasNumbered, WasCopied, IsSource}
use Rattle.laws_base.proofs.Numbering.{entries_were_numbered}
use Rattle.laws_versions.proofs.AnsweredOrders.{placed_later, stale_refuses}
use Rattle.laws_versions.specs.EmptyGrants.{IsGrantUsed, NumberedVersionsHaveUsedGrants, EntriesAreOfUsedGrants}
use Rattle.laws_base.proofs.SentGrants.{counted_one}

-- a lease that counts is held, of that version
primary_there : (s : ServerState) (version : ℕ) (o : Option SerialOrder) (p : SerialOrder) → counting_primary s version o ≡ Some p → (o ≡ Some p) × (p.held.version ≡ version)
primary_there s version None p is = none_some p is
primary_there s version (Some q) p is =
    on_cond (λ (x : Option SerialOrder). x ≡ Some p → (Some q ≡ Some p) × (p.held.version ≡ version)) _ (Some q) None
    (λ both now. (now, sym (ap (λ (x : SerialOrder). x.held.version) (same_some q p now)) ∙ eqb-true q.held.version version (and_parts (q.held.version == version) _ both).0)) (λ _ now. none_some p now) is

-- a lease that was granted to a server by an order that it took
module _ (config : Config) (servers clients : ℕ) (w : WorldState) (r : IsReached config servers clients w) (index : ℕ) (s : ServerState) (there : element_at w.servers index ≡ Some s) (handle version : ℕ) (p : SerialOrder) (same : p.held.version ≡ version)
    (lease : IsToldLease w.sent (suc index) s.disk handle p.chunk p.held) where
  lease_body : SaysGrant lease.order (handle_of handle) (version_of version) lease.end_moment p.held.members (lease.grant).body
  lease_body = named_grant lease.is refl same

  pub lease_used : (steps : List (Event × Choice)) → IsGrantUsed (after_events w steps) index handle version
  lease_used steps =
      record {
        granted = counted_one (λ (x : Message). is_grant handle version x.body) v.sent lease.grant lease.place still is_its;
        refused = λ place m at order end_moment members is.
            let says : SaysGrant order (handle_of handle) (version_of version) end_moment members m.body = says_grant is in
            let one : lease.grant ≡ m =
            same_grant handle version v.sent lease.place place lease.grant m (versions_are_granted_once config servers clients v reached handle version) still at is_its
            (granting order handle version end_moment members m.body says) in
            let number : lease.order ≡ order = same_some lease.order order (sym (grant_number lease_body) ∙ ap (λ (x : Message). order_number x.body) one ∙ grant_number says) in (
              sym (ap (λ (x : Message). x.receiver) one) ∙ lease.receiver,
              λ t at_t. stale_refuses t order
                  (subst (λ (o : OrderNo). IsStaleAt t.disk o) number (stale_later s.disk t.disk lease.order (order_numbers_never_fall config servers clients w r steps index s t there at_t) lease.taken)),
            );
      }
    where
      v : WorldState
      v = after_events w steps

      reached : IsReached config servers clients v
      reached = reached_later config servers clients w steps r

      still : element_at v.sent lease.place ≡ Some lease.grant
      still = placed_later w.sent v.sent lease.place lease.grant (steps_grown w steps) lease.at

      is_its : is_grant handle version (lease.grant).body ≡ true
      is_its = granting lease.order handle version lease.end_moment p.held.members (lease.grant).body lease_body

pub numbered_versions_have_used_grants : NumberedVersionsHaveUsedGrants
numbered_versions_have_used_grants config servers clients w r index moment s i choice handle version id n steps =
    lease_used config servers clients w r index s n.is handle.0 version.0 p held.1 (told.told handle.0 p held.0) steps
  where
    law : (m : Message) × (i ≡ input.Deliver m) × IsAskedFor (server_at s moment) w.sent m handle version n.serial id n.placed
    law = numbered_mutations_were_asked_for config servers clients w r index s n.is moment i choice n.came n.place handle version n.serial id n.placed n.seen

    p : SerialOrder
    p = law.2.lease

    held : (table.get s.leases handle.0 ≡ Some p) × (p.held.version ≡ version.0)
    held = primary_there (server_at s moment) version.0 (table.get s.leases handle.0) p law.2.lease_is

    told : IsToldServer w.sent index s
    told = scene_reached AreTold told_kept config servers clients w r index s n.is

pub entries_are_of_used_grants : EntriesAreOfUsedGrants
entries_are_of_used_grants config servers clients steps handle place p at = (one.0, one.2, n.index, used)
  where
    start : WorldState
    start = new_world config servers clients

    one : (from : ℕ) × WasNumbered start steps from p × IsSource (WasCopied start steps) from handle
    one = entries_were_numbered config servers clients steps handle place p at

    came : WasNumbered start steps one.0 p
    came = one.1

    u : WorldState
    u = after_events start came.before

    n : IsNumberedNow u (happens u came.step.0 came.step.1) one.0 p
    n = came.now

    round : n.version.0 ≡ p.entry.round
    round = sym (ap (λ (q : Placed). q.entry.round) n.entry_is)

    rest : after_events u (came.step ∷ came.after) ≡ after_events start steps
    rest = sym (ap (λ (xs : List (Event × Choice)). after_events start xs) came.steps_are ∙ after_both start came.before (came.step ∷ came.after))

    used : IsGrantUsed (after_events start steps) n.index one.0 p.entry.round
    used =
        subst (λ (w : WorldState). IsGrantUsed w n.index one.0 p.entry.round) rest
        (subst (λ (q : ℕ). IsGrantUsed (after_events u (came.step ∷ came.after)) n.index q p.entry.round) n.handle_is
        (subst (λ (v : ℕ). IsGrantUsed (after_events u (came.step ∷ came.after)) n.index n.named.0 v) round
        (numbered_versions_have_used_grants config servers clients u (came.before, refl) n.index n.moment n.server n.input n.choice n.named n.version n.id n.numbers (came.step ∷ came.after))))
