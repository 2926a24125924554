-- A server that has a lease after a step had one of this version before it, or took its Grant in the step, which it had not taken before.
use Rattle.std.proofs.Common.{◌≡◌, ◌⊎◌, ℕ, suc, ◌≤◌, List, Some, sym, ap, ◌∙◌, inl, inr}
use Rattle.std.specs.Ordering.{nat_cmp}
use Rattle.std.specs.FinMap as table
use Rattle.gfs_types.specs.declared.ids.Handle.{Handle}
use Rattle.gfs_types.specs.declared.ids.Version.{Version}
use Rattle.gfs_types.specs.declared.ids.Moment.{Moment}
use Rattle.gfs_types.specs.declared.ids.OrderNo.{OrderNo}
use Rattle.leases.specs.LeaseHeld.{LeaseHeld}
use Rattle.messages.specs.declared.event.NodeInput.{NodeInput}
use Rattle.messages.specs.declared.message.Body.{Body}
use Rattle.primary_order.specs.SerialOrder.{SerialOrder}
use Rattle.replica_store.specs.Replicas.{disk_changed}
use Rattle.replica_store.specs.declared.change.StoreChange.TheVariants.{SetOrder}
use Rattle.protocol.specs.Tables.{Table, element_at}
use Rattle.protocol.specs.Choice.{Choice, Ending, Goes, Lost, Stops}
use Rattle.protocol.specs.Seen.{Taken, no_step}
use Rattle.protocol.specs.Server.{ServerState, ServerDoing}
use Rattle.protocol.specs.ServerStep.{server_goes, server_ends, server_step}
use Rattle.laws_base.proofs.LeaseOrders.{HasGrant, SaysGrant, named_grant}
use Rattle.laws_base.proofs.Steps.{on_cond, none_some, put_cases}
use Rattle.laws_base.proofs.RisingOrders.{Later, same_later, then_later, risen_later}
use Rattle.laws_base.proofs.ServerMoves.{ServerCore, KeepsServer, IsCameIn, AreHeldFrom, lease_of, until_moment, server_goes_holds}
use Rattle.laws_base.proofs.LeasesTold.{IsStaleAt, stale_later, new_not_stale, replica_later, CameTo, GrantCameTo, grant_came, granting}
use Rattle.gfs_types.specs.declared.config.Config.{Config}
use Rattle.protocol.specs.Sending.{handle_of, version_of}
use Rattle.protocol.specs.Observer.{Placed, placed_in}
use Rattle.protocol.specs.World.{WorldState, IsReached}
use Rattle.laws_base.specs.Laws.{is_grant, grants_of}
use Rattle.laws_base.proofs.SentGrants.{counted_one}
use Rattle.laws_base.proofs.RoundSerials.{entry_counts}
use Rattle.laws_base.proofs.CountedRounds.{IsCounted, taken_stale, all_counted}

module _ (handle version : ℕ) (Came : Body → Type 0) (s : ServerState) where
  abbrev pub HadLease : Type 0
  HadLease = (q : SerialOrder) × (table.get s.leases handle ≡ Some q) × (q.held.version ≡ version)

  -- a Grant of this version came that the server had not taken
  pub record GrantCame : Type 0 where
    pub order : OrderNo
    pub chunk : Handle
    pub number : Version
    pub end_moment : Moment
    pub members : List ℕ
    pub came : HasGrant Came order chunk number end_moment members
    pub chunk_is : chunk.0 ≡ handle
    pub number_is : number.0 ≡ version
    pub new : IsStaleAt s.disk order → ⊥

  abbrev pub AreKnown : Table SerialOrder → Type 0
  AreKnown leases = (p : SerialOrder) → table.get leases handle ≡ Some p → p.held.version ≡ version → HadLease ⊎ GrantCame

  abbrev Fine : ServerCore → Type 0
  Fine c = Later s.disk c.disk × AreKnown c.leases

  from_known : (before after : Table SerialOrder) → AreHeldFrom before after → AreKnown before → AreKnown after
  from_known before after from h p is same = let was = from handle p is in h was.0 was.1 (ap (λ (l : LeaseHeld). l.version) was.2 ∙ same)

  put_known : (leases : Table SerialOrder) (k : ℕ) (new : SerialOrder) → (k ≡ handle → new.held.version ≡ version → HadLease ⊎ GrantCame) → AreKnown leases → AreKnown (table.insert leases k new)
  put_known leases k new one h p is same =
      elim (put_cases leases k new handle p is) [
        | inl now ↦ one (sym now.0) (ap (λ (x : SerialOrder). x.held.version) now.1 ∙ same)
        | inr before ↦ h p before same
      ]

  fine_kept : KeepsServer Came Fine
  fine_kept =
      record {
        says = λ c receiver b quiet h. h;
        stores = λ c x is h. (then_later s.disk c.disk (disk_changed c.disk x) h.0 (replica_later c.disk x is), h.1);
        takes = λ c order new h. (then_later s.disk c.disk (disk_changed c.disk (SetOrder order)) h.0 (risen_later c.disk (SetOrder order) new), h.1);
        holds = λ c leases from h. (h.0, from_known c.leases leases from h.1);
        grants = λ c order chunk number end_moment members came new h. (
          then_later s.disk c.disk (disk_changed c.disk (SetOrder order)) h.0 (risen_later c.disk (SetOrder order) new),
          put_known c.leases chunk.0 (lease_of number end_moment came.2.chunk members)
              (λ key is. inr (record {
                order = order;
                chunk = chunk;
                number = number;
                end_moment = end_moment;
                members = members;
                came = came;
                chunk_is = key;
                number_is = is;
                new = λ stale. new_not_stale c.disk order new (stale_later s.disk c.disk order h.0 stale);
              })) h.1,
        );
        extends = λ c chunk number end_moment p came at same h. (
          h.0,
          put_known c.leases chunk.0 (until_moment p end_moment) (λ key is. h.1 p (ap (λ (n : ℕ). table.get c.leases n) (sym key) ∙ at) is) h.1,
        );
        revokes = λ c order chunk number leases came new from none h. (then_later s.disk c.disk (disk_changed c.disk (SetOrder order)) h.0 (risen_later c.disk (SetOrder order) new), from_known c.leases leases from h.1);
      }

  none_known : AreKnown table.empty
  none_known p is same = none_some p (sym (table.get-empty nat_cmp handle) ∙ is)

  ends_known : (d : ServerDoing) (choice : Choice) (e : Ending) → AreKnown d.server.leases → AreKnown (server_ends s d choice e).state.leases
  ends_known d choice Goes h = h
  ends_known d choice Lost h = none_known
  ends_known d choice (Stops made) h = none_known

  -- after a step
  pub step_known : (moment : ℕ) (i : NodeInput) (choice : Choice) → IsCameIn Came i → AreKnown (server_step s moment i choice).state.leases
  step_known moment i choice came =
      on_cond (λ (t : Taken ServerState). AreKnown t.state.leases) s.up (server_ends s (server_goes s moment i) choice choice.ending) (no_step s)
      (λ _. ends_known (server_goes s moment i) choice choice.ending (server_goes_holds Came Fine fine_kept s moment i came (same_later s.disk, λ p is same. inl (p, is, same))).1) (λ _. λ p is same. inl (p, is, same))

-- a Grant of a round that has entries was taken before
pub no_new_grant : (config : Config) (servers clients : ℕ) (w : WorldState) → IsReached config servers clients w → (index : ℕ) (s : ServerState) → element_at w.servers index ≡ Some s
    → (handle version place : ℕ) (x : Placed) → element_at (placed_in w.observer.orders handle) place ≡ Some x → x.entry.round ≡ version → GrantCame handle version (CameTo w.sent (suc index)) s → ⊥
no_new_grant config servers clients w r index s at handle version place x there round g =
    g.new (taken_stale config servers clients w r handle version index s at g.order g.end_moment g.members came.1 came.0 came.2 came.3 body_is
    (counted.taken (entry_counts version (placed_in w.observer.orders handle) place x there round counted.count counted.serials) granted))
  where
    counted : IsCounted handle version w.sent w.servers (placed_in w.observer.orders handle)
    counted = all_counted config servers clients w r handle version

    came : GrantCameTo w.sent (suc index) g.order g.chunk g.number g.end_moment g.members
    came = grant_came w.sent (suc index) g.order g.chunk g.number g.end_moment g.members g.came

    body_is : SaysGrant g.order (handle_of handle) (version_of version) g.end_moment g.members (came.1).body
    body_is = named_grant came.4 g.chunk_is g.number_is

    granted : 1 ≤ grants_of handle version w.sent
    granted = counted_one (λ m. is_grant handle version m.body) w.sent came.1 came.0 came.2 (granting g.order handle version g.end_moment g.members (came.1).body body_is)
