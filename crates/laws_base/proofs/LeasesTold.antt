-- Each lease that a server holds was granted to it, and ends as the master told; the order of its Grant is taken for good.
use Rattle.std.proofs.Common.{◌≡◌, ◌⊎◌, ℕ, zero, suc, ◌≤◌, ◌<◌, Bool, true, cond, List, [], ◌∷◌, ◌++◌, length, map, Some, refl, sym, ap, subst, ◌∙◌, inl, inr, arith}
use Rattle.std.specs.Prelude.{◌==◌, ◌&&◌, nat_lt, IsTrue}
use Rattle.std.specs.Ordering.{nat_cmp}
use Rattle.std.specs.FinMap as table
use Rattle.std.proofs.lemmas.Bool.{eqb-true, ltb-true, and_from}
use Rattle.gfs_types.specs.declared.config.Config.{Config}
use Rattle.gfs_types.specs.declared.ids.Node.{Node}
use Rattle.gfs_types.specs.declared.ids.Node.TheVariants as node
use Rattle.gfs_types.specs.declared.ids.OrderNo.{OrderNo}
use Rattle.gfs_types.specs.declared.ids.Handle.{Handle}
use Rattle.gfs_types.specs.declared.ids.Version.{Version}
use Rattle.gfs_types.specs.declared.ids.Moment.{Moment}
use Rattle.messages.specs.declared.message.Body.{Body}
use Rattle.messages.specs.declared.message.Body.TheVariants as body
use Rattle.messages.specs.declared.message.Message.{Message}
use Rattle.messages.specs.declared.event.NodeInput.{NodeInput}
use Rattle.messages.specs.declared.event.NodeInput.TheVariants as input
use Rattle.protocol.specs.Tables.{Table, element_at, with_at, first_numbers}
use Rattle.protocol.specs.Choice.{Choice, Ending, Goes, Lost, Stops}
use Rattle.protocol.specs.Seen.{Taken, no_step}
use Rattle.protocol.specs.Sending.{the_server, handle_of, version_of}
use Rattle.leases.specs.LeaseHeld.{LeaseHeld}
use Rattle.primary_order.specs.SerialOrder.{SerialOrder}
use Rattle.replica_store.specs.declared.change.StoreChange.{StoreChange}
use Rattle.replica_store.specs.declared.change.StoreChange.TheVariants.{SetOrder, Put, Write, Zero, Raise, Copy, Remove, Rot}
use Rattle.replica_store.specs.Replicas.{ServerDisk, disk_changed, disk_changed_by_all, is_new_order, new_server_disk}
use Rattle.protocol.specs.Server.{ServerState, ServerDoing, started_server}
use Rattle.protocol.specs.ServerStep.{server_goes, server_ends, server_step, server_restarts}
use Rattle.protocol.specs.World.{stamped, after_rot}
use Rattle.laws_base.proofs.LeaseOrders.{SaysGrant, moved_grant, was_granted, HasGrant, grant_counts, grant_ends}
use Rattle.laws_base.specs.Laws.{IsSameOrLater, is_grant, grants_of, tells_end, WasEndTold, LeasesAreTold, VersionsHaveOnePrimary}
use Rattle.laws_base.proofs.Steps.{none_some, same_some, tally, put_cases, count-cons}
use Rattle.laws_base.proofs.Entries.{same_number}
use Rattle.laws_base.proofs.ServerMoves.{IsOfReplica, AreHeldFrom, lease_of, until_moment, KeepsServer, IsCameIn, server_goes_holds}
use Rattle.laws_base.proofs.RisingOrders.{Later, then_later, newer, risen_later, HasOneRisingChange, step_goes_on, rot_goes_on, restarts_as, none_under_way, set_cases}
use Rattle.laws_base.proofs.MembersRecorded.{kept_place}
use Rattle.laws_base.proofs.Rots.{rot_held, rot_id}
use Rattle.laws_base.proofs.ScenesReached.{Scene, IsSentTo, IsKeptByScenes, scene_reached}
use Rattle.laws_base.proofs.GrantsOnce.{versions_are_granted_once}

-- orders that were taken

-- an order that this disk refuses
abbrev pub IsStaleAt : ServerDisk → OrderNo → Type 0
IsStaleAt d order = IsSameOrLater order.epoch order.count d.epoch d.count

pub stale_later : (d e : ServerDisk) (order : OrderNo) → Later d e → IsStaleAt d order → IsStaleAt e order
stale_later d e order later stale = then_later (record { chunk = 0; block = 0; slots = 0; epoch = order.epoch; count = order.count; replicas = table.empty }) d e stale later

pub new_not_stale : (d : ServerDisk) (order : OrderNo) → is_new_order d order.epoch order.count ≡ true → IsStaleAt d order → ⊥
new_not_stale d order new stale =
    elim (newer (nat_lt d.epoch order.epoch) (d.epoch == order.epoch) (nat_lt d.count order.count) new) [
      | inl epoch ↦ let less = ltb-true d.epoch order.epoch epoch in
          elim (stale) [ inl low ↦ absurd (omega (arith, less, low)) | inr same ↦ absurd (let is = same.0 in omega (arith, less, is)) ]
      | inr both ↦ let same = eqb-true d.epoch order.epoch both.0 in let less = ltb-true d.count order.count both.1 in
          elim (stale) [ inl low ↦ absurd (omega (arith, same, low)) | inr is ↦ absurd (let few = is.1 in omega (arith, less, few)) ]
    ]

pub replica_later : (d : ServerDisk) (x : StoreChange) → IsOfReplica x → Later d (disk_changed d x)
replica_later d (SetOrder order) is = absurd is
replica_later d (Put handle version serial bytes) is = risen_later d (Put handle version serial bytes) tt
replica_later d (Write handle serial offset bytes) is = risen_later d (Write handle serial offset bytes) tt
replica_later d (Zero handle serial offset count) is = risen_later d (Zero handle serial offset count) tt
replica_later d (Raise handle version) is = risen_later d (Raise handle version) tt
replica_later d (Copy handle copy version) is = risen_later d (Copy handle copy version) tt
replica_later d (Remove handle) is = risen_later d (Remove handle) tt
replica_later d (Rot handle place byte) is = risen_later d (Rot handle place byte) tt

-- a lease that was granted to this server with this size of the chunk, by an order that was taken, and whose end was told
pub record IsToldLease (sent : List Message) (n : ℕ) (d : ServerDisk) (handle chunk : ℕ) (held : LeaseHeld) : Type 0 where
  pub place : ℕ
  pub grant : Message
  pub at : element_at sent place ≡ Some grant
  pub receiver : grant.receiver ≡ the_server n
  pub order : OrderNo
  pub end_moment : Moment
  pub is : SaysGrant order (handle_of handle) (version_of held.version) end_moment held.members grant.body
  pub chunk_is : is.chunk ≡ chunk
  pub taken : IsStaleAt d order
  pub told : WasEndTold sent handle held.version held.until

abbrev pub AreToldLeases : List Message → ℕ → ServerDisk → Table SerialOrder → Type 0
AreToldLeases sent n d leases = (handle : ℕ) (p : SerialOrder) → table.get leases handle ≡ Some p → IsToldLease sent n d handle p.chunk p.held

told_later : (sent : List Message) (n : ℕ) (d e : ServerDisk) (handle chunk : ℕ) (held : LeaseHeld) → Later d e → IsToldLease sent n d handle chunk held → IsToldLease sent n e handle chunk held
told_later sent n d e handle chunk held later h =
    record { place = h.place; grant = h.grant; at = h.at; receiver = h.receiver; order = h.order; end_moment = h.end_moment; is = h.is; chunk_is = h.chunk_is; taken = stale_later d e h.order later h.taken; told = h.told }

told_more : (sent ms : List Message) (n : ℕ) (d : ServerDisk) (handle chunk : ℕ) (held : LeaseHeld) → IsToldLease sent n d handle chunk held → IsToldLease (sent ++ ms) n d handle chunk held
told_more sent ms n d handle chunk held h =
    record {
      place = h.place;
      grant = h.grant;
      at = kept_place sent ms h.place h.grant h.at;
      receiver = h.receiver;
      order = h.order;
      end_moment = h.end_moment;
      is = h.is;
      chunk_is = h.chunk_is;
      taken = h.taken;
      told = (h.told.0, h.told.1, kept_place sent ms h.told.0 h.told.1 h.told.2, h.told.3);
    }

none_told : (sent : List Message) (n : ℕ) (d : ServerDisk) → AreToldLeases sent n d table.empty
none_told sent n d handle p is = none_some p (sym (table.get-empty nat_cmp handle) ∙ is)

-- a step of a server

module _ (sent : List Message) (n : ℕ) where
  -- such a message was sent to this server
  abbrev pub CameTo : Body → Type 0
  CameTo b = (place : ℕ) × (m : Message) × (element_at sent place ≡ Some m) × (m.receiver ≡ the_server n) × (m.body ≡ b)

  pub came_in : (i : NodeInput) → IsSentTo sent (the_server n) i → IsCameIn CameTo i
  came_in (input.Deliver m) is = (is.0, m, is.1, is.2, refl)
  came_in input.Tick is = tt

  told_from : (d : ServerDisk) (before after : Table SerialOrder) → AreHeldFrom before after → AreToldLeases sent n d before → AreToldLeases sent n d after
  told_from d before after from h handle p is =
      let was = from handle p is in
      subst (λ (k : ℕ). IsToldLease sent n d handle k p.held) was.3 (subst (λ (held : LeaseHeld). IsToldLease sent n d handle (was.0).chunk held) was.2 (h handle was.0 was.1))

  all_later : (d e : ServerDisk) (leases : Table SerialOrder) → Later d e → AreToldLeases sent n d leases → AreToldLeases sent n e leases
  all_later d e leases later h handle p is = told_later sent n d e handle p.chunk p.held later (h handle p is)

  put_told : (d : ServerDisk) (leases : Table SerialOrder) (handle : ℕ) (new : SerialOrder) → IsToldLease sent n d handle new.chunk new.held → AreToldLeases sent n d leases → AreToldLeases sent n d (table.insert leases handle new)
  put_told d leases handle new told h q p is =
      elim (put_cases leases handle new q p is) [
        | inl same ↦ subst (λ (k : ℕ). IsToldLease sent n d k p.chunk p.held) (sym same.0) (subst (λ (x : SerialOrder). IsToldLease sent n d handle x.chunk x.held) same.1 told)
        | inr before ↦ h q p before
      ]

  -- such a Grant was
  abbrev pub GrantCameTo : OrderNo → Handle → Version → Moment → List ℕ → Type 0
  GrantCameTo order handle version end_moment members =
      (place : ℕ) × (m : Message) × (element_at sent place ≡ Some m) × (m.receiver ≡ the_server n) × SaysGrant order handle version end_moment members m.body

  abbrev pub grant_came : (order : OrderNo) (handle : Handle) (version : Version) (end_moment : Moment) (members : List ℕ) → HasGrant CameTo order handle version end_moment members → GrantCameTo order handle version end_moment members
  grant_came order handle version end_moment members g = ((g.1).0, (g.1).1, (g.1).2, (g.1).3, moved_grant (g.1).4 g.2)

  end_of_extend : (handle : Handle) (version : Version) (end_moment : Moment) (m : Message) → m.body ≡ body.Extend handle version end_moment → tells_end handle.0 version.0 end_moment.0 m.body ≡ true
  end_of_extend handle version end_moment m is =
      ap (tells_end handle.0 version.0 end_moment.0) is
      ∙ and_from ((handle.0 == handle.0) && (version.0 == version.0)) (end_moment.0 == end_moment.0) (and_from (handle.0 == handle.0) (version.0 == version.0) (same_number handle.0) (same_number version.0)) (same_number end_moment.0)

  telling_keeps : KeepsServer CameTo (λ c. (c.id ≡ n) × AreToldLeases sent n c.disk c.leases)
  telling_keeps =
      record {
        says = λ c receiver b quiet h. h;
        stores = λ c x is h. (h.0, all_later c.disk (disk_changed c.disk x) c.leases (replica_later c.disk x is) h.1);
        takes = λ c order new h. (h.0, all_later c.disk (disk_changed c.disk (SetOrder order)) c.leases (risen_later c.disk (SetOrder order) new) h.1);
        holds = λ c leases from h. (h.0, told_from c.disk c.leases leases from h.1);
        grants = λ c order handle version end_moment members has new h.
            let came : GrantCameTo order handle version end_moment members = grant_came order handle version end_moment members has in
            let after : ServerDisk = disk_changed c.disk (SetOrder order) in (
              h.0,
              put_told after c.leases handle.0 (lease_of version end_moment has.2.chunk members)
                  (record {
                    place = came.0;
                    grant = came.1;
                    at = came.2;
                    receiver = came.3;
                    order = order;
                    end_moment = end_moment;
                    is = came.4;
                    chunk_is = refl;
                    taken = inr (refl, omega arith);
                    told = (came.0, came.1, came.2, grant_ends came.4);
                  })
                  (all_later c.disk after c.leases (risen_later c.disk (SetOrder order) new) h.1),
            );
        extends = λ c handle version end_moment p came at same h.
            let old : IsToldLease sent n c.disk handle.0 p.chunk p.held = h.1 handle.0 p at in (
              h.0,
              put_told c.disk c.leases handle.0 (until_moment p end_moment)
                  (record {
                    place = old.place;
                    grant = old.grant;
                    at = old.at;
                    receiver = old.receiver;
                    order = old.order;
                    end_moment = old.end_moment;
                    is = old.is;
                    chunk_is = old.chunk_is;
                    taken = old.taken;
                    told = (came.0, came.1, came.2, subst (λ (v : ℕ). tells_end handle.0 v end_moment.0 (came.1).body ≡ true) (sym same) (end_of_extend handle version end_moment came.1 came.4));
                  }) h.1,
            );
        revokes = λ c order handle version leases came new from none h. (
          h.0,
          told_from (disk_changed c.disk (SetOrder order)) c.leases leases from
              (all_later c.disk (disk_changed c.disk (SetOrder order)) c.leases (risen_later c.disk (SetOrder order) new) h.1),
        );
      }

pub record IsToldServer (sent : List Message) (index : ℕ) (s : ServerState) : Type 0 where
  pub id : s.id ≡ suc index
  pub sound : HasOneRisingChange s
  pub told : AreToldLeases sent (suc index) s.disk s.leases

ends_told : (sent : List Message) (index : ℕ) (s : ServerState) (d : ServerDoing) (choice : Choice) (e : Ending) → s.id ≡ suc index → HasOneRisingChange (server_ends s d choice e).state
    → (d.server.id ≡ suc index) × AreToldLeases sent (suc index) (disk_changed_by_all d.server.disk d.changes) d.server.leases → IsToldServer sent index (server_ends s d choice e).state
ends_told sent index s d choice Goes id sound h = record { id = h.0; sound = sound; told = h.1 }
ends_told sent index s d choice Lost id sound h = record { id = id; sound = sound; told = none_told sent (suc index) _ }
ends_told sent index s d choice (Stops made) id sound h = record { id = id; sound = sound; told = none_told sent (suc index) _ }

step_told : (sent : List Message) (index : ℕ) (s : ServerState) (moment : ℕ) (i : NodeInput) (choice : Choice) → IsSentTo sent (the_server (suc index)) i → IsTrue s.up → IsToldServer sent index s
    → IsToldServer sent index (server_step s moment i choice).state
step_told sent index s moment i choice is up h =
    let d : ServerDoing = server_goes s moment i in
    let whole : HasOneRisingChange (server_step s moment i choice).state = (step_goes_on s moment i choice h.sound).sound in
    let same : server_step s moment i choice ≡ server_ends s d choice choice.ending = ap (λ (b : Bool). cond b (server_ends s d choice choice.ending) (no_step s)) up in
    subst (λ (t : Taken ServerState). IsToldServer sent index t.state) (sym same)
    (ends_told sent index s d choice choice.ending h.id (subst (λ (t : Taken ServerState). HasOneRisingChange t.state) same whole)
    (server_goes_holds (CameTo sent (suc index)) (λ c. (c.id ≡ suc index) × AreToldLeases sent (suc index) c.disk c.leases) (telling_keeps sent (suc index)) s moment i (came_in sent (suc index) i is) (h.id, h.told)))

rot_told : (sent : List Message) (index : ℕ) (s : ServerState) (x : StoreChange) (e : Ending) → IsOfReplica x → IsTrue s.up → IsToldServer sent index s → IsToldServer sent index (after_rot s x e)
rot_told sent index s x e is up h =
    record {
      id = rot_id s x e ∙ h.id;
      sound = (rot_goes_on s x e is h.sound up).sound;
      told = told_from sent (suc index) (after_rot s x e).disk s.leases (after_rot s x e).leases (rot_held s x e) (all_later sent (suc index) s.disk (after_rot s x e).disk s.leases (rot_goes_on s x e is h.sound up).later h.told);
    }

restart_told : (sent : List Message) (index : ℕ) (s : ServerState) (moment : ℕ) (choice : Choice) (e : Ending) → IsToldServer sent index s → IsToldServer sent index (server_restarts s moment choice e).state
restart_told sent index s moment choice Lost h = record { id = h.id; sound = (restarts_as s moment choice Lost h.sound).sound; told = none_told sent (suc index) _ }
restart_told sent index s moment choice (Stops made) h = record { id = h.id; sound = (restarts_as s moment choice (Stops made) h.sound).sound; told = none_told sent (suc index) _ }
restart_told sent index s moment choice Goes h = record { id = h.id; sound = (restarts_as s moment choice Goes h.sound).sound; told = none_told sent (suc index) _ }

-- worlds

abbrev pub AreTold : Scene → Type 0
AreTold x = (index : ℕ) (s : ServerState) → element_at x.servers index ≡ Some s → IsToldServer x.sent index s

more_told : (sent ms : List Message) (index : ℕ) (s : ServerState) → IsToldServer sent index s → IsToldServer (sent ++ ms) index s
more_told sent ms index s h = record { id = h.id; sound = h.sound; told = λ handle p is. told_more sent ms (suc index) s.disk handle p.chunk p.held (h.told handle p is) }

one_told : (x : Scene) (ms : List Message) (index : ℕ) (t : ServerState) → IsToldServer x.sent index t → AreTold x → AreTold (record x { sent = x.sent ++ ms; servers = with_at x.servers index t })
one_told x ms index t told h other u is =
    elim (set_cases x.servers index t other u is) [
      | inl both ↦ more_told x.sent ms other u (subst (λ (k : ℕ). IsToldServer x.sent k u) (sym both.0) (subst (λ (v : ServerState). IsToldServer x.sent index v) (sym both.1) told))
      | inr there ↦ more_told x.sent ms other u (h other u there)
    ]

pub numbered_from : (f : ℕ → ServerState) (count index : ℕ) (s : ServerState) → element_at (map f (first_numbers count)) index ≡ Some s → s ≡ f (suc index)
numbered_from f count index s is = subst (λ (k : ℕ). s ≡ f k) (ap (λ (k : ℕ). k) refl) (by_count count is).0
  where
    appended : (xs : List ℕ) (x : ℕ) (i : ℕ) → element_at (map f (xs ++ x ∷ [])) i ≡ Some s → (element_at (map f xs) i ≡ Some s) ⊎ ((i ≡ length xs) × (s ≡ f x))
    appended [] x zero e = inr (refl, sym (same_some (f x) s e))
    appended [] x (suc i) e = none_some s e
    appended (y ∷ xs) x zero e = inl e
    appended (y ∷ xs) x (suc i) e = elim (appended xs x i e) [ inl before ↦ inl before | inr last ↦ inr (ap (λ (k : ℕ). suc k) last.0, last.1) ]

    counted : (c : ℕ) → length (first_numbers c) ≡ c
    counted zero = refl
    counted (suc c) = longer (first_numbers c) (suc c) ∙ ap (λ (k : ℕ). suc k) (counted c)
      where
        longer : (xs : List ℕ) (x : ℕ) → length (xs ++ x ∷ []) ≡ suc (length xs)
        longer [] x = refl
        longer (y ∷ xs) x = ap (λ (k : ℕ). suc k) (longer xs x)

    by_count : (c : ℕ) → element_at (map f (first_numbers c)) index ≡ Some s → (s ≡ f (suc index)) × (index < c)
    by_count zero e = none_some s e
    by_count (suc c) e =
        elim (appended (first_numbers c) (suc c) index e) [
          | inl before ↦ let rest = by_count c before in (rest.0, let less = rest.1 in omega (arith, less))
          | inr last ↦ let at = last.0 in let all = counted c in (last.1 ∙ ap f (omega (arith, at, all)), omega (arith, at, all))
        ]

new_told : (config : Config) (servers clients : ℕ) (index : ℕ) (s : ServerState) → element_at (map (λ n. started_server config n (new_server_disk config.chunk config.block config.slots) 0) (first_numbers servers)) index ≡ Some s → IsToldServer [] index s
new_told config servers clients index s is =
    subst (λ (t : ServerState). IsToldServer [] index t) (sym (numbered_from (λ n. started_server config n (new_server_disk config.chunk config.block config.slots) 0) servers index s is))
    (record { id = refl; sound = none_under_way _ refl; told = none_told [] (suc index) _ })

pub told_kept : IsKeptByScenes AreTold
told_kept =
    record {
      new = new_told;
      passes = λ x moment h. h;
      says = λ x k ms quiet h index s is. more_told x.sent (stamped k ms) index s (h index s is);
      masters = λ x k moment i choice now is up h index s at. more_told x.sent (stamped k _) index s (h index s at);
      opens = λ x k moment choice now h index s at. more_told x.sent (stamped k _) index s (h index s at);
      serves = λ x k index moment s i choice now at is up h. one_told x (stamped k _) index _ (step_told x.sent index s moment i choice is up (h index s at)) h;
      restarts = λ x k index moment s choice now at h. one_told x (stamped k _) index _ (restart_told x.sent index s moment choice choice.ending (h index s at)) h;
      rots = λ x index c s e of_replica at up h other t is.
          elim (set_cases x.servers index (after_rot s c e) other t is) [
            | inl both ↦ subst (λ (k : ℕ). IsToldServer x.sent k t) (sym both.0) (subst (λ (v : ServerState). IsToldServer x.sent index v) (sym both.1) (rot_told x.sent index s c e of_replica up (h index s at)))
            | inr there ↦ h other t there
          ];
    }

pub leases_are_told : LeasesAreTold
leases_are_told config servers clients w r index s at handle p is =
    let told = (scene_reached AreTold told_kept config servers clients w r index s at).told handle p is in
    (was_granted w.sent (suc index) handle p.chunk p.held told.place told.grant told.at told.receiver told.order told.end_moment told.is told.chunk_is, told.told)

-- two grants of one version are one

one_grant : (handle version : ℕ) (sent : List Message) (place : ℕ) (g : Message) → element_at sent place ≡ Some g → is_grant handle version g.body ≡ true → 1 ≤ grants_of handle version sent
one_grant handle version [] place g at is = none_some g at
one_grant handle version (m ∷ sent) zero g at is =
    let whole = count-cons (λ (x : Message). is_grant handle version x.body) m sent in
    let one = ap tally (ap (λ (x : Message). is_grant handle version x.body) (same_some m g at) ∙ is) in
    omega (arith, whole, one)
one_grant handle version (m ∷ sent) (suc place) g at is =
    let whole = count-cons (λ (x : Message). is_grant handle version x.body) m sent in
    let more = one_grant handle version sent place g at is in
    omega (arith, whole, more)

pub same_grant : (handle version : ℕ) (sent : List Message) (place other : ℕ) (g m : Message) → grants_of handle version sent ≤ 1 → element_at sent place ≡ Some g → element_at sent other ≡ Some m
    → is_grant handle version g.body ≡ true → is_grant handle version m.body ≡ true → g ≡ m
same_grant handle version [] place other g m few at there is also = none_some g at
same_grant handle version (x ∷ sent) zero zero g m few at there is also = same_some g m (sym at ∙ there)
same_grant handle version (x ∷ sent) zero (suc other) g m few at there is also =
    let whole = count-cons (λ (y : Message). is_grant handle version y.body) x sent in
    let one = ap tally (ap (λ (y : Message). is_grant handle version y.body) (same_some x g at) ∙ is) in
    let more = one_grant handle version sent other m there also in
    absurd (omega (arith, whole, one, more, few))
same_grant handle version (x ∷ sent) (suc place) zero g m few at there is also =
    let whole = count-cons (λ (y : Message). is_grant handle version y.body) x sent in
    let one = ap tally (ap (λ (y : Message). is_grant handle version y.body) (same_some x m there) ∙ also) in
    let more = one_grant handle version sent place g at is in
    absurd (omega (arith, whole, one, more, few))
same_grant handle version (x ∷ sent) (suc place) (suc other) g m few at there is also =
    let whole = count-cons (λ (y : Message). is_grant handle version y.body) x sent in
    same_grant handle version sent place other g m (omega (arith, whole, few)) at there is also

pub granting : (order : OrderNo) (handle version : ℕ) (end_moment : Moment) (members : List ℕ) (b : Body) → SaysGrant order (handle_of handle) (version_of version) end_moment members b → is_grant handle version b ≡ true
granting order handle version end_moment members b is = grant_counts is

pub server_numbers : (n m : ℕ) → the_server (suc n) ≡ the_server (suc m) → n ≡ m
server_numbers n m same = let number : suc n ≡ suc m = ap number_of same in omega (arith, number)
  where
    number_of : Node → ℕ
    number_of (node.Server s) = s.0
    number_of other = 0

pub versions_have_one_primary : VersionsHaveOnePrimary
versions_have_one_primary config servers clients w r index other s t at there handle p q is also same =
    let told = scene_reached AreTold told_kept config servers clients w r in
    let a = (told index s at).told handle p is in
    let b = (told other t there).told handle q also in
    let version : ℕ = p.held.version in
    let one : a.grant ≡ b.grant =
    same_grant handle version w.sent a.place b.place a.grant b.grant (versions_are_granted_once config servers clients w r handle version) a.at b.at
    (granting a.order handle version a.end_moment p.held.members (a.grant).body a.is)
    (subst (λ (v : ℕ). is_grant handle v (b.grant).body ≡ true) (sym same) (granting b.order handle q.held.version b.end_moment q.held.members (b.grant).body b.is)) in
    server_numbers index other (sym a.receiver ∙ ap (λ (m : Message). m.receiver) one ∙ b.receiver)
