-- A server that said that a lease is revoked has no such lease, and refuses its Grant for good.
use Rattle.std.proofs.Common.{◌≡◌, ◌⊎◌, ℕ, zero, suc, true, false, Bool, cond, List, [], ◌∷◌, ◌++◌, Some, refl, sym, ap, subst, ◌∙◌, inl, inr, arith}
use Rattle.std.specs.Prelude.{IsTrue, ◌&&◌}
use Rattle.std.specs.FinMap as table
use Rattle.gfs_types.specs.declared.config.Config.{Config}
use Rattle.gfs_types.specs.declared.ids.OrderNo.{OrderNo}
use Rattle.gfs_types.specs.declared.ids.Handle.{Handle}
use Rattle.gfs_types.specs.declared.ids.Version.{Version}
use Rattle.gfs_types.specs.declared.ids.Moment.{Moment}
use Rattle.gfs_types.specs.declared.ids.Node.TheVariants.{Master}
use Rattle.messages.specs.declared.message.Body.{Body}
use Rattle.messages.specs.declared.message.Body.TheVariants as body
use Rattle.messages.specs.declared.message.Message.{Message}
use Rattle.messages.specs.declared.event.NodeInput.{NodeInput}
use Rattle.protocol.specs.Tables.{Table, element_at, with_at}
use Rattle.protocol.specs.Choice.{Choice, Ending, Goes, Lost, Stops}
use Rattle.protocol.specs.Seen.{Taken, no_step}
use Rattle.protocol.specs.Sending.{message, the_server, handle_of, version_of, order_number}
use Rattle.leases.specs.LeaseHeld.{LeaseHeld}
use Rattle.primary_order.specs.SerialOrder.{SerialOrder}
use Rattle.replica_store.specs.declared.change.StoreChange.{StoreChange}
use Rattle.replica_store.specs.declared.change.StoreChange.TheVariants.{SetOrder}
use Rattle.replica_store.specs.Replicas.{ServerDisk, disk_changed, is_new_order}
use Rattle.protocol.specs.Server.{ServerState, ServerDoing}
use Rattle.protocol.specs.ServerStep.{server_goes, server_ends, server_step, server_restarts, server_restart}
use Rattle.protocol.specs.Master.{MasterState, MasterDoing}
use Rattle.protocol.specs.MasterStep.{master_goes, master_ends, master_bounded, master_step, master_restart, is_within_limits, may_end, found_log, started_master, opening, has_opened, opens_as}
use Rattle.protocol.specs.World.{WorldState, stamped, after_rot, IsReached}
use Rattle.laws_base.proofs.LeaseOrders.{SaysRevoke, moved_revoke, named_revoke}
use Rattle.laws_base.proofs.Steps.{on_cond, none_some, same_some, put_cases}
use Rattle.laws_base.proofs.Words.{is_of_lease, true_false}
use Rattle.laws_base.proofs.Entries.{AllOf, all_joined}
use Rattle.laws_base.proofs.MasterMoves.{Nothing, NoneEnded, Keeps}
use Rattle.laws_base.proofs.MasterSteps.{goes_keeps}
use Rattle.laws_base.proofs.Rots.{none_held, rot_held}
use Rattle.laws_base.proofs.ServerMoves.{ServerCore, server_core, IsOfReplica, AreHeldFrom, HasNoLease, lease_of, until_moment, same_held, KeepsServer, server_goes_holds}
use Rattle.laws_base.proofs.RisingOrders.{Later, same_later, then_later, risen_later, HasOneRisingChange, step_goes_on, rot_goes_on, restarts_as}
use Rattle.laws_base.proofs.MembersRecorded.{all_at, all_in_order}
use Rattle.laws_base.proofs.MessagesSent.{IsSent, sent_before, sent_cases, none_sent, sent_last, numbered_sent, ordered_sent}
use Rattle.laws_base.proofs.ScenesReached.{Scene, scene_of, IsSentTo, IsKeptByScenes, lifted, scene_reached}
use Rattle.laws_base.proofs.LeasesTold.{IsStaleAt, stale_later, new_not_stale, replica_later, CameTo, came_in, GrantCameTo, grant_came, IsToldServer, AreTold, told_kept}
use Rattle.laws_base.proofs.RevokesNumbered.{ArePaired, IsOfRevokes, revokes_kept, paired}

-- such a Revoke was sent to this server
pub record WasSentRevoke (sent : List Message) (n handle version : ℕ) (order : OrderNo) : Type 0 where
  pub revoke : Message
  pub is_sent : IsSent sent revoke
  pub receiver : revoke.receiver ≡ the_server n
  pub is : SaysRevoke order (handle_of handle) (version_of version) revoke.body

-- it took the Revoke, and has no such lease
pub record IsOver (sent : List Message) (n : ℕ) (d : ServerDisk) (leases : Table SerialOrder) (handle version : ℕ) (order : OrderNo) : Type 0 where
  pub word : WasSentRevoke sent n handle version order
  pub taken : IsStaleAt d order
  pub none : HasNoLease leases handle version

over_from : (sent : List Message) (n : ℕ) (d e : ServerDisk) (before after : Table SerialOrder) (handle version : ℕ) (order : OrderNo) → Later d e → AreHeldFrom before after → IsOver sent n d before handle version order → IsOver sent n e after handle version order
over_from sent n d e before after handle version order later from h =
    record {
      word = h.word;
      taken = stale_later d e order later h.taken;
      none = λ p at same. let was = from handle p at in h.none was.0 was.1 (ap (λ (held : LeaseHeld). held.version) was.2 ∙ same);
    }

-- a step of a server

-- a message that says that a lease is revoked
abbrev SaysOver : List Message → ℕ → ServerDisk → Table SerialOrder → Message → Type 0
SaysOver sent n d leases m = (handle : Handle) (version : Version) → m.body ≡ body.Revoked handle version → (order : OrderNo) × IsOver sent n d leases handle.0 version.0 order

record IsEnding (sent : List Message) (n : ℕ) (disk : ServerDisk) (leases : Table SerialOrder) (c : ServerCore) : Type 0 where
  id : c.id ≡ n
  kept : (handle version : ℕ) (order : OrderNo) → IsOver sent n disk leases handle version order → IsOver sent n c.disk c.leases handle version order
  said : (m : Message) → IsSent c.sent m → SaysOver sent n c.disk c.leases m

module _ (sent : List Message) (n : ℕ) (pairs : ArePaired sent) (disk : ServerDisk) (leases : Table SerialOrder) where
  -- what is over stays over
  stays : (c d : ServerCore) → d.id ≡ c.id → d.sent ≡ c.sent → ((handle version : ℕ) (order : OrderNo) → IsOver sent n c.disk c.leases handle version order → IsOver sent n d.disk d.leases handle version order) → IsEnding sent n disk leases c → IsEnding sent n disk leases d
  stays c d same quiet f h =
      record {
        id = same ∙ h.id;
        kept = λ handle version order is. f handle version order (h.kept handle version order is);
        said = λ m is handle version says. let was = h.said m (subst (λ (ms : List Message). IsSent ms m) quiet is) handle version says in (was.0, f handle.0 version.0 was.0 was.1);
      }

  -- one message more
  more : (c : ServerCore) (x : Message) → SaysOver sent n c.disk c.leases x → IsEnding sent n disk leases c → IsEnding sent n disk leases (record c { sent = c.sent ++ x ∷ [] })
  more c x new h =
      record {
        id = h.id;
        kept = h.kept;
        said = λ m is. elim (sent_last c.sent x m is) [
          | inl before ↦ h.said m before
          | inr same ↦ subst (λ (y : Message). SaysOver sent n c.disk c.leases y) same new
        ];
      }

  -- a Grant that is taken is of a lease that is not over
  over_granted : (c : ServerCore) (order : OrderNo) (handle : Handle) (version : Version) (end_moment : Moment) (chunk : ℕ) (members : List ℕ) → GrantCameTo sent n order handle version end_moment members → is_new_order c.disk order.epoch order.count ≡ true
      → (q v : ℕ) (earlier : OrderNo) → IsOver sent n c.disk c.leases q v earlier → IsOver sent n (disk_changed c.disk (SetOrder order)) (table.insert c.leases handle.0 (lease_of version end_moment chunk members)) q v earlier
  over_granted c order handle version end_moment chunk members came new q v earlier h =
      record {
        word = h.word;
        taken = stale_later c.disk (disk_changed c.disk (SetOrder order)) earlier (risen_later c.disk (SetOrder order) new) h.taken;
        none = λ p at same.
            elim (put_cases c.leases handle.0 (lease_of version end_moment chunk members) q p at) [
              | inl now ↦ refused now.0 (ap (λ (x : SerialOrder). x.held.version) now.1 ∙ same)
              | inr before ↦ h.none p before same
            ];
      }
    where
      refused : q ≡ handle.0 → version.0 ≡ v → ⊥
      refused key same =
          let word : WasSentRevoke sent n q v earlier = h.word in
          let revoke : SaysRevoke earlier handle version (word.revoke).body = named_revoke word.is key (sym same) in
          let pair = pairs came.1 word.revoke (came.0, came.2) word.is_sent order earlier handle version end_moment members came.4 revoke in
          new_not_stale c.disk order new
          (then_later (record { chunk = 0; block = 0; slots = 0; epoch = order.epoch; count = order.count; replicas = table.empty })
          (record { chunk = 0; block = 0; slots = 0; epoch = earlier.epoch; count = earlier.count; replicas = table.empty }) c.disk pair.1 h.taken)

  over_extended : (c : ServerCore) (handle : Handle) (end_moment : Moment) (p : SerialOrder) → table.get c.leases handle.0 ≡ Some p → (q v : ℕ) (order : OrderNo) → IsOver sent n c.disk c.leases q v order
      → IsOver sent n c.disk (table.insert c.leases handle.0 (until_moment p end_moment)) q v order
  over_extended c handle end_moment p at q v order h =
      record {
        word = h.word;
        taken = h.taken;
        none = λ x is same.
            elim (put_cases c.leases handle.0 (until_moment p end_moment) q x is) [
              | inl now ↦ h.none p (ap (λ (k : ℕ). table.get c.leases k) now.0 ∙ at) (ap (λ (y : SerialOrder). y.held.version) now.1 ∙ same)
              | inr before ↦ h.none x before same
            ];
      }

  quiet_says : (d : ServerDisk) (held : Table SerialOrder) (m : Message) → is_of_lease m.body ≡ false → SaysOver sent n d held m
  quiet_says d held m quiet handle version says = true_false (sym (ap is_of_lease says) ∙ quiet)

  ending_keeps : KeepsServer (CameTo sent n) (IsEnding sent n disk leases)
  ending_keeps =
      record {
        says = λ c receiver b quiet h. more c (message (the_server c.id) receiver b) (quiet_says c.disk c.leases (message (the_server c.id) receiver b) quiet) h;
        stores = λ c x is h. stays c _ refl refl (λ q v o. over_from sent n c.disk (disk_changed c.disk x) c.leases c.leases q v o (replica_later c.disk x is) (same_held c.leases)) h;
        takes = λ c order new h. stays c _ refl refl (λ q v o. over_from sent n c.disk (disk_changed c.disk (SetOrder order)) c.leases c.leases q v o (risen_later c.disk (SetOrder order) new) (same_held c.leases)) h;
        holds = λ c after from h. stays c _ refl refl (λ q v o. over_from sent n c.disk c.disk c.leases after q v o (same_later c.disk) from) h;
        grants = λ c order handle version end_moment members came new h. stays c _ refl refl (over_granted c order handle version end_moment came.2.chunk members (grant_came sent n order handle version end_moment members came) new) h;
        extends = λ c handle version end_moment p came at same h. stays c _ refl refl (over_extended c handle end_moment p at) h;
        revokes = λ c order handle version after has new from none h.
            let came : CameTo sent n has.0 = has.1 in
            let e : ServerDisk = disk_changed c.disk (SetOrder order) in
            let d : ServerCore = record c { disk = e; changes = c.changes ++ SetOrder order ∷ []; leases = after } in
            let over : IsOver sent n e after handle.0 version.0 order =
            record { word = record { revoke = came.1; is_sent = (came.0, came.2); receiver = came.3; is = moved_revoke came.4 has.2 }; taken = inr (refl, omega arith); none = none } in
            more d (message (the_server c.id) Master (body.Revoked handle version))
            (λ q v says. (order, subst (λ (k : Handle). IsOver sent n e after k.0 v.0 order) (ap handle_in says) (subst (λ (k : Version). IsOver sent n e after handle.0 k.0 order) (ap version_in says) over)))
            (stays c d refl refl (λ q v o. over_from sent n c.disk e c.leases after q v o (risen_later c.disk (SetOrder order) new) from) h);
      }
    where
      handle_in : Body → Handle
      handle_in (body.Revoked q v) = q
      handle_in other = handle_of 0

      version_in : Body → Version
      version_in (body.Revoked q v) = v
      version_in other = version_of 0

-- worlds

-- a server took the Revoke of this lease, which it has not
pub record WasRevoked (sent : List Message) (servers : List ServerState) (handle version : ℕ) : Type 0 where
  pub index : ℕ
  pub order : OrderNo
  pub word : WasSentRevoke sent (suc index) handle version order
  pub over : (s : ServerState) → element_at servers index ≡ Some s → IsOver sent (suc index) s.disk s.leases handle version order

-- each word that a lease is revoked was true for good
abbrev pub AreRevoked : Scene → Type 0
AreRevoked x = (m : Message) → IsSent x.sent m → (handle : Handle) (version : Version) → m.body ≡ body.Revoked handle version → WasRevoked x.sent x.servers handle.0 version.0

set_split : {X : Type 0} (xs : List X) (at : ℕ) (y : X) (n : ℕ) (x : X) → element_at (with_at xs at y) n ≡ Some x → ((n ≡ at) × (x ≡ y)) ⊎ ((n ≡ at → ⊥) × (element_at xs n ≡ Some x))
set_split [] at y n x h = none_some x h
set_split (z ∷ xs) zero y zero x h = inl (refl, sym (same_some y x h))
set_split (z ∷ xs) zero y (suc n) x h = inr (λ same. omega (arith, same), h)
set_split (z ∷ xs) (suc at) y zero x h = inr (λ same. omega (arith, same), h)
set_split (z ∷ xs) (suc at) y (suc n) x h =
    elim (set_split xs at y n x h) [
      | inl both ↦ inl (ap (λ (k : ℕ). suc k) both.0, both.1)
      | inr other ↦ inr (λ same. other.0 (omega (arith, same)), other.1)
    ]

sent_more : (sent ms : List Message) (n handle version : ℕ) (order : OrderNo) → WasSentRevoke sent n handle version order → WasSentRevoke (sent ++ ms) n handle version order
sent_more sent ms n handle version order h = record { revoke = h.revoke; is_sent = sent_before sent ms h.revoke h.is_sent; receiver = h.receiver; is = h.is }

over_more : (sent ms : List Message) (n : ℕ) (d : ServerDisk) (leases : Table SerialOrder) (handle version : ℕ) (order : OrderNo) → IsOver sent n d leases handle version order → IsOver (sent ++ ms) n d leases handle version order
over_more sent ms n d leases handle version order h = record { word = sent_more sent ms n handle version order h.word; taken = h.taken; none = h.none }

revoked_more : (sent ms : List Message) (servers : List ServerState) (handle version : ℕ) → WasRevoked sent servers handle version → WasRevoked (sent ++ ms) servers handle version
revoked_more sent ms servers handle version h =
    record {
      index = h.index;
      order = h.order;
      word = sent_more sent ms (suc h.index) handle version h.order h.word;
      over = λ s at. over_more sent ms (suc h.index) s.disk s.leases handle version h.order (h.over s at);
    }

-- what a step of a server leaves over
abbrev StaysOver : List Message → ℕ → ServerState → ServerState → Type 0
StaysOver sent n s t = (handle version : ℕ) (order : OrderNo) → IsOver sent n s.disk s.leases handle version order → IsOver sent n t.disk t.leases handle version order

revoked_set : (sent : List Message) (servers : List ServerState) (at : ℕ) (s t : ServerState) (handle version : ℕ) → element_at servers at ≡ Some s → StaysOver sent (suc at) s t → WasRevoked sent servers handle version
    → WasRevoked sent (with_at servers at t) handle version
revoked_set sent servers at s t handle version there stays h =
    record {
      index = h.index;
      order = h.order;
      word = h.word;
      over = λ u is.
          elim (set_split servers at t h.index u is) [
            | inr other ↦ h.over u other.1
            | inl same ↦
                let old : IsOver sent (suc at) s.disk s.leases handle version h.order =
                subst (λ (k : ℕ). IsOver sent (suc k) s.disk s.leases handle version h.order) same.0 (h.over s (ap (λ (k : ℕ). element_at servers k) same.0 ∙ there)) in
                subst (λ (k : ℕ). IsOver sent (suc k) u.disk u.leases handle version h.order) (sym same.0)
                (subst (λ (v : ServerState). IsOver sent (suc at) v.disk v.leases handle version h.order) (sym same.1) (stays handle version h.order old))
          ];
    }

-- messages that say no such thing
all_revoked : (x : Scene) (k : ℕ) (ms : List Message) → ((m : Message) → IsSent ms m → (handle : Handle) (version : Version) → m.body ≡ body.Revoked handle version → ⊥) → AreRevoked x → AreRevoked (record x { sent = x.sent ++ stamped k ms })
all_revoked x k ms none h m is handle version says =
    elim (sent_cases x.sent (stamped k ms) m is) [
      | inl before ↦ revoked_more x.sent (stamped k ms) x.servers handle.0 version.0 (h m before handle version says)
      | inr new ↦ let was = numbered_sent k ms new.0 m new.1 in absurd (none was.0 was.1 handle version (was.2.2 ∙ says))
    ]

-- a server that takes a step, or restarts
served : (x : Scene) (k index : ℕ) (s t : ServerState) (ms : List Message) → element_at x.servers index ≡ Some s → StaysOver x.sent (suc index) s t → ((m : Message) → IsSent ms m → SaysOver x.sent (suc index) t.disk t.leases m) → AreRevoked x
    → AreRevoked (record x { sent = x.sent ++ stamped k ms; servers = with_at x.servers index t })
served x k index s t ms there stays said h m is handle version says =
    revoked_more x.sent (stamped k ms) (with_at x.servers index t) handle.0 version.0
    (elim (sent_cases x.sent (stamped k ms) m is) [
      | inl before ↦ revoked_set x.sent x.servers index s t handle.0 version.0 there stays (h m before handle version says)
      | inr new ↦
          let was = numbered_sent k ms new.0 m new.1 in
          let over = said was.0 was.1 handle version (was.2.2 ∙ says) in
          record {
            index = index;
            order = over.0;
            word = (over.1).word;
            over = λ u at. elim (set_split x.servers index t index u at) [
              | inl same ↦ subst (λ (v : ServerState). IsOver x.sent (suc index) v.disk v.leases handle.0 version.0 over.0) (sym same.1) over.1
              | inr other ↦ absurd (other.0 refl)
            ];
          }
    ])

none_over : (sent : List Message) (n : ℕ) (s t : ServerState) → Later s.disk t.disk → t.leases ≡ table.empty → StaysOver sent n s t
none_over sent n s t later none q v o h =
    subst (λ (leases : Table SerialOrder). IsOver sent n t.disk leases q v o) (sym none) (over_from sent n s.disk t.disk s.leases table.empty q v o later (none_held s.leases) h)

-- what a step of a server comes to
record Comes (sent : List Message) (n : ℕ) (s : ServerState) (t : Taken ServerState) : Type 0 where
  stays : StaysOver sent n s t.state
  said : (m : Message) → IsSent t.out.sent m → SaysOver sent n t.state.disk t.state.leases m

ends_over : (sent : List Message) (n : ℕ) (s : ServerState) (d : ServerDoing) (choice : Choice) (e : Ending) → Later s.disk (server_ends s d choice e).state.disk → IsEnding sent n s.disk s.leases (server_core d) → Comes sent n s (server_ends s d choice e)
ends_over sent n s d choice Goes later h =
    record { stays = λ q v o is. h.kept q v o is; said = λ m is. h.said m (ordered_sent choice.order d.sent m is) }
ends_over sent n s d choice Lost later h = record { stays = none_over sent n s (server_ends s d choice Lost).state later refl; said = λ m is. none_sent m is }
ends_over sent n s d choice (Stops made) later h = record { stays = none_over sent n s (server_ends s d choice (Stops made)).state later refl; said = λ m is. none_sent m is }

step_over : (sent : List Message) (n : ℕ) (s : ServerState) (moment : ℕ) (i : NodeInput) (choice : Choice) → ArePaired sent → IsSentTo sent (the_server n) i → IsTrue s.up → HasOneRisingChange s → s.id ≡ n → Comes sent n s (server_step s moment i choice)
step_over sent n s moment i choice pairs is up sound id =
    let d : ServerDoing = server_goes s moment i in
    let same : server_step s moment i choice ≡ server_ends s d choice choice.ending = ap (λ (b : Bool). cond b (server_ends s d choice choice.ending) (no_step s)) up in
    let later : Later s.disk (server_step s moment i choice).state.disk = (step_goes_on s moment i choice sound).later in
    subst (λ (t : Taken ServerState). Comes sent n s t) (sym same)
    (ends_over sent n s d choice choice.ending (subst (λ (t : Taken ServerState). Later s.disk t.state.disk) same later)
    (server_goes_holds (CameTo sent n) (IsEnding sent n s.disk s.leases) (ending_keeps sent n pairs s.disk s.leases) s moment i (came_in sent n i is)
    (record { id = id; kept = λ q v o h. h; said = λ m none. none_sent m none })))

restart_over : (sent : List Message) (n : ℕ) (s : ServerState) (moment : ℕ) (choice : Choice) (e : Ending) → HasOneRisingChange s → Comes sent n s (server_restarts s moment choice e)
restart_over sent n s moment choice Lost sound = record { stays = none_over sent n s (server_restarts s moment choice Lost).state (restarts_as s moment choice Lost sound).later refl; said = λ m is. none_sent m is }
restart_over sent n s moment choice (Stops made) sound = record { stays = none_over sent n s (server_restarts s moment choice (Stops made)).state (restarts_as s moment choice (Stops made) sound).later refl; said = λ m is. none_sent m is }
restart_over sent n s moment choice Goes sound = record { stays = none_over sent n s (server_restarts s moment choice Goes).state (restarts_as s moment choice Goes sound).later refl; said = λ m is. none_sent m is }

-- a server's disk that rots keeps its order's number
rotten_over : (sent : List Message) (n : ℕ) (s : ServerState) (c : StoreChange) (e : Ending) → IsOfReplica c → HasOneRisingChange s → IsTrue s.up → StaysOver sent n s (after_rot s c e)
rotten_over sent n s c e is sound up q v o h = over_from sent n s.disk (after_rot s c e).disk s.leases (after_rot s c e).leases q v o (rot_goes_on s c e is sound up).later (rot_held s c e) h

rots_revoked : (x : Scene) (index : ℕ) (s t : ServerState) → element_at x.servers index ≡ Some s → StaysOver x.sent (suc index) s t → AreRevoked x → AreRevoked (record x { servers = with_at x.servers index t })
rots_revoked x index s t at stays h m is handle version says = revoked_set x.sent x.servers index s t handle.0 version.0 at stays (h m is handle version says)

no_revoked : (b : Body) (handle : Handle) (version : Version) → is_of_lease b ≡ false → b ≡ body.Revoked handle version → ⊥
no_revoked b handle version quiet says = true_false (sym (ap is_of_lease says) ∙ quiet)

-- the master says no such thing

abbrev says_revoked : Body → Bool
says_revoked (body.Revoked handle version) = true
says_revoked other = false

abbrev SayNoRevoked : List Message → Type 0
SayNoRevoked ms = AllOf (λ m. says_revoked m.body ≡ false) ms

quiet_body : (b : Body) → is_of_lease b ≡ false → says_revoked b ≡ false
quiet_body (body.Revoked handle version) h = true_false h
quiet_body other h = refl

order_body : (b : Body) (o : OrderNo) → order_number b ≡ Some o → says_revoked b ≡ false
order_body (body.Revoked handle version) o h = none_some o h
order_body other o h = refl

master_keeps : Keeps ⊥ Nothing NoneEnded (λ c. SayNoRevoked c.sent)
master_keeps =
    record {
      sound = λ asks. absurd asks;
      tells = λ c receiver b quiet h. all_joined (λ m. says_revoked m.body ≡ false) c.sent _ h (quiet_body b quiet, tt);
      orders = λ c server b is plain h. all_joined (λ m. says_revoked m.body ≡ false) c.sent _ h (order_body (b _) _ (is _), tt);
      revokes = λ c handle row is h. all_joined (λ m. says_revoked m.body ≡ false) c.sent _ h (refl, tt);
      grants = λ c handle version until primary members told due names from idle h. all_joined (λ m. says_revoked m.body ≡ false) c.sent _ h (refl, tt);
      appends = λ c r due plain names h. h;
      checkpoint = λ c tree h. h;
      less = λ c handles copied h. h;
      ends = λ c handle row is word h. h;
      extends = λ c handle until row is lasts later from h. all_joined (λ m. says_revoked m.body ≡ false) c.sent _ h (refl, tt);
    }

ends_silent : (m : MasterState) (d : MasterDoing) (choice : Choice) (e : Ending) → SayNoRevoked d.sent → SayNoRevoked (master_ends m d choice e).out.sent
ends_silent m d choice Goes h = all_in_order (λ x. says_revoked x.body ≡ false) choice.order d.sent h
ends_silent m d choice Lost h = tt
ends_silent m d choice (Stops made) h = tt

master_silent : (m : MasterState) (moment : ℕ) (i : NodeInput) (choice : Choice) → SayNoRevoked (master_step m moment i choice).out.sent
master_silent m moment i choice =
    let d : MasterDoing = master_goes m moment i choice.refused in
    let good : Taken MasterState → Type 0 = λ t. SayNoRevoked t.out.sent in
    on_cond good m.up (master_bounded m i d choice) (no_step m)
    (λ _. on_cond good (may_end m i d choice.ending) (master_ends m d choice choice.ending) (no_step m) (λ _. ends_silent m d choice choice.ending (goes_keeps (λ c. SayNoRevoked c.sent) master_keeps m moment i choice.refused tt)) (λ _. tt))
    (λ _. tt)

opens_silent : (old m : MasterState) (d : MasterDoing) (choice : Choice) (e : Ending) → SayNoRevoked (opens_as old m d choice e).out.sent
opens_silent old m d choice Lost = tt
opens_silent old m d choice (Stops made) = tt
opens_silent old m d choice Goes = on_cond (λ (t : Taken MasterState). SayNoRevoked t.out.sent) (has_opened m d && is_within_limits d.master) _ _ (λ _. tt) (λ _. tt)

restart_silent : (m : MasterState) (moment : ℕ) (choice : Choice) → SayNoRevoked (master_restart m moment choice).out.sent
restart_silent m moment choice =
    let started : MasterState = started_master m.config m.server_count (found_log m choice) moment in
    opens_silent m started (opening started) choice choice.ending

silent_none : (ms : List Message) → SayNoRevoked ms → (m : Message) → IsSent ms m → (handle : Handle) (version : Version) → m.body ≡ body.Revoked handle version → ⊥
silent_none ms all m is handle version says = true_false (sym (ap says_revoked says) ∙ all_at (λ x. says_revoked x.body ≡ false) ms is.0 m all is.1)

-- together with what it stands on
pub record IsOfRevoked (x : Scene) : Type 0 where
  pub sent : IsOfRevokes x.sent x.master
  pub told : AreTold x
  pub revoked : AreRevoked x

pub revoked_kept : IsKeptByScenes IsOfRevoked
revoked_kept =
    let base : IsKeptByScenes (λ x. IsOfRevokes x.sent x.master) = lifted IsOfRevokes revokes_kept in
    record {
      new = λ config servers clients. record { sent = base.new config servers clients; told = told_kept.new config servers clients; revoked = λ m is. none_sent m is };
      passes = λ x moment h. record { sent = base.passes x moment h.sent; told = told_kept.passes x moment h.told; revoked = h.revoked };
      says = λ x k ms quiet h.
          record {
            sent = base.says x k ms quiet h.sent;
            told = told_kept.says x k ms quiet h.told;
            revoked = all_revoked x k ms (λ m is handle version. no_revoked m.body handle version (all_at (λ y. is_of_lease y.body ≡ false) ms is.0 m quiet is.1)) h.revoked;
          };
      masters = λ x k moment i choice now is up h.
          let ms : List Message = (master_step x.master moment i choice).out.sent in
          record {
            sent = base.masters x k moment i choice now is up h.sent;
            told = told_kept.masters x k moment i choice now is up h.told;
            revoked = all_revoked x k ms (silent_none ms (master_silent x.master moment i choice)) h.revoked;
          };
      opens = λ x k moment choice now h.
          let ms : List Message = (master_restart x.master moment choice).out.sent in
          record {
            sent = base.opens x k moment choice now h.sent;
            told = told_kept.opens x k moment choice now h.told;
            revoked = all_revoked x k ms (silent_none ms (restart_silent x.master moment choice)) h.revoked;
          };
      serves = λ x k index moment s i choice now at is up h.
          let told : IsToldServer x.sent index s = h.told index s at in
          let comes : Comes x.sent (suc index) s (server_step s moment i choice) = step_over x.sent (suc index) s moment i choice (paired x.sent x.master h.sent) is up told.sound told.id in
          record {
            sent = base.serves x k index moment s i choice now at is up h.sent;
            told = told_kept.serves x k index moment s i choice now at is up h.told;
            revoked = served x k index s (server_step s moment i choice).state (server_step s moment i choice).out.sent at comes.stays comes.said h.revoked;
          };
      restarts = λ x k index moment s choice now at h.
          let comes : Comes x.sent (suc index) s (server_restart s moment choice) = restart_over x.sent (suc index) s moment choice choice.ending (h.told index s at).sound in
          record {
            sent = base.restarts x k index moment s choice now at h.sent;
            told = told_kept.restarts x k index moment s choice now at h.told;
            revoked = served x k index s (server_restart s moment choice).state (server_restart s moment choice).out.sent at comes.stays comes.said h.revoked;
          };
      rots = λ x index c s e is at up h.
          record {
            sent = base.rots x index c s e is at up h.sent;
            told = told_kept.rots x index c s e is at up h.told;
            revoked = rots_revoked x index s (after_rot s c e) at (rotten_over x.sent (suc index) s c e is (h.told index s at).sound up) h.revoked;
          };
    }

-- in each reached world, whoever said that a lease is revoked has no such lease, and refuses its Grant for good
pub revoked_for_good : (config : Config) (servers clients : ℕ) (w : WorldState) → IsReached config servers clients w → AreRevoked (scene_of w)
revoked_for_good config servers clients w r = (scene_reached IsOfRevoked revoked_kept config servers clients w r).revoked
