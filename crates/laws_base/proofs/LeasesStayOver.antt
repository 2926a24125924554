-- A lease that is over stays over: its server refuses the Grant or finds it ended, and extends no lease that has ended.
use Rattle.std.proofs.Common.{◌≡◌, ◌⊎◌, ℕ, zero, suc, ◌+◌, ◌≤◌, ◌<◌, Bool, true, false, cond, List, [], ◌∷◌, ◌++◌, Option, Some, None, refl, sym, ap, subst, ◌∙◌, inl, inr, arith}
use Rattle.std.specs.Prelude.{◌==◌, ◌&&◌, ◌||◌, nat_lt, nat_le, count_by, IsTrue}
use Rattle.std.specs.Ordering.{nat_cmp}
use Rattle.std.specs.FinMap as table
use Rattle.std.proofs.lemmas.Bool.{and_parts, eqb-true, eqb-false, ltb-true, ltb-false, cases_lt}
use Rattle.std.proofs.Math.Nat.{le-max_left, le-max_right}
use Rattle.gfs_types.specs.declared.config.Config.{Config}
use Rattle.gfs_types.specs.declared.ids.OrderNo.{OrderNo}
use Rattle.gfs_types.specs.declared.ids.Handle.{Handle}
use Rattle.gfs_types.specs.declared.ids.Version.{Version}
use Rattle.gfs_types.specs.declared.ids.Moment.{Moment}
use Rattle.messages.specs.declared.event.Event.{Event}
use Rattle.messages.specs.declared.event.NodeInput.{NodeInput}
use Rattle.messages.specs.declared.event.NodeInput.TheVariants as input
use Rattle.messages.specs.declared.message.Body.{Body}
use Rattle.messages.specs.declared.message.Body.TheVariants as body
use Rattle.messages.specs.declared.message.Message.{Message}
use Rattle.protocol.specs.Tables.{Table, element_at, with_at}
use Rattle.protocol.specs.Choice.{Choice, Ending, Goes, Lost, Stops}
use Rattle.protocol.specs.Seen.{Taken, no_step}
use Rattle.protocol.specs.Sending.{the_server, handle_of, version_of}
use Rattle.leases.specs.LeaseHeld.{LeaseHeld, counts_at, extended}
use Rattle.primary_order.specs.SerialOrder.{SerialOrder}
use Rattle.replica_store.specs.declared.change.StoreChange.TheVariants.{SetOrder}
use Rattle.replica_store.specs.Replicas.{ServerDisk, disk_changed, is_new_order}
use Rattle.protocol.specs.Server.{ServerState, ServerDoing, server_begins, with_primary}
use Rattle.protocol.specs.ServerOrders.{extends_held}
use Rattle.protocol.specs.ServerStep.{server_at, server_takes, server_goes, server_ends, server_step, server_restarts, server_restart}
use Rattle.protocol.specs.MasterStep.{master_step, master_restart}
use Rattle.protocol.specs.World.{WorldState, new_world, stamped, after_rot, happens, after_events, IsReached}
use Rattle.laws_base.proofs.LeaseOrders.{SaysGrant, says_grant, named_grant, stated_grant}
use Rattle.laws_base.specs.Laws.{is_grant, grants_of}
use Rattle.laws_base.proofs.Steps.{on_cond, none_some, same_some, tally, put_cases, count-cons, count-append}
use Rattle.laws_base.proofs.ServerMoves.{server_core, AreHeldFrom, lease_of, KeepsServer, same_held, server_goes_holds}
use Rattle.laws_base.proofs.RisingOrders.{Later, same_later, risen_later, HasOneRisingChange, step_goes_on, rot_goes_on, restarts_as, set_cases}
use Rattle.laws_base.proofs.Rots.{rot_held}
use Rattle.laws_base.proofs.MessagesSent.{IsSent, sent_cases}
use Rattle.laws_base.proofs.LeasesTold.{IsStaleAt, stale_later, new_not_stale, replica_later, CameTo, came_in, GrantCameTo, grant_came, AreTold, told_kept, granting}
use Rattle.laws_base.proofs.ServerSettings.{AreSet, settings_kept}
use Rattle.laws_base.proofs.GrantsOnce.{versions_are_granted_once}
use Rattle.laws_base.proofs.ScenesReached.{Scene, scene_of, IsNow, IsSentTo, scene_reached, IsKeptOn, goes_on, kept_on}
use Rattle.laws_base.specs.Versions.{IsLeaseOver, LeasesStayOver}

-- counts of messages

counted : (f : Message → Bool) (ms : List Message) (m : Message) (place : ℕ) → element_at ms place ≡ Some m → f m ≡ true → 1 ≤ count_by f ms
counted f [] m place at passes = none_some m at
counted f (x ∷ ms) m zero at passes = let whole = count-cons f x ms in let one = ap tally (ap f (same_some x m at) ∙ passes) in omega (arith, whole, one)
counted f (x ∷ ms) m (suc place) at passes = let whole = count-cons f x ms in let more = counted f ms m place at passes in omega (arith, whole, more)

-- where no more of such messages are sent, each was sent before
sent_first : (f : Message → Bool) (count : ℕ) (sent more : List Message) (m : Message) → count ≤ count_by f sent → count_by f (sent ++ more) ≤ count → f m ≡ true → IsSent (sent ++ more) m → IsSent sent m
sent_first f count sent more m some few passes is =
    elim (sent_cases sent more m is) [
      | inl before ↦ before
      | inr later ↦ absurd (let whole = count-append f sent more in let one = counted f more m later.0 later.1 passes in omega (arith, whole, one, some, few))
    ]

above : (a b : ℕ) → a ≤ b → (a ≡ b → ⊥) → a < b
above a b low other =
    elim (cases_lt a b) [
      | inl less ↦ less
      | inr least ↦ absurd (other (omega (arith, low, least)))
    ]

-- a disk that refuses an order has taken it or a later one
refused_stale : (d : ServerDisk) (order : OrderNo) → is_new_order d order.epoch order.count ≡ false → IsStaleAt d order
refused_stale d order none = by_tests (nat_lt d.epoch order.epoch) refl (d.epoch == order.epoch) refl none
  where
    by_tests : (a : Bool) → nat_lt d.epoch order.epoch ≡ a → (b : Bool) → (d.epoch == order.epoch) ≡ b → a || (b && nat_lt d.count order.count) ≡ false → IsStaleAt d order
    by_tests true e b f h = absurd (let both : true ≡ false = h in cc)
    by_tests false e true f h = inr (sym (eqb-true d.epoch order.epoch f), ltb-false d.count order.count h)
    by_tests false e false f h = inl (above order.epoch d.epoch (ltb-false d.epoch order.epoch e) (λ same. eqb-false d.epoch order.epoch f (sym same)))

-- At a server with this disk and these leases the lease of a version is over.
pub record IsOverAt (sent : List Message) (greatest n handle version : ℕ) (d : ServerDisk) (leases : Table SerialOrder) : Type 0 where
  pub held : (p : SerialOrder) → table.get leases handle ≡ Some p → p.held.version ≡ version → p.held.until ≤ greatest
  pub comes : (grant : Message) → IsSent sent grant → grant.receiver ≡ the_server n → (order : OrderNo) (end_moment : Moment) (members : List ℕ)
      → SaysGrant order (handle_of handle) (version_of version) end_moment members grant.body → (end_moment.0 ≤ greatest) ⊎ IsStaleAt d order

abbrev is_extend : Body → Bool
is_extend (body.Extend handle version end_moment) = true
is_extend other = false

module _ (sent : List Message) (greatest n handle version : ℕ) where
  abbrev OverAt : ServerDisk → Table SerialOrder → Type 0
  OverAt d leases = IsOverAt sent greatest n handle version d leases

  over_from : (d e : ServerDisk) (before after : Table SerialOrder) → Later d e → AreHeldFrom before after → OverAt d before → OverAt e after
  over_from d e before after later from h =
      record {
        held = λ p at same.
            let was = from handle p at in
            let low = h.held was.0 was.1 (ap (λ (x : LeaseHeld). x.version) was.2 ∙ same) in
            let end : (was.0).held.until ≡ p.held.until = ap (λ (x : LeaseHeld). x.until) was.2 in
            omega (arith, low, end);
        comes = λ grant is to order end_moment members so.
            elim (h.comes grant is to order end_moment members so) [ inl early ↦ inl early | inr stale ↦ inr (stale_later d e order later stale) ];
      }

  none_over : (d e : ServerDisk) (before : Table SerialOrder) → Later d e → OverAt d before → OverAt e table.empty
  none_over d e before later h = over_from d e before table.empty later (λ q p is. none_some p (sym (table.get-empty nat_cmp q) ∙ is)) h

  -- a message that is no Extend was sent to this server
  abbrev Came : Body → Type 0
  Came b = CameTo sent n b × (is_extend b ≡ false)

  over_granted : (d : ServerDisk) (leases : Table SerialOrder) (order : OrderNo) (q : Handle) (v : Version) (end_moment : Moment) (chunk : ℕ) (members : List ℕ) → GrantCameTo sent n order q v end_moment members
      → is_new_order d order.epoch order.count ≡ true → OverAt d leases → OverAt (disk_changed d (SetOrder order)) (table.insert leases q.0 (lease_of v end_moment chunk members))
  over_granted d leases order q v end_moment chunk members came new h =
      record {
        held = λ p at same.
            elim (put_cases leases q.0 (lease_of v end_moment chunk members) handle p at) [
              | inl now ↦
                  let is : SaysGrant order (handle_of handle) (version_of version) end_moment members (came.1).body =
                  named_grant came.4 (sym now.0) (ap (λ (x : SerialOrder). x.held.version) now.1 ∙ same) in
                  let end : end_moment.0 ≡ p.held.until = ap (λ (x : SerialOrder). x.held.until) now.1 in
                  elim (h.comes came.1 (came.0, came.2) came.3 order end_moment members is) [
                    | inl early ↦ omega (arith, early, end)
                    | inr stale ↦ absurd (new_not_stale d order new stale)
                  ]
              | inr before ↦ h.held p before same
            ];
        comes = λ grant is to earlier until others so.
            elim (h.comes grant is to earlier until others so) [ inl early ↦ inl early | inr stale ↦ inr (stale_later d (disk_changed d (SetOrder order)) earlier (risen_later d (SetOrder order) new) stale) ];
      }

  over_keeps : KeepsServer Came (λ c. OverAt c.disk c.leases)
  over_keeps =
      record {
        says = λ c receiver b quiet h. h;
        stores = λ c x is h. over_from c.disk (disk_changed c.disk x) c.leases c.leases (replica_later c.disk x is) (same_held c.leases) h;
        takes = λ c order new h. over_from c.disk (disk_changed c.disk (SetOrder order)) c.leases c.leases (risen_later c.disk (SetOrder order) new) (same_held c.leases) h;
        holds = λ c leases from h. over_from c.disk c.disk c.leases leases (same_later c.disk) from h;
        grants = λ c order q v end_moment members came new h. over_granted c.disk c.leases order q v end_moment came.2.chunk members (grant_came sent n order q v end_moment members (came.0, (came.1).0, came.2)) new h;
        extends = λ c q v end_moment p came at same h. absurd (let both : true ≡ false = came.1 in cc);
        revokes = λ c order q v leases came new from none h. over_from c.disk (disk_changed c.disk (SetOrder order)) c.leases leases (risen_later c.disk (SetOrder order) new) from h;
      }

  -- a lease that has ended is not extended
  put_over : (d : ServerDisk) (leases : Table SerialOrder) (q : ℕ) (p : SerialOrder) → (q ≡ handle → p.held.version ≡ version → p.held.until ≤ greatest) → OverAt d leases → OverAt d (table.insert leases q p)
  put_over d leases q p early h =
      record {
        held = λ x at same.
            elim (put_cases leases q p handle x at) [
              | inl now ↦
                  let low = early (sym now.0) (ap (λ (y : SerialOrder). y.held.version) now.1 ∙ same) in
                  let end : p.held.until ≡ x.held.until = ap (λ (y : SerialOrder). y.held.until) now.1 in
                  omega (arith, low, end)
              | inr before ↦ h.held x before same
            ];
        comes = h.comes;
      }

  extended_over : (s : ServerState) (q v end_moment : ℕ) (o : Option SerialOrder) → table.get s.leases q ≡ o → greatest ≤ s.now + s.config.skew_ms → OverAt s.disk s.leases
      → OverAt (server_core (extends_held (server_begins s) q v end_moment o)).disk (server_core (extends_held (server_begins s) q v end_moment o)).leases
  extended_over s q v end_moment None at late h = h
  extended_over s q v end_moment (Some p) at late h =
      let skew : ℕ = s.config.skew_ms in
      let good : ServerDoing → Type 0 = λ e. OverAt (server_core e).disk (server_core e).leases in
      let was : q ≡ handle → p.held.version ≡ version → p.held.until ≤ greatest = λ key same. h.held p (ap (λ (k : ℕ). table.get s.leases k) (sym key) ∙ at) same in
      on_cond good (p.held.version == v) (with_primary (server_begins s) q (record p { held = extended skew p.held end_moment s.now })) (server_begins s)
      (λ _. on_cond (λ (held : LeaseHeld). OverAt s.disk (table.insert s.leases q (record p { held = held }))) (counts_at skew p.held s.now && nat_lt p.held.until end_moment) (record p.held { until = end_moment }) p.held
      (λ both. put_over s.disk s.leases q (record p { held = record p.held { until = end_moment } })
      (λ key same. let low = was key same in let counts = ltb-true (s.now + skew) p.held.until (and_parts (counts_at skew p.held s.now) (nat_lt p.held.until end_moment) both).0 in absurd (omega (arith, low, counts, late))) h)
      (λ _. put_over s.disk s.leases q p was h))
      (λ _. h)

  goes_over : (s : ServerState) (moment : ℕ) (m : Message) (b : Body) → m.body ≡ b → IsSentTo sent (the_server n) (input.Deliver m) → greatest ≤ moment + s.config.skew_ms → OverAt s.disk s.leases
      → OverAt (server_core (server_goes s moment (input.Deliver m))).disk (server_core (server_goes s moment (input.Deliver m))).leases
  goes_over s moment m (body.Extend q v end_moment) is sent_to late h =
      let good : ServerDoing → Type 0 = λ e. OverAt (server_core e).disk (server_core e).leases in
      let given = le-max_right s.now moment in
      subst (λ (b : Body). good (server_takes (server_begins (server_at s moment)) m b)) (sym is)
      (extended_over (server_at s moment) q.0 v.0 end_moment.0 (table.get s.leases q.0) refl (omega (arith, given, late)) h)
  goes_over s moment m other is sent_to late h =
      server_goes_holds Came (λ c. OverAt c.disk c.leases) over_keeps s moment (input.Deliver m) (came_in sent n (input.Deliver m) sent_to, ap is_extend is) h

  goes_over_all : (s : ServerState) (moment : ℕ) (i : NodeInput) → IsSentTo sent (the_server n) i → greatest ≤ moment + s.config.skew_ms → OverAt s.disk s.leases
      → OverAt (server_core (server_goes s moment i)).disk (server_core (server_goes s moment i)).leases
  goes_over_all s moment (input.Deliver m) is late h = goes_over s moment m m.body refl is late h
  goes_over_all s moment input.Tick is late h = server_goes_holds Came (λ c. OverAt c.disk c.leases) over_keeps s moment input.Tick tt h

  ends_over : (s : ServerState) (d : ServerDoing) (choice : Choice) (e : Ending) → Later s.disk (server_ends s d choice e).state.disk → OverAt s.disk s.leases → OverAt (server_core d).disk (server_core d).leases
      → OverAt (server_ends s d choice e).state.disk (server_ends s d choice e).state.leases
  ends_over s d choice Goes later h g = g
  ends_over s d choice Lost later h g = none_over s.disk (server_ends s d choice Lost).state.disk s.leases later h
  ends_over s d choice (Stops made) later h g = none_over s.disk (server_ends s d choice (Stops made)).state.disk s.leases later h

  step_over : (s : ServerState) (moment : ℕ) (i : NodeInput) (choice : Choice) → IsSentTo sent (the_server n) i → IsTrue s.up → HasOneRisingChange s → greatest ≤ moment + s.config.skew_ms → OverAt s.disk s.leases
      → OverAt (server_step s moment i choice).state.disk (server_step s moment i choice).state.leases
  step_over s moment i choice is up sound late h =
      let d : ServerDoing = server_goes s moment i in
      let same : server_step s moment i choice ≡ server_ends s d choice choice.ending = ap (λ (b : Bool). cond b (server_ends s d choice choice.ending) (no_step s)) up in
      let later : Later s.disk (server_step s moment i choice).state.disk = (step_goes_on s moment i choice sound).later in
      subst (λ (t : Taken ServerState). OverAt t.state.disk t.state.leases) (sym same)
      (ends_over s d choice choice.ending (subst (λ (t : Taken ServerState). Later s.disk t.state.disk) same later) h (goes_over_all s moment i is late h))

  restart_over : (s : ServerState) (moment : ℕ) (choice : Choice) (e : Ending) → HasOneRisingChange s → OverAt s.disk s.leases → OverAt (server_restarts s moment choice e).state.disk (server_restarts s moment choice e).state.leases
  restart_over s moment choice Lost sound h = none_over s.disk (server_restarts s moment choice Lost).state.disk s.leases (restarts_as s moment choice Lost sound).later h
  restart_over s moment choice (Stops made) sound h = none_over s.disk (server_restarts s moment choice (Stops made)).state.disk s.leases (restarts_as s moment choice (Stops made) sound).later h
  restart_over s moment choice Goes sound h = none_over s.disk (server_restarts s moment choice Goes).state.disk s.leases (restarts_as s moment choice Goes sound).later h

-- worlds

module _ (handle version count : ℕ) where
  abbrev granting_it : Message → Bool
  granting_it m = is_grant handle version m.body

  -- at each server
  abbrev pub AreOverAt : List Message → ℕ → List ServerState → Type 0
  AreOverAt sent greatest servers = (index : ℕ) (s : ServerState) → element_at servers index ≡ Some s → IsOverAt sent greatest (suc index) handle version s.disk s.leases

  -- as long as no more than these Grants of the version are sent
  pub record StayOver (x : Scene) : Type 0 where
    pub told : AreTold x
    pub set : AreSet x
    pub some : count ≤ grants_of handle version x.sent
    pub over : IsTrue x.are_clocks_kept → grants_of handle version x.sent ≤ count → AreOverAt x.sent x.greatest x.servers

  pub over_sent : (sent more : List Message) (greatest n : ℕ) (d : ServerDisk) (leases : Table SerialOrder) → count ≤ grants_of handle version sent → grants_of handle version (sent ++ more) ≤ count
      → IsOverAt sent greatest n handle version d leases → IsOverAt (sent ++ more) greatest n handle version d leases
  over_sent sent more greatest n d leases some few h =
      record {
        held = h.held;
        comes = λ grant is to order end_moment members so. h.comes grant (sent_first granting_it count sent more grant some few (granting order handle version end_moment members grant.body so) is) to order end_moment members so;
      }

  fewer : (sent more : List Message) → grants_of handle version (sent ++ more) ≤ count → grants_of handle version sent ≤ count
  fewer sent more few = let whole = count-append granting_it sent more in omega (arith, whole, few)

  still_some : (sent more : List Message) → count ≤ grants_of handle version sent → count ≤ grants_of handle version (sent ++ more)
  still_some sent more some = let whole = count-append granting_it sent more in omega (arith, whole, some)

  set_over : (sent : List Message) (greatest : ℕ) (servers : List ServerState) (index : ℕ) (t : ServerState) → IsOverAt sent greatest (suc index) handle version t.disk t.leases → AreOverAt sent greatest servers
      → AreOverAt sent greatest (with_at servers index t)
  set_over sent greatest servers index t new h other u at =
      elim (set_cases servers index t other u at) [
        | inl both ↦ subst (λ (k : ℕ). IsOverAt sent greatest (suc k) handle version u.disk u.leases) (sym both.0) (subst (λ (v : ServerState). IsOverAt sent greatest (suc index) handle version v.disk v.leases) (sym both.1) new)
        | inr there ↦ h other u there
      ]

  late_at : (x : Scene) (moment index : ℕ) (s : ServerState) → AreSet x → IsNow x moment → element_at x.servers index ≡ Some s → IsTrue x.are_clocks_kept → x.greatest ≤ moment + s.config.skew_ms
  late_at x moment index s set now at clocks = let skew = ap (λ (c : Config). c.skew_ms) (set index s at) in let late = now.kept clocks in omega (arith, skew, late)

  pub stays_over : IsKeptOn StayOver
  stays_over =
      let tells = kept_on AreTold told_kept in
      let sets = kept_on AreSet settings_kept in
      record {
        passes = λ x moment h.
            record {
              told = tells.passes x moment h.told;
              set = sets.passes x moment h.set;
              some = h.some;
              over = λ both few index s at.
                  let old = h.over (and_parts x.are_clocks_kept (nat_le x.greatest (moment + x.config.skew_ms)) both).0 few index s at in
                  let grows = le-max_left x.greatest moment in
                  record {
                    held = λ p is same. let low = old.held p is same in omega (arith, low, grows);
                    comes = λ grant is to order end_moment members so. elim (old.comes grant is to order end_moment members so) [ inl early ↦ inl (omega (arith, early, grows)) | inr stale ↦ inr stale ];
                  };
            };
        says = λ x k ms quiet h.
            record {
              told = tells.says x k ms quiet h.told;
              set = sets.says x k ms quiet h.set;
              some = still_some x.sent (stamped k ms) h.some;
              over = λ clocks few index s at. over_sent x.sent (stamped k ms) x.greatest (suc index) s.disk s.leases h.some few (h.over clocks (fewer x.sent (stamped k ms) few) index s at);
            };
        masters = λ x k moment i choice now is up h.
            let ms : List Message = stamped k (master_step x.master moment i choice).out.sent in
            record {
              told = tells.masters x k moment i choice now is up h.told;
              set = sets.masters x k moment i choice now is up h.set;
              some = still_some x.sent ms h.some;
              over = λ clocks few index s at. over_sent x.sent ms x.greatest (suc index) s.disk s.leases h.some few (h.over clocks (fewer x.sent ms few) index s at);
            };
        opens = λ x k moment choice now h.
            let ms : List Message = stamped k (master_restart x.master moment choice).out.sent in
            record {
              told = tells.opens x k moment choice now h.told;
              set = sets.opens x k moment choice now h.set;
              some = still_some x.sent ms h.some;
              over = λ clocks few index s at. over_sent x.sent ms x.greatest (suc index) s.disk s.leases h.some few (h.over clocks (fewer x.sent ms few) index s at);
            };
        serves = λ x k index moment s i choice now at is up h.
            let t : Taken ServerState = server_step s moment i choice in
            let ms : List Message = stamped k t.out.sent in
            record {
              told = tells.serves x k index moment s i choice now at is up h.told;
              set = sets.serves x k index moment s i choice now at is up h.set;
              some = still_some x.sent ms h.some;
              over = λ clocks few.
                  let old = h.over clocks (fewer x.sent ms few) in
                  let new = step_over x.sent x.greatest (suc index) handle version s moment i choice is up (h.told index s at).sound (late_at x moment index s h.set now at clocks) (old index s at) in
                  λ other u there. over_sent x.sent ms x.greatest (suc other) u.disk u.leases h.some few (set_over x.sent x.greatest x.servers index t.state new old other u there);
            };
        restarts = λ x k index moment s choice now at h.
            let t : Taken ServerState = server_restart s moment choice in
            let ms : List Message = stamped k t.out.sent in
            record {
              told = tells.restarts x k index moment s choice now at h.told;
              set = sets.restarts x k index moment s choice now at h.set;
              some = still_some x.sent ms h.some;
              over = λ clocks few.
                  let old = h.over clocks (fewer x.sent ms few) in
                  let new = restart_over x.sent x.greatest (suc index) handle version s moment choice choice.ending (h.told index s at).sound (old index s at) in
                  λ other u there. over_sent x.sent ms x.greatest (suc other) u.disk u.leases h.some few (set_over x.sent x.greatest x.servers index t.state new old other u there);
            };
        rots = λ x index c s e is at up h.
            record {
              told = tells.rots x index c s e is at up h.told;
              set = sets.rots x index c s e is at up h.set;
              some = h.some;
              over = λ clocks few.
                  let old = h.over clocks few in
                  set_over x.sent x.greatest x.servers index (after_rot s c e)
                  (over_from x.sent x.greatest (suc index) handle version s.disk (after_rot s c e).disk s.leases (after_rot s c e).leases (rot_goes_on s c e is (h.told index s at).sound up).later (rot_held s c e) (old index s at)) old;
            };
      }

-- what follows is reached too
after_both : (w : WorldState) (first then_ : List (Event × Choice)) → after_events w (first ++ then_) ≡ after_events (after_events w first) then_
after_both w [] then_ = refl
after_both w (step ∷ rest) then_ = after_both (happens w step.0 step.1).world rest then_

pub reached_later : (config : Config) (servers clients : ℕ) (w : WorldState) (steps : List (Event × Choice)) → IsReached config servers clients w → IsReached config servers clients (after_events w steps)
reached_later config servers clients w steps r =
    (r.0 ++ steps, after_both (new_world config servers clients) r.0 steps ∙ ap (λ (v : WorldState). after_events v steps) r.1)

-- as the law says it

pub over_to : (w : WorldState) (handle version : ℕ) → IsLeaseOver w handle version → AreOverAt handle version 0 w.sent w.observer.greatest w.servers
over_to w handle version h index s at =
    record {
      held = λ p is same.
          elim (cases_lt w.observer.greatest p.held.until) [
            | inl lasts ↦ absurd (h.held index p (s, at, is, lasts) same)
            | inr early ↦ early
          ];
      comes = λ grant is to order end_moment members so.
          elim (h.comes is.0 grant order end_moment members is.1 (stated_grant so)) [
            | inl early ↦ inl early
            | inr refused ↦ inr (refused_stale s.disk order (refused index s at to))
          ];
    }

pub over_of : (w : WorldState) (handle version : ℕ) → AreOverAt handle version 0 w.sent w.observer.greatest w.servers → IsLeaseOver w handle version
over_of w handle version h =
    record {
      held = λ index p holds same. let low = (h index holds.0 holds.1).held p holds.2 same in let lasts = holds.3 in omega (arith, low, lasts);
      comes = λ place grant order end_moment members at so.
          elim (cases_lt w.observer.greatest end_moment.0) [
            | inr early ↦ inl early
            | inl lasts ↦ inr (λ index s there to. stale_refused s.disk order (by_server lasts ((h index s there).comes grant (place, at) to order end_moment members (says_grant so))))
          ];
    }
  where
    by_server : {A : Type 0} {end greatest : ℕ} → greatest < end → (end ≤ greatest) ⊎ A → A
    by_server lasts (inl early) = absurd (omega (arith, lasts, early))
    by_server lasts (inr a) = a

    stale_refused : (d : ServerDisk) (order : OrderNo) → IsStaleAt d order → is_new_order d order.epoch order.count ≡ false
    stale_refused d order stale = by_new (is_new_order d order.epoch order.count) (λ new. new_not_stale d order new stale)
      where
        by_new : (b : Bool) → (b ≡ true → ⊥) → b ≡ false
        by_new true never = absurd (never refl)
        by_new false never = refl

-- it stays over while no more Grants of it are sent
pub over_later : (config : Config) (servers clients : ℕ) (w : WorldState) → IsReached config servers clients w → (handle version : ℕ) → IsLeaseOver w handle version → (steps : List (Event × Choice))
    → IsTrue (after_events w steps).observer.are_clocks_kept → grants_of handle version (after_events w steps).sent ≤ grants_of handle version w.sent → IsLeaseOver (after_events w steps) handle version
over_later config servers clients w r handle version over steps clocks few =
    let count : ℕ = grants_of handle version w.sent in
    let later : WorldState = after_events w steps in
    let start : StayOver handle version count (scene_of w) =
    record { told = scene_reached AreTold told_kept config servers clients w r; set = scene_reached AreSet settings_kept config servers clients w r; some = omega arith; over = λ _ _. over_to w handle version over } in
    let end : StayOver handle version count (scene_of later) = goes_on (StayOver handle version count) (stays_over handle version count) w steps start in
    over_of later handle version (end.over clocks few)

pub leases_stay_over : LeasesStayOver
leases_stay_over config servers clients w r handle version some over steps clocks =
    let once = versions_are_granted_once config servers clients (after_events w steps) (reached_later config servers clients w steps r) handle version in
    over_later config servers clients w r handle version over steps clocks (omega (arith, once, some))
