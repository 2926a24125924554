-- What holds of a lease's order through all that is done with it, a server's step keeps for its leases of one version of a chunk, where none is granted anew.
use Rattle.std.proofs.Common.{◌≡◌, ◌+◌, ℕ, true, List, Option, Some, None, refl, sym, ap, subst, ◌∙◌, inl, inr}
use Rattle.std.specs.Prelude.{◌&&◌, nat_lt}
use Rattle.std.specs.FinMap as table
use Rattle.gfs_types.specs.declared.ids.DataId.{DataId}
use Rattle.gfs_types.specs.declared.ids.Handle.{Handle}
use Rattle.gfs_types.specs.declared.ids.Version.{Version as VersionId}
use Rattle.gfs_types.specs.declared.ids.Moment.{Moment}
use Rattle.gfs_types.specs.declared.ids.OrderNo.{OrderNo}
use Rattle.gfs_types.specs.declared.refusal.Refusal.{Refusal}
use Rattle.gfs_types.specs.declared.refusal.Refusal.TheVariants.{NoData, ChunkFull, ServerTooLong}
use Rattle.messages.specs.declared.message.Message.{Message}
use Rattle.messages.specs.declared.event.NodeInput.{NodeInput}
use Rattle.messages.specs.declared.event.NodeInput.TheVariants as input
use Rattle.leases.specs.LeaseHeld.{LeaseHeld, counts_at, extended}
use Rattle.replica_store.specs.Replicas.{is_new_order}
use Rattle.primary_order.specs.declared.answer.Settled.{Settled}
use Rattle.primary_order.specs.declared.waiting.Waiting.{Waiting}
use Rattle.primary_order.specs.PrimaryOrder.{place_of}
use Rattle.primary_order.specs.SerialOrder.{SerialOrder, IsNew, new_order, attempted, denied, numbered, settled, acknowledged, refused_by}
use Rattle.protocol.specs.Tables.{Table, without, map_values}
use Rattle.protocol.specs.Sending.{server_number}
use Rattle.protocol.specs.Server.{ServerState, ServerDoing, server_begins, stores, with_primary, primary_of}
use Rattle.protocol.specs.ServerWrites.{answers_settled, forwards, settles, acknowledges, change_of, stored_as, primary_applies}
use Rattle.protocol.specs.ServerStep.{asks_no_more, counting_leases, server_does}
use Rattle.laws_base.proofs.LeaseOrders.{SaysGrant}
use Rattle.laws_base.proofs.Steps.{on_cond, same_some, put_cases, put_there, kept_cases}
use Rattle.laws_base.proofs.Entries.{mapped_cases, kept_where_cases}
use Rattle.laws_base.proofs.ServerWalk.{Attempting, Numbering, Outcomes, number_of, until_later, primary_there, does_comes}

-- what an order becomes keeps this
pub record KeepsOrders (P : SerialOrder → Type 0) : Type 0 where
  pub numbers : (p : SerialOrder) (id : DataId) (place : Option ℕ) → attempted p id.client id.seq ≡ IsNew → P p → P (numbered p id.client id.seq place)
  pub denies : (p : SerialOrder) (id : DataId) (refusal : Refusal) → attempted p id.client id.seq ≡ IsNew → P p → P (denied p id.client id.seq refusal)
  pub acknowledges : (p : SerialOrder) (server serial : ℕ) → P p → P (acknowledged p server serial)
  pub refuses : (p : SerialOrder) (refusal : Refusal) (o : Option Waiting) → P p → P (refused_by p refusal o)
  pub extends : (p : SerialOrder) (skew until now : ℕ) → P p → P (record p { held = extended skew p.held until now })
  pub reports : (p : SerialOrder) → P p → P (asks_no_more p)

-- it holds of each lease of this version of the chunk
abbrev pub AreFit : (SerialOrder → Type 0) → ℕ → ℕ → Table SerialOrder → Type 0
AreFit P handle version leases = (p : SerialOrder) → table.get leases handle ≡ Some p → p.held.version ≡ version → P p

module _ (P : SerialOrder → Type 0) (k : KeepsOrders P) (handle version : ℕ) where
  abbrev Fine : ServerDoing → Type 0
  Fine d = AreFit P handle version d.server.leases

  -- what holds of a lease of this handle and version
  abbrev IsFit : ℕ → SerialOrder → Type 0
  IsFit q p = q ≡ handle → p.held.version ≡ version → P p

  put : (leases : Table SerialOrder) (q : ℕ) (p : SerialOrder) → IsFit q p → AreFit P handle version leases → AreFit P handle version (table.insert leases q p)
  put leases q p fit h r at same =
      elim (put_cases leases q p handle r at) [
        | inl now ↦ subst P now.1 (fit (sym now.0) (ap (λ (x : SerialOrder). x.held.version) now.1 ∙ same))
        | inr before ↦ h r before same
      ]

  gone : (leases : Table SerialOrder) (q : ℕ) → AreFit P handle version leases → AreFit P handle version (table.remove leases q)
  gone leases q h p at same = h p (kept_cases leases q handle p at) same

  fit_there : (d : ServerDoing) (q : ℕ) (p : SerialOrder) → table.get d.server.leases q ≡ Some p → Fine d → IsFit q p
  fit_there d q p at h same is = h p (ap (λ (n : ℕ). table.get d.server.leases n) (sym same) ∙ at) is

  -- a lease of the chunk that was just put in
  pub put_fit : (leases : Table SerialOrder) (p : SerialOrder) → P p → AreFit P handle version (table.insert leases handle p)
  put_fit leases p h r at same = subst P (same_some p r (sym (put_there leases handle p handle refl) ∙ at)) h

  answered : (d : ServerDoing) (id : DataId) (o : Option ℕ) → Fine d → Fine (answers_settled d id o)
  answered d id None h = h
  answered d id (Some place) h = h

  pub settles_fine : (d : ServerDoing) (q v serial : ℕ) (o : Option Settled) → Fine d → Fine (settles d q v serial o)
  settles_fine d q v serial None h = h
  settles_fine d q v serial (Some x) h = answered _ (record { client = x.client; seq = x.seq }) x.place h

  acknowledged_fine : (d : ServerDoing) (q : ℕ) (p : SerialOrder) (server serial : ℕ) → IsFit q p → Fine d → Fine (acknowledges d q p server serial)
  acknowledged_fine d q p server serial fit h =
      settles_fine (with_primary d q (acknowledged p server serial)) q p.held.version serial (settled p server serial)
      (put d.server.leases q (acknowledged p server serial) (λ same is. k.acknowledges p server serial (fit same is)) h)

  same_version : (skew : ℕ) (l : LeaseHeld) (until now : ℕ) → (extended skew l until now).version ≡ l.version
  same_version skew l until now = on_cond (λ (x : LeaseHeld). x.version ≡ l.version) (counts_at skew l now && nat_lt l.until until) (record l { until = until }) l (λ _. refl) (λ _. refl)

  -- A server s that takes an input, which gives no lease of this version anew.
  module _ (s : ServerState) (i : NodeInput)
      (none : (m : Message) (order : OrderNo) (q : Handle) (v : VersionId) (end_moment : Moment) (members : List ℕ) → i ≡ input.Deliver m → SaysGrant order q v end_moment members m.body → is_new_order s.disk order.epoch order.count ≡ true
      → q.0 ≡ handle → v.0 ≡ version → ⊥) where
    module _ (h : AreFit P handle version s.leases) where
      fit_primary : (q v : ℕ) (p : SerialOrder) → primary_of s q v ≡ Some p → IsFit q p
      fit_primary q v p is = fit_there (server_begins s) q p (primary_there s v (table.get s.leases q) p is).0 h

      denies_fine : (a : Attempting s i) (refusal : Refusal) → AreFit P handle version (table.insert s.leases a.c.handle.0 (denied a.p a.c.id.client a.c.id.seq refusal))
      denies_fine a refusal =
          put s.leases a.c.handle.0 (denied a.p a.c.id.client a.c.id.seq refusal) (λ same is. k.denies a.p a.c.id refusal a.new (fit_primary a.c.handle.0 a.c.version.0 a.p a.primary same is)) h

      numbers_fit : (n : Numbering s i) → IsFit n.a.c.handle.0 (numbered n.a.p n.a.c.id.client n.a.c.id.seq (place_of n.placed))
      numbers_fit n same is = k.numbers n.a.p n.a.c.id (place_of n.placed) n.a.new (fit_primary n.a.c.handle.0 n.a.c.version.0 n.a.p n.a.primary same is)

      numbers_fine : (n : Numbering s i) → Fine (number_of s i n)
      numbers_fine n = put s.leases n.a.c.handle.0 (numbered n.a.p n.a.c.id.client n.a.c.id.seq (place_of n.placed)) (numbers_fit n) h

      applied_fine : (n : Numbering s i) → Fine (primary_applies (number_of s i n) n.a.c.handle.0 n.a.p n.a.c.id n.placed)
      applied_fine n =
          let q : ℕ = n.a.c.handle.0 in
          let serial : ℕ = n.a.p.serial + 1 in
          acknowledged_fine (forwards (stores (number_of s i n) (stored_as q serial n.placed)) (without n.a.p.held.members s.id) q n.a.p.held.version serial n.a.c.id n.a.p.chunk (change_of n.placed)) q
          (numbered n.a.p n.a.c.id.client n.a.c.id.seq (place_of n.placed)) s.id serial (numbers_fit n) (numbers_fine n)

      ticks_fine : AreFit P handle version (map_values asks_no_more (counting_leases s))
      ticks_fine p at same =
          let old = mapped_cases asks_no_more (counting_leases s) handle p at in
          let there = kept_where_cases (λ e. counts_at s.config.skew_ms e.1.held s.now) s.leases handle old.0 old.1 in
          subst P old.2 (k.reports old.0 (h old.0 there (ap (λ (x : SerialOrder). x.held.version) old.2 ∙ same)))

      outcomes : Outcomes s i (λ d. AreFit P handle version d.server.leases)
      outcomes =
          record {
            rests = h;
            ticks = λ came. ticks_fine;
            ends_push = λ c. h;
            passes_push = λ c next. h;
            misses_chunk = λ c. h;
            misses_version = λ c. h;
            reads_rot = λ c. gone s.leases c.handle.0 h;
            reads = λ c r bytes found same is. h;
            measures = λ c r found same. h;
            copies_rot = λ c. gone s.leases c.handle.0 h;
            copies = λ c r bytes found same is. h;
            lacks_lease = λ c. h;
            is_late = λ l late. h;
            is_old = λ l old. h;
            was_placed = λ l place is. h;
            was_padded = λ l is. h;
            was_refused = λ l why is. h;
            lacks_data = λ a. denies_fine a NoData;
            is_long = λ a. denies_fine a ServerTooLong;
            is_full = λ a. denies_fine a ChunkFull;
            spoils = λ n rotten. gone (number_of s i n).server.leases n.a.c.handle.0 (numbers_fine n);
            applies = λ n sound. applied_fine n;
            lacks_replica = λ c none. h;
            has_version = λ c r found other. h;
            has_serial = λ f least. h;
            lacks_bytes = λ f none. h;
            stores_rot = λ t rotten. gone s.leases t.f.c.handle.0 h;
            stored = λ t sound. h;
            acked = λ c p primary. acknowledged_fine (server_begins s) c.handle.0 p (server_number c.m.sender) c.serial.0 (fit_primary c.handle.0 c.version.0 p primary) h;
            nacked = λ c p w primary waits.
                put s.leases c.handle.0 (refused_by p c.refusal (Some w)) (λ same is. k.refuses p c.refusal (Some w) (fit_primary c.handle.0 c.version.0 p primary same is)) h;
            nacked_late = λ c p primary. put s.leases c.handle.0 p (fit_primary c.handle.0 c.version.0 p primary) h;
            orders = λ o new. h;
            creates = λ c new free. h;
            raised = λ c r new found same. gone s.leases c.handle.0 h;
            grants = λ c new holds.
                put s.leases c.handle.0 (new_order c.is.chunk (record { version = c.version.0; until = c.end_moment.0; members = c.members }))
                (λ same is. absurd (none c.m c.order c.handle c.version c.end_moment c.members c.came c.is new same is)) h;
            revokes = λ c q new same. gone s.leases c.handle.0 h;
            revoked = λ c new apart. h;
            drops = λ c r new found old. gone s.leases c.handle.0 h;
            clones = λ c new. h;
            copied = λ c r new found same sound free. h;
            copied_rot = λ c new. gone s.leases c.handle.0 h;
            extends = λ c q version_is.
                put s.leases c.handle.0 (until_later s q.p c.end_moment.0)
                (λ same is. k.extends q.p s.config.skew_ms c.end_moment.0 s.now (fit_there (server_begins s) c.handle.0 q.p q.there h same (sym (same_version s.config.skew_ms q.p.held c.end_moment.0 s.now) ∙ is))) h;
            installs = λ c pending fits free. h;
          }

    pub does_fit : (j : NodeInput) → i ≡ j → Fine (server_begins s) → Fine (server_does (server_begins s) j)
    does_fit j came h = does_comes s i (λ d. AreFit P handle version d.server.leases) (outcomes h) j came
