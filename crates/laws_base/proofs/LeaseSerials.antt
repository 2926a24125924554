-- The serial of a lease is counted by what its server numbers under it: it is as high as before the step, and one for each mutation that the step shows.
use Rattle.std.proofs.Common.{◌≡◌, ℕ, ◌+◌, ◌-◌, Bool, true, false, List, [], ◌∷◌, ◌++◌, Option, Some, None, refl, sym, ap, subst, ◌∙◌, inl, inr, arith}
use Rattle.std.specs.Prelude.{nat_lt, ◌==◌, ◌&&◌, count_by}
use Rattle.std.specs.FinMap as table
use Rattle.std.specs.Ordering.{nat_cmp}
use Rattle.std.proofs.lemmas.Bool.{eqb-true, and_from}
use Rattle.gfs_types.specs.declared.ids.DataId.{DataId}
use Rattle.gfs_types.specs.declared.ids.Handle.{Handle}
use Rattle.gfs_types.specs.declared.ids.Version.{Version as VersionId}
use Rattle.gfs_types.specs.declared.ids.Moment.{Moment}
use Rattle.gfs_types.specs.declared.ids.OrderNo.{OrderNo}
use Rattle.gfs_types.specs.declared.refusal.Refusal.{Refusal}
use Rattle.gfs_types.specs.declared.refusal.Refusal.TheVariants.{NoData, ServerTooLong, ChunkFull}
use Rattle.gfs_types.specs.declared.mutation.Mutation.{Mutation}
use Rattle.messages.specs.declared.message.Message.{Message}
use Rattle.messages.specs.declared.event.NodeInput.{NodeInput}
use Rattle.messages.specs.declared.event.NodeInput.TheVariants as input
use Rattle.leases.specs.LeaseHeld.{LeaseHeld, counts_at, extended}
use Rattle.replica_store.specs.Replicas.{is_new_order}
use Rattle.primary_order.specs.declared.answer.Settled.{Settled}
use Rattle.primary_order.specs.declared.waiting.Waiting.{Waiting}
use Rattle.primary_order.specs.PrimaryOrder.{place_of}
use Rattle.primary_order.specs.SerialOrder.{SerialOrder, new_order, denied, numbered, settled, acknowledged, refused_by}
use Rattle.protocol.specs.Tables.{Table, without}
use Rattle.protocol.specs.Sending.{handle_of, version_of, serial_of, server_number}
use Rattle.protocol.specs.Choice.{Choice, Ending, Goes, Lost, Stops}
use Rattle.protocol.specs.Seen.{Taken, no_step}
use Rattle.protocol.specs.declared.seen.Seen.{Seen}
use Rattle.protocol.specs.declared.seen.Seen.TheVariants.{Numbered, BecameSettled}
use Rattle.protocol.specs.Server.{ServerState, ServerDoing, server_begins, stores, shows, with_primary, takes_data, drops_corrupt, primary_of}
use Rattle.protocol.specs.ServerWrites.{answers_settled, forwards, settles, acknowledges, change_of, stored_as, primary_applies}
use Rattle.protocol.specs.ServerStep.{server_at, asks_no_more, counting_leases, server_ticks, server_goes, server_ends, server_step}
use Rattle.laws_base.proofs.LeaseOrders.{SaysGrant}
use Rattle.laws_base.proofs.Steps.{on_cond, none_some, put_split, kept_cases, tally, count-cons, count-append}
use Rattle.laws_base.proofs.Entries.{mapped_cases, kept_where_cases, same_number}
use Rattle.laws_base.proofs.RoundsPassed.{primary_there}
use Rattle.laws_base.proofs.ServerWalk.{Granting, Attempting, Numbering, IsNewOrder, Outcomes, number_of, until_later, server_comes_to}

-- a mutation is numbered under this version of the chunk
abbrev pub is_numbered : ℕ → ℕ → Seen → Bool
is_numbered handle version (Numbered h v serial id m) = (h.0 == handle) && (v.0 == version)
is_numbered handle version other = false

-- how many are
abbrev pub numbered_in : ℕ → ℕ → List Seen → ℕ
numbered_in handle version seen = count_by (is_numbered handle version) seen

refused_same : (p : SerialOrder) (refusal : Refusal) (o : Option Waiting) → ((refused_by p refusal o).held.version ≡ p.held.version) × ((refused_by p refusal o).serial ≡ p.serial)
refused_same p refusal None = (refl, refl)
refused_same p refusal (Some w) = (refl, refl)

same_version : (skew : ℕ) (l : LeaseHeld) (until now : ℕ) → (extended skew l until now).version ≡ l.version
same_version skew l until now = on_cond (λ (x : LeaseHeld). x.version ≡ l.version) (counts_at skew l now && nat_lt l.until until) (record l { until = until }) l (λ _. refl) (λ _. refl)

-- each lease of this version of the chunk has this serial
abbrev pub HaveSerial : ℕ → ℕ → ℕ → Table SerialOrder → Type 0
HaveSerial handle version serial leases = (p : SerialOrder) → table.get leases handle ≡ Some p → p.held.version ≡ version → p.serial ≡ serial

module _ (handle version base : ℕ) where
  abbrev Count : List Seen → ℕ
  Count seen = numbered_in handle version seen

  abbrev Fine : ServerDoing → Type 0
  Fine d = HaveSerial handle version (base + numbered_in handle version d.seen) d.server.leases

  -- a lease of this version of the chunk has the serial that is counted so far
  abbrev IsFit : ServerDoing → ℕ → SerialOrder → Type 0
  IsFit d q p = q ≡ handle → p.held.version ≡ version → p.serial ≡ base + numbered_in handle version d.seen

  put : (d : ServerDoing) (q : ℕ) (p : SerialOrder) → IsFit d q p → Fine d → Fine (with_primary d q p)
  put d q p fit h r at same =
      elim (put_split d.server.leases q p handle r at) [
        | inl now ↦ ap (λ (x : SerialOrder). x.serial) (sym now.1) ∙ fit (sym now.0) (ap (λ (x : SerialOrder). x.held.version) now.1 ∙ same)
        | inr before ↦ h r before.1 same
      ]

  gone : (leases : Table SerialOrder) (q serial : ℕ) → HaveSerial handle version serial leases → HaveSerial handle version serial (table.remove leases q)
  gone leases q serial h p at same = h p (kept_cases leases q handle p at) same

  fit_there : (d : ServerDoing) (q : ℕ) (p : SerialOrder) → table.get d.server.leases q ≡ Some p → Fine d → IsFit d q p
  fit_there d q p at h same is = h p (ap (λ (n : ℕ). table.get d.server.leases n) (sym same) ∙ at) is

  -- the same lease, but for what it keeps
  fit_like : (d : ServerDoing) (q : ℕ) (p new : SerialOrder) → new.held.version ≡ p.held.version → new.serial ≡ p.serial → IsFit d q p → IsFit d q new
  fit_like d q p new held serial fit same is = serial ∙ fit same (sym held ∙ is)

  fit_primary : (d : ServerDoing) (q v : ℕ) (p : SerialOrder) → primary_of d.server q v ≡ Some p → Fine d → IsFit d q p
  fit_primary d q v p is h = fit_there d q p (primary_there d.server v (table.get d.server.leases q) p is).0 h

  lost : (d : ServerDoing) (q : ℕ) → Fine d → Fine (drops_corrupt d q)
  lost d q h = gone d.server.leases q (base + numbered_in handle version d.seen) h

  -- what is shown more
  shown_more : (xs : List Seen) (x : Seen) → numbered_in handle version (xs ++ x ∷ []) ≡ numbered_in handle version xs + tally (is_numbered handle version x)
  shown_more xs x =
      let whole = count-append (is_numbered handle version) xs (x ∷ []) in
      let one = count-cons (is_numbered handle version) x [] in
      omega (arith, whole, one)

  answered : (d : ServerDoing) (id : DataId) (o : Option ℕ) → Fine d → Fine (answers_settled d id o)
  answered d id None h = h
  answered d id (Some place) h = h

  settles_fine : (d : ServerDoing) (q v serial : ℕ) (o : Option Settled) → Fine d → Fine (settles d q v serial o)
  settles_fine d q v serial None h = h
  settles_fine d q v serial (Some x) h =
      let shown : Seen = BecameSettled (handle_of q) (version_of v) (serial_of serial) in
      answered (shows d shown) (record { client = x.client; seq = x.seq }) x.place (λ p at same. let low = h p at same in let more = shown_more d.seen shown in omega (arith, low, more))

  acknowledged_fine : (d : ServerDoing) (q : ℕ) (p : SerialOrder) (server serial : ℕ) → IsFit d q p → Fine d → Fine (acknowledges d q p server serial)
  acknowledged_fine d q p server serial fit h =
      settles_fine (with_primary d q (acknowledged p server serial)) q p.held.version serial (settled p server serial) (put d q (acknowledged p server serial) (fit_like d q p (acknowledged p server serial) refl refl fit) h)

  -- the mutation is shown, and the lease has its serial
  taken_fine : (d : ServerDoing) (q : ℕ) (p : SerialOrder) (id : DataId) (m : Mutation) → IsFit d q p → Fine d
      → (let taken : ServerDoing = shows (takes_data (with_primary d q (numbered p id.client id.seq (place_of m))) id) (Numbered (handle_of q) (version_of p.held.version) (serial_of (p.serial + 1)) id m) in
      Fine taken × IsFit taken q (numbered p id.client id.seq (place_of m)))
  taken_fine d q p id m fit h = (
    λ r at same. elim (put_split d.server.leases q new handle r at) [
      | inl now ↦ ap (λ (x : SerialOrder). x.serial) (sym now.1) ∙ fits (sym now.0) (ap (λ (x : SerialOrder). x.held.version) now.1 ∙ same)
      | inr before ↦
          let low = h r before.1 same in
          let more = shown_more d.seen shown in
          let none = ap tally (other (q == handle) refl before.0) in
          omega (arith, low, more, none)
    ],
    fits,
  )
    where
      new : SerialOrder
      new = numbered p id.client id.seq (place_of m)

      shown : Seen
      shown = Numbered (handle_of q) (version_of p.held.version) (serial_of (p.serial + 1)) id m

      other : (b : Bool) → (q == handle) ≡ b → (handle ≡ q → ⊥) → (q == handle) && (p.held.version == version) ≡ false
      other true is apart = absurd (apart (sym (eqb-true q handle is)))
      other false is apart = ap (λ (b : Bool). b && (p.held.version == version)) is

      fits : q ≡ handle → p.held.version ≡ version
          → p.serial + 1 ≡ base + numbered_in handle version (d.seen ++ Numbered (handle_of q) (version_of p.held.version) (serial_of (p.serial + 1)) id m ∷ [])
      fits key is =
          let low = fit key is in
          let more = shown_more d.seen (Numbered (handle_of q) (version_of p.held.version) (serial_of (p.serial + 1)) id m) in
          let one = ap tally (and_from (q == handle) (p.held.version == version) (subst (λ (n : ℕ). (q == n) ≡ true) key (same_number q)) (subst (λ (n : ℕ). (p.held.version == n) ≡ true) is (same_number p.held.version))) in
          omega (arith, low, more, one)

  -- A server s that takes an input, which gives a lease of this version anew only where none was numbered under it.
  module _ (s : ServerState) (i : NodeInput)
      (none : (m : Message) (order : OrderNo) (q : Handle) (v : VersionId) (end_moment : Moment) (members : List ℕ) → i ≡ input.Deliver m → SaysGrant order q v end_moment members m.body → is_new_order s.disk order.epoch order.count ≡ true
      → q.0 ≡ handle → v.0 ≡ version → base ≡ 0) where
    module _ (h : HaveSerial handle version (base + numbered_in handle version []) s.leases) where
      fit_counting : (q v : ℕ) (p : SerialOrder) → primary_of s q v ≡ Some p → IsFit (server_begins s) q p
      fit_counting q v p is = fit_primary (server_begins s) q v p is h

      denies_fine : (a : Attempting s i) (refusal : Refusal) → Fine (with_primary (server_begins s) a.c.handle.0 (denied a.p a.c.id.client a.c.id.seq refusal))
      denies_fine a refusal =
          let new : SerialOrder = denied a.p a.c.id.client a.c.id.seq refusal in
          put (server_begins s) a.c.handle.0 new (fit_like (server_begins s) a.c.handle.0 a.p new refl refl (fit_counting a.c.handle.0 a.c.version.0 a.p a.primary)) h

      numbers_fine : (n : Numbering s i) → Fine (number_of s i n) × IsFit (number_of s i n) n.a.c.handle.0 (numbered n.a.p n.a.c.id.client n.a.c.id.seq (place_of n.placed))
      numbers_fine n = taken_fine (server_begins s) n.a.c.handle.0 n.a.p n.a.c.id n.placed (fit_counting n.a.c.handle.0 n.a.c.version.0 n.a.p n.a.primary) h

      applied_fine : (n : Numbering s i) → Fine (primary_applies (number_of s i n) n.a.c.handle.0 n.a.p n.a.c.id n.placed)
      applied_fine n =
          let q : ℕ = n.a.c.handle.0 in
          let serial : ℕ = n.a.p.serial + 1 in
          let both = numbers_fine n in
          acknowledged_fine (forwards (stores (number_of s i n) (stored_as q serial n.placed)) (without n.a.p.held.members s.id) q n.a.p.held.version serial n.a.c.id n.a.p.chunk (change_of n.placed)) q
          (numbered n.a.p n.a.c.id.client n.a.c.id.seq (place_of n.placed)) s.id serial both.1 both.0

      ticks_fine : Fine (server_ticks (server_begins s))
      ticks_fine p at same =
          let old = mapped_cases asks_no_more (counting_leases s) handle p at in
          let there = kept_where_cases (λ e. counts_at s.config.skew_ms e.1.held s.now) s.leases handle old.0 old.1 in
          ap (λ (x : SerialOrder). x.serial) (sym old.2) ∙ h old.0 there (ap (λ (x : SerialOrder). x.held.version) old.2 ∙ same)

      granted : (c : Granting i) → IsNewOrder s c.order → Fine (with_primary (server_begins s) c.handle.0 (new_order c.is.chunk (record { version = c.version.0; until = c.end_moment.0; members = c.members })))
      granted c new =
          put (server_begins s) c.handle.0 (new_order c.is.chunk (record { version = c.version.0; until = c.end_moment.0; members = c.members }))
          (λ same is.
          let low = none c.m c.order c.handle c.version c.end_moment c.members c.came c.is new same is in
          let count : numbered_in handle version [] ≡ 0 = refl in
          omega (arith, low, count)) h

      outcomes : Outcomes s i (λ d. HaveSerial handle version (base + numbered_in handle version d.seen) d.server.leases)
      outcomes =
          record {
            rests = h;
            ticks = λ came. ticks_fine;
            ends_push = λ c. h;
            passes_push = λ c next. h;
            misses_chunk = λ c. h;
            misses_version = λ c. h;
            reads_rot = λ c. lost (server_begins s) c.handle.0 h;
            reads = λ c r bytes found same is. h;
            measures = λ c r found same. h;
            copies_rot = λ c. lost (server_begins s) c.handle.0 h;
            copies = λ c r bytes found same is. h;
            lacks_lease = λ c. h;
            is_late = λ l late. h;
            is_old = λ l old. h;
            was_placed = λ l place is. h;
            was_padded = λ l is. h;
            was_refused = λ l why is. h;
            lacks_data = λ a. denies_fine a NoData;
            is_long = λ a. denies_fine a ServerTooLong;
            is_full = λ a. denies_fine a ChunkFull;
            spoils = λ n rotten. lost (number_of s i n) n.a.c.handle.0 (numbers_fine n).0;
            applies = λ n sound. applied_fine n;
            lacks_replica = λ c free. h;
            has_version = λ c r found other. h;
            has_serial = λ f least. h;
            lacks_bytes = λ f free. h;
            stores_rot = λ t rotten. lost (server_begins s) t.f.c.handle.0 h;
            stored = λ t sound. h;
            acked = λ c p primary. acknowledged_fine (server_begins s) c.handle.0 p (server_number c.m.sender) c.serial.0 (fit_counting c.handle.0 c.version.0 p primary) h;
            nacked = λ c p w primary waits.
                put (server_begins s) c.handle.0 (refused_by p c.refusal (Some w))
                (fit_like (server_begins s) c.handle.0 p (refused_by p c.refusal (Some w)) refl refl (fit_counting c.handle.0 c.version.0 p primary)) h;
            nacked_late = λ c p primary. put (server_begins s) c.handle.0 p (fit_counting c.handle.0 c.version.0 p primary) h;
            orders = λ o new. h;
            creates = λ c new free. h;
            raised = λ c r new found same. lost (server_begins s) c.handle.0 h;
            grants = λ c new holds. granted c new;
            revokes = λ c e new same. lost (server_begins s) c.handle.0 h;
            revoked = λ c new apart. h;
            drops = λ c r new found old. lost (server_begins s) c.handle.0 h;
            clones = λ c new. h;
            copied = λ c r new found same sound free. h;
            copied_rot = λ c new. lost (server_begins s) c.handle.0 h;
            extends = λ c e same.
                put (server_begins s) c.handle.0 (until_later s e.p c.end_moment.0)
                (fit_like (server_begins s) c.handle.0 e.p (until_later s e.p c.end_moment.0) (same_version s.config.skew_ms e.p.held c.end_moment.0 s.now) refl (fit_there (server_begins s) c.handle.0 e.p e.there h)) h;
            installs = λ c pending fits free. h;
          }

  none_have : (serial : ℕ) → HaveSerial handle version serial table.empty
  none_have serial p is same = none_some p (sym (table.get-empty nat_cmp handle) ∙ is)

  ends_fine : (s : ServerState) (d : ServerDoing) (choice : Choice) (e : Ending) → Fine d
      → HaveSerial handle version (base + numbered_in handle version (server_ends s d choice e).seen) (server_ends s d choice e).state.leases
  ends_fine s d choice Goes h = h
  ends_fine s d choice Lost h = none_have (base + 0)
  ends_fine s d choice (Stops made) h = none_have (base + numbered_in handle version (server_ends s d choice (Stops made)).seen)

  -- after a step of a server
  pub step_counts : (s : ServerState) (moment : ℕ) (i : NodeInput) (choice : Choice)
      → ((m : Message) (order : OrderNo) (q : Handle) (v : VersionId) (end_moment : Moment) (members : List ℕ) → i ≡ input.Deliver m → SaysGrant order q v end_moment members m.body → is_new_order s.disk order.epoch order.count ≡ true
      → q.0 ≡ handle → v.0 ≡ version → base ≡ 0)
      → HaveSerial handle version base s.leases → HaveSerial handle version (base + numbered_in handle version (server_step s moment i choice).seen) (server_step s moment i choice).state.leases
  step_counts s moment i choice none h =
      on_cond (λ (t : Taken ServerState). HaveSerial handle version (base + numbered_in handle version t.seen) t.state.leases) s.up (server_ends s (server_goes s moment i) choice choice.ending) (no_step s)
      (λ _. ends_fine s (server_goes s moment i) choice choice.ending (server_comes_to (λ d. HaveSerial handle version (base + numbered_in handle version d.seen) d.server.leases) s moment i (outcomes (server_at s moment) i none h0))) (λ _. h0)
    where
      h0 : HaveSerial handle version (base + numbered_in handle version []) s.leases
      h0 p at same = let low = h p at same in let count : numbered_in handle version [] ≡ 0 = refl in omega (arith, low, count)
