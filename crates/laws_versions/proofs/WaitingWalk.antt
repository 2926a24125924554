-- A server's step keeps what its leases say of the members for which mutations wait, and what becomes settled in it was acknowledged by all.
use Rattle.std.proofs.Common.{◌≡◌, ◌⊎◌, ℕ, ◌+◌, ◌-◌, ◌≤◌, true, false, List, [], ◌∷◌, Option, Some, None, refl, sym, subst, ◌∙◌, inl, inr}
use Rattle.std.specs.Prelude.{filter}
use Rattle.std.specs.Ordering.{nat_cmp}
use Rattle.std.specs.FinMap as table
use Rattle.gfs_types.specs.declared.ids.DataId.{DataId}
use Rattle.gfs_types.specs.declared.ids.Handle.{Handle}
use Rattle.gfs_types.specs.declared.ids.Version.{Version as VersionId}
use Rattle.gfs_types.specs.declared.ids.Serial.{Serial}
use Rattle.gfs_types.specs.declared.refusal.Refusal.{Refusal}
use Rattle.gfs_types.specs.declared.refusal.Refusal.TheVariants.{NoData, ServerTooLong, ChunkFull}
use Rattle.messages.specs.declared.message.Body.TheVariants as body
use Rattle.messages.specs.declared.message.Message.{Message}
use Rattle.messages.specs.declared.event.NodeInput.{NodeInput}
use Rattle.messages.specs.declared.event.NodeInput.TheVariants as input
use Rattle.leases.specs.LeaseHeld.{LeaseHeld, counts_at}
use Rattle.primary_order.specs.declared.waiting.Waiting.{Waiting}
use Rattle.primary_order.specs.PrimaryOrder.{place_of, settled_by, success_of}
use Rattle.primary_order.specs.SerialOrder.{SerialOrder, new_order, denied, numbered, acknowledged, refused_by, attempt_of}
use Rattle.protocol.specs.Tables.{Table, without}
use Rattle.protocol.specs.Sending.{handle_of, version_of, serial_of, server_number}
use Rattle.protocol.specs.Choice.{Choice, Ending, Goes, Lost, Stops}
use Rattle.protocol.specs.Seen.{is_numbering, Taken, no_step}
use Rattle.protocol.specs.declared.seen.Seen.{Seen}
use Rattle.protocol.specs.declared.seen.Seen.TheVariants.{Numbered, BecameSettled, CopyStarted}
use Rattle.protocol.specs.Server.{ServerState, ServerDoing, server_begins, stores, shows, with_primary, drops_corrupt, primary_of}
use Rattle.protocol.specs.ServerWrites.{answers_settled, denies, forwards, settles, acknowledges, change_of, stored_as, primary_applies}
use Rattle.protocol.specs.ServerStep.{server_at, asks_no_more, counting_leases, server_ticks, server_does, server_goes, server_ends, server_step}
use Rattle.laws_base.proofs.ServerWalk.{Acking, Attempting, Numbering, Outcomes, number_of, until_later, does_comes}
use Rattle.laws_base.proofs.Steps.{on_cond, none_some, put_cases, put_there, kept_cases}
use Rattle.laws_base.proofs.Entries.{AllOf, all_joined, mapped_cases, kept_where_cases}
use Rattle.laws_base.proofs.KnownNumbers.{primary_there}
use Rattle.laws_versions.proofs.WaitingMembers.{AreAcked, IsCounting, counting_new, counting_refused, counting_extended, counting_numbered, counting_acknowledged, settled_acked, settled_gone}

-- Who acknowledged is A; the server is me.
module _ (A : ℕ → ℕ → ℕ → ℕ → Type 0) (me : ℕ) where
  abbrev pub AreCounting : Table SerialOrder → Type 0
  AreCounting leases = (q : ℕ) (p : SerialOrder) → table.get leases q ≡ Some p → IsCounting A me q p

  -- What became settled in a step that begins so: under a lease that counts and is still there, whose members acknowledged.
  pub record IsAcked (s : ServerState) (leases : Table SerialOrder) (q v n : ℕ) : Type 0 where
    pub lease : SerialOrder
    pub counts : primary_of s q v ≡ Some lease
    pub later : SerialOrder
    pub held : table.get leases q ≡ Some later
    pub same : later.held ≡ lease.held
    pub given : (1 ≤ n) × (n ≤ later.serial)
    pub gone : table.get later.waiting n ≡ None
    pub acked : AreAcked A me lease.held.members q v n

  abbrev pub IsSettledSeen : ServerState → Table SerialOrder → Seen → Type 0
  IsSettledSeen s leases (BecameSettled q v n) = IsAcked s leases q.0 v.0 n.0
  IsSettledSeen s leases (Numbered q v n id m) = Unit {0}
  IsSettledSeen s leases (CopyStarted q copy) = Unit {0}

  abbrev IsUnsettled : Seen → Type 0
  IsUnsettled (BecameSettled q v n) = ⊥
  IsUnsettled (Numbered q v n id m) = Unit {0}
  IsUnsettled (CopyStarted q copy) = Unit {0}

  unsettled_fine : (s : ServerState) (leases : Table SerialOrder) (x : Seen) → IsUnsettled x → IsSettledSeen s leases x
  unsettled_fine s leases (BecameSettled q v n) none = absurd none
  unsettled_fine s leases (Numbered q v n id m) none = tt
  unsettled_fine s leases (CopyStarted q copy) none = tt

  none_settled : (s : ServerState) (leases : Table SerialOrder) (xs : List Seen) → AllOf IsUnsettled xs → AllOf (IsSettledSeen s leases) xs
  none_settled s leases [] all = tt
  none_settled s leases (x ∷ xs) all = (unsettled_fine s leases x all.0, none_settled s leases xs all.1)

  module _ (s : ServerState) where
    -- before anything becomes settled, and after
    abbrev Begun : ServerDoing → Type 0
    Begun d = (AreCounting d.server.leases × (d.server.id ≡ me)) × AllOf IsUnsettled d.seen

    abbrev Fine : ServerDoing → Type 0
    Fine d = AreCounting d.server.leases × AllOf (IsSettledSeen s d.server.leases) d.seen

    abbrev Done : ServerDoing → Type 0
    Done d = Begun d ⊎ Fine d

    fine : (d : ServerDoing) → Done d → Fine d
    fine d (inl h) = (h.0.0, none_settled s d.server.leases d.seen h.1)
    fine d (inr h) = h

    put : (leases : Table SerialOrder) (q : ℕ) (p : SerialOrder) → IsCounting A me q p → AreCounting leases → AreCounting (table.insert leases q p)
    put leases q p one h k r at =
        elim (put_cases leases q p k r at) [
          | inl now ↦ subst (λ (n : ℕ). IsCounting A me n r) (sym now.0) (subst (λ (x : SerialOrder). IsCounting A me q x) now.1 one)
          | inr before ↦ h k r before
        ]

    gone : (leases : Table SerialOrder) (q : ℕ) → AreCounting leases → AreCounting (table.remove leases q)
    gone leases q h k p at = h k p (kept_cases leases q k p at)

    lost : (d : ServerDoing) (q : ℕ) → Begun d → Begun (drops_corrupt d q)
    lost d q h = ((gone d.server.leases q h.0.0, h.0.1), h.1)

    put_fine : (d : ServerDoing) (q : ℕ) (p : SerialOrder) → IsCounting A me q p → Begun d → Begun (with_primary d q p)
    put_fine d q p one h = ((put d.server.leases q p one h.0.0, h.0.1), h.1)

    answered_fine : (d : ServerDoing) (id : DataId) (o : Option ℕ) → Fine d → Fine (answers_settled d id o)
    answered_fine d id None h = h
    answered_fine d id (Some place) h = h

    -- an acknowledgement under a lease that counts
    acknowledged_fine : (d : ServerDoing) (q : ℕ) (p : SerialOrder) (server serial : ℕ) → IsCounting A me q p → (server ≡ me) ⊎ A server q p.held.version serial
        → (lease : SerialOrder) → primary_of s q p.held.version ≡ Some lease → p.held ≡ lease.held → Begun d → Done (acknowledges d q p server serial)
    acknowledged_fine d q p server serial counting done lease counts same h = by_settled (settled_by server (table.get p.waiting serial)) refl
      where
        begun : Begun (with_primary d q (acknowledged p server serial))
        begun = put_fine d q (acknowledged p server serial) (counting_acknowledged A me q p server serial done counting) h

        is_acked : (x : Waiting) → settled_by server (table.get p.waiting serial) ≡ Some x → IsAcked s (table.insert d.server.leases q (acknowledged p server serial)) q p.held.version serial
        is_acked x is =
            let all = settled_acked A me q p server serial done counting x is in
            record {
              lease = lease;
              counts = counts;
              later = acknowledged p server serial;
              held = put_there d.server.leases q (acknowledged p server serial) q refl;
              same = same;
              given = all.0;
              gone = settled_gone A me p server serial x is;
              acked = subst (λ (held : LeaseHeld). AreAcked A me held.members q p.held.version serial) same all.1;
            }

        by_settled : (o : Option Waiting) → settled_by server (table.get p.waiting serial) ≡ o → Done (settles (with_primary d q (acknowledged p server serial)) q p.held.version serial (success_of o))
        by_settled None is = inl begun
        by_settled (Some x) is =
            let leases : Table SerialOrder = table.insert d.server.leases q (acknowledged p server serial) in
            let seen : Seen = BecameSettled (handle_of q) (version_of p.held.version) (serial_of serial) in
            inr (answered_fine (shows (with_primary d q (acknowledged p server serial)) seen) (attempt_of x) x.place
            (begun.0.0, all_joined (IsSettledSeen s leases) d.seen (seen ∷ []) (none_settled s leases d.seen h.1) (is_acked x is, tt)))

    denied_fine : (d : ServerDoing) (q : ℕ) (p : SerialOrder) (id : DataId) (refusal : Refusal) → IsCounting A me q p → Begun d → Begun (denies d q p id refusal)
    denied_fine d q p id refusal counting h = put_fine d q (denied p id.client id.seq refusal) counting h

    -- A server that takes an input; who sent an Acked that it takes acknowledged.
    module _ (i : NodeInput) (acked : (m : Message) (q : Handle) (v : VersionId) (n : Serial) → i ≡ input.Deliver m → m.body ≡ body.Acked q v n → A (server_number m.sender) q.0 v.0 n.0) where
      -- a lease that counts
      fit : (q v : ℕ) (p : SerialOrder) → primary_of s q v ≡ Some p → Begun (server_begins s) → (IsCounting A me q p × (primary_of s q p.held.version ≡ Some p)) × (p.held.version ≡ v)
      fit q v p is h = let there = primary_there s v (table.get s.leases q) p is in ((h.0.0 q p there.0, subst (λ (n : ℕ). primary_of s q n ≡ Some p) (sym there.1) is), there.1)

      ticks_fine : Begun (server_begins s) → Begun (server_ticks (server_begins s))
      ticks_fine h = ((reported, h.0.1), h.1)
        where
          reported : AreCounting (server_ticks (server_begins s)).server.leases
          reported q p at =
              let old = mapped_cases asks_no_more (counting_leases s) q p at in
              let there = kept_where_cases (λ e. counts_at s.config.skew_ms e.1.held s.now) s.leases q old.0 old.1 in
              subst (λ (x : SerialOrder). IsCounting A me q x) old.2 (h.0.0 q old.0 there)

      module _ (h : Begun (server_begins s)) where
        abbrev D : ServerDoing
        D = server_begins s

        number_counting : (n : Numbering s i) → IsCounting A me n.a.c.handle.0 (numbered n.a.p n.a.c.id.client n.a.c.id.seq (place_of n.placed))
        number_counting n = counting_numbered A me n.a.c.handle.0 n.a.p n.a.c.id (place_of n.placed) (fit n.a.c.handle.0 n.a.c.version.0 n.a.p n.a.primary h).0.0

        number_begun : (n : Numbering s i) → Begun (number_of s i n)
        number_begun n = ((put s.leases n.a.c.handle.0 (numbered n.a.p n.a.c.id.client n.a.c.id.seq (place_of n.placed)) (number_counting n) h.0.0, h.0.1), (tt, tt))

        applied_done : (n : Numbering s i) → Done (primary_applies (number_of s i n) n.a.c.handle.0 n.a.p n.a.c.id n.placed)
        applied_done n =
            let q : ℕ = n.a.c.handle.0 in
            let serial : ℕ = n.a.p.serial + 1 in
            acknowledged_fine (forwards (stores (number_of s i n) (stored_as q serial n.placed)) (without n.a.p.held.members s.id) q n.a.p.held.version serial n.a.c.id n.a.p.chunk (change_of n.placed)) q
            (numbered n.a.p n.a.c.id.client n.a.c.id.seq (place_of n.placed)) s.id serial (number_counting n) (inl h.0.1) n.a.p (fit n.a.c.handle.0 n.a.c.version.0 n.a.p n.a.primary h).0.1 refl (number_begun n)

        denies_done : (a : Attempting s i) (refusal : Refusal) → Done (denies (server_begins s) a.c.handle.0 a.p a.c.id refusal)
        denies_done a refusal = inl (denied_fine (server_begins s) a.c.handle.0 a.p a.c.id refusal (fit a.c.handle.0 a.c.version.0 a.p a.primary h).0.0 h)

        acked_done : (c : Acking i) (p : SerialOrder) → primary_of s c.handle.0 c.version.0 ≡ Some p → Done (acknowledges (server_begins s) c.handle.0 p (server_number c.m.sender) c.serial.0)
        acked_done c p primary =
            let both = fit c.handle.0 c.version.0 p primary h in
            acknowledged_fine (server_begins s) c.handle.0 p (server_number c.m.sender) c.serial.0 both.0.0
            (inr (subst (λ (v : ℕ). A (server_number c.m.sender) c.handle.0 v c.serial.0) (sym both.1) (acked c.m c.handle c.version c.serial c.came c.is))) p both.0.1 refl h

        outcomes : Outcomes s i Done
        outcomes =
            record {
              rests = inl h;
              ticks = λ came. inl (ticks_fine h);
              ends_push = λ c. inl h;
              passes_push = λ c next. inl h;
              misses_chunk = λ c. inl h;
              misses_version = λ c. inl h;
              reads_rot = λ c. inl (lost D c.handle.0 h);
              reads = λ c r bytes found same is. inl h;
              measures = λ c r found same. inl h;
              copies_rot = λ c. inl (lost D c.handle.0 h);
              copies = λ c r bytes found same is. inl h;
              lacks_lease = λ c. inl h;
              is_late = λ l late. inl h;
              is_old = λ l old. inl h;
              was_placed = λ l place is. inl h;
              was_padded = λ l is. inl h;
              was_refused = λ l refusal is. inl h;
              lacks_data = λ a. denies_done a NoData;
              is_long = λ a. denies_done a ServerTooLong;
              is_full = λ a. denies_done a ChunkFull;
              spoils = λ n rotten. inl (lost (number_of s i n) n.a.c.handle.0 (number_begun n));
              applies = λ n sound. applied_done n;
              lacks_replica = λ c none. inl h;
              has_version = λ c r found other. inl h;
              has_serial = λ f least. inl h;
              lacks_bytes = λ f none. inl h;
              stores_rot = λ t rotten. inl (lost D t.f.c.handle.0 h);
              stored = λ t sound. inl h;
              acked = λ c p primary. acked_done c p primary;
              nacked = λ c p w primary waits.
                  inl (put_fine D c.handle.0 (refused_by p c.refusal (Some w)) (counting_refused A me c.handle.0 p c.refusal (Some w) (fit c.handle.0 c.version.0 p primary h).0.0) h);
              nacked_late = λ c p primary. inl (put_fine D c.handle.0 p (fit c.handle.0 c.version.0 p primary h).0.0 h);
              orders = λ o new. inl h;
              creates = λ c new none. inl h;
              raised = λ c r new found same. inl (lost D c.handle.0 h);
              grants = λ c new holds.
                  let held : LeaseHeld = record { version = c.version.0; until = c.end_moment.0; members = c.members } in
                  inl (put_fine D c.handle.0 (new_order c.is.chunk held) (counting_new A me c.handle.0 c.is.chunk held) h);
              revokes = λ c q new same. inl (lost D c.handle.0 h);
              revoked = λ c new apart. inl h;
              drops = λ c r new found old. inl (lost D c.handle.0 h);
              clones = λ c new. inl h;
              copied = λ c r new found same sound none. inl h;
              copied_rot = λ c new. inl (lost D c.handle.0 h);
              extends = λ c q same.
                  inl (put_fine D c.handle.0 (until_later s q.p c.end_moment.0) (counting_extended A me c.handle.0 q.p s.config.skew_ms c.end_moment.0 s.now (h.0.0 c.handle.0 q.p q.there)) h);
              installs = λ c pending fits none. inl h;
            }

      does_fine : (j : NodeInput) → i ≡ j → Begun (server_begins s) → Done (server_does (server_begins s) j)
      does_fine j came h = does_comes s i Done (outcomes h) j came

  pub none_counting : AreCounting table.empty
  none_counting q p at = none_some p (sym (table.get-empty nat_cmp q) ∙ at)

  -- a server after its step, and what it showed
  abbrev IsDone : ServerState → Taken ServerState → Type 0
  IsDone s t = AreCounting t.state.leases × AllOf (IsSettledSeen s t.state.leases) t.seen

  -- of a step that stops no settling is seen
  numbers_alone : (s : ServerState) (leases : Table SerialOrder) (x : Seen) → is_numbering x ≡ true → IsSettledSeen s leases x
  numbers_alone s leases (BecameSettled q v n) is = absurd (let both : false ≡ true = is in cc)
  numbers_alone s leases (Numbered q v n id m) is = tt
  numbers_alone s leases (CopyStarted q copy) is = tt

  all_numbers : (s : ServerState) (leases : Table SerialOrder) (xs : List Seen) → AllOf (IsSettledSeen s leases) (filter is_numbering xs)
  all_numbers s leases [] = tt
  all_numbers s leases (x ∷ xs) =
      on_cond (AllOf (IsSettledSeen s leases)) (is_numbering x) (x ∷ filter is_numbering xs) (filter is_numbering xs) (λ is. (numbers_alone s leases x is, all_numbers s leases xs)) (λ _. all_numbers s leases xs)

  ends_done : (s from : ServerState) (d : ServerDoing) (choice : Choice) (e : Ending) → AreCounting d.server.leases → AllOf (IsSettledSeen from d.server.leases) d.seen
      → IsDone from (server_ends s d choice e)
  ends_done s from d choice Goes h all = (h, all)
  ends_done s from d choice Lost h all = (none_counting, tt)
  ends_done s from d choice (Stops made) h all = (none_counting, all_numbers from table.empty d.seen)

  pub step_counting : (s : ServerState) (moment : ℕ) (i : NodeInput) (choice : Choice)
      → ((m : Message) (q : Handle) (v : VersionId) (n : Serial) → i ≡ input.Deliver m → m.body ≡ body.Acked q v n → A (server_number m.sender) q.0 v.0 n.0) → s.id ≡ me → AreCounting s.leases
      → AreCounting (server_step s moment i choice).state.leases × AllOf (IsSettledSeen (server_at s moment) (server_step s moment i choice).state.leases) (server_step s moment i choice).seen
  step_counting s moment i choice acked id h =
      on_cond (IsDone (server_at s moment)) s.up (server_ends s (server_goes s moment i) choice choice.ending) (no_step s)
      (λ _. let done = fine (server_at s moment) (server_goes s moment i) (does_fine (server_at s moment) i acked i refl ((h, id), tt)) in ends_done s (server_at s moment) (server_goes s moment i) choice choice.ending done.0 done.1) (λ _. (h, tt))
