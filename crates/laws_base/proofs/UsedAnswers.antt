-- In a step a server's leases stay right: of each attempt that they know, and of each that is answered, F holds.
use Rattle.std.proofs.Common.{◌≡◌, ◌⊎◌, ℕ, ◌+◌, ◌-◌, Bool, true, false, List, [], ◌∷◌, map, Option, Some, None, refl, sym, ap, subst, ◌∙◌, inl, inr}
use Rattle.std.specs.Prelude.{nat_le, nat_lt, ◌==◌, cond}
use Rattle.std.specs.Ordering.{nat_cmp}
use Rattle.std.specs.FinMap as table
use Rattle.std.proofs.lemmas.Bool.{eqb-true}
use Rattle.gfs_types.specs.declared.ids.Node.{Node}
use Rattle.gfs_types.specs.declared.ids.Node.TheVariants.{Master}
use Rattle.gfs_types.specs.declared.ids.DataId.{DataId}
use Rattle.gfs_types.specs.declared.ids.ClientId.{ClientId}
use Rattle.gfs_types.specs.declared.ids.Node.TheVariants as node
use Rattle.gfs_types.specs.declared.ids.Handle.{Handle}
use Rattle.gfs_types.specs.declared.ids.Version.{Version as VersionId}
use Rattle.gfs_types.specs.declared.ids.Moment.{Moment}
use Rattle.gfs_types.specs.declared.refusal.Refusal.{Refusal}
use Rattle.gfs_types.specs.declared.refusal.Refusal.TheVariants.{NoChunk, Version, NoLease, NoData, OldRequest, Late, Corrupt, ChunkFull, ServerTooLong}
use Rattle.gfs_types.specs.declared.mutation.Mutation.{Mutation}
use Rattle.messages.specs.declared.message.Body.{Body}
use Rattle.messages.specs.declared.message.Body.TheVariants as body
use Rattle.messages.specs.declared.message.Message.{Message}
use Rattle.messages.specs.declared.message.Target.{Target}
use Rattle.messages.specs.declared.message.Change.{Change}
use Rattle.messages.specs.declared.event.NodeInput.{NodeInput}
use Rattle.messages.specs.declared.event.NodeInput.TheVariants as input
use Rattle.leases.specs.LeaseHeld.{LeaseHeld, counts_at}
use Rattle.primary_order.specs.declared.kept.Kept.{Kept}
use Rattle.primary_order.specs.declared.kept.Standing.{Standing}
use Rattle.primary_order.specs.declared.kept.Standing.TheVariants.{IsSettled, IsRefused}
use Rattle.primary_order.specs.declared.waiting.Waiting.{Waiting}
use Rattle.primary_order.specs.PrimaryOrder.{place_of, settled_by, success_of}
use Rattle.primary_order.specs.SerialOrder.{SerialOrder, IsNew, IsRepeat, IsOld, new_order, attempted, attempted_by, denied, numbered, acknowledged, refused_by, attempt_of}
use Rattle.gfs_types.specs.Counters.{counter_limit}
use Rattle.protocol.specs.Tables.{Table, without, map_values}
use Rattle.protocol.specs.Sending.{message, the_server, the_client, handle_of, version_of, serial_of, data_id, server_number}
use Rattle.protocol.specs.Choice.{Choice, Ending, Goes, Lost, Stops}
use Rattle.protocol.specs.Seen.{Taken, no_step}
use Rattle.protocol.specs.declared.seen.Seen.TheVariants.{BecameSettled}
use Rattle.protocol.specs.Server.{ServerState, ServerDoing, server_begins, sends, refuses, stores, shows, with_primary, takes_data, drops_corrupt, primary_of}
use Rattle.protocol.specs.ServerWrites.{refuses_attempt, answers_settled, denies, forward_to, forwards, settles, acknowledges, change_of, stored_as, primary_applies, places, mutates_under}
use Rattle.protocol.specs.ServerStep.{replica_line, lease_line, asks_no_more, counting_leases, server_ticks, server_does, server_at, server_goes, server_ends, server_step, server_restarts, server_restart}
use Rattle.laws_base.proofs.Steps.{on_cond, none_some, put_cases, kept_cases}
use Rattle.laws_base.proofs.Entries.{AllOf, all_joined, mapped_cases, kept_where_cases}
use Rattle.laws_base.proofs.MembersRecorded.{all_in_order}
use Rattle.laws_base.proofs.ServerWalk.{IsAskedUnder, Leased, Attempting, Numbering, Outcomes, is_sound, number_of, until_later, mutates_there, placed_there, does_comes}
use Rattle.laws_base.proofs.KnownNumbers.{primary_there}
use Rattle.laws_base.specs.AnsweredAttempts.{IsFinal}
use Rattle.laws_base.proofs.UsedOrders.{IsRight, IsCaused, Causes, refusal_caused, reading_caused, right_denied, right_refused, right_numbered, success_right, right_acknowledged, right_extended, right_reported, right_new}

abbrev pub AreRight : (DataId → Type 0) → Table SerialOrder → Type 0
AreRight F leases = (q : ℕ) (p : SerialOrder) → table.get leases q ≡ Some p → IsRight F p

-- it asks to read, or for a length, under this number
abbrev pub IsReading : ℕ → Body → Type 0
IsReading number b = IsAskedUnder number b

-- a new attempt came to this: it is refused, which is kept, or it is placed
abbrev pub IsEnd : ServerDoing → ℕ → SerialOrder → DataId → ServerDoing → Type 0
IsEnd d q p id x = ((refusal : Refusal) × (x ≡ denies d q p id refusal)) ⊎ ((m : Mutation) × (x ≡ places d q p id m) × (nat_le counter_limit p.serial ≡ false))

module _ (F : DataId → Type 0) (G : ℕ → ℕ → Type 0) (Now : ℕ) where
  abbrev pub Fine : ServerDoing → Type 0
  Fine d = AreRight F d.server.leases × AllOf (Causes F G) d.sent × (d.server.now ≡ Now)

  said : (d : ServerDoing) (receiver : Node) (b : Body) → IsCaused F G b receiver → Fine d → Fine (sends d receiver b)
  said d receiver b cause h = (h.0, all_joined (Causes F G) d.sent (message (the_server d.server.id) receiver b ∷ []) h.1 (cause, tt), h.2)

  refused : (d : ServerDoing) (receiver : Node) (number : ℕ) (refusal : Refusal) → IsCaused F G (body.Refused number refusal) receiver → Fine d → Fine (refuses d receiver number refusal)
  refused d receiver number refusal cause h = said d receiver (body.Refused number refusal) cause h

  attempt_refused : (d : ServerDoing) (id : DataId) (refusal : Refusal) → (IsFinal refusal → F id) → Fine d → Fine (refuses_attempt d id refusal)
  attempt_refused d id refusal cause h = refused d (the_client id.client.0) id.seq refusal (refusal_caused F G refusal id cause) h

  put : (leases : Table SerialOrder) (q : ℕ) (p : SerialOrder) → IsRight F p → AreRight F leases → AreRight F (table.insert leases q p)
  put leases q p right h r x at =
      elim (put_cases leases q p r x at) [
        | inl now ↦ subst (IsRight F) now.1 right
        | inr before ↦ h r x before
      ]

  gone : (leases : Table SerialOrder) (q : ℕ) → AreRight F leases → AreRight F (table.remove leases q)
  gone leases q h r x at = h r x (kept_cases leases q r x at)

  lost : (d : ServerDoing) (q : ℕ) → Fine d → Fine (drops_corrupt d q)
  lost d q h = (gone d.server.leases q h.0, h.1, h.2)

  right_primary : (d : ServerDoing) (q v : ℕ) (p : SerialOrder) → primary_of d.server q v ≡ Some p → Fine d → IsRight F p
  right_primary d q v p is h = h.0 q p (primary_there d.server v (table.get d.server.leases q) p is).0

  -- who asked for a reading under this number
  abbrev Reads : Node → ℕ → Type 0
  Reads receiver number = (c : ClientId) → receiver ≡ node.Client c → G c.0 number

  answered : (d : ServerDoing) (id : DataId) (o : Option ℕ) → F id → Fine d → Fine (answers_settled d id o)
  answered d id None used h = attempt_refused d id ChunkFull (λ final. used) h
  answered d id (Some place) used h = said d (the_client id.client.0) (body.Done id place) used h

  all_forwards : (me : ℕ) (members : List ℕ) (q v serial : ℕ) (id : DataId) (chunk : ℕ) (c : Change) → AllOf (Causes F G) (map (forward_to me q v serial id chunk c) members)
  all_forwards me [] q v serial id chunk c = tt
  all_forwards me (m ∷ rest) q v serial id chunk c = (tt, all_forwards me rest q v serial id chunk c)

  forwards_fine : (d : ServerDoing) (members : List ℕ) (q v serial : ℕ) (id : DataId) (chunk : ℕ) (c : Change) → Fine d → Fine (forwards d members q v serial id chunk c)
  forwards_fine d members q v serial id chunk c h =
      (h.0, all_joined (Causes F G) d.sent (map (forward_to d.server.id q v serial id chunk c) members) h.1 (all_forwards d.server.id members q v serial id chunk c), h.2)

  acknowledged_fine : (d : ServerDoing) (q : ℕ) (p : SerialOrder) (server serial : ℕ) → IsRight F p → Fine d → Fine (acknowledges d q p server serial)
  acknowledged_fine d q p server serial right h = by_settled (settled_by server (table.get p.waiting serial)) refl
    where
      put_now : Fine (with_primary d q (acknowledged p server serial))
      put_now = (put d.server.leases q (acknowledged p server serial) (right_acknowledged F p server serial right) h.0, h.1, h.2)

      by_settled : (o : Option Waiting) → settled_by server (table.get p.waiting serial) ≡ o → Fine (settles (with_primary d q (acknowledged p server serial)) q p.held.version serial (success_of o))
      by_settled None is = put_now
      by_settled (Some w) is =
          answered (shows (with_primary d q (acknowledged p server serial)) (BecameSettled (handle_of q) (version_of p.held.version) (serial_of serial))) (attempt_of w) w.place (success_right F p server serial w is right) put_now

  denied_fine : (d : ServerDoing) (q : ℕ) (p : SerialOrder) (id : DataId) (refusal : Refusal) → F id → IsRight F p → Fine d → Fine (denies d q p id refusal)
  denied_fine d q p id refusal used right h =
      attempt_refused (takes_data (with_primary d q (denied p id.client id.seq refusal)) id) id refusal (λ final. used)
      (put d.server.leases q (denied p id.client id.seq refusal) (right_denied F p id.client id.seq refusal used right) h.0, h.1, h.2)

  -- a repeated attempt is what is kept for its client
  repeated : (n : ℕ) (o : Option Kept) (standing : Standing) → attempted_by n o ≡ IsRepeat standing → (k : Kept) × (o ≡ Some k) × (k.seq ≡ n) × (k.standing ≡ standing)
  repeated n None standing is = absurd (let both : IsNew ≡ IsRepeat standing = is in cc)
  repeated n (Some k) standing is = by_test (k.seq == n) refl is
    where
      same : IsRepeat k.standing ≡ IsRepeat standing → k.standing ≡ standing
      same g = cc

      by_order : (b : Bool) → cond b IsOld IsNew ≡ IsRepeat standing → (x : Kept) × (Some k ≡ Some x) × (x.seq ≡ n) × (x.standing ≡ standing)
      by_order true g = absurd (let both : IsOld ≡ IsRepeat standing = g in cc)
      by_order false g = absurd (let both : IsNew ≡ IsRepeat standing = g in cc)

      by_test : (b : Bool) → (k.seq == n) ≡ b → cond b (IsRepeat k.standing) (cond (nat_lt n k.seq) IsOld IsNew) ≡ IsRepeat standing
          → (x : Kept) × (Some k ≡ Some x) × (x.seq ≡ n) × (x.standing ≡ standing)
      by_test true there g = (k, refl, eqb-true k.seq n there, same g)
      by_test false other g = by_order (nat_lt n k.seq) g

  kept_used : (p : SerialOrder) (id : DataId) (standing : Standing) → attempted p id.client id.seq ≡ IsRepeat standing → IsRight F p → F id
  kept_used p id standing is right =
      let was = repeated id.seq (table.get p.kept id.client.0) standing is in subst (λ (n : ℕ). F (data_id id.client.0 n)) was.2 (right.keeps id.client.0 was.0 was.1)

  -- an old number is known; a new one is, once it is refused or placed
  abbrev pub Knowing : ServerDoing → ℕ → SerialOrder → DataId → ServerDoing → Type 0
  Knowing d q p id x = (attempted p id.client id.seq ≡ IsOld → F id) × (attempted p id.client id.seq ≡ IsNew → IsEnd d q p id x → F id)

  -- A server s that takes an input: what it knows of an attempt that is asked for, and who asks for readings.
  module _ (s : ServerState) (i : NodeInput)
      (knows : (m : Message) (id : DataId) (q : Handle) (v : VersionId) (t : Target) (deadline : Moment) (p : SerialOrder) → i ≡ input.Deliver m → m.body ≡ body.Mutate id q v t deadline → primary_of s q.0 v.0 ≡ Some p
      → Knowing (server_begins s) q.0 p id (mutates_under (server_begins s) q.0 id t deadline.0 (primary_of s q.0 v.0)) × (nat_le deadline.0 s.now ≡ true → F id))
      (reads : (m : Message) (number : ℕ) → i ≡ input.Deliver m → IsReading number m.body → Reads m.sender number) where
    abbrev D : ServerDoing
    D = server_begins s

    ticks_fine : Fine (server_begins s) → Fine (server_ticks (server_begins s))
    ticks_fine h = (right, both.1, both.2)
      where
        both : Fine (sends D Master (body.Report (map replica_line (table.entries D.server.disk.replicas)) (map lease_line (table.entries (counting_leases D.server)))))
        both = said D Master (body.Report (map replica_line (table.entries D.server.disk.replicas)) (map lease_line (table.entries (counting_leases D.server)))) tt h

        right : AreRight F (map_values asks_no_more (counting_leases D.server))
        right q p at =
            let old = mapped_cases asks_no_more (counting_leases D.server) q p at in
            let there = kept_where_cases (λ e. counts_at D.server.config.skew_ms e.1.held D.server.now) D.server.leases q old.0 old.1 in
            subst (IsRight F) old.2 (right_reported F old.0 (h.0 q old.0 there))

    -- what is known of an attempt under a lease that counts
    known : (l : Leased s i) → Knowing (server_begins s) l.c.handle.0 l.p l.c.id (mutates_under (server_begins s) l.c.handle.0 l.c.id l.c.aim l.c.deadline.0 (primary_of s l.c.handle.0 l.c.version.0))
        × (nat_le l.c.deadline.0 s.now ≡ true → F l.c.id)
    known l = knows l.c.m l.c.id l.c.handle l.c.version l.c.aim l.c.deadline l.p l.c.came l.c.is l.primary

    used : (a : Attempting s i) (x : ServerDoing) → server_does (server_begins s) i ≡ x → IsEnd (server_begins s) a.c.handle.0 a.p a.c.id x → F a.c.id
    used a x comes end =
        (knows a.c.m a.c.id a.c.handle a.c.version a.c.aim a.c.deadline a.p a.c.came a.c.is a.primary).0.1 a.new
        (subst (IsEnd (server_begins s) a.c.handle.0 a.p a.c.id) (sym comes ∙ mutates_there s i a.c) end)

    used_number : (n : Numbering s i) (b : Bool) → is_sound s i n ≡ b
        → server_does (server_begins s) i ≡ cond b (primary_applies (number_of s i n) n.a.c.handle.0 n.a.p n.a.c.id n.placed) (refuses_attempt (drops_corrupt (number_of s i n) n.a.c.handle.0) n.a.c.id Corrupt) → F n.a.c.id
    used_number n b is comes = used n.a (places (server_begins s) n.a.c.handle.0 n.a.p n.a.c.id n.placed) (comes ∙ placed_there s i n b is) (inr (n.placed, refl, n.room))

    module _ (h : Fine (server_begins s)) where
      right : (q v : ℕ) (p : SerialOrder) → primary_of s q v ≡ Some p → IsRight F p
      right q v p is = right_primary (server_begins s) q v p is h

      denies_fine : (a : Attempting s i) (refusal : Refusal) → server_does (server_begins s) i ≡ denies (server_begins s) a.c.handle.0 a.p a.c.id refusal
          → Fine (denies (server_begins s) a.c.handle.0 a.p a.c.id refusal)
      denies_fine a refusal comes =
          denied_fine D a.c.handle.0 a.p a.c.id refusal (used a (denies (server_begins s) a.c.handle.0 a.p a.c.id refusal) comes (inl (refusal, refl))) (right a.c.handle.0 a.c.version.0 a.p a.primary) h

      number_right : (n : Numbering s i) → F n.a.c.id → IsRight F (numbered n.a.p n.a.c.id.client n.a.c.id.seq (place_of n.placed))
      number_right n is = right_numbered F n.a.p n.a.c.id (place_of n.placed) is (right n.a.c.handle.0 n.a.c.version.0 n.a.p n.a.primary)

      number_fine : (n : Numbering s i) → F n.a.c.id → Fine (number_of s i n)
      number_fine n is = (put s.leases n.a.c.handle.0 (numbered n.a.p n.a.c.id.client n.a.c.id.seq (place_of n.placed)) (number_right n is) h.0, tt, h.2)

      applied_fine : (n : Numbering s i) → F n.a.c.id → Fine (primary_applies (number_of s i n) n.a.c.handle.0 n.a.p n.a.c.id n.placed)
      applied_fine n is =
          let q : ℕ = n.a.c.handle.0 in
          let serial : ℕ = n.a.p.serial + 1 in
          let stored : ServerDoing = stores (number_of s i n) (stored_as q serial n.placed) in
          acknowledged_fine (forwards stored (without n.a.p.held.members s.id) q n.a.p.held.version serial n.a.c.id n.a.p.chunk (change_of n.placed)) q (numbered n.a.p n.a.c.id.client n.a.c.id.seq (place_of n.placed)) s.id serial
          (number_right n is) (forwards_fine stored (without n.a.p.held.members s.id) q n.a.p.held.version serial n.a.c.id n.a.p.chunk (change_of n.placed) (number_fine n is))

      outcomes : Outcomes s i (λ d. server_does (server_begins s) i ≡ d → Fine d)
      outcomes =
          record {
            rests = λ e. h;
            ticks = λ came e. ticks_fine h;
            ends_push = λ c e. (h.0, (tt, tt), h.2);
            passes_push = λ c next e. (h.0, (tt, tt), h.2);
            misses_chunk = λ c e. refused D c.m.sender c.number NoChunk (reading_caused F G c.number NoChunk c.m.sender (reads c.m c.number c.came c.is)) h;
            misses_version = λ c e. refused D c.m.sender c.number Version (reading_caused F G c.number Version c.m.sender (reads c.m c.number c.came c.is)) h;
            reads_rot = λ c e.
                refused (drops_corrupt D c.handle.0) c.m.sender c.number Corrupt
                (reading_caused F G c.number Corrupt c.m.sender (reads c.m c.number c.came (subst (IsReading c.number) (sym c.is) refl))) (lost D c.handle.0 h);
            reads = λ c r bytes found same is e. (h.0, (tt, tt), h.2);
            measures = λ c r found same e. (h.0, (tt, tt), h.2);
            copies_rot = λ c e. lost D c.handle.0 h;
            copies = λ c r bytes found same is e. (h.0, (tt, tt), h.2);
            lacks_lease = λ c e. attempt_refused D c.id NoLease (λ final. absurd final) h;
            is_late = λ l late e. attempt_refused D l.c.id Late (λ final. (known l).1 late) h;
            is_old = λ l old e. attempt_refused D l.c.id OldRequest (λ final. (known l).0.0 old) h;
            was_placed = λ l place is e.
                said D (the_client l.c.id.client.0) (body.Done l.c.id place) (kept_used l.p l.c.id (IsSettled (Some place)) is (right l.c.handle.0 l.c.version.0 l.p l.primary)) h;
            was_padded = λ l is e. attempt_refused D l.c.id ChunkFull (λ final. kept_used l.p l.c.id (IsSettled None) is (right l.c.handle.0 l.c.version.0 l.p l.primary)) h;
            was_refused = λ l refusal is e. attempt_refused D l.c.id refusal (λ final. kept_used l.p l.c.id (IsRefused refusal) is (right l.c.handle.0 l.c.version.0 l.p l.primary)) h;
            lacks_data = λ a e. denies_fine a NoData e;
            is_long = λ a e. denies_fine a ServerTooLong e;
            is_full = λ a e. denies_fine a ChunkFull e;
            spoils = λ n rotten e.
                let told = used_number n false rotten e in
                attempt_refused (drops_corrupt (number_of s i n) n.a.c.handle.0) n.a.c.id Corrupt (λ final. told) (lost (number_of s i n) n.a.c.handle.0 (number_fine n told));
            applies = λ n sound e. applied_fine n (used_number n true sound e);
            lacks_replica = λ c none e. (h.0, (tt, tt), h.2);
            has_version = λ c r found other e. (h.0, (tt, tt), h.2);
            has_serial = λ f least e. (h.0, (tt, tt), h.2);
            lacks_bytes = λ f none e. (h.0, (tt, tt), h.2);
            stores_rot = λ t rotten e. (gone s.leases t.f.c.handle.0 h.0, (tt, tt), h.2);
            stored = λ t sound e. (h.0, (tt, tt), h.2);
            acked = λ c p primary e. acknowledged_fine D c.handle.0 p (server_number c.m.sender) c.serial.0 (right c.handle.0 c.version.0 p primary) h;
            nacked = λ c p w primary waits e.
                let was = right c.handle.0 c.version.0 p primary in
                attempt_refused (with_primary D c.handle.0 (refused_by p c.refusal (Some w))) (attempt_of w) c.refusal (λ final. was.waits c.serial.0 w waits)
                (put s.leases c.handle.0 (refused_by p c.refusal (Some w)) (right_refused F p c.refusal (Some w) was) h.0, tt, h.2);
            nacked_late = λ c p primary e. (put s.leases c.handle.0 p (right c.handle.0 c.version.0 p primary) h.0, tt, h.2);
            orders = λ o new e. h;
            creates = λ c new none e. (h.0, (tt, tt), h.2);
            raised = λ c r new found same e. (gone s.leases c.handle.0 h.0, (tt, tt), h.2);
            grants = λ c new holds e.
                let held : LeaseHeld = record { version = c.version.0; until = c.end_moment.0; members = c.members } in
                (put s.leases c.handle.0 (new_order c.is.chunk held) (right_new F c.is.chunk held) h.0, tt, h.2);
            revokes = λ c q new same e. (gone s.leases c.handle.0 h.0, (tt, tt), h.2);
            revoked = λ c new apart e. (h.0, (tt, tt), h.2);
            drops = λ c r new found old e. lost D c.handle.0 h;
            clones = λ c new e. (h.0, (tt, tt), h.2);
            copied = λ c r new found same sound none e. (h.0, (tt, tt), h.2);
            copied_rot = λ c new e. lost D c.handle.0 h;
            extends = λ c q same e. (put s.leases c.handle.0 (until_later s q.p c.end_moment.0) (right_extended F q.p s.config.skew_ms c.end_moment.0 s.now (h.0 c.handle.0 q.p q.there)) h.0, tt, h.2);
            installs = λ c pending fits none e. (h.0, (tt, tt), h.2);
          }

    does_fine : (j : NodeInput) → i ≡ j → Fine (server_begins s) → Fine (server_does (server_begins s) j)
    does_fine j came h = does_comes s i (λ d. server_does (server_begins s) i ≡ d → Fine d) (outcomes h) j came (ap (λ (x : NodeInput). server_does (server_begins s) x) came)

  -- what a step leaves: its leases are right, and each answer that it tells is caused
  abbrev pub Leaves : Taken ServerState → Type 0
  Leaves t = AreRight F t.state.leases × AllOf (Causes F G) t.out.sent

  pub none_right : AreRight F table.empty
  none_right q p at = none_some p (sym (table.get-empty nat_cmp q) ∙ at)

  ends_fine : (s : ServerState) (d : ServerDoing) (choice : Choice) (e : Ending) → Fine d → Leaves (server_ends s d choice e)
  ends_fine s d choice Goes h = (h.0, all_in_order (Causes F G) choice.order d.sent h.1)
  ends_fine s d choice Lost h = (none_right, tt)
  ends_fine s d choice (Stops made) h = (none_right, tt)

  pub step_leaves : (s : ServerState) (moment : ℕ) (i : NodeInput) (choice : Choice)
      → ((m : Message) (id : DataId) (q : Handle) (v : VersionId) (t : Target) (deadline : Moment) (p : SerialOrder) → i ≡ input.Deliver m → m.body ≡ body.Mutate id q v t deadline → primary_of (server_at s moment) q.0 v.0 ≡ Some p
      → Knowing (server_begins (server_at s moment)) q.0 p id (mutates_under (server_begins (server_at s moment)) q.0 id t deadline.0 (primary_of (server_at s moment) q.0 v.0)) × (nat_le deadline.0 (server_at s moment).now ≡ true → F id))
      → ((m : Message) (number : ℕ) → i ≡ input.Deliver m → IsReading number m.body → Reads m.sender number) → (server_at s moment).now ≡ Now → AreRight F s.leases
      → Leaves (server_step s moment i choice)
  step_leaves s moment i choice knows reads clock h =
      on_cond Leaves s.up (server_ends s (server_goes s moment i) choice choice.ending) (no_step s)
      (λ _. ends_fine s (server_goes s moment i) choice choice.ending (does_fine (server_at s moment) i knows reads i refl (h, tt, clock))) (λ _. (h, tt))

  restarted_right : (s : ServerState) (moment : ℕ) (choice : Choice) (e : Ending) → Leaves (server_restarts s moment choice e)
  restarted_right s moment choice Goes = (none_right, tt)
  restarted_right s moment choice Lost = (none_right, tt)
  restarted_right s moment choice (Stops made) = (none_right, tt)

  pub restart_leaves : (s : ServerState) (moment : ℕ) (choice : Choice) → Leaves (server_restart s moment choice)
  restart_leaves s moment choice = restarted_right s moment choice choice.ending

-- while it is up a server's clock is at the greatest moment that it was given

abbrev AnyData : DataId → Type 0
AnyData id = Unit {0}

abbrev AnyReading : ℕ → ℕ → Type 0
AnyReading client number = Unit {0}

pub goes_clock : (s : ServerState) (moment : ℕ) (i : NodeInput) → (server_goes s moment i).server.now ≡ (server_at s moment).now
goes_clock s moment i = fine.2
  where
    fine : Fine AnyData AnyReading (server_at s moment).now (server_goes s moment i)
    fine =
        does_fine AnyData AnyReading (server_at s moment).now (server_at s moment) i (λ m id q v t deadline p came is primary. ((λ old. tt, λ new end. tt), λ late. tt)) (λ m number came is c from. tt) i refl
        (λ q p at. record { waits = λ n w held. tt; keeps = λ c k held. tt }, tt, refl)
