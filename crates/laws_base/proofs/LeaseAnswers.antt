-- In a step a server's leases stay right by what was shown, and each success that it tells is that of a mutation that was settled.
use Rattle.std.proofs.Common.{◌≡◌, ◌⊎◌, ℕ, zero, suc, ◌+◌, ◌-◌, Bool, true, false, List, [], ◌∷◌, ◌++◌, map, Option, Some, None, refl, sym, subst, ◌∙◌, inl, inr}
use Rattle.std.specs.Prelude.{nat_lt, ◌==◌, filter, cond}
use Rattle.std.specs.Ordering.{nat_cmp}
use Rattle.std.specs.FinMap as table
use Rattle.std.proofs.lemmas.Bool.{eqb-true}
use Rattle.gfs_types.specs.declared.ids.Node.{Node}
use Rattle.gfs_types.specs.declared.ids.Node.TheVariants.{Master}
use Rattle.gfs_types.specs.declared.ids.DataId.{DataId}
use Rattle.gfs_types.specs.declared.refusal.Refusal.{Refusal}
use Rattle.gfs_types.specs.declared.refusal.Refusal.TheVariants.{NoData, Corrupt, ChunkFull, ServerTooLong}
use Rattle.messages.specs.declared.message.Body.{Body}
use Rattle.messages.specs.declared.message.Body.TheVariants as body
use Rattle.messages.specs.declared.message.Message.{Message}
use Rattle.messages.specs.declared.message.Change.{Change}
use Rattle.messages.specs.declared.event.NodeInput.{NodeInput}
use Rattle.leases.specs.LeaseHeld.{LeaseHeld, counts_at}
use Rattle.primary_order.specs.declared.kept.Kept.{Kept}
use Rattle.primary_order.specs.declared.kept.Standing.TheVariants.{IsSettled}
use Rattle.primary_order.specs.declared.waiting.Waiting.{Waiting}
use Rattle.primary_order.specs.PrimaryOrder.{place_of, settled_by, success_of}
use Rattle.primary_order.specs.SerialOrder.{SerialOrder, IsNew, IsRepeat, IsOld, new_order, attempted, attempted_by, denied, numbered, acknowledged, refused_by, attempt_of}
use Rattle.protocol.specs.Tables.{Table, element_at, without, map_values}
use Rattle.protocol.specs.Sending.{message, the_server, the_client, handle_of, version_of, serial_of, data_id, server_number}
use Rattle.protocol.specs.Choice.{Choice, Ending, Goes, Lost, Stops}
use Rattle.protocol.specs.Seen.{is_numbering, Taken, no_step}
use Rattle.protocol.specs.declared.seen.Seen.{Seen}
use Rattle.protocol.specs.declared.seen.Seen.TheVariants.{Numbered, BecameSettled}
use Rattle.protocol.specs.Server.{ServerState, ServerDoing, server_begins, sends, refuses, stores, shows, with_primary, takes_data, drops_corrupt, primary_of}
use Rattle.protocol.specs.ServerWrites.{refuses_attempt, answers_settled, denies, forward_to, forwards, settles, acknowledges, change_of, stored_as, primary_applies}
use Rattle.protocol.specs.ServerStep.{replica_line, lease_line, asks_no_more, counting_leases, server_ticks, server_at, server_goes, server_ends, server_step, server_restarts, server_restart}
use Rattle.laws_base.proofs.Steps.{on_cond, none_some, put_cases, kept_cases}
use Rattle.laws_base.proofs.Entries.{AllOf, all_joined, mapped_cases, kept_where_cases}
use Rattle.laws_base.proofs.MembersRecorded.{kept_place, all_in_order}
use Rattle.laws_base.proofs.ServerWalk.{Leased, Attempting, Numbering, Outcomes, number_of, until_later, server_comes_to}
use Rattle.laws_base.proofs.KnownNumbers.{primary_there}
use Rattle.laws_base.specs.Successes.{IsSettledAs}
use Rattle.laws_base.proofs.RightLeases.{IsRight, IsCaused, right_on, caused_on, right_denied, right_refused, right_numbered, success_right, right_acknowledged, right_extended, right_reported, right_new}

-- known before, or shown in this step so far
abbrev pub Since : (Seen → Type 0) → List Seen → Seen → Type 0
Since K seen x = K x ⊎ ((place : ℕ) × (element_at seen place ≡ Some x))

last_place : (xs : List Seen) (x : Seen) → (place : ℕ) × (element_at (xs ++ x ∷ []) place ≡ Some x)
last_place [] x = (zero, refl)
last_place (y ∷ xs) x = let rest = last_place xs x in (suc rest.0, rest.1)

all_go_on : (P Q : Message → Type 0) → ((m : Message) → P m → Q m) → (ms : List Message) → AllOf P ms → AllOf Q ms
all_go_on P Q go [] h = tt
all_go_on P Q go (m ∷ ms) h = (go m h.0, all_go_on P Q go ms h.1)

abbrev pub AreRight : (Seen → Type 0) → Table SerialOrder → Type 0
AreRight K leases = (q : ℕ) (p : SerialOrder) → table.get leases q ≡ Some p → IsRight K q p

module _ (K : Seen → Type 0) where
  abbrev pub Fine : ServerDoing → Type 0
  Fine d = AreRight (Since K d.seen) d.server.leases × AllOf (λ m. IsCaused (Since K d.seen) m.body) d.sent

  still : (seen : List Seen) (x y : Seen) → Since K seen y → Since K (seen ++ x ∷ []) y
  still seen x y h = elim (h) [ inl before ↦ inl before | inr now ↦ inr (now.0, kept_place seen (x ∷ []) now.0 y now.1) ]

  latest : (seen : List Seen) (x : Seen) → Since K (seen ++ x ∷ []) x
  latest seen x = inr (last_place seen x)

  all_caused : (seen : List Seen) (x : Seen) (ms : List Message) → AllOf (λ m. IsCaused (Since K seen) m.body) ms → AllOf (λ m. IsCaused (Since K (seen ++ x ∷ [])) m.body) ms
  all_caused seen x ms h =
      all_go_on (λ m. IsCaused (Since K seen) m.body) (λ m. IsCaused (Since K (seen ++ x ∷ [])) m.body) (λ m c. caused_on (Since K seen) (Since K (seen ++ x ∷ [])) (still seen x) m.body c) ms h

  all_right : (seen : List Seen) (x : Seen) (leases : Table SerialOrder) → AreRight (Since K seen) leases → AreRight (Since K (seen ++ x ∷ [])) leases
  all_right seen x leases h q p at = right_on (Since K seen) (Since K (seen ++ x ∷ [])) (still seen x) q p (h q p at)

  said : (d : ServerDoing) (receiver : Node) (b : Body) → IsCaused (Since K d.seen) b → Fine d → Fine (sends d receiver b)
  said d receiver b cause h = (h.0, all_joined (λ m. IsCaused (Since K d.seen) m.body) d.sent (message (the_server d.server.id) receiver b ∷ []) h.1 (cause, tt))

  refused : (d : ServerDoing) (receiver : Node) (number : ℕ) (refusal : Refusal) → Fine d → Fine (refuses d receiver number refusal)
  refused d receiver number refusal h = said d receiver (body.Refused number refusal) tt h

  attempt_refused : (d : ServerDoing) (id : DataId) (refusal : Refusal) → Fine d → Fine (refuses_attempt d id refusal)
  attempt_refused d id refusal h = refused d (the_client id.client.0) id.seq refusal h

  put : (L : Seen → Type 0) (leases : Table SerialOrder) (q : ℕ) (p : SerialOrder) → IsRight L q p → AreRight L leases → AreRight L (table.insert leases q p)
  put L leases q p right h r x at =
      elim (put_cases leases q p r x at) [
        | inl now ↦ subst (λ (n : ℕ). IsRight L n x) (sym now.0) (subst (λ (y : SerialOrder). IsRight L q y) now.1 right)
        | inr before ↦ h r x before
      ]

  gone : (L : Seen → Type 0) (leases : Table SerialOrder) (q : ℕ) → AreRight L leases → AreRight L (table.remove leases q)
  gone L leases q h r x at = h r x (kept_cases leases q r x at)

  lost : (d : ServerDoing) (q : ℕ) → Fine d → Fine (drops_corrupt d q)
  lost d q h = (gone (Since K d.seen) d.server.leases q h.0, h.1)

  right_primary : (d : ServerDoing) (q v : ℕ) (p : SerialOrder) → primary_of d.server q v ≡ Some p → Fine d → IsRight (Since K d.seen) q p
  right_primary d q v p is h = h.0 q p (primary_there d.server v (table.get d.server.leases q) p is).0

  answered : (d : ServerDoing) (id : DataId) (o : Option ℕ) → IsSettledAs (Since K d.seen) id o → Fine d → Fine (answers_settled d id o)
  answered d id None cause h = attempt_refused d id ChunkFull h
  answered d id (Some place) cause h = said d (the_client id.client.0) (body.Done id place) cause h

  all_forwards : (L : Seen → Type 0) (me : ℕ) (members : List ℕ) (q v serial : ℕ) (id : DataId) (chunk : ℕ) (c : Change) → AllOf (λ m. IsCaused L m.body) (map (forward_to me q v serial id chunk c) members)
  all_forwards L me [] q v serial id chunk c = tt
  all_forwards L me (m ∷ rest) q v serial id chunk c = (tt, all_forwards L me rest q v serial id chunk c)

  forwards_fine : (d : ServerDoing) (members : List ℕ) (q v serial : ℕ) (id : DataId) (chunk : ℕ) (c : Change) → Fine d → Fine (forwards d members q v serial id chunk c)
  forwards_fine d members q v serial id chunk c h =
      (h.0, all_joined (λ m. IsCaused (Since K d.seen) m.body) d.sent (map (forward_to d.server.id q v serial id chunk c) members) h.1 (all_forwards (Since K d.seen) d.server.id members q v serial id chunk c))

  acknowledged_fine : (d : ServerDoing) (q : ℕ) (p : SerialOrder) (server serial : ℕ) → IsRight (Since K d.seen) q p → Fine d → Fine (acknowledges d q p server serial)
  acknowledged_fine d q p server serial right h = by_settled (settled_by server (table.get p.waiting serial)) refl
    where
      by_settled : (o : Option Waiting) → settled_by server (table.get p.waiting serial) ≡ o → Fine (settles (with_primary d q (acknowledged p server serial)) q p.held.version serial (success_of o))
      by_settled None is =
          (put (Since K d.seen) d.server.leases q (acknowledged p server serial) (right_acknowledged (Since K d.seen) q p server serial (λ w settled. none_some w (sym is ∙ settled)) right) h.0, h.1)
      by_settled (Some w) is =
          let L : Seen → Type 0 = Since K (d.seen ++ BecameSettled (handle_of q) (version_of p.held.version) (serial_of serial) ∷ []) in
          let there : IsRight L q p = right_on (Since K d.seen) L (still d.seen (BecameSettled (handle_of q) (version_of p.held.version) (serial_of serial))) q p right in
          let shown = latest d.seen (BecameSettled (handle_of q) (version_of p.held.version) (serial_of serial)) in
          answered (shows (with_primary d q (acknowledged p server serial)) (BecameSettled (handle_of q) (version_of p.held.version) (serial_of serial))) (attempt_of w) w.place (success_right L q p server serial w is shown there).0 (
            put L d.server.leases q (acknowledged p server serial) (right_acknowledged L q p server serial (λ x settled. shown) there)
                (all_right d.seen (BecameSettled (handle_of q) (version_of p.held.version) (serial_of serial)) d.server.leases h.0),
            all_caused d.seen (BecameSettled (handle_of q) (version_of p.held.version) (serial_of serial)) d.sent h.1,
          )

  -- an attempt that is new in a lease
  abbrev IsNewIn : ServerDoing → ℕ → SerialOrder → DataId → Type 0
  IsNewIn d q p id = IsRight (Since K d.seen) q p × (attempted p id.client id.seq ≡ IsNew)

  denied_fine : (d : ServerDoing) (q : ℕ) (p : SerialOrder) (id : DataId) (refusal : Refusal) → IsNewIn d q p id → Fine d → Fine (denies d q p id refusal)
  denied_fine d q p id refusal right h =
      attempt_refused (takes_data (with_primary d q (denied p id.client id.seq refusal)) id) id refusal
      (put (Since K d.seen) d.server.leases q (denied p id.client id.seq refusal) (right_denied (Since K d.seen) q p id refusal right.1 right.0) h.0, h.1)

  -- a repeated attempt is what is kept for its client
  repeated : (n : ℕ) (o : Option Kept) (place : Option ℕ) → attempted_by n o ≡ IsRepeat (IsSettled place) → (k : Kept) × (o ≡ Some k) × (k.seq ≡ n) × (k.standing ≡ IsSettled place)
  repeated n None place is = absurd (let both : IsNew ≡ IsRepeat (IsSettled place) = is in cc)
  repeated n (Some k) place is = by_test (k.seq == n) refl is
    where
      standing : IsRepeat k.standing ≡ IsRepeat (IsSettled place) → k.standing ≡ IsSettled place
      standing g = cc

      by_order : (b : Bool) → cond b IsOld IsNew ≡ IsRepeat (IsSettled place) → (x : Kept) × (Some k ≡ Some x) × (x.seq ≡ n) × (x.standing ≡ IsSettled place)
      by_order true g = absurd (let both : IsOld ≡ IsRepeat (IsSettled place) = g in cc)
      by_order false g = absurd (let both : IsNew ≡ IsRepeat (IsSettled place) = g in cc)

      by_test : (b : Bool) → (k.seq == n) ≡ b → cond b (IsRepeat k.standing) (cond (nat_lt n k.seq) IsOld IsNew) ≡ IsRepeat (IsSettled place)
          → (x : Kept) × (Some k ≡ Some x) × (x.seq ≡ n) × (x.standing ≡ IsSettled place)
      by_test true same g = (k, refl, eqb-true k.seq n same, standing g)
      by_test false other g = by_order (nat_lt n k.seq) g

  ticks_fine : (d : ServerDoing) → Fine d → Fine (server_ticks d)
  ticks_fine d h = (right, both.1)
    where
      both : Fine (sends d Master (body.Report (map replica_line (table.entries d.server.disk.replicas)) (map lease_line (table.entries (counting_leases d.server)))))
      both = said d Master (body.Report (map replica_line (table.entries d.server.disk.replicas)) (map lease_line (table.entries (counting_leases d.server)))) tt h

      right : AreRight (Since K d.seen) (map_values asks_no_more (counting_leases d.server))
      right q p at =
          let old = mapped_cases asks_no_more (counting_leases d.server) q p at in
          let there = kept_where_cases (λ e. counts_at d.server.config.skew_ms e.1.held d.server.now) d.server.leases q old.0 old.1 in
          subst (λ (x : SerialOrder). IsRight (Since K d.seen) q x) old.2 (right_reported (Since K d.seen) q old.0 (h.0 q old.0 there))

  -- A server s that takes an input, of which nothing was shown yet.
  module _ (s : ServerState) (i : NodeInput) (h : AreRight (Since K []) s.leases) where
    abbrev D : ServerDoing
    D = server_begins s

    right : (q v : ℕ) (p : SerialOrder) → primary_of s q v ≡ Some p → IsRight (Since K []) q p
    right q v p is = right_primary (server_begins s) q v p is (h, tt)

    was_settled : (l : Leased s i) (place : Option ℕ) → attempted l.p l.c.id.client l.c.id.seq ≡ IsRepeat (IsSettled place) → IsSettledAs (Since K []) l.c.id place
    was_settled l place is =
        let was = repeated l.c.id.seq (table.get l.p.kept l.c.id.client.0) place is in
        subst (λ (n : ℕ). IsSettledAs (Since K []) (data_id l.c.id.client.0 n) place) was.2 ((right l.c.handle.0 l.c.version.0 l.p l.primary).keeps l.c.id.client.0 was.0 place was.1 was.3).0

    denies_fine : (a : Attempting s i) (refusal : Refusal) → Fine (denies (server_begins s) a.c.handle.0 a.p a.c.id refusal)
    denies_fine a refusal = denied_fine D a.c.handle.0 a.p a.c.id refusal (right a.c.handle.0 a.c.version.0 a.p a.primary, a.new) (h, tt)

    abbrev seen_of : Numbering s i → Seen
    seen_of n = Numbered (handle_of n.a.c.handle.0) (version_of n.a.p.held.version) (serial_of (n.a.p.serial + 1)) n.a.c.id n.placed

    number_right : (n : Numbering s i) → IsRight (Since K ([] ++ seen_of n ∷ [])) n.a.c.handle.0 (numbered n.a.p n.a.c.id.client n.a.c.id.seq (place_of n.placed))
    number_right n =
        right_numbered (Since K ([] ++ seen_of n ∷ [])) n.a.c.handle.0 n.a.p n.a.c.id n.placed n.a.new (latest [] (seen_of n))
        (right_on (Since K []) (Since K ([] ++ seen_of n ∷ [])) (still [] (seen_of n)) n.a.c.handle.0 n.a.p (right n.a.c.handle.0 n.a.c.version.0 n.a.p n.a.primary))

    number_fine : (n : Numbering s i) → Fine (number_of s i n)
    number_fine n =
        (put (Since K ([] ++ seen_of n ∷ [])) s.leases n.a.c.handle.0 (numbered n.a.p n.a.c.id.client n.a.c.id.seq (place_of n.placed)) (number_right n) (all_right [] (seen_of n) s.leases h), tt)

    applied_fine : (n : Numbering s i) → Fine (primary_applies (number_of s i n) n.a.c.handle.0 n.a.p n.a.c.id n.placed)
    applied_fine n =
        let q : ℕ = n.a.c.handle.0 in
        let serial : ℕ = n.a.p.serial + 1 in
        let stored : ServerDoing = stores (number_of s i n) (stored_as q serial n.placed) in
        acknowledged_fine (forwards stored (without n.a.p.held.members s.id) q n.a.p.held.version serial n.a.c.id n.a.p.chunk (change_of n.placed)) q (numbered n.a.p n.a.c.id.client n.a.c.id.seq (place_of n.placed)) s.id serial
        (number_right n) (forwards_fine stored (without n.a.p.held.members s.id) q n.a.p.held.version serial n.a.c.id n.a.p.chunk (change_of n.placed) (number_fine n))

    outcomes : Outcomes s i Fine
    outcomes =
        record {
          rests = (h, tt);
          ticks = λ came. ticks_fine D (h, tt);
          ends_push = λ c. (h, (tt, tt));
          passes_push = λ c next. (h, (tt, tt));
          misses_chunk = λ c. (h, (tt, tt));
          misses_version = λ c. (h, (tt, tt));
          reads_rot = λ c. (gone (Since K []) s.leases c.handle.0 h, (tt, tt));
          reads = λ c r bytes found same is. (h, (tt, tt));
          measures = λ c r found same. (h, (tt, tt));
          copies_rot = λ c. lost D c.handle.0 (h, tt);
          copies = λ c r bytes found same is. (h, (tt, tt));
          lacks_lease = λ c. (h, (tt, tt));
          is_late = λ l late. (h, (tt, tt));
          is_old = λ l old. (h, (tt, tt));
          was_placed = λ l place is. answered D l.c.id (Some place) (was_settled l (Some place) is) (h, tt);
          was_padded = λ l is. (h, (tt, tt));
          was_refused = λ l refusal is. (h, (tt, tt));
          lacks_data = λ a. denies_fine a NoData;
          is_long = λ a. denies_fine a ServerTooLong;
          is_full = λ a. denies_fine a ChunkFull;
          spoils = λ n rotten. attempt_refused (drops_corrupt (number_of s i n) n.a.c.handle.0) n.a.c.id Corrupt (lost (number_of s i n) n.a.c.handle.0 (number_fine n));
          applies = λ n sound. applied_fine n;
          lacks_replica = λ c none. (h, (tt, tt));
          has_version = λ c r found other. (h, (tt, tt));
          has_serial = λ f least. (h, (tt, tt));
          lacks_bytes = λ f none. (h, (tt, tt));
          stores_rot = λ t rotten. (gone (Since K []) s.leases t.f.c.handle.0 h, (tt, tt));
          stored = λ t sound. (h, (tt, tt));
          acked = λ c p primary. acknowledged_fine D c.handle.0 p (server_number c.m.sender) c.serial.0 (right c.handle.0 c.version.0 p primary) (h, tt);
          nacked = λ c p w primary waits.
              (put (Since K []) s.leases c.handle.0 (refused_by p c.refusal (Some w)) (right_refused (Since K []) c.handle.0 p c.refusal (Some w) (right c.handle.0 c.version.0 p primary)) h, (tt, tt));
          nacked_late = λ c p primary. (put (Since K []) s.leases c.handle.0 p (right c.handle.0 c.version.0 p primary) h, tt);
          orders = λ o new. (h, tt);
          creates = λ c new none. (h, (tt, tt));
          raised = λ c r new found same. (gone (Since K []) s.leases c.handle.0 h, (tt, tt));
          grants = λ c new holds.
              let held : LeaseHeld = record { version = c.version.0; until = c.end_moment.0; members = c.members } in
              (put (Since K []) s.leases c.handle.0 (new_order c.is.chunk held) (right_new (Since K []) c.handle.0 c.is.chunk held) h, tt);
          revokes = λ c q new same. (gone (Since K []) s.leases c.handle.0 h, (tt, tt));
          revoked = λ c new apart. (h, (tt, tt));
          drops = λ c r new found old. lost D c.handle.0 (h, tt);
          clones = λ c new. (h, (tt, tt));
          copied = λ c r new found same sound none. (h, (tt, tt));
          copied_rot = λ c new. lost D c.handle.0 (h, tt);
          extends = λ c q same.
              (put (Since K []) s.leases c.handle.0 (until_later s q.p c.end_moment.0) (right_extended (Since K []) c.handle.0 q.p s.config.skew_ms c.end_moment.0 s.now (h c.handle.0 q.p q.there)) h, tt);
          installs = λ c pending fits none. (h, (tt, tt));
        }

  -- what a step leaves: its leases are right, and each success that it tells is caused, by what was shown before and in it
  abbrev pub Leaves : Taken ServerState → Type 0
  Leaves t = AreRight (Since K t.seen) t.state.leases × AllOf (λ m. IsCaused (Since K t.seen) m.body) t.out.sent

  pub none_right : (L : Seen → Type 0) → AreRight L table.empty
  none_right L q p at = none_some p (sym (table.get-empty nat_cmp q) ∙ at)

  ends_fine : (s : ServerState) (d : ServerDoing) (choice : Choice) (e : Ending) → Fine d → Leaves (server_ends s d choice e)
  ends_fine s d choice Goes h = (h.0, all_in_order (λ m. IsCaused (Since K d.seen) m.body) choice.order d.sent h.1)
  ends_fine s d choice Lost h = (none_right (Since K []), tt)
  ends_fine s d choice (Stops made) h = (none_right (Since K (filter is_numbering d.seen)), tt)

  first_right : (leases : Table SerialOrder) → AreRight K leases → AreRight (Since K []) leases
  first_right leases h q p at = right_on K (Since K []) (λ x k. inl k) q p (h q p at)

  pub step_leaves : (s : ServerState) (moment : ℕ) (i : NodeInput) (choice : Choice) → AreRight K s.leases → Leaves (server_step s moment i choice)
  step_leaves s moment i choice h =
      on_cond Leaves s.up (server_ends s (server_goes s moment i) choice choice.ending) (no_step s)
      (λ _. ends_fine s (server_goes s moment i) choice choice.ending (server_comes_to Fine s moment i (outcomes (server_at s moment) i (first_right s.leases h)))) (λ _. (first_right s.leases h, tt))

  restarted_right : (s : ServerState) (moment : ℕ) (choice : Choice) (e : Ending) → AreRight K (server_restarts s moment choice e).state.leases
  restarted_right s moment choice Goes = none_right K
  restarted_right s moment choice Lost = none_right K
  restarted_right s moment choice (Stops made) = none_right K

  pub restart_right : (s : ServerState) (moment : ℕ) (choice : Choice) → AreRight K (server_restart s moment choice).state.leases
  restart_right s moment choice = restarted_right s moment choice choice.ending
