-- In each reached world each Forward that was sent names an entry of its chunk's order.
use Rattle.std.proofs.Common.{◌≡◌, ℕ, zero, suc, true, false, List, [], ◌∷◌, ◌++◌, length, map, replicate, Option, Some, None, refl, sym, ap, subst, ◌∙◌, inl, inr}
use Rattle.std.specs.Prelude.{unwrap_or}
use Rattle.std.specs.FinMap as table
use Rattle.std.specs.Option.{option_to_list}
use Rattle.gfs_types.specs.declared.call.Call.{Call}
use Rattle.gfs_types.specs.declared.config.Config.{Config}
use Rattle.gfs_types.specs.declared.ids.DataId.{DataId}
use Rattle.gfs_types.specs.declared.ids.Handle.{Handle}
use Rattle.gfs_types.specs.declared.ids.Version.{Version}
use Rattle.gfs_types.specs.declared.ids.Serial.{Serial}
use Rattle.gfs_types.specs.declared.mutation.Mutation.{Mutation}
use Rattle.messages.specs.declared.event.NodeInput.{NodeInput}
use Rattle.messages.specs.declared.message.Body.{Body}
use Rattle.messages.specs.declared.message.Body.TheVariants as body
use Rattle.messages.specs.declared.message.Change.{Change}
use Rattle.messages.specs.declared.message.Message.{Message}
use Rattle.replica_store.specs.Replicas.{ServerDisk, Replica, replica_becomes, replica_of, row_of, row_at, read_at, written_replica, disk_changed, disk_changed_by_all}
use Rattle.replica_store.specs.declared.change.StoreChange.{StoreChange}
use Rattle.replica_store.specs.declared.change.StoreChange.TheVariants.{SetOrder, Put, Write, Zero, Raise, Copy, Remove, Rot}
use Rattle.replica_store.specs.declared.row.Row.{Row}
use Rattle.relaxed_file.specs.Run.{Visible}
use Rattle.protocol.specs.Tables.{Table, element_at}
use Rattle.protocol.specs.Choice.{Choice, Ending, Goes, Lost, Stops}
use Rattle.protocol.specs.declared.seen.Seen.{Seen}
use Rattle.protocol.specs.declared.seen.Seen.TheVariants.{Numbered, BecameSettled, CopyStarted}
use Rattle.protocol.specs.Observer.{Placed, observed_moment, placed_in, is_placed_as, settled_as, new_entry, orders_after, orders_after_all}
use Rattle.protocol.specs.Client.{ClientState}
use Rattle.protocol.specs.Server.{ServerState}
use Rattle.protocol.specs.ServerStep.{server_step, server_restarts, server_restart}
use Rattle.protocol.specs.ServerWrites.{change_of}
use Rattle.protocol.specs.MasterStep.{master_step, master_restart}
use Rattle.protocol.specs.ClientStep.{client_at, client_step, client_call}
use Rattle.protocol.specs.World.{WorldState, stamped, IsReached}
use Rattle.laws_base.proofs.Steps.{on_cond, none_some, same_some, same_or_not, put_there, put_other}
use Rattle.laws_base.proofs.Entries.{AllOf}
use Rattle.laws_base.proofs.MembersRecorded.{kept_place, all_at}
use Rattle.laws_base.proofs.MessagesSent.{IsSent, sent_cases, none_sent, numbered_sent}
use Rattle.laws_base.proofs.SentReached.{sent_reached}
use Rattle.laws_base.proofs.Events.{HoldsAfter}
use Rattle.laws_base.proofs.ClientNumbers.{IsSaid, of_step, of_call}
use Rattle.laws_base.proofs.RequestsOnce.{numbered_reached}
use Rattle.laws_base.proofs.MasterTalks.{is_masters, master_said, restart_shown}
use Rattle.laws_base.proofs.Placing.{same_orders}
use Rattle.laws_base.proofs.Numbering.{restarted_shown}
use Rattle.laws_base.proofs.WaitsKept.{IsOfWaits, waits_kept}
use Rattle.laws_base.proofs.CopiesBegun.{step_shows}
use Rattle.laws_base.proofs.RoundsPassed.{IsOfServers, server_shown, unused_is_new}
use Rattle.laws_base.proofs.RisingRounds.{restart_silent, held_reached}
use Rattle.laws_base.specs.CausedWords.{IsNamedIn, ForwardsNameEntries, AckedSerialsAreApplied, ImagesAreOfReplicas}
use Rattle.laws_base.proofs.ServerCauses.{IsWritten, IsCaused, Causes, step_caused}

-- entries stay named

place_mapped : (f : Placed → Placed) (ps : List Placed) (place : ℕ) (p : Placed) → element_at ps place ≡ Some p → element_at (map f ps) place ≡ Some (f p)
place_mapped f [] place p at = none_some p at
place_mapped f (x ∷ ps) zero p at = ap (λ (y : Placed). Some (f y)) (same_some x p at)
place_mapped f (x ∷ ps) (suc place) p at = place_mapped f ps place p at

module _ (version : Version) (serial : Serial) (id : DataId) (c : Change) where
  abbrev Named : List Placed → Type 0
  Named order = IsNamedIn order version serial id c

  more_named : (order : List Placed) (new : Placed) → Named order → Named (order ++ new ∷ [])
  more_named order new h =
      record { place = h.place; p = h.p; at = kept_place order (new ∷ []) h.place h.p h.at; round_is = h.round_is; serial_is = h.serial_is; client_is = h.client_is; seq_is = h.seq_is; change_is = h.change_is }

  settled_named : (v n : ℕ) (order : List Placed) → Named order → Named (map (settled_as v n) order)
  settled_named v n order h =
      on_cond (λ (q : Placed). element_at (map (settled_as v n) order) h.place ≡ Some q → Named (map (settled_as v n) order)) (is_placed_as v n h.p) (record h.p { entry = record h.p.entry { settled = true } }) h.p
      (λ _ at. record { place = h.place; p = record h.p { entry = record h.p.entry { settled = true } }; at = at; round_is = h.round_is; serial_is = h.serial_is; client_is = h.client_is; seq_is = h.seq_is; change_is = h.change_is })
      (λ _ at. record { place = h.place; p = h.p; at = at; round_is = h.round_is; serial_is = h.serial_is; client_is = h.client_is; seq_is = h.seq_is; change_is = h.change_is })
      (place_mapped (settled_as v n) order h.place h.p h.at)

  put_named : (orders : Table (List Placed)) (handle k : ℕ) (ps : List Placed) → (handle ≡ k → Named ps) → Named (placed_in orders handle) → Named (placed_in (table.insert orders k ps) handle)
  put_named orders handle k ps new h =
      elim (same_or_not handle k) [
        | inl same ↦ subst (λ (o : Option (List Placed)). Named (unwrap_or o [])) (sym (put_there orders k ps handle same)) (new same)
        | inr apart ↦ subst (λ (o : Option (List Placed)). Named (unwrap_or o [])) (sym (put_other orders k ps handle apart)) h
      ]

  one_named : (trace : List Visible) (orders : Table (List Placed)) (handle : ℕ) (x : Seen) → IsOfServers x → Named (placed_in orders handle) → Named (placed_in (orders_after trace orders x) handle)
  one_named trace orders handle (Numbered q v n d m) of h =
      put_named orders handle q.0 (placed_in orders q.0 ++ new_entry trace v.0 n.0 d m ∷ [])
      (λ same. more_named (placed_in orders q.0) (new_entry trace v.0 n.0 d m) (subst (λ (k : ℕ). Named (placed_in orders k)) same h)) h
  one_named trace orders handle (BecameSettled q v n) of h =
      put_named orders handle q.0 (map (settled_as v.0 n.0) (placed_in orders q.0)) (λ same. settled_named v.0 n.0 (placed_in orders q.0) (subst (λ (k : ℕ). Named (placed_in orders k)) same h)) h
  one_named trace orders handle (CopyStarted q copy) of h = absurd of

  all_named : (trace : List Visible) (orders : Table (List Placed)) (handle : ℕ) (xs : List Seen) → AllOf IsOfServers xs → Named (placed_in orders handle) → Named (placed_in (orders_after_all trace orders xs) handle)
  all_named trace orders handle [] of h = h
  all_named trace orders handle (x ∷ xs) of h = all_named trace (orders_after trace orders x) handle xs of.1 (one_named trace orders handle x of.0 h)

last_entry : (order : List Placed) (new : Placed) → (place : ℕ) × (element_at (order ++ new ∷ []) place ≡ Some new)
last_entry [] new = (zero, refl)
last_entry (p ∷ ps) new = let rest = last_entry ps new in (suc rest.0, rest.1)

-- what is numbered is named from then on
numbered_named : (trace : List Visible) (orders : Table (List Placed)) (xs : List Seen) (place : ℕ) (handle : Handle) (version : Version) (serial : Serial) (id : DataId) (m : Mutation) → AllOf IsOfServers xs
    → element_at xs place ≡ Some (Numbered handle version serial id m) → IsNamedIn (placed_in (orders_after_all trace orders xs) handle.0) version serial id (change_of m)
numbered_named trace orders [] place handle version serial id m of at = none_some (Numbered handle version serial id m) at
numbered_named trace orders (x ∷ xs) zero handle version serial id m of at =
    let new : Placed = new_entry trace version.0 serial.0 id m in
    let last = last_entry (placed_in orders handle.0) new in
    let now : IsNamedIn (placed_in (orders_after trace orders (Numbered handle version serial id m)) handle.0) version serial id (change_of m) =
    subst (λ (o : Option (List Placed)). IsNamedIn (unwrap_or o []) version serial id (change_of m)) (sym (put_there orders handle.0 (placed_in orders handle.0 ++ new ∷ []) handle.0 refl))
    (record { place = last.0; p = new; at = last.1; round_is = refl; serial_is = refl; client_is = refl; seq_is = refl; change_is = refl }) in
    all_named version serial id (change_of m) trace (orders_after trace orders x) handle.0 xs of.1
    (subst (λ (y : Seen). IsNamedIn (placed_in (orders_after trace orders y) handle.0) version serial id (change_of m)) (sym (same_some x (Numbered handle version serial id m) at)) now)
numbered_named trace orders (x ∷ xs) (suc place) handle version serial id m of at = numbered_named trace (orders_after trace orders x) xs place handle version serial id m of.1 at

-- worlds

abbrev Names : Table (List Placed) → Body → Type 0
Names orders (body.Forward handle version serial id chunk c) = IsNamedIn (placed_in orders handle.0) version serial id c
Names orders other = Unit {0}

abbrev IsNoForward : Body → Type 0
IsNoForward (body.Forward handle version serial id chunk c) = ⊥
IsNoForward other = Unit {0}

no_names : (orders : Table (List Placed)) (b : Body) → IsNoForward b → Names orders b
no_names orders (body.Forward handle version serial id chunk c) none = absurd none
no_names orders other none = tt

abbrev AllNamed : WorldState → Type 0
AllNamed w = (m : Message) → IsSent w.sent m → Names w.observer.orders m.body

names_on : (orders later : Table (List Placed)) → ((handle : Handle) (version : Version) (serial : Serial) (id : DataId) (c : Change) → IsNamedIn (placed_in orders handle.0) version serial id c → IsNamedIn (placed_in later handle.0) version serial id c)
    → (b : Body) → Names orders b → Names later b
names_on orders later go (body.Forward handle version serial id chunk c) h = go handle version serial id c h
names_on orders later go other h = tt

-- the master says no Forward
no_masters : (b : Body) → is_masters b ≡ true → IsNoForward b
no_masters (body.Forward handle version serial id chunk c) is = absurd (let both : false ≡ true = is in cc)
no_masters other is = tt

no_option : (o : Option Message) → ((m : Message) → o ≡ Some m → IsNoForward m.body) → AllOf (λ m. IsNoForward m.body) (option_to_list o)
no_option None f = tt
no_option (Some m) f = (f m refl, tt)

-- nor does a client
said_none : (s t : ClientState) (b : Body) → IsSaid s t b → IsNoForward b
said_none s t (body.Forward handle version serial id chunk c) is = absurd is
said_none s t other is = tt

restarted_silent : (P : Message → Type 0) (s : ServerState) (moment : ℕ) (choice : Choice) (e : Ending) → AllOf P (server_restarts s moment choice e).out.sent
restarted_silent P s moment choice Goes = tt
restarted_silent P s moment choice Lost = tt
restarted_silent P s moment choice (Stops made) = tt

module _ (config : Config) (servers clients : ℕ) (w : WorldState) (r : IsReached config servers clients w) (h : AllNamed w) where
  base : IsOfWaits w.sent w.master
  base = sent_reached IsOfWaits waits_kept config servers clients w r

  sent_named : (orders : Table (List Placed)) (ms : List Message) → ((b : Body) → Names w.observer.orders b → Names orders b) → AllOf (λ m. Names orders m.body) ms → (m : Message) → IsSent (w.sent ++ stamped (suc (length w.sent)) ms) m → Names orders m.body
  sent_named orders ms go all m is =
      elim (sent_cases w.sent (stamped (suc (length w.sent)) ms) m is) [
        | inl before ↦ go m.body (h m before)
        | inr new ↦
            let was = numbered_sent (suc (length w.sent)) ms new.0 m new.1 in
            subst (λ (b : Body). Names orders b) was.2.2 (all_at (λ (x : Message). Names orders x.body) ms (was.1).0 was.0 all (was.1).1)
      ]

  none_named : (orders : Table (List Placed)) (ms : List Message) → AllOf (λ m. IsNoForward m.body) ms → AllOf (λ m. Names orders m.body) ms
  none_named orders [] all = tt
  none_named orders (m ∷ ms) all = (no_names orders m.body all.0, none_named orders ms all.1)

  master_orders : (trace : List Visible) (moment : ℕ) (i : NodeInput) (choice : Choice) (handle : Handle) (version : Version) (serial : Serial) (id : DataId) (c : Change)
      → IsNamedIn (placed_in w.observer.orders handle.0) version serial id c → IsNamedIn (placed_in (orders_after_all trace w.observer.orders (master_step w.master moment i choice).seen) handle.0) version serial id c
  master_orders trace moment i choice handle version serial id c named =
      elim (step_shows w.master moment i choice base.base.logged base.waits) [
        | inl none ↦ subst (λ (xs : List Seen). IsNamedIn (placed_in (orders_after_all trace w.observer.orders xs) handle.0) version serial id c) (sym none) named
        | inr shows ↦ subst (λ (xs : List Seen). IsNamedIn (placed_in (orders_after_all trace w.observer.orders xs) handle.0) version serial id c) (sym shows.seen)
            (put_named version serial id c w.observer.orders handle.0 shows.copy (placed_in w.observer.orders shows.source)
            (λ same. none_some named.p
            (sym (ap (λ (ps : List Placed). element_at ps named.place) (ap (λ (n : ℕ). placed_in w.observer.orders n) same ∙ (unused_is_new config servers clients w r shows.up shows.copy shows.new).empty)) ∙ named.at)) named)
      ]

  server_named : (trace : List Visible) (s : ServerState) (moment : ℕ) (i : NodeInput) (choice : Choice) → AllOf (λ m. Names (orders_after_all trace w.observer.orders (server_step s moment i choice).seen) m.body) (server_step s moment i choice).out.sent
  server_named trace s moment i choice =
      elim (step_caused s moment i choice) [
        | inl none ↦ subst (λ (ms : List Message). AllOf (λ m. Names orders m.body) ms) (sym none) tt
        | inr causes ↦ all_on (server_step s moment i choice).out.sent causes.changes causes.caused
      ]
    where
      orders : Table (List Placed)
      orders = orders_after_all trace w.observer.orders (server_step s moment i choice).seen

      one : (changes : List StoreChange) (b : Body) → IsCaused s.disk changes (server_step s moment i choice).seen b → Names (orders_after_all trace w.observer.orders (server_step s moment i choice).seen) b
      one changes (body.Forward handle version serial id chunk c) cause =
          subst (λ (x : Change). IsNamedIn (placed_in (orders_after_all trace w.observer.orders (server_step s moment i choice).seen) handle.0) version serial id x) cause.3
          (numbered_named trace w.observer.orders (server_step s moment i choice).seen cause.0 handle version serial id cause.1 (server_shown s moment i choice) cause.2)
      one changes other cause = tt

      all_on : (ms : List Message) (changes : List StoreChange) → AllOf (λ m. IsCaused s.disk changes (server_step s moment i choice).seen m.body) ms → AllOf (λ m. Names (orders_after_all trace w.observer.orders (server_step s moment i choice).seen) m.body) ms
      all_on [] changes all = tt
      all_on (m ∷ ms) changes all = (one changes m.body all.0, all_on ms changes all.1)

  clients_silent : (index moment : ℕ) (s : ClientState) (i : NodeInput) (choice : Choice) → element_at w.clients index ≡ Some s → AllOf (λ m. IsNoForward m.body) (client_step s moment i choice).out.sent
  clients_silent index moment s i choice at =
      of_step (λ t ms. AllOf (λ m. IsNoForward m.body) ms) s moment i choice ((numbered_reached config servers clients w r).each index s at).named
      (λ d goes. no_option d.sent (λ m is. said_none (client_at s moment) d.client m.body (goes.says m is).1)) tt tt

  calls_silent : (index moment : ℕ) (s : ClientState) (c : Call) (choice : Choice) → element_at w.clients index ≡ Some s → AllOf (λ m. IsNoForward m.body) (client_call s moment c choice).out.sent
  calls_silent index moment s c choice at =
      of_call (λ t ms. AllOf (λ m. IsNoForward m.body) ms) s moment c choice ((numbered_reached config servers clients w r).each index s at).named
      (λ d goes. no_option d.sent (λ m is. said_none (client_at s moment) d.client m.body (goes.says m is).1)) tt

  each_named : HoldsAfter w (λ e x. AllNamed x.world)
  each_named =
      record {
        nothing = λ e. h;
        masters = λ e moment i choice is up.
            let orders : Table (List Placed) = orders_after_all (observed_moment w.config.skew_ms w.observer moment).trace w.observer.orders (master_step w.master moment i choice).seen in
            sent_named orders (master_step w.master moment i choice).out.sent (names_on w.observer.orders orders (master_orders (observed_moment w.config.skew_ms w.observer moment).trace moment i choice))
            (none_named orders (master_step w.master moment i choice).out.sent
            (master_said (λ m. IsNoForward m.body) (record { plain = λ receiver b is. no_masters b is; locates = λ receiver number l current. tt }) w.master moment i choice));
        opens = λ e moment choice.
            subst (λ (xs : List Seen). (m : Message) → IsSent (w.sent ++ stamped (suc (length w.sent)) (master_restart w.master moment choice).out.sent) m
            → Names (orders_after_all (observed_moment w.config.skew_ms w.observer moment).trace w.observer.orders xs) m.body) (sym (restart_shown w.master moment choice))
            (sent_named w.observer.orders (master_restart w.master moment choice).out.sent (λ b n. n) (restart_silent (λ m. Names w.observer.orders m.body) w.master moment choice));
        serves = λ e index moment s i choice at is up.
            let trace : List Visible = (observed_moment w.config.skew_ms w.observer moment).trace in
            let orders : Table (List Placed) = orders_after_all trace w.observer.orders (server_step s moment i choice).seen in
            sent_named orders (server_step s moment i choice).out.sent
            (names_on w.observer.orders orders (λ handle version serial id c named. all_named version serial id c trace w.observer.orders handle.0 (server_step s moment i choice).seen (server_shown s moment i choice) named))
            (server_named trace s moment i choice);
        restarts = λ e index moment s choice at.
            subst (λ (xs : List Seen). (m : Message) → IsSent (w.sent ++ stamped (suc (length w.sent)) (server_restart s moment choice).out.sent) m
            → Names (orders_after_all (observed_moment w.config.skew_ms w.observer moment).trace w.observer.orders xs) m.body) (sym (restarted_shown s moment choice choice.ending))
            (sent_named w.observer.orders (server_restart s moment choice).out.sent (λ b n. n) (restarted_silent (λ m. Names w.observer.orders m.body) s moment choice choice.ending));
        steps = λ e index moment s i choice at is up.
            subst (λ (orders : Table (List Placed)). (m : Message) → IsSent (w.sent ++ stamped (suc (length w.sent)) (client_step s moment i choice).out.sent) m → Names orders m.body)
            (sym (same_orders _ (suc index) (client_step s moment i choice).out.answer))
            (sent_named w.observer.orders (client_step s moment i choice).out.sent (λ b n. n) (none_named w.observer.orders (client_step s moment i choice).out.sent (clients_silent index moment s i choice at)));
        calls = λ e index moment s c choice at may.
            subst (λ (orders : Table (List Placed)). (m : Message) → IsSent (w.sent ++ stamped (suc (length w.sent)) (client_call s moment c choice).out.sent) m → Names orders m.body)
            (sym (same_orders _ (suc index) (client_call s moment c choice).out.answer))
            (sent_named w.observer.orders (client_call s moment c choice).out.sent (λ b n. n) (none_named w.observer.orders (client_call s moment c choice).out.sent (calls_silent index moment s c choice at)));
        rots = λ e index handle s x place byte ending is_kept at there up. h;
      }

pub forwards_name_entries : ForwardsNameEntries
forwards_name_entries config servers clients w r place m at handle version serial id chunk c is =
    subst (λ (b : Body). Names w.observer.orders b) is (held_reached AllNamed each_named config servers clients (λ x sent. none_sent x sent) w r m (place, at))

-- a step alone

-- a row is of a replica
row_replica : (d : ServerDisk) (handle : ℕ) (row : Row) → row_at d handle ≡ Some row → (r : Replica) × (replica_of d handle ≡ Some r) × (r.version ≡ row.version.0) × (r.serial ≡ row.serial.0) × (r.count ≡ row.count)
row_replica d handle row is = by_replica (replica_of d handle) refl is
  where
    by_replica : (o : Option Replica) → replica_of d handle ≡ o → row_of o ≡ Some row → (r : Replica) × (replica_of d handle ≡ Some r) × (r.version ≡ row.version.0) × (r.serial ≡ row.serial.0) × (r.count ≡ row.count)
    by_replica None at g = none_some row g
    by_replica (Some r) at g =
        let one = same_some _ row g in
        (r, at, ap (λ (x : Row). x.version.0) one, ap (λ (x : Row). x.serial.0) one, ap (λ (x : Row). x.count) one)

written_there : (d : ServerDisk) (handle : Handle) (serial : Serial) (x : StoreChange) (r : Replica) → IsWritten handle serial x → replica_of d handle.0 ≡ Some r
    → (now : Replica) × (replica_of (disk_changed d x) handle.0 ≡ Some now) × (now.version ≡ r.version) × (now.serial ≡ serial.0)
written_there d handle serial (Write h n offset bytes) r is there =
    let new : Replica = written_replica d.block r n.0 offset bytes in (
      new,
      ap (λ (k : Handle). replica_of (disk_changed d (Write k n offset bytes)) handle.0) is.0
          ∙ (ap (λ (o : Option Replica). replica_of (replica_becomes (λ y. written_replica d.block y n.0 offset bytes) d handle.0 o) handle.0) there ∙ put_there d.replicas handle.0 new handle.0 refl),
      refl,
      ap (λ (k : Serial). k.0) is.1,
    )
written_there d handle serial (Zero h n offset count) r is there =
    let new : Replica = written_replica d.block r n.0 offset (replicate count 0) in (
      new,
      ap (λ (k : Handle). replica_of (disk_changed d (Zero k n offset count)) handle.0) is.0
          ∙ (ap (λ (o : Option Replica). replica_of (replica_becomes (λ y. written_replica d.block y n.0 offset (replicate count 0)) d handle.0 o) handle.0) there ∙ put_there d.replicas handle.0 new handle.0 refl),
      refl,
      ap (λ (k : Serial). k.0) is.1,
    )
written_there d handle serial (SetOrder order) r is there = absurd is
written_there d handle serial (Put h version n bytes) r is there = absurd is
written_there d handle serial (Raise h version) r is there = absurd is
written_there d handle serial (Copy h copy version) r is there = absurd is
written_there d handle serial (Remove h) r is there = absurd is
written_there d handle serial (Rot h place byte) r is there = absurd is

-- the cause of a word that was sent
cause_of : (s : ServerState) (moment : ℕ) (i : NodeInput) (choice : Choice) (place : ℕ) (m : Message) → element_at (server_step s moment i choice).out.sent place ≡ Some m
    → (causes : Causes s (server_step s moment i choice)) × IsCaused s.disk causes.changes (server_step s moment i choice).seen m.body
cause_of s moment i choice place m at =
    elim (step_caused s moment i choice) [
      | inl none ↦ none_some m (sym (ap (λ (ms : List Message). element_at ms place) none) ∙ at)
      | inr causes ↦ (causes, all_at (λ (x : Message). IsCaused s.disk causes.changes (server_step s moment i choice).seen x.body) (server_step s moment i choice).out.sent place m causes.caused at)
    ]

pub acked_serials_are_applied : AckedSerialsAreApplied
acked_serials_are_applied s moment i choice place m at handle version serial is =
    let of = cause_of s moment i choice place m at in
    let causes : Causes s (server_step s moment i choice) = of.0 in
    let cause : IsCaused s.disk causes.changes (server_step s moment i choice).seen (body.Acked handle version serial) = subst (λ (b : Body). IsCaused s.disk causes.changes (server_step s moment i choice).seen b) is of.1 in
    let replica = row_replica s.disk handle.0 cause.0 cause.2 in
    let now = written_there s.disk handle serial cause.1 replica.0 cause.5 replica.1 in (
      now.0,
      ap (λ (d : ServerDisk). replica_of d handle.0) (causes.disk ∙ ap (λ (xs : List StoreChange). disk_changed_by_all s.disk xs) cause.4) ∙ now.1,
      now.2 ∙ (replica.2 ∙ cause.3),
      now.3,
    )

pub images_are_of_replicas : ImagesAreOfReplicas
images_are_of_replicas s moment i choice place m at handle version serial bytes is =
    let of = cause_of s moment i choice place m at in
    let causes : Causes s (server_step s moment i choice) = of.0 in
    let cause : IsCaused s.disk causes.changes (server_step s moment i choice).seen (body.Image handle version serial bytes) = subst (λ (b : Body). IsCaused s.disk causes.changes (server_step s moment i choice).seen b) is of.1 in
    let replica = row_replica s.disk handle.0 cause.0 cause.1 in (
      replica.0,
      replica.1,
      replica.2 ∙ ap (λ (v : Version). v.0) cause.2,
      replica.3 ∙ ap (λ (n : Serial). n.0) cause.3,
      ap (λ (n : ℕ). read_at s.disk handle.0 0 n) replica.4 ∙ cause.4,
    )
