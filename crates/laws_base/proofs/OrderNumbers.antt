-- No two orders of the master have one number.
use Rattle.std.proofs.Common.{◌≡◌, ◌⊎◌, ℕ, zero, suc, ◌≤◌, ◌<◌, Bool, true, false, List, [], ◌∷◌, ◌++◌, map, take, drop, Option, Some, None, refl, sym, ap, subst, ◌∙◌, inl, inr, arith}
use Rattle.std.specs.Prelude.{nat_lt, ◌==◌, ◌&&◌, filter}
use Rattle.std.specs.FinMap as table
use Rattle.std.proofs.lemmas.Bool.{eqb-true, cases_lt}
use Rattle.gfs_types.specs.declared.ids.Node.{Node}
use Rattle.gfs_types.specs.declared.ids.Node.TheVariants as node
use Rattle.gfs_types.specs.declared.ids.OrderNo.{OrderNo}
use Rattle.messages.specs.declared.message.Body.{Body}
use Rattle.messages.specs.declared.message.Body.TheVariants as body
use Rattle.messages.specs.declared.message.Message.{Message}
use Rattle.log_records.specs.declared.record.Record.{Record}
use Rattle.log_records.specs.declared.record.Record.TheVariants as log
use Rattle.gfs_types.specs.Paths.{Path}
use Rattle.relaxed_file.specs.Names.{Node as NameNode, Dir, File}
use Rattle.protocol.specs.Choice.{decided_changes}
use Rattle.protocol.specs.Sending.{message, the_server, file_id, handle_of, version_of, moment_of, order_number}
use Rattle.chunk_table.specs.ChunkTable.{ChunkRow, ChunkTable}
use Rattle.protocol.specs.Logged.{Logged, KeptCall, Copy, copies_given_up, LogDisk, LogChange, AppendRecord, WriteCheckpoint, first_logged, log_changed, log_changed_by_all, after_record, after_records, checkpoint_of, name_item, node_item, chunk_item, client_item, swapped_in}
use Rattle.laws_base.specs.Laws.{is_number, orders_under}
use Rattle.laws_base.proofs.Steps.{tally, count-append}
use Rattle.laws_base.proofs.MasterMoves.{Core, IsDue, Nothing, NoneEnded, Keeps, core_changed, core_appended, core_ended, grant_record, granted_order}
use Rattle.laws_base.proofs.ClientMoves.{one_more}
use Rattle.laws_base.proofs.Words.{no_order}
use Rattle.laws_base.proofs.LeaseOrders.{revoke_order}

-- the state that a log leads to, before copies are given up
abbrev pub state_of : LogDisk → Logged
state_of d = after_records (after_records first_logged d.items) d.records

abbrev pub epoch_of : LogDisk → ℕ
epoch_of d = (state_of d).epoch

pub after-append : (l : Logged) (xs ys : List Record) → after_records l (xs ++ ys) ≡ after_records (after_records l xs) ys
after-append l [] ys = refl
after-append l (x ∷ xs) ys = after-append (after_record l x) xs ys

pub state-appended : (d : LogDisk) (r : Record) → state_of (log_changed d (AppendRecord r)) ≡ after_record (state_of d) r
state-appended d r = after-append (after_records first_logged d.items) d.records (r ∷ [])

swapped_epoch : (l : Logged) (handle : ℕ) (o : Option Copy) → (swapped_in l handle o).epoch ≡ l.epoch
swapped_epoch l handle None = refl
swapped_epoch l handle (Some c) = refl

-- a record that begins no epoch and is no item
abbrev IsPlain : Record → Type 0
IsPlain (log.Epoch epoch) = ⊥
IsPlain (log.Counters next_file next_handle epoch) = ⊥
IsPlain other = Unit {0}

plain_epoch : (l : Logged) (r : Record) → IsPlain r → (after_record l r).epoch ≡ l.epoch
plain_epoch l (log.Epoch epoch) is = absurd is
plain_epoch l (log.Counters next_file next_handle epoch) is = absurd is
plain_epoch l (log.Grant handle version primary members) is = swapped_epoch _ handle.0 (table.get l.copies handle.0)
plain_epoch l other is = refl

due_plain : (l : Logged) (r : Record) → IsDue ⊥ l r → IsPlain r
due_plain l (log.Epoch epoch) due = due
due_plain l (log.Counters next_file next_handle epoch) due = due
due_plain l other due = tt

-- a checkpoint has the epoch of its state
names_epoch : (t : ChunkTable) (es : List (Path × NameNode)) (l : Logged) → (after_records l (map (name_item t) es)).epoch ≡ l.epoch
names_epoch t [] l = refl
names_epoch t (e ∷ es) l = names_epoch t es (after_record l (name_item t e)) ∙ one e.1
  where
    one : (n : NameNode) → (after_record l (node_item t e.0 n)).epoch ≡ l.epoch
    one Dir = refl
    one (File id) = refl

chunks_epoch : (es : List (ℕ × ChunkRow)) (l : Logged) → (after_records l (map chunk_item es)).epoch ≡ l.epoch
chunks_epoch [] l = refl
chunks_epoch (e ∷ es) l = chunks_epoch es (after_record l (chunk_item e))

clients_epoch : (es : List (ℕ × KeptCall)) (l : Logged) → (after_records l (map client_item es)).epoch ≡ l.epoch
clients_epoch [] l = refl
clients_epoch (e ∷ es) l = clients_epoch es (after_record l (client_item e))

epoch_joined : (l : Logged) (xs ys : List Record) → (after_records l (xs ++ ys)).epoch ≡ (after_records (after_records l xs) ys).epoch
epoch_joined l xs ys = ap (λ (j : Logged). j.epoch) (after-append l xs ys)

pub checkpoint_epoch : (l k : Logged) → (after_records k (checkpoint_of l)).epoch ≡ l.epoch
checkpoint_epoch l k =
    let first : Logged = after_record k (log.Counters (file_id l.next_file) (handle_of l.next_handle) l.epoch) in
    let names : List Record = map (name_item l.table) (table.entries l.names) in
    let rows : List (ℕ × ChunkRow) = filter (λ e. nat_lt 0 e.1.references) (table.entries l.table.chunks) in
    let clients : List (ℕ × KeptCall) = table.entries l.kept in
    epoch_joined first (names ++ map chunk_item rows) (map client_item clients)
    ∙ clients_epoch clients (after_records first (names ++ map chunk_item rows))
    ∙ epoch_joined first names (map chunk_item rows)
    ∙ chunks_epoch rows (after_records first names)
    ∙ names_epoch l.table (table.entries l.names) first

-- each disk that a stop in the step could leave
abbrev pub AllStops : (LogDisk → Type 0) → LogDisk → List LogChange → Type 0
AllStops P d [] = P d
AllStops P d (x ∷ xs) = P d × AllStops P (log_changed d x) xs

pub stops_push : (P : LogDisk → Type 0) (d : LogDisk) (xs : List LogChange) (x : LogChange) → AllStops P d xs → P (log_changed (log_changed_by_all d xs) x) → AllStops P d (xs ++ x ∷ [])
stops_push P d [] x h last = (h, last)
stops_push P d (y ∷ ys) x h last = (h.0, stops_push P (log_changed d y) ys x h.1 last)

pub changed-push : (d : LogDisk) (xs : List LogChange) (x : LogChange) → log_changed_by_all d (xs ++ x ∷ []) ≡ log_changed (log_changed_by_all d xs) x
changed-push d [] x = refl
changed-push d (y ∷ ys) x = changed-push (log_changed d y) ys x

-- the disk on which a stop left nothing under way, and each way to decide what was under way
abbrev pub AllFound : (LogDisk → Type 0) → LogDisk → List LogChange → Type 0
AllFound P d under_way = (decided : List Bool) → P (log_changed_by_all d (decided_changes decided under_way))

first_stop : (P : LogDisk → Type 0) (d : LogDisk) (xs : List LogChange) → AllStops P d xs → P d
first_stop P d [] h = h
first_stop P d (x ∷ xs) h = h.0

none_decided : (decided : List Bool) → decided_changes {C = LogChange} decided [] ≡ []
none_decided [] = refl
none_decided (b ∷ rest) = refl

pub found_same : (P : LogDisk → Type 0) (d : LogDisk) → P d → AllFound P d []
found_same P d h decided = subst (λ (xs : List LogChange). P (log_changed_by_all d xs)) (sym (none_decided decided)) h

pub found_stopped : (P : LogDisk → Type 0) (d : LogDisk) (xs : List LogChange) (made : ℕ) → AllStops P d xs → AllFound P (log_changed_by_all d (take made xs)) (take 1 (drop made xs))
found_stopped P d [] zero h = found_same P d h
found_stopped P d [] (suc made) h = found_same P d h
found_stopped P d (x ∷ xs) zero h = one
  where
    one : AllFound P d (x ∷ [])
    one [] = h.0
    one (true ∷ rest) = subst (λ (ys : List LogChange). P (log_changed_by_all (log_changed d x) ys)) (sym (none_decided rest)) (first_stop P (log_changed d x) xs h.1)
    one (false ∷ rest) = subst (λ (ys : List LogChange). P (log_changed_by_all d ys)) (sym (none_decided rest)) h.0
found_stopped P d (x ∷ xs) (suc made) h = found_stopped P (log_changed d x) xs made h.1

-- a step of a master in an epoch, after so many orders
pub record Numbers (start : LogDisk) (epoch before : ℕ) (c : Core) : Type 0 where
  pub up : c.up ≡ true
  pub none : c.under_way ≡ []
  pub logged : c.logged.epoch ≡ epoch
  pub disk : log_changed_by_all start c.changes ≡ c.disk
  pub on_disk : epoch_of c.disk ≡ epoch
  pub stops : AllStops (λ d. epoch_of d ≡ epoch) start c.changes
  pub rising : before ≤ c.order_count
  pub once : (e n : ℕ) → orders_under e n c.sent ≤ 1
  pub used : (e n : ℕ) → 1 ≤ orders_under e n c.sent → (e ≡ epoch) × (before < n) × (n ≤ c.order_count)

new_number : (e n epoch count : ℕ) (o : Option OrderNo) → o ≡ Some (record { epoch = epoch; count = count })
    → ((e ≡ epoch) × (n ≡ count) × (tally (is_number e n o) ≡ 1)) ⊎ (tally (is_number e n o) ≡ 0)
new_number e n epoch count None is = absurd (cc)
new_number e n epoch count (Some order) is = split (order.epoch == e) (order.count == n) refl refl
  where
    same : order ≡ record { epoch = epoch; count = count }
    same = cc

    split : (a b : Bool) → (order.epoch == e) ≡ a → (order.count == n) ≡ b
        → ((e ≡ epoch) × (n ≡ count) × (tally (a && b) ≡ 1)) ⊎ (tally (a && b) ≡ 0)
    split true true p q =
        let first : order.epoch ≡ epoch = ap (λ (x : OrderNo). x.epoch) same in
        let second : order.count ≡ count = ap (λ (x : OrderNo). x.count) same in
        inl (sym (eqb-true order.epoch e p) ∙ first, sym (eqb-true order.count n q) ∙ second, refl)
    split true false p q = inr refl
    split false b p q = inr refl

none_of : {start : LogDisk} {epoch before : ℕ} (c : Core) → Numbers start epoch before c → (e n : ℕ) → n ≡ suc c.order_count → orders_under e n c.sent ≡ 0
none_of c h e n is =
    elim (cases_lt (orders_under e n c.sent) 1) [
      | inl less ↦ omega arith
      | inr more ↦ absurd (let was = h.used e n more in let bound = was.2 in omega arith)
    ]

pub numbers_keep : (start : LogDisk) (epoch before : ℕ) → Keeps ⊥ Nothing NoneEnded (Numbers start epoch before)
numbers_keep start epoch before =
    record {
      tells = λ c receiver b quiet h. told c receiver b (no_order b quiet) h;
      orders = λ c server b is plain h. ordered c server b is h;
      revokes = λ c handle row is h. ordered c row.primary (revoke_order handle row) (λ o. refl) h;
      grants = λ c handle version until primary members told due names from idle h.
          let r : Record = grant_record handle version primary members in
          ordered (core_ended (core_appended c r) handle until) primary (granted_order c handle version until primary members) (λ o. refl) (ended (core_appended c r) handle until (appended c r due h));
      appends = λ c r due plain names h. appended c r due h;
      checkpoint = λ c tree h. checkpointed c h;
      sound = λ asks. absurd asks;
      less = λ c handles copied h.
          record { up = h.up; none = h.none; logged = h.logged; disk = h.disk; on_disk = h.on_disk; stops = h.stops; rising = h.rising; once = h.once; used = h.used };
      ends = λ c handle row is word h. ended c handle 0 h;
      extends = λ c handle until row is lasts later from h.
          told (core_ended c handle until) (the_server row.primary) (body.Extend (handle_of handle) (version_of row.granted) (moment_of until)) refl (ended c handle until h);
    }
  where
    told : (c : Core) (receiver : Node) (b : Body) → order_number b ≡ None → Numbers start epoch before c → Numbers start epoch before (record c { sent = c.sent ++ message node.Master receiver b ∷ [] })
    told c receiver b none h =
        record {
          up = h.up;
          none = h.none;
          logged = h.logged;
          disk = h.disk;
          on_disk = h.on_disk;
          stops = h.stops;
          rising = h.rising;
          once = λ e n. let same = one_more c.sent node.Master receiver b none e n in let old = h.once e n in omega arith;
          used = λ e n more. let same = one_more c.sent node.Master receiver b none e n in h.used e n (omega arith);
        }

    changed : (c : Core) (x : LogChange) (l : Logged) → l.epoch ≡ epoch → epoch_of (log_changed c.disk x) ≡ epoch → Numbers start epoch before c
        → Numbers start epoch before (record (core_changed c x) { logged = l })
    changed c x l same there h =
        record {
          up = h.up;
          none = h.none;
          logged = same;
          rising = h.rising;
          once = h.once;
          used = h.used;
          disk = changed-push start c.changes x ∙ ap (λ (d : LogDisk). log_changed d x) h.disk;
          on_disk = there;
          stops = stops_push (λ d. epoch_of d ≡ epoch) start c.changes x h.stops (subst (λ (d : LogDisk). epoch_of (log_changed d x) ≡ epoch) (sym h.disk) there);
        }

    appended : (c : Core) (r : Record) → IsDue ⊥ c.logged r → Numbers start epoch before c
        → Numbers start epoch before (record (core_changed c (AppendRecord r)) { logged = after_record c.logged r })
    appended c r due h =
        let plain = due_plain c.logged r due in
        changed c (AppendRecord r) (after_record c.logged r) (plain_epoch c.logged r plain ∙ h.logged)
        (ap (λ (l : Logged). l.epoch) (state-appended c.disk r) ∙ plain_epoch (state_of c.disk) r plain ∙ h.on_disk) h

    checkpointed : (c : Core) → Numbers start epoch before c
        → Numbers start epoch before (record (core_changed c (WriteCheckpoint (checkpoint_of c.logged))) { logged = copies_given_up c.logged (table.keys c.logged.copies) })
    checkpointed c h =
        changed c (WriteCheckpoint (checkpoint_of c.logged)) (copies_given_up c.logged (table.keys c.logged.copies)) h.logged (checkpoint_epoch c.logged first_logged ∙ h.logged) h

    ended : (c : Core) (handle moment : ℕ) → Numbers start epoch before c → Numbers start epoch before (core_ended c handle moment)
    ended c handle moment h =
        record { up = h.up; none = h.none; logged = h.logged; disk = h.disk; on_disk = h.on_disk; stops = h.stops; rising = h.rising; once = h.once; used = h.used }

    ordered : (c : Core) (server : ℕ) (b : OrderNo → Body) → ((o : OrderNo) → order_number (b o) ≡ Some o) → Numbers start epoch before c
        → Numbers start epoch before (record c { sent = c.sent ++ message node.Master (the_server server) (b (record { epoch = c.logged.epoch; count = suc c.order_count })) ∷ []; order_count = suc c.order_count })
    ordered c server b is h =
        let order : OrderNo = record { epoch = c.logged.epoch; count = suc c.order_count } in
        let m : Message = message node.Master (the_server server) (b order) in
        record {
          up = h.up;
          none = h.none;
          logged = h.logged;
          disk = h.disk;
          on_disk = h.on_disk;
          stops = h.stops;
          rising = let r = h.rising in omega arith;
          once = λ e n.
              let whole = count-append (λ (x : Message). is_number e n (order_number x.body)) c.sent (m ∷ []) in
              let old = h.once e n in
              elim (new_number e n c.logged.epoch (suc c.order_count) (order_number (b order)) (is order)) [
                | inl now ↦ let zero_before = none_of c h e n now.1 in let one = now.2 in omega (arith, whole, one, zero_before)
                | inr other ↦ omega (arith, whole, other, old)
              ];
          used = λ e n more.
              let whole = count-append (λ (x : Message). is_number e n (order_number x.body)) c.sent (m ∷ []) in
              let r = h.rising in
              elim (new_number e n c.logged.epoch (suc c.order_count) (order_number (b order)) (is order)) [
                | inl now ↦ (now.0 ∙ h.logged, let is_next = now.1 in omega arith, let is_next = now.1 in omega arith)
                | inr other ↦
                    let there : 1 ≤ orders_under e n c.sent = omega (arith, whole, other, more) in
                    let was = h.used e n there in
                    (was.0, was.1, let bound = was.2 in omega arith)
              ];
        }
