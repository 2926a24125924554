-- A Clone that the master orders at a tick names a version that a server holds, that is not attempted, and whose chunk's lease has ended.
use Rattle.std.proofs.Common.{◌≡◌, ◌⊎◌, ℕ, suc, ◌≤◌, Bool, true, false, cond, List, [], ◌∷◌, Option, Some, None, refl, sym, ap, subst, ◌∙◌, inl, inr}
use Rattle.std.specs.Prelude.{◌==◌, ◌&&◌, not, nat_le, nat_lt, filter}
use Rattle.std.specs.FinMap as table
use Rattle.std.proofs.lemmas.Bool.{and_parts, leb-true, true≢false}
use Rattle.gfs_types.specs.declared.ids.Node.{Node}
use Rattle.gfs_types.specs.declared.ids.Node.TheVariants as node
use Rattle.gfs_types.specs.declared.ids.OrderNo.{OrderNo}
use Rattle.messages.specs.declared.event.NodeInput.TheVariants as input
use Rattle.messages.specs.declared.message.NameReply.TheVariants.{Answered}
use Rattle.messages.specs.declared.message.Body.{Body}
use Rattle.messages.specs.declared.message.Body.TheVariants as body
use Rattle.messages.specs.declared.message.Message.{Message}
use Rattle.gfs_types.specs.declared.refusal.Refusal.{Refusal}
use Rattle.gfs_types.specs.declared.refusal.Refusal.TheVariants.{NamesFull}
use Rattle.log_records.specs.declared.record.Record.{Record}
use Rattle.log_records.specs.declared.record.Record.TheVariants as log
use Rattle.relaxed_file.specs.Names.{copied_entries}
use Rattle.leases.specs.LeaseEnds.{has_ended}
use Rattle.chunk_table.specs.ChunkTable.{ChunkRow, chunk_of}
use Rattle.protocol.specs.Tables.{Table, first_of_list}
use Rattle.protocol.specs.Sending.{message, the_server, client_id, server_id, file_id, handle_of, version_of}
use Rattle.protocol.specs.LogSizes.{checkpoint_fits}
use Rattle.protocol.specs.Logged.{Logged, checkpoint_of, after_record}
use Rattle.protocol.specs.Master.{MasterState, MasterDoing, PendingSnapshot, VersionAttempt, HeldAt, master_begins, appends, fits, writes_checkpoint, gives_up_copies, logs}
use Rattle.protocol.specs.Master.{logs_after_checkpoint, is_of_copy, current_holders, present_current_holders, is_present, servers_of, version_held}
use Rattle.protocol.specs.MasterSnapshots.{answers_name, settles_name, refuses_name, first_is_true, all_but_first, lets_go, takes_snapshot, takes_ready, is_ready}
use Rattle.protocol.specs.MasterClones.{CloneOrder, is_attempt_at, is_closed, clone_source, clone_target, clone_by, missing_replicas, clone_of, better_clone, best_clone, orders_clone}
use Rattle.protocol.specs.MasterStep.{is_in_time, gives_up_attempts, lost_copies, gives_up_lost_copies, expires_all, expired_files, expires_old, master_at, master_goes}
use Rattle.laws_base.proofs.Steps.{on_cond, none_some, same_some, removed_cases}
use Rattle.laws_base.proofs.Entries.{AllOf, all_joined, all_filtered, kept_where_cases, same_number}
use Rattle.laws_base.proofs.ChunkRows.{Rows, rows_of, OwnedFrom, removed_owned, all_copied_owned, expired_owned}
use Rattle.laws_base.proofs.MasterActs.{AreAttemptedFrom}
use Rattle.laws_base.proofs.MasterPremises.{IsAnswer, IsOrder, AnyDoing, any_kept, StepEffects, effects_of, NameKeeps, MasterSays, keeps_said}
use Rattle.laws_base.proofs.MasterWalk.{IsHolder, all_hold, ready_here, expires_here, goes_here}
use Rattle.laws_versions.proofs.TrueWords.{all_entries}

-- what the master says
abbrev pub IsMastersMessage : (Body → Type 0) → Message → Type 0
IsMastersMessage S m = (m.sender ≡ node.Master) × S m.body

cond_some : {X : Type 0} (b : Bool) (x : Option X) (y : X) → cond b x None ≡ Some y → (b ≡ true) × (x ≡ Some y)
cond_some true x y is = (refl, is)
cond_some false x y is = none_some y is

-- what a step leaves of rows, attempts and its moment

pub record IsLess (d e : MasterDoing) : Type 0 where
  pub rows : OwnedFrom (rows_of d.master.logged) (rows_of e.master.logged)
  pub attempts : AreAttemptedFrom d.master.attempts e.master.attempts
  pub now : e.master.now ≡ d.master.now

all_rows : (t : Rows) → OwnedFrom t t
all_rows t handle row is = (row, is, refl)

then_rows : (t u v : Rows) → OwnedFrom t u → OwnedFrom u v → OwnedFrom t v
then_rows t u v f g handle row is = let second = g handle row is in let first = f handle second.0 second.1 in (first.0, first.1, first.2 ∙ second.2)

pub same_less : (d : MasterDoing) → IsLess d d
same_less d = record { rows = all_rows (rows_of d.master.logged); attempts = λ handle a is. is; now = refl }

copies_less : (b d : MasterDoing) (handles : List ℕ) → IsLess b d → IsLess b (gives_up_copies d handles)
copies_less b d handles h =
    record {
      rows = then_rows (rows_of b.master.logged) (rows_of d.master.logged) _ h.rows (removed_owned (rows_of d.master.logged) handles);
      attempts = λ handle a is. h.attempts handle a (removed_cases d.master.attempts handles handle a is);
      now = h.now;
    }

checkpoint_less : (b d : MasterDoing) → IsLess b d → IsLess b (writes_checkpoint d)
checkpoint_less b d h =
    let handles : List ℕ = table.keys d.master.logged.copies in
    record {
      rows = then_rows (rows_of b.master.logged) (rows_of d.master.logged) _ h.rows (removed_owned (rows_of d.master.logged) handles);
      attempts = λ handle a is. h.attempts handle a (removed_cases d.master.attempts handles handle a is);
      now = h.now;
    }

-- a record that leaves rows
abbrev IsLeaving : Record → Type 0
IsLeaving r = (l : Logged) → OwnedFrom (rows_of l) (rows_of (after_record l r))

appended_less : (b d : MasterDoing) (r : Record) → IsLeaving r → IsLess b d → IsLess b (appends d r)
appended_less b d r leaves h =
    record { rows = then_rows (rows_of b.master.logged) (rows_of d.master.logged) (rows_of (after_record d.master.logged r)) h.rows (leaves d.master.logged); attempts = h.attempts; now = h.now }

logs_less : (b d : MasterDoing) (r : Record) (then_ : MasterDoing → MasterDoing) → IsLeaving r → ((e : MasterDoing) → IsLess b e → IsLess b (then_ e)) → IsLess b d → IsLess b (logs d r then_)
logs_less b d r then_ leaves go h =
    let was : Bool = is_of_copy d.master.logged r in
    let c : MasterDoing = writes_checkpoint d in
    on_cond (IsLess b) (fits d r) (then_ (appends d r)) _ (λ _. go (appends d r) (appended_less b d r leaves h))
    (λ _. on_cond (IsLess b) (checkpoint_fits d.master.config.log_bytes (checkpoint_of d.master.logged)) (logs_after_checkpoint c r was then_) d
    (λ _. on_cond (IsLess b) (fits c r && not was) (then_ (appends c r)) c (λ _. go (appends c r) (appended_less b c r leaves (checkpoint_less b d h))) (λ _. checkpoint_less b d h)) (λ _. h))

expires_less : (b d : MasterDoing) (files : List ℕ) → IsLess b d → IsLess b (expires_all d files)
expires_less b d [] h = h
expires_less b d (file ∷ rest) h =
    expires_less b (logs d (log.Expired (file_id file)) (λ e. e)) rest (logs_less b d (log.Expired (file_id file)) (λ e. e) (λ l. expired_owned l (file_id file)) (λ e g. g) h)

settles_less : (b d : MasterDoing) (client number : ℕ) (r : Record) (o : Option Refusal) → IsLeaving r → IsLess b d → IsLess b (settles_name d client number r o)
settles_less b d client number r o leaves h = logs_less b d r (λ e. answers_name e client number o) leaves (λ e g. record { rows = g.rows; attempts = g.attempts; now = g.now }) h

snapshot_less : (b d : MasterDoing) (s : PendingSnapshot) → IsLess b d → IsLess b (takes_snapshot d s)
snapshot_less b d s h =
    let gone : MasterDoing = lets_go d s in
    let tried : MasterDoing = record gone { refused = all_but_first gone.refused } in
    let left : IsLess b tried = record { rows = h.rows; attempts = h.attempts; now = h.now } in
    on_cond (IsLess b) (first_is_true gone.refused) (refuses_name tried s.client s.number NamesFull)
    (settles_name tried s.client s.number (log.Snapshot (client_id s.client) s.number s.from s.to) None)
    (λ _. settles_less b tried s.client s.number (log.Refused (client_id s.client) s.number NamesFull) (Some NamesFull) (λ l. all_rows (rows_of l)) left)
    (λ _. settles_less b tried s.client s.number (log.Snapshot (client_id s.client) s.number s.from s.to) None (λ l. all_copied_owned l.table l.next_file (copied_entries l.names s.from s.to)) left)

pub ready_less : (b d : MasterDoing) (ss : List PendingSnapshot) → IsLess b d → IsLess b (takes_ready d ss)
ready_less b d [] h = h
ready_less b d (s ∷ ss) h =
    on_cond (λ (e : MasterDoing). IsLess b (takes_ready e ss)) (is_ready d.master s) (takes_snapshot d s) d (λ _. ready_less b (takes_snapshot d s) ss (snapshot_less b d s h))
    (λ _. ready_less b d ss h)

-- the choice of a clone

-- The master may clone this version now.
pub record IsChosen (m : MasterState) (handle version : ℕ) : Type 0 where
  pub row : ChunkRow
  pub there : chunk_of m.logged.table handle ≡ Some row
  pub ended : row.lease_end ≤ m.now
  pub server : ℕ
  pub held : version_held m handle server ≡ Some version
  pub free : (a : VersionAttempt) → table.get m.attempts handle ≡ Some a → a.version ≡ version → ⊥

all_pass : {X : Type 0} (test : X → Bool) (xs : List X) → AllOf (λ x. test x ≡ true) (filter test xs)
all_pass test [] = tt
all_pass test (x ∷ xs) = on_cond (AllOf (λ y. test y ≡ true)) (test x) (x ∷ filter test xs) (filter test xs) (λ e. (e, all_pass test xs)) (λ _. all_pass test xs)

first_all : {X : Type 0} (P : X → Type 0) (xs : List X) (x : X) → AllOf P xs → first_of_list xs ≡ Some x → P x
first_all P [] x all is = none_some x is
first_all P (y ∷ xs) x all is = subst P (same_some y x is) all.0

source_held : (m : MasterState) (handle : ℕ) (row : ChunkRow) (h : HeldAt) → clone_source m handle row ≡ Some h → (version_held m handle h.server ≡ Some h.version) × (is_closed m handle h ≡ true)
source_held m handle row h is =
    let test : ℕ → Bool = λ v. nat_le row.granted v in
    let current : List HeldAt = current_holders m handle row in
    let present : List HeldAt = present_current_holders m handle row in
    let held : AllOf (IsHolder m handle test) current = all_hold m handle test (servers_of m) in (
      (first_all (IsHolder m handle test) (filter (is_closed m handle) present) h
          (all_filtered (IsHolder m handle test) (is_closed m handle) present (all_filtered (IsHolder m handle test) (λ x. is_present m x.server) current held)) is).0,
      first_all (λ x. is_closed m handle x ≡ true) (filter (is_closed m handle) present) h (all_pass (is_closed m handle) present) is,
    )

not_attempted : (version : ℕ) (o : Option VersionAttempt) → not (is_attempt_at version o) ≡ true → (a : VersionAttempt) → o ≡ Some a → a.version ≡ version → ⊥
not_attempted version o free a is same =
    let found : is_attempt_at version o ≡ true = ap (is_attempt_at version) is ∙ ap (λ (n : ℕ). n == version) same ∙ same_number version in
    true≢false (sym free ∙ ap not found)

made_by : (handle missing : ℕ) (s : Option HeldAt) (t : Option ℕ) (o : CloneOrder) → clone_by handle missing s t ≡ Some o → (h : HeldAt) × (s ≡ Some h) × (o.handle ≡ handle) × (o.version ≡ h.version)
made_by handle missing None t o is = none_some o is
made_by handle missing (Some h) None o is = none_some o is
made_by handle missing (Some h) (Some target) o is =
    let same = same_some (record { handle = handle; version = h.version; source = h.server; target = target; missing = missing }) o is in
    (h, refl, ap (λ (x : CloneOrder). x.handle) (sym same), ap (λ (x : CloneOrder). x.version) (sym same))

one_chosen : (m : MasterState) (handle : ℕ) (row : ChunkRow) → chunk_of m.logged.table handle ≡ Some row → (o : CloneOrder) → clone_of m handle row ≡ Some o → IsChosen m o.handle o.version
one_chosen m handle row there o is =
    let granted : Bool = nat_lt 0 row.granted in
    let ended : Bool = has_ended row m.now in
    let lacks : Bool = nat_lt 0 (missing_replicas m handle row) in
    let when_ = cond_some (granted && ended && lacks) (clone_by handle (missing_replicas m handle row) (clone_source m handle row) (clone_target m handle)) o is in
    let made = made_by handle (missing_replicas m handle row) (clone_source m handle row) (clone_target m handle) o when_.1 in
    let source : HeldAt = made.0 in
    let held = source_held m handle row source made.1 in
    subst (λ (k : ℕ). IsChosen m k o.version) (sym made.2)
    (subst (λ (v : ℕ). IsChosen m handle v) (sym made.3)
    (record {
      row = row;
      there = there;
      ended = leb-true row.lease_end m.now (and_parts granted ended (and_parts (granted && ended) lacks when_.0).0).1;
      server = source.server;
      held = held.0;
      free = λ a at same. not_attempted source.version (table.get m.attempts handle) held.1 a at same;
    }))

better_cases : (a b : Option CloneOrder) (o : CloneOrder) → better_clone a b ≡ Some o → (a ≡ Some o) ⊎ (b ≡ Some o)
better_cases None b o is = inr is
better_cases (Some first) None o is = inl is
better_cases (Some first) (Some other) o is = by_test (nat_lt first.missing other.missing) is
  where
    by_test : (b : Bool) → cond b (Some other) (Some first) ≡ Some o → (Some first ≡ Some o) ⊎ (Some other ≡ Some o)
    by_test true now = inr now
    by_test false now = inl now

best_chosen : (m : MasterState) (es : List (ℕ × ChunkRow)) → AllOf (λ e. chunk_of m.logged.table e.0 ≡ Some e.1) es → (o : CloneOrder) → best_clone m es ≡ Some o → IsChosen m o.handle o.version
best_chosen m [] all o is = none_some o is
best_chosen m (e ∷ es) all o is =
    elim (better_cases (clone_of m e.0 e.1) (best_clone m es) o is) [
      | inl first ↦ one_chosen m e.0 e.1 all.0 o first
      | inr later ↦ best_chosen m es all.1 o later
    ]

-- the words of a tick: one clone at most, and answers of snapshots

abbrev pub IsTickWord : (ℕ → ℕ → Type 0) → Body → Type 0
IsTickWord C (body.Named number reply) = Unit {0}
IsTickWord C (body.Clone order handle version source) = C handle.0 version.0
IsTickWord C other = ⊥

-- these are known of servers, and the words so far are such
abbrev AreTickWords : Table (Table ℕ) → (ℕ → ℕ → Type 0) → StepEffects → Type 0
AreTickWords holders C g = (g.holders ≡ holders) × AllOf (IsMastersMessage (IsTickWord C)) g.sent

abbrev Any : Record → Type 0
Any r = Unit {0}

names_said : (holders : Table (Table ℕ)) (C : ℕ → ℕ → Type 0) → NameKeeps Any (AreTickWords holders C)
names_said holders C =
    record {
      named = λ g receiver number reply h. (h.0, all_joined (IsMastersMessage (IsTickWord C)) g.sent (message node.Master receiver (body.Named number (Answered reply)) ∷ []) h.1 ((refl, tt), tt));
      recorded = λ g r is h. h;
      checkpointed = λ g items h. h;
    }

clone_said : (C : ℕ → ℕ → Type 0) (d : MasterDoing) (o : Option CloneOrder) → ((c : CloneOrder) → o ≡ Some c → C c.handle c.version) → AllOf (IsMastersMessage (IsTickWord C)) d.sent
    → AllOf (IsMastersMessage (IsTickWord C)) (orders_clone d o).sent
clone_said C d None chosen h = h
clone_said C d (Some c) chosen h =
    let order : OrderNo = record { epoch = d.master.logged.epoch; count = suc d.master.order_count } in
    let x : Message = message node.Master (the_server c.target) (body.Clone order (handle_of c.handle) (version_of c.version) (server_id c.source)) in
    all_joined (IsMastersMessage (IsTickWord C)) d.sent (x ∷ []) h ((refl, chosen c refl), tt)

clone_holders : (d : MasterDoing) (o : Option CloneOrder) → (orders_clone d o).master.holders ≡ d.master.holders
clone_holders d None = refl
clone_holders d (Some c) = refl

clone_less : (b d : MasterDoing) (o : Option CloneOrder) → IsLess b d → IsLess b (orders_clone d o)
clone_less b d None h = h
clone_less b d (Some c) h = record { rows = h.rows; attempts = h.attempts; now = h.now }

-- a tick: how the master stood as it chose, and what it said
pub record IsTick (m : MasterState) (moment : ℕ) (e : MasterDoing) : Type 0 where
  pub at : MasterDoing
  pub before : IsLess (master_begins (master_at m moment) []) at
  pub holders : at.master.holders ≡ m.holders
  pub after : AreAttemptedFrom at.master.attempts e.master.attempts
  pub words : AllOf (IsMastersMessage (IsTickWord (IsChosen at.master))) e.sent

pub tick_says : (m : MasterState) (moment : ℕ) (refused : List Bool) → IsTick m moment (master_goes m moment input.Tick refused)
tick_says m moment refused =
    let start : MasterDoing = master_begins (master_at m moment) [] in
    let d : MasterDoing = master_begins (master_at m moment) refused in
    let a : MasterDoing = gives_up_attempts d in
    let b : MasterDoing = gives_up_lost_copies a in
    let c : MasterDoing = expires_old b in
    let o : Option CloneOrder = best_clone c.master (table.entries c.master.logged.table.chunks) in
    let e : MasterDoing = orders_clone c o in
    let C : ℕ → ℕ → Type 0 = IsChosen c.master in
    let left : IsLess start a = record { rows = all_rows (rows_of m.logged); attempts = λ handle x is. kept_where_cases (is_in_time d.master) m.attempts handle x is; now = refl } in
    let names : NameKeeps Any (AreTickWords m.holders C) = names_said m.holders C in
    let now : AreTickWords m.holders C (effects_of c) = expires_here Any (λ r is. tt) (AreTickWords m.holders C) names (λ file. tt) b (expired_files b.master) (refl, tt) in
    let rows : AllOf (λ (x : ℕ × ChunkRow). chunk_of c.master.logged.table x.0 ≡ Some x.1) (table.entries c.master.logged.table.chunks) =
    all_entries (λ k x. chunk_of c.master.logged.table k ≡ Some x) c.master.logged.table.chunks (λ k x is. is) in
    let later : IsLess c (takes_ready e e.master.snapshots) = ready_less c e e.master.snapshots (clone_less c c o (same_less c)) in
    record {
      at = c;
      before = expires_less start b (expired_files b.master) (copies_less start a (lost_copies a.master) left);
      holders = now.0;
      after = later.attempts;
      words = (ready_here Any (λ r is. tt) (AreTickWords m.holders C) names e e.master.snapshots
          (clone_holders c o ∙ now.0, clone_said C c o (λ x is. best_chosen c.master (table.entries c.master.logged.table.chunks) rows x is) now.1)).1;
    }

-- at no delivery a clone is ordered

abbrev pub IsNoClone : Body → Type 0
IsNoClone (body.Clone order handle version source) = ⊥
IsNoClone other = Unit {0}

module _ (l : Logged) (x : Message) where
  no_answer : (receiver : Node) (b : Body) → IsAnswer l (input.Deliver x) AnyDoing receiver b → IsNoClone b
  no_answer receiver (body.Clone order handle version source) is = is
  no_answer receiver other is = tt

  no_order : (server : ℕ) (b : Body) → IsOrder (input.Deliver x) AnyDoing server b → IsNoClone b
  no_order server (body.Clone order handle version source) is = is
  no_order server other is = tt

  says : MasterSays l (input.Deliver x) AnyDoing (IsMastersMessage IsNoClone)
  says =
      record {
        answered = λ receiver b is. (refl, no_answer receiver b is);
        ordered = λ server b is. (refl, no_order server b is);
        extended = λ server line until is. (refl, tt);
        dropped = λ server order line is useless. (refl, tt);
      }

pub delivery_says : (m : MasterState) (moment : ℕ) (x : Message) (refused : List Bool) → AllOf (IsMastersMessage IsNoClone) (master_goes m moment (input.Deliver x) refused).sent
delivery_says m moment x refused =
    let W : Message → Type 0 = IsMastersMessage IsNoClone in
    goes_here m.logged (input.Deliver x) AnyDoing (λ g. AllOf W g.sent) (keeps_said m.logged (input.Deliver x) AnyDoing W (says m.logged x)) any_kept
    (master_begins (master_at m moment) refused) refl tt tt
