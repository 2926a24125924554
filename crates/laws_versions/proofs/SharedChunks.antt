-- In each reached world whose clocks were kept, a chunk with several owners has no version attempt, and the lease of its granted version is over.
use Rattle.std.proofs.Common.{◌≡◌, ℕ, suc, ◌+◌, ◌≤◌, true, false, List, [], ◌∷◌, ◌++◌, take, drop, Option, Some, None, refl, sym, ap, subst, ◌∙◌, inl, inr, arith}
use Rattle.std.specs.Prelude.{nat_le, ◌&&◌, IsTrue}
use Rattle.std.specs.Ordering.{nat_cmp}
use Rattle.std.specs.FinMap as table
use Rattle.std.proofs.lemmas.Bool.{and_parts}
use Rattle.std.proofs.Math.Nat.{max-le}
use Rattle.gfs_types.specs.declared.config.Config.{Config}
use Rattle.gfs_types.specs.declared.ids.Node.TheVariants as node
use Rattle.messages.specs.declared.event.NodeInput.{NodeInput}
use Rattle.messages.specs.declared.event.NodeInput.TheVariants as input
use Rattle.messages.specs.declared.message.Body.{Body}
use Rattle.messages.specs.declared.message.Body.TheVariants as body
use Rattle.messages.specs.declared.message.Message.{Message}
use Rattle.log_records.specs.declared.record.Record.TheVariants as log
use Rattle.chunk_table.specs.ChunkTable.{ChunkRow}
use Rattle.protocol.specs.Choice.{Choice, Ending, Goes, Lost, Stops, in_order}
use Rattle.protocol.specs.Seen.{Taken, no_step}
use Rattle.protocol.specs.Sending.{order_number}
use Rattle.protocol.specs.Logged.{Logged, LogDisk, LogChange, first_logged, log_changed_by_all, replayed}
use Rattle.protocol.specs.Master.{MasterState, MasterDoing, VersionAttempt, stopped_master, master_begins, writes_checkpoint}
use Rattle.protocol.specs.MasterStep.{master_at, master_goes, master_ends, master_bounded, master_step, is_within_limits, may_end, found_log, row_after_restart, started_master, opening, has_opened, opens_as, new_master, first_log}
use Rattle.protocol.specs.Observer.{new_observer}
use Rattle.protocol.specs.ServerStep.{server_step, server_restart}
use Rattle.protocol.specs.World.{WorldState, new_world, stamped}
use Rattle.laws_base.proofs.GrantsOnce.{no_order_grants}
use Rattle.laws_base.specs.Laws.{is_grant, grants_of, tells_end}
use Rattle.laws_base.proofs.Steps.{on_cond, none_some, tally, count-cons, same_or_not, removed_cases}
use Rattle.laws_base.proofs.Entries.{AllOf, mapped_cases}
use Rattle.laws_base.proofs.ChunkRows.{rows_of}
use Rattle.laws_base.proofs.Owners.{references_of, AreCounted}
use Rattle.laws_base.proofs.MasterMoves.{Core, core_of, logs_alone}
use Rattle.laws_base.proofs.ClientMoves.{HasNoOrder, quiet_orders}
use Rattle.laws_base.proofs.SentReached.{without_order, count-sent, server_quiet, server_restarts_quiet}
use Rattle.laws_base.proofs.MessagesSent.{IsSent, sent_before, step_sent}
use Rattle.laws_base.proofs.OrderNumbers.{state_of, AllStops, AllFound, found_same, found_stopped}
use Rattle.laws_base.proofs.NamesReached.{IsGood, IsUpToLog, IsLogged, opening_first, opening_naming}
use Rattle.laws_base.proofs.RowsLogged.{IsFoundRows, IsRowedLog}
use Rattle.laws_base.proofs.RowsKept.{rows_kept}
use Rattle.laws_base.proofs.RevokesNumbered.{AreAmong, none_more}
use Rattle.laws_base.proofs.LeaseEnds.{IsEndTold, IsVersionGranted, WasSaidOver, IsPast, HasEnd, HasVersion, AreEnds, ends_among, IsTelling}
use Rattle.laws_base.proofs.LeasesTimed.{telling_keeps, AreTimely}
use Rattle.laws_base.proofs.LeasesTimely.{IsOfTimes, times_kept}
use Rattle.laws_base.proofs.ServerSettings.{AreSet, settings_kept}
use Rattle.laws_base.proofs.ScenesReached.{Scene, scene_of, passed, IsNow, more_sent, IsSentTo, after_master_step, IsKeptByScenes, lifted, scene_reached}
use Rattle.laws_base.specs.Versions.{IsLeaseOver}
use Rattle.laws_base.proofs.EndedLeases.{past_is_over, ended_leases_are_over, leases_in_the_log_are_over}
use Rattle.laws_base.proofs.LeasesStayOver.{AreOverAt, StayOver, over_sent, stays_over, over_to, over_of}
use Rattle.laws_base.proofs.MasterActs.{IsRowing, rowing_keeps}
use Rattle.laws_base.proofs.WaitsKept.{IsOfWaits, waits_kept}
use Rattle.laws_base.proofs.ActsOfSteps.{IsWordSaid, IsInputSaid, goes_acts}
use Rattle.laws_versions.specs.SharedChunks.{SharedChunksHaveNoLease, SharedChunksInTheLogHaveNoLease}
use Rattle.laws_versions.proofs.SharedSteps.{IsShared, IsStateDone, IsLogDone, log_done, Stepping, IsDone, IsSharing, state_done, checkpoint_done, epoch_done, sharing_acts}

-- the lease of a version is over at each server of a scene
abbrev pub IsOverIn : Scene → ℕ → ℕ → Type 0
IsOverIn x handle version = AreOverAt handle version 0 x.sent x.greatest x.servers

-- a world with this scene
abbrev pub world_of : Scene → WorldState
world_of x = record { config = x.config; master = x.master; servers = x.servers; clients = []; sent = x.sent; observer = record (new_observer table.empty) { greatest = x.greatest; are_clocks_kept = x.are_clocks_kept } }

-- where each end that was told is past, the lease is over
abbrev pub ArePastIn : Scene → ℕ → ℕ → Type 0
ArePastIn x handle version = (until : ℕ) → IsEndTold x.sent handle version until → IsPast x.greatest x.sent handle version until

pub settled : (x : Scene) → IsOfTimes x → (handle version : ℕ) → ArePastIn x handle version → IsOverIn x handle version
settled x h handle version past = over_to (world_of x) handle version (past_is_over (world_of x) h handle version past)

-- at a master that is up, no version of a shared chunk is attempted
abbrev AreUntried : MasterState → Type 0
AreUntried m = (handle : ℕ) (row : ChunkRow) → table.get (rows_of m.logged) handle ≡ Some row → IsShared m.logged handle → (a : VersionAttempt) → table.get m.attempts handle ≡ Some a → ⊥

-- In each log that may be found, and at a master that is up, the lease of the granted version of each shared chunk is over, and none of it is attempted.
record AreShares (Over : ℕ → ℕ → Type 0) (m : MasterState) : Type 0 where
  found : AllFound (IsLogDone Over) m.disk m.under_way
  up : IsTrue m.up → IsStateDone Over m.logged × AreUntried m

shares_stay : (Over More : ℕ → ℕ → Type 0) (m : MasterState) → ((handle version : ℕ) → Over handle version → More handle version) → AreShares Over m → AreShares More m
shares_stay Over More m stays h =
    record {
      found = λ decided handle row there shared. stays handle row.granted (h.found decided handle row there shared);
      up = λ up. (λ handle row there shared. stays handle row.granted ((h.up up).0 handle row there shared), (h.up up).1);
    }

-- a master that is put down
down_shares : (Over More : ℕ → ℕ → Type 0) (m : MasterState) (disk : LogDisk) (under_way : List LogChange) → ((handle version : ℕ) → Over handle version → More handle version) → AllFound (IsLogDone Over) disk under_way
    → AreShares More (stopped_master m disk under_way)
down_shares Over More m disk under_way stays found =
    record { found = λ decided handle row there shared. stays handle row.granted (found decided handle row there shared); up = λ up. absurd (let both : false ≡ true = up in cc) }

record IsOfShares (x : Scene) : Type 0 where
  base : IsOfTimes x
  set : AreSet x
  waits : IsOfWaits x.sent x.master
  shares : IsTrue x.are_clocks_kept → AreShares (IsOverIn x) x.master

-- leases that are over stay over

pub stay : (x : Scene) → IsOfTimes x → AreSet x → (handle version : ℕ) → IsOverIn x handle version → StayOver handle version (grants_of handle version x.sent) x
stay x base set handle version over = record { told = base.base.told; set = set; some = omega arith; over = λ clocks few. over }

-- messages alone are sent, of which none grants it
pub sent_over : (x : Scene) (ms : List Message) (handle version : ℕ) → grants_of handle version (x.sent ++ ms) ≤ grants_of handle version x.sent → IsOverIn x handle version → AreOverAt handle version 0 (x.sent ++ ms) x.greatest x.servers
sent_over x ms handle version few over index s at = over_sent handle version (grants_of handle version x.sent) x.sent ms x.greatest (suc index) s.disk s.leases (omega arith) few (over index s at)

none_granted : (handle version : ℕ) (ms : List Message) → AllOf (λ m. order_number m.body ≡ None) ms → grants_of handle version ms ≡ 0
none_granted handle version [] all = refl
none_granted handle version (m ∷ ms) all =
    let whole = count-cons (λ (x : Message). is_grant handle version x.body) m ms in
    let one = ap tally (no_order_grants handle version m.body all.0) in
    let rest = none_granted handle version ms all.1 in
    omega (arith, whole, one, rest)

pub no_more : (sent : List Message) (k : ℕ) (order : List ℕ) (ms : List Message) (handle version : ℕ) → grants_of handle version ms ≡ 0 → grants_of handle version (sent ++ stamped k (in_order order ms)) ≤ grants_of handle version sent
no_more sent k order ms handle version none = let whole = count-sent (λ b. is_grant handle version b) k sent order ms in omega (arith, whole, none)

pub quiet_sent : (sent : List Message) (k : ℕ) (ms : List Message) (handle version : ℕ) → HasNoOrder ms → grants_of handle version (sent ++ stamped k ms) ≤ grants_of handle version sent
quiet_sent sent k ms handle version quiet = no_more sent k [] ms handle version (none_granted handle version ms (without_order ms quiet))

-- a step of the master

-- what comes to the master was said
word_said : (sent : List Message) (m : Message) (b : Body) → m.body ≡ b → IsSent sent m → IsWordSaid (WasSaidOver sent) b
word_said sent m (body.Revoked handle version) same is = (m, is, same)
word_said sent m other same is = tt

pub input_said : (sent : List Message) (i : NodeInput) → IsSentTo sent node.Master i → IsInputSaid (WasSaidOver sent) i
input_said sent (input.Deliver m) is = word_said sent m m.body refl (is.0, is.1)
input_said sent input.Tick is = tt

pub told_among : (ms less : List Message) → AreAmong less ms → (handle version until : ℕ) → IsEndTold less handle version until → IsEndTold ms handle version until
told_among ms less among handle version until is = let was = among is.0 is.1 in (was.0, was.1, ap (tells_end handle version until) was.2.2 ∙ is.2)

granted_among : (ms less : List Message) → AreAmong less ms → (handle version : ℕ) → IsVersionGranted less handle version → IsVersionGranted ms handle version
granted_among ms less among handle version is = let was = among is.0 is.1 in (was.0, was.1, ap (is_grant handle version) was.2.2 ∙ is.2)

-- what was told of leases' ends as a step begins
pub begins_telling : (sent : List Message) (greatest lease : ℕ) (m : MasterState) (c : Core) → c.sent ≡ [] → c.changes ≡ [] → c.now ≤ greatest → c.config.lease_ms ≡ lease → AreTimely sent greatest lease m
    → AreEnds (HasEnd greatest sent) sent c.logged → AreEnds (HasVersion greatest sent) sent (state_of c.disk) → AreEnds (HasVersion greatest sent) sent (state_of m.disk) → IsTelling sent greatest lease m.disk c
begins_telling sent greatest lease m c quiet none now long h state disk first =
    let all : List Message = sent ++ c.sent in
    let among : AreAmong all sent = subst (λ (ms : List Message). AreAmong (sent ++ ms) sent) (sym quiet) (none_more sent) in
    record {
      now = now;
      lease = long;
      bound = λ handle version until is. h.bound handle version until (told_among sent all among handle version until is);
      newer = λ handle version until later is also less. h.newer handle version until later (told_among sent all among handle version until is) (granted_among sent all among handle later also) less;
      state = ends_among (HasEnd greatest sent) sent all c.logged among state;
      disk = ends_among (HasVersion greatest sent) sent all (state_of c.disk) among disk;
      stops = subst (λ (xs : List LogChange). AllStops (λ d. AreEnds (HasVersion greatest sent) sent (state_of d)) m.disk xs) (sym none) first;
    }

module _ (x : Scene) (base : IsOfTimes x) where
  abbrev pub lease : ℕ
  lease = x.config.lease_ms

  abbrev Shares : LogDisk → MasterDoing → Type 0
  Shares start d = IsSharing x.sent x.greatest lease (IsOverIn x) (settled x base) start (core_of d) d.master.attempts d.master.snapshots

  -- none of these messages says anything
  pub none_sent : (k handle version : ℕ) → IsOverIn x handle version → AreOverAt handle version 0 (x.sent ++ stamped k []) x.greatest x.servers
  none_sent k handle version over = sent_over x (stamped k []) handle version (no_more x.sent k [] [] handle version refl) over

  -- a lease is past still as the step's messages are sent
  pub past_still : (ms : List Message) (handle version until : ℕ) → IsPast x.greatest x.sent handle version until → IsPast x.greatest (x.sent ++ ms) handle version until
  past_still ms handle version until (inl early) = inl early
  past_still ms handle version until (inr said) = inr (said.0, sent_before x.sent ms said.0 said.1, said.2)

  -- the scene after a step that nothing stopped
  abbrev pub gone : ℕ → List ℕ → MasterDoing → Scene
  gone k order d = record x { sent = x.sent ++ stamped k (in_order order d.sent); master = d.master }

  pub done_over : (k : ℕ) (order : List ℕ) (d : MasterDoing) (handle version end : ℕ) → IsOfTimes (gone k order d) → IsDone x.sent x.greatest lease (IsOverIn x) (settled x base) x.master.disk d.sent d.master.now handle version end
      → IsOverIn (gone k order d) handle version
  done_over k order d handle version end after (inl over) = sent_over x (stamped k (in_order order d.sent)) handle version (no_more x.sent k order d.sent handle version over.1) over.0
  done_over k order d handle version end after (inr past) =
      let more : List Message = stamped k (in_order order d.sent) in
      settled (gone k order d) after handle version
      (λ until told. past_still more handle version until (past.0 until (told_among (x.sent ++ d.sent) (x.sent ++ more) (step_sent x.sent k order d.sent) handle version until told)))

  ends_shares : (k : ℕ) (d : MasterDoing) (choice : Choice) (e : Ending) → AreShares (IsOverIn x) x.master → IsRowing x.master.disk (core_of d) → Shares x.master.disk d
      → (let y : Scene = after_master_step x k (master_ends x.master d choice e) in IsOfTimes y → AreShares (IsOverIn y) y.master)
  ends_shares k d choice Goes h n g after =
      let y : Scene = after_master_step x k (master_ends x.master d choice Goes) in
      let over : IsStateDone (IsOverIn y) d.master.logged = λ handle row there shared. done_over k choice.order d handle row.granted row.lease_end after (g.done handle row there shared).1 in
      record {
        found = subst (λ (xs : List LogChange). AllFound (IsLogDone (IsOverIn y)) d.master.disk xs) (sym n.none) (found_same (IsLogDone (IsOverIn y)) d.master.disk (log_done x.master.disk (IsOverIn y) (core_of d) n over));
        up = λ _. (over, λ handle row there shared. (g.done handle row there shared).0);
      }
  ends_shares k d choice Lost h n g after =
      down_shares (IsOverIn x) (IsOverIn (after_master_step x k (master_ends x.master d choice Lost))) x.master x.master.disk [] (none_sent k) (found_same (IsLogDone (IsOverIn x)) x.master.disk (h.found []))
  ends_shares k d choice (Stops made) h n g after =
      down_shares (IsOverIn x) (IsOverIn (after_master_step x k (master_ends x.master d choice (Stops made)))) x.master (log_changed_by_all x.master.disk (take made d.changes)) (take 1 (drop made d.changes)) (none_sent k)
      (found_stopped (IsLogDone (IsOverIn x)) x.master.disk d.changes made g.stops)

  step_shares : (k moment : ℕ) (i : NodeInput) (choice : Choice) → IsNow x moment → IsSentTo x.sent node.Master i → IsTrue x.are_clocks_kept → IsOfWaits x.sent x.master → AreShares (IsOverIn x) x.master
      → (let y : Scene = after_master_step x k (master_step x.master moment i choice) in IsOfTimes y → AreShares (IsOverIn y) y.master)
  step_shares k moment i choice now is clocks waits h =
      let m : MasterState = x.master in
      let d : MasterDoing = master_goes m moment i choice.refused in
      let good : Taken MasterState → Type 0 = λ t. IsOfTimes (after_master_step x k t) → AreShares (IsOverIn (after_master_step x k t)) t.state in
      let same : good (no_step m) = λ _. shares_stay (IsOverIn x) (IsOverIn (after_master_step x k (no_step m))) m (none_sent k) h in
      let timely : AreTimely x.sent x.greatest lease m = base.timely clocks in
      on_cond good m.up (master_bounded m i d choice) (no_step m)
      (λ up. on_cond good (may_end m i d choice.ending) (master_ends m d choice choice.ending) (no_step m)
      (λ _.
      let logged : IsLogged IsFoundRows IsRowedLog rows_kept m = base.base.sent.logged in
      let u : IsUpToLog IsFoundRows IsRowedLog rows_kept m = logged.up up in
      let first : Core = core_of (master_begins (master_at m moment) choice.refused) in
      let telling : IsTelling x.sent x.greatest lease m.disk first =
      begins_telling x.sent x.greatest lease m first refl refl (max-le base.clock.1 now.reached) (ap (λ (c : Config). c.lease_ms) base.clock.0) timely (timely.up up) (timely.found []) (timely.found []) in
      let end =
      goes_acts (WasSaidOver x.sent) (Stepping x.sent x.greatest lease (IsOverIn x) (settled x base) m.disk) (IsSharing x.sent x.greatest lease (IsOverIn x) (settled x base) m.disk) m moment i choice.refused
      (telling_keeps x.sent x.greatest lease m.disk) (λ c p. p.0) (sharing_acts x.sent x.greatest lease (IsOverIn x) (settled x base) m.disk) (input_said x.sent i is) logged up waits.waits
      (record { none = u.idle; disk = refl; same = u.same; tied = u.tied; stops = logged.found [] }, telling)
      (record { done = λ handle row there shared. ((h.up up).1 handle row there shared, inl ((h.up up).0 handle row there shared, refl)); stops = h.found [] }) in
      ends_shares k d choice choice.ending h (end.0).0 end.2)
      (λ _. same))
      (λ _. same)

  -- a master that opens

  pub same_version : (config : Config) (moment : ℕ) (row : ChunkRow) → (row_after_restart config moment row).granted ≡ row.granted
  same_version config moment row = refl

  started_done : (config : Config) (count : ℕ) (found : LogDisk) (moment : ℕ) → IsLogDone (IsOverIn x) found → IsStateDone (IsOverIn x) (started_master config count found moment).logged
  started_done config count found moment h handle row there shared =
      let all : Logged = state_of found in
      let was = mapped_cases (row_after_restart config moment) (rows_of (replayed found)) handle row there in
      let old = h handle was.0 (removed_cases (rows_of all) (table.keys all.copies) handle was.0 was.1) shared in
      subst (λ (v : ℕ). IsOverIn x handle v) (sym (same_version config moment was.0) ∙ ap (λ (r : ChunkRow). r.granted) was.2) old

  opening_shares : (config : Config) (count : ℕ) (found : LogDisk) (moment : ℕ) → IsGood IsFoundRows IsRowedLog rows_kept found → IsLogDone (IsOverIn x) found → Shares found (opening (started_master config count found moment))
  opening_shares config count found moment good h =
      let started : MasterState = started_master config count found moment in
      let d : MasterDoing = master_begins started [] in
      let b : MasterDoing = writes_checkpoint d in
      let epoch : ℕ = suc started.logged.epoch in
      let over : IsStateDone (IsOverIn x) started.logged = started_done config count found moment h in
      let n : IsRowing found (core_of d) = opening_first IsFoundRows IsRowedLog rows_kept config count found moment good in
      let written : IsRowing found (core_of b) = (rowing_keeps found).checkpoint (core_of d) (λ _. good.0) n in
      let first : Shares found d = record { done = λ handle row there shared. (λ a is. none_some a (sym (table.get-empty nat_cmp handle) ∙ is), inl (over handle row there shared, refl)); stops = h } in
      let less : Shares found b = checkpoint_done x.sent x.greatest lease (IsOverIn x) (settled x base) found (core_of d) d.master.attempts d.master.snapshots n written first in
      logs_alone (λ e. Shares found e) d (log.Epoch epoch) first
      (epoch_done x.sent x.greatest lease (IsOverIn x) (settled x base) found (core_of d) d.master.attempts d.master.snapshots epoch n first) less
      (epoch_done x.sent x.greatest lease (IsOverIn x) (settled x base) found (core_of b) b.master.attempts b.master.snapshots epoch written less)

  opens_shares : (k moment : ℕ) (choice : Choice) (e : Ending) → AreShares (IsOverIn x) x.master
      → (let started : MasterState = started_master x.master.config x.master.server_count (found_log x.master choice) moment in
      let y : Scene = after_master_step x k (opens_as x.master started (opening started) choice e) in AreShares (IsOverIn y) y.master)
  opens_shares k moment choice Lost h = down_shares (IsOverIn x) _ x.master x.master.disk x.master.under_way (none_sent k) h.found
  opens_shares k moment choice (Stops made) h =
      let old : MasterState = x.master in
      let found : LogDisk = found_log old choice in
      let d : MasterDoing = opening (started_master old.config old.server_count found moment) in
      let g : Shares found d = opening_shares old.config old.server_count found moment (base.base.sent.logged.found choice.decided) (h.found choice.decided) in
      down_shares (IsOverIn x) _ old (log_changed_by_all found (take made d.changes)) (take 1 (drop made d.changes)) (none_sent k) (found_stopped (IsLogDone (IsOverIn x)) found d.changes made g.stops)
  opens_shares k moment choice Goes h =
      let old : MasterState = x.master in
      let found : LogDisk = found_log old choice in
      let started : MasterState = started_master old.config old.server_count found moment in
      let d : MasterDoing = opening started in
      let n : IsRowing found (core_of d) = (opening_naming IsFoundRows IsRowedLog rows_kept old.config old.server_count found moment (base.base.sent.logged.found choice.decided) (base.base.sent.issued.found choice.decided)).0 in
      let g : Shares found d = opening_shares old.config old.server_count found moment (base.base.sent.logged.found choice.decided) (h.found choice.decided) in
      let over : IsStateDone (IsOverIn x) d.master.logged = state_done x.sent x.greatest lease (IsOverIn x) (settled x base) found (core_of d) d.master.attempts g.done in
      let disk : AllFound (IsLogDone (IsOverIn x)) d.master.disk [] = found_same (IsLogDone (IsOverIn x)) d.master.disk (log_done found (IsOverIn x) (core_of d) n over) in
      on_cond (λ (t : Taken MasterState). AreShares (IsOverIn (after_master_step x k t)) t.state) (has_opened started d && is_within_limits d.master) _ _
      (λ _. shares_stay (IsOverIn x) _ d.master (none_sent k)
      (record { found = subst (λ (xs : List LogChange). AllFound (IsLogDone (IsOverIn x)) d.master.disk xs) (sym n.none) disk; up = λ _. (over, λ handle row there shared. (g.done handle row there shared).0) }))
      (λ _. down_shares (IsOverIn x) _ old d.master.disk [] (none_sent k) disk)

-- worlds

no_rows : (Over : ℕ → ℕ → Type 0) (l : Logged) → ((handle : ℕ) → table.get (rows_of l) handle ≡ None) → IsStateDone Over l
no_rows Over l none handle row there shared = none_some row (sym (none handle) ∙ there)

new_shares : (Over : ℕ → ℕ → Type 0) (config : Config) (servers : ℕ) → AreShares Over (new_master config servers)
new_shares Over config servers =
    let one : Logged = record first_logged { epoch = 1 } in
    let none : IsStateDone Over one = no_rows Over one (λ handle. table.get-empty nat_cmp handle) in
    record {
      found = found_same (IsLogDone Over) first_log none;
      up = λ up. (none, λ handle row there shared a is. none_some a (sym (table.get-empty nat_cmp handle) ∙ is));
    }

shares_kept : IsKeptByScenes IsOfShares
shares_kept =
    let waiting : IsKeptByScenes (λ x. IsOfWaits x.sent x.master) = lifted IsOfWaits waits_kept in
    record {
      new = λ config servers clients. record {
        base = times_kept.new config servers clients;
        set = settings_kept.new config servers clients;
        waits = waiting.new config servers clients;
        shares = λ clocks. new_shares (IsOverIn (scene_of (new_world config servers clients))) config servers;
      };
      passes = λ x moment h. record {
        base = times_kept.passes x moment h.base;
        set = settings_kept.passes x moment h.set;
        waits = waiting.passes x moment h.waits;
        shares = λ clocks. shares_stay (IsOverIn x) (IsOverIn (passed x moment)) x.master
            (λ handle version over. ((stays_over handle version (grants_of handle version x.sent)).passes x moment (stay x h.base h.set handle version over)).over clocks (omega arith))
            (h.shares (and_parts x.are_clocks_kept (nat_le x.greatest (moment + x.config.skew_ms)) clocks).0);
      };
      says = λ x k ms quiet h. record {
        base = times_kept.says x k ms quiet h.base;
        set = settings_kept.says x k ms quiet h.set;
        waits = waiting.says x k ms quiet h.waits;
        shares = λ clocks. shares_stay (IsOverIn x) (IsOverIn (more_sent x k ms)) x.master (λ handle version over. sent_over x (stamped k ms) handle version (quiet_sent x.sent k ms handle version (quiet_orders ms quiet)) over) (h.shares clocks);
      };
      masters = λ x k moment i choice now is up h.
          let after : IsOfTimes (after_master_step x k (master_step x.master moment i choice)) = times_kept.masters x k moment i choice now is up h.base in
          record {
            base = after;
            set = settings_kept.masters x k moment i choice now is up h.set;
            waits = waiting.masters x k moment i choice now is up h.waits;
            shares = λ clocks. step_shares x h.base k moment i choice now is clocks h.waits (h.shares clocks) after;
          };
      opens = λ x k moment choice now h. record {
        base = times_kept.opens x k moment choice now h.base;
        set = settings_kept.opens x k moment choice now h.set;
        waits = waiting.opens x k moment choice now h.waits;
        shares = λ clocks. opens_shares x h.base k moment choice choice.ending (h.shares clocks);
      };
      serves = λ x k index moment s i choice now at is up h. record {
        base = times_kept.serves x k index moment s i choice now at is up h.base;
        set = settings_kept.serves x k index moment s i choice now at is up h.set;
        waits = waiting.serves x k index moment s i choice now at is up h.waits;
        shares = λ clocks. shares_stay (IsOverIn x) _ x.master
            (λ handle version over. ((stays_over handle version (grants_of handle version x.sent)).serves x k index moment s i choice now at is up (stay x h.base h.set handle version over)).over clocks
            (quiet_sent x.sent k (server_step s moment i choice).out.sent handle version (server_quiet s moment i choice))) (h.shares clocks);
      };
      restarts = λ x k index moment s choice now at h. record {
        base = times_kept.restarts x k index moment s choice now at h.base;
        set = settings_kept.restarts x k index moment s choice now at h.set;
        waits = waiting.restarts x k index moment s choice now at h.waits;
        shares = λ clocks. shares_stay (IsOverIn x) _ x.master
            (λ handle version over. ((stays_over handle version (grants_of handle version x.sent)).restarts x k index moment s choice now at (stay x h.base h.set handle version over)).over clocks
            (quiet_sent x.sent k (server_restart s moment choice).out.sent handle version (server_restarts_quiet s moment choice choice.ending))) (h.shares clocks);
      };
      rots = λ x index c s e is at up h. record {
        base = times_kept.rots x index c s e is at up h.base;
        set = settings_kept.rots x index c s e is at up h.set;
        waits = waiting.rots x index c s e is at up h.waits;
        shares = λ clocks. shares_stay (IsOverIn x) _ x.master
            (λ handle version over. ((stays_over handle version (grants_of handle version x.sent)).rots x index c s e is at up (stay x h.base h.set handle version over)).over clocks (omega arith)) (h.shares clocks);
      };
    }

-- as the laws say it

-- references count the places in files
owners_of : (l : Logged) → AreCounted l.table → (handle : ℕ) (row : ChunkRow) → table.get (rows_of l) handle ≡ Some row → 2 ≤ row.references → IsShared l handle
owners_of l counted handle row there owned =
    let count = counted handle in
    let here : references_of (table.get (rows_of l) handle) ≡ row.references = ap references_of there in
    omega (arith, count, here, owned)

no_value : {X : Type 0} (o : Option X) → ((x : X) → o ≡ Some x → ⊥) → o ≡ None
no_value None h = refl
no_value (Some x) h = absurd (h x refl)

-- the granted version's lease is over, and so is that of each other
pub each_over : (w : WorldState) (handle granted : ℕ) → IsOverIn (scene_of w) handle granted → ((version : ℕ) → (version ≡ granted → ⊥) → IsLeaseOver w handle version) → (version : ℕ) → IsLeaseOver w handle version
each_over w handle granted over others version =
    elim (same_or_not version granted) [
      | inl same ↦ subst (λ (v : ℕ). IsLeaseOver w handle v) (sym same) (over_of w handle granted over)
      | inr other ↦ others version other
    ]

pub shared_chunks_have_no_lease : SharedChunksHaveNoLease
shared_chunks_have_no_lease config servers clients w r clocks up handle row there owned =
    let h : IsOfShares (scene_of w) = scene_reached IsOfShares shares_kept config servers clients w r in
    let is = (h.shares clocks).up up in
    let shared : IsShared w.master.logged handle = owners_of w.master.logged (h.base.base.sent.logged.up up).tied.base.counted handle row there owned in (
      no_value (table.get w.master.attempts handle) (is.1 handle row there shared),
      each_over w handle row.granted (is.0 handle row there shared) (λ version other. ended_leases_are_over config servers clients w r clocks up handle row there version (λ same. absurd (other same))),
    )

pub shared_chunks_in_the_log_have_no_lease : SharedChunksInTheLogHaveNoLease
shared_chunks_in_the_log_have_no_lease config servers clients w r clocks handle row there owned =
    let h : IsOfShares (scene_of w) = scene_reached IsOfShares shares_kept config servers clients w r in
    let all : Logged = state_of w.master.disk in
    let at : table.get (rows_of all) handle ≡ Some row = removed_cases (rows_of all) (table.keys all.copies) handle row there in
    let shared : IsShared all handle = owners_of all (h.base.base.sent.logged.found []).1.base.counted handle row at owned in
    each_over w handle row.granted ((h.shares clocks).found [] handle row at shared) (λ version other. leases_in_the_log_are_over config servers clients w r clocks handle row there version other)
