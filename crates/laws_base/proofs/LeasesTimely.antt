-- In each reached world whose clocks were kept, what was told of leases' ends is timely.
use Rattle.std.proofs.Common.{◌≡◌, ℕ, suc, ◌+◌, ◌≤◌, true, false, List, [], ◌∷◌, ◌++◌, take, drop, refl, sym, ap, subst, ◌∙◌, inl, inr, arith}
use Rattle.std.specs.Prelude.{nat_le, nat_lt, ◌&&◌, max, IsTrue}
use Rattle.std.specs.FinMap as table
use Rattle.std.proofs.lemmas.Bool.{and_parts, ltb-false}
use Rattle.std.proofs.Math.Nat.{le-max_left, max-le}
use Rattle.gfs_types.specs.declared.config.Config.{Config}
use Rattle.gfs_types.specs.declared.ids.Node.TheVariants as node
use Rattle.messages.specs.declared.message.Message.{Message}
use Rattle.messages.specs.declared.message.Body.{Body}
use Rattle.messages.specs.declared.message.Body.TheVariants as body
use Rattle.messages.specs.declared.message.ReplicaLine.{ReplicaLine}
use Rattle.messages.specs.declared.event.NodeInput.{NodeInput}
use Rattle.messages.specs.declared.event.NodeInput.TheVariants as input
use Rattle.log_records.specs.declared.record.Record.TheVariants as log
use Rattle.protocol.specs.Choice.{Choice, Ending, Goes, Lost, Stops, in_order, decided_changes}
use Rattle.protocol.specs.Seen.{Taken, no_step}
use Rattle.protocol.specs.Sending.{server_number}
use Rattle.chunk_table.specs.ChunkTable.{ChunkRow}
use Rattle.protocol.specs.Logged.{Logged, LogDisk, LogChange, log_changed_by_all, replayed}
use Rattle.protocol.specs.Master.{MasterState, MasterDoing, stopped_master, master_begins, writes_checkpoint}
use Rattle.protocol.specs.MasterStep.{master_at, master_goes, master_ends, master_bounded, master_step, is_within_limits, may_end, found_log, row_after_restart, started_master, opening, has_opened, opens_as, new_master}
use Rattle.protocol.specs.ServerStep.{server_step, server_restart}
use Rattle.protocol.specs.World.{WorldState, stamped, IsReached}
use Rattle.laws_base.specs.Laws.{tells_end, is_grant}
use Rattle.laws_base.proofs.Steps.{on_cond, removed_cases}
use Rattle.laws_base.proofs.Entries.{mapped_cases}
use Rattle.laws_base.proofs.ChunkRows.{rows_of}
use Rattle.laws_base.proofs.GrantedIssued.{IsIssued}
use Rattle.laws_base.proofs.MessagesSent.{IsSent, sent_before, none_sent, step_sent}
use Rattle.laws_base.proofs.MasterMoves.{Core, core_of, Nothing, NoneEnded, Keeps, logs_alone}
use Rattle.laws_base.proofs.MasterSteps.{IsWordTold, IsInputTold, goes_named}
use Rattle.laws_base.proofs.MasterChunksMoves.{AreLinesTold}
use Rattle.laws_base.proofs.OrderNumbers.{state_of, AllStops, AllFound, found_same, found_stopped}
use Rattle.laws_base.proofs.NamesReached.{naming_keeps, IsGood, IsUpToLog, IsLogged, opening_first, opening_naming}
use Rattle.laws_base.proofs.RowsLogged.{IsFoundRows, IsRowedLog}
use Rattle.laws_base.proofs.RowsKept.{rows_kept}
use Rattle.laws_base.proofs.RevokesNumbered.{IsRowing, AreAmong, before_among, none_more}
use Rattle.laws_base.proofs.RevokedLeases.{IsOfRevoked, revoked_kept}
use Rattle.laws_base.proofs.LeaseEnds.{IsEndTold, IsVersionGranted, WasSaidOver, IsPast, HasEnd, HasVersion, AreEnds, ends_among, IsTelling, checkpointed, epoch_begun}
use Rattle.laws_base.proofs.LeasesTimed.{telling_keeps, AreTimely}
use Rattle.laws_base.proofs.MasterClock.{IsInTime, in_time_kept}
use Rattle.laws_base.proofs.EndsToldByMaster.{TellNoEnds, quiet_ends, server_tells, restarts_tell, told_before, granted_before}
use Rattle.laws_base.proofs.ScenesReached.{Scene, IsSentTo, IsKeptByScenes, scene_reached}

-- what was told and granted was told and granted before
abbrev ToldFrom : List Message → List Message → Type 0
ToldFrom sent more = (handle version until : ℕ) → IsEndTold more handle version until → IsEndTold sent handle version until

abbrev GrantedFrom : List Message → List Message → Type 0
GrantedFrom sent more = (handle version : ℕ) → IsVersionGranted more handle version → IsVersionGranted sent handle version

told_among : (ms less : List Message) → AreAmong less ms → ToldFrom ms less
told_among ms less among handle version until is = let was = among is.0 is.1 in (was.0, was.1, ap (tells_end handle version until) was.2.2 ∙ is.2)

granted_among : (ms less : List Message) → AreAmong less ms → GrantedFrom ms less
granted_among ms less among handle version is = let was = among is.0 is.1 in (was.0, was.1, ap (is_grant handle version) was.2.2 ∙ is.2)

-- a lease that is past stays past
abbrev StaysPast : ℕ → List Message → ℕ → List Message → Type 0
StaysPast greatest sent later more = (handle version until : ℕ) → IsPast greatest sent handle version until → IsPast later more handle version until

past_later : (greatest later : ℕ) (sent : List Message) → greatest ≤ later → StaysPast greatest sent later sent
past_later greatest later sent grows handle version until h = elim (h) [ inl early ↦ inl (omega (arith, early, grows)) | inr said ↦ inr said ]

past_sent : (greatest : ℕ) (sent ms : List Message) → StaysPast greatest sent greatest (sent ++ ms)
past_sent greatest sent ms handle version until h = elim (h) [ inl early ↦ inl early | inr said ↦ inr (said.0, sent_before sent ms said.0 said.1, said.2) ]

end_stays : (greatest later : ℕ) (sent more : List Message) → StaysPast greatest sent later more → (handle version until granted end : ℕ) → HasEnd greatest sent handle version until granted end → HasEnd later more handle version until granted end
end_stays greatest later sent more stays handle version until granted end h = (h.0, elim (h.1) [ inl past ↦ inl (stays handle version until past) | inr last ↦ inr last ])

version_stays : (greatest later : ℕ) (sent more : List Message) → StaysPast greatest sent later more → (handle version until granted end : ℕ) → HasVersion greatest sent handle version until granted end
    → HasVersion later more handle version until granted end
version_stays greatest later sent more stays handle version until granted end h = (h.0, elim (h.1) [ inl past ↦ inl (stays handle version until past) | inr last ↦ inr last ])

ends_from : (D E : ℕ → ℕ → ℕ → ℕ → ℕ → Type 0) (sent more : List Message) (l : Logged) → ToldFrom sent more → ((handle version until granted end : ℕ) → D handle version until granted end → E handle version until granted end) → AreEnds D sent l
    → AreEnds E more l
ends_from D E sent more l told change h handle version until is =
    let old = h handle version until (told handle version until is) in
    (old.0, λ row at. change handle version until row.granted row.lease_end (old.1 row at))

timely_from : (greatest later lease : ℕ) (sent more : List Message) (m : MasterState) → greatest ≤ later → StaysPast greatest sent later more → ToldFrom sent more → GrantedFrom sent more → AreTimely sent greatest lease m → AreTimely more later lease m
timely_from greatest later lease sent more m grows stays told granted h =
    record {
      bound = λ handle version until is. let old = h.bound handle version until (told handle version until is) in let early = old.0 in (omega (arith, early, grows), old.1);
      newer = λ handle version until after is also less. stays handle version until (h.newer handle version until after (told handle version until is) (granted handle after also) less);
      found = λ decided. ends_from (HasVersion greatest sent) (HasVersion later more) sent more (state_of (log_changed_by_all m.disk (decided_changes decided m.under_way))) told (version_stays greatest later sent more stays) (h.found decided);
      up = λ up. ends_from (HasEnd greatest sent) (HasEnd later more) sent more m.logged told (end_stays greatest later sent more stays) (h.up up);
    }

silent_timely : (sent ms : List Message) (k greatest lease : ℕ) (m : MasterState) → TellNoEnds ms → AreTimely sent greatest lease m → AreTimely (sent ++ stamped k ms) greatest lease m
silent_timely sent ms k greatest lease m none h =
    timely_from greatest greatest lease sent (sent ++ stamped k ms) m (omega arith) (past_sent greatest sent (stamped k ms))
    (λ handle version until is. told_before sent ms k handle version until none is) (λ handle version is. granted_before sent ms k handle version none is) h

-- a master that is put down
down_timely : (sent : List Message) (k greatest lease : ℕ) (m : MasterState) (disk : LogDisk) (under_way : List LogChange) → AreTimely sent greatest lease m → AllFound (λ d. AreEnds (HasVersion greatest sent) sent (state_of d)) disk under_way
    → AreTimely (sent ++ stamped k []) greatest lease (stopped_master m disk under_way)
down_timely sent k greatest lease m disk under_way h found =
    silent_timely sent [] k greatest lease (stopped_master m disk under_way) tt
    (record { bound = h.bound; newer = h.newer; found = found; up = λ up. absurd (let both : false ≡ true = up in cc) })

-- a master that goes on after a step, of which these messages are sent
running : (sent more : List Message) (greatest lease : ℕ) (start : LogDisk) (d : MasterDoing) → AreAmong more (sent ++ d.sent) → StaysPast greatest sent greatest more → IsRowing start (core_of d) → IsTelling sent greatest lease start (core_of d)
    → AreTimely more greatest lease d.master
running sent more greatest lease start d among stays n g =
    let all : List Message = sent ++ d.sent in
    let told : ToldFrom all more = told_among all more among in
    let log_says : AreEnds (HasVersion greatest more) more (state_of d.master.disk) = ends_from (HasVersion greatest sent) (HasVersion greatest more) all more (state_of d.master.disk) told (version_stays greatest greatest sent more stays) g.disk in
    record {
      bound = λ handle version until is. g.bound handle version until (told handle version until is);
      newer = λ handle version until later is also less. stays handle version until (g.newer handle version until later (told handle version until is) (granted_among all more among handle later also) less);
      found = subst (λ (xs : List LogChange). AllFound (λ x. AreEnds (HasVersion greatest more) more (state_of x)) d.master.disk xs) (sym n.none) (found_same (λ x. AreEnds (HasVersion greatest more) more (state_of x)) d.master.disk log_says);
      up = λ _. ends_from (HasEnd greatest sent) (HasEnd greatest more) all more d.master.logged told (end_stays greatest greatest sent more stays) g.state;
    }

ends_timely : (sent : List Message) (k greatest lease : ℕ) (m : MasterState) (d : MasterDoing) (choice : Choice) (e : Ending) → AreTimely sent greatest lease m → IsRowing m.disk (core_of d) → IsTelling sent greatest lease m.disk (core_of d)
    → AreTimely (sent ++ stamped k (master_ends m d choice e).out.sent) greatest lease (master_ends m d choice e).state
ends_timely sent k greatest lease m d choice Goes h n g =
    running sent (sent ++ stamped k (in_order choice.order d.sent)) greatest lease m.disk d (step_sent sent k choice.order d.sent) (past_sent greatest sent (stamped k (in_order choice.order d.sent))) n g
ends_timely sent k greatest lease m d choice Lost h n g = down_timely sent k greatest lease m m.disk [] h (found_same (λ x. AreEnds (HasVersion greatest sent) sent (state_of x)) m.disk (h.found []))
ends_timely sent k greatest lease m d choice (Stops made) h n g =
    down_timely sent k greatest lease m (log_changed_by_all m.disk (take made d.changes)) (take 1 (drop made d.changes)) h (found_stopped (λ x. AreEnds (HasVersion greatest sent) sent (state_of x)) m.disk d.changes made g.stops)

-- a step that begins
begins_telling : (sent : List Message) (greatest lease : ℕ) (m : MasterState) (start : LogDisk) (c : Core) → c.sent ≡ [] → c.changes ≡ [] → c.now ≤ greatest → c.config.lease_ms ≡ lease → AreTimely sent greatest lease m
    → AreEnds (HasEnd greatest sent) sent c.logged → AreEnds (HasVersion greatest sent) sent (state_of c.disk) → AreEnds (HasVersion greatest sent) sent (state_of start) → IsTelling sent greatest lease start c
begins_telling sent greatest lease m start c quiet none now long h state disk first =
    let all : List Message = sent ++ c.sent in
    let among : AreAmong all sent = subst (λ (ms : List Message). AreAmong (sent ++ ms) sent) (sym quiet) (none_more sent) in
    record {
      now = now;
      lease = long;
      bound = λ handle version until is. h.bound handle version until (told_among sent all among handle version until is);
      newer = λ handle version until later is also less. h.newer handle version until later (told_among sent all among handle version until is) (granted_among sent all among handle later also) less;
      state = ends_among (HasEnd greatest sent) sent all c.logged among state;
      disk = ends_among (HasVersion greatest sent) sent all (state_of c.disk) among disk;
      stops = subst (λ (xs : List LogChange). AllStops (λ d. AreEnds (HasVersion greatest sent) sent (state_of d)) start xs) (sym none) first;
    }

-- what comes to the master was said
no_lines : (server : ℕ) (lines : List ReplicaLine) → AreLinesTold Nothing server lines
no_lines server [] = tt
no_lines server (line ∷ rest) = (λ is. tt, no_lines server rest)

word_said : (sent : List Message) (server : ℕ) (m : Message) (b : Body) → m.body ≡ b → IsSent sent m → IsWordTold Nothing (WasSaidOver sent) server b
word_said sent server m (body.Recorded handle version) same is = λ n. tt
word_said sent server m (body.Report replicas leases) same is = no_lines server replicas
word_said sent server m (body.Revoked handle version) same is = (m, is, same)
word_said sent server m other same is = tt

input_said : (sent : List Message) (i : NodeInput) → IsSentTo sent node.Master i → IsInputTold Nothing (WasSaidOver sent) i
input_said sent (input.Deliver m) is = word_said sent (server_number m.sender) m m.body refl (is.0, is.1)
input_said sent input.Tick is = tt

step_timely : (sent : List Message) (k greatest lease : ℕ) (m : MasterState) (moment : ℕ) (i : NodeInput) (choice : Choice) → IsLogged IsFoundRows IsRowedLog rows_kept m → IsSentTo sent node.Master i → moment ≤ greatest → m.now ≤ greatest
    → m.config.lease_ms ≡ lease → AreTimely sent greatest lease m → AreTimely (sent ++ stamped k (master_step m moment i choice).out.sent) greatest lease (master_step m moment i choice).state
step_timely sent k greatest lease m moment i choice logged is reached early long h =
    let d : MasterDoing = master_goes m moment i choice.refused in
    let good : Taken MasterState → Type 0 = λ t. AreTimely (sent ++ stamped k t.out.sent) greatest lease t.state in
    let same : AreTimely (sent ++ stamped k []) greatest lease m = silent_timely sent [] k greatest lease m tt h in
    on_cond good m.up (master_bounded m i d choice) (no_step m)
    (λ up. on_cond good (may_end m i d choice.ending) (master_ends m d choice choice.ending) (no_step m)
    (λ _.
    let u : IsUpToLog IsFoundRows IsRowedLog rows_kept m = logged.up up in
    let first : Core = core_of (master_begins (master_at m moment) choice.refused) in
    let now : IsTelling sent greatest lease m.disk first = begins_telling sent greatest lease m m.disk first refl refl (max-le early reached) long h (h.up up) (h.found []) (h.found []) in
    let end = goes_named (WasSaidOver sent) (λ c. IsRowing m.disk c × IsTelling sent greatest lease m.disk c) (telling_keeps sent greatest lease m.disk) m moment i choice.refused (input_said sent i is) u.bound u.names u.ready
    (record { none = u.idle; disk = refl; same = u.same; tied = u.tied; stops = logged.found [] }, now) in
    ends_timely sent k greatest lease m d choice choice.ending h (end.0).0 (end.0).1)
    (λ _. same))
    (λ _. same)

-- a master that opens: each row's end is late enough

module _ (sent : List Message) (greatest lease : ℕ) (config : Config) (moment : ℕ) (long : config.lease_ms ≡ lease) (kept : greatest ≤ moment + config.skew_ms) where
  row_says : (handle version until : ℕ) (row : ChunkRow) → until ≤ greatest + lease → 1 ≤ version → HasVersion greatest sent handle version until row.granted row.lease_end
      → HasEnd greatest sent handle version until (row_after_restart config moment row).granted (row_after_restart config moment row).lease_end
  row_says handle version until row bound some says =
      on_cond (λ (later : ℕ). HasEnd greatest sent handle version until row.granted later) (nat_lt 0 row.granted) (moment + config.skew_ms + config.lease_ms) row.lease_end
      (λ _. (says.0, elim (says.1) [ inl past ↦ inl past | inr last ↦ inr (last, omega (arith, bound, long, kept)) ]))
      (λ none. absurd (let least = ltb-false 0 row.granted none in let high = says.0 in omega (arith, least, high, some)))

  started_says : (count : ℕ) (found : LogDisk) → ((handle version until : ℕ) → IsEndTold sent handle version until → (until ≤ greatest + lease) × (1 ≤ version)) → AreEnds (HasVersion greatest sent) sent (state_of found)
      → AreEnds (HasEnd greatest sent) sent (started_master config count found moment).logged
  started_says count found bound h handle version until is =
      let old = h handle version until is in
      let numbers = bound handle version until is in
      let all : Logged = state_of found in (
        old.0,
        λ row at.
            let was = mapped_cases (row_after_restart config moment) (rows_of (replayed found)) handle row at in
            let there = removed_cases (rows_of all) (table.keys all.copies) handle was.0 was.1 in
            subst (λ (r : ChunkRow). HasEnd greatest sent handle version until r.granted r.lease_end) was.2 (row_says handle version until was.0 numbers.0 numbers.1 (old.1 was.0 there)),
      )

  opening_telling : (m : MasterState) (count : ℕ) (found : LogDisk) → moment ≤ greatest → IsGood IsFoundRows IsRowedLog rows_kept found → AreTimely sent greatest lease m → AreEnds (HasVersion greatest sent) sent (state_of found)
      → IsTelling sent greatest lease found (core_of (opening (started_master config count found moment)))
  opening_telling m count found reached good h says =
      let started : MasterState = started_master config count found moment in
      let d : MasterDoing = master_begins started [] in
      let epoch : ℕ = suc started.logged.epoch in
      let row : IsRowing found (core_of d) = opening_first IsFoundRows IsRowedLog rows_kept config count found moment good in
      let base : Keeps (Unit {0}) Nothing NoneEnded (IsRowing found) = naming_keeps IsFoundRows IsRowedLog rows_kept found NoneEnded in
      let first : IsTelling sent greatest lease found (core_of d) = begins_telling sent greatest lease m found (core_of d) refl refl reached long h (started_says count found h.bound says) says says in
      let less : IsTelling sent greatest lease found (core_of (writes_checkpoint d)) = checkpointed sent greatest lease found (core_of d) good.0 row first in
      logs_alone (λ e. IsTelling sent greatest lease found (core_of e)) d (log.Epoch epoch) first (epoch_begun sent greatest lease found (core_of d) epoch refl first) less
      (epoch_begun sent greatest lease found (core_of (writes_checkpoint d)) epoch (base.checkpoint (core_of d) (λ _. good.0) row).disk less)

opens_timely : (sent : List Message) (k greatest lease : ℕ) (old : MasterState) (moment : ℕ) (choice : Choice) (e : Ending) → IsIssued old → IsLogged IsFoundRows IsRowedLog rows_kept old → moment ≤ greatest → old.config.lease_ms ≡ lease
    → greatest ≤ moment + old.config.skew_ms → AreTimely sent greatest lease old
    → (let started : MasterState = started_master old.config old.server_count (found_log old choice) moment in
    AreTimely (sent ++ stamped k (opens_as old started (opening started) choice e).out.sent) greatest lease (opens_as old started (opening started) choice e).state)
opens_timely sent k greatest lease old moment choice Lost issued logged reached long kept h = down_timely sent k greatest lease old old.disk old.under_way h h.found
opens_timely sent k greatest lease old moment choice (Stops made) issued logged reached long kept h =
    let found : LogDisk = found_log old choice in
    let d : MasterDoing = opening (started_master old.config old.server_count found moment) in
    let g : IsTelling sent greatest lease found (core_of d) = opening_telling sent greatest lease old.config moment long kept old old.server_count found reached (logged.found choice.decided) h (h.found choice.decided) in
    down_timely sent k greatest lease old (log_changed_by_all found (take made d.changes)) (take 1 (drop made d.changes)) h (found_stopped (λ x. AreEnds (HasVersion greatest sent) sent (state_of x)) found d.changes made g.stops)
opens_timely sent k greatest lease old moment choice Goes issued logged reached long kept h =
    let found : LogDisk = found_log old choice in
    let started : MasterState = started_master old.config old.server_count found moment in
    let d : MasterDoing = opening started in
    let n : IsRowing found (core_of d) = (opening_naming IsFoundRows IsRowedLog rows_kept old.config old.server_count found moment (logged.found choice.decided) (issued.found choice.decided)).0 in
    let g : IsTelling sent greatest lease found (core_of d) = opening_telling sent greatest lease old.config moment long kept old old.server_count found reached (logged.found choice.decided) h (h.found choice.decided) in
    let disk : AreEnds (HasVersion greatest sent) sent (state_of d.master.disk) = ends_among (HasVersion greatest sent) (sent ++ d.sent) sent (state_of d.master.disk) (before_among sent d.sent) g.disk in
    on_cond (λ (t : Taken MasterState). AreTimely (sent ++ stamped k t.out.sent) greatest lease t.state) (has_opened started d && is_within_limits d.master) _ _
    (λ _. silent_timely sent [] k greatest lease d.master tt (running sent sent greatest lease found d (before_among sent d.sent) (past_later greatest greatest sent (omega arith)) n g))
    (λ _. down_timely sent k greatest lease old d.master.disk [] h (found_same (λ x. AreEnds (HasVersion greatest sent) sent (state_of x)) d.master.disk disk))

new_timely : (lease : ℕ) (config : Config) (servers : ℕ) → AreTimely [] 0 lease (new_master config servers)
new_timely lease config servers =
    record {
      bound = λ handle version until is. none_sent is.0 is.1;
      newer = λ handle version until later is also less. none_sent is.0 is.1;
      found = λ decided handle version until is. none_sent is.0 is.1;
      up = λ up handle version until is. none_sent is.0 is.1;
    }

-- together with what it stands on
pub record IsOfTimes (x : Scene) : Type 0 where
  pub base : IsOfRevoked x
  pub clock : IsInTime x.config x.greatest x.master
  pub timely : IsTrue x.are_clocks_kept → AreTimely x.sent x.greatest x.config.lease_ms x.master

pub times_kept : IsKeptByScenes IsOfTimes
times_kept =
    record {
      new = λ config servers clients. record { base = revoked_kept.new config servers clients; clock = in_time_kept.new config servers clients; timely = λ _. new_timely config.lease_ms config servers };
      passes = λ x moment h.
          record {
            base = revoked_kept.passes x moment h.base;
            clock = in_time_kept.passes x moment h.clock;
            timely = λ both.
                let later : ℕ = max x.greatest moment in
                timely_from x.greatest later x.config.lease_ms x.sent x.sent x.master (le-max_left x.greatest moment) (past_later x.greatest later x.sent (le-max_left x.greatest moment))
                (λ handle version until is. is) (λ handle version is. is) (h.timely (and_parts x.are_clocks_kept (nat_le x.greatest (moment + x.config.skew_ms)) both).0);
          };
      says = λ x k ms quiet h.
          record { base = revoked_kept.says x k ms quiet h.base; clock = h.clock; timely = λ clocks. silent_timely x.sent ms k x.greatest x.config.lease_ms x.master (quiet_ends ms quiet) (h.timely clocks) };
      masters = λ x k moment i choice now is up h.
          record {
            base = revoked_kept.masters x k moment i choice now is up h.base;
            clock = in_time_kept.masters x k moment i choice now is up h.clock;
            timely = λ clocks. step_timely x.sent k x.greatest x.config.lease_ms x.master moment i choice h.base.sent.logged is now.reached h.clock.1 (ap (λ (c : Config). c.lease_ms) h.clock.0) (h.timely clocks);
          };
      opens = λ x k moment choice now h.
          record {
            base = revoked_kept.opens x k moment choice now h.base;
            clock = in_time_kept.opens x k moment choice now h.clock;
            timely = λ clocks.
                let skew = ap (λ (c : Config). c.skew_ms) h.clock.0 in
                let late = now.kept clocks in
                opens_timely x.sent k x.greatest x.config.lease_ms x.master moment choice choice.ending h.base.sent.issued h.base.sent.logged now.reached (ap (λ (c : Config). c.lease_ms) h.clock.0) (omega (arith, skew, late)) (h.timely clocks);
          };
      serves = λ x k index moment s i choice now at is up h.
          record {
            base = revoked_kept.serves x k index moment s i choice now at is up h.base;
            clock = h.clock;
            timely = λ clocks. silent_timely x.sent (server_step s moment i choice).out.sent k x.greatest x.config.lease_ms x.master (server_tells s moment i choice) (h.timely clocks);
          };
      restarts = λ x k index moment s choice now at h.
          record {
            base = revoked_kept.restarts x k index moment s choice now at h.base;
            clock = h.clock;
            timely = λ clocks. silent_timely x.sent (server_restart s moment choice).out.sent k x.greatest x.config.lease_ms x.master (restarts_tell s moment choice choice.ending) (h.timely clocks);
          };
      rots = λ x index c s e is at up h. record { base = revoked_kept.rots x index c s e is at up h.base; clock = h.clock; timely = h.timely };
    }

-- in each reached world whose clocks were kept, each end of a lease that was told is past, or its chunk's row has that version and an end that is not earlier
pub ends_are_timely : (config : Config) (servers clients : ℕ) (w : WorldState) → IsReached config servers clients w → IsTrue w.observer.are_clocks_kept → AreTimely w.sent w.observer.greatest w.config.lease_ms w.master
ends_are_timely config servers clients w r = (scene_reached IsOfTimes times_kept config servers clients w r).timely
