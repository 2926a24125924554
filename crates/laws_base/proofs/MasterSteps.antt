-- Every step of the master, and its opening, keeps what each move keeps.
use Rattle.std.proofs.Common.{◌≤◌, ℕ, Bool, List, [], ◌∷◌, Option, Some, None, refl, inr}
use Rattle.std.specs.Prelude.{nat_lt, max}
use Rattle.std.specs.FinMap as table
use Rattle.std.proofs.Math.Nat.{le-max_left}
use Rattle.messages.specs.declared.event.NodeInput.{NodeInput}
use Rattle.messages.specs.declared.event.NodeInput.TheVariants as input
use Rattle.messages.specs.declared.message.Message.{Message}
use Rattle.messages.specs.declared.message.Body.{Body}
use Rattle.messages.specs.declared.message.Body.TheVariants as body
use Rattle.messages.specs.declared.message.ReplicaLine.{ReplicaLine}
use Rattle.log_records.specs.declared.record.Record.TheVariants as log
use Rattle.protocol.specs.Sending.{client_number, server_number, server_id, file_id, handle_of, version_of}
use Rattle.gfs_types.specs.Counters.{counter_limit}
use Rattle.protocol.specs.Tables.{Table}
use Rattle.protocol.specs.MasterSnapshots.{live_snapshots}
use Rattle.protocol.specs.Master.{MasterState, MasterDoing, VersionAttempt, master_begins, logs}
use Rattle.protocol.specs.MasterClones.{CloneOrder, orders_clone, best_clone}
use Rattle.protocol.specs.MasterStep.{master_ticks, is_in_time, gives_up_attempts, gives_up_lost_copies, is_lost_copy, lost_copies, expires_all, expires_old, expired_files, master_takes, master_does, master_at, master_goes}
use Rattle.laws_base.proofs.VersionAttempts.{IsServerNumber, AreTold, kept_told}
use Rattle.laws_base.proofs.LeasesEnded.{AreReady, later_ready, kept_ready}
use Rattle.laws_base.proofs.Namespace.{IsNamespace, filtered_namespace, expired_names}
use Rattle.laws_base.proofs.CopiesUnderWay.{keys_copied}
use Rattle.laws_base.proofs.MasterMoves.{Core, core_of, Nothing, NoneEnded, Keeps, At, logs_keeps}
use Rattle.laws_base.proofs.MasterNamesMoves.{orders_keeps, copies_keeps, ready_keeps, look_keeps, name_keeps}
use Rattle.laws_base.proofs.MasterChunksMoves.{AreLinesTold, ask_keeps, takes_recorded_keeps, takes_revoked_keeps, report_keeps}

-- what a message tells was told
abbrev pub IsWordTold : (ℕ → ℕ → ℕ → Type 0) → (ℕ → ℕ → Type 0) → ℕ → Body → Type 0
IsWordTold Told Ended server (body.Recorded handle version) = IsServerNumber server → Told server handle.0 version.0
IsWordTold Told Ended server (body.Report replicas leases) = AreLinesTold Told server replicas
IsWordTold Told Ended server (body.Revoked handle version) = Ended handle.0 version.0
IsWordTold Told Ended server other = Unit {0}

abbrev pub IsInputTold : (ℕ → ℕ → ℕ → Type 0) → (ℕ → ℕ → Type 0) → NodeInput → Type 0
IsInputTold Told Ended (input.Deliver m) = IsWordTold Told Ended (server_number m.sender) m.body
IsInputTold Told Ended input.Tick = Unit {0}

module _ (Asks : Type 0) (Told : ℕ → ℕ → ℕ → Type 0) (Ended : ℕ → ℕ → Type 0) (P : Core → Type 0) (k : Keeps Asks Told Ended P) where
  expires_keeps : (d : MasterDoing) (files : List ℕ) → At Asks Told Ended P k d → At Asks Told Ended P k (expires_all d files)
  expires_keeps d [] h = h
  expires_keeps d (file ∷ rest) h =
      expires_keeps (logs d (log.Expired (file_id file)) (λ e. e)) rest (logs_keeps Asks Told Ended P k d (log.Expired (file_id file)) (λ e. e) tt tt (λ asks. record { due = tt; after = expired_names d.master.logged.names file d.master.snapshots (h.2 asks) }) (λ e. λ g. g) h)

  clone_keeps : (d : MasterDoing) (o : Option CloneOrder) → At Asks Told Ended P k d → At Asks Told Ended P k (orders_clone d o)
  clone_keeps d None h = h
  clone_keeps d (Some c) h = orders_keeps Asks Told Ended P k d c.target (λ order. body.Clone order (handle_of c.handle) (version_of c.version) (server_id c.source)) (λ o. refl) (λ o. tt) h

  tick_keeps : (d : MasterDoing) → At Asks Told Ended P k d → At Asks Told Ended P k (master_ticks d)
  tick_keeps d h =
      let a : MasterDoing = gives_up_attempts d in
      let b : MasterDoing = gives_up_lost_copies a in
      let c : MasterDoing = expires_old b in
      clone_keeps c (best_clone c.master (table.entries c.master.logged.table.chunks)) (expires_keeps b (expired_files b.master) (copies_keeps Asks Told Ended P k a (lost_copies a.master) (keys_copied a.master.logged (is_lost_copy a.master)) (h.0, kept_told Told (is_in_time d.master) d.master.attempts h.1, h.2, λ asks. kept_ready d.master.now (is_in_time d.master) d.master.attempts d.master.logged (h.3 asks))))

  takes_keeps : (d : MasterDoing) (m : Message) (b : Body) → IsWordTold Told Ended (server_number m.sender) b → (Asks → d.master.logged.next_file ≤ counter_limit) → At Asks Told Ended P k d → At Asks Told Ended P k (master_takes d m b)
  takes_keeps d m (body.Name number deadline c) told bound h = name_keeps Asks Told Ended P k d (client_number m.sender) number deadline.0 c bound h
  takes_keeps d m (body.Look number c) told bound h = look_keeps Asks Told Ended P k d m.sender number c h
  takes_keeps d m (body.Ask number file wanted deadline lost) told bound h = ask_keeps Asks Told Ended P k d m.sender number file.0 wanted deadline.0 lost h
  takes_keeps d m (body.Recorded handle version) told bound h = takes_recorded_keeps Asks Told Ended P k d (server_number m.sender) handle.0 version.0 told h
  takes_keeps d m (body.Revoked handle version) told bound h = takes_revoked_keeps Asks Told Ended P k d (server_number m.sender) handle.0 version.0 told h
  takes_keeps d m (body.Report replicas leases) told bound h = report_keeps Asks Told Ended P k d (server_number m.sender) replicas leases told h
  takes_keeps d m other told bound h = h

  does_keeps : (d : MasterDoing) (i : NodeInput) → IsInputTold Told Ended i → (Asks → d.master.logged.next_file ≤ counter_limit) → At Asks Told Ended P k d → At Asks Told Ended P k (master_does d i)
  does_keeps d (input.Deliver m) told bound h = takes_keeps d m m.body told bound h
  does_keeps d input.Tick told bound h = tick_keeps d h

  -- the step of a master that is up, where nothing hinders it
  pub goes_told : (m : MasterState) (moment : ℕ) (i : NodeInput) (refused : List Bool) → IsInputTold Told Ended i → (Asks → m.logged.next_file ≤ counter_limit) → At Asks Told Ended P k (master_begins (master_at m moment) refused)
      → At Asks Told Ended P k (master_goes m moment i refused)
  goes_told m moment i refused told bound h =
      let d : MasterDoing = master_does (master_begins (master_at m moment) refused) i in
      ready_keeps Asks Told Ended P k d (does_keeps (master_begins (master_at m moment) refused) i told bound h)

-- what asks nothing of words

no_lines : (server : ℕ) (lines : List ReplicaLine) → AreLinesTold Nothing server lines
no_lines server [] = tt
no_lines server (line ∷ rest) = (λ is. tt, no_lines server rest)

no_word : (server : ℕ) (b : Body) → IsWordTold Nothing NoneEnded server b
no_word server (body.Recorded handle version) = λ is. tt
no_word server (body.Report replicas leases) = no_lines server replicas
no_word server other = tt

pub no_input : (i : NodeInput) → IsInputTold Nothing NoneEnded i
no_input (input.Deliver m) = no_word (server_number m.sender) m.body
no_input input.Tick = tt

none_asked : (attempts : Table VersionAttempt) → AreTold Nothing attempts
none_asked attempts handle a is = record { servers = λ n there. inr (λ h v. tt); recorded = λ n there. tt }

-- the step, where nothing is asked of words and of names
pub goes_keeps : (P : Core → Type 0) (k : Keeps ⊥ Nothing NoneEnded P) (m : MasterState) (moment : ℕ) (i : NodeInput) (refused : List Bool) → P (core_of (master_begins (master_at m moment) refused))
    → P (core_of (master_goes m moment i refused))
goes_keeps P k m moment i refused h = (goes_told ⊥ Nothing NoneEnded P k m moment i refused (no_input i) (λ asks. absurd asks) (h, none_asked m.attempts, λ asks. absurd asks, λ asks. absurd asks)).0

-- the step, where names are asked for
pub goes_named : (Ended : ℕ → ℕ → Type 0) (P : Core → Type 0) (k : Keeps (Unit {0}) Nothing Ended P) (m : MasterState) (moment : ℕ) (i : NodeInput) (refused : List Bool) → IsInputTold Nothing Ended i → m.logged.next_file ≤ counter_limit
    → IsNamespace m.logged.names m.snapshots → AreReady m.now m.attempts m.logged → P (core_of (master_begins (master_at m moment) refused))
    → P (core_of (master_goes m moment i refused)) × IsNamespace (master_goes m moment i refused).master.logged.names (master_goes m moment i refused).master.snapshots
    × AreReady (master_goes m moment i refused).master.now (master_goes m moment i refused).master.attempts (master_goes m moment i refused).master.logged
goes_named Ended P k m moment i refused told bound names ready h =
    let live : IsNamespace m.logged.names (live_snapshots (max m.now moment) m.snapshots) = filtered_namespace m.logged.names (λ s. nat_lt (max m.now moment) s.deadline) m.snapshots names in
    let end = goes_told (Unit {0}) Nothing Ended P k m moment i refused told (λ asks. bound) (h, none_asked m.attempts, λ asks. live, λ asks. later_ready m.now (max m.now moment) m.attempts m.logged (le-max_left m.now moment) ready) in
    (end.0, end.2 tt, end.3 tt)
