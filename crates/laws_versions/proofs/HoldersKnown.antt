-- What the master knows of each server's replicas after a step: what it knew, and what a server said in the step.
use Rattle.std.proofs.Common.{◌≡◌, ℕ, zero, suc, List, [], ◌∷◌, map, Option, Some, refl, sym, ap, subst, ◌∙◌, inl, inr}
use Rattle.std.specs.Prelude.{◌&&◌, IsTrue, unwrap_or}
use Rattle.std.specs.Ordering.{nat_cmp}
use Rattle.std.specs.Cmp.{nat_cmp_total}
use Rattle.std.specs.FinMap as table
use Rattle.std.proofs.lemmas.Bool.{true≢false}
use Rattle.gfs_types.specs.declared.ids.Handle.{Handle}
use Rattle.gfs_types.specs.declared.ids.Version.{Version}
use Rattle.messages.specs.declared.event.NodeInput.{NodeInput}
use Rattle.messages.specs.declared.event.NodeInput.TheVariants as input
use Rattle.messages.specs.declared.message.Body.{Body}
use Rattle.messages.specs.declared.message.Message.{Message}
use Rattle.messages.specs.declared.message.ReplicaLine.{ReplicaLine}
use Rattle.log_records.specs.declared.record.Record.{Record}
use Rattle.log_records.specs.declared.record.Record.TheVariants as log
use Rattle.protocol.specs.Choice.{Choice, Ending, Goes, Lost, Stops}
use Rattle.protocol.specs.Seen.{Taken, no_step}
use Rattle.protocol.specs.Tables.{Table, element_at}
use Rattle.protocol.specs.Sending.{server_number}
use Rattle.protocol.specs.Logged.{Logged}
use Rattle.protocol.specs.Master.{MasterState, MasterDoing, master_begins}
use Rattle.protocol.specs.MasterStep.{master_at, master_goes, master_ends, master_bounded, master_step, may_end, is_within_limits, found_log, started_master, opening, has_opened, opens_as}
use Rattle.protocol.specs.MasterStep.{master_restart}
use Rattle.laws_base.proofs.Steps.{on_cond, none_some, same_or_not, put_cases, put_there, put_other}
use Rattle.laws_base.proofs.Entries.{AllOf, found_passes}
use Rattle.laws_base.proofs.MasterPremises.{AnyDoing, any_kept, StepEffects, SaysOne, NameKeeps, MasterKeeps}
use Rattle.laws_base.proofs.MasterWalk.{logged_here, goes_here}
use Rattle.laws_versions.specs.ToldVersions.{SaysVersion}

-- T of a server, a chunk and a version
module _ (T : ℕ → ℕ → ℕ → Type 0) where
  abbrev pub AreKnownBy : Table (Table ℕ) → Type 0
  AreKnownBy holders = (server handle version : ℕ) → table.get (unwrap_or (table.get holders server) table.empty) handle ≡ Some version → T server handle version

  pub none_known : AreKnownBy table.empty
  none_known server handle version is =
      none_some version (sym (ap (λ (o : Option (Table ℕ)). table.get (unwrap_or o table.empty) handle) (table.get-empty nat_cmp server) ∙ table.get-empty nat_cmp handle) ∙ is)

  put_known : (holders : Table (Table ℕ)) (server : ℕ) (new : Table ℕ) → ((handle version : ℕ) → table.get new handle ≡ Some version → T server handle version) → AreKnownBy holders
      → AreKnownBy (table.insert holders server new)
  put_known holders server new said h other handle version is =
      elim (same_or_not other server) [
        | inl same ↦
            subst (λ (k : ℕ). T k handle version) (sym same)
            (said handle version (sym (ap (λ (o : Option (Table ℕ)). table.get (unwrap_or o table.empty) handle) (put_there holders server new other same)) ∙ is))
        | inr not_it ↦ h other handle version (sym (ap (λ (o : Option (Table ℕ)). table.get (unwrap_or o table.empty) handle) (put_other holders server new other not_it)) ∙ is)
      ]

  one_known : (holders : Table (Table ℕ)) (server handle version : ℕ) → T server handle version → AreKnownBy holders
      → AreKnownBy (table.insert holders server (table.insert (unwrap_or (table.get holders server) table.empty) handle version))
  one_known holders server handle version said h =
      let old : Table ℕ = unwrap_or (table.get holders server) table.empty in
      put_known holders server (table.insert old handle version)
      (λ q v is. elim (put_cases old handle version q v is) [
        | inl same ↦ subst (λ (k : ℕ). T server k v) (sym same.0) (subst (λ (n : ℕ). T server handle n) same.1 said)
        | inr before ↦ h server q v before
      ]) h

  lines_known : (server : ℕ) (lines : List ReplicaLine) → ((place : ℕ) (line : ReplicaLine) → element_at lines place ≡ Some line → T server line.handle.0 line.version.0)
      → AllOf (λ (e : ℕ × ℕ). T server e.0 e.1) (map (λ line. (line.handle.0, line.version.0)) lines)
  lines_known server [] said = tt
  lines_known server (line ∷ lines) said = (said zero line refl, lines_known server lines (λ place x at. said (suc place) x at))

  all_known : (holders : Table (Table ℕ)) (server : ℕ) (lines : List ReplicaLine) → ((place : ℕ) (line : ReplicaLine) → element_at lines place ≡ Some line → T server line.handle.0 line.version.0)
      → AreKnownBy holders → AreKnownBy (table.insert holders server (table.from_entries (map (λ line. (line.handle.0, line.version.0)) lines)))
  all_known holders server lines said h =
      let es : List (ℕ × ℕ) = map (λ line. (line.handle.0, line.version.0)) lines in
      put_known holders server (table.from_entries es)
      (λ q v is. found_passes (λ (e : ℕ × ℕ). T server e.0 e.1) es q v (lines_known server lines said) (sym (table.get-from_entries nat_cmp_total es q) ∙ is)) h

  -- what comes in says so
  abbrev pub IsInputSaid : NodeInput → Type 0
  IsInputSaid i = (x : Message) → i ≡ input.Deliver x → (handle version : ℕ) → SaysVersion x.body handle version → T (server_number x.sender) handle version

  one_said : (b : Body) (handle : Handle) (version : Version) → SaysOne b handle version → SaysVersion b handle.0 version.0
  one_said b handle version (inl is) = subst (λ (x : Body). SaysVersion x handle.0 version.0) (sym is) (refl, refl)
  one_said b handle version (inr is) = subst (λ (x : Body). SaysVersion x handle.0 version.0) (sym is) (refl, refl)

  abbrev AreEffects : StepEffects → Type 0
  AreEffects g = AreKnownBy g.holders

  keeps : (l : Logged) (i : NodeInput) → IsInputSaid i → MasterKeeps l i AnyDoing AreEffects
  keeps l i said =
      record {
        answered = λ g receiver b is h. h;
        ordered = λ g server b is h. h;
        extended = λ g server line until is h. h;
        dropped = λ g server order line is useless h. h;
        recorded = λ g r is h. h;
        checkpointed = λ g items h. h;
        shown = λ g handle copy ask new h. h;
        held = λ g x handle version came is h. one_known g.holders (server_number x.sender) handle.0 version.0 (said x came handle.0 version.0 (one_said x.body handle version is)) h;
        heard = λ g x replicas leases came is h.
            all_known g.holders (server_number x.sender) replicas
            (λ place line at. said x came line.handle.0 line.version.0 (subst (λ (b : Body). SaysVersion b line.handle.0 line.version.0) (sym is) (place, line, at, refl, refl))) h;
      }

  -- of one that took a step or opened
  abbrev pub IsKnownAfter : Taken MasterState → Type 0
  IsKnownAfter t = IsTrue t.state.up → AreKnownBy t.state.holders

  ends_known : (m : MasterState) (d : MasterDoing) (choice : Choice) (e : Ending) → AreKnownBy d.master.holders → IsKnownAfter (master_ends m d choice e)
  ends_known m d choice Goes h = λ _. h
  ends_known m d choice Lost h = λ up. absurd (true≢false (sym up))
  ends_known m d choice (Stops made) h = λ up. absurd (true≢false (sym up))

  pub step_known : (m : MasterState) (moment : ℕ) (i : NodeInput) (choice : Choice) → IsInputSaid i → (IsTrue m.up → AreKnownBy m.holders) → IsKnownAfter (master_step m moment i choice)
  step_known m moment i choice said h =
      let d : MasterDoing = master_goes m moment i choice.refused in
      let first : MasterDoing = master_begins (master_at m moment) choice.refused in
      on_cond IsKnownAfter m.up (master_bounded m i d choice) (no_step m)
      (λ up. on_cond IsKnownAfter (may_end m i d choice.ending) (master_ends m d choice choice.ending) (no_step m)
      (λ _. ends_known m d choice choice.ending (goes_here m.logged i AnyDoing AreEffects (keeps m.logged i said) any_kept first refl tt (h up))) (λ _. h))
      (λ _. h)

  abbrev Any : Record → Type 0
  Any r = Unit {0}

  names : NameKeeps Any AreEffects
  names = record { named = λ g receiver number reply h. h; recorded = λ g r is h. h; checkpointed = λ g items h. h }

  opens_known : (old : MasterState) (moment : ℕ) (choice : Choice) (e : Ending)
      → (let started : MasterState = started_master old.config old.server_count (found_log old choice) moment in IsKnownAfter (opens_as old started (opening started) choice e))
  opens_known old moment choice Lost = λ up. absurd (true≢false (sym up))
  opens_known old moment choice (Stops made) = λ up. absurd (true≢false (sym up))
  opens_known old moment choice Goes =
      let started : MasterState = started_master old.config old.server_count (found_log old choice) moment in
      let d : MasterDoing = opening started in
      on_cond IsKnownAfter (has_opened started d && is_within_limits d.master) _ _
      (λ _ _. logged_here Any (λ r is. tt) AreEffects names (master_begins started []) (log.Epoch (suc started.logged.epoch)) (λ e. e) tt (λ e g. g) none_known)
      (λ _ up. absurd (true≢false (sym up)))

  pub restart_known : (m : MasterState) (moment : ℕ) (choice : Choice) → IsKnownAfter (master_restart m moment choice)
  restart_known m moment choice = opens_known m moment choice choice.ending
