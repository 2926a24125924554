-- In each reached world whose clocks were kept, each copy that is under way at a master that is up is of a chunk without a version attempt, whose last lease has ended.
use Rattle.std.proofs.Common.{◌≡◌, ◌⊎◌, ℕ, suc, ◌≤◌, ◌<◌, Bool, true, false, List, [], ◌∷◌, Option, Some, None, refl, sym, ap, subst, ◌∙◌, inl, inr, arith}
use Rattle.std.specs.Prelude.{◌&&◌, max, IsTrue}
use Rattle.std.specs.Ordering.{nat_cmp}
use Rattle.std.specs.FinMap as table
use Rattle.std.proofs.Math.Nat.{le-max_left}
use Rattle.gfs_types.specs.declared.config.Config.{Config}
use Rattle.gfs_types.specs.declared.ids.Node.{Node}
use Rattle.messages.specs.declared.event.Event.{Event}
use Rattle.messages.specs.declared.event.NodeInput.{NodeInput}
use Rattle.messages.specs.declared.event.NodeInput.TheVariants as input
use Rattle.messages.specs.declared.message.Body.{Body}
use Rattle.messages.specs.declared.message.Body.TheVariants as body
use Rattle.messages.specs.declared.message.Message.{Message}
use Rattle.log_records.specs.declared.record.Record.{Record}
use Rattle.log_records.specs.declared.record.Record.TheVariants as log
use Rattle.chunk_table.specs.ChunkTable.{ChunkRow, chunk_of}
use Rattle.protocol.specs.Choice.{Choice, Ending, Goes, Lost, Stops}
use Rattle.protocol.specs.Seen.{Taken, no_step}
use Rattle.protocol.specs.Logged.{Logged, Copy, LogDisk, LogChange, AppendRecord, WriteCheckpoint}
use Rattle.protocol.specs.Master.{MasterState, MasterDoing, stopped_master, master_begins}
use Rattle.protocol.specs.MasterStep.{master_does, master_takes, master_at, master_goes, master_ends, master_bounded, master_step, may_end, is_within_limits, found_log, started_master, opening, has_opened, opens_as, master_restart}
use Rattle.protocol.specs.Tables.{removed_all}
use Rattle.protocol.specs.World.{WorldState, Happened, new_world, happens, after_events, IsReached}
use Rattle.laws_base.specs.Laws.{times_in}
use Rattle.laws_base.proofs.Steps.{on_cond, none_some, removed_cases}
use Rattle.laws_base.proofs.CopiesUnderWay.{no_copies}
use Rattle.laws_base.proofs.ChunkRows.{rows_of}
use Rattle.laws_base.proofs.CountsLogged.{apart_here}
use Rattle.laws_base.proofs.FilesNamed.{Files}
use Rattle.laws_base.proofs.GrantsOnce.{row_below}
use Rattle.laws_base.proofs.LeasesEnded.{HasEnded}
use Rattle.laws_base.proofs.LeasesTimely.{IsOfTimes, times_kept}
use Rattle.laws_base.proofs.LoggedParts.{Parts}
use Rattle.laws_base.proofs.MasterMoves.{logs_alone}
use Rattle.laws_base.proofs.NamesReached.{IsUpToLog, logged_here}
use Rattle.laws_base.proofs.OrderNumbers.{state_of}
use Rattle.laws_base.proofs.Owners.{chunks_at, placed_stands, times_at_least, chunk_row}
use Rattle.laws_base.proofs.RowsKept.{rows_kept}
use Rattle.laws_base.proofs.RowsLogged.{IsFoundRows, IsRowedLog}
use Rattle.laws_base.proofs.ScenesReached.{scene_of, scene_reached}
use Rattle.laws_base.proofs.Awaited.{Attempts}
use Rattle.laws_base.proofs.Events.{HoldsAfter, holds_after}
use Rattle.laws_base.proofs.EndedLeases.{ended_leases_are_over}
use Rattle.laws_base.proofs.LeasesStayOver.{reached_later}
use Rattle.laws_versions.proofs.ClosedVersions.{clocks_before}
use Rattle.laws_base.proofs.MasterPremises.{IsAsk}
use Rattle.laws_versions.proofs.SharedChunks.{shared_chunks_have_no_lease}
use Rattle.laws_versions.specs.CopiedSources.{CopiedChunksHaveNoLease}
use Rattle.laws_versions.proofs.UnaskedSteps.{is_location, IsOfNames, IsNoAsk, IsUnasked, ready, does_kept}
use Rattle.laws_versions.proofs.FreeSources.{IsUntried, AreFree, IsFine, fine_names, fine_reports}
use Rattle.laws_versions.proofs.AskedSteps.{IsSaid, plain_said, IsNoGrant, names_grant_nothing, Post, ask_post, begun_here, post_free, post_fine}

pub asked_or_not : (i : NodeInput) → IsUnasked i ⊎ IsAsk i
asked_or_not input.Tick = inl tt
asked_or_not (input.Deliver m) = by_body m.body refl
  where
    by_body : (b : Body) → m.body ≡ b → IsUnasked (input.Deliver m) ⊎ IsAsk (input.Deliver m)
    by_body (body.Ask number file w deadline lost) is = inr (record { message = m; number = number; file = file; what = w; deadline = deadline; lost = lost; taken = refl; is = is })
    by_body other is = inl (subst (λ (b : Body). IsNoAsk b) (sym is) tt)

-- a change of the log that issues no number and begins no copy
abbrev pub IsNoStartRecord : Record → Type 0
IsNoStartRecord (log.Issue handle version) = ⊥
IsNoStartRecord (log.CopyStart file index source copy copy_version) = ⊥
IsNoStartRecord other = Unit {0}

abbrev pub IsNoStart : LogChange → Type 0
IsNoStart (AppendRecord entry) = IsNoStartRecord entry
IsNoStart (WriteCheckpoint items) = Unit {0}

pub names_start_nothing : (r : Record) → IsOfNames r → IsNoStart (AppendRecord r)
names_start_nothing (log.Issue handle version) is = absurd is
names_start_nothing (log.CopyStart file index source copy copy_version) is = absurd is
names_start_nothing other is = tt

abbrev pub IsSilent : Message → Type 0
IsSilent m = is_location m.body ≡ false

abbrev pub IsUnaskedStep : MasterDoing → Type 0
IsUnaskedStep d = IsFine IsSilent IsNoStart (λ receiver b none. none) names_start_nothing (λ items. tt) d

abbrev pub IsAskedStep : Logged → Node → ℕ → ℕ → MasterDoing → Type 0
IsAskedStep l asker asked file d = IsFine (IsSaid l asker asked file) IsNoGrant (plain_said l asker asked file) names_grant_nothing (λ items. tt) d

free_later : (l : Logged) (tried : Attempts) (now later : ℕ) → now ≤ later → AreFree l tried now → AreFree l tried later
free_later l tried now later more h copy c is = let old = h copy c is in (old.0, λ row at. let low = old.1 row at in omega (arith, low, more))

-- a step of a master that is up in a reached world
module _ (config : Config) (servers clients : ℕ) (w : WorldState) (r : IsReached config servers clients w) (clocks : IsTrue w.observer.are_clocks_kept) (up : IsTrue w.master.up) (free : AreFree w.master.logged w.master.attempts w.master.now) (moment : ℕ) where
  abbrev m : MasterState
  m = w.master

  u : IsUpToLog IsFoundRows IsRowedLog rows_kept w.master
  u = (logged_here IsFoundRows IsRowedLog rows_kept config servers clients w r).1.up up

  begun_free : AreFree m.logged m.attempts (max m.now moment)
  begun_free = free_later m.logged m.attempts m.now (max m.now moment) (le-max_left m.now moment) free

  pub unasked_step : (i : NodeInput) (refused : List Bool) → IsUnasked i → IsUnaskedStep (master_goes w.master moment i refused)
  unasked_step i refused none =
      let names = fine_names IsSilent IsNoStart (λ receiver b plain. plain) names_start_nothing (λ items. tt) in
      let reports = fine_reports IsSilent IsNoStart (λ receiver b plain. plain) names_start_nothing (λ items. tt) (λ handle version primary members. tt) in
      let first : MasterDoing = master_begins (master_at m moment) refused in
      let done : MasterDoing = master_does first i in
      ready IsUnaskedStep names done done.master.snapshots (does_kept IsUnaskedStep names reports first i none (record { free = begun_free; sent = tt; changes = tt }))

  -- handles of sources were used, and are no copies'
  source_used : (copy : ℕ) (c : Copy) → table.get m.logged.copies copy ≡ Some c → 1 ≤ times_in m.logged.table.files c.source
  source_used copy c is =
      let some = placed_stands (chunks_at m.logged.table.files c.file) c.index c.source (u.tied.base.placed copy c is) in
      let low = times_at_least m.logged.table.files c.file c.source in
      omega (arith, some, low)

  handles_used : (copy : ℕ) (c : Copy) → table.get m.logged.copies copy ≡ Some c → c.source < m.logged.next_handle
  handles_used copy c is =
      let more = source_used copy c is in
      let low = u.tied.base.log.below c.source (let same = ap (λ (f : Files). times_in f c.source) u.tied.base.base.files in omega (arith, same, more)) in
      let next = ap (λ (p : Parts). p.next_handle) u.same in
      omega (arith, low, next)

  handles_apart : (copy other : ℕ) (c d : Copy) → table.get m.logged.copies copy ≡ Some c → table.get m.logged.copies other ≡ Some d → c.source ≡ other → ⊥
  handles_apart copy other c d is also same =
      let more = source_used copy c is in
      let none = ap (λ (n : ℕ). times_in m.logged.table.files n) same ∙ apart_here m.logged (state_of m.disk) u.tied.base other d also in
      omega (arith, more, none)

  shared_untried : (q : ℕ) (row : ChunkRow) → chunk_of m.logged.table q ≡ Some row → 2 ≤ row.references → IsUntried m.attempts q
  shared_untried q row at owners a is = none_some a (sym (shared_chunks_have_no_lease config servers clients w r clocks up q row at owners).0 ∙ is)

  pub asked_step : (i : NodeInput) (refused : List Bool) (ask : IsAsk i) → IsAskedStep w.master.logged (ask.message).sender ask.number (ask.file).0 (master_goes w.master moment i refused)
  asked_step i refused ask = subst (λ (j : NodeInput). IsAskedStep m.logged x.sender ask.number (ask.file).0 (master_goes m moment j refused)) (sym ask.taken) goes
    where
      x : Message
      x = ask.message

      first : MasterDoing
      first = master_begins (master_at m moment) refused

      done : MasterDoing
      done = master_takes first x x.body

      one : IsAskedStep m.logged x.sender ask.number (ask.file).0 done
      one =
          subst (λ (b : Body). IsAskedStep m.logged x.sender ask.number (ask.file).0 (master_takes first x b)) (sym ask.is)
          (record {
            free = post_free m.logged m.attempts (max m.now moment) x.sender ask.number (ask.file).0 (row_below m.logged (state_of m.disk) u.same u.tied) handles_apart handles_used shared_untried begun_free asked post;
            sent = (post_fine m.logged m.attempts (max m.now moment) x.sender ask.number (ask.file).0 (row_below m.logged (state_of m.disk) u.same u.tied) handles_apart handles_used shared_untried begun_free asked post).0;
            changes = (post_fine m.logged m.attempts (max m.now moment) x.sender ask.number (ask.file).0 (row_below m.logged (state_of m.disk) u.same u.tied) handles_apart handles_used shared_untried begun_free asked post).1;
          })
        where
          asked : MasterDoing
          asked = master_takes first x (body.Ask ask.number ask.file ask.what ask.deadline ask.lost)

          post : Post m.logged m.attempts (max m.now moment) x.sender ask.number (ask.file).0 (row_below m.logged (state_of m.disk) u.same u.tied) handles_apart handles_used shared_untried begun_free asked
          post =
              ask_post m.logged m.attempts (max m.now moment) x.sender ask.number (ask.file).0 (row_below m.logged (state_of m.disk) u.same u.tied) handles_apart handles_used shared_untried begun_free first ask.what ask.deadline.0 ask.lost refl
              (begun_here m.logged m.attempts (max m.now moment) x.sender ask.number (ask.file).0 (row_below m.logged (state_of m.disk) u.same u.tied) handles_apart handles_used shared_untried begun_free first refl refl refl refl refl)

      goes : IsAskedStep m.logged x.sender ask.number (ask.file).0 (master_goes m moment (input.Deliver x) refused)
      goes = ready (IsAskedStep m.logged x.sender ask.number (ask.file).0) (fine_names (IsSaid m.logged x.sender ask.number (ask.file).0) IsNoGrant (plain_said m.logged x.sender ask.number (ask.file).0) names_grant_nothing (λ items. tt)) done done.master.snapshots one

  goes_free : (i : NodeInput) (refused : List Bool) → (let d : MasterDoing = master_goes w.master moment i refused in AreFree d.master.logged d.master.attempts d.master.now)
  goes_free i refused = elim (asked_or_not i) [ inl none ↦ (unasked_step i refused none).free | inr ask ↦ (asked_step i refused ask).free ]

-- worlds

abbrev IsFreeHere : MasterState → Type 0
IsFreeHere m = IsTrue m.up → AreFree m.logged m.attempts m.now

down_free : (m : MasterState) → m.up ≡ false → IsFreeHere m
down_free m down up = absurd (let both : true ≡ false = sym up ∙ down in cc)

opened_free : (config : Config) (count : ℕ) (found : LogDisk) (moment : ℕ) → (let d : MasterDoing = opening (started_master config count found moment) in (copy : ℕ) (c : Copy) → table.get d.master.logged.copies copy ≡ Some c → ⊥)
opened_free config count found moment =
    let started : MasterState = started_master config count found moment in
    let d : MasterDoing = master_begins started [] in
    let first : (copy : ℕ) (c : Copy) → table.get started.logged.copies copy ≡ Some c → ⊥ = λ copy c is. none_some c (sym (no_copies (state_of found).copies copy) ∙ is) in
    let less : (copy : ℕ) (c : Copy) → table.get (removed_all started.logged.copies (table.keys started.logged.copies)) copy ≡ Some c → ⊥ = λ copy c is. first copy c (removed_cases started.logged.copies (table.keys started.logged.copies) copy c is) in
    logs_alone (λ e. (copy : ℕ) (c : Copy) → table.get e.master.logged.copies copy ≡ Some c → ⊥) d (log.Epoch (suc started.logged.epoch)) first first less less

opens_here : (old started : MasterState) (d : MasterDoing) (choice : Choice) (e : Ending) → ((copy : ℕ) (c : Copy) → table.get d.master.logged.copies copy ≡ Some c → ⊥) → IsFreeHere (opens_as old started d choice e).state
opens_here old started d choice Goes none =
    on_cond (λ (t : Taken MasterState). IsFreeHere t.state) (has_opened started d && is_within_limits d.master) _ _ (λ _. λ up copy c is. absurd (none copy c is)) (λ _. down_free (stopped_master old d.master.disk []) refl)
opens_here old started d choice Lost none = down_free (opens_as old started d choice Lost).state refl
opens_here old started d choice (Stops made) none = down_free (opens_as old started d choice (Stops made)).state refl

module _ (config : Config) (servers clients : ℕ) (w : WorldState) (r : IsReached config servers clients w) (clocks : IsTrue w.observer.are_clocks_kept) (h : IsFreeHere w.master) where
  steps_free : (moment : ℕ) (i : NodeInput) (choice : Choice) → IsTrue w.master.up → IsFreeHere (master_step w.master moment i choice).state
  steps_free moment i choice up =
      let d : MasterDoing = master_goes w.master moment i choice.refused in
      on_cond (λ (t : Taken MasterState). IsFreeHere t.state) w.master.up (master_bounded w.master i d choice) (no_step w.master)
      (λ _. on_cond (λ (t : Taken MasterState). IsFreeHere t.state) (may_end w.master i d choice.ending) (master_ends w.master d choice choice.ending) (no_step w.master) (λ _. by_ending choice.ending) (λ _. h)) (λ _. h)
    where
      by_ending : (e : Ending) → IsFreeHere (master_ends w.master (master_goes w.master moment i choice.refused) choice e).state
      by_ending Goes = λ _. goes_free config servers clients w r clocks up (h up) moment i choice.refused
      by_ending Lost = down_free (master_ends w.master (master_goes w.master moment i choice.refused) choice Lost).state refl
      by_ending (Stops made) = down_free (master_ends w.master (master_goes w.master moment i choice.refused) choice (Stops made)).state refl

  opens_free : (moment : ℕ) (choice : Choice) → IsFreeHere (master_restart w.master moment choice).state
  opens_free moment choice =
      let started : MasterState = started_master w.master.config w.master.server_count (found_log w.master choice) moment in
      opens_here w.master started (opening started) choice choice.ending (opened_free w.master.config w.master.server_count (found_log w.master choice) moment)

  each_free : HoldsAfter w (λ e x. IsFreeHere x.world.master)
  each_free =
      record {
        nothing = λ e. h;
        masters = λ e moment i choice is up. steps_free moment i choice up;
        opens = λ e moment choice. opens_free moment choice;
        serves = λ e index moment s i choice at is up. h;
        restarts = λ e index moment s choice at. h;
        steps = λ e index moment s i choice at is up. h;
        calls = λ e index moment s c choice at may. h;
        rots = λ e index handle s x place byte ending is_kept at there up. h;
      }

free_on : (config : Config) (servers clients : ℕ) (w : WorldState) → IsReached config servers clients w → (IsTrue w.observer.are_clocks_kept → IsFreeHere w.master) → (steps : List (Event × Choice)) → IsTrue (after_events w steps).observer.are_clocks_kept
    → IsFreeHere (after_events w steps).master
free_on config servers clients w r h [] clocks = h clocks
free_on config servers clients w r h (step ∷ rest) clocks =
    let x : Happened = happens w step.0 step.1 in
    free_on config servers clients x.world (reached_later config servers clients w (step ∷ []) r)
    (λ now. let before = clocks_before w (step ∷ []) now in holds_after w (λ e y. IsFreeHere y.world.master) (each_free config servers clients w r before (h before)) step.0 step.1) rest clocks

-- while a copy is under way, its source is free
pub free_reached : (config : Config) (servers clients : ℕ) (w : WorldState) → IsReached config servers clients w → IsTrue w.observer.are_clocks_kept → IsTrue w.master.up → AreFree w.master.logged w.master.attempts w.master.now
free_reached config servers clients w r clocks =
    subst (λ (v : WorldState). IsTrue v.observer.are_clocks_kept → IsFreeHere v.master) r.1
    (free_on config servers clients (new_world config servers clients) ([], refl) (λ now up copy c is. none_some c (sym (table.get-empty nat_cmp copy) ∙ is)) r.0) clocks

no_value : {X : Type 0} (o : Option X) → ((x : X) → o ≡ Some x → ⊥) → o ≡ None
no_value None h = refl
no_value (Some x) h = absurd (h x refl)

pub copied_chunks_have_no_lease : CopiedChunksHaveNoLease
copied_chunks_have_no_lease config servers clients w r clocks up copy c is = (
  no_value (table.get w.master.attempts c.source) free.0,
  λ version. ended_leases_are_over config servers clients w r clocks up c.source row.0 row.1 version (λ _. let low = free.1 row.0 row.1 in let now = (times.clock).1 in omega (arith, low, now)),
)
  where
    free : IsUntried w.master.attempts c.source × HasEnded w.master.now (rows_of w.master.logged) c.source
    free = free_reached config servers clients w r clocks up copy c is

    u : IsUpToLog IsFoundRows IsRowedLog rows_kept w.master
    u = (logged_here IsFoundRows IsRowedLog rows_kept config servers clients w r).1.up up

    row : (row : ChunkRow) × (table.get (rows_of w.master.logged) c.source ≡ Some row)
    row = chunk_row w.master.logged.table c.file c.source u.tied.base.counted (placed_stands (chunks_at w.master.logged.table.files c.file) c.index c.source (u.tied.base.placed copy c is))

    times : IsOfTimes (scene_of w)
    times = scene_reached IsOfTimes times_kept config servers clients w r
