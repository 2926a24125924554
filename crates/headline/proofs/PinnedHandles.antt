-- A handle that was told at a place of a file: up to a version that was issued then, no number of it is attempted but while it stands there, and what takes the place has passed the version.
use Rattle.std.proofs.Common.{◌≡◌, ◌⊎◌, ℕ, suc, ◌≤◌, ◌<◌, Bool, true, false, List, [], ◌∷◌, Option, Some, None, refl, sym, ap, subst, ◌∙◌, inl, inr, arith}
use Rattle.std.specs.Prelude.{◌&&◌, IsTrue, IsFalse}
use Rattle.std.specs.Ordering.{nat_cmp}
use Rattle.std.specs.FinMap as table
use Rattle.std.proofs.lemmas.Bool.{cases_lt}
use Rattle.gfs_types.specs.declared.config.Config.{Config}
use Rattle.messages.specs.declared.event.Event.{Event}
use Rattle.messages.specs.declared.event.NodeInput.{NodeInput}
use Rattle.messages.specs.declared.message.Message.{Message}
use Rattle.log_records.specs.declared.record.Record.TheVariants as log
use Rattle.chunk_table.specs.ChunkTable.{ChunkRow, chunk_of}
use Rattle.relaxed_file.specs.Machine.{new_machine}
use Rattle.protocol.specs.Tables.{removed_all}
use Rattle.protocol.specs.Choice.{Choice, Ending, Goes, Lost, Stops}
use Rattle.protocol.specs.Seen.{Taken, no_step}
use Rattle.protocol.specs.Logged.{Logged, Copy, LogDisk, LogChange}
use Rattle.protocol.specs.Master.{MasterState, MasterDoing, VersionAttempt, master_begins}
use Rattle.protocol.specs.MasterStep.{master_goes, master_ends, master_bounded, master_step, is_within_limits, may_end, found_log, started_master, opening, has_opened, opens_as}
use Rattle.protocol.specs.World.{WorldState, happens, after_events, IsReached}
use Rattle.laws_base.specs.Laws.{grants_of}
use Rattle.laws_base.proofs.Steps.{on_cond, none_some, same_some, removed_cases}
use Rattle.laws_base.proofs.Entries.{AllOf}
use Rattle.laws_base.proofs.ChunkRows.{rows_of}
use Rattle.laws_base.proofs.CopiesUnderWay.{no_copies}
use Rattle.laws_base.proofs.CountsLogged.{files_below, apart_here}
use Rattle.laws_base.proofs.LoggedParts.{Parts}
use Rattle.laws_base.proofs.GrantsOnce.{row_below}
use Rattle.laws_base.proofs.MasterMoves.{logs_alone}
use Rattle.laws_base.proofs.NamesLogged.{references_are_counted}
use Rattle.laws_base.proofs.NamesReached.{IsUpToLog, logged_here}
use Rattle.laws_base.proofs.OrderNumbers.{state_of, AllFound, found_same}
use Rattle.laws_base.proofs.Owners.{HasRow, chunks_at, references_of, chunk_row, placed_stands, times_at_least}
use Rattle.laws_base.proofs.RowsLogged.{IsFoundRows, IsRowedLog}
use Rattle.laws_base.proofs.RowsKept.{rows_kept}
use Rattle.laws_base.proofs.RowsSame.{IsOwned}
use Rattle.laws_base.proofs.SentReached.{sent_reached}
use Rattle.laws_base.proofs.Events.{HoldsAfter, holds_after}
use Rattle.laws_base.proofs.Histories.{IsGrown, steps_grown}
use Rattle.laws_base.proofs.IssuedNumbers.{IsPassed, IsLogPassed, passed_same}
use Rattle.laws_base.proofs.LeasesStayOver.{reached_later}
use Rattle.laws_base.proofs.WaitsKept.{IsOfWaits, waits_kept}
use Rattle.laws_base.proofs.GrantsFollow.{HasPassed}
use Rattle.laws_versions.specs.ToldVersions.{WasOrdered}
use Rattle.laws_versions.proofs.AskedSteps.{StandsAt, IsNoGrant}
use Rattle.laws_versions.proofs.AttemptedNumbers.{attempts_are_of_the_last_version}
use Rattle.laws_versions.proofs.ClonedVersions.{ordered_passed}
use Rattle.laws_versions.proofs.ClosedVersions.{clocks_before}
use Rattle.laws_versions.proofs.CopiedSources.{IsNoStart, asked_or_not, unasked_step, asked_step, free_reached}
use Rattle.laws_versions.proofs.PlacesKept.{IsPlaceKept}
use Rattle.laws_versions.proofs.PlacesTaken.{IsTaken, IsLogTaken, AreCopiesOf, ArePlacesTaken, taken_same, step_taken, restart_taken, places_on}
use Rattle.laws_versions.proofs.ReplacedChunks.{each_passed, stood_file}
use Rattle.laws_versions.proofs.SharedChunks.{shared_chunks_have_no_lease}
use Rattle.laws_versions.specs.CopiedOrders.{IsUngrantedCopy}
use Rattle.laws_versions.proofs.CopiedOrders.{source_row, copies_under_way_are_not_granted}
use Rattle.laws_machine.proofs.OrderedHolders.{ordered_later}
use Rattle.protocol_invariant.specs.Actions.{Spot}
use Rattle.laws_machine.specs.ChunksAlike.{ChunkSides}
use Rattle.laws_machine.proofs.OpenRounds.{chunks_of_one_owner_stand_once}
use Rattle.laws_machine.proofs.SoundLogs.{stands_somewhere}
use Rattle.headline.proofs.TriedPlaces.{IsTriedFrom, step_tried}

-- the master after an event: as it was, down, just opened, or after a step that went through

abbrev IsOpened : MasterState → Type 0
IsOpened m = ((q : ℕ) (x : Copy) → table.get m.logged.copies q ≡ Some x → ⊥) × ((q : ℕ) (a : VersionAttempt) → table.get m.attempts q ≡ Some a → ⊥)

pub record IsGone (w : WorldState) (m : MasterState) : Type 0 where
  pub up : IsTrue w.master.up
  pub moment : ℕ
  pub input : NodeInput
  pub refused : List Bool
  pub goes : m ≡ (master_goes w.master moment input refused).master

abbrev pub IsMasterAfter : WorldState → MasterState → Type 0
IsMasterAfter w m = (m ≡ w.master) ⊎ IsFalse m.up ⊎ IsOpened m ⊎ IsGone w m

opening_opened : (config : Config) (count : ℕ) (found : LogDisk) (moment : ℕ) → IsOpened (opening (started_master config count found moment)).master
opening_opened config count found moment =
    let started : MasterState = started_master config count found moment in
    let d : MasterDoing = master_begins started [] in
    let handles : List ℕ = table.keys started.logged.copies in
    let first : IsOpened started = (λ q x is. none_some x (sym (no_copies (state_of found).copies q) ∙ is), λ q a is. none_some a (sym (table.get-empty nat_cmp q) ∙ is)) in
    let less : ((q : ℕ) (x : Copy) → table.get (removed_all started.logged.copies handles) q ≡ Some x → ⊥) × ((q : ℕ) (a : VersionAttempt) → table.get (removed_all started.attempts handles) q ≡ Some a → ⊥) =
    (λ q x is. first.0 q x (removed_cases started.logged.copies handles q x is), λ q a is. first.1 q a (removed_cases started.attempts handles q a is)) in
    logs_alone (λ e. IsOpened e.master) d (log.Epoch (suc started.logged.epoch)) first first less less

module _ (w : WorldState) where
  by_ending : (moment : ℕ) (i : NodeInput) (choice : Choice) → IsTrue w.master.up → (e : Ending) → IsMasterAfter w (master_ends w.master (master_goes w.master moment i choice.refused) choice e).state
  by_ending moment i choice up Goes = inr (inr (inr (record { up = up; moment = moment; input = i; refused = choice.refused; goes = refl })))
  by_ending moment i choice up Lost = inr (inl refl)
  by_ending moment i choice up (Stops made) = inr (inl refl)

  after_step : (moment : ℕ) (i : NodeInput) (choice : Choice) → IsTrue w.master.up → IsMasterAfter w (master_step w.master moment i choice).state
  after_step moment i choice up =
      let d : MasterDoing = master_goes w.master moment i choice.refused in
      on_cond (λ (t : Taken MasterState). IsMasterAfter w t.state) w.master.up (master_bounded w.master i d choice) (no_step w.master)
      (λ _. on_cond (λ (t : Taken MasterState). IsMasterAfter w t.state) (may_end w.master i d choice.ending) (master_ends w.master d choice choice.ending) (no_step w.master) (λ _. by_ending moment i choice up choice.ending) (λ _. inl refl))
      (λ _. inl refl)

  after_opening : (old started : MasterState) (d : MasterDoing) (choice : Choice) (e : Ending) → IsOpened d.master → IsMasterAfter w (opens_as old started d choice e).state
  after_opening old started d choice Goes opened =
      on_cond (λ (t : Taken MasterState). IsMasterAfter w t.state) (has_opened started d && is_within_limits d.master) _ _ (λ _. inr (inr (inl opened))) (λ _. inr (inl refl))
  after_opening old started d choice Lost opened = inr (inl refl)
  after_opening old started d choice (Stops made) opened = inr (inl refl)

  each_after : HoldsAfter w (λ e x. IsMasterAfter w x.world.master)
  each_after =
      record {
        nothing = λ e. inl refl;
        masters = λ e moment i choice given up. after_step moment i choice up;
        opens = λ e moment choice.
            let started : MasterState = started_master w.master.config w.master.server_count (found_log w.master choice) moment in
            after_opening w.master started (opening started) choice choice.ending (opening_opened w.master.config w.master.server_count (found_log w.master choice) moment);
        serves = λ e index moment s i choice at given up. inl refl;
        restarts = λ e index moment s choice at. inl refl;
        steps = λ e index moment s i choice at given up. inl refl;
        calls = λ e index moment s c choice at may. inl refl;
        rots = λ e index q s x place byte ending is_kept at there up. inl refl;
      }

  pub master_after : (e : Event) (choice : Choice) → IsMasterAfter w (happens w e choice).world.master
  master_after e choice = holds_after w (λ e x. IsMasterAfter w x.world.master) each_after e choice

no_value : {X : Type 0} (o : Option X) → ((x : X) → o ≡ Some x → ⊥) → o ≡ None
no_value None h = refl
no_value (Some x) h = absurd (h x refl)

-- at a master that is up
module _ (config : Config) (servers clients : ℕ) (w : WorldState) (r : IsReached config servers clients w) (up : IsTrue w.master.up) where
  u : IsUpToLog IsFoundRows IsRowedLog rows_kept w.master
  u = (logged_here IsFoundRows IsRowedLog rows_kept config servers clients w r).1.up up

  -- a number that was issued, and below which nothing is attempted
  passed_up : (q version : ℕ) (row : ChunkRow) → chunk_of w.master.logged.table q ≡ Some row → version ≤ row.issued → ((a : VersionAttempt) → table.get w.master.attempts q ≡ Some a → version < a.version) → HasPassed q version w.master
  passed_up q version row at issued above =
      record {
        found = subst (λ (xs : List LogChange). AllFound (IsLogPassed q version) w.master.disk xs) (sym u.idle)
            (found_same (IsLogPassed q version) w.master.disk (passed_same q version m k (u.tied.same q (by_copies (table.get m.copies q) refl (table.get k.copies q) refl)) (ap (λ (p : Parts). p.next_handle) u.same) state));
        up = λ _. (state, λ other is a tried. above a tried);
      }
    where
      m : Logged
      m = w.master.logged

      k : Logged
      k = state_of w.master.disk

      state : IsPassed q version m
      state = (row_below m k u.same u.tied q row at, λ other is. let same = ap (λ (x : ChunkRow). x.issued) (same_some row other (sym at ∙ is)) in omega (arith, issued, same))

      by_copies : (o : Option Copy) → table.get m.copies q ≡ o → (p : Option Copy) → table.get k.copies q ≡ p → table.get m.copies q ≡ table.get k.copies q
      by_copies (Some c) is p also = is ∙ sym (u.tied.base.base.among q c is)
      by_copies None is None also = is ∙ sym also
      by_copies None is (Some c) also = none_some row (sym (u.tied.base.base.alone q c also is) ∙ at)

  -- a chunk that has a row and is no copy stands somewhere
  standing : (q : ℕ) → HasRow (rows_of w.master.logged) q → ((x : Copy) → table.get w.master.logged.copies q ≡ Some x → ⊥) → (s : Spot) × StandsAt w.master.logged.table.files s.file s.index q
  standing q row plain =
      let owned : IsOwned (Some row.0) = subst IsOwned row.1 (u.tied.owned q (no_value (table.get w.master.logged.copies q) plain)) in
      let some : 1 ≤ (row.0).references = owned in
      let count = u.tied.base.counted q in
      let here = ap references_of row.1 in
      stands_somewhere w.master.logged.table q (omega (arith, some, count, here))

  -- what stands has a row
  pub standing_row : (q : ℕ) (s : Spot) → StandsAt w.master.logged.table.files s.file s.index q → HasRow (rows_of w.master.logged) q
  standing_row q s at = chunk_row w.master.logged.table s.file q u.tied.base.counted (placed_stands (chunks_at w.master.logged.table.files s.file) s.index q at)

  -- and is no copy
  standing_plain : (q : ℕ) (s : Spot) → StandsAt w.master.logged.table.files s.file s.index q → (x : Copy) → table.get w.master.logged.copies q ≡ Some x → ⊥
  standing_plain q s at x copy =
      let none = apart_here w.master.logged (state_of w.master.disk) u.tied.base q x copy in
      let one = placed_stands (chunks_at w.master.logged.table.files s.file) s.index q at in
      let low = times_at_least w.master.logged.table.files s.file q in
      omega (arith, none, one, low)

  -- what is attempted stands once
  tried_once : IsTrue w.observer.are_clocks_kept → (q : ℕ) (a : VersionAttempt) → table.get w.master.attempts q ≡ Some a → (s t : Spot) → StandsAt w.master.logged.table.files s.file s.index q → StandsAt w.master.logged.table.files t.file t.index q → s ≡ t
  tried_once clocks q a at s t first second = elim (cases_lt (row.0).references 2) [
    | inl few ↦ chunks_of_one_owner_stand_once sides q row.0 (references_are_counted config servers clients w r up).0 row.1 (omega (arith, few)) s t first second
    | inr many ↦ none_some a (sym (shared_chunks_have_no_lease config servers clients w r clocks up q row.0 row.1 many).0 ∙ at)
  ]
    where
      row : HasRow (rows_of w.master.logged) q
      row = standing_row q s first

      sides : ChunkSides
      sides = record { log = w.master.logged; gone = λ handle. None; orders = w.observer.orders; machine = new_machine config }

-- a place of a file over an event, where each copy under way of a chunk of R is of R
module _ (file index : ℕ) (R : ℕ → Type 0) (config : Config) (servers clients : ℕ) (w : WorldState) (r : IsReached config servers clients w) where
  pub taken_here : IsTrue w.master.up → (handle : ℕ) → StandsAt w.master.logged.table.files file index handle → R handle → ArePlacesTaken file index R w.master
  taken_here up handle stands of =
      record {
        found = subst (λ (xs : List LogChange). AllFound (IsLogTaken file index R) w.master.disk xs) (sym now.idle)
            (found_same (IsLogTaken file index R) w.master.disk (taken_same file index R w.master.logged (state_of w.master.disk) now.tied.base.base.files (ap (λ (p : Parts). p.next_file) now.same) taken));
        up = λ _. taken;
      }
    where
      now : IsUpToLog IsFoundRows IsRowedLog rows_kept w.master
      now = u config servers clients w r up

      place : IsPlaceKept file index handle w.master.logged
      place = (files_below w.master.logged now.tied.base.base.here file (stood_file w.master.logged.table.files file index handle stands), inl stands)

      taken : IsTaken file index R w.master.logged
      taken = (handle, place, of)

  module _ (clocks : IsTrue w.observer.are_clocks_kept) (places : ArePlacesTaken file index R w.master) (copies : IsTrue w.master.up → AreCopiesOf file index R w.master.logged) where
    base : IsOfWaits w.sent w.master
    base = sent_reached IsOfWaits waits_kept config servers clients w r

    kind : (moment : ℕ) (i : NodeInput) (c : Choice) → IsTrue w.master.up → AllOf IsNoGrant (master_goes w.master moment i c.refused).changes ⊎ AllOf IsNoStart (master_goes w.master moment i c.refused).changes
    kind moment i c up =
        elim (asked_or_not i) [
          | inl none ↦ inr (unasked_step config servers clients w r clocks up (free_reached config servers clients w r clocks up) moment i c.refused none).changes
          | inr ask ↦ inl (asked_step config servers clients w r clocks up (free_reached config servers clients w r clocks up) moment i c.refused ask).changes
        ]

    each_taken : HoldsAfter w (λ e x. ArePlacesTaken file index R x.world.master)
    each_taken =
        record {
          nothing = λ e. places;
          masters = λ e moment i c is up. step_taken file index R w.master moment i c base.base.logged base.waits up (kind moment i c up) (copies up) places;
          opens = λ e moment c. restart_taken file index R w.master moment c base.base.issued base.base.logged places;
          serves = λ e at moment s i c there is up. places;
          restarts = λ e at moment s c there. places;
          steps = λ e at moment s i c there is up. places;
          calls = λ e at moment s asked c there may. places;
          rots = λ e at q s x place byte ending is_kept there held up. places;
        }

    pub taken_after : (e : Event) (choice : Choice) → ArePlacesTaken file index R (happens w e choice).world.master
    taken_after e choice = holds_after w (λ e x. ArePlacesTaken file index R x.world.master) each_taken e choice

module _ (file index handle version : ℕ) where
  abbrev here : Spot
  here = record { file = file; index = index }

  -- the chunk, or one that has passed the version
  abbrev pub IsFor : WorldState → ℕ → Type 0
  IsFor w q = (q ≡ handle) ⊎ HasPassed q version w.master

  -- the version was issued
  abbrev pub IsLow : WorldState → Type 0
  IsLow w = ((server : ℕ) × WasOrdered w.sent server handle version) ⊎ HasPassed handle version w.master

  -- of this master: a number up to the version is attempted only while the chunk stands there
  abbrev IsTriedThere : MasterState → Type 0
  IsTriedThere m = (a : VersionAttempt) → table.get m.attempts handle ≡ Some a → HasRow (rows_of m.logged) handle → (version < a.version) ⊎ StandsAt m.logged.table.files file index handle

  pub record IsPinned (w : WorldState) : Type 0 where
    pub low : IsLow w
    pub plain : IsTrue w.master.up → (x : Copy) → table.get w.master.logged.copies handle ≡ Some x → ⊥
    pub tried : IsTrue w.observer.are_clocks_kept → IsTrue w.master.up → (a : VersionAttempt) → table.get w.master.attempts handle ≡ Some a → HasRow (rows_of w.master.logged) handle
        → (version < a.version) ⊎ StandsAt w.master.logged.table.files file index handle
    pub places : IsTrue w.observer.are_clocks_kept → ArePlacesTaken file index (IsFor w) w.master

  low_up : (config : Config) (servers clients : ℕ) (w : WorldState) → IsReached config servers clients w → IsTrue w.master.up → IsLow w → IsPassed handle version w.master.logged
  low_up config servers clients w r up (inl ordered) = ordered_passed config servers clients w r up ordered.0 handle version ordered.1
  low_up config servers clients w r up (inr passed) = (passed.up up).0

  -- where it stands
  pub pinned_at : (config : Config) (servers clients : ℕ) (w : WorldState) → IsReached config servers clients w → IsTrue w.master.up → StandsAt w.master.logged.table.files file index handle → IsLow w → IsPinned w
  pinned_at config servers clients w r up stands low =
      record {
        low = low;
        plain = λ _. standing_plain config servers clients w r up handle here stands;
        tried = λ _ _ a at row. inr stands;
        places = λ _. taken_here file index (IsFor w) config servers clients w r up handle stands (inl refl);
      }

  -- one event
  module _ (config : Config) (servers clients : ℕ) (w : WorldState) (r : IsReached config servers clients w) (e : Event) (choice : Choice) (h : IsPinned w) where
    abbrev then_ : WorldState
    then_ = (happens w e choice).world

    later : IsReached config servers clients then_
    later = reached_later config servers clients w ((e, choice) ∷ []) r

    passed_on : (q : ℕ) → HasPassed q version w.master → HasPassed q version (happens w e choice).world.master
    passed_on q passed = (holds_after w (λ e x. HasPassed q version x.world.master × (grants_of q version x.world.sent ≤ grants_of q version w.sent)) (each_passed config servers clients w r q version passed) e choice).0

    low_on : IsLow w → IsLow (happens w e choice).world
    low_on (inl ordered) =
        let grown : IsGrown w.sent (happens w e choice).world.sent = steps_grown w ((e, choice) ∷ []) in
        inl (ordered.0, subst (λ (ms : List Message). WasOrdered ms ordered.0 handle version) (sym grown.1) (ordered_later w.sent grown.0 ordered.0 handle version ordered.1))
    low_on (inr passed) = inr (passed_on handle passed)

    -- a step that went through
    stepped : (g : IsGone w then_.master) → IsTriedFrom handle version w.master.logged w.master.attempts (happens w e choice).world.master.logged (happens w e choice).world.master.attempts
    stepped g =
        subst (λ (m : MasterState). IsTriedFrom handle version w.master.logged w.master.attempts m.logged m.attempts) (sym g.goes)
        (step_tried handle version config servers clients w r g.up g.moment g.input g.refused (low_up config servers clients w r g.up h.low) (h.plain g.up))

    plain_on : IsMasterAfter w then_.master → IsTrue then_.master.up → (x : Copy) → table.get (happens w e choice).world.master.logged.copies handle ≡ Some x → ⊥
    plain_on (inl same) up x at = h.plain (subst (λ (m : MasterState). IsTrue m.up) same up) x (ap (λ (m : MasterState). table.get m.logged.copies handle) (sym same) ∙ at)
    plain_on (inr (inl down)) up x at = absurd (let both : true ≡ false = sym up ∙ down in cc)
    plain_on (inr (inr (inl opened))) up x at = opened.0 handle x at
    plain_on (inr (inr (inr g))) up x at = (stepped g).plain x at

    module _ (clocks : IsTrue (happens w e choice).world.observer.are_clocks_kept) where
      before : IsTrue w.observer.are_clocks_kept
      before = clocks_before w ((e, choice) ∷ []) clocks

      tried_on : IsMasterAfter w then_.master → IsTrue then_.master.up → IsTriedThere (happens w e choice).world.master
      tried_on (inl same) up = subst IsTriedThere (sym same) (h.tried before (subst (λ (m : MasterState). IsTrue m.up) same up))
      tried_on (inr (inl down)) up = absurd (let both : true ≡ false = sym up ∙ down in cc)
      tried_on (inr (inr (inl opened))) up = λ a at row. absurd (opened.1 handle a at)
      tried_on (inr (inr (inr g))) up = λ a at row. elim ((stepped g).from a at) [
        | inl above ↦ inl above
        | inr was ↦ by_place a was.0 was.1 was.2 was.3 (standing config servers clients then_ later up handle row (stepped g).plain)
      ]
        where
          by_place : (a b : VersionAttempt) → table.get w.master.attempts handle ≡ Some b → b.version ≡ a.version
              → ((f i : ℕ) → StandsAt then_.master.logged.table.files f i handle → StandsAt w.master.logged.table.files f i handle) → (s : Spot) × StandsAt then_.master.logged.table.files s.file s.index handle
              → (version < a.version) ⊎ StandsAt then_.master.logged.table.files file index handle
          by_place a b at same from place =
              let stood = from (place.0).file (place.0).index place.1 in
              elim (h.tried before g.up b at (standing_row config servers clients w r g.up handle place.0 stood)) [
                | inl low ↦ inl (omega (arith, low, same))
                | inr stands ↦ inr (subst (λ (s : Spot). StandsAt then_.master.logged.table.files s.file s.index handle) (tried_once config servers clients w r g.up before handle b at place.0 here stood stands) place.1)
              ]

      -- a copy that is under way of the chunk, or of one that has passed the version, has passed it
      copies_for : IsTrue w.master.up → AreCopiesOf file index (IsFor w) w.master.logged
      copies_for up copy c is for_source =
          let source = source_row config servers clients w r up copy c is in
          let begun : IsUngrantedCopy w copy c.source = copies_under_way_are_not_granted config servers clients w r before up copy c is in
          let above = begun.follows source.0 source.1 in
          let most : version ≤ (source.0).issued = issued source.0 source.1 for_source in
          inr (passed_up config servers clients w r up copy version begun.row begun.there (omega (arith, most, above))
          (λ a there. let last = (attempts_are_of_the_last_version config servers clients w r up copy a there).1 begun.row begun.there in omega (arith, most, above, last)))
        where
          issued : (row : ChunkRow) → chunk_of w.master.logged.table c.source ≡ Some row → IsFor w c.source → version ≤ row.issued
          issued row at (inl same) = (low_up config servers clients w r up h.low).1 row (ap (λ (n : ℕ). chunk_of w.master.logged.table n) (sym same) ∙ at)
          issued row at (inr passed) = (passed.up up).0.1 row at

      -- what stands there after the event is the chunk, or had passed the version before
      pub places_after : ArePlacesTaken file index (IsFor w) (happens w e choice).world.master
      places_after = taken_after file index (IsFor w) config servers clients w r before (h.places before) copies_for e choice

      for_on : (q : ℕ) → IsFor w q → IsFor (happens w e choice).world q
      for_on q (inl same) = inl same
      for_on q (inr passed) = inr (passed_on q passed)

    pub pinned_next : IsPinned (happens w e choice).world
    pinned_next =
        record {
          low = low_on h.low;
          plain = plain_on (master_after w e choice);
          tried = λ clocks. tried_on clocks (master_after w e choice);
          places = λ clocks. places_on file index (IsFor w) (IsFor (happens w e choice).world) (for_on clocks) (happens w e choice).world.master (places_after clocks);
        }

  pub pinned_on : (config : Config) (servers clients : ℕ) (w : WorldState) → IsReached config servers clients w → (steps : List (Event × Choice)) → IsPinned w → IsPinned (after_events w steps)
  pinned_on config servers clients w r [] h = h
  pinned_on config servers clients w r (step ∷ rest) h =
      pinned_on config servers clients (happens w step.0 step.1).world (reached_later config servers clients w (step ∷ []) r) rest (pinned_next config servers clients w r step.0 step.1 h)
