-- Versions that servers copy from each other are closed as they are ordered to be cloned, and stay so.
use Rattle.std.proofs.Common.{◌≡◌, ◌⊎◌, ℕ, suc, ◌≤◌, Bool, false, List, [], ◌∷◌, ◌++◌, length, Option, Some, None, refl, sym, ap, subst, ◌∙◌, inl, inr, arith}
use Rattle.std.specs.Prelude.{◌&&◌, max, IsTrue, unwrap_or}
use Rattle.std.specs.FinMap as table
use Rattle.std.proofs.lemmas.Bool.{true≢false}
use Rattle.std.proofs.Math.Nat.{le-max_left, le-max_right, max-le}
use Rattle.gfs_types.specs.declared.config.Config.{Config}
use Rattle.messages.specs.declared.event.Event.{Event}
use Rattle.messages.specs.declared.event.NodeInput.{NodeInput}
use Rattle.messages.specs.declared.event.NodeInput.TheVariants as input
use Rattle.messages.specs.declared.message.Body.{Body}
use Rattle.messages.specs.declared.message.Body.TheVariants as body
use Rattle.messages.specs.declared.message.Message.{Message}
use Rattle.chunk_table.specs.ChunkTable.{ChunkRow}
use Rattle.protocol.specs.Choice.{Choice, Ending, Goes, Lost, Stops}
use Rattle.protocol.specs.Seen.{Taken, no_step}
use Rattle.protocol.specs.Tables.{Table}
use Rattle.protocol.specs.Sending.{order_number}
use Rattle.protocol.specs.Logged.{Logged}
use Rattle.protocol.specs.ClientStep.{client_step, client_call}
use Rattle.protocol.specs.ServerStep.{server_step, server_restart}
use Rattle.protocol.specs.Master.{MasterState, MasterDoing, VersionAttempt, master_begins}
use Rattle.protocol.specs.MasterStep.{master_at, master_goes, master_ends, master_bounded, master_step, is_within_limits, may_end, found_log, started_master, opening, has_opened, opens_as}
use Rattle.protocol.specs.World.{WorldState, new_world, stamped, happens, after_master, after_events, IsReached}
use Rattle.laws_base.specs.Laws.{grants_of, tells_end}
use Rattle.laws_base.proofs.Steps.{on_cond, none_some, same_some}
use Rattle.laws_base.proofs.Entries.{AllOf}
use Rattle.laws_base.proofs.MembersRecorded.{all_at, all_in_order}
use Rattle.laws_base.proofs.MessagesSent.{IsSent, sent_before, sent_cases, none_sent, numbered_sent}
use Rattle.laws_base.proofs.ClientMoves.{HasNoOrder, quiet_orders, client_quiet, call_quiet}
use Rattle.laws_base.proofs.SentReached.{without_order, server_quiet, server_restarts_quiet, sent_reached}
use Rattle.laws_base.proofs.ChunkRows.{rows_of}
use Rattle.laws_base.proofs.OrderNumbers.{AllFound}
use Rattle.laws_base.proofs.LeaseEnds.{IsEndTold, IsPast, HasEnd}
use Rattle.laws_base.proofs.LeasesTimely.{IsOfTimes, times_kept}
use Rattle.laws_base.proofs.ScenesReached.{scene_of, scene_reached, goes_on}
use Rattle.laws_base.specs.Versions.{IsLeaseOver}
use Rattle.laws_base.proofs.EndedLeases.{past_is_over}
use Rattle.laws_base.proofs.LeasesStayOver.{reached_later, over_later}
use Rattle.laws_base.proofs.IssuedNumbers.{IsPassed, IsLogPassed}
use Rattle.laws_base.proofs.WaitsKept.{IsOfWaits, waits_kept}
use Rattle.laws_versions.proofs.ClosedVersions.{StaysShut, stays_shut, clocks_before}
use Rattle.laws_versions.proofs.GivenVersions.{given_reached}
use Rattle.laws_versions.specs.HeldVersions.{version_cloned, WasCloned}
use Rattle.laws_versions.proofs.HeldVersions.{replicas_were_ordered, members_alone_hold_a_version, attempts_alone_hold_their_version}
use Rattle.laws_base.proofs.Events.{HoldsAfter, holds_after}
use Rattle.laws_versions.specs.ToldVersions.{WasOrdered}
use Rattle.laws_versions.proofs.TrueWords.{IsCloned, IsTrueFrom, copy_ask_true, image_true}
use Rattle.laws_versions.proofs.ToldVersions.{AreHeld, told_reached, said_versions_were_ordered}
use Rattle.laws_versions.specs.ClonedVersions.{version_copied, IsVersionOver, ClonesAreOfClosedVersions, AttemptedVersionsAreNotCopied, AttemptedVersionsStandAtTheirServers, GrantedVersionsStandAtMembers, OrderedVersionsWereIssued, ReplicasAreOfIssuedVersions, SaidVersionsWereIssued}
use Rattle.laws_versions.proofs.CloneOrders.{IsMastersMessage, IsLess, IsChosen, IsTickWord, IsTick, tick_says, IsNoClone, delivery_says}

-- one of these messages orders a clone of the version
abbrev pub IsCloneSent : List Message → ℕ → ℕ → Type 0
IsCloneSent sent handle version = (m : Message) × IsSent sent m × (version_cloned m.body ≡ Some (handle, version))

pub sent_of_cloned : (sent : List Message) (server handle version : ℕ) → WasCloned sent server handle version → IsCloneSent sent handle version
sent_of_cloned sent server handle version g = (g.1, (g.0, g.2), g.4)

-- a version that is closed, whether or not its chunk is still there
pub record IsShutIn (w : WorldState) (handle version : ℕ) : Type 0 where
  pub found : AllFound (IsLogPassed handle version) w.master.disk w.master.under_way
  pub up : IsTrue w.master.up → IsPassed handle version w.master.logged × ((a : VersionAttempt) → table.get w.master.attempts handle ≡ Some a → a.version ≡ version → ⊥)
  pub over : IsTrue w.observer.are_clocks_kept → IsLeaseOver w handle version

abbrev pub AreClonesShut : WorldState → Type 0
AreClonesShut w = (handle version : ℕ) → IsCloneSent w.sent handle version → IsShutIn w handle version

-- what is closed stays so after an event
pub shut_later : (config : Config) (servers clients : ℕ) (w : WorldState) → IsReached config servers clients w → (step : Event × Choice) (handle version : ℕ) → IsShutIn w handle version → IsShutIn (happens w step.0 step.1).world handle version
shut_later config servers clients w r step handle version h =
    let count : ℕ = grants_of handle version w.sent in
    let start : StaysShut handle version count (scene_of w) = record { base = sent_reached IsOfWaits waits_kept config servers clients w r; shut = record { few = omega arith; found = h.found; up = h.up } } in
    let end : StaysShut handle version count (scene_of (after_events w (step ∷ []))) = goes_on (StaysShut handle version count) (stays_shut handle version count) w (step ∷ []) start in
    record {
      found = end.shut.found;
      up = end.shut.up;
      over = λ clocks. over_later config servers clients w r handle version (h.over (clocks_before w (step ∷ []) clocks)) (step ∷ []) clocks end.shut.few;
    }

-- A Clone that an event brought: its version was ordered before, and after the event it is not attempted and its lease is over.
record IsNewClone (w v : WorldState) (handle version : ℕ) : Type 0 where
  server : ℕ
  ordered : WasOrdered w.sent server handle version
  free : IsTrue v.master.up → (a : VersionAttempt) → table.get v.master.attempts handle ≡ Some a → a.version ≡ version → ⊥
  over : IsOfTimes (scene_of v) → IsTrue v.observer.are_clocks_kept → IsLeaseOver v handle version
  among : (m : Message) → IsSent w.sent m → IsSent v.sent m

abbrev AreClonesKnown : WorldState → WorldState → Type 0
AreClonesKnown w v = (handle version : ℕ) → IsCloneSent v.sent handle version → IsCloneSent w.sent handle version ⊎ IsNewClone w v handle version

-- messages that order nothing

unordered_clone : (b : Body) → order_number b ≡ None → version_cloned b ≡ None
unordered_clone (body.Clone order handle version source) none = none_some order (sym none)
unordered_clone other none = refl

new_message : (sent : List Message) (k : ℕ) (ms : List Message) (handle version : ℕ) → IsCloneSent (sent ++ stamped k ms) handle version
    → IsCloneSent sent handle version ⊎ ((x : Message) × IsSent ms x × (version_cloned x.body ≡ Some (handle, version)))
new_message sent k ms handle version g =
    elim (sent_cases sent (stamped k ms) g.0 g.1) [
      | inl old ↦ inl (g.0, old, g.2)
      | inr now ↦ let was = numbered_sent k ms now.0 g.0 now.1 in inr (was.0, was.1, ap version_cloned (was.2).2 ∙ g.2)
    ]

quiet_known : (sent : List Message) (k : ℕ) (ms : List Message) (handle version : ℕ) → HasNoOrder ms → IsCloneSent (sent ++ stamped k ms) handle version → IsCloneSent sent handle version
quiet_known sent k ms handle version quiet g =
    elim (new_message sent k ms handle version g) [
      | inl old ↦ old
      | inr new ↦
          let none : order_number (new.0).body ≡ None = all_at (λ (x : Message). order_number x.body ≡ None) ms (new.1).0 new.0 (without_order ms quiet) (new.1).1 in
          none_some (handle, version) (sym (unordered_clone (new.0).body none) ∙ new.2)
    ]

-- a step of the master at a tick

module _ (w : WorldState) (moment : ℕ) where
  abbrev After : Taken MasterState → WorldState
  After t = (after_master w moment t).world

  -- its words end no lease
  tick_word : (C : ℕ → ℕ → Type 0) (b : Body) (handle version until : ℕ) → IsTickWord C b → tells_end handle version until b ≡ false
  tick_word C (body.Named number reply) handle version until word = refl
  tick_word C (body.Clone order h v source) handle version until word = refl
  tick_word C other handle version until word = absurd word

  chosen_by : (C : ℕ → ℕ → Type 0) (b : Body) (handle version : ℕ) → IsTickWord C b → version_cloned b ≡ Some (handle, version) → C handle version
  chosen_by C (body.Clone order h v source) handle version word is =
      let same = same_some (h.0, v.0) (handle, version) is in
      subst (λ (q : ℕ). C q version) (ap (λ (p : ℕ × ℕ). p.0) same) (subst (λ (n : ℕ). C h.0 n) (ap (λ (p : ℕ × ℕ). p.1) same) word)
  chosen_by C other handle version word is = none_some (handle, version) is

  -- what was told of a lease's end was told before
  told_before : (C : ℕ → ℕ → Type 0) (k : ℕ) (ms : List Message) (handle version until : ℕ) → AllOf (IsMastersMessage (IsTickWord C)) ms → IsEndTold (w.sent ++ stamped k ms) handle version until → IsEndTold w.sent handle version until
  told_before C k ms handle version until words told =
      elim (sent_cases w.sent (stamped k ms) told.0 told.1) [
        | inl old ↦ (told.0, old, told.2)
        | inr now ↦
            let was = numbered_sent k ms now.0 told.0 now.1 in
            let word : IsTickWord C (was.0).body = (all_at (IsMastersMessage (IsTickWord C)) ms (was.1).0 was.0 words (was.1).1).1 in
            absurd (true≢false (sym told.2 ∙ ap (tells_end handle version until) (sym (was.2).2) ∙ tick_word C (was.0).body handle version until word))
      ]

  past_later : (greatest : ℕ) (more : List Message) (handle version until : ℕ) → IsPast greatest w.sent handle version until → IsPast greatest (w.sent ++ more) handle version until
  past_later greatest more handle version until (inl early) = inl early
  past_later greatest more handle version until (inr said) = inr (said.0, sent_before w.sent more said.0 said.1, said.2)

  -- the lease of a version that is chosen is over
  chosen_over : (at : MasterDoing) (start : MasterDoing) (t : Taken MasterState) (handle version : ℕ) → start.master.logged ≡ w.master.logged → start.master.now ≡ max w.master.now moment → IsLess start at → IsChosen at.master handle version
      → AllOf (IsMastersMessage (IsTickWord (IsChosen at.master))) t.out.sent → IsTrue w.master.up → IsOfTimes (scene_of w) → IsOfTimes (scene_of (After t)) → IsTrue (After t).observer.are_clocks_kept → IsLeaseOver (After t) handle version
  chosen_over at start t handle version same now less chosen words up times later clocks =
      let greatest : ℕ = max w.observer.greatest moment in
      let was = less.rows handle chosen.row chosen.there in
      let there : table.get (rows_of w.master.logged) handle ≡ Some was.0 = ap (λ (l : Logged). table.get (rows_of l) handle) (sym same) ∙ was.1 in
      let end : (was.0).lease_end ≡ (chosen.row).lease_end = ap (λ (r : ChunkRow). r.lease_end) was.2 in
      let ended = chosen.ended in
      let is_now = less.now in
      let early : max w.master.now moment ≤ greatest = let first = times.clock.1 in let grows = le-max_left w.observer.greatest moment in max-le (omega (arith, first, grows)) (le-max_right w.observer.greatest moment) in
      past_is_over (After t) later handle version
      (λ until told.
      let before : IsEndTold w.sent handle version until = told_before (IsChosen at.master) (suc (length w.sent)) t.out.sent handle version until words told in
      let says : HasEnd greatest w.sent handle version until (was.0).granted (was.0).lease_end = (((times_kept.passes (scene_of w) moment times).timely clocks).up up handle version until before).1 was.0 there in
      past_later greatest (stamped (suc (length w.sent)) t.out.sent) handle version until
      (elim (says.1) [
        | inl past ↦ past
        | inr last ↦ let within = last.1 in inl (omega (arith, within, end, ended, is_now, now, early))
      ]))

  -- clones that a step of the master brings
  abbrev BringsKnown : Taken MasterState → Type 0
  BringsKnown t = AreClonesKnown w (After t)

  silent_known : (t : Taken MasterState) → t.out.sent ≡ [] → BringsKnown t
  silent_known t none handle version g =
      elim (new_message w.sent (suc (length w.sent)) t.out.sent handle version g) [
        | inl old ↦ inl old
        | inr new ↦ none_sent new.0 (subst (λ (ms : List Message). IsSent ms new.0) none (new.1))
      ]

  goes_tick : (d : MasterDoing) (choice : Choice) → IsTick w.master moment d → IsTrue w.master.up → AreHeld w.sent w.master.holders → IsOfTimes (scene_of w) → BringsKnown (master_ends w.master d choice Goes)
  goes_tick d choice tick up held times handle version g =
      let t : Taken MasterState = master_ends w.master d choice Goes in
      let C : ℕ → ℕ → Type 0 = IsChosen tick.at.master in
      let words : AllOf (IsMastersMessage (IsTickWord C)) t.out.sent = all_in_order (IsMastersMessage (IsTickWord C)) choice.order d.sent tick.words in
      elim (new_message w.sent (suc (length w.sent)) t.out.sent handle version g) [
        | inl old ↦ inl old
        | inr new ↦
            let chosen : C handle version = chosen_by C (new.0).body handle version (all_at (IsMastersMessage (IsTickWord C)) t.out.sent (new.1).0 new.0 words (new.1).1).1 new.2 in
            inr (record {
              server = chosen.server;
              ordered = held chosen.server handle version (ap (λ (x : Table (Table ℕ)). table.get (unwrap_or (table.get x chosen.server) table.empty) handle) (sym tick.holders) ∙ chosen.held);
              free = λ _ a is same. chosen.free a (tick.after handle a is) same;
              over = λ later clocks. chosen_over tick.at (master_begins (master_at w.master moment) []) t handle version refl refl tick.before chosen words up times later clocks;
              among = λ m is. sent_before w.sent (stamped (suc (length w.sent)) t.out.sent) m is;
            })
      ]

  goes_delivery : (d : MasterDoing) (choice : Choice) → AllOf (IsMastersMessage IsNoClone) d.sent → BringsKnown (master_ends w.master d choice Goes)
  goes_delivery d choice none handle version g =
      let t : Taken MasterState = master_ends w.master d choice Goes in
      elim (new_message w.sent (suc (length w.sent)) t.out.sent handle version g) [
        | inl old ↦ inl old
        | inr new ↦ absurd (no_clone (new.0).body (all_at (IsMastersMessage IsNoClone) t.out.sent (new.1).0 new.0 (all_in_order (IsMastersMessage IsNoClone) choice.order d.sent none) (new.1).1).1 new.2)
      ]
    where
      no_clone : (b : Body) → IsNoClone b → version_cloned b ≡ Some (handle, version) → ⊥
      no_clone (body.Clone order q v source) none is = none
      no_clone other none is = none_some (handle, version) is

  ends_known : (d : MasterDoing) (choice : Choice) (e : Ending) → BringsKnown (master_ends w.master d choice Goes) → BringsKnown (master_ends w.master d choice e)
  ends_known d choice Goes h = h
  ends_known d choice Lost h = silent_known (master_ends w.master d choice Lost) refl
  ends_known d choice (Stops made) h = silent_known (master_ends w.master d choice (Stops made)) refl

  step_known : (i : NodeInput) (choice : Choice) → AreHeld w.sent w.master.holders → IsTrue w.master.up → IsOfTimes (scene_of w) → BringsKnown (master_step w.master moment i choice)
  step_known i choice held up times =
      let d : MasterDoing = master_goes w.master moment i choice.refused in
      on_cond BringsKnown w.master.up (master_bounded w.master i d choice) (no_step w.master)
      (λ _. on_cond BringsKnown (may_end w.master i d choice.ending) (master_ends w.master d choice choice.ending) (no_step w.master) (λ _. ends_known d choice choice.ending (by_input i choice.refused))
      (λ _. silent_known (no_step w.master) refl))
      (λ _. silent_known (no_step w.master) refl)
    where
      by_input : (j : NodeInput) (refused : List Bool) → BringsKnown (master_ends w.master (master_goes w.master moment j refused) choice Goes)
      by_input (input.Deliver m) refused = goes_delivery (master_goes w.master moment (input.Deliver m) refused) choice (delivery_says w.master moment m refused)
      by_input input.Tick refused = goes_tick (master_goes w.master moment input.Tick refused) choice (tick_says w.master moment refused) up held times

  opens_known : (choice : Choice) (e : Ending) → (let started : MasterState = started_master w.master.config w.master.server_count (found_log w.master choice) moment in BringsKnown (opens_as w.master started (opening started) choice e))
  opens_known choice Lost =
      let started : MasterState = started_master w.master.config w.master.server_count (found_log w.master choice) moment in
      silent_known (opens_as w.master started (opening started) choice Lost) refl
  opens_known choice (Stops made) =
      let started : MasterState = started_master w.master.config w.master.server_count (found_log w.master choice) moment in
      silent_known (opens_as w.master started (opening started) choice (Stops made)) refl
  opens_known choice Goes =
      let started : MasterState = started_master w.master.config w.master.server_count (found_log w.master choice) moment in
      let d : MasterDoing = opening started in
      silent_known (opens_as w.master started d choice Goes) (on_cond (λ (t : Taken MasterState). t.out.sent ≡ []) (has_opened started d && is_within_limits d.master) _ _ (λ _. refl) (λ _. refl))

-- each event

clones_known : (config : Config) (servers clients : ℕ) (w : WorldState) → IsReached config servers clients w → HoldsAfter w (λ e h. AreClonesKnown w h.world)
clones_known config servers clients w r =
    let k : ℕ = suc (length w.sent) in
    let times : IsOfTimes (scene_of w) = scene_reached IsOfTimes times_kept config servers clients w r in
    record {
      nothing = λ e handle version g. inl g;
      masters = λ e moment i choice is up. step_known w moment i choice ((told_reached config servers clients w r).held up) up times;
      opens = λ e moment choice. opens_known w moment choice choice.ending;
      serves = λ e index moment s i choice at is up handle version g. inl (quiet_known w.sent k (server_step s moment i choice).out.sent handle version (server_quiet s moment i choice) g);
      restarts = λ e index moment s choice at handle version g. inl (quiet_known w.sent k (server_restart s moment choice).out.sent handle version (server_restarts_quiet s moment choice choice.ending) g);
      steps = λ e index moment s i choice at is up handle version g.
          inl (quiet_known w.sent k (client_step s moment i choice).out.sent handle version (quiet_orders (client_step s moment i choice).out.sent (client_quiet s moment i choice)) g);
      calls = λ e index moment s c choice at may handle version g.
          inl (quiet_known w.sent k (client_call s moment c choice).out.sent handle version (quiet_orders (client_call s moment c choice).out.sent (call_quiet s moment c choice)) g);
      rots = λ e index handle s x place byte ending is_kept at there up q v g. inl g;
    }

-- a clone that is new is of a version that was given, or that was cloned before
new_shut : (config : Config) (servers clients : ℕ) (w : WorldState) → IsReached config servers clients w → (step : Event × Choice) (handle version : ℕ) → AreClonesShut w → IsNewClone w (happens w step.0 step.1).world handle version
    → IsShutIn (happens w step.0 step.1).world handle version
new_shut config servers clients w r step handle version h new =
    let v : WorldState = (happens w step.0 step.1).world in
    let later : IsReached config servers clients v = reached_later config servers clients w (step ∷ []) r in
    let times : IsOfTimes (scene_of v) = scene_reached IsOfTimes times_kept config servers clients v later in
    elim (new.ordered) [
      | inl given ↦
          let passed = (given_reached handle version config servers clients v later).words given.1 (new.among given.1 (given.0, given.2)) (inl given.4) in
          record { found = passed.0; up = λ on. (passed.1 on, new.free on); over = λ clocks. new.over times clocks }
      | inr cloned ↦
          let before : IsShutIn v handle version = shut_later config servers clients w r step handle version (h handle version (sent_of_cloned w.sent new.server handle version cloned)) in
          record { found = before.found; up = before.up; over = before.over }
    ]

clones_on : (config : Config) (servers clients : ℕ) (w : WorldState) (steps : List (Event × Choice)) → IsReached config servers clients w → AreClonesShut w → AreClonesShut (after_events w steps)
clones_on config servers clients w [] r h = h
clones_on config servers clients w (step ∷ rest) r h =
    let v : WorldState = (happens w step.0 step.1).world in
    clones_on config servers clients v rest (reached_later config servers clients w (step ∷ []) r)
    (λ handle version g. elim (holds_after w (λ e x. AreClonesKnown w x.world) (clones_known config servers clients w r) step.0 step.1 handle version g) [
      | inl old ↦ shut_later config servers clients w r step handle version (h handle version old)
      | inr new ↦ new_shut config servers clients w r step handle version h new
    ])

pub clones_shut : (config : Config) (servers clients : ℕ) (w : WorldState) → IsReached config servers clients w → AreClonesShut w
clones_shut config servers clients w r =
    subst (λ (v : WorldState). AreClonesShut v) r.1 (clones_on config servers clients (new_world config servers clients) r.0 ([], refl) (λ handle version g. none_sent g.0 g.1))

-- as the laws say it

pub copied_sent : (config : Config) (servers clients : ℕ) (w : WorldState) → IsReached config servers clients w → (m : Message) → IsSent w.sent m → (handle version : ℕ) → version_copied m.body ≡ Some (handle, version) → IsCloneSent w.sent handle version
copied_sent config servers clients w r m sent handle version is = by_body m.body refl ((told_reached config servers clients w r).words m sent) is
  where
    at_key : (q n : ℕ) → ◌≡◌ {A = Option (ℕ × ℕ)} (Some (q, n)) (Some (handle, version)) → IsCloneSent w.sent q n → IsCloneSent w.sent handle version
    at_key q n same g =
        let key = same_some (q, n) (handle, version) same in
        subst (λ (k : ℕ). IsCloneSent w.sent k version) (ap (λ (p : ℕ × ℕ). p.0) key) (subst (λ (v : ℕ). IsCloneSent w.sent q v) (ap (λ (p : ℕ × ℕ). p.1) key) g)

    some_clone : (q n : ℕ) → IsCloned w.sent q n → IsCloneSent w.sent q n
    some_clone q n g = sent_of_cloned w.sent g.0 q n g.1

    by_body : (b : Body) → m.body ≡ b → IsTrueFrom w.sent m.sender b → version_copied b ≡ Some (handle, version) → IsCloneSent w.sent handle version
    by_body (body.Clone order q n source) same word copied = (m, sent, ap version_cloned same ∙ copied)
    by_body (body.CopyAsk q n) same word copied = at_key q.0 n.0 copied (some_clone q.0 n.0 (copy_ask_true w.sent m.sender q n word))
    by_body (body.Image q n serial bytes) same word copied = at_key q.0 n.0 copied (some_clone q.0 n.0 (image_true w.sent m.sender q n serial bytes word))
    by_body other same word copied = none_some (handle, version) copied

pub version_over : (w : WorldState) (handle version : ℕ) → IsTrue w.observer.are_clocks_kept → IsShutIn w handle version → IsVersionOver w handle version
version_over w handle version clocks h =
    record {
      lease = h.over clocks;
      issued = λ up row there. (h.up up).0.1 row there;
      given_up = λ up a is same. (h.up up).1 a is same;
    }

pub clones_are_of_closed_versions : ClonesAreOfClosedVersions
clones_are_of_closed_versions config servers clients w r clocks place m at handle version is =
    version_over w handle version clocks (clones_shut config servers clients w r handle version (copied_sent config servers clients w r m (place, at) handle version is))

-- what was ordered was issued
pub ordered_passed : (config : Config) (servers clients : ℕ) (w : WorldState) → IsReached config servers clients w → IsTrue w.master.up → (server handle version : ℕ) → WasOrdered w.sent server handle version → IsPassed handle version w.master.logged
ordered_passed config servers clients w r up server handle version (inl given) = ((given_reached handle version config servers clients w r).words given.1 (given.0, given.2) (inl given.4)).1 up
ordered_passed config servers clients w r up server handle version (inr cloned) = ((clones_shut config servers clients w r handle version (sent_of_cloned w.sent server handle version cloned)).up up).0

pub ordered_versions_were_issued : OrderedVersionsWereIssued
ordered_versions_were_issued config servers clients w r up place m at handle version (inl given) row is = (((given_reached handle version config servers clients w r).words m (place, at) (inl given)).1 up).1 row is
ordered_versions_were_issued config servers clients w r up place m at handle version (inr copied) row is =
    ((clones_shut config servers clients w r handle version (copied_sent config servers clients w r m (place, at) handle version copied)).up up).0.1 row is

pub replicas_are_of_issued_versions : ReplicasAreOfIssuedVersions
replicas_are_of_issued_versions config servers clients w r up index s at handle replica there row is =
    (ordered_passed config servers clients w r up (suc index) handle replica.version (replicas_were_ordered config servers clients w r index s at handle replica there)).1 row is

pub said_versions_were_issued : SaidVersionsWereIssued
said_versions_were_issued config servers clients w r up place m at server from handle version said row is =
    (ordered_passed config servers clients w r up server handle version (said_versions_were_ordered config servers clients w r place m at server from handle version said)).1 row is

pub attempted_versions_are_not_copied : AttemptedVersionsAreNotCopied
attempted_versions_are_not_copied config servers clients w r up handle a tried place m at is =
    let shut : IsShutIn w handle a.version = clones_shut config servers clients w r handle a.version (copied_sent config servers clients w r m (place, at) handle a.version is) in
    (shut.up up).1 a tried refl

pub attempted_versions_stand_at_their_servers : AttemptedVersionsStandAtTheirServers
attempted_versions_stand_at_their_servers config servers clients w r up handle a tried index s at replica there same =
    elim (attempts_alone_hold_their_version config servers clients w r up handle a tried index s at replica there same) [
      | inl has ↦ has
      | inr cloned ↦
          let shut : IsShutIn w handle replica.version = clones_shut config servers clients w r handle replica.version (sent_of_cloned w.sent (suc index) handle replica.version cloned) in
          absurd ((shut.up up).1 a tried (sym same))
    ]

pub granted_versions_stand_at_members : GrantedVersionsStandAtMembers
granted_versions_stand_at_members config servers clients w r clocks index s at handle replica there place grant order end_moment members sent is =
    elim (members_alone_hold_a_version config servers clients w r index s at handle replica there place grant order end_moment members sent is) [
      | inl has ↦ inl has
      | inr cloned ↦ inr (cloned, version_over w handle replica.version clocks (clones_shut config servers clients w r handle replica.version (sent_of_cloned w.sent (suc index) handle replica.version cloned)))
    ]
