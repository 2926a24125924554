-- A CopyLocal names a version that a server holds of a chunk with several owners: it is closed as the order is sent, and stays so.
use Rattle.std.proofs.Common.{◌≡◌, ◌⊎◌, ℕ, suc, ◌++◌, ◌≤◌, Bool, true, List, [], ◌∷◌, length, Some, None, refl, sym, ap, subst, ◌∙◌, inl, inr}
use Rattle.std.specs.Prelude.{◌&&◌, nat_lt, IsTrue, unwrap_or}
use Rattle.std.specs.FinMap as table
use Rattle.std.proofs.lemmas.Bool.{ltb-true}
use Rattle.gfs_types.specs.declared.config.Config.{Config}
use Rattle.gfs_types.specs.declared.ids.Node.{Node}
use Rattle.messages.specs.declared.event.Event.{Event}
use Rattle.messages.specs.declared.event.NodeInput.{NodeInput}
use Rattle.messages.specs.declared.message.Body.{Body}
use Rattle.messages.specs.declared.message.Body.TheVariants as body
use Rattle.messages.specs.declared.message.Message.{Message}
use Rattle.chunk_table.specs.ChunkTable.{ChunkRow, chunk_of, added_row}
use Rattle.protocol.specs.Choice.{Choice, Ending, Goes, Lost, Stops}
use Rattle.protocol.specs.Seen.{Taken, no_step}
use Rattle.protocol.specs.Tables.{Table}
use Rattle.protocol.specs.Sending.{order_number}
use Rattle.protocol.specs.Logged.{Logged}
use Rattle.protocol.specs.Master.{MasterState, MasterDoing, master_begins, gives_up_copies, version_held}
use Rattle.protocol.specs.MasterStep.{master_at, master_goes, master_ends, master_bounded, master_step, is_within_limits, may_end, found_log, started_master, opening, has_opened, opens_as}
use Rattle.protocol.specs.ServerStep.{server_step, server_restart}
use Rattle.protocol.specs.ClientStep.{client_step, client_call}
use Rattle.protocol.specs.World.{WorldState, new_world, stamped, happens, after_events, IsReached}
use Rattle.laws_base.proofs.Words.{true_false}
use Rattle.laws_base.proofs.Steps.{on_cond, none_some, same_some, put_cases, removed_cases}
use Rattle.laws_base.proofs.Entries.{AllOf}
use Rattle.laws_base.proofs.MembersRecorded.{all_at, all_in_order}
use Rattle.laws_base.proofs.MessagesSent.{IsSent, sent_cases, none_sent, numbered_sent}
use Rattle.laws_base.proofs.ClientMoves.{HasNoOrder, quiet_orders, client_quiet, call_quiet}
use Rattle.laws_base.proofs.SentReached.{without_order, server_quiet, server_restarts_quiet}
use Rattle.laws_base.proofs.OrderNumbers.{AllFound}
use Rattle.laws_base.proofs.LeasesStayOver.{reached_later}
use Rattle.laws_base.proofs.IssuedNumbers.{IsPassed, IsLogPassed}
use Rattle.laws_versions.proofs.ClosedVersions.{clocks_before}
use Rattle.laws_versions.proofs.GivenVersions.{given_reached}
use Rattle.laws_base.proofs.Events.{HoldsAfter, holds_after}
use Rattle.laws_versions.proofs.SharedChunks.{shared_chunks_have_no_lease}
use Rattle.laws_versions.specs.ToldVersions.{WasOrdered}
use Rattle.laws_base.proofs.MasterPremises.{IsCopySource, IsAnswer, IsOrder, AskKeeps, MasterSays, keeps_said}
use Rattle.laws_base.proofs.MasterWalk.{goes_here}
use Rattle.laws_versions.proofs.ToldVersions.{holders_were_ordered}
use Rattle.laws_versions.specs.ClonedVersions.{version_sourced, CopiesAreOfClosedVersions}
use Rattle.laws_versions.proofs.CloneOrders.{IsMastersMessage}
use Rattle.laws_versions.proofs.ClonedVersions.{IsShutIn, sent_of_cloned, shut_later, clones_shut, version_over}

-- one of these messages has a server copy the version
abbrev IsCopySent : List Message → ℕ → ℕ → Type 0
IsCopySent sent handle version = (m : Message) × IsSent sent m × (version_sourced m.body ≡ Some (handle, version))

-- at a master, a chunk has several owners
abbrev IsOwned : MasterState → ℕ → Type 0
IsOwned m handle = (row : ChunkRow) × (chunk_of m.logged.table handle ≡ Some row) × (2 ≤ row.references)

-- and a server holds this version of it
abbrev IsSource : MasterState → ℕ → ℕ → Type 0
IsSource m handle version = IsOwned m handle × ((server : ℕ) × (version_held m handle server ≡ Some version))

abbrev IsSourced : MasterState → Body → Type 0
IsSourced m (body.CopyLocal order handle version copy copy_version) = IsSource m handle.0 version.0
IsSourced m other = Unit {0}

-- what the master says in a step

-- while an Ask is looked at, chunks with several owners had them as the step began
abbrev IsLike : MasterState → MasterDoing → Type 0
IsLike m d = (d.master.holders ≡ m.holders) × ((handle : ℕ) (row : ChunkRow) → chunk_of d.master.logged.table handle ≡ Some row → nat_lt 1 row.references ≡ true → IsOwned m handle)

like_less : (m : MasterState) (d : MasterDoing) (handles : List ℕ) → IsLike m d → IsLike m (gives_up_copies d handles)
like_less m d handles h = (h.0, λ handle row is more. h.1 handle row (removed_cases d.master.logged.table.chunks handles handle row is) more)

like_kept : (m : MasterState) → AskKeeps (IsLike m)
like_kept m =
    record {
      ordered = λ d server b h. h;
      added = λ d file h. (
        h.0,
        λ handle row is more. elim (put_cases d.master.logged.table.chunks d.master.logged.next_handle (added_row d.master.logged.table file) handle row is) [
          | inl same ↦ let two : nat_lt 1 1 ≡ true = subst (λ (x : ChunkRow). nat_lt 1 x.references ≡ true) (sym same.1) more in true_false (sym two)
          | inr before ↦ h.1 handle row before more
        ],
      );
      checkpointed = λ d h. like_less m d (table.keys d.master.logged.copies) h;
      less = λ d copy h. like_less m d (copy ∷ []) h;
    }

source_said : (m : MasterState) (handle version copy : ℕ) → IsCopySource (IsLike m) handle version copy → IsSource m handle version
source_said m handle version copy source =
    let same : source.doing.master.holders ≡ m.holders = source.found.0 in (
      source.found.1 handle source.row source.at source.shared,
      (source.server, ap (λ (x : Table (Table ℕ)). table.get (unwrap_or (table.get x source.server) table.empty) handle) (sym same) ∙ source.held),
    )

module _ (l : Logged) (i : NodeInput) (m : MasterState) where
  answer_sourced : (receiver : Node) (b : Body) → IsAnswer l i (IsLike m) receiver b → IsSourced m b
  answer_sourced receiver (body.CopyLocal order handle version copy copy_version) is = absurd is
  answer_sourced receiver other is = tt

  order_sourced : (server : ℕ) (b : Body) → IsOrder i (IsLike m) server b → IsSourced m b
  order_sourced server (body.CopyLocal order handle version copy copy_version) is = source_said m handle.0 version.0 copy.0 is.1
  order_sourced server other is = tt

  says : MasterSays l i (IsLike m) (IsMastersMessage (IsSourced m))
  says =
      record {
        answered = λ receiver b is. (refl, answer_sourced receiver b is);
        ordered = λ server b is. (refl, order_sourced server b is);
        extended = λ server line until is. (refl, tt);
        dropped = λ server order line is useless. (refl, tt);
      }

goes_sourced : (m : MasterState) (moment : ℕ) (i : NodeInput) (refused : List Bool) → AllOf (IsMastersMessage (IsSourced (master_at m moment))) (master_goes m moment i refused).sent
goes_sourced m moment i refused =
    let s : MasterState = master_at m moment in
    let W : Message → Type 0 = IsMastersMessage (IsSourced s) in
    goes_here m.logged i (IsLike s) (λ g. AllOf W g.sent) (keeps_said m.logged i (IsLike s) W (says m.logged i s)) (like_kept s) (master_begins s refused) refl
    (refl, λ handle row is more. (row, is, ltb-true 1 row.references more)) tt

sourced_by : (m : MasterState) (b : Body) (handle version : ℕ) → IsSourced m b → version_sourced b ≡ Some (handle, version) → IsSource m handle version
sourced_by m (body.CopyLocal order h v copy copy_version) handle version word is =
    let same = same_some (h.0, v.0) (handle, version) is in
    subst (λ (q : ℕ). IsSource m q version) (ap (λ (p : ℕ × ℕ). p.0) same) (subst (λ (n : ℕ). IsSource m h.0 n) (ap (λ (p : ℕ × ℕ). p.1) same) word)
sourced_by m other handle version word is = none_some (handle, version) is

-- what an event brings

unordered_copy : (b : Body) → order_number b ≡ None → version_sourced b ≡ None
unordered_copy (body.CopyLocal order handle version copy copy_version) none = none_some order (sym none)
unordered_copy other none = refl

new_message : (sent : List Message) (k : ℕ) (ms : List Message) (handle version : ℕ) → IsCopySent (sent ++ stamped k ms) handle version
    → IsCopySent sent handle version ⊎ ((x : Message) × IsSent ms x × (version_sourced x.body ≡ Some (handle, version)))
new_message sent k ms handle version g =
    elim (sent_cases sent (stamped k ms) g.0 g.1) [
      | inl old ↦ inl (g.0, old, g.2)
      | inr now ↦ let was = numbered_sent k ms now.0 g.0 now.1 in inr (was.0, was.1, ap version_sourced (was.2).2 ∙ g.2)
    ]

quiet_known : (sent : List Message) (k : ℕ) (ms : List Message) (handle version : ℕ) → HasNoOrder ms → IsCopySent (sent ++ stamped k ms) handle version → IsCopySent sent handle version
quiet_known sent k ms handle version quiet g =
    elim (new_message sent k ms handle version g) [
      | inl old ↦ old
      | inr new ↦
          let none : order_number (new.0).body ≡ None = all_at (λ (x : Message). order_number x.body ≡ None) ms (new.1).0 new.0 (without_order ms quiet) (new.1).1 in
          none_some (handle, version) (sym (unordered_copy (new.0).body none) ∙ new.2)
    ]

-- a copy was ordered before, or is of a source at the master as the step begins
abbrev AreCopiesKnown : WorldState → List Message → Type 0
AreCopiesKnown w sent = (handle version : ℕ) → IsCopySent sent handle version → IsCopySent w.sent handle version ⊎ (IsTrue w.master.up × IsSource w.master handle version)

module _ (w : WorldState) (moment : ℕ) where
  abbrev BringsKnown : Taken MasterState → Type 0
  BringsKnown t = AreCopiesKnown w (w.sent ++ stamped (suc (length w.sent)) t.out.sent)

  silent_known : (t : Taken MasterState) → t.out.sent ≡ [] → BringsKnown t
  silent_known t none handle version g =
      elim (new_message w.sent (suc (length w.sent)) t.out.sent handle version g) [
        | inl old ↦ inl old
        | inr new ↦ none_sent new.0 (subst (λ (ms : List Message). IsSent ms new.0) none (new.1))
      ]

  ends_known : (i : NodeInput) (choice : Choice) (e : Ending) → IsTrue w.master.up → BringsKnown (master_ends w.master (master_goes w.master moment i choice.refused) choice e)
  ends_known i choice Goes up handle version g =
      let d : MasterDoing = master_goes w.master moment i choice.refused in
      let S : Body → Type 0 = IsSourced (master_at w.master moment) in
      let t : Taken MasterState = master_ends w.master d choice Goes in
      let words : AllOf (IsMastersMessage S) t.out.sent = all_in_order (IsMastersMessage S) choice.order d.sent (goes_sourced w.master moment i choice.refused) in
      elim (new_message w.sent (suc (length w.sent)) t.out.sent handle version g) [
        | inl old ↦ inl old
        | inr new ↦ inr (up, sourced_by (master_at w.master moment) (new.0).body handle version (all_at (IsMastersMessage S) t.out.sent (new.1).0 new.0 words (new.1).1).1 new.2)
      ]
  ends_known i choice Lost up handle version g = silent_known (master_ends w.master (master_goes w.master moment i choice.refused) choice Lost) refl handle version g
  ends_known i choice (Stops made) up handle version g = silent_known (master_ends w.master (master_goes w.master moment i choice.refused) choice (Stops made)) refl handle version g

  step_known : (i : NodeInput) (choice : Choice) → IsTrue w.master.up → BringsKnown (master_step w.master moment i choice)
  step_known i choice up =
      let d : MasterDoing = master_goes w.master moment i choice.refused in
      on_cond BringsKnown w.master.up (master_bounded w.master i d choice) (no_step w.master)
      (λ _. on_cond BringsKnown (may_end w.master i d choice.ending) (master_ends w.master d choice choice.ending) (no_step w.master) (λ _. ends_known i choice choice.ending up)
      (λ _. silent_known (no_step w.master) refl))
      (λ _. silent_known (no_step w.master) refl)

  opens_known : (choice : Choice) (e : Ending)
      → (let started : MasterState = started_master w.master.config w.master.server_count (found_log w.master choice) moment in BringsKnown (opens_as w.master started (opening started) choice e))
  opens_known choice Lost =
      let started : MasterState = started_master w.master.config w.master.server_count (found_log w.master choice) moment in
      silent_known (opens_as w.master started (opening started) choice Lost) refl
  opens_known choice (Stops made) =
      let started : MasterState = started_master w.master.config w.master.server_count (found_log w.master choice) moment in
      silent_known (opens_as w.master started (opening started) choice (Stops made)) refl
  opens_known choice Goes =
      let started : MasterState = started_master w.master.config w.master.server_count (found_log w.master choice) moment in
      let d : MasterDoing = opening started in
      silent_known (opens_as w.master started d choice Goes) (on_cond (λ (t : Taken MasterState). t.out.sent ≡ []) (has_opened started d && is_within_limits d.master) _ _ (λ _. refl) (λ _. refl))

copies_known : (w : WorldState) → HoldsAfter w (λ e h. AreCopiesKnown w h.world.sent)
copies_known w =
    let k : ℕ = suc (length w.sent) in
    record {
      nothing = λ e handle version g. inl g;
      masters = λ e moment i choice is up. step_known w moment i choice up;
      opens = λ e moment choice. opens_known w moment choice choice.ending;
      serves = λ e index moment s i choice at is up handle version g. inl (quiet_known w.sent k (server_step s moment i choice).out.sent handle version (server_quiet s moment i choice) g);
      restarts = λ e index moment s choice at handle version g.
          inl (quiet_known w.sent k (server_restart s moment choice).out.sent handle version (server_restarts_quiet s moment choice choice.ending) g);
      steps = λ e index moment s i choice at is up handle version g.
          inl (quiet_known w.sent k (client_step s moment i choice).out.sent handle version (quiet_orders (client_step s moment i choice).out.sent (client_quiet s moment i choice)) g);
      calls = λ e index moment s c choice at may handle version g.
          inl (quiet_known w.sent k (client_call s moment c choice).out.sent handle version (quiet_orders (client_call s moment c choice).out.sent (call_quiet s moment c choice)) g);
      rots = λ e index handle s x place byte ending is_kept at there up q v g. inl g;
    }

-- a source is closed: it was issued, and its chunk has no attempt and no lease
source_shut : (config : Config) (servers clients : ℕ) (w : WorldState) → IsReached config servers clients w → IsTrue w.observer.are_clocks_kept → IsTrue w.master.up → (handle version : ℕ)
    → IsSource w.master handle version → IsShutIn w handle version
source_shut config servers clients w r clocks up handle version source =
    let owned = source.0 in
    let alone = shared_chunks_have_no_lease config servers clients w r clocks up handle owned.0 owned.1 owned.2 in
    let passed = issued (holders_were_ordered config servers clients w r up (source.1).0 handle version (source.1).1) in
    record { found = passed.0; up = λ on. (passed.1 on, λ a is same. none_some a (sym alone.0 ∙ is)); over = λ kept. alone.1 version }
  where
    issued : WasOrdered w.sent (source.1).0 handle version → AllFound (IsLogPassed handle version) w.master.disk w.master.under_way × (IsTrue w.master.up → IsPassed handle version w.master.logged)
    issued (inl given) = (given_reached handle version config servers clients w r).words given.1 (given.0, given.2) (inl given.4)
    issued (inr cloned) =
        let before : IsShutIn w handle version =
        clones_shut config servers clients w r handle version (sent_of_cloned w.sent (source.1).0 handle version cloned) in (before.found, λ on. (before.up on).0)

abbrev AreSourcesShut : WorldState → Type 0
AreSourcesShut w = IsTrue w.observer.are_clocks_kept → (handle version : ℕ) → IsCopySent w.sent handle version → IsShutIn w handle version

sources_on : (config : Config) (servers clients : ℕ) (w : WorldState) (steps : List (Event × Choice)) → IsReached config servers clients w → AreSourcesShut w → AreSourcesShut (after_events w steps)
sources_on config servers clients w [] r h = h
sources_on config servers clients w (step ∷ rest) r h =
    let v : WorldState = (happens w step.0 step.1).world in
    sources_on config servers clients v rest (reached_later config servers clients w (step ∷ []) r)
    (λ clocks handle version g.
    let before : IsTrue w.observer.are_clocks_kept = clocks_before w (step ∷ []) clocks in
    elim (holds_after w (λ e x. AreCopiesKnown w x.world.sent) (copies_known w) step.0 step.1 handle version g) [
      | inl old ↦ shut_later config servers clients w r step handle version (h before handle version old)
      | inr new ↦ shut_later config servers clients w r step handle version (source_shut config servers clients w r before new.0 handle version new.1)
    ])

pub copies_are_of_closed_versions : CopiesAreOfClosedVersions
copies_are_of_closed_versions config servers clients w r clocks place m at handle version is =
    let all : AreSourcesShut w =
    subst (λ (v : WorldState). AreSourcesShut v) r.1 (sources_on config servers clients (new_world config servers clients) r.0 ([], refl) (λ kept q v g. none_sent g.0 g.1)) in
    version_over w handle version clocks (all clocks handle version (m, (place, at), is))
