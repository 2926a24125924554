-- A step of the master in a reached world: what its log says, and what clients asked for, is what each change asks.
use Rattle.std.proofs.Common.{◌≡◌, ◌⊎◌, ℕ, ◌+◌, ◌≤◌, List, [], ◌∷◌, map, Option, Some, None, refl, sym, ap, subst, inl, inr, arith, ◌<◌}
use Rattle.std.specs.Prelude.{IsTrue}
use Rattle.std.specs.FinMap as table
use Rattle.gfs_types.specs.declared.config.Config.{Config}
use Rattle.std.proofs.Math.Nat.{le-max_left}
use Rattle.log_records.specs.declared.record.Record.{Record}
use Rattle.log_records.specs.declared.record.Record.TheVariants as log
use Rattle.gfs_types.specs.declared.call.Call.{Call}
use Rattle.gfs_types.specs.declared.call.Call.TheVariants as call
use Rattle.relaxed_file.specs.Machine.{Machine}
use Rattle.relaxed_file.specs.Run.{Action, Step, FindBusy, FindFull, Expire, LeadsTo}
use Rattle.relaxed_file.proofs.Tables.{from_some}
use Rattle.protocol.specs.Tables.{Table, element_at}
use Rattle.protocol.specs.Logged.{Logged, Copy, LogDisk, LogChange, AppendRecord, WriteCheckpoint, log_changed, after_record, swapped_in}
use Rattle.protocol.specs.Observer.{Placed, placed_in}
use Rattle.protocol.specs.MasterStep.{master_goes}
use Rattle.protocol.specs.World.{WorldState, IsReached}
use Rattle.laws_base.proofs.Steps.{none_some}
use Rattle.laws_base.proofs.OrderNumbers.{AllStops, state-appended}
use Rattle.laws_base.proofs.LoggedParts.{Parts}
use Rattle.laws_base.proofs.NamesReached.{logged_reached}
use Rattle.laws_base.proofs.RowsLogged.{IsFoundRows, IsRowedLog}
use Rattle.laws_base.proofs.RowsKept.{rows_kept}
use Rattle.laws_base.specs.Laws.{HasAllReferences}
use Rattle.laws_names.specs.Alike.{Requests}
use Rattle.laws_names.specs.Names.{HasNamesOf, record_of}
use Rattle.laws_names.specs.NameTrails.{log_read, IsRefusal, IsActionOf, IsChunkRecord, IsChangeOf, NameTrail}
use Rattle.laws_names.proofs.FollowedStepsReached.{steps_go_by_records}
use Rattle.laws_base.proofs.RoundsPassed.{rounds_of_entries_were_issued}
use Rattle.protocol_invariant.specs.Actions.{Spot}
use Rattle.laws_machine.specs.ChunksAlike.{ChunkSides, entries_in}
use Rattle.laws_machine.specs.MasterSteps.{IsWhole, IsDueAt, MayBeGranted, HasFilesOf, AreChangesDue}
use Rattle.laws_machine.specs.RecordDues.{IsOwnGrant, IsCopyGrant, IsRecordDue, IsLogDue, AreLogDues}
use Rattle.laws_machine.specs.GrantedRecords.{IsGrantOfAttempt, IsGrantedFrom, AreGrantedFrom}
use Rattle.laws_machine.specs.WholeSteps.{IsAskedFor, AreAskedFor, MasterStepsAreTaken}
use Rattle.laws_machine.proofs.GrantedRecords.{steps_grant_what_was_attempted}
use Rattle.laws_base.proofs.GrantedIssued.{granted_is_at_most_issued}
use Rattle.laws_versions.proofs.AttemptedNumbers.{attempts_are_of_the_last_version}
use Rattle.laws_versions.proofs.CopiedOrders.{copies_under_way_have_their_sources_order, copies_under_way_are_not_granted}
use Rattle.chunk_table.specs.ChunkTable.{ChunkRow, chunk_of}
use Rattle.protocol.specs.Master.{MasterState}
use Rattle.laws_machine.proofs.MasterSteps.{changes_are_taken}
use Rattle.laws_machine.proofs.RecordDues.{steps_log_what_is_due}

-- handles are numbered on

swapped_handles : (l : Logged) (handle : ℕ) (o : Option Copy) → l.next_handle ≤ (swapped_in l handle o).next_handle
swapped_handles l handle None = omega arith
swapped_handles l handle (Some c) = omega arith

abbrev AreNumberedOn : Logged → Record → Type 0
AreNumberedOn l r = l.next_handle ≤ (after_record l r).next_handle

chunk_handles : (l : Logged) (r : Record) → IsChunkRecord r → AreNumberedOn l r
chunk_handles l (log.Epoch epoch) is = omega arith
chunk_handles l (log.AddChunk file handle) is = le-max_left l.next_handle (handle.0 + 1)
chunk_handles l (log.Issue handle version) is = omega arith
chunk_handles l (log.Grant handle version primary members) is = swapped_handles _ handle.0 (table.get l.copies handle.0)
chunk_handles l (log.CopyStart file index handle copy version) is = le-max_left l.next_handle (copy.0 + 1)
chunk_handles l other is = absurd is

call_handles : (config : Config) (l k : Logged) (r : Record) (client number moment : ℕ) (c : Call) → record_of config k client number moment c ≡ Some r → AreNumberedOn l r
call_handles config l k r client number moment (call.Mkdir p) is = subst (λ (x : Record). AreNumberedOn l x) (from_some is) (omega arith)
call_handles config l k r client number moment (call.Rmdir p) is = subst (λ (x : Record). AreNumberedOn l x) (from_some is) (omega arith)
call_handles config l k r client number moment (call.Create p shape) is = subst (λ (x : Record). AreNumberedOn l x) (from_some is) (omega arith)
call_handles config l k r client number moment (call.Delete p) is = subst (λ (x : Record). AreNumberedOn l x) (from_some is) (omega arith)
call_handles config l k r client number moment (call.Rename p q) is = subst (λ (x : Record). AreNumberedOn l x) (from_some is) (omega arith)
call_handles config l k r client number moment (call.Snapshot p q) is = subst (λ (x : Record). AreNumberedOn l x) (from_some is) (omega arith)
call_handles config l k r client number moment other is = none_some r is

refusal_handles : (l : Logged) (r : Record) (client : ℕ) → IsRefusal client r → AreNumberedOn l r
refusal_handles l r client is = subst (λ (x : Record). AreNumberedOn l x) (sym is.2) (omega arith)

action_handles : (l : Logged) (m : Machine) (r : Record) (action : Action) → IsActionOf m r action → AreNumberedOn l r
action_handles l m r (Step client moment outcome) (inl done) = let of = done.1 in call_handles m.config l of.2 r client of.0 moment of.1 of.5
action_handles l m r (Step client moment outcome) (inr refused) = refusal_handles l r client refused.1
action_handles l m r (FindBusy client holder) is = refusal_handles l r client is
action_handles l m r (FindFull client) is = refusal_handles l r client is
action_handles l m r (Expire file moment) is = subst (λ (x : Record). AreNumberedOn l x) (sym is) (omega arith)
action_handles l m r other is = absurd is

numbered_on : (d : LogDisk) (x : LogChange) (m n : Machine) → IsChangeOf m n x → IsLogDue d x → (log_read d).next_handle ≤ (log_read (log_changed d x)).next_handle
numbered_on d (AppendRecord r) m n (inl about) due = subst (λ (l : Logged). (log_read d).next_handle ≤ l.next_handle) (sym (state-appended d r)) (chunk_handles (log_read d) r about.0)
numbered_on d (AppendRecord r) m n (inr action) due = subst (λ (l : Logged). (log_read d).next_handle ≤ l.next_handle) (sym (state-appended d r)) (action_handles (log_read d) m r action.0 action.2)
numbered_on d (WriteCheckpoint items) m n is due = (due.0).next_handle

-- so along a step, wherever it stops
pub all_numbered : (requests : Requests) (first : Machine) (start : LogDisk) (later : Machine) (changes : List LogChange) (d : LogDisk) (n : Machine) (low : ℕ) → low ≤ (log_read d).next_handle → NameTrail requests first start d n changes later → AreLogDues d changes
    → AllStops (λ l. low ≤ (log_read l).next_handle) d changes
all_numbered requests first start later [] d n low is trail dues = is
all_numbered requests first start later (x ∷ rest) d n low is trail dues =
    let more = numbered_on d x trail.0 trail.1 trail.3 dues.0 in
    (is, all_numbered requests first start later rest (log_changed d x) trail.1 low (omega (arith, is, more)) trail.5 dues.1)

-- a copy that is granted comes after its source, whose entries it has
abbrev DoesCopyFollow : Table (List Placed) → Logged → ℕ → ℕ → Type 0
DoesCopyFollow orders l handle version =
    (c : Copy) → table.get l.copies handle ≡ Some c
    → ((before : ChunkRow) → chunk_of l.table c.source ≡ Some before → before.granted < version) × (entries_in orders handle ≡ entries_in orders c.source)

copy_follows : (config : Config) (servers clients : ℕ) (w : WorldState) → IsReached config servers clients w → IsTrue w.observer.are_clocks_kept → IsTrue w.master.up → (orders : Table (List Placed)) → orders ≡ w.observer.orders → (l : Logged) (handle version : ℕ)
    → IsGrantOfAttempt w.master l handle version → DoesCopyFollow orders l handle version
copy_follows config servers clients w r clocks up orders same l handle version g c is = (higher, subst (λ (os : Table (List Placed)). entries_in os handle ≡ entries_in os c.source) (sym same) (ap (λ (ps : List Placed). map (λ p. p.entry) ps) like))
  where
    here : table.get w.master.logged.copies handle ≡ Some c
    here = g.copies c is

    like : placed_in w.observer.orders handle ≡ placed_in w.observer.orders c.source
    like = copies_under_way_have_their_sources_order config servers clients w r clocks up handle c here

    higher : (before : ChunkRow) → chunk_of l.table c.source ≡ Some before → before.granted < version
    higher before there =
        let old = g.sources c is before there in
        let copy = copies_under_way_are_not_granted config servers clients w r clocks up handle c here in
        let low = granted_is_at_most_issued config servers clients w r c.source old.0 old.1 in
        let next = copy.follows old.0 old.1 in
        let tried = g.attempted in
        let last = (attempts_are_of_the_last_version config servers clients w r up handle tried.attempt tried.at).1 copy.row copy.there in
        let number = tried.same in
        let granted = old.2 in
        omega (arith, low, next, last, number, granted)

-- what a record asks

no_spot : (k : ChunkSides) (n : Machine) (handle : ℕ) → IsWhole k n → handle ≡ k.log.next_handle → k.gone handle ≡ None
no_spot k n handle h next = by_spot (k.gone handle) refl
  where
    by_spot : (o : Option Spot) → k.gone handle ≡ o → k.gone handle ≡ None
    by_spot None is = is
    by_spot (Some s) is = absurd (let low = h.below handle s is in omega (arith, low, next))

module _ (first : Machine) (orders : Table (List Placed)) (used : ℕ) (m : MasterState) (no_entry : (handle : ℕ) → used ≤ handle → entries_in orders handle ≡ [])
    (follows : (l : Logged) (handle version : ℕ) → IsGrantOfAttempt m l handle version → DoesCopyFollow orders l handle version) where
  grant_due : (k : ChunkSides) (handle version : ℕ) → k.orders ≡ orders → IsOwnGrant k.log handle version ⊎ ((c : Copy) × IsCopyGrant k.log handle c) → DoesCopyFollow orders k.log handle version → HasAllReferences k.log.table → MayBeGranted k handle version
  grant_due k handle version same (inl own) follows refs = inl (own.no_copy, own.place, own.row, (own.stands, own.once), own.row_is, own.higher)
  grant_due k handle version same (inr copy) follows refs =
      let g = copy.1 in
      let after = follows copy.0 g.under_way in
      inr (
        copy.0,
        refs,
        record {
          under_way = g.under_way;
          place = g.place;
          unplaced = g.unplaced;
          row = g.row;
          row_is = g.row_is;
          before = g.before;
          before_is = g.before_is;
          higher = after.0 g.before g.before_is;
          entries = subst (λ (os : Table (List Placed)). entries_in os handle ≡ entries_in os (copy.0).source) (sym same) after.1;
        },
      )

  record_due : (r : Record) (k : ChunkSides) (n : Machine) → LeadsTo first k.machine → k.orders ≡ orders → IsWhole k n → HasFilesOf k.log n → used ≤ k.log.next_handle → IsRecordDue k.log r → IsGrantedFrom m k.log r → IsAskedFor first orders k.log r → IsDueAt k r
  record_due (log.Snapshot client number from to) k n led same h has low due granted cause = due
  record_due (log.Expired file) k n led same h has low due granted cause = due
  record_due (log.AddChunk file handle) k n led same h has low due granted cause =
      let next = due.0 in
      let asked = cause k n led refl same h has in (
        record {
          no_row = due.1;
          no_spot = no_spot k n handle.0 h due.0;
          no_entry = subst (λ (os : Table (List Placed)). entries_in os handle.0 ≡ []) (sym same) (no_entry handle.0 (omega (arith, low, next)));
        },
        due.2,
        due.3,
        asked.0,
        asked.1,
        asked.2,
      )
  record_due (log.Grant handle version primary members) k n led same h has low due granted cause = grant_due k handle.0 version.0 same due.1 (follows k.log handle.0 version.0 granted) due.0
  record_due (log.CopyStart file index handle copy version) k n led same h has low due granted cause = due
  record_due other k n led same h has low due granted cause = tt

  all_due : (requests : Requests) (first_names : Machine) (start : LogDisk) (later : Machine) (changes : List LogChange) (d : LogDisk) (n0 : Machine) → used ≤ (log_read d).next_handle → NameTrail requests first_names start d n0 changes later → AreLogDues d changes
      → AreGrantedFrom m d changes → AreAskedFor first orders d changes → AreChangesDue first orders d changes
  all_due requests first_names start later [] d n0 low trail dues granted causes = tt
  all_due requests first_names start later (AppendRecord r ∷ rest) d n0 low trail dues granted causes =
      let more = numbered_on d (AppendRecord r) trail.0 trail.1 trail.3 dues.0 in (
        λ k n led is same h has.
            record_due r k n led same h has (subst (λ (l : Logged). used ≤ l.next_handle) (sym is) low) (subst (λ (l : Logged). IsRecordDue l r) (sym is) dues.0)
            (subst (λ (l : Logged). IsGrantedFrom m l r) (sym is) granted.0) (subst (λ (l : Logged). IsAskedFor first orders l r) (sym is) causes.0),
        all_due requests first_names start later rest (log_changed d (AppendRecord r)) trail.1 (omega (arith, low, more)) trail.5 dues.1 granted.1 causes.1,
      )
  all_due requests first_names start later (WriteCheckpoint items ∷ rest) d n0 low trail dues granted causes =
      let more = numbered_on d (WriteCheckpoint items) trail.0 trail.1 trail.3 dues.0 in
      (λ k n led is same h has. dues.0, all_due requests first_names start later rest (log_changed d (WriteCheckpoint items)) trail.1 (omega (arith, low, more)) trail.5 dues.1 granted causes)

-- handles that were not used have no entry

no_entry : (config : Config) (servers clients : ℕ) (w : WorldState) → IsReached config servers clients w → IsTrue w.master.up → (orders : Table (List Placed)) → orders ≡ w.observer.orders → (handle : ℕ) → w.master.logged.next_handle ≤ handle
    → entries_in orders handle ≡ []
no_entry config servers clients w r up orders same handle high = subst (λ (os : Table (List Placed)). entries_in os handle ≡ []) (sym same) (by_list (placed_in w.observer.orders handle) refl)
  where
    by_list : (ps : List Placed) → placed_in w.observer.orders handle ≡ ps → map (λ p. p.entry) ps ≡ []
    by_list [] is = refl
    by_list (p ∷ ps) is =
        let low = (rounds_of_entries_were_issued config servers clients w r up handle 0 p (ap (λ (xs : List Placed). element_at xs 0) is)).used in
        absurd (omega (arith, low, high))

log_handles : (config : Config) (servers clients : ℕ) (w : WorldState) → IsReached config servers clients w → IsTrue w.master.up → w.master.logged.next_handle ≤ (log_read w.master.disk).next_handle
log_handles config servers clients w r up =
    let same = ap (λ (p : Parts). p.next_handle) (logged_reached IsFoundRows IsRowedLog rows_kept config servers clients w r up).same in
    omega (arith, same)

pub master_steps_are_taken : MasterStepsAreTaken
master_steps_are_taken config servers clients w r clocks up moment i refused n requests k at of is same h causes =
    let names = steps_go_by_records config servers clients w r up moment i refused n requests at of in
    let changes : List LogChange = (master_goes w.master moment i refused).changes in
    let named : HasNamesOf k.log n = subst (λ (l : Logged). HasNamesOf l n) (sym is) (((names.4).alike).names, ((names.4).alike).next) in
    let has : HasFilesOf k.log n = subst (λ (l : Logged). HasFilesOf l n) (sym is) ((names.4).alike).files in
    let dues : AreLogDues w.master.disk changes = steps_log_what_is_due config servers clients w r clocks up moment i refused in
    let due : AreChangesDue k.machine k.orders w.master.disk changes =
    all_due k.machine k.orders w.master.logged.next_handle w.master (no_entry config servers clients w r up k.orders same) (copy_follows config servers clients w r clocks up k.orders same) requests n w.master.disk names.0 changes w.master.disk n
    (log_handles config servers clients w r up) names.5 dues (steps_grant_what_was_attempted config servers clients w r clocks up moment i refused) causes in
    (names.0, names.1, names.2, names.3, changes_are_taken requests n w.master.disk w.master.disk changes k n names.0 h is named has names.5 due)
