-- Snapshots that begin and are taken, whatever answers to growths of the names are left.
use Rattle.std.proofs.Common.{◌≡◌, ℕ, Bool, true, false, cond, List, [], ◌∷◌, ◌++◌, Some, None, Option, refl, sym, ap, ◌∙◌, subst}
use Rattle.std.specs.Prelude.{not}
use Rattle.std.specs.List.{list_all}
use Rattle.std.proofs.lemmas.Bool.{true≢false, and_parts}
use Rattle.gfs_types.specs.declared.ids.OrderNo.{OrderNo}
use Rattle.gfs_types.specs.Paths.{Path}
use Rattle.gfs_types.specs.declared.call.Call.{Call}
use Rattle.gfs_types.specs.declared.call.Call.TheVariants as call
use Rattle.log_records.specs.declared.record.Record.{Record}
use Rattle.log_records.specs.declared.record.Record.TheVariants as log
use Rattle.messages.specs.declared.message.Body.{Body}
use Rattle.messages.specs.declared.message.Body.TheVariants as body
use Rattle.chunk_table.specs.ChunkTable.{ChunkRow, chunk_of}
use Rattle.protocol.specs.Sending.{client_id, handle_of, version_of}
use Rattle.protocol.specs.Logged.{LogDisk}
use Rattle.protocol.specs.Master.{MasterState, MasterDoing, PendingSnapshot, has_lease, orders, gives_up_copies, without_attempts}
use Rattle.protocol.specs.MasterSnapshots.{takes_locks, snapshot_handles, snapshot_files, copies_for_files, changes_names, revokes_row, revokes_all, begins_snapshot, lets_go, is_ready, takes_snapshot, takes_ready}
use Rattle.protocol.specs.MasterNames.{performs, is_busy, master_refusal}
use Rattle.relaxed_file.specs.NameStep.{first_refusal, path_tests, name_tests}
use Rattle.gfs_types.specs.declared.refusal.Refusal.{Refusal}
use Rattle.gfs_types.specs.declared.refusal.Refusal.TheVariants.{Busy}
use Rattle.master_plan.specs.Plans.{PlanState, doing, known}
use Rattle.master_names.specs.Doing.{answered, IsPlanned, Changes}
use Rattle.master_names.proofs.Parts.{uses_none, goes_on, then_does, changes_with}

by_lease : (d : MasterDoing) (rest : List Bool) (server : ℕ) (b : OrderNo → Body) (lease : Bool)
    → cond lease (orders (record d { refused = rest }) server b) (record d { refused = rest }) ≡ record (cond lease (orders d server b) d) { refused = rest }
by_lease d rest server b true = refl
by_lease d rest server b false = refl

revokes_row_answered : (d : MasterDoing) (rest : List Bool) (handle : ℕ) (row : Option ChunkRow)
    → revokes_row (record d { refused = rest }) handle row ≡ record (revokes_row d handle row) { refused = rest }
revokes_row_answered d rest handle None = refl
revokes_row_answered d rest handle (Some row) =
    by_lease d rest row.primary (λ order. body.Revoke order (handle_of handle) (version_of row.granted)) (has_lease d.master row)

revokes_all_answered : (d : MasterDoing) (rest : List Bool) (handles : List ℕ)
    → revokes_all (record d { refused = rest }) handles ≡ record (revokes_all d handles) { refused = rest }
revokes_all_answered d rest [] = refl
revokes_all_answered d rest (handle ∷ handles) =
    ap (λ (e : MasterDoing). revokes_all e handles) (revokes_row_answered d rest handle (chunk_of d.master.logged.table handle))
    ∙ revokes_all_answered (revokes_row d handle (chunk_of d.master.logged.table handle)) rest handles

-- a snapshot's locks are taken, and attempts and copies given up
abbrev pub given_up : MasterDoing → PendingSnapshot → MasterDoing
given_up d s = gives_up_copies (without_attempts (takes_locks d s) (snapshot_handles d.master s)) (copies_for_files d.master.logged (snapshot_files d.master s))

module _ (disk : LogDisk) (old new : PlanState) (s : PendingSnapshot) where
  -- a snapshot begins
  pub begins : ((every : LogDisk) → begins_snapshot (doing every old) s ≡ doing every new) → IsPlanned (λ d. begins_snapshot d s) disk old new
  begins goes = uses_none (λ d. begins_snapshot d s) disk old new (λ rest.
      revokes_all_answered (given_up (doing disk old) s) rest (snapshot_handles (known old) s) ∙ ap (λ (d : MasterDoing). record d { refused = rest }) (goes disk))

  -- it is taken once its locks are back, and its names were tried
  pub takes : (mid tried_at : PlanState) (client number : ℕ) (made : Record)
      → ((every : LogDisk) → lets_go (doing every old) s ≡ doing every mid) → tried_at ≡ mid → client ≡ s.client → number ≡ s.number
      → made ≡ log.Snapshot (client_id s.client) s.number s.from s.to → Changes disk client number made tried_at new → IsPlanned (λ d. takes_snapshot d s) disk old new
  takes mid tried_at client number made goes same client_is number_is is does =
      let entry : Record = log.Snapshot (client_id s.client) s.number s.from s.to in
      let f : MasterDoing → MasterDoing = λ d. changes_names d s.client s.number (call.Snapshot s.from s.to) entry in
      let at_client : Changes disk s.client number made tried_at new = subst (λ n. Changes disk n number made tried_at new) client_is does in
      let at_number : Changes disk s.client s.number made tried_at new = subst (λ n. Changes disk s.client n made tried_at new) number_is at_client in
      goes_on (λ d. takes_snapshot d s) f disk old mid new (λ answers. ap (λ (d : MasterDoing). f (record d { refused = answers })) (goes disk))
      (changes_with disk s.client s.number (call.Snapshot s.from s.to) tried_at mid new made entry same is refl at_number)

  -- it is taken where it is ready
  pub takes_it : (mid : PlanState) → mid ≡ old → is_ready (known old) s ≡ true → IsPlanned (λ d. takes_snapshot d s) disk mid new
      → IsPlanned (λ d. cond (is_ready d.master s) (takes_snapshot d s) d) disk old new
  takes_it mid same ready does = goes_on _ (λ d. takes_snapshot d s) disk old mid new
      (λ answers. ap (λ b. cond b (takes_snapshot (answered disk old answers) s) (answered disk old answers)) ready
      ∙ ap (λ (p : PlanState). takes_snapshot (answered disk p answers) s) (sym same))
      does

  pub leaves_it : is_ready (known old) s ≡ false → new ≡ old → IsPlanned (λ d. cond (is_ready d.master s) (takes_snapshot d s) d) disk old new
  leaves_it waits is = uses_none _ disk old new (λ rest.
      ap (λ b. cond b (takes_snapshot (answered disk old rest) s) (answered disk old rest)) waits ∙ ap (λ (p : PlanState). answered disk p rest) (sym is))

  -- a Snapshot that meets no refusal
  pub performs_snapshot : (c : Call) (from to : Path) → c ≡ call.Snapshot from to → s.from ≡ from → s.to ≡ to
      → ((every : LogDisk) → begins_snapshot (doing every old) s ≡ doing every new) → IsPlanned (λ d. performs d s.client s.number s.deadline c) disk old new
  performs_snapshot c from to is from_is to_is goes =
      let pending : PendingSnapshot = record s { from = from; to = to } in
      let same : s ≡ pending = ap (λ (p : Path). record s { from = p }) from_is ∙ ap (λ (p : Path). record s { from = from; to = p }) to_is in
      subst (λ (x : Call). IsPlanned (λ d. performs d s.client s.number s.deadline x) disk old new) (sym is)
      (goes_on _ (λ d. begins_snapshot d s) disk old old new (λ answers. ap (λ (x : PendingSnapshot). begins_snapshot (answered disk old answers) x) (sym same)) (begins goes))

-- one more is looked at
pub one_more : (disk : LogDisk) (old mid new : PlanState) (s : PendingSnapshot) (all left : List PendingSnapshot) → all ≡ s ∷ left
    → IsPlanned (λ d. cond (is_ready d.master s) (takes_snapshot d s) d) disk old mid → IsPlanned (λ d. takes_ready d left) disk mid new → IsPlanned (λ d. takes_ready d all) disk old new
one_more disk old mid new s all left is first rest =
    subst (λ (l : List PendingSnapshot). IsPlanned (λ d. takes_ready d l) disk old new) (sym is)
    (then_does (λ d. cond (is_ready d.master s) (takes_snapshot d s) d) (λ d. takes_ready d left) disk old mid new first rest)

-- none is left
pub none_left : (disk : LogDisk) (p : PlanState) (all : List PendingSnapshot) → all ≡ [] → IsPlanned (λ d. takes_ready d all) disk p p
none_left disk p all is = uses_none (λ d. takes_ready d all) disk p p (λ rest. ap (λ (l : List PendingSnapshot). takes_ready (answered disk p rest) l) is)

-- where none is ready, none is taken
none_taken : (d : MasterDoing) (ss : List PendingSnapshot) → list_all (λ s. not (is_ready d.master s)) ss ≡ true → takes_ready d ss ≡ d
none_taken d [] waits = refl
none_taken d (s ∷ ss) waits =
    let both = and_parts (not (is_ready d.master s)) (list_all (λ s. not (is_ready d.master s)) ss) waits in
    ap (λ (e : MasterDoing). takes_ready e ss) (first (is_ready d.master s) both.0) ∙ none_taken d ss both.1
  where
    first : (b : Bool) → not b ≡ true → cond b (takes_snapshot d s) d ≡ d
    first true e = absurd (true≢false (sym e))
    first false e = refl

pub none_ready : (disk : LogDisk) (old new : PlanState) → list_all (λ s. not (is_ready (known new) s)) new.snapshots ≡ true → new ≡ old
    → IsPlanned (λ d. takes_ready d d.master.snapshots) disk old new
none_ready disk old new waits same =
    subst (λ (p : PlanState). IsPlanned (λ d. takes_ready d d.master.snapshots) disk p new) same
    (uses_none (λ d. takes_ready d d.master.snapshots) disk new new (λ rest. none_taken (answered disk new rest) new.snapshots waits))

-- the list is that of the snapshots that wait as the step's end begins
pub taken_all : (disk : LogDisk) (old start mid new : PlanState) (all : List PendingSnapshot) → start ≡ old → all ≡ start.snapshots → new ≡ mid
    → IsPlanned (λ d. takes_ready d all) disk start mid → IsPlanned (λ d. takes_ready d d.master.snapshots) disk old new
taken_all disk old start mid new all begun is same does =
    let f : MasterDoing → MasterDoing = λ d. takes_ready d d.master.snapshots in
    let from_start : IsPlanned f disk start mid =
    goes_on f (λ d. takes_ready d all) disk start start mid (λ answers. ap (λ (ss : List PendingSnapshot). takes_ready (answered disk start answers) ss) (sym is)) does in
    subst (λ (p : PlanState). IsPlanned f disk old p) (sym same) (subst (λ (p : PlanState). IsPlanned f disk p mid) begun from_start)

-- A call that meets no refusal finds no lock that conflicts.
no_test_before : (tests rest : List (Bool × Refusal)) (busy : Bool) (refusal : Refusal) → first_refusal (tests ++ (busy, refusal) ∷ rest) ≡ None → busy ≡ false
no_test_before [] rest true refusal e = cc
no_test_before [] rest false refusal e = refl
no_test_before (test ∷ tests) rest busy refusal e =
    elim test.0 as (λ b. cond b (Some test.1) (first_refusal (tests ++ (busy, refusal) ∷ rest)) ≡ None → busy ≡ false) [
      | true ↦ λ f. cc
      | false ↦ λ f. no_test_before tests rest busy refusal f
    ] e

pub not_busy : (m : MasterState) (c : Call) → master_refusal m c ≡ None → is_busy m c ≡ false
not_busy m c e = no_test_before (path_tests m.config c) (name_tests m.logged.names c) (is_busy m c) Busy e
