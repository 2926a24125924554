-- What the master orders of versions as it takes an Ask: a SetVersion goes above its base, which a server holds, and a CopyLocal is of a shared chunk and goes to the copy that begins in the same step, above the version that it copies. A Create is of a chunk of which nothing was granted, or of a copy that begins of one.
use Rattle.std.proofs.Common.{◌≡◌, ◌⊎◌, ℕ, zero, suc, ◌+◌, ◌≤◌, ◌<◌, Bool, true, false, List, [], ◌∷◌, ◌++◌, length, map, Option, Some, None, refl, sym, ap, subst, ◌∙◌, inl, inr, arith}
use Rattle.std.specs.Prelude.{◌==◌, nat_lt, nat_le, cond, unwrap_or}
use Rattle.std.specs.List.{filter_map}
use Rattle.std.proofs.lemmas.Bool.{ltb-true, ltb-false, leb-true}
use Rattle.std.proofs.Math.Nat.{le-max_left}
use Rattle.std.specs.FinMap as table
use Rattle.gfs_types.specs.declared.ids.Node.{Node}
use Rattle.gfs_types.specs.declared.ids.Node.TheVariants as node
use Rattle.gfs_types.specs.declared.ids.OrderNo.{OrderNo}
use Rattle.gfs_types.specs.declared.refusal.Refusal.TheVariants.{TooLong, Collected}
use Rattle.messages.specs.declared.message.NameReply.TheVariants.{Answered}
use Rattle.messages.specs.declared.message.Body.{Body}
use Rattle.messages.specs.declared.message.Body.TheVariants as body
use Rattle.messages.specs.declared.message.Message.{Message}
use Rattle.messages.specs.declared.message.Holder.{Holder}
use Rattle.messages.specs.declared.message.Wanted.{Wanted}
use Rattle.messages.specs.declared.message.Wanted.TheVariants as wanted
use Rattle.messages.specs.declared.event.NodeInput.{NodeInput}
use Rattle.messages.specs.declared.event.NodeInput.TheVariants as input
use Rattle.log_records.specs.declared.record.Record.{Record}
use Rattle.log_records.specs.declared.record.Record.TheVariants as log
use Rattle.chunk_table.specs.ChunkTable.{ChunkRow, chunk_of, file_of, handles_of, added_row}
use Rattle.leases.specs.LeaseEnds.{has_ended}
use Rattle.protocol.specs.Tables.{element_at}
use Rattle.protocol.specs.LogSizes.{checkpoint_fits}
use Rattle.protocol.specs.Sending.{message, file_id, handle_of, version_of, the_server}
use Rattle.protocol.specs.Choice.{Choice, Ending, Goes, Lost, Stops}
use Rattle.protocol.specs.Seen.{Taken, no_step}
use Rattle.protocol.specs.declared.seen.Seen.{Seen}
use Rattle.protocol.specs.declared.seen.Seen.TheVariants.{CopyStarted}
use Rattle.protocol.specs.Logged.{Logged, checkpoint_of, copies_given_up}
use Rattle.protocol.specs.Master.{MasterState, MasterDoing, PendingSnapshot, HeldAt, master_begins, tells, orders, logs, logs_after_checkpoint, appends, fits, writes_checkpoint, is_of_copy, with_attempt, gives_up_copy, holders_where, current_holders, present_current_holders, held_where, version_held, servers_of, is_present, has_lease}
use Rattle.protocol.specs.MasterSnapshots.{revokes_row, revokes, takes_ready, waits_for}
use Rattle.protocol.specs.MasterVersions.{Asker, VersionTarget, holder_line, group_of, tells_location, tells_holders, tells_none, tells_to_wait, version_order, sends_versions, new_attempt, sends_issued, issues_to, targets_by, recorded_holders, placement, placed_targets, issues_own, is_attempted, copy_order, sends_copies, copy_targets, sends_copy_started, copies_to, begins_copy, copy_for, is_copied, wants_own, wants_own_of, issues_copy, wants_copy, wants_by, wants_primary, holder_target}
use Rattle.protocol.specs.MasterAsks.{looks_at_row, looks_at, mutates_row, mutates_at, adds_chunk, with_index, asks_to_write, asks_to_append, asks_for_last, asks_for, asks_of, takes_ask}
use Rattle.protocol.specs.MasterStep.{master_takes, master_at, master_goes, may_end, master_bounded, master_ends, master_step}
use Rattle.laws_base.proofs.LeaseOrders.{revoke_order}
use Rattle.laws_base.proofs.Words.{true_false}
use Rattle.laws_base.proofs.Steps.{on_cond, none_some, put_cases, removed_cases}
use Rattle.laws_base.proofs.Entries.{AllOf, all_joined, all_filtered}
use Rattle.laws_base.proofs.MembersRecorded.{all_in_order}
use Rattle.laws_base.proofs.MasterPremises.{IsAsk, IsOfCalls, StepEffects, NameKeeps}
use Rattle.laws_base.proofs.MasterWalk.{IsHolder, all_hold, ready_here}
use Rattle.laws_versions.proofs.MasterCauses.{is_caused, Causes, step_caused}

-- a server holds this version of the chunk
abbrev pub IsHeldBySome : MasterState → ℕ → ℕ → Type 0
IsHeldBySome m handle version = (server : ℕ) × (version_held m handle server ≡ Some version)

-- the chunk is a new one, or nothing was granted of it and it is no copy under way
abbrev pub IsUngranted : MasterState → ℕ → Type 0
IsUngranted m handle = (m.logged.next_handle ≤ handle) ⊎ ((row : ChunkRow) × (chunk_of m.logged.table handle ≡ Some row) × (row.granted ≡ 0) × (table.get m.logged.copies handle ≡ None))

-- such a chunk is given a version, and no copy begins; or a copy of such a chunk begins under this handle
abbrev pub IsPlacedAnew : MasterState → List Seen → ℕ → Type 0
IsPlacedAnew m seen handle = (IsUngranted m handle × (seen ≡ [])) ⊎ ((source : ℕ) × (seen ≡ CopyStarted (handle_of source) (handle_of handle) ∷ []) × IsUngranted m source)

-- a copy of a shared chunk begins, and what a server holds of the source, which is current, goes to a higher version of the copy
pub record IsSourced (m : MasterState) (seen : List Seen) (handle version copy copy_version : ℕ) : Type 0 where
  pub below : version < copy_version
  pub seen_is : seen ≡ CopyStarted (handle_of handle) (handle_of copy) ∷ []
  pub row : ChunkRow
  pub there : chunk_of m.logged.table handle ≡ Some row
  pub shared : 2 ≤ row.references
  pub server : ℕ
  pub held : version_held m handle server ≡ Some version
  pub current : row.granted ≤ version

-- what an order of a version says, by the master as its step began and by what the step shows
abbrev pub IsHigher : MasterState → List Seen → Body → Type 0
IsHigher m seen (body.Create order handle version) = (1 ≤ version.0) × IsPlacedAnew m seen handle.0
IsHigher m seen (body.SetVersion order handle version base) = (base.0 < version.0) × IsHeldBySome m handle.0 base.0
IsHigher m seen (body.CopyLocal order handle version copy copy_version) = IsSourced m seen handle.0 version.0 copy.0 copy_version.0
IsHigher m seen other = Unit {0}

-- whether a message asks for a location
abbrev IsAskBody : Body → Type 0
IsAskBody (body.Ask number file w deadline lost) = Unit {0}
IsAskBody other = ⊥

-- holders that pass a test are of what the master believes

all_held : (n : MasterState) (handle : ℕ) (test : ℕ → Bool) (holders : List HeldAt) → AllOf (IsHolder n handle test) holders → AllOf (λ (x : HeldAt). version_held n handle x.server ≡ Some x.version) holders
all_held n handle test [] all = tt
all_held n handle test (x ∷ rest) all = ((all.0).0, all_held n handle test rest all.1)

holders_held : (n : MasterState) (handle : ℕ) (test : ℕ → Bool) (servers : List ℕ) → AllOf (λ (x : HeldAt). version_held n handle x.server ≡ Some x.version) (filter_map (λ s. held_where test s (version_held n handle s)) servers)
holders_held n handle test servers = all_held n handle test (filter_map (λ s. held_where test s (version_held n handle s)) servers) (all_hold n handle test servers)

-- what is held was issued
abbrev pub IsLow : MasterState → Type 0
IsLow m = (handle server version : ℕ) → version_held m handle server ≡ Some version → (handle < m.logged.next_handle) × ((row : ChunkRow) → chunk_of m.logged.table handle ≡ Some row → version ≤ row.issued)

-- no chunk of a file is a copy under way
abbrev pub AreOwn : MasterState → Type 0
AreOwn m = (file index handle : ℕ) → element_at (handles_of m.logged.table file) index ≡ Some handle → table.get m.logged.copies handle ≡ None

module _ (m : MasterState) (low : IsLow m) (apart : AreOwn m) where
  abbrev Fine : MasterDoing → Type 0
  Fine d = AllOf (λ x. IsHigher m d.seen x.body) d.sent

  -- rows so far: as they were, or of a new chunk
  abbrev IsKept : ℕ → ChunkRow → Type 0
  IsKept handle row = (chunk_of m.logged.table handle ≡ Some row) ⊎ ((m.logged.next_handle ≤ handle) × (row.issued ≡ 0) × (row.references ≡ 1))

  -- a file's chunk, or a new one
  abbrev IsOwn : ℕ → Type 0
  IsOwn handle = (table.get m.logged.copies handle ≡ None) ⊎ (m.logged.next_handle ≤ handle)

  abbrev AllOwn : List ℕ → Type 0
  AllOwn handles = (index handle : ℕ) → element_at handles index ≡ Some handle → IsOwn handle

  -- a step that has said and shown nothing
  record AreKept (d : MasterDoing) : Type 0 where
    next : m.logged.next_handle ≤ d.master.logged.next_handle
    rows : (handle : ℕ) (row : ChunkRow) → chunk_of d.master.logged.table handle ≡ Some row → IsKept handle row
    held : (handle server : ℕ) → version_held d.master handle server ≡ version_held m handle server
    shown : d.seen ≡ []
    silent : d.sent ≡ []

  quiet : (d : MasterDoing) → d.sent ≡ [] → Fine d
  quiet d none = subst (λ (ms : List Message). AllOf (λ x. IsHigher m d.seen x.body) ms) (sym none) tt

  said : (d : MasterDoing) (receiver : Node) (b : Body) → IsHigher m d.seen b → Fine d → Fine (tells d receiver b)
  said d receiver b is h = all_joined (λ x. IsHigher m d.seen x.body) d.sent (message node.Master receiver b ∷ []) h (is, tt)

  ordered : (d : MasterDoing) (server : ℕ) (b : OrderNo → Body) → ((o : OrderNo) → IsHigher m d.seen (b o)) → Fine d → Fine (orders d server b)
  ordered d server b is h =
      let o : OrderNo = record { epoch = d.master.logged.epoch; count = suc d.master.order_count } in
      all_joined (λ x. IsHigher m d.seen x.body) d.sent (message node.Master (the_server server) (b o) ∷ []) h (is o, tt)

  logged : (d : MasterDoing) (r : Record) (then_ : MasterDoing → MasterDoing) → Fine d → ((e : MasterDoing) → e.seen ≡ d.seen → e.sent ≡ d.sent → Fine (then_ e)) → Fine (logs d r then_)
  logged d r then_ h go =
      on_cond Fine (fits d r) (then_ (appends d r)) _ (λ _. go (appends d r) refl refl)
      (λ _. on_cond Fine (checkpoint_fits d.master.config.log_bytes (checkpoint_of d.master.logged)) (logs_after_checkpoint (writes_checkpoint d) r (is_of_copy d.master.logged r) then_) d
      (λ _. on_cond Fine _ (then_ (appends (writes_checkpoint d) r)) (writes_checkpoint d) (λ _. go (appends (writes_checkpoint d) r) refl refl) (λ _. h)) (λ _. h))

  same_fine : (d e : MasterDoing) → e.seen ≡ d.seen → e.sent ≡ d.sent → Fine d → Fine e
  same_fine d e seen sent h = subst (λ (xs : List Seen). AllOf (λ x. IsHigher m xs x.body) e.sent) (sym seen) (subst (λ (ms : List Message). AllOf (λ x. IsHigher m d.seen x.body) ms) (sym sent) h)

  -- snapshots that are taken

  abbrev AreHigherSoFar : StepEffects → Type 0
  AreHigherSoFar g = AllOf (λ x. IsHigher m g.seen x.body) g.sent

  names : NameKeeps IsOfCalls AreHigherSoFar
  names =
      record {
        named = λ g receiver number reply h. all_joined (λ x. IsHigher m g.seen x.body) g.sent (message node.Master receiver (body.Named number (Answered reply)) ∷ []) h (tt, tt);
        recorded = λ g r is h. h;
        checkpointed = λ g items h. h;
      }

  ready : (d : MasterDoing) (ss : List PendingSnapshot) → Fine d → Fine (takes_ready d ss)
  ready d ss h = ready_here IsOfCalls (λ r is. is) AreHigherSoFar names d ss h

  -- what is said of locations

  location_said : (d : MasterDoing) (a : Asker) (handle : ℕ) (row : ChunkRow) (holders : List Holder) → Fine d → Fine (tells_location d a handle row holders)
  location_said d a handle row holders h =
      said d a.client (body.Told a.number (Some (record { index = a.index; handle = handle_of handle; round = version_of row.granted; shape = row.shape; holders = holders; group = group_of d.master row }))) tt h

  holders_said : (d : MasterDoing) (a : Asker) (handle : ℕ) (row : ChunkRow) → Fine d → Fine (tells_holders d a handle row)
  holders_said d a handle row h = location_said d a handle row (map holder_line (current_holders d.master handle row)) h

  none_said : (d : MasterDoing) (a : Asker) → Fine d → Fine (tells_none d a)
  none_said d a h = said d a.client (body.Told a.number None) tt h

  wait_said : (d : MasterDoing) (a : Asker) → Fine d → Fine (tells_to_wait d a)
  wait_said d a h = said d a.client (body.Wait a.number) tt h

  revoked_said : (d : MasterDoing) (handle : ℕ) (o : Option ChunkRow) → Fine d → Fine (revokes_row d handle o)
  revoked_said d handle None h = h
  revoked_said d handle (Some row) h =
      on_cond Fine (has_lease d.master row) (orders d row.primary (revoke_order handle row)) d
      (λ _. ordered d row.primary (revoke_order handle row) (λ o. tt) h) (λ _. h)

  -- to whom a version goes: from a lower one that a server holds, or to a chunk of which nothing was granted
  abbrev IsAim : ℕ → ℕ → VersionTarget → Type 0
  IsAim handle version t = ((base : ℕ) → t.base ≡ Some base → (base < version) × IsHeldBySome m handle base) × (t.base ≡ None → IsUngranted m handle)

  -- what a server holds is below the next number
  module _ (d : MasterDoing) (kept : AreKept d) (handle : ℕ) (row : ChunkRow) (at : chunk_of d.master.logged.table handle ≡ Some row) where
    held_here : (server base : ℕ) → version_held d.master handle server ≡ Some base → IsHeldBySome m handle base
    held_here server base is = (server, sym (kept.held handle server) ∙ is)

    -- a chunk of which nothing was granted
    ungranted : IsOwn handle → row.granted ≡ 0 → IsUngranted m handle
    ungranted own none =
        elim (kept.rows handle row at) [
          | inl same ↦ elim (own) [ inl free ↦ inr (row, same, none, free) | inr new ↦ inl new ]
          | inr new ↦ inl new.0
        ]

    below : (server base : ℕ) → version_held d.master handle server ≡ Some base → base < suc row.issued
    below server base is =
        let passed = low handle server base (sym (kept.held handle server) ∙ is) in
        elim (kept.rows handle row at) [
          | inl same ↦ let bound = passed.1 row same in omega (arith, bound)
          | inr new ↦ let less = passed.0 in let first = new.0 in absurd (omega (arith, less, first))
        ]

    abbrev IsTarget : VersionTarget → Type 0
    IsTarget t = IsAim handle (suc row.issued) t

    held_targets : (holders : List HeldAt) → AllOf (λ (x : HeldAt). version_held d.master handle x.server ≡ Some x.version) holders → AllOf IsTarget (map holder_target holders)
    held_targets [] all = tt
    held_targets (x ∷ rest) all = (
      (
        λ base is. subst (λ (n : ℕ). (n < suc row.issued) × IsHeldBySome m handle n) (some_is x.version base is) (below x.server x.version all.0, held_here x.server x.version all.0),
        λ none. none_some x.version (sym none),
      ),
      held_targets rest all.1,
    )
      where
        some_is : (a b : ℕ) → Some a ≡ Some b → a ≡ b
        some_is a b h = cc

    placed : IsUngranted m handle → (servers : List ℕ) → AllOf IsTarget (map (λ s. record { server = s; base = version_held d.master handle s }) servers)
    placed free [] = tt
    placed free (s ∷ rest) = ((λ base is. (below s base is, held_here s base is), λ none. free), placed free rest)

    targets : IsOwn handle → (holders : List HeldAt) → AllOf (λ (x : HeldAt). version_held d.master handle x.server ≡ Some x.version) holders → AllOf IsTarget (targets_by d.master handle row holders)
    targets own [] all =
        on_cond (AllOf IsTarget) (nat_lt 0 row.granted) (map holder_target (present_current_holders d.master handle row)) (placed_targets d.master handle row)
        (λ _. held_targets (present_current_holders d.master handle row)
        (all_filtered (λ (x : HeldAt). version_held d.master handle x.server ≡ Some x.version) (λ x. is_present d.master x.server) (current_holders d.master handle row) (holders_held d.master handle (λ v. nat_le row.granted v) (servers_of d.master))))
        (λ none. placed (ungranted own (let most = ltb-false 0 row.granted none in omega (arith, most))) (placement d.master row))
    targets own (x ∷ rest) all = held_targets (x ∷ rest) all

    recorded : AllOf (λ (x : HeldAt). version_held d.master handle x.server ≡ Some x.version) (recorded_holders d.master handle row)
    recorded =
        on_cond (AllOf (λ (x : HeldAt). version_held d.master handle x.server ≡ Some x.version)) (nat_lt row.granted row.issued) (holders_where d.master handle (λ v. v == row.issued)) []
        (λ _. holders_held d.master handle (λ v. v == row.issued) (servers_of d.master)) (λ _. tt)

  -- orders that give a version

  versions_sent : (d : MasterDoing) (handle version : ℕ) (targets : List VersionTarget) → 1 ≤ version → AllOf (IsAim handle version) targets → d.seen ≡ [] → Fine d → Fine (sends_versions d handle version targets)
  versions_sent d handle version [] some all shown h = h
  versions_sent d handle version (t ∷ rest) some all shown h =
      versions_sent (orders d t.server (version_order handle version t.base)) handle version rest some all.1 shown (ordered d t.server (version_order handle version t.base) (one t.base (all.0).0 (all.0).1) h)
    where
      one : (base : Option ℕ) → ((n : ℕ) → base ≡ Some n → (n < version) × IsHeldBySome m handle n) → (base ≡ None → IsUngranted m handle) → (o : OrderNo) → IsHigher m d.seen (version_order handle version base o)
      one None less free o = (some, inl (free refl, shown))
      one (Some n) less free o = less n refl

  issued_said : (a : Asker) (handle version : ℕ) (targets : List VersionTarget) → 1 ≤ version → AllOf (IsAim handle version) targets → (d : MasterDoing) → d.seen ≡ [] → Fine d → Fine (sends_issued d a handle version targets)
  issued_said a handle version targets some all d shown h =
      let held : MasterDoing = with_attempt d handle (new_attempt d.master version targets) in
      wait_said (sends_versions held handle version targets) a (versions_sent held handle version targets some all shown h)

  issues_said : (d : MasterDoing) (a : Asker) (own : ℕ) (own_row : ChunkRow) (handle : ℕ) (row : ChunkRow) (targets : List VersionTarget) → AllOf (IsAim handle (suc row.issued)) targets → d.seen ≡ [] → Fine d
      → Fine (issues_to d a own own_row handle row targets)
  issues_said d a own own_row handle row [] all shown h = location_said d a own own_row [] h
  issues_said d a own own_row handle row (t ∷ rest) all shown h =
      logged d (log.Issue (handle_of handle) (version_of (suc row.issued))) (λ e. sends_issued e a handle (suc row.issued) (t ∷ rest)) h
      (λ e seen sent. issued_said a handle (suc row.issued) (t ∷ rest) (omega arith) all e (seen ∙ shown) (same_fine d e seen sent h))

  own_said : (d : MasterDoing) (a : Asker) (handle : ℕ) (row : ChunkRow) (b : Bool) → AreKept d → IsOwn handle → chunk_of d.master.logged.table handle ≡ Some row → Fine (issues_own d a handle row b)
  own_said d a handle row true kept own at = wait_said d a (quiet d kept.silent)
  own_said d a handle row false kept own at =
      let holders : List HeldAt = recorded_holders d.master handle row in
      issues_said d a handle row handle row (targets_by d.master handle row holders) (targets d kept handle row at own holders (recorded d kept handle row at)) kept.shown (quiet d kept.silent)

  -- a copy that begins

  -- who copies: from what a server holds of the source, or anew
  abbrev IsCopier : List Seen → ℕ → ℕ → ℕ → VersionTarget → Type 0
  IsCopier seen handle copy version t = ((held : ℕ) → t.base ≡ Some held → IsSourced m seen handle held copy version) × (t.base ≡ None → IsPlacedAnew m seen copy)

  copies_sent : (d : MasterDoing) (handle copy version : ℕ) (targets : List VersionTarget) → 1 ≤ version → AllOf (IsCopier d.seen handle copy version) targets → Fine d → Fine (sends_copies d handle copy version targets)
  copies_sent d handle copy version [] some all h = h
  copies_sent d handle copy version (t ∷ rest) some all h =
      copies_sent (orders d t.server (copy_order handle copy version t.base)) handle copy version rest some all.1 (ordered d t.server (copy_order handle copy version t.base) (one t.base (all.0).0 (all.0).1) h)
    where
      one : (base : Option ℕ) → ((n : ℕ) → base ≡ Some n → IsSourced m d.seen handle n copy version) → (base ≡ None → IsPlacedAnew m d.seen copy) → (o : OrderNo) → IsHigher m d.seen (copy_order handle copy version base o)
      one None source anew o = (some, anew refl)
      one (Some n) source anew o = source n refl

  -- each current holder copies; where nothing was granted, the copy is placed anew
  copied : (d : MasterDoing) → AreKept d → (handle : ℕ) (row : ChunkRow) → IsOwn handle → chunk_of d.master.logged.table handle ≡ Some row → nat_lt 1 row.references ≡ true → (copy : ℕ)
      → AllOf (IsCopier (CopyStarted (handle_of handle) (handle_of copy) ∷ []) handle copy (suc row.issued)) (copy_targets d.master handle row)
  copied d kept handle row own at many copy =
      on_cond (AllOf Source) (nat_lt 0 row.granted) (map holder_target (current_holders d.master handle row)) (map (λ s. record { server = s; base = None }) (placement d.master row))
      (λ _. held_sources (current_holders d.master handle row) (all_hold d.master handle (λ v. nat_le row.granted v) (servers_of d.master)))
      (λ none. placed_sources (let most = ltb-false 0 row.granted none in omega (arith, most)) (placement d.master row))
    where
      Source : VersionTarget → Type 0
      Source t = IsCopier (CopyStarted (handle_of handle) (handle_of copy) ∷ []) handle copy (suc row.issued) t

      there : chunk_of m.logged.table handle ≡ Some row
      there =
          elim (kept.rows handle row at) [
            | inl same ↦ same
            | inr new ↦ let two = ltb-true 1 row.references many in let one = new.2 in absurd (omega (arith, two, one))
          ]

      source : (server held : ℕ) → version_held d.master handle server ≡ Some held → row.granted ≤ held → IsSourced m (CopyStarted (handle_of handle) (handle_of copy) ∷ []) handle held copy (suc row.issued)
      source server held is current =
          record {
            below = below d kept handle row at server held is;
            seen_is = refl;
            row = row;
            there = there;
            shared = ltb-true 1 row.references many;
            server = server;
            held = sym (kept.held handle server) ∙ is;
            current = current;
          }

      held_sources : (holders : List HeldAt) → AllOf (IsHolder d.master handle (λ v. nat_le row.granted v)) holders → AllOf Source (map holder_target holders)
      held_sources [] all = tt
      held_sources (x ∷ rest) all = (
        (
          λ held is. source x.server held ((all.0).0 ∙ is) (subst (λ (n : ℕ). row.granted ≤ n) (some_is x.version held is) (leb-true row.granted x.version (all.0).1)),
          λ none. none_some x.version (sym none),
        ),
        held_sources rest all.1,
      )
        where
          some_is : (a b : ℕ) → Some a ≡ Some b → a ≡ b
          some_is a b h = cc

      placed_sources : row.granted ≡ 0 → (servers : List ℕ) → AllOf Source (map (λ s. record { server = s; base = None }) servers)
      placed_sources free [] = tt
      placed_sources free (s ∷ rest) = ((λ held none. none_some held none, λ _. inr (handle, refl, ungranted d kept handle row at own free)), placed_sources free rest)

  begins_said : (d : MasterDoing) (a : Asker) (handle : ℕ) (row : ChunkRow) (targets : List VersionTarget) → d.seen ≡ [] → d.sent ≡ []
      → AllOf (IsCopier (CopyStarted (handle_of handle) (handle_of d.master.logged.next_handle) ∷ []) handle d.master.logged.next_handle (suc row.issued)) targets
      → Fine (copies_to d a handle row targets)
  begins_said d a handle row [] shown silent all = location_said d a handle row [] (quiet d silent)
  begins_said d a handle row (t ∷ rest) shown silent all =
      let copy : ℕ = d.master.logged.next_handle in
      logged d (log.CopyStart (file_id a.file) a.index (handle_of handle) (handle_of copy) (version_of (suc row.issued))) (λ e. sends_copy_started e a handle copy (suc row.issued) (t ∷ rest)) (quiet d silent)
      (λ e seen sent. started e (seen ∙ shown) (sent ∙ silent))
    where
      started : (e : MasterDoing) → e.seen ≡ [] → e.sent ≡ [] → Fine (sends_copy_started e a handle d.master.logged.next_handle (suc row.issued) (t ∷ rest))
      started e none quiet_ =
          let copy : ℕ = d.master.logged.next_handle in
          let shows : MasterDoing = record e { seen = e.seen ++ CopyStarted (handle_of handle) (handle_of copy) ∷ [] } in
          let held : MasterDoing = with_attempt shows copy (new_attempt e.master (suc row.issued) (t ∷ rest)) in
          wait_said (sends_copies held handle copy (suc row.issued) (t ∷ rest)) a
          (copies_sent held handle copy (suc row.issued) (t ∷ rest) (omega arith)
          (subst (λ (xs : List Seen). AllOf (IsCopier (xs ++ CopyStarted (handle_of handle) (handle_of copy) ∷ []) handle copy (suc row.issued)) (t ∷ rest)) (sym none) all)
          (quiet held quiet_))

  wants_said : (d : MasterDoing) (a : Asker) (handle : ℕ) (row : ChunkRow) → AreKept d → IsOwn handle → chunk_of d.master.logged.table handle ≡ Some row → Fine (wants_own d a handle row)
  wants_said d a handle row kept own at =
      on_cond Fine (nat_lt 1 row.references) (begins_copy d a handle row) _
      (λ many. begins_said d a handle row (copy_targets d.master handle row) kept.shown kept.silent (copied d kept handle row own at many d.master.logged.next_handle))
      (λ _. on_cond Fine (is_copied d.master.logged handle) (tells_to_wait d a) (issues_own d a handle row (is_attempted d.master handle)) (λ _. wait_said d a (quiet d kept.silent))
      (λ _. own_said d a handle row (is_attempted d.master handle) kept own at))

  wants_of_said : (d : MasterDoing) (a : Asker) (handle : ℕ) (o : Option ChunkRow) → AreKept d → IsOwn handle → chunk_of d.master.logged.table handle ≡ o → Fine (wants_own_of d a handle o)
  wants_of_said d a handle None kept own at = quiet d kept.silent
  wants_of_said d a handle (Some row) kept own at = wants_said d a handle row kept own at

  less_kept : (d : MasterDoing) (handles : List ℕ) (e : MasterDoing) → e.master.logged ≡ copies_given_up d.master.logged handles → ((handle server : ℕ) → version_held e.master handle server ≡ version_held d.master handle server) → e.seen ≡ d.seen → e.sent ≡ d.sent
      → AreKept d → AreKept e
  less_kept d handles e less held seen sent h =
      record {
        next = subst (λ (l : Logged). m.logged.next_handle ≤ l.next_handle) (sym less) h.next;
        rows = λ handle row is. h.rows handle row (removed_cases d.master.logged.table.chunks handles handle row (ap (λ (l : Logged). chunk_of l.table handle) (sym less) ∙ is));
        held = λ handle server. held handle server ∙ h.held handle server;
        shown = seen ∙ h.shown;
        silent = sent ∙ h.silent;
      }

  added_kept : (d : MasterDoing) (file : ℕ) → AreKept d → AreKept (appends d (log.AddChunk (file_id file) (handle_of d.master.logged.next_handle)))
  added_kept d file h =
      let handle : ℕ = d.master.logged.next_handle in
      record {
        next = let low_next = h.next in let high = le-max_left handle (handle + 1) in omega (arith, low_next, high);
        rows = λ q row is. elim (put_cases d.master.logged.table.chunks handle (added_row d.master.logged.table file) q row is) [
          | inl same ↦ inr ((let key = same.0 in let first = h.next in omega (arith, first, key)), sym (ap (λ (x : ChunkRow). x.issued) same.1), sym (ap (λ (x : ChunkRow). x.references) same.1))
          | inr before ↦ h.rows q row before
        ];
        held = λ q server. h.held q server;
        shown = h.shown;
        silent = h.silent;
      }

  issues_copy_said : (d : MasterDoing) (a : Asker) (handle : ℕ) (row : ChunkRow) (copy : ℕ) (copy_row : ChunkRow) (holders : List HeldAt) → AreKept d → IsOwn handle → chunk_of d.master.logged.table copy ≡ Some copy_row
      → AllOf (λ (x : HeldAt). version_held d.master copy x.server ≡ Some x.version) holders → Fine (issues_copy d a handle row copy copy_row holders)
  issues_copy_said d a handle row copy copy_row [] kept own at all =
      let given_up : MasterDoing = gives_up_copy d copy in
      wants_of_said given_up a handle (chunk_of given_up.master.logged.table handle) (less_kept d (copy ∷ []) given_up refl (λ q server. refl) refl refl kept) own refl
  issues_copy_said d a handle row copy copy_row (x ∷ rest) kept own at all =
      issues_said d a handle row copy copy_row (map holder_target (x ∷ rest)) (held_targets d kept copy copy_row at (x ∷ rest) all) kept.shown (quiet d kept.silent)

  wants_copy_said : (d : MasterDoing) (a : Asker) (handle : ℕ) (row : ChunkRow) (copy : ℕ) (o : Option ChunkRow) → AreKept d → IsOwn handle → chunk_of d.master.logged.table handle ≡ Some row → chunk_of d.master.logged.table copy ≡ o → Fine (wants_copy d a handle row copy o)
  wants_copy_said d a handle row copy None kept own at copy_at = wants_said d a handle row kept own at
  wants_copy_said d a handle row copy (Some copy_row) kept own at copy_at =
      on_cond Fine (is_attempted d.master copy) (tells_to_wait d a) (issues_copy d a handle row copy copy_row (holders_where d.master copy (λ v. v == copy_row.issued))) (λ _. wait_said d a (quiet d kept.silent))
      (λ _. issues_copy_said d a handle row copy copy_row (holders_where d.master copy (λ v. v == copy_row.issued)) kept own copy_at (holders_held d.master copy (λ v. v == copy_row.issued) (servers_of d.master)))

  by_said : (d : MasterDoing) (a : Asker) (handle : ℕ) (row : ChunkRow) (o : Option ℕ) → AreKept d → IsOwn handle → chunk_of d.master.logged.table handle ≡ Some row → Fine (wants_by d a handle row o)
  by_said d a handle row None kept own at = wants_said d a handle row kept own at
  by_said d a handle row (Some copy) kept own at = wants_copy_said d a handle row copy (chunk_of d.master.logged.table copy) kept own at refl

  primary_said : (d : MasterDoing) (a : Asker) (handle : ℕ) (row : ChunkRow) → AreKept d → IsOwn handle → chunk_of d.master.logged.table handle ≡ Some row → Fine (wants_primary d a handle row)
  primary_said d a handle row kept own at =
      on_cond Fine (waits_for d.master handle) (tells_to_wait d a) (wants_by d a handle row (copy_for d.master.logged a.file a.index)) (λ _. wait_said d a (quiet d kept.silent))
      (λ _. by_said d a handle row (copy_for d.master.logged a.file a.index) kept own at)

  -- an Ask

  looks_said : (d : MasterDoing) (a : Asker) (o : Option ℕ) → Fine d → Fine (looks_at d a o)
  looks_said d a None h = none_said d a h
  looks_said d a (Some handle) h = by_row (chunk_of d.master.logged.table handle)
    where
      by_row : (o : Option ChunkRow) → Fine (looks_at_row d a handle o)
      by_row None = h
      by_row (Some row) = holders_said d a handle row h

  row_said : (d : MasterDoing) (a : Asker) (lost : Bool) (handle : ℕ) (o : Option ChunkRow) → AreKept d → IsOwn handle → chunk_of d.master.logged.table handle ≡ o → Fine (mutates_row d a lost handle o)
  row_said d a lost handle None kept own at = quiet d kept.silent
  row_said d a lost handle (Some row) kept own at =
      on_cond Fine (has_ended row d.master.now) (wants_primary d a handle row) (tells_holders (cond lost (revokes d handle) d) a handle row) (λ _. primary_said d a handle row kept own at)
      (λ _. holders_said (cond lost (revokes d handle) d) a handle row
      (on_cond Fine lost (revokes d handle) d (λ _. revoked_said d handle (chunk_of d.master.logged.table handle) (quiet d kept.silent)) (λ _. quiet d kept.silent)))

  at_said : (d : MasterDoing) (a : Asker) (lost : Bool) (o : Option ℕ) → AreKept d → ((handle : ℕ) → o ≡ Some handle → IsOwn handle) → Fine (mutates_at d a lost o)
  at_said d a lost None kept own = quiet d kept.silent
  at_said d a lost (Some handle) kept own = row_said d a lost handle (chunk_of d.master.logged.table handle) kept (own handle refl) refl

  adds_said : (d : MasterDoing) (a : Asker) (lost : Bool) → AreKept d → Fine (adds_chunk d a lost)
  adds_said d a lost kept =
      let handle : ℕ = d.master.logged.next_handle in
      let r : Record = log.AddChunk (file_id a.file) (handle_of handle) in
      let b : MasterDoing = writes_checkpoint d in
      let then_ : MasterDoing → MasterDoing = λ e. mutates_at e a lost (Some handle) in
      on_cond Fine (fits d r) (then_ (appends d r)) _ (λ _. at_said (appends d r) a lost (Some handle) (added_kept d a.file kept) (new_own handle kept.next))
      (λ _. on_cond Fine (checkpoint_fits d.master.config.log_bytes (checkpoint_of d.master.logged)) (logs_after_checkpoint b r (is_of_copy d.master.logged r) then_) d
      (λ _. on_cond Fine _ (then_ (appends b r)) b
      (λ _. at_said (appends b r) a lost (Some handle) (added_kept b a.file (less_kept d (table.keys d.master.logged.copies) b refl (λ q server. refl) refl refl kept)) (new_own handle kept.next)) (λ _. quiet b kept.silent))
      (λ _. quiet d kept.silent))
    where
      new_own : (new : ℕ) → m.logged.next_handle ≤ new → (handle : ℕ) → Some new ≡ Some handle → IsOwn handle
      new_own new high handle same = inr (subst (λ (n : ℕ). m.logged.next_handle ≤ n) (some_is new handle same) high)
        where
          some_is : (x y : ℕ) → Some x ≡ Some y → x ≡ y
          some_is x y h = cc

  write_said : (d : MasterDoing) (a : Asker) (lost : Bool) (handles : List ℕ) (index : ℕ) → AreKept d → AllOwn handles → Fine (asks_to_write d a lost handles index)
  write_said d a lost handles index kept own =
      on_cond Fine (nat_lt (length handles) index) (tells d a.client (body.Refused a.number TooLong)) _ (λ _. said d a.client (body.Refused a.number TooLong) tt (quiet d kept.silent))
      (λ _. on_cond Fine (index == length handles) (adds_chunk d (with_index a index) lost) (mutates_at d (with_index a index) lost (element_at handles index)) (λ _. adds_said d (with_index a index) lost kept)
      (λ _. at_said d (with_index a index) lost (element_at handles index) kept (own index)))

  append_said : (d : MasterDoing) (a : Asker) (lost : Bool) (handles : List ℕ) (after count : ℕ) → AreKept d → AllOwn handles → Fine (asks_to_append d a lost handles after count)
  append_said d a lost handles after zero kept own = adds_said d (with_index a 0) lost kept
  append_said d a lost handles after (suc last) kept own =
      on_cond Fine (nat_lt last after) (adds_chunk d (with_index a (suc last)) lost) (mutates_at d (with_index a last) lost (element_at handles last)) (λ _. adds_said d (with_index a (suc last)) lost kept)
      (λ _. at_said d (with_index a last) lost (element_at handles last) kept (own last))

  last_said : (d : MasterDoing) (a : Asker) (handles : List ℕ) (count : ℕ) → Fine d → Fine (asks_for_last d a handles count)
  last_said d a handles zero h = none_said d a h
  last_said d a handles (suc last) h = looks_said d (with_index a last) (element_at handles last) h

  asks_for_said : (d : MasterDoing) (a : Asker) (lost : Bool) (w : Wanted) (handles : List ℕ) → AreKept d → AllOwn handles → Fine (asks_for d a lost w handles)
  asks_for_said d a lost (wanted.Read index) handles kept own = looks_said d (with_index a index) (element_at handles index) (quiet d kept.silent)
  asks_for_said d a lost (wanted.Write index) handles kept own = write_said d a lost handles index kept own
  asks_for_said d a lost (wanted.Append after) handles kept own = append_said d a lost handles after (length handles) kept own
  asks_for_said d a lost wanted.Last handles kept own = last_said d a handles (length handles) (quiet d kept.silent)

  asks_of_said : (d : MasterDoing) (a : Asker) (lost : Bool) (w : Wanted) (o : Option (List ℕ)) → AreKept d → AllOwn (unwrap_or o []) → Fine (asks_of d a lost w o)
  asks_of_said d a lost w None kept own = said d a.client (body.Refused a.number Collected) tt (quiet d kept.silent)
  asks_of_said d a lost w (Some handles) kept own = asks_for_said d a lost w handles kept own

  ask_said : (d : MasterDoing) (client : Node) (number file : ℕ) (w : Wanted) (deadline : ℕ) (lost : Bool) → AreKept d → AllOwn (handles_of d.master.logged.table file) → Fine (takes_ask d client number file w deadline lost)
  ask_said d client number file w deadline lost kept own =
      let a : Asker = record { client = client; number = number; file = file; index = 0 } in
      on_cond Fine (nat_le deadline d.master.now) d (asks_of d a lost w (file_of d.master.logged.table file)) (λ _. quiet d kept.silent) (λ _. asks_of_said d a lost w (file_of d.master.logged.table file) kept own)

-- a step that takes an Ask, and one that takes none

abbrev AreHigher : MasterState → Taken MasterState → Type 0
AreHigher m t = AllOf (λ x. IsHigher m t.seen x.body) t.out.sent

module _ (m : MasterState) (low : IsLow m) (apart : AreOwn m) (moment : ℕ) where
  first_kept : (refused : List Bool) → AreKept (master_at m moment) low apart (master_begins (master_at m moment) refused)
  first_kept refused = record { next = omega arith; rows = λ handle row is. inl is; held = λ handle server. refl; shown = refl; silent = refl }

  asked_higher : (x : Message) (refused : List Bool) (b : Body) → x.body ≡ b → IsAskBody b → Fine (master_at m moment) low apart (master_goes m moment (input.Deliver x) refused)
  asked_higher x refused (body.Ask number file w deadline lost) is ask =
      let d : MasterDoing = master_takes (master_begins (master_at m moment) refused) x x.body in
      ready (master_at m moment) low apart d d.master.snapshots
      (subst (λ (b : Body). Fine (master_at m moment) low apart (master_takes (master_begins (master_at m moment) refused) x b)) (sym is)
      (ask_said (master_at m moment) low apart (master_begins (master_at m moment) refused) x.sender number file.0 w deadline.0 lost (first_kept refused) (λ index handle at. inl (apart file.0 index handle at))))
  asked_higher x refused other is ask = absurd ask

  ends_higher : (d : MasterDoing) (choice : Choice) (e : Ending) → Fine (master_at m moment) low apart d → AreHigher (master_at m moment) (master_ends m d choice e)
  ends_higher d choice Goes h = all_in_order (λ x. IsHigher (master_at m moment) d.seen x.body) choice.order d.sent h
  ends_higher d choice Lost h = tt
  ends_higher d choice (Stops made) h = tt

  step_asked : (x : Message) (choice : Choice) → IsAskBody x.body → AreHigher (master_at m moment) (master_step m moment (input.Deliver x) choice)
  step_asked x choice ask =
      let d : MasterDoing = master_goes m moment (input.Deliver x) choice.refused in
      on_cond (AreHigher (master_at m moment)) m.up (master_bounded m (input.Deliver x) d choice) (no_step m)
      (λ _. on_cond (AreHigher (master_at m moment)) (may_end m (input.Deliver x) d choice.ending) (master_ends m d choice choice.ending) (no_step m) (λ _. ends_higher d choice choice.ending (asked_higher x choice.refused x.body refl ask)) (λ _. tt))
      (λ _. tt)

-- other messages order no version
plain_higher : (m : MasterState) (seen : List Seen) (b : Body) → is_caused b ≡ false → IsHigher m seen b
plain_higher m seen (body.Create order handle version) none = true_false none
plain_higher m seen (body.SetVersion order handle version base) none = true_false none
plain_higher m seen (body.CopyLocal order handle version copy copy_version) none = true_false none
plain_higher m seen other none = tt

unasked : (m n : MasterState) (seen : List Seen) (i : NodeInput) → (IsAsk i → ⊥) → Causes m.logged m.attempts i (λ x. IsHigher n seen x.body)
unasked m n seen i none =
    record {
      plain = λ receiver b is. plain_higher n seen b is;
      extends = λ server line until due. tt;
      grants = λ server order handle version until chunk members told has. tt;
      creates = λ server order handle version ask due. absurd (none ask);
      raises = λ server order handle version base ask due. absurd (none ask);
      copies = λ server order handle version copy copy_version ask new. absurd (none ask);
    }

-- what the master orders of versions in a step
pub step_higher : (m : MasterState) → IsLow m → AreOwn m
    → ((handle : ℕ) (row : ChunkRow) → chunk_of m.logged.table handle ≡ Some row → row.granted ≤ row.issued) → (moment : ℕ) (i : NodeInput) (choice : Choice)
    → AllOf (λ x. IsHigher (master_at m moment) (master_step m moment i choice).seen x.body) (master_step m moment i choice).out.sent
step_higher m low apart issued moment input.Tick choice = step_caused m moment input.Tick choice _ issued (unasked m (master_at m moment) (master_step m moment input.Tick choice).seen input.Tick (λ ask. absurd (let both = ask.taken in cc)))
step_higher m low apart issued moment (input.Deliver x) choice = by_body x.body refl
  where
    same_message : (a b : Message) → input.Deliver a ≡ input.Deliver b → a ≡ b
    same_message a b h = cc

    other : ((number : ℕ) (file : _) (w : Wanted) (deadline : _) (lost : Bool) → x.body ≡ body.Ask number file w deadline lost → ⊥) → AreHigher (master_at m moment) (master_step m moment (input.Deliver x) choice)
    other none =
        step_caused m moment (input.Deliver x) choice _ issued
        (unasked m (master_at m moment) (master_step m moment (input.Deliver x) choice).seen (input.Deliver x)
        (λ ask. none ask.number ask.file ask.what ask.deadline ask.lost (ap (λ (y : Message). y.body) (same_message x ask.message ask.taken) ∙ ask.is)))

    by_body : (b : Body) → x.body ≡ b → AreHigher (master_at m moment) (master_step m moment (input.Deliver x) choice)
    by_body (body.Ask number file w deadline lost) is = step_asked m low apart moment x choice (subst IsAskBody (sym is) tt)
    by_body b is = other (λ number file w deadline lost ask. absurd (let both : b ≡ body.Ask number file w deadline lost = sym is ∙ ask in cc))
