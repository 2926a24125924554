-- A primary applies what it numbers in the same step, or holds no lease of the chunk after it.
use Rattle.std.proofs.Common.{◌≡◌, ◌⊎◌, ℕ, ◌+◌, ◌-◌, List, [], ◌∷◌, ◌++◌, replicate, Option, Some, None, refl, sym, ap, subst, ◌∙◌, inl, inr}
use Rattle.std.specs.Prelude.{filter}
use Rattle.std.specs.FinMap as table
use Rattle.std.specs.Ordering.{nat_cmp}
use Rattle.gfs_types.specs.declared.ids.DataId.{DataId}
use Rattle.gfs_types.specs.declared.mutation.Mutation.{Mutation}
use Rattle.gfs_types.specs.declared.mutation.Mutation.TheVariants as mutation
use Rattle.messages.specs.declared.event.NodeInput.{NodeInput}
use Rattle.replica_store.specs.declared.row.Row.{Row}
use Rattle.replica_store.specs.declared.change.StoreChange.TheVariants.{SetOrder, Put, Raise, Copy, Remove}
use Rattle.replica_store.specs.Replicas.{Replica, ServerDisk, replica_of, replica_becomes, written_replica, disk_changed, disk_changed_by_all, row_of, row_at}
use Rattle.primary_order.specs.SerialOrder.{SerialOrder, new_order}
use Rattle.protocol.specs.Tables.{Table}
use Rattle.protocol.specs.Sending.{handle_of, version_of, serial_of}
use Rattle.protocol.specs.Choice.{Choice, Ending, Goes, Lost, Stops, made_changes}
use Rattle.protocol.specs.Seen.{is_numbering, Taken, no_step}
use Rattle.protocol.specs.declared.seen.Seen.{Seen}
use Rattle.protocol.specs.declared.seen.Seen.TheVariants.{Numbered, BecameSettled, CopyStarted}
use Rattle.protocol.specs.Server.{ServerState, ServerDoing}
use Rattle.protocol.specs.ServerWrites.{stored_as}
use Rattle.protocol.specs.ServerStep.{server_goes, server_ends, server_step}
use Rattle.laws_base.proofs.Steps.{on_cond, none_some, put_there, gone_there}
use Rattle.laws_base.proofs.Entries.{AllOf, all_joined}
use Rattle.laws_base.proofs.MembersRecorded.{all_at}
use Rattle.laws_base.proofs.Disks.{all_block}
use Rattle.laws_base.specs.Replicas.{applied, IsApplied, PrimariesApplyWhatTheyNumber}
use Rattle.laws_base.proofs.ServerActs.{Acting, acting, with_change, AreFrom, IsNumbering, shown_as, numbers_on, KeepsActs, goes_fine}
use Rattle.laws_base.proofs.HeldReplicas.{IsNumber, numbers_quiet, changed_last}

none_left : (old new : Table SerialOrder) (handle : ℕ) → AreFrom old new → table.get old handle ≡ None → table.get new handle ≡ None
none_left old new handle from none = by_lease (table.get new handle) refl
  where
    by_lease : (o : Option SerialOrder) → table.get new handle ≡ o → table.get new handle ≡ None
    by_lease None is = is
    by_lease (Some p) is = let was = from handle p is in none_some was.0 (sym none ∙ was.1)

row_replica : (d : ServerDisk) (handle : ℕ) (row : Row) → row_at d handle ≡ Some row → (r : Replica) × (replica_of d handle ≡ Some r)
row_replica d handle row there = by_replica (replica_of d handle) refl there
  where
    by_replica : (o : Option Replica) → replica_of d handle ≡ o → row_of o ≡ Some row → (r : Replica) × (replica_of d handle ≡ Some r)
    by_replica None is g = none_some row g
    by_replica (Some r) is g = (r, is)

becomes_there : (f : Replica → Replica) (d : ServerDisk) (handle : ℕ) (r : Replica) → replica_of d handle ≡ Some r → replica_of (replica_becomes f d handle (replica_of d handle)) handle ≡ Some (f r)
becomes_there f d handle r is = subst (λ (o : Option Replica). replica_of (replica_becomes f d handle o) handle ≡ Some (f r)) (sym is) (put_there d.replicas handle (f r) handle refl)

stored_applied : (d : ServerDisk) (handle serial : ℕ) (m : Mutation) (r : Replica) → replica_of d handle ≡ Some r → replica_of (disk_changed d (stored_as handle serial m)) handle ≡ Some (applied d.block serial m r)
stored_applied d handle serial (mutation.Write offset bytes) r is = becomes_there (λ x. written_replica d.block x serial offset bytes) d handle r is
stored_applied d handle serial (mutation.Append offset bytes) r is = becomes_there (λ x. written_replica d.block x serial offset bytes) d handle r is
stored_applied d handle serial (mutation.Pad offset end) r is = becomes_there (λ x. written_replica d.block x serial offset (replicate (end - offset) 0)) d handle r is

module _ (s : ServerState) where
  -- after these changes the replica is what the mutation makes of it, or there is no lease
  abbrev IsMade : Table SerialOrder → ServerDisk → ℕ → ℕ → Mutation → Type 0
  IsMade leases d handle serial m = (table.get leases handle ≡ None) ⊎ IsApplied s.disk d handle serial m

  abbrev IsShown : Table SerialOrder → ServerDisk → Seen → Type 0
  IsShown leases d (Numbered handle version serial id m) = IsMade leases d handle.0 serial.0 m
  IsShown leases d (BecameSettled handle version serial) = Unit {0}
  IsShown leases d (CopyStarted handle copy) = Unit {0}

  abbrev Before : Acting → Type 0
  Before c = (c.config ≡ s.config) × (c.disk ≡ s.disk) × AllOf IsNumber c.changes × (c.seen ≡ [])

  abbrev After : Acting → Type 0
  After c = AllOf (IsShown c.leases (disk_changed_by_all c.disk c.changes)) c.seen

  unseen : (leases : Table SerialOrder) (d : ServerDisk) (seen : List Seen) → seen ≡ [] → AllOf (IsShown leases d) seen
  unseen leases d seen none = subst (λ (xs : List Seen). AllOf (IsShown leases d) xs) (sym none) tt

  one_shown : (leases : Table SerialOrder) (d : ServerDisk) (seen : List Seen) (x : Seen) → seen ≡ [] → IsShown leases d x → AllOf (IsShown leases d) (seen ++ x ∷ [])
  one_shown leases d seen x none h = all_joined (IsShown leases d) seen (x ∷ []) (unseen leases d seen none) (h, tt)

  fewer : (old new : Table SerialOrder) (d : ServerDisk) → AreFrom old new → (seen : List Seen) → AllOf (IsShown old d) seen → AllOf (IsShown new d) seen
  fewer old new d from [] h = tt
  fewer old new d from (Numbered handle version serial id m ∷ xs) h = (elim (h.0) [ inl none ↦ inl (none_left old new handle.0 from none) | inr made ↦ inr made ], fewer old new d from xs h.1)
  fewer old new d from (BecameSettled handle version serial ∷ xs) h = (tt, fewer old new d from xs h.1)
  fewer old new d from (CopyStarted handle copy ∷ xs) h = (tt, fewer old new d from xs h.1)

  silent : (c : Acting) → c.seen ≡ [] → After c
  silent c none = unseen c.leases (disk_changed_by_all c.disk c.changes) c.seen none

  seen_now : (c : Acting) (handle : ℕ) (p : SerialOrder) (id : DataId) (m : Mutation) → IsNumbering s.pushed c handle p id m → Before c
      → IsApplied s.disk (disk_changed_by_all c.disk (c.changes ++ stored_as handle (p.serial + 1) m ∷ [])) handle (p.serial + 1) m
  seen_now c handle p id m n h =
      let r = row_replica c.disk handle n.row n.there in
      let d : ServerDisk = disk_changed_by_all c.disk c.changes in
      let here : replica_of d handle ≡ Some r.0 = ap (λ (t : Table Replica). table.get t handle) (numbers_quiet c.disk c.changes h.2) ∙ r.1 in
      let made : replica_of (disk_changed d (stored_as handle (p.serial + 1) m)) handle ≡ Some (applied d.block (p.serial + 1) m r.0) = stored_applied d handle (p.serial + 1) m r.0 here in
      let block : d.block ≡ s.disk.block = all_block c.disk c.changes ∙ ap (λ (e : ServerDisk). e.block) h.1 in (
        r.0,
        subst (λ (e : ServerDisk). replica_of e handle ≡ Some r.0) h.1 r.1,
        ap (λ (e : ServerDisk). replica_of e handle) (changed_last c.disk c.changes (stored_as handle (p.serial + 1) m)) ∙ (made ∙ ap (λ (k : ℕ). Some (applied k (p.serial + 1) m r.0)) block),
      )

  acts_made : KeepsActs s.pushed Before After
  acts_made =
      record {
        begins = λ c h. silent c h.3;
        orders = λ c order h. (h.0, h.1, all_joined IsNumber c.changes (SetOrder order ∷ []) h.2 (tt, tt), h.3);
        drops = λ c handle h. silent (record (with_change c (Remove (handle_of handle))) { leases = table.remove c.leases handle }) h.3;
        puts = λ c handle version serial bytes none short h. silent (with_change c (Put (handle_of handle) (version_of version) (serial_of serial) bytes)) h.3;
        raises = λ c handle version r there h. silent (record (with_change c (Raise (handle_of handle) (version_of version))) { leases = table.remove c.leases handle }) h.3;
        copies = λ c handle copy version none h. silent (with_change c (Copy (handle_of handle) (handle_of copy) (version_of version))) h.3;
        grants = λ c handle version until chunk members holds h. silent (record c { leases = table.insert c.leases handle (new_order chunk (record { version = version; until = until; members = members })) }) h.3;
        holds = λ c leases from h. fewer c.leases leases (disk_changed_by_all c.disk c.changes) from c.seen h;
        settles = λ c handle version serial h. all_joined (IsShown c.leases (disk_changed_by_all c.disk c.changes)) c.seen (BecameSettled _ _ _ ∷ []) h (tt, tt);
        numbers = λ c handle p id m n h.
            one_shown (numbers_on c handle p id m).leases (disk_changed_by_all c.disk (c.changes ++ stored_as handle (p.serial + 1) m ∷ [])) c.seen (shown_as handle p id m) h.3 (inr (seen_now c handle p id m n h));
        spoils = λ c handle p id m n h.
            one_shown (table.remove (numbers_on c handle p id m).leases handle) (disk_changed_by_all c.disk (c.changes ++ Remove (handle_of handle) ∷ [])) c.seen (shown_as handle p id m) h.3 (inl (gone_there (numbers_on c handle p id m).leases handle handle refl));
        applies = λ c handle serial r x there less writing h. silent (with_change c x) h.3;
      }

  -- what a step shows, as its server stands after it
  abbrev IsDone : Taken ServerState → Type 0
  IsDone t = AllOf (IsShown t.state.leases t.state.disk) t.seen

  none_held : (d : ServerDisk) (seen : List Seen) → AllOf (IsShown table.empty d) seen
  none_held d [] = tt
  none_held d (Numbered handle version serial id m ∷ xs) = (inl (table.get-empty nat_cmp handle.0), none_held d xs)
  none_held d (BecameSettled handle version serial ∷ xs) = (tt, none_held d xs)
  none_held d (CopyStarted handle copy ∷ xs) = (tt, none_held d xs)

  ends_made : (d : ServerDoing) (choice : Choice) (e : Ending) → After (acting d) → IsDone (server_ends s d choice e)
  ends_made d choice Goes h = h
  ends_made d choice Lost h = tt
  ends_made d choice (Stops made) h = none_held (disk_changed_by_all s.disk (made_changes made d.changes)) (filter is_numbering d.seen)

  step_made : (moment : ℕ) (i : NodeInput) (choice : Choice) → IsDone (server_step s moment i choice)
  step_made moment i choice =
      on_cond IsDone s.up (server_ends s (server_goes s moment i) choice choice.ending) (no_step s)
      (λ _. ends_made (server_goes s moment i) choice choice.ending (goes_fine s Before After acts_made moment i (refl, refl, tt, refl))) (λ _. tt)

pub primaries_apply_what_they_number : PrimariesApplyWhatTheyNumber
primaries_apply_what_they_number s moment i choice place handle version serial id m seen =
    all_at (IsShown s t.state.leases t.state.disk) t.seen place (Numbered handle version serial id m) (step_made s moment i choice) seen
  where
    t : Taken ServerState
    t = server_step s moment i choice
