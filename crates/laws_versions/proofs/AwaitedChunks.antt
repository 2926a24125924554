-- Beside a snapshot that waits no version of its chunks is attempted and no copy is under way for its files, in the words of the laws.
use Rattle.std.proofs.Common.{◌≡◌, ℕ, Bool, true, false, List, [], ◌∷◌, Option, Some, None, refl, sym, inl, inr}
use Rattle.std.specs.Prelude.{◌==◌, ◌||◌}
use Rattle.std.specs.List.{list_any, AllByRecursion}
use Rattle.std.specs.FinMap as table
use Rattle.std.proofs.lemmas.Bool.{true≢false, or_left, or_right}
use Rattle.protocol.specs.Tables.{has_number}
use Rattle.protocol.specs.Master.{MasterState, PendingSnapshot}
use Rattle.protocol.specs.MasterSnapshots.{snapshot_handles, snapshot_files}
use Rattle.protocol_invariant.specs.Leases.{IsWaitedFor}
use Rattle.laws_base.proofs.Namespace.{IsAmong, all_among}
use Rattle.laws_base.proofs.Entries.{AllOf, same_number}
use Rattle.laws_base.proofs.Awaited.{handle_of, file_of_it}
use Rattle.laws_versions.specs.AwaitedChunks.{WaitingSnapshotsAreAlone, AwaitedChunksAreNotTried}
use Rattle.laws_base.proofs.WaitsKept.{WaitsHere, waits_here}

-- as the laws say it

no_value : {X : Type 0} (o : Option X) → ((x : X) → o ≡ Some x → ⊥) → o ≡ None
no_value None h = refl
no_value (Some x) h = absurd (h x refl)

each_number : (P : ℕ → Type 0) (ns : List ℕ) → ((n : ℕ) → has_number ns n ≡ true → P n) → AllByRecursion P ns
each_number P [] f = tt
each_number P (x ∷ ns) f = (f x (or_left (x == x) (has_number ns x) (same_number x)), each_number P ns (λ n h. f n (or_right (x == n) (has_number ns n) h)))

each_snapshot : (P : PendingSnapshot → Type 0) (ss : List PendingSnapshot) → ((s : PendingSnapshot) → IsAmong ss s → P s) → AllByRecursion P ss
each_snapshot P [] f = tt
each_snapshot P (s ∷ ss) f = (f s (inl refl), each_snapshot P ss (λ t among. f t (inr among)))

untried : (m : MasterState) (s : PendingSnapshot) → IsAmong m.snapshots s → WaitsHere m → (handle : ℕ) → has_number (snapshot_handles m s) handle ≡ true → table.get m.attempts handle ≡ None
untried m s among h handle has =
    let found = handle_of m s handle has in
    no_value (table.get m.attempts handle) (λ a is. (h.1 s among (found.1).0 found.0 (found.1).1 (found.1).2).0 handle found.2 a is)

pub waiting_snapshots_are_alone : WaitingSnapshotsAreAlone
waiting_snapshots_are_alone config servers clients w r =
    let h : WaitsHere w.master = waits_here config servers clients w r in
    each_snapshot (IsWaitedFor w) w.master.snapshots
    (λ s among. record {
      not_attempted = each_number (λ handle. table.get w.master.attempts handle ≡ None) (snapshot_handles w.master s) (λ handle has. untried w.master s among h handle has);
      not_copied = λ copy c is. not_true (has_number (snapshot_files w.master s) c.file)
          (λ has. let found = file_of_it w.master s c.file has in (h.1 s among found.0 c.file found.1 found.2).1 copy c is refl);
    })
  where
    not_true : (b : Bool) → (b ≡ true → ⊥) → b ≡ false
    not_true true never = absurd (never refl)
    not_true false never = refl

pub awaited_chunks_are_not_tried : AwaitedChunksAreNotTried
awaited_chunks_are_not_tried config servers clients w r handle waited = by_list w.master.snapshots (all_among w.master.snapshots) waited
  where
    h : WaitsHere w.master
    h = waits_here config servers clients w r

    by_list : (ss : List PendingSnapshot) → AllOf (IsAmong w.master.snapshots) ss → list_any (λ s. has_number (snapshot_handles w.master s) handle) ss ≡ true → table.get w.master.attempts handle ≡ None
    by_list [] all has = absurd (true≢false (sym has))
    by_list (s ∷ ss) all has = by_test (has_number (snapshot_handles w.master s) handle) refl (λ g. by_list ss all.1 g) has
      where
        by_test : (b : Bool) → has_number (snapshot_handles w.master s) handle ≡ b → (list_any (λ t. has_number (snapshot_handles w.master t) handle) ss ≡ true → table.get w.master.attempts handle ≡ None)
            → b || list_any (λ t. has_number (snapshot_handles w.master t) handle) ss ≡ true → table.get w.master.attempts handle ≡ None
        by_test true is rest g = untried w.master s all.0 h handle is
        by_test false is rest g = rest g
