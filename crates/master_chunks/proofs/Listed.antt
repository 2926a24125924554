-- Where a chunk that was added stands, and what a copy that is given up leaves of others.
use Rattle.std.proofs.Common.{◌≡◌, ℕ, Bool, true, false, not, cond, ◌&&◌, ◌||◌, List, [], ◌∷◌, ◌++◌, length, Option, Some, None, refl, sym, ap, ◌∙◌, subst}
use Rattle.std.specs.Prelude.{unwrap_or, IfSome}
use Rattle.std.specs.FinMap.{get, remove, get-remove}
use Rattle.std.specs.Ordering.{nat_cmp, eq_by_cmp}
use Rattle.std.specs.Cmp.{nat_cmp_total}
use Rattle.gfs_types.specs.declared.ids.FileId.{FileId}
use Rattle.gfs_types.specs.declared.ids.Handle.{Handle}
use Rattle.log_records.specs.declared.record.Record.{Record}
use Rattle.log_records.specs.declared.record.Record.TheVariants as log
use Rattle.chunk_table.specs.ChunkTable.{ChunkRow, handles_of, chunk_of}
use Rattle.chunk_table.proofs.Lookups.{at_key}
use Rattle.protocol.specs.Tables.{element_at}
use Rattle.protocol.specs.Logged.{Logged, LogDisk, after_record, checkpoint_of}
use Rattle.protocol.specs.LogSizes.{checkpoint_fits}
use Rattle.protocol.specs.Master.{MasterDoing, appends, fits, is_of_copy, writes_checkpoint}
use Rattle.master_plan.specs.Plans.{PlanState, doing, without_copies}
use Rattle.master_plan.specs.Logging.{was_logged, tried}
use Rattle.master_waiting.proofs.Concerning.{own_key}
use Rattle.master_chunks.specs.Own.{IsListed, IsOwn}

at_end : (xs : List ℕ) (x : ℕ) → element_at (xs ++ x ∷ []) (length xs) ≡ Some x
at_end [] x = refl
at_end (y ∷ ys) x = at_end ys x

-- the record puts it at the file's end
added_there : (l : Logged) (file : FileId) (handle : Handle)
    → element_at (handles_of (after_record l (log.AddChunk file handle)).table file.0) (length (handles_of l.table file.0)) ≡ Some handle.0
added_there l file handle =
    let handles : List ℕ = handles_of l.table file.0 in
    ap (λ (o : Option (List ℕ)). element_at (unwrap_or o []) (length handles)) (own_key l.table.files file.0 (handles ++ handle.0 ∷ [])) ∙ at_end handles handle.0

-- what holds behind a record, with and without a checkpoint before it, holds once it was logged
logged_is : (d : MasterDoing) (r : Record) (P : Logged → Type 0) → P (after_record d.master.logged r) → P (after_record (writes_checkpoint d).master.logged r) → true ≡ was_logged d r
    → P (tried d r).master.logged
logged_is d r P one two is = by (fits d r) (checkpoint_fits d.master.config.log_bytes (checkpoint_of d.master.logged)) (fits (writes_checkpoint d) r && not (is_of_copy d.master.logged r)) is
  where
    by : (a b c : Bool) → true ≡ (a || (b && c)) → P (cond a (appends d r) (cond b (cond c (appends (writes_checkpoint d) r) (writes_checkpoint d)) d)).master.logged
    by true b c e = one
    by false true true e = two
    by false true false e = absurd (let both : true ≡ false = e in cc)
    by false false c e = absurd (let both : true ≡ false = e in cc)

-- a chunk that was added is listed at what was the file's length
pub added_listed : (disk : LogDisk) (p q : PlanState) (file : FileId) (handle : Handle) (index : ℕ) → index ≡ length (handles_of p.logged.table file.0)
    → true ≡ was_logged (doing disk p) (log.AddChunk file handle) → tried (doing disk p) (log.AddChunk file handle) ≡ doing disk q → IsListed q file.0 index handle.0
added_listed disk p q file handle index next is goes =
    let r : Record = log.AddChunk file handle in
    let P : Logged → Type 0 = λ l. element_at (handles_of l.table file.0) (length (handles_of p.logged.table file.0)) ≡ Some handle.0 in
    let there : P (tried (doing disk p) r).master.logged =
    logged_is (doing disk p) r P (added_there p.logged file handle) (added_there (writes_checkpoint (doing disk p)).master.logged file handle) is in
    subst (λ (n : ℕ). element_at (handles_of q.logged.table file.0) n ≡ Some handle.0) (sym next) (subst (λ (d : MasterDoing). P d.master.logged) goes there)

-- a chunk that is asked for, once a copy was given up
pub own_still : (p : PlanState) (copy file index handle : ℕ) (row : ChunkRow) (own : Option ChunkRow) → IsOwn p file index handle row
    → own ≡ chunk_of (without_copies p (copy ∷ [])).logged.table handle → IfSome own (IsOwn (without_copies p (copy ∷ [])) file index handle)
own_still p copy file index handle row own h is =
    let q : PlanState = without_copies p (copy ∷ []) in
    let left : chunk_of q.logged.table handle ≡ cond (eq_by_cmp nat_cmp handle copy) None (chunk_of p.logged.table handle) = get-remove nat_cmp_total p.logged.table.chunks copy handle in
    subst (λ o. IfSome o (IsOwn q file index handle)) (sym (is ∙ left))
    (by (eq_by_cmp nat_cmp handle copy) (sym (left ∙ ap (λ (o : Option ChunkRow). cond (eq_by_cmp nat_cmp handle copy) None o) h.stands)) (ap (λ (o : Option ChunkRow). cond (eq_by_cmp nat_cmp handle copy) None o) h.stands))
  where
    q : PlanState
    q = without_copies p (copy ∷ [])

    by : (b : Bool) → cond b None (Some row) ≡ chunk_of q.logged.table handle → cond b None (chunk_of p.logged.table handle) ≡ cond b None (Some row)
        → IfSome (cond b None (chunk_of p.logged.table handle)) (IsOwn q file index handle)
    by true stands e = tt
    by false stands e = subst (λ o. IfSome o (IsOwn q file index handle)) (sym e) (record { listed = h.listed; stands = sym stands; ended = h.ended })
