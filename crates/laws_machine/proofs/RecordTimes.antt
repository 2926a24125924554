-- How often a chunk that is attempted stands in files, as records are logged.
use Rattle.std.proofs.Common.{◌≡◌, ℕ, zero, suc, ◌+◌, ◌≤◌, ◌<◌, List, [], ◌∷◌, ◌++◌, Option, Some, None, refl, ap, ◌∙◌, inl, inr, arith}
use Rattle.std.specs.Prelude.{◌==◌, unwrap_or}
use Rattle.std.specs.FinMap as table
use Rattle.gfs_types.specs.Paths.{Path}
use Rattle.log_records.specs.declared.record.Record.{Record}
use Rattle.log_records.specs.declared.record.Record.TheVariants as log
use Rattle.chunk_table.specs.ChunkTable.{ChunkTable, handles_of}
use Rattle.relaxed_file.specs.Names.{Node, Dir, File, copied_entries, id_after}
use Rattle.relaxed_file.proofs.NamesTree.{HasAt, copied_of, entry_is}
use Rattle.protocol.specs.Tables.{with_at}
use Rattle.protocol.specs.Logged.{Logged, Copy, after_record, swapped_in, with_copied_node, with_copied_nodes}
use Rattle.laws_base.specs.Laws.{times_in}
use Rattle.laws_base.proofs.Steps.{tally, count-cons, count-append, same_or_not, put_other}
use Rattle.laws_base.proofs.OneName.{HasOneName}
use Rattle.laws_base.proofs.Owners.{stands, chunks_at, times_put, times_gone, tally_same, tally_other}
use Rattle.laws_base.proofs.CountsLogged.{fresh}
use Rattle.laws_base.proofs.MasterMoves.{IsDue, IsNoGrantRecord}
use Rattle.laws_base.proofs.Awaited.{EachFile}

pub with_at_most : (hs : List ℕ) (index to q : ℕ) → stands q (with_at hs index to) ≤ stands q hs + tally (to == q)
with_at_most [] index to q = omega arith
with_at_most (x ∷ xs) zero to q = let new = count-cons (λ h. h == q) to xs in let old = count-cons (λ h. h == q) x xs in omega (arith, new, old)
with_at_most (x ∷ xs) (suc index) to q =
    let rest = with_at_most xs index to q in
    let new = count-cons (λ h. h == q) x (with_at xs index to) in
    let old = count-cons (λ h. h == q) x xs in
    omega (arith, rest, new, old)

-- a copy that takes its source's place stands once more
pub swapped_times : (l : Logged) (chunk q : ℕ) (o : Option Copy) → (q ≡ chunk → ⊥) → times_in (swapped_in l chunk o).table.files q ≤ times_in l.table.files q
swapped_times l chunk q None other = omega arith
swapped_times l chunk q (Some c) other =
    let put = times_put l.table.files c.file (with_at (chunks_at l.table.files c.file) c.index chunk) q in
    let low = with_at_most (chunks_at l.table.files c.file) c.index chunk q in
    let none = tally_other chunk q other in
    omega (arith, put, low, none)

-- no entry's file has the chunk
abbrev NoneHas : ChunkTable → List (Path × Node) → ℕ → Type 0
NoneHas t es q = (x : Path) (id : ℕ) → HasAt es x (File id) → 1 ≤ stands q (chunks_at t.files id) → ⊥

abbrev AreKnown : List (Path × Node) → ℕ → Type 0
AreKnown es next = (x : Path) (id : ℕ) → HasAt es x (File id) → id < next

copied_times : (es : List (Path × Node)) (t : ChunkTable) (next q : ℕ) → AreKnown es next → NoneHas t es q → times_in (with_copied_nodes t next es).files q ≤ times_in t.files q
copied_times [] t next q known none = omega arith
copied_times (e ∷ es) t next q known none = by_node (λ u n those still. copied_times es u n q those still) e.1 refl
  where
    Rest : Type 0
    Rest = (u : ChunkTable) (n : ℕ) → AreKnown es n → NoneHas u es q → times_in (with_copied_nodes u n es).files q ≤ times_in u.files q

    no_times : (file : ℕ) → e.1 ≡ File file → (n : ℕ) → stands q (chunks_at t.files file) ≡ n → n ≡ 0
    no_times file is zero at = refl
    no_times file is (suc n) at = absurd (none e.0 file (inl (refl, is)) (omega (arith, at)))

    by_node : Rest → (v : Node) → e.1 ≡ v → times_in (with_copied_nodes (with_copied_node t next v) (id_after next v) es).files q ≤ times_in t.files q
    by_node rest Dir is = rest t next (λ x id has. known x id (inr has)) (λ x id has some. none x id (inr has) some)
    by_node rest (File file) is =
        let u : ChunkTable = with_copied_node t next (File file) in
        let still : NoneHas u es q = λ x id has some.
        let low = known x id (inr has) in
        let same = ap (λ (o : Option (List ℕ)). stands q (unwrap_or o [])) (put_other t.files next (handles_of t file) id (λ at. omega (arith, low, at))) in
        none x id (inr has) (omega (arith, same, some)) in
        let more = rest u (suc next) (λ x id has. let low = known x id (inr has) in omega (arith, low)) still in
        let put = times_put t.files next (handles_of t file) q in
        let nothing : (n : ℕ) → stands q (chunks_at t.files file) ≡ n → n ≡ 0 = no_times file is in
        let zero_times = nothing (stands q (chunks_at t.files file)) refl in
        omega (arith, more, put, zero_times)

-- no snapshot copies the chunk by this record
abbrev pub IsNotCopied : Logged → Record → ℕ → Type 0
IsNotCopied l (log.Snapshot client n from to) q = EachFile l.names from (λ id. 1 ≤ stands q (chunks_at l.table.files id) → ⊥)
IsNotCopied l other q = Unit {0}

-- a record but a grant: a chunk that no snapshot copies and that stands once at most still does
pub times_after : (l : Logged) (r : Record) (q : ℕ) → ((h : ℕ) → 1 ≤ times_in l.table.files h → h < l.next_handle) → HasOneName l → IsDue (Unit {0}) l r → IsNoGrantRecord r → IsNotCopied l r q → times_in l.table.files q ≤ 1
    → times_in (after_record l r).table.files q ≤ 1
times_after l (log.AddChunk file handle) q below named due plain apart once =
    let put = times_put l.table.files file.0 (handles_of l.table file.0 ++ handle.0 ∷ []) q in
    let more = count-append (λ x. x == q) (handles_of l.table file.0) (handle.0 ∷ []) in
    let last = count-cons (λ x. x == q) handle.0 [] in
    elim (same_or_not q handle.0) [
      | inl same ↦
          let one = tally_same handle.0 q same in
          let none = fresh (times_in l.table.files q) l.next_handle q (below q) (same ∙ due.0) in
          omega (arith, put, more, last, one, none)
      | inr other ↦ let no_one = tally_other handle.0 q other in omega (arith, put, more, last, no_one, once)
    ]
times_after l (log.Create client n file shape path) q below named due plain apart once = let put = times_put l.table.files file.0 [] q in omega (arith, put, once)
times_after l (log.Expired file) q below named due plain apart once = let gone = times_gone l.table.files file.0 q in omega (arith, gone, once)
times_after l (log.Snapshot client n from to) q below named due plain apart once =
    let es : List (Path × Node) = copied_entries l.names from to in
    let known : AreKnown es l.next_file =
    λ x id has. let of = copied_of from to (table.entries l.names) x (File id) has in named.named.numbered of.0 id (entry_is l.names of.0 (File id) of.1) in
    let none : NoneHas l.table es q =
    λ x id has some. let of = copied_of from to (table.entries l.names) x (File id) has in apart of.0 id of.2 (entry_is l.names of.0 (File id) of.1) some in
    let low = copied_times es l.table l.next_file q known none in
    omega (arith, low, once)
times_after l (log.Grant chunk version primary members) q below named due plain apart once = absurd plain
times_after l (log.FileItem path file shape handles) q below named due plain apart once = absurd due
times_after l other q below named due plain apart once = once
