-- A record that a step logs changes the list of one file that was there before, at most.
use Rattle.std.specs.Prelude.{⊤, max}
use Rattle.std.proofs.Common.{◌≡◌, ◌⊎◌, ◌≤◌, ◌<◌, ◌+◌, ℕ, List, [], ◌∷◌, Option, Some, None, refl, sym, ap, ◌∙◌, inl, inr, arith}
use Rattle.std.specs.Cmp.{nat_cmp_total}
use Rattle.std.specs.FinMap as table
use Rattle.log_records.specs.declared.record.Record.{Record}
use Rattle.log_records.specs.declared.record.Record.TheVariants as log
use Rattle.gfs_types.specs.Paths.{Path}
use Rattle.relaxed_file.specs.Names.{Node, Dir, File, copied_entries, id_after, id_after_all}
use Rattle.chunk_table.specs.ChunkTable.{ChunkTable, grant, handles_of}
use Rattle.chunk_table.proofs.Lookups.{at_key}
use Rattle.protocol.specs.Tables.{Table, removed_all}
use Rattle.protocol.specs.Logged.{Logged, Copy, after_record, swapped_in, copies_given_up, copies_for_file, with_copied_node, with_copied_nodes}
use Rattle.master_cell.specs.ChangedFiles.{file_changed}

put_other : {X : Type 0} (t : Table X) (k : ℕ) (v : X) (q : ℕ) → (q ≡ k → ⊥) → table.get (table.insert t k v) q ≡ table.get t q
put_other t k v q other =
    table.get-insert nat_cmp_total t k v q
    ∙ at_key (λ x o. (x ≡ k → ⊥) → o ≡ table.get t x) q k (Some v) (table.get t q) (λ apart. absurd (apart refl)) (λ _ _. refl) other

gone_other : {X : Type 0} (t : Table X) (k q : ℕ) → (q ≡ k → ⊥) → table.get (table.remove t k) q ≡ table.get t q
gone_other t k q other =
    table.get-remove nat_cmp_total t k q
    ∙ at_key (λ x o. (x ≡ k → ⊥) → o ≡ table.get t x) q k None (table.get t q) (λ apart. absurd (apart refl)) (λ _ _. refl) other

put_cases : {X : Type 0} (t : Table X) (k : ℕ) (v : X) (q : ℕ) (w : X) → table.get (table.insert t k v) q ≡ Some w → (v ≡ w) ⊎ (table.get t q ≡ Some w)
put_cases t k v q w h =
    at_key (λ x o. o ≡ Some w → (v ≡ w) ⊎ (table.get t x ≡ Some w)) q k (Some v) (table.get t q) (λ e. inl cc) (λ _ e. inr e) (sym (table.get-insert nat_cmp_total t k v q) ∙ h)

kept_cases : {X : Type 0} (t : Table X) (k q : ℕ) (w : X) → table.get (table.remove t k) q ≡ Some w → table.get t q ≡ Some w
kept_cases t k q w h =
    at_key (λ x o. o ≡ Some w → table.get t x ≡ Some w) q k None (table.get t q) (λ e. absurd cc) (λ _ e. e) (sym (table.get-remove nat_cmp_total t k q) ∙ h)

removed_cases : {X : Type 0} (t : Table X) (ns : List ℕ) (q : ℕ) (x : X) → table.get (removed_all t ns) q ≡ Some x → table.get t q ≡ Some x
removed_cases t [] q x h = h
removed_cases t (n ∷ ns) q x h = kept_cases t n q x (removed_cases (table.remove t n) ns q x h)

-- a record that a step logs, where this is the id that the next file takes
abbrev pub IsOfStep : ℕ → Record → Type 0
IsOfStep next (log.Create client n file shape path) = next ≤ file.0
IsOfStep next (log.Counters next_file next_handle epoch) = ⊥
IsOfStep next (log.FileItem path file shape handles) = ⊥
IsOfStep next other = ⊤

-- A file's list is the one that was there before, and the copies under way for it are among those that were.
abbrev pub Agrees : Logged → Table ℕ → ℕ → Logged → Type 0
Agrees before copied q l =
    (table.get l.table.files q ≡ table.get before.table.files q)
    × (before.next_file ≤ l.next_file)
    × ((handle : ℕ) (c : Copy) → table.get l.copies handle ≡ Some c → c.file ≡ q → table.get copied handle ≡ Some q)

id_grows : (next : ℕ) (v : Node) → next ≤ id_after next v
id_grows next Dir = omega arith
id_grows next (File id) = omega arith

ids_grow : (next : ℕ) (es : List (Path × Node)) → next ≤ id_after_all next es
ids_grow next [] = omega arith
ids_grow next (e ∷ rest) = omega (arith, id_grows next e.1, ids_grow (id_after next e.1) rest)

copied_node : (t : ChunkTable) (next q : ℕ) (v : Node) → q < next → table.get (with_copied_node t next v).files q ≡ table.get t.files q
copied_node t next q Dir h = refl
copied_node t next q (File id) h = put_other t.files next (handles_of t id) q (λ same. absurd (omega (arith, same, h)))

copied_nodes : (t : ChunkTable) (next q : ℕ) (es : List (Path × Node)) → q < next → table.get (with_copied_nodes t next es).files q ≡ table.get t.files q
copied_nodes t next q [] h = refl
copied_nodes t next q (e ∷ rest) h =
    copied_nodes (with_copied_node t next e.1) (id_after next e.1) q rest (omega (arith, h, id_grows next e.1)) ∙ copied_node t next q e.1 h

module _ (before : Logged) (copied : Table ℕ) (q : ℕ) where
  pub given_up : (l : Logged) (handles : List ℕ) → Agrees before copied q l → Agrees before copied q (copies_given_up l handles)
  given_up l handles a = (a.0, a.1, λ handle c is file. a.2 handle c (removed_cases l.copies handles handle c is) file)

  swapped : (l : Logged) (t : ChunkTable) (handle : ℕ) (o : Option Copy) → t.files ≡ l.table.files → table.get l.copies handle ≡ o → (table.get copied handle ≡ Some q → ⊥) → Agrees before copied q l
      → Agrees before copied q (swapped_in (record l { table = t }) handle o)
  swapped l t handle None same is apart a = (ap (λ files. table.get files q) same ∙ a.0, a.1, a.2)
  swapped l t handle (Some c) same is apart a = (
    put_other t.files c.file _ q (λ here. absurd (apart (a.2 handle c is (sym here)))) ∙ ap (λ files. table.get files q) same ∙ a.0,
    a.1,
    λ other x there file. a.2 other x (kept_cases l.copies handle other x there) file,
  )

  -- one record more, of no such file
  pub recorded : q < before.next_file → (l : Logged) (e : Record) → IsOfStep l.next_file e → (file_changed copied e ≡ Some q → ⊥) → Agrees before copied q l → Agrees before copied q (after_record l e)
  recorded older l (log.Epoch epoch) step apart a = a
  recorded older l (log.Mkdir client n path) step apart a = a
  recorded older l (log.Rmdir client n path) step apart a = a
  recorded older l (log.Create client n file shape path) step apart a =
      let low : before.next_file ≤ l.next_file = a.1 in
      let next : before.next_file ≤ max l.next_file (file.0 + 1) = omega (arith, low) in
      (put_other l.table.files file.0 [] q (λ same. absurd (omega (arith, same, step, older, low))) ∙ a.0, next, a.2)
  recorded older l (log.Delete client n moment path) step apart a = a
  recorded older l (log.Rename client n from to) step apart a = a
  recorded older l (log.Snapshot client n from to) step apart a =
      let low : before.next_file ≤ l.next_file = a.1 in
      let copies : List (Path × Node) = copied_entries l.names from to in
      (copied_nodes l.table l.next_file q copies (omega (arith, older, low)) ∙ a.0, omega (arith, low, ids_grow l.next_file copies), a.2)
  recorded older l (log.Refused client n refusal) step apart a = a
  recorded older l (log.Expired file) step apart a =
      (gone_other l.table.files file.0 q (λ same. absurd (apart (ap Some (sym same)))) ∙ a.0, a.1, λ handle c is at. a.2 handle c (removed_cases l.copies (copies_for_file l file.0) handle c is) at)
  recorded older l (log.AddChunk file handle) step apart a =
      (put_other l.table.files file.0 _ q (λ same. absurd (apart (ap Some (sym same)))) ∙ a.0, a.1, a.2)
  recorded older l (log.Issue handle version) step apart a = a
  recorded older l (log.Grant handle version primary members) step apart a =
      swapped l (grant l.table handle.0 version.0 primary.0 members) handle.0 (table.get l.copies handle.0) refl refl apart a
  recorded older l (log.CopyStart file index handle copy version) step apart a = (
    a.0,
    a.1,
    λ other c is at. elim (put_cases l.copies copy.0 (record { file = file.0; index = index; source = handle.0 }) other c is) [
      | inl new ↦ absurd (apart (ap Some (ap (λ (x : Copy). x.file) new ∙ at)))
      | inr old ↦ a.2 other c old at
    ],
  )
  recorded older l (log.Counters next_file next_handle epoch) step apart a = absurd step
  recorded older l (log.DirItem path) step apart a = a
  recorded older l (log.FileItem path file shape handles) step apart a = absurd step
  recorded older l (log.ChunkItem handle granted issued primary members) step apart a = a
  recorded older l (log.ClientItem client n refusal) step apart a = a
