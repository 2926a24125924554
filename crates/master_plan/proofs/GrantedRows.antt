-- No record but a grant and the item of a chunk sets a granted version: each chunk that stays keeps its own, and a new one has none.
use Rattle.std.proofs.Common.{◌≡◌, ℕ, true, false, cond, leb, List, [], ◌∷◌, refl, sym, ap, subst, Some, None, Option}
use Rattle.std.specs.Option.{option_map}
use Rattle.std.specs.Cmp.{nat_cmp_total}
use Rattle.std.specs.FinMap.{get, insert, remove, get-insert, get-remove}
use Rattle.gfs_types.specs.Paths.{Path}
use Rattle.relaxed_file.specs.Names.{Node, Dir, File, id_after, copied_entries}
use Rattle.log_records.specs.declared.record.Record.{Record}
use Rattle.log_records.specs.declared.record.Record.TheVariants as log
use Rattle.gfs_types.specs.declared.shape.Shape.{Shape}
use Rattle.gfs_types.specs.Shapes.{shape_or}
use Rattle.chunk_table.specs.ChunkTable.{NumberTable, ChunkRow, ChunkTable, changed_at, row_shared, row_left, row_issued, row_granted, row_ended, share_one, share_all, leave_one, leave_all, owned_row, own_one, with_owned, handles_of, grant, no_shape, added_row, copied_row}
use Rattle.chunk_table.proofs.Lookups.{at_key, get_changed, get_left, row_after}
use Rattle.protocol.specs.Tables.{removed_all}
use Rattle.protocol.specs.Logged.{Logged, Copy, after_record, swapped_in, with_copied_node, with_copied_nodes, copies_given_up, copies_for_file}
use Rattle.master_plan.specs.Granted.{granted_chunk}

-- what is true of a row's shape and granted version; of none where there is no such chunk
abbrev pub IsOfRow : (Shape → ℕ → Type 0) → Option ChunkRow → Type 0
IsOfRow P None = P no_shape 0
IsOfRow P (Some row) = P row.shape row.granted

-- it leaves a row's shape and granted version
pub record LeavesRow (f : ChunkRow → ChunkRow) : Type 0 where
  pub shape : (row : ChunkRow) → (f row).shape ≡ row.shape
  pub granted : (row : ChunkRow) → (f row).granted ≡ row.granted

-- what is true of no version, and of the shape and the version that a chunk was granted
module _ (P : Shape → ℕ → Type 0) (zero_is : (shape : Shape) → P shape 0) (q : ℕ) where
  abbrev pub At : NumberTable ChunkRow → Type 0
  At t = IsOfRow P (get t q)

  mapped : (f : ChunkRow → ChunkRow) → LeavesRow f → (o : Option ChunkRow) → IsOfRow P o → IsOfRow P (option_map f o)
  mapped f same None h = h
  mapped f same (Some row) h = subst (λ s. P s (f row).granted) (sym (same.shape row)) (subst (λ n. P row.shape n) (sym (same.granted row)) h)

  owned : (shape : Shape) (o : Option ChunkRow) → IsOfRow P o → IsOfRow P (Some (owned_row shape o))
  owned shape None h = zero_is shape
  owned shape (Some row) h = h

  put_at : (t : NumberTable ChunkRow) (k : ℕ) (row : ChunkRow) → (q ≡ k → P row.shape row.granted) → At t → At (insert t k row)
  put_at t k row here h =
      subst (λ o. IsOfRow P o) (sym (get-insert nat_cmp_total t k row q))
      (at_key (λ x o. x ≡ q → IsOfRow P o) q k (Some row) (get t q) (λ is. here (sym is)) (λ _ _. h) refl)

  changed : (t : NumberTable ChunkRow) (k : ℕ) (f : ChunkRow → ChunkRow) → LeavesRow f → At t → At (changed_at t k f)
  changed t k f same h =
      subst (λ o. IsOfRow P o) (sym (get_changed t k f q))
      (at_key (λ x o. x ≡ q → IsOfRow P o) q k (option_map f (get t k)) (get t q)
      (λ is. mapped f same (get t k) (subst (λ x. IsOfRow P (get t x)) (sym is) h)) (λ _ _. h) refl)

  changed_elsewhere : (t : NumberTable ChunkRow) (k : ℕ) (f : ChunkRow → ChunkRow) → (q ≡ k → ⊥) → At t → At (changed_at t k f)
  changed_elsewhere t k f apart h =
      subst (λ o. IsOfRow P o) (sym (get_changed t k f q))
      (at_key (λ x o. x ≡ q → IsOfRow P o) q k (option_map f (get t k)) (get t q) (λ is. absurd (apart (sym is))) (λ _ _. h) refl)

  pub ended : (t : NumberTable ChunkRow) (k moment : ℕ) → At t → At (changed_at t k (row_ended moment))
  ended t k moment h = changed t k (row_ended moment) (record { shape = λ row. refl; granted = λ row. refl }) h

  removed : (t : NumberTable ChunkRow) (k : ℕ) → At t → At (remove t k)
  removed t k h =
      subst (λ o. IsOfRow P o) (sym (get-remove nat_cmp_total t k q))
      (at_key (λ x o. x ≡ q → IsOfRow P o) q k None (get t q) (λ _. zero_is no_shape) (λ _ _. h) refl)

  pub all_removed : (t : NumberTable ChunkRow) (ks : List ℕ) → At t → At (removed_all t ks)
  all_removed t [] h = h
  all_removed t (k ∷ ks) h = all_removed (remove t k) ks (removed t k h)

  after_leaving : (o : Option ChunkRow) → IsOfRow P o → IsOfRow P (row_after o)
  after_leaving None h = h
  after_leaving (Some row) h = elim (leb row.references 1) as (λ b. IsOfRow P (cond b None (Some (row_left row)))) [ true ↦ zero_is no_shape | false ↦ h ]

  one_left : (t : NumberTable ChunkRow) (k : ℕ) → At t → At (leave_one t k)
  one_left t k h =
      subst (λ o. IsOfRow P o) (sym (get_left t k q))
      (at_key (λ x o. x ≡ q → IsOfRow P o) q k (row_after (get t k)) (get t q)
      (λ is. after_leaving (get t k) (subst (λ x. IsOfRow P (get t x)) (sym is) h)) (λ _ _. h) refl)

  all_left : (t : NumberTable ChunkRow) (ks : List ℕ) → At t → At (leave_all t ks)
  all_left t [] h = h
  all_left t (k ∷ ks) h = all_left (leave_one t k) ks (one_left t k h)

  all_shared : (t : NumberTable ChunkRow) (ks : List ℕ) → At t → At (share_all t ks)
  all_shared t [] h = h
  all_shared t (k ∷ ks) h = all_shared (share_one t k) ks (changed t k row_shared (record { shape = λ row. refl; granted = λ row. refl }) h)

  one_owned : (shape : Shape) (t : NumberTable ChunkRow) (k : ℕ) → At t → At (own_one shape t k)
  one_owned shape t k h = put_at t k (owned_row shape (get t k)) (λ is. owned shape (get t k) (subst (λ x. IsOfRow P (get t x)) is h)) h

  all_owned : (shape : Shape) (t : NumberTable ChunkRow) (ks : List ℕ) → At t → At (with_owned shape t ks)
  all_owned shape t [] h = h
  all_owned shape t (k ∷ ks) h = all_owned shape (own_one shape t k) ks (one_owned shape t k h)

  node_copied : (t : ChunkTable) (next : ℕ) (n : Node) → At t.chunks → At (with_copied_node t next n).chunks
  node_copied t next Dir h = h
  node_copied t next (File id) h = all_shared t.chunks (handles_of t id) h

  nodes_copied : (t : ChunkTable) (next : ℕ) (es : List (Path × Node)) → At t.chunks → At (with_copied_nodes t next es).chunks
  nodes_copied t next [] h = h
  nodes_copied t next (e ∷ rest) h = nodes_copied (with_copied_node t next e.1) (id_after next e.1) rest (node_copied t next e.1 h)

  came_in : (l : Logged) (handle : ℕ) (o : Option Copy) → At l.table.chunks → At (swapped_in l handle o).table.chunks
  came_in l handle None h = h
  came_in l handle (Some c) h = one_left (share_one l.table.chunks handle) c.source (changed l.table.chunks handle row_shared (record { shape = λ row. refl; granted = λ row. refl }) h)

  pub kept : (l : Logged) (r : Record) → (granted_chunk r ≡ Some q → ⊥) → At l.table.chunks → At (after_record l r).table.chunks
  kept l (log.Epoch epoch) apart h = h
  kept l (log.Mkdir client n path) apart h = h
  kept l (log.Rmdir client n path) apart h = h
  kept l (log.Create client n file shape path) apart h = h
  kept l (log.Delete client n moment path) apart h = h
  kept l (log.Rename client n from to) apart h = h
  kept l (log.Snapshot client n from to) apart h = nodes_copied l.table l.next_file (copied_entries l.names from to) h
  kept l (log.Refused client n refusal) apart h = h
  kept l (log.Expired file) apart h =
      let rest : Logged = copies_given_up l (copies_for_file l file.0) in
      all_left rest.table.chunks (handles_of rest.table file.0) (all_removed l.table.chunks (copies_for_file l file.0) h)
  kept l (log.AddChunk file handle) apart h = put_at l.table.chunks handle.0 (added_row l.table file.0) (λ _. zero_is (added_row l.table file.0).shape) h
  kept l (log.Issue handle version) apart h = changed l.table.chunks handle.0 (row_issued version.0) (record { shape = λ row. refl; granted = λ row. refl }) h
  kept l (log.Grant handle version primary members) apart h =
      came_in (record l { table = grant l.table handle.0 version.0 primary.0 members }) handle.0 (get l.copies handle.0)
      (changed_elsewhere l.table.chunks handle.0 (row_granted version.0 primary.0 members) (λ is. apart (ap Some (sym is))) h)
  kept l (log.CopyStart file index handle copy copy_version) apart h = put_at l.table.chunks copy.0 (copied_row l.table handle.0 copy_version.0) (λ _. zero_is (copied_row l.table handle.0 copy_version.0).shape) h
  kept l (log.Counters next_file next_handle epoch) apart h = h
  kept l (log.DirItem path) apart h = h
  kept l (log.FileItem path file shape handles) apart h = all_owned (shape_or no_shape shape) l.table.chunks handles h
  kept l (log.ChunkItem handle granted issued primary members) apart h =
      changed_elsewhere l.table.chunks handle.0 (λ row. record row { granted = granted.0; issued = issued.0; primary = primary.0; members = members }) (λ is. apart (ap Some (sym is))) h
  kept l (log.ClientItem client n refusal) apart h = h
