-- The replicas that are known, in rising handle, are those of the disk.
use Rattle.std.proofs.Common.{◌≡◌, ℕ, Bool, true, false, cond, ◌&&◌, T, List, [], ◌∷◌, map as mapped, length, refl, sym, ap, ◌∙◌, subst, Option, None, Some}
use Rattle.std.specs.FinMap as map
use Rattle.std.specs.FinMap.{nat_cmp-IsAntisymmetric}
use Rattle.std.specs.FinMap.Entries.{below_all}
use Rattle.std.specs.Cmp.{nat_cmp_total}
use Rattle.std.specs.Option.{option_map}
use Rattle.std.specs.Ordering.{eq_by_cmp, is_lt, nat_cmp}
use Rattle.std.proofs.lemmas.List.{length-map}
use Rattle.gfs_types.specs.declared.ids.Handle.{Handle}
use Rattle.replica_store.specs.declared.row.Row.{Row}
use Rattle.replica_store.specs.Replicas.{Replica, ServerDisk, replica_of, row_at, row_of}
use Rattle.store_disk.specs.Index.{IndexState, row_in}
use Rattle.store_disk.specs.declared.held.HeldReplica.{HeldReplica}
use Rattle.store_disk.specs.Rows.{known_row, rows_of}
use Rattle.store_disk.specs.Stored.{IsDiskOf}

module _ {X Z : Type 0} (f : X → Z) where
  abbrev valued : List (ℕ × X) → List (ℕ × Z)
  valued es = mapped (λ e. (e.0, f e.1)) es

  listed : {W : Type 0} (c : ℕ × Z → W) (es : List (ℕ × X)) → mapped (λ e. c (e.0, f e.1)) es ≡ mapped c (valued es)
  listed c [] = refl
  listed c (e ∷ es) = ap (λ l. c (e.0, f e.1) ∷ l) (listed c es)

  below_valued : (k : ℕ) (es : List (ℕ × X)) → below_all nat_cmp k (valued es) ≡ below_all nat_cmp k es
  below_valued k [] = refl
  below_valued k (e ∷ es) = ap (λ b. is_lt (nat_cmp k e.0) && b) (below_valued k es)

  sorted_valued : (es : List (ℕ × X)) → map.is_sorted nat_cmp (valued es) ≡ map.is_sorted nat_cmp es
  sorted_valued [] = refl
  sorted_valued (e ∷ es) = ap (λ b. b && map.is_sorted nat_cmp (valued es)) (below_valued e.0 es) ∙ ap (λ b. below_all nat_cmp e.0 es && b) (sorted_valued es)

  find_valued : (q : ℕ) (es : List (ℕ × X)) → map.find nat_cmp q (valued es) ≡ option_map f (map.find nat_cmp q es)
  find_valued q [] = refl
  find_valued q (e ∷ es) = by (find_valued q es) (eq_by_cmp nat_cmp q e.0)
    where
      by : map.find nat_cmp q (valued es) ≡ option_map f (map.find nat_cmp q es) → (b : Bool) → cond b (Some (f e.1)) (map.find nat_cmp q (valued es)) ≡ option_map f (cond b (Some e.1) (map.find nat_cmp q es))
      by rest true = refl
      by rest false = rest

  -- with each value as f gives it
  abbrev with_values : map.FinMap nat_cmp X → map.FinMap nat_cmp Z
  with_values m = map.from_sorted (valued (map.entries m))

  rising : (m : map.FinMap nat_cmp X) → T (map.is_sorted nat_cmp (valued (map.entries m)))
  rising m = subst T (sym (sorted_valued (map.entries m))) (map.entries_sorted m)

  entries_valued : (m : map.FinMap nat_cmp X) → map.entries (with_values m) ≡ valued (map.entries m)
  entries_valued m = map.entries-from_sorted nat_cmp (valued (map.entries m)) (rising m)

  get_valued : (m : map.FinMap nat_cmp X) (q : ℕ) → map.get (with_values m) q ≡ option_map f (map.get m q)
  get_valued m q = map.get-from_sorted nat_cmp (valued (map.entries m)) q (rising m) ∙ find_valued q (map.entries m) ∙ ap (option_map f) (sym (map.get-entries m q))

-- Maps that say the same of each number list the same.
module _ {X Y Z : Type 0} (f : X → Z) (g : Y → Z) (m : map.FinMap nat_cmp X) (n : map.FinMap nat_cmp Y) (same : (q : ℕ) → option_map f (map.get m q) ≡ option_map g (map.get n q)) where
  pub same_listed : valued f (map.entries m) ≡ valued g (map.entries n)
  same_listed =
      sym (entries_valued f m)
      ∙ ap map.entries (map.same_map nat_cmp_total nat_cmp-IsAntisymmetric (with_values f m) (with_values g n) (λ q. get_valued f m q ∙ same q ∙ sym (get_valued g n q)))
      ∙ entries_valued g n

  pub same_len : map.len m ≡ map.len n
  same_len =
      map.len-entries m ∙ sym (length-map (map.entries m) (λ e. (e.0, f e.1))) ∙ ap length same_listed ∙ length-map (map.entries n) (λ e. (e.0, g e.1)) ∙ sym (map.len-entries n)

abbrev pub row_found : Option HeldReplica → Option Row
row_found found = option_map (λ (f : HeldReplica). f.row) found

row_is : (o : Option Replica) → row_of o ≡ option_map known_row o
row_is None = refl
row_is (Some r) = refl

module _ (chunk block slots : ℕ) (index : IndexState) (bytes : List ℕ) (d : ServerDisk) (is : IsDiskOf chunk block slots index bytes d) where
  -- what is known of a replica is its row
  pub row_known : (h : ℕ) → row_at d h ≡ row_found (map.get index.held h)
  row_known h = by (replica_of d h) refl
    where
      by : (o : Option Replica) → replica_of d h ≡ o → row_at d h ≡ row_found (map.get index.held h)
      by None e = ap row_of e ∙ sym (ap row_found (is.no_other h e))
      by (Some r) e = let k = is.held h r e in ap row_of e ∙ k.2.row ∙ sym (ap row_found k.1)

  known_same : (q : ℕ) → option_map (λ (f : HeldReplica). f.row) (map.get index.held q) ≡ option_map known_row (map.get d.replicas q)
  known_same q = sym (row_known q) ∙ row_is (replica_of d q)

  abbrev listed_row : ℕ × Row → Handle × Row
  listed_row e = (record { 0 = e.0 }, e.1)

  -- what is listed is of the disk's replicas, and of each
  pub rows_listed : mapped row_in (map.entries index.held) ≡ rows_of d
  rows_listed =
      listed (λ (f : HeldReplica). f.row) listed_row (map.entries index.held)
      ∙ ap (mapped listed_row) (same_listed (λ (f : HeldReplica). f.row) known_row index.held d.replicas known_same)
      ∙ sym (listed known_row listed_row (map.entries d.replicas))

  pub count_known : map.len index.held ≡ map.len d.replicas
  count_known = same_len (λ (f : HeldReplica). f.row) known_row index.held d.replicas known_same
