-- Rows of two tables that are the same but for the ends of leases, after each change of both; and rows that are owned.
use Rattle.std.proofs.Common.{◌≡◌, ◌⊎◌, ℕ, ◌-◌, ◌≤◌, Bool, true, false, cond, List, [], ◌∷◌, Option, Some, None, refl, sym, ap, subst, ◌∙◌, inl, inr, arith}
use Rattle.std.specs.Prelude.{◌==◌, nat_le, option_map, unwrap_or}
use Rattle.std.specs.Cmp.{nat_cmp_total, unsigned_tied}
use Rattle.std.proofs.lemmas.Bool.{eqb-true, eqb-false, leb-false}
use Rattle.std.specs.FinMap as table
use Rattle.gfs_types.specs.Paths.{Path}
use Rattle.relaxed_file.specs.Names.{Node, Dir, File, id_after}
use Rattle.chunk_table.specs.ChunkTable.{ChunkRow, ChunkTable, row_shared, changed_by, share_one, share_all, left_by, leave_one, leave_all, handles_of}
use Rattle.protocol.specs.Logged.{with_copied_node, with_copied_nodes}
use Rattle.laws_base.proofs.Steps.{on_cond, none_some, same_some, same_or_not, put_there, put_other, gone_there, gone_other}
use Rattle.laws_base.proofs.ChunkRows.{Rows}
use Rattle.laws_base.proofs.FilesNamed.{Files}
use Rattle.laws_base.proofs.NamesReached.{without_end}

abbrev pub IsSameRow : Option ChunkRow → Option ChunkRow → Type 0
IsSameRow o p = option_map without_end o ≡ option_map without_end p

abbrev pub AreSameAt : Rows → Rows → ℕ → Type 0
AreSameAt t u q = IsSameRow (table.get t q) (table.get u q)

-- what a change of one row comes to

pub changed_at : (rows : Rows) (x q : ℕ) (change : ChunkRow → ChunkRow) (o : Option ChunkRow) → table.get rows x ≡ o
    → table.get (changed_by rows x change o) q ≡ cond (q == x) (option_map change (table.get rows q)) (table.get rows q)
changed_at rows x q change None none = by_key (q == x) refl
  where
    by_key : (b : Bool) → (q == x) ≡ b → table.get rows q ≡ cond b (option_map change (table.get rows q)) (table.get rows q)
    by_key true e = let at = ap (λ (n : ℕ). table.get rows n) (eqb-true q x e) ∙ none in at ∙ sym (ap (λ (o : Option ChunkRow). option_map change o) at)
    by_key false e = refl
changed_at rows x q change (Some row) some =
    table.get-insert nat_cmp_total rows x (change row) q ∙ ap (λ (b : Bool). cond b (Some (change row)) (table.get rows q)) (unsigned_tied q x) ∙ by_key (q == x) refl
  where
    by_key : (b : Bool) → (q == x) ≡ b → cond b (Some (change row)) (table.get rows q) ≡ cond b (option_map change (table.get rows q)) (table.get rows q)
    by_key true e = sym (ap (λ (o : Option ChunkRow). option_map change o) (ap (λ (n : ℕ). table.get rows n) (eqb-true q x e) ∙ some))
    by_key false e = refl

abbrev pub leave : Option ChunkRow → Option ChunkRow
leave None = None
leave (Some row) = cond (nat_le row.references 1) None (Some (record row { references = row.references - 1 }))

pub left_at : (rows : Rows) (x q : ℕ) (o : Option ChunkRow) → table.get rows x ≡ o → table.get (left_by rows x o) q ≡ cond (q == x) (leave (table.get rows q)) (table.get rows q)
left_at rows x q None none = by_key (q == x) refl
  where
    by_key : (b : Bool) → (q == x) ≡ b → table.get rows q ≡ cond b (leave (table.get rows q)) (table.get rows q)
    by_key true e = let at = ap (λ (n : ℕ). table.get rows n) (eqb-true q x e) ∙ none in at ∙ sym (ap leave at)
    by_key false e = refl
left_at rows x q (Some row) some = by_key (q == x) refl (nat_le row.references 1) refl
  where
    less : ChunkRow
    less = record row { references = row.references - 1 }

    there : q ≡ x → (d : Bool) → table.get (cond d (table.remove rows x) (table.insert rows x less)) q ≡ cond d None (Some less)
    there same true = gone_there rows x q same
    there same false = put_there rows x less q same

    by_key : (b : Bool) → (q == x) ≡ b → (d : Bool) → nat_le row.references 1 ≡ d → table.get (cond d (table.remove rows x) (table.insert rows x less)) q ≡ cond b (leave (table.get rows q)) (table.get rows q)
    by_key true e d is =
        let at : table.get rows q ≡ Some row = ap (λ (n : ℕ). table.get rows n) (eqb-true q x e) ∙ some in
        there (eqb-true q x e) d ∙ sym (ap leave at ∙ ap (λ (b : Bool). cond b None (Some less)) is)
    by_key false e true is = gone_other rows x q (eqb-false q x e)
    by_key false e false is = put_other rows x less q (eqb-false q x e)

-- a change that leaves ends aside, of the same rows
same_change : (change : ChunkRow → ChunkRow) → ((row : ChunkRow) → without_end (change row) ≡ without_end (change (without_end row))) → (o p : Option ChunkRow) → IsSameRow o p → IsSameRow (option_map change o) (option_map change p)
same_change change plain None None h = refl
same_change change plain None (Some row) h = none_some (without_end row) h
same_change change plain (Some row) None h = none_some (without_end row) (sym h)
same_change change plain (Some row) (Some other) h =
    ap (λ (r : ChunkRow). Some r) (plain row ∙ ap (λ (r : ChunkRow). without_end (change r)) (same_some (without_end row) (without_end other) h) ∙ sym (plain other))

leave_ends : (o : Option ChunkRow) → option_map without_end (leave o) ≡ leave (option_map without_end o)
leave_ends None = refl
leave_ends (Some row) = by_test (nat_le row.references 1)
  where
    by_test : (b : Bool) → option_map without_end (cond b None (Some (record row { references = row.references - 1 }))) ≡ cond b None (Some (record (without_end row) { references = row.references - 1 }))
    by_test true = refl
    by_test false = refl

same_cond : (b : Bool) (o p f g : Option ChunkRow) → IsSameRow f g → IsSameRow o p → IsSameRow (cond b f o) (cond b g p)
same_cond true o p f g changed h = changed
same_cond false o p f g changed h = h

by_looks : (o f p g : Option ChunkRow) → o ≡ f → p ≡ g → IsSameRow f g → IsSameRow o p
by_looks o f p g a b h = ap (λ (x : Option ChunkRow). option_map without_end x) a ∙ h ∙ sym (ap (λ (x : Option ChunkRow). option_map without_end x) b)

pub changed_same : (t u : Rows) (x q : ℕ) (change : ChunkRow → ChunkRow) → ((row : ChunkRow) → without_end (change row) ≡ without_end (change (without_end row))) → AreSameAt t u q
    → AreSameAt (changed_by t x change (table.get t x)) (changed_by u x change (table.get u x)) q
changed_same t u x q change plain h =
    by_looks (table.get (changed_by t x change (table.get t x)) q) (cond (q == x) (option_map change (table.get t q)) (table.get t q))
    (table.get (changed_by u x change (table.get u x)) q) (cond (q == x) (option_map change (table.get u q)) (table.get u q))
    (changed_at t x q change (table.get t x) refl) (changed_at u x q change (table.get u x) refl)
    (same_cond (q == x) (table.get t q) (table.get u q) (option_map change (table.get t q)) (option_map change (table.get u q)) (same_change change plain (table.get t q) (table.get u q) h) h)

pub shared_same : (t u : Rows) (x q : ℕ) → AreSameAt t u q → AreSameAt (share_one t x) (share_one u x) q
shared_same t u x q h = changed_same t u x q row_shared (λ row. refl) h

pub left_same : (t u : Rows) (x q : ℕ) → AreSameAt t u q → AreSameAt (leave_one t x) (leave_one u x) q
left_same t u x q h =
    by_looks (table.get (leave_one t x) q) (cond (q == x) (leave (table.get t q)) (table.get t q)) (table.get (leave_one u x) q) (cond (q == x) (leave (table.get u q)) (table.get u q))
    (left_at t x q (table.get t x) refl) (left_at u x q (table.get u x) refl)
    (same_cond (q == x) (table.get t q) (table.get u q) (leave (table.get t q)) (leave (table.get u q)) (leave_ends (table.get t q) ∙ ap leave h ∙ sym (leave_ends (table.get u q))) h)

pub all_shared_same : (t u : Rows) (xs : List ℕ) (q : ℕ) → AreSameAt t u q → AreSameAt (share_all t xs) (share_all u xs) q
all_shared_same t u [] q h = h
all_shared_same t u (x ∷ xs) q h = all_shared_same (share_one t x) (share_one u x) xs q (shared_same t u x q h)

pub all_left_same : (t u : Rows) (xs : List ℕ) (q : ℕ) → AreSameAt t u q → AreSameAt (leave_all t xs) (leave_all u xs) q
all_left_same t u [] q h = h
all_left_same t u (x ∷ xs) q h = all_left_same (leave_one t x) (leave_one u x) xs q (left_same t u x q h)

pub put_same : (t u : Rows) (x : ℕ) (row other : ChunkRow) (q : ℕ) → without_end row ≡ without_end other → ((q ≡ x → ⊥) → AreSameAt t u q) → AreSameAt (table.insert t x row) (table.insert u x other) q
put_same t u x row other q alike h = by_key (same_or_not q x)
  where
    by_key : (q ≡ x) ⊎ (q ≡ x → ⊥) → AreSameAt (table.insert t x row) (table.insert u x other) q
    by_key (inl same) = by_looks (table.get (table.insert t x row) q) (Some row) (table.get (table.insert u x other) q) (Some other) (put_there t x row q same) (put_there u x other q same) (ap (λ (r : ChunkRow). Some r) alike)
    by_key (inr differs) = by_looks (table.get (table.insert t x row) q) (table.get t q) (table.get (table.insert u x other) q) (table.get u q) (put_other t x row q differs) (put_other u x other q differs) (h differs)

-- what a snapshot shares, of the same files
pub snapshot_same : (t u : ChunkTable) (next : ℕ) (es : List (Path × Node)) (q : ℕ) → t.files ≡ u.files → AreSameAt t.chunks u.chunks q → AreSameAt (with_copied_nodes t next es).chunks (with_copied_nodes u next es).chunks q
snapshot_same t u next [] q files h = h
snapshot_same t u next (e ∷ es) q files h = snapshot_same (with_copied_node t next e.1) (with_copied_node u next e.1) (id_after next e.1) es q (same_files e.1) (one e.1)
  where
    same_files : (n : Node) → (with_copied_node t next n).files ≡ (with_copied_node u next n).files
    same_files Dir = files
    same_files (File id) = ap (λ (f : Files). table.insert f next (unwrap_or (table.get f id) [])) files

    one : (n : Node) → AreSameAt (with_copied_node t next n).chunks (with_copied_node u next n).chunks q
    one Dir = h
    one (File id) =
        subst (λ (f : Files). AreSameAt (share_all t.chunks (handles_of t id)) (share_all u.chunks (unwrap_or (table.get f id) [])) q) files (all_shared_same t.chunks u.chunks (handles_of t id) q h)

-- a row that is there has an owner

abbrev pub IsOwned : Option ChunkRow → Type 0
IsOwned None = Unit {0}
IsOwned (Some row) = 1 ≤ row.references

pub owned_look : (o p : Option ChunkRow) → o ≡ p → IsOwned p → IsOwned o
owned_look o p same h = subst IsOwned (sym same) h

owned_cond : (b : Bool) (f o : Option ChunkRow) → (b ≡ true → IsOwned f) → (b ≡ false → IsOwned o) → IsOwned (cond b f o)
owned_cond b f o x y = on_cond IsOwned b f o x y

pub none_owned : (o : Option ChunkRow) → o ≡ None → IsOwned o
none_owned o none = owned_look o None none tt

owned_change : (change : ChunkRow → ChunkRow) → ((row : ChunkRow) → row.references ≤ (change row).references) → (o : Option ChunkRow) → IsOwned o → IsOwned (option_map change o)
owned_change change more None h = tt
owned_change change more (Some row) h = let low = more row in omega (arith, low, h)

pub changed_owned : (t : Rows) (x q : ℕ) (change : ChunkRow → ChunkRow) → ((row : ChunkRow) → row.references ≤ (change row).references) → IsOwned (table.get t q) → IsOwned (table.get (changed_by t x change (table.get t x)) q)
changed_owned t x q change more h =
    owned_look (table.get (changed_by t x change (table.get t x)) q) (cond (q == x) (option_map change (table.get t q)) (table.get t q)) (changed_at t x q change (table.get t x) refl)
    (owned_cond (q == x) (option_map change (table.get t q)) (table.get t q) (λ _. owned_change change more (table.get t q) h) (λ _. h))

owner_owned : (o : Option ChunkRow) → IsOwned (option_map row_shared o)
owner_owned None = tt
owner_owned (Some row) = omega arith

-- a shared row is owned
pub shared_owned : (t : Rows) (x q : ℕ) → (q ≡ x) ⊎ IsOwned (table.get t q) → IsOwned (table.get (share_one t x) q)
shared_owned t x q h =
    owned_look (table.get (share_one t x) q) (cond (q == x) (option_map row_shared (table.get t q)) (table.get t q)) (changed_at t x q row_shared (table.get t x) refl)
    (owned_cond (q == x) (option_map row_shared (table.get t q)) (table.get t q) (λ _. owner_owned (table.get t q)) (λ other. elim h [ inl same ↦ absurd (eqb-false q x other same) | inr is ↦ is ]))

leave_owned : (o : Option ChunkRow) → IsOwned (leave o)
leave_owned None = tt
leave_owned (Some row) =
    on_cond IsOwned (nat_le row.references 1) None (Some (record row { references = row.references - 1 })) (λ _. tt) (λ more. let high = leb-false row.references 1 more in omega (arith, high))

pub left_owned : (t : Rows) (x q : ℕ) → IsOwned (table.get t q) → IsOwned (table.get (leave_one t x) q)
left_owned t x q h =
    owned_look (table.get (leave_one t x) q) (cond (q == x) (leave (table.get t q)) (table.get t q)) (left_at t x q (table.get t x) refl)
    (owned_cond (q == x) (leave (table.get t q)) (table.get t q) (λ _. leave_owned (table.get t q)) (λ _. h))

pub all_shared_owned : (t : Rows) (xs : List ℕ) (q : ℕ) → IsOwned (table.get t q) → IsOwned (table.get (share_all t xs) q)
all_shared_owned t [] q h = h
all_shared_owned t (x ∷ xs) q h = all_shared_owned (share_one t x) xs q (shared_owned t x q (inr h))

pub all_left_owned : (t : Rows) (xs : List ℕ) (q : ℕ) → IsOwned (table.get t q) → IsOwned (table.get (leave_all t xs) q)
all_left_owned t [] q h = h
all_left_owned t (x ∷ xs) q h = all_left_owned (leave_one t x) xs q (left_owned t x q h)

pub put_owned : (t : Rows) (x : ℕ) (row : ChunkRow) (q : ℕ) → 1 ≤ row.references → IsOwned (table.get t q) → IsOwned (table.get (table.insert t x row) q)
put_owned t x row q more h = by_key (same_or_not q x)
  where
    by_key : (q ≡ x) ⊎ (q ≡ x → ⊥) → IsOwned (table.get (table.insert t x row) q)
    by_key (inl same) = owned_look (table.get (table.insert t x row) q) (Some row) (put_there t x row q same) more
    by_key (inr other) = owned_look (table.get (table.insert t x row) q) (table.get t q) (put_other t x row q other) h

pub snapshot_owned : (t : ChunkTable) (next : ℕ) (es : List (Path × Node)) (q : ℕ) → IsOwned (table.get t.chunks q) → IsOwned (table.get (with_copied_nodes t next es).chunks q)
snapshot_owned t next [] q h = h
snapshot_owned t next (e ∷ es) q h = snapshot_owned (with_copied_node t next e.1) (id_after next e.1) es q (one e.1)
  where
    one : (n : Node) → IsOwned (table.get (with_copied_node t next n).chunks q)
    one Dir = h
    one (File id) = all_shared_owned t.chunks (handles_of t id) q h
