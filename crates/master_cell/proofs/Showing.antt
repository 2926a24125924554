-- The lists that were copied after a step, put in the place of those before it, are the lists of all files after it.
use Rattle.std.proofs.Common.{◌≡◌, ℕ, zero, suc, ◌+◌, ◌-◌, ◌≤◌, Bool, true, false, List, [], ◌∷◌, ◌++◌, Some, None, Option, OnSome, refl, sym, ap, ◌∙◌, subst, arith}
use Rattle.std.specs.Prelude.{◌==◌, ◌||◌, nat_lt}
use Rattle.std.specs.List.{list_any}
use Rattle.std.specs.FinMap as table
use Rattle.std.proofs.lemmas.Bool.{eqb-false, ltb-true, ltb-false}
use Rattle.messages.specs.declared.event.NodeInput.{NodeInput}
use Rattle.chunk_table.specs.ChunkTable.{file_of}
use Rattle.chunk_table.specs.Owners.{IsSound, IsSoundFile}
use Rattle.protocol.specs.Logged.{Logged}
use Rattle.protocol.specs.Master.{MasterState, MasterDoing}
use Rattle.protocol.specs.MasterStep.{master_goes}
use Rattle.protocol.specs.Tables.{Table, has_number}
use Rattle.master_cell.specs.ChangedFiles.{files_changed}
use Rattle.master_cell.proofs.StatedFiles.{files_stay}
use Rattle.master_state.specs.Follows.{table_of}
use Rattle.master_cell.specs.Copies.{with_lists, copies_of}
use Rattle.master_cell.proofs.Updating.{updated}
use Rattle.master_cell.specs.Files.{AreFilesOf, numbers_from, files_after}

any_both : (f : ℕ → Bool) (xs ys : List ℕ) → list_any f (xs ++ ys) ≡ (list_any f xs || list_any f ys)
any_both f [] ys = refl
any_both f (x ∷ xs) ys = ap (λ b. f x || b) (any_both f xs ys) ∙ grouped (f x) (list_any f xs) (list_any f ys)
  where
    grouped : (a b c : Bool) → (a || (b || c)) ≡ ((a || b) || c)
    grouped true b c = refl
    grouped false b c = refl

neither : (a b : Bool) → (a || b) ≡ false → (a ≡ false) × (b ≡ false)
neither true b h = absurd cc
neither false b h = (refl, h)

-- a number that is not among so many
outside : (first n q : ℕ) → has_number (numbers_from first n) q ≡ false → first ≤ q → first + n ≤ q
outside first zero q h low = omega (arith, low)
outside first (suc n) q h low =
    let both = neither (has_number (numbers_from first n) q) (has_number ((first + n) ∷ []) q) (sym (any_both (λ x. x == q) (numbers_from first n) ((first + n) ∷ [])) ∙ h) in
    let last = neither ((first + n) == q) false both.1 in
    let apart : first + n ≡ q → ⊥ = eqb-false (first + n) q last.0 in
    let past : first + n ≤ q = outside first n q both.0 low in
    omega (arith, apart, past)

-- a file that no number was given to yet
none_given : (l : Logged) (q : ℕ) → IsSound (table_of l) → l.next_file ≤ q → file_of l.table q ≡ None
none_given l q sound past = by_value (file_of l.table q) (sound.files q)
  where
    by_value : (o : Option (List ℕ)) → OnSome o (IsSoundFile l.next_file q) → o ≡ None
    by_value None s = refl
    by_value (Some handles) s = absurd (omega (arith, s.given, past))

module _ (m : MasterState) (moment : ℕ) (i : NodeInput) (used : List Bool) (first : ℕ) (copies : Table ℕ) (noted : AreFilesOf m.logged first copies) where
  after : MasterDoing
  after = master_goes m moment i used

  others : IsSound (table_of (master_goes m moment i used).master.logged) → (q : ℕ)
      → list_any (λ x. x == q) (files_after first copies (master_goes m moment i used).master.logged.next_file (master_goes m moment i used).changes) ≡ false
      → file_of (master_goes m moment i used).master.logged.table q ≡ table.get m.logged.table.files q
  others sound q h = by_test (nat_lt q m.logged.next_file) refl
    where
      both : (has_number (numbers_from first ((master_goes m moment i used).master.logged.next_file - first)) q ≡ false) × (has_number (files_changed copies (master_goes m moment i used).changes) q ≡ false)
      both = neither (has_number (numbers_from first ((master_goes m moment i used).master.logged.next_file - first)) q) (has_number (files_changed copies (master_goes m moment i used).changes) q)
          (sym (any_both (λ x. x == q) (numbers_from first ((master_goes m moment i used).master.logged.next_file - first)) (files_changed copies (master_goes m moment i used).changes)) ∙ h)

      by_test : (b : Bool) → nat_lt q m.logged.next_file ≡ b → file_of (master_goes m moment i used).master.logged.table q ≡ table.get m.logged.table.files q
      by_test true e = files_stay m moment i used copies q noted.copies_are (ltb-true q m.logged.next_file e) both.1
      by_test false e =
          let low : m.logged.next_file ≤ q = ltb-false q m.logged.next_file e in
          let past : first + ((master_goes m moment i used).master.logged.next_file - first) ≤ q = outside first ((master_goes m moment i used).master.logged.next_file - first) q both.0 (omega (arith, low, noted.next_is)) in
          none_given (master_goes m moment i used).master.logged q sound (omega (arith, past)) ∙ sym (none_given m.logged q noted.sound low)

  all_shown : IsSound (table_of (master_goes m moment i used).master.logged) → (shown : Table (List ℕ)) → shown ≡ m.logged.table.files
      → with_lists shown (copies_of (master_goes m moment i used).master.logged.table (files_after first copies (master_goes m moment i used).master.logged.next_file (master_goes m moment i used).changes))
      ≡ (master_goes m moment i used).master.logged.table.files
  all_shown sound shown same =
      updated shown (master_goes m moment i used).master.logged.table (files_after first copies (master_goes m moment i used).master.logged.next_file (master_goes m moment i used).changes)
      (λ q h. others sound q h ∙ ap (λ (t : Table (List ℕ)). table.get t q) (sym same))

-- the same of what the step came to
pub shown_after : (m : MasterState) (moment : ℕ) (i : NodeInput) (used : List Bool) (d : MasterDoing) → master_goes m moment i used ≡ d → (first : ℕ) (copies : Table ℕ) → AreFilesOf m.logged first copies
    → IsSound (table_of d.master.logged) → (shown : Table (List ℕ)) → shown ≡ m.logged.table.files
    → with_lists shown (copies_of d.master.logged.table (files_after first copies d.master.logged.next_file d.changes)) ≡ d.master.logged.table.files
shown_after m moment i used d is first copies noted sound shown same =
    subst (λ (x : MasterDoing). IsSound (table_of x.master.logged) → with_lists shown (copies_of x.master.logged.table (files_after first copies x.master.logged.next_file x.changes)) ≡ x.master.logged.table.files) is
    (λ s. all_shown m moment i used first copies noted s shown same) sound
