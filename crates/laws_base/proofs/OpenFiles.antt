-- The files that a client has open: each descriptor's file is there, with no more descriptors than it counts.
use Rattle.std.proofs.Common.{◌≡◌, ℕ, suc, ◌-◌, ◌≤◌, Bool, true, false, List, [], ◌∷◌, length, Option, Some, None, refl, sym, ap, subst, ◌∙◌, inl, inr, arith}
use Rattle.std.specs.Prelude.{◌==◌, ◌||◌, nat_le, not, cond}
use Rattle.std.proofs.lemmas.Bool.{eqb-true, leb-true, true≢false}
use Rattle.std.specs.Ordering.{nat_cmp}
use Rattle.std.specs.FinMap as table
use Rattle.gfs_types.specs.declared.shape.Shape.{Shape}
use Rattle.protocol.specs.Tables.{Table, has_number, without}
use Rattle.client_state.specs.declared.kept.OpenFile.{OpenFile}
use Rattle.protocol.specs.ClientFiles.{opened_again, files_after_open, with_one_closed, files_after_close, with_append_of, with_last_append}
use Rattle.laws_base.proofs.Steps.{on_cond, none_some, put_split, put_cases, put_there, put_other, gone_split, gone_other, same_or_not}
use Rattle.laws_base.proofs.Entries.{same_number}

-- these are all descriptors of a file, and no more than it counts
pub record AreDescriptors (descriptors : Table ℕ) (file : ℕ) (f : OpenFile) : Type 0 where
  pub fds : List ℕ
  pub few : length fds ≤ f.descriptors
  pub all : (fd : ℕ) → table.get descriptors fd ≡ Some file → has_number fds fd ≡ true

pub record AreOpen (files : Table OpenFile) (descriptors : Table ℕ) (count : ℕ) : Type 0 where
  pub rows : (file : ℕ) (f : OpenFile) → table.get files file ≡ Some f → (f.last_opened.0 ≤ count) × AreDescriptors descriptors file f
  pub filed : (fd file : ℕ) → table.get descriptors fd ≡ Some file → (f : OpenFile) × (table.get files file ≡ Some f)

later_in : (x y : ℕ) (xs : List ℕ) → has_number xs y ≡ true → has_number (x ∷ xs) y ≡ true
later_in x y xs h = by_test (x == y) h
  where
    by_test : (b : Bool) → has_number xs y ≡ true → b || has_number xs y ≡ true
    by_test true g = refl
    by_test false g = g

first_in : (x : ℕ) (xs : List ℕ) → has_number (x ∷ xs) x ≡ true
first_in x xs = ap (λ (b : Bool). b || has_number xs x) (same_number x)

-- one number less
shorter : (xs : List ℕ) (n : ℕ) → length (without xs n) ≤ length xs
shorter [] n = omega arith
shorter (x ∷ xs) n =
    let rest = shorter xs n in
    on_cond (λ (ys : List ℕ). length ys ≤ suc (length xs)) (not (x == n)) (x ∷ without xs n) (without xs n) (λ _. omega (arith, rest)) (λ _. omega (arith, rest))

one_less : (xs : List ℕ) (n : ℕ) → has_number xs n ≡ true → suc (length (without xs n)) ≤ length xs
one_less [] n h = absurd (true≢false (sym h))
one_less (x ∷ xs) n h = by_test (x == n) (one_less xs n) h
  where
    by_test : (b : Bool) → (has_number xs n ≡ true → suc (length (without xs n)) ≤ length xs) → b || has_number xs n ≡ true → suc (length (cond (not b) (x ∷ without xs n) (without xs n))) ≤ suc (length xs)
    by_test true less g = let rest = shorter xs n in omega (arith, rest)
    by_test false less g = let rest = less g in omega (arith, rest)

still_in : (xs : List ℕ) (n m : ℕ) → (m ≡ n → ⊥) → has_number xs m ≡ true → has_number (without xs n) m ≡ true
still_in [] n m apart h = h
still_in (x ∷ xs) n m apart h = by_test (x == n) refl (still_in xs n m apart)
  where
    by_number : (b : Bool) → (has_number xs m ≡ true → has_number (without xs n) m ≡ true) → b || has_number xs m ≡ true → b || has_number (without xs n) m ≡ true
    by_number true rest g = refl
    by_number false rest g = rest g

    skipped : (b : Bool) → (x == m) ≡ b → x ≡ n → b || has_number xs m ≡ true → has_number xs m ≡ true
    skipped true e same g = absurd (apart (sym (eqb-true x m e) ∙ same))
    skipped false e same g = g

    by_test : (b : Bool) → (x == n) ≡ b → (has_number xs m ≡ true → has_number (without xs n) m ≡ true) → has_number (cond (not b) (x ∷ without xs n) (without xs n)) m ≡ true
    by_test true e rest = rest (skipped (x == m) refl (eqb-true x n e) h)
    by_test false e rest = by_number (x == m) rest h

none_in : (xs : List ℕ) (n : ℕ) → length xs ≤ 0 → has_number xs n ≡ true → ⊥
none_in [] n few h = true≢false (sym h)
none_in (x ∷ xs) n few h = omega (arith, few)

pub none_open : AreOpen table.empty table.empty 0
none_open =
    record {
      rows = λ file f is. none_some f (sym (table.get-empty nat_cmp file) ∙ is);
      filed = λ fd file is. none_some file (sym (table.get-empty nat_cmp fd) ∙ is);
    }

module _ (files : Table OpenFile) (descriptors : Table ℕ) (count : ℕ) (h : AreOpen files descriptors count) where
  new_row : (file : ℕ) (shape : Shape) (o : Option OpenFile) → table.get files file ≡ o → AreDescriptors (table.insert descriptors (suc count) file) file (opened_again o shape (suc count))
  new_row file shape None is =
      record {
        fds = suc count ∷ [];
        few = omega arith;
        all = λ fd there. elim (put_cases descriptors (suc count) file fd file there) [
          | inl new ↦ subst (λ (n : ℕ). has_number (suc count ∷ []) n ≡ true) (sym new.0) (first_in (suc count) [])
          | inr before ↦ let f = h.filed fd file before in none_some f.0 (sym is ∙ f.1)
        ];
      }
  new_row file shape (Some f) is =
      let old = (h.rows file f is).1 in
      record {
        fds = suc count ∷ old.fds;
        few = (let few = old.few in omega (arith, few));
        all = λ fd there. elim (put_cases descriptors (suc count) file fd file there) [
          | inl new ↦ subst (λ (n : ℕ). has_number (suc count ∷ old.fds) n ≡ true) (sym new.0) (first_in (suc count) old.fds)
          | inr before ↦ later_in (suc count) fd old.fds (old.all fd before)
        ];
      }

  pub last_is : (o : Option OpenFile) (shape : Shape) (fd : ℕ) → (opened_again o shape fd).last_opened.0 ≡ fd
  last_is None shape fd = refl
  last_is (Some f) shape fd = refl

  pub open_again : (file : ℕ) (shape : Shape) → AreOpen (files_after_open files file shape (suc count)) (table.insert descriptors (suc count) file) (suc count)
  open_again file shape =
      record {
        rows = λ g f is. elim (put_split files file (opened_again (table.get files file) shape (suc count)) g f is) [
          | inl same ↦ subst (λ (n : ℕ). (f.last_opened.0 ≤ suc count) × AreDescriptors (table.insert descriptors (suc count) file) n f) (sym same.0)
              (subst (λ (x : OpenFile). (x.last_opened.0 ≤ suc count) × AreDescriptors (table.insert descriptors (suc count) file) file x) same.1
              (let last = last_is (table.get files file) shape (suc count) in omega (arith, last), new_row file shape (table.get files file) refl))
          | inr other ↦
              let old = h.rows g f other.1 in (
                let few = old.0 in omega (arith, few),
                record {
                  fds = old.1.fds;
                  few = old.1.few;
                  all = λ fd there. elim (put_cases descriptors (suc count) file fd g there) [ inl new ↦ absurd (other.0 (sym new.1)) | inr before ↦ old.1.all fd before ];
                },
              )
        ];
        filed = λ fd g is. elim (same_or_not g file) [
          | inl same ↦ (opened_again (table.get files file) shape (suc count), put_there files file (opened_again (table.get files file) shape (suc count)) g same)
          | inr other ↦ elim (put_cases descriptors (suc count) file fd g is) [
            | inl new ↦ absurd (other (sym new.1))
            | inr before ↦ let f = h.filed fd g before in (f.0, put_other files file (opened_again (table.get files file) shape (suc count)) g other ∙ f.1)
          ]
        ];
      }

  -- a row of which a descriptor is closed
  fewer : (fd file : ℕ) (f : OpenFile) → table.get descriptors fd ≡ Some file → table.get files file ≡ Some f → AreDescriptors (table.remove descriptors fd) file (record f { descriptors = f.descriptors - 1 })
  fewer fd file f at is =
      let old = (h.rows file f is).1 in
      record {
        fds = without old.fds fd;
        few = (let few = old.few in let less = one_less old.fds fd (old.all fd at) in omega (arith, few, less));
        all = λ x there. let left = gone_split descriptors fd x file there in still_in old.fds fd x left.0 (old.all x left.1);
      }

  other_row : (fd file g : ℕ) (f : OpenFile) → table.get files g ≡ Some f → (f.last_opened.0 ≤ count) × AreDescriptors (table.remove descriptors fd) g f
  other_row fd file g f is =
      let old = h.rows g f is in
      (old.0, record { fds = old.1.fds; few = old.1.few; all = λ x there. old.1.all x (gone_split descriptors fd x g there).1 })

  last_closed : (fd file : ℕ) (f : OpenFile) → table.get descriptors fd ≡ Some file → table.get files file ≡ Some f → f.descriptors ≤ 1 → AreOpen (table.remove files file) (table.remove descriptors fd) count
  last_closed fd file f at is few =
      record {
        rows = λ g x there. let left = gone_split files file g x there in other_row fd file g x left.1;
        filed = λ x g there.
            let left = gone_split descriptors fd x g there in
            elim (same_or_not g file) [
              | inl same ↦
                  let rest = fewer fd file f at is in
                  absurd (none_in rest.fds x (let less = rest.few in omega (arith, less, few)) (rest.all x (subst (λ (n : ℕ). table.get (table.remove descriptors fd) x ≡ Some n) same there)))
              | inr other ↦ let row = h.filed x g left.1 in (row.0, gone_other files file g other ∙ row.1)
            ];
      }

  one_closed : (fd file : ℕ) (f : OpenFile) → table.get descriptors fd ≡ Some file → table.get files file ≡ Some f → AreOpen (table.insert files file (record f { descriptors = f.descriptors - 1 })) (table.remove descriptors fd) count
  one_closed fd file f at is =
      let less : OpenFile = record f { descriptors = f.descriptors - 1 } in
      record {
        rows = λ g x there. elim (put_split files file less g x there) [
          | inl same ↦ subst (λ (n : ℕ). (x.last_opened.0 ≤ count) × AreDescriptors (table.remove descriptors fd) n x) (sym same.0)
              (subst (λ (y : OpenFile). (y.last_opened.0 ≤ count) × AreDescriptors (table.remove descriptors fd) file y) same.1 ((h.rows file f is).0, fewer fd file f at is))
          | inr other ↦ other_row fd file g x other.1
        ];
        filed = λ x g there. elim (same_or_not g file) [
          | inl same ↦ (less, put_there files file less g same)
          | inr other ↦ let row = h.filed x g (gone_split descriptors fd x g there).1 in (row.0, put_other files file less g other ∙ row.1)
        ];
      }

  pub close_one : (fd file : ℕ) → table.get descriptors fd ≡ Some file → AreOpen (files_after_close files file) (table.remove descriptors fd) count
  close_one fd file at = by_row (table.get files file) refl
    where
      by_row : (o : Option OpenFile) → table.get files file ≡ o → AreOpen (with_one_closed files file o) (table.remove descriptors fd) count
      by_row None is = let row = h.filed fd file at in none_some row.0 (sym is ∙ row.1)
      by_row (Some f) is =
          on_cond (λ (x : Table OpenFile). AreOpen x (table.remove descriptors fd) count) (nat_le f.descriptors 1) (table.remove files file) (table.insert files file (record f { descriptors = f.descriptors - 1 }))
          (λ last. last_closed fd file f at is (leb-true f.descriptors 1 last)) (λ _. one_closed fd file f at is)

  -- the last append is noted
  pub note_append : (file : ℕ) (index : Option ℕ) → AreOpen (with_last_append files file index) descriptors count
  note_append file index = by_row (table.get files file) refl
    where
      by_row : (o : Option OpenFile) → table.get files file ≡ o → AreOpen (with_append_of files file index o) descriptors count
      by_row None is = h
      by_row (Some f) is =
          let new : OpenFile = record f { last_append = index } in
          record {
            rows = λ g x there. elim (put_split files file new g x there) [
              | inl same ↦ subst (λ (n : ℕ). (x.last_opened.0 ≤ count) × AreDescriptors descriptors n x) (sym same.0)
                  (subst (λ (y : OpenFile). (y.last_opened.0 ≤ count) × AreDescriptors descriptors file y) same.1
                  (let old = h.rows file f is in (old.0, record { fds = old.1.fds; few = old.1.few; all = old.1.all })))
              | inr other ↦ h.rows g x other.1
            ];
            filed = λ fd g there. elim (same_or_not g file) [
              | inl same ↦ (new, put_there files file new g same)
              | inr other ↦ let row = h.filed fd g there in (row.0, put_other files file new g other ∙ row.1)
            ];
          }

-- each file that is open was open before, last by the same descriptor
abbrev pub AreOpenSince : Table OpenFile → Table OpenFile → Type 0
AreOpenSince old new = (file : ℕ) (f : OpenFile) → table.get new file ≡ Some f → (x : OpenFile) × (table.get old file ≡ Some x) × (x.last_opened.0 ≡ f.last_opened.0)

same_since : (files : Table OpenFile) → AreOpenSince files files
same_since files file f is = (f, is, refl)

put_since : (files : Table OpenFile) (file : ℕ) (f new : OpenFile) → table.get files file ≡ Some f → f.last_opened.0 ≡ new.last_opened.0 → AreOpenSince files (table.insert files file new)
put_since files file f new is last g x there =
    elim (put_split files file new g x there) [
      | inl same ↦ (f, ap (λ (n : ℕ). table.get files n) same.0 ∙ is, last ∙ ap (λ (y : OpenFile). y.last_opened.0) same.1)
      | inr other ↦ (x, other.1, refl)
    ]

pub closed_since : (files : Table OpenFile) (file : ℕ) → AreOpenSince files (files_after_close files file)
closed_since files file = by_row (table.get files file) refl
  where
    by_row : (o : Option OpenFile) → table.get files file ≡ o → AreOpenSince files (with_one_closed files file o)
    by_row None is = same_since files
    by_row (Some f) is =
        let less : OpenFile = record f { descriptors = f.descriptors - 1 } in
        on_cond (AreOpenSince files) (nat_le f.descriptors 1) (table.remove files file) (table.insert files file less)
        (λ last g x there. (x, (gone_split files file g x there).1, refl)) (λ more. put_since files file f less is refl)

pub noted_since : (files : Table OpenFile) (file : ℕ) (index : Option ℕ) → AreOpenSince files (with_last_append files file index)
noted_since files file index = by_row (table.get files file) refl
  where
    by_row : (o : Option OpenFile) → table.get files file ≡ o → AreOpenSince files (with_append_of files file index o)
    by_row None is = same_since files
    by_row (Some f) is = put_since files file f (record f { last_append = index }) is refl

abbrev pub HasRow : Table OpenFile → ℕ → Type 0
HasRow files file = (f : OpenFile) × (table.get files file ≡ Some f)

pub noted_there : (files : Table OpenFile) (file : ℕ) (index : Option ℕ) → HasRow files file → HasRow (with_last_append files file index) file
noted_there files file index row = (new, ap (λ (o : Option OpenFile). table.get (with_append_of files file index o) file) row.1 ∙ put_there files file new file refl)
  where
    new : OpenFile
    new = record row.0 { last_append = index }
