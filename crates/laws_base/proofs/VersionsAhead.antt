-- Each version attempt is above what was granted of its chunk.
use Rattle.std.proofs.Common.{◌≡◌, ◌⊎◌, ℕ, suc, ◌≤◌, ◌<◌, Bool, List, Option, Some, None, refl, sym, ap, ◌∙◌, inl, inr, arith}
use Rattle.std.specs.Ordering.{nat_cmp}
use Rattle.std.specs.FinMap as table
use Rattle.std.proofs.Math.Nat.{le-max_right}
use Rattle.protocol.specs.Tables.{Table, removed_all, kept_where}
use Rattle.chunk_table.specs.ChunkTable.{ChunkRow, changed_by, row_granted}
use Rattle.protocol.specs.Master.{VersionAttempt}
use Rattle.laws_base.proofs.Steps.{none_some, same_some, put_cases, put_split, gone_split, removed_cases}
use Rattle.laws_base.proofs.Entries.{kept_where_cases}
use Rattle.laws_base.proofs.ChunkRows.{Rows, AreIssued, From, issued_from, put_issued, removed_from}

-- above what was granted of the chunk, if it is there
abbrev pub IsAhead : Rows → ℕ → ℕ → Type 0
IsAhead rows handle version = (1 ≤ version) × ((row : ChunkRow) → table.get rows handle ≡ Some row → row.granted < version)

pub record AreAhead (attempts : Table VersionAttempt) (rows : Rows) : Type 0 where
  pub issued : AreIssued rows
  pub ahead : (handle : ℕ) (a : VersionAttempt) → table.get attempts handle ≡ Some a → IsAhead rows handle a.version

pub none_ahead : (rows : Rows) → AreIssued rows → AreAhead table.empty rows
none_ahead rows h = record { issued = h; ahead = λ handle a is. none_some a (sym (table.get-empty nat_cmp handle) ∙ is) }

pub ahead_from : (attempts : Table VersionAttempt) (t u : Rows) → From t u → AreAhead attempts t → AreAhead attempts u
ahead_from attempts t u f h =
    record {
      issued = issued_from t u f h.issued;
      ahead = λ handle a is.
          let low = h.ahead handle a is in
          (low.0, λ row there. let was = f handle row there in let less = low.1 was.old was.at in let same = was.granted in omega (arith, less, same));
    }

pub fewer_ahead : (attempts : Table VersionAttempt) (handles : List ℕ) (rows : Rows) → AreAhead attempts rows → AreAhead (removed_all attempts handles) rows
fewer_ahead attempts handles rows h = record { issued = h.issued; ahead = λ handle a is. h.ahead handle a (removed_cases attempts handles handle a is) }

-- copies that are given up, with their attempts
pub less_ahead : (attempts : Table VersionAttempt) (rows : Rows) (handles : List ℕ) → AreAhead attempts rows → AreAhead (removed_all attempts handles) (removed_all rows handles)
less_ahead attempts rows handles h = ahead_from (removed_all attempts handles) rows (removed_all rows handles) (removed_from rows handles) (fewer_ahead attempts handles rows h)

pub kept_ahead : (test : ℕ × VersionAttempt → Bool) (attempts : Table VersionAttempt) (rows : Rows) → AreAhead attempts rows → AreAhead (kept_where test attempts) rows
kept_ahead test attempts rows h = record { issued = h.issued; ahead = λ handle a is. h.ahead handle a (kept_where_cases test attempts handle a is) }

pub one_ahead : (attempts : Table VersionAttempt) (handle : ℕ) (a : VersionAttempt) (rows : Rows) → IsAhead rows handle a.version → AreAhead attempts rows → AreAhead (table.insert attempts handle a) rows
one_ahead attempts handle a rows new h =
    record {
      issued = h.issued;
      ahead = λ q b is.
          elim (put_cases attempts handle a q b is) [
            | inl same ↦
                let version = ap (λ (x : VersionAttempt). x.version) same.1 in
                let one = new.0 in
                (omega (arith, version, one), λ row there. let less = new.1 row (sym (ap (λ (n : ℕ). table.get rows n) same.0) ∙ there) in omega (arith, less, version))
            | inr before ↦ h.ahead q b before
          ];
    }

-- a new row, of which nothing was granted
pub new_ahead : (attempts : Table VersionAttempt) (rows : Rows) (at : ℕ) (new : ChunkRow) → new.granted ≡ 0 → AreAhead attempts rows → AreAhead attempts (table.insert rows at new)
new_ahead attempts rows at new none h =
    record {
      issued = put_issued rows at new (omega (arith, none)) h.issued;
      ahead = λ handle a is.
          let low = h.ahead handle a is in
          let one = low.0 in (
            one,
            λ row there. elim (put_cases rows at new handle row there) [
              | inl same ↦ let granted = ap (λ (x : ChunkRow). x.granted) same.1 in omega (arith, granted, none, one)
              | inr before ↦ low.1 row before
            ],
          );
    }

-- a row of a table in which one row was changed
pub changed_cases : (rows : Rows) (handle : ℕ) (change : ChunkRow → ChunkRow) (o : Option ChunkRow) (q : ℕ) (row : ChunkRow) → table.get rows handle ≡ o → table.get (changed_by rows handle change o) q ≡ Some row
    → ((old : ChunkRow) × (q ≡ handle) × (table.get rows handle ≡ Some old) × (change old ≡ row)) ⊎ ((q ≡ handle → ⊥) × (table.get rows q ≡ Some row))
changed_cases rows handle change None q row none is = inr (λ same. none_some row (sym none ∙ sym (ap (λ (n : ℕ). table.get rows n) same) ∙ is), is)
changed_cases rows handle change (Some old) q row some is =
    elim (put_split rows handle (change old) q row is) [
      | inl same ↦ inl (old, same.0, some, same.1)
      | inr other ↦ inr (other.0, other.1)
    ]

abbrev issuing : ℕ → ChunkRow → ChunkRow
issuing version row = record row { issued = version }

-- a number that is issued
pub issue_ahead : (attempts : Table VersionAttempt) (rows : Rows) (handle version : ℕ) (old : ChunkRow) → table.get rows handle ≡ Some old → version ≡ suc old.issued → AreAhead attempts rows
    → AreAhead attempts (changed_by rows handle (λ row. record row { issued = version }) (table.get rows handle))
issue_ahead attempts rows handle version old at next h =
    record {
      issued = λ q row is.
          elim (changed_cases rows handle (issuing version) (table.get rows handle) q row refl is) [
            | inl now ↦
                let same = ap (λ (x : ChunkRow). x.granted) (same_some old now.0 (sym at ∙ now.2)) in
                let low = h.issued handle old at in
                let granted = ap (λ (x : ChunkRow). x.granted) now.3 in
                let issued = ap (λ (x : ChunkRow). x.issued) now.3 in
                omega (arith, same, low, granted, issued, next)
            | inr before ↦ h.issued q row before.1
          ];
      ahead = λ q a is.
          let low = h.ahead q a is in (
            low.0,
            λ row there. elim (changed_cases rows handle (issuing version) (table.get rows handle) q row refl there) [
              | inl now ↦
                  let less = low.1 now.0 (ap (λ (n : ℕ). table.get rows n) now.1 ∙ now.2) in
                  let granted = ap (λ (x : ChunkRow). x.granted) now.3 in
                  omega (arith, less, granted)
              | inr before ↦ low.1 row before.1
            ],
          );
    }

-- it is above what was granted
pub issued_is_ahead : (rows : Rows) (handle version : ℕ) → ((old : ChunkRow) → table.get rows handle ≡ Some old → old.granted < version) → 1 ≤ version
    → IsAhead (changed_by rows handle (λ row. record row { issued = version }) (table.get rows handle)) handle version
issued_is_ahead rows handle version low one = (
  one,
  λ row there. elim (changed_cases rows handle (issuing version) (table.get rows handle) handle row refl there) [
    | inl now ↦ let less = low now.0 now.2 in let granted = ap (λ (x : ChunkRow). x.granted) now.3 in omega (arith, less, granted)
    | inr before ↦ absurd (before.0 refl)
  ],
)

-- a number that is granted, whose attempt is over
pub grant_ahead : (attempts : Table VersionAttempt) (rows : Rows) (handle version primary : ℕ) (members : List ℕ) → AreAhead attempts rows
    → AreAhead (table.remove attempts handle) (changed_by rows handle (row_granted version primary members) (table.get rows handle))
grant_ahead attempts rows handle version primary members h =
    record {
      issued = λ q row is.
          elim (changed_cases rows handle (row_granted version primary members) (table.get rows handle) q row refl is) [
            | inl now ↦
                let high = le-max_right (now.0).issued version in
                let granted = ap (λ (x : ChunkRow). x.granted) now.3 in
                let issued = ap (λ (x : ChunkRow). x.issued) now.3 in
                omega (arith, high, granted, issued)
            | inr before ↦ h.issued q row before.1
          ];
      ahead = λ q a is.
          let kept = gone_split attempts handle q a is in
          let low = h.ahead q a kept.1 in (
            low.0,
            λ row there. elim (changed_cases rows handle (row_granted version primary members) (table.get rows handle) q row refl there) [
              | inl now ↦ absurd (kept.0 now.1)
              | inr before ↦ low.1 row before.1
            ],
          );
    }
