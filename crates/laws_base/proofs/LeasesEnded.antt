-- The last lease has ended of each chunk of which a version is attempted, and of each copy under way.
use Rattle.std.proofs.Common.{◌≡◌, ◌⊎◌, ℕ, ◌≤◌, ◌<◌, Bool, List, Option, Some, None, refl, sym, ap, subst, ◌∙◌, inl, inr, arith}
use Rattle.std.specs.Ordering.{nat_cmp}
use Rattle.std.specs.FinMap as table
use Rattle.protocol.specs.Tables.{Table, removed_all, kept_where}
use Rattle.chunk_table.specs.ChunkTable.{ChunkRow, changed_by, set_end, row_granted}
use Rattle.protocol.specs.Logged.{Logged, Copy, copies_given_up, swapped_in}
use Rattle.protocol.specs.Master.{VersionAttempt}
use Rattle.laws_base.proofs.Steps.{none_some, put_cases, put_split, gone_split, removed_cases}
use Rattle.laws_base.proofs.Entries.{kept_where_cases}
use Rattle.laws_base.proofs.ChunkRows.{Rows, rows_of, AreIssued, OwnedFrom, swapped_owned}
use Rattle.laws_base.proofs.VersionsAhead.{IsAhead, AreAhead, changed_cases, none_ahead, fewer_ahead, less_ahead, kept_ahead, one_ahead}

-- the chunk's last lease has ended, if the chunk is there
abbrev pub HasEnded : ℕ → Rows → ℕ → Type 0
HasEnded now rows handle = (row : ChunkRow) → table.get rows handle ≡ Some row → row.lease_end ≤ now

-- Attempts are above what was granted; the last leases of their chunks, and of copies, have ended.
pub record AreReady (now : ℕ) (attempts : Table VersionAttempt) (l : Logged) : Type 0 where
  pub ahead : AreAhead attempts (rows_of l)
  pub attempted : (handle : ℕ) (a : VersionAttempt) → table.get attempts handle ≡ Some a → HasEnded now (rows_of l) handle
  pub copied : (handle : ℕ) (c : Copy) → table.get l.copies handle ≡ Some c → HasEnded now (rows_of l) handle

-- rows after a change

pub ended_owned : (now : ℕ) (t u : Rows) (handle : ℕ) → OwnedFrom t u → HasEnded now t handle → HasEnded now u handle
ended_owned now t u handle f h row is =
    let was = f handle row is in
    let low = h was.0 was.1 in
    let same : (was.0).lease_end ≡ row.lease_end = ap (λ (r : ChunkRow). r.lease_end) was.2 in
    omega (arith, low, same)

pub ended_removed : (now : ℕ) (t : Rows) (handles : List ℕ) (handle : ℕ) → HasEnded now t handle → HasEnded now (removed_all t handles) handle
ended_removed now t handles handle h row is = h row (removed_cases t handles handle row is)

pub ended_issued : (now : ℕ) (t : Rows) (chunk version handle : ℕ) → HasEnded now t handle → HasEnded now (changed_by t chunk (λ row. record row { issued = version }) (table.get t chunk)) handle
ended_issued now t chunk version handle h row is =
    elim (changed_cases t chunk (λ r. record r { issued = version }) (table.get t chunk) handle row refl is) [
      | inl changed ↦
          let low = h changed.0 (ap (λ (n : ℕ). table.get t n) changed.1 ∙ changed.2) in
          let same : (changed.0).lease_end ≡ row.lease_end = ap (λ (r : ChunkRow). r.lease_end) changed.3 in
          omega (arith, low, same)
      | inr before ↦ h row before.1
    ]

pub ended_put : (now : ℕ) (t : Rows) (at : ℕ) (new : ChunkRow) (handle : ℕ) → new.lease_end ≡ 0 → HasEnded now t handle → HasEnded now (table.insert t at new) handle
ended_put now t at new handle none h row is =
    elim (put_cases t at new handle row is) [
      | inl same ↦ let end : new.lease_end ≡ row.lease_end = ap (λ (r : ChunkRow). r.lease_end) same.1 in omega (arith, none, end)
      | inr before ↦ h row before
    ]

pub ended_new : (now : ℕ) (t : Rows) (at : ℕ) (new : ChunkRow) → new.lease_end ≡ 0 → HasEnded now (table.insert t at new) at
ended_new now t at new none row is =
    elim (put_split t at new at row is) [
      | inl same ↦ let end : new.lease_end ≡ row.lease_end = ap (λ (r : ChunkRow). r.lease_end) same.1 in omega (arith, none, end)
      | inr other ↦ absurd (other.0 refl)
    ]

-- a lease that has not ended
abbrev pub IsLasting : ℕ → Rows → ℕ → Type 0
IsLasting now rows handle = (row : ChunkRow) × (table.get rows handle ≡ Some row) × (now < row.lease_end)

ended_set : (now : ℕ) (t : Rows) (chunk moment handle : ℕ) → (moment ≤ now) ⊎ IsLasting now t chunk → HasEnded now t handle
    → HasEnded now (changed_by t chunk (λ row. record row { lease_end = moment }) (table.get t chunk)) handle
ended_set now t chunk moment handle may h row is =
    elim (changed_cases t chunk (λ r. record r { lease_end = moment }) (table.get t chunk) handle row refl is) [
      | inl changed ↦ elim (may) [
        | inl low ↦ let same : moment ≡ row.lease_end = ap (λ (r : ChunkRow). r.lease_end) changed.3 in omega (arith, low, same)
        | inr lasting ↦ absurd (let low = h lasting.0 (ap (λ (n : ℕ). table.get t n) changed.1 ∙ lasting.1) in let high = lasting.2 in omega (arith, low, high))
      ]
      | inr before ↦ h row before.1
    ]

-- what is ready stays so

pub none_ready : (now : ℕ) (l : Logged) → AreIssued (rows_of l) → ((handle : ℕ) → table.get l.copies handle ≡ None) → AreReady now table.empty l
none_ready now l issued none =
    record {
      ahead = none_ahead (rows_of l) issued;
      attempted = λ handle a is. none_some a (sym (table.get-empty nat_cmp handle) ∙ is);
      copied = λ handle c is. none_some c (sym (none handle) ∙ is);
    }

pub later_ready : (now later : ℕ) (attempts : Table VersionAttempt) (l : Logged) → now ≤ later → AreReady now attempts l → AreReady later attempts l
later_ready now later attempts l more h =
    record {
      ahead = h.ahead;
      attempted = λ handle a is row at. let low = h.attempted handle a is row at in omega (arith, low, more);
      copied = λ handle c is row at. let low = h.copied handle c is row at in omega (arith, low, more);
    }

pub fewer_ready : (now : ℕ) (attempts : Table VersionAttempt) (handles : List ℕ) (l : Logged) → AreReady now attempts l → AreReady now (removed_all attempts handles) l
fewer_ready now attempts handles l h =
    record { ahead = fewer_ahead attempts handles (rows_of l) h.ahead; attempted = λ handle a is. h.attempted handle a (removed_cases attempts handles handle a is); copied = h.copied }

-- copies that are given up, with their attempts
pub less_ready : (now : ℕ) (attempts : Table VersionAttempt) (l : Logged) (handles : List ℕ) → AreReady now attempts l → AreReady now (removed_all attempts handles) (copies_given_up l handles)
less_ready now attempts l handles h =
    record {
      ahead = less_ahead attempts (rows_of l) handles h.ahead;
      attempted = λ handle a is. ended_removed now (rows_of l) handles handle (h.attempted handle a (removed_cases attempts handles handle a is));
      copied = λ handle c is. ended_removed now (rows_of l) handles handle (h.copied handle c (removed_cases l.copies handles handle c is));
    }

pub kept_ready : (now : ℕ) (test : ℕ × VersionAttempt → Bool) (attempts : Table VersionAttempt) (l : Logged) → AreReady now attempts l → AreReady now (kept_where test attempts) l
kept_ready now test attempts l h =
    record { ahead = kept_ahead test attempts (rows_of l) h.ahead; attempted = λ handle a is. h.attempted handle a (kept_where_cases test attempts handle a is); copied = h.copied }

pub one_ready : (now : ℕ) (attempts : Table VersionAttempt) (handle : ℕ) (a : VersionAttempt) (l : Logged) → IsAhead (rows_of l) handle a.version → HasEnded now (rows_of l) handle → AreReady now attempts l
    → AreReady now (table.insert attempts handle a) l
one_ready now attempts handle a l above ended h =
    record {
      ahead = one_ahead attempts handle a (rows_of l) above h.ahead;
      attempted = λ q b is. elim (put_cases attempts handle a q b is) [
        | inl same ↦ subst (λ (n : ℕ). HasEnded now (rows_of l) n) (sym same.0) ended
        | inr before ↦ h.attempted q b before
      ];
      copied = h.copied;
    }

-- an end that is not later than now, or of a lease that lasts
pub set_ready : (now : ℕ) (attempts : Table VersionAttempt) (l : Logged) (chunk moment : ℕ) → (moment ≤ now) ⊎ IsLasting now (rows_of l) chunk
    → AreAhead attempts (rows_of (record l { table = set_end l.table chunk moment })) → AreReady now attempts l → AreReady now attempts (record l { table = set_end l.table chunk moment })
set_ready now attempts l chunk moment may ahead h =
    record {
      ahead = ahead;
      attempted = λ handle a is. ended_set now (rows_of l) chunk moment handle may (h.attempted handle a is);
      copied = λ handle c is. ended_set now (rows_of l) chunk moment handle may (h.copied handle c is);
    }

-- a grant, which is of no attempt and no copy that is left

abbrev pub granted_table : Logged → ℕ → ℕ → ℕ → List ℕ → Logged
granted_table l handle version primary members = record l { table = record l.table { chunks = changed_by (rows_of l) handle (row_granted version primary members) (table.get (rows_of l) handle) } }

-- the state after a grant of a chunk whose lease ends at this moment
abbrev pub after_grant : Logged → ℕ → ℕ → ℕ → ℕ → List ℕ → Logged
after_grant l handle version until primary members =
    let two : Logged = swapped_in (granted_table l handle version primary members) handle (table.get l.copies handle) in
    record two { table = set_end two.table handle until }

ended_other : (now : ℕ) (t : Rows) (chunk handle : ℕ) (change : ChunkRow → ChunkRow) → (handle ≡ chunk → ⊥) → HasEnded now t handle → HasEnded now (changed_by t chunk change (table.get t chunk)) handle
ended_other now t chunk handle change other h row is =
    elim (changed_cases t chunk change (table.get t chunk) handle row refl is) [
      | inl changed ↦ absurd (other changed.1)
      | inr before ↦ h row before.1
    ]

ended_granted : (now : ℕ) (l : Logged) (handle version until primary : ℕ) (members : List ℕ) (q : ℕ) → (q ≡ handle → ⊥) → HasEnded now (rows_of l) q → HasEnded now (rows_of (after_grant l handle version until primary members)) q
ended_granted now l handle version until primary members q other h =
    let one : Logged = granted_table l handle version primary members in
    let two : Logged = swapped_in one handle (table.get l.copies handle) in
    ended_other now (rows_of two) handle q (λ row. record row { lease_end = until }) other
    (ended_owned now (rows_of one) (rows_of two) q (swapped_owned one handle (table.get l.copies handle)) (ended_other now (rows_of l) handle q (row_granted version primary members) other h))

copies_granted : (l : Logged) (handle version primary : ℕ) (members : List ℕ) (o : Option Copy) (q : ℕ) (c : Copy) → table.get l.copies handle ≡ o → table.get (swapped_in (granted_table l handle version primary members) handle o).copies q ≡ Some c
    → (q ≡ handle → ⊥) × (table.get l.copies q ≡ Some c)
copies_granted l handle version primary members None q c none is = (λ same. none_some c (sym none ∙ ap (λ (n : ℕ). table.get l.copies n) (sym same) ∙ is), is)
copies_granted l handle version primary members (Some x) q c some is = gone_split l.copies handle q c is

pub grant_ready : (now : ℕ) (attempts : Table VersionAttempt) (l : Logged) (handle version until primary : ℕ) (members : List ℕ)
    → AreAhead (table.remove attempts handle) (rows_of (after_grant l handle version until primary members)) → AreReady now attempts l → AreReady now (table.remove attempts handle) (after_grant l handle version until primary members)
grant_ready now attempts l handle version until primary members ahead h =
    record {
      ahead = ahead;
      attempted = λ q a is. let kept = gone_split attempts handle q a is in ended_granted now l handle version until primary members q kept.0 (h.attempted q a kept.1);
      copied = λ q c is.
          let kept = copies_granted l handle version primary members (table.get l.copies handle) q c refl is in
          ended_granted now l handle version until primary members q kept.0 (h.copied q c kept.1);
    }
