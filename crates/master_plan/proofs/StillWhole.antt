-- What keeps it true that no chunk lacks replicas but some of those that are doubted.
use Rattle.std.proofs.Common.{◌≡◌, ℕ, ◌+◌, ◌-◌, ◌≤◌, Bool, true, false, ltb, List, [], refl, sym, ap, ◌∙◌, subst, Some, None, Option, unwrap_or, length, drop, map, arith}
use Rattle.std.proofs.Math.ListN.{drop_of_length-le}
use Rattle.std.specs.Ordering.{nat_cmp}
use Rattle.std.specs.Cmp.{nat_cmp_total}
use Rattle.std.specs.FinMap.{FinMap, get, insert, entries, from_entries, get-insert, get-entries, get-from_entries, same_map, nat_cmp-IsAntisymmetric}
use Rattle.std.proofs.lemmas.Bool.Decides.{nat_tests}
use Rattle.gfs_types.specs.declared.config.Config.{Config}
use Rattle.gfs_types.specs.declared.shape.Shape.{Shape}
use Rattle.log_records.specs.declared.record.Record.{Record}
use Rattle.chunk_table.specs.ChunkTable.{ChunkRow, new_row, set_end}
use Rattle.chunk_table.proofs.Lookups.{at_key}
use Rattle.chunk_table.proofs.Sums.{put_same}
use Rattle.protocol.specs.Tables.{Table}
use Rattle.protocol.specs.Logged.{Logged, after_record, copies_given_up}
use Rattle.protocol.specs.Master.{MasterState, is_present, version_held, chunks_held}
use Rattle.rereplicate.specs.Whole as whole
use Rattle.rereplicate.proofs.Wholeness.{more_present, same_versions, undoubted}
use Rattle.master_plan.specs.Plans.{known, started}
use Rattle.master_plan.specs.Watched.{servers_in, IsWhole, IsWholeAt, AllStay}
use Rattle.rereplicate.specs.Doubts.{held_in}
use Rattle.master_plan.specs.Granted.{granted_chunk, with_granted}
use Rattle.master_plan.proofs.GrantedRows.{IsOfRow, kept, ended, all_removed}

-- whether a chunk lacks replicas
abbrev lacks_of : MasterState → ℕ → Option ChunkRow → Bool
lacks_of m k o = whole.lacks_of (servers_in m) k o

-- whether one of this shape, of which this version is granted, does
abbrev lacks_under : MasterState → ℕ → Shape → ℕ → Bool
lacks_under m k shape granted = whole.lacks (servers_in m) k (record new_row { shape = shape; granted = granted })

abbrev IsWholeUnder : MasterState → ℕ → Shape → ℕ → Type 0
IsWholeUnder m k shape granted = lacks_under m k shape granted ≡ false

to_version : (m : MasterState) (k : ℕ) (o : Option ChunkRow) → lacks_of m k o ≡ false → IsOfRow (IsWholeUnder m k) o
to_version m k None h = refl
to_version m k (Some row) h = h

of_version : (m : MasterState) (k : ℕ) (o : Option ChunkRow) → IsOfRow (IsWholeUnder m k) o → lacks_of m k o ≡ false
of_version m k None h = refl
of_version m k (Some row) h = h

-- a chunk that lacks no replicas lacks none either under another row of the same shape and granted version, or of none
other_row : (m : MasterState) (k : ℕ) (o p : Option ChunkRow) → ((P : Shape → ℕ → Type 0) → ((shape : Shape) → P shape 0) → IsOfRow P o → IsOfRow P p)
    → lacks_of m k o ≡ false → lacks_of m k p ≡ false
other_row m k o p by h = of_version m k p (by (IsWholeUnder m k) (λ shape. refl) (to_version m k o h))

ungranted : (doubted : Table Unit) (o : Option ℕ) (k : ℕ) → get (with_granted doubted o) k ≡ None → (get doubted k ≡ None) × (o ≡ Some k → ⊥)
ungranted doubted None k none = (none, λ e. cc)
ungranted doubted (Some handle) k none =
    let both = undoubted doubted handle k none in
    (both.0, λ e. both.1 (let same : handle ≡ k = cc in sym same))

module _ (config : Config) (server_count : ℕ) (holders : Table (Table ℕ)) (reported : Table ℕ) (until : ℕ) where
  abbrev with_log : Logged → MasterState
  with_log logged = known (record (started config server_count logged until) { holders = holders; reported = reported })

  -- another log keeps what holds of a row
  under_log : (l n : Logged) (k : ℕ) (o : Option ChunkRow) → lacks_of (with_log l) k o ≡ false → lacks_of (with_log n) k o ≡ false
  under_log l n k None h = refl
  under_log l n k (Some row) h = h

  pub whole_appended : (logged : Logged) (doubted : Table Unit) (entry : Record) → IsWholeAt config server_count logged holders reported doubted until
      → IsWholeAt config server_count (after_record logged entry) holders reported (with_granted doubted (granted_chunk entry)) until
  whole_appended logged doubted entry h k none =
      let both = ungranted doubted (granted_chunk entry) k none in
      under_log logged (after_record logged entry) k (get (after_record logged entry).table.chunks k)
      (other_row (with_log logged) k (get logged.table.chunks k) (get (after_record logged entry).table.chunks k) (λ P zero_is was. kept P zero_is k logged entry both.1 was) (h k both.0))

  pub whole_given_up : (logged : Logged) (doubted : Table Unit) (handles : List ℕ) → IsWholeAt config server_count logged holders reported doubted until
      → IsWholeAt config server_count (copies_given_up logged handles) holders reported doubted until
  whole_given_up logged doubted handles h k none =
      under_log logged (copies_given_up logged handles) k (get (copies_given_up logged handles).table.chunks k)
      (other_row (with_log logged) k (get logged.table.chunks k) (get (copies_given_up logged handles).table.chunks k) (λ P zero_is was. all_removed P zero_is k logged.table.chunks handles was) (h k none))

  pub whole_ended : (logged : Logged) (doubted : Table Unit) (handle moment : ℕ) → IsWholeAt config server_count logged holders reported doubted until
      → IsWholeAt config server_count (record logged { table = set_end logged.table handle moment }) holders reported doubted until
  whole_ended logged doubted handle moment h k none =
      let after : Logged = record logged { table = set_end logged.table handle moment } in
      under_log logged after k (get after.table.chunks k)
      (other_row (with_log logged) k (get logged.table.chunks k) (get after.table.chunks k) (λ P zero_is was. ended P zero_is k logged.table.chunks handle moment was) (h k none))

nearer : (now until last lease : ℕ) → now ≤ until → ltb (until - last) lease ≡ true → ltb (now - last) lease ≡ true
nearer now until last lease le e = grind (arith, nat_tests)

-- and so at each earlier moment
whole_before : (m : MasterState) (doubted : Table Unit) (now : ℕ) → now ≤ m.now → IsWhole m doubted → IsWhole (record m { now = now }) doubted
whole_before m doubted now le h k none =
    more_present (servers_in m) (λ s. is_present (record m { now = now }) s) (λ s _ e. nearer now m.now _ m.config.lease_ms le e)
    k (get m.logged.table.chunks k) (h k none)

module _ (config : Config) (server_count : ℕ) (logged : Logged) (holders : Table (Table ℕ)) (reported : Table ℕ) (doubted : Table Unit) where
  abbrev at : ℕ → MasterState
  at moment = known (record (started config server_count logged moment) { holders = holders; reported = reported })

  pub still_whole : (until now : ℕ) → now ≤ until → IsWholeAt config server_count logged holders reported doubted until → IsWholeAt config server_count logged holders reported doubted now
  still_whole until now le h = whole_before (at until) doubted now le h

  -- it is found now, and the servers that are present stay so
  pub whole_found : (now until : ℕ) → AllStay (at now) until → IsWholeAt config server_count logged holders reported doubted now → IsWholeAt config server_count logged holders reported doubted until
  whole_found now until stay h k none =
      more_present (servers_in (at now)) (λ s. is_present (at until) s) stay k (get logged.table.chunks k) (h k none)

  reaches : (until last now lease : ℕ) → last ≤ now → ltb (until - last) lease ≡ true → ltb (until - now) lease ≡ true
  reaches until last now lease le e = grind (arith, nat_tests)

  -- a later report of one server
  pub whole_reported : (until server now : ℕ) → ltb now (unwrap_or (get reported server) 0) ≡ false
      → IsWholeAt config server_count logged holders reported doubted until → IsWholeAt config server_count logged holders (insert reported server now) doubted until
  whole_reported until server now e h k none =
      more_present (servers_in (at until)) (λ s. is_present (record (at until) { reported = insert reported server now }) s) (λ s _ there.
      subst (λ o. ltb (until - unwrap_or o 0) config.lease_ms ≡ true) (sym (get-insert nat_cmp_total reported server now (s + 1)))
      (at_key (λ q o. is_present (at until) q ≡ true → ltb (until - unwrap_or o 0) config.lease_ms ≡ true) (s + 1) server (Some now) (get reported (s + 1))
      (λ was. reaches until (unwrap_or (get reported server) 0) now config.lease_ms (grind (arith, nat_tests)) was) (λ _ was. was) there)) k (get logged.table.chunks k) (h k none)

  -- other replicas of one server: a chunk that isn't doubted is held by it as before
  pub whole_held : (until server : ℕ) (held : Table ℕ) (more : Table Unit)
      → ((k : ℕ) → get more k ≡ None → (get doubted k ≡ None) × (get held k ≡ get (held_in (get holders server)) k))
      → IsWholeAt config server_count logged holders reported doubted until → IsWholeAt config server_count logged (insert holders server held) reported more until
  whole_held until server held more same h k none =
      let both = same k none in
      let after : MasterState = record (at until) { holders = insert holders server held } in
      same_versions (servers_in (at until)) (λ handle s. version_held after handle s) (λ s. chunks_held after s) k (get logged.table.chunks k) (λ s.
      subst (λ o. get (held_in o) k ≡ get (held_in (get holders s)) k) (sym (get-insert nat_cmp_total holders server held s))
      (at_key (λ q o. get (held_in o) k ≡ get (held_in (get holders q)) k) s server (Some held) (get holders s) both.1 (λ _. refl))) (h k both.0)

-- one version more of a server is one of a chunk that is doubted
pub as_noted : (doubted : Table Unit) (old : Table ℕ) (handle version k : ℕ) → get (insert doubted handle tt) k ≡ None
    → (get doubted k ≡ None) × (get (insert old handle version) k ≡ get old k)
as_noted doubted old handle version k none =
    let both = undoubted doubted handle k none in (
      both.0,
      get-insert nat_cmp_total old handle version k
          ∙ at_key (λ x o. (x ≡ handle → ⊥) → o ≡ get old x) k handle (Some version) (get old k) (λ apart. absurd (apart refl)) (λ _ _. refl) both.1,
    )

-- a map from its own entries
pub from_own : {X : Type 0} (m : FinMap nat_cmp X) → from_entries {R = nat_cmp} (entries m) ≡ m
from_own m = same_map nat_cmp_total nat_cmp-IsAntisymmetric _ _ (λ q. get-from_entries nat_cmp_total (entries m) q ∙ sym (get-entries m q))

-- what is known already
pub known_again : {X : Type 0} (holders : Table X) (server : ℕ) (held : X) → get holders server ≡ Some held → insert holders server held ≡ holders
known_again holders server held e = put_same holders server held e

-- nothing stands behind a list's end
pub none_left : {X Y : Type 0} (f : X → Y) (xs : List X) (i : ℕ) → length xs ≤ i → map f (drop i xs) ≡ []
none_left f xs i h = ap (map f) (drop_of_length-le xs h)
