-- What a line that asks for more of a lease comes to.
use Rattle.std.proofs.Common.{◌≡◌, ℕ, ◌+◌, ◌≤◌, Bool, true, false, cond, not, leb, ltb, refl, sym, ap, ◌∙◌, Option, Some, arith}
use Rattle.std.proofs.lemmas.Bool.{and_parts}
use Rattle.std.proofs.lemmas.Bool.Decides.{nat_tests}
use Rattle.std.specs.Prelude.{◌&&◌, ◌==◌, nat_lt, min}
use Rattle.messages.specs.declared.message.Body.TheVariants as body
use Rattle.messages.specs.declared.message.LeaseLine.{LeaseLine}
use Rattle.chunk_table.specs.ChunkTable.{ChunkRow, chunk_of, with_row_changed, row_ended}
use Rattle.leases.specs.LeaseEnds.{extended_by, end_from, last_moment}
use Rattle.protocol.specs.Sending.{the_server, moment_of}
use Rattle.protocol.specs.Tables.{moment_limit}
use Rattle.protocol.specs.Master.{MasterDoing, tells, ends_at, has_lease}
use Rattle.protocol.specs.MasterSnapshots.{waits_for}
use Rattle.protocol.specs.MasterReports.{may_extend, extends_row}
use Rattle.master_state.specs.Follows.{table_of}
use Rattle.master_plan.specs.Plans.{PlanState, known, with_end, with_lease_extended}

module _ (d : MasterDoing) (server : ℕ) (line : LeaseLine) (row : ChunkRow) where
  abbrev until : ℕ
  until = d.master.now + d.master.config.lease_ms

  abbrev later : MasterDoing
  later = tells (ends_at d line.handle.0 until) (the_server server) (body.Extend line.handle line.version (moment_of until))

  by_tests : (a b : Bool) → may_extend d.master server line row ≡ a → nat_lt row.lease_end until ≡ b → extends_row d server line (Some row) ≡ cond (a && b) later d
  by_tests a b e f = ap (λ x. cond (x && nat_lt row.lease_end until) later d) e ∙ ap (λ x. cond (a && x) later d) f

  pub not_asked : may_extend d.master server line row ≡ false → extends_row d server line (Some row) ≡ d
  not_asked e = by_tests false (nat_lt row.lease_end until) e refl

  never : (a : Bool) → cond (a && false) later d ≡ d
  never true = refl
  never false = refl

  pub not_later : nat_lt row.lease_end until ≡ false → extends_row d server line (Some row) ≡ d
  not_later e = by_tests (may_extend d.master server line row) false refl e ∙ never (may_extend d.master server line row)

  pub awaited : may_extend d.master server line row ≡ not (waits_for d.master line.handle.0) → waits_for d.master line.handle.0 ≡ true → extends_row d server line (Some row) ≡ d
  awaited asks waits = not_asked (asks ∙ ap not waits)

  pub extended : may_extend d.master server line row ≡ not (waits_for d.master line.handle.0) → waits_for d.master line.handle.0 ≡ false → nat_lt row.lease_end until ≡ true → extends_row d server line (Some row) ≡ later
  extended asks waits less = by_tests true true (asks ∙ ap not waits) less

within : (now lease_ms : ℕ) → now ≤ moment_limit → lease_ms ≤ 3600000 → end_from now lease_ms ≡ now + lease_ms
within now lease_ms n l = omega (arith, n, l)

counts : (granted : Bool) (end_moment now : ℕ) → granted && not (leb end_moment now) ≡ true → ltb now end_moment ≡ true
counts true end_moment now e = grind (arith, nat_tests)
counts false end_moment now e = cc

last_part : (a b c d w : Bool) → a && b && c && d && w ≡ true → d ≡ true
last_part true true true true w e = refl
last_part true true true false w e = cc
last_part true true false d w e = cc
last_part true false c d w e = cc
last_part false b c d w e = cc

-- the end that the master sets is the one that the line is answered by
pub later_end : (p : PlanState) (server : ℕ) (line : LeaseLine) (row : ChunkRow) → chunk_of p.logged.table line.handle.0 ≡ Some row
    → may_extend (known p) server line row ≡ not (waits_for (known p) line.handle.0) → waits_for (known p) line.handle.0 ≡ false
    → nat_lt row.lease_end (p.now + p.config.lease_ms) ≡ true → p.now ≤ moment_limit → p.config.lease_ms ≤ 3600000
    → with_lease_extended p line.handle.0 ≡ with_end p line.handle.0 (p.now + p.config.lease_ms)
later_end p server line row there asks waits less n l =
    let leased : has_lease (known p) row ≡ true = last_part line.was_used_since_report (row.granted == line.version.0) (row.primary == server) (has_lease (known p) row) (not (waits_for (known p) line.handle.0)) (asks ∙ ap not waits) in
    let before : nat_lt p.now row.lease_end ≡ true = counts (nat_lt 0 row.granted) row.lease_end p.now leased in
    let until = within p.now p.config.lease_ms n l in
    ap (λ (o : Option ChunkRow). record p { logged = record p.logged { table = (extended_by (table_of p.logged) line.handle.0 p.now (end_from p.now p.config.lease_ms) o).table } }) there
    ∙ ap (λ u. record p { logged = record p.logged { table = (extended_by (table_of p.logged) line.handle.0 p.now u (Some row)).table } }) until
    ∙ ap (λ b. record p { logged = record p.logged { table = (cond (b && nat_lt row.lease_end (p.now + p.config.lease_ms)) (with_row_changed (table_of p.logged) line.handle.0 (row_ended (p.now + p.config.lease_ms))) (table_of p.logged)).table } }) before
    ∙ ap (λ b. record p { logged = record p.logged { table = (cond b (with_row_changed (table_of p.logged) line.handle.0 (row_ended (p.now + p.config.lease_ms))) (table_of p.logged)).table } }) less
