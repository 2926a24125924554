-- Where no version number is under way, what a server holds completes none.
use Rattle.std.proofs.Common.{◌≡◌, ℕ, false, ltb, List, [], ◌∷◌, length, sym, refl, ap, ◌∙◌, Some, None, Option, arith}
use Rattle.std.specs.Ordering.{nat_cmp}
use Rattle.std.specs.FinMap.{get, len, entries, get-entries, len-entries}
use Rattle.std.specs.FinMap.Entries.{find}
use Rattle.std.proofs.lemmas.Bool.Decides.{nat_tests}
use Rattle.messages.specs.declared.message.ReplicaLine.{ReplicaLine}
use Rattle.chunk_table.specs.ChunkTable.{ChunkRow, chunk_of}
use Rattle.protocol.specs.Tables.{Table}
use Rattle.protocol.specs.Master.{MasterDoing, VersionAttempt}
use Rattle.protocol.specs.MasterVersions.{learns_attempt}
use Rattle.protocol.specs.MasterReports.{learns_all}

found_nowhere : {X : Type 0} (k : ℕ) (es : List (ℕ × X)) → length es ≡ 0 → find nat_cmp k es ≡ None
found_nowhere k [] e = refl
found_nowhere k (x ∷ es) e = absurd (omega (arith, e))

not_positive : (n : ℕ) → ltb 0 n ≡ false → n ≡ 0
not_positive n e = grind (arith, nat_tests)

not_there : {X : Type 0} (t : Table X) (k : ℕ) → ltb 0 (len t) ≡ false → get t k ≡ None
not_there t k e = get-entries t k ∙ found_nowhere k (entries t) (sym (len-entries t) ∙ not_positive (len t) e)

without_attempt : (d : MasterDoing) (server handle version : ℕ) (o : Option ChunkRow) (a : Option VersionAttempt) → a ≡ None → learns_attempt d server handle version o a ≡ d
without_attempt d server handle version None a e = refl
without_attempt d server handle version (Some row) None e = refl
without_attempt d server handle version (Some row) (Some a) e = cc

pub learns_nothing : (d : MasterDoing) (server : ℕ) (lines : List ReplicaLine) → ltb 0 (len d.master.attempts) ≡ false → learns_all d server lines ≡ d
learns_nothing d server [] e = refl
learns_nothing d server (line ∷ rest) e =
    ap (λ (x : MasterDoing). learns_all x server rest)
    (without_attempt d server line.handle.0 line.version.0 (chunk_of d.master.logged.table line.handle.0) (get d.master.attempts line.handle.0) (not_there d.master.attempts line.handle.0 e))
    ∙ learns_nothing d server rest e
