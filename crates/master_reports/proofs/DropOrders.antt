-- The orders of an answer, one after another.
use Rattle.std.proofs.Common.{◌≡◌, ℕ, true, false, cond, List, [], ◌∷◌, Option, Some, None, map, refl, ap, ◌∙◌}
use Rattle.std.specs.List.{filter}
use Rattle.messages.specs.declared.message.Body.TheVariants as body
use Rattle.messages.specs.declared.message.ReplicaLine.{ReplicaLine}
use Rattle.chunk_table.specs.ChunkTable.{ChunkRow, ChunkTable, chunk_of}
use Rattle.protocol.specs.Master.{MasterDoing, orders}
use Rattle.protocol.specs.MasterReports.{is_useless as is_useless_there, drops_useless}
use Rattle.stale_collect.specs.Drops.{is_useless, drop_of, useless_drops}
use Rattle.master_reports.specs.Drops.{orders_drops}

same_test : (version : ℕ) (o : Option ChunkRow) → is_useless_there version o ≡ is_useless version o
same_test version None = refl
same_test version (Some row) = refl

pub drops_are : (report : List ReplicaLine) (d : MasterDoing) (server : ℕ) → drops_useless d server report ≡ orders_drops d server (useless_drops d.master.logged.table report)
drops_are [] d server = refl
drops_are (line ∷ rest) d server =
    let t : ChunkTable = d.master.logged.table in
    ap (λ b. drops_useless (cond b (orders d server (λ order. body.Drop order line.handle line.version)) d) server rest) (same_test line.version.0 (chunk_of t line.handle.0))
    ∙ elim (is_useless line.version.0 (chunk_of t line.handle.0)) as (λ b.
    drops_useless (cond b (orders d server (λ order. body.Drop order line.handle line.version)) d) server rest
    ≡ orders_drops d server (map drop_of (cond b (line ∷ filter (λ l. is_useless l.version.0 (chunk_of t l.handle.0)) rest) (filter (λ l. is_useless l.version.0 (chunk_of t l.handle.0)) rest)))) [
      | true ↦ drops_are rest (orders d server (λ order. body.Drop order line.handle line.version)) server
      | false ↦ drops_are rest d server
    ]
