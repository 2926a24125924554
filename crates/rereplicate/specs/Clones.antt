-- Which chunk gets a new replica: the one furthest below its goal (section 4.3).
use Rattle.std.specs.Prelude.{ℕ, ◌-◌, ◌&&◌, nat_lt, if◌then◌else◌, List, [], ◌∷◌, length, Option, Some, None, option_map}
use Rattle.std.specs.FinMap as table
use Rattle.gfs_types.specs.declared.ids.Handle.{Handle}
use Rattle.chunk_table.specs.ChunkTable.{ChunkRow, NumberTable}
use Rattle.leases.specs.LeaseEnds.{has_ended}
use Rattle.rereplicate.specs.declared.clone_order.CloneOrder.{CloneOrder}
use Rattle.rereplicate.specs.Servers.{Servers, HeldAt, server_id, version_id, current_holders, source, target}

-- A clone that could be ordered, and how many replicas its chunk lacks.
pub record Offer : Type 0 where
  pub handle : ℕ
  pub version : ℕ
  pub source : ℕ
  pub target : ℕ
  pub missing : ℕ

abbrev pub handle_id : ℕ → Handle
handle_id n = record { 0 = n }

abbrev pub order_of : Offer → CloneOrder
order_of o = record { handle = handle_id o.handle; version = version_id o.version; source = server_id o.source; target = server_id o.target }

abbrev pub offer_by : ℕ → ℕ → Option HeldAt → Option ℕ → Option Offer
offer_by handle missing None target = None
offer_by handle missing (Some h) None = None
offer_by handle missing (Some h) (Some target) = Some (record { handle = handle; version = h.version; source = h.server; target = target; missing = missing })

-- how many present current holders a chunk has less than its file's goal
abbrev pub missing_replicas : Servers → ℕ → ChunkRow → ℕ
missing_replicas s handle row = row.shape.goal - length (current_holders s handle row)

-- a granted chunk without a lease that lacks replicas
abbrev pub offer_of : Servers → ℕ → ℕ → ChunkRow → Option Offer
offer_of s now handle row =
    if nat_lt 0 row.granted && has_ended row now && nat_lt 0 (missing_replicas s handle row)
    then offer_by handle (missing_replicas s handle row) (source s handle row) (target s handle)
    else None

-- the one that lacks more; the first where both lack as many
abbrev pub better : Option Offer → Option Offer → Option Offer
better None other = other
better (Some first) None = Some first
better (Some first) (Some other) = if nat_lt first.missing other.missing then Some other else Some first

-- the furthest below its goal, then the lowest handle
abbrev pub best_offer : Servers → ℕ → List (ℕ × ChunkRow) → Option Offer
best_offer s now [] = None
best_offer s now (e ∷ rest) = better (offer_of s now e.0 e.1) (best_offer s now rest)

-- the clone that is ordered, by what is known of the servers, the moment and the chunks
abbrev pub next_clone : Servers → ℕ → NumberTable ChunkRow → Option CloneOrder
next_clone s now chunks = option_map order_of (best_offer s now (table.entries chunks))

abbrev pub offer_in : Servers → ℕ → ℕ → Option ChunkRow → Option Offer
offer_in s now handle None = None
offer_in s now handle (Some row) = offer_of s now handle row

-- the clone of the chunk with this handle, where there is one
abbrev pub offer_at : Servers → ℕ → NumberTable ChunkRow → ℕ → Option Offer
offer_at s now chunks handle = offer_in s now handle (table.get chunks handle)
