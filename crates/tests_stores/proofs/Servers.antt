-- Servers of the tests' sizes.
use Rattle.std.proofs.Common.{◌≡◌, ℕ, List, ap, ◌∙◌, subst}
use Rattle.gfs_types.specs.declared.config.Config.{Config}
use Rattle.replica_store.specs.Replicas.{ServerDisk}
use Rattle.chunk_store.specs.Opening.{HoldsReplicas}
use Rattle.disk_store.specs.Standing.{LeavesHolding}
use Rattle.disk_store.proofs.Again.{Found, found}
use Rattle.protocol.specs.Server.{ServerState, started_server}
use Rattle.server_cell.specs.Settings.{IsServerOf, KeepsSettings}
use Rattle.server_cell.proofs.Slots.{opened_of}

abbrev pub IsOfSizes : Config → Type 0
IsOfSizes c = (c.chunk ≡ 64) × (c.block ≡ 16) × (c.slots ≡ 4)

abbrev pub IsTested : ServerState → Type 0
IsTested s = (s.disk.chunk ≡ 64) × (s.disk.block ≡ 16) × (s.disk.slots ≡ 4)

-- in the sizes of these settings
pub in_settings : (P : ℕ → ℕ → ℕ → Type 0) (c : Config) → IsOfSizes c → P 64 16 4 → P c.chunk c.block c.slots
in_settings P c (chunk, block, slots) h = rw (chunk, block, slots) h

pub is_tested : (c : Config) (id moment : ℕ) (bytes : List ℕ) (d : ServerDisk) (s : ServerState) → IsOfSizes c → HoldsReplicas c.chunk c.block c.slots bytes d → s ≡ started_server c id d moment → IsTested s
is_tested c id moment bytes d s (chunk, block, slots) holds is =
    let of = opened_of c id moment bytes d s holds is in
    (of.chunk_is ∙ chunk, of.block_is ∙ block, of.slots_is ∙ slots)

pub still_tested : (s t : ServerState) → IsTested s → KeepsSettings s t → IsTested t
still_tested s t (chunk, block, slots) kept = (kept.chunk_is ∙ chunk, kept.block_is ∙ block, kept.slots_is ∙ slots)

-- what a stop leaves of its disk
pub found_again : (s : ServerState) (may_leave : List ℕ → Type 0) (bytes : List ℕ) → IsTested s → LeavesHolding may_leave s.disk s.under_way → may_leave bytes → Found 64 16 4 s.disk s.under_way bytes
found_again s may_leave bytes (chunk, block, slots) leaves left = found 64 16 4 s.disk s.under_way chunk block slots may_leave bytes leaves left
