-- The settings of a cell: the range of each, in the order in which they are looked at, and what stands where none is given. A chunk has 64 MB and three replicas in the paper (sections 2.3 and 2.5), a lease 60 seconds (section 3.1), and a deleted file three days (section 4.4).
use Rattle.std.specs.Prelude.{ℕ, ◌%◌, ◌^◌, min, Bool, ◌&&◌, ◌==◌, nat_lt, nat_le, if◌then◌else◌, List, [], ◌∷◌, Option, Some, None, codes}
use Rattle.std.specs.Int.{trailing_zeros, w32}
use Rattle.gfs_types.specs.declared.config.Config.{Config}
use Rattle.gfs_types.specs.declared.config.ConfigFault.{ConfigFault}
use Rattle.gfs_types.specs.declared.config.ConfigFault.TheVariants.{Chunk, Block, Goal, LeaseMs, SkewMs, AttemptMs, Attempts, CacheEntries, CacheMs, PushEntries, KeepMs, Slots, LogBytes, Journal}

-- whether a number is at least the first and at most the second
abbrev pub is_within : ℕ → ℕ → ℕ → Bool
is_within least greatest n = nat_le least n && nat_le n greatest

-- the bytes of the largest chunk, 64 MB
abbrev pub largest_chunk : ℕ
largest_chunk = 67_108_864

-- each setting, with whether it is in its range
abbrev pub ranges : Config → List (ConfigFault × Bool)
ranges c =
    (Chunk, is_within 64 largest_chunk c.chunk && c.chunk % 16 == 0)
    ∷ (Block, is_within 16 65536 c.block && c.chunk % c.block == 0)
    ∷ (Goal, is_within 1 8 c.goal)
    ∷ (LeaseMs, is_within 1 3600000 c.lease_ms)
    ∷ (SkewMs, is_within 0 60000 c.skew_ms && nat_lt c.skew_ms c.lease_ms)
    ∷ (AttemptMs, is_within 1 600000 c.attempt_ms)
    ∷ (Attempts, is_within 1 16 c.attempts)
    ∷ (CacheEntries, is_within 1 65536 c.cache_entries)
    ∷ (CacheMs, is_within 1 86400000 c.cache_ms)
    ∷ (PushEntries, is_within 1 4096 c.push_entries)
    ∷ (KeepMs, is_within 1 31536000000 c.keep_ms)
    ∷ (Slots, is_within 1 65536 c.slots)
    ∷ (LogBytes, is_within 4096 1073741824 c.log_bytes)
    ∷ (Journal, is_within 16 16777216 c.journal)
    ∷ []

-- the first that is not
abbrev pub first_that_fails : List (ConfigFault × Bool) → Option ConfigFault
first_that_fails [] = None
first_that_fails (line ∷ rest) = if line.1 then first_that_fails rest else Some line.0

abbrev pub first_out_of_range : Config → Option ConfigFault
first_out_of_range c = first_that_fails (ranges c)

abbrev pub default_settings : Config
default_settings = record {
  chunk = 1048576;
  block = 65536;
  goal = 3;
  lease_ms = 60000;
  skew_ms = 2000;
  attempt_ms = 5000;
  attempts = 5;
  cache_entries = 256;
  cache_ms = 60000;
  push_entries = 64;
  keep_ms = 259200000;
  slots = 32;
  log_bytes = 16777216;
  journal = 1048576;
}

-- the block where none is given: the greatest power of two that divides the chunk and is at most 65536 (2 ^ 16)
abbrev pub block_for : ℕ → ℕ
block_for chunk = 2 ^ min (trailing_zeros w32 chunk) 16

abbrev pub name_of_setting : ConfigFault → List ℕ
name_of_setting Chunk = codes "chunk"
name_of_setting Block = codes "block"
name_of_setting Goal = codes "goal"
name_of_setting LeaseMs = codes "lease_ms"
name_of_setting SkewMs = codes "skew_ms"
name_of_setting AttemptMs = codes "attempt_ms"
name_of_setting Attempts = codes "attempts"
name_of_setting CacheEntries = codes "cache_entries"
name_of_setting CacheMs = codes "cache_ms"
name_of_setting PushEntries = codes "push_entries"
name_of_setting KeepMs = codes "keep_ms"
name_of_setting Slots = codes "slots"
name_of_setting LogBytes = codes "log_bytes"
name_of_setting Journal = codes "journal"
