-- Settings that were checked lie in the bounds that nodes ask for.
use Rattle.std.proofs.Common.{◌≡◌, ◌≤◌, ℕ, Bool, true, false, cond, Option, Some, None, refl, sym, ap, ◌∙◌, subst, arith}
use Rattle.std.specs.Prelude.{◌&&◌, ◌%◌, ◌==◌, nat_le, nat_lt, drop, length, IsTrue, Result, Ok, Err}
use Rattle.std.specs.Result.{is_ok, result_err}
use Rattle.std.proofs.lemmas.Bool.{eqb-true}
use Rattle.std.proofs.lemmas.Bool.Decides.{nat_tests}
use Rattle.std.proofs.lemmas.List.{length-replicate}
use Rattle.disk.specs.Writes.{DiskState, new_disk}
use Rattle.gfs_types.specs.declared.config.Config.{Config}
use Rattle.gfs_types.specs.declared.config.ConfigFault.{ConfigFault}
use Rattle.gfs_types.specs.declared.config.ConfigFault.TheVariants.{Chunk, Block, Goal, LeaseMs, SkewMs, AttemptMs, Attempts, CacheEntries, CacheMs, PushEntries, KeepMs, Slots, LogBytes}
use Rattle.gfs_types.specs.Settings.{first_out_of_range, first_that_fails, ranges, is_within, largest_chunk}
use Rattle.stored_log.specs.Kept.{IsDiskSize}

pub record Bounds (c : Config) : Type 0 where
  pub least : 64 ≤ c.chunk
  pub most : c.chunk ≤ largest_chunk
  pub block : 16 ≤ c.block
  pub whole : c.chunk % c.block ≡ 0
  pub lease : c.lease_ms ≤ 3600000
  pub skew : c.skew_ms ≤ 60000
  pub slots : c.slots ≤ 65536
  pub log : IsDiskSize c.log_bytes

on_none : {F : Type 0} (b : Bool) (rest : Option F) (f : F) → cond b rest (Some f) ≡ None → (b ≡ true) × (rest ≡ None)
on_none true rest f h = (refl, h)
on_none false rest f h = absurd (cc)

and_both : (a b : Bool) → a && b ≡ true → (a ≡ true) × (b ≡ true)
and_both true b h = (refl, h)
and_both false b h = absurd (cc)

le_of : (a b : ℕ) → nat_le a b ≡ true → a ≤ b
le_of a b h = grind (arith, nat_tests)

within : (least greatest n : ℕ) → is_within least greatest n ≡ true → (least ≤ n) × (n ≤ greatest)
within least greatest n h =
    let both = and_both (nat_le least n) (nat_le n greatest) h in
    (le_of least n both.0, le_of n greatest both.1)

pub bounds : (c : Config) → first_out_of_range c ≡ None → Bounds c
bounds c h =
    let chunk = on_none (is_within 64 largest_chunk c.chunk && c.chunk % 16 == 0) (first_that_fails (drop 1 (ranges c))) Chunk h in
    let block = on_none (is_within 16 65536 c.block && c.chunk % c.block == 0) (first_that_fails (drop 2 (ranges c))) Block chunk.1 in
    let goal' = on_none (is_within 1 8 c.goal) (first_that_fails (drop 3 (ranges c))) Goal block.1 in
    let lease = on_none (is_within 1 3600000 c.lease_ms) (first_that_fails (drop 4 (ranges c))) LeaseMs goal'.1 in
    let skew = on_none (is_within 0 60000 c.skew_ms && nat_lt c.skew_ms c.lease_ms) (first_that_fails (drop 5 (ranges c))) SkewMs lease.1 in
    let attempt = on_none (is_within 1 600000 c.attempt_ms) (first_that_fails (drop 6 (ranges c))) AttemptMs skew.1 in
    let attempts = on_none (is_within 1 16 c.attempts) (first_that_fails (drop 7 (ranges c))) Attempts attempt.1 in
    let entries = on_none (is_within 1 65536 c.cache_entries) (first_that_fails (drop 8 (ranges c))) CacheEntries attempts.1 in
    let cached = on_none (is_within 1 86400000 c.cache_ms) (first_that_fails (drop 9 (ranges c))) CacheMs entries.1 in
    let pushed = on_none (is_within 1 4096 c.push_entries) (first_that_fails (drop 10 (ranges c))) PushEntries cached.1 in
    let kept = on_none (is_within 1 31536000000 c.keep_ms) (first_that_fails (drop 11 (ranges c))) KeepMs pushed.1 in
    let slots' = on_none (is_within 1 65536 c.slots) (first_that_fails (drop 12 (ranges c))) Slots kept.1 in
    let log = on_none (is_within 4096 1073741824 c.log_bytes) (first_that_fails (drop 13 (ranges c))) LogBytes slots'.1 in
    let chunk_in = within 64 largest_chunk c.chunk (and_both (is_within 64 largest_chunk c.chunk) (c.chunk % 16 == 0) chunk.0).0 in
    let block_both = and_both (is_within 16 65536 c.block) (c.chunk % c.block == 0) block.0 in
    record {
      least = chunk_in.0;
      most = chunk_in.1;
      block = (within 16 65536 c.block block_both.0).0;
      whole = eqb-true (c.chunk % c.block) 0 block_both.1;
      lease = (within 1 3600000 c.lease_ms lease.0).1;
      skew = (within 0 60000 c.skew_ms (and_both (is_within 0 60000 c.skew_ms) (nat_lt c.skew_ms c.lease_ms) skew.0).0).1;
      slots = (within 1 65536 c.slots slots'.0).1;
      log = within 4096 1073741824 c.log_bytes log.0;
    }

pub bounds_ok : (c : Config) (r : Result (Unit {0}) ConfigFault) (b : Bool) → result_err r ≡ first_out_of_range c → b ≡ is_ok r → IsTrue b → Bounds c
bounds_ok c (Ok x) b h e t = bounds c (sym h)
bounds_ok c (Err fault) b h e t = absurd (cc)

-- a new disk has the size that was asked for
pub disk_size : (d : DiskState) (size : ℕ) → d ≡ new_disk size → IsDiskSize size → IsDiskSize (length d.bytes)
disk_size d size is h = subst IsDiskSize (sym (ap (λ (x : DiskState). length x.bytes) is ∙ length-replicate size 0)) h
