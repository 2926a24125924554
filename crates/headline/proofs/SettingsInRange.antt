-- Settings within their ranges are those that the headline asks for.
use Rattle.std.proofs.Common.{◌≡◌, ℕ, ◌≤◌, Bool, true, false, List, ◌∷◌, drop, None, refl, sym, arith}
use Rattle.std.specs.Prelude.{◌/◌, ◌%◌, ◌&&◌, ◌==◌, nat_le, nat_lt, IsTrue}
use Rattle.std.proofs.Math.Nat.{mod-add-div'}
use Rattle.std.proofs.lemmas.Bool.{and_parts, leb-true, eqb-true, ltb-true}
use Rattle.gfs_types.specs.declared.config.ConfigFault.{ConfigFault}
use Rattle.gfs_types.specs.declared.config.ConfigFault.TheVariants.{Chunk, Block, Goal, LeaseMs, SkewMs, AttemptMs, Attempts}
use Rattle.gfs_types.specs.Settings.{is_within, largest_chunk, first_that_fails, ranges}
use Rattle.laws_base.proofs.Steps.{none_some}
use Rattle.headline.specs.Runs.{SettingsInRangeAreSo}

passes : (f : ConfigFault) (b : Bool) (rest : List (ConfigFault × Bool)) → first_that_fails ((f, b) ∷ rest) ≡ None → IsTrue b × (first_that_fails rest ≡ None)
passes f true rest none = (refl, none)
passes f false rest none = none_some f (sym none)

at_least : (least greatest n : ℕ) → IsTrue (is_within least greatest n) → least ≤ n
at_least least greatest n is = leb-true least n (and_parts (nat_le least n) (nat_le n greatest) is).0

pub settings_in_range_are_so : SettingsInRangeAreSo
settings_in_range_are_so c none =
    let chunk = passes Chunk (is_within 64 largest_chunk c.chunk && c.chunk % 16 == 0) (drop 1 (ranges c)) none in
    let block = passes Block (is_within 16 65536 c.block && c.chunk % c.block == 0) (drop 2 (ranges c)) chunk.1 in
    let goal = passes Goal (is_within 1 8 c.goal) (drop 3 (ranges c)) block.1 in
    let lease = passes LeaseMs (is_within 1 3600000 c.lease_ms) (drop 4 (ranges c)) goal.1 in
    let skew = passes SkewMs (is_within 0 60000 c.skew_ms && nat_lt c.skew_ms c.lease_ms) (drop 5 (ranges c)) lease.1 in
    let attempt = passes AttemptMs (is_within 1 600000 c.attempt_ms) (drop 6 (ranges c)) skew.1 in
    let attempts = passes Attempts (is_within 1 16 c.attempts) (drop 7 (ranges c)) attempt.1 in
    record {
      attempts = at_least 1 16 c.attempts attempts.0;
      chunk = let least = at_least 64 67108864 c.chunk (and_parts (is_within 64 largest_chunk c.chunk) (c.chunk % 16 == 0) chunk.0).0 in omega (arith, least);
      block = (c.chunk / c.block, let rest : c.chunk % c.block ≡ 0 = eqb-true (c.chunk % c.block) 0 (and_parts (is_within 16 65536 c.block) (c.chunk % c.block == 0) block.0).1 in let whole = mod-add-div' c.chunk c.block in omega (arith, rest, whole));
      goal = at_least 1 8 c.goal goal.0;
      lease = ltb-true c.skew_ms c.lease_ms (and_parts (is_within 0 60000 c.skew_ms) (nat_lt c.skew_ms c.lease_ms) skew.0).1;
    }
