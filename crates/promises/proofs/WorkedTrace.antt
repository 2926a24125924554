-- Where the answers stand in a worked trace.
use Rattle.std.proofs.Common.{take, drop, refl}
use Rattle.relaxed_file.specs.Traces.{two_rounds_trace}
use Rattle.promises.specs.Examples.{RecordIsReadAfterwards, RecordIsReadAfterOpen}

pub record_is_read_afterwards : RecordIsReadAfterwards
record_is_read_afterwards = (
  record { before = take 5 two_rounds_trace; rest = drop 6 two_rounds_trace; is = refl; waited = refl },
  record { before = take 3 (drop 6 two_rounds_trace); rest = drop 10 two_rounds_trace; is = refl; waited = refl },
)

pub record_is_read_after_open : RecordIsReadAfterOpen
record_is_read_after_open = (
  record { before = take 11 two_rounds_trace; rest = drop 12 two_rounds_trace; is = refl; waited = refl },
  record { before = take 3 (drop 12 two_rounds_trace); rest = drop 16 two_rounds_trace; is = refl; waited = refl },
  record { before = take 1 (drop 16 two_rounds_trace); rest = drop 18 two_rounds_trace; is = refl; waited = refl },
)
