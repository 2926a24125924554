use Rattle.std.proofs.Common.{◌≡◌, ◌+◌, ◌<◌, take}
use Rattle.std.specs.Prelude.{◌^◌}
use Rattle.protocol.specs.LogSizes.{checkpoint_size}
use Rattle.master_plan.proofs.sizes.checkpoint_bytes.Given as goal

-- the bytes of the items so far
abbrev pub invariant-loop-item : goal.invariant-loop-item
invariant-loop-item l =
    record {
      size : l.used ≡ 13 + checkpoint_size (take l.item-index l.items);
      small : l.used < 2 ^ 63;
    }
