use Rattle.std.proofs.Common.{◌≡◌, ◌++◌, length, take}
use Rattle.std.specs.List.{flat_map}
use Rattle.log_codec.specs.Fields.{number, index}
use Rattle.log_codec.proofs.write_fields.put_handles.Given as goal

abbrev pub invariant-loop-handle : goal.invariant-loop-handle
invariant-loop-handle l = l.out.items ≡ l.fn.out.items ++ (index (length l.chunks) ++ flat_map number (take l.handle-index l.chunks))
