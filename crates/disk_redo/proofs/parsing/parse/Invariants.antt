use Rattle.std.proofs.Common.{◌≡◌, ◌-◌, ◌++◌}
use Rattle.std.specs.Option.{option_map}
use Rattle.disk_redo.specs.Redo.{ranges_in}
use Rattle.disk_redo.proofs.parsing.parse.Given as goal

abbrev pub invariant-loop : goal.invariant-loop
invariant-loop l = option_map (λ rs. l.found.items ++ rs) (ranges_in (l.count - l.counter) l.rest) ≡ ranges_in l.count l.fn.bytes
