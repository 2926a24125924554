use Rattle.std.proofs.Common.{◌≡◌, ◌++◌}
use Rattle.std.specs.Prelude.{map}
use Rattle.master_replay.specs.Listing.{named}
use Rattle.master_replay.proofs.lists.listed_names.Given as goal

-- what is left completes the list
abbrev pub invariant-loop-name : goal.invariant-loop-name
invariant-loop-name l = l.listed ++ map named l.name-iterator.rest.items ≡ map named l.fn.names.items
