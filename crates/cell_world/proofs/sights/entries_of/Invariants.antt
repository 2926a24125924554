use Rattle.std.proofs.Common.{◌≡◌, ◌<◌, ◌^◌, ◌++◌, drop, map}
use Rattle.std.specs.Prelude.{All}
use Rattle.gfs_types.specs.Mutations.{end_of}
use Rattle.cell_world.proofs.sights.entries_of.Given as goal

-- what is left completes the list, and each so far has an end
abbrev pub invariant-loop-one : goal.invariant-loop-one
invariant-loop-one l = record {
  entries : l.entries.items ++ map (λ p. p.entry) (drop l.one-index l.list) ≡ map (λ p. p.entry) l.list;
  ends : All (λ e. end_of e.mutation < 2 ^ 64) l.entries.items;
}
