use Rattle.std.proofs.Common.{◌≡◌, ◌≤◌, false}
use Rattle.gfs_types.specs.declared.ids.ClientId.{ClientId}
use Rattle.cell_simulator.proofs.simulator.Simulator.first_open.Given as goal

-- no client so far has an open call
abbrev pub invariant-loop-number : goal.invariant-loop-number
invariant-loop-number g l = (client : ClientId) → 1 ≤ client.0 → client.0 ≤ l.number → g.C.SimulatedCell.meaning.is_open l.self.cell client ≡ false
