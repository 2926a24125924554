-- The step of a name call.
use Rattle.std.proofs.Common.{ℕ, ◌+◌, ◌≤◌, List, [], ◌∷◌, arith}
use Rattle.std.specs.List.{AllByRecursion}
use Rattle.gfs_types.specs.declared.call.Call.{Call}
use Rattle.gfs_types.specs.declared.call.Call.TheVariants as call
use Rattle.gfs_types.specs.Paths.{Path}
use Rattle.relaxed_file.specs.Names.{Node, Dir, File, copied_entries}
use Rattle.relaxed_file.specs.NameStep.{AreRoundsClosed, AllRoundsClosed, MayTakeEffect, MayStep}
use Rattle.relaxed_file.specs.Machine.{Machine, OpenCall, Outcome}
use Rattle.protocol_invariant.specs.Allowed.{IsClosedFile, TakesEffect, IsStep}

rounds_closed : (m : Machine) (node : Node) → IsClosedFile m node → AreRoundsClosed m node
rounds_closed m Dir h = tt
rounds_closed m (File id) h = h

all_closed : (m : Machine) (copies : List (Path × Node)) → AllByRecursion (λ e. IsClosedFile m e.1) copies → AllRoundsClosed m copies
all_closed m [] h = tt
all_closed m (e ∷ rest) h = (rounds_closed m e.1 h.0, all_closed m rest h.1)

takes_effect : (m : Machine) (c : Call) (moment : ℕ) → TakesEffect m c moment → MayTakeEffect m c moment
takes_effect m (call.Delete p) moment h =
    let near : m.clock ≤ moment + m.config.skew_ms = h.0 in
    ((omega arith), h.1)
takes_effect m (call.Snapshot p q) moment h = all_closed m (copied_entries m.names p q) h
takes_effect m other moment h = tt

pub may_step : (m : Machine) (moment : ℕ) (outcome : Outcome) (current : OpenCall) → IsStep m moment outcome current → MayStep m moment outcome current
may_step m moment outcome current h = (h.0, h.1, h.2, λ done. takes_effect m current.asked.call moment (h.3 done))
