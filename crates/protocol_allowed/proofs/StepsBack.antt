-- What a call needs and asks for, and the step of a name call, as they are computed.
use Rattle.std.proofs.Common.{ℕ, ◌-◌, ◌≤◌, List, [], ◌∷◌, arith}
use Rattle.std.specs.List.{AllByRecursion}
use Rattle.gfs_types.specs.declared.call.Call.{Call}
use Rattle.gfs_types.specs.declared.call.Call.TheVariants as call
use Rattle.gfs_types.specs.declared.mutation.Mutation.{Mutation}
use Rattle.gfs_types.specs.declared.mutation.Mutation.TheVariants.{Write, Append, Pad}
use Rattle.gfs_types.specs.Paths.{Path}
use Rattle.relaxed_file.specs.Names.{Node, Dir, File, copied_entries}
use Rattle.relaxed_file.specs.Order.{CallId}
use Rattle.relaxed_file.specs.NameStep.{AreRoundsClosed, AllRoundsClosed, MayTakeEffect, MayStep}
use Rattle.relaxed_file.specs.Machine.{Machine, OpenCall, Outcome}
use Rattle.relaxed_file.specs.Chunks.{NeedsChunk, AsksFor}
use Rattle.protocol_invariant.specs.Allowed.{IsClosedFile, TakesEffect, IsStep, NeedsOne, AsksHere}

pub needs_one : (m : Machine) (id : CallId) (file : ℕ) (c : Call) → NeedsChunk m id file c → NeedsOne m id file c
needs_one m id file (call.Write fd offset bytes) h = h
needs_one m id file (call.Append fd bytes) h = h
needs_one m id file other h = absurd h

pub asks_here : (m : Machine) (id : CallId) (file index : ℕ) (c : Call) (mutation : Mutation) → AsksFor m id file index c mutation → AsksHere m id file index c mutation
asks_here m id file index (call.Write fd offset bytes) (Write at content) h = h
asks_here m id file index (call.Append fd bytes) (Append at content) h = h
asks_here m id file index (call.Append fd bytes) (Pad at end) h = h
asks_here m id file index other mutation h = absurd h

closed_file : (m : Machine) (node : Node) → AreRoundsClosed m node → IsClosedFile m node
closed_file m Dir h = tt
closed_file m (File id) h = h

each_closed : (m : Machine) (copies : List (Path × Node)) → AllRoundsClosed m copies → AllByRecursion (λ e. IsClosedFile m e.1) copies
each_closed m [] h = tt
each_closed m (e ∷ rest) h = (closed_file m e.1 h.0, each_closed m rest h.1)

may_take : (m : Machine) (c : Call) (moment : ℕ) → MayTakeEffect m c moment → TakesEffect m c moment
may_take m (call.Delete p) moment h =
    let near : m.clock - m.config.skew_ms ≤ moment = h.0 in
    ((omega arith), h.1)
may_take m (call.Snapshot p q) moment h = each_closed m (copied_entries m.names p q) h
may_take m other moment h = tt

pub is_step : (m : Machine) (moment : ℕ) (outcome : Outcome) (current : OpenCall) → MayStep m moment outcome current → IsStep m moment outcome current
is_step m moment outcome current h = (h.0, h.1, h.2, λ done. may_take m current.asked.call moment (h.3 done))
