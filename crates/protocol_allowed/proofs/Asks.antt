-- What a call needs and asks for.
use Rattle.std.proofs.Common.{ℕ}
use Rattle.gfs_types.specs.declared.call.Call.{Call}
use Rattle.gfs_types.specs.declared.call.Call.TheVariants as call
use Rattle.gfs_types.specs.declared.mutation.Mutation.{Mutation}
use Rattle.gfs_types.specs.declared.mutation.Mutation.TheVariants.{Write, Append, Pad}
use Rattle.relaxed_file.specs.Order.{CallId}
use Rattle.relaxed_file.specs.Machine.{Machine}
use Rattle.relaxed_file.specs.Chunks.{NeedsChunk, AsksFor}
use Rattle.protocol_invariant.specs.Allowed.{NeedsOne, AsksHere}

pub needs_chunk : (m : Machine) (id : CallId) (file : ℕ) (c : Call) → NeedsOne m id file c → NeedsChunk m id file c
needs_chunk m id file (call.Write fd offset bytes) h = h
needs_chunk m id file (call.Append fd bytes) h = h
needs_chunk m id file other h = absurd h

pub asks_for : (m : Machine) (id : CallId) (file index : ℕ) (c : Call) (mutation : Mutation) → AsksHere m id file index c mutation → AsksFor m id file index c mutation
asks_for m id file index (call.Write fd offset bytes) (Write at content) h = h
asks_for m id file index (call.Append fd bytes) (Append at content) h = h
asks_for m id file index (call.Append fd bytes) (Pad at end) h = h
asks_for m id file index other mutation h = absurd h
