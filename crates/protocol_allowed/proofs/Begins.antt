-- In every run each append begins within its chunk.
use Rattle.std.proofs.Common.{◌≡◌, ℕ, zero, suc, ◌<◌, List, [], ◌∷◌}
use Rattle.std.specs.List.{AllByRecursion}
use Rattle.gfs_types.specs.declared.call.Call.{Call}
use Rattle.gfs_types.specs.declared.call.Call.TheVariants as call
use Rattle.gfs_types.specs.declared.config.Config.{Config}
use Rattle.gfs_types.specs.declared.mutation.Mutation.{Mutation}
use Rattle.gfs_types.specs.declared.mutation.Mutation.TheVariants.{Write, Append, Pad}
use Rattle.relaxed_file.specs.Order.{CallId, Entry}
use Rattle.relaxed_file.specs.Machine.{Machine, chunk_size, chunk_at}
use Rattle.relaxed_file.specs.Chunks.{AsksFor, settled_at}
use Rattle.relaxed_file.specs.Run.{IsReached}
use Rattle.relaxed_file.proofs.AskedFor.{all_pushed}
use Rattle.relaxed_file.proofs.ChunkSteps.{every_chunk}

abbrev pub BeginsWithin : ℕ → Mutation → Type 0
BeginsWithin size (Append at bytes) = at < size
BeginsWithin size other = Unit {0}

abbrev EntryBegins : ℕ → Entry → Type 0
EntryBegins size e = BeginsWithin size e.mutation

begins_here : (m : Machine) (id : CallId) (file index : ℕ) (c : Call) (mutation : Mutation) → AsksFor m id file index c mutation → BeginsWithin (chunk_size m file) mutation
begins_here m id file index (call.Write fd offset bytes) (Write at content) asks = tt
begins_here m id file index (call.Append fd bytes) (Append at content) asks = asks.2
begins_here m id file index (call.Append fd bytes) (Pad at end) asks = tt
begins_here m id file index other mutation asks = absurd asks

begins_settled : (size place : ℕ) (order : List Entry) → AllByRecursion (EntryBegins size) order → AllByRecursion (EntryBegins size) (settled_at place order)
begins_settled size place [] all = tt
begins_settled size zero (e ∷ rest) all = all
begins_settled size (suc place) (e ∷ rest) all = (all.0, begins_settled size place rest all.1)

pub begins_when_reached : (config : Config) (m : Machine) → IsReached config m → (file index : ℕ) → AllByRecursion (EntryBegins (chunk_size m file)) (chunk_at m file index).order
begins_when_reached config m way file index =
    every_chunk config (λ size i chunk. AllByRecursion (EntryBegins size) chunk.order)
    (λ size i. tt) (λ size i chunk round later all. all) (λ size i chunk all. all)
    (λ k client current f i mutation same may all. all_pushed (EntryBegins (chunk_size k f)) (chunk_at k f i).order _ all
    (begins_here k (record { client = client; number = current.number }) f i current.asked.call mutation may.3))
    (λ size i chunk place at all. begins_settled size place chunk.order all)
    m way file index
