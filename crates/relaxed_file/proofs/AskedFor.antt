-- In every run each entry is a mutation that a call asked for.
use Rattle.std.proofs.Common.{◌≡◌, ℕ, zero, suc, ◌+◌, ◌≤◌, List, [], ◌∷◌, ◌++◌, length, Some, subst}
use Rattle.std.specs.List.{AllByRecursion}
use Rattle.gfs_types.specs.declared.call.Call.{Call}
use Rattle.gfs_types.specs.declared.call.Call.TheVariants as call
use Rattle.gfs_types.specs.declared.mutation.Mutation.{Mutation}
use Rattle.gfs_types.specs.declared.mutation.Mutation.TheVariants.{Write, Append, Pad}
use Rattle.relaxed_file.specs.Order.{Entry, CallId}
use Rattle.relaxed_file.specs.Machine.{Machine, new_machine, Asked, OpenCall, IsOpen, chunk_size, chunk_at}
use Rattle.relaxed_file.specs.Chunks.{AsksFor, settled_at}
use Rattle.relaxed_file.specs.Run.{Action, Allows, after}
use Rattle.relaxed_file.specs.RunLaws.{IsAskedOf, WasAskedFor, EntriesWereAskedFor}
use Rattle.relaxed_file.proofs.Tables.{all_more}
use Rattle.relaxed_file.proofs.Known.{Known, known_step, CurrentKnown}
use Rattle.relaxed_file.proofs.Grows.{Grows, grows_step, known_at_first}
use Rattle.relaxed_file.proofs.ChunkSteps.{chunk_step}
use Rattle.relaxed_file.proofs.Reached.{kept_to}

pub all_pushed : {A : Type 0} (P : A → Type 0) (xs : List A) (x : A) → AllByRecursion P xs → P x → AllByRecursion P (xs ++ x ∷ [])
all_pushed P [] x all h = (h, tt)
all_pushed P (y ∷ rest) x all h = (all.0, all_pushed P rest x all.1 h)

-- a call that was made asked for the entry, in a chunk of this size
abbrev AskedBy : Machine → (size index : ℕ) → Entry → Type 0
AskedBy m size index e = (asked : Asked) × ((m.clients e.call.client).calls e.call.number ≡ Some asked) × IsAskedOf size index asked.call e.mutation

asked_settled : (m : Machine) (size index place : ℕ) (order : List Entry) → AllByRecursion (AskedBy m size index) order → AllByRecursion (AskedBy m size index) (settled_at place order)
asked_settled m size index place [] all = tt
asked_settled m size index zero (e ∷ rest) all = all
asked_settled m size index (suc place) (e ∷ rest) all = (all.0, asked_settled m size index place rest all.1)

pub asked_here : (m : Machine) (id : CallId) (file index : ℕ) (c : Call) (mutation : Mutation) → AsksFor m id file index c mutation → IsAskedOf (chunk_size m file) index c mutation
asked_here m id file index (call.Write fd offset bytes) (Write at content) asks = (asks.2, asks.3)
asked_here m id file index (call.Append fd bytes) (Append at content) asks =
    (asks.0, let l : at + length content ≤ chunk_size m file = asks.4.1 in subst (λ k. at + length k ≤ chunk_size m file) asks.0 l)
asked_here m id file index (call.Append fd bytes) (Pad at end) asks = (asks.1, asks.5)
asked_here m id file index other mutation asks = absurd asks

pub open_is_made : (m : Machine) (client : ℕ) (current : OpenCall) → Known m → IsOpen m client current → (m.clients client).calls current.number ≡ Some current.asked
open_is_made m client current h is = (let k : CurrentKnown _ (m.clients client).calls (Some current) = subst (CurrentKnown _ (m.clients client).calls) is (h.clients client).current in k).0

asked_later : (m n : Machine) (size index : ℕ) (e : Entry) → Grows m n → AskedBy m size index e → AskedBy n size index e
asked_later m n size index e g h = (h.0, (g.clients e.call.client).calls e.call.number h.0 h.1, h.2)

record Holding (m : Machine) : Type 0 where
  known : Known m
  each : (file index : ℕ) → AllByRecursion (WasAskedFor m file index) (chunk_at m file index).order

asked_step : (m : Machine) (action : Action) → Allows m action → Holding m → Holding (after m action)
asked_step m action allowed h = record {
  known = known_step m action allowed h.known;
  each = λ file index. all_more _ (λ e. asked_later m (after m action) (chunk_size (after m action) file) index e (grows_step m action allowed h.known))
      (chunk_step m (λ size i chunk. AllByRecursion (AskedBy m size i) chunk.order)
      (λ size i. tt) (λ size i chunk round later all. all) (λ size i chunk all. all)
      (λ client current f i mutation is may all. all_pushed (AskedBy m (chunk_size m f) i) _ _ all
      (current.asked, open_is_made m client current h.known is, asked_here m (record { client = client; number = current.number }) f i current.asked.call mutation may.3))
      (λ size i chunk place at all. asked_settled m size i place chunk.order all)
      action allowed h.each file index);
}

pub entries_were_asked_for : EntriesWereAskedFor
entries_were_asked_for config m way = (kept_to Holding asked_step (new_machine config) m way (record { known = known_at_first config; each = λ file index. tt })).each
