-- Each entry is of a call that is not too long, and each pad is needed; no append or pad leaves a gap before it.
use Rattle.std.proofs.Common.{◌≡◌, ℕ, zero, suc, ◌==◌, ◌||◌, List, [], ◌∷◌, ◌++◌, refl, sym, ◌∙◌, ap, subst, append_assoc, append-nil}
use Rattle.std.specs.Prelude.{IsTrue}
use Rattle.std.specs.List.{AllByRecursion, list_any}
use Rattle.std.proofs.lemmas.Bool.{false≢true}
use Rattle.gfs_types.specs.declared.call.Call.{Call}
use Rattle.gfs_types.specs.declared.call.Call.TheVariants as call
use Rattle.gfs_types.specs.declared.config.Config.{Config}
use Rattle.gfs_types.specs.declared.mutation.Mutation.{Mutation}
use Rattle.gfs_types.specs.declared.mutation.Mutation.TheVariants.{Write, Append, Pad}
use Rattle.gfs_types.specs.Mutations.{start_of, end_of, is_placed_by_system}
use Rattle.relaxed_file.specs.Order.{Entry, CallId, mutations_of}
use Rattle.relaxed_file.specs.Machine.{Machine, new_machine, chunk_size, chunk_at}
use Rattle.relaxed_file.specs.Chunks.{AsksFor, settled_at, is_an_end}
use Rattle.relaxed_file.specs.Run.{Action, Allows, after, IsReached}
use Rattle.relaxed_file.specs.EntryLaws.{IsOfCall, IsOfLawfulLength, IsNeededBy, TooLongIsNeverPlaced, PadsAreNeeded, is_end_of_some, BeginAtEnds, AppendsLeaveNoGap}
use Rattle.relaxed_file.proofs.Tables.{all_more}
use Rattle.relaxed_file.proofs.Known.{Known, known_step}
use Rattle.relaxed_file.proofs.Grows.{Grows, grows_step, known_at_first}
use Rattle.relaxed_file.proofs.AskedFor.{all_pushed, open_is_made}
use Rattle.relaxed_file.proofs.ChunkSteps.{chunk_step, every_chunk}
use Rattle.relaxed_file.proofs.Reached.{kept_to}

-- both of what is said of an entry's call
abbrev FitsCall : ℕ → Mutation → Call → Type 0
FitsCall size mutation c = IsOfLawfulLength size c × IsNeededBy size mutation c

abbrev Fits : Machine → (size : ℕ) → Entry → Type 0
Fits m size e = IsOfCall m (FitsCall size e.mutation) e

fits_settled : (m : Machine) (size place : ℕ) (order : List Entry) → AllByRecursion (Fits m size) order → AllByRecursion (Fits m size) (settled_at place order)
fits_settled m size place [] all = tt
fits_settled m size zero (e ∷ rest) all = all
fits_settled m size (suc place) (e ∷ rest) all = (all.0, fits_settled m size place rest all.1)

fits_here : (m : Machine) (id : CallId) (file index : ℕ) (c : Call) (mutation : Mutation) → AsksFor m id file index c mutation → FitsCall (chunk_size m file) mutation c
fits_here m id file index (call.Write fd offset bytes) (Write at content) asks = (asks.0, tt)
fits_here m id file index (call.Append fd bytes) (Append at content) asks = (asks.1, tt)
fits_here m id file index (call.Append fd bytes) (Pad at end) asks = (asks.0, asks.2)
fits_here m id file index other mutation asks = absurd asks

fits_later : (m n : Machine) (size : ℕ) (e : Entry) → Grows m n → Fits m size e → Fits n size e
fits_later m n size e g h = (h.0, (g.clients e.call.client).calls e.call.number h.0 h.1, h.2)

record Holding (m : Machine) : Type 0 where
  known : Known m
  each : (file index : ℕ) → AllByRecursion (Fits m (chunk_size m file)) (chunk_at m file index).order

fits_step : (m : Machine) (action : Action) → Allows m action → Holding m → Holding (after m action)
fits_step m action allowed h = record {
  known = known_step m action allowed h.known;
  each = λ file index. all_more _ (λ e. fits_later m (after m action) (chunk_size (after m action) file) e (grows_step m action allowed h.known))
      (chunk_step m (λ size i chunk. AllByRecursion (Fits m size) chunk.order)
      (λ size i. tt) (λ size i chunk round later all. all) (λ size i chunk all. all)
      (λ client current f i mutation is may all. all_pushed (Fits m (chunk_size m f)) _ _ all
      (current.asked, open_is_made m client current h.known is, fits_here m (record { client = client; number = current.number }) f i current.asked.call mutation may.3))
      (λ size i chunk place at all. fits_settled m size place chunk.order all)
      action allowed h.each file index);
}

fits_when_reached : (config : Config) (m : Machine) → IsReached config m → Holding m
fits_when_reached config m way = kept_to Holding fits_step (new_machine config) m way (record { known = known_at_first config; each = λ file index. tt })

pub too_long_is_never_placed : TooLongIsNeverPlaced
too_long_is_never_placed config m way file index =
    all_more _ (λ e (f : Fits m (chunk_size m file) e). (f.0, f.1, (f.2).0)) ((fits_when_reached config m way).each file index)

pub pads_are_needed : PadsAreNeeded
pads_are_needed config m way file index =
    all_more _ (λ e (f : Fits m (chunk_size m file) e). (f.0, f.1, (f.2).1)) ((fits_when_reached config m way).each file index)

-- an end of entries is one of their mutations
same_ends : (order : List Entry) (at : ℕ) → list_any (λ e. end_of e.mutation == at) order ≡ list_any (λ m. end_of m == at) (mutations_of order)
same_ends [] at = refl
same_ends (e ∷ rest) at = ap (λ b. (end_of e.mutation == at) || b) (same_ends rest at)

end_is : (order : List Entry) (at : ℕ) → IsTrue (is_an_end order at) → IsTrue (is_end_of_some (mutations_of order) at)
end_is order at h = subst (λ b. IsTrue ((at == 0) || b)) (same_ends order at) h

pushed_at_end : (before ms : List Mutation) (m : Mutation) → BeginAtEnds before ms
    → (IsTrue (is_placed_by_system m) → IsTrue (is_end_of_some (before ++ ms) (start_of m))) → BeginAtEnds before (ms ++ m ∷ [])
pushed_at_end before [] m all h = ((λ placed. subst (λ bs. IsTrue (is_end_of_some bs (start_of m))) (append-nil before) (h placed)), tt)
pushed_at_end before (x ∷ rest) m all h = (
  all.0,
  pushed_at_end (before ++ x ∷ []) rest m all.1 (λ placed. subst (λ bs. IsTrue (is_end_of_some bs (start_of m))) (sym (append_assoc before (x ∷ []) rest)) (h placed)),
)

mutations_pushed : (order : List Entry) (e : Entry) → mutations_of (order ++ e ∷ []) ≡ mutations_of order ++ e.mutation ∷ []
mutations_pushed [] e = refl
mutations_pushed (x ∷ rest) e = ap (λ ms. x.mutation ∷ ms) (mutations_pushed rest e)

mutations_settled : (place : ℕ) (order : List Entry) → mutations_of (settled_at place order) ≡ mutations_of order
mutations_settled place [] = refl
mutations_settled zero (e ∷ rest) = refl
mutations_settled (suc place) (e ∷ rest) = ap (λ ms. e.mutation ∷ ms) (mutations_settled place rest)

asked_at_end : (m : Machine) (id : CallId) (file index : ℕ) (c : Call) (mutation : Mutation) → AsksFor m id file index c mutation
    → IsTrue (is_placed_by_system mutation) → IsTrue (is_an_end (chunk_at m file index).order (start_of mutation))
asked_at_end m id file index (call.Write fd offset bytes) (Write at content) asks placed = absurd (false≢true placed)
asked_at_end m id file index (call.Append fd bytes) (Append at content) asks placed = asks.3
asked_at_end m id file index (call.Append fd bytes) (Pad at end) asks placed = asks.3
asked_at_end m id file index other mutation asks placed = absurd asks

pub appends_leave_no_gap : AppendsLeaveNoGap
appends_leave_no_gap config m way file index =
    every_chunk config (λ size i chunk. BeginAtEnds [] (mutations_of chunk.order))
    (λ size i. tt) (λ size i chunk round later h. h) (λ size i chunk h. h)
    (λ n client current f i mutation same may h.
    subst (BeginAtEnds []) (sym (mutations_pushed (chunk_at n f i).order _))
    (pushed_at_end [] (mutations_of (chunk_at n f i).order) mutation h (λ placed.
    end_is (chunk_at n f i).order (start_of mutation)
    (asked_at_end n (record { client = client; number = current.number }) f i current.asked.call mutation may.3 placed))))
    (λ size i chunk place at h. subst (BeginAtEnds []) (sym (mutations_settled place chunk.order)) h)
    m way file index
