-- What the entries of an order are, in every run: none is of a call that is too long, no append or pad leaves a gap before it, and no pad comes without need (section 3.3).
use Rattle.std.specs.Prelude.{◌≡◌, ℕ, ◌+◌, ◌*◌, ◌<◌, ◌≤◌, ◌==◌, Bool, ◌||◌, List, [], ◌∷◌, ◌++◌, length, Some, IsTrue, IsFalse}
use Rattle.std.specs.List.{list_any, AllByRecursion}
use Rattle.gfs_types.specs.declared.call.Call.{Call}
use Rattle.gfs_types.specs.declared.call.Call.TheVariants as call
use Rattle.gfs_types.specs.declared.mutation.Mutation.{Mutation}
use Rattle.gfs_types.specs.declared.mutation.Mutation.TheVariants.{Pad}
use Rattle.gfs_types.specs.declared.config.Config.{Config}
use Rattle.gfs_types.specs.Mutations.{start_of, end_of, is_placed_by_system}
use Rattle.relaxed_file.specs.Order.{Entry, mutations_of}
use Rattle.relaxed_file.specs.Parts.{is_range_too_long}
use Rattle.relaxed_file.specs.Machine.{Machine, Asked, chunk_size, chunk_at}
use Rattle.relaxed_file.specs.Run.{IsReached}

-- the call that asked for the entry was made, and this holds of it
abbrev pub IsOfCall : Machine → (Call → Type 0) → Entry → Type 0
IsOfCall m P e = (asked : Asked) × ((m.clients e.call.client).calls e.call.number ≡ Some asked) × P asked.call

-- the call puts bytes into a file, and no more than it may
abbrev pub IsOfLawfulLength : ℕ → Call → Type 0
IsOfLawfulLength size (call.Write fd offset bytes) = IsFalse (is_range_too_long offset (length bytes))
IsOfLawfulLength size (call.Append fd bytes) = 4 * length bytes ≤ size
IsOfLawfulLength size other = ⊥

-- In every run nothing is placed for a write whose range, or an append whose record, is too long.
abbrev pub TooLongIsNeverPlaced : Type 0
TooLongIsNeverPlaced =
    (config : Config) (m : Machine) → IsReached config m → (file index : ℕ)
    → AllByRecursion (IsOfCall m (IsOfLawfulLength (chunk_size m file))) (chunk_at m file index).order

-- a pad is of an append whose record doesn't fit from its beginning on
abbrev pub IsNeededBy : ℕ → Mutation → Call → Type 0
IsNeededBy size (Pad at end) (call.Append fd bytes) = size < at + length bytes
IsNeededBy size (Pad at end) other = ⊥
IsNeededBy size mutation c = Unit {0}

-- In every run a chunk is padded only for a record that doesn't fit into what is left of it.
abbrev pub PadsAreNeeded : Type 0
PadsAreNeeded =
    (config : Config) (m : Machine) → IsReached config m → (file index : ℕ)
    → AllByRecursion (λ e. IsOfCall m (IsNeededBy (chunk_size m file) e.mutation) e) (chunk_at m file index).order

-- the place is the chunk's beginning, or the end of one of these mutations
abbrev pub is_end_of_some : List Mutation → ℕ → Bool
is_end_of_some before at = (at == 0) || list_any (λ m. end_of m == at) before

-- each append or pad begins at the chunk's beginning, or where a mutation before it ends
abbrev pub BeginAtEnds : List Mutation → List Mutation → Type 0
BeginAtEnds before [] = Unit {0}
BeginAtEnds before (m ∷ rest) = (IsTrue (is_placed_by_system m) → IsTrue (is_end_of_some before (start_of m))) × BeginAtEnds (before ++ m ∷ []) rest

-- In every run no append or pad leaves a gap before it.
abbrev pub AppendsLeaveNoGap : Type 0
AppendsLeaveNoGap = (config : Config) (m : Machine) → IsReached config m → (file index : ℕ) → BeginAtEnds [] (mutations_of (chunk_at m file index).order)
