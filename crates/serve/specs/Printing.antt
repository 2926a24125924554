-- What is printed, one thing after another.
use Rattle.std.specs.Prelude.{◌≡◌, ◌≤◌, ◌+◌, ◌<◌, ◌^◌, ℕ, suc, Bool, false, List, [], ◌++◌, length, slice_get, Option, Some, IfSome}
use Rattle.std.specs.List.{flat_map}
use Rattle.std.specs.Io.KnownBytes.{Appends}
use mathlib.Core.List.{IsPrefix}
use Rattle.gfs_types.specs.declared.answer.Answer.{Answer}
use Rattle.protocol_journal.specs.Journal.{Entry}
use Rattle.cell_journal.specs.Log.{Listed}
use Rattle.serve.specs.Served.{Printed, answers_to, calls_served, printed_text}
use Rattle.serve.specs.Messages.{Service, IsPrinted, Replied, AreCounts}

-- where a client stands: how many of its answers were printed, whether the cell itself refused a call of it, the history that has its calls, and these answers
pub record Stand : Type 0 where
  pub client : ℕ
  pub count : ℕ
  pub is_lost : Bool
  pub seen : Listed Entry
  pub answers : List Answer

abbrev pub stand : ℕ → ℕ → Bool → Listed Entry → List Answer → Stand
stand client count is_lost seen answers = record { client = client; count = count; is_lost = is_lost; seen = seen; answers = answers }

-- each client's stands at its place
abbrev pub AreInOrder : List Stand → Type 0
AreInOrder stands = (k : ℕ) (p : Stand) → slice_get stands k ≡ Some p → p.client ≡ suc k

-- nothing was printed of any client
abbrev pub AreNew : List Stand → Type 0
AreNew stands = (k : ℕ) (p : Stand) → slice_get stands k ≡ Some p → p.answers ≡ []

-- what was printed of it are its first answers
abbrev pub IsPrintedOf : Service → Stand → Type 0
IsPrintedOf s p = IsPrinted s p.client p.count p.is_lost p.seen p.answers

abbrev pub AllPrinted : Service → List Stand → Type 0
AllPrinted s stands = (k : ℕ) (p : Stand) → slice_get stands k ≡ Some p → IsPrintedOf s p

-- a client's answers among these were printed behind those that were
pub record GoesOn (printed : List Printed) (old new : Stand) : Type 0 where
  pub client : new.client ≡ old.client
  pub answers : new.answers ≡ old.answers ++ answers_to old.client printed

-- these were printed
pub record PrintsOn (olds news : List Stand) (before after : Option (List ℕ)) : Type 0 where
  pub printed : List Printed
  pub text : Appends before after (flat_map printed_text printed)
  pub count : length news ≡ length olds
  pub each : (k : ℕ) (old new : Stand) → slice_get olds k ≡ Some old → slice_get news k ≡ Some new → GoesOn printed old new

-- it is the client's next answer
pub record IsNextOf (p : Stand) (reply : Replied) : Type 0 where
  pub client : reply.client ≡ p.client
  pub number : reply.number ≡ p.count
  pub few : p.count + 1 < 2 ^ 64
  pub open_still : reply.is_lost ≡ false → p.is_lost ≡ false

-- where the history at this place is not longer than another one it begins that
abbrev pub MeetsEach : List Stand → ℕ → Type 0
MeetsEach stands i = (j : ℕ) (p q : Stand) → slice_get stands i ≡ Some p → slice_get stands j ≡ Some q → length p.seen.items ≤ length q.seen.items → IsPrefix p.seen.items q.seen.items

-- of each two histories the shorter begins the longer
abbrev pub AreComparable : List Stand → Type 0
AreComparable stands = (i : ℕ) → MeetsEach stands i

-- what was seen of each client begins these entries
abbrev pub AllBegin : List Entry → List Stand → Type 0
AllBegin entries stands = (k : ℕ) (p : Stand) → slice_get stands k ≡ Some p → IsPrefix p.seen.items entries

-- of each client so many answers were printed as it was asked for calls
pub record AreAllPrinted (asked : List ℕ) (stands : List Stand) : Type 0 where
  pub clients : length asked ≡ length stands
  pub each : (k count : ℕ) (p : Stand) → slice_get asked k ≡ Some count → slice_get stands k ≡ Some p → p.count ≡ count

-- all that the lines have for each client was answered and printed
pub record AreAllDone (s : Service) (stands : List Stand) : Type 0 where
  pub counts : List ℕ
  pub asked : IfSome s.input (λ input. AreCounts counts (calls_served s.clients input))
  pub printed : AreAllPrinted counts stands
