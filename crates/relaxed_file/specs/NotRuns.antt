-- Traces that are not runs of the machine: what a cell must never do (sections 2.7 and 3).
use Rattle.std.specs.Prelude.{ℕ, ◌+◌, ◌<◌, ◌==◌, Bool, true, false, if◌then◌else◌, List, [], ◌∷◌, ◌++◌, length, IsFalse}
use Rattle.gfs_types.specs.declared.call.Call.TheVariants as call
use Rattle.gfs_types.specs.declared.answer.Answer.{Answer}
use Rattle.gfs_types.specs.declared.answer.Answer.TheVariants as answer
use Rattle.gfs_types.specs.declared.ids.Fd.{Fd}
use Rattle.gfs_types.specs.declared.config.Config.{Config}
use Rattle.relaxed_file.specs.Run.{Visible, Called, Answered, Passed, IsRun}

-- whether a client waits for an answer at the end of a trace
abbrev pub waits : ℕ → Bool → List Visible → Bool
waits client now [] = now
waits client now (Called who asked ∷ rest) = waits client (if client == who then true else now) rest
waits client now (Answered who reply ∷ rest) = waits client (if client == who then false else now) rest
waits client now (Passed moment ∷ rest) = waits client now rest

-- An answer to a call that was not made.
abbrev pub NoAnswerWithoutCall : Type 0
NoAnswerWithoutCall =
    (config : Config) (before later : List Visible) (client : ℕ) (reply : Answer) → IsFalse (waits client false before)
    → IsRun config (before ++ (Answered client reply ∷ later)) → ⊥

-- Two records that a client appended by one descriptor, answered at places that overlap.
abbrev pub NoSharedOffset : Type 0
NoSharedOffset =
    (config : Config) (before between later : List Visible) (client : ℕ) (fd : Fd) (one two : List ℕ) (x y : ℕ)
    → y < x + length one → x < y + length two
    → IsRun config (before ++ (Called client (call.Append fd one) ∷ Answered client (answer.At x)
    ∷ (between ++ (Called client (call.Append fd two) ∷ Answered client (answer.At y) ∷ later)))) → ⊥

-- A record that is not empty, and of which its client's next read gives nothing.
abbrev pub NoStaleRead : Type 0
NoStaleRead =
    (config : Config) (before later : List Visible) (client : ℕ) (fd : Fd) (bytes rounds : List ℕ) (x : ℕ) → 0 < length bytes
    → IsRun config (before ++ (Called client (call.Append fd bytes) ∷ Answered client (answer.At x)
    ∷ Called client (call.Read fd x (length bytes)) ∷ Answered client (answer.Bytes [] rounds) ∷ later)) → ⊥
