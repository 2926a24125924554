-- What clients see of a run by names: the part of a trace that is of name calls, whose calls a run leaves, and what name calls were answered (sections 2.4 and 4.1).
use Rattle.std.specs.Prelude.{◌≡◌, ◌⊎◌, ℕ, Bool, true, false, if◌then◌else◌, List, [], ◌∷◌, ◌++◌, Option, Some, None, IsTrue}
use Rattle.std.specs.List.{AllByRecursion}
use Rattle.gfs_types.specs.declared.config.Config.{Config}
use Rattle.gfs_types.specs.declared.call.Call.{Call}
use Rattle.gfs_types.specs.declared.answer.Answer.{Answer}
use Rattle.gfs_types.specs.declared.answer.Answer.TheVariants as answer
use Rattle.gfs_types.specs.declared.refusal.Refusal.TheVariants.{Unknown, NoMemory}
use Rattle.relaxed_file.specs.Machine.{Machine, Replies, Opens, new_machine, put}
use Rattle.relaxed_file.specs.NameStep.{is_name_call}
use Rattle.relaxed_file.specs.Run.{Visible, Called, Answered, Passed, visible}
use Rattle.relaxed_file.specs.RunLaws.{CameTo}
use Rattle.machine_names.specs.NameRuns.{LeadsByNames}
use Rattle.machine_names.specs.UnseenRuns.{IsLeft}

-- of each client the last call that it made
abbrev pub LastCalls : Type 0
LastCalls = ℕ → Option Call

abbrev pub none_called : LastCalls
none_called client = None

abbrev pub called : LastCalls → Visible → LastCalls
called last (Called client c) = put client (Some c) last
called last (Answered client reply) = last
called last (Passed moment) = last

-- the last calls after a trace
abbrev pub last_calls : LastCalls → List Visible → LastCalls
last_calls last [] = last
last_calls last (x ∷ rest) = last_calls (called last x) rest

abbrev pub is_naming : Option Call → Bool
is_naming None = false
is_naming (Some c) = is_name_call c

-- a name call, the answer to one, or a moment
abbrev pub is_of_names : LastCalls → Visible → Bool
is_of_names last (Called client c) = is_name_call c
is_of_names last (Answered client reply) = is_naming (last client)
is_of_names last (Passed moment) = true

abbrev pub seen_of_names : LastCalls → List Visible → List Visible
seen_of_names last [] = []
seen_of_names last (x ∷ rest) = if is_of_names last x then x ∷ seen_of_names (called last x) rest else seen_of_names (called last x) rest

-- a trace without the calls on files and their answers
abbrev pub name_trace : List Visible → List Visible
name_trace trace = seen_of_names none_called trace

-- this is no call or answer of the client
abbrev pub IsNotOf : ℕ → Visible → Type 0
IsNotOf client (Called other c) = client ≡ other → ⊥
IsNotOf client (Answered other reply) = client ≡ other → ⊥
IsNotOf client (Passed moment) = Unit {0}

-- A client of which nothing is seen has the same call open, or none, and as many descriptors.
abbrev pub UnseenClientsAreLeft : Type 0
UnseenClientsAreLeft = (m n : Machine) (run : LeadsByNames m n) (client : ℕ) → AllByRecursion (IsNotOf client) (visible run.0) → IsLeft (m.clients client) (n.clients client)

-- the clock once these were seen
abbrev pub clock_after : ℕ → List Visible → ℕ
clock_after now [] = now
clock_after now (Called client c ∷ rest) = clock_after now rest
clock_after now (Answered client reply ∷ rest) = clock_after now rest
clock_after now (Passed moment ∷ rest) = clock_after moment rest

abbrev pub ClockAndSettingsAreSeen : Type 0
ClockAndSettingsAreSeen = (m n : Machine) (run : LeadsByNames m n) → (n.clock ≡ clock_after m.clock (visible run.0)) × (n.config ≡ m.config)

-- at one moment of the client's call it came to the answer, or to the file of a descriptor that is the answer; or the answer is Unknown, which tells nothing, or NoMemory
abbrev pub WasComeTo : Config → Machine → ℕ → Call → Answer → Type 0
WasComeTo config m client c reply =
    CameTo config m client c (Replies reply)
    ⊎ (((fd : ℕ) × (file : ℕ) × (reply ≡ answer.Fd (record { 0 = fd })) × CameTo config m client c (Opens file))
    ⊎ ((reply ≡ answer.Refused Unknown) ⊎ (reply ≡ answer.Refused NoMemory)))

-- An answer that is seen is to the client's last call; where that is a name call, it came to it, as the run stood before the answer.
abbrev pub AnsweredNamesCameToIt : Type 0
AnsweredNamesCameToIt =
    (config : Config) (m : Machine) (run : LeadsByNames (new_machine config) m) (before after : List Visible) (client : ℕ) (reply : Answer) → visible run.0 ≡ before ++ Answered client reply ∷ after
    → (n : Machine) × (first : LeadsByNames (new_machine config) n) × (visible first.0 ≡ before)
    × (c : Call) × (last_calls none_called before client ≡ Some c) × (IsTrue (is_name_call c) → WasComeTo config n client c reply)
