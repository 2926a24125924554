-- How the machine follows a step of the master: by actions that clients don't see, after which it has the same names, and what clients are told are outcomes of their calls.
use Rattle.std.specs.Prelude.{◌≡◌, ◌⊎◌, ℕ, ◌-◌, ◌≤◌, ◌<◌, List, [], Some, Contains, IsFalse}
use Rattle.std.specs.List.{AllByRecursion}
use Rattle.std.specs.FinMap as table
use Rattle.gfs_types.specs.declared.call.Call.{Call}
use Rattle.messages.specs.declared.message.Body.{Body}
use Rattle.messages.specs.declared.message.Body.TheVariants as body
use Rattle.messages.specs.declared.message.Message.{Message}
use Rattle.messages.specs.declared.message.NameReply.{NameReply}
use Rattle.messages.specs.declared.message.NameReply.TheVariants.{Opened, Answered}
use Rattle.relaxed_file.specs.Machine.{Machine, OpenCall, Outcome, Replies, Opens}
use Rattle.relaxed_file.specs.NameStep.{is_look}
use Rattle.relaxed_file.specs.Run.{visible}
use Rattle.machine_names.specs.NameRuns.{LeadsByNames}
use Rattle.protocol.specs.Tables.{Table}
use Rattle.protocol.specs.Sending.{client_number}
use Rattle.protocol.specs.Logged.{KeptCall}
use Rattle.protocol.specs.Master.{MasterDoing}
use Rattle.laws_names.specs.Alike.{Requests, AreAlike, IsWaiting}

-- the machine comes from one state to the other by what is done to names, and clients see nothing
abbrev pub RunsTo : Machine → Machine → Type 0
RunsTo m n = (run : LeadsByNames m n) × (visible run.0 ≡ [])

-- the outcome that a reply tells
abbrev pub outcome_told : NameReply → Outcome
outcome_told (Opened file shape) = Opens file.0
outcome_told (Answered reply) = Replies reply

-- what a client is told of a name call is an outcome of it, as long as the call is open
abbrev pub IsToldTo : Machine → Requests → ℕ → Body → Type 0
IsToldTo m requests client (body.Named number reply) = (current : OpenCall) → IsWaiting m requests client number current → Contains current.outcomes (outcome_told reply)
IsToldTo m requests client other = Unit {0}

abbrev pub IsTold : Machine → Requests → Message → Type 0
IsTold m requests x = IsToldTo m requests (client_number x.receiver) x.body

-- a step of the master so far, beside the machine
pub record IsBeside (d : MasterDoing) (m : Machine) (requests : Requests) : Type 0 where
  pub alike : AreAlike d.master.logged d.master.snapshots m requests
  pub told : AllByRecursion (IsTold m requests) d.sent

-- the machine follows to where the master has come
abbrev pub IsFollowed : Machine → MasterDoing → Requests → Type 0
IsFollowed m d requests = (n : Machine) × RunsTo m n × IsBeside d n requests

-- Each answer that is kept now was kept before, or is to the client's open request.
abbrev pub AreKeptOn : Requests → Table KeptCall → Table KeptCall → Type 0
AreKeptOn requests before now = (client : ℕ) → (table.get now client ≡ table.get before client) ⊎ ((k : KeptCall) × (table.get now client ≡ Some k) × (requests client ≡ Some k.number))

-- the master's moment is not ahead of the clock, and behind it by the clock bound at most
abbrev pub IsTimely : Machine → ℕ → Type 0
IsTimely m now = (m.clock - m.config.skew_ms ≤ now) × (now ≤ m.clock)

-- A request that comes in time and was not answered, nor a later one of its client: it is to change names, and its call is open.
abbrev pub IsRequest : MasterDoing → Machine → Requests → ℕ → ℕ → ℕ → Call → Type 0
IsRequest d m requests client number deadline c =
    d.master.now < deadline → ((k : KeptCall) → table.get d.master.logged.kept client ≡ Some k → k.number < number)
    → IsFalse (is_look c) × (current : OpenCall) × IsWaiting m requests client number current × (current.asked.call ≡ c)
