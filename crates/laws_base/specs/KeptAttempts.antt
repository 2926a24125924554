-- The laws of every lawful list of events on what a primary keeps of its clients' last attempts, that public functions of this crate state.
use Rattle.std.specs.Prelude.{◌≡◌, ℕ, ◌≤◌, true, Option, Some}
use Rattle.std.specs.FinMap as table
use Rattle.gfs_types.specs.declared.config.Config.{Config}
use Rattle.primary_order.specs.declared.kept.Kept.{Kept}
use Rattle.primary_order.specs.declared.kept.Standing.{Standing}
use Rattle.primary_order.specs.declared.kept.Standing.TheVariants.{IsPending, IsSettled, IsRefused}
use Rattle.primary_order.specs.SerialOrder.{SerialOrder}
use Rattle.primary_order.specs.declared.waiting.Waiting.{Waiting}
use Rattle.primary_order.specs.PrimaryOrder.{place_of}
use Rattle.protocol.specs.Tables.{Table, element_at}
use Rattle.protocol.specs.Observer.{Placed, Observer, order_of}
use Rattle.protocol.specs.Server.{ServerState}
use Rattle.protocol.specs.World.{WorldState, IsReached}

-- a mutation waits that the client asked for under this number
pub record IsWaitingFor (waiting : Table Waiting) (client seq : ℕ) : Type 0 where
  pub serial : ℕ
  pub waits : Waiting
  pub is : table.get waiting serial ≡ Some waits
  pub client_is : waits.client.0 ≡ client
  pub seq_is : waits.seq ≡ seq

-- In this chunk's order stands a settled entry of this round, of the client's data of this number, at that place; a pad has none.
pub record HasKeptEntry (o : Observer) (handle round client seq : ℕ) (at : Option ℕ) : Type 0 where
  pub place : ℕ
  pub placed : Placed
  pub is : element_at (order_of o handle) place ≡ Some placed
  pub client_is : placed.entry.call.client ≡ client
  pub seq_is : placed.seq ≡ seq
  pub round_is : placed.entry.round ≡ round
  pub place_is : place_of placed.entry.mutation ≡ at
  pub settled : placed.entry.settled ≡ true

-- what a primary keeps of a client's last attempt
abbrev pub IsKeptAs : Observer → ℕ → SerialOrder → ℕ → ℕ → Standing → Type 0
IsKeptAs o handle p client seq IsPending = IsWaitingFor p.waiting client seq
IsKeptAs o handle p client seq (IsSettled place) = HasKeptEntry o handle p.held.version client seq place
IsKeptAs o handle p client seq (IsRefused refusal) = Unit {0}

-- What a primary keeps as pending waits, and what it keeps as settled has a settled entry of the lease's round (sections 3.1 and 3.3).
abbrev pub KeptAttemptsStandSo : Type 0
KeptAttemptsStandSo =
    (config : Config) (servers clients : ℕ) (w : WorldState) → IsReached config servers clients w → (index : ℕ) (s : ServerState) → element_at w.servers index ≡ Some s
    → (handle : ℕ) (p : SerialOrder) → table.get s.leases handle ≡ Some p → (client : ℕ) (k : Kept) → table.get p.kept client ≡ Some k → IsKeptAs w.observer handle p client k.seq k.standing

-- this number of the client is kept, or a later one
abbrev pub IsKeptOrLater : Table Kept → ℕ → ℕ → Type 0
IsKeptOrLater kept client seq = (k : Kept) × (table.get kept client ≡ Some k) × (seq ≤ k.seq)

-- Of each entry of its lease's round a primary keeps the client's number, or a later one of that client (sections 3.1 and 3.3).
abbrev pub NumbersOfEntriesAreKept : Type 0
NumbersOfEntriesAreKept =
    (config : Config) (servers clients : ℕ) (w : WorldState) → IsReached config servers clients w → (index : ℕ) (s : ServerState) → element_at w.servers index ≡ Some s
    → (handle : ℕ) (p : SerialOrder) → table.get s.leases handle ≡ Some p → (place : ℕ) (q : Placed) → element_at (order_of w.observer handle) place ≡ Some q → q.entry.round ≡ p.held.version
    → IsKeptOrLater p.kept q.entry.call.client q.seq

-- So it does of each mutation that waits.
abbrev pub NumbersThatWaitAreKept : Type 0
NumbersThatWaitAreKept =
    (config : Config) (servers clients : ℕ) (w : WorldState) → IsReached config servers clients w → (index : ℕ) (s : ServerState) → element_at w.servers index ≡ Some s
    → (handle : ℕ) (p : SerialOrder) → table.get s.leases handle ≡ Some p → (serial : ℕ) (a : Waiting) → table.get p.waiting serial ≡ Some a → IsKeptOrLater p.kept a.client.0 a.seq
