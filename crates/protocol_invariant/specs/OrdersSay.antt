-- What messages about versions and leases say: something that was true of their sender and still matters to a receiver that would take them.
use Rattle.std.specs.Prelude.{◌≡◌, ◌⊎◌, ℕ, ◌+◌, ◌≤◌, ◌<◌, List, IfSome, IsSomeAnd, IsTrue, IsFalse, filter, nat_le}
use Rattle.std.specs.List.{AllByRecursion}
use Rattle.std.specs.FinMap as table
use Rattle.gfs_types.specs.declared.ids.Node.{Node}
use Rattle.gfs_types.specs.declared.ids.OrderNo.{OrderNo}
use Rattle.messages.specs.declared.message.Message.{Message}
use Rattle.messages.specs.declared.message.Body.{Body}
use Rattle.messages.specs.declared.message.Body.TheVariants as body
use Rattle.protocol.specs.Tables.{has_number}
use Rattle.protocol.specs.Sending.{server_number, order_number}
use Rattle.protocol.specs.Observer.{order_of}
use Rattle.protocol.specs.World.{WorldState}
use Rattle.protocol.specs.Each.{AtServer}
use Rattle.protocol_invariant.specs.Sent.{grant_of, order_giving}
use Rattle.protocol_invariant.specs.Ghost.{Ghost, logged_of}
use Rattle.protocol_invariant.specs.Leases.{IsStaleAt, IsOver, IfRow}
use Rattle.protocol_invariant.specs.Versions.{IsClosed, IsNoneGranted, IsVersionHeld}

-- An order that its receiver would refuse by its number, or of which this is true.
abbrev pub OrderSays : WorldState → Node → OrderNo → Type 0 → Type 0
OrderSays w to order P = IsStaleAt w (server_number to) order ⊎ P

-- a version that is attempted goes only to its own servers that are yet to record it
abbrev pub IsOwnAttempt : WorldState → ℕ → ℕ → ℕ → Type 0
IsOwnAttempt w handle version server =
    IfSome (table.get w.master.attempts handle) (λ a. a.version ≡ version → IsTrue (has_number a.servers server) × IsFalse (has_number a.recorded server))

-- An order to give a replica of at least a base this version: nothing between them was granted, and it stays so while the order may be taken.
pub record IsRaise (w : WorldState) (g : Ghost) (handle version base server : ℕ) : Type 0 where
  pub rises : base < version
  pub issued : IfRow w handle (λ row. version ≤ row.issued)
  pub numbered : handle < (logged_of w.master).next_handle
  pub none_granted : IsNoneGranted w g handle base version
  pub no_entry : AllByRecursion (λ p. (p.entry.round ≤ base) ⊎ (version < p.entry.round)) (order_of w.observer handle)
  pub own : IsOwnAttempt w handle version server

-- An order to copy a replica under a new handle: its version is closed, and so far the copy's order is the source's up to it.
pub record IsCopyOrder (w : WorldState) (g : Ghost) (handle version copy copy_version server : ℕ) : Type 0 where
  pub closed : IsClosed w g handle version
  pub raise : IsRaise w g copy copy_version version server
  pub same : filter (λ p. nat_le p.entry.round version) (order_of w.observer copy) ≡ filter (λ p. nat_le p.entry.round version) (order_of w.observer handle)

-- A Grant that may still be taken: nothing was numbered under its version, which is the last one, or its lease has ended already.
pub record IsGrant (w : WorldState) (g : Ghost) (handle version server until chunk : ℕ) (members : List ℕ) : Type 0 where
  pub granted : IsSomeAnd (grant_of g.sent handle version) (λ grant. (grant.primary ≡ server) × (grant.members ≡ members) × (grant.until ≡ until) × (grant.chunk ≡ chunk))
  pub member : IsTrue (has_number members server)
  pub empty : AllByRecursion (λ p. (p.entry.round < version) ⊎ (version < p.entry.round)) (order_of w.observer handle)
  pub last : (until ≤ w.observer.greatest)
      ⊎ (IfRow w handle (λ row. row.granted ≡ version) × AllByRecursion (λ p. p.entry.round < version) (order_of w.observer handle))

-- A later end of a lease: it ends within a lease's time, and while the lease may count, no later than at the master.
pub record IsExtend (w : WorldState) (g : Ghost) (handle version until server : ℕ) : Type 0 where
  pub bound : until ≤ w.observer.greatest + w.config.lease_ms
  pub granted : IsSomeAnd (grant_of g.sent handle version) (λ grant. grant.primary ≡ server)
  pub ends : IsOver w g handle version ⊎ IfRow w handle (λ row. (row.granted ≡ version) × (IsTrue w.master.up → until ≤ row.lease_end))

-- one order was numbered before another
abbrev pub IsBeforeOrder : OrderNo → OrderNo → Type 0
IsBeforeOrder a b = (a.epoch < b.epoch) ⊎ ((a.epoch ≡ b.epoch) × (a.count < b.count))

-- what a Revoke names was granted, if at all, to the same server under a lower number
abbrev pub IsRevoke : Ghost → OrderNo → ℕ → ℕ → ℕ → Type 0
IsRevoke g order handle version server = IfSome (grant_of g.sent handle version) (λ grant. (grant.primary ≡ server) × IsBeforeOrder grant.order order)

-- A Clone is of a closed version, which the server was not ordered to take since.
abbrev pub IsCloneOrder : WorldState → Ghost → OrderNo → ℕ → ℕ → ℕ → Type 0
IsCloneOrder w g order handle version server = IsClosed w g handle version × IfSome (order_giving g.sent handle version server) (λ given. IsBeforeOrder given order)

-- A server that said Revoked has no lease of that version and refuses its Grant.
abbrev pub IsRevoked : WorldState → Ghost → ℕ → ℕ → ℕ → Type 0
IsRevoked w g handle version server =
    IfSome (grant_of g.sent handle version) (λ grant. grant.primary ≡ server → IsStaleAt w server grant.order
    × AtServer w server (λ s. IfSome (table.get s.leases handle) (λ p. p.held.version ≡ version → ⊥)))

-- an order's number was used: of an earlier epoch, or of this one
abbrev pub IsUsedNumber : WorldState → OrderNo → Type 0
IsUsedNumber w order =
    (order.epoch < (logged_of w.master).epoch) ⊎ ((order.epoch ≡ (logged_of w.master).epoch) × (IsTrue w.master.up → order.count ≤ w.master.order_count))

abbrev pub BodySays : WorldState → Ghost → Node → Node → Body → Type 0
BodySays w g from to (body.Create order handle version) = OrderSays w to order (IsRaise w g handle.0 version.0 0 (server_number to))
BodySays w g from to (body.SetVersion order handle version base) = OrderSays w to order (IsRaise w g handle.0 version.0 base.0 (server_number to))
BodySays w g from to (body.Grant order handle version end_moment chunk members) =
    OrderSays w to order (IsGrant w g handle.0 version.0 (server_number to) end_moment.0 chunk members)
BodySays w g from to (body.Revoke order handle version) = IsRevoke g order handle.0 version.0 (server_number to)
BodySays w g from to (body.Drop order handle version) = OrderSays w to order (IfRow w handle.0 (λ row. version.0 < row.granted))
BodySays w g from to (body.Clone order handle version source) = OrderSays w to order (IsCloneOrder w g order handle.0 version.0 (server_number to))
BodySays w g from to (body.CopyLocal order handle version copy copy_version) = OrderSays w to order (IsCopyOrder w g handle.0 version.0 copy.0 copy_version.0 (server_number to))
BodySays w g from to (body.Extend handle version end_moment) = IsExtend w g handle.0 version.0 end_moment.0 (server_number to)
BodySays w g from to (body.Recorded handle version) = IsVersionHeld w g (server_number from) handle.0 version.0
BodySays w g from to (body.Revoked handle version) = IsRevoked w g handle.0 version.0 (server_number from)
BodySays w g from to (body.Cloned handle version) = IsVersionHeld w g (server_number from) handle.0 version.0
BodySays w g from to (body.Report replicas leases) = AllByRecursion (λ line. IsVersionHeld w g (server_number from) line.handle.0 line.version.0) replicas
BodySays w g from to (body.CopyAsk handle version) = IsClosed w g handle.0 version.0
BodySays w g from to (body.Image handle version serial bytes) = IsClosed w g handle.0 version.0
BodySays w g from to other = Unit {0}

-- of each message: what it says, and that an order's number was used
abbrev pub OrderInFlight : WorldState → Ghost → Message → Type 0
OrderInFlight w g x = BodySays w g x.sender x.receiver x.body × IfSome (order_number x.body) (IsUsedNumber w)
