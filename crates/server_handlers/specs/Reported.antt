-- What becomes of leases at a tick, one after another, and of their primaries.
use Rattle.std.specs.Prelude.{ℕ, if◌then◌else◌, List, [], ◌∷◌, Option, Some, None}
use Rattle.std.specs.FinMap.{get, insert, remove}
use Rattle.leases.specs.LeaseHeld.{counts_at}
use Rattle.primary_order.specs.declared.primary.Primary.{Primary}
use Rattle.primary_order.specs.SerialOrder.{SerialOrder}
use Rattle.protocol.specs.Tables.{Table}
use Rattle.protocol.specs.ServerStep.{asks_no_more}
use Rattle.server_handlers.specs.Held.{asks_nothing, would_count}

-- a lease that counts stays, and asks for no more; another one goes
abbrev pub reported_one : ℕ → ℕ → Table SerialOrder → ℕ → Option SerialOrder → Table SerialOrder
reported_one skew now leases handle None = leases
reported_one skew now leases handle (Some p) = if counts_at skew p.held now then insert leases handle (asks_no_more p) else remove leases handle

abbrev pub reported_all : ℕ → ℕ → Table SerialOrder → List ℕ → Table SerialOrder
reported_all skew now leases [] = leases
reported_all skew now leases (handle ∷ rest) = reported_all skew now (reported_one skew now leases handle (get leases handle)) rest

-- a primary whose lease counts stays, and asks for no more; another one goes
abbrev pub seen_one : ℕ → Table Primary → ℕ → Option Primary → Table Primary
seen_one now t handle None = t
seen_one now t handle (Some p) = if would_count now p then insert t handle (asks_nothing p) else remove t handle

abbrev pub seen_all : ℕ → Table Primary → List ℕ → Table Primary
seen_all now t [] = t
seen_all now t (handle ∷ rest) = seen_all now (seen_one now t handle (get t handle)) rest
