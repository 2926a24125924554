-- Attempts: one that is over places nothing more, an entry is of an attempt of its call, and a part of a call has as many entries as attempts at most.
use Rattle.std.specs.Prelude.{◌≡◌, ◌⊎◌, ℕ, ◌+◌, ◌-◌, ◌==◌, ◌&&◌, ◌≤◌, ◌<◌, nat_le, Bool, List, [], ◌∷◌, Option, Some, None, IfSome, IsSomeAnd, IsTrue, IsFalse, find}
use Rattle.std.specs.List.{AllByRecursion, list_any}
use Rattle.std.specs.FinMap as table
use Rattle.gfs_types.specs.Mutations.{end_of, is_pad}
use Rattle.gfs_types.specs.declared.mutation.Mutation.{Mutation}
use Rattle.gfs_types.specs.declared.mutation.Mutation.TheVariants as mutation
use Rattle.gfs_types.specs.declared.ids.Node.{Node}
use Rattle.gfs_types.specs.declared.ids.Node.TheVariants as node
use Rattle.gfs_types.specs.declared.refusal.Refusal.{Refusal}
use Rattle.gfs_types.specs.declared.refusal.Refusal.TheVariants.{NoChunk, NoLease, ChunkFull}
use Rattle.messages.specs.declared.message.Message.{Message}
use Rattle.messages.specs.declared.message.Body.{Body}
use Rattle.messages.specs.declared.message.Body.TheVariants as body
use Rattle.messages.specs.declared.message.Target.{Target}
use Rattle.messages.specs.declared.message.Target.TheVariants as target
use Rattle.protocol.specs.Tables.{element_at}
use Rattle.protocol.specs.Sending.{client_number}
use Rattle.primary_order.specs.SerialOrder.{SerialOrder}
use Rattle.primary_order.specs.declared.kept.Standing.{Standing}
use Rattle.primary_order.specs.declared.kept.Standing.TheVariants.{IsPending, IsSettled, IsRefused}
use Rattle.protocol.specs.Server.{ServerState}
use Rattle.primary_order.specs.PrimaryOrder.{place_of}
use Rattle.protocol.specs.Client.{ClientState}
use Rattle.client_state.specs.declared.call.LiveAttempt.{LiveAttempt}
use Rattle.client_state.specs.declared.call.Stage.{Stage}
use Rattle.client_state.specs.declared.call.Stage.TheVariants.{SentData, SentMutate}
use Rattle.protocol.specs.Observer.{Placed, order_of, calls_made}
use Rattle.protocol.specs.World.{WorldState}
use Rattle.protocol.specs.Each.{EachEntry, EachServer}
use Rattle.protocol_invariant.specs.Sent.{Granted, Mutated, grant_of, get_under}
use Rattle.protocol_invariant.specs.Ghost.{Ghost, Purpose, purpose_of}
use Rattle.protocol_invariant.specs.Leases.{IsStale}
use Rattle.protocol_invariant.specs.Versions.{IsClosed}

-- what the attempt of this number asked a primary for, if it came so far
abbrev pub mutated_by : Ghost → ℕ → ℕ → Option Mutated
mutated_by g client seq = get_under g.sent.mutates client seq

-- that primary takes the attempt no more: it comes too late there, or its number is used
abbrev pub IsUsedAt : ℕ → ℕ → Mutated → Granted → ServerState → Type 0
IsUsedAt client seq a grant s =
    (IsStale s grant.order × (a.deadline ≤ s.now))
    ⊎ IsSomeAnd (table.get s.leases a.handle) (λ p. (p.held.version ≡ a.version) × IsSomeAnd (table.get p.kept client) (λ k. seq ≤ k.seq))

-- It places nothing more: it comes too late everywhere, its version is closed, or the one primary of its version takes it no more.
abbrev pub IsDead : WorldState → Ghost → ℕ → ℕ → Mutated → Type 0
IsDead w g client seq a =
    (a.deadline + w.config.skew_ms ≤ w.observer.greatest)
    ⊎ (IsClosed w g a.handle a.version
    ⊎ IsSomeAnd (grant_of g.sent a.handle a.version) (λ grant. IsSomeAnd (element_at w.servers (grant.primary - 1)) (IsUsedAt client seq a grant)))

-- the number of the attempt that is under way
abbrev pub attempt_of : Stage → Option ℕ
attempt_of (SentData l primary number) = Some number
attempt_of (SentMutate l number) = Some number
attempt_of other = None

-- an attempt that was refused for want of a lease is kept among the live ones for as long as it may be placed
abbrev pub is_kept_live : WorldState → ℕ → Mutated → LiveAttempt → Bool
is_kept_live w index a l = (l.index == index) && (l.version.0 == a.version) && nat_le (a.deadline + w.config.skew_ms) l.until.0

-- the attempt is of its client's last call, and a client that is up waits for it and knows of it
abbrev pub IsOfCurrent : WorldState → ℕ → ℕ → Mutated → Purpose → ClientState → Type 0
IsOfCurrent w client seq a p c =
    (p.call ≡ calls_made w.observer.trace client)
    × (IsTrue c.up → IsSomeAnd c.current (λ current. (attempt_of current.stage ≡ Some seq) ⊎ IsTrue (list_any (is_kept_live w p.index a) current.live)))

-- An attempt that asked a primary: it was told that version, and it is over, or it is of its client's last call.
pub record IsAttempt (w : WorldState) (g : Ghost) (client seq : ℕ) (a : Mutated) : Type 0 where
  pub told : IsSomeAnd (purpose_of g client seq) (λ p. (p.round ≡ a.version) × (p.try ≤ w.config.attempts))
  pub stands : IsDead w g client seq a ⊎ IsSomeAnd (purpose_of g client seq) (λ p. IsSomeAnd (element_at w.clients (client - 1)) (IsOfCurrent w client seq a p))

abbrev pub is_entry_of : ℕ → ℕ → Placed → Bool
is_entry_of client seq p = (p.entry.call.client == client) && (p.seq == seq)

-- the attempt's entry in a chunk's order
abbrev pub entry_of : WorldState → ℕ → ℕ → ℕ → Option Placed
entry_of w handle client seq = find (is_entry_of client seq) (order_of w.observer handle)

-- two attempts of one call are of one part: an append has one
abbrev pub IsSamePart : Target → Purpose → Purpose → Type 0
IsSamePart target.Append p q = p.call ≡ q.call
IsSamePart (target.Write offset) p q = (p.call ≡ q.call) × (p.index ≡ q.index)

-- Of two attempts of a part that count as one, the earlier one is over, and has no entry but a pad.
abbrev pub IsCountedOnce : WorldState → Ghost → ℕ → ℕ → Mutated → Purpose → Type 0
IsCountedOnce w g client seq a p =
    IfSome (table.get g.sent.pushes client) (λ pushes. EachEntry pushes (λ later bytes. seq < later → IfSome (purpose_of g client later) (λ q. IsSamePart a.target p q → p.try ≡ q.try →
    IsDead w g client seq a × IfSome (entry_of w a.handle client seq) (λ e. IsTrue (is_pad e.entry.mutation)))))

-- what was placed for a target
abbrev pub IsPlacedFor : Target → Mutation → Type 0
IsPlacedFor (target.Write at) (mutation.Write offset bytes) = at ≡ offset
IsPlacedFor target.Append (mutation.Append offset bytes) = Unit {0}
IsPlacedFor target.Append (mutation.Pad offset end) = Unit {0}
IsPlacedFor other m = ⊥

-- an entry is of an attempt of its call, under the version that it asked for
abbrev pub IsOfAttempt : Ghost → Placed → Type 0
IsOfAttempt g p =
    IsSomeAnd (purpose_of g p.entry.call.client p.seq) (λ q. q.call ≡ p.entry.call.number)
    × IsSomeAnd (mutated_by g p.entry.call.client p.seq) (λ a. (a.version ≡ p.entry.round) × IsPlacedFor a.target p.entry.mutation)

-- no attempt has two entries of an order
abbrev pub AreOnce : List Placed → Type 0
AreOnce [] = Unit {0}
AreOnce (p ∷ rest) = IsFalse (list_any (is_entry_of p.entry.call.client p.seq) rest) × AreOnce rest

-- what a primary keeps of a client's last number
abbrev pub IsKeptAs : WorldState → ℕ → SerialOrder → ℕ → ℕ → Standing → Type 0
IsKeptAs w handle p client seq IsPending = IsTrue (list_any (λ e. (e.1.client.0 == client) && (e.1.seq == seq)) (table.entries p.waiting))
IsKeptAs w handle p client seq (IsSettled place) =
    IsSomeAnd (entry_of w handle client seq) (λ q. IsTrue q.entry.settled × (q.entry.round ≡ p.held.version) × (place_of q.entry.mutation ≡ place))
IsKeptAs w handle p client seq (IsRefused refusal) = Unit {0}

-- A primary keeps the last number of each client of which it numbered an entry, also while that waits.
pub record IsKeeping (w : WorldState) (g : Ghost) (handle : ℕ) (p : SerialOrder) : Type 0 where
  pub kept : EachEntry p.kept (λ client k. IsKeptAs w handle p client k.seq k.standing)
  pub own : AllByRecursion (λ q. q.entry.round ≡ p.held.version → IsSomeAnd (table.get p.kept q.entry.call.client) (λ k. q.seq ≤ k.seq)) (order_of w.observer handle)
  pub waits : EachEntry p.waiting (λ serial a. IsSomeAnd (table.get p.kept a.client.0) (λ k. a.seq ≤ k.seq))

pub record AreAttempts (w : WorldState) (g : Ghost) : Type 0 where
  pub attempts : EachEntry g.sent.mutates (λ client mutates. EachEntry mutates (λ seq a. IsAttempt w g client seq a))
  pub counted : EachEntry g.sent.mutates (λ client mutates. EachEntry mutates (λ seq a. IfSome (purpose_of g client seq) (IsCountedOnce w g client seq a)))
  pub entries : EachEntry w.observer.orders (λ handle order. AllByRecursion (IsOfAttempt g) order × AreOnce order)
  pub kept : EachServer w (λ server s. EachEntry s.leases (λ handle p. IsKeeping w g handle p))

-- the order of a chunk of this size has an entry that ends at its end
abbrev pub is_full : WorldState → ℕ → ℕ → Bool
is_full w handle chunk = list_any (λ p. end_of p.entry.mutation == chunk) (order_of w.observer handle)

-- A server's refusal of an attempt: it is over, unless it says that there is no lease or no replica.
abbrev pub IsRefusedAs : WorldState → Ghost → ℕ → ℕ → Mutated → Refusal → Type 0
IsRefusedAs w g client seq a NoLease = Unit {0}
IsRefusedAs w g client seq a NoChunk = Unit {0}
IsRefusedAs w g client seq a ChunkFull =
    IsDead w g client seq a × IsSomeAnd (grant_of g.sent a.handle a.version) (λ grant. IsTrue (is_full w a.handle grant.chunk)) × IfSome (entry_of w a.handle client seq) (λ e. IsTrue (is_pad e.entry.mutation))
IsRefusedAs w g client seq a other = IsDead w g client seq a

abbrev pub IsRefusedBy : WorldState → Ghost → Node → ℕ → ℕ → Refusal → Type 0
IsRefusedBy w g (node.Server s) client number refusal = IfSome (mutated_by g client number) (λ a. IsRefusedAs w g client number a refusal)
IsRefusedBy w g other client number refusal = Unit {0}

-- a success: the attempt's entry is settled, at that place
abbrev pub IsSuccessAt : WorldState → Ghost → ℕ → ℕ → ℕ → Type 0
IsSuccessAt w g client seq place =
    IsSomeAnd (mutated_by g client seq) (λ a. IsSomeAnd (entry_of w a.handle client seq) (λ p.
    (p.entry.round ≡ a.version) × IsTrue p.entry.settled × (place_of p.entry.mutation ≡ Some place)))

-- what messages about attempts say
abbrev pub AttemptSays : WorldState → Ghost → Message → Body → Type 0
AttemptSays w g x (body.Mutate id handle version t deadline) =
    mutated_by g id.client.0 id.seq ≡ Some (record { handle = handle.0; version = version.0; target = t; deadline = deadline.0 })
AttemptSays w g x (body.Done id place) = IsSuccessAt w g id.client.0 id.seq place
AttemptSays w g x (body.Refused number refusal) = IsRefusedBy w g x.sender (client_number x.receiver) number refusal
AttemptSays w g x other = Unit {0}

abbrev pub AttemptInFlight : WorldState → Ghost → Message → Type 0
AttemptInFlight w g x = AttemptSays w g x x.body
