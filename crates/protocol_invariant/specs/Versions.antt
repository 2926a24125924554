-- Versions: a number that is attempted is held by its own servers alone, none is newer than what was issued, and a version that is closed is closed for good.
use Rattle.std.specs.Prelude.{◌≡◌, ◌⊎◌, ℕ, ◌≤◌, ◌<◌, List, [], ◌∷◌, None, IfSome, IsSomeAnd, IsSome, IsTrue, IsFalse}
use Rattle.std.specs.List.{AllByRecursion}
use Rattle.std.specs.FinMap as table
use Rattle.protocol.specs.Tables.{has_number}
use Rattle.chunk_table.specs.ChunkTable.{chunk_of}
use Rattle.protocol.specs.Logged.{Copy}
use Rattle.protocol.specs.Master.{VersionAttempt}
use Rattle.protocol.specs.MasterClones.{is_attempt_at}
use Rattle.protocol.specs.Observer.{Placed, order_of}
use Rattle.protocol.specs.World.{WorldState}
use Rattle.protocol.specs.Each.{EachEntry, EachServer, EachReplica}
use Rattle.protocol_invariant.specs.Sent.{grant_of, grants_of, order_giving, under}
use Rattle.protocol_invariant.specs.Ghost.{Ghost, logged_of}
use Rattle.protocol_invariant.specs.Leases.{IsEnded, IsStaleAt, IfRow}

-- the order that gave a server this version, if one did, is not taken again
abbrev pub IsGivenBefore : WorldState → Ghost → ℕ → ℕ → ℕ → Type 0
IsGivenBefore w g handle version server = IfSome (order_giving g.sent handle version server) (λ order. IsStaleAt w server order)

-- No mutation is numbered or settled any more under this version, nor under one before it: it was given up, or its lease is over.
pub record IsClosed (w : WorldState) (g : Ghost) (handle version : ℕ) : Type 0 where
  pub numbered : handle < (logged_of w.master).next_handle
  pub issued : IfRow w handle (λ row. version ≤ row.issued)
  pub not_attempted : IsFalse (is_attempt_at version (table.get w.master.attempts handle))
  pub over : EachEntry (grants_of g.sent handle) (λ granted grant. granted ≤ version → IsEnded w handle granted grant)

-- No version above the first and up to the second was granted, and no lease up to the first counts.
abbrev pub IsNoneGranted : WorldState → Ghost → ℕ → ℕ → ℕ → Type 0
IsNoneGranted w g handle above upto =
    EachEntry (grants_of g.sent handle) (λ version grant. ((version ≤ above) × IsEnded w handle version grant) ⊎ (upto < version))

-- A version attempt: its number is the issued one, and only its servers can have it. Those that recorded it took its order.
pub record IsAttempted (w : WorldState) (g : Ghost) (handle : ℕ) (a : VersionAttempt) : Type 0 where
  pub issued : IfRow w handle (λ row. (a.version ≡ row.issued) × (row.granted < row.issued))
  pub not_granted : grant_of g.sent handle a.version ≡ None
  pub only_there : EachReplica w (λ server s held r. held ≡ handle → r.version ≡ a.version → IsTrue (has_number a.servers server))
  pub recorded : AllByRecursion (λ server. IsTrue (has_number a.servers server) × IsGivenBefore w g handle a.version server) a.recorded
  pub numbered : handle < (logged_of w.master).next_handle

-- a copy under way: it was not granted, and its order is that of its source
pub record IsCopy (w : WorldState) (g : Ghost) (handle : ℕ) (c : Copy) : Type 0 where
  pub row_is : IsSomeAnd (chunk_of w.master.logged.table handle) (λ row. (row.granted ≡ 0) × (row.references ≡ 0)
      × IfRow w c.source (λ source. source.granted < row.issued)
      × AllByRecursion (λ p. p.entry.round < row.issued) (order_of w.observer handle))
  pub none_granted : EachEntry (grants_of g.sent handle) (λ version grant. ⊥)
  pub order_is : order_of w.observer handle ≡ order_of w.observer c.source

-- a replica's version was issued, and its order is not taken again
pub record IsVersionHeld (w : WorldState) (g : Ghost) (server handle version : ℕ) : Type 0 where
  pub numbered : handle < (logged_of w.master).next_handle
  pub issued : IfRow w handle (λ row. version ≤ row.issued)
  pub given : IsGivenBefore w g handle version server

-- an entry is of a granted version, or of a chunk that its own was copied from, and then lies below each version of its own
abbrev pub IsOfRound : WorldState → Ghost → ℕ → Placed → Type 0
IsOfRound w g handle p =
    IsSome (grant_of g.sent handle p.entry.round)
    ⊎ EachEntry (under g.sent.given handle) (λ version servers. p.entry.round < version)

-- one entry stands before another: by rounds, then by serials
abbrev pub IsBefore : Placed → Placed → Type 0
IsBefore p q = (p.entry.round < q.entry.round) ⊎ ((p.entry.round ≡ q.entry.round) × (p.serial < q.serial))

-- rounds never fall, and serials rise within a round
abbrev pub AreRising : List Placed → Type 0
AreRising [] = Unit {0}
AreRising (p ∷ rest) = AllByRecursion (IsBefore p) rest × AreRising rest

pub record AreVersions (w : WorldState) (g : Ghost) : Type 0 where
  pub attempts : EachEntry w.master.attempts (λ handle a. IsAttempted w g handle a)
  pub copies : EachEntry w.master.logged.copies (λ copy c. IsCopy w g copy c)
  pub replicas : EachReplica w (λ server s handle r. IsVersionHeld w g server handle r.version)
  -- what a master that is up believes of servers was so
  pub believed : EachEntry w.master.holders (λ server held. EachEntry held (λ handle version. IsVersionHeld w g server handle version))
  pub clones : EachServer w (λ server s. EachEntry s.clones (λ handle version. IsClosed w g handle version × IsGivenBefore w g handle version server))
  pub entries : EachEntry w.observer.orders (λ handle order. (handle < (logged_of w.master).next_handle) × AllByRecursion (IsOfRound w g handle) order)
  pub rising : EachEntry w.observer.orders (λ handle order. AreRising order)
