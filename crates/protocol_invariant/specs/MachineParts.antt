-- The machine beside the world: names, files and chunks are what the master keeps, or what its log says while it is down; and a round is open whose lease may count.
use Rattle.std.specs.Prelude.{◌≡◌, ◌⊎◌, ℕ, suc, ◌≤◌, ◌<◌, List, length, None, IfSome, IsSomeAnd, IsTrue, IsFalse, true}
use Rattle.std.specs.FinMap as table
use Rattle.std.specs.List.{AllByRecursion}
use Rattle.gfs_types.specs.Mutations.{end_of}
use Rattle.chunk_table.specs.ChunkTable.{ChunkRow, chunk_of}
use Rattle.relaxed_file.specs.Machine.{Machine, chunk_size, chunk_at, chunk_count}
use Rattle.protocol.specs.Tables.{Table}
use Rattle.primary_order.specs.SerialOrder.{SerialOrder}
use Rattle.protocol.specs.Client.{ClientState}
use Rattle.protocol.specs.Observer.{entries_of, calls_made}
use Rattle.protocol.specs.World.{WorldState}
use Rattle.protocol.specs.Each.{EachEntry, EachPlace, EachNumber, EachServer, EachClient}
use Rattle.protocol_invariant.specs.Ghost.{logged_of}
use Rattle.protocol_invariant.specs.Actions.{Spot}

-- a file's chunk at the master and at the machine; its entries end within it; a shared one is closed
pub record IsChunkAt (w : WorldState) (m : Machine) (file index handle : ℕ) (row : ChunkRow) : Type 0 where
  pub order_is : entries_of w.observer handle ≡ (chunk_at m file index).order
  pub round_is : (chunk_at m file index).round ≡ row.granted
  pub within : AllByRecursion (λ e. end_of e.mutation ≤ chunk_size m file) (chunk_at m file index).order
  pub shared : 1 < row.references → IsFalse (chunk_at m file index).is_open

-- a file that is there
pub record IsFileAt (w : WorldState) (m : Machine) (file : ℕ) (handles : List ℕ) : Type 0 where
  pub numbered : (0 < file) × (file ≤ m.file_count)
  pub is_there : IsFalse (m.files file).is_collected
  pub count_is : chunk_count m file ≡ length handles
  pub chunks : EachPlace handles (λ index handle. IsSomeAnd (chunk_of (logged_of w.master).table handle) (IsChunkAt w m file index handle))

-- a round whose lease may count is open at the machine, in the chunk that has this order, and has its file's size; also where that is collected since
abbrev pub IsOpenRound : WorldState → Machine → Table Spot → ℕ → SerialOrder → Type 0
IsOpenRound w m spots handle p =
    w.observer.greatest < p.held.until → IsSomeAnd (table.get spots handle) (λ s.
    ((chunk_at m s.file s.index).round ≡ p.held.version) × (p.chunk ≡ chunk_size m s.file) × IsTrue (chunk_at m s.file s.index).is_open
    × (entries_of w.observer handle ≡ (chunk_at m s.file s.index).order))

-- a client's descriptors, the shapes of its open files and its calls are the machine's while it is up, and it waits for its open call
pub record IsClientAt (w : WorldState) (m : Machine) (client : ℕ) (c : ClientState) : Type 0 where
  pub calls : (m.clients client).call_count ≡ calls_made w.observer.trace client
  pub fds : IsTrue c.up → c.fd_count ≡ (m.clients client).fd_count
  pub descriptors : IsTrue c.up → EachNumber (suc c.fd_count) (λ fd. table.get c.descriptors fd ≡ (m.clients client).descriptors fd)
  pub shapes : IsTrue c.up → EachEntry c.files (λ file f. f.shape ≡ (m.files file).shape)
  pub idle : IsTrue c.up → c.current ≡ None → (m.clients client).open_call ≡ None
  pub current : IsTrue c.up → IfSome c.current (λ current. IsSomeAnd (m.clients client).open_call (λ o. o.asked.call ≡ current.asked))

-- a file as the world shows it while the master is down
abbrev pub IsShownFile : WorldState → Machine → ℕ → List ℕ → Type 0
IsShownFile w m file handles =
    (length handles ≤ chunk_count m file) × EachPlace handles (λ index handle. entries_of w.observer handle ≡ (chunk_at m file index).order)

pub record IsMachine (w : WorldState) (m : Machine) (spots : Table Spot) : Type 0 where
  pub clock_is : m.clock ≡ w.observer.greatest
  pub names_are : m.names ≡ (logged_of w.master).names
  pub counted : (logged_of w.master).next_file ≡ suc m.file_count
  pub files : EachEntry (logged_of w.master).table.files (λ file handles. IsFileAt w m file handles)
  -- and no others
  pub collected : EachNumber m.file_count (λ n. (table.contains_key (logged_of w.master).table.files (suc n) ≡ true) ⊎ IsTrue (m.files (suc n)).is_collected)
  pub shown : IsFalse w.master.up → EachEntry w.observer.files (λ file handles. IsShownFile w m file handles)
  pub rounds : EachServer w (λ server s. EachEntry s.leases (λ handle p. IsOpenRound w m spots handle p))
  pub clients : EachClient w (λ client c. IsClientAt w m client c)
