-- What an Ask adds to the log, and that a call which asked for a chunk may have it at the machine (sections 3.1 and 3.3).
use Rattle.std.specs.Prelude.{◌≡◌, ◌⊎◌, ℕ, suc, ◌≤◌, ◌<◌, ◌==◌, Bool, List, [], ◌∷◌, length, Some, IsTrue, IsFalse}
use Rattle.std.specs.List.{list_any}
use Rattle.gfs_types.specs.declared.config.Config.{Config}
use Rattle.gfs_types.specs.declared.ids.FileId.{FileId}
use Rattle.gfs_types.specs.declared.ids.Handle.{Handle}
use Rattle.gfs_types.specs.declared.ids.Moment.{Moment}
use Rattle.gfs_types.specs.Mutations.{end_of}
use Rattle.messages.specs.declared.event.NodeInput.{NodeInput}
use Rattle.messages.specs.declared.event.NodeInput.TheVariants as input
use Rattle.messages.specs.declared.message.Body.TheVariants as body
use Rattle.messages.specs.declared.message.Message.{Message}
use Rattle.messages.specs.declared.message.Wanted.{Wanted}
use Rattle.messages.specs.declared.message.Wanted.TheVariants as wanted
use Rattle.log_records.specs.declared.record.Record.{Record}
use Rattle.log_records.specs.declared.record.Record.TheVariants as log
use Rattle.chunk_table.specs.ChunkTable.{file_of}
use Rattle.relaxed_file.specs.Order.{CallId}
use Rattle.relaxed_file.specs.Machine.{Machine, Asked, chunk_count, chunk_size, chunk_at}
use Rattle.relaxed_file.specs.Chunks.{is_last_chunk_full, MayAdd}
use Rattle.relaxed_file.specs.Run as run
use Rattle.relaxed_file.specs.Run.{LeadsTo}
use Rattle.protocol.specs.Logged.{LogChange, AppendRecord, WriteCheckpoint}
use Rattle.protocol.specs.Tables.{Table, element_at}
use Rattle.protocol.specs.Sending.{the_client}
use Rattle.protocol.specs.Observer.{Placed}
use Rattle.protocol.specs.Master.{MasterState, PendingSnapshot}
use Rattle.protocol.specs.MasterStep.{master_goes}
use Rattle.protocol.specs.World.{WorldState, IsReached}
use Rattle.laws_base.specs.Entries.{IsAmong}
use Rattle.laws_machine.specs.ChunksAlike.{ChunkSides}
use Rattle.laws_machine.specs.SentRequests.{IsAskOf}
use Rattle.laws_machine.specs.WholeSteps.{AreAskedFor, IsNoAskIn}
use Rattle.laws_machine.specs.WholeWorlds.{IsBeside}

-- of a file with so many chunks the next one is asked for
abbrev pub IsForNext : Wanted → ℕ → Type 0
IsForNext (wanted.Write index) count = index ≡ count
IsForNext (wanted.Append index) count = count ≤ index
IsForNext other count = ⊥

abbrev pub AddsNoChunk : LogChange → Type 0
AddsNoChunk (AppendRecord (log.AddChunk file handle)) = ⊥
AddsNoChunk other = Unit {0}

abbrev pub AddNoChunk : List LogChange → Type 0
AddNoChunk [] = Unit {0}
AddNoChunk (x ∷ rest) = AddsNoChunk x × AddNoChunk rest

-- One chunk is added to the file, first, or first after a checkpoint.
pub record AddOneChunk (file : FileId) (changes : List LogChange) : Type 0 where
  pub handle : Handle
  pub after : List LogChange
  pub no_more : AddNoChunk after
  pub is : (changes ≡ AppendRecord (log.AddChunk file handle) ∷ after) ⊎ ((items : List Record) × (changes ≡ WriteCheckpoint items ∷ AppendRecord (log.AddChunk file handle) ∷ after))

-- An Ask adds no chunk, or one at the end of the file for which it asks, where it asks for the next one.
abbrev pub AsksAddTheNextChunk : Type 0
AsksAddTheNextChunk =
    (s : MasterState) (moment : ℕ) (refused : List Bool) (m : Message) (number : ℕ) (file : FileId) (what : Wanted) (deadline : Moment) (lost : Bool) → m.body ≡ body.Ask number file what deadline lost
    → AddNoChunk (master_goes s moment (input.Deliver m) refused).changes
    ⊎ ((handles : List ℕ) × (file_of s.logged.table file.0 ≡ Some handles) × IsForNext what (length handles) × AddOneChunk file (master_goes s moment (input.Deliver m) refused).changes)

-- A call that asked for the next chunk may have it, as the machine goes on: the file is there, and for an append its last chunk is full.
abbrev pub AskedChunksMayBeAdded : Type 0
AskedChunksMayBeAdded =
    (config : Config) (m n : Machine) (client file : ℕ) (what : Wanted) → run.IsReached config m → IsAskOf m client file what → LeadsTo m n
    → IsForNext what (chunk_count n file) → IsFalse (n.files file).is_collected → ((index : ℕ) → what ≡ wanted.Append index → IsTrue (is_last_chunk_full n file (chunk_count n file)))
    → (id : CallId) × (asked : Asked) × MayAdd n id asked file

-- an entry of the chunk ends at the chunk's end
pub record IsFullAt (m : Machine) (file index : ℕ) : Type 0 where
  pub count : index < chunk_count m file
  pub full : IsTrue (list_any (λ e. end_of e.mutation == chunk_size m file) (chunk_at m file index).order)

-- Where a client asked for a chunk past one, to append to it, that one is full at the machine.
abbrev pub AreAsksFull : WorldState → Machine → Type 0
AreAsksFull w m =
    (client place number past : ℕ) (x : Message) (file : FileId) (deadline : Moment) (lost : Bool) → element_at w.sent place ≡ Some x → x.sender ≡ the_client client
    → x.body ≡ body.Ask number file (wanted.Append (suc past)) deadline lost → IsFullAt m file.0 past

-- Where clocks are kept, so it is beside each whole world: the chunk that was told to the client, and is full, stands there up to the told round. A chunk has at least one byte.
abbrev pub AsksAreFull : Type 0
AsksAreFull =
    (config : Config) (servers clients : ℕ) (w : WorldState) → IsReached config servers clients w → IsTrue w.observer.are_clocks_kept → 1 ≤ config.chunk → (ss : List PendingSnapshot) (k : ChunkSides) → IsBeside config w ss k
    → AreAsksFull w k.machine

-- it is no Ask, or a client's
abbrev pub IsClients : Message → Type 0
IsClients x = IsNoAskIn x.body ⊎ ((client : ℕ) × (x.sender ≡ the_client client))

-- Each Ask that was sent is a client's.
abbrev pub AsksComeFromClients : Type 0
AsksComeFromClients = (config : Config) (servers clients : ℕ) (w : WorldState) → IsReached config servers clients w → (place : ℕ) (x : Message) → element_at w.sent place ≡ Some x → IsClients x

-- Where clocks are kept, each chunk that a step of the master adds is asked for, from each machine to which the one beside the world leads. A chunk has at least one byte.
abbrev pub AddedChunksAreAskedFor : Type 0
AddedChunksAreAskedFor =
    (config : Config) (servers clients : ℕ) (w : WorldState) → IsReached config servers clients w → IsTrue w.observer.are_clocks_kept → IsTrue w.master.up → (ss : List PendingSnapshot) (k : ChunkSides) → IsBeside config w ss k
    → 1 ≤ config.chunk → (m : Machine) → LeadsTo k.machine m → (moment : ℕ) (i : NodeInput) (refused : List Bool) → ((x : Message) → i ≡ input.Deliver x → IsAmong w.sent x) → (orders : Table (List Placed))
    → AreAskedFor m orders w.master.disk (master_goes w.master moment i refused).changes
