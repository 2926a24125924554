-- Laws of every lawful list of events on data that are pushed, that public functions of this crate state.
use Rattle.std.specs.Prelude.{◌≡◌, ℕ, min, List, Some}
use Rattle.gfs_types.specs.declared.config.Config.{Config}
use Rattle.gfs_types.specs.declared.ids.DataId.{DataId}
use Rattle.messages.specs.declared.message.Message.{Message}
use Rattle.messages.specs.declared.message.Body.TheVariants as body
use Rattle.data_push.specs.Buffers.{data_of}
use Rattle.protocol.specs.Tables.{element_at}
use Rattle.protocol.specs.Observer.{Placed, order_of}
use Rattle.protocol.specs.Server.{ServerState}
use Rattle.protocol.specs.World.{WorldState, IsReached}
use Rattle.laws_base.specs.Laws.{IsSizeGranted}
use Rattle.laws_base.specs.Entries.{IsPushed}
use Rattle.laws_versions.specs.LawfulOrders.{IsMadeOf}

-- What a server keeps as pushed, and what any Push carries, the client of the data pushed (section 3.2).
abbrev pub PushedDataAreTheClients : Type 0
PushedDataAreTheClients =
    (config : Config) (servers clients : ℕ) (w : WorldState) → IsReached config servers clients w
    → ((index : ℕ) (s : ServerState) → element_at w.servers index ≡ Some s → (id : DataId) (bytes : List ℕ) → data_of s.pushed id ≡ Some bytes → IsPushed w.sent id bytes)
    × ((place : ℕ) (m : Message) → element_at w.sent place ≡ Some m → (id : DataId) (bytes rest : List ℕ) → m.body ≡ body.Push id bytes rest → IsPushed w.sent id bytes)

-- A client pushes one thing under a number (section 3.2).
abbrev pub DataArePushedOnce : Type 0
DataArePushedOnce =
    (config : Config) (servers clients : ℕ) (w : WorldState) → IsReached config servers clients w
    → (id other : DataId) (bytes more : List ℕ) → IsPushed w.sent id bytes → IsPushed w.sent other more → other.client.0 ≡ id.client.0 → other.seq ≡ id.seq → more ≡ bytes

-- So each entry of these data, in whatever order it stands, is made of what a server keeps of them, in a chunk of the size that a Grant of its round told (sections 3.2 and 3.3).
abbrev pub KeptDataMakeTheirEntries : Type 0
KeptDataMakeTheirEntries =
    (config : Config) (servers clients : ℕ) (w : WorldState) → IsReached config servers clients w → (index : ℕ) (s : ServerState) → element_at w.servers index ≡ Some s
    → (id : DataId) (bytes : List ℕ) → data_of s.pushed id ≡ Some bytes
    → (handle place : ℕ) (p : Placed) → element_at (order_of w.observer handle) place ≡ Some p → p.entry.call.client ≡ id.client.0 → p.seq ≡ id.seq
    → (from size : ℕ) × IsSizeGranted w.sent from p.entry.round size × IsMadeOf (min size config.chunk) bytes p.entry.mutation
