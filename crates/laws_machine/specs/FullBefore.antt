-- The law of every lawful list of events on asks past a chunk, that a public function of this crate states.
use Rattle.std.specs.Prelude.{◌≡◌, ◌≤◌, ℕ, suc, min, Bool, Some, IsTrue}
use Rattle.gfs_types.specs.declared.config.Config.{Config}
use Rattle.gfs_types.specs.declared.ids.FileId.{FileId}
use Rattle.gfs_types.specs.declared.ids.Moment.{Moment}
use Rattle.messages.specs.declared.message.Body.TheVariants as body
use Rattle.messages.specs.declared.message.Message.{Message}
use Rattle.messages.specs.declared.message.Wanted.TheVariants as wanted
use Rattle.protocol.specs.Tables.{element_at}
use Rattle.protocol.specs.Sending.{the_client}
use Rattle.protocol.specs.Observer.{order_of}
use Rattle.protocol.specs.World.{WorldState, IsReached}
use Rattle.laws_base.specs.Laws.{IsSizeGranted}
use Rattle.protocol_invariant.specs.AttemptParts.{is_full}
use Rattle.laws_versions.specs.FullOrders.{HasFullEnd}
use Rattle.laws_machine.specs.AnsweredWrites.{IsToldChunk}

-- The client was told a chunk of this index of the file, and that chunk's order has an entry that ends at the chunk's end, of a round up to the told one, by the size that a Grant of the told round told, within a slot.
pub record IsFullBefore (w : WorldState) (client file index : ℕ) : Type 0 where
  pub handle : ℕ
  pub round : ℕ
  pub chunk : IsToldChunk w.sent client file index handle round
  pub size : ℕ
  pub granted : IsSizeGranted w.sent handle round size
  pub full : IsTrue (is_full w handle (min size w.config.chunk))
  pub ends : HasFullEnd (min size w.config.chunk) (order_of w.observer handle) round

-- Where clocks are kept, a client asks for a chunk past one, to append to it, only where that one is full in this sense (section 3.3). A chunk has at least one byte.
abbrev pub AsksPastAChunkFindItFull : Type 0
AsksPastAChunkFindItFull =
    (config : Config) (servers clients : ℕ) (w : WorldState) → IsReached config servers clients w → IsTrue w.observer.are_clocks_kept → 1 ≤ config.chunk
    → (place client number past : ℕ) (m : Message) (file : FileId) (deadline : Moment) (lost : Bool) → element_at w.sent place ≡ Some m → m.sender ≡ the_client client → m.body ≡ body.Ask number file (wanted.Append (suc past)) deadline lost
    → IsFullBefore w client file.0 past
