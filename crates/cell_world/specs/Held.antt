-- A cell as its code holds it, and the worlds that it stands for.
use Rattle.std.specs.Prelude.{◌≡◌, ℕ, List, map, Option}
use Rattle.gfs_types.specs.declared.config.Config.{Config}
use Rattle.gfs_types.specs.declared.answer.Answer.{Answer}
use Rattle.messages.specs.declared.message.Message.{Message}
use Rattle.protocol.specs.Tables.{Table}
use Rattle.protocol.specs.Choice.{Choice}
use Rattle.protocol.specs.declared.seen.Seen.{Seen}
use Rattle.protocol.specs.Server.{ServerState}
use Rattle.protocol.specs.Master.{MasterState}
use Rattle.protocol.specs.Client.{ClientState}
use Rattle.protocol.specs.Observer.{Placed, placed_in}
use Rattle.protocol.specs.World.{WorldState, Happened}
use Rattle.protocol.specs.Conforms.{IsLeftAs}
use Rattle.cell_world.specs.Kept.{blank_placed}
use Rattle.cell_world.specs.Seeing.{orders_seen}

-- It holds neither the trace, nor whether clocks and disks kept what is asked of them. Of the moments that passed it holds the greatest, and of the mutations that were seen which places they cover.
pub record HeldCell : Type 0 where
  pub config : Config
  pub master : MasterState
  pub files : Table (List ℕ)
  pub servers : List ServerState
  pub clients : List ClientState
  pub sent : List Message
  pub seen : List Seen
  pub greatest : ℕ

-- orders that are the same but for what mutations are besides the places that they cover, and whose they are
abbrev pub AreHeldAs : Table (List Placed) → Table (List Placed) → Type 0
AreHeldAs orders held = (handle : ℕ) → map blank_placed (placed_in orders handle) ≡ map blank_placed (placed_in held handle)

-- a world, as a cell holds it
pub record IsHeldAs (w : WorldState) (h : HeldCell) : Type 0 where
  pub config : w.config ≡ h.config
  pub master : IsLeftAs w.master h.master
  pub files : w.observer.files ≡ h.files
  pub servers : w.servers ≡ h.servers
  pub clients : w.clients ≡ h.clients
  pub sent : w.sent ≡ h.sent
  pub orders : AreHeldAs w.observer.orders (orders_seen h.seen)
  pub greatest : w.observer.greatest ≡ h.greatest

-- What an act comes to in each world that a cell stands for, for some choice: this answer, and a world that the new cell stands for.
abbrev pub HasEffect : HeldCell → (WorldState → Choice → Happened) → Option Answer → HeldCell → Type 0
HasEffect old act answer new = (w : WorldState) → IsHeldAs w old → (choice : Choice) × ((act w choice).out.answer ≡ answer) × IsHeldAs (act w choice).world new
