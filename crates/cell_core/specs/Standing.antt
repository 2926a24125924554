-- What is true of each cell: events led to it from a new one, and of their messages it may have dropped the first.
use Rattle.std.specs.Prelude.{◌≡◌, ℕ, List}
use Rattle.gfs_types.specs.declared.config.Config.{Config}
use Rattle.messages.specs.declared.message.Message.{Message}
use Rattle.protocol.specs.World.{WorldState, IsReached}
use Rattle.protocol_journal.specs.Rebased.{IsCut}
use Rattle.cell_world.specs.Held.{HeldCell, IsHeldAs}

-- A cell stands for a world whose earlier messages it dropped: it holds the same world without them, in which the others are counted from 1. Where it dropped none, this is the world itself.
pub record StandsFor (w : WorldState) (earlier : List Message) (h : HeldCell) : Type 0 where
  pub cut : WorldState
  pub is_cut : IsCut w earlier cut
  pub held : IsHeldAs cut h

-- It stands for each world that the other one stood for, of whose messages it dropped all.
abbrev pub DropsAll : HeldCell → HeldCell → Type 0
DropsAll old new = (w : WorldState) (earlier : List Message) → StandsFor w earlier old → StandsFor w w.sent new

-- a look at each world that the cell stands for shows this
abbrev pub IsShown : {X : Type 0} → HeldCell → (WorldState → X) → X → Type 0
IsShown h look found = (w : WorldState) (earlier : List Message) → StandsFor w earlier h → found ≡ look w

-- it stands for a world that lawful events lead to
pub record HasReachedWorld (h : HeldCell) : Type 0 where
  pub config : Config
  pub servers : ℕ
  pub clients : ℕ
  pub world : WorldState
  pub earlier : List Message
  pub reached : IsReached config servers clients world
  pub stands : StandsFor world earlier h
