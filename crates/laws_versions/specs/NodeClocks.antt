-- The law of every lawful list of events on the nodes' clocks, that a public function of this crate states.
use Rattle.std.specs.Prelude.{◌≡◌, ℕ, ◌≤◌, Some}
use Rattle.gfs_types.specs.declared.config.Config.{Config}
use Rattle.protocol.specs.Tables.{element_at}
use Rattle.protocol.specs.Server.{ServerState}
use Rattle.protocol.specs.Client.{ClientState}
use Rattle.protocol.specs.World.{WorldState, IsReached}

-- each node's moment is at most the greatest one that was given to a node
pub record AreClocksIn (w : WorldState) : Type 0 where
  pub master : w.master.now ≤ w.observer.greatest
  pub servers : (index : ℕ) (s : ServerState) → element_at w.servers index ≡ Some s → s.now ≤ w.observer.greatest
  pub clients : (index : ℕ) (c : ClientState) → element_at w.clients index ≡ Some c → c.now ≤ w.observer.greatest

-- No node is past the greatest moment (section 2.3).
abbrev pub NoNodeIsAhead : Type 0
NoNodeIsAhead = (config : Config) (servers clients : ℕ) (w : WorldState) → IsReached config servers clients w → AreClocksIn w
