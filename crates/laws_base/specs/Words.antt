-- The law of every lawful list of events on the locations that are told, that a public function of this crate states.
use Rattle.std.specs.Prelude.{◌≡◌, ℕ, ◌≤◌, List, [], ◌∷◌, Some}
use Rattle.gfs_types.specs.declared.config.Config.{Config}
use Rattle.gfs_types.specs.declared.ids.Node.TheVariants as node
use Rattle.messages.specs.declared.message.Message.{Message}
use Rattle.messages.specs.declared.message.Body.TheVariants as body
use Rattle.messages.specs.declared.message.Holder.{Holder}
use Rattle.messages.specs.declared.message.Location.{Location}
use Rattle.protocol.specs.Tables.{element_at}
use Rattle.protocol.specs.World.{WorldState, IsReached}

-- each of these is said to hold this version or a later one
abbrev pub HoldAtLeast : ℕ → List Holder → Type 0
HoldAtLeast version [] = Unit {0}
HoldAtLeast version (h ∷ rest) = (version ≤ h.version.0) × HoldAtLeast version rest

abbrev pub AreCurrent : Location → Type 0
AreCurrent l = HoldAtLeast l.round.0 l.holders

-- The master alone tells locations, and each holder that it names is told with the told round or a later version (section 4.5).
abbrev pub LocationsNameCurrentHolders : Type 0
LocationsNameCurrentHolders =
    (config : Config) (servers clients : ℕ) (w : WorldState) → IsReached config servers clients w
    → (place number : ℕ) (m : Message) (l : Location) → element_at w.sent place ≡ Some m → m.body ≡ body.Told number (Some l)
    → (m.sender ≡ node.Master) × AreCurrent l
