-- Laws of every lawful list of events on the serials of a chunk's entries, that public functions of this crate state.
use Rattle.std.specs.Prelude.{◌≡◌, ◌==◌, ℕ, List, [], ◌∷◌, ◌++◌, map, filter, Some}
use Rattle.std.specs.FinMap as table
use Rattle.gfs_types.specs.declared.config.Config.{Config}
use Rattle.gfs_types.specs.declared.ids.DataId.{DataId}
use Rattle.gfs_types.specs.declared.ids.Handle.{Handle}
use Rattle.gfs_types.specs.declared.ids.Version.{Version}
use Rattle.gfs_types.specs.declared.ids.Serial.{Serial}
use Rattle.gfs_types.specs.declared.mutation.Mutation.{Mutation}
use Rattle.messages.specs.declared.event.NodeInput.{NodeInput}
use Rattle.primary_order.specs.SerialOrder.{SerialOrder}
use Rattle.protocol.specs.Tables.{element_at, first_numbers}
use Rattle.protocol.specs.Choice.{Choice}
use Rattle.protocol.specs.declared.seen.Seen.TheVariants.{Numbered}
use Rattle.protocol.specs.Observer.{Placed, order_of}
use Rattle.protocol.specs.Server.{ServerState}
use Rattle.protocol.specs.ServerStep.{server_step}
use Rattle.protocol.specs.World.{WorldState, IsReached}

-- the serials of the entries of a round, in order
abbrev pub serials_of : ℕ → List Placed → List ℕ
serials_of round order = map (λ p. p.serial) (filter (λ p. p.entry.round == round) order)

-- The entries of a round have the serials from 1 on, each once, in order (section 3.1).
abbrev pub SerialsOfRoundsAreCounted : Type 0
SerialsOfRoundsAreCounted =
    (config : Config) (servers clients : ℕ) (w : WorldState) → IsReached config servers clients w
    → (handle round : ℕ) → (count : ℕ) × (serials_of round (order_of w.observer handle) ≡ first_numbers count)

-- The entries of the round of a lease that is held have the serials from 1 to the lease's (section 3.1).
abbrev pub LeasesCountTheirSerials : Type 0
LeasesCountTheirSerials =
    (config : Config) (servers clients : ℕ) (w : WorldState) → IsReached config servers clients w → (index : ℕ) (s : ServerState) → element_at w.servers index ≡ Some s
    → (handle : ℕ) (p : SerialOrder) → table.get s.leases handle ≡ Some p → serials_of p.held.version (order_of w.observer handle) ≡ first_numbers p.serial

-- A serial of a round has one entry at most in a chunk's order (section 3.1).
abbrev pub SerialsHaveOneEntry : Type 0
SerialsHaveOneEntry =
    (config : Config) (servers clients : ℕ) (w : WorldState) → IsReached config servers clients w → (handle place other : ℕ) (p q : Placed)
    → element_at (order_of w.observer handle) place ≡ Some p → element_at (order_of w.observer handle) other ≡ Some q
    → p.entry.round ≡ q.entry.round → p.serial ≡ q.serial → place ≡ other

-- A server numbers a mutation under the serial that follows those of the round's entries (section 3.1).
abbrev pub NumberedSerialsFollow : Type 0
NumberedSerialsFollow =
    (config : Config) (servers clients : ℕ) (w : WorldState) → IsReached config servers clients w → (index : ℕ) (s : ServerState) → element_at w.servers index ≡ Some s
    → (moment : ℕ) (i : NodeInput) (choice : Choice) (place : ℕ) (handle : Handle) (version : Version) (serial : Serial) (id : DataId) (m : Mutation)
    → element_at (server_step s moment i choice).seen place ≡ Some (Numbered handle version serial id m)
    → serials_of version.0 (order_of w.observer handle.0) ++ serial.0 ∷ [] ≡ first_numbers serial.0
