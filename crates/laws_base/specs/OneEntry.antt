-- The law of every lawful list of events on the entries that a number gets, that a public function of this crate states.
use Rattle.std.specs.Prelude.{◌≡◌, ℕ, Some}
use Rattle.gfs_types.specs.declared.config.Config.{Config}
use Rattle.protocol.specs.Tables.{element_at}
use Rattle.protocol.specs.Observer.{Placed, order_of}
use Rattle.protocol.specs.World.{WorldState, IsReached}

-- Two entries of a chunk's order that stem from one number of one client are the same.
abbrev pub NumbersHaveOneEntry : Type 0
NumbersHaveOneEntry =
    (config : Config) (servers clients : ℕ) (w : WorldState) → IsReached config servers clients w → (handle place other : ℕ) (p q : Placed)
    → element_at (order_of w.observer handle) place ≡ Some p → element_at (order_of w.observer handle) other ≡ Some q
    → p.entry.call.client ≡ q.entry.call.client → p.seq ≡ q.seq → place ≡ other
