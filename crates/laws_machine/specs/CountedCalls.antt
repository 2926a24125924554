-- How many calls a run of the machine has of a client (section 2.7).
use Rattle.std.specs.Prelude.{◌≡◌, ℕ, List}
use Rattle.gfs_types.specs.declared.config.Config.{Config}
use Rattle.relaxed_file.specs.Machine.{Machine, OpenCall, IsOpen}
use Rattle.relaxed_file.specs.Run.{Visible, IsRunTo}
use Rattle.protocol.specs.Observer.{calls_made}

-- In a run a client has made just as many calls as its trace shows, and an open call is the last of them.
abbrev pub CallsAreCounted : Type 0
CallsAreCounted =
    (config : Config) (trace : List Visible) (m : Machine) → IsRunTo config trace m → (client : ℕ)
    → ((m.clients client).call_count ≡ calls_made trace client) × ((o : OpenCall) → IsOpen m client o → o.number ≡ calls_made trace client)
