-- The law of every lawful list of events on the earlier parts of an open write, that a public function of this crate states.
use Rattle.std.specs.Prelude.{◌≡◌, ℕ, suc, ◌<◌, ◌≤◌, List, length, Some, IsTrue}
use Rattle.gfs_types.specs.declared.config.Config.{Config}
use Rattle.gfs_types.specs.declared.ids.Fd.{Fd}
use Rattle.gfs_types.specs.declared.call.Call.TheVariants as call
use Rattle.client_state.specs.declared.call.CurrentCall.{CurrentCall}
use Rattle.relaxed_file.specs.Parts.{has_part}
use Rattle.protocol.specs.Tables.{element_at}
use Rattle.protocol.specs.Client.{ClientState, file_chunk}
use Rattle.protocol.specs.World.{WorldState, IsReached}
use Rattle.laws_machine.specs.AnsweredWrites.{IsPartPlaced}

-- While a write is open, each part before the one in hand has a settled entry with its bytes at its place, in the order of the chunk that was told for its index, and later parts are of later attempts (sections 2.7.1 and 3.1).
abbrev pub EarlierPartsAreSettled : Type 0
EarlierPartsAreSettled =
    (config : Config) (servers clients : ℕ) (w : WorldState) → IsReached config servers clients w → (index : ℕ) (s : ClientState) → element_at w.clients index ≡ Some s
    → (c : CurrentCall) (fd : Fd) (offset : ℕ) (bytes : List ℕ) → s.current ≡ Some c → c.asked ≡ call.Write fd offset bytes
    → (numbers : ℕ → ℕ)
    × ((part : ℕ) → part < c.index → IsTrue (has_part (file_chunk s c.file.0) offset (length bytes) part) → IsPartPlaced w (file_chunk s c.file.0) (suc index) c.file.0 offset bytes part (numbers part))
    × ((part later : ℕ) → part < later → later < c.index → IsTrue (has_part (file_chunk s c.file.0) offset (length bytes) part) → IsTrue (has_part (file_chunk s c.file.0) offset (length bytes) later) → numbers part < numbers later)
