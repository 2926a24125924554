-- What the master does with a request on names, with the log's room and checkpoints, refusals and repeats: the machine follows (sections 2.6.3, 3.4 and 4.1).
use Rattle.std.specs.Prelude.{◌≡◌, ℕ, IsTrue}
use Rattle.gfs_types.specs.declared.call.Call.{Call}
use Rattle.gfs_types.specs.declared.ids.Node.{Node}
use Rattle.relaxed_file.specs.Machine.{Machine, OpenCall}
use Rattle.relaxed_file.specs.NameStep.{is_look}
use Rattle.protocol.specs.Sending.{client_number}
use Rattle.protocol.specs.Master.{MasterDoing}
use Rattle.protocol.specs.MasterNames.{takes_name, takes_look}
use Rattle.laws_names.specs.Alike.{Requests, IsWaiting}
use Rattle.laws_names.specs.NameSteps.{AreNamedFilesThere}
use Rattle.laws_names.specs.Followed.{IsBeside, IsFollowed, IsTimely, IsRequest}

-- A Name: taken anew, repeated, late or refused, and whether or not its record finds room in the log.
abbrev pub NameRequestsAreFollowed : Type 0
NameRequestsAreFollowed =
    (d : MasterDoing) (m : Machine) (requests : Requests) (client number deadline : ℕ) (c : Call)
    → IsBeside d m requests → AreNamedFilesThere d.master.logged → m.config ≡ d.master.config → IsTimely m d.master.now → IsRequest d m requests client number deadline c
    → IsFollowed m (takes_name d client number deadline c) requests

-- A Look: of the open call, or of one that is over.
abbrev pub LooksAreFollowed : Type 0
LooksAreFollowed =
    (d : MasterDoing) (m : Machine) (requests : Requests) (sender : Node) (number : ℕ) (c : Call)
    → IsBeside d m requests → m.config ≡ d.master.config → IsTrue (is_look c) → ((current : OpenCall) → IsWaiting m requests (client_number sender) number current → current.asked.call ≡ c)
    → IsFollowed m (takes_look d sender number c) requests
