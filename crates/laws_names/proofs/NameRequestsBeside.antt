-- The names alike, and what clients are told: a step of the master so far, beside the machine.
use Rattle.std.proofs.Common.{List, [], ◌∷◌, ◌++◌}
use Rattle.std.specs.List.{AllByRecursion}
use Rattle.std.specs.FinMap as table
use Rattle.messages.specs.declared.message.Message.{Message}
use Rattle.relaxed_file.specs.Machine.{Machine}
use Rattle.protocol.specs.Logged.{Logged, LogDisk, LogChange}
use Rattle.protocol.specs.Master.{MasterDoing, PendingSnapshot}
use Rattle.laws_names.specs.Alike.{Requests, AreAlike}
use Rattle.laws_names.proofs.LocksAndFiles.{chunks_change_no_names}
use Rattle.laws_names.specs.Followed.{IsTold, IsFollowed}
use Rattle.laws_names.specs.NameRequests.{NameRequestsAreFollowed, LooksAreFollowed}
use Rattle.laws_names.proofs.Moves.{Keeps, Reaches}
use Rattle.laws_names.proofs.NameWalk.{name_at, look_at}

abbrev AreTold : Machine → Requests → List Message → Type 0
AreTold m requests sent = AllByRecursion (IsTold m requests) sent

still_told : (m n : Machine) (requests : Requests) (sent : List Message) → ((x : Message) → IsTold m requests x → IsTold n requests x) → AreTold m requests sent → AreTold n requests sent
still_told m n requests [] more all = tt
still_told m n requests (x ∷ rest) more all = (more x all.0, still_told m n requests rest more all.1)

one_more_told : (m : Machine) (requests : Requests) (sent : List Message) (x : Message) → IsTold m requests x → AreTold m requests sent → AreTold m requests (sent ++ x ∷ [])
one_more_told m requests [] x told all = (told, tt)
one_more_told m requests (y ∷ rest) x told all = (all.0, one_more_told m requests rest x told all.1)

abbrev Beside : Requests → Machine → Logged → LogDisk → List LogChange → List Message → List PendingSnapshot → Type 0
Beside requests m l k cs sent ss = AreAlike l ss m requests × AreTold m requests sent

beside_keeps : (requests : Requests) → Keeps requests (Beside requests)
beside_keeps requests =
    record {
      alike = λ m l k cs sent ss h. h.0;
      moves = λ m n l k cs sent ss later move quiet h. (move.alike l h.0, still_told m n requests sent move.told h.1);
      records = λ m n l k cs sent ss r move change h. (move.alike l h.0, still_told m n requests sent move.told h.1);
      tells = λ m l k cs sent ss x told h. (h.0, one_more_told m requests sent x told h.1);
      checkpoint = λ m l k cs sent ss h. ((chunks_change_no_names l ss m requests h.0).1 (table.keys l.copies), h.1);
      less = λ m l k cs sent ss handles h. ((chunks_change_no_names l ss m requests h.0).1 handles, h.1);
    }

followed : (m : Machine) (d : MasterDoing) (requests : Requests) → Reaches requests (Beside requests) (beside_keeps requests) m d → IsFollowed m d requests
followed m d requests r = (r.0, r.1, record { alike = (r.2).0; told = (r.2).1 })

pub name_requests_are_followed : NameRequestsAreFollowed
name_requests_are_followed d m requests client number deadline c h there settings timely request =
    followed m _ requests (name_at requests (Beside requests) (beside_keeps requests) m d client number deadline c there settings timely request (h.alike, h.told))

pub looks_are_followed : LooksAreFollowed
looks_are_followed d m requests sender number c h settings look asked =
    followed m _ requests (look_at requests (Beside requests) (beside_keeps requests) m d sender number c settings look asked (h.alike, h.told))
