-- What is alike stays so at messages about chunks.
use Rattle.std.proofs.Common.{ℕ, List, [], ◌∷◌, ◌++◌}
use Rattle.std.specs.List.{AllByRecursion}
use Rattle.std.specs.FinMap as table
use Rattle.messages.specs.declared.message.Body.{Body}
use Rattle.messages.specs.declared.message.Body.TheVariants as body
use Rattle.messages.specs.declared.message.Message.{Message}
use Rattle.relaxed_file.specs.Machine.{Machine}
use Rattle.protocol.specs.Sending.{client_number}
use Rattle.protocol.specs.Logged.{Logged, LogDisk, LogChange}
use Rattle.protocol.specs.Master.{PendingSnapshot}
use Rattle.laws_names.specs.Alike.{Requests, AreAlike}
use Rattle.laws_names.proofs.LocksAndFiles.{chunks_change_no_names}
use Rattle.laws_names.specs.Followed.{IsTold, IsToldTo}
use Rattle.laws_names.specs.ChunkSteps.{ChunkMessagesChangeNoNames}
use Rattle.laws_names.proofs.ChunkWalk.{IsUnnamed, KeepsChunks, takes_here}

told_unnamed : (m : Machine) (requests : Requests) (client : ℕ) (b : Body) → IsUnnamed b → IsToldTo m requests client b
told_unnamed m requests client (body.Named number reply) is = absurd is
told_unnamed m requests client other is = tt

one_more_told : (m : Machine) (requests : Requests) (sent : List Message) (x : Message) → IsTold m requests x → AllByRecursion (IsTold m requests) sent → AllByRecursion (IsTold m requests) (sent ++ x ∷ [])
one_more_told m requests [] x told all = (told, tt)
one_more_told m requests (y ∷ rest) x told all = (all.0, one_more_told m requests rest x told all.1)

abbrev Alike : Machine → Requests → List PendingSnapshot → Logged → LogDisk → List LogChange → List Message → Type 0
Alike m requests ss l k cs sent = AreAlike l ss m requests × AllByRecursion (IsTold m requests) sent

alike_keeps : (m : Machine) (requests : Requests) → KeepsChunks (Alike m requests)
alike_keeps m requests =
    record {
      tells = λ ss l k cs sent x is h. (h.0, one_more_told m requests sent x (told_unnamed m requests (client_number x.receiver) x.body is) h.1);
      records = λ ss l k cs sent r is h. ((chunks_change_no_names l ss m requests h.0).0 r is, h.1);
      checkpoint = λ ss l k cs sent h. ((chunks_change_no_names l ss m requests h.0).1 (table.keys l.copies), h.1);
      less = λ ss l k cs sent handles h. ((chunks_change_no_names l ss m requests h.0).1 handles, h.1);
      ends = λ ss l k cs sent handle moment h. (record { names = (h.0).names; next = (h.0).next; files = (h.0).files; shapes = (h.0).shapes; kept = (h.0).kept; untaken = (h.0).untaken; locks = (h.0).locks }, h.1);
    }

pub chunk_messages_change_no_names : ChunkMessagesChangeNoNames
chunk_messages_change_no_names d m requests x h copied is =
    let end = takes_here (Alike m requests) (alike_keeps m requests) d x x.body is ((h.alike, h.told), copied) in
    (record { alike = (end.0).0; told = (end.0).1 }, end.1)
