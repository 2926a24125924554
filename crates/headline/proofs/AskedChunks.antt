-- A call that asked for the next chunk of a file may have it at the machine.
use Rattle.std.proofs.Common.{◌≡◌, ℕ, refl, subst}
use Rattle.std.specs.Prelude.{IsTrue}
use Rattle.gfs_types.specs.declared.call.Call.{Call}
use Rattle.gfs_types.specs.declared.call.Call.TheVariants as call
use Rattle.messages.specs.declared.message.Wanted.{Wanted}
use Rattle.messages.specs.declared.message.Wanted.TheVariants as wanted
use Rattle.relaxed_file.specs.Order.{CallId}
use Rattle.relaxed_file.specs.Machine.{Machine, chunk_count}
use Rattle.relaxed_file.specs.Chunks.{NeedsChunk, is_last_chunk_full}
use Rattle.relaxed_file.proofs.Grows.{Grows, grows_to, known_when_reached}
use Rattle.laws_machine.specs.SentRequests.{IsCallOn, IsWantedBy}
use Rattle.headline.specs.AskedChunks.{IsForNext, AskedChunksMayBeAdded}
use Rattle.headline.proofs.RequestsStay.{call_on, wanted_on, of_made, sizes_kept}

needs : (n : Machine) (id : CallId) (file : ℕ) (c : Call) (what : Wanted) → IsWantedBy n id file c what → IsForNext what (chunk_count n file) → ((index : ℕ) → what ≡ wanted.Append index → IsTrue (is_last_chunk_full n file (chunk_count n file))) → NeedsChunk n id file c
needs n id file (call.Write fd offset bytes) (wanted.Write index) wants next full = subst (λ (k : ℕ). IsWantedBy n id file (call.Write fd offset bytes) (wanted.Write k)) next wants
needs n id file (call.Append fd bytes) (wanted.Append index) wants next full = (wants, full index refl)
needs n id file c (wanted.Read index) wants next full = absurd next
needs n id file c wanted.Last wants next full = absurd next
needs n id file other what wants next full = absurd wants

pub asked_chunks_may_be_added : AskedChunksMayBeAdded
asked_chunks_may_be_added config m n client file what reached a leads next there full =
    let grows : Grows m n = grows_to m n leads (known_when_reached config m reached) in
    let id : CallId = record { client = client; number = a.number } in
    let of_call : IsCallOn n client a.number file = call_on m n grows client a.number file a.of_call in
    (id, of_call.asked, (of_call.made, of_call.file_is, there, needs n id file of_call.asked.call what (wanted_on m n grows id file a.of_call.asked.call what (sizes_kept config m n reached leads file (of_made m client a.number file (known_when_reached config m reached) a.of_call)) a.wants) next full))
