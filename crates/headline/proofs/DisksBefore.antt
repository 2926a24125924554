-- Where disks are kept after an event, they were kept before.
use Rattle.std.proofs.Common.{ℕ, suc, Option, Some, None}
use Rattle.std.specs.Prelude.{IsTrue}
use Rattle.std.specs.Str.{bytes_eq}
use Rattle.std.proofs.lemmas.Bool.{and_parts}
use Rattle.gfs_types.specs.declared.answer.Answer.{Answer}
use Rattle.messages.specs.declared.event.Event.{Event}
use Rattle.replica_store.specs.Replicas.{rotten_replica}
use Rattle.protocol.specs.Choice.{Choice}
use Rattle.protocol.specs.Observer.{Observer, observed_answer}
use Rattle.protocol.specs.StoredBytes.{stored_chunk, with_intact}
use Rattle.protocol.specs.World.{WorldState, happens}
use Rattle.laws_base.proofs.Events.{HoldsExactly, holds_exactly}

before_answer : (o : Observer) (client : ℕ) (a : Option Answer) → IsTrue (observed_answer o client a).are_disks_kept → IsTrue o.are_disks_kept
before_answer o client None h = h
before_answer o client (Some reply) h = h

each_before : (w : WorldState) → HoldsExactly w (λ e x. IsTrue x.world.observer.are_disks_kept → IsTrue w.observer.are_disks_kept)
each_before w =
    record {
      nothing = λ e kept. kept;
      masters = λ e moment i choice is up kept. kept;
      opens = λ e moment choice kept. kept;
      serves = λ e index moment s i choice at is up kept. kept;
      restarts = λ e index moment s choice at kept. kept;
      steps = λ e index moment s i choice at is up kept. before_answer _ (suc index) _ kept;
      calls = λ e index moment s c choice at may kept. before_answer _ (suc index) _ kept;
      rots = λ e index handle s r place byte ending at there up kept. (and_parts w.observer.are_disks_kept (bytes_eq (stored_chunk (with_intact w.observer index handle s.disk.block r) index handle s.disk.block (rotten_replica r place byte)) (stored_chunk w.observer index handle s.disk.block r)) kept).0;
    }

pub disks_before : (w : WorldState) (e : Event) (choice : Choice) → IsTrue (happens w e choice).world.observer.are_disks_kept → IsTrue w.observer.are_disks_kept
disks_before w = holds_exactly w (λ e x. IsTrue x.world.observer.are_disks_kept → IsTrue w.observer.are_disks_kept) (each_before w)
