-- What a step of the master logs: files expire only at a tick, before anything else is logged.
use Rattle.std.proofs.Common.{ℕ, List, [], ◌∷◌, ◌++◌, Option, Some, None, refl, inl, inr}
use Rattle.std.specs.FinMap as table
use Rattle.messages.specs.declared.event.NodeInput.{NodeInput}
use Rattle.messages.specs.declared.event.NodeInput.TheVariants as input
use Rattle.messages.specs.declared.message.Message.{Message}
use Rattle.log_records.specs.declared.record.Record.{Record}
use Rattle.log_records.specs.declared.record.Record.TheVariants as log
use Rattle.protocol.specs.Sending.{file_id}
use Rattle.protocol.specs.Logged.{Logged, LogChange, AppendRecord, WriteCheckpoint, checkpoint_of}
use Rattle.protocol.specs.Master.{MasterDoing, master_begins, logs, writes_checkpoint}
use Rattle.protocol.specs.MasterClones.{CloneOrder, orders_clone, best_clone}
use Rattle.protocol.specs.MasterStep.{gives_up_attempts, gives_up_lost_copies, expires_all, expires_old, expired_files, master_does, master_at, master_goes}
use Rattle.laws_base.proofs.MasterMoves.{logs_alone}
use Rattle.laws_base.proofs.MasterPremises.{IsOfCalls, IsOfStep, AnyDoing, any_kept, StepEffects, NameKeeps, MasterKeeps}
use Rattle.laws_base.proofs.MasterWalk.{ready_here, goes_here}
use Rattle.headline.specs.GoneHandles.{IsLasting, IsLastingChange, IsExpiry, AreLasting, ExpireFirst, ExpiriesComeFirst}

abbrev AreFirst : StepEffects → Type 0
AreFirst g = ExpireFirst g.changes

-- the first changes of a tick

abbrev AreExpiries : List LogChange → Type 0
AreExpiries [] = Unit {0}
AreExpiries (x ∷ rest) = IsExpiry x × AreExpiries rest

one_expiry : (xs : List LogChange) (x : LogChange) → IsExpiry x → AreExpiries xs → AreExpiries (xs ++ x ∷ [])
one_expiry [] x is h = (is, tt)
one_expiry (y ∷ xs) x is h = (h.0, one_expiry xs x is h.1)

first_expiries : (xs : List LogChange) → AreExpiries xs → ExpireFirst xs
first_expiries [] h = tt
first_expiries (x ∷ xs) h = inl (h.0, first_expiries xs h.1)

one_lasting : (xs : List LogChange) (x : LogChange) → IsLastingChange x → AreLasting xs → AreLasting (xs ++ x ∷ [])
one_lasting [] x is h = (is, tt)
one_lasting (y ∷ xs) x is h = (h.0, one_lasting xs x is h.1)

then_lasting : (xs : List LogChange) (x : LogChange) → IsLastingChange x → ExpireFirst xs → ExpireFirst (xs ++ x ∷ [])
then_lasting [] x is h = inr (is, tt)
then_lasting (y ∷ xs) x is (inl first) = inl (first.0, then_lasting xs x is first.1)
then_lasting (y ∷ xs) x is (inr lasting) = inr (lasting.0, one_lasting xs x is lasting.1)

abbrev Expiring : MasterDoing → Type 0
Expiring d = AreExpiries d.changes

checkpoint_first : (d : MasterDoing) → Expiring d → Expiring (writes_checkpoint d)
checkpoint_first d h = one_expiry d.changes (WriteCheckpoint (checkpoint_of d.master.logged)) tt h

expired_first : (d : MasterDoing) (files : List ℕ) → Expiring d → Expiring (expires_all d files)
expired_first d [] h = h
expired_first d (file ∷ rest) h =
    let r : Record = log.Expired (file_id file) in
    let stored : Expiring (writes_checkpoint d) = checkpoint_first d h in
    expired_first (logs d r (λ e. e)) rest
    (logs_alone Expiring d r h (one_expiry d.changes (AppendRecord r) tt h) stored (one_expiry (writes_checkpoint d).changes (AppendRecord r) tt stored))

-- a name call lets no file expire, and no message does

lasting_call : (r : Record) → IsOfCalls r → IsLasting r
lasting_call (log.Expired file) is = is
lasting_call other is = tt

names : NameKeeps IsOfCalls AreFirst
names =
    record {
      named = λ g receiver number reply h. h;
      recorded = λ g r is h. then_lasting g.changes (AppendRecord r) (lasting_call r is) h;
      checkpointed = λ g items h. then_lasting g.changes (WriteCheckpoint items) tt h;
    }

lasting : (x : Message) (r : Record) → IsOfStep (input.Deliver x) r → IsLasting r
lasting x (log.Expired file) is = is
lasting x other is = tt

keeps : (l : Logged) (x : Message) → MasterKeeps l (input.Deliver x) AnyDoing AreFirst
keeps l x =
    record {
      answered = λ g receiver b is h. h;
      ordered = λ g server b is h. h;
      extended = λ g server line until is h. h;
      dropped = λ g server order line is useless h. h;
      recorded = λ g r is h. then_lasting g.changes (AppendRecord r) (lasting x r is) h;
      checkpointed = names.checkpointed;
      shown = λ g handle copy ask new h. h;
      held = λ g from handle version came is h. h;
      heard = λ g from replicas leases came is h. h;
    }

cloned : (d : MasterDoing) (o : Option CloneOrder) → ExpireFirst d.changes → ExpireFirst (orders_clone d o).changes
cloned d None h = h
cloned d (Some c) h = h

pub expiries_come_first : ExpiriesComeFirst
expiries_come_first m moment i refused = by_input i
  where
    first : MasterDoing
    first = master_begins (master_at m moment) refused

    by_input : (j : NodeInput) → ExpireFirst (master_goes m moment j refused).changes
    by_input (input.Deliver x) = goes_here m.logged (input.Deliver x) AnyDoing AreFirst (keeps m.logged x) any_kept first refl tt tt
    by_input input.Tick =
        let b : MasterDoing = gives_up_lost_copies (gives_up_attempts first) in
        let c : MasterDoing = expires_old b in
        let done : MasterDoing = master_does first input.Tick in
        ready_here IsOfCalls (λ r is. is) AreFirst names done done.master.snapshots
        (cloned c (best_clone c.master (table.entries c.master.logged.table.chunks)) (first_expiries c.changes (expired_first b (expired_files b.master) tt)))
