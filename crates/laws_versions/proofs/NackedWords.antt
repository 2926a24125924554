-- A member says Nacked only of a mutation that was forwarded to it in this step, for a cause in its replica or its data.
use Rattle.std.proofs.Common.{◌≡◌, ℕ, List, [], ◌∷◌, Option, Some, None, refl, sym, subst}
use Rattle.gfs_types.specs.declared.ids.Serial.{Serial}
use Rattle.laws_base.proofs.Entries.{AllOf}
use Rattle.laws_base.proofs.MembersRecorded.{all_in_order}
use Rattle.gfs_types.specs.declared.ids.Handle.{Handle}
use Rattle.gfs_types.specs.declared.refusal.Refusal.{Refusal}
use Rattle.gfs_types.specs.declared.refusal.Refusal.TheVariants.{Corrupt, NoData, NoChunk, OldSerial, Version}
use Rattle.messages.specs.declared.message.Body.{Body}
use Rattle.messages.specs.declared.message.Body.TheVariants as body
use Rattle.messages.specs.declared.message.Message.{Message}
use Rattle.messages.specs.declared.event.NodeInput.{NodeInput}
use Rattle.replica_store.specs.declared.change.StoreChange.{StoreChange}
use Rattle.replica_store.specs.Replicas.{disk_changed_by_all}
use Rattle.protocol.specs.Tables.{element_at}
use Rattle.protocol.specs.Choice.{Choice, Ending, Goes, Lost, Stops, in_order}
use Rattle.protocol.specs.Seen.{Taken, no_step}
use Rattle.protocol.specs.Server.{ServerState, ServerDoing}
use Rattle.protocol.specs.ServerStep.{server_at, server_goes, server_ends}
use Rattle.laws_base.proofs.Steps.{on_cond}
use Rattle.gfs_types.specs.declared.ids.Version.{Version as VersionId}
use Rattle.replica_store.specs.Replicas.{Replica, ServerDisk, replica_of, row_of}
use Rattle.laws_base.proofs.MembersRecorded.{all_at}
use Rattle.laws_base.proofs.Steps.{none_some, gone_there}
use Rattle.laws_base.proofs.ServerWalk.{Forwarding}
use Rattle.laws_base.proofs.ServerSays.{IsNackedFor, IsSaid, IsWord, goes_says}
use Rattle.laws_versions.specs.RefusedMutations.{IsRefusedFor, IsRefusal, NackedMutationsWereForwarded}

abbrev after : ServerDoing → ServerState
after d = record d.server { disk = disk_changed_by_all d.server.disk d.changes }

abbrev IsCausedBy : ServerState → ServerDoing → NodeInput → Message → Body → Type 0
IsCausedBy s d i m (body.Nacked handle version serial cause) = IsRefusal s (after d) i m handle version serial cause
IsCausedBy s d i m other = Unit {0}

abbrev AreCaused : ServerState → NodeInput → ServerDoing → Type 0
AreCaused s i d = AllOf (λ m. IsCausedBy s d i m m.body) d.sent

no_row : (o : Option Replica) → row_of o ≡ None → o ≡ None
no_row None is = refl
no_row (Some r) is = none_some _ (sym is)

-- the cause of a refusal, as the statement has it
refused_for : (s : ServerState) (moment : ℕ) (i : NodeInput) (d : ServerDoing) (c : Forwarding i) (why : Refusal) → IsNackedFor (server_at s moment) i d c why
    → IsRefusedFor s (after d) c.handle.0 c.version.0 c.serial.0 c.id why
refused_for s moment i d c NoChunk h = no_row (replica_of s.disk c.handle.0) h
refused_for s moment i d c Version h = h
refused_for s moment i d c OldSerial h = h
refused_for s moment i d c NoData h = h
refused_for s moment i d c Corrupt h = (
  h.0,
  subst (λ (e : ServerDisk). replica_of (disk_changed_by_all e d.changes) c.handle.0 ≡ None) (sym h.2)
      (subst (λ (xs : List StoreChange). replica_of (disk_changed_by_all s.disk xs) c.handle.0 ≡ None) (sym h.1) (gone_there s.disk.replicas c.handle.0 c.handle.0 refl)),
)
refused_for s moment i d c other h = absurd h

caused : (s : ServerState) (moment : ℕ) (i : NodeInput) (d : ServerDoing) (m : Message) (b : Body) → IsSaid (server_at s moment) i d m.receiver b → IsCausedBy s d i m b
caused s moment i d m (body.Nacked handle version serial why) h =
    let c = h.0 in
    let reason = refused_for s moment i d c why h.5 in
    subst (λ (q : Handle). IsRefusal s (after d) i m q version serial why) (sym h.1)
    (subst (λ (v : VersionId). IsRefusal s (after d) i m c.handle v serial why) (sym h.2)
    (subst (λ (n : Serial). IsRefusal s (after d) i m c.handle c.version n why) (sym h.3)
    (record { forward = c.m; id = c.id; chunk = c.chunk; named = c.named; input_is = c.came; body_is = c.is; sender_is = sym h.4; caused = reason })))
caused s moment i d m other h = tt

all_caused : (s : ServerState) (moment : ℕ) (i : NodeInput) (d : ServerDoing) (ms : List Message) → AllOf (IsWord (server_at s moment) i d) ms → AllOf (λ m. IsCausedBy s d i m m.body) ms
all_caused s moment i d [] all = tt
all_caused s moment i d (m ∷ ms) all = (caused s moment i d m m.body all.0.1, all_caused s moment i d ms all.1)

goes_caused : (s : ServerState) (moment : ℕ) (i : NodeInput) → AreCaused s i (server_goes s moment i)
goes_caused s moment i = all_caused s moment i (server_goes s moment i) (server_goes s moment i).sent (goes_says s moment i)

abbrev AreSaid : ServerState → NodeInput → Taken ServerState → Type 0
AreSaid s i t =
    (handle : Handle) (version : VersionId) (serial : Serial) (cause : Refusal) (place : ℕ) (m : Message) → element_at t.out.sent place ≡ Some m → m.body ≡ body.Nacked handle version serial cause → IsRefusal s t.state i m handle version serial cause

ends_said : (s : ServerState) (moment : ℕ) (i : NodeInput) (choice : Choice) (e : Ending) → AreSaid s i (server_ends s (server_goes s moment i) choice e)
ends_said s moment i choice Lost handle version serial cause place m at is = none_some m at
ends_said s moment i choice (Stops made) handle version serial cause place m at is = none_some m at
ends_said s moment i choice Goes handle version serial cause place m at is =
    let d : ServerDoing = server_goes s moment i in
    subst (λ (b : Body). IsCausedBy s d i m b) is
    (all_at (λ (x : Message). IsCausedBy s d i x x.body) (in_order choice.order d.sent) place m (all_in_order (λ x. IsCausedBy s d i x x.body) choice.order d.sent (goes_caused s moment i)) at)

pub nacked_mutations_were_forwarded : NackedMutationsWereForwarded
nacked_mutations_were_forwarded s moment i choice place m at handle version serial cause is =
    on_cond (AreSaid s i) s.up (server_ends s (server_goes s moment i) choice choice.ending) (no_step s) (λ _. ends_said s moment i choice choice.ending) (λ _ h v n r k x none other. none_some x none) handle version serial cause place m at is
