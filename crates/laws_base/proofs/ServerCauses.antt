-- What a server says in a step has its cause there: a Forward names what was numbered, an Acked what was applied, an Image the replica.
use Rattle.std.proofs.Common.{◌≡◌, ◌⊎◌, ℕ, List, [], ◌∷◌, Option, Some, refl, sym, ap, subst, ◌∙◌, inl, inr}
use Rattle.gfs_types.specs.declared.ids.Serial.{Serial}
use Rattle.replica_store.specs.Replicas.{ServerDisk}
use Rattle.laws_base.proofs.Entries.{AllOf}
use Rattle.laws_base.proofs.MembersRecorded.{all_in_order}
use Rattle.gfs_types.specs.declared.ids.Node.{Node}
use Rattle.gfs_types.specs.declared.ids.Handle.{Handle}
use Rattle.gfs_types.specs.declared.ids.Version.{Version}
use Rattle.gfs_types.specs.declared.mutation.Mutation.{Mutation}
use Rattle.messages.specs.declared.message.Body.{Body}
use Rattle.messages.specs.declared.message.Body.TheVariants as body
use Rattle.messages.specs.declared.message.Message.{Message}
use Rattle.messages.specs.declared.message.Change.{Change}
use Rattle.messages.specs.declared.message.Change.TheVariants as change
use Rattle.messages.specs.declared.event.NodeInput.{NodeInput}
use Rattle.data_push.specs.Buffers.{data_of}
use Rattle.replica_store.specs.declared.row.Row.{Row}
use Rattle.replica_store.specs.declared.change.StoreChange.{StoreChange}
use Rattle.replica_store.specs.declared.change.StoreChange.TheVariants.{Write, Zero}
use Rattle.replica_store.specs.Replicas.{row_at, read_at, disk_changed_by_all}
use Rattle.protocol.specs.Tables.{element_at}
use Rattle.protocol.specs.Sending.{handle_of, serial_of}
use Rattle.protocol.specs.Choice.{Choice, Ending, Goes, Lost, Stops}
use Rattle.protocol.specs.Seen.{Taken, no_step}
use Rattle.protocol.specs.declared.seen.Seen.{Seen}
use Rattle.protocol.specs.declared.seen.Seen.TheVariants.{Numbered}
use Rattle.protocol.specs.Server.{ServerState, ServerDoing}
use Rattle.protocol.specs.ServerWrites.{change_of}
use Rattle.protocol.specs.ServerStep.{server_at, server_goes, server_ends, server_step}
use Rattle.laws_base.proofs.Steps.{on_cond}
use Rattle.laws_base.proofs.ServerWalk.{IsStoredAs}
use Rattle.laws_base.proofs.ServerSays.{IsSaid, IsWord, goes_says}
use Rattle.laws_base.proofs.ServerActs.{goes_fine}

-- what puts this serial into this replica
abbrev pub IsWritten : Handle → Serial → StoreChange → Type 0
IsWritten handle serial (Write h n offset bytes) = (h ≡ handle) × (n ≡ serial)
IsWritten handle serial (Zero h n offset count) = (h ≡ handle) × (n ≡ serial)
IsWritten handle serial other = ⊥

-- The cause of a word, by the disk as the step began, its changes, and what was shown.
abbrev pub IsCaused : ServerDisk → List StoreChange → List Seen → Body → Type 0
IsCaused disk changes seen (body.Forward handle version serial id chunk c) = (place : ℕ) × (m : Mutation) × (element_at seen place ≡ Some (Numbered handle version serial id m)) × (change_of m ≡ c)
IsCaused disk changes seen (body.Acked handle version serial) =
    (row : Row) × (x : StoreChange) × (row_at disk handle.0 ≡ Some row) × (row.version.0 ≡ version.0) × (changes ≡ x ∷ []) × IsWritten handle serial x
IsCaused disk changes seen (body.Image handle version serial bytes) =
    (row : Row) × (row_at disk handle.0 ≡ Some row) × (row.version ≡ version) × (row.serial ≡ serial) × (read_at disk handle.0 0 row.count ≡ Some bytes)
IsCaused disk changes seen other = Unit {0}

-- what is stored of a forwarded change has its serial
written : (handle serial : ℕ) (kept : Option (List ℕ)) (named : Change) (x : StoreChange) (from end_place : ℕ) → IsStoredAs handle serial kept named x from end_place
    → IsWritten (handle_of handle) (serial_of serial) x
written handle serial kept (change.Write offset) x from end_place h = subst (IsWritten (handle_of handle) (serial_of serial)) (sym h.2) (refl, refl)
written handle serial kept (change.Append offset) x from end_place h = subst (IsWritten (handle_of handle) (serial_of serial)) (sym h.2) (refl, refl)
written handle serial kept (change.Pad offset end) x from end_place h = subst (IsWritten (handle_of handle) (serial_of serial)) (sym h.0) (refl, refl)

caused : (s : ServerState) (i : NodeInput) (d : ServerDoing) (receiver : Node) (b : Body) → IsSaid s i d receiver b → IsCaused s.disk d.changes d.seen b
caused s i d receiver (body.Forward handle version serial id chunk named) h = (h.1, h.0, h.2, h.3)
caused s i d receiver (body.Acked handle version serial) h =
    let t = h.0 in
    let c = t.f.c in
    let there : IsWritten c.handle c.serial t.x = written c.handle.0 c.serial.0 (data_of s.pushed c.id) c.named t.x t.from t.end_place t.stored in (
      t.f.row,
      t.x,
      subst (λ (q : Handle). row_at s.disk q.0 ≡ Some t.f.row) (sym h.1) t.f.found,
      t.f.same ∙ ap (λ (v : Version). v.0) (sym h.2),
      h.5,
      subst (λ (q : Handle). IsWritten q serial t.x) (sym h.1) (subst (λ (n : Serial). IsWritten c.handle n t.x) (sym h.3) there),
    )
caused s i d receiver (body.Image handle version serial bytes) h = (h.1, h.6, sym h.3, sym h.4, h.8)
caused s i d receiver other h = tt

all_caused : (s : ServerState) (i : NodeInput) (d : ServerDoing) (ms : List Message) → AllOf (IsWord s i d) ms → AllOf (λ m. IsCaused s.disk d.changes d.seen m.body) ms
all_caused s i d [] h = tt
all_caused s i d (m ∷ ms) h = (caused s i d m.receiver m.body h.0.1, all_caused s i d ms h.1)

-- the disk is as the step began until its end
disk_kept : (s : ServerState) (moment : ℕ) (i : NodeInput) → (server_goes s moment i).server.disk ≡ s.disk
disk_kept s moment i =
    goes_fine s (λ c. c.disk ≡ s.disk) (λ c. c.disk ≡ s.disk)
    (record {
      begins = λ c h. h;
      orders = λ c order h. h;
      drops = λ c handle h. h;
      puts = λ c handle version serial bytes none short h. h;
      raises = λ c handle version r there h. h;
      copies = λ c handle copy version none h. h;
      grants = λ c handle version until chunk members holds h. h;
      holds = λ c leases from h. h;
      settles = λ c handle version serial h. h;
      numbers = λ c handle p id m n h. h;
      spoils = λ c handle p id m n h. h;
      applies = λ c handle serial r x there less writing h. h;
    }) moment i refl

-- What a step sends has its cause in the step, which went through.
pub record Causes (s : ServerState) (t : Taken ServerState) : Type 0 where
  pub changes : List StoreChange
  pub disk : t.state.disk ≡ disk_changed_by_all s.disk changes
  pub caused : AllOf (λ m. IsCaused s.disk changes t.seen m.body) t.out.sent

ends_caused : (s : ServerState) (moment : ℕ) (i : NodeInput) (choice : Choice) (e : Ending)
    → ((server_ends s (server_goes s moment i) choice e).out.sent ≡ []) ⊎ Causes s (server_ends s (server_goes s moment i) choice e)
ends_caused s moment i choice Goes =
    let d : ServerDoing = server_goes s moment i in
    inr (record { changes = d.changes; disk = same_disk; caused = all_in_order (λ m. IsCaused s.disk d.changes d.seen m.body) choice.order d.sent (all_caused (server_at s moment) i d d.sent (goes_says s moment i)) })
  where
    same_disk : disk_changed_by_all (server_goes s moment i).server.disk (server_goes s moment i).changes ≡ disk_changed_by_all s.disk (server_goes s moment i).changes
    same_disk = ap (λ (d : ServerDisk). disk_changed_by_all d (server_goes s moment i).changes) (disk_kept s moment i)
ends_caused s moment i choice Lost = inl refl
ends_caused s moment i choice (Stops made) = inl refl

pub step_caused : (s : ServerState) (moment : ℕ) (i : NodeInput) (choice : Choice) → ((server_step s moment i choice).out.sent ≡ []) ⊎ Causes s (server_step s moment i choice)
step_caused s moment i choice =
    on_cond (λ (t : Taken ServerState). (t.out.sent ≡ []) ⊎ Causes s t) s.up (server_ends s (server_goes s moment i) choice choice.ending) (no_step s) (λ _. ends_caused s moment i choice choice.ending) (λ _. inl refl)
