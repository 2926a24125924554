-- What a server says and shows in a step, each with its cause, and which pushed data it keeps, as a record of what a law needs of it.
use Rattle.std.proofs.Common.{◌≡◌, ◌+◌, ℕ, Bool, true, false, List, Some, refl, sym, subst}
use Rattle.gfs_types.specs.declared.ids.Node.{Node}
use Rattle.gfs_types.specs.declared.ids.DataId.{DataId}
use Rattle.gfs_types.specs.declared.ids.Handle.{Handle}
use Rattle.gfs_types.specs.declared.ids.Version.{Version as VersionId}
use Rattle.gfs_types.specs.declared.ids.Serial.{Serial}
use Rattle.gfs_types.specs.declared.ids.Moment.{Moment}
use Rattle.gfs_types.specs.declared.mutation.Mutation.{Mutation}
use Rattle.messages.specs.declared.message.Body.{Body}
use Rattle.messages.specs.declared.message.Body.TheVariants as body
use Rattle.messages.specs.declared.message.Message.{Message}
use Rattle.messages.specs.declared.message.Target.{Target}
use Rattle.messages.specs.declared.event.NodeInput.{NodeInput}
use Rattle.messages.specs.declared.event.NodeInput.TheVariants as input
use Rattle.data_push.specs.Buffers.{data_of}
use Rattle.replica_store.specs.declared.row.Row.{Row}
use Rattle.replica_store.specs.Replicas.{row_at, read_at}
use Rattle.primary_order.specs.SerialOrder.{SerialOrder, IsNew, attempted}
use Rattle.protocol.specs.Sending.{handle_of, version_of, serial_of}
use Rattle.protocol.specs.Choice.{Choice, Ending, Goes, Lost, Stops}
use Rattle.protocol.specs.Seen.{Taken, no_step}
use Rattle.protocol.specs.declared.seen.Seen.{Seen}
use Rattle.protocol.specs.declared.seen.Seen.TheVariants.{Numbered, BecameSettled, CopyStarted}
use Rattle.protocol.specs.Server.{ServerState, ServerDoing, primary_of}
use Rattle.protocol.specs.ServerStep.{server_at, server_goes, server_ends, server_step}
use Rattle.laws_base.proofs.Steps.{on_cond}
use Rattle.laws_base.proofs.Entries.{AllOf}
use Rattle.laws_base.proofs.ServerWalk.{IsPlacedOf, Pushing}
use Rattle.laws_base.proofs.ServerSays.{IsSaid, IsShown, server_tells, step_says, step_shows}

-- words that need no cause here: all but an answer to a reading, and pushed data
abbrev pub is_quiet : Body → Bool
is_quiet (body.Bytes number bytes) = false
is_quiet (body.LenIs number count) = false
is_quiet (body.Push id bytes rest) = false
is_quiet (body.Mutate id handle version t deadline) = false
is_quiet (body.Read number handle version offset count) = false
is_quiet (body.Len number handle version) = false
is_quiet (body.Ask number file wanted deadline lost) = false
is_quiet (body.Told number location) = false
is_quiet other = true

-- Of a server s that takes an input: W of what it says to a node, V of what it shows, B of data that it keeps.
pub record Talks (s : ServerState) (i : NodeInput) (W : Node → Body → Type 0) (V : Seen → Type 0) (B : DataId × List ℕ → Type 0) : Type 0 where
  pub quiet : (receiver : Node) (b : Body) → is_quiet b ≡ true → W receiver b
  pub reads : (m : Message) (number : ℕ) (handle : Handle) (version : VersionId) (offset count : ℕ) (r : Row) (bytes : List ℕ) → i ≡ input.Deliver m
      → m.body ≡ body.Read number handle version offset count
      → row_at s.disk handle.0 ≡ Some r → r.version.0 ≡ version.0 → read_at s.disk handle.0 offset count ≡ Some bytes → W m.sender (body.Bytes number bytes)
  pub lengths : (m : Message) (number : ℕ) (handle : Handle) (version : VersionId) (r : Row) → i ≡ input.Deliver m → m.body ≡ body.Len number handle version
      → row_at s.disk handle.0 ≡ Some r → r.version.0 ≡ version.0 → W m.sender (body.LenIs number r.count)
  pub pushes : (m : Message) (id : DataId) (bytes rest : List ℕ) → i ≡ input.Deliver m → m.body ≡ body.Push id bytes rest
      → B (id, bytes) × ((receiver : Node) (hops : List ℕ) → W receiver (body.Push id bytes hops))
  pub settled : (handle : Handle) (version : VersionId) (serial : Serial) → V (BecameSettled handle version serial)
  pub numbers : (m : Message) (id : DataId) (handle : Handle) (version : VersionId) (t : Target) (deadline : Moment) (p : SerialOrder) (bytes : List ℕ) (placed : Mutation) → i ≡ input.Deliver m → m.body ≡ body.Mutate id handle version t deadline
      → primary_of s handle.0 version.0 ≡ Some p → attempted p id.client id.seq ≡ IsNew → data_of s.pushed id ≡ Some bytes → IsPlacedOf t bytes placed
      → V (Numbered (handle_of handle.0) (version_of p.held.version) (serial_of (p.serial + 1)) id placed)

-- what a step says, shows and keeps
abbrev pub IsTalk : (Node → Body → Type 0) → (Seen → Type 0) → (DataId × List ℕ → Type 0) → Taken ServerState → Type 0
IsTalk W V B t = AllOf (λ m. W m.receiver m.body) t.out.sent × AllOf V t.seen × AllOf B t.state.pushed.entries

module _ (s : ServerState) (i : NodeInput) (W : Node → Body → Type 0) (V : Seen → Type 0) (B : DataId × List ℕ → Type 0) (k : Talks s i W V B) where
  said : (d : ServerDoing) (receiver : Node) (b : Body) → IsSaid s i d receiver b → W receiver b
  said d receiver (body.Bytes number bytes) h =
      let c = h.0 in
      subst (λ (x : Node). W x (body.Bytes number bytes)) (sym h.3)
      (subst (λ (n : ℕ). W c.m.sender (body.Bytes n bytes)) (sym h.2) (k.reads c.m c.number c.handle c.version c.offset c.count h.1 bytes c.came c.is h.4 h.5 h.6))
  said d receiver (body.LenIs number count) h =
      let c = h.0 in
      subst (λ (x : Node). W x (body.LenIs number count)) (sym h.3)
      (subst (λ (n : ℕ). W c.m.sender (body.LenIs n count)) (sym h.2)
      (subst (λ (n : ℕ). W c.m.sender (body.LenIs c.number n)) (sym h.6) (k.lengths c.m c.number c.handle c.version h.1 c.came c.is h.4 h.5)))
  said d receiver (body.Push id bytes hops) h =
      let c = h.0 in
      subst (λ (x : DataId). W receiver (body.Push x bytes hops)) (sym h.1)
      (subst (λ (xs : List ℕ). W receiver (body.Push c.id xs hops)) (sym h.2) ((k.pushes c.m c.id c.bytes c.rest c.came c.is).1 receiver hops))
  said d receiver (body.Mutate id handle version aim deadline) h = absurd h
  said d receiver (body.Read number handle version offset count) h = absurd h
  said d receiver (body.Len number handle version) h = absurd h
  said d receiver (body.Ask number file wanted deadline lost) h = absurd h
  said d receiver (body.Told number location) h = absurd h
  said d receiver other h = k.quiet receiver other refl

  shown : (x : Seen) → IsShown s i x → V x
  shown (Numbered handle version serial id m) h =
      let n = h.0 in
      let c = n.a.c in
      subst (λ (x : Handle). V (Numbered x version serial id m)) (sym h.1.0)
      (subst (λ (v : ℕ). V (Numbered c.handle (version_of v) serial id m)) (sym h.1.1)
      (subst (λ (v : ℕ). V (Numbered c.handle (version_of n.a.p.held.version) (serial_of v) id m)) (sym h.1.2)
      (subst (λ (x : DataId). V (Numbered c.handle (version_of n.a.p.held.version) (serial_of (n.a.p.serial + 1)) x m)) (sym h.2)
      (subst (λ (x : Mutation). V (Numbered c.handle (version_of n.a.p.held.version) (serial_of (n.a.p.serial + 1)) c.id x)) (sym h.3)
      (k.numbers c.m c.id c.handle c.version c.aim c.deadline n.a.p n.bytes n.placed c.came c.is n.a.primary n.a.new n.pushed n.of)))))
  shown (BecameSettled handle version serial) h = k.settled handle version serial
  shown (CopyStarted handle copy) h = absurd h

  pushed : (c : Pushing i) → B (c.id, c.bytes)
  pushed c = (k.pushes c.m c.id c.bytes c.rest c.came c.is).0

pub step_said : (W : Node → Body → Type 0) (V : Seen → Type 0) (B : DataId × List ℕ → Type 0) (s : ServerState) (moment : ℕ) (i : NodeInput) (choice : Choice)
    → Talks (server_at s moment) i W V B → AllOf B s.pushed.entries
    → IsTalk W V B (server_step s moment i choice)
step_said W V B s moment i choice k kept = (
  step_says (λ m. W m.receiver m.body) s moment i choice (λ m word. said (server_at s moment) i W V B k (server_goes s moment i) m.receiver m.body word.1),
  step_shows V s moment i choice (shown (server_at s moment) i W V B k),
  on_cond (λ (t : Taken ServerState). AllOf B t.state.pushed.entries) s.up (server_ends s (server_goes s moment i) choice choice.ending) (no_step s) (λ _. by_ending choice.ending) (λ _. kept),
)
  where
    by_ending : (e : Ending) → AllOf B (server_ends s (server_goes s moment i) choice e).state.pushed.entries
    by_ending Goes = (server_tells s moment i B (pushed (server_at s moment) i W V B k) kept).2
    by_ending Lost = tt
    by_ending (Stops made) = tt
