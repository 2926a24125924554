-- Pushed data stem from their client, on the way and at servers; and a Mutate is sent by the client of its data.
use Rattle.std.proofs.Common.{◌≡◌, ℕ, zero, suc, ◌-◌, Bool, true, false, cond, List, [], ◌∷◌, ◌++◌, length, map, Option, Some, None, refl, sym, ap, subst, ◌∙◌, inl, inr}
use Rattle.std.specs.Prelude.{◌==◌, ◌&&◌}
use Rattle.std.specs.Option.{option_to_list}
use Rattle.std.specs.Map.{lookup}
use Rattle.std.specs.FinMap as table
use Rattle.std.proofs.lemmas.Bool.{and_parts, eqb-true}
use Rattle.gfs_types.specs.declared.config.Config.{Config}
use Rattle.gfs_types.specs.declared.ids.Node.{Node}
use Rattle.gfs_types.specs.declared.ids.Node.TheVariants as node
use Rattle.gfs_types.specs.declared.ids.DataId.{DataId}
use Rattle.gfs_types.specs.declared.mutation.Mutation.{Mutation}
use Rattle.gfs_types.specs.declared.mutation.Mutation.TheVariants as mutation
use Rattle.messages.specs.declared.message.Message.{Message}
use Rattle.messages.specs.declared.message.Body.{Body}
use Rattle.messages.specs.declared.message.Body.TheVariants as body
use Rattle.messages.specs.declared.message.Target.{Target}
use Rattle.messages.specs.declared.message.Target.TheVariants as target
use Rattle.messages.specs.declared.event.Event.{Event}
use Rattle.messages.specs.declared.event.Event.TheVariants as event
use Rattle.messages.specs.declared.event.NodeInput.{NodeInput}
use Rattle.messages.specs.declared.event.NodeInput.TheVariants as input
use Rattle.laws_base.proofs.Rots.{rot_by}
use Rattle.data_push.specs.Buffers.{same_id}
use Rattle.leases.specs.LeaseHeld.{counts_at}
use Rattle.primary_order.specs.SerialOrder.{SerialOrder}
use Rattle.protocol.specs.Tables.{element_at, with_at, first_numbers}
use Rattle.protocol.specs.Sending.{data_id, version_of, the_server, the_client}
use Rattle.protocol.specs.Choice.{Choice, Ending, Goes, Lost, Stops}
use Rattle.protocol.specs.declared.seen.Seen.{Seen}
use Rattle.protocol.specs.declared.seen.Seen.TheVariants.{Numbered}
use Rattle.replica_store.specs.Replicas.{new_server_disk}
use Rattle.protocol.specs.Client.{ClientState, ClientDoing}
use Rattle.protocol.specs.ClientStep.{client_at, client_step, client_call}
use Rattle.protocol.specs.Server.{ServerState, started_server, counting_primary, primary_of}
use Rattle.protocol.specs.ServerStep.{server_at, server_step, server_restarts, server_restart}
use Rattle.protocol.specs.MasterStep.{master_step, master_restart}
use Rattle.protocol.specs.World.{WorldState, stamped, new_world, after_rot}
use Rattle.laws_base.proofs.Steps.{none_some, same_some}
use Rattle.laws_base.proofs.Entries.{AllOf}
use Rattle.laws_base.proofs.RisingOrders.{set_cases, element_numbered}
use Rattle.laws_base.proofs.MembersRecorded.{all_at}
use Rattle.laws_base.proofs.MessagesSent.{IsSent, sent_before, sent_after}
use Rattle.laws_base.proofs.Events.{IsGiven, HoldsAfter, world_reached, rot_of}
use Rattle.laws_base.proofs.ClientNumbers.{IsSaid, IsStepOf, of_step, of_call}
use Rattle.laws_base.proofs.RequestsOnce.{AreNumbered, each_event, numbered_reached, later_cases}
use Rattle.laws_base.proofs.MasterTalks.{is_masters, MasterTalks, master_said, restart_said}
use Rattle.laws_base.proofs.ServerWalk.{IsPlacedOf}
use Rattle.laws_base.proofs.ServerTalks.{is_quiet, Talks, step_said}
use Rattle.laws_base.specs.Entries.{IsPushed, IsPlacedFor, IsAskedFor, NumberedMutationsWereAskedFor}

-- data and mutations are of their client
abbrev IsStemmed : List Message → Node → Body → Type 0
IsStemmed sent sender (body.Push id bytes rest) = IsPushed sent id bytes
IsStemmed sent sender (body.Mutate id handle version aim deadline) = sender ≡ the_client id.client.0
IsStemmed sent sender other = Unit {0}

abbrev IsPair : List Message → DataId × List ℕ → Type 0
IsPair sent x = IsPushed sent x.0 x.1

pub pushed_later : (sent more : List Message) (id : DataId) (bytes : List ℕ) → IsPushed sent id bytes → IsPushed (sent ++ more) id bytes
pushed_later sent more id bytes h = record { push = h.push; rest = h.rest; sent_is = sent_before sent more h.push h.sent_is; sender_is = h.sender_is; body_is = h.body_is }

stemmed_later : (sent more : List Message) (sender : Node) (b : Body) → IsStemmed sent sender b → IsStemmed (sent ++ more) sender b
stemmed_later sent more sender (body.Push id bytes rest) h = pushed_later sent more id bytes h
stemmed_later sent more sender (body.Mutate id handle version aim deadline) h = h
stemmed_later sent more sender other h = tt

pairs_later : (sent more : List Message) (es : List (DataId × List ℕ)) → AllOf (IsPair sent) es → AllOf (IsPair (sent ++ more)) es
pairs_later sent more [] all = tt
pairs_later sent more (e ∷ es) all = (pushed_later sent more e.0 e.1 all.0, pairs_later sent more es all.1)

-- the master

masters_stem : (sent : List Message) (sender : Node) (b : Body) → is_masters b ≡ true → IsStemmed sent sender b
masters_stem sent sender (body.Push id bytes rest) is = absurd (let both : false ≡ true = is in cc)
masters_stem sent sender (body.Mutate id handle version aim deadline) is = absurd (let both : false ≡ true = is in cc)
masters_stem sent sender other is = tt

master_talks : (sent : List Message) → MasterTalks (λ m. IsStemmed sent m.sender m.body)
master_talks sent = record { plain = λ receiver b is. masters_stem sent node.Master b is; locates = λ receiver number l current. tt }

-- a client

clients_stem : (sent : List Message) (s t : ClientState) (m : Message) → m.sender ≡ the_client s.id → IsSent sent m → (b : Body) → m.body ≡ b → IsSaid s t b → IsStemmed sent m.sender b
clients_stem sent s t m from there (body.Push id bytes rest) is said =
    record { push = m; rest = rest; sent_is = there; sender_is = from ∙ ap (λ (n : ℕ). the_client n) (sym said.0); body_is = is }
clients_stem sent s t m from there (body.Mutate id handle version aim deadline) is said = from ∙ ap (λ (n : ℕ). the_client n) (sym said.0)
clients_stem sent s t m from there other is said = tt

client_stems : (sent : List Message) (k : ℕ) (s : ClientState) (d : ClientDoing) (o : Option Message) → IsStepOf s d → d.sent ≡ o → AllOf (λ m. IsStemmed (sent ++ stamped k (option_to_list o)) m.sender m.body) (option_to_list o)
client_stems sent k s d None step is = tt
client_stems sent k s d (Some m) step is =
    let said = step.says m is in
    (clients_stem (sent ++ stamped k (m ∷ [])) s d.client (record m { number = k }) said.0 (sent_after sent (stamped k (m ∷ [])) (record m { number = k }) (zero, refl)) m.body refl said.1, tt)

-- a server

servers_stem : (sent : List Message) (b : Body) → is_quiet b ≡ true → (sender : Node) → IsStemmed sent sender b
servers_stem sent (body.Push id bytes rest) is sender = absurd (let both : false ≡ true = is in cc)
servers_stem sent (body.Mutate id handle version aim deadline) is sender = absurd (let both : false ≡ true = is in cc)
servers_stem sent other is sender = tt

found_data : (sent : List Message) (id : DataId) (bytes : List ℕ) (es : List (DataId × List ℕ)) → AllOf (IsPair sent) es → lookup (same_id id) es ≡ Some bytes → IsPushed sent id bytes
found_data sent id bytes [] all is = none_some bytes is
found_data sent id bytes (e ∷ es) all is = by_test (same_id id e.0) refl (λ g. found_data sent id bytes es all.1 g) is
  where
    here : same_id id e.0 ≡ true → e.1 ≡ bytes → IsPushed sent id bytes
    here at same =
        let parts = and_parts (id.client.0 == (e.0).client.0) (id.seq == (e.0).seq) at in
        let client = eqb-true id.client.0 (e.0).client.0 parts.0 in
        let seq = eqb-true id.seq (e.0).seq parts.1 in
        let one : e.0 ≡ id = ap (λ (n : ℕ). data_id n (e.0).seq) (sym client) ∙ ap (λ (n : ℕ). data_id id.client.0 n) (sym seq) in
        subst (λ (x : DataId). IsPushed sent x bytes) one (subst (λ (x : List ℕ). IsPushed sent e.0 x) same all.0)

    by_test : (b : Bool) → same_id id e.0 ≡ b → (lookup (same_id id) es ≡ Some bytes → IsPushed sent id bytes) → cond b (Some e.1) (lookup (same_id id) es) ≡ Some bytes → IsPushed sent id bytes
    by_test true at rest g = here at (same_some e.1 bytes g)
    by_test false at rest g = rest g

held_version : (s : ServerState) (version : ℕ) (o : Option SerialOrder) (p : SerialOrder) → counting_primary s version o ≡ Some p → p.held.version ≡ version
held_version s version None p is = none_some p is
held_version s version (Some q) p is = by_test ((q.held.version == version) && counts_at s.config.skew_ms q.held s.now) refl is
  where
    by_test : (b : Bool) → (q.held.version == version) && counts_at s.config.skew_ms q.held s.now ≡ b → cond b (Some q) None ≡ Some p → p.held.version ≡ version
    by_test true at g = sym (ap (λ (x : SerialOrder). x.held.version) (same_some q p g)) ∙ eqb-true q.held.version version (and_parts (q.held.version == version) (counts_at s.config.skew_ms q.held s.now) at).0
    by_test false at g = none_some p g

placed_for : (aim : Target) (bytes : List ℕ) (m : Mutation) → IsPlacedOf aim bytes m → IsPlacedFor aim bytes m
placed_for (target.Write at) bytes (mutation.Write offset written) h = h
placed_for target.Append bytes (mutation.Append offset written) h = h
placed_for target.Append bytes (mutation.Pad offset end) h = tt
placed_for (target.Write at) bytes (mutation.Append offset written) h = absurd h
placed_for (target.Write at) bytes (mutation.Pad offset end) h = absurd h
placed_for target.Append bytes (mutation.Write offset written) h = absurd h

-- what a step shows was asked for
abbrev IsShown : ServerState → List Message → NodeInput → Seen → Type 0
IsShown s sent i (Numbered handle version serial id placed) = (m : Message) × (i ≡ input.Deliver m) × IsAskedFor s sent m handle version serial id placed
IsShown s sent i other = Unit {0}

-- messages that were sent are stemmed
abbrev AreStems : List Message → Type 0
AreStems sent = (place : ℕ) (m : Message) → element_at sent place ≡ Some m → IsStemmed sent m.sender m.body

module _ (sent : List Message) (s : ServerState) (i : NodeInput) (came : (m : Message) → i ≡ input.Deliver m → IsSent sent m) (stems : AreStems sent) (kept : AllOf (IsPair sent) s.pushed.entries) where
  stem_of : (m : Message) (b : Body) → i ≡ input.Deliver m → m.body ≡ b → IsStemmed sent m.sender b
  stem_of m b is at = let there = came m is in subst (λ (x : Body). IsStemmed sent m.sender x) at (stems there.0 m there.1)

  talks : Talks s i (λ r b. (sender : Node) → IsStemmed sent sender b) (IsShown s sent i) (IsPair sent)
  talks =
      record {
        quiet = λ receiver b is. servers_stem sent b is;
        reads = λ m number handle version offset count r bytes is asked row same there sender. tt;
        lengths = λ m number handle version r is asked row same sender. tt;
        pushes = λ m id bytes rest is asked. let one = stem_of m (body.Push id bytes rest) is asked in (one, λ receiver hops sender. one);
        settled = λ handle version serial. tt;
        numbers = λ m id handle version aim deadline p bytes placed is asked primary new there fit.
            let same : p.held.version ≡ version.0 = held_version s version.0 (table.get s.leases handle.0) p primary in (
              m,
              is,
              record {
                aim = aim;
                deadline = deadline;
                body_is = asked ∙ ap (λ (v : ℕ). body.Mutate id handle (version_of v) aim deadline) (sym same);
                sender_is = stem_of m (body.Mutate id handle version aim deadline) is asked;
                bytes = bytes;
                pushed = found_data sent id bytes s.pushed.entries kept there;
                fits = placed_for aim bytes placed fit;
                lease = p;
                lease_is = ap (λ (v : ℕ). primary_of s handle.0 v) same ∙ primary;
                next = refl;
                new = new;
              },
            );
      }

-- worlds

pub record AreStemmed (w : WorldState) : Type 0 where
  pub numbered : AreNumbered w.sent w.clients
  pub stems : AreStems w.sent
  pub kept : (index : ℕ) (s : ServerState) → element_at w.servers index ≡ Some s → AllOf (IsPair w.sent) s.pushed.entries

more_stems : (sent ms : List Message) (k : ℕ) → AreStems sent → AllOf (λ m. IsStemmed (sent ++ stamped k ms) m.sender m.body) ms → AreStems (sent ++ stamped k ms)
more_stems sent ms k h all place m at =
    elim (later_cases sent k ms place m at) [
      | inl before ↦ stemmed_later sent (stamped k ms) m.sender m.body (h place m before)
      | inr new ↦
          let one = all_at (λ (x : Message). IsStemmed (sent ++ stamped k ms) x.sender x.body) ms (new.1).0 new.0 all (new.1).1 in
          subst (λ (n : Node). IsStemmed (sent ++ stamped k ms) n m.body) (new.2).0 (subst (λ (b : Body). IsStemmed (sent ++ stamped k ms) (new.0).sender b) (new.2).2 one)
    ]

all_stems_later : (sent more ms : List Message) → AllOf (λ m. (sender : Node) → IsStemmed sent sender m.body) ms → AllOf (λ m. IsStemmed (sent ++ more) m.sender m.body) ms
all_stems_later sent more [] all = tt
all_stems_later sent more (m ∷ ms) all = (stemmed_later sent more m.sender m.body (all.0 m.sender), all_stems_later sent more ms all.1)

others_keep : (w : WorldState) (more : List Message) → AreStemmed w → (index : ℕ) (s : ServerState) → element_at w.servers index ≡ Some s → AllOf (IsPair (w.sent ++ more)) s.pushed.entries
others_keep w more h index s at = pairs_later w.sent more s.pushed.entries (h.kept index s at)

one_keeps : (w : WorldState) (more : List Message) (index : ℕ) (t : ServerState) → AreStemmed w → AllOf (IsPair (w.sent ++ more)) t.pushed.entries
    → (other : ℕ) (u : ServerState) → element_at (with_at w.servers index t) other ≡ Some u → AllOf (IsPair (w.sent ++ more)) u.pushed.entries
one_keeps w more index t h here other u at =
    elim (set_cases w.servers index t other u at) [
      | inl both ↦ subst (λ (x : ServerState). AllOf (IsPair (w.sent ++ more)) x.pushed.entries) (sym both.1) here
      | inr there ↦ others_keep w more h other u there
    ]

abbrev message_in : NodeInput → Option Message
message_in (input.Deliver m) = Some m
message_in input.Tick = None

pub came_in : (w : WorldState) (e : Event) (server moment : ℕ) (i : NodeInput) → IsGiven w e (the_server server) moment i → (m : Message) → i ≡ input.Deliver m → IsSent w.sent m
came_in w (event.Deliver number now) server moment (input.Deliver x) is m same = subst (λ (y : Message). IsSent w.sent y) (same_some x m (ap message_in same)) (number - 1, element_numbered w.sent number x is.0)
came_in w (event.Call c asked now) server moment (input.Deliver x) is m same = absurd is
came_in w (event.Tick to now) server moment (input.Deliver x) is m same = absurd is
came_in w (event.Restart n now) server moment (input.Deliver x) is m same = absurd is
came_in w (event.Rot n handle place byte) server moment (input.Deliver x) is m same = absurd is
came_in w (event.Fuse n count torn) server moment (input.Deliver x) is m same = absurd is
came_in w e server moment input.Tick is m same = none_some m (ap message_in same)

restart_silent : (s : ServerState) (moment : ℕ) (choice : Choice) (e : Ending) (P : Message → Type 0) → AllOf P (server_restarts s moment choice e).out.sent
restart_silent s moment choice Goes P = tt
restart_silent s moment choice Lost P = tt
restart_silent s moment choice (Stops made) P = tt

restart_keeps : (s : ServerState) (moment : ℕ) (choice : Choice) (e : Ending) (sent : List Message) → AllOf (IsPair sent) (server_restarts s moment choice e).state.pushed.entries
restart_keeps s moment choice Goes sent = tt
restart_keeps s moment choice Lost sent = tt
restart_keeps s moment choice (Stops made) sent = tt

each_stemmed : (w : WorldState) → AreStemmed w → HoldsAfter w (λ e x. AreStemmed x.world)
each_stemmed w h =
    let numbered = each_event w h.numbered in
    let k : ℕ = suc (length w.sent) in
    record {
      nothing = λ e. h;
      masters = λ e moment i choice is up.
          let ms : List Message = (master_step w.master moment i choice).out.sent in
          let more : List Message = stamped k ms in
          record { numbered = numbered.masters e moment i choice is up; stems = more_stems w.sent ms k h.stems (master_said _ (master_talks (w.sent ++ more)) w.master moment i choice); kept = others_keep w more h };
      opens = λ e moment choice.
          let ms : List Message = (master_restart w.master moment choice).out.sent in
          let more : List Message = stamped k ms in
          record { numbered = numbered.opens e moment choice; stems = more_stems w.sent ms k h.stems (restart_said _ (master_talks (w.sent ++ more)) w.master moment choice); kept = others_keep w more h };
      serves = λ e index moment s i choice at is up.
          let t : ServerState = (server_step s moment i choice).state in
          let ms : List Message = (server_step s moment i choice).out.sent in
          let more : List Message = stamped k ms in
          let said = step_said (λ r b. (sender : Node) → IsStemmed w.sent sender b) (IsShown (server_at s moment) w.sent i) (IsPair w.sent) s moment i choice
          (talks w.sent (server_at s moment) i (came_in w e (suc index) moment i is) h.stems (h.kept index s at)) (h.kept index s at) in
          record { numbered = numbered.serves e index moment s i choice at is up; stems = more_stems w.sent ms k h.stems (all_stems_later w.sent more ms said.0); kept = one_keeps w more index t h (pairs_later w.sent more t.pushed.entries said.2) };
      restarts = λ e index moment s choice at.
          let t : ServerState = (server_restart s moment choice).state in
          let ms : List Message = (server_restart s moment choice).out.sent in
          let more : List Message = stamped k ms in
          record {
            numbered = numbered.restarts e index moment s choice at;
            stems = more_stems w.sent ms k h.stems (restart_silent s moment choice choice.ending (λ m. IsStemmed (w.sent ++ more) m.sender m.body));
            kept = one_keeps w more index t h (restart_keeps s moment choice choice.ending (w.sent ++ more));
          };
      steps = λ e index moment s i choice at is up.
          let ms : List Message = (client_step s moment i choice).out.sent in
          record {
            numbered = numbered.steps e index moment s i choice at is up;
            stems = more_stems w.sent ms k h.stems
                (of_step (λ t xs. AllOf (λ m. IsStemmed (w.sent ++ stamped k xs) m.sender m.body) xs) s moment i choice (h.numbered.each index s at).named (λ d step. client_stems w.sent k (client_at s moment) d d.sent step refl) tt tt);
            kept = others_keep w (stamped k ms) h;
          };
      calls = λ e index moment s c choice at may.
          let ms : List Message = (client_call s moment c choice).out.sent in
          record {
            numbered = numbered.calls e index moment s c choice at may;
            stems = more_stems w.sent ms k h.stems
                (of_call (λ t xs. AllOf (λ m. IsStemmed (w.sent ++ stamped k xs) m.sender m.body) xs) s moment c choice (h.numbered.each index s at).named (λ d step. client_stems w.sent k (client_at s moment) d d.sent step refl) tt);
            kept = others_keep w (stamped k ms) h;
          };
      rots = λ e index handle s r place byte ending is_kept at there up. record {
        numbered = h.numbered;
        stems = h.stems;
        kept = λ other u is.
            elim (set_cases w.servers index (after_rot s (rot_of handle place byte) ending) other u is) [
              | inl both ↦ subst (λ (x : ServerState). AllOf (IsPair w.sent) x.pushed.entries) (sym both.1) (rot_by (λ t. AllOf (IsPair w.sent) t.pushed.entries) s (rot_of handle place byte) ending (h.kept index s at) (λ d xs. tt))
              | inr before ↦ h.kept other u before
            ];
      };
    }

new_servers : (config : Config) (ns : List ℕ) (index : ℕ) (s : ServerState) → element_at (map (λ n. started_server config n (new_server_disk config.chunk config.block config.slots) 0) ns) index ≡ Some s → AllOf (IsPair []) s.pushed.entries
new_servers config [] index s is = none_some s is
new_servers config (n ∷ ns) zero s is = subst (λ (x : ServerState). AllOf (IsPair []) x.pushed.entries) (same_some (started_server config n (new_server_disk config.chunk config.block config.slots) 0) s is) tt
new_servers config (n ∷ ns) (suc index) s is = new_servers config ns index s is

new_stemmed : (config : Config) (servers clients : ℕ) → AreStemmed (new_world config servers clients)
new_stemmed config servers clients =
    record {
      numbered = numbered_reached config servers clients (new_world config servers clients) ([], refl);
      stems = λ place m none. none_some m none;
      kept = new_servers config (first_numbers servers);
    }

pub numbered_mutations_were_asked_for : NumberedMutationsWereAskedFor
numbered_mutations_were_asked_for config servers clients w r index s at moment i choice came place handle version serial id placed is =
    let h : AreStemmed w = world_reached AreStemmed each_stemmed new_stemmed config servers clients w r in
    let said = step_said (λ r b. (sender : Node) → IsStemmed w.sent sender b) (IsShown (server_at s moment) w.sent i) (IsPair w.sent) s moment i choice
    (talks w.sent (server_at s moment) i came h.stems (h.kept index s at)) (h.kept index s at) in
    all_at (IsShown (server_at s moment) w.sent i) (server_step s moment i choice).seen place (Numbered handle version serial id placed) said.1 is
