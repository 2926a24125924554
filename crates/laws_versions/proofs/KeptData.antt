-- What a server keeps as pushed is what the client pushed, and so what each entry of these data carries.
use Rattle.std.proofs.Common.{◌≡◌, ℕ, zero, suc, Bool, true, false, cond, List, [], ◌∷◌, ◌++◌, length, Option, Some, None, refl, sym, ap, subst, ◌∙◌, inl, inr}
use Rattle.std.specs.Prelude.{◌==◌}
use Rattle.std.specs.Option.{option_to_list}
use Rattle.std.specs.Map.{lookup}
use Rattle.std.proofs.lemmas.Bool.{and_parts, eqb-true}
use Rattle.gfs_types.specs.declared.config.Config.{Config}
use Rattle.gfs_types.specs.declared.ids.DataId.{DataId}
use Rattle.gfs_types.specs.declared.mutation.Mutation.{Mutation}
use Rattle.gfs_types.specs.declared.mutation.Mutation.TheVariants as mutation
use Rattle.messages.specs.declared.message.Message.{Message}
use Rattle.messages.specs.declared.message.Body.{Body}
use Rattle.messages.specs.declared.message.Body.TheVariants as body
use Rattle.messages.specs.declared.message.Target.{Target}
use Rattle.messages.specs.declared.message.Target.TheVariants as target
use Rattle.messages.specs.declared.event.NodeInput.{NodeInput}
use Rattle.messages.specs.declared.event.NodeInput.TheVariants as input
use Rattle.laws_base.proofs.Rots.{rot_by}
use Rattle.data_push.specs.Buffers.{same_id, data_of}
use Rattle.protocol.specs.Tables.{element_at, with_at}
use Rattle.protocol.specs.Sending.{data_id, the_client}
use Rattle.protocol.specs.Choice.{Choice, Ending, Goes, Lost, Stops}
use Rattle.protocol.specs.Observer.{Placed, order_of}
use Rattle.replica_store.specs.Replicas.{new_server_disk}
use Rattle.protocol.specs.Client.{ClientState, ClientDoing}
use Rattle.protocol.specs.ClientStep.{client_at, client_step, client_call}
use Rattle.protocol.specs.Server.{ServerState, started_server}
use Rattle.protocol.specs.ServerStep.{server_at, server_step, server_restarts, server_restart}
use Rattle.protocol.specs.MasterStep.{master_step, master_restart}
use Rattle.protocol.specs.World.{WorldState, stamped, new_world, IsReached, after_rot}
use Rattle.laws_base.proofs.Steps.{none_some, same_some}
use Rattle.laws_base.proofs.Entries.{AllOf, same_number}
use Rattle.laws_base.proofs.RisingOrders.{set_cases}
use Rattle.laws_base.proofs.LeasesTold.{numbered_from}
use Rattle.laws_base.proofs.MembersRecorded.{all_at}
use Rattle.laws_base.proofs.MessagesSent.{IsSent, sent_cases, sent_after, none_sent, numbered_sent}
use Rattle.laws_base.specs.Attempts.{is_request}
use Rattle.laws_base.proofs.Events.{HoldsAfter, world_reached, rot_of}
use Rattle.laws_base.proofs.ClientNumbers.{IsSaid, IsStepOf, of_step, of_call}
use Rattle.laws_base.proofs.RequestsOnce.{AreNumbered, each_event, numbered_reached, requests_are_numbered_once}
use Rattle.laws_base.proofs.MasterTalks.{is_masters, MasterTalks, master_said, restart_said}
use Rattle.laws_base.proofs.ServerTalks.{is_quiet, Talks, step_said}
use Rattle.laws_base.specs.Entries.{IsPushed, IsPlacedFor}
use Rattle.laws_base.proofs.Stemming.{pushed_later, came_in}
use Rattle.laws_base.specs.ChunkOrders.{HasMutate}
use Rattle.laws_base.proofs.Numbering.{entries_stem_from_mutates}
use Rattle.laws_base.proofs.ReadAnswers.{one_request}

abbrev IsStemmed : List Message → Body → Type 0
IsStemmed sent (body.Push id bytes rest) = IsPushed sent id bytes
IsStemmed sent other = Unit {0}

abbrev IsPair : List Message → DataId × List ℕ → Type 0
IsPair sent x = IsPushed sent x.0 x.1

stemmed_later : (sent more : List Message) (b : Body) → IsStemmed sent b → IsStemmed (sent ++ more) b
stemmed_later sent more (body.Push id bytes rest) h = pushed_later sent more id bytes h
stemmed_later sent more other h = tt

all_later : (sent more ms : List Message) → AllOf (λ m. IsStemmed sent m.body) ms → AllOf (λ m. IsStemmed (sent ++ more) m.body) ms
all_later sent more [] all = tt
all_later sent more (m ∷ ms) all = (stemmed_later sent more m.body all.0, all_later sent more ms all.1)

pairs_later : (sent more : List Message) (es : List (DataId × List ℕ)) → AllOf (IsPair sent) es → AllOf (IsPair (sent ++ more)) es
pairs_later sent more [] all = tt
pairs_later sent more (e ∷ es) all = (pushed_later sent more e.0 e.1 all.0, pairs_later sent more es all.1)

masters_stem : (sent : List Message) (b : Body) → is_masters b ≡ true → IsStemmed sent b
masters_stem sent (body.Push id bytes rest) is = absurd (let both : false ≡ true = is in cc)
masters_stem sent other is = tt

master_talks : (sent : List Message) → MasterTalks (λ m. IsStemmed sent m.body)
master_talks sent = record { plain = λ receiver b is. masters_stem sent b is; locates = λ receiver number l current. tt }

servers_stem : (sent : List Message) (b : Body) → is_quiet b ≡ true → IsStemmed sent b
servers_stem sent (body.Push id bytes rest) is = absurd (let both : false ≡ true = is in cc)
servers_stem sent other is = tt

clients_stem : (sent : List Message) (s t : ClientState) (m : Message) → m.sender ≡ the_client s.id → IsSent sent m → (b : Body) → m.body ≡ b → IsSaid s t b → IsStemmed sent b
clients_stem sent s t m from there (body.Push id bytes rest) is said = record { push = m; rest = rest; sent_is = there; sender_is = from ∙ ap (λ (n : ℕ). the_client n) (sym said.0); body_is = is }
clients_stem sent s t m from there other is said = tt

client_stems : (sent : List Message) (k : ℕ) (s : ClientState) (d : ClientDoing) (o : Option Message) → IsStepOf s d → d.sent ≡ o → AllOf (λ m. IsStemmed (sent ++ stamped k (option_to_list o)) m.body) (option_to_list o)
client_stems sent k s d None step is = tt
client_stems sent k s d (Some m) step is =
    let said = step.says m is in
    (clients_stem (sent ++ stamped k (m ∷ [])) s d.client (record m { number = k }) said.0 (sent_after sent (stamped k (m ∷ [])) (record m { number = k }) (zero, refl)) m.body refl said.1, tt)

abbrev AreStems : List Message → Type 0
AreStems sent = (m : Message) → IsSent sent m → IsStemmed sent m.body

talks : (sent : List Message) (s : ServerState) (i : NodeInput) → ((m : Message) → i ≡ input.Deliver m → IsSent sent m) → AreStems sent → Talks s i (λ r b. IsStemmed sent b) (λ x. Unit {0}) (IsPair sent)
talks sent s i came stems =
    record {
      quiet = λ receiver b is. servers_stem sent b is;
      reads = λ m number handle version offset count r bytes is asked row same there. tt;
      lengths = λ m number handle version r is asked row same. tt;
      pushes = λ m id bytes rest is asked. let one : IsPushed sent id bytes = subst (λ (b : Body). IsStemmed sent b) asked (stems m (came m is)) in (one, λ receiver hops. one);
      settled = λ handle version serial. tt;
      numbers = λ m id handle version aim deadline p bytes placed is asked primary new there fit. tt;
    }

-- worlds

record AreKept (w : WorldState) : Type 0 where
  numbered : AreNumbered w.sent w.clients
  stems : AreStems w.sent
  kept : (index : ℕ) (s : ServerState) → element_at w.servers index ≡ Some s → AllOf (IsPair w.sent) s.pushed.entries

more_stems : (sent ms : List Message) (k : ℕ) → AreStems sent → AllOf (λ m. IsStemmed (sent ++ stamped k ms) m.body) ms → AreStems (sent ++ stamped k ms)
more_stems sent ms k h all m there =
    elim (sent_cases sent (stamped k ms) m there) [
      | inl before ↦ stemmed_later sent (stamped k ms) m.body (h m before)
      | inr now ↦
          let was = numbered_sent k ms now.0 m now.1 in
          subst (λ (b : Body). IsStemmed (sent ++ stamped k ms) b) (was.2).2 (all_at (λ (x : Message). IsStemmed (sent ++ stamped k ms) x.body) ms (was.1).0 was.0 all (was.1).1)
    ]

others_keep : (w : WorldState) (more : List Message) → AreKept w → (index : ℕ) (s : ServerState) → element_at w.servers index ≡ Some s → AllOf (IsPair (w.sent ++ more)) s.pushed.entries
others_keep w more h index s at = pairs_later w.sent more s.pushed.entries (h.kept index s at)

one_keeps : (w : WorldState) (more : List Message) (index : ℕ) (t : ServerState) → AreKept w → AllOf (IsPair (w.sent ++ more)) t.pushed.entries
    → (other : ℕ) (u : ServerState) → element_at (with_at w.servers index t) other ≡ Some u → AllOf (IsPair (w.sent ++ more)) u.pushed.entries
one_keeps w more index t h here other u at =
    elim (set_cases w.servers index t other u at) [
      | inl both ↦ subst (λ (x : ServerState). AllOf (IsPair (w.sent ++ more)) x.pushed.entries) (sym both.1) here
      | inr there ↦ others_keep w more h other u there
    ]

restart_silent : (s : ServerState) (moment : ℕ) (choice : Choice) (e : Ending) (P : Message → Type 0) → AllOf P (server_restarts s moment choice e).out.sent
restart_silent s moment choice Goes P = tt
restart_silent s moment choice Lost P = tt
restart_silent s moment choice (Stops made) P = tt

restart_keeps : (s : ServerState) (moment : ℕ) (choice : Choice) (e : Ending) (sent : List Message) → AllOf (IsPair sent) (server_restarts s moment choice e).state.pushed.entries
restart_keeps s moment choice Goes sent = tt
restart_keeps s moment choice Lost sent = tt
restart_keeps s moment choice (Stops made) sent = tt

each_kept : (w : WorldState) → AreKept w → HoldsAfter w (λ e x. AreKept x.world)
each_kept w h =
    let numbered = each_event w h.numbered in
    let k : ℕ = suc (length w.sent) in
    record {
      nothing = λ e. h;
      masters = λ e moment i choice is up.
          let ms : List Message = (master_step w.master moment i choice).out.sent in
          record { numbered = numbered.masters e moment i choice is up; stems = more_stems w.sent ms k h.stems (master_said _ (master_talks (w.sent ++ stamped k ms)) w.master moment i choice); kept = others_keep w (stamped k ms) h };
      opens = λ e moment choice.
          let ms : List Message = (master_restart w.master moment choice).out.sent in
          record { numbered = numbered.opens e moment choice; stems = more_stems w.sent ms k h.stems (restart_said _ (master_talks (w.sent ++ stamped k ms)) w.master moment choice); kept = others_keep w (stamped k ms) h };
      serves = λ e index moment s i choice at is up.
          let t : ServerState = (server_step s moment i choice).state in
          let ms : List Message = (server_step s moment i choice).out.sent in
          let more : List Message = stamped k ms in
          let said = step_said (λ r b. IsStemmed w.sent b) (λ x. Unit {0}) (IsPair w.sent) s moment i choice (talks w.sent (server_at s moment) i (came_in w e (suc index) moment i is) h.stems) (h.kept index s at) in
          record { numbered = numbered.serves e index moment s i choice at is up; stems = more_stems w.sent ms k h.stems (all_later w.sent more ms said.0); kept = one_keeps w more index t h (pairs_later w.sent more t.pushed.entries said.2) };
      restarts = λ e index moment s choice at.
          let t : ServerState = (server_restart s moment choice).state in
          let ms : List Message = (server_restart s moment choice).out.sent in
          let more : List Message = stamped k ms in
          record {
            numbered = numbered.restarts e index moment s choice at;
            stems = more_stems w.sent ms k h.stems (restart_silent s moment choice choice.ending (λ m. IsStemmed (w.sent ++ more) m.body));
            kept = one_keeps w more index t h (restart_keeps s moment choice choice.ending (w.sent ++ more));
          };
      steps = λ e index moment s i choice at is up.
          let ms : List Message = (client_step s moment i choice).out.sent in
          record {
            numbered = numbered.steps e index moment s i choice at is up;
            stems = more_stems w.sent ms k h.stems
                (of_step (λ t xs. AllOf (λ m. IsStemmed (w.sent ++ stamped k xs) m.body) xs) s moment i choice (h.numbered.each index s at).named (λ d step. client_stems w.sent k (client_at s moment) d d.sent step refl) tt tt);
            kept = others_keep w (stamped k ms) h;
          };
      calls = λ e index moment s c choice at may.
          let ms : List Message = (client_call s moment c choice).out.sent in
          record {
            numbered = numbered.calls e index moment s c choice at may;
            stems = more_stems w.sent ms k h.stems
                (of_call (λ t xs. AllOf (λ m. IsStemmed (w.sent ++ stamped k xs) m.body) xs) s moment c choice (h.numbered.each index s at).named (λ d step. client_stems w.sent k (client_at s moment) d d.sent step refl) tt);
            kept = others_keep w (stamped k ms) h;
          };
      rots = λ e index handle s r place byte ending is_kept at there up. record {
        numbered = h.numbered;
        stems = h.stems;
        kept = λ other u is.
            elim (set_cases w.servers index (after_rot s (rot_of handle place byte) ending) other u is) [
              | inl both ↦ subst (λ (x : ServerState). AllOf (IsPair w.sent) x.pushed.entries) (sym both.1) (rot_by (λ t. AllOf (IsPair w.sent) t.pushed.entries) s (rot_of handle place byte) ending (h.kept index s at) (λ d xs. tt))
              | inr before ↦ h.kept other u before
            ];
      };
    }

new_kept : (config : Config) (servers clients : ℕ) → AreKept (new_world config servers clients)
new_kept config servers clients =
    record {
      numbered = numbered_reached config servers clients (new_world config servers clients) ([], refl);
      stems = λ m there. none_sent m there;
      kept = λ index s at. subst (λ (t : ServerState). AllOf (IsPair []) t.pushed.entries) (sym (numbered_from (λ n. started_server config n (new_server_disk config.chunk config.block config.slots) 0) servers index s at)) tt;
    }

-- data under one id are the same

found_data : (sent : List Message) (id : DataId) (bytes : List ℕ) (es : List (DataId × List ℕ)) → AllOf (IsPair sent) es → lookup (same_id id) es ≡ Some bytes → IsPushed sent id bytes
found_data sent id bytes [] all is = none_some bytes is
found_data sent id bytes (e ∷ es) all is = by_test (same_id id e.0) refl (λ g. found_data sent id bytes es all.1 g) is
  where
    here : same_id id e.0 ≡ true → e.1 ≡ bytes → IsPushed sent id bytes
    here at same =
        let parts = and_parts (id.client.0 == (e.0).client.0) (id.seq == (e.0).seq) at in
        let client = eqb-true id.client.0 (e.0).client.0 parts.0 in
        let seq = eqb-true id.seq (e.0).seq parts.1 in
        let one : e.0 ≡ id = ap (λ (n : ℕ). data_id n (e.0).seq) (sym client) ∙ ap (λ (n : ℕ). data_id id.client.0 n) (sym seq) in
        subst (λ (x : DataId). IsPushed sent x bytes) one (subst (λ (x : List ℕ). IsPushed sent e.0 x) same all.0)

    by_test : (b : Bool) → same_id id e.0 ≡ b → (lookup (same_id id) es ≡ Some bytes → IsPushed sent id bytes) → cond b (Some e.1) (lookup (same_id id) es) ≡ Some bytes → IsPushed sent id bytes
    by_test true at rest g = here at (same_some e.1 bytes g)
    by_test false at rest g = rest g

abbrev bytes_pushed : Body → List ℕ
bytes_pushed (body.Push id bytes rest) = bytes
bytes_pushed other = []

pub same_data : (config : Config) (servers clients : ℕ) (w : WorldState) → IsReached config servers clients w → (id other : DataId) (bytes more : List ℕ) → IsPushed w.sent id bytes → IsPushed w.sent other more → other.client.0 ≡ id.client.0 → other.seq ≡ id.seq → more ≡ bytes
same_data config servers clients w r id other bytes more one two client seq =
    ap bytes_pushed (sym two.body_is) ∙ ap (λ (m : Message). bytes_pushed m.body) (sym same) ∙ ap bytes_pushed one.body_is
  where
    same : one.push ≡ two.push
    same =
        one_request w.sent id.client.0 id.seq (requests_are_numbered_once config servers clients w r id.client.0 id.seq).0 one.push two.push one.sent_is one.sender_is (ap (is_request id.seq) one.body_is ∙ same_number id.seq)
        two.sent_is (two.sender_is ∙ ap (λ (n : ℕ). the_client n) client) (ap (is_request id.seq) two.body_is ∙ ap (λ (n : ℕ). n == id.seq) seq ∙ same_number id.seq)

-- a mutation but for a pad carries these bytes
abbrev pub IsCarried : List ℕ → Mutation → Type 0
IsCarried bytes (mutation.Write offset written) = written ≡ bytes
IsCarried bytes (mutation.Append offset written) = written ≡ bytes
IsCarried bytes (mutation.Pad offset end) = Unit {0}

placed_carried : (aim : Target) (bytes : List ℕ) (m : Mutation) → IsPlacedFor aim bytes m → IsCarried bytes m
placed_carried (target.Write at) bytes (mutation.Write offset written) h = h.1
placed_carried target.Append bytes (mutation.Append offset written) h = h
placed_carried target.Append bytes (mutation.Pad offset end) h = tt
placed_carried (target.Write at) bytes (mutation.Append offset written) h = absurd h
placed_carried (target.Write at) bytes (mutation.Pad offset end) h = absurd h
placed_carried target.Append bytes (mutation.Write offset written) h = absurd h

-- what a Push carries its client pushed
pub sent_was_pushed : (config : Config) (servers clients : ℕ) (w : WorldState) → IsReached config servers clients w → (m : Message) → IsSent w.sent m → (id : DataId) (bytes rest : List ℕ) → m.body ≡ body.Push id bytes rest → IsPushed w.sent id bytes
sent_was_pushed config servers clients w r m there id bytes rest is = subst (λ (b : Body). IsStemmed w.sent b) is ((world_reached AreKept each_kept new_kept config servers clients w r).stems m there)

-- what a server keeps its client pushed
pub kept_was_pushed : (config : Config) (servers clients : ℕ) (w : WorldState) → IsReached config servers clients w → (index : ℕ) (s : ServerState) → element_at w.servers index ≡ Some s → (id : DataId) (bytes : List ℕ) → data_of s.pushed id ≡ Some bytes → IsPushed w.sent id bytes
kept_was_pushed config servers clients w r index s at id bytes kept = found_data w.sent id bytes s.pushed.entries ((world_reached AreKept each_kept new_kept config servers clients w r).kept index s at) kept

pub kept_is_carried : (config : Config) (servers clients : ℕ) (w : WorldState) → IsReached config servers clients w → (index : ℕ) (s : ServerState) → element_at w.servers index ≡ Some s → (id : DataId) (bytes : List ℕ) → data_of s.pushed id ≡ Some bytes
    → (handle place : ℕ) (p : Placed) → element_at (order_of w.observer handle) place ≡ Some p → p.entry.call.client ≡ id.client.0 → p.seq ≡ id.seq → IsCarried bytes p.entry.mutation
kept_is_carried config servers clients w r index s at id bytes kept handle place p there client seq =
    subst (λ (x : List ℕ). IsCarried x p.entry.mutation) (same_data config servers clients w r id m.id bytes m.bytes pushed m.pushed (sym m.client_is ∙ client) (sym m.seq_is ∙ seq)) (placed_carried m.aim m.bytes p.entry.mutation m.fits)
  where
    pushed : IsPushed w.sent id bytes
    pushed = kept_was_pushed config servers clients w r index s at id bytes kept

    stem : (from : ℕ) × HasMutate w.sent from p
    stem =
        let one = entries_stem_from_mutates config servers clients r.0 handle place p (ap (λ (v : WorldState). element_at (order_of v.observer handle) place) r.1 ∙ there) in
        (one.0, subst (λ (v : WorldState). HasMutate v.sent one.0 p) r.1 one.1)

    m : HasMutate w.sent stem.0 p
    m = stem.1
