-- Over a list of events, each ChunkFull that a lease keeps or a server tells came about as a primary's replica was full, or as it placed a pad.
use Rattle.std.proofs.Common.{◌≡◌, ◌⊎◌, ℕ, zero, suc, ◌+◌, true, false, List, [], ◌∷◌, ◌++◌, length, map, Option, Some, None, refl, sym, ap, subst, ◌∙◌, inl, inr}
use Rattle.std.specs.Option.{option_to_list}
use Rattle.std.specs.FinMap as table
use Rattle.gfs_types.specs.declared.config.Config.{Config}
use Rattle.gfs_types.specs.declared.ids.Node.{Node}
use Rattle.gfs_types.specs.declared.ids.DataId.{DataId}
use Rattle.gfs_types.specs.declared.ids.Handle.{Handle}
use Rattle.gfs_types.specs.declared.ids.Version.{Version}
use Rattle.gfs_types.specs.declared.ids.Moment.{Moment}
use Rattle.gfs_types.specs.declared.refusal.Refusal.TheVariants.{ChunkFull}
use Rattle.gfs_types.specs.declared.mutation.Mutation.TheVariants.{Pad}
use Rattle.messages.specs.declared.event.Event.{Event}
use Rattle.messages.specs.declared.event.NodeInput.{NodeInput}
use Rattle.messages.specs.declared.event.NodeInput.TheVariants as input
use Rattle.messages.specs.declared.message.Body.{Body}
use Rattle.messages.specs.declared.message.Body.TheVariants as body
use Rattle.messages.specs.declared.message.Message.{Message}
use Rattle.messages.specs.declared.message.Target.{Target}
use Rattle.laws_base.proofs.Rots.{rot_leases}
use Rattle.primary_order.specs.SerialOrder.{SerialOrder, IsNew, attempted}
use Rattle.replica_store.specs.Replicas.{new_server_disk}
use Rattle.protocol.specs.Tables.{element_at, with_at, first_numbers}
use Rattle.protocol.specs.Sending.{version_of, serial_of}
use Rattle.protocol.specs.Choice.{Choice}
use Rattle.protocol.specs.Client.{ClientState, ClientDoing}
use Rattle.protocol.specs.ClientStep.{client_at, client_step, client_call}
use Rattle.protocol.specs.Server.{ServerState, ServerDoing, started_server, server_begins, primary_of, chunk_limit}
use Rattle.protocol.specs.ServerWrites.{mutates_under}
use Rattle.protocol.specs.ServerStep.{server_at, server_takes, server_goes, server_step, server_restart}
use Rattle.protocol.specs.MasterStep.{master_step, master_restart}
use Rattle.protocol.specs.World.{WorldState, Happened, new_world, stamped, after_master, after_server, after_client, happens, after_events, IsReached, after_rot}
use Rattle.laws_base.proofs.Steps.{none_some, same_some}
use Rattle.laws_base.proofs.Entries.{AllOf}
use Rattle.laws_base.proofs.RisingOrders.{set_cases}
use Rattle.laws_base.proofs.MembersRecorded.{all_at}
use Rattle.laws_base.proofs.Events.{HoldsAfter, holds_after, with_call, with_rot, rot_of}
use Rattle.laws_base.proofs.ClientNumbers.{IsSaid, IsStepOf, of_step, of_call}
use Rattle.laws_base.proofs.RequestsOnce.{AreNumbered, numbered_reached, later_cases}
use Rattle.laws_base.proofs.MasterTalks.{is_masters, MasterTalks, master_said, restart_said}
use Rattle.laws_base.proofs.LeasesStayOver.{reached_later}
use Rattle.laws_base.proofs.NewCopies.{IsNotFull, step_tells, restart_tells}
use Rattle.laws_base.specs.Entries.{IsAmong}
use Rattle.laws_base.proofs.Stemming.{came_in}
use Rattle.laws_base.proofs.Lengths.{servers_within}
use Rattle.laws_base.specs.ChunkOrders.{CameAbout}
use Rattle.laws_base.proofs.Numbering.{came_first, came_later}
use Rattle.laws_base.proofs.FullOrders.{IsCaused, Causes, right_on, caused_on}
use Rattle.laws_base.proofs.FullAnswers.{AreRight, IsFullEnd, step_leaves, none_right, restart_leaves}
use Rattle.laws_base.specs.ToldFullChunks.{IsFullNow, FullChunksAreToldAsFull}
use Rattle.laws_base.proofs.FullPlaces.{placed_first, denied_full}
use Rattle.laws_base.proofs.ServerWalk.{primary_there}

masters_cause : (F : DataId → Type 0) (b : Body) (receiver : Node) → is_masters b ≡ true → IsNotFull b → IsCaused F b receiver
masters_cause F (body.Refused number ChunkFull) receiver is other = absurd other
masters_cause F (body.Nacked handle version serial refusal) receiver is other = absurd (let both : false ≡ true = is in cc)
masters_cause F b receiver is other = tt

clients_cause : (F : DataId → Type 0) (s t : ClientState) (b : Body) (receiver : Node) → IsSaid s t b → IsCaused F b receiver
clients_cause F s t (body.Refused number refusal) receiver said = absurd said
clients_cause F s t (body.Nacked handle version serial refusal) receiver said = absurd said
clients_cause F s t other receiver said = tt

client_causes : (F : DataId → Type 0) (s : ClientState) (d : ClientDoing) (o : Option Message) → IsStepOf s d → d.sent ≡ o → AllOf (Causes F) (option_to_list o)
client_causes F s d None step is = tt
client_causes F s d (Some m) step is = let said = step.says m is in (clients_cause F s d.client m.body m.receiver said.1, tt)

all_apply : (F : DataId → Type 0) (ms : List Message) → AllOf (λ m. IsNotFull m.body → Causes F m) ms → AllOf (λ m. IsNotFull m.body) ms → AllOf (Causes F) ms
all_apply F [] all none = tt
all_apply F (m ∷ ms) all none = (all.0 none.0, all_apply F ms all.1 none.1)

talks : (F : DataId → Type 0) → MasterTalks (λ m. IsNotFull m.body → Causes F m)
talks F = record { plain = λ receiver b is other. masters_cause F b receiver is other; locates = λ receiver number l current other. tt }

-- F: of the data of which a chunk may be told full
record IsToldTruly (F : DataId → Type 0) (w : WorldState) : Type 0 where
  leases : (index : ℕ) (s : ServerState) → element_at w.servers index ≡ Some s → AreRight F s.leases
  told : (place : ℕ) (m : Message) → element_at w.sent place ≡ Some m → Causes F m

more_told : (F : DataId → Type 0) (sent : List Message) (k : ℕ) (ms : List Message) → ((place : ℕ) (m : Message) → element_at sent place ≡ Some m → Causes F m) → AllOf (Causes F) ms
    → (place : ℕ) (m : Message) → element_at (sent ++ stamped k ms) place ≡ Some m → Causes F m
more_told F sent k ms h all place m at =
    elim (later_cases sent k ms place m at) [
      | inl before ↦ h place m before
      | inr new ↦
          subst (λ (n : Node). IsCaused F m.body n) (new.2).1 (subst (λ (b : Body). IsCaused F b (new.0).receiver) (new.2).2 (all_at (Causes F) ms (new.1).0 new.0 all (new.1).1))
    ]

sound_more : (F G : DataId → Type 0) → ((id : DataId) → F id → G id) → (w : WorldState) → IsToldTruly F w → IsToldTruly G w
sound_more F G go w h = record { leases = λ index s at q p there. right_on F G go p (h.leases index s at q p there); told = λ place m at. caused_on F G go m.body m.receiver (h.told place m at) }

module _ (config : Config) (servers clients : ℕ) (F : DataId → Type 0) (w : WorldState) (r : IsReached config servers clients w) (h : IsToldTruly F w) where
  abbrev Then : Happened → DataId → Type 0
  Then x id = F id ⊎ IsFullNow w x id

  leases_then : (x : Happened) (index : ℕ) (s : ServerState) → element_at w.servers index ≡ Some s → AreRight (Then x) s.leases
  leases_then x index s at q p there = right_on F (Then x) (λ id f. inl f) p (h.leases index s at q p there)

  told_then : (x : Happened) (place : ℕ) (m : Message) → element_at w.sent place ≡ Some m → Causes (Then x) m
  told_then x place m at = caused_on F (Then x) (λ id f. inl f) m.body m.receiver (h.told place m at)

  one_server : (x : Happened) (index : ℕ) (t : ServerState) → AreRight (Then x) t.leases → (other : ℕ) (u : ServerState) → element_at (with_at w.servers index t) other ≡ Some u → AreRight (Then x) u.leases
  one_server x index t here other u at =
      elim (set_cases w.servers index t other u at) [
        | inl both ↦ subst (λ (y : ServerState). AreRight (Then x) y.leases) (sym both.1) here
        | inr there ↦ leases_then x other u there
      ]

  -- a server's step on an attempt that is new
  module _ (index moment : ℕ) (s : ServerState) (i : NodeInput) (choice : Choice) (at : element_at w.servers index ≡ Some s) (came : (m : Message) → i ≡ input.Deliver m → IsAmong w.sent m) where
    abbrev After : Happened
    After = after_server w index moment (server_step s moment i choice)

    anew : (m : Message) (id : DataId) (handle : Handle) (version : Version) (t : Target) (deadline : Moment) (p : SerialOrder) → i ≡ input.Deliver m → m.body ≡ body.Mutate id handle version t deadline → primary_of (server_at s moment) handle.0 version.0 ≡ Some p
        → attempted p id.client id.seq ≡ IsNew
        → IsFullEnd (server_begins (server_at s moment)) handle.0 p id (mutates_under (server_begins (server_at s moment)) handle.0 id t deadline.0 (primary_of (server_at s moment) handle.0 version.0)) → Then After id
    anew m id handle version t deadline p is asked primary new end =
        inr (record {
          index = index;
          moment = moment;
          server = s;
          taking = i;
          choice = choice;
          is = at;
          asked = m;
          handle = handle;
          version = version;
          aim = t;
          deadline = deadline;
          sent_is = came m is;
          taken = is;
          body_is = asked;
          step_is = refl;
          lease = p;
          lease_is = lease_there.0;
          lease_version = lease_there.1;
          full = elim (end) [
            | inl denied ↦ let found = denied_full (server_at s moment) handle.0 p id t deadline.0 (primary_of (server_at s moment) handle.0 version.0) primary new denied in inl (found.0, found.1, found.2)
            | inr placed ↦ inr (0, version_of p.held.version, serial_of (p.serial + 1), placed.0, ap (λ (e : ServerDoing). element_at e.seen 0) (goes_is ∙ placed.1) ∙ placed_first (server_at s moment) handle.0 p id (Pad placed.0 (chunk_limit s p.chunk)) placed.2)
          ];
        })
      where
        lease_there : (table.get s.leases handle.0 ≡ Some p) × (p.held.version ≡ version.0)
        lease_there = primary_there (server_at s moment) version.0 (table.get s.leases handle.0) p primary

        goes_is : server_goes s moment i ≡ mutates_under (server_begins (server_at s moment)) handle.0 id t deadline.0 (primary_of (server_at s moment) handle.0 version.0)
        goes_is = ap (λ (j : NodeInput). server_goes s moment j) is ∙ ap (λ (b : Body). server_takes (server_begins (server_at s moment)) m b) asked

    served : AreRight (Then After) (server_step s moment i choice).state.leases × AllOf (Causes (Then After)) (server_step s moment i choice).out.sent
    served =
        step_leaves (Then After) s moment i choice anew (λ m q v serial refusal is asked. let there = came m is in subst (λ (b : Body). IsCaused F b m.receiver) asked (h.told there.0 m there.1)) (leases_then After index s at)

  numbered : AreNumbered w.sent w.clients
  numbered = numbered_reached config servers clients w r

  each_sound : HoldsAfter w (λ e x. IsToldTruly (λ id. F id ⊎ IsFullNow w x id) x.world)
  each_sound =
      let k : ℕ = suc (length w.sent) in
      record {
        nothing = λ e. record { leases = leases_then _; told = told_then _ };
        masters = λ e moment i choice is up.
            let x : Happened = after_master w moment (master_step w.master moment i choice) in
            let ms : List Message = (master_step w.master moment i choice).out.sent in
            record { leases = leases_then x; told = more_told (Then x) w.sent k ms (told_then x) (all_apply (Then x) ms (master_said (λ m. IsNotFull m.body → Causes (Then x) m) (talks (Then x)) w.master moment i choice) (step_tells w.master moment i choice)) };
        opens = λ e moment choice.
            let x : Happened = after_master w moment (master_restart w.master moment choice) in
            let ms : List Message = (master_restart w.master moment choice).out.sent in
            record { leases = leases_then x; told = more_told (Then x) w.sent k ms (told_then x) (all_apply (Then x) ms (restart_said (λ m. IsNotFull m.body → Causes (Then x) m) (talks (Then x)) w.master moment choice) (restart_tells w.master moment choice)) };
        serves = λ e index moment s i choice at is up.
            let x : Happened = after_server w index moment (server_step s moment i choice) in
            let left = served index moment s i choice at (came_in w e (suc index) moment i is) in
            record { leases = one_server x index (server_step s moment i choice).state left.0; told = more_told (Then x) w.sent k (server_step s moment i choice).out.sent (told_then x) left.1 };
        restarts = λ e index moment s choice at.
            let x : Happened = after_server w index moment (server_restart s moment choice) in
            let left = restart_leaves (Then x) s moment choice in
            record { leases = one_server x index (server_restart s moment choice).state left.0; told = more_told (Then x) w.sent k (server_restart s moment choice).out.sent (told_then x) left.1 };
        steps = λ e index moment s i choice at is up.
            let x : Happened = after_client w index moment (client_step s moment i choice) in
            record {
              leases = leases_then x;
              told = more_told (Then x) w.sent k (client_step s moment i choice).out.sent (told_then x)
                  (of_step (λ t ms. AllOf (Causes (Then x)) ms) s moment i choice (numbered.each index s at).named (λ d step. client_causes (Then x) (client_at s moment) d d.sent step refl) tt tt);
            };
        calls = λ e index moment s c choice at may.
            let x : Happened = after_client (with_call w index moment c) index moment (client_call s moment c choice) in
            record {
              leases = leases_then x;
              told = more_told (Then x) w.sent k (client_call s moment c choice).out.sent (told_then x)
                  (of_call (λ t ms. AllOf (Causes (Then x)) ms) s moment c choice (numbered.each index s at).named (λ d step. client_causes (Then x) (client_at s moment) d d.sent step refl) tt);
            };
        rots = λ e index handle s d place byte ending is_kept at there up.
            let x : Happened = with_rot w index s (rot_of handle place byte) ending is_kept in
            record { leases = one_server x index (after_rot s (rot_of handle place byte) ending) (rot_leases (λ ls. AreRight (Then x) ls) s (rot_of handle place byte) ending (leases_then x index s at) (none_right (Then x))); told = told_then x };
      }

-- a list of events

abbrev Since : Config → (DataId → Type 0) → WorldState → List (Event × Choice) → DataId → Type 0
Since config F w steps id = F id ⊎ CameAbout (λ v x. IsFullNow v x id) w steps

all_since : (config : Config) (servers clients : ℕ) (F : DataId → Type 0) (w : WorldState) (steps : List (Event × Choice)) → IsReached config servers clients w → IsToldTruly F w → IsToldTruly (Since config F w steps) (after_events w steps)
all_since config servers clients F w [] r h = sound_more F (Since config F w []) (λ id f. inl f) w h
all_since config servers clients F w (step ∷ rest) r h =
    let x : Happened = happens w step.0 step.1 in
    sound_more (Since config (λ id. F id ⊎ IsFullNow w x id) x.world rest) (Since config F w (step ∷ rest))
    (λ id since. elim (since) [
      | inl old ↦ elim (old) [ inl before ↦ inl before | inr now ↦ inr (came_first (λ v y. IsFullNow v y id) w step rest now) ]
      | inr later ↦ inr (came_later (λ v y. IsFullNow v y id) w step rest later)
    ]) (after_events x.world rest)
    (all_since config servers clients (λ id. F id ⊎ IsFullNow w x id) x.world rest (reached_later config servers clients w (step ∷ []) r)
    (holds_after w (λ e y. IsToldTruly (λ id. F id ⊎ IsFullNow w y id) y.world) (each_sound config servers clients F w r h) step.0 step.1))

new_servers : (F : DataId → Type 0) (config : Config) (ns : List ℕ) (index : ℕ) (s : ServerState) → element_at (map (λ n. started_server config n (new_server_disk config.chunk config.block config.slots) 0) ns) index ≡ Some s → AreRight F s.leases
new_servers F config [] index s is = none_some s is
new_servers F config (n ∷ ns) zero s is = subst (λ (x : ServerState). AreRight F x.leases) (same_some (started_server config n (new_server_disk config.chunk config.block config.slots) 0) s is) (none_right F)
new_servers F config (n ∷ ns) (suc index) s is = new_servers F config ns index s is

abbrev Never : DataId → Type 0
Never id = ⊥

pub full_chunks_are_told_as_full : FullChunksAreToldAsFull
full_chunks_are_told_as_full config servers clients steps place m at client number receiver is =
    elim (subst (λ (n : Node). IsCaused (Since config Never (new_world config servers clients) steps) (body.Refused number ChunkFull) n) receiver (subst (λ (b : Body). IsCaused (Since config Never (new_world config servers clients) steps) b m.receiver) is (sound.told place m at))) [
      | inl never ↦ absurd never
      | inr came ↦ came
    ]
  where
    sound : IsToldTruly (Since config Never (new_world config servers clients) steps) (after_events (new_world config servers clients) steps)
    sound = all_since config servers clients Never (new_world config servers clients) steps ([], refl) (record { leases = new_servers Never config (first_numbers servers); told = λ place m none. none_some m none })
