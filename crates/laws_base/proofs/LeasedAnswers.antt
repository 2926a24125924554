-- In each world that is reached, what a server answered of an attempt, or keeps of one, is of an attempt that a server took under a lease.
use Rattle.std.proofs.Common.{◌≡◌, ◌⊎◌, ℕ, zero, suc, List, [], ◌∷◌, ◌++◌, length, map, Option, Some, None, refl, sym, subst, ◌∙◌, inl, inr}
use Rattle.std.specs.Option.{option_to_list}
use Rattle.gfs_types.specs.declared.config.Config.{Config}
use Rattle.gfs_types.specs.declared.ids.Node.{Node}
use Rattle.gfs_types.specs.declared.ids.DataId.{DataId}
use Rattle.messages.specs.declared.event.Event.{Event}
use Rattle.messages.specs.declared.message.Body.{Body}
use Rattle.messages.specs.declared.message.Body.TheVariants as body
use Rattle.messages.specs.declared.message.Message.{Message}
use Rattle.replica_store.specs.Replicas.{new_server_disk}
use Rattle.protocol.specs.Tables.{element_at, with_at, first_numbers}
use Rattle.protocol.specs.Sending.{the_server, the_client}
use Rattle.protocol.specs.Choice.{Choice}
use Rattle.protocol.specs.Client.{ClientState, ClientDoing}
use Rattle.protocol.specs.ClientStep.{client_at, client_step, client_call}
use Rattle.protocol.specs.Server.{ServerState, started_server}
use Rattle.protocol.specs.ServerStep.{server_at, server_step, server_restart}
use Rattle.protocol.specs.MasterStep.{master_step, master_restart}
use Rattle.protocol.specs.World.{WorldState, Happened, new_world, nothing_happens, stamped, after_master, after_server, after_client, happens, after_events, IsReached, after_rot}
use Rattle.laws_base.proofs.Steps.{none_some, same_some}
use Rattle.laws_base.proofs.Entries.{AllOf}
use Rattle.laws_base.proofs.RisingOrders.{set_cases}
use Rattle.laws_base.proofs.MembersRecorded.{kept_place, all_at}
use Rattle.laws_base.proofs.Events.{with_call, with_rot, rot_of, HoldsAfter, holds_after}
use Rattle.laws_base.proofs.ClientNumbers.{IsStepOf, of_step, of_call}
use Rattle.laws_base.proofs.RequestsOnce.{AreNumbered, numbered_reached, later_cases}
use Rattle.laws_base.proofs.LeasesStayOver.{reached_later}
use Rattle.laws_base.proofs.MasterTalks.{MasterTalks, master_said, restart_said}
use Rattle.laws_base.proofs.Stemming.{came_in}
use Rattle.laws_base.specs.AnsweredAttempts.{IsAnswerTo}
use Rattle.laws_base.proofs.UsedOrders.{IsCaused, Causes, right_on, caused_on}
use Rattle.laws_base.proofs.UsedAnswers.{AreRight, step_leaves, none_right, restart_leaves}
use Rattle.laws_base.proofs.AnsweredAttempts.{Reads, not_both}
use Rattle.laws_base.specs.LeasedAnswers.{IsTakenNow, WasTaken, AnswersAreGivenUnderLeases}
use Rattle.laws_base.proofs.Rots.{rot_leases}

reads_later : (sent more : List Message) (client number : ℕ) → Reads sent client number → Reads (sent ++ more) client number
reads_later sent more client number h = record { asked = h.asked; sent_is = ((h.sent_is).0, kept_place sent more (h.sent_is).0 h.asked (h.sent_is).1); sender_is = h.sender_is; reads = h.reads }

-- messages of servers alone are answers

abbrev Tells : (DataId → Type 0) → (ℕ → ℕ → Type 0) → Message → Type 0
Tells F G m = (server : ℕ) → m.sender ≡ the_server server → Causes F G m

abbrev NoServers : Message → Type 0
NoServers m = (server : ℕ) → m.sender ≡ the_server server → ⊥

more_told : (F : DataId → Type 0) (G : ℕ → ℕ → Type 0) (sent : List Message) (k : ℕ) (ms : List Message) → ((place : ℕ) (m : Message) → element_at sent place ≡ Some m → Tells F G m) → AllOf (Tells F G) ms
    → (place : ℕ) (m : Message) → element_at (sent ++ stamped k ms) place ≡ Some m → Tells F G m
more_told F G sent k ms h all place m at server from =
    elim (later_cases sent k ms place m at) [
      | inl before ↦ h place m before server from
      | inr new ↦
          subst (λ (n : Node). IsCaused F G m.body n) (new.2).1
          (subst (λ (b : Body). IsCaused F G b (new.0).receiver) (new.2).2 (all_at (Tells F G) ms (new.1).0 new.0 all (new.1).1 server ((new.2).0 ∙ from)))
    ]

all_tell : (F : DataId → Type 0) (G : ℕ → ℕ → Type 0) (ms : List Message) → AllOf (Causes F G) ms → AllOf (Tells F G) ms
all_tell F G [] all = tt
all_tell F G (m ∷ ms) all = (λ server from. all.0, all_tell F G ms all.1)

none_tell : (F : DataId → Type 0) (G : ℕ → ℕ → Type 0) (ms : List Message) → AllOf NoServers ms → AllOf (Tells F G) ms
none_tell F G [] all = tt
none_tell F G (m ∷ ms) all = (λ server from. absurd (all.0 server from), none_tell F G ms all.1)

talks : MasterTalks NoServers
talks = record { plain = λ receiver b is server from. absurd (cc); locates = λ receiver number l current server from. absurd (cc) }

client_apart : (n server : ℕ) (sender : Node) → sender ≡ the_client n → sender ≡ the_server server → ⊥
client_apart n server sender own from = let both : the_client n ≡ the_server server = sym own ∙ from in absurd (cc)

client_silent : (s : ClientState) (d : ClientDoing) (o : Option Message) → IsStepOf s d → d.sent ≡ o → AllOf NoServers (option_to_list o)
client_silent s d None step is = tt
client_silent s d (Some m) step is = let said = step.says m is in (λ server from. client_apart s.id server m.sender said.0 from, tt)

-- T: the attempts that were taken so far

record IsToldTruly (T : DataId → Type 0) (w : WorldState) : Type 0 where
  leases : (index : ℕ) (s : ServerState) → element_at w.servers index ≡ Some s → AreRight T s.leases
  told : (place : ℕ) (m : Message) → element_at w.sent place ≡ Some m → Tells T (Reads w.sent) m

abbrev Next : (DataId → Type 0) → WorldState → Happened → DataId → Type 0
Next T w x id = T id ⊎ IsTakenNow w x id

module _ (T F : DataId → Type 0) (go : (id : DataId) → T id → F id) (w : WorldState) (h : IsToldTruly T w) where
  told_on : (G : ℕ → ℕ → Type 0) → ((c n : ℕ) → Reads w.sent c n → G c n) → (place : ℕ) (m : Message) → element_at w.sent place ≡ Some m → Tells F G m
  told_on G on place m at server from = caused_on T (Reads w.sent) F G go on m.body m.receiver (h.told place m at server from)

  leases_on : (index : ℕ) (s : ServerState) → element_at w.servers index ≡ Some s → AreRight F s.leases
  leases_on index s at q p there = right_on T (Reads w.sent) F (Reads w.sent) go (λ c n reads. reads) p (h.leases index s at q p there)

  one_server : (index : ℕ) (t : ServerState) → AreRight F t.leases → (other : ℕ) (u : ServerState) → element_at (with_at w.servers index t) other ≡ Some u → AreRight F u.leases
  one_server index t here other u at =
      elim (set_cases w.servers index t other u at) [
        | inl both ↦ subst (λ (y : ServerState). AreRight F y.leases) (sym both.1) here
        | inr there ↦ leases_on other u there
      ]

  more_reads : (ms : List Message) (c n : ℕ) → Reads w.sent c n → Reads (w.sent ++ stamped (suc (length w.sent)) ms) c n
  more_reads ms c n reads = reads_later w.sent (stamped (suc (length w.sent)) ms) c n reads

  -- after a step of others than servers
  silent : (ms : List Message) → AllOf NoServers ms → (place : ℕ) (m : Message) → element_at (w.sent ++ stamped (suc (length w.sent)) ms) place ≡ Some m → Tells F (Reads (w.sent ++ stamped (suc (length w.sent)) ms)) m
  silent ms none =
      more_told F (Reads (w.sent ++ stamped (suc (length w.sent)) ms)) w.sent (suc (length w.sent)) ms (told_on (Reads (w.sent ++ stamped (suc (length w.sent)) ms)) (more_reads ms))
      (none_tell F (Reads (w.sent ++ stamped (suc (length w.sent)) ms)) ms none)

  -- and after one of a server
  spoken : (ms : List Message) → AllOf (Causes F (Reads (w.sent ++ stamped (suc (length w.sent)) ms))) ms → (place : ℕ) (m : Message) → element_at (w.sent ++ stamped (suc (length w.sent)) ms) place ≡ Some m → Tells F (Reads (w.sent ++ stamped (suc (length w.sent)) ms)) m
  spoken ms all =
      more_told F (Reads (w.sent ++ stamped (suc (length w.sent)) ms)) w.sent (suc (length w.sent)) ms (told_on (Reads (w.sent ++ stamped (suc (length w.sent)) ms)) (more_reads ms)) (all_tell F (Reads (w.sent ++ stamped (suc (length w.sent)) ms)) ms all)

module _ (config : Config) (servers clients : ℕ) (w : WorldState) (r : IsReached config servers clients w) (T : DataId → Type 0) (h : IsToldTruly T w) where
  numbered : AreNumbered w.sent w.clients
  numbered = numbered_reached config servers clients w r

  before : (x : Happened) (id : DataId) → T id → Next T w x id
  before x id t = inl t

  each_sound : HoldsAfter w (λ e x. IsToldTruly (Next T w x) x.world)
  each_sound =
      record {
        nothing = λ e. let x : Happened = nothing_happens w in record { leases = leases_on T (Next T w x) (before x) w h; told = told_on T (Next T w x) (before x) w h (Reads w.sent) (λ c n reads. reads) };
        masters = λ e moment i choice is up.
            let x : Happened = after_master w moment (master_step w.master moment i choice) in
            record { leases = leases_on T (Next T w x) (before x) w h; told = silent T (Next T w x) (before x) w h (master_step w.master moment i choice).out.sent (master_said NoServers talks w.master moment i choice) };
        opens = λ e moment choice.
            let x : Happened = after_master w moment (master_restart w.master moment choice) in
            record { leases = leases_on T (Next T w x) (before x) w h; told = silent T (Next T w x) (before x) w h (master_restart w.master moment choice).out.sent (restart_said NoServers talks w.master moment choice) };
        serves = λ e index moment s i choice at is up.
            let x : Happened = after_server w index moment (server_step s moment i choice) in
            let ms : List Message = (server_step s moment i choice).out.sent in
            let left = step_leaves (Next T w x) (Reads x.world.sent) (server_at s moment).now s moment i choice
            (λ m id q v t deadline p came asked primary.
            let taken : Next T w x id = inr (record {
              index = index;
              moment = moment;
              server = s;
              input = i;
              choice = choice;
              step_is = refl;
              server_is = at;
              asked = m;
              sent_is = came_in w e (suc index) moment i is m came;
              handle = q;
              version = v;
              aim = t;
              deadline = deadline;
              body_is = asked;
              lease = p;
              lease_is = primary;
            }) in
            ((λ old. taken, λ new end. taken), λ late. taken))
            (λ m number came reading c from. more_reads T (Next T w x) (before x) w h ms c.0 number (record { asked = m; sent_is = came_in w e (suc index) moment i is m came; sender_is = from; reads = reading }))
            refl (leases_on T (Next T w x) (before x) w h index s at) in
            record { leases = one_server T (Next T w x) (before x) w h index (server_step s moment i choice).state left.0; told = spoken T (Next T w x) (before x) w h ms left.1 };
        restarts = λ e index moment s choice at.
            let x : Happened = after_server w index moment (server_restart s moment choice) in
            let left = restart_leaves (Next T w x) (Reads x.world.sent) 0 s moment choice in
            record { leases = one_server T (Next T w x) (before x) w h index (server_restart s moment choice).state left.0; told = spoken T (Next T w x) (before x) w h (server_restart s moment choice).out.sent left.1 };
        steps = λ e index moment s i choice at is up.
            let x : Happened = after_client w index moment (client_step s moment i choice) in
            record {
              leases = leases_on T (Next T w x) (before x) w h;
              told = silent T (Next T w x) (before x) w h (client_step s moment i choice).out.sent (of_step (λ t xs. AllOf NoServers xs) s moment i choice (numbered.each index s at).named (λ d step. client_silent (client_at s moment) d d.sent step refl) tt tt);
            };
        calls = λ e index moment s c choice at may.
            let x : Happened = after_client (with_call w index moment c) index moment (client_call s moment c choice) in
            record {
              leases = leases_on T (Next T w x) (before x) w h;
              told = silent T (Next T w x) (before x) w h (client_call s moment c choice).out.sent (of_call (λ t xs. AllOf NoServers xs) s moment c choice (numbered.each index s at).named (λ d step. client_silent (client_at s moment) d d.sent step refl) tt);
            };
        rots = λ e index handle s d place byte ending is_kept at there up.
            let x : Happened = with_rot w index s (rot_of handle place byte) ending is_kept in
            record {
              leases = one_server T (Next T w x) (before x) w h index (after_rot s (rot_of handle place byte) ending)
                  (rot_leases (λ ls. AreRight (Next T w x) ls) s (rot_of handle place byte) ending (leases_on T (Next T w x) (before x) w h index s at) (none_right (Next T w x) (λ c k. ⊥) 0));
              told = told_on T (Next T w x) (before x) w h (Reads w.sent) (λ c n reads. reads);
            };
      }

-- all events

sound_more : (T V : DataId → Type 0) → ((id : DataId) → T id → V id) → (w : WorldState) → IsToldTruly T w → IsToldTruly V w
sound_more T V go w h = record { leases = leases_on T V go w h; told = told_on T V go w h (Reads w.sent) (λ c n reads. reads) }

abbrev Since : WorldState → List (Event × Choice) → (DataId → Type 0) → DataId → Type 0
Since w steps T id = T id ⊎ WasTaken w steps id

sound_since : (config : Config) (servers clients : ℕ) (w : WorldState) (steps : List (Event × Choice)) (T : DataId → Type 0) → IsReached config servers clients w → IsToldTruly T w → IsToldTruly (Since w steps T) (after_events w steps)
sound_since config servers clients w [] T r h = sound_more T (Since w [] T) (λ id t. inl t) w h
sound_since config servers clients w (step ∷ rest) T r h =
    let x : Happened = happens w step.0 step.1 in
    sound_more (Since x.world rest (Next T w x)) (Since w (step ∷ rest) T)
    (λ id since. elim (since) [
      | inl old ↦ elim (old) [ inl before ↦ inl before | inr now ↦ inr (inl now) ]
      | inr later ↦ inr (inr later)
    ]) (after_events x.world rest)
    (sound_since config servers clients x.world rest (Next T w x) (reached_later config servers clients w (step ∷ []) r) (holds_after w (λ e y. IsToldTruly (Next T w y) y.world) (each_sound config servers clients w r T h) step.0 step.1))

abbrev Never : DataId → Type 0
Never id = ⊥

new_servers : (config : Config) (ns : List ℕ) (index : ℕ) (s : ServerState) → element_at (map (λ n. started_server config n (new_server_disk config.chunk config.block config.slots) 0) ns) index ≡ Some s → AreRight Never s.leases
new_servers config [] index s is = none_some s is
new_servers config (n ∷ ns) zero s is = subst (λ (x : ServerState). AreRight Never x.leases) (same_some (started_server config n (new_server_disk config.chunk config.block config.slots) 0) s is) (none_right Never (λ c k. ⊥) 0)
new_servers config (n ∷ ns) (suc index) s is = new_servers config ns index s is

new_sound : (config : Config) (servers clients : ℕ) → IsToldTruly Never (new_world config servers clients)
new_sound config servers clients = record { leases = new_servers config (first_numbers servers); told = λ place m none. none_some m none }

-- the law

answer_taken : (T : DataId → Type 0) (G : ℕ → ℕ → Type 0) (id : DataId) (m : Message) → IsAnswerTo id m → Causes T G m → T id ⊎ G id.client.0 id.seq
answer_taken T G id m answer cause =
    elim (answer) [
      | inl done ↦ inl (subst (λ (b : Body). IsCaused T G b m.receiver) done.1 cause)
      | inr refused ↦ subst (λ (n : Node). IsCaused T G (body.Refused id.seq refused.0) n) refused.1 (subst (λ (b : Body). IsCaused T G b m.receiver) refused.2 cause) refused.3
    ]

pub answers_are_given_under_leases : AnswersAreGivenUnderLeases
answers_are_given_under_leases config servers clients steps place server m at from id bytes pushed answer =
    elim (answer_taken (Since start steps Never) (Reads w.sent) id m answer ((sound_since config servers clients start steps Never ([], refl) (new_sound config servers clients)).told place m at server from)) [
      | inl taken ↦ elim (taken) [ inl never ↦ absurd never | inr was ↦ was ]
      | inr reads ↦ absurd (not_both config servers clients w (steps, refl) id bytes pushed reads)
    ]
  where
    start : WorldState
    start = new_world config servers clients

    w : WorldState
    w = after_events start steps
