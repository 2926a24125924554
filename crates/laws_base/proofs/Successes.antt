-- In each world that is reached, each success that was told is of a mutation that was placed there and became settled in steps of the list.
use Rattle.std.proofs.Common.{◌≡◌, ◌⊎◌, ℕ, zero, suc, true, false, List, [], ◌∷◌, ◌++◌, length, map, Option, Some, None, refl, sym, subst, ◌∙◌, inl, inr}
use Rattle.std.specs.Option.{option_to_list}
use Rattle.std.specs.Ordering.{nat_cmp}
use Rattle.std.specs.FinMap as table
use Rattle.gfs_types.specs.declared.config.Config.{Config}
use Rattle.messages.specs.declared.event.Event.{Event}
use Rattle.messages.specs.declared.event.NodeInput.{NodeInput}
use Rattle.messages.specs.declared.event.NodeInput.TheVariants as input
use Rattle.messages.specs.declared.message.Body.{Body}
use Rattle.messages.specs.declared.message.Body.TheVariants as body
use Rattle.messages.specs.declared.message.Message.{Message}
use Rattle.protocol.specs.Tables.{element_at, with_at, first_numbers}
use Rattle.protocol.specs.Choice.{Choice, Ending, Goes, Lost, Stops}
use Rattle.protocol.specs.declared.seen.Seen.{Seen}
use Rattle.replica_store.specs.Replicas.{new_server_disk}
use Rattle.protocol.specs.Client.{ClientState, ClientDoing}
use Rattle.protocol.specs.ClientStep.{client_at, client_step, client_call}
use Rattle.protocol.specs.Server.{ServerState, started_server}
use Rattle.protocol.specs.ServerStep.{server_step, server_restarts, server_restart}
use Rattle.protocol.specs.MasterStep.{master_step, master_restart}
use Rattle.protocol.specs.World.{WorldState, Happened, new_world, stamped, nothing_happens, after_master, after_server, after_client, happens, after_events, after_rot}
use Rattle.laws_base.proofs.Steps.{none_some, same_some}
use Rattle.laws_base.proofs.Entries.{AllOf}
use Rattle.laws_base.proofs.RisingOrders.{set_cases}
use Rattle.laws_base.proofs.MembersRecorded.{all_at}
use Rattle.laws_base.proofs.Events.{with_call, with_rot, rot_of, HoldsAfter, holds_after}
use Rattle.laws_base.proofs.ClientNumbers.{IsSaid, IsStepOf, of_step, of_call}
use Rattle.laws_base.proofs.RequestsOnce.{AreNumbered, each_event, numbered_reached, later_cases}
use Rattle.laws_base.proofs.MasterTalks.{is_masters, MasterTalks, master_said, restart_said}
use Rattle.laws_base.proofs.Stemming.{came_in}
use Rattle.laws_base.proofs.Numbering.{came_first, came_later}
use Rattle.laws_base.specs.Successes.{IsShownNow, WasShown, SuccessesWereSettled}
use Rattle.laws_base.proofs.RightLeases.{IsCaused, right_on, caused_on, settled_on}
use Rattle.laws_base.proofs.LeaseAnswers.{Since, AreRight, step_leaves, restart_right, none_right}
use Rattle.laws_base.proofs.Rots.{rot_leases}

all_on : (P Q : Message → Type 0) → ((m : Message) → P m → Q m) → (ms : List Message) → AllOf P ms → AllOf Q ms
all_on P Q go [] h = tt
all_on P Q go (m ∷ ms) h = (go m h.0, all_on P Q go ms h.1)

-- K: what was shown so far
pub record IsToldTruly (K : Seen → Type 0) (w : WorldState) : Type 0 where
  pub numbered : AreNumbered w.sent w.clients
  pub leases : (index : ℕ) (s : ServerState) → element_at w.servers index ≡ Some s → AreRight K s.leases
  pub told : (place : ℕ) (m : Message) → element_at w.sent place ≡ Some m → IsCaused K m.body

sound_on : (K L : Seen → Type 0) → ((y : Seen) → K y → L y) → (w : WorldState) → IsToldTruly K w → IsToldTruly L w
sound_on K L go w h =
    record {
      numbered = h.numbered;
      leases = λ index s at q p there. right_on K L go q p (h.leases index s at q p there);
      told = λ place m at. caused_on K L go m.body (h.told place m at);
    }

-- messages that tell no success

masters_cause : (L : Seen → Type 0) (b : Body) → is_masters b ≡ true → IsCaused L b
masters_cause L (body.Done id place) is = absurd (let both : false ≡ true = is in cc)
masters_cause L other is = tt

master_talks : (L : Seen → Type 0) → MasterTalks (λ m. IsCaused L m.body)
master_talks L = record { plain = λ receiver b is. masters_cause L b is; locates = λ receiver number l current. tt }

clients_cause : (L : Seen → Type 0) (s t : ClientState) (b : Body) → IsSaid s t b → IsCaused L b
clients_cause L s t (body.Done id place) said = absurd said
clients_cause L s t other said = tt

client_causes : (L : Seen → Type 0) (s : ClientState) (d : ClientDoing) (o : Option Message) → IsStepOf s d → d.sent ≡ o → AllOf (λ m. IsCaused L m.body) (option_to_list o)
client_causes L s d None step is = tt
client_causes L s d (Some m) step is = let said = step.says m is in (clients_cause L s d.client m.body said.1, tt)

restart_silent : (L : Seen → Type 0) (s : ServerState) (moment : ℕ) (choice : Choice) (e : Ending) → AllOf (λ m. IsCaused L m.body) (server_restarts s moment choice e).out.sent
restart_silent L s moment choice Goes = tt
restart_silent L s moment choice Lost = tt
restart_silent L s moment choice (Stops made) = tt

-- one event

abbrev Next : WorldState → Happened → (Seen → Type 0) → Seen → Type 0
Next w x K y = K y ⊎ IsShownNow w x y

more_told : (L : Seen → Type 0) (sent : List Message) (k : ℕ) (ms : List Message) → ((place : ℕ) (m : Message) → element_at sent place ≡ Some m → IsCaused L m.body) → AllOf (λ m. IsCaused L m.body) ms
    → (place : ℕ) (m : Message) → element_at (sent ++ stamped k ms) place ≡ Some m → IsCaused L m.body
more_told L sent k ms h all place m at =
    elim (later_cases sent k ms place m at) [
      | inl before ↦ h place m before
      | inr new ↦ subst (λ (b : Body). IsCaused L b) (new.2).2 (all_at (λ (x : Message). IsCaused L x.body) ms (new.1).0 new.0 all (new.1).1)
    ]

module _ (w : WorldState) (K : Seen → Type 0) (h : IsToldTruly K w) (x : Happened) where
  told_on : (place : ℕ) (m : Message) → element_at w.sent place ≡ Some m → IsCaused (Next w x K) m.body
  told_on place m at = caused_on K (Next w x K) (λ y k. inl k) m.body (h.told place m at)

  leases_on : (index : ℕ) (s : ServerState) → element_at w.servers index ≡ Some s → AreRight (Next w x K) s.leases
  leases_on index s at q p there = right_on K (Next w x K) (λ y k. inl k) q p (h.leases index s at q p there)

  one_server : (index : ℕ) (t : ServerState) → AreRight (Next w x K) t.leases → (other : ℕ) (u : ServerState) → element_at (with_at w.servers index t) other ≡ Some u → AreRight (Next w x K) u.leases
  one_server index t here other u at =
      elim (set_cases w.servers index t other u at) [
        | inl both ↦ subst (λ (y : ServerState). AreRight (Next w x K) y.leases) (sym both.1) here
        | inr there ↦ leases_on other u there
      ]

shown_now : (v : WorldState) (L : Seen → Type 0) (index moment : ℕ) (s : ServerState) (i : NodeInput) (choice : Choice) → element_at v.servers index ≡ Some s → ((m : Message) → i ≡ input.Deliver m → (at : ℕ) × (element_at v.sent at ≡ Some m)) → (y : Seen) → Since L (server_step s moment i choice).seen y
    → Next v (after_server v index moment (server_step s moment i choice)) L y
shown_now v L index moment s i choice at came y since =
    elim (since) [
      | inl before ↦ inl before
      | inr now ↦ inr (record { index = index; moment = moment; server = s; input = i; choice = choice; place = now.0; is = at; came = came; step_is = refl; seen = now.1 })
    ]

served_leases : (v : WorldState) (L : Seen → Type 0) (g : IsToldTruly L v) (index moment : ℕ) (s : ServerState) (i : NodeInput) (choice : Choice) → element_at v.servers index ≡ Some s → ((m : Message) → i ≡ input.Deliver m → (at : ℕ) × (element_at v.sent at ≡ Some m)) → (other : ℕ) (u : ServerState)
    → element_at (with_at v.servers index (server_step s moment i choice).state) other ≡ Some u → AreRight (Next v (after_server v index moment (server_step s moment i choice)) L) u.leases
served_leases v L g index moment s i choice at came =
    let x : Happened = after_server v index moment (server_step s moment i choice) in
    let left = step_leaves L s moment i choice (g.leases index s at) in
    one_server v L g x index (server_step s moment i choice).state (λ q p there. right_on (Since L (server_step s moment i choice).seen) (Next v x L) (shown_now v L index moment s i choice at came) q p (left.0 q p there))

served_told : (v : WorldState) (L : Seen → Type 0) (g : IsToldTruly L v) (index moment : ℕ) (s : ServerState) (i : NodeInput) (choice : Choice) → element_at v.servers index ≡ Some s → ((m : Message) → i ≡ input.Deliver m → (at : ℕ) × (element_at v.sent at ≡ Some m)) → (place : ℕ) (m : Message)
    → element_at (v.sent ++ stamped (suc (length v.sent)) (server_step s moment i choice).out.sent) place ≡ Some m → IsCaused (Next v (after_server v index moment (server_step s moment i choice)) L) m.body
served_told v L g index moment s i choice at came =
    let x : Happened = after_server v index moment (server_step s moment i choice) in
    let left = step_leaves L s moment i choice (g.leases index s at) in
    more_told (Next v x L) v.sent (suc (length v.sent)) (server_step s moment i choice).out.sent (told_on v L g x)
    (all_on (λ m. IsCaused (Since L (server_step s moment i choice).seen) m.body) (λ m. IsCaused (Next v x L) m.body)
    (λ m c. caused_on (Since L (server_step s moment i choice).seen) (Next v x L) (shown_now v L index moment s i choice at came) m.body c) (server_step s moment i choice).out.sent left.1)

each_sound : (w : WorldState) (K : Seen → Type 0) → IsToldTruly K w → HoldsAfter w (λ e x. IsToldTruly (Next w x K) x.world)
each_sound w K h =
    let numbered = each_event w h.numbered in
    let k : ℕ = suc (length w.sent) in
    record {
      nothing = λ e. record { numbered = h.numbered; leases = leases_on w K h (nothing_happens w); told = told_on w K h (nothing_happens w) };
      masters = λ e moment i choice is up.
          let x : Happened = after_master w moment (master_step w.master moment i choice) in
          record {
            numbered = numbered.masters e moment i choice is up;
            leases = leases_on w K h x;
            told = more_told (Next w x K) w.sent k (master_step w.master moment i choice).out.sent (told_on w K h x) (master_said _ (master_talks (Next w x K)) w.master moment i choice);
          };
      opens = λ e moment choice.
          let x : Happened = after_master w moment (master_restart w.master moment choice) in
          record {
            numbered = numbered.opens e moment choice;
            leases = leases_on w K h x;
            told = more_told (Next w x K) w.sent k (master_restart w.master moment choice).out.sent (told_on w K h x) (restart_said _ (master_talks (Next w x K)) w.master moment choice);
          };
      serves = λ e index moment s i choice at is up. record { numbered = numbered.serves e index moment s i choice at is up; leases = served_leases w K h index moment s i choice at (came_in w e (suc index) moment i is); told = served_told w K h index moment s i choice at (came_in w e (suc index) moment i is) };
      restarts = λ e index moment s choice at.
          let x : Happened = after_server w index moment (server_restart s moment choice) in
          record {
            numbered = numbered.restarts e index moment s choice at;
            leases = one_server w K h x index (server_restart s moment choice).state (restart_right (Next w x K) s moment choice);
            told = more_told (Next w x K) w.sent k (server_restart s moment choice).out.sent (told_on w K h x) (restart_silent (Next w x K) s moment choice choice.ending);
          };
      steps = λ e index moment s i choice at is up.
          let x : Happened = after_client w index moment (client_step s moment i choice) in
          record {
            numbered = numbered.steps e index moment s i choice at is up;
            leases = leases_on w K h x;
            told = more_told (Next w x K) w.sent k (client_step s moment i choice).out.sent (told_on w K h x)
                (of_step (λ t ms. AllOf (λ m. IsCaused (Next w x K) m.body) ms) s moment i choice ((h.numbered).each index s at).named (λ d step. client_causes (Next w x K) (client_at s moment) d d.sent step refl) tt tt);
          };
      calls = λ e index moment s c choice at may.
          let x : Happened = after_client (with_call w index moment c) index moment (client_call s moment c choice) in
          record {
            numbered = numbered.calls e index moment s c choice at may;
            leases = leases_on w K h x;
            told = more_told (Next w x K) w.sent k (client_call s moment c choice).out.sent (told_on w K h x)
                (of_call (λ t ms. AllOf (λ m. IsCaused (Next w x K) m.body) ms) s moment c choice ((h.numbered).each index s at).named (λ d step. client_causes (Next w x K) (client_at s moment) d d.sent step refl) tt);
          };
      rots = λ e index handle s r place byte ending is_kept at there up.
          let x : Happened = with_rot w index s (rot_of handle place byte) ending is_kept in
          record {
            numbered = h.numbered;
            leases = one_server w K h x index (after_rot s (rot_of handle place byte) ending) (rot_leases (λ ls. AreRight (Next w x K) ls) s (rot_of handle place byte) ending (leases_on w K h x index s at) (none_right (Next w x K) (Next w x K)));
            told = told_on w K h x;
          };
    }

-- a list of events

abbrev Later : WorldState → List (Event × Choice) → (Seen → Type 0) → Seen → Type 0
Later w steps K y = K y ⊎ WasShown w steps y

all_later : (w : WorldState) (steps : List (Event × Choice)) (K : Seen → Type 0) → IsToldTruly K w → IsToldTruly (Later w steps K) (after_events w steps)
all_later w [] K h = sound_on K (Later w [] K) (λ y k. inl k) w h
all_later w (step ∷ rest) K h =
    sound_on (Later u rest (Next w x K)) (Later w (step ∷ rest) K) joined (after_events u rest)
    (all_later u rest (Next w x K) (holds_after w (λ e y. IsToldTruly (Next w y K) y.world) (each_sound w K h) step.0 step.1))
  where
    x : Happened
    x = happens w step.0 step.1

    u : WorldState
    u = x.world

    joined : (y : Seen) → Later u rest (Next w x K) y → Later w (step ∷ rest) K y
    joined y later =
        elim (later) [
          | inl next ↦ elim (next) [ inl before ↦ inl before | inr now ↦ inr (came_first (λ v z. IsShownNow v z y) w step rest now) ]
          | inr was ↦ inr (came_later (λ v z. IsShownNow v z y) w step rest was)
        ]

-- the law

abbrev Never : Seen → Type 0
Never y = ⊥

new_servers : (config : Config) (ns : List ℕ) (index : ℕ) (s : ServerState) → element_at (map (λ n. started_server config n (new_server_disk config.chunk config.block config.slots) 0) ns) index ≡ Some s → AreRight Never s.leases
new_servers config [] index s is = none_some s is
new_servers config (n ∷ ns) zero s is =
    subst (λ (x : ServerState). AreRight Never x.leases) (same_some (started_server config n (new_server_disk config.chunk config.block config.slots) 0) s is) (λ q p at. none_some p (sym (table.get-empty nat_cmp q) ∙ at))
new_servers config (n ∷ ns) (suc index) s is = new_servers config ns index s is

new_sound : (config : Config) (servers clients : ℕ) → IsToldTruly Never (new_world config servers clients)
new_sound config servers clients =
    record {
      numbered = numbered_reached config servers clients (new_world config servers clients) ([], refl);
      leases = new_servers config (first_numbers servers);
      told = λ place m none. none_some m none;
    }

pub successes_were_settled : SuccessesWereSettled
successes_were_settled config servers clients steps place m at id offset is =
    settled_on (Later start steps Never) (WasShown start steps) shown id (Some offset) (subst (λ (b : Body). IsCaused (Later start steps Never) b) is (sound.told place m at))
  where
    start : WorldState
    start = new_world config servers clients

    sound : IsToldTruly (Later start steps Never) (after_events start steps)
    sound = all_later start steps Never (new_sound config servers clients)

    shown : (y : Seen) → Later start steps Never y → WasShown start steps y
    shown y later = elim (later) [ inl none ↦ absurd none | inr was ↦ was ]
