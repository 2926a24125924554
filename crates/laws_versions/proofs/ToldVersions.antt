-- What servers say of versions was ordered, and so is what the master keeps of it.
use Rattle.std.proofs.Common.{◌≡◌, ℕ, suc, ◌-◌, true, false, List, [], ◌++◌, length, Option, Some, None, refl, sym, subst, inl, inr}
use Rattle.std.specs.Prelude.{IsTrue}
use Rattle.std.specs.Option.{option_to_list}
use Rattle.gfs_types.specs.declared.config.Config.{Config}
use Rattle.gfs_types.specs.declared.ids.Node.{Node}
use Rattle.gfs_types.specs.declared.ids.Node.TheVariants as node
use Rattle.messages.specs.declared.event.Event.{Event}
use Rattle.messages.specs.declared.event.Event.TheVariants as event
use Rattle.messages.specs.declared.event.NodeInput.{NodeInput}
use Rattle.messages.specs.declared.event.NodeInput.TheVariants as input
use Rattle.messages.specs.declared.message.Body.{Body}
use Rattle.messages.specs.declared.message.Body.TheVariants as body
use Rattle.messages.specs.declared.message.Message.{Message}
use Rattle.messages.specs.declared.message.ReplicaLine.{ReplicaLine}
use Rattle.protocol.specs.Tables.{Table}
use Rattle.protocol.specs.Sending.{the_server, server_number}
use Rattle.protocol.specs.ServerStep.{server_step, server_restart}
use Rattle.protocol.specs.Client.{ClientState, ClientDoing}
use Rattle.protocol.specs.ClientStep.{client_at, client_step, client_call}
use Rattle.protocol.specs.MasterStep.{master_step, master_restart}
use Rattle.protocol.specs.World.{WorldState, new_world, stamped, IsReached}
use Rattle.laws_base.proofs.Entries.{AllOf}
use Rattle.laws_base.proofs.MembersRecorded.{all_at}
use Rattle.laws_base.proofs.MessagesSent.{IsSent, sent_cases, none_sent, numbered_sent}
use Rattle.laws_base.proofs.RisingOrders.{element_numbered}
use Rattle.laws_base.proofs.LeasesTold.{AreTold as AreToldServers, told_kept}
use Rattle.laws_base.proofs.ScenesReached.{scene_reached}
use Rattle.laws_base.proofs.Events.{IsGiven, HoldsAfter}
use Rattle.laws_base.proofs.ClientNumbers.{IsSaid, IsStepOf, of_step, of_call}
use Rattle.laws_base.proofs.RequestsOnce.{numbered_reached}
use Rattle.laws_base.proofs.MasterTalks.{is_masters, MasterTalks, master_said, restart_said}
use Rattle.laws_versions.proofs.HeldVersions.{servers_are_true}
use Rattle.laws_versions.proofs.TakenOrders.{given_here}
use Rattle.laws_versions.specs.ToldVersions.{IsReported, SaysVersion, WasOrdered, SaidVersionsWereOrdered, HoldersWereOrdered}
use Rattle.laws_versions.proofs.TrueWords.{AreLinesOrdered, IsOthersWord, IsTrueFrom, IsTrueMessage, recorded_true, cloned_true, report_true, ordered_more, true_more}
use Rattle.laws_versions.proofs.ServerWords.{step_says, restart_says}
use Rattle.laws_versions.proofs.HoldersKnown.{AreKnownBy, none_known, IsInputSaid, step_known, restart_known}
use Rattle.laws_versions.proofs.ReachedEvents.{kept_reached}

-- what is kept of servers was ordered
abbrev pub AreHeld : List Message → Table (Table ℕ) → Type 0
AreHeld sent holders = AreKnownBy (WasOrdered sent) holders

abbrev pub AreWordsTrue : List Message → Type 0
AreWordsTrue sent = (m : Message) → IsSent sent m → IsTrueMessage sent m

-- more messages

same_true : (sent : List Message) (x m : Message) → x.sender ≡ m.sender → x.body ≡ m.body → IsTrueMessage sent x → IsTrueMessage sent m
same_true sent x m sender b h = subst (λ (n : Node). IsTrueFrom sent n m.body) sender (subst (λ (y : Body). IsTrueFrom sent x.sender y) b h)

pub words_more : (sent : List Message) (k : ℕ) (ms : List Message) → AreWordsTrue sent → AllOf (IsTrueMessage sent) ms → AreWordsTrue (sent ++ stamped k ms)
words_more sent k ms words new m is =
    elim (sent_cases sent (stamped k ms) m is) [
      | inl old ↦ true_more sent (stamped k ms) m.sender m.body (words m old)
      | inr now ↦
          let was = numbered_sent k ms now.0 m now.1 in
          let here : IsTrueMessage sent was.0 = all_at (IsTrueMessage sent) ms (was.1).0 was.0 new (was.1).1 in
          true_more sent (stamped k ms) m.sender m.body (same_true sent was.0 m (was.2).0 (was.2).2 here)
    ]

held_more : (sent ms : List Message) (holders : Table (Table ℕ)) → AreHeld sent holders → AreHeld (sent ++ ms) holders
held_more sent ms holders h server handle version is = ordered_more sent ms server handle version (h server handle version is)

-- what a message says of versions was ordered

line_at : (sent : List Message) (server : ℕ) (lines : List ReplicaLine) (handle version : ℕ) → AreLinesOrdered sent server lines → IsReported lines handle version
    → WasOrdered sent server handle version
line_at sent server lines handle version h is =
    let line : ReplicaLine = is.1 in
    subst (λ (q : ℕ). WasOrdered sent server q version) is.3
    (subst (λ (v : ℕ). WasOrdered sent server line.handle.0 v) is.4 (all_at (λ (l : ReplicaLine). WasOrdered sent server l.handle.0 l.version.0) lines is.0 line h is.2))

said_ordered : (sent : List Message) (sender : Node) (b : Body) (handle version : ℕ) → IsTrueFrom sent sender b → SaysVersion b handle version → WasOrdered sent (server_number sender) handle version
said_ordered sent sender (body.Recorded q v) handle version h is =
    subst (λ (k : ℕ). WasOrdered sent (server_number sender) k version) is.0 (subst (λ (n : ℕ). WasOrdered sent (server_number sender) q.0 n) is.1 (recorded_true sent sender q v h))
said_ordered sent sender (body.Cloned q v) handle version h is =
    subst (λ (k : ℕ). WasOrdered sent (server_number sender) k version) is.0 (subst (λ (n : ℕ). WasOrdered sent (server_number sender) q.0 n) is.1 (cloned_true sent sender q v h))
said_ordered sent sender (body.Report replicas leases) handle version h is = line_at sent (server_number sender) replicas handle version (report_true sent sender replicas leases h) is
said_ordered sent sender other handle version h is = absurd is

-- the master

others_word : (b : Body) → is_masters b ≡ true → IsOthersWord b
others_word (body.Recorded handle version) is = absurd (let both : false ≡ true = is in cc)
others_word (body.Cloned handle version) is = absurd (let both : false ≡ true = is in cc)
others_word (body.Report replicas leases) is = absurd (let both : false ≡ true = is in cc)
others_word (body.CopyAsk handle version) is = absurd (let both : false ≡ true = is in cc)
others_word (body.Image handle version serial bytes) is = absurd (let both : false ≡ true = is in cc)
others_word other is = tt

master_true : (sent : List Message) → MasterTalks (IsTrueMessage sent)
master_true sent = record { plain = λ receiver b is. others_word b is; locates = λ receiver number l current. tt }

-- what is delivered was sent
abbrev IsTrueInput : List Message → NodeInput → Type 0
IsTrueInput sent (input.Deliver m) = IsTrueMessage sent m
IsTrueInput sent input.Tick = Unit {0}

input_said : (sent : List Message) (i : NodeInput) → IsTrueInput sent i → IsInputSaid (WasOrdered sent) i
input_said sent i is x came handle version says = said_ordered sent x.sender x.body handle version (subst (λ (j : NodeInput). IsTrueInput sent j) came is) says

-- clients

said_by_client : (s t : ClientState) (b : Body) → IsSaid s t b → IsOthersWord b
said_by_client s t (body.Recorded handle version) h = absurd h
said_by_client s t (body.Cloned handle version) h = absurd h
said_by_client s t (body.Report replicas leases) h = absurd h
said_by_client s t (body.CopyAsk handle version) h = absurd h
said_by_client s t (body.Image handle version serial bytes) h = absurd h
said_by_client s t other h = tt

client_true : (sent : List Message) (s : ClientState) (d : ClientDoing) → IsStepOf s d → (o : Option Message) → d.sent ≡ o → AllOf (IsTrueMessage sent) (option_to_list o)
client_true sent s d step None is = tt
client_true sent s d step (Some m) is =
    let said = step.says m is in
    (subst (λ (n : Node). IsTrueFrom sent n m.body) (sym said.0) (said_by_client s d.client m.body said.1), tt)

-- worlds

pub record AreTold (w : WorldState) : Type 0 where
  pub words : AreWordsTrue w.sent
  pub held : IsTrue w.master.up → AreHeld w.sent w.master.holders

input_true : (w : WorldState) (e : Event) (moment : ℕ) (i : NodeInput) → IsGiven w e node.Master moment i → AreWordsTrue w.sent → IsTrueInput w.sent i
input_true w (event.Deliver number now) moment (input.Deliver m) is words = words m (number - 1, element_numbered w.sent number m is.0)
input_true w e moment input.Tick is words = tt
input_true w (event.Tick to now) moment (input.Deliver m) is words = absurd is
input_true w (event.Call client c now) moment (input.Deliver m) is words = absurd is
input_true w (event.Restart to now) moment (input.Deliver m) is words = absurd is
input_true w (event.Rot to handle place byte) moment (input.Deliver m) is words = absurd is
input_true w (event.Fuse to count torn) moment (input.Deliver m) is words = absurd is

told_after : (config : Config) (servers clients : ℕ) (w : WorldState) → IsReached config servers clients w → AreTold w → HoldsAfter w (λ e h. AreTold h.world)
told_after config servers clients w r h =
    let k : ℕ = suc (length w.sent) in
    record {
      nothing = λ e. h;
      masters = λ e moment i choice is up.
          let ms : List Message = (master_step w.master moment i choice).out.sent in
          let known = step_known (WasOrdered w.sent) w.master moment i choice (input_said w.sent i (input_true w e moment i is h.words)) h.held in
          record {
            words = words_more w.sent k ms h.words (master_said (IsTrueMessage w.sent) (master_true w.sent) w.master moment i choice);
            held = λ on. held_more w.sent (stamped k ms) (master_step w.master moment i choice).state.holders (known on);
          };
      opens = λ e moment choice.
          let ms : List Message = (master_restart w.master moment choice).out.sent in
          let known = restart_known (WasOrdered w.sent) w.master moment choice in
          record {
            words = words_more w.sent k ms h.words (restart_said (IsTrueMessage w.sent) (master_true w.sent) w.master moment choice);
            held = λ on. held_more w.sent (stamped k ms) (master_restart w.master moment choice).state.holders (known on);
          };
      serves = λ e index moment s i choice at is up.
          let ms : List Message = (server_step s moment i choice).out.sent in
          let good = step_says w.sent (suc index) h.words s moment i choice (given_here w e index moment i is) (servers_are_true config servers clients w r index s at)
          (scene_reached AreToldServers told_kept config servers clients w r index s at).id in
          record {
            words = words_more w.sent k ms h.words good;
            held = λ on. held_more w.sent (stamped k ms) w.master.holders (h.held on);
          };
      restarts = λ e index moment s choice at.
          let ms : List Message = (server_restart s moment choice).out.sent in
          let said = restart_says s moment choice choice.ending in
          record {
            words = words_more w.sent k ms h.words (subst (λ (xs : List Message). AllOf (IsTrueMessage w.sent) xs) (sym said) tt);
            held = λ on. held_more w.sent (stamped k ms) w.master.holders (h.held on);
          };
      steps = λ e index moment s i choice at is up.
          let ms : List Message = (client_step s moment i choice).out.sent in
          record {
            words = words_more w.sent k ms h.words
                (of_step (λ t xs. AllOf (IsTrueMessage w.sent) xs) s moment i choice ((numbered_reached config servers clients w r).each index s at).named
                (λ d step. client_true w.sent (client_at s moment) d step d.sent refl) tt tt);
            held = λ on. held_more w.sent (stamped k ms) w.master.holders (h.held on);
          };
      calls = λ e index moment s c choice at may.
          let ms : List Message = (client_call s moment c choice).out.sent in
          record {
            words = words_more w.sent k ms h.words
                (of_call (λ t xs. AllOf (IsTrueMessage w.sent) xs) s moment c choice ((numbered_reached config servers clients w r).each index s at).named
                (λ d step. client_true w.sent (client_at s moment) d step d.sent refl) tt);
            held = λ on. held_more w.sent (stamped k ms) w.master.holders (h.held on);
          };
      rots = λ e index handle s x place byte ending is_kept at there up. record { words = h.words; held = h.held };
    }

new_told : (config : Config) (servers clients : ℕ) → AreTold (new_world config servers clients)
new_told config servers clients =
    record {
      words = λ m is. none_sent m is;
      held = λ up. none_known (WasOrdered []);
    }

pub told_reached : (config : Config) (servers clients : ℕ) (w : WorldState) → IsReached config servers clients w → AreTold w
told_reached config servers clients w r = kept_reached config servers clients AreTold (told_after config servers clients) (new_told config servers clients) w r

-- as the laws say it

pub said_versions_were_ordered : SaidVersionsWereOrdered
said_versions_were_ordered config servers clients w r place m at server from handle version is =
    said_ordered w.sent (the_server server) m.body handle version (subst (λ (n : Node). IsTrueFrom w.sent n m.body) from ((told_reached config servers clients w r).words m (place, at))) is

pub holders_were_ordered : HoldersWereOrdered
holders_were_ordered config servers clients w r up server handle version is = (told_reached config servers clients w r).held up server handle version is
