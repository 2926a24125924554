-- A Cloned is of a clone that its server waited for, and so of a Clone that it took; the other words of versions were told.
use Rattle.std.proofs.Common.{◌≡◌, ℕ, zero, suc, true, List, [], ◌∷◌, ◌++◌, length, Option, Some, None, refl, sym, ap, subst, ◌∙◌, inl, inr}
use Rattle.std.specs.Prelude.{◌==◌, ◌&&◌}
use Rattle.std.specs.Option.{option_to_list}
use Rattle.std.specs.List.{list_any}
use Rattle.std.specs.FinMap as table
use Rattle.std.proofs.lemmas.Bool.{and_from, or_left, or_right}
use Rattle.gfs_types.specs.declared.config.Config.{Config}
use Rattle.messages.specs.declared.event.NodeInput.{NodeInput}
use Rattle.messages.specs.declared.message.Message.{Message}
use Rattle.messages.specs.declared.message.Body.{Body}
use Rattle.messages.specs.declared.message.Body.TheVariants as body
use Rattle.messages.specs.declared.message.ReplicaLine.{ReplicaLine}
use Rattle.replica_store.specs.declared.change.StoreChange.{StoreChange}
use Rattle.protocol.specs.Tables.{element_at, with_at}
use Rattle.protocol.specs.Sending.{the_server, handle_of, version_of}
use Rattle.protocol.specs.Choice.{Choice, Ending, Goes, Lost, Stops}
use Rattle.protocol.specs.Client.{ClientState, ClientDoing}
use Rattle.protocol.specs.ClientStep.{client_at, client_step, client_call}
use Rattle.protocol.specs.Server.{ServerState}
use Rattle.protocol.specs.ServerStep.{server_step, server_restarts, server_restart}
use Rattle.protocol.specs.MasterStep.{master_step, master_restart}
use Rattle.protocol.specs.World.{WorldState, stamped, IsReached, after_rot}
use Rattle.laws_base.specs.Laws.{tells_version}
use Rattle.laws_base.proofs.Steps.{none_some, same_some}
use Rattle.laws_base.proofs.Entries.{AllOf, same_number}
use Rattle.laws_base.proofs.Words.{true_false}
use Rattle.laws_base.proofs.MembersRecorded.{all_at}
use Rattle.laws_base.proofs.MessagesSent.{IsSent, sent_cases, none_sent, numbered_sent}
use Rattle.laws_base.proofs.RisingOrders.{Later, same_later, step_goes_on, restarts_as, set_cases, rot_goes_on}
use Rattle.laws_base.proofs.LeasesTold.{AreTold, told_kept}
use Rattle.laws_base.proofs.ScenesReached.{scene_reached}
use Rattle.laws_base.proofs.Events.{HoldsAfter, rot_of}
use Rattle.laws_base.proofs.ClientNumbers.{IsSaid, IsStepOf, of_step, of_call}
use Rattle.laws_base.proofs.RequestsOnce.{numbered_reached}
use Rattle.laws_base.proofs.MasterTalks.{is_masters, MasterTalks, master_said, restart_said}
use Rattle.laws_versions.specs.ToldVersions.{IsReported, SaysVersion}
use Rattle.laws_versions.proofs.ReachedEvents.{kept_reached}
use Rattle.laws_versions.proofs.TakenOrders.{IsOrdered, ordered_later, ordered_more, servers_are_faithful}
use Rattle.laws_versions.proofs.ToldOrders.{same_index}
use Rattle.laws_versions.specs.GivenOnce.{RefusesItsOrder}
use Rattle.laws_versions.proofs.RefusedOrders.{taken_refused, told_versions_refuse_their_order}
use Rattle.laws_versions.specs.KnownVersions.{SaidVersionsRefuseTheirOrder}
use Rattle.laws_versions.proofs.ClonedWords.{is_plain, step_words}

abbrev IsCloned : Body → ℕ → ℕ → Type 0
IsCloned b handle version = b ≡ body.Cloned (handle_of handle) (version_of version)

-- of this server's Cloneds: each is of an order that it took
abbrev AreTaken : List Message → List ServerState → Type 0
AreTaken sent servers =
    (m : Message) → IsSent sent m → (handle version : ℕ) → IsCloned m.body handle version
    → (index : ℕ) (s : ServerState) → m.sender ≡ the_server (suc index) → element_at servers index ≡ Some s → IsOrdered sent (suc index) s.disk handle version

-- each server of the later world goes on from the one at its place
abbrev AreGoingOn : List ServerState → List ServerState → Type 0
AreGoingOn servers others = (index : ℕ) (t : ServerState) → element_at others index ≡ Some t → (s : ServerState) × (element_at servers index ≡ Some s) × Later s.disk t.disk

abbrev IsNewTaken : List Message → List ServerState → Message → Type 0
IsNewTaken sent others x =
    (handle version : ℕ) → IsCloned x.body handle version → (index : ℕ) (t : ServerState) → x.sender ≡ the_server (suc index) → element_at others index ≡ Some t → IsOrdered sent (suc index) t.disk handle version

grown_taken : (sent : List Message) (k : ℕ) (ms : List Message) (servers others : List ServerState) → AreGoingOn servers others → AllOf (IsNewTaken sent others) ms → AreTaken sent servers → AreTaken (sent ++ stamped k ms) others
grown_taken sent k ms servers others going new h m is handle version cloned index t from there =
    elim (sent_cases sent (stamped k ms) m is) [
      | inl old ↦
          let was = going index t there in
          ordered_more sent (stamped k ms) (suc index) t.disk handle version (ordered_later sent (suc index) (was.0).disk t.disk handle version was.2 (h m old handle version cloned index was.0 from was.1))
      | inr now ↦
          let was = numbered_sent k ms now.0 m now.1 in
          ordered_more sent (stamped k ms) (suc index) t.disk handle version
          (all_at (IsNewTaken sent others) ms (was.1).0 was.0 new (was.1).1 handle version ((was.2).2 ∙ cloned) index t ((was.2).0 ∙ from) there)
    ]

same_going : (servers : List ServerState) → AreGoingOn servers servers
same_going servers index t there = (t, there, same_later t.disk)

one_going : (servers : List ServerState) (at : ℕ) (s t : ServerState) → element_at servers at ≡ Some s → Later s.disk t.disk → AreGoingOn servers (with_at servers at t)
one_going servers at s t there later index u is =
    elim (set_cases servers at t index u is) [
      | inl both ↦ (s, ap (λ (k : ℕ). element_at servers k) both.0 ∙ there, subst (λ (x : ServerState). Later s.disk x.disk) (sym both.1) later)
      | inr old ↦ (u, old, same_later u.disk)
    ]

-- who says no Cloned

abbrev IsPlain : Message → Type 0
IsPlain x = is_plain x.body ≡ true

plain_new : (sent : List Message) (others : List ServerState) (ms : List Message) → AllOf IsPlain ms → AllOf (IsNewTaken sent others) ms
plain_new sent others [] all = tt
plain_new sent others (x ∷ ms) all = ((λ handle version cloned index t from there. true_false (sym all.0 ∙ ap is_plain cloned)), plain_new sent others ms all.1)

masters_plain : (b : Body) → is_masters b ≡ true → is_plain b ≡ true
masters_plain (body.Cloned handle version) is = true_false (sym is)
masters_plain other is = refl

master_plain : MasterTalks IsPlain
master_plain = record { plain = λ receiver b is. masters_plain b is; locates = λ receiver number l current. refl }

said_plain : (s t : ClientState) (b : Body) → IsSaid s t b → is_plain b ≡ true
said_plain s t (body.Cloned handle version) h = absurd h
said_plain s t other h = refl

client_plain : (s : ClientState) (d : ClientDoing) (o : Option Message) → IsStepOf s d → d.sent ≡ o → AllOf IsPlain (option_to_list o)
client_plain s d None step is = tt
client_plain s d (Some m) step is = (said_plain s d.client m.body (step.says m is).1, tt)

restart_plain : (s : ServerState) (moment : ℕ) (choice : Choice) (e : Ending) → AllOf IsPlain (server_restarts s moment choice e).out.sent
restart_plain s moment choice Goes = tt
restart_plain s moment choice Lost = tt
restart_plain s moment choice (Stops made) = tt

-- a server's step

abbrev numbers_of : Body → ℕ × ℕ
numbers_of (body.Cloned handle version) = (handle.0, version.0)
numbers_of other = (0, 0)

abbrev SaysTaken : List Message → ℕ → ServerState → Body → Type 0
SaysTaken sent server s b = (handle version : ℕ) → IsCloned b handle version → IsOrdered sent server s.disk handle version

plain_says : (sent : List Message) (server : ℕ) (s : ServerState) (b : Body) → is_plain b ≡ true → SaysTaken sent server s b
plain_says sent server s b plain handle version is = true_false (sym plain ∙ ap is_plain is)

module _ (config : Config) (servers clients : ℕ) (w : WorldState) (r : IsReached config servers clients w) where
  step_new : (index moment : ℕ) (s : ServerState) (i : NodeInput) (choice : Choice) → element_at w.servers index ≡ Some s
      → AllOf (IsNewTaken w.sent (with_at w.servers index (server_step s moment i choice).state)) (server_step s moment i choice).out.sent
  step_new index moment s i choice at = all_new (server_step s moment i choice).out.sent words
    where
      later : Later s.disk (server_step s moment i choice).state.disk
      later = (step_goes_on s moment i choice (scene_reached AreTold told_kept config servers clients w r index s at).sound).later

      clones_told : (handle version : ℕ) → table.get s.clones handle ≡ Some version → SaysTaken w.sent (suc index) s (body.Cloned (handle_of handle) (version_of version))
      clones_told handle version there q v is =
          subst (λ (p : ℕ × ℕ). IsOrdered w.sent (suc index) s.disk p.0 p.1) (ap numbers_of is) (inr ((servers_are_faithful config servers clients w r index s at).clones handle version there))

      all_new : (ms : List Message) → AllOf (λ m. (m.sender ≡ the_server (suc index)) × SaysTaken w.sent (suc index) s m.body) ms → AllOf (IsNewTaken w.sent (with_at w.servers index (server_step s moment i choice).state)) ms
      all_new [] all = tt
      all_new (x ∷ ms) all = (
        λ handle version cloned j t from there.
            let same : index ≡ j = same_index index j (sym (all.0).0 ∙ from) in
            let here : IsOrdered w.sent (suc index) s.disk handle version = (all.0).1 handle version cloned in
            let new : ServerState = (server_step s moment i choice).state in
            subst (λ (k : ℕ). IsOrdered w.sent (suc k) t.disk handle version) same
            (elim (set_cases w.servers index new j t there) [
              | inl both ↦ subst (λ (u : ServerState). IsOrdered w.sent (suc index) u.disk handle version) (sym both.1) (ordered_later w.sent (suc index) s.disk new.disk handle version later here)
              | inr old ↦ subst (λ (u : ServerState). IsOrdered w.sent (suc index) u.disk handle version) (same_some s t (sym at ∙ ap (λ (k : ℕ). element_at w.servers k) same ∙ old)) here
            ]),
        all_new ms all.1,
      )

      words : AllOf (λ m. (m.sender ≡ the_server (suc index)) × SaysTaken w.sent (suc index) s m.body) (server_step s moment i choice).out.sent
      words =
          step_words (suc index) s.clones (SaysTaken w.sent (suc index) s) (plain_says w.sent (suc index) s) clones_told s moment i choice (scene_reached AreTold told_kept config servers clients w r index s at).id refl

-- worlds

abbrev AreClonesTaken : WorldState → Type 0
AreClonesTaken w = AreTaken w.sent w.servers

each_taken : (config : Config) (servers clients : ℕ) (w : WorldState) → IsReached config servers clients w → AreClonesTaken w → HoldsAfter w (λ e x. AreClonesTaken x.world)
each_taken config servers clients w r h =
    let k : ℕ = suc (length w.sent) in
    record {
      nothing = λ e. h;
      masters = λ e moment i choice is up.
          let ms : List Message = (master_step w.master moment i choice).out.sent in
          grown_taken w.sent k ms w.servers w.servers (same_going w.servers) (plain_new w.sent w.servers ms (master_said IsPlain master_plain w.master moment i choice)) h;
      opens = λ e moment choice.
          let ms : List Message = (master_restart w.master moment choice).out.sent in
          grown_taken w.sent k ms w.servers w.servers (same_going w.servers) (plain_new w.sent w.servers ms (restart_said IsPlain master_plain w.master moment choice)) h;
      serves = λ e index moment s i choice at is up.
          let t : ServerState = (server_step s moment i choice).state in
          grown_taken w.sent k (server_step s moment i choice).out.sent w.servers (with_at w.servers index t)
          (one_going w.servers index s t at (step_goes_on s moment i choice (scene_reached AreTold told_kept config servers clients w r index s at).sound).later) (step_new config servers clients w r index moment s i choice at) h;
      restarts = λ e index moment s choice at.
          let t : ServerState = (server_restart s moment choice).state in
          let ms : List Message = (server_restart s moment choice).out.sent in
          grown_taken w.sent k ms w.servers (with_at w.servers index t) (one_going w.servers index s t at (restarts_as s moment choice choice.ending (scene_reached AreTold told_kept config servers clients w r index s at).sound).later)
          (plain_new w.sent (with_at w.servers index t) ms (restart_plain s moment choice choice.ending)) h;
      steps = λ e index moment s i choice at is up.
          let ms : List Message = (client_step s moment i choice).out.sent in
          grown_taken w.sent k ms w.servers w.servers (same_going w.servers)
          (plain_new w.sent w.servers ms
          (of_step (λ t xs. AllOf IsPlain xs) s moment i choice ((numbered_reached config servers clients w r).each index s at).named (λ d step. client_plain (client_at s moment) d d.sent step refl) tt tt)) h;
      calls = λ e index moment s c choice at may.
          let ms : List Message = (client_call s moment c choice).out.sent in
          grown_taken w.sent k ms w.servers w.servers (same_going w.servers)
          (plain_new w.sent w.servers ms
          (of_call (λ t xs. AllOf IsPlain xs) s moment c choice ((numbered_reached config servers clients w r).each index s at).named (λ d step. client_plain (client_at s moment) d d.sent step refl) tt)) h;
      rots = λ e index handle s x place byte ending is_kept at there up m is q v cloned j t from now.
          let rot : StoreChange = rot_of handle place byte in
          let later = (rot_goes_on s rot ending tt (scene_reached AreTold told_kept config servers clients w r index s at).sound up).later in
          let was = one_going w.servers index s (after_rot s rot ending) at later j t now in
          ordered_later w.sent (suc j) (was.0).disk t.disk q v was.2 (h m is q v cloned j was.0 from was.1);
    }

clones_taken : (config : Config) (servers clients : ℕ) (w : WorldState) → IsReached config servers clients w → AreClonesTaken w
clones_taken config servers clients w r = kept_reached config servers clients AreClonesTaken (each_taken config servers clients) (λ m is. none_sent m is) w r

-- by the kind of word

any_line : (handle version : ℕ) (lines : List ReplicaLine) → IsReported lines handle version → list_any (λ line. (line.handle.0 == handle) && (line.version.0 == version)) lines ≡ true
any_line handle version lines is = by_place lines is.0 is.2
  where
    same : (((is.1).handle.0 == handle) && ((is.1).version.0 == version)) ≡ true
    same =
        and_from ((is.1).handle.0 == handle) ((is.1).version.0 == version) (subst (λ (k : ℕ). ((is.1).handle.0 == k) ≡ true) is.3 (same_number (is.1).handle.0))
        (subst (λ (k : ℕ). ((is.1).version.0 == k) ≡ true) is.4 (same_number (is.1).version.0))

    by_place : (all : List ReplicaLine) (place : ℕ) → element_at all place ≡ Some is.1 → list_any (λ line. (line.handle.0 == handle) && (line.version.0 == version)) all ≡ true
    by_place [] place at = none_some is.1 at
    by_place (line ∷ rest) zero at =
        or_left ((line.handle.0 == handle) && (line.version.0 == version)) (list_any (λ x. (x.handle.0 == handle) && (x.version.0 == version)) rest)
        (ap (λ (x : ReplicaLine). (x.handle.0 == handle) && (x.version.0 == version)) (same_some line is.1 at) ∙ same)
    by_place (line ∷ rest) (suc place) at = or_right ((line.handle.0 == handle) && (line.version.0 == version)) (list_any (λ x. (x.handle.0 == handle) && (x.version.0 == version)) rest) (by_place rest place at)

pub said_refused : (config : Config) (servers clients : ℕ) (w : WorldState) → IsReached config servers clients w → (place : ℕ) (word : Message) → element_at w.sent place ≡ Some word → (b : Body) → word.body ≡ b → (handle version : ℕ) → SaysVersion b handle version
    → (index : ℕ) (s : ServerState) → word.sender ≡ the_server (suc index) → element_at w.servers index ≡ Some s → RefusesItsOrder w.sent index s handle version
said_refused config servers clients w r place word at (body.Recorded q v) is handle version says index s from there =
    told_versions_refuse_their_order config servers clients w r place word at handle version
    (ap (tells_version handle version) is ∙ and_from (q.0 == handle) (v.0 == version) (subst (λ (k : ℕ). (q.0 == k) ≡ true) says.0 (same_number q.0)) (subst (λ (k : ℕ). (v.0 == k) ≡ true) says.1 (same_number v.0))) index s from there
said_refused config servers clients w r place word at (body.Report replicas leases) is handle version says index s from there =
    told_versions_refuse_their_order config servers clients w r place word at handle version (ap (tells_version handle version) is ∙ any_line handle version replicas says) index s from there
said_refused config servers clients w r place word at (body.Cloned q v) is handle version says index s from there =
    taken_refused config servers clients w r index s handle version
    (clones_taken config servers clients w r word (place, at) handle version
    (is ∙ ap (λ (k : ℕ). body.Cloned (handle_of k) v) says.0 ∙ ap (λ (k : ℕ). body.Cloned (handle_of handle) (version_of k)) says.1) index s from there)
said_refused config servers clients w r place word at other is handle version says index s from there = absurd says

pub said_versions_refuse_their_order : SaidVersionsRefuseTheirOrder
said_versions_refuse_their_order config servers clients w r place word at handle version says index s from there = said_refused config servers clients w r place word at word.body refl handle version says index s from there
