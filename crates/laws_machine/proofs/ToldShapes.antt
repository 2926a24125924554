-- The shapes that clients were told: each in a step of a master that was up, of a file that it had then.
use Rattle.std.proofs.Common.{◌≡◌, ◌⊎◌, ℕ, suc, ◌≤◌, true, List, [], ◌∷◌, ◌++◌, length, Option, Some, None, is_some, refl, sym, ap, subst, ◌∙◌, inl, inr, arith}
use Rattle.std.specs.Prelude.{◌&&◌, nat_lt, nat_le, not, IsTrue, unwrap_or}
use Rattle.std.specs.Option.{option_to_list}
use Rattle.std.specs.FinMap as table
use Rattle.std.proofs.lemmas.Bool.{true≢false, cases_lt, and_parts, leb-true}
use Rattle.gfs_types.specs.declared.config.Config.{Config}
use Rattle.gfs_types.specs.declared.ids.FileId.{FileId}
use Rattle.gfs_types.specs.declared.shape.Shape.{Shape}
use Rattle.gfs_types.specs.Paths.{Path}
use Rattle.messages.specs.declared.event.Event.{Event}
use Rattle.messages.specs.declared.event.NodeInput.{NodeInput}
use Rattle.messages.specs.declared.message.Body.{Body}
use Rattle.messages.specs.declared.message.Body.TheVariants as body
use Rattle.messages.specs.declared.message.Location.{Location}
use Rattle.messages.specs.declared.message.Message.{Message}
use Rattle.messages.specs.declared.message.NameReply.TheVariants.{Opened, Answered}
use Rattle.chunk_table.specs.ChunkTable.{handles_of, shape_of}
use Rattle.relaxed_file.specs.Machine.{Machine}
use Rattle.relaxed_file.specs.Names.{File, node_at}
use Rattle.relaxed_file.specs.Run.{LeadsTo}
use Rattle.relaxed_file.specs.Run as run
use Rattle.relaxed_file.proofs.Grows.{grows_to, known_when_reached}
use Rattle.relaxed_file.proofs.ShapesKept.{shapes_stay}
use Rattle.protocol.specs.Choice.{Choice}
use Rattle.protocol.specs.Client.{ClientState, ClientDoing}
use Rattle.protocol.specs.ClientStep.{client_at, client_step, client_call}
use Rattle.protocol.specs.Logged.{Logged}
use Rattle.protocol.specs.MasterStep.{master_step, master_restart}
use Rattle.protocol.specs.ServerStep.{server_step, server_restart}
use Rattle.protocol.specs.Tables.{element_at}
use Rattle.protocol.specs.World.{WorldState, happens, stamped, IsReached}
use Rattle.laws_base.proofs.Entries.{AllOf}
use Rattle.laws_base.proofs.MembersRecorded.{all_at}
use Rattle.laws_base.proofs.NamesLogged.{files_have_one_name}
use Rattle.laws_base.proofs.Steps.{none_some}
use Rattle.laws_base.proofs.ClientNumbers.{IsSaid as IsClientsWord, IsStepOf, of_step, of_call}
use Rattle.laws_base.proofs.Events.{HoldsAfter, holds_after}
use Rattle.laws_base.proofs.Histories.{IsGrown, step_grown, stood_before}
use Rattle.laws_base.proofs.LeasesStayOver.{reached_later}
use Rattle.laws_base.proofs.RequestsOnce.{AreNumbered, numbered_reached}
use Rattle.laws_base.proofs.ToldShapes.{opened_shapes_are_logged}
use Rattle.laws_names.proofs.ServerSilence.{IsSilent, server_silent, server_restart_silent}
use Rattle.laws_versions.specs.ReplacedChunks.{IsToldAt}
use Rattle.laws_versions.specs.ToldSizes.{IsOfFiles}
use Rattle.laws_versions.proofs.AskedSteps.{IsToldOf}
use Rattle.laws_versions.proofs.ClosedVersions.{clocks_before}
use Rattle.laws_versions.proofs.ExtendLaws.{restart_silent, new_one, none_before}
use Rattle.laws_versions.proofs.GrantedSizes.{told_shapes_are_their_files}
use Rattle.laws_versions.proofs.ToldAnswers.{TellsNone, server_tells, restart_tells, client_tells, told_now}
use Rattle.laws_machine.specs.ToldShapes.{IsMadeWith, AreShapesTold, HasMadeFiles, ToldShapesGoOn}
use Rattle.laws_machine.proofs.ToldRounds.{told_before}
use Rattle.protocol.specs.Master.{PendingSnapshot}
use Rattle.laws_machine.specs.ChunksAlike.{ChunkSides}
use Rattle.laws_machine.specs.Rounds.{IsLogOf}
use Rattle.laws_machine.specs.WholeWorlds.{IsBeside}
use Rattle.laws_base.proofs.ShapesTold.{log_has_the_shapes}
use Rattle.machine_names.proofs.Effects.{same_shape}

-- who tells no shape

-- no answer on names
abbrev IsNoReply : Body → Type 0
IsNoReply (body.Named number reply) = ⊥
IsNoReply other = Unit {0}

silent_no_reply : (b : Body) → IsSilent b → IsNoReply b
silent_no_reply (body.Named number reply) is = absurd is
silent_no_reply other is = tt

word_no_reply : (s t : ClientState) (b : Body) → IsClientsWord s t b → IsNoReply b
word_no_reply s t (body.Named number reply) is = absurd is
word_no_reply s t other is = tt

client_no_reply : (s : ClientState) (d : ClientDoing) (o : Option Message) → IsStepOf s d → d.sent ≡ o → AllOf (λ m. IsNoReply m.body) (option_to_list o)
client_no_reply s d None step is = tt
client_no_reply s d (Some m) step is = (word_no_reply s d.client m.body (step.says m is).1, tt)

-- what an event tells of shapes

-- the file has a name in the log, and this shape
abbrev IsFound : Logged → ℕ → Shape → Type 0
IsFound l file shape = (shape ≡ shape_of l.table file) × (path : Path) × (node_at l.names path ≡ Some (File file))

-- what a message tells of a shape is so of a master that is up
abbrev IsTelling : WorldState → Body → Type 0
IsTelling u (body.Named number (Opened file shape)) = IsTrue u.master.up × IsFound u.master.logged file.0 shape
IsTelling u (body.Told number (Some l)) = IsTrue u.master.up × IsOfFiles u.master.logged l.handle.0 (λ s. l.shape ≡ s)
IsTelling u other = Unit {0}

plain_telling : (u : WorldState) (b : Body) → IsNoReply b → TellsNone b → IsTelling u b
plain_telling u (body.Named number reply) none quiet = absurd none
plain_telling u (body.Told number (Some l)) none quiet = absurd (true≢false quiet)
plain_telling u other none quiet = tt

abbrev AreTelling : WorldState → WorldState → Type 0
AreTelling u v = (place : ℕ) (m : Message) → length u.sent ≤ place → element_at v.sent place ≡ Some m → IsTelling u m.body

module _ (u : WorldState) where
  -- messages of those who tell none
  quiet_new : (ms : List Message) (k place : ℕ) (m : Message) → AllOf (λ x. IsNoReply x.body) ms → AllOf (λ x. TellsNone x.body) ms → length u.sent ≤ place → element_at (u.sent ++ stamped k ms) place ≡ Some m
      → IsTelling u m.body
  quiet_new ms k place m none quiet from at =
      let new = new_one u.sent ms k place m from at in
      subst (λ (b : Body). IsTelling u b) (new.2).2
      (plain_telling u (new.0).body (all_at (λ (x : Message). IsNoReply x.body) ms (new.1).0 new.0 none (new.1).1) (all_at (λ (x : Message). TellsNone x.body) ms (new.1).0 new.0 quiet (new.1).1))

  no_replies : (ms : List Message) → AllOf (λ x. IsSilent x.body) ms → AllOf (λ x. IsNoReply x.body) ms
  no_replies [] all = tt
  no_replies (x ∷ rest) all = (silent_no_reply x.body all.0, no_replies rest all.1)

each_telling : (config : Config) (servers clients : ℕ) (u : WorldState) → IsReached config servers clients u → HoldsAfter u (λ e x. AreTelling u x.world)
each_telling config servers clients u r =
    record {
      nothing = λ e place m from at. none_before u.sent place m from at;
      masters = λ e moment i choice given up place m from at.
          let new = new_one u.sent (master_step u.master moment i choice).out.sent k place m from at in
          subst (λ (b : Body). IsTelling u b) (new.2).2 (by_body moment i choice up (new.1).0 new.0 (new.1).1 (new.0).body refl);
      opens = λ e moment choice place m from at.
          quiet_new u (master_restart u.master moment choice).out.sent k place m (subst (λ (ms : List Message). AllOf (λ x. IsNoReply x.body) ms) (sym (restart_silent u.master moment choice)) tt)
          (subst (λ (ms : List Message). AllOf (λ x. TellsNone x.body) ms) (sym (restart_silent u.master moment choice)) tt) from at;
      serves = λ e index moment s i choice there given up place m from at.
          quiet_new u (server_step s moment i choice).out.sent k place m (no_replies u (server_step s moment i choice).out.sent (server_silent s moment i choice)) (server_tells s moment i choice) from at;
      restarts = λ e index moment s choice there place m from at.
          quiet_new u (server_restart s moment choice).out.sent k place m (no_replies u (server_restart s moment choice).out.sent (server_restart_silent s moment choice)) (restart_tells s moment choice choice.ending) from at;
      steps = λ e index moment s i choice there given up place m from at.
          quiet_new u (client_step s moment i choice).out.sent k place m
          (of_step (λ t ms. AllOf (λ x. IsNoReply x.body) ms) s moment i choice (numbered.each index s there).named (λ d step. client_no_reply (client_at s moment) d d.sent step refl) tt tt)
          (of_step (λ t ms. AllOf (λ x. TellsNone x.body) ms) s moment i choice (numbered.each index s there).named (λ d step. client_tells (client_at s moment) d d.sent step refl) tt tt) from at;
      calls = λ e index moment s c choice there may place m from at.
          quiet_new u (client_call s moment c choice).out.sent k place m
          (of_call (λ t ms. AllOf (λ x. IsNoReply x.body) ms) s moment c choice (numbered.each index s there).named (λ d step. client_no_reply (client_at s moment) d d.sent step refl) tt)
          (of_call (λ t ms. AllOf (λ x. TellsNone x.body) ms) s moment c choice (numbered.each index s there).named (λ d step. client_tells (client_at s moment) d d.sent step refl) tt) from at;
      rots = λ e index q s x at_place byte ending is_kept there held up place m from at. none_before u.sent place m from at;
    }
  where
    k : ℕ
    k = suc (length u.sent)

    numbered : AreNumbered u.sent u.clients
    numbered = numbered_reached config servers clients u r

    by_body : (moment : ℕ) (i : NodeInput) (choice : Choice) → IsTrue u.master.up → (place : ℕ) (x : Message) → element_at (master_step u.master moment i choice).out.sent place ≡ Some x → (b : Body) → x.body ≡ b → IsTelling u b
    by_body moment i choice up place x at (body.Named number (Opened file shape)) is = (up, opened_shapes_are_logged u.master moment i choice place x at number file shape is)
    by_body moment i choice up place x at (body.Named number (Answered reply)) is = tt
    by_body moment i choice up place x at (body.Told number None) is = tt
    by_body moment i choice up place x at (body.Told number (Some l)) is = (up, told_shapes_are_their_files config servers clients u r up moment i choice place x at number l is)
    by_body moment i choice up place x at other is = tt

-- from one world to the next

pub stood_in : (l : Logged) (file index handle : ℕ) → element_at (handles_of l.table file) index ≡ Some handle → table.contains_key l.table.files file ≡ true
stood_in l file index handle at = by_file (table.get l.table.files file) refl
  where
    by_file : (o : Option (List ℕ)) → table.get l.table.files file ≡ o → table.contains_key l.table.files file ≡ true
    by_file None none = none_some handle (sym (ap (λ (x : Option (List ℕ)). element_at (unwrap_or x []) index) none) ∙ at)
    by_file (Some hs) is = ap is_some is

-- what was made stays so
module _ (config : Config) (m n : Machine) (reached : run.IsReached config m) (led : LeadsTo m n) where
  pub made_still : (file : ℕ) (shape : Shape) → IsMadeWith m file shape → IsMadeWith n file shape
  made_still file shape h =
      let more = (grows_to m n led (known_when_reached config m reached)).file_count in
      let was = h.0 in
      (omega (arith, more, was), h.1 ∙ sym (shapes_stay config m n file reached led h.0), h.2)

  pub told_still : (sent : List Message) → AreShapesTold sent m → AreShapesTold sent n
  told_still sent h = record {
    opened = λ place number x file shape at is. made_still file.0 shape (h.opened place number x file shape at is);
    located = λ client file l place t. made_still file l.shape (h.located client file l place t);
  }

module _ (config : Config) (servers clients : ℕ) (w : WorldState) (r : IsReached config servers clients w) (e : Event) (choice : Choice) (clocks : IsTrue (happens w e choice).world.observer.are_clocks_kept)
    (m n : Machine) (reached : run.IsReached config m) (led : LeadsTo m n) (has : IsTrue w.master.up → HasMadeFiles w.master.logged m) (told : AreShapesTold w.sent m) where
  abbrev then_ : WorldState
  then_ = (happens w e choice).world

  grown : IsGrown w.sent then_.sent
  grown = step_grown w e choice

  later : IsReached config servers clients then_
  later = reached_later config servers clients w ((e, choice) ∷ []) r

  telling : (place : ℕ) (x : Message) → length w.sent ≤ place → element_at then_.sent place ≡ Some x → IsTelling w x.body
  telling place x from at = holds_after w (λ e x. AreTelling w x.world) (each_telling config servers clients w r) e choice place x from at

  opened_now : (number : ℕ) (file : FileId) (shape : Shape) → IsTelling w (body.Named number (Opened file shape)) → IsMadeWith m file.0 shape
  opened_now number file shape now =
      let found = now.1 in
      let made = has now.0 file.0 ((files_have_one_name config servers clients w r now.0).0.1 found.1 file.0 found.2) in
      (made.0, found.0 ∙ made.1, subst (λ (x : Shape). 1 ≤ x.chunk) (sym found.0) made.2)

  located_now : (file number : ℕ) (l : Location) → IsToldOf w.master.logged file l → IsTelling w (body.Told number (Some l)) → IsMadeWith m file l.shape
  located_now file number l at now =
      let made = has now.0 file (stood_in w.master.logged file l.index l.handle.0 at.stood) in
      let same = (now.1).files file l.index at.stood in
      (made.0, same ∙ made.1, subst (λ (x : Shape). 1 ≤ x.chunk) (sym same) made.2)

  each_opened : (place number : ℕ) (x : Message) (file : FileId) (shape : Shape) → element_at then_.sent place ≡ Some x → x.body ≡ body.Named number (Opened file shape) → IsMadeWith n file.0 shape
  each_opened place number x file shape at is =
      made_still config m n reached led file.0 shape
      (elim (cases_lt place (length w.sent)) [
        | inl early ↦ told.opened place number x file shape (stood_before w.sent then_.sent place x grown early at) is
        | inr from ↦ opened_now number file shape (subst (λ (b : Body). IsTelling w b) is (telling place x from at))
      ])

  each_located : (client file : ℕ) (l : Location) (place : ℕ) → IsToldAt then_.sent client file l place → IsMadeWith n file l.shape
  each_located client file l place t =
      made_still config m n reached led file l.shape
      (elim (cases_lt place (length w.sent)) [
        | inl early ↦ told.located client file l place (told_before config servers clients w r e choice clocks client file l place t early)
        | inr from ↦
            let now = told_now config servers clients then_ later w r (clocks_before w ((e, choice) ∷ []) clocks) (e, choice) [] refl client file l place t from t.sent_is in
            located_now file t.number l now.1 (subst (λ (b : Body). IsTelling w b) t.body_is (telling place t.told from t.sent_is))
      ])

pub told_shapes_go_on : ToldShapesGoOn
told_shapes_go_on config servers clients w r e choice clocks m n reached led has told =
    record { opened = each_opened config servers clients w r e choice clocks m n reached led has told; located = each_located config servers clients w r e choice clocks m n reached led has told }

-- beside a world

module _ (config : Config) (servers clients : ℕ) (w : WorldState) (r : IsReached config servers clients w) (ss : List PendingSnapshot) (k : ChunkSides) (h : IsBeside config w ss k) where
  log_is : IsTrue w.master.up → k.log ≡ w.master.logged
  log_is up = by_log h.chunks.log
    where
      by_log : IsLogOf w.master k.log → k.log ≡ w.master.logged
      by_log (inl is) = is.1
      by_log (inr is) = absurd (true≢false (sym up ∙ is.0))

  -- the machine has the files of the master, with their shapes
  pub made_files : IsTrue w.master.up → HasMadeFiles w.master.logged k.machine
  made_files up file has =
      let here : table.contains_key k.log.table.files file ≡ true = ap (λ (l : Logged). table.contains_key l.table.files file) (log_is up) ∙ has in
      let there = and_parts (nat_lt 0 file && nat_le file h.names.file_count) (not (h.names.files file).is_collected) (sym (h.named.alike.files file) ∙ here) in
      let low = leb-true file h.names.file_count (and_parts (nat_lt 0 file) (nat_le file h.names.file_count) there.0).1 in
      let count = h.same.count in
      let told = (log_has_the_shapes config servers clients w r up file has).1 in
      (omega (arith, low, count), ap (λ (l : Logged). shape_of l.table file) (sym (log_is up)) ∙ h.named.alike.shapes file here ∙ same_shape k.machine h.names h.same file, omega (arith, told))

  -- what clients were told stays so, however the machine goes on
  pub shapes_on : (e : Event) (choice : Choice) → IsTrue (happens w e choice).world.observer.are_clocks_kept → (n : Machine) → LeadsTo k.machine n → AreShapesTold (happens w e choice).world.sent n
  shapes_on e choice clocks n led =
      told_shapes_go_on config servers clients w r e choice clocks k.machine n (h.run.0, h.run.1, h.run.3) led made_files h.shapes
