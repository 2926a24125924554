-- All that an event of a server says to clients is so at the machine, message by message.
use Rattle.std.proofs.Common.{◌≡◌, ℕ, zero, suc, ◌+◌, ◌≤◌, Bool, true, false, List, [], ◌∷◌, ◌++◌, length, Option, Some, None, refl, sym, ap, subst, ◌∙◌, inl, inr, arith, ◌⊎◌}
use Rattle.std.specs.Prelude.{IsTrue}
use Rattle.std.specs.List.{list_all}
use Rattle.std.proofs.lemmas.Bool.{true≢false}
use Rattle.gfs_types.specs.declared.config.Config.{Config}
use Rattle.gfs_types.specs.declared.ids.Node.{Node}
use Rattle.gfs_types.specs.declared.ids.Node.TheVariants as node
use Rattle.messages.specs.declared.event.Event.{Event}
use Rattle.messages.specs.declared.event.NodeInput.TheVariants as input
use Rattle.messages.specs.declared.message.Body.{Body}
use Rattle.messages.specs.declared.message.Message.{Message}
use Rattle.relaxed_file.specs.Machine.{Machine, OpenCall, IsOpen}
use Rattle.relaxed_file.specs.Run.{Action, IsLawful, after_all, IsRunTo}
use Rattle.relaxed_file.proofs.Reached.{lawful_after, after_all-append}
use Rattle.client_state.specs.declared.call.CurrentCall.{CurrentCall}
use Rattle.client_state.specs.declared.call.Stage.{Stage}
use Rattle.client_state.specs.declared.call.Stage.TheVariants.{AskedNames}
use Rattle.protocol.specs.Tables.{element_at}
use Rattle.protocol.specs.Sending.{the_client}
use Rattle.protocol.specs.Choice.{Choice}
use Rattle.protocol.specs.Client.{ClientState}
use Rattle.protocol.specs.World.{WorldState, happens, IsReached, is_kept}
use Rattle.laws_base.proofs.Steps.{none_some, same_some}
use Rattle.laws_base.proofs.Entries.{AllOf}
use Rattle.laws_base.proofs.MessagesSent.{IsSent, none_sent}
use Rattle.laws_base.proofs.Histories.{step_grown}
use Rattle.laws_base.proofs.Placing.{all_placed}
use Rattle.laws_machine.specs.ChunksAlike.{ChunkSides}
use Rattle.laws_machine.specs.ChunksBeside.{AreChunksBeside}
use Rattle.laws_machine.specs.FileClients.{IsFileCall, IsCallAlike, IsSaid, IsSaidAt}
use Rattle.laws_machine.specs.FileClientsStay.{IsFirm}
use Rattle.laws_machine.specs.WholeWorlds.{AreWordsSo, AreFileClients, IsServersEvent, is_of_looks, AreAnswersSo}
use Rattle.laws_machine.proofs.WholeWorlds.{words_stay, more_words}
use Rattle.headline.specs.Answers.{AreToldPlacesWithin, AreMutatesOfPushedData, AnswersAreSo}
use Rattle.headline.proofs.PushedMutates.{mutates_are_of_pushed_data}
use Rattle.headline.proofs.SaidAnswers.{all_looks, later_at, cancelled, IsBesideLooks, quiet, looked, Result, result}

names_so : (n : Machine) (client own : ℕ) (z : OpenCall) (x : CurrentCall) (b : Body) → IsSaidAt n client own z x AskedNames b
names_so n client own z x b = tt

-- the machine looks, and then these words are so
record Looks (w : WorldState) (n : Machine) (xs : List Message) : Type 0 where
  pub looks : List Action
  pub of_looks : list_all is_of_looks looks ≡ true
  pub lawful : IsLawful n looks
  pub words : AreWordsSo xs w.clients (after_all n looks)

abbrev number_of : Node → ℕ
number_of (node.Client c) = c.0
number_of other = 0

no_client : (n : Node) → n ≡ the_client zero → (index : ℕ) → n ≡ the_client (suc index) → ⊥
no_client n is index also = let both : zero ≡ suc index = ap number_of (sym is ∙ also) in omega (arith, both)

module _ (config : Config) (servers clients : ℕ) (w : WorldState) (r : IsReached config servers clients w) (kept : IsTrue (is_kept w)) (e : Event) (choice : Choice) (clocks : IsTrue (happens w e choice).world.observer.are_clocks_kept) (of : IsServersEvent w e)
    (within : AreToldPlacesWithin config w) (pushed : AreMutatesOfPushedData w.sent) (j : ChunkSides) (beside : AreChunksBeside config (happens w e choice).world j)
  where
    abbrev then_ : WorldState
    then_ = (happens w e choice).world

    -- one client that is up
    record Word (index : ℕ) (s : ClientState) (y : Message) (n : Machine) : Type 0 where
      pub looks : List Action
      pub of_looks : list_all is_of_looks looks ≡ true
      pub lawful : IsLawful n looks
      pub so : IsFirm y.body → IsSaid (after_all n looks) (suc index) s (input.Deliver y)

    module _ (index : ℕ) (s : ClientState) (at : element_at w.clients index ≡ Some s) (up : IsTrue s.up) (y : Message) (place : ℕ) (from : length w.sent ≤ place) (is : element_at then_.sent place ≡ Some y) (to : y.receiver ≡ the_client (suc index))
        (n : Machine) (h : IsBesideLooks config w j.machine n)
      where
        said_of : (m : Machine) (x : CurrentCall) → s.current ≡ Some x → ((z : OpenCall) → IsOpen m (suc index) z → IsSaidAt m (suc index) s.id z x x.stage y.body) → IsSaid m (suc index) s (input.Deliver y)
        said_of m x now go = λ c z is_now opened. subst (λ (d : CurrentCall). IsSaidAt m (suc index) s.id z d d.stage y.body) (same_some x c (sym now ∙ is_now)) (go z opened)

        by_alike : (x : CurrentCall) → s.current ≡ Some x → (x.stage ≡ AskedNames) ⊎ ((p : OpenCall) × IsFileCall n (suc index) x p) → Word index s y n
        by_alike x now (inl names) = record {
          looks = [];
          of_looks = refl;
          lawful = tt;
          so = λ firm. said_of n x now (λ z opened. subst (λ (st : Stage). IsSaidAt n (suc index) s.id z x st y.body) (sym names) (names_so n (suc index) s.id z x y.body));
        }
        by_alike x now (inr found) =
            let it : Result config servers clients w r kept e choice clocks of within pushed j beside index s at up y place from is to x now n h found.0 found.1 x.stage y.body =
            result config servers clients w r kept e choice clocks of within pushed j beside index s at up y place from is to x now n h found.0 found.1 x.stage y.body refl refl in
            record { looks = it.looks; of_looks = it.of_looks; lawful = it.lawful; so = λ firm. said_of (after_all n it.looks) x now (it.so firm) }

        by_call : (c : Option CurrentCall) → s.current ≡ c → Word index s y n
        by_call None none = record { looks = []; of_looks = refl; lawful = tt; so = λ firm x z is_now opened. none_some x (sym none ∙ is_now) }
        by_call (Some x) now = by_alike x now (subst (λ (c : Option CurrentCall). IsCallAlike n (suc index) c) now (h.clients index s at up).call)

        word_so : Word index s y n
        word_so = by_call s.current refl

    -- a message

    module _ (y : Message) (place : ℕ) (from : length w.sent ≤ place) (is : element_at then_.sent place ≡ Some y) (n : Machine) (h : IsBesideLooks config w j.machine n) where
      itself : (m : Message) → IsSent (y ∷ []) m → y ≡ m
      itself m sent = by_place sent.0 sent.1
        where
          by_place : (k : ℕ) → element_at (y ∷ []) k ≡ Some m → y ≡ m
          by_place zero there = same_some y m there
          by_place (suc k) there = none_some m there

      nobody : ((index : ℕ) (s : ClientState) → element_at w.clients index ≡ Some s → IsTrue s.up → y.receiver ≡ the_client (suc index) → ⊥) → Looks w n (y ∷ [])
      nobody none = record {
        looks = [];
        of_looks = refl;
        lawful = tt;
        words = λ index s at up m sent to firm. absurd (none index s at up (ap (λ (x : Message). x.receiver) (itself m sent) ∙ to));
      }

      one_index : (index other : ℕ) → y.receiver ≡ the_client (suc index) → y.receiver ≡ the_client (suc other) → index ≡ other
      one_index index other is_this is_that = let same : suc index ≡ suc other = ap number_of (sym is_this ∙ is_that) in omega (arith, same)

      by_up : (index : ℕ) (s : ClientState) (up : Bool) → y.receiver ≡ the_client (suc index) → element_at w.clients index ≡ Some s → s.up ≡ up → Looks w n (y ∷ [])
      by_up index s false to at down =
          nobody (λ other t there up also. true≢false (sym up ∙ (ap (λ (z : ClientState). z.up) (same_some t s (sym there ∙ (ap (λ (k : ℕ). element_at w.clients k) (sym (one_index index other to also)) ∙ at))) ∙ down)))
      by_up index s true to at up =
          let it : Word index s y n = word_so index s at up y place from is to n h in
          record {
            looks = it.looks;
            of_looks = it.of_looks;
            lawful = it.lawful;
            words = λ other t there on m sent also firm.
                let same : index ≡ other = one_index index other to (ap (λ (x : Message). x.receiver) (itself m sent) ∙ also) in
                subst (λ (x : Message). IsSaid (after_all n it.looks) (suc other) t (input.Deliver x)) (itself m sent)
                (subst (λ (k : ℕ). IsSaid (after_all n it.looks) (suc k) t (input.Deliver y)) same
                (subst (λ (z : ClientState). IsSaid (after_all n it.looks) (suc index) z (input.Deliver y)) (same_some s t (sym at ∙ (ap (λ (k : ℕ). element_at w.clients k) same ∙ there)))
                (it.so (subst (λ (x : Message). IsFirm x.body) (sym (itself m sent)) firm))));
          }

      by_client : (index : ℕ) (c : Option ClientState) → y.receiver ≡ the_client (suc index) → element_at w.clients index ≡ c → Looks w n (y ∷ [])
      by_client index None to at = nobody (λ other t there up also. none_some t (sym at ∙ (ap (λ (k : ℕ). element_at w.clients k) (one_index index other to also) ∙ there)))
      by_client index (Some s) to at = by_up index s s.up to at refl

      by_number : (k : ℕ) → y.receiver ≡ the_client k → Looks w n (y ∷ [])
      by_number zero to = nobody (λ index s at up also. no_client y.receiver to index also)
      by_number (suc index) to = by_client index (element_at w.clients index) to refl

      by_node : (q : Node) → y.receiver ≡ q → Looks w n (y ∷ [])
      by_node (node.Client c) to = by_number c.0 to
      by_node node.Master to = nobody (λ index s at up also. absurd (let both : node.Master ≡ the_client (suc index) = sym to ∙ also in cc))
      by_node (node.Server q) to = nobody (λ index s at up also. absurd (let both : node.Server q ≡ the_client (suc index) = sym to ∙ also in cc))

      message_so : Looks w n (y ∷ [])
      message_so = by_node y.receiver refl

    -- all of them

    abbrev IsNew : Message → Type 0
    IsNew y = (place : ℕ) × (length w.sent ≤ place) × (element_at then_.sent place ≡ Some y)

    all_so : (xs : List Message) → AllOf IsNew xs → (n : Machine) → IsBesideLooks config w j.machine n → Looks w n xs
    all_so [] new n h = record { looks = []; of_looks = refl; lawful = tt; words = λ index s at up m none. none_sent m none }
    all_so (y ∷ xs) new n h =
        let one : Looks w n (y ∷ []) = message_so y new.0.0 new.0.1 new.0.2 n h in
        let after_one : IsBesideLooks config w j.machine (after_all n one.looks) = looked config w j.machine n h one.looks one.of_looks one.lawful in
        let rest : Looks w (after_all n one.looks) xs = all_so xs new.1 (after_all n one.looks) after_one in
        record {
          looks = one.looks ++ rest.looks;
          of_looks = all_looks one.looks rest.looks one.of_looks rest.of_looks;
          lawful = lawful_after n one.looks rest.looks one.lawful rest.lawful;
          words = subst (λ (m : Machine). AreWordsSo (y ∷ xs) w.clients m) (sym (after_all-append n one.looks rest.looks))
              (more_words (after_all (after_all n one.looks) rest.looks) w.clients (y ∷ []) xs
              (words_stay (after_all n one.looks) (after_all (after_all n one.looks) rest.looks) w.clients (y ∷ []) (quiet config w j.machine (after_all n one.looks) after_one rest.looks rest.of_looks rest.lawful).stays after_one.clients one.words)
              rest.words);
        }

    module _ (run : IsRunTo config w.observer.trace j.machine) (files : AreFileClients w.clients j.machine) where
      abbrev new_words : List Message
      new_words = (step_grown w e choice).0

      sent_is : then_.sent ≡ w.sent ++ new_words
      sent_is = (step_grown w e choice).1

      all_new : AllOf IsNew new_words
      all_new = all_placed IsNew new_words (λ k y at. (length w.sent + k, omega arith, ap (λ (ms : List Message). element_at ms (length w.sent + k)) sent_is ∙ (later_at w.sent new_words k ∙ at)))

      it : Looks w j.machine new_words
      it = all_so new_words all_new j.machine (record { run = run; settings = refl; files = refl; clients = files })

      answers : AreAnswersSo w then_ j.machine
      answers = record {
        looks = it.looks;
        of_looks = it.of_looks;
        lawful = it.lawful;
        said = λ more same. subst (λ (xs : List Message). AreWordsSo xs w.clients (after_all j.machine it.looks)) (cancelled w.sent new_words more (sym sent_is ∙ same)) it.words;
      }

pub answers_are_so : AnswersAreSo
answers_are_so config servers clients w r kept e choice clocks of within j run beside files =
    answers config servers clients w r kept e choice clocks of within (mutates_are_of_pushed_data config servers clients w r) j beside run files
