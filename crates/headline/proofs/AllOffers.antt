-- All that a step of the master tells clients is so at the machine, which offers it, message by message.
use Rattle.std.proofs.Common.{◌≡◌, ◌⊎◌, ℕ, zero, suc, ◌+◌, Bool, true, false, List, [], ◌∷◌, ◌++◌, length, Option, Some, None, true≢false, refl, sym, ap, subst, ◌∙◌, inl, inr, arith}
use Rattle.std.specs.Prelude.{IsTrue}
use Rattle.std.specs.List.{list_all}
use Rattle.gfs_types.specs.declared.config.Config.{Config}
use Rattle.gfs_types.specs.declared.ids.Node.{Node}
use Rattle.gfs_types.specs.declared.ids.Node.TheVariants as node
use Rattle.messages.specs.declared.event.Event.{Event}
use Rattle.messages.specs.declared.event.NodeInput.{NodeInput}
use Rattle.messages.specs.declared.event.NodeInput.TheVariants as input
use Rattle.messages.specs.declared.message.Body.{Body}
use Rattle.messages.specs.declared.message.Message.{Message}
use Rattle.relaxed_file.specs.Machine.{Machine, OpenCall, IsOpen}
use Rattle.relaxed_file.specs.Run.{Action, IsLawful, after_all, LeadsTo, IsRunTo}
use Rattle.relaxed_file.proofs.Reached.{lawful_after, after_all-append}
use Rattle.client_state.specs.declared.call.CurrentCall.{CurrentCall}
use Rattle.client_state.specs.declared.call.Stage.{Stage}
use Rattle.client_state.specs.declared.call.Stage.TheVariants.{AskedNames}
use Rattle.protocol.specs.Tables.{element_at}
use Rattle.protocol.specs.Sending.{the_client}
use Rattle.protocol.specs.Choice.{Choice}
use Rattle.protocol.specs.Client.{ClientState}
use Rattle.protocol.specs.Master.{PendingSnapshot}
use Rattle.protocol.specs.World.{WorldState, happens, IsReached}
use Rattle.laws_base.proofs.Steps.{none_some, same_some}
use Rattle.laws_base.proofs.Entries.{AllOf}
use Rattle.laws_base.proofs.MessagesSent.{IsSent, none_sent}
use Rattle.laws_base.proofs.Histories.{step_grown}
use Rattle.laws_base.proofs.Placing.{all_placed}
use Rattle.headline.proofs.SaidAnswers.{later_at, cancelled}
use Rattle.laws_machine.specs.ChunksAlike.{ChunkSides}
use Rattle.laws_machine.specs.ChunksBeside.{AreChunksBeside}
use Rattle.laws_machine.specs.FileClients.{IsFileCall, IsCallAlike, IsSaid, IsSaidAt}
use Rattle.laws_machine.specs.FileClientsStay.{IsFirm}
use Rattle.laws_machine.specs.MastersEvents.{is_offer, AreOffersSo}
use Rattle.laws_machine.specs.MasterSteps.{HasFilesOf}
use Rattle.laws_machine.specs.Rounds.{IsMastersInput}
use Rattle.laws_machine.specs.WholeWorlds.{AreWordsSo, AreFileClients, IsBeside}
use Rattle.laws_machine.proofs.WholeWorlds.{words_stay, more_words}
use Rattle.headline.specs.Offers.{OffersAreSo}
use Rattle.headline.proofs.OfferWords.{all_offers, IsBesideOffers, quiet, offered, Result, result}
use Rattle.headline.proofs.StepWords.{IsNewWord, event_said}

names_so : (n : Machine) (client own : ℕ) (z : OpenCall) (x : CurrentCall) (b : Body) → IsSaidAt n client own z x AskedNames b
names_so n client own z x b = tt

-- the machine offers, and then these words are so
record Offers (w : WorldState) (n : Machine) (xs : List Message) : Type 0 where
  pub offers : List Action
  pub of_offers : list_all is_offer offers ≡ true
  pub lawful : IsLawful n offers
  pub words : AreWordsSo xs w.clients (after_all n offers)

abbrev number_of : Node → ℕ
number_of (node.Client c) = c.0
number_of other = 0

no_client : (n : Node) → n ≡ the_client zero → (index : ℕ) → n ≡ the_client (suc index) → ⊥
no_client n is index also = let both : zero ≡ suc index = ap number_of (sym is ∙ also) in omega (arith, both)

module _ (config : Config) (servers clients : ℕ) (w : WorldState) (r : IsReached config servers clients w) (e : Event) (choice : Choice) (moment : ℕ) (i : NodeInput) (given : IsMastersInput w e moment i) (up : IsTrue w.master.up)
    (ss : List PendingSnapshot) (k j : ChunkSides) (b : IsBeside config w ss k) (leads : LeadsTo k.machine j.machine) (beside : AreChunksBeside config (happens w e choice).world j) (has : HasFilesOf j.log j.machine)
  where
    abbrev then_ : WorldState
    then_ = (happens w e choice).world

    -- one client that is up
    record Word (index : ℕ) (s : ClientState) (y : Message) (n : Machine) : Type 0 where
      pub offers : List Action
      pub of_offers : list_all is_offer offers ≡ true
      pub lawful : IsLawful n offers
      pub so : IsFirm y.body → IsSaid (after_all n offers) (suc index) s (input.Deliver y)

    module _ (index : ℕ) (s : ClientState) (at : element_at w.clients index ≡ Some s) (client_up : IsTrue s.up) (y : Message) (new : IsNewWord i w then_ y) (to : y.receiver ≡ the_client (suc index)) (n : Machine) (h : IsBesideOffers config w then_ j.machine n) where
      said_of : (m : Machine) (x : CurrentCall) → s.current ≡ Some x → ((z : OpenCall) → IsOpen m (suc index) z → IsSaidAt m (suc index) s.id z x x.stage y.body) → IsSaid m (suc index) s (input.Deliver y)
      said_of m x now go = λ c z is_now opened. subst (λ (d : CurrentCall). IsSaidAt m (suc index) s.id z d d.stage y.body) (same_some x c (sym now ∙ is_now)) (go z opened)

      by_alike : (x : CurrentCall) → s.current ≡ Some x → (x.stage ≡ AskedNames) ⊎ ((p : OpenCall) × IsFileCall n (suc index) x p) → Word index s y n
      by_alike x now (inl names) = record {
        offers = [];
        of_offers = refl;
        lawful = tt;
        so = λ firm. said_of n x now (λ z opened. subst (λ (st : Stage). IsSaidAt n (suc index) s.id z x st y.body) (sym names) (names_so n (suc index) s.id z x y.body));
      }
      by_alike x now (inr found) =
          let it : Result config servers clients w r e choice moment i given up ss k j b leads beside has index s at client_up y new to x now n h found.0 found.1 x.stage y.body =
          result config servers clients w r e choice moment i given up ss k j b leads beside has index s at client_up y new to x now n h found.0 found.1 x.stage y.body refl refl in
          record { offers = it.offers; of_offers = it.of_offers; lawful = it.lawful; so = λ firm. said_of (after_all n it.offers) x now (it.so firm) }

      by_call : (c : Option CurrentCall) → s.current ≡ c → Word index s y n
      by_call None none = record { offers = []; of_offers = refl; lawful = tt; so = λ firm x z is_now opened. none_some x (sym none ∙ is_now) }
      by_call (Some x) now = by_alike x now (subst (λ (c : Option CurrentCall). IsCallAlike n (suc index) c) now (h.clients index s at client_up).call)

      word_so : Word index s y n
      word_so = by_call s.current refl

    -- a message

    module _ (y : Message) (new : IsNewWord i w then_ y) (n : Machine) (h : IsBesideOffers config w then_ j.machine n) where
      itself : (m : Message) → IsSent (y ∷ []) m → y ≡ m
      itself m sent = by_place sent.0 sent.1
        where
          by_place : (q : ℕ) → element_at (y ∷ []) q ≡ Some m → y ≡ m
          by_place zero there = same_some y m there
          by_place (suc q) there = none_some m there

      nobody : ((index : ℕ) (s : ClientState) → element_at w.clients index ≡ Some s → IsTrue s.up → y.receiver ≡ the_client (suc index) → ⊥) → Offers w n (y ∷ [])
      nobody none = record {
        offers = [];
        of_offers = refl;
        lawful = tt;
        words = λ index s at client_up m sent to firm. absurd (none index s at client_up (ap (λ (x : Message). x.receiver) (itself m sent) ∙ to));
      }

      one_index : (index other : ℕ) → y.receiver ≡ the_client (suc index) → y.receiver ≡ the_client (suc other) → index ≡ other
      one_index index other is_this is_that = let same : suc index ≡ suc other = ap number_of (sym is_this ∙ is_that) in omega (arith, same)

      by_up : (index : ℕ) (s : ClientState) (is_up : Bool) → y.receiver ≡ the_client (suc index) → element_at w.clients index ≡ Some s → s.up ≡ is_up → Offers w n (y ∷ [])
      by_up index s false to at down =
          nobody (λ other t there client_up also. true≢false (sym client_up ∙ (ap (λ (z : ClientState). z.up) (same_some t s (sym there ∙ (ap (λ (q : ℕ). element_at w.clients q) (sym (one_index index other to also)) ∙ at))) ∙ down)))
      by_up index s true to at client_up =
          let it : Word index s y n = word_so index s at client_up y new to n h in
          record {
            offers = it.offers;
            of_offers = it.of_offers;
            lawful = it.lawful;
            words = λ other t there on m sent also firm.
                let same : index ≡ other = one_index index other to (ap (λ (x : Message). x.receiver) (itself m sent) ∙ also) in
                subst (λ (x : Message). IsSaid (after_all n it.offers) (suc other) t (input.Deliver x)) (itself m sent)
                (subst (λ (q : ℕ). IsSaid (after_all n it.offers) (suc q) t (input.Deliver y)) same
                (subst (λ (z : ClientState). IsSaid (after_all n it.offers) (suc index) z (input.Deliver y)) (same_some s t (sym at ∙ (ap (λ (q : ℕ). element_at w.clients q) same ∙ there)))
                (it.so (subst (λ (x : Message). IsFirm x.body) (sym (itself m sent)) firm))));
          }

      by_client : (index : ℕ) (c : Option ClientState) → y.receiver ≡ the_client (suc index) → element_at w.clients index ≡ c → Offers w n (y ∷ [])
      by_client index None to at = nobody (λ other t there client_up also. none_some t (sym at ∙ (ap (λ (q : ℕ). element_at w.clients q) (one_index index other to also) ∙ there)))
      by_client index (Some s) to at = by_up index s s.up to at refl

      by_number : (q : ℕ) → y.receiver ≡ the_client q → Offers w n (y ∷ [])
      by_number zero to = nobody (λ index s at client_up also. no_client y.receiver to index also)
      by_number (suc index) to = by_client index (element_at w.clients index) to refl

      by_node : (q : Node) → y.receiver ≡ q → Offers w n (y ∷ [])
      by_node (node.Client c) to = by_number c.0 to
      by_node node.Master to = nobody (λ index s at client_up also. absurd (let both : node.Master ≡ the_client (suc index) = sym to ∙ also in cc))
      by_node (node.Server q) to = nobody (λ index s at client_up also. absurd (let both : node.Server q ≡ the_client (suc index) = sym to ∙ also in cc))

      message_so : Offers w n (y ∷ [])
      message_so = by_node y.receiver refl

    -- all of them

    all_so : (xs : List Message) → AllOf (IsNewWord i w then_) xs → (n : Machine) → IsBesideOffers config w then_ j.machine n → Offers w n xs
    all_so [] new n h = record { offers = []; of_offers = refl; lawful = tt; words = λ index s at client_up m none. none_sent m none }
    all_so (y ∷ xs) new n h =
        let one : Offers w n (y ∷ []) = message_so y new.0 n h in
        let after_one : IsBesideOffers config w then_ j.machine (after_all n one.offers) = offered config w then_ j.machine n h one.offers one.of_offers one.lawful in
        let rest : Offers w (after_all n one.offers) xs = all_so xs new.1 (after_all n one.offers) after_one in
        record {
          offers = one.offers ++ rest.offers;
          of_offers = all_offers one.offers rest.offers one.of_offers rest.of_offers;
          lawful = lawful_after n one.offers rest.offers one.lawful rest.lawful;
          words = subst (λ (m : Machine). AreWordsSo (y ∷ xs) w.clients m) (sym (after_all-append n one.offers rest.offers))
              (more_words (after_all (after_all n one.offers) rest.offers) w.clients (y ∷ []) xs
              (words_stay (after_all n one.offers) (after_all (after_all n one.offers) rest.offers) w.clients (y ∷ [])
              (quiet config w then_ j.machine (after_all n one.offers) after_one rest.offers rest.of_offers rest.lawful).stays after_one.clients one.words)
              rest.words);
        }

    module _ (run : IsRunTo config then_.observer.trace j.machine) (files : AreFileClients w.clients j.machine) where
      abbrev new_words : List Message
      new_words = (step_grown w e choice).0

      sent_is : then_.sent ≡ w.sent ++ new_words
      sent_is = (step_grown w e choice).1

      all_new : AllOf (IsNewWord i w then_) new_words
      all_new = all_placed (IsNewWord i w then_) new_words
          (λ q y at. event_said config servers clients w r up e moment i choice given (length w.sent + q) y (omega arith) (ap (λ (ms : List Message). element_at ms (length w.sent + q)) sent_is ∙ (later_at w.sent new_words q ∙ at)))

      it : Offers w j.machine new_words
      it = all_so new_words all_new j.machine (record { run = run; files = refl; clients = files })

      all_are_so : AreOffersSo w then_ j.machine
      all_are_so = record {
        offers = it.offers;
        of_offers = it.of_offers;
        lawful = it.lawful;
        said = λ more same. subst (λ (xs : List Message). AreWordsSo xs w.clients (after_all j.machine it.offers)) (cancelled w.sent new_words more (sym sent_is ∙ same)) it.words;
      }

pub offers_are_so : OffersAreSo
offers_are_so config servers clients w r e choice moment i given up ss k j b leads run beside has files = all_are_so config servers clients w r e choice moment i given up ss k j b leads beside has run files
