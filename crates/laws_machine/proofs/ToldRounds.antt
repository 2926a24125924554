-- What was told of a chunk's round stands at the machine, from each world to the next.
use Rattle.std.proofs.Common.{◌≡◌, ℕ, zero, suc, ◌<◌, Bool, true, false, List, [], ◌∷◌, length, Some, refl, sym, ap, subst, ◌∙◌, inl, inr, arith}
use Rattle.std.specs.Prelude.{◌&&◌, IsTrue}
use Rattle.std.proofs.lemmas.Bool.{cases_lt}
use Rattle.gfs_types.specs.declared.config.Config.{Config}
use Rattle.gfs_types.specs.declared.ids.Node.{Node}
use Rattle.messages.specs.declared.event.Event.{Event}
use Rattle.messages.specs.declared.message.Body.{Body}
use Rattle.messages.specs.declared.message.Body.TheVariants as body
use Rattle.messages.specs.declared.message.Message.{Message}
use Rattle.messages.specs.declared.message.Location.{Location}
use Rattle.protocol.specs.Tables.{element_at}
use Rattle.protocol.specs.Sending.{the_client}
use Rattle.protocol.specs.Choice.{Choice}
use Rattle.primary_order.specs.SerialOrder.{SerialOrder}
use Rattle.protocol.specs.Logged.{Logged}
use Rattle.protocol.specs.Observer.{observed_moment}
use Rattle.protocol.specs.Server.{ServerState, primary_of}
use Rattle.protocol.specs.ServerStep.{server_at}
use Rattle.protocol.specs.World.{WorldState, happens, IsReached}
use Rattle.laws_base.specs.Laws.{grants_of}
use Rattle.laws_base.proofs.Steps.{none_some}
use Rattle.laws_base.proofs.Entries.{same_number}
use Rattle.laws_base.proofs.MessagesSent.{IsSent, sent_before}
use Rattle.laws_base.specs.Attempts.{is_from_client, is_request}
use Rattle.laws_base.specs.Reads.{HasAsked}
use Rattle.laws_base.specs.Versions.{IsLeaseOver}
use Rattle.laws_base.proofs.Histories.{IsGrown, step_grown, stood_before}
use Rattle.laws_base.proofs.EndedLeases.{over_leases_number_nothing}
use Rattle.laws_base.proofs.LeasesStayOver.{reached_later}
use Rattle.laws_base.proofs.RequestsOnce.{requests_are_numbered_once}
use Rattle.laws_base.proofs.Deadlines.{same_counted}
use Rattle.laws_base.proofs.GrantsFollow.{HasPassed}
use Rattle.laws_versions.specs.ReplacedChunks.{IsToldAt}
use Rattle.laws_versions.proofs.AskedSteps.{IsToldOf}
use Rattle.laws_versions.proofs.ClosedVersions.{clocks_before}
use Rattle.laws_versions.proofs.ToldAnswers.{told_now}
use Rattle.laws_machine.specs.ToldIndexes.{IsAskOf}
use Rattle.laws_machine.proofs.Answerers.{locations_answer_their_ask}
use Rattle.protocol_invariant.specs.Actions.{Spot}
use Rattle.laws_machine.specs.ChunksAlike.{ChunkSides, StandsAt, IsRoundOpen, AreChunksAlike, KeepsRounds, HasRounds}
use Rattle.laws_machine.proofs.OpenRounds.{rounds_are_open_at_their_place, ungranted_is_over}
use Rattle.laws_machine.specs.Rounds.{IsLogOf, IsEnded}
use Rattle.laws_machine.specs.ToldRounds.{IsToldRound, AreToldRounds, NoRoundIsToldAtFirst, ToldRoundsStayOver, ToldRoundsGoOn, CountingRoundsAreOpenWhereTold}
use Rattle.laws_machine.proofs.EndedRounds.{leased_chunks_stand_once, open_rounds_have_one_spot}
use Rattle.laws_machine.proofs.PassedRounds.{passed_on, passed_over, tells_passed, told_passed}

pub no_round_is_told_at_first : NoRoundIsToldAtFirst
no_round_is_told_at_first config servers clients k client file l place t = none_some t.told t.sent_is

pub told_rounds_stay_over : ToldRoundsStayOver
told_rounds_stay_over config servers clients w r client file l place t over steps clocks =
    passed_over l.handle.0 l.round.0 config servers clients w r (told_passed config servers clients w r (clocks_before w steps clocks) client file l place t) over steps clocks

abbrev file_in : Body → ℕ
file_in (body.Ask number file what deadline lost) = file.0
file_in other = 0

-- two asks of a client under one number are one
same_ask : (config : Config) (servers clients : ℕ) (w : WorldState) → IsReached config servers clients w → (client number : ℕ) (ask other : Message) → IsSent w.sent ask → IsSent w.sent other → ask.sender ≡ the_client client → other.sender ≡ the_client client
    → is_request number ask.body ≡ true → is_request number other.body ≡ true → ask ≡ other
same_ask config servers clients w r client number ask other sent also sender other_sender is other_is =
    same_counted (λ m. is_from_client client m.sender && is_request number m.body) w.sent sent.0 also.0 ask other (requests_are_numbered_once config servers clients w r client number).0 sent.1 also.1 (counted ask sender is) (counted other other_sender other_is)
  where
    counted : (m : Message) → m.sender ≡ the_client client → is_request number m.body ≡ true → is_from_client client m.sender && is_request number m.body ≡ true
    counted m from request = ap (λ (n : Node). is_from_client client n && is_request number m.body) from ∙ (ap (λ (b : Bool). b && is_request number m.body) (same_number client) ∙ request)

module _ (config : Config) (servers clients : ℕ) (w : WorldState) (r : IsReached config servers clients w) (e : Event) (choice : Choice) (clocks : IsTrue (happens w e choice).world.observer.are_clocks_kept) where
  abbrev then_ : WorldState
  then_ = (happens w e choice).world

  before : IsTrue w.observer.are_clocks_kept
  before = clocks_before w ((e, choice) ∷ []) clocks

  later : IsReached config servers clients then_
  later = reached_later config servers clients w ((e, choice) ∷ []) r

  grown : IsGrown w.sent then_.sent
  grown = step_grown w e choice

  -- what was told before the event
  module _ (client file : ℕ) (l : Location) (place : ℕ) (t : IsToldAt then_.sent client file l place) (early : place < length w.sent) where
    stood : element_at w.sent place ≡ Some t.told
    stood = stood_before w.sent then_.sent place t.told grown early t.sent_is

    answers : IsAskOf w.sent (t.told).receiver t.number l.index
    answers = locations_answer_their_ask config servers clients w r place t.number t.told l stood t.body_is

    still : IsSent then_.sent answers.ask
    still = subst (λ (ms : List Message). IsSent ms answers.ask) (sym grown.1) (sent_before w.sent grown.0 answers.ask answers.sent_is)

    one : answers.ask ≡ (t.asked).ask
    one =
        same_ask config servers clients then_ later client t.number answers.ask (t.asked).ask still (t.asked).sent_is (answers.sender_is ∙ t.receiver_is) (t.asked).sender_is
        (ap (is_request t.number) answers.body_is ∙ same_number t.number) (ap (is_request t.number) (t.asked).body_is ∙ same_number t.number)

    asked_before : HasAsked w.sent client file t.number
    asked_before = record {
      named = answers.file;
      wanted = answers.what;
      deadline = answers.deadline;
      lost = answers.lost;
      ask = answers.ask;
      sent_is = answers.sent_is;
      sender_is = answers.sender_is ∙ t.receiver_is;
      body_is = answers.body_is;
      file_is = ap file_in (sym answers.body_is) ∙ (ap (λ (m : Message). file_in m.body) one ∙ (ap file_in (t.asked).body_is ∙ (t.asked).file_is));
    }

    pub told_before : IsToldAt w.sent client file l place
    told_before = record { number = t.number; asked = asked_before; told = t.told; sent_is = stood; receiver_is = t.receiver_is; body_is = t.body_is; granted = t.granted }

  -- the machine

  module _ (k j : ChunkSides) (log : IsLogOf w.master k.log) (h : AreChunksAlike k) (has : HasRounds (IsLeaseOver w) k) (keeps : KeepsRounds (IsEnded w then_) k j) (told : AreToldRounds w k) where
    goes_on : (file : ℕ) (l : Location) → HasPassed l.handle.0 l.round.0 w.master → IsToldRound w k file l → IsToldRound then_ j file l
    goes_on file l passed (inl over) = inl (passed_over l.handle.0 l.round.0 config servers clients w r passed over ((e, choice) ∷ []) clocks)
    goes_on file l passed (inr was_open) = elim (keeps l.handle.0 l.round.0 (record { file = file; index = l.index }) was_open) [
      | inl ended ↦ inl (by_count (grants_of l.handle.0 l.round.0 w.sent) refl ended)
      | inr is_open ↦ inr is_open
    ]
      where
        by_count : (count : ℕ) → grants_of l.handle.0 l.round.0 w.sent ≡ count → IsEnded w then_ l.handle.0 → IsLeaseOver then_ l.handle.0 l.round.0
        by_count zero none ended =
            let few = (passed_on l.handle.0 l.round.0 config servers clients w r ((e, choice) ∷ []) passed).1 in ungranted_is_over config servers clients then_ later l.handle.0 l.round.0 (omega (arith, none, few))
        by_count (suc count) some ended = ended l.round.0 (omega (arith, some))

    log_is : IsTrue w.master.up → k.log ≡ w.master.logged
    log_is up = by_log log
      where
        by_log : IsLogOf w.master k.log → k.log ≡ w.master.logged
        by_log (inl is) = is.1
        by_log (inr is) = absurd (let both : true ≡ false = sym up ∙ is.0 in cc)

    -- what is told now stands at its place
    begins : (file : ℕ) (l : Location) → IsTrue w.master.up → IsToldOf w.master.logged file l → IsToldRound w k file l
    begins file l up now = elim (leased_chunks_stand_once config servers clients w r before k log l.handle.0 l.round.0) [
      | inl over ↦ inl over
      | inr once ↦
          let s : Spot = record { file = file; index = l.index } in
          rounds_are_open_at_their_place w k h has l.handle.0 l.round.0 s once (subst (λ (x : Logged). StandsAt x.table l.handle.0 s) (sym (log_is up)) now.stood)
    ]

    each_told : AreToldRounds then_ j
    each_told client file l place t = elim (cases_lt place (length w.sent)) [
      | inl early ↦
          let old = told_before client file l place t early in
          goes_on file l (told_passed config servers clients w r before client file l place old) (told client file l place old)
      | inr from ↦
          let now = told_now config servers clients then_ later w r before (e, choice) [] refl client file l place t from t.sent_is in
          goes_on file l (tells_passed config servers clients w r now.0 file l now.1) (begins file l now.0 now.1)
    ]

pub told_rounds_go_on : ToldRoundsGoOn
told_rounds_go_on config servers clients w r e choice clocks k j log h has keeps told = each_told config servers clients w r e choice clocks k j log h has keeps told

-- where a server may number

module _ (config : Config) (servers clients : ℕ) (w : WorldState) (r : IsReached config servers clients w) (clocks : IsTrue w.observer.are_clocks_kept) (k : ChunkSides) (log : IsLogOf w.master k.log) (h : AreChunksAlike k)
    (moment : ℕ) (now : IsTrue (observed_moment w.config.skew_ms w.observer moment).are_clocks_kept) (index : ℕ) (s : ServerState) (there : element_at w.servers index ≡ Some s)
    (handle version : ℕ) (p : SerialOrder) (counts : primary_of (server_at s moment) handle version ≡ Some p) where
  not_over : IsLeaseOver w handle version → ⊥
  not_over over = none_some p (sym (over_leases_number_nothing config servers clients w r handle version over moment now index s there) ∙ counts)

  one_spot : (at other : Spot) → IsRoundOpen k handle version at → IsRoundOpen k handle version other → at ≡ other
  one_spot at other first second = elim (leased_chunks_stand_once config servers clients w r clocks k log handle version) [
    | inl over ↦ absurd (not_over over)
    | inr once ↦ open_rounds_have_one_spot k h handle version version at other once first second
  ]

  open_there : (file : ℕ) (l : Location) → l.handle.0 ≡ handle → l.round.0 ≡ version → IsToldRound w k file l → IsRoundOpen k handle version (record { file = file; index = l.index })
  open_there file l handle_is version_is (inl over) = absurd (not_over (subst (λ (n : ℕ). IsLeaseOver w n version) handle_is (subst (λ (v : ℕ). IsLeaseOver w l.handle.0 v) version_is over)))
  open_there file l handle_is version_is (inr was_open) =
      subst (λ (n : ℕ). IsRoundOpen k n version (record { file = file; index = l.index })) handle_is (subst (λ (v : ℕ). IsRoundOpen k l.handle.0 v (record { file = file; index = l.index })) version_is was_open)

pub counting_rounds_are_open_where_told : CountingRoundsAreOpenWhereTold
counting_rounds_are_open_where_told config servers clients w r clocks k log h told moment now index s there handle version p counts client file l place t handle_is version_is =
    let here = open_there config servers clients w r clocks k log h moment now index s there handle version p counts file l handle_is version_is (told client file l place t) in
    (here, λ at was_open. one_spot config servers clients w r clocks k log h moment now index s there handle version p counts at (record { file = file; index = l.index }) was_open here)
