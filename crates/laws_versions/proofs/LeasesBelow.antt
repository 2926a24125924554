-- The leases below a version that an order gives are over: those of its chunk have ended as it is sent, and none below it is granted any more.
use Rattle.std.proofs.Common.{◌≡◌, ◌⊎◌, ℕ, suc, ◌≤◌, ◌<◌, false, List, ◌++◌, length, Option, Some, None, refl, sym, ap, subst, ◌∙◌, inl, inr, arith}
use Rattle.std.specs.Prelude.{max, IsTrue}
use Rattle.std.specs.FinMap as table
use Rattle.std.proofs.lemmas.Bool.{cases_lt}
use Rattle.std.proofs.Math.Nat.{le-max_left, le-max_right, max-le}
use Rattle.gfs_types.specs.declared.config.Config.{Config}
use Rattle.messages.specs.declared.event.NodeInput.{NodeInput}
use Rattle.messages.specs.declared.event.NodeInput.TheVariants as input
use Rattle.messages.specs.declared.message.Message.{Message}
use Rattle.messages.specs.declared.message.Body.{Body}
use Rattle.messages.specs.declared.message.Body.TheVariants as body
use Rattle.chunk_table.specs.ChunkTable.{ChunkRow}
use Rattle.protocol.specs.Tables.{element_at}
use Rattle.gfs_types.specs.declared.ids.OrderNo.{OrderNo}
use Rattle.protocol.specs.Sending.{handle_of, version_of, order_number}
use Rattle.protocol.specs.Choice.{Choice, decided_changes}
use Rattle.protocol.specs.Logged.{Logged, log_changed_by_all}
use Rattle.protocol.specs.Master.{VersionAttempt}
use Rattle.protocol.specs.MasterStep.{master_step}
use Rattle.protocol.specs.World.{WorldState, stamped, after_master, after_events, IsReached}
use Rattle.laws_base.proofs.LeaseOrders.{ExtendsNothing, nothing_ends, SaysGrant, says_grant, grant_counts}
use Rattle.laws_base.specs.Laws.{is_grant, grants_of, tells_end}
use Rattle.laws_base.proofs.Steps.{same_some}
use Rattle.laws_base.proofs.Words.{true_false}
use Rattle.laws_base.proofs.ChunkRows.{rows_of}
use Rattle.laws_base.proofs.MembersRecorded.{all_at}
use Rattle.laws_base.proofs.MessagesSent.{IsSent, sent_before, sent_cases, numbered_sent}
use Rattle.laws_base.proofs.OrderNumbers.{state_of, AllFound}
use Rattle.laws_base.proofs.GrantedIssued.{granted_is_at_most_issued}
use Rattle.laws_base.proofs.LeaseEnds.{IsEndTold, IsPast, HasEnd}
use Rattle.laws_base.proofs.LeasesTimely.{IsOfTimes, times_kept}
use Rattle.laws_base.proofs.ScenesReached.{scene_of, scene_reached, goes_on}
use Rattle.laws_base.proofs.SentReached.{sent_reached}
use Rattle.laws_base.specs.Versions.{IsLeaseOver}
use Rattle.laws_base.proofs.EndedLeases.{past_is_over}
use Rattle.laws_base.proofs.LeasesStayOver.{leases_stay_over}
use Rattle.laws_base.specs.Given.{version_given}
use Rattle.laws_base.proofs.IssuedNumbers.{IsPassed, IsLogPassed}
use Rattle.laws_base.proofs.WaitsKept.{IsOfWaits, waits_kept}
use Rattle.laws_versions.proofs.GivenVersions.{given_reached}
use Rattle.laws_versions.proofs.ClosedVersions.{StaysShut, stays_shut, clocks_before}
use Rattle.laws_base.proofs.SentGrants.{counted_one}
use Rattle.laws_base.proofs.RisingRounds.{leased_granted}
use Rattle.laws_base.proofs.MasterPremises.{is_told, IsAsk}
use Rattle.laws_versions.proofs.MasterCauses.{is_caused, uncaused_nothing, Attempts, Causes, step_caused}
use Rattle.laws_versions.proofs.AttemptsAbove.{step_above}
use Rattle.laws_versions.proofs.OrderSteps.{IsOrderedNow, WasOrderedIn, was_ordered_in}
use Rattle.laws_versions.proofs.GivenOnce.{IsNext, now_given, given_number}
use Rattle.laws_versions.specs.AskedVersions.{LeasesBelowAreOver}
use Rattle.laws_versions.proofs.AskedOrders.{GivesFree, GivesFirst, ready_later, step_asked}

-- the lease of a version that was not granted is over
pub none_granted_over : (config : Config) (servers clients : ℕ) (w : WorldState) → IsReached config servers clients w → (handle number : ℕ) → grants_of handle number w.sent ≤ 0 → IsLeaseOver w handle number
none_granted_over config servers clients w r handle number none =
    record {
      held = λ index p holds same.
          let g = leased_granted config servers clients w r index holds.0 holds.1 handle p holds.2 in
          let some = counted_one (λ x. is_grant handle number x.body) w.sent g.0 (g.1).0 (g.1).1 (ap (λ (n : ℕ). is_grant handle n (g.0).body) (sym same) ∙ g.2) in
          omega (arith, some, none);
      comes = λ place grant order end_moment members at is.
          let says : SaysGrant order (handle_of handle) (version_of number) end_moment members grant.body = says_grant is in
          absurd (let some = counted_one (λ x. is_grant handle number x.body) w.sent grant place at (grant_counts says) in omega (arith, some, none));
    }

-- a step on an Ask tells no end of a lease

abbrev message_in : NodeInput → Option Message
message_in (input.Deliver m) = Some m
message_in input.Tick = None

same_message : (i : NodeInput) (x y : Message) → i ≡ input.Deliver x → i ≡ input.Deliver y → x ≡ y
same_message i x y one two = same_some x y (ap message_in (sym one ∙ two))

abbrev TellsNone : ℕ → ℕ → ℕ → Message → Type 0
TellsNone handle number until x = tells_end handle number until x.body ≡ false

uncaused_extends : (b : Body) → is_caused b ≡ false → ExtendsNothing b
uncaused_extends (body.Extend q v end_moment) none = true_false none
uncaused_extends other none = tt

plain_end : (handle number until : ℕ) (b : Body) → is_caused b ≡ false → tells_end handle number until b ≡ false
plain_end handle number until b none = nothing_ends b (uncaused_nothing b none) (uncaused_extends b none) handle number until

asked_ends : (handle number until : ℕ) (l : Logged) (tried : Attempts) (i : NodeInput) → IsAsk i → Causes l tried i (TellsNone handle number until)
asked_ends handle number until l tried i ask =
    record {
      plain = λ receiver b none. plain_end handle number until b none;
      extends = λ server line later due.
          let same : ask.message ≡ due.report = same_message i ask.message due.report ask.taken due.taken in
          true_false (sym (ap is_told (sym ask.is ∙ ap (λ (m : Message). m.body) same ∙ due.is)));
      grants = λ server order q v later chunk members told has.
          let same : ask.message ≡ told.message = same_message i ask.message told.message ask.taken told.taken in
          true_false (sym told.is ∙ sym (ap (λ (m : Message). is_told m.body) same) ∙ ap is_told ask.is);
      creates = λ server order q v asked due. refl;
      raises = λ server order q v base asked due. refl;
      copies = λ server order q v copy copy_version asked new. refl;
    }

-- as the order is sent

module _ (config : Config) (servers clients : ℕ) (u : WorldState) (r : IsReached config servers clients u) (up : IsTrue u.master.up) (moment : ℕ) (i : NodeInput) (choice : Choice)
    (later : IsReached config servers clients (after_master u moment (master_step u.master moment i choice)).world) (ask : IsAsk i) (handle version : ℕ) where
  abbrev v : WorldState
  v = (after_master u moment (master_step u.master moment i choice)).world

  abbrev ms : List Message
  ms = (master_step u.master moment i choice).out.sent

  times : IsOfTimes (scene_of u)
  times = scene_reached IsOfTimes times_kept config servers clients u r

  base : IsOfWaits u.sent u.master
  base = sent_reached IsOfWaits waits_kept config servers clients u r

  free : (x : Message) → IsSent ms x → version_given x.body ≡ Some (handle, version) → (u.master.logged.next_handle ≤ handle) ⊎ ((row : ChunkRow) → table.get (rows_of u.master.logged) handle ≡ Some row → row.lease_end ≤ max u.master.now moment)
  free x said is =
      elim (step_asked u.master moment i choice ((base.base.logged.up up).ready).copied ask) [
        | inl usual ↦ all_at (GivesFree u.master.logged (max u.master.now moment) (ready_later u.master moment ((base.base.logged.up up).ready).copied)) ms said.0 x usual.0 said.1 handle version is
        | inr begun ↦
            let first = all_at (GivesFirst u.master.logged (max u.master.now moment) (ready_later u.master moment ((base.base.logged.up up).ready).copied) begun.copy begun.issued) ms said.0 x begun.given said.1 handle version is in
            inl (let same = first.0 in let new = begun.new in omega (arith, same, new))
      ]

  told_before : (number until : ℕ) → IsEndTold v.sent handle number until → IsEndTold u.sent handle number until
  told_before number until told =
      elim (sent_cases u.sent (stamped (suc (length u.sent)) ms) told.0 told.1) [
        | inl old ↦ (told.0, old, told.2)
        | inr now ↦
            let was = numbered_sent (suc (length u.sent)) ms now.0 told.0 now.1 in
            let none = all_at (TellsNone handle number until) ms (was.1).0 was.0
            (step_caused u.master moment i choice (TellsNone handle number until) (granted_is_at_most_issued config servers clients u r) (asked_ends handle number until u.master.logged u.master.attempts i ask)) (was.1).1 in
            true_false (sym (sym none ∙ ap (tells_end handle number until) (was.2).2 ∙ told.2))
      ]

  past_later : (greatest : ℕ) (more : List Message) (number until : ℕ) → IsPast greatest u.sent handle number until → IsPast greatest (u.sent ++ more) handle number until
  past_later greatest more number until (inl early) = inl early
  past_later greatest more number until (inr said) = inr (said.0, sent_before u.sent more said.0 said.1, said.2)

  over_now : (x : Message) → IsSent ms x → version_given x.body ≡ Some (handle, version) → IsNext u.master.logged handle version → IsTrue v.observer.are_clocks_kept → (number : ℕ) → IsLeaseOver v handle number
  over_now x said is next clocks number =
      past_is_over v (scene_reached IsOfTimes times_kept config servers clients v later) handle number
      (λ until told.
      let before : IsEndTold u.sent handle number until = told_before number until told in
      let says = ((times_kept.passes (scene_of u) moment times).timely clocks).up up handle number until before in
      past_later (max u.observer.greatest moment) (stamped (suc (length u.sent)) ms) number until
      (elim (next) [
        | inr new ↦ absurd (let used = says.0 in omega (arith, used, new))
        | inl old ↦ elim (free x said is) [
          | inl new ↦ absurd (let used = says.0 in omega (arith, used, new))
          | inr ended ↦
              let end : HasEnd (max u.observer.greatest moment) u.sent handle number until (old.0).granted (old.0).lease_end = says.1 old.0 old.1 in
              elim (end.1) [
                | inl past ↦ past
                | inr last ↦
                    let within = last.1 in
                    let low = ended old.0 old.1 in
                    let first = times.clock.1 in
                    let grows = le-max_left u.observer.greatest moment in
                    let early : max u.master.now moment ≤ max u.observer.greatest moment = max-le (omega (arith, first, grows)) (le-max_right u.observer.greatest moment) in
                    inl (omega (arith, within, low, early))
              ]
        ]
      ]))

  lower : (number : ℕ) (l : Logged) → number < version → IsPassed handle version l → IsPassed handle number l
  lower number l below p = (p.0, λ row is. let bound = p.1 row is in omega (arith, bound, below))

  -- a lower version that was not granted is granted no more
  shut_now : (place : ℕ) (m : Message) → element_at v.sent place ≡ Some m → version_given m.body ≡ Some (handle, version) → (x : Message) → IsSent ms x → version_given x.body ≡ Some (handle, version) → (number : ℕ) → number < version
      → grants_of handle number v.sent ≤ 0 → StaysShut handle number 0 (scene_of v)
  shut_now place m at given x said is number below none =
      record {
        base = sent_reached IsOfWaits waits_kept config servers clients v later;
        shut = record {
          few = none;
          found = λ decided. lower number (state_of (log_changed_by_all v.master.disk (decided_changes decided v.master.under_way))) below (words.0 decided);
          up = λ on. (lower number v.master.logged below (words.1 on), λ a there same. let high = above a there in omega (arith, high, same, below));
        };
      }
    where
      words : AllFound (IsLogPassed handle version) v.master.disk v.master.under_way × (IsTrue v.master.up → IsPassed handle version v.master.logged)
      words = (given_reached handle version config servers clients v later).words m (place, at) (inl given)

      above : (a : VersionAttempt) → table.get v.master.attempts handle ≡ Some a → version ≤ a.version
      above a there = step_above handle u.master moment i choice base.base.logged base.waits (λ b b_there. ((given_reached handle b.version config servers clients u r).tried up b b_there refl).0) x said version is a there

pub leases_below_are_over : LeasesBelowAreOver
leases_below_are_over config servers clients w r clocks place m at handle version given number below =
    elim (cases_lt (grants_of handle number next.sent) 1) [
      | inl none ↦
          let few = (goes_on (StaysShut handle number 0) (stays_shut handle number 0) next h.after (shut (omega (arith, none)))).shut.few in
          let same = ap (λ (x : WorldState). grants_of handle number x.sent) rest in
          none_granted_over config servers clients w r handle number (omega (arith, few, same))
      | inr some ↦ subst (λ (x : WorldState). IsLeaseOver x handle number) rest (leases_stay_over config servers clients next next_reached handle number some over h.after clocks_then)
    ]
  where
    order_is : (order : OrderNo) × (order_number m.body ≡ Some order)
    order_is = given_number m.body handle version given

    h : WasOrderedIn config servers clients w place m
    h = was_ordered_in config servers clients w r place m at order_is.0 order_is.1

    n : IsOrderedNow h.before h.next m
    n = h.now

    next : WorldState
    next = (after_master h.before n.moment (master_step h.before.master n.moment n.taken n.choice)).world

    next_reached : IsReached config servers clients (after_master h.before n.moment (master_step h.before.master n.moment n.taken n.choice)).world
    next_reached = subst (λ (x : WorldState). IsReached config servers clients x) n.world_is h.next_reached

    rest : after_events (after_master h.before n.moment (master_step h.before.master n.moment n.taken n.choice)).world h.after ≡ w
    rest = ap (λ (x : WorldState). after_events x h.after) (sym n.world_is) ∙ h.rest

    due : IsAsk n.taken × IsNext h.before.master.logged handle version
    due = now_given config servers clients h.before h.next h.reached m n handle version given

    word_is : version_given n.word.body ≡ Some (handle, version)
    word_is = ap version_given (n.same).2 ∙ given

    clocks_then : IsTrue (after_events (after_master h.before n.moment (master_step h.before.master n.moment n.taken n.choice)).world h.after).observer.are_clocks_kept
    clocks_then = subst (λ (x : WorldState). IsTrue x.observer.are_clocks_kept) (sym rest) clocks

    over : IsLeaseOver (after_master h.before n.moment (master_step h.before.master n.moment n.taken n.choice)).world handle number
    over =
        over_now config servers clients h.before h.reached n.up n.moment n.taken n.choice next_reached due.0 handle version n.word n.said word_is due.1
        (clocks_before (after_master h.before n.moment (master_step h.before.master n.moment n.taken n.choice)).world h.after clocks_then) number

    shut : grants_of handle number (after_master h.before n.moment (master_step h.before.master n.moment n.taken n.choice)).world.sent ≤ 0
        → StaysShut handle number 0 (scene_of (after_master h.before n.moment (master_step h.before.master n.moment n.taken n.choice)).world)
    shut none =
        shut_now config servers clients h.before h.reached n.up n.moment n.taken n.choice next_reached due.0 handle version place m (ap (λ (x : WorldState). element_at x.sent place) (sym n.world_is) ∙ h.at_next) given n.word n.said word_is number below none
