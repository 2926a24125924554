-- Why nothing is granted below the version with which a replica is made: the chunk was there with nothing granted, or it is a new one, whose versions below are shut from the step on.
use Rattle.std.proofs.Common.{◌≡◌, ◌⊎◌, ℕ, suc, ◌≤◌, ◌<◌, Bool, true, false, List, [], ◌∷◌, ◌++◌, length, Option, Some, None, refl, sym, ap, subst, ◌∙◌, inl, inr, arith}
use Rattle.std.specs.Prelude.{nat_le, IsTrue}
use Rattle.std.specs.FinMap as table
use Rattle.std.proofs.lemmas.Bool.{leb-true, leb-false}
use Rattle.gfs_types.specs.declared.config.Config.{Config}
use Rattle.messages.specs.declared.event.Event.{Event}
use Rattle.messages.specs.declared.event.NodeInput.{NodeInput}
use Rattle.messages.specs.declared.event.NodeInput.TheVariants as input
use Rattle.messages.specs.declared.message.Message.{Message}
use Rattle.messages.specs.declared.message.Body.{Body}
use Rattle.messages.specs.declared.message.Body.TheVariants as body
use Rattle.protocol.specs.Tables.{element_at}
use Rattle.protocol.specs.Sending.{handle_of, version_of, order_number}
use Rattle.protocol.specs.Choice.{Choice, decided_changes}
use Rattle.protocol.specs.Logged.{Logged, log_changed_by_all}
use Rattle.protocol.specs.Master.{VersionAttempt}
use Rattle.protocol.specs.MasterStep.{master_step, master_restart}
use Rattle.protocol.specs.ServerStep.{server_step, server_restart}
use Rattle.protocol.specs.ClientStep.{client_step, client_call}
use Rattle.protocol.specs.World.{WorldState, new_world, stamped, after_master, happens, after_events, IsReached}
use Rattle.laws_base.specs.Laws.{is_grant, grants_of}
use Rattle.laws_base.proofs.Steps.{none_some, same_some}
use Rattle.laws_base.proofs.Entries.{AllOf}
use Rattle.laws_base.proofs.Words.{true_false}
use Rattle.laws_base.proofs.LeaseOrders.{grant_parts, nothing_counts}
use Rattle.laws_base.proofs.MembersRecorded.{all_at}
use Rattle.laws_base.proofs.MessagesSent.{IsSent, IsSameMessage}
use Rattle.laws_base.proofs.ClientMoves.{HasNoOrder, quiet_orders, client_quiet, call_quiet}
use Rattle.laws_base.proofs.SentReached.{without_order, server_quiet, server_restarts_quiet, sent_reached}
use Rattle.laws_base.proofs.GrantedIssued.{granted_is_at_most_issued}
use Rattle.laws_base.proofs.RevokesNumbered.{Agrees}
use Rattle.laws_base.proofs.RevokedLeases.{IsOfRevoked, revoked_kept}
use Rattle.laws_base.proofs.ScenesReached.{scene_of, scene_reached, goes_on}
use Rattle.laws_base.proofs.LeasesStayOver.{reached_later}
use Rattle.laws_base.specs.Given.{version_given}
use Rattle.laws_base.proofs.WaitsKept.{IsOfWaits, waits_kept}
use Rattle.laws_base.proofs.IssuedNumbers.{IsPassed, IsLogPassed}
use Rattle.laws_base.proofs.OrderNumbers.{state_of, AllFound}
use Rattle.laws_versions.proofs.GivenVersions.{given_reached}
use Rattle.laws_versions.proofs.ClosedVersions.{StaysShut, stays_shut}
use Rattle.laws_base.proofs.Events.{HoldsAfter, holds_after}
use Rattle.laws_base.proofs.RequestsOnce.{later_cases}
use Rattle.laws_base.proofs.Histories.{SentIn, sent_in, after_both}
use Rattle.laws_versions.specs.EmptyGrants.{IsGrantUsed}
use Rattle.laws_versions.proofs.UsedGrants.{numbered_versions_have_used_grants}
use Rattle.laws_base.proofs.MasterPremises.{is_told, IsAsk, IsTold}
use Rattle.laws_versions.proofs.MasterCauses.{is_caused, uncaused_nothing, Attempts, IsRaised, Causes, step_caused}
use Rattle.laws_versions.proofs.ExtendLaws.{restart_silent, new_one, none_before}
use Rattle.laws_versions.proofs.RaisedVersions.{counted_grant, skipped}
use Rattle.laws_versions.specs.FirstVersions.{version_made, FirstVersionsSkipNoGrant, FirstVersionsSkipNoEntry}
use Rattle.laws_versions.proofs.AttemptsAbove.{step_above}

-- the order answers an Ask, for a chunk that was there with nothing granted, or for a new one
abbrev IsMade : Logged → Attempts → NodeInput → Message → Type 0
IsMade l tried i x = (handle version : ℕ) → version_made x.body ≡ Some (handle, version) → IsAsk i × (IsRaised l tried handle version 0 ⊎ (l.next_handle ≤ handle))

none_made : (b : Body) → is_caused b ≡ false → version_made b ≡ None
none_made (body.Create order handle version) none = true_false none
none_made (body.CopyLocal order handle version copy copy_version) none = true_false none
none_made other none = refl

master_makes : (l : Logged) (tried : Attempts) (i : NodeInput) → Causes l tried i (IsMade l tried i)
master_makes l tried i =
    record {
      plain = λ receiver b none handle version is. none_some (handle, version) (sym (none_made b none) ∙ is);
      extends = λ server line until due handle version is. none_some (handle, version) is;
      grants = λ server order q v until chunk members told has handle version is. none_some (handle, version) is;
      creates = λ server order q v ask due handle version is.
          let same : (q, v) ≡ (handle, version) = same_some (q, v) (handle, version) is in
          (ask, subst (λ (p : ℕ × ℕ). IsRaised l tried p.0 p.1 0 ⊎ (l.next_handle ≤ p.0)) same due);
      raises = λ server order q v base ask due handle version is. none_some (handle, version) is;
      copies = λ server order q v copy copy_version ask new handle version is.
          let same : (copy, copy_version) ≡ (handle, version) = same_some (copy, copy_version) (handle, version) is in
          (ask, inr (subst (λ (p : ℕ × ℕ). l.next_handle ≤ p.0) same new));
    }

-- a step on an Ask grants nothing

abbrev message_in : NodeInput → Option Message
message_in (input.Deliver m) = Some m
message_in input.Tick = None

not_both : {A : Type 0} (i : NodeInput) → IsAsk i → IsTold i → A
not_both i ask told =
    let one : ask.message ≡ told.message = same_some ask.message told.message (ap message_in (sym ask.taken ∙ told.taken)) in
    true_false (sym told.is ∙ sym (ap (λ (m : Message). is_told m.body) one) ∙ ap is_told ask.is)

abbrev IsNoGrant : ℕ → ℕ → Message → Type 0
IsNoGrant handle granted x = is_grant handle granted x.body ≡ false

plain_grant : (handle granted : ℕ) (b : Body) → is_caused b ≡ false → is_grant handle granted b ≡ false
plain_grant handle granted b none = nothing_counts handle granted b (uncaused_nothing b none)

asked_grants : (handle granted : ℕ) (l : Logged) (tried : Attempts) (i : NodeInput) → IsAsk i → Causes l tried i (IsNoGrant handle granted)
asked_grants handle granted l tried i ask =
    record {
      plain = λ receiver b none. plain_grant handle granted b none;
      extends = λ server line until due. refl;
      grants = λ server order q v until chunk members told has. not_both i ask told;
      creates = λ server order q v asked due. refl;
      raises = λ server order q v base asked due. refl;
      copies = λ server order q v copy copy_version asked new. refl;
    }

made_given : (b : Body) (handle version : ℕ) → version_made b ≡ Some (handle, version) → version_given b ≡ Some (handle, version)
made_given (body.Create order q v) handle version is = is
made_given (body.CopyLocal order q v copy copy_version) handle version is = is
made_given other handle version is = none_some (handle, version) is

unordered_made : (b : Body) → order_number b ≡ None → version_made b ≡ None
unordered_made (body.Create order q v) none = none_some order (sym none)
unordered_made (body.CopyLocal order q v copy copy_version) none = none_some order (sym none)
unordered_made other none = refl

none_new : {A : Type 0} (sent ms : List Message) (k place : ℕ) (m : Message) → HasNoOrder ms → length sent ≤ place → element_at (sent ++ stamped k ms) place ≡ Some m → (handle version : ℕ) → version_made m.body ≡ Some (handle, version) → A
none_new sent ms k place m quiet from at handle version is =
    let new = new_one sent ms k place m from at in
    let none : order_number (new.0).body ≡ None = all_at (λ (x : Message). order_number x.body ≡ None) ms (new.1).0 new.0 (without_order ms quiet) (new.1).1 in
    none_some (handle, version) (sym (unordered_made (new.0).body none) ∙ ap version_made (new.2).2 ∙ is)

-- the step in which an order makes a replica of a new chunk

module _ (config : Config) (servers clients : ℕ) (u : WorldState) (r : IsReached config servers clients u) (up : IsTrue u.master.up) (moment : ℕ) (i : NodeInput) (choice : Choice)
    (later : IsReached config servers clients (after_master u moment (master_step u.master moment i choice)).world) (ask : IsAsk i) (handle version : ℕ) (new : u.master.logged.next_handle ≤ handle) where
  abbrev v : WorldState
  v = (after_master u moment (master_step u.master moment i choice)).world

  none_yet : (granted : ℕ) → grants_of handle granted v.sent ≤ 0
  none_yet granted = by_count (nat_le (grants_of handle granted v.sent) 0) refl
    where
      agrees : Agrees u.sent u.master.logged
      agrees = (scene_reached IsOfRevoked revoked_kept config servers clients u r).sent.revokes.up up

      ms : List Message
      ms = (master_step u.master moment i choice).out.sent

      quiet : AllOf (IsNoGrant handle granted) ms
      quiet = step_caused u.master moment i choice (IsNoGrant handle granted) (granted_is_at_most_issued config servers clients u r) (asked_grants handle granted u.master.logged u.master.attempts i ask)

      by_place : (m : Message) (place : ℕ) → element_at v.sent place ≡ Some m → is_grant handle granted m.body ≡ true → ⊥
      by_place m place at is =
          elim (later_cases u.sent (suc (length u.sent)) ms place m at) [
            | inl before ↦
                let parts = grant_parts handle granted m.body is in
                let used = (agrees.used m (place, before)).0 parts.0 (handle_of handle) (version_of granted) parts.1 parts.2 parts.3 in
                omega (arith, used, new)
            | inr now ↦ true_false (sym is ∙ sym (ap (is_grant handle granted) (now.2).2) ∙ all_at (IsNoGrant handle granted) ms (now.1).0 now.0 quiet (now.1).1)
          ]

      by_count : (b : Bool) → nat_le (grants_of handle granted v.sent) 0 ≡ b → grants_of handle granted v.sent ≤ 0
      by_count true is = leb-true (grants_of handle granted v.sent) 0 is
      by_count false is =
          let some : 0 < grants_of handle granted v.sent = leb-false (grants_of handle granted v.sent) 0 is in
          let g = counted_grant handle granted v.sent (omega (arith, some)) in
          absurd (by_place g.0 (g.1).0 (g.1).1 g.2)

  lower : (granted : ℕ) (l : Logged) → granted < version → IsPassed handle version l → IsPassed handle granted l
  lower granted l below p = (p.0, λ row is. let bound = p.1 row is in omega (arith, bound, below))

  made_shut : (place : ℕ) (m : Message) → element_at v.sent place ≡ Some m → length u.sent ≤ place → version_made m.body ≡ Some (handle, version) → (granted : ℕ) → granted < version → StaysShut handle granted 0 (scene_of v)
  made_shut place m at from is granted below =
      record {
        base = sent_reached IsOfWaits waits_kept config servers clients v later;
        shut = record {
          few = none_yet granted;
          found = λ decided. lower granted (state_of (log_changed_by_all v.master.disk (decided_changes decided v.master.under_way))) below (words.0 decided);
          up = λ on. (lower granted v.master.logged below (words.1 on), λ a there same. let high = above a there in omega (arith, high, same, below));
        };
      }
    where
      words : AllFound (IsLogPassed handle version) v.master.disk v.master.under_way × (IsTrue v.master.up → IsPassed handle version v.master.logged)
      words = (given_reached handle version config servers clients v later).words m (place, at) (inl (made_given m.body handle version is))

      base : IsOfWaits u.sent u.master
      base = sent_reached IsOfWaits waits_kept config servers clients u r

      said : (x : Message) × IsSent (master_step u.master moment i choice).out.sent x × IsSameMessage x m
      said = new_one u.sent (master_step u.master moment i choice).out.sent (suc (length u.sent)) place m from at

      above : (a : VersionAttempt) → table.get v.master.attempts handle ≡ Some a → version ≤ a.version
      above a there =
          step_above handle u.master moment i choice base.base.logged base.waits (λ b b_there. ((given_reached handle b.version config servers clients u r).tried up b b_there refl).0) said.0 said.1 version
          (ap version_given (said.2).2 ∙ made_given m.body handle version is) a there

-- what an event brings

-- the chunk was there with nothing granted, or each version below is shut
abbrev IsShutNow : WorldState → WorldState → ℕ → ℕ → Type 0
IsShutNow u v handle version = IsTrue u.master.up × (IsRaised u.master.logged u.master.attempts handle version 0 ⊎ ((granted : ℕ) → granted < version → StaysShut handle granted 0 (scene_of v)))

module _ (config : Config) (servers clients : ℕ) where
  abbrev AreShutNow : WorldState → WorldState → Type 0
  AreShutNow u v = IsReached config servers clients v → (place : ℕ) (m : Message) → length u.sent ≤ place → element_at v.sent place ≡ Some m → (handle version : ℕ) → version_made m.body ≡ Some (handle, version) → IsShutNow u v handle version

  each_shut : (u : WorldState) → IsReached config servers clients u → HoldsAfter u (λ e x. AreShutNow u x.world)
  each_shut u r =
      let k : ℕ = suc (length u.sent) in
      record {
        nothing = λ e later place m from at handle version is. none_before u.sent place m from at;
        masters = λ e moment i choice given up later place m from at handle version is.
            let new = new_one u.sent (master_step u.master moment i choice).out.sent k place m from at in
            let all = step_caused u.master moment i choice (IsMade u.master.logged u.master.attempts i) (granted_is_at_most_issued config servers clients u r) (master_makes u.master.logged u.master.attempts i) in
            let made = all_at (IsMade u.master.logged u.master.attempts i) (master_step u.master moment i choice).out.sent (new.1).0 new.0 all (new.1).1 handle version (ap version_made (new.2).2 ∙ is) in (
              up,
              elim (made.1) [
                | inl raised ↦ inl raised
                | inr fresh ↦ inr (λ granted below. made_shut config servers clients u r up moment i choice later made.0 handle version fresh place m at from is granted below)
              ],
            );
        opens = λ e moment choice later place m from at handle version is.
            let new = new_one u.sent (master_restart u.master moment choice).out.sent k place m from at in
            none_some new.0 (subst (λ (ms : List Message). element_at ms (new.1).0 ≡ Some new.0) (restart_silent u.master moment choice) (new.1).1);
        serves = λ e index moment s i choice there given up later place m from at handle version is. none_new u.sent (server_step s moment i choice).out.sent k place m (server_quiet s moment i choice) from at handle version is;
        restarts = λ e index moment s choice there later place m from at handle version is. none_new u.sent (server_restart s moment choice).out.sent k place m (server_restarts_quiet s moment choice choice.ending) from at handle version is;
        steps = λ e index moment s i choice there given up later place m from at handle version is.
            none_new u.sent (client_step s moment i choice).out.sent k place m (quiet_orders (client_step s moment i choice).out.sent (client_quiet s moment i choice)) from at handle version is;
        calls = λ e index moment s c choice there may later place m from at handle version is.
            none_new u.sent (client_call s moment c choice).out.sent k place m (quiet_orders (client_call s moment c choice).out.sent (call_quiet s moment c choice)) from at handle version is;
        rots = λ e index q s x at_place byte ending is_kept there held up later place m from at handle version is. none_before u.sent place m from at;
      }

never_granted : (config : Config) (servers clients : ℕ) (w : WorldState) → IsReached config servers clients w → (place : ℕ) (m : Message) → element_at w.sent place ≡ Some m → (handle version : ℕ) → version_made m.body ≡ Some (handle, version)
    → (granted : ℕ) → 0 < granted → granted < version → 1 ≤ grants_of handle granted w.sent → ⊥
never_granted config servers clients w r place m at handle version is granted above below some =
    elim (now.1) [
      | inl raised ↦ elim (raised) [
        | inl old ↦ skipped config servers clients u (h.before, refl) now.0 handle version 0 granted above below old.0 old.1 old.2 old.3 old.4 (h.step ∷ h.after) (subst (λ (x : WorldState). 1 ≤ grants_of handle granted x.sent) (sym rest) some)
        | inr new ↦ let one = new.1 in omega (arith, above, below, one)
      ]
      | inr shut ↦
          let few = (goes_on (StaysShut handle granted 0) (stays_shut handle granted 0) next h.after (shut granted below)).shut.few in
          let more : 1 ≤ grants_of handle granted (after_events next h.after).sent = subst (λ (x : WorldState). 1 ≤ grants_of handle granted x.sent) (sym rest) some in
          omega (arith, few, more)
    ]
  where
    start : WorldState
    start = new_world config servers clients

    h : SentIn start r.0 place m
    h = sent_in start r.0 place m (omega arith) (ap (λ (x : WorldState). element_at x.sent place) r.1 ∙ at)

    u : WorldState
    u = after_events start h.before

    next : WorldState
    next = (happens u h.step.0 h.step.1).world

    rest : after_events u (h.step ∷ h.after) ≡ w
    rest = sym (ap (λ (steps : List (Event × Choice)). after_events start steps) h.steps_are ∙ after_both start h.before (h.step ∷ h.after)) ∙ r.1

    now : IsShutNow u next handle version
    now =
        holds_after u (λ e x. AreShutNow config servers clients u x.world) (each_shut config servers clients u (h.before, refl)) h.step.0 h.step.1
        (reached_later config servers clients u (h.step ∷ []) (h.before, refl)) place m h.unsent h.sent_is handle version is

pub first_versions_skip_no_grant : FirstVersionsSkipNoGrant
first_versions_skip_no_grant config servers clients w r place m at handle version is granted some = by_base (nat_le granted 0) refl (nat_le version granted) refl
  where
    by_base : (b : Bool) → nat_le granted 0 ≡ b → (c : Bool) → nat_le version granted ≡ c → (granted ≤ 0) ⊎ (version ≤ granted)
    by_base true low c high = inl (leb-true granted 0 low)
    by_base false low true high = inr (leb-true version granted high)
    by_base false low false high = absurd (never_granted config servers clients w r place m at handle version is granted (leb-false granted 0 low) (leb-false version granted high) some)

pub first_versions_skip_no_entry : FirstVersionsSkipNoEntry
first_versions_skip_no_entry config servers clients w r place m at handle version is index moment s i choice numbered id n =
    let used : IsGrantUsed w index handle.0 numbered.0 = numbered_versions_have_used_grants config servers clients w r index moment s i choice handle numbered id n [] in
    first_versions_skip_no_grant config servers clients w r place m at handle.0 version is numbered.0 used.granted
