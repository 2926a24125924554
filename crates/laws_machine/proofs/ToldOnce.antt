-- All locations that were told of one chunk with a granted round are of one index: it stood there as each was told, and a handle stands at one index for all time.
use Rattle.std.proofs.Common.{◌≡◌, ℕ, ◌≤◌, Bool, true, false, List, [], ◌∷◌, length, Some, refl, sym, ap, subst, ◌∙◌, inl, inr, arith}
use Rattle.std.specs.Prelude.{nat_lt, IsTrue}
use Rattle.std.proofs.lemmas.Bool.{cases_lt, ltb-true, ltb-false}
use Rattle.gfs_types.specs.declared.config.Config.{Config}
use Rattle.messages.specs.declared.event.Event.{Event}
use Rattle.messages.specs.declared.message.Location.{Location}
use Rattle.protocol.specs.Tables.{element_at}
use Rattle.protocol.specs.Choice.{Choice}
use Rattle.protocol.specs.World.{WorldState, new_world, happens, after_events, IsReached}
use Rattle.laws_base.proofs.MembersRecorded.{place_below}
use Rattle.laws_base.proofs.Histories.{IsGrown, steps_grown, stood_before, SentIn, sent_in, after_both}
use Rattle.laws_versions.specs.HandleIndexes.{StandsAtIndex}
use Rattle.laws_versions.specs.ReplacedChunks.{IsToldAt}
use Rattle.laws_versions.proofs.AskedSteps.{StandsAt, IsToldOf}
use Rattle.laws_versions.proofs.HandleIndexes.{handles_keep_their_index}
use Rattle.laws_versions.proofs.ToldAnswers.{WasToldIn, told_now, was_told_in}
use Rattle.laws_versions.proofs.ReplacedChunks.{kept_before}
use Rattle.laws_machine.specs.ToldIndexes.{HandlesAreToldAtOneIndex}

-- two locations of one chunk, in the order in which they were told
module _ (config : Config) (servers clients : ℕ) (w : WorldState) (r : IsReached config servers clients w) (clocks : IsTrue w.observer.are_clocks_kept) (client other file also : ℕ) (l k : Location) (place later : ℕ) (first : IsToldAt w.sent client file l place)
    (second : IsToldAt w.sent other also k later) (earlier : place ≤ later) (same : l.handle.0 ≡ k.handle.0) where
  told_once : l.index ≡ k.index
  told_once = by_place (nat_lt place (length u.sent)) refl
    where
      start : WorldState
      start = new_world config servers clients

      h : SentIn start r.0 later second.told
      h = sent_in start r.0 later second.told (omega arith) (ap (λ (x : WorldState). element_at x.sent later) r.1 ∙ second.sent_is)

      u : WorldState
      u = after_events start h.before

      next : WorldState
      next = (happens u h.step.0 h.step.1).world

      reached : IsReached config servers clients u
      reached = (h.before, refl)

      path : after_events u (h.step ∷ h.after) ≡ w
      path = sym (ap (λ (steps : List (Event × Choice)). after_events start steps) h.steps_are ∙ after_both start h.before (h.step ∷ h.after)) ∙ r.1

      clocks_then : IsTrue u.observer.are_clocks_kept
      clocks_then = kept_before w clocks u (h.step ∷ h.after) path

      now : IsTrue u.master.up × IsToldOf u.master.logged also k
      now = told_now config servers clients w r u reached clocks_then h.step h.after path other also k later second h.unsent h.sent_is

      -- as the later one is told
      there : StandsAtIndex u also k.index l.handle.0
      there = inr (now.0, subst (λ (q : ℕ). StandsAt u.master.logged.table.files also k.index q) (sym same) (now.1).stood)

      grown : IsGrown u.sent w.sent
      grown = subst (λ (x : WorldState). IsGrown u.sent x.sent) path (steps_grown u (h.step ∷ h.after))

      by_place : (b : Bool) → nat_lt place (length u.sent) ≡ b → l.index ≡ k.index
      by_place false late =
          let stands : element_at next.sent place ≡ Some first.told =
          stood_before next.sent w.sent place first.told (subst (λ (x : WorldState). IsGrown next.sent x.sent) path (steps_grown next h.after)) (let below = place_below next.sent later second.told h.sent_is in omega (arith, earlier, below)) first.sent_is in
          let both : IsTrue u.master.up × IsToldOf u.master.logged file l = told_now config servers clients w r u reached clocks_then h.step h.after path client file l place first (ltb-false place (length u.sent) late) stands in
          handles_keep_their_index config servers clients u reached now.0 l.handle.0 file l.index (both.1).stood [] also k.index there
      by_place true early =
          let stands : element_at u.sent place ≡ Some first.told = stood_before u.sent w.sent place first.told grown (ltb-true place (length u.sent) early) first.sent_is in
          let was : WasToldIn config servers clients u file l place = was_told_in config servers clients w r (kept_before w clocks) u reached (h.step ∷ h.after) path client file l place first stands in
          handles_keep_their_index config servers clients was.before was.reached was.up l.handle.0 file l.index (was.told).stood was.steps also k.index (subst (λ (x : WorldState). StandsAtIndex x also k.index l.handle.0) (sym was.rest) there)

pub handles_are_told_at_one_index : HandlesAreToldAtOneIndex
handles_are_told_at_one_index config servers clients w r clocks client other file also l k place later first second same =
    elim (cases_lt place later) [
      | inl less ↦ told_once config servers clients w r clocks client other file also l k place later first second (omega (arith, less)) same
      | inr least ↦ sym (told_once config servers clients w r clocks other client also file k l later place second first (omega (arith, least)) (sym same))
    ]
