-- In each world that is reached, each holder that a location names was ordered to have that version: the master knew it of the holder's server as it told it.
use Rattle.std.proofs.Common.{◌≡◌, ℕ, suc, ◌≤◌, true, true≢false, List, ◌∷◌, ◌++◌, length, Some, None, refl, sym, ap, subst, ◌∙◌, arith, inl, inr}
use Rattle.gfs_types.specs.declared.config.Config.{Config}
use Rattle.messages.specs.declared.message.Body.TheVariants as body
use Rattle.messages.specs.declared.message.Message.{Message}
use Rattle.messages.specs.declared.message.Location.{Location}
use Rattle.messages.specs.declared.message.Holder.{Holder}
use Rattle.messages.specs.declared.event.Event.{Event}
use Rattle.protocol.specs.Tables.{element_at}
use Rattle.protocol.specs.Choice.{Choice}
use Rattle.protocol.specs.ClientStep.{client_at, client_step, client_call}
use Rattle.protocol.specs.MasterStep.{master_step, master_restart}
use Rattle.protocol.specs.ServerStep.{server_step, server_restart}
use Rattle.protocol.specs.World.{WorldState, new_world, after_events, IsReached}
use Rattle.laws_base.proofs.Entries.{AllOf}
use Rattle.laws_base.proofs.MembersRecorded.{kept_place, all_at}
use Rattle.laws_base.proofs.ClientNumbers.{of_step, of_call}
use Rattle.laws_base.proofs.Events.{HoldsAfter, holds_after}
use Rattle.laws_base.proofs.Histories.{IsGrown, steps_grown, SentIn, sent_in, after_both}
use Rattle.laws_base.proofs.RequestsOnce.{AreNumbered, numbered_reached}
use Rattle.laws_versions.specs.ToldVersions.{WasOrdered}
use Rattle.laws_versions.proofs.ToldVersions.{holders_were_ordered}
use Rattle.laws_versions.proofs.ExtendLaws.{restart_silent, new_one, none_before}
use Rattle.laws_versions.proofs.ToldAnswers.{TellsNone, server_tells, restart_tells, client_tells, none_new}
use Rattle.laws_machine.specs.OrderedHolders.{ToldHoldersWereOrdered}
use Rattle.laws_machine.proofs.MasterRefusals.{is_no_answer, master_refuses_asks}

-- each holder of a location was ordered to have its version
abbrev pub AreOrdered : List Message → Location → Type 0
AreOrdered sent l = (n : ℕ) (x : Holder) → element_at l.holders n ≡ Some x → WasOrdered sent x.server.0 l.handle.0 x.version.0

pub ordered_later : (sent more : List Message) (server handle version : ℕ) → WasOrdered sent server handle version → WasOrdered (sent ++ more) server handle version
ordered_later sent more server handle version (inl given) = inl (given.0, given.1, kept_place sent more given.0 given.1 given.2, given.3, given.4)
ordered_later sent more server handle version (inr cloned) = inr (cloned.0, cloned.1, kept_place sent more cloned.0 cloned.1 cloned.2, cloned.3, cloned.4)

abbrev Holds : List Message → Message → Type 0
Holds sent m = (number : ℕ) (l : Location) → m.body ≡ body.Told number (Some l) → AreOrdered sent l

same_location : (number other : ℕ) (l k : Location) → body.Told number (Some l) ≡ body.Told other (Some k) → l ≡ k
same_location number other l k same = cc

-- what is told in a step since a world
abbrev pub AreHeld : WorldState → WorldState → Type 0
AreHeld u v = (place : ℕ) (m : Message) → length u.sent ≤ place → element_at v.sent place ≡ Some m → (number : ℕ) (l : Location) → m.body ≡ body.Told number (Some l) → AreOrdered u.sent l

pub each_held : (config : Config) (servers clients : ℕ) (u : WorldState) → IsReached config servers clients u → HoldsAfter u (λ e x. AreHeld u x.world)
each_held config servers clients u r =
    record {
      nothing = λ e place m from at number l is. none_before u.sent place m from at;
      masters = λ e moment i choice given up place m from at number l is.
          let ms : List Message = (master_step u.master moment i choice).out.sent in
          let new = new_one u.sent ms k place m from at in
          let all : AllOf (Holds u.sent) ms =
          master_refuses_asks u.master moment i choice (Holds u.sent)
          (record {
            plain = λ receiver b none at_number told same. absurd (true≢false (sym none ∙ ap is_no_answer same));
            refuses = λ receiver asked refusal taken why at_number told same. absurd (let both : body.Refused asked refusal ≡ body.Told at_number (Some told) = same in cc);
            none = λ receiver asked taken at_number told same. absurd (let both : body.Told asked None ≡ body.Told at_number (Some told) = same in cc);
            tells = λ receiver asked told taken known at_number other same.
                subst (λ (y : Location). AreOrdered u.sent y) (same_location asked at_number told other same)
                (λ n x there. holders_were_ordered config servers clients u r up x.server.0 told.handle.0 x.version.0 (known n x there));
          }) in
          all_at (Holds u.sent) ms (new.1).0 new.0 all (new.1).1 number l ((new.2).2 ∙ is);
      opens = λ e moment choice place m from at number l is. none_new u.sent (master_restart u.master moment choice).out.sent k place m (subst (λ (ms : List Message). AllOf (λ x. TellsNone x.body) ms) (sym (restart_silent u.master moment choice)) tt) from at number l is;
      serves = λ e index moment s i choice there given up place m from at number l is. none_new u.sent (server_step s moment i choice).out.sent k place m (server_tells s moment i choice) from at number l is;
      restarts = λ e index moment s choice there place m from at number l is. none_new u.sent (server_restart s moment choice).out.sent k place m (restart_tells s moment choice choice.ending) from at number l is;
      steps = λ e index moment s i choice there given up place m from at number l is. none_new u.sent (client_step s moment i choice).out.sent k place m
          (of_step (λ t ms. AllOf (λ x. TellsNone x.body) ms) s moment i choice (numbered.each index s there).named (λ d step. client_tells (client_at s moment) d d.sent step refl) tt tt) from at number l is;
      calls = λ e index moment s c choice there may place m from at number l is. none_new u.sent (client_call s moment c choice).out.sent k place m
          (of_call (λ t ms. AllOf (λ x. TellsNone x.body) ms) s moment c choice (numbered.each index s there).named (λ d step. client_tells (client_at s moment) d d.sent step refl) tt) from at number l is;
      rots = λ e index q s x at_place byte ending is_kept there held up place m from at number l is. none_before u.sent place m from at;
    }
  where
    k : ℕ
    k = suc (length u.sent)

    numbered : AreNumbered u.sent u.clients
    numbered = numbered_reached config servers clients u r

pub told_holders_were_ordered : ToldHoldersWereOrdered
told_holders_were_ordered config servers clients w r place number m l at is n x there =
    subst (λ (ms : List Message). WasOrdered ms x.server.0 l.handle.0 x.version.0) (sym grown.1) (ordered_later u.sent grown.0 x.server.0 l.handle.0 x.version.0 now)
  where
    start : WorldState
    start = new_world config servers clients

    h : SentIn start r.0 place m
    h = sent_in start r.0 place m (omega arith) (ap (λ (v : WorldState). element_at v.sent place) r.1 ∙ at)

    u : WorldState
    u = after_events start h.before

    path : after_events u (h.step ∷ h.after) ≡ w
    path = sym (ap (λ (steps : List (Event × Choice)). after_events start steps) h.steps_are ∙ after_both start h.before (h.step ∷ h.after)) ∙ r.1

    grown : IsGrown u.sent w.sent
    grown = subst (λ (v : WorldState). IsGrown u.sent v.sent) path (steps_grown u (h.step ∷ h.after))

    now : WasOrdered u.sent x.server.0 l.handle.0 x.version.0
    now = holds_after u (λ e v. AreHeld u v.world) (each_held config servers clients u (h.before, refl)) h.step.0 h.step.1 place m h.unsent h.sent_is number l is n x there
