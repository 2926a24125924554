-- A Clone is of a version that a server was said to hold as its step began; so it was given, or cloned before, and the first clone of it was of one that was given.
use Rattle.std.proofs.Common.{◌≡◌, ℕ, zero, suc, ◌<◌, List, Option, Some, refl, sym, ap, subst, ◌∙◌, inl, inr, arith}
use Rattle.std.specs.Prelude.{unwrap_or}
use Rattle.std.specs.FinMap as table
use Rattle.gfs_types.specs.declared.config.Config.{Config}
use Rattle.gfs_types.specs.declared.ids.OrderNo.{OrderNo}
use Rattle.messages.specs.declared.event.NodeInput.{NodeInput}
use Rattle.messages.specs.declared.event.NodeInput.TheVariants as input
use Rattle.messages.specs.declared.message.Body.{Body}
use Rattle.messages.specs.declared.message.Body.TheVariants as body
use Rattle.messages.specs.declared.message.Message.{Message}
use Rattle.protocol.specs.Tables.{Table, element_at}
use Rattle.protocol.specs.Sending.{order_number}
use Rattle.protocol.specs.Choice.{Choice, Ending, Goes, Lost, Stops}
use Rattle.protocol.specs.Seen.{Taken, no_step}
use Rattle.protocol.specs.Master.{MasterState, MasterDoing, version_held}
use Rattle.protocol.specs.MasterStep.{master_goes, master_ends, master_bounded, may_end, master_step}
use Rattle.protocol.specs.World.{WorldState, IsReached}
use Rattle.laws_base.proofs.Steps.{on_cond, none_some, same_some}
use Rattle.laws_base.proofs.Entries.{AllOf}
use Rattle.laws_base.proofs.MembersRecorded.{all_at, all_in_order, kept_place, place_below}
use Rattle.laws_base.proofs.MessagesSent.{IsSent}
use Rattle.laws_versions.specs.HeldVersions.{version_cloned}
use Rattle.laws_versions.proofs.TrueWords.{IsCloned, IsTrueFrom, copy_ask_true, image_true}
use Rattle.laws_versions.proofs.ToldVersions.{told_reached, holders_were_ordered}
use Rattle.laws_versions.specs.ClonedVersions.{version_copied}
use Rattle.laws_versions.proofs.CloneOrders.{IsMastersMessage, IsChosen, IsTickWord, tick_says, IsNoClone, delivery_says}
use Rattle.laws_versions.proofs.ClonedVersions.{IsCloneSent, sent_of_cloned}
use Rattle.laws_base.proofs.Histories.{IsGrown}
use Rattle.laws_versions.proofs.OrderSteps.{IsOrderedNow, WasOrderedIn, was_ordered_in}
use Rattle.laws_versions.specs.GivenClones.{IsGivenBySome, CopiedVersionsWereGiven, OrderedVersionsWereGiven}

-- a server is said to hold it
abbrev IsHeld : MasterState → ℕ → ℕ → Type 0
IsHeld m handle version = (server : ℕ) × (version_held m handle server ≡ Some version)

-- each Clone of a step is of a version that is held as the step begins
abbrev ClonesHeld : MasterState → Taken MasterState → Type 0
ClonesHeld m t = (x : Message) → IsSent t.out.sent x → (handle version : ℕ) → version_cloned x.body ≡ Some (handle, version) → IsHeld m handle version

no_clone : (b : Body) (handle version : ℕ) → IsNoClone b → version_cloned b ≡ Some (handle, version) → ⊥
no_clone (body.Clone order q v source) handle version none is = none
no_clone other handle version none is = none_some (handle, version) is

chosen_by : (C : ℕ → ℕ → Type 0) (b : Body) (handle version : ℕ) → IsTickWord C b → version_cloned b ≡ Some (handle, version) → C handle version
chosen_by C (body.Clone order q v source) handle version word is =
    let same = same_some (q.0, v.0) (handle, version) is in
    subst (λ (n : ℕ). C n version) (ap (λ (p : ℕ × ℕ). p.0) same) (subst (λ (n : ℕ). C q.0 n) (ap (λ (p : ℕ × ℕ). p.1) same) word)
chosen_by C other handle version word is = none_some (handle, version) is

goes_held : (m : MasterState) (moment : ℕ) (i : NodeInput) (choice : Choice) → ClonesHeld m (master_ends m (master_goes m moment i choice.refused) choice Goes)
goes_held m moment (input.Deliver y) choice x said handle version is =
    let d : MasterDoing = master_goes m moment (input.Deliver y) choice.refused in
    let words : AllOf (IsMastersMessage IsNoClone) (master_ends m d choice Goes).out.sent = all_in_order (IsMastersMessage IsNoClone) choice.order d.sent (delivery_says m moment y choice.refused) in
    absurd (no_clone x.body handle version (all_at (IsMastersMessage IsNoClone) (master_ends m d choice Goes).out.sent said.0 x words said.1).1 is)
goes_held m moment input.Tick choice x said handle version is =
    let d : MasterDoing = master_goes m moment input.Tick choice.refused in
    let tick = tick_says m moment choice.refused in
    let C : ℕ → ℕ → Type 0 = IsChosen tick.at.master in
    let words : AllOf (IsMastersMessage (IsTickWord C)) (master_ends m d choice Goes).out.sent = all_in_order (IsMastersMessage (IsTickWord C)) choice.order d.sent tick.words in
    let chosen : C handle version = chosen_by C x.body handle version (all_at (IsMastersMessage (IsTickWord C)) (master_ends m d choice Goes).out.sent said.0 x words said.1).1 is in
    (chosen.server, ap (λ (holders : Table (Table ℕ)). table.get (unwrap_or (table.get holders chosen.server) table.empty) handle) (sym tick.holders) ∙ chosen.held)

step_held : (m : MasterState) (moment : ℕ) (i : NodeInput) (choice : Choice) → ClonesHeld m (master_step m moment i choice)
step_held m moment i choice =
    let d : MasterDoing = master_goes m moment i choice.refused in
    on_cond (ClonesHeld m) m.up (master_bounded m i d choice) (no_step m)
    (λ _. on_cond (ClonesHeld m) (may_end m i d choice.ending) (master_ends m d choice choice.ending) (no_step m) (λ _. by_ending choice.ending) (λ _ x said. none_some x said.1))
    (λ _ x said. none_some x said.1)
  where
    by_ending : (e : Ending) → ClonesHeld m (master_ends m (master_goes m moment i choice.refused) choice e)
    by_ending Goes x said = goes_held m moment i choice x said
    by_ending Lost x said = none_some x said.1
    by_ending (Stops made) x said = none_some x said.1

-- what was given before was given
pub given_grown : (before after : List Message) (handle version : ℕ) → IsGrown before after → IsGivenBySome before handle version → IsGivenBySome after handle version
given_grown before after handle version grown g =
    (g.0, g.1, subst (λ (ms : List Message). element_at ms g.0 ≡ Some g.1) (sym grown.1) (kept_place before grown.0 g.0 g.1 g.2), g.3)

clone_number : (b : Body) (handle version : ℕ) → version_cloned b ≡ Some (handle, version) → (order : OrderNo) × (order_number b ≡ Some order)
clone_number (body.Clone order q v source) handle version is = (order, refl)
clone_number other handle version is = none_some (handle, version) is

-- a Clone at one of the first places
clone_given : (config : Config) (servers clients : ℕ) (bound : ℕ) (w : WorldState) → IsReached config servers clients w → (place : ℕ) (m : Message) → place < bound → element_at w.sent place ≡ Some m → (handle version : ℕ) → version_cloned m.body ≡ Some (handle, version)
    → IsGivenBySome w.sent handle version
clone_given config servers clients zero w r place m below at handle version is = absurd (omega (arith, below))
clone_given config servers clients (suc bound) w r place m below at handle version is =
    elim (holders_were_ordered config servers clients h.before h.reached n.up held.0 handle version held.1) [
      | inl given ↦ given_grown h.before.sent w.sent handle version h.grown_before (given.0, given.1, given.2, given.4)
      | inr cloned ↦
          let first = place_below h.before.sent cloned.0 cloned.1 cloned.2 in
          let unsent = h.unsent in
          given_grown h.before.sent w.sent handle version h.grown_before
          (clone_given config servers clients bound h.before h.reached cloned.0 cloned.1 (omega (arith, first, unsent, below)) cloned.2 handle version cloned.4)
    ]
  where
    number : (order : OrderNo) × (order_number m.body ≡ Some order)
    number = clone_number m.body handle version is

    h : WasOrderedIn config servers clients w place m
    h = was_ordered_in config servers clients w r place m at number.0 number.1

    n : IsOrderedNow h.before h.next m
    n = h.now

    held : IsHeld h.before.master handle version
    held = step_held h.before.master n.moment n.taken n.choice n.word n.said handle version (ap version_cloned (n.same).2 ∙ is)

-- a copy of a version was asked for, or sent, after a Clone
copied_sent : (config : Config) (servers clients : ℕ) (w : WorldState) → IsReached config servers clients w → (m : Message) → IsSent w.sent m → (handle version : ℕ) → version_copied m.body ≡ Some (handle, version) → IsCloneSent w.sent handle version
copied_sent config servers clients w r m sent handle version is = by_body m.body refl ((told_reached config servers clients w r).words m sent) is
  where
    at_key : (q n : ℕ) → ◌≡◌ {A = Option (ℕ × ℕ)} (Some (q, n)) (Some (handle, version)) → IsCloned w.sent q n → IsCloneSent w.sent handle version
    at_key q n same cloned =
        let key = same_some (q, n) (handle, version) same in
        subst (λ (k : ℕ). IsCloneSent w.sent k version) (ap (λ (p : ℕ × ℕ). p.0) key) (subst (λ (v : ℕ). IsCloneSent w.sent q v) (ap (λ (p : ℕ × ℕ). p.1) key) (sent_of_cloned w.sent cloned.0 q n cloned.1))

    by_body : (b : Body) → m.body ≡ b → IsTrueFrom w.sent m.sender b → version_copied b ≡ Some (handle, version) → IsCloneSent w.sent handle version
    by_body (body.Clone order q n source) same word copied = (m, sent, ap version_cloned same ∙ copied)
    by_body (body.CopyAsk q n) same word copied = at_key q.0 n.0 copied (copy_ask_true w.sent m.sender q n word)
    by_body (body.Image q n serial bytes) same word copied = at_key q.0 n.0 copied (image_true w.sent m.sender q n serial bytes word)
    by_body other same word copied = none_some (handle, version) copied

pub copied_versions_were_given : CopiedVersionsWereGiven
copied_versions_were_given config servers clients w r place m at handle version is =
    let g = copied_sent config servers clients w r m (place, at) handle version is in
    clone_given config servers clients (suc (g.1).0) w r (g.1).0 g.0 (omega arith) (g.1).1 handle version g.2

pub ordered_versions_were_given : OrderedVersionsWereGiven
ordered_versions_were_given config servers clients w r server handle version (inl given) = (given.0, given.1, given.2, given.4)
ordered_versions_were_given config servers clients w r server handle version (inr cloned) = clone_given config servers clients (suc cloned.0) w r cloned.0 cloned.1 (omega arith) cloned.2 handle version cloned.4
