-- A copy that begins in a step of the master stands in no file after it: it is under way, or was given up again in the same step. So no round of it is open.
use Rattle.std.proofs.Common.{◌≡◌, ℕ, ◌≤◌, ◌<◌, Bool, List, Some, sym, ap, subst, ◌∙◌, inl, inr, arith}
use Rattle.std.specs.Prelude.{IsTrue}
use Rattle.gfs_types.specs.declared.config.Config.{Config}
use Rattle.gfs_types.specs.declared.ids.Handle.{Handle}
use Rattle.messages.specs.declared.event.NodeInput.{NodeInput}
use Rattle.protocol.specs.Tables.{element_at}
use Rattle.protocol.specs.Sending.{handle_of}
use Rattle.protocol.specs.declared.seen.Seen.{Seen}
use Rattle.protocol.specs.declared.seen.Seen.TheVariants.{CopyStarted}
use Rattle.protocol.specs.Logged.{Logged}
use Rattle.protocol.specs.Master.{MasterDoing}
use Rattle.protocol.specs.MasterStep.{master_goes}
use Rattle.protocol.specs.World.{WorldState, IsReached}
use Rattle.laws_base.proofs.Steps.{none_some}
use Rattle.laws_versions.proofs.CopiesPlaced.{Begun, Fine, goes_fine, handles_in, only, below_reached}
use Rattle.protocol_invariant.specs.Actions.{Spot}
use Rattle.laws_machine.specs.ChunksAlike.{ChunkSides, StandsAt, IsRoundOpen}
use Rattle.laws_machine.specs.MastersEvents.{IsGoneFrom}
use Rattle.headline.specs.BegunCopies.{CopiesBeginNowhere, CopiesBeginWithoutARound}

module _ (config : Config) (servers clients : ℕ) (w : WorldState) (r : IsReached config servers clients w) (up : IsTrue w.master.up) (moment : ℕ) (i : NodeInput) (refused : List Bool) (place : ℕ) (source copy : Handle)
    (shown : element_at (master_goes w.master moment i refused).seen place ≡ Some (CopyStarted source copy))
  where
    abbrev d : MasterDoing
    d = master_goes w.master moment i refused

    begun : Begun w.master.logged.next_handle d.seen d.master.logged d.master.up
    begun = by_step (goes_fine w.master moment refused (below_reached config servers clients w r up) up i)
      where
        by_step : Fine w.master d → Begun w.master.logged.next_handle d.seen d.master.logged d.master.up
        by_step (inl none) = none_some (CopyStarted source copy) (sym (ap (λ (xs : List Seen). element_at xs place) none) ∙ shown)
        by_step (inr copied) = copied

    same : begun.copy ≡ copy.0
    same = ap (λ (x : Seen). (handles_in x).1) (only (CopyStarted (handle_of begun.source) (handle_of begun.copy)) (CopyStarted source copy) place (sym (ap (λ (xs : List Seen). element_at xs place) begun.seen_is) ∙ shown))

    new : w.master.logged.next_handle ≤ copy.0
    new = subst (λ (q : ℕ). w.master.logged.next_handle ≤ q) same begun.new

    nowhere : (s : Spot) → StandsAt d.master.logged.table copy.0 s → ⊥
    nowhere s at = begun.nowhere s.file s.index (subst (λ (q : ℕ). StandsAt d.master.logged.table q s) (sym same) at)

    module _ (k j : ChunkSides) (before : k.log ≡ w.master.logged) (below : (handle : ℕ) (s : Spot) → k.gone handle ≡ Some s → handle < k.log.next_handle) (after : j.log ≡ d.master.logged) (gone : IsGoneFrom k j) where
      no_place : (s : Spot) → StandsAt j.log.table copy.0 s → ⊥
      no_place s at = nowhere s (subst (λ (l : Logged). StandsAt l.table copy.0 s) after at)

      not_gone : (s : Spot) → j.gone copy.0 ≡ Some s → ⊥
      not_gone s was =
          elim (gone copy.0 s was) [
            | inl old ↦ let low = below copy.0 s old in let same_next = ap (λ (l : Logged). l.next_handle) before in let high = new in omega (arith, low, same_next, high)
            | inr stood ↦
                let low = below_reached config servers clients w r up copy.0 s.file s.index (subst (λ (l : Logged). StandsAt l.table copy.0 s) before stood) in
                let high = new in
                omega (arith, low, high)
          ]

      no_round : (version : ℕ) (s : Spot) → IsRoundOpen j copy.0 version s → ⊥
      no_round version s was_open = elim (was_open.place) [ inl at ↦ no_place s at | inr stood ↦ not_gone s stood.0 ]

pub copies_begin_nowhere : CopiesBeginNowhere
copies_begin_nowhere config servers clients w r up moment i refused place source copy shown =
    (new config servers clients w r up moment i refused place source copy shown, nowhere config servers clients w r up moment i refused place source copy shown)

pub copies_begin_without_a_round : CopiesBeginWithoutARound
copies_begin_without_a_round config servers clients w r up moment i refused place source copy shown k j before below after gone = no_round config servers clients w r up moment i refused place source copy shown k j before below after gone
