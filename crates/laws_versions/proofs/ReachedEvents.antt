-- What each event keeps of a world that is reached holds in each world that is reached.
use Rattle.std.proofs.Common.{ℕ, List, [], ◌∷◌, refl, subst}
use Rattle.gfs_types.specs.declared.config.Config.{Config}
use Rattle.messages.specs.declared.event.Event.{Event}
use Rattle.protocol.specs.Choice.{Choice}
use Rattle.protocol.specs.World.{WorldState, new_world, happens, after_events, IsReached}
use Rattle.laws_base.proofs.Events.{HoldsAfter, holds_after}
use Rattle.laws_base.proofs.LeasesStayOver.{reached_later}

module _ (config : Config) (servers clients : ℕ) (Q : WorldState → Type 0) (k : (w : WorldState) → IsReached config servers clients w → Q w → HoldsAfter w (λ e h. Q h.world)) where
  goes_on_reached : (w : WorldState) (steps : List (Event × Choice)) → IsReached config servers clients w → Q w → Q (after_events w steps)
  goes_on_reached w [] r h = h
  goes_on_reached w (step ∷ rest) r h =
      goes_on_reached (happens w step.0 step.1).world rest (reached_later config servers clients w (step ∷ []) r) (holds_after w (λ e x. Q x.world) (k w r h) step.0 step.1)

  pub kept_reached : Q (new_world config servers clients) → (w : WorldState) → IsReached config servers clients w → Q w
  kept_reached new w r = subst (λ (v : WorldState). Q v) r.1 (goes_on_reached (new_world config servers clients) r.0 ([], refl) new)
