-- What each event keeps of a reached world holds in each reached world.
use Rattle.std.proofs.Common.{◌≡◌, ℕ, List, [], ◌∷◌, ◌++◌, refl, ap, subst, ◌∙◌}
use Rattle.gfs_types.specs.declared.config.Config.{Config}
use Rattle.messages.specs.declared.event.Event.{Event}
use Rattle.protocol.specs.Choice.{Choice}
use Rattle.protocol.specs.World.{WorldState, new_world, happens, after_events, IsReached}
use Rattle.laws_base.proofs.Events.{HoldsAfter, holds_after}

events_append : (w : WorldState) (xs ys : List (Event × Choice)) → after_events w (xs ++ ys) ≡ after_events (after_events w xs) ys
events_append w [] ys = refl
events_append w (x ∷ xs) ys = events_append (happens w x.0 x.1).world xs ys

module _ (config : Config) (servers clients : ℕ) where
  one_more : (w : WorldState) (step : Event × Choice) → IsReached config servers clients w → IsReached config servers clients (happens w step.0 step.1).world
  one_more w step r = (
    r.0 ++ step ∷ [],
    events_append (new_world config servers clients) r.0 (step ∷ []) ∙ ap (λ (v : WorldState). (happens v step.0 step.1).world) r.1,
  )

  module _ (P : WorldState → Type 0) (k : (w : WorldState) → IsReached config servers clients w → P w → HoldsAfter w (λ e x. P x.world)) where
    on_list : (w : WorldState) (steps : List (Event × Choice)) → IsReached config servers clients w → P w → P (after_events w steps)
    on_list w [] r h = h
    on_list w (step ∷ rest) r h = on_list (happens w step.0 step.1).world rest (one_more w step r) (holds_after w (λ e x. P x.world) (k w r h) step.0 step.1)

    pub reached_with : P (new_world config servers clients) → (w : WorldState) → IsReached config servers clients w → P w
    reached_with new w r = subst (λ (v : WorldState). P v) r.1 (on_list (new_world config servers clients) r.0 ([], refl) new)
