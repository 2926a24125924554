-- A disk's layout has the settings' sizes; and steps of which something is seen.
use Rattle.std.proofs.Common.{◌≡◌, ℕ, List, sym, subst}
use Rattle.gfs_types.specs.declared.config.Config.{Config}
use Rattle.messages.specs.declared.event.NodeInput.{NodeInput}
use Rattle.messages.specs.declared.event.StepOut.{StepOut}
use Rattle.store_disk.specs.declared.places.Layout.{Layout}
use Rattle.protocol.specs.Conforms.{ServerSteps}
use Rattle.protocol.specs.Server.{ServerState}
use Rattle.protocol.specs.declared.seen.Seen.{Seen}

-- what holds by the settings' sizes holds by the layout's
pub by_layout : (P : ℕ → ℕ → ℕ → Type 0) (config : Config) (l : Layout) → l.chunk ≡ config.chunk → l.block ≡ config.block → l.slots ≡ config.slots → P config.chunk config.block config.slots → P l.chunk l.block l.slots
by_layout P config l chunk block slots h =
    subst (λ (n : ℕ). P n l.block l.slots) (sym chunk) (subst (λ (n : ℕ). P config.chunk n l.slots) (sym block) (subst (λ (n : ℕ). P config.chunk config.block n) (sym slots) h))

pub by_settings : (P : ℕ → ℕ → ℕ → Type 0) (config : Config) (l : Layout) → l.chunk ≡ config.chunk → l.block ≡ config.block → l.slots ≡ config.slots → P l.chunk l.block l.slots → P config.chunk config.block config.slots
by_settings P config l chunk block slots h =
    subst (λ (n : ℕ). P n config.block config.slots) chunk (subst (λ (n : ℕ). P l.chunk n config.slots) block (subst (λ (n : ℕ). P l.chunk l.block n) slots h))

-- a step, of which something was seen
pub steps_seen : (old new : ServerState) (moment : ℕ) (i j : NodeInput) (out : StepOut) (seen : List Seen) → j ≡ i → ServerSteps old moment j out seen new → (s : List Seen) × ServerSteps old moment i out s new
steps_seen old new moment i j out seen same steps = (seen, subst (λ (x : NodeInput). ServerSteps old moment x out seen new) same steps)
