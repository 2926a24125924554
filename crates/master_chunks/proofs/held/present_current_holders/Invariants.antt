use Rattle.std.proofs.Common.{◌≡◌, take}
use Rattle.std.specs.List.{filter}
use Rattle.protocol.specs.Master.{is_present}
use Rattle.master_plan.specs.Plans.{known}
use Rattle.master_chunks.proofs.held.present_current_holders.Given as goal

abbrev pub invariant-loop-holder : goal.invariant-loop-holder
invariant-loop-holder g l = l.present ≡ filter (λ h. is_present (known l.plan) h.server) (take l.holder-index l.holder-items)
