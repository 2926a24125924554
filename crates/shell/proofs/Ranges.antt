-- Settings and counts of a cell that can be made lie in their ranges.
use Rattle.std.proofs.Common.{◌≡◌, Bool, true, false, Option, Some, None}
use Rattle.std.specs.Prelude.{◌&&◌, if◌then◌else◌, IsFalse}
use Rattle.memory_nodes.specs.Starts.{IsStartFault}
use Rattle.memory_nodes.specs.declared.start_fault.StartFault.{StartFault}
use Rattle.memory_nodes.specs.declared.start_fault.StartFault.TheVariants as faults

-- what lets no cell be made, by what was tested
abbrev bad : Bool → Bool → Bool → Option StartFault
bad settings servers clients = if settings then (if servers && clients then None else Some faults.Count) else Some faults.Config

pub never_good : {P : Type 0} (settings servers clients : Bool) → bad settings servers clients ≡ None → IsFalse (settings && servers && clients) → P
never_good true true true good out = absurd (cc)
never_good true true false good out = absurd (cc)
never_good true false clients good out = absurd (cc)
never_good false servers clients good out = absurd (cc)

pub never_of_memory : {P : Type 0} (settings servers clients : Bool) (fault : StartFault) → fault ≡ faults.NoMemory → IsStartFault (bad settings servers clients) fault → IsFalse (settings && servers && clients) → P
never_of_memory true true true fault is starts out = absurd (cc)
never_of_memory true true false fault is starts out = absurd (cc)
never_of_memory true false clients fault is starts out = absurd (cc)
never_of_memory false servers clients fault is starts out = absurd (cc)
