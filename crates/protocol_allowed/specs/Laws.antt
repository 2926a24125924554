-- That the machine allows what is computed of it, and the other way.
use Rattle.gfs_types.specs.declared.config.Config.{Config}
use Rattle.relaxed_file.specs.Machine.{Machine}
use Rattle.relaxed_file.specs.Run.{Action, Allows, IsReached}
use Rattle.protocol_invariant.specs.Allowed.{IsAllowed}

-- Each action that the computed form allows is one that the machine allows.
abbrev pub WhatIsComputedIsAllowed : Type 0
WhatIsComputedIsAllowed = (m : Machine) (action : Action) → IsAllowed m action → Allows m action

-- In each state of a run, the computed form allows each action that the machine allows.
abbrev pub WhatIsAllowedIsComputed : Type 0
WhatIsAllowedIsComputed = (config : Config) (m : Machine) (action : Action) → IsReached config m → Allows m action → IsAllowed m action
