-- To which server pushed data are passed on (section 3.2).
use Rattle.std.specs.Prelude.{◌<◌, ◌≤◌, nat_lt, min, List, [], ◌∷◌, filter, Option, Some, None, Contains}
use Rattle.gfs_types.specs.declared.ids.ServerId.{ServerId}

abbrev pub lower_of : ServerId → Option ServerId → ServerId
lower_of s None = s
lower_of s (Some t) = record { 0 = min s.0 t.0 }

-- the server with the lowest number
abbrev pub lowest_of : List ServerId → Option ServerId
lowest_of [] = None
lowest_of (s ∷ ss) = Some (lower_of s (lowest_of ss))

-- the lowest of these servers that is above me
abbrev pub next_hop_of : List ServerId → ServerId → Option ServerId
next_hop_of servers me = lowest_of (filter (λ s. nat_lt me.0 s.0) servers)

-- it is listed, it is above me, and no other listed one above me is lower; None where no listed one is above me
abbrev pub IsNextHop : List ServerId → ServerId → Option ServerId → Type 0
IsNextHop servers me None = (s : ServerId) → Contains servers s → s.0 ≤ me.0
IsNextHop servers me (Some hop) = Contains servers hop × (me.0 < hop.0) × ((s : ServerId) → Contains servers s → me.0 < s.0 → hop.0 ≤ s.0)
