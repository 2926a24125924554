use Rattle.std.specs.Prelude.{ℕ}

-- the greatest number that a counter takes
abbrev pub counter_limit : ℕ
counter_limit = 4_611_686_018_427_387_903
