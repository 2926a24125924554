-- What takes too long.
use Rattle.std.specs.Prelude.{ℕ, Bool, not, ◌==◌, List, map, filter, is_some}
use Rattle.std.specs.FinMap as table
use Rattle.protocol.specs.Tables.{first_of_list}
use Rattle.protocol.specs.Master.{MasterState, holders_where}
use Rattle.protocol.specs.MasterStep.{is_in_time}

-- the chunks whose version numbers are under way too long
abbrev pub late_attempts : MasterState → List ℕ
late_attempts m = map (λ e. e.0) (filter (λ e. not (is_in_time m e)) (table.entries m.attempts))

-- some server holds exactly this version
abbrev pub is_held : MasterState → ℕ → ℕ → Bool
is_held m handle version = is_some (first_of_list (holders_where m handle (λ v. v == version)))
