use Rattle.std.proofs.Common.{◌≡◌}
use Rattle.std.specs.Prelude.{find}
use Rattle.std.specs.Option.{option_map}
use Rattle.protocol.specs.Logged.{is_this_file}
use Rattle.master_replay.proofs.expired.first_of_file.Given as goal

-- the first of what is left
abbrev pub invariant-loop-name : goal.invariant-loop-name
invariant-loop-name l =
    option_map (λ e. e.0) (find (λ e. is_this_file l.file.0 e.1) l.name-iterator.rest.items) ≡ option_map (λ e. e.0) (find (λ e. is_this_file l.file.0 e.1) l.fn.names.items)
