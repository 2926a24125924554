-- How the state follows a whole log.
use Rattle.std.specs.Prelude.{ℕ, Bool, true, ◌&&◌, List, [], ◌∷◌, ◌++◌, Option, Some, None}
use Rattle.std.specs.FinMap as table
use Rattle.log_records.specs.declared.record.Record.{Record}
use Rattle.protocol.specs.Logged.{Logged, LogDisk, after_record, after_records, first_logged}
use Rattle.operation_log.specs.Faults.{fault_text as log_text}
use Rattle.master_state.specs.Faults.{fault_text as replay_text}
use Rattle.master_state.specs.Follows.{follows, are_unowned}
use Rattle.master_replay.specs.declared.restart.RestartFault.{RestartFault}
use Rattle.master_replay.specs.declared.restart.RestartFault.TheVariants.{Log, Replay}

-- each record follows what is before it
abbrev pub all_follow : Logged → List Record → Bool
all_follow l [] = true
all_follow l (r ∷ rest) = follows l r && all_follow (after_record l r) rest

-- the state after a record, where there is one
abbrev pub after_some : Logged → Option Record → Logged
after_some l None = l
after_some l (Some r) = after_record l r

abbrev pub some_follows : Logged → Option Record → Bool
some_follows l None = true
some_follows l (Some r) = follows l r

-- A log that masters wrote: each record follows what is before it, and no file owns the chunk of a copy that is under way.
abbrev pub is_lawful : LogDisk → Bool
is_lawful disk =
    let whole : List Record = disk.items ++ disk.records in
    let last : Logged = after_records first_logged whole in
    all_follow first_logged whole && are_unowned last.table (table.keys last.copies)

abbrev pub fault_text : RestartFault → List ℕ
fault_text (Log fault) = log_text fault
fault_text (Replay fault) = replay_text fault
