-- Whether a record gets into the log.
use Rattle.std.specs.Prelude.{Bool, ◌&&◌, ◌||◌, not}
use Rattle.log_records.specs.declared.record.Record.{Record}
use Rattle.protocol.specs.LogSizes.{checkpoint_fits}
use Rattle.protocol.specs.Logged.{checkpoint_of}
use Rattle.protocol.specs.Master.{MasterDoing, fits, is_of_copy, writes_checkpoint, logs}

-- it fits, or fits after a checkpoint that doesn't give up the copy that it is of
abbrev pub was_logged : MasterDoing → Record → Bool
was_logged d r =
    fits d r
    || checkpoint_fits d.master.config.log_bytes (checkpoint_of d.master.logged) && (fits (writes_checkpoint d) r && not (is_of_copy d.master.logged r))

-- the step after it was tried
abbrev pub tried : MasterDoing → Record → MasterDoing
tried d r = logs d r (λ e. e)
