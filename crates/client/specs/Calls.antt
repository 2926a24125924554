-- Calls on an open file that change what is kept of it.
use Rattle.std.specs.Prelude.{ℕ, Option, None}
use Rattle.std.specs.FinMap as table
use Rattle.gfs_types.specs.declared.call.Call.{Call}
use Rattle.gfs_types.specs.declared.answer.Answer.TheVariants as answer
use Rattle.protocol.specs.Client.{ClientDoing, answers}
use Rattle.protocol.specs.ClientFiles.{files_after_close, last_append, with_last_append}
use Rattle.protocol.specs.ClientAttempts.{attempts}
use Rattle.protocol.specs.ClientStep.{new_call}

-- a descriptor of this file is closed
abbrev pub closes : ClientDoing → ℕ → ℕ → ClientDoing
closes d fd file = answers (record d { client = record d.client { descriptors = table.remove d.client.descriptors fd; files = files_after_close d.client.files file } }) answer.Done

-- an append's first attempt; where it succeeds isn't known any more
abbrev pub appends : ClientDoing → Call → ℕ → ClientDoing
appends d c file =
    attempts
    (record d { client = record d.client { files = with_last_append d.client.files file None } })
    (new_call d.client.config.attempts 0 c file 0 (last_append d.client.files file))
